-- Words in bytes: u32, the least byte first, and floats as their bits. Definitions only.
use Rattle.std.specs.Prelude.{◌≡◌, Bool, cond, List, [], ◌∷◌, ℕ, zero, suc, ◌+◌, ◌*◌, ◌/◌, ◌%◌, get_or, T, Float}
use Rattle.std.proofs.lemmas.List.Edits.{sets}
use Rattle.std.specs.Float.{binary32}
use Rattle.std.specs.Float.Ieee.{fits, of_bits, to_bits}
use Rattle.relay_math.specs.declared.Vec3.{Vec3}

-- the word whose first byte is number i of the bytes b
abbrev pub four_bytes : List ℕ → ℕ → ℕ
four_bytes b i = get_or b i 0 + get_or b (i + 1) 0 * 256 + get_or b (i + 2) 0 * 65536 + get_or b (i + 3) 0 * 16777216

-- word number k
unfoldable pub word : List ℕ → ℕ → ℕ
word b k = four_bytes b (4 * k)

-- the float of a word: every NaN pattern is the one NaN
abbrev pub float_of : ℕ → Float
float_of w = of_bits binary32 w

unfoldable pub float : List ℕ → ℕ → Float
float b k = float_of (word b k)

unfoldable pub vec : List ℕ → ℕ → Vec3
vec b k = (float b k, float b (k + 1), float b (k + 2))

-- the word of a float: of the NaN it is 0x7fc0_0000
abbrev pub bits : Float → ℕ
bits x = to_bits binary32 x

-- what is left of a word that was read as a float and is written again: itself, and 0x7fc0_0000 of every NaN pattern
abbrev pub canon : ℕ → ℕ
canon w = bits (float_of w)

-- the word of a yes or no
abbrev pub flag : Bool → ℕ
flag b = cond b 1 0

-- the words of floats
abbrev pub words_of : List Float → List ℕ
words_of [] = []
words_of (x ∷ xs) = bits x ∷ words_of xs

abbrev pub floats_of_vec : Vec3 → List Float
floats_of_vec v = v.0 ∷ v.1 ∷ v.2 ∷ []

-- the bytes of words
abbrev pub bytes_of : List ℕ → List ℕ
bytes_of [] = []
bytes_of (w ∷ ws) = w % 256 ∷ w / 256 % 256 ∷ w / 65536 % 256 ∷ w / 16777216 % 256 ∷ bytes_of ws

-- t is b with the words ws written over it from word k on
pub record Put (b : List ℕ) (k : ℕ) (ws t : List ℕ) : Type 0 where
  pub is : t ≡ sets b (4 * k) (bytes_of ws)

-- ---- what the theorems in proofs/ speak of

-- every float of a list is an f32's value
abbrev pub AllFit : List Float → Type 0
AllFit [] = Unit
AllFit (x ∷ xs) = T (fits binary32 x) × AllFit xs

-- b is the bytes of the words ws
pub record Holds (b ws : List ℕ) : Type 0 where
  pub is : b ≡ bytes_of ws

-- n words from number k on, each read as a float and written again
abbrev pub canons : List ℕ → ℕ → ℕ → List ℕ
canons b k zero = []
canons b k (suc n) = canon (word b k) ∷ canons b (suc k) n
