-- The call on lent bytes: margins as words, flags a byte each. Definitions only.
use Rattle.std.specs.Prelude.{ℕ, zero, suc, ◌*◌, ◌/◌, List, [], ◌∷◌, map, ltb, Float, length}
use Rattle.words.specs.Words.{float, flag}
use Rattle.relay_geo.specs.Shield.{mend_thresholds}
use Rattle.outcome.specs.declared.Refusal.TheVariants.{NoRoom}
use Rattle.outcome.specs.Outcomes.{Table, first_of, differs, left_unless, Filled}
use Rattle.slow_shield.specs.Back.{slow_flags}

abbrev pub most_margins : ℕ
most_margins = 65535

-- n margins from word k on, and those of all the bytes
unfoldable pub margins_from : List ℕ → ℕ → ℕ → List Float
unfolding float
margins_from b k zero = []
margins_from b k (suc n) = float b k ∷ margins_from b (suc k) n

abbrev pub margins_in : List ℕ → List Float
margins_in b = margins_from b 0 (length b / 4)

-- "enter and exit (mended as at set-up)", "the flags, a byte each": 1 the fallback, 0 the planner, as in a tick's answer
unfoldable pub flag_bytes : Float → Float → List ℕ → List ℕ
unfolding mend_thresholds margins_from
flag_bytes enter exit margins =
    let t = mend_thresholds enter exit in
    map flag (slow_flags t.enter t.exit (margins_in margins))

-- "9 if the flag buffer's length differs from the list's or the list is longer than 65,535; no flag is then written"
abbrev pub flags_table : ℕ → ℕ → Table
flags_table marginsLen flagsLen = (ltb most_margins flagsLen, NoRoom) ∷ (differs marginsLen (4 * flagsLen), NoRoom) ∷ []

unfoldable pub flags_call : List ℕ → Float → Float → List ℕ → Filled
unfolding flag_bytes
flags_call margins enter exit flags = left_unless (first_of (flags_table (length margins) (length flags))) (flag_bytes enter exit margins) flags
