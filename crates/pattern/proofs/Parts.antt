-- Parts of bytes: a part of a part is one, and its bytes are those of the whole. Assumes nothing.
use Rattle.laws.proofs.Prelude.{◌≡◌, sym, ap, ◌∙◌, List, [], ◌∷◌, ℕ, zero, suc, ◌+◌, ◌≤◌, ◌<◌, zero-add, get_or, take, drop, slice, take-take, get_or-take, get_or-drop}
use native.Mathlib.Nat.{suc-add}
use lib.Seq.{take-nil, drop-drop}

pub take_drop : {A : Type 0} (m n : ℕ) (l : List A) → take n (drop m l) ≡ drop m (take (m + n) l)
take_drop zero n l = ap (λ (k : ℕ). take k l) (sym (zero-add n))
take_drop (suc m) n [] = take-nil n ∙ sym (ap (drop (suc m)) (take-nil (suc m + n)))
take_drop (suc m) n (x ∷ l) = take_drop m n l ∙ sym (ap (λ (k : ℕ). drop (suc m) (take k (x ∷ l))) (suc-add m n))

module _ (b : List ℕ) (at end : ℕ) where
  pub part_get : (i : ℕ) → at + i < end → get_or (slice at end b) i 0 ≡ get_or b (at + i) 0
  part_get i h = get_or-drop at (take end b) i 0 ∙ get_or-take end b (at + i) 0 h

  pub part_from : (k : ℕ) → drop k (slice at end b) ≡ slice (at + k) end b
  part_from k = drop-drop k at (take end b)

  pub part_within : (k n : ℕ) → at + k + n ≤ end → take n (drop k (slice at end b)) ≡ slice (at + k) (at + k + n) b
  part_within k n h = ap (take n) (part_from k) ∙ take_drop (at + k) n (take end b) ∙ ap (drop (at + k)) (take-take (at + k + n) end b h)

  pub part_of_whole : (k n : ℕ) → at + k + n ≤ end → take n (drop k (slice at end b)) ≡ take n (drop (at + k) b)
  part_of_whole k n h = part_within k n h ∙ sym (take_drop (at + k) n b)
