-- The walk: counts up to 33, rounds, and one turn after another. Assumes nothing.
use Rattle.laws.proofs.Prelude.{◌≡◌, sym, ap, ◌∙◌, inl, inr, List, ℕ, zero, suc, ◌+◌, ◌-◌, ◌*◌, ◌≤◌, ◌<◌, mul-zero, arith, lt-ltb, le-ltb, length, get_or, set, take, sets, slice, length-slice}
use Rattle.laws.proofs.Prelude.{length-take-le, get_or-take, take_all, le_or_lt}
use Rattle.words.proofs.Written.{one_more}
use Rattle.pattern.specs.{Tree.times, Walk.capped}
use Rattle.pattern.proofs.Runs.{length_times, round_before, run_get, own_run, first_round, at_least}

-- ---- counts up to 33

pub capped_below : (n : ℕ) → n ≤ 33 → capped n ≡ n
unfolding capped
capped_below n h = elim (le_or_lt n 32) [ inl l ↦ rw (le-ltb 32 n l) | inr l ↦ let e : n ≡ 33 = omega arith in rw e ]

pub capped_full : (n : ℕ) → 33 ≤ n → capped n ≡ 33
unfolding capped
capped_full n h = rw (lt-ltb 32 n (omega arith))

pub capped_at_most : (n : ℕ) → capped n ≤ 33
capped_at_most n = elim (le_or_lt n 33) [ inl l ↦ omega (arith, capped_below n l) | inr l ↦ omega (arith, capped_full n (omega arith)) ]

pub capped_least : (n : ℕ) → capped n ≤ n
capped_least n = elim (le_or_lt n 33) [ inl l ↦ omega (arith, capped_below n l) | inr l ↦ omega (arith, capped_full n (omega arith)) ]

-- a count that is not above 32 is the number itself
pub counted : (n : ℕ) → capped n ≤ 32 → capped n ≡ n
counted n h = elim (le_or_lt n 33) [ inl l ↦ capped_below n l | inr l ↦ absurd (omega (arith, capped_full n (omega arith))) ]

pub capped_add : (a b : ℕ) → capped (capped a + b) ≡ capped (a + b)
capped_add a b = elim (le_or_lt a 33) [
  | inl l ↦ rw (capped_below a l)
  | inr l ↦ rw (capped_full a (omega arith)) (capped_full (33 + b) (omega arith) ∙ sym (capped_full (a + b) (omega arith)))
]

pub capped_up : (n m : ℕ) → n ≤ 33 → n ≤ capped (n + m)
capped_up n m h = elim (le_or_lt (n + m) 33) [ inl l ↦ omega (arith, capped_below (n + m) l) | inr l ↦ omega (arith, capped_full (n + m) (omega arith)) ]

-- rounds of what was counted up to 33
pub capped_rounds : (n c l m : ℕ) → 1 ≤ n → c ≤ 33 → m ≡ capped (c + l) → capped (c + n * (m - c)) ≡ capped (c + n * l)
capped_rounds n c l m h k e = elim (le_or_lt (c + l) 33) [
  | inl b ↦ let f : m - c ≡ l = omega (arith, capped_below (c + l) b) in rw f
  | inr b ↦
      let f : m ≡ 33 = e ∙ capped_full (c + l) (omega arith) in
      rw f (capped_full (c + n * (33 - c)) (omega (arith, at_least n (33 - c) h)) ∙ sym (capped_full (c + n * l) (omega (arith, at_least n l h))))
]

-- ---- the copies for the other rounds

module _ (old : List ℕ) (from to n : ℕ) (size : length old ≡ 32) (some : 1 ≤ n) (up : from ≤ to) {end : ℕ} (e : end ≡ capped (from + n * (to - from))) (few : end ≤ 32) where
  whole_end : end ≡ from + n * (to - from)
  whole_end = e ∙ counted (from + n * (to - from)) (omega arith)

  reach : to - from ≤ n * (to - from)
  reach = at_least n (to - from) some

  pub to_end : to ≤ end
  to_end = omega (arith, whole_end, reach)

  abbrev body : List ℕ
  body = slice from to old

  abbrev all : List ℕ
  all = times n body

  body_length : length body ≡ to - from
  body_length = length-slice from to old (omega (arith, to_end))

  all_length : length all ≡ n * (to - from)
  all_length = length_times n body ∙ ap (λ (k : ℕ). n * k) body_length

  pub rounds_start : old ≡ sets old from (take (to - from) all)
  rounds_start =
      sym (ap (λ (k : ℕ). sets old from (take k all)) (sym body_length) ∙ ap (sets old from) (first_round n body some) ∙ own_run old from to up (omega (arith, to_end)))

  round_step : (m : ℕ) → to - from ≤ m → m < n * (to - from)
      → set (sets old from (take m all)) (from + m) (get_or (sets old from (take m all)) (from + (m - (to - from))) 0) ≡ sets old from (take (m + 1) all)
  round_step m h k =
      let legs = to - from in
      let l : length (take m all) ≡ m = length-take-le m all (omega (arith, all_length)) in
      let one : 1 ≤ legs = positive n legs (omega arith) in
      let back : length body + (m - legs) ≡ m = omega (arith, body_length) in
      let read : get_or (sets old from (take m all)) (from + (m - legs)) 0 ≡ get_or all m 0 =
      run_get old from (take m all) (m - legs) (omega (arith, whole_end)) (omega arith)
      ∙ get_or-take m all (m - legs) 0 (omega arith)
      ∙ sym (round_before n body (m - legs) (omega (arith, back, all_length, length_times n body)))
      ∙ ap (λ (i : ℕ). get_or all i 0) back in
      ap (set (sets old from (take m all)) (from + m)) read ∙ one_more old from all m (omega (arith, all_length))
    where
      positive : (n m : ℕ) → 1 ≤ n * m → 1 ≤ m
      positive n zero h = absurd (omega (arith, h, mul-zero n))
      positive n (suc m) h = omega arith

  pub rounds_on : (i : ℕ) → to ≤ i → i < end
      → set (sets old from (take (i - from) all)) i (get_or (sets old from (take (i - from) all)) (i - (to - from)) 0) ≡ sets old from (take (i + 1 - from) all)
  rounds_on i h k =
      let m = i - from in let e1 : from + m ≡ i = omega arith in
      let e2 : from + (m - (to - from)) ≡ i - (to - from) = omega arith in
      let e3 : m + 1 ≡ i + 1 - from = omega arith in let now = sets old from (take m all) in
      ap (λ (j : ℕ). set now j (get_or now (i - (to - from)) 0)) (sym e1)
      ∙ ap (λ (j : ℕ). set now (from + m) (get_or now j 0)) (sym e2)
      ∙ round_step m (omega arith) (omega (arith, whole_end))
      ∙ ap (λ (j : ℕ). sets old from (take j all)) e3

  pub rounds_end : (i : ℕ) → end ≤ i → sets old from (take (i - from) all) ≡ sets old from all
  rounds_end i h = ap (sets old from) (take_all (i - from) all (omega (arith, whole_end, all_length)))
