-- `pattern::walk::put_rounds`: up to place i the buffer holds the rounds. Assumes nothing.
use Rattle.laws.proofs.Prelude.{◌≡◌, ◌∙◌, ℕ, ◌-◌, ◌*◌, ◌≤◌, ◌<◌, mul-le-mul, arith}
use Rattle.pattern.specs.Walk.{capped}
use Rattle.pattern.proofs.Rounds.{capped_below, rounds_start, rounds_on, rounds_end}
use Rattle.pattern.proofs.walk.put_rounds.Goals as goal

too_many : (n : ℕ) {r : ℕ} → n ≤ 32 → (r ≡ capped n) × (32 < r) → ⊥
too_many n h e = let f = capped_below n (omega arith) in omega (arith, f, e.0, e.1)

product : (n from to : ℕ) → n ≤ 9 → to ≤ 33 → n * (to - from) ≤ 297
product n from to h k = mul-le-mul h (le to from k)
  where
    le : (to from : ℕ) → to ≤ 33 → to - from ≤ 33
    le to from k = omega arith

pub returns-then-end-gt-MOST_LEGS : goal.returns-then-end-gt-MOST_LEGS
returns-then-end-gt-MOST_LEGS c =
    let e = c.at_most_33-end.ensures in
    record { counted = e; put = λ h. absurd (too_many _ h (e, c.if-end-gt-MOST_LEGS.true)) }

pub loop-i-init : goal.loop-i-init
loop-i-init c = let pre = c.requires in rounds_start _ _ _ _ pre.0 pre.3 pre.1 c.at_most_33-end.ensures c.if-end-gt-MOST_LEGS.false

pub loop-i-preserved : goal.loop-i-preserved
loop-i-preserved c =
    let pre = c.requires in
    rw c.loop-i.invariant (rounds_on _ _ _ _ pre.0 pre.3 pre.1 c.at_most_33-end.ensures c.if-end-gt-MOST_LEGS.false _ c.loop-i.auto.i c.loop-i-test.true)

pub returns : goal.returns
returns c =
    let pre = c.requires in let e = c.at_most_33-end.ensures in
    record { counted = e; put = λ _. c.loop-i.invariant ∙ rounds_end _ _ _ _ pre.0 pre.3 pre.1 e c.if-end-gt-MOST_LEGS.false _ c.loop-i-test.false }
