-- `pattern::walk::expand` and `expand_item` call each other: what one item finds is added to what was found before. Assumes nothing.
use Rattle.laws.proofs.Prelude.{◌≡◌, sym, ap, List, ℕ, ◌≤◌, ◌<◌, arith, length, slice}
use Rattle.route.specs.Form.{most_legs}
use Rattle.pattern.specs.Read.{Read, read}
use Rattle.pattern.specs.Walk.{past}
use Rattle.pattern.proofs.ItemByItem.{Item, Turn, Going, going_few, going_start, came_up, item_next, repeat_fits, neither_done, leg_done, too_deep, body_broken, repeat_done, told, step_broken, step_on, step_end}
use Rattle.pattern.proofs.walk.+expand_expand_item.Goals as goal

-- what `expand_item` asks is what its walk is given
item : {b : List ℕ} {at end depth n : ℕ} {old : List ℕ} → (at < end) × (end ≤ length b) × (length old ≡ most_legs) × (n ≤ 33) → Item b at end depth n old
item asked = record { within = asked.1; size = asked.2; few = asked.3 }

-- what is known of a turn
turned : {b : List ℕ} {depth at end : ℕ} {whole : Read} {count n : ℕ} {old new : List ℕ} → end ≤ length b → at < end → Going b whole (read depth (slice at end b)) count old n new → Turn b depth at end whole count n old new
turned within some going = record { within = within; some = some; going = going }

pub expand-loop-past-init : goal.expand-loop-past-init
expand-loop-past-init t c = (c.requires.0, c.requires.2, going_start _ _ _ c.args.places.now c.requires.3)

pub expand-expand_item-requires : goal.expand-expand_item-requires
expand-expand_item-requires t c = let inv = c.loop-past.invariant in (omega arith, (c.loop-past-test.true, c.requires.1, inv.1, going_few inv.2))

pub expand-returns-in_err-past : goal.expand-returns-in_err-past
expand-returns-in_err-past t c =
    told (sym c.from_residual.ensures) (step_broken (turned c.requires.1 c.loop-past-test.true c.loop-past.invariant.2) c.in_err-past.ensures.counted)

pub expand-loop-past-smaller : goal.expand-loop-past-smaller
expand-loop-past-smaller t c =
    let next = item_next (turned c.requires.1 c.loop-past-test.true c.loop-past.invariant.2) c.in_ok-past.ensures.counted in
    omega (arith, next.0, c.loop-past-test.true)

pub expand-loop-past-preserved : goal.expand-loop-past-preserved
expand-loop-past-preserved t c =
    let turn = turned c.requires.1 c.loop-past-test.true c.loop-past.invariant.2 in
    ((item_next turn c.in_ok-past.ensures.counted).1, omega arith, step_on turn c.in_ok-past.ensures)

pub expand-returns : goal.expand-returns
expand-returns t c =
    let w = c.loop-past.past in let e : c.args.end ≡ w.next = omega (arith, c.loop-past.invariant.0) in
    told (ap (λ (x : ℕ). past x w.legs) e) (step_end c.args.b.now c.args.depth w.next c.args.end c.requires.1 c.loop-past.invariant.2 c.loop-past-test.false)

pub expand_item-returns-in-None : goal.expand_item-returns-in-None
expand_item-returns-in-None t c = neither_done (item c.requires) c.in-None.ensures

pub expand_item-returns-then-depth-eq0 : goal.expand_item-returns-then-depth-eq0
expand_item-returns-then-depth-eq0 t c = too_deep (item c.requires) (rw c.in-Some-Repeat.field-0-is at c.in-Some-Repeat.ensures) c.if-depth-eq0.true

pub expand_item-overflow_add-at-in-Some-Repeat-3 : goal.expand_item-overflow_add-at-in-Some-Repeat-3
expand_item-overflow_add-at-in-Some-Repeat-3 t c =
    let fits = repeat_fits (item {depth = c.args.depth} c.requires) (rw c.in-Some-Repeat.field-0-is at c.in-Some-Repeat.ensures) in
    omega (arith, fits.2)

pub expand_item-expand-requires : goal.expand_item-expand-requires
expand_item-expand-requires t c =
    let fits = repeat_fits (item {depth = c.args.depth} c.requires) (rw c.in-Some-Repeat.field-0-is at c.in-Some-Repeat.ensures) in
    (omega arith, (omega arith, omega (arith, fits.2), c.requires.2, c.requires.3))

pub expand_item-put_rounds-requires : goal.expand_item-put_rounds-requires
expand_item-put_rounds-requires t c =
    let fits = repeat_fits (item {depth = c.args.depth} c.requires) (rw c.in-Some-Repeat.field-0-is at c.in-Some-Repeat.ensures) in
    let up = came_up _ _ _ c.requires.3 c.in_ok-body-in-Some-Repeat.ensures.counted in
    (omega arith, up.0, up.1, fits.0, fits.1)

pub expand_item-returns-in-Some-Leg : goal.expand_item-returns-in-Some-Leg
expand_item-returns-in-Some-Leg t c = leg_done (item c.requires) (rw c.in-Some-Leg.field-0-is at c.in-Some-Leg.ensures) c.put_place.ensures

pub expand_item-returns-in_err-body-in-Some-Repeat : goal.expand_item-returns-in_err-body-in-Some-Repeat
expand_item-returns-in_err-body-in-Some-Repeat t c =
    told (sym c.from_residual.ensures)
    (body_broken (item c.requires) (rw c.in-Some-Repeat.field-0-is at c.in-Some-Repeat.ensures) c.if-depth-eq0.false c.in_err-body-in-Some-Repeat.ensures.counted)

pub expand_item-returns-in_ok-body-in-Some-Repeat : goal.expand_item-returns-in_ok-body-in-Some-Repeat
expand_item-returns-in_ok-body-in-Some-Repeat t c =
    repeat_done (item c.requires) (rw c.in-Some-Repeat.field-0-is at c.in-Some-Repeat.ensures) c.if-depth-eq0.false c.in_ok-body-in-Some-Repeat.ensures c.put_rounds.ensures
