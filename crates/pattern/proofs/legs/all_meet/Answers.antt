-- `pattern::legs::all_meet`: the joins of the places that are left decide, as all of them do. Assumes nothing.
use Rattle.laws.proofs.Prelude.{ℕ, ◌≡◌, ◌≤◌, sym, ap, ◌∙◌, List, length, take, arith}
use Rattle.pattern.proofs.Found.{leg_length, joins, pair_fits, places_after, meets_next, meet_ends}
use Rattle.pattern.proofs.legs.all_meet.Goals as goal

first_two : {n : ℕ} (rest : List ℕ) {pair : List ℕ} → n ≡ 2 → n ≤ length rest → pair ≡ take n rest → (2 ≤ length rest) × (pair ≡ take 2 rest)
first_two rest e h p = (omega arith, p ∙ ap (λ (k : ℕ). take k rest) e)

pub legs_meet-requires : goal.legs_meet-requires
legs_meet-requires c =
    let s = c.in-Some.ensures.steps.1 in let inv = c.loop-pair.invariant in
    let two = first_two _ inv.size s.0 s.1 in let fits = pair_fits _ _ inv.fits two.0 two.1 in
    (omega (arith, ap length c.leg_in-earlier.ensures, leg_length _ _ fits.0), omega (arith, ap length c.leg_in-later.ensures, leg_length _ _ fits.1))

pub returns-then-not-legs_meet : goal.returns-then-not-legs_meet
returns-then-not-legs_meet c =
    let s = c.in-Some.ensures.steps.1 in let inv = c.loop-pair.invariant in
    let two = first_two _ inv.size s.0 s.1 in
    let apart = joins c.leg_in-earlier.ensures c.leg_in-later.ensures c.legs_meet.ensures ∙ c.if-not-legs_meet.true in
    sym (meets_next _ _ two.0 two.1 ∙ rw apart) ∙ inv.meet

pub loop-pair-preserved : goal.loop-pair-preserved
loop-pair-preserved c =
    let s = c.in-Some.ensures.steps.1 in let inv = c.loop-pair.invariant in
    let two = first_two _ inv.size s.0 s.1 in
    let meet = joins c.leg_in-earlier.ensures c.leg_in-later.ensures c.legs_meet.ensures ∙ c.if-not-legs_meet.false in
    record {
      size = c.in-Some.ensures.steps.0 ∙ inv.size;
      fits = rw s.2 (places_after _ _ inv.fits);
      meet = rw s.2 (sym (meets_next _ _ two.0 two.1 ∙ rw meet) ∙ inv.meet);
    }

pub returns : goal.returns
returns c = let inv = c.loop-pair.invariant in sym (meet_ends _ _ (omega (arith, c.in-None.ensures.steps.1.0, inv.size))) ∙ inv.meet
