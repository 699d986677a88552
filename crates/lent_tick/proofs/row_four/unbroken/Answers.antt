-- `lent_tick::row_four::unbroken`: the row's clauses, judged in another order. Assumes nothing.
use Rattle.std.proofs.Common.{rules}
use Rattle.laws.proofs.Prelude.{◌≡◌, refl, ◌∙◌, Bool, true, false, ◌&&◌, ◌||◌, and-false, eqb, List, ℕ, Float, lt, le}
use mathlib.Core.Bool.{and-true}
use Rattle.relay_math.specs.F32.{0·0, finite_above}
use Rattle.words.specs.Words.{word, float}
use Rattle.relay_traj.specs.declared.segment.Segment3.{Segment3}
use Rattle.joint_tick.specs.Profile.{is_profile}
use Rattle.image.specs.{Layout.{COUNT, ENGAGED, GOVERNOR, PROFILE, image_words}, Image.fixed_at}
use Rattle.lent_tick.specs.{Unbroken.{all_last, peaks_stand, unbroken}, Inner.ReadOf}
use Rattle.lent_tick.proofs.row_four.unbroken.Goals as goal

abbrev judged : List ℕ → Segment3 → Float → Float → Bool
judged b segment enter exit =
    eqb (word b COUNT) image_words && is_profile (word b PROFILE) && peaks_stand b && (eqb (word b ENGAGED) 0 || eqb (word b ENGAGED) 1)
    && (finite_above 0·0 enter && lt enter exit && le 0·0 (float b GOVERNOR) && all_last segment)

in_any_order : (count enter exit flag time last profile peaks : Bool)
    → (count && profile && peaks && flag && (enter && exit && time && last)) ≡ (count && enter && exit && flag && time && last && profile && peaks)
in_any_order false enter exit flag time last profile peaks = refl
in_any_order true enter exit flag time last false peaks = simp and-false
in_any_order true enter exit flag time last true false = simp and-false
in_any_order true enter exit false time last true true = simp and-false
in_any_order true enter exit true time last true true = simp and-true

by_the_row : (b : List ℕ) {segment : Segment3} {enter exit : Float} → ReadOf segment enter exit (fixed_at b) → judged b segment enter exit ≡ unbroken b
unfolding unbroken fixed_at
by_the_row b p =
    let f = fixed_at b in
    rw (p.0, p.1, p.2) (in_any_order (eqb (word b COUNT) image_words) (finite_above 0·0 f.enter) (lt f.enter f.exit) (eqb (word b ENGAGED) 0 || eqb (word b ENGAGED) 1)
    (le 0·0 (float b GOVERNOR)) (all_last f.segment) (is_profile (word b PROFILE)) (peaks_stand b))

pub returns-then-is_flag : goal.returns-then-is_flag
returns-then-is_flag c =
    let e : c.numbers_stand.result ≡ judged c.args.image.now c.args.segment c.args.enter c.args.exit = search rules in
    e ∙ by_the_row c.args.image.now c.requires.fact_2

pub returns-else-is_flag : goal.returns-else-is_flag
returns-else-is_flag c =
    let e : c.if-peaks_stand.value ≡ judged c.args.image.now c.args.segment c.args.enter c.args.exit = search rules in
    e ∙ by_the_row c.args.image.now c.requires.fact_2
