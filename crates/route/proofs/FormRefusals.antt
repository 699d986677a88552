-- What a route tick is refused for, and what a route of the right form has. Assumes nothing.
use Rattle.laws.proofs.Prelude.{◌≡◌, sym, ◌∙◌, false, cond, List, ℕ, ◌+◌, ◌*◌, ◌≤◌, ◌<◌, arith, ltb-false, eqb-false, eq-eqb, length}
use Rattle.std.specs.Prelude.{Ok}
use Rattle.outcome.{specs.{Outcomes.{Outcome, Done, is_done, left, lent}}, proofs.Tables.{done_none, in_turn, same, refused_keeps, accepted}}
use Rattle.image.specs.Layout.{leg_bytes}
use Rattle.lent_tick.specs.{Tick.{tick_table, tick_refusal, tick_from}}
use Rattle.route.specs.{Form.{most_legs, route_trailer_bytes, leg_count, form_table, form_refusal}, Entry.{sample_byte_count, route_refusal, route_call, sample_refusal}}

-- a tick's rows, then the route's own
pub in_their_turn : (image : List ℕ) (inputLen answerLen : ℕ) (route : List ℕ)
    → let t = tick_refusal image inputLen answerLen in route_refusal image inputLen answerLen route ≡ cond (is_done t) (form_refusal route) t
unfolding route_refusal tick_refusal form_refusal
in_their_turn image inputLen answerLen route = in_turn (tick_table image inputLen answerLen) (form_table route)

-- ---- a refused call changes no byte

pub refused_changes_nothing : (image input route answer : List ℕ) → let o = route_refusal image (length input) (length answer) route in
    is_done o ≡ false → route_call image input route answer ≡ left o (lent image answer)
unfolding route_call tick_from
refused_changes_nothing image input route answer e = refused_keeps (route_refusal image (length input) (length answer) route) _ _ e

-- ---- by the route's form

pub record Formed (route : List ℕ) : Type 0 where
  pub trailer : route_trailer_bytes ≤ length route
  pub some : 0 < leg_count route
  pub few : leg_count route ≤ most_legs
  pub whole : leg_bytes * leg_count route ≤ length route

-- a function was asked for the form, and said f
module _ (route : List ℕ) {f : Outcome} (e : f ≡ form_refusal route) where
  pub formed : {u : Unit} → f ≡ Ok u → Formed route
  unfolding form_refusal
  formed n =
      let r = done_none (form_table route) (accepted e n) in
      let count = leg_count route in
      record {
        trailer = ltb-false (length route) route_trailer_bytes (r 0);
        some = pos count (eqb-false count 0 (r 1));
        few = ltb-false most_legs count (r 2);
        whole = omega (arith, same (length route) (leg_bytes * count + route_trailer_bytes) (r 4));
      }
    where
      pos : (n : ℕ) → (n ≡ 0 → ⊥) → 0 < n
      pos n h = omega (arith, h)

  -- where a tick is taken, the form decides
  pub form_decides : (image : List ℕ) (inputLen answerLen : ℕ) → Done ≡ tick_refusal image inputLen answerLen → f ≡ route_refusal image inputLen answerLen route
  form_decides image inputLen answerLen h = e ∙ sym (in_their_turn image inputLen answerLen route ∙ rw (sym h))

  -- so where a sample's length is right
  pub form_decides_sample : (n : ℕ) → n ≡ sample_byte_count → f ≡ sample_refusal route n
  unfolding sample_refusal form_refusal
  form_decides_sample n h = e ∙ rw (eq-eqb n sample_byte_count h)
