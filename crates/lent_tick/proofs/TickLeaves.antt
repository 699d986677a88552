-- What a tick that is not refused has, and what a tick from any source of references leaves by what its stages gave. Assumes nothing.
use Rattle.laws.proofs.Prelude.{◌≡◌, refl, sym, ap, subst, ◌∙◌, Bool, cond, true, false, not, List, [], ◌∷◌, ℕ, Float, length, not-false, eq-eqb, no}
use Rattle.relay_adrc.specs.{declared.rate.AdrcRate.AdrcRate, Biquad.{biquad_filter, gyro_filter}}
use Rattle.relay_traj.specs.{declared.segment.Segment3.Segment3, Governor.advance}
use Rattle.joint_tick.specs.{declared.{state.{Fixed.Fixed, TickInput.TickInput}, stages.{Prepared.Prepared, Reference.Reference, Ticked.Ticked}}, Tick.{prepare, guide_pick_follow, ticked, state_after}}
use Rattle.joint_tick.proofs.TickKeeps.{tick_keeps}
use Rattle.std.specs.Prelude.{Ok, Err, Result}
use Rattle.outcome.{specs.{declared.Refusal.{Refusal, TheVariants.BrokenImage}, Outcomes.{Outcome, Done, is_done, first_of, left, lent, Called}}, proofs.Tables.{done_none, in_turn, same, accepted, refused_keeps}}
use Rattle.image.specs.{Layout.{image_bytes, input_bytes, answer_bytes}, Image.{fixed_at, moving_at, state_at}, Inner.{over_axis, OwnWords, Unmoved}, Inputs.input_at}
use Rattle.lent_tick.specs.{Unbroken.{unbroken, Unbroken}, Tick.{tick_table, lengths_table, time_at, tick_refusal, tick_from}, Inner.{ReadOf, left_moving, Leaves, given_unless, toward, Toward}}
use Rattle.lent_tick.proofs.RowFour.{own_words}

-- an image of which a function, asked whether it is unbroken, said b
pub is_unbroken : {image : List ℕ} {b : Bool} → length image ≡ image_bytes → b ≡ unbroken image → b ≡ true → Unbroken image
is_unbroken {image} {b} l e n = record { whole = l; row_four_lem = sym e ∙ n }

-- a tick of right lengths is done exactly if its image is unbroken
pub unbroken_taken : (image : List ℕ) (inputLen answerLen : ℕ) → Unbroken image → inputLen ≡ input_bytes → answerLen ≡ answer_bytes → Done ≡ tick_refusal image inputLen answerLen
unfolding tick_refusal
unbroken_taken image inputLen answerLen u i a = rw (eq-eqb (length image) image_bytes u.whole, eq-eqb inputLen input_bytes i, eq-eqb answerLen answer_bytes a, u.row_four_lem)

pub taken_unbroken : (image : List ℕ) (inputLen answerLen : ℕ) → is_done (tick_refusal image inputLen answerLen) ≡ true → Unbroken image × (inputLen ≡ input_bytes) × (answerLen ≡ answer_bytes)
unfolding tick_refusal
taken_unbroken image inputLen answerLen e =
    let t = done_none (tick_table image inputLen answerLen) e in
    (record { whole = same (length image) image_bytes (t 0); row_four_lem = not-false (unbroken image) (t 3) }, same inputLen input_bytes (t 1), same answerLen answer_bytes (t 2))

-- ---- rows 1 to 3 were asked, and said o

module _ (image : List ℕ) (inputLen answerLen : ℕ) {o : Outcome} (e : o ≡ first_of (lengths_table (length image) inputLen answerLen)) where
  pub wrong_length : {x : Refusal} → o ≡ Err x → tick_refusal image inputLen answerLen ≡ Err x
  unfolding tick_refusal
  wrong_length n = in_turn (lengths_table (length image) inputLen answerLen) ((not (unbroken image), BrokenImage) ∷ []) ∙ rw (← e, n)

  pub lengths : {u : Unit} → o ≡ Ok u → (length image ≡ image_bytes) × (inputLen ≡ input_bytes) × (answerLen ≡ answer_bytes)
  lengths n =
      let t = done_none (lengths_table (length image) inputLen answerLen) (accepted e n) in
      (same (length image) image_bytes (t 0), same inputLen input_bytes (t 1), same answerLen answer_bytes (t 2))

  -- then row 4 was, and said b
  pub row_four_broken : {u : Unit} → o ≡ Ok u → {b : Bool} → b ≡ unbroken image → b ≡ false → tick_refusal image inputLen answerLen ≡ Err BrokenImage
  unfolding tick_refusal
  row_four_broken n d f = in_turn (lengths_table (length image) inputLen answerLen) ((not (unbroken image), BrokenImage) ∷ []) ∙ rw (← e, n, ← d, f)

-- ---- what a tick leaves, whatever its source gives

module _ (Gives : Result Reference Refusal → Type 0) (image input answer : List ℕ) where
  pub turned_away : {x : Refusal} → tick_refusal image (length input) (length answer) ≡ Err x → Toward Gives image input answer (left (Err x) (lent image answer))
  turned_away k = record { refused = λ d. rw k; taken = λ d. no (sym (ap is_done k) ∙ d) }

  pub goes : tick_refusal image (length input) (length answer) ≡ Done → {l : Called} (wanted : Result Reference Refusal) → Gives wanted
      → l ≡ toward wanted image input answer → Toward Gives image input answer l
  goes k wanted g e = record { refused = λ d. no (sym d ∙ ap is_done k); taken = λ d. (wanted, g, e) }

  -- so of a source that may refuse for `own`, after the base's reasons
  pub ticked_by : (source : Float → Reference) (own : Outcome) {l : Called} → Toward Gives image input answer l
      → ((wanted : Result Reference Refusal) → Gives wanted → wanted ≡ given_unless own (source (time_at image input)))
      → let t = tick_refusal image (length input) (length answer) in l ≡ tick_from source (cond (is_done t) own t) image input answer
  unfolding tick_from ticked
  ticked_by source own {l} w s = go (is_done (tick_refusal image (length input) (length answer))) refl own s
    where
      go : (b : Bool) → is_done (tick_refusal image (length input) (length answer)) ≡ b → (own : Outcome)
          → ((wanted : Result Reference Refusal) → Gives wanted → wanted ≡ given_unless own (source (time_at image input)))
          → let t = tick_refusal image (length input) (length answer) in l ≡ tick_from source (cond (is_done t) own t) image input answer
      go false d own s = rw (d) (w.refused d ∙ sym (refused_keeps (tick_refusal image (length input) (length answer)) _ _ d))
      go true d (Ok u) s = let (x, g, e) = w.taken d in rw d (e ∙ rw (s x g))
      go true d (Err r) s = let (x, g, e) = w.taken d in rw d (e ∙ rw (s x g))

-- where a source is asked, by what was read and prepared
pub asked_there : (image input : List ℕ) {f : Fixed} {given : TickInput} {q : Prepared} → f ≡ fixed_at image → given ≡ input_at input → q ≡ prepare f.profile (moving_at image) given
    → (P : Segment3 → Float → Type 0) → P f.segment q.time → P (fixed_at image).segment (time_at image input)
asked_there image input {f} {given} k i r P p =
    let at = moving_at image in
    subst (λ (x : TickInput). P (fixed_at image).segment (prepare (fixed_at image).profile at x).time) i
    (subst (λ (x : Fixed). P x.segment (prepare x.profile at given).time) k (subst (λ (x : Prepared). P f.segment x.time) r p))

-- what `unbroken` asks of a fixed part that was read
pub read_of : {f g : Fixed} → f ≡ g → ReadOf f.segment f.enter f.exit g
read_of e = (ap (λ (f : Fixed). f.segment) e, ap (λ (f : Fixed). f.enter) e, ap (λ (f : Fixed). f.exit) e)

-- a tick that was not refused
pub flown : (source : Float → Reference) (image input answer : List ℕ) {given : TickInput} {f : Fixed} {p : Prepared} {wanted : Reference} {done : Ticked} {later answered : List ℕ}
    → given ≡ input_at input → f ≡ fixed_at image → p ≡ prepare f.profile (moving_at image) given → wanted ≡ source p.time → done ≡ guide_pick_follow f p wanted given
    → Leaves (fixed_at image) p.moving.governor p.moving.lpf done later answered → left Done (lent later answered) ≡ tick_from source Done image input answer
unfolding tick_from ticked
flown source image input answer i k q w h l = rw (l.image, l.answer, h, w, q, k, i)

-- ---- what a tick leaves as it stood

rate_over : (r q : AdrcRate) → r.roll.g ≡ q.roll.g → r.pitch.g ≡ q.pitch.g → r.yaw.g ≡ q.yaw.g
    → r ≡ record { roll = over_axis r.roll q.roll; pitch = over_axis r.pitch q.pitch; yaw = over_axis r.yaw q.yaw }
rate_over r q x y z = rw (sym x, sym y, sym z)

unmoved : (image : List ℕ) (wanted : Reference) (given : TickInput) → Unmoved (state_after (λ time. wanted) (state_at image) given).moving (moving_at image)
unfolding ticked prepare advance gyro_filter biquad_filter
unmoved image wanted given =
    let k = tick_keeps (λ time. wanted) (state_at image) given in
    let m = (state_after (λ time. wanted) (state_at image) given).moving in
    record { is = ap (λ (r : AdrcRate). record { engaged = m.engaged; governor = m.governor; rate = r; lpf = m.lpf }) (rate_over m.rate (moving_at image).rate k.roll k.pitch k.yaw) }

pub keeps : (image : List ℕ) → Unbroken image → (given : TickInput) (wanted : Reference) {f : Fixed} {q : Prepared} {done : Ticked}
    → f ≡ fixed_at image → q ≡ prepare f.profile (moving_at image) given → done ≡ guide_pick_follow f q wanted given
    → OwnWords image × Unmoved (left_moving q.moving.governor q.moving.lpf done) (moving_at image)
unfolding ticked
keeps image u given wanted k r d = (own_words image u, rw (d, r, k) (unmoved image wanted given))
