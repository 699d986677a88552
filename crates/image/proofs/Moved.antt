-- An image over which only what a tick moved is written. Assumes nothing.
use Rattle.laws.proofs.Prelude.{◌≡◌, sym, ap, subst, ◌∙◌, List, [], ◌∷◌, ℕ, ◌+◌, lit≤, length}
use Rattle.words.{specs.Words.{bits, flag, words_of, bytes_of, Put, Holds, canons}, proofs.Standing.put_holds}
use Rattle.joint_tick.specs.declared.state.{Moving.Moving, State.State}
use Rattle.image.specs.{Layout.{axis_words, biquad_words, ENGAGED, GOVERNOR, RATE, LPF, image_words, image_bytes}, Image.{fixed_at, moving_at, state_at, words_of_state, image_of}}
use Rattle.image.specs.Inner.{OwnWords, moved_of_axis, moved_of_biquad, over_moving, Unmoved}
use Rattle.image.proofs.Decoded.{image_is, image_length, decode_encode, state_fits}

-- ---- an image made canonical is the image of its own state

pub made_canonical : {b t : List ℕ} → t ≡ bytes_of (canons b 0 image_words) → OwnWords b → {m : Moving} → Unmoved m (moving_at b)
    → (length t ≡ image_bytes) × (t ≡ image_of (state_at t)) × Unmoved m (moving_at t) × (fixed_at t ≡ fixed_at b)
made_canonical {b} {t} p o {m} u =
    let e : t ≡ image_of (state_at b) = p ∙ ap bytes_of o.is ∙ sym (image_is (state_at b)).is in
    let r : state_at t ≡ state_at b = ap state_at e ∙ decode_encode (state_at b) (state_fits b) in
    (ap length e ∙ image_length (state_at b), e ∙ ap image_of (sym r), subst (λ (n : Moving). Unmoved m n) (sym (ap (λ (s : State). s.moving) r)) u, ap (λ (s : State). s.fixed) r)

-- ---- what is moved takes the place of what stood; what is not moved stands

pub moved : {b : List ℕ} → b ≡ image_of (state_at b) → {m : Moving} → Unmoved m (moving_at b) → {b₀ b₁ b₂ b₃ b₄ b₅ b₆ b₇ : List ℕ}
    → Put b ENGAGED (flag m.engaged ∷ []) b₀
    → Put b₀ GOVERNOR (bits m.governor.s ∷ []) b₁
    → Put b₁ RATE (words_of (moved_of_axis m.rate.roll)) b₂
    → Put b₂ (RATE + axis_words) (words_of (moved_of_axis m.rate.pitch)) b₃
    → Put b₃ (RATE + axis_words + axis_words) (words_of (moved_of_axis m.rate.yaw)) b₄
    → Put b₄ (LPF + 5) (words_of (moved_of_biquad m.lpf.roll)) b₅
    → Put b₅ (LPF + biquad_words + 5) (words_of (moved_of_biquad m.lpf.pitch)) b₆
    → Put b₆ (LPF + biquad_words + biquad_words + 5) (words_of (moved_of_biquad m.lpf.yaw)) b₇
    → b₇ ≡ image_of record { fixed = fixed_at b; moving = m }
moved {b} e {m} u engaged time roll pitch yaw x y z =
    let stood : Holds b (words_of_state (state_at b)) = record { is = e ∙ (image_is (state_at b)).is } in
    let clock = put_holds (put_holds stood engaged (lit≤ tt)) time (lit≤ tt) in
    let axes = put_holds (put_holds (put_holds clock roll (lit≤ tt)) pitch (lit≤ tt)) yaw (lit≤ tt) in
    let all = put_holds (put_holds (put_holds axes x (lit≤ tt)) y (lit≤ tt)) z (lit≤ tt) in
    all.is ∙ sym (image_is record { fixed = fixed_at b; moving = over_moving m (moving_at b) }).is ∙ ap (λ (m : Moving). image_of record { fixed = fixed_at b; moving = m }) (sym u.is)
