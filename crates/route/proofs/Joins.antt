-- The joins in the request's words, over any count, and the order of refusals at work. Assumes nothing.
use Rattle.std.specs.Prelude.{Err}
use Rattle.laws.proofs.Prelude.{◌≡◌, refl, subst, inl, inr, ◌↔◌, true, false, List, [], ◌∷◌, ℕ, zero, suc, ◌+◌, ◌-◌, ◌≤◌, ◌<◌, eq-or-lt_of_le, arith, pos, Float, nan, inf, fin, eq, replicate, both}
use Rattle.words.specs.Words.{bytes_of}
use Rattle.outcome.specs.declared.Refusal.TheVariants.{LegCount, RouteLength}
use Rattle.route.specs.Form.{leg_of, legs_meet, meet_from, all_meet, leg_count, back_of, form_refusal}

-- ---- "Legs meet": each leg but the first meets the one before it

meets_at : (b : List ℕ) (n i : ℕ) → meet_from b n i ≡ true → (j : ℕ) → i ≤ j → j < i + n → legs_meet (leg_of b (j - 1)) (leg_of b j) ≡ true
unfolding meet_from
meets_at b zero i e j h k = absurd (omega arith)
meets_at b (suc n) i e j h k =
    let p = both (legs_meet (leg_of b (i - 1)) (leg_of b i)) (meet_from b n (suc i)) e in
    elim (eq-or-lt_of_le h) [ inl q ↦ subst (λ (x : ℕ). legs_meet (leg_of b (x - 1)) (leg_of b x) ≡ true) q p.0 | inr l ↦ meets_at b n (suc i) p.1 j l (omega arith) ]

meets_on : (b : List ℕ) (n i : ℕ) → ((j : ℕ) → i ≤ j → j < i + n → legs_meet (leg_of b (j - 1)) (leg_of b j) ≡ true) → meet_from b n i ≡ true
unfolding meet_from
meets_on b zero i h = refl
meets_on b (suc n) i h = rw (h i (omega arith) (omega arith)) (meets_on b n (suc i) (λ j p q. h j (omega (arith, p)) (omega (arith, q))))

pub joins_say : (b : List ℕ) (n : ℕ) → (all_meet b n ≡ true) ↔ ((i : ℕ) → i + 1 < n → legs_meet (leg_of b i) (leg_of b (i + 1)) ≡ true)
unfolding all_meet
joins_say b n = (
  λ e i h. subst (λ (x : ℕ). legs_meet (leg_of b x) (leg_of b (i + 1)) ≡ true) (before i) (meets_at b (n - 1) 1 e (i + 1) (omega arith) (omega (arith, h))),
  λ f. meets_on b (n - 1) 1 (λ j p q. subst (λ (x : ℕ). legs_meet (leg_of b (j - 1)) (leg_of b x) ≡ true) (again j p) (f (j - 1) (omega (arith, p, q)))),
)
  where
    before : (i : ℕ) → i + 1 - 1 ≡ i
    before i = omega arith

    again : (j : ℕ) → 1 ≤ j → j - 1 + 1 ≡ j
    again j p = omega (arith, p)

-- ---- "as numbers, so a NaN at a join never meets"

pub nan_never_meets : (x : Float) → eq nan x ≡ false
unfolding eq
nan_never_meets x = refl

pub zeros_meet : eq (fin true 0 (pos 0)) (fin false 0 (pos 0)) ≡ true
unfolding eq
zeros_meet = refl

pub infinities_meet : (eq (inf false) (inf false) ≡ true) × (eq (inf true) (inf true) ≡ true) × (eq (inf true) (inf false) ≡ false)
unfolding eq
infinities_meet = (refl, refl, refl)

-- ---- "6 a route below 8 bytes; 5 .. 0 or above 32; 6 .."

pub no_bytes : form_refusal [] ≡ Err RouteLength
unfolding form_refusal leg_count back_of
no_bytes = refl

pub eight_zeros : form_refusal (replicate 8 0) ≡ Err LegCount
unfolding form_refusal leg_count back_of
eight_zeros = refl

pub many_legs_in_no_room : (form_refusal (bytes_of (32 ∷ 0 ∷ [])) ≡ Err RouteLength) × (form_refusal (bytes_of (33 ∷ 0 ∷ [])) ≡ Err LegCount)
unfolding form_refusal leg_count back_of
many_legs_in_no_room = (refl, refl)

-- 76 times 2^30 is 0 in 32 bits
pub no_wrapping : form_refusal (bytes_of (1073741824 ∷ 0 ∷ [])) ≡ Err LegCount
unfolding form_refusal leg_count back_of
no_wrapping = refl

pub one_leg_in_no_room : form_refusal (bytes_of (1 ∷ 76 ∷ [])) ≡ Err RouteLength
unfolding form_refusal leg_count back_of
one_leg_in_no_room = refl
