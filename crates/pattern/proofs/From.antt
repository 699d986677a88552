-- What a call's outcome says of the bytes that it was given: done, they are a pattern's; 7, two neighbours do not meet. Assumes nothing.
use Rattle.std.specs.Prelude.{Err}
use Rattle.laws.proofs.Prelude.{◌≡◌, refl, sym, subst, ◌∙◌, Bool, true, false, not, ◌&&◌, List, [], ◌∷◌, ◌++◌, ℕ, suc, ◌≤◌, ◌<◌, suc-le-suc, zero-lt-suc, arith, length, get_or, take, no}
use Rattle.image.specs.Parts.{leg_at}
use Rattle.outcome.{specs.{declared.Refusal.{Refusal, TheVariants.{PassThrough, LegsApart}}, Outcomes.{Done, is_done, Table, first_of, left}}, proofs.Tables.{never_given, either}}
use Rattle.route.specs.Form.{legs_meet}
use Rattle.pattern.specs.{Tree.{Pattern, flown_legs}, Read.{Read, broken, is, read}, Entry.{DEEPEST, flown_meet, legs_read, legs_of, expand_table, expand_refusal, Expanded, with_route, expand_call}}
use Rattle.pattern.proofs.{ReadBack.{Bytes, Written, writes_back}, Flies.taken}

-- ---- done

-- the bytes of a pattern at most four deep, whose legs in flown order were written
pub record From (b route : List ℕ) (later : Expanded) : Type 0 where
  pub pattern : Pattern
  pub written : Written DEEPEST b pattern
  pub legs : later ≡ left Done (with_route (flown_legs pattern) route)

pub accepted_from : (b route written : List ℕ) → Bytes b → is_done (expand_call b route written).outcome ≡ true → From b route (expand_call b route written)
unfolding expand_call legs_read
accepted_from b route written y =
    either (λ (l : Expanded). is_done l.outcome ≡ true → From b route l) (expand_refusal b (length route) (length written))
    (λ d _. go (read DEEPEST b) refl (taken b (length route) (length written) d).some)
    (λ d e. no (sym d ∙ e))
  where
    go : (r : Read) → read DEEPEST b ≡ r → 1 ≤ length (legs_read r) → From b route (left Done (with_route (legs_read r) route))
    go broken e h = absurd (omega arith)
    go (is p) e h = record { pattern = p; written = writes_back DEEPEST b p y e; legs = refl }

-- ---- 7

-- leg number i and the one that is flown after it do not meet
pub record Apart (ls : List (List ℕ)) : Type 0 where
  pub i : ℕ
  pub within : suc i < length ls
  pub apart : legs_meet (leg_at (get_or ls i []) 0) (leg_at (get_or ls (suc i) []) 0) ≡ false

find_apart : (ls : List (List ℕ)) → flown_meet ls ≡ false → Apart ls
unfolding flown_meet
find_apart [] e = no (sym e)
find_apart (l ∷ []) e = no (sym e)
find_apart (l ∷ m ∷ ls) e = here (legs_meet (leg_at l 0) (leg_at m 0)) (flown_meet (m ∷ ls)) refl e (find_apart (m ∷ ls))
  where
    here : (a b : Bool) → legs_meet (leg_at l 0) (leg_at m 0) ≡ a → (a && b) ≡ false → (b ≡ false → Apart (m ∷ ls)) → Apart (l ∷ m ∷ ls)
    here false b p q r = record { i = 0; within = suc-le-suc (zero-lt-suc (length ls)); apart = p }
    here true b p q r = let a = r q in record { i = suc a.i; within = suc-le-suc a.within; apart = a.apart }

-- the rows before 7's
abbrev earlier : List ℕ → ℕ → ℕ → Table
earlier b routeLen writtenLen = take 5 (expand_table b routeLen writtenLen)

-- a last row that does not hold gives nothing
idle : (rows : Table) (o : Refusal) → first_of (rows ++ (false, o) ∷ []) ≡ first_of rows
idle [] o = refl
idle ((true, x) ∷ rows) o = refl
idle ((false, x) ∷ rows) o = idle rows o

-- 7 is given only if two neighbours do not meet
pub seven_apart : (b : List ℕ) (routeLen writtenLen : ℕ) → expand_refusal b routeLen writtenLen ≡ Err LegsApart → Apart (legs_of b)
unfolding expand_refusal
seven_apart b routeLen writtenLen e = go (flown_meet (legs_of b)) refl
  where
    rows : Table
    rows = earlier b routeLen writtenLen

    go : (t : Bool) → flown_meet (legs_of b) ≡ t → Apart (legs_of b)
    go false p = find_apart (legs_of b) p
    go true p = absurd (never_given LegsApart rows refl (sym (idle rows LegsApart) ∙ subst (λ (t : Bool). first_of (rows ++ (not t, LegsApart) ∷ []) ≡ Err LegsApart) p e))

-- 11 is "at set-up alone" (request Twelve)
pub no_expansion_gives_eleven : (b : List ℕ) (routeLen writtenLen : ℕ) → ¬ (expand_refusal b routeLen writtenLen ≡ Err PassThrough)
unfolding expand_refusal
no_expansion_gives_eleven b routeLen writtenLen = never_given PassThrough (expand_table b routeLen writtenLen) refl
