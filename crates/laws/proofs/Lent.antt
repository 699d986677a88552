-- Steps of a walk by hand for a thin function over a lent struct: the struct is read through the reference, passed by value to the function that does the work, and written back.
-- The struct, and what is answered, hold plain data only, so that what they own are facts. Assumes nothing.
use mathlib.Core.{Path.{◌≡◌, sym, ap, subst}, List.{List, [], ◌∷◌}}
use Prim.Native.Nat.{ℕ}
use seplogic.Ra.Ura.{Ura}
use mir.{Syntax.{Place, Body as Rest}, Val.Val}
use base.{Fraction.full_share, Logic.{SProp, ent, sep, ex, emp, via, ex_i}, Stored.Gv, Fml.{GName, Lft, Share, ftrue, flft, fobs, fauth, fbor, fobor}}
use prog.Wp.{Env, Calls, Loops}
use types.Logic.{Logic, sem}
use contract.Monad.{fact}
use types.{Kit.{Goal, Post, lands, Soaks, Item, Seq, Step, step, ‵, raw, ◌⊛◌, some, later, ◌$◌, ◌∵◌, !, qed, move, drop, use1, split, join, pick, suffices, await, done}, SemTy.Body}
use denote.{RattleType.RattleType, Laws.{Is, shows}, Memory.{cell_at, mem}, Steps.{only, opens, closes, owned, facts, heard}, Struct.{Declared.{Declared, fields, row}, Struct.Plains, Steps.spelt}}
use denote.Struct.Laws.{Laws, val, vals, tells, makes}

module _ {M : Type 1} {𝓤 : Ura M} {𝓛 : Logic 𝓤} {K : Type 0} {Γ : List (Item 𝓤)} (S : Declared) (L : Laws S) where
  open 𝓛 use {H}

  module _ {G : Goal 𝓤 H} where
    -- the borrow is opened: the struct lies there as its fields say, and they are of their types
    pub opened : K → Soaks G → {κ : Lft} {q : Share} {γ : GName} (h : S.D) (b o : ℕ)
        → (Is (row S) h (vals S L h) → Seq K 𝓛 (‵ (cell_at full_share (row S).mir (vals S L h) b o) ∷ ‵ (fobor κ q (Body (mem (row S)) b o γ)) ∷ ‵ (fobs γ ((row S).coded.code h)) ∷ ‵
        (fauth γ ((row S).coded.code h)) ∷ Γ) G)
        → Seq K 𝓛 (‵ (fobs γ ((row S).coded.code h)) ∷ ‵ (fbor κ (Body (mem (row S)) b o γ)) ∷ ‵ (flft κ q) ∷ Γ) G
    opened t z h b o k = opens t z (row S) {h = h} b o (λ vs. spelt t (row S) (Is (row S)) (shows 𝓛 (row S)) (vals S L) (tells S L) full_share h vs b o $ move t (1 ∷ []) $ facts t
        (row S) (Is (row S)) (shows 𝓛 (row S)) h (vals S L h) k)

    -- and closed at the struct that lies there now
    pub closed : K → Soaks G → Plains (fields S) → {κ : Lft} {q : Share} {u v : Gv} {γ : GName} (h : S.D) (b o : ℕ) → Is (row S) h (vals S L h)
        → Step K 𝓛 (‵ (fobs γ ((row S).coded.code h)) ∷ ‵ (fbor κ (Body (mem (row S)) b o γ)) ∷ ‵ (flft κ q) ∷ Γ) G
        (‵ (cell_at full_share (row S).mir (vals S L h) b o) ∷ ‵ (fobor κ q (Body (mem (row S)) b o γ)) ∷ ‵ (fobs γ u) ∷ ‵ (fauth γ v) ∷ Γ) G
    closed t z plain h b o is = step (λ s. owned t (row S) (Is (row S)) (makes S plain 𝓛) h _ is $ move t (1 ∷ 0 ∷ []) $ closes t z (row S) h (vals S L h) b o $ s)

  -- a call has answered some struct, which is said to be n: so it is n's machine value that lands
  pub answered : K → {C : Calls 𝓤 H} {Λ : Loops 𝓤 H} {E : Env 𝓤 H} {d : Place} {rest : Rest} {q : Post 𝓤 H} (v : Val) (n : S.D) (Said : S.D → SProp 𝓤) →
      ((r : S.D) → ent 𝓤 (Said r) (fact 𝓤 (r ≡ n)))
      → (Is (row S) n (vals S L n) → Seq K 𝓛 Γ (lands C Λ E d (val S L n) rest q))
      → Seq K 𝓛 (later (some (λ (r : S.D). (‵ ftrue ⊛ ‵ ((row S).own_val r (v ∷ []))) ⊛ raw (Said r))) ∷ Γ) (lands C Λ E d v rest q)
  answered t {C} {Λ} {E} {d} {rest} {q} v n Said is_said k =
      await t tt $ pick t (λ r. split t $ move t (1 ∷ []) $ use1 𝓛 (raw (fact 𝓤 (r ≡ n))) (is_said r) $ heard t (r ≡ n)
      (λ e. split t $ drop t $ facts t (row S) (Is (row S)) (shows 𝓛 (row S)) r (v ∷ []) (λ is.
      let is-n = subst (λ (m : S.D). Is (row S) m (v ∷ [])) e is in let spelled = tells S L n (v ∷ []) is-n in
      subst (λ (u : Val). Seq K 𝓛 Γ (lands C Λ E d u rest q)) (sym (ap only spelled)) (k (subst (Is (row S) n) spelled is-n)))))

-- ---- a caller that lends the struct on, under the contract of the function that it calls

module _ {M : Type 1} {𝓤 : Ura M} (𝓛 : Logic 𝓤) (R : RattleType) (κ : Lft) (q : Share) (Said : R.Denot → SProp 𝓤) (v : Val) where
  -- the token, what the answer owns and what is said of it
  open 𝓛 use {H, A}

  abbrev Left : R.Denot → SProp 𝓤
  Left r = sep 𝓤 (sep 𝓤 (sep 𝓤 (A.lft κ q) (emp 𝓤)) (sem 𝓛 (R.own_val r (v ∷ [])))) (Said r)

  -- what the call leaves is what the caller owes
  pub passed_on : (r : R.Denot) → ent 𝓤 (sep 𝓤 (sem 𝓛 (R.own_val r (v ∷ []))) (sep 𝓤 (sep 𝓤 (A.lft κ q) (emp 𝓤)) (Said r))) (H.⇛ (ex 𝓤 Left))
  passed_on r =
      qed 𝓛 (‵ (R.own_val r (v ∷ [])) ∷ (‵ (flft κ q) ⊛ ‵ ftrue) ∷ raw (Said r) ∷ []) ∵ suffices ! (Left r) (via 𝓤 (ex 𝓤 Left) (ex_i 𝓤 Left r) (𝓛.laws.⇛_intro (ex 𝓤 Left))) $ move !
      (1 ∷ 0 ∷ []) $ join ! $ done !
