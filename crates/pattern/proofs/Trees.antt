-- Laws of reading: items one after another, and how many turns are enough. Assumes nothing.
use Rattle.laws.proofs.Prelude.{◌≡◌, refl, sym, ap, ◌∙◌, inl, inr, List, ◌∷◌, ◌++◌, append_assoc, ℕ, zero, suc, ◌-◌, ◌≤◌, ◌<◌, arith, eq-eqb, ne_eqb, length, drop, length-drop, le_or_lt}
use Rattle.pattern.specs.{Tree.{Pattern, nothing, leg, repeat, times, flown_legs}, Read.{Read, broken, is, head_of, size_of, item_of, append, before, items_of, read, inside_of, item_within}}
use Rattle.pattern.proofs.Heads.{size_some}

-- ---- patterns one after another

pub append_nothing : (p : Pattern) → append p nothing ≡ p
unfolding append
append_nothing nothing = refl
append_nothing (leg l p) = ap (leg l) (append_nothing p)
append_nothing (repeat n i p) = ap (repeat n i) (append_nothing p)

append_again : (p q r : Pattern) → append (append p q) r ≡ append p (append q r)
unfolding append
append_again nothing q r = refl
append_again (leg l p) q r = ap (leg l) (append_again p q r)
append_again (repeat n i p) q r = ap (repeat n i) (append_again p q r)

-- "flown order" is that of the items
pub flown_append : (p q : Pattern) → flown_legs (append p q) ≡ flown_legs p ++ flown_legs q
unfolding append flown_legs
flown_append nothing q = refl
flown_append (leg l p) q = ap (λ (r : List (List ℕ)). l ∷ r) (flown_append p q)
flown_append (repeat n i p) q =
    ap (λ (r : List (List ℕ)). times n (flown_legs i) ++ r) (flown_append p q) ∙ sym (append_assoc (times n (flown_legs i)) (flown_legs p) (flown_legs q))

pub before_first : (r : Read) → before (is nothing) r ≡ r
unfolding before append
before_first broken = refl
before_first (is p) = refl

pub before_last : (p : Pattern) → before (is p) (is nothing) ≡ is p
unfolding before
before_last p = ap is (append_nothing p)

pub before_again : (p q : Pattern) (r : Read) → before (is (append p q)) r ≡ before (is p) (before (is q) r)
unfolding before
before_again p q broken = refl
before_again p q (is r) = ap is (append_again p q r)

-- ---- turns past those that are needed make no difference

module _ (inside : List ℕ → Read) where
  pub items_none : (m : ℕ) (b : List ℕ) → length b ≡ 0 → items_of inside m b ≡ is nothing
  unfolding items_of
  items_none zero b h = refl
  items_none (suc m) b h = simp (eq-eqb (length b) 0 h)

  pub items_here : (m : ℕ) (b : List ℕ) → 0 < length b
      → items_of inside (suc m) b ≡ before (item_of inside b (head_of b)) (items_of inside m (drop (size_of (head_of b)) b))
  unfolding items_of
  items_here m b h = simp (ne_eqb (length b) 0 (λ e. omega arith))

  turns : (m n : ℕ) (b : List ℕ) → length b ≤ m → length b ≤ n → items_of inside m b ≡ items_of inside n b
  turns zero n b h k = items_none zero b (omega arith) ∙ sym (items_none n b (omega arith))
  turns (suc m) zero b h k = items_none (suc m) b (omega arith) ∙ sym (items_none zero b (omega arith))
  turns (suc m) (suc n) b h k =
      let size = size_of (head_of b) in let less = length-drop size b in let some = size_some (head_of b) in
      elim (le_or_lt (length b) 0) [
        | inl z ↦ items_none (suc m) b (omega arith) ∙ sym (items_none (suc n) b (omega arith))
        | inr l ↦
            items_here m b l
            ∙ ap (before (item_of inside b (head_of b))) (turns m n (drop size b) (omega (arith, less, some)) (omega (arith, less, some)))
            ∙ sym (items_here n b l)
      ]

read_is : (depth : ℕ) (b : List ℕ) → read depth b ≡ items_of (inside_of depth) (length b) b
unfolding read inside_of
read_is zero b = refl
read_is (suc depth) b = refl

pub read_none : (depth : ℕ) (b : List ℕ) → length b ≡ 0 → read depth b ≡ is nothing
read_none depth b h = read_is depth b ∙ items_none (inside_of depth) (length b) b h

-- the item at the start, and what is read after it
pub read_here : (depth : ℕ) (b : List ℕ) → 0 < length b → read depth b ≡ before (item_within depth b) (read depth (drop (size_of (head_of b)) b))
read_here depth b h =
    let inside = inside_of depth in let rest = drop (size_of (head_of b)) b in
    let less = length-drop (size_of (head_of b)) b in
    read_is depth b
    ∙ turns inside (length b) (suc (length b)) b (omega arith) (omega arith)
    ∙ items_here inside (length b) b h
    ∙ ap (before (item_within depth b)) (turns inside (length b) (length rest) rest (omega (arith, less)) (omega arith) ∙ sym (read_is depth rest))

pub inside_is : (depth : ℕ) → (depth ≡ 0 → ⊥) → inside_of depth ≡ read (depth - 1)
unfolding inside_of
inside_is zero f = absurd (f refl)
inside_is (suc depth) f = let e : suc depth - 1 ≡ depth = omega arith in rw e
