-- What the bytes of a pattern hold: they are broken, or they are a pattern. Definitions only.
use Rattle.std.specs.Prelude.{ℕ, zero, suc, ◌+◌, ◌-◌, ◌*◌, cond, Option, Some, None, List, eqb, ltb, length, get_or, take, drop}
use Rattle.image.specs.Layout.{leg_bytes}
use Rattle.pattern.specs.declared.form.Head.{Head}
use Rattle.pattern.specs.declared.form.Head.TheVariants.{Leg, Repeat}
use Rattle.pattern.specs.Tree.{Pattern, nothing, leg, repeat}

pub data Read : Type 0 where
  broken : Read
  is : Pattern → Read

-- ---- "12 a bad tag, count, depth or length"

abbrev pub inner_length : List ℕ → ℕ
inner_length b = get_or b 2 0 + 256 * get_or b 3 0

-- what the bytes start with: a leg, a repeat with its count and the length of its inner bytes, or no item
unfoldable pub head_of : List ℕ → Option Head
head_of b =
    cond (eqb (get_or b 0 0) 0) (cond (ltb (length b) (1 + leg_bytes)) None (Some Leg))
    (cond (eqb (get_or b 0 0) 1)
    (cond (ltb (length b) 4) None
    (cond (eqb (get_or b 1 0) 0) None
    (cond (ltb 9 (get_or b 1 0)) None
    (cond (ltb (length b - 4) (inner_length b)) None
    (Some (Repeat (get_or b 1 0) (inner_length b)))))))
    None)

-- how many bytes an item takes
unfoldable pub size_of : Option Head → ℕ
size_of None = 1
size_of (Some Leg) = 1 + leg_bytes
size_of (Some (Repeat n len)) = 4 + len

unfoldable pub repeated : ℕ → Read → Read
repeated n broken = broken
repeated n (is p) = is (repeat n p nothing)

-- the one item at the start, where `inside` reads what a repeat holds
unfoldable pub item_of : (List ℕ → Read) → List ℕ → Option Head → Read
unfolding repeated
item_of inside b None = broken
item_of inside b (Some Leg) = is (leg (take leg_bytes (drop 1 b)) nothing)
item_of inside b (Some (Repeat n len)) = repeated n (inside (take len (drop 4 b)))

-- one pattern's items, and then the other's
unfoldable pub append : Pattern → Pattern → Pattern
append nothing q = q
append (leg l p) q = leg l (append p q)
append (repeat n i p) q = repeat n i (append p q)

unfoldable pub before : Read → Read → Read
unfolding append
before broken r = broken
before (is p) broken = broken
before (is p) (is q) = is (append p q)

-- the items one after another: each takes a byte at least, so as many turns as there are bytes are enough
unfoldable pub items_of : (List ℕ → Read) → ℕ → List ℕ → Read
unfolding head_of size_of item_of before
items_of inside zero b = is nothing
items_of inside (suc n) b =
    cond (eqb (length b) 0) (is nothing) (before (item_of inside b (head_of b)) (items_of inside n (drop (size_of (head_of b)) b)))

-- the pattern in all of the bytes, in which repeats may stand so deep
unfoldable pub read : ℕ → List ℕ → Read
unfolding items_of
read zero b = items_of (λ _. broken) (length b) b
read (suc depth) b = items_of (read depth) (length b) b

-- ---- what the walk speaks of

-- what a repeat holds there: none may stand where the depth is used up
unfoldable pub inside_of : ℕ → List ℕ → Read
unfolding read
inside_of zero = λ _. broken
inside_of (suc depth) = read depth

abbrev pub item_within : ℕ → List ℕ → Read
item_within depth b = item_of (inside_of depth) b (head_of b)
