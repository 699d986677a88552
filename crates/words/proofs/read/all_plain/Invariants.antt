use Rattle.laws.proofs.Prelude.{◌≡◌, Bool, ℕ, ltb}
use Rattle.words.specs.Inner.{all_plain}
use Rattle.words.proofs.read.all_plain.Given as goal

-- no word that was looked at has the top bit
abbrev pub Low : ℕ → Bool
Low a = ltb a 2147483648

abbrev pub invariant-loop-k : goal.invariant-loop-k
invariant-loop-k l = Low l.above ≡ all_plain l.bytes l.k
