use Rattle.laws.proofs.Prelude.{◌≡◌, List, ℕ, ◌-◌, ◌≤◌, length, take, sets}
use Rattle.words.proofs.write.put_bytes.Given as goal

abbrev pub invariant-loop-i : goal.invariant-loop-i
invariant-loop-i l = (l.i ≤ length l.from) × (l.bytes ≡ sets l.initial.bytes l.at (take l.i l.from))

abbrev pub decreases-loop-i : goal.decreases-loop-i
decreases-loop-i l = length l.from - l.i

abbrev pub invariant-loop-i-2 : goal.invariant-loop-i-2
invariant-loop-i-2 l = (l.i ≤ length l.from) × ((b : List ℕ) → l.initial.bytes ≡ sets b l.at (take l.initial.i l.from) → l.bytes ≡ sets b l.at (take l.i l.from))

abbrev pub decreases-loop-i-2 : goal.decreases-loop-i-2
decreases-loop-i-2 l = length l.from - l.i

abbrev pub invariant-loop-j : goal.invariant-loop-j
invariant-loop-j l = (b : List ℕ) → l.initial.bytes ≡ sets b l.at (take l.initial.j l.from) → l.bytes ≡ sets b l.at (take l.j l.from)
