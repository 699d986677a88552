-- p, q, r, s are the bytes after each four
use Rattle.laws.proofs.Prelude.{◌≡◌, ◌∙◌, List, ℕ, ◌+◌, ◌≤◌, arith, length, take, drop, sets, length-drop}
use lib.Seq.{drop-drop}
use Rattle.words.specs.Words.{four_bytes}
use Rattle.words.proofs.Standing.{four_stands}
use Rattle.words.proofs.Written.{run_more}
use Rattle.words.proofs.write.put_sixteen.Goals as goal

sixteen : (b : List ℕ) (at : ℕ) (from : List ℕ) (i : ℕ) {u v w x p q r s : List ℕ} → i + 16 ≤ length from
    → u ≡ take 4 (drop i from) → v ≡ take 4 (drop (i + 4) from) → w ≡ take 4 (drop (i + 8) from) → x ≡ take 4 (drop (i + 12) from)
    → p ≡ sets b at u → q ≡ sets p (at + 4) v → r ≡ sets q (at + 8) w → s ≡ sets r (at + 12) x → s ≡ sets b at (take 16 (drop i from))
sixteen b at from i h a e f g k l m n =
    let d = drop i from in
    let long : 16 ≤ length d = simp length-drop (omega arith) in
    let eight = run_more b at d 4 4 (omega arith) (e ∙ rw (drop-drop 4 i from)) (k ∙ rw a) l in
    run_more b at d 12 4 (omega arith) (g ∙ rw (drop-drop 12 i from)) (run_more b at d 8 4 (omega arith) (f ∙ rw (drop-drop 8 i from)) eight m) n

pub returns : goal.returns
returns c =
    let four = λ (j : ℕ) (w : ℕ) (l : j + 4 ≤ length c.args.from.now) (e : w ≡ four_bytes c.args.from.now j). four_stands _ j (λ k. omega (arith, c.type_inv.from k)) l e in
    sixteen _ _ _ _ c.requires.1
    (four _ _ (omega arith) c.four_bytes-a.ensures) (four _ _ (omega arith) c.four_bytes-b.ensures) (four _ _ (omega arith) c.four_bytes-c.ensures) (four _ _ (omega arith) c.four_bytes-d.ensures)
    c.put_four.ensures c.put_four-2.ensures c.put_four-3.ensures c.put_four-4.ensures
