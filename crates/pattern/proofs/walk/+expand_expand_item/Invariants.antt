-- `pattern::walk::expand` and `expand_item` call each other: the depth falls, and in the loop the bytes do. Assumes nothing.
use Rattle.std.proofs.Common.{◌-◌, ◌≡◌, ◌+◌, ◌≤◌, length}
use Rattle.std.proofs.Math.Seq.{slice}
use Rattle.route.specs.Form.{most_legs}
use Rattle.pattern.specs.Read.{read}
use Rattle.pattern.proofs.ItemByItem.{Going}
use Rattle.pattern.proofs.walk.+expand_expand_item.Given as goal

abbrev pub decreases-expand : goal.decreases-expand
decreases-expand l = l.depth + l.depth + 1

abbrev pub decreases-expand_item : goal.decreases-expand_item
decreases-expand_item l = l.depth + l.depth

abbrev pub invariant-expand-loop-past : goal.invariant-expand-loop-past
invariant-expand-loop-past l =
    (l.past.next ≤ l.end) × (length l.places ≡ most_legs)
    × Going l.b (read l.depth (slice l.from l.end l.b)) (read l.depth (slice l.past.next l.end l.b)) l.count l.initial.places l.past.legs l.places

abbrev pub decreases-expand-loop-past : goal.decreases-expand-loop-past
decreases-expand-loop-past l = l.end - l.past.next
