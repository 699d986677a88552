-- `slow_shield::Band::fallback_after`: by looking back, where a release is possible. Assumes nothing.
use Rattle.laws.proofs.Prelude.{not, sym, ap, ◌∙◌}
use Rattle.slow_shield.proofs.Loops.{never_flies}
use Rattle.slow_shield.proofs.Band.fallback_after.Goals as goal

pub returns-then-not-is_finite : goal.returns-then-not-is_finite
returns-then-not-is_finite c =
    let pre = c.args.self.ordered in
    ap not c.if-not-is_finite.true ∙ sym (never_flies _ _ pre.0 (sym c.is_finite.ensures ∙ c.if-not-is_finite.true) pre.1 _ _)
