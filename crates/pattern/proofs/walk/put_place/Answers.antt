use Rattle.laws.proofs.Prelude.{refl, sym, arith}
use Rattle.pattern.proofs.Rounds.{capped_below, capped_full}
use Rattle.pattern.proofs.walk.put_place.Goals as goal

pub returns-then-count-lt-MOST_LEGS : goal.returns-then-count-lt-MOST_LEGS
returns-then-count-lt-MOST_LEGS c = record { counted = sym (capped_below _ (omega arith)); put = λ _. refl }

pub returns-else-count-lt-MOST_LEGS : goal.returns-else-count-lt-MOST_LEGS
returns-else-count-lt-MOST_LEGS c = record { counted = sym (capped_full _ (omega arith)); put = λ h. absurd (omega arith) }
