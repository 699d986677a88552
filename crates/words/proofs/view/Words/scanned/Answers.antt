use Rattle.words.proofs.Plain.{scanned}
use Rattle.words.proofs.view.Words.scanned.Goals as goal

pub invariant_of-result : goal.invariant_of-result
invariant_of-result c = record { known = scanned c.args.bytes.now c.args.count c.all_plain.result c.all_plain.ensures c.requires }
