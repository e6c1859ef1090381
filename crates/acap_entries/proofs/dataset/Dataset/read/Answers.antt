use Rattle.std.proofs.Common.{sym}
use Rattle.acap_entries.proofs.FormLemmas.{read_closed, argument_dataset}
use Rattle.acap_entries.proofs.dataset.Dataset.read.Goals as goal

pub invariant_of-result : goal.invariant_of-result
invariant_of-result c = rw c.in_ok-octets.ensures (read_closed c.args.octets.now (argument_dataset c.args.octets.now (sym c.if-not-is_dataset_argument.ensures)))
