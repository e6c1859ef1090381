use Rattle.std.proofs.Common.{◌∙◌, ◌++◌, ap, drop}
use Rattle.std.specs.Prelude.{replicate}
use Rattle.acap_entries.proofs.TimeLemmas.{twenty_is}
use Rattle.acap_entries.proofs.times.twenty.Goals as goal

pub returns : goal.returns
returns c = ap (λ part. part ++ drop c.min-count.result (replicate 20 48)) c.copy_from_slice.ensures.after ∙ twenty_is c.args.text.now c.min-count.result c.requires c.min-count.ensures
