use Rattle.std.proofs.Common.{ap, ◌∙◌, ◌++◌, List, ℕ, sym}
use Rattle.acap_client.proofs.Written.{ends}
use Rattle.acap_client.proofs.writing.finish.Goals as goal

pub returns : goal.returns
returns c = c.in_ok-extend_from_slice.ensures.items ∙ ap (λ (xs : List ℕ). c.args.writing.octets.items ++ xs) (sym (ends c.args.writing.last))
