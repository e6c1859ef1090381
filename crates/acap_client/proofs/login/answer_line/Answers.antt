use Rattle.std.proofs.Common.{◌∙◌}
use Rattle.acap_client.proofs.WholeLines.{answered}
use Rattle.acap_client.proofs.login.answer_line.Goals as goal

pub returns : goal.returns
returns c =
    answered c.finish.result c.deref.result.now _ c.untagged-writing.result c.string.new.writing
    c.untagged-writing.ensures (c.deref.ensures.value ∙ c.in_ok-text.ensures) c.in_ok-string.ensures c.finish.ensures
