use Rattle.acap_client.proofs.WholeLines.{sent}
use Rattle.acap_client.proofs.writer.command_line.Goals as goal

pub returns : goal.returns
returns c =
    sent c.finish.result c.args.tag.now c.verb.result.now c.args.command.now c.in_ok-writing.writing c.word.new.writing c.arguments.new.writing
    c.in_ok-writing.ensures c.verb.ensures c.in_ok-word.ensures c.in_ok-arguments.ensures c.finish.ensures
