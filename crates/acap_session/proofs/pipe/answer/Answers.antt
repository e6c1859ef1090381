use Rattle.std.proofs.Common.{refl}
use Rattle.acap_session.proofs.PipeFaults.{answers_all, answers_front, fed_answers, is_later, none_answered, not_ok, write_later}
use Rattle.acap_session.proofs.pipe.answer.Goals as goal

pub returns-in-Ok-clause-made : goal.returns-in-Ok-clause-made
returns-in-Ok-clause-made g c =
    fed_answers c.args.users.now c.args.piece.now (g.W.Output.contents) _ _ _ c.args.pipe.now c.feed.new.pipe (record { state = c.feed.new.pipe.state; session = c.feed.new.pipe.session; out = c.send.new.out }) c.send.result c.requires.sent c.in-Ok.ensures.made refl refl c.send.ensures.sent c.send.ensures.front c.send.ensures.fault

pub returns-in-Err-Write-clause-made : goal.returns-in-Err-Write-clause-made
returns-in-Err-Write-clause-made g c =
    none_answered c.in-Err-Write.field-0 c.args.users.now c.args.piece.now c.args.pipe.now.state.machine c.args.pipe.now.session c.feed.new.pipe.out.items _ _ (rw c.requires.sent at c.in-Err-Write.ensures.made)

pub returns-in_ok-send-in-Err-clause-made : goal.returns-in_ok-send-in-Err-clause-made
returns-in_ok-send-in-Err-clause-made g c =
    answers_all _ c.args.users.now c.args.piece.now (g.W.Output.contents) _ _ _ c.args.pipe.now c.feed.new.pipe c.requires.sent c.in-Err.ensures.made c.in_ok-send-in-Err.ensures.sent

pub returns-in_err-send-in-Err-clause-made : goal.returns-in_err-send-in-Err-clause-made
returns-in_err-send-in-Err-clause-made g c =
    answers_front _ c.args.users.now c.args.piece.now (g.W.Output.contents) _ _ _ c.args.pipe.now c.feed.new.pipe (record { state = c.feed.new.pipe.state; session = c.feed.new.pipe.session; out = c.send-in-Err.new.out }) _ c.from_residual.result c.from_residual.ensures.0 c.from_residual.ensures.1 c.in_err-send-in-Err.ensures.fault c.requires.sent c.in-Err.ensures.made c.in_err-send-in-Err.ensures.front

pub returns-in_err-send-in-Err-clause-empty : goal.returns-in_err-send-in-Err-clause-empty
returns-in_err-send-in-Err-clause-empty g c = not_ok c.from_residual.result _ c.from_residual.ensures.0

pub returns-in_err-send-in-Err-clause-fault : goal.returns-in_err-send-in-Err-clause-fault
returns-in_err-send-in-Err-clause-fault g c = is_later c.from_residual.result _ c.from_residual.ensures.1 (write_later _ c.in_err-send-in-Err.ensures.fault)
