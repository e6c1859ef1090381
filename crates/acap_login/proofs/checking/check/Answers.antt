use Rattle.std.proofs.Common.{sym, ◌∙◌}
use Rattle.acap_login.proofs.Accepting.{uncut, accepted_is, refused_is, placed}
use Rattle.acap_login.proofs.checking.check.Goals as goal

value_in_err : goal.returns-in_err-name-clause-value
value_in_err c = c.from_residual.ensures ∙ sym (uncut c.args.users.now c.args.challenge.now c.args.answer.now c.in_err-name.ensures.none)

pub returns-in_err-name-clause-value : goal.returns-in_err-name-clause-value
returns-in_err-name-clause-value = value_in_err

pub returns-in_err-name-clause-some : goal.returns-in_err-name-clause-some
returns-in_err-name-clause-some c = λ place. rw (value_in_err c) (accepted_is c.args.users.now c.args.challenge.now c.args.answer.now place)

pub returns-in_err-name-clause-none : goal.returns-in_err-name-clause-none
returns-in_err-name-clause-none c = rw (value_in_err c) (refused_is c.args.users.now c.args.challenge.now c.args.answer.now)

value : goal.returns-clause-value
value c = rw (c.in_ok-name.ensures.some, ← c.as_slice.ensures) (placed (λ entry. (entry.0, entry.1.items)) c.as_slice.result.now c.args.challenge.now _ c.find.result c.find.ensures)

pub returns-clause-value : goal.returns-clause-value
returns-clause-value = value

pub returns-clause-some : goal.returns-clause-some
returns-clause-some c = λ place. rw (value c) (accepted_is c.args.users.now c.args.challenge.now c.args.answer.now place)

pub returns-clause-none : goal.returns-clause-none
returns-clause-none c = rw (value c) (refused_is c.args.users.now c.args.challenge.now c.args.answer.now)
