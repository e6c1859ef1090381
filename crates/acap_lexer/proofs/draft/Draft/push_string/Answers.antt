use Rattle.std.proofs.Math.Seq.{take-length, take-append_seam}
use Rattle.acap_lexer.proofs.draft.Draft.push_string.Goals as goal

pub returns-in_default-clause-grows : goal.returns-in_default-clause-grows
returns-in_default-clause-grows c = c.push_escaped.ensures.grows

pub returns-in_default-clause-text : goal.returns-in_default-clause-text
returns-in_default-clause-text c = c.push_escaped.ensures.text

pub returns-in_err-push_front-clause-grows : goal.returns-in_err-push_front-clause-grows
returns-in_err-push_front-clause-grows c = rw c.in_err-push_front.ensures.err (take-length _)

pub returns-in_err-push_front-clause-text : goal.returns-in_err-push_front-clause-text
returns-in_err-push_front-clause-text c = rw c.in_err-push_front.ensures.text (take-length _)

pub returns-clause-grows : goal.returns-clause-grows
returns-clause-grows c = rw c.in_ok-push_front.ensures.ok (take-append_seam _ _)

pub returns-clause-text : goal.returns-clause-text
returns-clause-text c = rw c.in_ok-push_front.ensures.text (take-length _)
