use Rattle.std.proofs.Math.Seq.{take-length, take-append_seam}
use Rattle.acap_lexer.proofs.Copies.{lies_behind}
use Rattle.acap_lexer.proofs.reading.push_token.Goals as goal

pub push_string-requires-clause-copied : goal.push_string-requires-clause-copied
push_string-requires-clause-copied c = lies_behind _ _ _ _ _ c.requires.copied c.in-Some-eq34-default.ensures.cases.0

pub returns-in-Some-eq34-default-clause-grows : goal.returns-in-Some-eq34-default-clause-grows
returns-in-Some-eq34-default-clause-grows c = c.push_string.ensures.grows

pub returns-in-Some-eq34-default-clause-text : goal.returns-in-Some-eq34-default-clause-text
returns-in-Some-eq34-default-clause-text c = c.push_string.ensures.text

pub returns-in_err-kind-clause-grows : goal.returns-in_err-kind-clause-grows
returns-in_err-kind-clause-grows c = take-length _

pub returns-in_err-kind-clause-text : goal.returns-in_err-kind-clause-text
returns-in_err-kind-clause-text c = take-length _

pub returns-in_err-push_front-clause-grows : goal.returns-in_err-push_front-clause-grows
returns-in_err-push_front-clause-grows c = rw c.in_err-push_front.ensures.err (take-length _)

pub returns-in_err-push_front-clause-text : goal.returns-in_err-push_front-clause-text
returns-in_err-push_front-clause-text c = rw c.in_err-push_front.ensures.text (take-length _)

pub returns-clause-grows : goal.returns-clause-grows
returns-clause-grows c = rw c.in_ok-push_front.ensures.ok (take-append_seam _ _)

pub returns-clause-text : goal.returns-clause-text
returns-clause-text c = rw c.in_ok-push_front.ensures.text (take-length _)
