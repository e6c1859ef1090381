use Rattle.std.proofs.Math.Seq.{take-length, take-append_seam}
use Rattle.acap_lexer.proofs.Growing.{grows_more}
use Rattle.acap_lexer.proofs.print.append_literal.Goals as goal

pub returns-in_err-digits-clause-grows : goal.returns-in_err-digits-clause-grows
returns-in_err-digits-clause-grows c = take-length _

pub returns-in_err-push-clause-grows : goal.returns-in_err-push-clause-grows
returns-in_err-push-clause-grows c = rw c.in_err-push.ensures.items (take-length _)

pub returns-in_err-extend_from_slice-clause-grows : goal.returns-in_err-extend_from_slice-clause-grows
returns-in_err-extend_from_slice-clause-grows c =
    rw (c.in_err-extend_from_slice.ensures.items, c.in_ok-push.ensures.items) (take-append_seam _ _)

pub returns-in_err-extend_from_slice-2-clause-grows : goal.returns-in_err-extend_from_slice-2-clause-grows
returns-in_err-extend_from_slice-2-clause-grows c =
    rw (c.in_err-extend_from_slice-2.ensures.items, c.in_ok-extend_from_slice.ensures.items, c.in_ok-push.ensures.items)
    (grows_more _ _ _ (take-append_seam _ _))

pub returns-in_err-extend_from_slice-3-clause-grows : goal.returns-in_err-extend_from_slice-3-clause-grows
returns-in_err-extend_from_slice-3-clause-grows c =
    rw (c.in_err-extend_from_slice-3.ensures.items, c.in_ok-extend_from_slice-2.ensures.items, c.in_ok-extend_from_slice.ensures.items, c.in_ok-push.ensures.items)
    (grows_more _ _ _ (grows_more _ _ _ (take-append_seam _ _)))

pub returns-clause-grows : goal.returns-clause-grows
returns-clause-grows c =
    rw (c.in_ok-extend_from_slice-3.ensures.items, c.in_ok-extend_from_slice-2.ensures.items, c.in_ok-extend_from_slice.ensures.items, c.in_ok-push.ensures.items)
    (grows_more _ _ _ (grows_more _ _ _ (grows_more _ _ _ (take-append_seam _ _))))
