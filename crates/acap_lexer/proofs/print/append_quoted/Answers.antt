use Rattle.std.proofs.Math.Seq.{take-length, take-append_seam}
use Rattle.acap_lexer.specs.Printing.{Grows}
use Rattle.acap_lexer.proofs.Growing.{grows_on, grows_more}
use Rattle.acap_lexer.proofs.print.append_quoted.Goals as goal

pub returns-in_err-reserve-clause-grows : goal.returns-in_err-reserve-clause-grows
returns-in_err-reserve-clause-grows c = rw c.in_err-reserve.ensures.items (take-length _)

pub returns-in_err-push-clause-grows : goal.returns-in_err-push-clause-grows
returns-in_err-push-clause-grows c = rw (c.in_err-push.ensures.items, c.in_ok-reserve.ensures.items) (take-length _)

pub returns-in_err-append_escaped-clause-grows : goal.returns-in_err-append_escaped-clause-grows
returns-in_err-append_escaped-clause-grows c =
    let quoted : Grows c.args.out.now.items c.push.new.self.items = rw (c.in_ok-push.ensures.items, c.in_ok-reserve.ensures.items) (take-append_seam _ _) in
    grows_on _ _ _ quoted c.in_err-append_escaped.ensures.grows

pub returns-in_err-push-2-clause-grows : goal.returns-in_err-push-2-clause-grows
returns-in_err-push-2-clause-grows c =
    rw (c.in_err-push-2.ensures.items, c.in_ok-append_escaped.ensures.ok, c.in_ok-push.ensures.items, c.in_ok-reserve.ensures.items)
    (grows_more _ _ _ (take-append_seam _ _))

pub returns-clause-grows : goal.returns-clause-grows
returns-clause-grows c =
    rw (c.in_ok-push-2.ensures.items, c.in_ok-append_escaped.ensures.ok, c.in_ok-push.ensures.items, c.in_ok-reserve.ensures.items)
    (grows_more _ _ _ (grows_more _ _ _ (take-append_seam _ _)))
