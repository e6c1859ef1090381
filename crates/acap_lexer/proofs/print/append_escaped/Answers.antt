use Rattle.std.proofs.Common.{refl, append_assoc}
use Rattle.std.proofs.Math.Seq.{take-length}
use Rattle.acap_lexer.proofs.Growing.{grows_more}
use Rattle.acap_lexer.proofs.print.append_escaped.Goals as goal

pub escapes-init : goal.escapes-init
escapes-init c = record { form = refl; grows = take-length _ }

pub returns-in_err-extend_from_slice-clause-grows : goal.returns-in_err-extend_from_slice-clause-grows
returns-in_err-extend_from_slice-clause-grows c = rw c.in_err-extend_from_slice.ensures.items c.escapes.invariant.grows

pub returns-in_err-push-clause-grows : goal.returns-in_err-push-clause-grows
returns-in_err-push-clause-grows c =
    rw (c.in_err-push.ensures.items, c.in_ok-extend_from_slice.ensures.items) (grows_more _ _ _ c.escapes.invariant.grows)

pub returns-in_err-push-2-clause-grows : goal.returns-in_err-push-2-clause-grows
returns-in_err-push-2-clause-grows c =
    rw (c.in_err-push-2.ensures.items, c.in_ok-push.ensures.items, c.in_ok-extend_from_slice.ensures.items)
    (grows_more _ _ _ (grows_more _ _ _ c.escapes.invariant.grows))

pub escapes-preserved : goal.escapes-preserved
escapes-preserved c =
    rw (c.in_ok-push-2.ensures.items, c.in_ok-push.ensures.items, c.in_ok-extend_from_slice.ensures.items)
    (record {
      form = simp append_assoc (rw (← c.in-Some.ensures.form) c.escapes.invariant.form);
      grows = grows_more _ _ _ (grows_more _ _ _ (grows_more _ _ _ c.escapes.invariant.grows));
    })

pub returns-in_err-extend_from_slice-2-clause-grows : goal.returns-in_err-extend_from_slice-2-clause-grows
returns-in_err-extend_from_slice-2-clause-grows c = rw c.in_err-extend_from_slice-2.ensures.items c.escapes.invariant.grows

pub returns-clause-grows : goal.returns-clause-grows
returns-clause-grows c = rw c.in_ok-extend_from_slice-2.ensures.items (grows_more _ _ _ c.escapes.invariant.grows)
