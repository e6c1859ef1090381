use Rattle.std.proofs.Common.{◌≡◌, ◌∙◌, sym, refl, None, Some, set, bytes_eq}
use Rattle.std.specs.List.{position}
use Rattle.acap_client.specs.Keeping.{kept_after, noted}
use Rattle.acap_client.proofs.OneOfMany.{not_held, held_at, ok_there, misfit_there}
use Rattle.acap_client.proofs.contexts.apply.Goals as goal

pub returns-in_default-clause-misfit : goal.returns-in_default-clause-misfit
returns-in_default-clause-misfit c =
    let es = c.args.contexts.now.items in
    let none : None ≡ position (λ e. bytes_eq c.args.context.now e.0) es = rw c.as_slice.ensures.value at (sym c.in_default.is ∙ c.place_of.ensures) in
    (λ e. not_held (kept_after (noted c.args.note.now)) c.args.context.now es none, λ n. refl)

pub returns-clause-ok : goal.returns-clause-ok
returns-clause-ok c =
    let es = c.args.contexts.now.items in
    let d = c.index_mut.result.now in
    let at : Some c.in-Some.at ≡ position (λ e. bytes_eq c.args.context.now e.0) es = rw c.as_slice.ensures.value at c.in-Some.ensures in
    ok_there c.apply.result _ _ (λ kept. set es c.in-Some.at (d.0, kept)) c.apply.new.self (held_at (kept_after (noted c.args.note.now)) c.args.context.now es c.in-Some.at d at c.index_mut.ensures.value) c.apply.ensures.ok

pub returns-clause-misfit : goal.returns-clause-misfit
returns-clause-misfit c =
    let es = c.args.contexts.now.items in
    let d = c.index_mut.result.now in
    let at : Some c.in-Some.at ≡ position (λ e. bytes_eq c.args.context.now e.0) es = rw c.as_slice.ensures.value at c.in-Some.ensures in
    misfit_there _ _ (λ kept. set es c.in-Some.at (d.0, kept)) (held_at (kept_after (noted c.args.note.now)) c.args.context.now es c.in-Some.at d at c.index_mut.ensures.value) c.apply.ensures.misfit
