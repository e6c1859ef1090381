use Rattle.std.proofs.Common.{◌≡◌, None, subst, sym, ap, ◌∙◌}
use Rattle.std.specs.Prelude.{Err}
use Rattle.std.specs.Result.{result_from_control_flow}
use Rattle.acap_commands.specs.Answers.{IsAnswer, IsCheck}
use Rattle.acap_store.specs.Asking.{terms_refusal}
use Rattle.acap_store.specs.Limits.{gives_large}
use Rattle.acap_store.specs.Planning.{written_at, room_refusal, change_of, planned_for}
use Rattle.acap_store.specs.Writing.{written_for}
use Rattle.acap_store.proofs.RefusalLemmas.{by_terms, by_room, failed_with}
use Rattle.acap_store.proofs.planning.plan_for.Goals as goal

pub returns-in_err-check : goal.returns-in_err-check
returns-in_err-check c =
    let by = c.args.by.now in
    let refusal = c.in_err-check.field-0.0 in
    let failed : c.check.result ≡ Err refusal = c.branch-check.ensures ∙ ap result_from_control_flow c.in_err-check.is in
    let checked : IsCheck (terms_refusal by c.args.meant) (Err refusal) = subst (IsCheck (terms_refusal by c.args.meant)) failed c.check.ensures in
    subst (λ result. IsAnswer result (planned_for by.store by.realm by.user c.args.meant c.args.now)) (sym (failed_with _ refusal c.from_residual.ensures))
    (by_terms by.store by.realm by.user c.args.meant c.args.now refusal checked)

pub returns-in_err-check_room : goal.returns-in_err-check_room
unfolding change_of
returns-in_err-check_room c =
    let by = c.args.by.now in
    let refusal = c.in_err-check_room.field-0.0 in
    let entries = c.args.meant.entries in
    let passed : terms_refusal by c.args.meant ≡ None = subst (IsCheck (terms_refusal by c.args.meant)) (c.branch-check.ensures ∙ ap result_from_control_flow c.in_ok-check.is) c.check.ensures in
    let failed : c.check_room.result ≡ Err refusal = c.branch-check_room.ensures ∙ ap result_from_control_flow c.in_err-check_room.is in
    let moment : c.choose_moment-moment.result ≡ written_at by.store c.args.now = c.choose_moment-moment.ensures ∙ ap (λ a. written_at a.store c.args.now) c.by.view_is in
    let large : c.gives_large-gives_large.result ≡ gives_large entries = cc in
    let writes : c.in_ok-change.change.writes ≡ written_for by.store.records by.user entries (written_at by.store c.args.now) =
    ap (λ change. change.writes) c.in_ok-change.ensures ∙ (λ i. written_for (c.by.view_is i).store.records (c.by.view_is i).user entries (moment i)) in
    let room : IsCheck (room_refusal by.store (gives_large entries) (written_for by.store.records by.user entries (written_at by.store c.args.now)) c.args.now) c.check_room.result =
    subst (λ found. IsCheck found c.check_room.result) (λ i. room_refusal (c.by.view_is i).store (large i) (writes i) c.args.now) c.check_room.ensures in
    subst (λ result. IsAnswer result (planned_for by.store by.realm by.user c.args.meant c.args.now)) (sym (failed_with _ refusal c.from_residual-in_err-check_room.ensures))
    (by_room by.store by.realm by.user c.args.meant c.args.now refusal passed (subst (IsCheck _) failed room))
