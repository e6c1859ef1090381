use Rattle.std.proofs.Common.{rules, ◌≡◌, ◌∙◌, ap, refl}
use Rattle.std.specs.Prelude.{Err}
use Rattle.std.specs.List.{insert}
use Rattle.acap_client.specs.Arguments.{data_in}
use Rattle.acap_client.specs.Following.{row_of}
use Rattle.acap_notices.specs.declared.held_fault.HeldFault.TheVariants.{Memory}
use Rattle.acap_client.proofs.Placed.{tied_in, placed_in, added_at, add_leads, add_misfits}
use Rattle.acap_client.proofs.by_name.add.Goals as goal

pub returns-then-tied-clause-misfit : goal.returns-then-tied-clause-misfit
returns-then-tied-clause-misfit c =
    let rows = c.args.rows.now.items in
    let row = row_of c.args.name.now (data_in c.args.items.now) in
    let tied = tied_in row.name c.as_slice.result.now rows _ _ c.place_of-at.ensures.tied c.if-tied.true c.as_slice.ensures.value in
    (λ e. add_misfits rows 0 row c.requires tied, λ n. refl)

pub returns-in_err-row-clause-misfit : goal.returns-in_err-row-clause-misfit
returns-in_err-row-clause-misfit c =
    let rows = c.args.rows.now.items in
    let row = row_of c.args.name.now (data_in c.args.items.now) in
    let tied = tied_in row.name c.as_slice.result.now rows _ _ c.place_of-at.ensures.tied c.if-tied.false c.as_slice.ensures.value in
    let leads = add_leads rows 0 row c.requires tied in
    let is : c.from_residual.result ≡ Err Memory = search rules in
    (λ e. absurd (cc (e, is)), λ n. absurd (cc (n, leads)))

pub returns-in_err-insert-clause-misfit : goal.returns-in_err-insert-clause-misfit
returns-in_err-insert-clause-misfit c =
    let rows = c.args.rows.now.items in
    let row = row_of c.args.name.now (data_in c.args.items.now) in
    let tied = tied_in row.name c.as_slice.result.now rows _ _ c.place_of-at.ensures.tied c.if-tied.false c.as_slice.ensures.value in
    let leads = add_leads rows 0 row c.requires tied in
    let is : c.from_residual-in_err-insert.result ≡ Err Memory = search rules in
    (λ e. absurd (cc (e, is)), λ n. absurd (cc (n, leads)))

pub returns-clause-ok : goal.returns-clause-ok
returns-clause-ok c =
    let rows = c.args.rows.now.items in
    let row = row_of c.args.name.now (data_in c.args.items.now) in
    let tied = tied_in row.name c.as_slice.result.now rows _ _ c.place_of-at.ensures.tied c.if-tied.false c.as_slice.ensures.value in
    let at = placed_in row.name c.as_slice.result.now rows _ c.place_of-at.ensures.place c.as_slice.ensures.value in
    let new : c.insert.new.self.items ≡ insert rows c.place_of-at.result.0 row = c.in_ok-insert.ensures.items ∙ ap (insert rows c.place_of-at.result.0) c.in_ok-row.ensures in
    (added_at rows c.insert.new.self.items row _ c.requires tied at new).0

pub returns-clause-misfit : goal.returns-clause-misfit
returns-clause-misfit c =
    let rows = c.args.rows.now.items in
    let row = row_of c.args.name.now (data_in c.args.items.now) in
    let tied = tied_in row.name c.as_slice.result.now rows _ _ c.place_of-at.ensures.tied c.if-tied.false c.as_slice.ensures.value in
    let leads = add_leads rows 0 row c.requires tied in
    (λ e. absurd (cc e), λ n. absurd (cc (n, leads)))

pub returns-clause-order : goal.returns-clause-order
returns-clause-order c =
    let rows = c.args.rows.now.items in
    let row = row_of c.args.name.now (data_in c.args.items.now) in
    let tied = tied_in row.name c.as_slice.result.now rows _ _ c.place_of-at.ensures.tied c.if-tied.false c.as_slice.ensures.value in
    let at = placed_in row.name c.as_slice.result.now rows _ c.place_of-at.ensures.place c.as_slice.ensures.value in
    let new : c.insert.new.self.items ≡ insert rows c.place_of-at.result.0 row = c.in_ok-insert.ensures.items ∙ ap (insert rows c.place_of-at.result.0) c.in_ok-row.ensures in
    (added_at rows c.insert.new.self.items row _ c.requires tied at new).1
