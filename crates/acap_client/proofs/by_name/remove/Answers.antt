use Rattle.std.proofs.Common.{refl}
use Rattle.acap_client.proofs.Placed.{tied_in, placed_in, removed_at, remove_misfits}
use Rattle.acap_client.proofs.by_name.remove.Goals as goal

pub returns-then-not-tied-clause-misfit : goal.returns-then-not-tied-clause-misfit
returns-then-not-tied-clause-misfit c =
    let tied = tied_in c.args.entry.now c.as_slice.result.now c.args.rows.now.items _ _ c.place_of-at.ensures.tied c.if-not-tied.true c.as_slice.ensures.value in
    (λ e. remove_misfits c.args.rows.now.items 0 c.args.entry.now c.requires tied, λ n. refl)

pub returns-clause-ok : goal.returns-clause-ok
returns-clause-ok c =
    let tied = tied_in c.args.entry.now c.as_slice.result.now c.args.rows.now.items _ _ c.place_of-at.ensures.tied c.if-not-tied.false c.as_slice.ensures.value in
    let at = placed_in c.args.entry.now c.as_slice.result.now c.args.rows.now.items _ c.place_of-at.ensures.place c.as_slice.ensures.value in
    (removed_at c.args.rows.now.items c.remove-gone.new.self.items c.args.entry.now _ c.requires tied at c.remove-gone.ensures.items).0

pub returns-clause-misfit : goal.returns-clause-misfit
returns-clause-misfit c =
    let tied = tied_in c.args.entry.now c.as_slice.result.now c.args.rows.now.items _ _ c.place_of-at.ensures.tied c.if-not-tied.false c.as_slice.ensures.value in
    let at = placed_in c.args.entry.now c.as_slice.result.now c.args.rows.now.items _ c.place_of-at.ensures.place c.as_slice.ensures.value in
    let leads = (removed_at c.args.rows.now.items c.remove-gone.new.self.items c.args.entry.now _ c.requires tied at c.remove-gone.ensures.items).0 in
    (λ e. absurd (cc e), λ n. absurd (cc (n, leads)))

pub returns-clause-order : goal.returns-clause-order
returns-clause-order c =
    let tied = tied_in c.args.entry.now c.as_slice.result.now c.args.rows.now.items _ _ c.place_of-at.ensures.tied c.if-not-tied.false c.as_slice.ensures.value in
    let at = placed_in c.args.entry.now c.as_slice.result.now c.args.rows.now.items _ c.place_of-at.ensures.place c.as_slice.ensures.value in
    (removed_at c.args.rows.now.items c.remove-gone.new.self.items c.args.entry.now _ c.requires tied at c.remove-gone.ensures.items).1
