use Rattle.std.proofs.Common.{◌≡◌, ◌∙◌, sym, ap, get_or, Some, true, false}
use Rattle.acap_entries.specs.Orders.{octets_cmp}
use Rattle.acap_ordmap.specs.Sorted.{is_tied}
use Rattle.acap_client.specs.Placing.{keyed}
use Rattle.acap_client.proofs.Placed.{held_there, held_not}
use Rattle.acap_client.proofs.by_name.find.Goals as goal

pub returns-then-tied : goal.returns-then-tied
returns-then-tied c =
    let rows = c.args.rows.now in
    let tied : is_tied octets_cmp c.args.entry.now (keyed rows) ≡ true = sym c.place_of-at.ensures.tied ∙ c.if-tied.true in
    ap Some (c.index-rows-at.is ∙ ap (λ i. get_or rows i c.index-rows-at.result) c.place_of-at.ensures.place) ∙ sym (held_there rows c.args.entry.now c.index-rows-at.result c.requires tied)

pub returns-else-tied : goal.returns-else-tied
returns-else-tied c =
    let tied : is_tied octets_cmp c.args.entry.now (keyed c.args.rows.now) ≡ false = sym c.place_of-at.ensures.tied ∙ c.if-tied.false in
    sym (held_not c.args.rows.now c.args.entry.now c.requires tied)
