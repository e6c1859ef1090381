use Rattle.std.proofs.Common.{sym}
use Rattle.acap_entries.proofs.FormLemmas.{own_well_formed}
use Rattle.acap_entries.proofs.path.Path.own_entry.Goals as goal

pub of_closed-requires : goal.of_closed-requires
of_closed-requires c =
    let own = (own_well_formed c.args.dataset.now (record { dataset = c.in-Some.parent.now; name = c.in-Some.name.now }) c.requires (sym c.in-Some.ensures.value)).0 in
    record { dataset = own.dataset; name = own.name }
