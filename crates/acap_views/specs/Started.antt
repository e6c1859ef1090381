-- What a search over a context starts from, as it is lent.
use Rattle.acap_views.specs.Ranging.{Ranged}
use Rattle.acap_views.specs.declared.lent_context.LentContext.{LentContext}

abbrev pub as_ranged : LentContext → Ranged
as_ranged lent =
    record { sought = lent.sought.now; enumerated = lent.enumerated; told = lent.told; shown = lent.shown }
