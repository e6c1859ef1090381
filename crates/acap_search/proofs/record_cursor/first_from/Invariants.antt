use Rattle.acap_search.specs.RecordCaches.{AreKept}
use Rattle.acap_search.proofs.record_cursor.first_from.Given as goal

abbrev pub invariant-passed : goal.invariant-passed
invariant-passed l = record { kept : AreKept l.tree.store.records l.dataset l.others }
