use Rattle.std.proofs.Common.{◌≡◌, drop}
use Rattle.acap_store.specs.Asking as asking
use Rattle.acap_store.specs.Known.{AreKnown}
use Rattle.acap_store.proofs.permission.check_rights.Given as goal

abbrev pub invariant-loop-entry : goal.invariant-loop-entry
invariant-loop-entry l = record {
  asked : asking.rights_refusal l.by (drop l.entry-index l.entries) ≡ asking.rights_refusal l.by l.entries;
  known : AreKnown l.by l.known.items;
}
