use Rattle.std.specs.Prelude.{◌≡◌, ◌↔◌, drop}
use Rattle.acap_locked.specs.Passes.{items_from}
use Rattle.acap_locked.proofs.closing.agrees.Given as goal

abbrev pub invariant-loop-entry : goal.invariant-loop-entry
invariant-loop-entry l = record {
  here : l.place ≡ l.entry-index;
  same : (l.rest ≡ items_from l.epoch l.seat l.entry-index (drop l.entry-index l.history)) ↔ (l.items ≡ items_from l.epoch l.seat 0 l.history);
}
