use Rattle.acap_grammar.specs.Spelling.{metadata_then}
use Rattle.acap_client.proofs.Each.{IsSoFar}
use Rattle.acap_client.proofs.seeking.metadata_items.Given as goal

abbrev pub invariant-loop-item : goal.invariant-loop-item
invariant-loop-item l = IsSoFar metadata_then l.items l.initial.writing l.item-index l.writing
