use Rattle.acap_grammar.specs.Spelling.{return_item}
use Rattle.acap_client.proofs.Each.{IsSoFar}
use Rattle.acap_client.proofs.seeking.return_items.Given as goal

abbrev pub invariant-loop-item : goal.invariant-loop-item
invariant-loop-item l = IsSoFar return_item l.items l.initial.writing l.item-index l.writing
