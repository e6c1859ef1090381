use Rattle.std.proofs.Common.{◌≡◌, length}
use Rattle.std.specs.Prelude.{is_some}
use Rattle.acap_grammar.specs.Lines.{texts_of}
use Rattle.acap_client.specs.Arguments.{data_in}
use Rattle.acap_client.proofs.arguments.are_texts.Given as goal

abbrev pub invariant-texts : goal.invariant-texts
invariant-texts l = is_some (texts_of (data_in l.left)) ≡ is_some (texts_of (data_in l.args))

abbrev pub decreases-texts : goal.decreases-texts
decreases-texts l = length (data_in l.left)
