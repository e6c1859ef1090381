use Rattle.std.proofs.Common.{◌≡◌, List, length}
use Rattle.acap_lexer.specs.Token.{Token}
use Rattle.acap_grammar.specs.Spelling.{items}
use Rattle.acap_client.specs.Writing.{line_with}
use Rattle.acap_client.proofs.storing.items.Given as goal

abbrev pub invariant-items : goal.invariant-items
invariant-items l = (after : List Token) → line_with l.initial.writing (items l.items after) ≡ line_with l.writing (items l.left after)

abbrev pub decreases-items : goal.decreases-items
decreases-items l = length l.left
