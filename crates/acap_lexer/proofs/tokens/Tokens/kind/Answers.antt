use Rattle.std.proofs.Common.{ap}
use Rattle.std.specs.Prelude.{option_map}
use Rattle.acap_lexer.proofs.Places.{token_of_place}
use Rattle.acap_lexer.proofs.tokens.Tokens.kind.Goals as goal

pub returns : goal.returns
returns c = ap (option_map (λ t. t.kind)) (token_of_place _ _ _ _ _ c.self.view_is c.requires c.index.ensures)
