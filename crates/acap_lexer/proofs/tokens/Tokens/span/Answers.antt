use Rattle.std.proofs.Common.{ap}
use Rattle.std.specs.Prelude.{option_map}
use Rattle.acap_lexer.proofs.Places.{token_of_place}
use Rattle.acap_lexer.proofs.tokens.Tokens.span.Goals as goal

pub returns-clause-start : goal.returns-clause-start
returns-clause-start c = ap (option_map (λ t. t.start)) (token_of_place _ _ _ _ _ c.self.view_is c.requires c.index-place.ensures)

pub returns-clause-end : goal.returns-clause-end
returns-clause-end c = ap (option_map (λ t. t.end)) (token_of_place _ _ _ _ _ c.self.view_is c.requires c.index-place.ensures)
