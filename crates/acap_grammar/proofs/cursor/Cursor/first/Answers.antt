use Rattle.acap_grammar.proofs.Places.{first_of}
use Rattle.acap_grammar.proofs.cursor.Cursor.first.Goals as goal

pub returns-then-at-len : goal.returns-then-at-len
returns-then-at-len c = rw (← c.self.view_is) (first_of c.self.inside.tokens.now c.self.inside.at c.kind.result c.value.result.now c.span-span.result.start c.span-span.result.end c.kind.ensures c.value.ensures c.span-span.ensures.start c.span-span.ensures.end)
