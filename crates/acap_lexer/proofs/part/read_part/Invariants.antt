use Rattle.acap_lexer.specs.Places.{LiesIn}
use Rattle.acap_lexer.proofs.PartLoop.{IsSoFar}
use Rattle.acap_lexer.proofs.part.read_part.Given as goal

abbrev pub invariant-tokens : goal.invariant-tokens
invariant-tokens l = record {
  so_far : IsSoFar l.fn.end l.initial.draft.tokens l.text l.draft.tokens l.left l.counter;
  copied : LiesIn l.draft.text l.behind l.left;
}
