use Rattle.std.proofs.Common.{◌++◌}
use Rattle.acap_lexer.proofs.Reaching.{reaches_beginning}
use Rattle.acap_lexer.proofs.advance.start.Goals as goal

pub returns-clause-reaches : goal.returns-clause-reaches
returns-clause-reaches c = λ text more. rw c.requires (reaches_beginning c.args.mode (text ++ more))
