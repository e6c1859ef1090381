use Rattle.std.proofs.Common.{sym, ◌∙◌, ap}
use Rattle.std.specs.Ordering.{is_eq}
use Rattle.std.specs.Cmp.Lexicographic.{texts_ties}
use Rattle.acap_entries.proofs.comparing.is_same.Goals as goal

pub returns-then-a-b : goal.returns-then-a-b
returns-then-a-b c = c.is_eq.ensures ∙ ap is_eq c.compare.ensures ∙ sym (texts_ties c.args.a.now c.args.b.now)
