use Rattle.std.proofs.Common.{◌≡◌, ◌-◌}
use Rattle.acap_grammar.specs.Series.{over, fits}
use Rattle.acap_grammar.specs.Several.{several}
use Rattle.acap_grammar.proofs.several.several.Given as goal

abbrev pub invariant-loop : goal.invariant-loop
invariant-loop g l = several (over l.series) (fits l.series) g.S.Gather.item (l.room - l.counter) l.all l.cursor ≡ several (over l.series) (fits l.series) g.S.Gather.item l.room l.fn.seen l.initial.cursor
