use Rattle.std.proofs.Common.{sym, ◌∙◌}
use Rattle.acap_entries.proofs.TimeLemmas.{twenty_all, civil_by_test}
use Rattle.acap_entries.proofs.times.read_time.Goals as goal

pub read_civil-requires : goal.read_civil-requires
read_civil-requires c = rw c.twenty.ensures (twenty_all c.args.text.now (sym c.are_digits.ensures ∙ c.if-not-are_digits.false))

pub moment_at-requires : goal.moment_at-requires
moment_at-requires c = civil_by_test c.settle-civil.result (sym c.is_civil.ensures ∙ c.if-is_civil.true)
