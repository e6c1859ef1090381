use Rattle.std.proofs.Common.{List, sym, subst, ◌∙◌}
use Rattle.acap_entries.proofs.Equalities.{rows_exact}
use Rattle.acap_entries.specs.declared.row.Row.{Row}
use Rattle.acap_examples.proofs.showing.shows.Goals as goal
use Rattle.acap_notices.specs.Holding.{HasRows}

pub returns : goal.returns
returns g c same = record {
  held = c.in_ok-held.held;
  shows = c.in_ok-held.ensures;
  rows_are = subst (λ (rows : List Row). HasRows c.in_ok-held.held rows) ((rows_exact c.rows.result.now c.args.rows.now).0 (sym c.eq.ensures ∙ same)) c.rows.ensures.rows;
}
