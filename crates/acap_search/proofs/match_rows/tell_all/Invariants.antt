use Rattle.std.proofs.Common.{◌≡◌, take}
use Rattle.acap_search.specs.Gathering.{rows_at}
use Rattle.acap_search.specs.DatasetCursors.{IsGroundOf}
use Rattle.acap_search.proofs.match_rows.tell_all.Given as goal

abbrev pub invariant-loop-stand : goal.invariant-loop-stand
invariant-loop-stand l = record {
  rows : l.rows.items ≡ rows_at l.search (take l.stand-index l.stands);
  here : IsGroundOf l.search l.here;
}
