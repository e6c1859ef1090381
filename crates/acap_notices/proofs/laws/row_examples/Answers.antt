use Rattle.std.proofs.Common.{refl}
use Rattle.acap_notices.specs.Client.{listed_after}
use Rattle.acap_notices.proofs.ExampleLemmas.{mixed_mapped}
use Rattle.acap_notices.proofs.laws.row_examples.Goals as goal

pub returns : goal.returns
unfolding listed_after
returns c = record {
  moved_down = refl;
  moved_up = refl;
  mixed = refl;
  mixed_at_any_positions = mixed_mapped;
  at_the_end = refl;
  gone_again = refl;
  first_of_all = refl;
  nothing_told = refl;
}
