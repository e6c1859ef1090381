use Rattle.std.proofs.Common.{refl}
use Rattle.acap_notices.specs.Client.{listed_after}
use Rattle.acap_notices.proofs.ExampleLemmas.{mapped_again, mapped_unknown, mapped_change_unknown}
use Rattle.acap_notices.proofs.laws.misfit_examples.Goals as goal

pub returns : goal.returns
unfolding listed_after
returns c = record {
  added_at_zero = refl;
  added_past_the_end = refl;
  added_again = refl;
  removed_at_zero = refl;
  removed_past_the_end = refl;
  removed_from_another = refl;
  removed_unknown = refl;
  changed_at_zero = refl;
  changed_past_the_end = refl;
  changed_another = refl;
  changed_to_zero = refl;
  changed_to_past_the_end = refl;
  changed_unknown = refl;
  later_misfit = refl;
  mapped_added_again = mapped_again;
  mapped_removed_unknown = mapped_unknown;
  mapped_changed_unknown = mapped_change_unknown;
}
