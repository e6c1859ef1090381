use Rattle.std.proofs.Common.{refl}
use Rattle.acap_entries.specs.Names.{dataset_of, name_of}
use Rattle.acap_entries.specs.Homes.{is_home, for_user}
use Rattle.acap_entries.proofs.laws.home_examples.Goals as goal

pub returns : goal.returns
unfolding for_user is_home dataset_of name_of
returns c = record { own = refl; beneath = refl; first_component = refl; third_component = refl; longer = refl; parent = refl; top = refl; root = refl; without_closing_slash = refl; without_beginning_slash = refl; nothing = refl }
