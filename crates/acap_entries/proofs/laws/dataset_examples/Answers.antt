use Rattle.std.proofs.Common.{refl}
use Rattle.std.specs.Str.{is_utf8, chars}
use Rattle.std.specs.Char.{encode_utf8}
use Rattle.acap_entries.specs.Names.{is_component, components, is_closed_dataset, is_dataset_argument}
use Rattle.acap_entries.proofs.laws.dataset_examples.Goals as goal

pub returns : goal.returns
unfolding is_dataset_argument is_closed_dataset components is_component is_utf8 chars encode_utf8
returns c = record { closed = refl; open_ended = refl; root = refl; sixteen = refl; seventeen = refl; relative = refl; nothing = refl; doubled = refl; dotted = refl; kept = refl; kept_root = refl; kept_open = refl; kept_doubled = refl; kept_dotted = refl }
