use Rattle.std.proofs.Common.{refl}
use Rattle.std.specs.Str.{is_utf8, chars}
use Rattle.std.specs.Char.{encode_utf8}
use Rattle.acap_entries.specs.Names.{components, is_component, is_identity, is_user_name}
use Rattle.acap_rights.specs.Deciding.{implicit_rights}
use Rattle.acap_rights.specs.Homes.{home_of, is_owner}
use Rattle.acap_rights.specs.Pairs.{is_identifier, pair_of, rights_in}
use Rattle.acap_rights.specs.Realms.{names, is_administrator}
use Rattle.acap_rights.proofs.laws.rights_examples.Goals as goal

pub returns : goal.returns
unfolding rights_in pair_of is_identifier names is_administrator implicit_rights is_owner home_of components is_component is_identity is_user_name is_utf8 chars encode_utf8
returns c = record { own = refl; shared = refl; joined = refl; taken_first = refl; taken_last = refl; taken_between = refl; taken_from_all = refl; taken_from_another = refl; of_another = refl; wrong_strings = refl; wrong_negative = refl; nothing = refl; signed_user = refl; of_administrator = refl; of_owner = refl; of_nobody = refl; of_anyone = refl; of_negative = refl; listed_owner = refl; listed_other = refl; listed_administrator = refl }
