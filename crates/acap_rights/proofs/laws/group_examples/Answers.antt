use Rattle.std.proofs.Common.{refl}
use Rattle.std.specs.Str.{is_utf8, chars}
use Rattle.std.specs.Char.{encode_utf8}
use Rattle.acap_entries.specs.Names.{components, is_component, is_identity, is_user_name}
use Rattle.acap_rights.specs.Deciding.{implicit_rights}
use Rattle.acap_rights.specs.Homes.{home_of, is_owner, default_list}
use Rattle.acap_rights.specs.Pairs.{is_identifier, pair_of, rights_in}
use Rattle.acap_rights.specs.Realms.{names, is_administrator}
use Rattle.acap_rights.proofs.laws.group_examples.Goals as goal

pub returns : goal.returns
unfolding rights_in pair_of is_identifier names is_administrator implicit_rights is_owner home_of default_list components is_component is_identity is_user_name is_utf8 chars encode_utf8
returns c = record { member = refl; second_of_a_name = refl; no_member = refl; no_group = refl; empty_group = refl; joined = refl; taken_by_another = refl; taken_first = refl; taken_from_own = refl; taken_from_one = refl; group_alone = refl; twice_grouped = refl; of_administrators = refl; of_owners = refl; of_homes = refl; default_of_homes = refl; listed = refl }
