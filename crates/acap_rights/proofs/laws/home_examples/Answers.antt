use Rattle.std.proofs.Common.{refl}
use Rattle.std.specs.Str.{is_utf8, chars}
use Rattle.std.specs.Char.{encode_utf8}
use Rattle.acap_entries.specs.Names.{components, is_component, is_identity, is_user_name}
use Rattle.acap_rights.specs.Homes.{home_of, is_owner, default_list}
use Rattle.acap_rights.proofs.laws.home_examples.Goals as goal

pub returns : goal.returns
unfolding home_of is_owner default_list components is_component is_identity is_user_name is_utf8 chars encode_utf8
returns c = record { itself = refl; beneath = refl; open_ended = refl; users = refl; site = refl; first = refl; third = refl; root = refl; relative = refl; owner = refl; no_user = refl; no_name = refl; home = refl; home_beneath = refl; nobodys = refl; anyones = refl; all_users = refl; elsewhere = refl }
