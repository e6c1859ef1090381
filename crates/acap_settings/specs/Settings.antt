-- What settings stand for in a document.
use Rattle.std.specs.declared.alloc.Global.{Global}
use Rattle.std.specs.Prelude.{◌≡◌, ℕ, pos, Vec, List, [], ◌∷◌, Option, Some, None, codes, map, option_map}
use Rattle.std.specs.Prelude.{IsSomeAnd}
use Rattle.toml.specs.Data.{Data, Items, Members, string, integer, array, table, no_items, item, no_members}
use Rattle.toml.specs.Data.{member, get_member}
use Rattle.acap_settings.specs.declared.settings.Settings.{Settings}
use Rattle.acap_rights.specs.declared.group.Group.{Group}
use Rattle.acap_settings.specs.declared.fault.SettingsFault.{SettingsFault}
use Rattle.acap_settings.specs.declared.fault.SettingsFault.TheVariants.{NotToml, BadKey}
use Rattle.acap_settings.specs.Keys.{bad_key}
use Rattle.toml.specs.Parse.{parse_document}

-- names as an array of strings
abbrev pub name_items : List (List ℕ) → Items
name_items [] = no_items
name_items (name ∷ more) = item (string name) (name_items more)

-- keys with their values as a table, in its order
abbrev pub table_of : List (List ℕ × Data) → Members
table_of [] = no_members
table_of (entry ∷ more) = member entry.0 entry.1 (table_of more)

-- a list of names
abbrev pub name_list : List (List ℕ) → Data
name_list names = array (name_items names)

-- names with secrets
abbrev pub secret_table : List (List ℕ × List ℕ) → Data
secret_table users = table (table_of (map (λ user. (user.0, string user.1)) users))

-- a user with a secret, as vectors have them
abbrev pub said_user : List ℕ × Vec ℕ Global → List ℕ × Data
said_user user = (user.0, string user.1.items)

-- groups with their members
abbrev pub said_group : Group → List ℕ × Data
said_group group = (group.name, name_list group.members)

abbrev pub group_table : List Group → Data
group_table groups = table (table_of (map said_group groups))

-- No groups stand for a table without any, and for none at all.
abbrev pub AreGroups : Option Data → List Group → Type 0
AreGroups None groups = groups ≡ []
AreGroups (Some value) groups = value ≡ group_table groups

-- Each field is what stands at its key.
pub record AreSettings (said : Members) (settings : Settings) : Type 0 where
  pub listen : get_member (codes "listen") said ≡ Some (string settings.listen)
  pub host : get_member (codes "host") said ≡ Some (string settings.host)
  pub workers : get_member (codes "workers") said ≡ Some (integer (pos settings.workers))
  pub turns : get_member (codes "turns") said ≡ Some (integer (pos settings.turns))
  pub sessions : get_member (codes "sessions") said ≡ Some (integer (pos settings.sessions))
  pub administrators : get_member (codes "administrators") said ≡ Some (name_list settings.administrators)
  pub users : get_member (codes "users") said ≡ Some (secret_table settings.users)
  pub start : get_member (codes "start") said ≡ option_map string settings.start
  pub groups : AreGroups (get_member (codes "groups") said) settings.groups

-- Settings that a text says: those of the document that it is.
abbrev pub AreSaidBy : List ℕ → Settings → Type 0
AreSaidBy text settings = IsSomeAnd (parse_document text) (λ said. AreSettings said settings)

-- Why a text is refused: it is no document, or its first bad key is reported.
abbrev pub fault_of : List ℕ → Option SettingsFault
fault_of text = match_document (parse_document text)
  where
    match_document : Option Members → Option SettingsFault
    match_document None = Some NotToml
    match_document (Some said) = option_map BadKey (bad_key said)
