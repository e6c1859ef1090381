-- The keys of a settings file, and which values are good: a
-- document is a list of members, each a key with its value.
use Rattle.std.specs.Prelude.{ℕ, pos, int_le, Bool, true, false, ◌&&◌, ◌||◌, if◌then◌else◌, List, [], ◌∷◌}
use Rattle.std.specs.Prelude.{Option, Some, None, codes}
use Rattle.std.specs.List.{list_any}
use Rattle.std.specs.Option.{option_or}
use Rattle.std.specs.Str.{bytes_eq}
use Rattle.acap_entries.specs.Names.{is_user_name}
use Rattle.toml.specs.Data.{Data, Items, Members, string, integer, array, table, no_items, item, no_members}
use Rattle.toml.specs.Data.{member, get_member}

-- each item of an array passes
abbrev pub all_items : (Data → Bool) → Items → Bool
all_items passes no_items = true
all_items passes (item value more) = passes value && all_items passes more

-- one of the items of an array passes
abbrev pub any_item : (Data → Bool) → Items → Bool
any_item passes no_items = false
any_item passes (item value more) = passes value || any_item passes more

-- each key of a table passes with its value
abbrev pub all_members : (List ℕ → Data → Bool) → Members → Bool
all_members passes no_members = true
all_members passes (member key value more) = passes key value && all_members passes more

abbrev pub is_text : Data → Bool
is_text (string text) = true
is_text _ = false

-- a whole number from the least to the most
abbrev pub is_number : ℕ → ℕ → Data → Bool
is_number least most (integer number) = int_le (pos least) number && int_le number (pos most)
is_number least most _ = false

abbrev pub is_user : Data → Bool
is_user (string name) = is_user_name name
is_user _ = false

-- a list of user names
abbrev pub is_user_list : Data → Bool
is_user_list (array names) = all_items is_user names
is_user_list _ = false

-- a user name with a secret of any length
abbrev pub is_secret : List ℕ → Data → Bool
is_secret name secret = is_user_name name && is_text secret

abbrev pub is_secret_table : Data → Bool
is_secret_table (table users) = all_members is_secret users
is_secret_table _ = false

-- a group name, which has the form of a user name, with its members
abbrev pub is_group : List ℕ → Data → Bool
is_group name members = is_user_name name && is_user_list members

abbrev pub is_group_table : Data → Bool
is_group_table (table groups) = all_members is_group groups
is_group_table _ = false

-- a list with the text `root`
abbrev pub is_root : Data → Bool
is_root (string name) = bytes_eq name (codes "root")
is_root _ = false

abbrev pub has_root : Data → Bool
has_root (array names) = any_item is_root names
has_root _ = false

-- what a key must have, and what it may have
abbrev pub is_there_and_good : (Data → Bool) → Option Data → Bool
is_there_and_good is_good (Some value) = is_good value
is_there_and_good is_good None = false

abbrev pub is_good_if_there : (Data → Bool) → Option Data → Bool
is_good_if_there is_good (Some value) = is_good value
is_good_if_there is_good None = true

-- a start file is a text, and root, by whom its commands are given, is an administrator
abbrev pub start_is_good : Members → Bool
start_is_good settings =
    let root_is_there = is_there_and_good has_root (get_member (codes "administrators") settings) in
    is_good_if_there (λ file. is_text file && root_is_there) (get_member (codes "start") settings)

-- The keys in the order in which they are judged, each with whether what stands there is good.
abbrev pub judged_keys : Members → List (List ℕ × Bool)
judged_keys settings =
    (codes "listen", is_there_and_good is_text (get_member (codes "listen") settings))
    ∷ (codes "host", is_there_and_good is_text (get_member (codes "host") settings))
    ∷ (codes "workers", is_there_and_good (is_number 1 16) (get_member (codes "workers") settings))
    ∷ (codes "turns", is_there_and_good (is_number 1 1_000_000_000) (get_member (codes "turns") settings))
    ∷ (
      codes "sessions",
      is_there_and_good (is_number 0 1_000_000_000) (get_member (codes "sessions") settings),
    )
    ∷ (codes "administrators", is_there_and_good is_user_list (get_member (codes "administrators") settings))
    ∷ (codes "users", is_there_and_good is_secret_table (get_member (codes "users") settings))
    ∷ (codes "start", start_is_good settings)
    ∷ (codes "groups", is_good_if_there is_group_table (get_member (codes "groups") settings))
    ∷ []

-- the first key whose value isn't good
abbrev pub first_failing : List (List ℕ × Bool) → Option (List ℕ)
first_failing [] = None
first_failing (judged ∷ more) = if judged.1 then first_failing more else Some judged.0

abbrev pub failing_key : Members → Option (List ℕ)
failing_key settings = first_failing (judged_keys settings)

-- one of the nine keys
abbrev pub is_known : List ℕ → Bool
is_known key = list_any (λ judged. bytes_eq key judged.0) (judged_keys no_members)

-- the first key that is none of the nine: keys stand in ascending order of their octets
abbrev pub first_unknown : Members → Option (List ℕ)
first_unknown no_members = None
first_unknown (member key value more) = if is_known key then first_unknown more else Some key

-- the key that is reported as bad
abbrev pub bad_key : Members → Option (List ℕ)
bad_key settings = option_or (failing_key settings) (first_unknown settings)
