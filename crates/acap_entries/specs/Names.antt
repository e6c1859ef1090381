-- The names of datasets, entries, attributes, users and contexts, as lists of octets
-- [RFC 2244 sections 3.1, 3.1.1, 3.3, 4.1; UTF-8 is that of RFC 3629].
use Rattle.std.specs.Prelude.{ℕ, ◌+◌, ◌-◌, ◌==◌, Bool, true, false, not, ◌&&◌, ◌||◌, nat_le, nat_lt, nat_eq}
use Rattle.std.specs.Prelude.{List, [], ◌∷◌, ◌++◌, length, take, drop, codes, slice_index, Option, Some, None}
use Rattle.std.specs.Prelude.{if◌then◌else◌}
use Rattle.std.specs.List.{list_any, list_all, slice_split, suffix_len, starts_with}
use Rattle.std.specs.Str.{is_utf8}
use Rattle.acap_entries.specs.Orders.{octets_eq}

-- the octets that rules name: `/`, `.`, `*`, `%`, `-`
abbrev pub slash : ℕ
slash = 47

abbrev pub dot : ℕ
dot = 46

abbrev pub star : ℕ
star = 42

abbrev pub percent : ℕ
percent = 37

abbrev pub minus : ℕ
minus = 45

abbrev pub nul : ℕ
nul = 0

abbrev pub tab : ℕ
tab = 9

abbrev pub space : ℕ
space = 32

abbrev pub is_slash : ℕ → Bool
is_slash octet = octet == slash

-- whether the octet stands in the text, at its beginning, at its end
abbrev pub has : ℕ → List ℕ → Bool
has octet text = list_any (λ x. x == octet) text

abbrev pub begins_with : ℕ → List ℕ → Bool
begins_with octet [] = false
begins_with octet (x ∷ xs) = x == octet

abbrev pub ends_with : ℕ → List ℕ → Bool
ends_with octet text = nat_lt 0 (length text) && (slice_index text (length text - 1) == octet)

-- whether the octets are UTF-8 without NUL, and one octet more isn't among them
abbrev pub is_text_without : ℕ → List ℕ → Bool
is_text_without octet text = is_utf8 text && not (has nul text) && not (has octet text)

-- whether a text has from 1 to that many octets
abbrev pub is_sized : ℕ → List ℕ → Bool
is_sized most text = nat_lt 0 (length text) && nat_le (length text) most

-- a component: 1 or more octets of UTF-8 without NUL and `/`, not beginning `.`
unfoldable pub is_component : List ℕ → Bool
is_component text =
    nat_lt 0 (length text) && is_utf8 text && not (has nul text) && not (has slash text)
    && not (begins_with dot text)

-- a component without SP and TAB
abbrev pub is_unbroken_component : List ℕ → Bool
is_unbroken_component text = is_component text && not (has space text) && not (has tab text)

-- the components of a dataset, written with its closing `/`
-- or without: none of `/`, else what stands between slashes
abbrev pub inside : List ℕ → List ℕ
inside text = drop 1 (if ends_with slash text then take (length text - 1) text else text)

unfoldable pub components : List ℕ → List (List ℕ)
components text = if nat_le (length text) 1 then [] else slice_split is_slash (inside text)

-- a dataset, with its closing `/` or without
abbrev pub is_dataset : List ℕ → Bool
is_dataset text = begins_with slash text && list_all is_component (components text)

-- a dataset with its closing `/`, as it is kept
unfoldable pub is_closed_dataset : List ℕ → Bool
is_closed_dataset text = is_dataset text && ends_with slash text

-- with its closing `/`
abbrev pub with_slash : List ℕ → List ℕ
with_slash text = if ends_with slash text then text else text ++ slash ∷ []

-- a path `/c1/../cn/name`: its dataset is all through the last `/`, its entry name the rest
abbrev pub dataset_len : List ℕ → ℕ
dataset_len text = length text - suffix_len (λ octet. not (is_slash octet)) text

unfoldable pub dataset_of : List ℕ → List ℕ
dataset_of text = take (dataset_len text) text

unfoldable pub name_of : List ℕ → List ℕ
name_of text = drop (dataset_len text) text

-- an entry name is a component, or empty: the management entry's
abbrev pub is_entry_name : List ℕ → Bool
is_entry_name text = if length text == 0 then true else is_component text

-- whether they are a dataset as it is kept and an entry name: the parts of a path
abbrev pub are_parts : List ℕ → List ℕ → Bool
are_parts dataset name = is_closed_dataset dataset && is_entry_name name

-- how many components a path has, an entry name that isn't empty counted as one
abbrev pub step_count : List ℕ → ℕ
step_count text = length (components (dataset_of text)) + (if length (name_of text) == 0 then 0 else 1)

-- a path as a client sends it: at most 1,024 octets and 16 components
unfoldable pub is_path : List ℕ → Bool
is_path text =
    nat_le (length text) 1024 && is_dataset (dataset_of text) && is_entry_name (name_of text)
    && nat_le (step_count text) 16

-- a dataset as a client sends it, with its closing `/` or without: at most 1,024 octets and 16 components
unfoldable pub is_dataset_argument : List ℕ → Bool
is_dataset_argument text =
    nat_le (length text) 1024 && is_dataset text && nat_le (length (components text)) 16

-- the name of an attribute: 1 to 200 octets of UTF-8 without NUL, `*` and `%`
unfoldable pub is_attribute : List ℕ → Bool
is_attribute text =
    is_sized 200 text && is_utf8 text && not (has nul text) && not (has star text) && not (has percent text)

-- what stands before a group's name where an access list names its members
abbrev pub group_prefix : List ℕ
group_prefix = codes "group:"

-- what stands for other than one user: `anyone`, `~`, and what begins as a group's identifier
abbrev pub is_reserved : List ℕ → Bool
is_reserved text = octets_eq text (codes "anyone") || octets_eq text (codes "~")
    || starts_with nat_eq text group_prefix

-- the name of a user or a group: a component of at most 64 octets, without SP and TAB, not beginning `-`
unfoldable pub is_identity : List ℕ → Bool
is_identity text =
    is_component text && nat_le (length text) 64 && not (has space text) && not (has tab text)
    && not (begins_with minus text)

-- and not reserved
unfoldable pub is_user_name : List ℕ → Bool
is_user_name text = is_identity text && not (is_reserved text)

-- the name of a context: 1 to 255 octets of UTF-8, not beginning `/`
unfoldable pub is_context_name : List ℕ → Bool
is_context_name text = is_sized 255 text && is_utf8 text && not (begins_with slash text)

-- the own entry of a dataset other than `/`, in its parent: the dataset without its closing `/`, read as a
-- path. Octets without a closing `/`, or without one before it, have none
abbrev pub own_entry : List ℕ → Option (List ℕ × List ℕ)
own_entry dataset =
    let path = take (length dataset - 1) dataset in
    if ends_with slash dataset && ends_with slash (dataset_of path) then Some (dataset_of path, name_of path)
    else None
