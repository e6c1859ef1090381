-- Lists of values as the arrays and tables that they stand for.
use Rattle.std.proofs.Common.{◌&&◌, Bor, ◌≡◌, ℕ, Bool, true, List, [], ◌∷◌, String, Global, string_bytes, map, refl, ap, sym, ◌∙◌}
use Rattle.std.specs.List.{AllPass, list_all}
use Rattle.std.proofs.lemmas.List.Sums.{AllPass-from_list_all}
use Rattle.toml.specs.Data.{Data, string, table, item, member}
use Rattle.toml.specs.View.{view, items_of, items_view, members_view}
use Rattle.toml.specs.declared.value.Value.{Value}
use Rattle.acap_settings.specs.Keys.{is_user, is_secret, is_group, is_secret_table, is_group_table, all_items, all_members}
use Rattle.acap_settings.specs.Members.{member_of, octets_and_data}
use Rattle.acap_settings.specs.Settings.{name_items, table_of}
use Rattle.acap_settings.proofs.Views.{all_items_view}

pub name_items_lem : (names : List (List ℕ)) → name_items names ≡ items_of (map string names)
name_items_lem [] = refl
name_items_lem (name ∷ more) = ap (λ d. item (string name) d) (name_items_lem more)

pub users_pass : (names : List Value) → all_items is_user (items_view names) ≡ true → AllPass (λ name. is_user (view name)) names
users_pass names e = AllPass-from_list_all (λ name. is_user (view name)) names (sym (all_items_view is_user names) ∙ e)

-- the same values make the same array
pub users_said : (names : List Value) (users : List (List ℕ)) → map view names ≡ map string users → items_view names ≡ name_items users
users_said names users e = ap items_of e ∙ sym (name_items_lem users)

abbrev pub Lent : Type 0
Lent = Bor (String Global) × Bor Value

members_pass : (test : List ℕ → Data → Bool) (pairs : List Lent) → all_members test (members_view (map member_of pairs)) ≡ list_all (λ pair. test (string_bytes pair.0.now) (view pair.1.now)) pairs
members_pass test [] = refl
members_pass test (pair ∷ more) = ap (λ b. test (string_bytes pair.0.now) (view pair.1.now) && b) (members_pass test more)

pub secrets_pass : (entries : List (String Global × Value)) (pairs : List Lent) → map member_of pairs ≡ entries → is_secret_table (table (members_view entries)) ≡ true → AllPass (λ pair. is_secret (string_bytes pair.0.now) (view pair.1.now)) pairs
secrets_pass entries pairs e h =
    AllPass-from_list_all (λ pair. is_secret (string_bytes pair.0.now) (view pair.1.now)) pairs (sym (members_pass is_secret pairs) ∙ ap (λ es. is_secret_table (table (members_view es))) e ∙ h)

pub groups_pass : (entries : List (String Global × Value)) (pairs : List Lent) → map member_of pairs ≡ entries → is_group_table (table (members_view entries)) ≡ true → AllPass (λ pair. is_group (string_bytes pair.0.now) (view pair.1.now)) pairs
groups_pass entries pairs e h =
    AllPass-from_list_all (λ pair. is_group (string_bytes pair.0.now) (view pair.1.now)) pairs (sym (members_pass is_group pairs) ∙ ap (λ es. is_group_table (table (members_view es))) e ∙ h)

table_said_lem : (pairs : List Lent) → members_view (map member_of pairs) ≡ table_of (map octets_and_data pairs)
table_said_lem [] = refl
table_said_lem (pair ∷ more) = ap (λ ms. member (string_bytes pair.0.now) (view pair.1.now) ms) (table_said_lem more)

-- members that are lent stand for the same table
pub table_said : (entries : List (String Global × Value)) (pairs : List Lent) (said : List (List ℕ × Data)) → map member_of pairs ≡ entries → map octets_and_data pairs ≡ said → members_view entries ≡ table_of said
table_said entries pairs said e s = ap members_view (sym e) ∙ table_said_lem pairs ∙ ap table_of s
