-- What a search finds, dataset by dataset: words of private contracts.
use Rattle.std.specs.Prelude.{◌+◌, ℕ, List, [], flat_map, length, Option, None, refl}
use Rattle.std.specs.Borrow.{Bor}
use Rattle.std.specs.Coded.{Coded, code_by, coded×, coded_ℕ, coded_list}
use Rattle.std.specs.FinMap as map
use Rattle.std.specs.List.{filter_map, sum_by}
use Rattle.std.specs.Option.{option_map_or}
use Rattle.acap_entries.specs.Store.{Stored}
use Rattle.acap_entries.specs.contracts.path.Path as path
use Rattle.acap_entries.specs.contracts.record.Record as row
use Rattle.acap_entries.specs.declared.path.Path.{Path}
use Rattle.acap_entries.specs.declared.record.Record.{Record}
use Rattle.acap_inherit.specs.EntryNames.{names_on}
use Rattle.acap_rights.specs.contracts.realm.Realm as realm
use Rattle.acap_rights.specs.declared.realm.Realm.{Realm}
use Rattle.acap_search.specs.Fresh.{Sight, sight_of, matches_of, paths_of}
use Rattle.acap_search.specs.Matches.{Match}
use Rattle.acap_search.specs.Scopes.{scope_of, beneath, datasets_of, reached_by}
use Rattle.acap_search.specs.Views.{View, view_of, spot_in, found_at, match_at}
use Rattle.acap_search.specs.Within.{matches_in, numbered_paths, paths_shown, tuple_at, tuple_within}
use Rattle.acap_search.specs.contracts.query.SearchSpec as query
use Rattle.acap_search.specs.declared.query.SearchSpec.{SearchSpec}

-- whose search it is, over which records, and what it looks for
pub record Walk : Type 0 where
  pub records : Stored
  pub realm : Realm
  pub user : List ℕ
  pub sought : SearchSpec

abbrev pub quest_of : Stored → Realm → List ℕ → SearchSpec → Walk
quest_of records realm user sought = record { records = records; realm = realm; user = user; sought = sought }

-- what its user sees in its scope
abbrev pub sight_by : Walk → Sight
sight_by quest = sight_of quest.records quest.realm quest.user (scope_of quest.sought)

-- a dataset in the eyes of its user, along the chain of the dataset
abbrev pub view_in : Walk → List ℕ → View
view_in quest dataset = view_of quest.records quest.realm quest.user quest.sought.no_inherit dataset

-- what is made of the entry at a path, seen and wanted or not
abbrev pub match_in : Walk → Path → Match
match_in quest path = match_at quest.sought (spot_in (view_in quest path.dataset) path.name)

-- what is found at some names of a dataset, and at all of them
abbrev pub hits_at : View → SearchSpec → List (List ℕ) → List Match
hits_at view sought = filter_map (λ name. found_at sought None (spot_in view name))

abbrev pub hits_along : View → SearchSpec → List Match
hits_along view sought = hits_at view sought (names_on view.records view.chain)

unfoldable pub hits_in : Walk → List ℕ → List Match
hits_in quest dataset = hits_along (view_in quest dataset) quest.sought

-- in the dataset that an entry makes, where it is reached
unfoldable pub hits_by : Walk → ℕ → Path × Record → List Match
hits_by quest depth e = option_map_or (hits_in quest) (reached_by quest.sought.dataset depth e) []

-- in all datasets beneath the searched one, in `depth` levels, and in all of the scope
abbrev pub hits_beneath : Walk → ℕ → List Match
hits_beneath quest depth = flat_map (hits_in quest) (beneath quest.records quest.sought.dataset depth)

abbrev pub hits_over : Walk → List Match
hits_over quest = flat_map (hits_in quest) (datasets_of quest.records (scope_of quest.sought))

-- at how many paths a search looks in one dataset, in the one that an entry makes, where it is reached,
-- beneath the searched one in `depth` levels, and in all of the scope
abbrev pub names_count : View → ℕ
names_count view = length (names_on view.records view.chain)

unfoldable pub count_in : Walk → List ℕ → ℕ
count_in quest dataset = names_count (view_in quest dataset)

unfoldable pub count_by : Walk → ℕ → Path × Record → ℕ
count_by quest depth e = option_map_or (count_in quest) (reached_by quest.sought.dataset depth e) 0

abbrev pub count_beneath : Walk → ℕ → ℕ
count_beneath quest depth = sum_by (count_in quest) (beneath quest.records quest.sought.dataset depth)

unfoldable pub count_over : Walk → ℕ
count_over quest = count_in quest quest.sought.dataset
    + option_map_or (count_beneath quest) quest.sought.depth 0

abbrev pub datasets_by : Walk → List (List ℕ)
datasets_by quest = datasets_of quest.records (scope_of quest.sought)

-- over a context, what is made of the entry at a position, of
-- all that it shows, and of these in the order that is asked for
abbrev pub tuple_by : Walk → Option ℕ → Path → Option Match
tuple_by quest = tuple_at (sight_by quest) quest.sought

abbrev pub tuples_by : Walk → List (Bor Match) → List Match
tuples_by quest shown =
    filter_map (tuple_within (sight_by quest) quest.sought) (numbered_paths (paths_shown shown))

abbrev pub matches_among : Walk → List (Bor Match) → List Match
matches_among quest shown = matches_in (sight_by quest) quest.sought (paths_shown shown)

-- which are the paths that it looks at
abbrev pub paths_by : Walk → ℕ
paths_by quest = length (paths_of quest.records (scope_of quest.sought))

-- all matches, in order
abbrev pub matches_by : Walk → List Match
matches_by quest = matches_of quest.records quest.realm quest.user quest.sought

-- how quests are told apart in proofs
abbrev pub quest_code : Coded Walk
quest_code =
    code_by (Stored × (Realm × (List ℕ × SearchSpec)))
    (coded× (map.code path.the_row.coded row.the_row.coded)
    (coded× realm.the_row.coded (coded× (coded_list coded_ℕ) query.the_row.coded)))
    (λ q. (q.records, (q.realm, (q.user, q.sought))))
    (λ p. record { records = p.0; realm = p.1.0; user = p.1.1.0; sought = p.1.1.1 }) (λ _. refl)
