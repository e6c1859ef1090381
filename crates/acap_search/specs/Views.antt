-- Who looks at which entry, and what is seen of it: words of contracts.
use Rattle.std.specs.Prelude.{ℕ, Bool, List, [], Option, refl}
use Rattle.std.specs.Coded.{Coded, code_by, coded×, coded_ℕ, coded_list}
use Rattle.std.specs.FinMap as map
use Rattle.std.specs.Option.{unwrap_or}
use Rattle.acap_entries.specs.Store.{Stored}
use Rattle.acap_entries.specs.contracts.path.Path as path
use Rattle.acap_entries.specs.contracts.record.Record as row
use Rattle.acap_entries.specs.declared.record.Cell.{Cell}
use Rattle.acap_entries.specs.declared.row.Item.{Item}
use Rattle.acap_entries.specs.declared.path.Path.{Path}
use Rattle.acap_commands.specs.declared.returns.Metadata.{Metadata}
use Rattle.acap_commands.specs.declared.returns.ReturnItem.{ReturnItem}
use Rattle.acap_commands.specs.declared.search_modifiers.SortItem.{SortItem}
use Rattle.acap_inherit.specs.Chains.{chain_of}
use Rattle.acap_inherit.specs.Records.{record_at}
use Rattle.acap_rights.specs.contracts.realm.Realm as realm
use Rattle.acap_rights.specs.declared.realm.Realm.{Realm}
use Rattle.acap_rights.specs.declared.rights.Rights.{Rights}
use Rattle.acap_search.specs.Matches.{Match}
use Rattle.acap_search.specs.Places.{places_in}
use Rattle.acap_search.specs.Rows.{Names, attributes_at, attributes_in, attributes_on, data_of, item_of}
use Rattle.acap_search.specs.Rows.{items_of, stars_of, stars_from}
use Rattle.acap_search.specs.Sight.{Answers, answers_at, is_readable, own_acl, rights_on}
use Rattle.acap_search.specs.Tuples.{match_of, seen_tuple}
use Rattle.acap_search.specs.declared.query.SearchSpec.{SearchSpec}
use Rattle.acap_search.specs.declared.sort_term.SortTerm.{SortTerm}

-- who looks, at the entries of which dataset, and along which chain
pub record View : Type 0 where
  pub records : Stored
  pub realm : Realm
  pub user : List ℕ
  pub dataset : List ℕ
  pub chain : List (List ℕ)

-- a user, at the entries of a dataset along its chain, or in the dataset alone where nothing is to be
-- inherited
abbrev pub view_of : Stored → Realm → List ℕ → Bool → List ℕ → View
view_of records realm user no_inherit dataset = record {
  records = records;
  realm = realm;
  user = user;
  dataset = dataset;
  chain = chain_of records dataset no_inherit;
}

-- the entry of a name there
pub record Spotted : Type 0 where
  pub by : View
  pub name : List ℕ

abbrev pub spot_in : View → List ℕ → Spotted
spot_in view name = record { by = view; name = name }

abbrev pub path_of : Spotted → Path
path_of spot = record { dataset = spot.by.dataset; name = spot.name }

-- what is seen of it
abbrev pub answers_of : Spotted → Answers
answers_of spot =
    answers_at spot.by.records spot.by.realm spot.by.user spot.by.dataset spot.by.chain spot.name

-- a user's rights on an attribute of the entry of a name, in some dataset
abbrev pub rights_in : View → List ℕ → List ℕ → List ℕ → Rights
rights_in view dataset attribute name = rights_on view.records view.realm view.user attribute name dataset

-- whether what an attribute resolves to may be read, even where it is NIL
abbrev pub is_readable_at : Spotted → List ℕ → Bool
is_readable_at spot =
    is_readable spot.by.records spot.by.realm spot.by.user spot.by.dataset spot.by.chain spot.name

-- the list of an attribute in the record of the searched dataset
abbrev pub acl_at : Spotted → List ℕ → Option (List (List ℕ))
acl_at spot attribute = own_acl spot.by.records spot.by.dataset spot.name attribute

-- where it stands for a SORT
abbrev pub places_at : Spotted → List SortItem → List SortTerm
places_at spot = places_in (answers_of spot).read

abbrev pub standing_at : SearchSpec → Spotted → List SortTerm
standing_at sought spot = places_at spot (unwrap_or sought.sort [])

-- those of some attributes that begin with some octets and have a value that is read, beside what was found
abbrev pub stars_among : Spotted → List ℕ → List (List ℕ) → Names → Names
stars_among spot = stars_from (answers_of spot).read

-- of the attributes in the record of one dataset, and in those along a chain
abbrev pub stars_by : Spotted → List ℕ → List ℕ → Names → Names
stars_by spot front dataset =
    stars_among spot front (attributes_in (record_at spot.by.records dataset spot.name))

abbrev pub stars_along : Spotted → List ℕ → List (List ℕ) → Names → Names
stars_along spot front chain = stars_among spot front (attributes_on spot.by.records spot.name chain)

-- its attributes that begin with some octets and have a value that is read
abbrev pub stars_at : Spotted → List ℕ → Names
stars_at spot = stars_of (answers_of spot).read (attributes_at spot.by.records spot.name spot.by.chain)

-- what is sent of an attribute, and by one item of a RETURN and by all
abbrev pub data_at : Spotted → List Metadata → List ℕ → List Cell
data_at spot = data_of (answers_of spot)

abbrev pub item_at : Spotted → ReturnItem → Item
item_at spot item = item_of (answers_of spot) (stars_at spot) item.name item.metadata

abbrev pub items_at : Spotted → List ReturnItem → List Item
items_at spot = items_of (answers_of spot) (stars_at spot)

-- what a search makes of it, if it is wanted, and where it is seen and wanted
abbrev pub match_at : SearchSpec → Spotted → Match
match_at sought spot = match_of sought (path_of spot) (answers_of spot) (stars_at spot)

abbrev pub found_at : SearchSpec → Option ℕ → Spotted → Option Match
found_at sought place spot = seen_tuple sought place (path_of spot) (answers_of spot) (stars_at spot)

-- how views are told apart in proofs
abbrev pub view_code : Coded View
view_code =
    code_by (Stored × (Realm × (List ℕ × (List ℕ × List (List ℕ)))))
    (coded× (map.code path.the_row.coded row.the_row.coded)
    (coded× realm.the_row.coded
    (coded× (coded_list coded_ℕ) (coded× (coded_list coded_ℕ) (coded_list (coded_list coded_ℕ))))))
    (λ v. (v.records, (v.realm, (v.user, (v.dataset, v.chain)))))
    (λ p. record { records = p.0; realm = p.1.0; user = p.1.1.0; dataset = p.1.1.1.0; chain = p.1.1.1.1 })
    (λ _. refl)

abbrev pub spotted_code : Coded Spotted
spotted_code =
    code_by (View × List ℕ) (coded× view_code (coded_list coded_ℕ)) (λ s. (s.by, s.name))
    (λ p. record { by = p.0; name = p.1 }) (λ _. refl)
