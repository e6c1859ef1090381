-- Keys, orders, scopes and limits, computed from the definitions alone [RFC 2244 sections 3.4 and 6.4.1].
use Rattle.acap_entries.specs.declared.record.Record.{Record}
use Rattle.std.specs.FinMap as map
use Rattle.acap_commands.specs.declared.returns.ReturnName.TheVariants as name
use Rattle.acap_entries.specs.declared.row.Item.TheVariants as item
use Rattle.acap_entries.specs.declared.row.Item.{Item}
use Rattle.acap_commands.specs.declared.returns.Metadata.TheVariants as metadata
use Rattle.acap_commands.specs.declared.returns.Metadata.{Metadata}
use Rattle.acap_search.specs.Rows.{Names, digits, item_of}
use Rattle.std.specs.Prelude.{◌≡◌, ℕ, Bool, true, false, List, [], ◌∷◌, Option, Some, None, codes}
use Rattle.std.specs.Prelude.{if◌then◌else◌, pos, map as each}
use Rattle.std.specs.Ordering.{is_lt}
use Rattle.std.specs.declared.cmp.Ordering.TheVariants.{Less, Equal}
use Rattle.acap_entries.specs.Datasets.{makes_dataset, dataset_exists}
use Rattle.acap_entries.specs.FullPaths.{full_path_cmp}
use Rattle.acap_entries.specs.Orders.{octets_eq}
use Rattle.acap_entries.specs.Store.{Stored, path_cmp}
use Rattle.acap_entries.specs.declared.record.Cell.{Cell}
use Rattle.acap_entries.specs.declared.record.Cell.TheVariants.{Nil, Single, Multi}
use Rattle.acap_entries.specs.declared.path.Path.{Path}
use Rattle.acap_commands.specs.Wanted.{Wanted, One, And, Or, Not}
use Rattle.acap_commands.specs.declared.search_modifiers.Limit.{Limit}
use Rattle.acap_commands.specs.declared.returns.ReturnItem.{ReturnItem}
use Rattle.acap_commands.specs.declared.search_modifiers.SearchModifiers.{SearchModifiers}
use Rattle.acap_commands.specs.declared.test.Relation.{Relation}
use Rattle.acap_commands.specs.declared.test.Relation.TheVariants as relation
use Rattle.acap_commands.specs.declared.test.Test.TheVariants as test
use Rattle.acap_order.specs.Spellings.{ascending, descending}
use Rattle.acap_order.specs.declared.comparator.Collation.{Collation}
use Rattle.acap_order.specs.declared.comparator.Collation.TheVariants.{Octet, AsciiCasemap, AsciiNumeric}
use Rattle.acap_order.specs.declared.comparator.Comparator.{Comparator}
use Rattle.acap_inherit.specs.Chains.{chain_of}
use Rattle.acap_inherit.specs.EntryNames.{names_on}
use Rattle.acap_inherit.specs.Records.{record_at}
use Rattle.acap_inherit.specs.Resolving.{Resolution, lookup}
use Rattle.acap_rights.specs.Deciding.{OfEntry, rights_of}
use Rattle.acap_rights.specs.declared.realm.Realm.{Realm}
use Rattle.acap_rights.specs.Rights.{no_rights, all_rights}
use Rattle.acap_rights.specs.declared.rights.Rights.{Rights}
use Rattle.acap_search.specs.Asking.{asked_of}
use Rattle.acap_search.specs.Cutting.{cut_of}
use Rattle.acap_search.specs.Fresh.{Sight, sight_of, paths_in, tuple_of, fresh_of, refusal_of, has_range}
use Rattle.acap_search.specs.Fresh.{is_over}
use Rattle.acap_search.specs.Keys.{holds}
use Rattle.acap_search.specs.Matches.{Match, match_cmp, sorted_from}
use Rattle.acap_search.specs.Places.{place_in, place_cmp, places_cmp}
use Rattle.acap_search.specs.Scopes.{scope_of, datasets_of, reached_by, is_reached, levels, is_component_name}
use Rattle.acap_search.specs.Scopes.{made_by}
use Rattle.acap_search.specs.Sight.{Answers, answers_at, cell_at, is_held, is_seen, may_read, may_test}
use Rattle.acap_search.specs.Tuples.{name_told, match_of, tuple_for}
use Rattle.acap_search.specs.declared.cutting.Cut.{Cut}
use Rattle.acap_search.specs.declared.query.SearchRequest.{SearchRequest}
use Rattle.acap_search.specs.declared.query.Query.{Query}
use Rattle.acap_search.specs.declared.query.SearchSpec.{SearchSpec}
use Rattle.acap_search.specs.declared.refusal.SearchRefusal.TheVariants as refusal
use Rattle.acap_search.specs.declared.sort_term.SortTerm.TheVariants.{Behind}
use Rattle.acap_search.specs.declared.sort_term.SortTerm.{SortTerm}

-- ---- keys

-- the attributes x and y with these values, x being shown at one level, and y at both
abbrev pub x : List ℕ
x = codes "x"

abbrev pub y : List ℕ
y = codes "y"

abbrev pub value_of : Cell → Cell → List ℕ → Cell
value_of at_x at_y attribute =
    if octets_eq attribute x then at_x else if octets_eq attribute y then at_y else Nil

-- where x may be read, and where it may be tested alone
abbrev pub reading : Cell → Cell → Answers
reading at_x at_y =
    record {
      read = value_of at_x at_y;
      test = value_of at_x at_y;
      acl = λ attribute. None;
      rights = λ attribute. all_rights;
    }

abbrev pub testing : Cell → Cell → Answers
testing at_x at_y =
    record {
      read = value_of Nil at_y;
      test = value_of at_x at_y;
      acl = λ attribute. None;
      rights = λ attribute. no_rights;
    }

abbrev pub key : Relation → Collation → List ℕ → Wanted
key stands collation text = One (test.Meets stands x (ascending collation) text)

abbrev pub is_nil_key : Collation → Wanted
is_nil_key collation = One (test.IsNil x (ascending collation))

abbrev pub wants : Wanted → Answers → Bool
wants wanted answers = holds wanted None answers

abbrev pub range : Wanted
range = One (test.Range 2 3 (pos 0))

pub record KeyExamples : Type 0 where
  -- NIL stands in no relation, so that NOT of it holds
  pub nil : wants (key relation.Equal Octet (codes "1")) (reading Nil Nil) ≡ false
  pub not_nil : wants (Not (key relation.Equal Octet (codes "1"))) (reading Nil Nil) ≡ true
  pub nil_is_nil : wants (is_nil_key Octet) (reading Nil Nil) ≡ true
  pub empty_list : wants (is_nil_key Octet) (reading (Multi []) Nil) ≡ false
  -- what may be tested alone is seen by EQUAL of octets, whatever the sign, and by nothing else
  pub tested : wants (key relation.Equal Octet (codes "1")) (testing (Single (codes "1")) Nil) ≡ true
  pub tested_descending : wants (One (test.Meets relation.Equal x (descending Octet) (codes "1")))
      (testing (Single (codes "1")) Nil) ≡ true
  pub not_tested_by_case : wants (key relation.Equal AsciiCasemap (codes "1"))
      (testing (Single (codes "1")) Nil) ≡ false
  pub not_tested_by_number : wants (key relation.Equal AsciiNumeric (codes "1"))
      (testing (Single (codes "1")) Nil) ≡ false
  pub not_compared : wants (key relation.AtLeast Octet (codes "1")) (testing (Single (codes "1")) Nil) ≡ false
  pub not_begun : wants (key relation.Begins Octet (codes "1")) (testing (Single (codes "1")) Nil) ≡ false
  pub tested_is_not_nil : wants (is_nil_key Octet) (testing (Single (codes "1")) Nil) ≡ false
  pub unread_is_nil : wants (is_nil_key AsciiCasemap) (testing (Single (codes "1")) Nil) ≡ true
  -- equal to the whole string
  pub equal : wants (key relation.Equal AsciiCasemap (codes "ab")) (reading (Single (codes "aB")) Nil) ≡ true
  pub not_equal : wants (key relation.Equal Octet (codes "1")) (reading (Single (codes "12")) Nil) ≡ false
  -- at least, and greater; the other way round with `-`
  pub at_least : wants (key relation.AtLeast AsciiNumeric (codes "9")) (reading (Single (codes "9")) Nil)
      ≡ true
  pub greater : wants (key relation.Greater AsciiNumeric (codes "9")) (reading (Single (codes "9")) Nil)
      ≡ false
  pub by_number : wants (key relation.Greater AsciiNumeric (codes "9")) (reading (Single (codes "10")) Nil)
      ≡ true
  pub by_octets : wants (key relation.Greater Octet (codes "9")) (reading (Single (codes "10")) Nil) ≡ false
  pub descending_order : wants (One (test.Meets relation.Greater x (descending Octet) (codes "9")))
      (reading (Single (codes "10")) Nil) ≡ true
  -- a list stands as one of its strings does
  pub list : wants (key relation.AtLeast Octet (codes "b")) (reading (Multi (codes "a" ∷ codes "c" ∷ [])) Nil)
      ≡ true
  pub no_list : wants (key relation.AtLeast Octet (codes "b")) (reading (Multi (codes "a" ∷ [])) Nil) ≡ false
  pub nothing_in_a_list : wants (key relation.Contains Octet []) (reading (Multi []) Nil) ≡ false
  -- parts
  pub begins : wants (key relation.Begins AsciiCasemap (codes "OPT")) (reading (Single (codes "option")) Nil)
      ≡ true
  pub begins_later : wants (key relation.Begins AsciiCasemap (codes "TION"))
      (reading (Single (codes "option")) Nil) ≡ false
  pub contains : wants (key relation.Contains Octet (codes "tio")) (reading (Single (codes "option")) Nil)
      ≡ true
  pub both : wants (And (key relation.Contains Octet (codes "a")) (key relation.Contains Octet (codes "b")))
      (reading (Single (codes "abc")) Nil) ≡ true
  pub one : wants (Or (key relation.Contains Octet (codes "d")) (key relation.Contains Octet (codes "b")))
      (reading (Single (codes "abc")) Nil) ≡ true
  pub first : wants (Or (key relation.Contains Octet (codes "b")) (key relation.Contains Octet (codes "d")))
      (reading (Single (codes "abc")) Nil) ≡ true
  pub neither : wants (Or (key relation.Contains Octet (codes "d")) (key relation.Contains Octet (codes "e")))
      (reading (Single (codes "abc")) Nil) ≡ false
  pub first_alone : wants
      (And (key relation.Contains Octet (codes "a")) (key relation.Contains Octet (codes "d")))
      (reading (Single (codes "abc")) Nil) ≡ false
  pub second_alone : wants
      (And (key relation.Contains Octet (codes "d")) (key relation.Contains Octet (codes "a")))
      (reading (Single (codes "abc")) Nil) ≡ false
  -- positions
  pub no_position : holds range None (reading Nil Nil) ≡ false
  pub first_position : holds range (Some 2) (reading Nil Nil) ≡ true
  pub last_position : holds range (Some 3) (reading Nil Nil) ≡ true
  pub before : holds range (Some 1) (reading Nil Nil) ≡ false
  pub behind : holds range (Some 4) (reading Nil Nil) ≡ false
  pub range_under_not : has_range (Not (And (One test.All) range)) ≡ true
  pub range_first : has_range (And range (One test.All)) ≡ true
  pub range_under_or : has_range (Or (One test.All) range) ≡ true
  pub no_range : has_range (Not (And (One test.All) (One test.All))) ≡ false

-- ---- orders

abbrev pub sorted_places : Comparator → List Cell → List SortTerm
sorted_places comparator values =
    sorted_from (λ a b. is_lt (place_cmp a b)) (each (place_in comparator) values)

abbrev pub path_of : List ℕ → List ℕ → Path
path_of dataset name = record { dataset = dataset; name = name }

pub record OrderExamples : Type 0 where
  -- numbers by their size, then what is no number, then lists and NIL
  pub numbers : sorted_places (ascending AsciiNumeric)
      (Nil ∷ Single (codes "10") ∷ Single (codes "x") ∷ Multi (codes "1" ∷ []) ∷ Single (codes "009") ∷ [])
      ≡ each (place_in (ascending AsciiNumeric))
      (Single (codes "9") ∷ Single (codes "10") ∷ Single (codes "x") ∷ Nil ∷ Nil ∷ [])
  -- `-` reverses strings, and leaves lists and NIL after
  pub numbers_reversed : sorted_places (descending AsciiNumeric)
      (Nil ∷ Single (codes "10") ∷ Single (codes "x") ∷ Multi (codes "1" ∷ []) ∷ Single (codes "009") ∷ [])
      ≡ each (place_in (descending AsciiNumeric))
      (Single (codes "x") ∷ Single (codes "10") ∷ Single (codes "9") ∷ Nil ∷ Nil ∷ [])
  pub letters : sorted_places (ascending AsciiCasemap)
      (Single (codes "b") ∷ Single (codes "A") ∷ Single (codes "C") ∷ [])
      ≡ each (place_in (ascending AsciiCasemap))
      (Single (codes "a") ∷ Single (codes "B") ∷ Single (codes "c") ∷ [])
  pub octets : sorted_places (ascending Octet)
      (Single (codes "b") ∷ Single (codes "A") ∷ Single (codes "C") ∷ [])
      ≡ each (place_in (ascending Octet)) (Single (codes "A") ∷ Single (codes "C") ∷ Single (codes "b") ∷ [])
  pub alike : place_cmp (place_in (descending Octet) Nil)
      (place_in (descending Octet) (Multi (codes "a" ∷ []))) ≡ Equal
  -- the first item of SORT decides first, and then the second
  pub first_item : places_cmp
      (each (place_in (ascending Octet)) (Single (codes "a") ∷ Single (codes "c") ∷ []))
      (each (place_in (ascending Octet)) (Single (codes "b") ∷ Single (codes "a") ∷ [])) ≡ Less
  pub second_item : places_cmp
      (each (place_in (ascending Octet)) (Single (codes "a") ∷ Single (codes "b") ∷ []))
      (each (place_in (ascending Octet)) (Single (codes "a") ∷ Single (codes "c") ∷ [])) ≡ Less
  -- the full path in octets, which is another order than that by dataset and then by name
  pub paths : full_path_cmp (path_of (codes "/d/") (codes "a")) (path_of (codes "/d/a/") (codes "x")) ≡ Less
  pub paths_beneath : full_path_cmp (path_of (codes "/d/a/") (codes "x")) (path_of (codes "/d/") (codes "b"))
      ≡ Less
  pub paths_beside : full_path_cmp (path_of (codes "/d/") (codes "a!")) (path_of (codes "/d/a/") (codes "x"))
      ≡ Less
  pub datasets_first : path_cmp (path_of (codes "/d/") (codes "b")) (path_of (codes "/d/a/") (codes "x"))
      ≡ Less

-- ---- scopes, names and limits

-- a search that sorts by the attribute x
abbrev pub sorting : SearchSpec
sorting = record {
  dataset = codes "/d/";
  depth = None;
  no_inherit = false;
  key = One test.All;
  sort = Some (record { attribute = x; comparator = ascending Octet } ∷ []);
  returns = None;
}

-- the same with a modifier
abbrev pub deep : Option ℕ → SearchSpec
deep depth = record sorting { depth = depth }

abbrev pub not_inheriting : SearchSpec
not_inheriting = record sorting { no_inherit = true }

abbrev pub d : List ℕ
d = codes "/d/"

-- what a user sees of an entry of the dataset /d/ in the scope of a search
abbrev pub seen_by : Stored → Realm → List ℕ → SearchSpec → List ℕ → Answers
seen_by records realm user sought name =
    (sight_of records realm user (scope_of sought)).answers (path_of d name)

abbrev pub limit : ℕ → ℕ → Option Limit
limit over most = Some (record { over = over; most = most })

abbrev pub cut : ℕ → Option ℕ → Cut
cut told total = record { told = told; total = total }

-- all modifiers of a SEARCH
abbrev pub all_modifiers : SearchModifiers
all_modifiers = record {
  depth = Some 2;
  hard_limit = Some 5;
  limit = limit 3 1;
  make_context = Some (record { enumerate = false; notify = true; name = codes "c" });
  no_inherit = true;
  returns = Some [];
  sort = Some [];
}

abbrev pub asked_with_all : SearchRequest
asked_with_all = record {
  query = record {
    sought = record {
      dataset = codes "/option/user/joe/";
      depth = Some 2;
      no_inherit = true;
      key = One test.All;
      sort = Some [];
      returns = Some [];
    };
    hard_limit = Some 5;
  };
  limit = limit 3 1;
  make_context = Some (record { enumerate = false; notify = true; name = codes "c" });
}

pub record ScopeExamples : Type 0 where
  -- DEPTH counts the searched dataset, and 0 is no bound
  pub one_level : is_reached 1 0 ≡ false
  pub two_levels : is_reached 2 0 ≡ true
  pub two_levels_no_more : is_reached 2 1 ≡ false
  pub all_levels : (level : ℕ) → is_reached 0 level ≡ true
  pub below : levels (codes "b/c/") ≡ 2
  pub same : levels [] ≡ 0
  -- which names make a dataset
  pub management : is_component_name [] ≡ false
  pub slashed : is_component_name (codes "a/b") ≡ false
  pub plain : is_component_name (codes "a") ≡ true
  -- an entry makes a dataset where it is present and its `subdataset` is the list of `.`
  pub made : (e : Record) → e.present ≡ true
      → map.get e.cells (codes "subdataset") ≡ Some (Multi (codes "." ∷ []))
      → made_by (path_of (codes "/d/") (codes "a"), e) ≡ Some (codes "/d/a/")
  pub absent : (e : Record) → e.present ≡ false → made_by (path_of (codes "/d/") (codes "a"), e) ≡ None
  pub without : (e : Record) → map.get e.cells (codes "subdataset") ≡ None
      → made_by (path_of (codes "/d/") (codes "a"), e) ≡ None
  -- a name is sent alone, or with DEPTH the full path
  pub alone : name_told None (path_of (codes "/d/") (codes "a")) ≡ codes "a"
  pub full : name_told (Some 1) (path_of (codes "/d/") (codes "a")) ≡ codes "/d/a"
  -- levels are counted from the searched dataset, and a dataset beside it is not looked through
  pub reached : (e : Record) → makes_dataset e ≡ true
      → reached_by d 2 (path_of d (codes "a"), e) ≡ Some (codes "/d/a/")
  pub unreached : (e : Record) → reached_by d 2 (path_of (codes "/d/a/") (codes "b"), e) ≡ None
  pub beneath_alone : (records : Stored) (e : Record) → makes_dataset e ≡ true
      → map.entries records ≡ (path_of (codes "/c/") (codes "a"), e) ∷ (path_of d (codes "b"), e) ∷ []
      → datasets_of records (scope_of (deep (Some 0))) ≡ d ∷ codes "/d/b/" ∷ []
  pub no_depth : (records : Stored) → datasets_of records (scope_of (deep None)) ≡ d ∷ []
  -- NOINHERIT leaves the dataset alone, and without it the whole chain counts
  pub not_inherited : (records : Stored) (realm : Realm) (user name : List ℕ)
      → seen_by records realm user not_inheriting name ≡ answers_at records realm user d (d ∷ []) name
  pub inherited : (records : Stored) (realm : Realm) (user name : List ℕ)
      → seen_by records realm user sorting name
      ≡ answers_at records realm user d (chain_of records d false) name
  pub names_not_inherited : (records : Stored)
      → paths_in records (scope_of not_inheriting).no_inherit d ≡ each (path_of d) (names_on records (d ∷ []))
  pub names_inherited : (records : Stored)
      → paths_in records (scope_of sorting).no_inherit d
      ≡ each (path_of d) (names_on records (chain_of records d false))
  -- what a SEARCH asks for is all that it says, and `~` is the user's
  pub asked : asked_of (codes "joe") (codes "/option/~/") all_modifiers (One test.All) ≡ asked_with_all

pub record LimitExamples : Type 0 where
  pub unlimited : cut_of None 3 ≡ cut 3 None
  pub not_over : cut_of (limit 3 1) 3 ≡ cut 3 None
  pub over : cut_of (limit 2 1) 3 ≡ cut 1 (Some 3)
  pub none_told : cut_of (limit 0 0) 3 ≡ cut 0 (Some 3)
  pub nothing_found : cut_of (limit 0 0) 0 ≡ cut 0 None
  pub more_told : cut_of (limit 2 5) 3 ≡ cut 3 (Some 3)
  pub hard_zero : is_over (Some 0) 1 ≡ true
  pub hard_nothing : is_over (Some 0) 0 ≡ false
  pub hard_bound : is_over (Some 3) 3 ≡ false
  pub no_hard_limit : (count : ℕ) → is_over None count ≡ false
  -- the first reason is sent, and HARDLIMIT counts the matches
  pub range_here : (records : Stored) (realm : Realm) (user : List ℕ) (query : Query)
      → query.sought.key ≡ range → refusal_of records realm user query ≡ Some refusal.RangeHere
  pub no_dataset : (records : Stored) (realm : Realm) (user : List ℕ) (query : Query)
      → query.sought.key ≡ One test.All → dataset_exists records query.sought.dataset ≡ false
      → refusal_of records realm user query ≡ Some refusal.NoExist
  pub too_many : (records : Stored) (realm : Realm) (user : List ℕ) (query : Query) (a b : Match)
      → query.sought.key ≡ One test.All → dataset_exists records query.sought.dataset ≡ true
      → query.hard_limit ≡ Some 1
      → fresh_of (sight_of records realm user (scope_of query.sought)) query.sought ≡ a ∷ b ∷ []
      → refusal_of records realm user query ≡ Some refusal.WayTooMany
  pub not_too_many : (records : Stored) (realm : Realm) (user : List ℕ) (query : Query) (a b : Match)
      → query.sought.key ≡ One test.All → dataset_exists records query.sought.dataset ≡ true
      → query.hard_limit ≡ Some 2
      → fresh_of (sight_of records realm user (scope_of query.sought)) query.sought ≡ a ∷ b ∷ []
      → refusal_of records realm user query ≡ None

-- ---- what is seen and sent

abbrev pub only : Bool → Bool → Rights
only x r = record { x = x; r = r; w = false; i = false; a = false }

abbrev pub b : List ℕ
b = codes "/b/"

abbrev pub e : List ℕ
e = codes "e"

-- a value that lies in the dataset /b/, by the rights in the searched dataset and in that one
abbrev pub lying_there : Resolution
lying_there = Some (Single (codes "1"), b)

-- an entry of the dataset /d/ has the attribute x from the dataset /b/, where x also has a list; its own
-- record has this list or none; and these are a user's rights on it in either dataset
pub record IsLent (records : Stored) (realm : Realm) (user : List ℕ) (list : Option (List (List ℕ)))
    (in_d in_b : Rights) : Type 0 where
  pub value : lookup records (d ∷ b ∷ []) e x ≡ lying_there
  pub own : (own_record : Record) × (record_at records d e ≡ Some own_record)
      × (map.get own_record.acls x ≡ list)
  pub base : (base_record : Record) × (record_at records b e ≡ Some base_record) × (theirs : List (List ℕ))
      × (map.get base_record.acls x ≡ Some theirs)
  pub here : rights_of records realm user (OfEntry d x e) ≡ in_d
  pub there : rights_of records realm user (OfEntry b x e) ≡ in_b

-- what is answered about it
pub record IsAnswered (records : Stored) (realm : Realm) (user : List ℕ) (value tested : Cell)
    (list : Option (List (List ℕ))) (held : Rights) : Type 0 where
  pub read : (answers_at records realm user d (d ∷ b ∷ []) e).read x ≡ value
  pub test : (answers_at records realm user d (d ∷ b ∷ []) e).test x ≡ tested
  pub acl : (answers_at records realm user d (d ∷ b ∷ []) e).acl x ≡ list
  pub rights : (answers_at records realm user d (d ∷ b ∷ []) e).rights x ≡ held

abbrev pub unseen_name : Answers
unseen_name =
    record {
      read = λ attribute. Nil;
      test = λ attribute. Single (codes "e");
      acl = λ attribute. None;
      rights = λ attribute. all_rights;
    }

-- an entry whose attributes are read like this
abbrev pub naming : (List ℕ → Cell) → Answers
naming read = record unseen_name { read = read }

abbrev pub no_stars : List ℕ → Names
no_stars front = map.empty

abbrev pub match_for : Answers → Match
match_for answers = match_of sorting (path_of (codes "/d/") (codes "e")) answers no_stars

-- two entries of which the first in the order of paths has the greater x
abbrev pub two_seen : Sight
two_seen = record {
  paths = path_of d (codes "a") ∷ path_of d (codes "b") ∷ [];
  answers = λ path. reading (Single (if octets_eq path.name (codes "a") then codes "2" else codes "1")) Nil;
  attributes = λ path. [];
}

-- a search that sorts by two attributes
abbrev pub by_both : SearchSpec
by_both =
    record sorting {
      sort = Some (record { attribute = x; comparator = ascending Octet }
          ∷ record { attribute = y; comparator = descending Octet } ∷ []);
    }

abbrev pub match_at : List ℕ → List ℕ → Match
match_at dataset name =
    record { path = path_of dataset name; places = []; row = record { name = []; items = [] } }

pub record SightExamples : Type 0 where
  -- a right is held in both datasets, and where there is NIL in the searched one alone
  pub read_both : cell_at may_read (only false true) (λ dataset. only false true) lying_there
      ≡ Single (codes "1")
  pub read_here : cell_at may_read (only false true) (λ dataset. only true false) lying_there ≡ Nil
  pub read_there : cell_at may_read (only true false) (λ dataset. only false true) lying_there ≡ Nil
  pub test_here : cell_at may_test (only true false) (λ dataset. only false true) lying_there
      ≡ Single (codes "1")
  pub no_test_there : cell_at may_test (only true false) (λ dataset. only false false) lying_there ≡ Nil
  pub nil_here : is_held may_read (only false true) (λ dataset. only false false) None ≡ true
  pub nil_unread : is_held may_read (only true false) (λ dataset. only true true) None ≡ false
  -- an entry whose name may be tested alone is not seen
  pub unseen : is_seen unseen_name ≡ false
  -- nor one of which all is read but its name, and one of which its name alone is read is seen
  pub unseen_unnamed : is_seen
      (naming (λ attribute. if octets_eq attribute (codes "entry") then Nil else Single (codes "1"))) ≡ false
  pub seen_named : is_seen
      (naming (λ attribute. if octets_eq attribute (codes "entry") then Single e else Nil)) ≡ true
  -- a value is read with the right to read it here and where it lies, tested with less, and its list is sent
  -- with the same right, and never another's
  pub lent : (records : Stored) (realm : Realm) (user : List ℕ) (list : List (List ℕ))
      → IsLent records realm user (Some list) (only false true) (only false true)
      → IsAnswered records realm user (Single (codes "1")) (Single (codes "1")) (Some list) (only false true)
  pub lent_no_list : (records : Stored) (realm : Realm) (user : List ℕ)
      → IsLent records realm user None (only false true) (only false true)
      → IsAnswered records realm user (Single (codes "1")) (Single (codes "1")) None (only false true)
  pub lent_test_here : (records : Stored) (realm : Realm) (user : List ℕ) (list : List (List ℕ))
      → IsLent records realm user (Some list) (only true false) (only false true)
      → IsAnswered records realm user Nil (Single (codes "1")) None (only true false)
  pub lent_test_there : (records : Stored) (realm : Realm) (user : List ℕ) (list : List (List ℕ))
      → IsLent records realm user (Some list) (only false true) (only true false)
      → IsAnswered records realm user Nil (Single (codes "1")) None (only false true)
  pub lent_nothing_here : (records : Stored) (realm : Realm) (user : List ℕ) (list : List (List ℕ))
      → IsLent records realm user (Some list) (only false false) (only true true)
      → IsAnswered records realm user Nil Nil None (only false false)
  pub lent_nothing_there : (records : Stored) (realm : Realm) (user : List ℕ) (list : List (List ℕ))
      → IsLent records realm user (Some list) (only true true) (only false false)
      → IsAnswered records realm user Nil Nil None (only true true)
  -- what may not be read has no place among strings
  pub placed_read : (match_for (reading (Single (codes "1")) Nil)).places
      ≡ place_in (ascending Octet) (Single (codes "1")) ∷ []
  pub placed_unread : (match_for (testing (Single (codes "1")) Nil)).places ≡ Behind ∷ []
  -- each item of SORT has a place
  pub two_places : (match_of by_both (path_of d e) (reading (Single (codes "1")) (Single (codes "2")))
      no_stars).places
      ≡ place_in (ascending Octet) (Single (codes "1")) ∷ place_in (descending Octet) (Single (codes "2"))
      ∷ []
  -- what the key doesn't want is not found
  pub not_wanted : tuple_for (record sorting { key = Not (One test.All) }) None (path_of d e) unseen_name
      no_stars ≡ None
  -- matches are in the order of their places
  pub by_place : each (λ found. found.path) (fresh_of two_seen sorting)
      ≡ path_of d (codes "b") ∷ path_of d (codes "a") ∷ []
  -- without SORT they stay in that of their paths
  pub unsorted : each (λ found. found.path) (fresh_of two_seen (record sorting { sort = None }))
      ≡ path_of d (codes "a") ∷ path_of d (codes "b") ∷ []
  -- a path that isn't in sight has no tuple
  pub out_of_sight : tuple_of two_seen sorting (path_of d (codes "c")) ≡ None
  -- matches with equal places are in the order of their full paths
  pub by_path : match_cmp (match_at (codes "/d/a/") (codes "x")) (match_at (codes "/d/") (codes "b")) ≡ Less

abbrev pub told_item : List Metadata → Cell → Item
told_item metadata value = item_of (reading value Nil) no_stars (name.Named x) metadata

-- what is sent where x may be tested alone
abbrev pub told_tested : List Metadata → Cell → Item
told_tested metadata value = item_of (testing value Nil) no_stars (name.Named x) metadata

-- what is sent of the attributes that begin with x
abbrev pub beginning : ReturnItem
beginning = record { name = name.Beginning x; metadata = metadata.Attribute ∷ metadata.Value ∷ [] }

-- what a search with that in RETURN, and with DEPTH, sends of an entry whose attributes are x and y
abbrev pub listing : SearchSpec
listing = record (deep (Some 1)) { sort = None; returns = Some (beginning ∷ []) }

abbrev pub in_sight : Answers → Sight
in_sight answers =
    record { paths = path_of d e ∷ []; answers = λ path. answers; attributes = λ path. x ∷ y ∷ [] }

abbrev pub list_match : List (List Cell) → Match
list_match attributes =
    record {
      path = path_of d e;
      places = [];
      row = record { name = codes "/d/e"; items = item.PerAttribute attributes ∷ [] };
    }

pub record RowExamples : Type 0 where
  -- one datum bare, several in a parenthesis
  pub one : told_item (metadata.Value ∷ []) (Single (codes "abc")) ≡ item.One (Single (codes "abc"))
  pub two : told_item (metadata.Attribute ∷ metadata.Value ∷ []) (Single (codes "abc"))
      ≡ item.Several (Single x ∷ Single (codes "abc") ∷ [])
  pub nil : told_item (metadata.Value ∷ []) Nil ≡ item.One Nil
  -- NIL has no size, a list those of its strings
  pub size : told_item (metadata.Size ∷ []) (Single (codes "abc")) ≡ item.One (Single (digits 3))
  pub nil_size : told_item (metadata.Size ∷ []) Nil ≡ item.One Nil
  pub sizes : told_item (metadata.Size ∷ []) (Multi (codes "a" ∷ [] ∷ []))
      ≡ item.One (Multi (digits 1 ∷ digits 0 ∷ []))
  pub rights : told_item (metadata.MyRights ∷ []) Nil ≡ item.One (Single (codes "xrwia"))
  pub no_list : told_item (metadata.Acl ∷ []) Nil ≡ item.One Nil
  pub list : (list : List (List ℕ))
      → item_of (record (reading Nil Nil) { acl = λ attribute. Some list }) no_stars (name.Named x)
      (metadata.Acl ∷ []) ≡ item.One (Multi list)
  pub without_rights : told_tested (metadata.MyRights ∷ []) (Single (codes "abc")) ≡ item.One (Single [])
  -- what may be tested alone is sent as NIL
  pub untold : told_tested (metadata.Value ∷ metadata.Size ∷ []) (Single (codes "abc"))
      ≡ item.Several (Nil ∷ Nil ∷ [])
  -- a name with `*` sends the same of each attribute that it lists, whatever their number
  pub star : (stars : List ℕ → Names) → map.keys (stars (codes "x")) ≡ x ∷ codes "xy" ∷ []
      → item_of (reading (Single (codes "1")) Nil) stars (name.Beginning (codes "x"))
      (metadata.Attribute ∷ metadata.Value ∷ [])
      ≡ item.PerAttribute ((Single x ∷ Single (codes "1") ∷ []) ∷ (Single (codes "xy") ∷ Nil ∷ []) ∷ [])
  pub star_of_nothing : (stars : List ℕ → Names) → map.keys (stars (codes "x")) ≡ []
      → item_of (reading Nil Nil) stars (name.Beginning (codes "x")) (metadata.Value ∷ [])
      ≡ item.PerAttribute []
  -- it lists what is read, and not what may be tested alone;
  -- and an entry is sent under its full path with DEPTH
  pub star_read : tuple_of (in_sight (reading (Single (codes "1")) (Single (codes "2")))) listing
      (path_of d e) ≡ Some (list_match ((Single x ∷ Single (codes "1") ∷ []) ∷ []))
  pub star_tested : tuple_of (in_sight (testing (Single (codes "1")) (Single (codes "2")))) listing
      (path_of d e) ≡ Some (list_match [])
