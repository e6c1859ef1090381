-- The examples, computed.
use Rattle.std.proofs.Common.{◌≡◌, ℕ, Bool, true, false, not, ◌&&◌, cond, List, [], ◌∷◌, length, Option, Some, None, refl, sym, ap, ◌∙◌, arith, codes, map as each}
use Rattle.std.specs.FinMap as map
use Rattle.std.specs.Cmp.Lexicographic.{nat_list_cmp_total}
use Rattle.acap_entries.specs.Datasets.{is_dot_list}
use Rattle.acap_entries.specs.Homes.{for_user, is_home}
use Rattle.acap_entries.specs.Orders.{octets_cmp}
use Rattle.std.specs.Option.{option_and_then}
use Rattle.acap_entries.specs.Store.{Stored}
use Rattle.acap_entries.specs.declared.record.Cell.TheVariants.{Nil, Single}
use Rattle.acap_inherit.specs.Resolving.{lookup}
use Rattle.acap_rights.specs.Deciding.{OfEntry, rights_of}
use Rattle.acap_rights.specs.declared.realm.Realm.{Realm}
use Rattle.acap_rights.specs.declared.rights.Rights.{Rights}
use Rattle.acap_search.specs.Sight.{cell_at, is_held, own_acl, may_read, may_test}
use Rattle.acap_search.specs.Fresh.{has_range, is_over}
use Rattle.acap_search.specs.Matches.{Match, sorted_by}
use Rattle.acap_search.specs.Scopes.{is_component_name, beneath}
use Rattle.acap_search.specs.declared.refusal.SearchRefusal.{SearchRefusal}
use Rattle.acap_search.specs.declared.refusal.SearchRefusal.TheVariants as refusal
use Rattle.acap_search.specs.Rows.{data_of, stars_of}
use Rattle.acap_search.specs.Examples.{KeyExamples, OrderExamples, ScopeExamples, LimitExamples, SightExamples, RowExamples, IsLent, IsAnswered, only, b, d, e, x, reading, testing, list_match, beginning}

pub key_examples : KeyExamples
key_examples = record {
  nil = refl;
  not_nil = refl;
  nil_is_nil = refl;
  empty_list = refl;
  tested = refl;
  tested_descending = refl;
  not_tested_by_case = refl;
  not_tested_by_number = refl;
  not_compared = refl;
  not_begun = refl;
  tested_is_not_nil = refl;
  unread_is_nil = refl;
  equal = refl;
  not_equal = refl;
  at_least = refl;
  greater = refl;
  by_number = refl;
  by_octets = refl;
  descending_order = refl;
  list = refl;
  no_list = refl;
  nothing_in_a_list = refl;
  begins = refl;
  begins_later = refl;
  contains = refl;
  both = refl;
  one = refl;
  first = refl;
  neither = refl;
  first_alone = refl;
  second_alone = refl;
  no_position = refl;
  first_position = refl;
  last_position = refl;
  before = refl;
  behind = refl;
  range_under_not = refl;
  range_first = refl;
  range_under_or = refl;
  no_range = refl;
}

pub order_examples : OrderExamples
order_examples = record {
  numbers = refl;
  numbers_reversed = refl;
  letters = refl;
  octets = refl;
  alike = refl;
  first_item = refl;
  second_item = refl;
  paths = refl;
  paths_beneath = refl;
  paths_beside = refl;
  datasets_first = refl;
}

-- what is not to be stored makes nothing
never : (b : Bool) → cond ((b && false) && is_component_name (codes "a")) (Some (codes "/d/a/")) None ≡ None
never true = refl
never false = refl

pub scope_examples : ScopeExamples
unfolding beneath for_user is_home
scope_examples = record {
  one_level = refl;
  two_levels = refl;
  two_levels_no_more = refl;
  all_levels = λ _. refl;
  below = refl;
  same = refl;
  management = refl;
  slashed = refl;
  plain = refl;
  made = λ e h k i. cond ((h i && is_dot_list (k i)) && is_component_name (codes "a")) (Some (codes "/d/a/")) None;
  absent = λ e h i. cond ((h i && is_dot_list (map.get e.cells (codes "subdataset"))) && is_component_name (codes "a")) (Some (codes "/d/a/")) None;
  without = λ e h. (λ i. cond ((e.present && is_dot_list (h i)) && is_component_name (codes "a")) (Some (codes "/d/a/")) None) ∙ never e.present;
  alone = refl;
  full = refl;
  reached = λ e h i. cond (h i && is_component_name (codes "a")) (Some (codes "/d/a/")) None;
  unreached = λ e. refl;
  beneath_alone = λ records e h k. rw (k, h) refl;
  no_depth = λ records. refl;
  not_inherited = λ records realm user name. refl;
  inherited = λ records realm user name. refl;
  names_not_inherited = λ records. refl;
  names_inherited = λ records. refl;
  asked = refl;
}

-- whether a search is refused, by whether RANGE stands in its key, whether its dataset exists, its HARDLIMIT, and the matches
abbrev judged : Bool → Bool → Option ℕ → List Match → Option SearchRefusal
judged range exists most matches =
    cond range (Some refusal.RangeHere) (cond (not exists) (Some refusal.NoExist) (cond (is_over most (length matches)) (Some refusal.WayTooMany) None))

pub limit_examples : LimitExamples
limit_examples = record {
  unlimited = refl;
  not_over = refl;
  over = refl;
  none_told = refl;
  nothing_found = refl;
  more_told = refl;
  hard_zero = refl;
  hard_nothing = refl;
  hard_bound = refl;
  no_hard_limit = λ _. refl;
  range_here = λ records realm user query k. rw k refl;
  no_dataset = λ records realm user query k e. rw (k, e) refl;
  too_many = λ records realm user query a b k e l f i. judged (has_range (k i)) (e i) (l i) (f i);
  not_too_many = λ records realm user query a b k e l f i. judged (has_range (k i)) (e i) (l i) (f i);
}

-- what is answered about the attribute, by the rights on it in both datasets
at_level : (may : Rights → Bool) (records : Stored) (realm : Realm) (user : List ℕ) (list : Option (List (List ℕ))) (in_d in_b : Rights) → IsLent records realm user list in_d in_b
    → cell_at may (rights_of records realm user (OfEntry d x e)) (λ dataset. rights_of records realm user (OfEntry dataset x e)) (lookup records (d ∷ b ∷ []) e x)
    ≡ cond (may in_d && may in_b) (Single (codes "1")) Nil
at_level may records realm user list in_d in_b h =
    (λ i. cell_at may (h.here i) (λ dataset. rights_of records realm user (OfEntry dataset x e)) (h.value i))
    ∙ (λ i. cond (may in_d && may (h.there i)) (Single (codes "1")) Nil)

answered : (records : Stored) (realm : Realm) (user : List ℕ) (list : Option (List (List ℕ))) (in_d in_b : Rights) → IsLent records realm user list in_d in_b
    → IsAnswered records realm user (cond (may_read in_d && may_read in_b) (Single (codes "1")) Nil) (cond (may_test in_d && may_test in_b) (Single (codes "1")) Nil) (cond (may_read in_d && may_read in_b) list None) in_d
answered records realm user list in_d in_b h = record {
  read = at_level may_read records realm user list in_d in_b h;
  test = at_level may_test records realm user list in_d in_b h;
  acl =
      (λ i. cond (is_held may_read (h.here i) (λ dataset. rights_of records realm user (OfEntry dataset x e)) (h.value i)) (own_acl records d e x) None)
      ∙ (λ i. cond (may_read in_d && may_read (h.there i)) (option_and_then (λ entry. map.get entry.acls x) (h.own.1 i)) None)
      ∙ (λ i. cond (may_read in_d && may_read in_b) (h.own.2 i) None);
  rights = h.here;
}

pub sight_examples : SightExamples
unfolding sorted_by
sight_examples = record {
  read_both = refl;
  read_here = refl;
  read_there = refl;
  test_here = refl;
  no_test_there = refl;
  nil_here = refl;
  nil_unread = refl;
  unseen = refl;
  unseen_unnamed = refl;
  seen_named = refl;
  lent = λ records realm user list h. answered records realm user (Some list) (only false true) (only false true) h;
  lent_no_list = λ records realm user h. answered records realm user None (only false true) (only false true) h;
  lent_test_here = λ records realm user list h. answered records realm user (Some list) (only true false) (only false true) h;
  lent_test_there = λ records realm user list h. answered records realm user (Some list) (only false true) (only true false) h;
  lent_nothing_here = λ records realm user list h. answered records realm user (Some list) (only false false) (only true true) h;
  lent_nothing_there = λ records realm user list h. answered records realm user (Some list) (only true true) (only false false) h;
  placed_read = refl;
  placed_unread = refl;
  two_places = refl;
  not_wanted = refl;
  by_place = refl;
  unsorted = refl;
  out_of_sight = refl;
  by_path = refl;
}

none_of_none : (entries : List (List ℕ × Bool)) → length entries ≡ 0 → entries ≡ []
none_of_none [] h = refl
none_of_none (entry ∷ entries) h = absurd (omega (arith, h))

no_star : map.entries (map.empty {X = Bool} {R = octets_cmp}) ≡ []
no_star = none_of_none _ (sym (map.len-entries map.empty) ∙ map.len-empty octets_cmp Bool)

one_star : map.entries (map.insert (map.empty {R = octets_cmp}) x true) ≡ (x, true) ∷ []
one_star = map.entries-insert nat_list_cmp_total map.empty x true ∙ ap (map.put octets_cmp x true) no_star

pub row_examples : RowExamples
unfolding data_of stars_of
row_examples = record {
  one = refl;
  two = refl;
  nil = refl;
  size = refl;
  nil_size = refl;
  sizes = refl;
  rights = refl;
  no_list = refl;
  list = λ list. refl;
  without_rights = refl;
  untold = refl;
  star = λ stars h. rw h refl;
  star_of_nothing = λ stars h. rw h refl;
  star_read = ap (λ entries. Some (list_match (each (data_of (reading (Single (codes "1")) (Single (codes "2"))) beginning.metadata) (each (λ p. p.0) entries)))) one_star;
  star_tested = ap (λ entries. Some (list_match (each (data_of (testing (Single (codes "1")) (Single (codes "2"))) beginning.metadata) (each (λ p. p.0) entries)))) no_star;
}
