-- The examples, by computation.
use Rattle.std.proofs.Common.{◌≡◌, ℕ, Bool, true, false, not, ◌&&◌, ◌||◌, cond, T, List, [], ◌∷◌, map, Option, Some, refl, sym, ap, ◌∙◌}
use Rattle.std.specs.Prelude.{filter, is_some}
use Rattle.std.specs.Cmp.Lexicographic.{nat_list_cmp_total}
use Rattle.std.specs.Char.{encode_utf8}
use Rattle.std.specs.Str.{is_utf8, chars}
use Rattle.std.specs.List.{list_any, AllByRecursion}
use Rattle.std.specs.List.Sorted.{IsStrictlySortedBy}
use Rattle.std.specs.Ordering.{eq_by_cmp}
use Rattle.std.specs.declared.cmp.Ordering.TheVariants.{Less}
use Rattle.std.specs.FinMap as table
use Rattle.std.specs.FinMap.{get-empty, get-insert, contains_key-keys, entries_sorted, is_sorted}
use Rattle.std.specs.FinMap.Entries.{below_all}
use Rattle.std.proofs.Math.Bool.{and-false, and-true, or-false}
use Rattle.acap_entries.specs.Homes.{is_home, for_user}
use Rattle.acap_entries.specs.Names.{components, is_component, dataset_of, name_of, is_dataset_argument}
use Rattle.acap_entries.specs.Orders.{octets_cmp, octets_eq}
use Rattle.acap_entries.specs.Store.{Stored, path_cmp}
use Rattle.acap_entries.specs.declared.deletions.Deletion.{Deletion}
use Rattle.acap_entries.specs.declared.record.Record.{Record}
use Rattle.acap_ordmap.proofs.Logic.{first_T, second_T, Less_from_T, or_swapped}
use Rattle.acap_rights.specs.Keeping.{target_of_list}
use Rattle.acap_rights.specs.Pairs.{pair_of, is_identifier}
use Rattle.acap_rights.specs.declared.rights.Rights.{Rights}
use Rattle.acap_store.specs.Deleting.{names_deleted, ascending, set_of, with_names, is_told, deleted_in, Names}
use Rattle.acap_store.specs.Examples.{ItemExamples, MeaningExamples, PermissionExamples, LimitExamples, WritingExamples, TellingLaw}
use Rattle.acap_store.specs.Invalid.{is_invalid, invalid}
use Rattle.acap_store.specs.Limits.{is_full_after}
use Rattle.acap_store.specs.Meaning.{meaning}
use Rattle.acap_store.specs.Permission.{denied_in}
use Rattle.acap_store.specs.Refusing.{no_exist, modified}
use Rattle.acap_store.proofs.DatasetLaws.{tie}

pub item_examples : (records : Stored) → ItemExamples records
unfolding invalid is_invalid target_of_list pair_of is_identifier is_dataset_argument components is_component is_utf8 chars encode_utf8
item_examples records = record {
  ordinary = refl;
  told_by_the_server = refl;
  dot = refl;
  its_name = refl;
  no_name = refl;
  lists = refl;
  kept_lists = refl;
  no_lists = refl;
  base = refl;
  beside = λ item. refl;
  above = λ items e same. rw same (ap not (and-false _));
  alike = λ e same none. rw (same, none) refl;
  makes_none = λ none. rw none refl;
  makes_one = λ found some. rw some refl;
  second_item = refl;
}

pub meaning_examples : (records : Stored) → MeaningExamples records
unfolding meaning is_home for_user invalid is_invalid target_of_list
meaning_examples records = record {
  of_dataset = refl;
  of_attribute = refl;
  of_entry = refl;
  taken_off = refl;
  dropped = refl;
  dropped_of_entry = refl;
  entries = λ modifiers items. refl;
  whole = refl;
  stored = refl;
  no_rights = refl;
}

pub permission_examples : PermissionExamples
unfolding target_of_list denied_in
permission_examples = record {
  there = refl;
  not_there = refl;
  over_value = refl;
  over_nil = refl;
  of_list = refl;
  on_value = refl;
  on_dataset = refl;
  on_attribute = refl;
  on_entry = refl;
  on_management = refl;
  on_its_entry = refl;
  first_entry = λ records realm e f r denied. rw denied refl;
  second_entry = λ records realm e f r free denied. rw (free, denied) refl;
  no_entry = λ records realm absent r. rw (absent, r) refl;
  management = λ records realm w. rw w refl;
  nothing_there = λ records realm exists r none i. rw (exists, r, none, i) refl;
  value_there = λ records realm found exists r w some i. rw (exists, r, w, some, i) refl;
  end_there = λ records realm found exists r some. rw (exists, r, some) refl;
  no_a = λ records realm exists r rights. rw (exists, r, rights) refl;
}

pub limit_examples : LimitExamples
unfolding is_full_after no_exist modified
limit_examples = record {
  twice = refl;
  once = refl;
  later = refl;
  octets = refl;
  strings = refl;
  cells_256 = λ r e. rw e refl;
  cells_257 = λ r e. rw e refl;
  records_65536 = λ records w e. rw e refl;
  records_65537 = λ records w e. rw e refl;
  clock_end = λ s written now e. refl;
  not_asked = λ records e no. rw no refl;
  not_created = λ records e f no yes absent. rw (no, yes, absent) refl;
  not_changed = λ records e since asked absent. rw (asked, absent) refl;
  changed = λ records e f no asked exists late. rw (no, asked, exists, late) refl;
  second_large = refl;
  second_crowded = λ written v w both a b. rw (both, a, b) refl;
  crowded = λ records written c. rw c refl;
  full = λ records written c f. rw (c, f) refl;
  long_name = refl;
}

pub writing_examples : WritingExamples
unfolding is_dataset_argument components is_component for_user is_home dataset_of name_of is_utf8 chars encode_utf8
writing_examples = record {
  fresh = λ cells acls moment. refl;
  again = λ cells acls before moment. refl;
  deletes = λ old moment. refl;
  removes = λ old moment. refl;
  default = λ moment. refl;
  keeps = λ old moment. refl;
  keeps_step = λ records p old moment e. rw e refl;
  list_of_entry = λ old moment. refl;
  values = λ cells. refl;
  lists = λ acls. refl;
  base = λ cells. refl;
  no_base = λ cells. refl;
  other_value = λ cells. refl;
  there = λ records dataset own e. rw e refl;
  missing = rw (get-empty {X = Record} path_cmp (record { dataset = 47 ∷ []; name = 97 ∷ [] }), get-empty {X = Record} path_cmp (record { dataset = 47 ∷ 97 ∷ 47 ∷ []; name = 98 ∷ [] })) refl;
}

-- ---- what DELETEDSINCE tells

any_key : (n : List ℕ) (es : List (List ℕ × Unit {0})) → list_any (eq_by_cmp octets_cmp n) (map (λ e. e.0) es) ≡ list_any (octets_eq n) (map (λ e. e.0) es)
any_key n [] = refl
any_key n (e ∷ es) = ap (λ b. b || list_any (eq_by_cmp octets_cmp n) (map (λ e. e.0) es)) (tie n e.0) ∙ ap (λ b. octets_eq n e.0 || b) (any_key n es)

one_name : (b : Bool) (old : Option (Unit {0})) → is_some (cond b (Some tt) old) ≡ (b || is_some old)
one_name true old = refl
one_name false old = refl

has_name : (n : List ℕ) (set : Names) (names : List (List ℕ)) → is_some (table.get (with_names set names) n) ≡ (list_any (octets_eq n) names || is_some (table.get set n))
has_name n set [] = refl
has_name n set (name ∷ names) =
    has_name n (table.insert set name tt) names
    ∙ ap (λ o. list_any (octets_eq n) names || is_some o) (get-insert nat_list_cmp_total set name tt n)
    ∙ ap (λ b. list_any (octets_eq n) names || b) (one_name (eq_by_cmp octets_cmp n name) (table.get set n) ∙ ap (λ b. b || is_some (table.get set n)) (tie n name))
    ∙ or_swapped (list_any (octets_eq n) names) (octets_eq n name) (is_some (table.get set n))

ascending_has : (n : List ℕ) (names : List (List ℕ)) → list_any (octets_eq n) (ascending names) ≡ list_any (octets_eq n) names
unfolding ascending
ascending_has n names =
    sym (any_key n (table.entries (set_of names))) ∙ sym (contains_key-keys (set_of names) n)
    ∙ has_name n table.empty names ∙ ap (λ o. list_any (octets_eq n) names || is_some o) (get-empty octets_cmp n) ∙ or-false _

told_names : (n : List ℕ) (test : Deletion → Bool) (ds : List Deletion) → list_any (octets_eq n) (map (λ d. d.path.name) (filter test ds)) ≡ list_any (λ d. octets_eq n d.path.name && test d) ds
told_names n test [] = refl
told_names n test (d ∷ ds) = elim (test d) as (λ b. list_any (octets_eq n) (map (λ d. d.path.name) (cond b (d ∷ filter test ds) (filter test ds))) ≡ ((octets_eq n d.path.name && b) || list_any (λ d. octets_eq n d.path.name && test d) ds)) [
  | true ↦ ap (λ b. octets_eq n d.path.name || b) (told_names n test ds) ∙ ap (λ b. b || list_any (λ d. octets_eq n d.path.name && test d) ds) (sym (and-true (octets_eq n d.path.name)))
  | false ↦ told_names n test ds ∙ ap (λ b. b || list_any (λ d. octets_eq n d.path.name && test d) ds) (sym (and-false (octets_eq n d.path.name)))
]

all_above : (x : List ℕ) (es : List (List ℕ × Unit {0})) → T (below_all octets_cmp x es) → AllByRecursion (λ y. octets_cmp x y ≡ Less) (map (λ e. e.0) es)
all_above x [] h = tt
all_above x (e ∷ es) h = (Less_from_T _ (first_T _ _ h), all_above x es (second_T _ _ h))

rising : (es : List (List ℕ × Unit {0})) → T (is_sorted octets_cmp es) → IsStrictlySortedBy octets_cmp (map (λ e. e.0) es)
unfolding IsStrictlySortedBy
rising [] h = tt
rising (e ∷ es) h = (all_above e.0 es (first_T _ _ h), rising es (second_T _ _ h))

names_rise : (names : List (List ℕ)) → IsStrictlySortedBy octets_cmp (ascending names)
unfolding ascending
names_rise names = rising (table.entries (set_of names)) (entries_sorted (set_of names))

pub telling_law : TellingLaw
unfolding names_deleted deleted_in is_home for_user
telling_law = record {
  rises = λ s dataset since. names_rise (map (λ d. d.path.name) (filter (is_told s.records dataset since) s.deletions));
  told = λ s dataset name since. ascending_has name (map (λ d. d.path.name) (filter (is_told s.records dataset since) s.deletions)) ∙ told_names name (is_told s.records dataset since) s.deletions;
  no_dataset = λ s realm user dataset since e. rw e refl;
  too_old = λ s realm user dataset since e old. rw (e, old) refl;
  not_readable = λ s realm user dataset since e old r. rw (e, old, r) refl;
  readable = λ s realm user dataset since e old r. rw (e, old, r) refl;
  by_r = λ records realm r. ap (λ (rights : Rights). rights.r) r;
  not_by_others = λ records realm others. ap (λ (rights : Rights). rights.r) others;
  meant = λ s realm since. refl;
  later = λ records absent. rw absent refl;
  elsewhere = λ records. refl;
  there_again = λ records exists. rw exists refl;
  forgotten = λ s e. rw e refl;
  not_forgotten = λ s since e. rw e refl;
}
