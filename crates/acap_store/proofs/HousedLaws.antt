-- That the dataset of each record exists after a command, as it did before.
use Rattle.std.proofs.Common.{◌≡◌, ℕ, zero, suc, Bool, true, false, cond, ◌||◌, List, [], ◌∷◌, ◌++◌, length, map, Option, Some, None, Ok, refl, sym, ap, subst, ◌∙◌, ℤ}
use Rattle.std.specs.Prelude.{find, codes, option_map}
use Rattle.std.proofs.lemmas.List.Folds.{list_any-append}
use Rattle.std.specs.List.{list_any, list_all}
use Rattle.std.specs.Option.{option_map_or, option_or}
use Rattle.std.specs.FinMap as table
use Rattle.std.specs.FinMap.{get-empty}
use Rattle.std.proofs.lemmas.Bool.{or_right, or_left}
use Rattle.std.specs.Cmp.{first_so, second_so}
use Rattle.acap_entries.specs.Changes.{store_after}
use Rattle.acap_entries.specs.Datasets.{dataset_exists}
use Rattle.acap_entries.specs.Names.{slash, own_entry}
use Rattle.acap_entries.specs.Orders.{octets_eq, octets_cmp}
use Rattle.acap_entries.specs.Sound.{IsHoused}
use Rattle.acap_entries.specs.Store.{Stored, Store, path_cmp, after_edit}
use Rattle.acap_entries.specs.declared.change.Change.{Change}
use Rattle.acap_entries.specs.declared.change.RecordEdit.TheVariants as edit
use Rattle.acap_entries.specs.declared.path.Path.{Path}
use Rattle.acap_entries.specs.declared.record.Record.{Record}
use Rattle.acap_commands.specs.declared.store.StoreEntry.{StoreEntry}
use Rattle.acap_rights.specs.declared.realm.Realm.{Realm}
use Rattle.acap_store.specs.DatasetLaws.{HousedLaw, own_path, way_within, way_to, is_on_way, is_made, reaches_within, is_absolute}
use Rattle.acap_store.specs.Laws.{entries_of}
use Rattle.acap_store.specs.Planning.{plan}
use Rattle.acap_store.specs.Refusing.{same_path}
use Rattle.acap_store.specs.Writing.{missing_for, missing_to, missing_within, own_if_missing, entry_at, step_at, steps_for, record_with_steps, edit_of, deletes, ends, deleted_record, given_record}
use Rattle.acap_store.specs.declared.write.Write.{Write}
use Rattle.acap_store.proofs.DatasetLemmas.{any_own, octets_refl, paths_same, not_root, found_as, found_has}
use Rattle.acap_store.proofs.DatasetLaws.{dataset_law, step_is}
use Rattle.acap_store.proofs.StoreLaws.{path_law}

abbrev root : List ℕ
root = slash ∷ []

-- `/`, or on the way
abbrev at_home : List (List ℕ) → List ℕ → Bool
at_home way d = octets_eq d root || list_any (λ step. octets_eq d step) way

-- a dataset from which `/` is reached is `/`, or on its own way
own_way : (n : ℕ) (x : List ℕ) → reaches_within n x ≡ true → at_home (way_within n x) x ≡ true
own_way zero x = λ e. cc
own_way (suc n) x = elim (own_entry x) as (λ o. octets_eq x root || option_map_or (λ own. reaches_within n own.0) o false ≡ true → octets_eq x root || list_any (λ step. octets_eq x step) (option_map_or (λ o. x ∷ way_within n o.0) o []) ≡ true) [
  | None ↦ λ e. e
  | (Some o) ↦ λ e. or_right (octets_eq x root) _ (or_left (octets_eq x x) _ (octets_refl x x refl))
]

-- so is the dataset of the own entry of each dataset on the way
longer : (x d : List ℕ) (way : List (List ℕ)) → at_home way d ≡ true → at_home (x ∷ way) d ≡ true
longer x d way = elim (octets_eq d root) as (λ b. b || list_any (λ step. octets_eq d step) way ≡ true → b || (octets_eq d x || list_any (λ step. octets_eq d step) way) ≡ true) [
  | true ↦ λ e. refl
  | false ↦ λ e. or_right (octets_eq d x) _ e
]

missing_home : (records : Stored) (n : ℕ) (x : List ℕ) (p : Path) → reaches_within n x ≡ true → list_any (same_path p) (missing_within n records x) ≡ true → at_home (way_within n x) p.dataset ≡ true
missing_home records zero x p = λ r h. cc
missing_home records (suc n) x p = elim (own_entry x) as (λ o. own_entry x ≡ o → octets_eq x root || option_map_or (λ own. reaches_within n own.0) o false ≡ true →
    list_any (same_path p) (option_map_or (λ o. missing_within n records o.0 ++ own_if_missing records x o) o []) ≡ true →
    at_home (option_map_or (λ o. x ∷ way_within n o.0) o []) p.dataset ≡ true) [
      | None ↦ λ q r h. cc
      | (Some o) ↦ λ q r h.
          let up : reaches_within n o.0 ≡ true = sym (ap (λ b. b || reaches_within n o.0) (not_root x o q)) ∙ r in
          let parts = sym (list_any-append (same_path p) (missing_within n records o.0) (own_if_missing records x o)) ∙ h in
          longer x p.dataset (way_within n o.0) (elim (list_any (same_path p) (missing_within n records o.0)) as (λ b. list_any (same_path p) (missing_within n records o.0) ≡ b → b || list_any (same_path p) (own_if_missing records x o) ≡ true → at_home (way_within n o.0) p.dataset ≡ true) [
            | true ↦ λ b g. missing_home records n o.0 p up b
            | false ↦ λ b g.
                let same = paths_same p (own_path o) (first_so _ _ (sym (any_own p (own_path o) (dataset_exists records x)) ∙ g)) in
                ap (λ (q : Path). at_home (way_within n o.0) q.dataset) same ∙ own_way n o.0 up
          ] refl parts)
    ] refl

-- a dataset that is `/` or on the way of one of the entries
abbrev on_some : List StoreEntry → List ℕ → Bool
on_some entries d = octets_eq d root || is_on_way entries d

among_here : (way : List (List ℕ)) (d : List ℕ) (others : Bool) → at_home way d ≡ true → octets_eq d root || (list_any (λ step. octets_eq d step) way || others) ≡ true
among_here way d others = elim (octets_eq d root) as (λ b. b || list_any (λ step. octets_eq d step) way ≡ true → b || (list_any (λ step. octets_eq d step) way || others) ≡ true) [
  | true ↦ λ e. refl
  | false ↦ λ e. or_left _ others e
]

among_others : (here : Bool) (d : List ℕ) (entries : List StoreEntry) → on_some entries d ≡ true → octets_eq d root || (here || is_on_way entries d) ≡ true
among_others here d entries = elim (octets_eq d root) as (λ b. b || is_on_way entries d ≡ true → b || (here || is_on_way entries d) ≡ true) [
  | true ↦ λ e. refl
  | false ↦ λ e. or_right here _ e
]

entry_home : (test : StoreEntry → Bool) (entries : List StoreEntry) (e : StoreEntry) → list_all (λ e. is_absolute e.path.dataset) entries ≡ true → find test entries ≡ Some e → on_some entries e.path.dataset ≡ true
entry_home test [] e h = λ g. cc
entry_home test (x ∷ entries) e h = elim (test x) as (λ b. cond b (Some x) (find test entries) ≡ Some e → on_some (x ∷ entries) e.path.dataset ≡ true) [
  | true ↦ λ g.
      let same : x ≡ e = cc in
      subst (λ (y : StoreEntry). on_some (x ∷ entries) y.path.dataset ≡ true) same
      (among_here (way_to x.path.dataset) x.path.dataset (is_on_way entries x.path.dataset) (own_way (length x.path.dataset) x.path.dataset (first_so _ _ h)))
  | false ↦ λ g. among_others (list_any (λ step. octets_eq e.path.dataset step) (way_to x.path.dataset)) e.path.dataset entries (entry_home test entries e (second_so _ _ h) g)
]

step_home : (records : Stored) (entries : List StoreEntry) (p : Path) → list_all (λ e. is_absolute e.path.dataset) entries ≡ true → list_any (same_path p) (missing_for records entries) ≡ true → on_some entries p.dataset ≡ true
step_home records [] p h g = cc
step_home records (x ∷ entries) p h g =
    let parts = sym (list_any-append (same_path p) (missing_to records x.path.dataset) (missing_for records entries)) ∙ g in
    elim (list_any (same_path p) (missing_to records x.path.dataset)) as (λ b. list_any (same_path p) (missing_to records x.path.dataset) ≡ b → b || list_any (same_path p) (missing_for records entries) ≡ true → on_some (x ∷ entries) p.dataset ≡ true) [
      | true ↦ λ b t. among_here (way_to x.path.dataset) p.dataset (is_on_way entries p.dataset) (missing_home records (length x.path.dataset) x.path.dataset p (first_so _ _ h) b)
      | false ↦ λ b t. among_others (list_any (λ step. octets_eq p.dataset step) (way_to x.path.dataset)) p.dataset entries (step_home records entries p (second_so _ _ h) t)
    ] refl parts

-- ---- what a record is

some_same : (a b : Record) → Some a ≡ Some b → a ≡ b
some_same a b e = cc

by_root : (is_root known way : Bool) → (is_root ≡ true → known ≡ true) → is_root || way ≡ true → known || way ≡ true
by_root true known way f e = ap (λ b. b || way) (f refl)
by_root false known way f e = or_right known way e

-- what an entry writes that isn't present has no `subdataset`
written_absent : (user : List ℕ) (old before : Option Record) (moment : ℤ) (e : StoreEntry) (entry : Record) → after_edit (Some (edit_of user old moment e)) before ≡ Some entry → entry.present ≡ false → table.get entry.cells (codes "subdataset") ≡ None
written_absent user old before moment e entry = elim (deletes e) as (λ b. after_edit (Some (cond b (edit.Put (deleted_record moment)) (cond (ends e) edit.Remove (edit.Put (given_record user e.path old e.items moment))))) before ≡ Some entry → entry.present ≡ false → table.get entry.cells (codes "subdataset") ≡ None) [
  | true ↦ λ h absent. ap (λ (r : Record). table.get r.cells (codes "subdataset")) (sym (some_same (deleted_record moment) entry h)) ∙ get-empty octets_cmp (codes "subdataset")
  | false ↦ elim (ends e) as (λ b. after_edit (Some (cond b edit.Remove (edit.Put (given_record user e.path old e.items moment)))) before ≡ Some entry → entry.present ≡ false → table.get entry.cells (codes "subdataset") ≡ None) [
    | true ↦ λ h absent. cc
    | false ↦ λ h absent. let no : true ≡ false = ap (λ (r : Record). r.present) (some_same (given_record user e.path old e.items moment) entry h) ∙ absent in cc
  ]
]

root_exists : (records : Stored) (d : List ℕ) → octets_eq d root ≡ true → dataset_exists records d ≡ true
root_exists records d e = or_left (octets_eq d root) _ e

module _ (s : Store) (realm : Realm) (user : List ℕ) (write : Write) (now : ℤ) (change : Change) (made : plan s realm user write now ≡ Ok change) (housed : IsHoused s.records) where
  abbrev entries : List StoreEntry
  entries = entries_of s user write

  abbrev after : Stored
  after = (store_after change s).records

  stays : (d : List ℕ) → dataset_exists s.records d ≡ true → dataset_exists after d ≡ true
  stays d e = dataset_law s realm user write now change made housed d ∙ ap (λ b. (b || is_on_way entries d) || is_made entries d) e

  there : (d : List ℕ) → on_some entries d ≡ true → dataset_exists after d ≡ true
  there d e =
      dataset_law s realm user write now change made housed d
      ∙ or_left (dataset_exists s.records d || is_on_way entries d) (is_made entries d) (by_root (octets_eq d root) (dataset_exists s.records d) (is_on_way entries d) (root_exists s.records d) e)

  -- what a record of afterwards is: what an entry or a step wrote, or what was there before
  abbrev pub here : Path → Option StoreEntry → Bool → Option Record
  here p found stepped_there =
      after_edit (option_or (option_map (λ e. edit_of user (record_with_steps s.records (steps_for s.records entries change.moment) e.path) change.moment e) found)
      (cond stepped_there (Some (step_at s.records change.moment p).1) None)) (table.get s.records p)

  pub is_here : (p : Path) → table.get after p ≡ here p (find (λ e. same_path p e.path) entries) (list_any (same_path p) (missing_for s.records entries))
  is_here p =
      path_law s realm user write now change made p
      ∙ ap (λ o. after_edit (option_or o (table.find path_cmp p (map (step_at s.records change.moment) (missing_for s.records entries)))) (table.get s.records p))
      (found_as (λ (e : StoreEntry). e.path) (λ e. (entry_at s.records user (steps_for s.records entries change.moment) change.moment e).1) p entries)
      ∙ ap (λ o. after_edit (option_or (option_map (λ e. edit_of user (record_with_steps s.records (steps_for s.records entries change.moment) e.path) change.moment e) (find (λ e. same_path p e.path) entries)) o) (table.get s.records p))
      (step_is s.records change.moment p (missing_for s.records entries) _ refl)

  home_by : (p : Path) (entry : Record) (found : Option StoreEntry) (b : Bool) → list_all (λ e. is_absolute e.path.dataset) entries ≡ true → find (λ e. same_path p e.path) entries ≡ found → list_any (same_path p) (missing_for s.records entries) ≡ b → here p found b ≡ Some entry → dataset_exists after p.dataset ≡ true
  home_by p entry (Some e) b absolute f m h =
      let same = paths_same p e.path (found_has (λ e. same_path p e.path) entries e f) in
      there p.dataset (ap (λ (q : Path). on_some entries q.dataset) same ∙ entry_home (λ e. same_path p e.path) entries e absolute f)
  home_by p entry None true absolute f m h = there p.dataset (step_home s.records entries p absolute m)
  home_by p entry None false absolute f m h = stays p.dataset (housed.homes p entry h)

  absent_by : (p : Path) (entry : Record) (found : Option StoreEntry) (b : Bool) → here p found b ≡ Some entry → entry.present ≡ false → table.get entry.cells (codes "subdataset") ≡ None
  absent_by p entry (Some e) b h absent = written_absent user (record_with_steps s.records (steps_for s.records entries change.moment) e.path) (table.get s.records p) change.moment e entry h absent
  absent_by p entry None true h absent =
      let same = some_same _ entry h in
      let no : true ≡ false = ap (λ (r : Record). r.present) same ∙ absent in cc
  absent_by p entry None false h absent = housed.absent p entry h absent

pub housed_law : HousedLaw
housed_law = record {
  empty = record {
    homes = λ p entry e. let no : None ≡ Some entry = sym (get-empty path_cmp p) ∙ e in cc;
    absent = λ p entry e absent. let no : None ≡ Some entry = sym (get-empty path_cmp p) ∙ e in cc;
  };
  stays = λ s realm user write now change made housed d e. stays s realm user write now change made housed d e;
  housed = λ s realm user write now change made housed absolute. record {
    homes = λ p entry e. home_by s realm user write now change made housed p entry _ _ absolute refl refl (sym (is_here s realm user write now change made housed p) ∙ e);
    absent = λ p entry e absent. absent_by s realm user write now change made housed p entry (find (λ e. same_path p e.path) (entries_of s user write)) (list_any (same_path p) (missing_for s.records (entries_of s user write))) (sym (is_here s realm user write now change made housed p) ∙ e) absent;
  };
}
