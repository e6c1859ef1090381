-- That commands leave sound stores.
use Rattle.std.proofs.Common.{◌≡◌, ℕ, zero, suc, ℤ, Bool, true, false, cond, List, [], ◌∷◌, ◌++◌, map, Option, Some, None, Ok, refl, sym, ap, subst, ◌∙◌}
use Rattle.std.specs.Prelude.{find}
use Rattle.std.specs.List.{list_any, list_all}
use Rattle.std.specs.Option.{option_map_or}
use Rattle.std.specs.FinMap.{get-empty}
use Rattle.std.proofs.lemmas.List.Folds.{list_any-append}
use Rattle.std.specs.Cmp.{first_so, second_so}
use Rattle.std.proofs.lemmas.Bool.{and_from}
use Rattle.acap_entries.proofs.FormLemmas.{closed_begins, closed_ends, meant_closed, own_well_formed}
use Rattle.acap_entries.proofs.Formed.{formed}
use Rattle.acap_entries.specs.Changes.{store_after}
use Rattle.acap_entries.specs.Datasets.{dataset_exists}
use Rattle.acap_entries.specs.FullPaths.{IsWellFormed, is_well_formed}
use Rattle.acap_entries.specs.Names.{slash, begins_with, ends_with, is_closed_dataset, is_user_name, own_entry}
use Rattle.acap_entries.specs.Sound.{IsSoundStore}
use Rattle.acap_entries.specs.Store.{Stored, Store, path_cmp}
use Rattle.acap_entries.specs.declared.change.Change.{Change}
use Rattle.acap_entries.specs.declared.path.Path.{Path}
use Rattle.acap_entries.specs.declared.record.Record.{Record}
use Rattle.acap_ordmap.proofs.Logic.{true_cases}
use Rattle.acap_commands.specs.declared.object_name.ObjectName.{ObjectName}
use Rattle.acap_commands.specs.declared.object_name.ObjectName.TheVariants as object_name
use Rattle.acap_commands.specs.declared.store.StoreEntry.{StoreEntry}
use Rattle.acap_rights.specs.declared.realm.Realm.{Realm}
use Rattle.acap_store.specs.DatasetLaws.{SoundLaw, own_path, is_absolute, paths_named}
use Rattle.acap_store.specs.Laws.{entries_of}
use Rattle.acap_store.specs.Meaning.{entries_for, list_path, meaning, path_for, target_for, target_in}
use Rattle.acap_store.specs.Planning.{plan}
use Rattle.acap_store.specs.Refusing.{same_path}
use Rattle.acap_store.specs.Writing.{missing_for, missing_to, missing_within, own_if_missing}
use Rattle.acap_store.specs.declared.write.Write.{Write}
use Rattle.acap_store.specs.declared.write.Write.TheVariants as write
use Rattle.acap_store.proofs.DatasetLemmas.{any_own, paths_same, found_has}
use Rattle.acap_store.proofs.HousedLaws.{housed_law, is_here, here}
use Rattle.acap_store.proofs.RootLemmas.{root_law}

-- ---- paths that commands name

opened : (p : Path) → is_well_formed p ≡ true → begins_with slash p.dataset ≡ true
opened p h = closed_begins p.dataset (first_so _ _ h)

closed : (p : Path) → is_well_formed p ≡ true → ends_with slash p.dataset ≡ true
closed p h = closed_ends p.dataset (first_so _ _ h)

-- what a user means by them is well formed too
meant_formed : (user : List ℕ) (p : Path) → is_user_name user ≡ true → is_well_formed p ≡ true → is_well_formed (path_for user p) ≡ true
meant_formed user p u h = and_from _ _ (meant_closed user p.dataset u (first_so _ _ h)) (second_so _ _ h)

all_meant : (user : List ℕ) (entries : List StoreEntry) → is_user_name user ≡ true → list_all is_well_formed (map (λ e. e.path) entries) ≡ true → list_all (λ e. is_well_formed e.path) (entries_for user entries) ≡ true
all_meant user [] u h = refl
all_meant user (e ∷ entries) u h = and_from _ _ (meant_formed user e.path u (first_so _ _ h)) (all_meant user entries u (second_so _ _ h))

path_meant : (user : List ℕ) (object : ObjectName) → path_for user (list_path (target_in object)) ≡ list_path (target_for user object)
path_meant user (object_name.Dataset dataset) = refl
path_meant user (object_name.Attribute dataset attribute) = refl
path_meant user (object_name.Entry dataset attribute name) = refl

list_meant : (user : List ℕ) (object : ObjectName) → is_user_name user ≡ true → list_all is_well_formed (list_path (target_in object) ∷ []) ≡ true → list_all is_well_formed (list_path (target_for user object) ∷ []) ≡ true
list_meant user object u h =
    and_from _ _ (ap is_well_formed (sym (path_meant user object)) ∙ meant_formed user (list_path (target_in object)) u (first_so _ _ h)) refl

-- so are the paths of its entries
entries_formed : (records : Stored) (user : List ℕ) (sent : Write) → is_user_name user ≡ true → list_all is_well_formed (paths_named sent) ≡ true → list_all (λ e. is_well_formed e.path) (meaning records user sent).entries ≡ true
unfolding meaning
entries_formed records user (write.Store entries) u h = all_meant user entries u h
entries_formed records user (write.SetAcl object identifier letters) u h = list_meant user object u h
entries_formed records user (write.DeleteAcl object (Some identifier)) u h = list_meant user object u h
entries_formed records user (write.DeleteAcl object None) u h = list_meant user object u h

all_absolute : (entries : List StoreEntry) → list_all (λ e. is_well_formed e.path) entries ≡ true → list_all (λ e. is_absolute e.path.dataset) entries ≡ true
all_absolute [] h = refl
all_absolute (e ∷ entries) h = and_from _ _ (root_law.closed e.path.dataset (opened e.path (first_so _ _ h)) (closed e.path (first_so _ _ h))) (all_absolute entries (second_so _ _ h))

found_formed : (test : StoreEntry → Bool) (entries : List StoreEntry) (e : StoreEntry) → list_all (λ e. is_well_formed e.path) entries ≡ true → find test entries ≡ Some e → is_well_formed e.path ≡ true
found_formed test [] e h = λ g. cc
found_formed test (x ∷ entries) e h = elim (test x) as (λ b. cond b (Some x) (find test entries) ≡ Some e → is_well_formed e.path ≡ true) [
  | true ↦ λ g. let same : x ≡ e = cc in ap (λ (y : StoreEntry). is_well_formed y.path) (sym same) ∙ first_so _ _ h
  | false ↦ λ g. found_formed test entries e (second_so _ _ h) g
]

-- ---- the own entries of missing datasets

missing_formed : (records : Stored) (n : ℕ) (x : List ℕ) (p : Path) → is_closed_dataset x ≡ true → list_any (same_path p) (missing_within n records x) ≡ true → IsWellFormed p
missing_formed records zero x p c = λ h. cc
missing_formed records (suc n) x p c = elim (own_entry x) as (λ o. own_entry x ≡ o → list_any (same_path p) (option_map_or (λ o. missing_within n records o.0 ++ own_if_missing records x o) o []) ≡ true → IsWellFormed p) [
  | None ↦ λ q h. cc
  | (Some o) ↦ λ q h.
      let own = (own_well_formed x (own_path o) c q).0 in
      true_cases _ _ (sym (list_any-append (same_path p) (missing_within n records o.0) (own_if_missing records x o)) ∙ h)
      (missing_formed records n o.0 p own.dataset)
      (λ g. subst IsWellFormed (sym (paths_same p (own_path o) (first_so _ _ (sym (any_own p (own_path o) (dataset_exists records x)) ∙ g)))) own)
] refl

step_formed : (records : Stored) (entries : List StoreEntry) (p : Path) → list_all (λ e. is_well_formed e.path) entries ≡ true → list_any (same_path p) (missing_for records entries) ≡ true → IsWellFormed p
step_formed records [] p all h = cc
step_formed records (x ∷ entries) p all h =
    true_cases _ _ (sym (list_any-append (same_path p) (missing_to records x.path.dataset) (missing_for records entries)) ∙ h)
    (missing_formed records _ x.path.dataset p (first_so _ _ (first_so _ _ all))) (step_formed records entries p (second_so _ _ all))

module _ (s : Store) (realm : Realm) (user : List ℕ) (sent : Write) (now : ℤ) (change : Change) (made : plan s realm user sent now ≡ Ok change) (sound : IsSoundStore s.records) (by_name : is_user_name user ≡ true) (named : list_all is_well_formed (paths_named sent) ≡ true) where
  formed_by : (p : Path) (entry : Record) (found : Option StoreEntry) (b : Bool) → find (λ e. same_path p e.path) (entries_of s user sent) ≡ found → list_any (same_path p) (missing_for s.records (entries_of s user sent)) ≡ b
      → here s realm user sent now change made sound.housed p found b ≡ Some entry → IsWellFormed p
  formed_by p entry (Some e) b f m h =
      let same = paths_same p e.path (found_has (λ e. same_path p e.path) (entries_of s user sent) e f) in
      formed p (ap is_well_formed same ∙ found_formed (λ e. same_path p e.path) (entries_of s user sent) e (entries_formed s.records user sent by_name named) f)
  formed_by p entry None true f m h = step_formed s.records (entries_of s user sent) p (entries_formed s.records user sent by_name named) m
  formed_by p entry None false f m h = sound.formed p entry h

  stays_sound : IsSoundStore (store_after change s).records
  stays_sound = record {
    formed = λ p entry e. formed_by p entry _ _ refl refl (sym (is_here s realm user sent now change made sound.housed p) ∙ e);
    housed = housed_law.housed s realm user sent now change made sound.housed (all_absolute (entries_of s user sent) (entries_formed s.records user sent by_name named));
  }

pub sound_law : SoundLaw
sound_law = record {
  empty = record { formed = λ p entry e. let none : None ≡ Some entry = sym (get-empty path_cmp p) ∙ e in cc; housed = housed_law.empty };
  stays = λ s realm user sent now change made sound. housed_law.stays s realm user sent now change made sound.housed;
  sound = λ s realm user sent now change made sound by_name named. stays_sound s realm user sent now change made sound by_name named;
}
