-- Which datasets there are after a command.
use Rattle.std.proofs.Common.{◌≡◌, ℕ, zero, suc, Bool, true, false, not, cond, ◌&&◌, ◌||◌, List, [], ◌∷◌, ◌++◌, length, map, Option, Some, None, refl, sym, ap, subst, ◌∙◌, arith, ℤ}
use Rattle.std.specs.Prelude.{find, codes, option_map, is_none, is_some, ◌==◌, nat_eq}
use Rattle.std.proofs.lemmas.Map.Text.{is_eq-slice_cmp}
use Rattle.std.proofs.lemmas.Bool.{eqb-true, not-true, not-false, and_from}
use Rattle.std.specs.Cmp.{unsigned_Decides, first_so, second_so}
use Rattle.std.specs.Cmp.Lexicographic.{nat_list_cmp_total}
use Rattle.std.specs.List.{list_any, list_all, starts_with}
use Rattle.std.specs.Option.{option_map_or, option_or}
use Rattle.std.specs.Ordering.{eq_by_cmp}
use Rattle.std.specs.FinMap as table
use Rattle.std.specs.FinMap.{get-insert, get-remove, get-empty}
use Rattle.std.proofs.Math.Bool.{or-false, and-false}
use Rattle.acap_entries.specs.Changes.{store_after}
use Rattle.acap_entries.specs.Datasets.{dataset_exists, is_dot_list}
use Rattle.acap_entries.specs.Names.{slash, own_entry}
use Rattle.acap_entries.specs.Orders.{octets_eq, octets_cmp}
use Rattle.acap_entries.specs.Sound.{IsHoused}
use Rattle.acap_entries.specs.Store.{Stored, Store, path_cmp, after_edit}
use Rattle.acap_entries.specs.declared.record.Cell.{Cell}
use Rattle.acap_entries.specs.declared.record.Cell.TheVariants.{Nil, Single, Multi}
use Rattle.acap_entries.specs.declared.change.RecordEdit.TheVariants as edit
use Rattle.acap_entries.specs.declared.path.Path.{Path}
use Rattle.acap_entries.specs.declared.record.Record.{Record}
use Rattle.acap_ordmap.proofs.Logic.{first_not, second_not, or_swapped}
use Rattle.acap_commands.specs.declared.store.Given.{Given}
use Rattle.acap_commands.specs.declared.store.Given.TheVariants.{Put, Default}
use Rattle.acap_commands.specs.declared.refusal.Refusal.{Refusal}
use Rattle.acap_commands.specs.declared.store.StoreEntry.{StoreEntry}
use Rattle.acap_commands.specs.declared.store.StoreItem.{StoreItem}
use Rattle.acap_inherit.specs.Chains.{chain_within}
use Rattle.acap_inherit.specs.Resolving.{lookup, by_cell, by_record}
use Rattle.acap_rights.specs.declared.realm.Realm.{Realm}
use Rattle.acap_store.specs.DatasetLaws.{DatasetLaw, own_path, way_within, way_to, is_on_way, is_made, is_made_at, gets_subdataset}
use Rattle.acap_store.specs.Forms.{is_management, is_value, is_nothing, is_of, is_ending, resolved_at}
use Rattle.acap_store.specs.Invalid.{is_invalid, may_end, may_be_value, may_be_entry, is_dot, lies_beneath, invalid, invalid_in, first_invalid}
use Rattle.acap_store.specs.Meaning.{meaning}
use Rattle.acap_store.specs.Planning.{refusals_of, refusals_by_room, written_at}
use Rattle.acap_store.specs.Refusing.{same_path, refused_if, has_twice, no_exist, modified}
use Rattle.acap_store.specs.Permission.{permission}
use Rattle.acap_store.specs.Limits.{gives_large}
use Rattle.acap_commands.specs.declared.refusal.Refusal.TheVariants as refusal
use Rattle.acap_store.specs.Writing.{Celled, with_value, with_values, with_named, with_given, kept_as, cells_of, given_record, edit_of, entry_at, steps_for, step_at, record_with_steps, missing_for, missing_to, missing_within, own_if_missing, deletes, ends, written_for}
use Rattle.acap_store.specs.declared.write.ResolvedWrite.{ResolvedWrite}
use Rattle.acap_store.proofs.DatasetLemmas.{not_true, octets_same, octets_refl, paths_same, own_whole, append_behind, makes_at, exists_by, exists_without, missing_is, found_as, found_has, not_found_none, some_found}
use Rattle.acap_store.proofs.StoreLaws.{path_law, steps_at, order}

abbrev sub : List ℕ
sub = codes "subdataset"

-- ---- what is valid

-- an item that is valid has a value that its attribute may have
value_held : (records : Stored) (all : List StoreEntry) (e : StoreEntry) (item : StoreItem) → is_invalid records all e item ≡ false → is_value item.metadata ≡ true → may_be_value records all e item ≡ true
unfolding is_invalid
value_held records all e item h v = not-false _ (ap (λ b. b && not (may_be_value records all e item)) (sym v) ∙ second_not _ _ h)

-- ---- items that say nothing of `subdataset`, and those that do

pub tie : (a b : List ℕ) → eq_by_cmp octets_cmp a b ≡ octets_eq a b
tie a b = is_eq-slice_cmp a b

turned : (a b : List ℕ) → octets_eq a b ≡ false → octets_eq b a ≡ false
turned a b e = not_true _ (λ t. sym e ∙ octets_refl a b (sym (octets_same b a t)))

other_cell : (user : List ℕ) (p : Path) (cells : Celled) (attribute : List ℕ) (given : Given) → octets_eq attribute sub ≡ false →
    table.get (with_named user p cells attribute given) sub ≡ table.get cells sub
other_cell user p cells attribute (Put value) e = elim (octets_eq attribute (codes "entry")) as (λ b. table.get (cond b cells (table.insert cells attribute (kept_as user p attribute value))) sub ≡ table.get cells sub) [
  | true ↦ refl
  | false ↦ get-insert nat_list_cmp_total cells attribute (kept_as user p attribute value) sub ∙ ap (λ b. cond b (Some (kept_as user p attribute value)) (table.get cells sub)) (tie sub attribute ∙ turned attribute sub e)
]
other_cell user p cells attribute Default e = elim (octets_eq attribute (codes "entry")) as (λ b. table.get (cond b cells (table.remove cells attribute)) sub ≡ table.get cells sub) [
  | true ↦ refl
  | false ↦ get-remove nat_list_cmp_total cells attribute sub ∙ ap (λ b. cond b None (table.get cells sub)) (tie sub attribute ∙ turned attribute sub e)
]

dot_cell : (user : List ℕ) (p : Path) (cells : Celled) (given : Given) → is_dot given ≡ true → is_dot_list (table.get (with_named user p cells sub given) sub) ≡ true
dot_cell user p cells (Put value) e =
    let plain : kept_as user p sub value ≡ value = ap (λ b. cond b (Rattle.acap_store.specs.Writing.as_base user value) value) (and-false (is_management p)) in
    ap is_dot_list (get-insert nat_list_cmp_total cells sub (kept_as user p sub value) sub) ∙ ap (λ v. is_dot_list (Some v)) plain ∙ e
dot_cell user p cells Default e = cc

one_value : (records : Stored) (all : List StoreEntry) (e : StoreEntry) (user : List ℕ) (cells : Celled) (item : StoreItem) → is_invalid records all e item ≡ false →
    is_dot_list (table.get (with_value user e.path cells item) sub) ≡ (is_of sub item || is_dot_list (table.get cells sub))
one_value records all e user cells item h =
    elim (is_value item.metadata) as (λ v. is_value item.metadata ≡ v → is_dot_list (table.get (cond v (with_named user e.path cells item.attribute item.given) cells) sub) ≡ ((v && octets_eq item.attribute sub) || is_dot_list (table.get cells sub))) [
      | false ↦ λ v. refl
      | true ↦ λ v.
          let may = value_held records all e item h v in
          elim (octets_eq item.attribute sub) as (λ b. octets_eq item.attribute sub ≡ b → is_dot_list (table.get (with_named user e.path cells item.attribute item.given) sub) ≡ (b || is_dot_list (table.get cells sub))) [
            | true ↦ λ b.
                let dot : is_dot item.given ≡ true = ap (λ t. cond t (is_dot item.given) (cond (octets_eq item.attribute (codes "entry")) (may_be_entry records all e item.given) (cond (is_management e.path && octets_eq item.attribute (codes "dataset.inherit")) (Rattle.acap_store.specs.Invalid.may_be_base item.given) true))) (sym b) ∙ may in
                ap (λ a. is_dot_list (table.get (with_named user e.path cells a item.given) sub)) (octets_same item.attribute sub b) ∙ dot_cell user e.path cells item.given dot
            | false ↦ λ b. ap is_dot_list (other_cell user e.path cells item.attribute item.given b)
          ] refl
    ] refl

-- once valid items are given, the cells say `subdataset` (".") where an item gives it, or they said so
all_values : (records : Stored) (all : List StoreEntry) (e : StoreEntry) (user : List ℕ) (cells : Celled) (items : List StoreItem) → list_any (is_invalid records all e) items ≡ false →
    is_dot_list (table.get (with_values user e.path cells items) sub) ≡ (list_any (is_of sub) items || is_dot_list (table.get cells sub))
all_values records all e user cells [] h = refl
all_values records all e user cells (item ∷ items) h =
    all_values records all e user (with_value user e.path cells item) items (second_not _ _ h)
    ∙ ap (λ b. list_any (is_of sub) items || b) (one_value records all e user cells item (first_not _ _ h))
    ∙ or_swapped (list_any (is_of sub) items) (is_of sub item) (is_dot_list (table.get cells sub))

-- ---- entries that end

ending_entry : (item : StoreItem) → is_ending item ≡ true → item.attribute ≡ codes "entry"
ending_entry item h = octets_same item.attribute (codes "entry") (second_so _ _ (first_so _ _ h))

ending_may : (records : Stored) (all : List StoreEntry) (e : StoreEntry) (items : List StoreItem) → list_any (is_invalid records all e) items ≡ false → list_any is_ending items ≡ true → may_end records all e ≡ true
ending_may records all e [] h = λ g. cc
ending_may records all e (item ∷ items) h =
    elim (is_ending item) as (λ b. is_ending item ≡ b → b || list_any is_ending items ≡ true → may_end records all e ≡ true) [
      | true ↦ λ b g.
          let may = value_held records all e item (first_not _ _ h) (first_so _ _ (first_so _ _ b)) in
          let nothing : is_nothing item.given ≡ true = second_so _ _ b in
          sym (ap (λ t. cond t (may_end records all e) (Rattle.acap_store.specs.Invalid.is_string e.path.name item.given)) nothing)
          ∙ sym (ap (λ a. cond (octets_eq a sub) (is_dot item.given) (cond (octets_eq a (codes "entry")) (may_be_entry records all e item.given) (cond (is_management e.path && octets_eq a (codes "dataset.inherit")) (Rattle.acap_store.specs.Invalid.may_be_base item.given) true))) (ending_entry item b))
          ∙ may
      | false ↦ λ b g. ending_may records all e items (second_not _ _ h) g
    ] refl

-- what ends says nothing of `subdataset`
sole : (items : List StoreItem) → (length items == 1) ≡ true → list_any is_ending items ≡ true → list_any (is_of sub) items ≡ false
sole [] h g = cc
sole (item ∷ []) h g =
    let same = ending_entry item (sym (or-false (is_ending item)) ∙ g) in
    or-false (is_of sub item) ∙ ap (λ a. is_value item.metadata && octets_eq a sub) same ∙ and-false (is_value item.metadata)
sole (item ∷ other ∷ items) h g = let one : length (item ∷ other ∷ items) ≡ 1 = eqb-true _ _ h in absurd (omega (arith, one))

-- an entry without `subdataset` makes no dataset
lies_nowhere : (entry : Record) (d : List ℕ) (cell : Option Cell) (present : Bool) → is_some (by_cell (cond present cell None) entry d None) ≡ false → (present && is_dot_list cell) ≡ false
lies_nowhere entry d cell false h = refl
lies_nowhere entry d None true h = refl
lies_nowhere entry d (Some Nil) true h = refl
lies_nowhere entry d (Some (Single value)) true h = cc
lies_nowhere entry d (Some (Multi values)) true h = cc

makes_none : (records : Stored) (p : Path) (old : Option Record) → table.get records p ≡ old → is_some (resolved_at records p sub) ≡ false → makes_at old ≡ false
unfolding lookup chain_within
makes_none records p None e h = refl
makes_none records p (Some entry) e h =
    lies_nowhere entry p.dataset (table.get entry.cells sub) entry.present (ap (λ o. is_some (by_record o sub p.dataset None)) (sym e) ∙ h)

-- ---- the ways to datasets

starts_self : (xs : List ℕ) → starts_with nat_eq xs xs ≡ true
starts_self [] = refl
starts_self (x ∷ xs) = and_from _ _ ((unsigned_Decides x x).1 refl) (starts_self xs)

starts_longer : (xs ys zs : List ℕ) → starts_with nat_eq xs zs ≡ true → starts_with nat_eq (xs ++ ys) zs ≡ true
starts_longer xs ys [] e = refl
starts_longer [] ys (z ∷ zs) e = cc
starts_longer (x ∷ xs) ys (z ∷ zs) e = and_from _ _ (first_so _ _ e) (starts_longer xs ys zs (second_so _ _ e))

way_begins : (n : ℕ) (x d : List ℕ) → list_any (λ step. octets_eq d step) (way_within n x) ≡ true → starts_with nat_eq x d ≡ true
way_begins zero x d = λ e. cc
way_begins (suc n) x d = elim (own_entry x) as (λ o. own_entry x ≡ o → list_any (λ step. octets_eq d step) (option_map_or (λ o. x ∷ way_within n o.0) o []) ≡ true → starts_with nat_eq x d ≡ true) [
  | None ↦ λ q e. cc
  | (Some o) ↦ λ q.
      elim (octets_eq d x) as (λ b. octets_eq d x ≡ b → b || list_any (λ step. octets_eq d step) (way_within n o.0) ≡ true → starts_with nat_eq x d ≡ true) [
        | true ↦ λ b e. ap (λ t. starts_with nat_eq x t) (octets_same d x b) ∙ starts_self x
        | false ↦ λ b e.
            ap (λ t. starts_with nat_eq t d) (sym (own_whole x o q)) ∙ starts_longer o.0 (o.1 ++ slash ∷ []) d (way_begins n o.0 d e)
      ] refl
] refl

no_steps : (n : ℕ) (x d : List ℕ) → own_entry d ≡ None → list_any (λ step. octets_eq d step) (way_within n x) ≡ false
no_steps zero x d e = refl
no_steps (suc n) x d e = elim (own_entry x) as (λ o. own_entry x ≡ o → list_any (λ step. octets_eq d step) (option_map_or (λ o. x ∷ way_within n o.0) o []) ≡ false) [
  | None ↦ λ q. refl
  | (Some o) ↦ λ q.
      let here : octets_eq d x ≡ false = not_true _ (λ t. let no : Some o ≡ None = sym q ∙ ap own_entry (sym (octets_same d x t)) ∙ e in cc) in
      ap (λ b. b || list_any (λ step. octets_eq d step) (way_within n o.0)) here ∙ no_steps n o.0 d e
] refl

on_none : (entries : List StoreEntry) (d : List ℕ) → own_entry d ≡ None → is_on_way entries d ≡ false
on_none [] d e = refl
on_none (x ∷ entries) d e = ap (λ b. b || is_on_way entries d) (no_steps (length x.path.dataset) x.path.dataset d e) ∙ on_none entries d e

-- where no path lies beneath an entry, the dataset of its name is on no way
no_way : (entries : List StoreEntry) (d : List ℕ) (own : List ℕ × List ℕ) (p : Path) → own_entry d ≡ Some own → own_path own ≡ p → list_any (λ other. lies_beneath p other.path) entries ≡ false → is_on_way entries d ≡ false
no_way [] d own p q same h = refl
no_way (e ∷ entries) d own p q same h =
    let here : list_any (λ step. octets_eq d step) (way_to e.path.dataset) ≡ false = not_true _ (λ w.
    let begins = way_begins (length e.path.dataset) e.path.dataset d w in
    let whole : p.dataset ++ p.name ++ slash ∷ [] ≡ d = ap (λ (r : Path). r.dataset ++ r.name ++ slash ∷ []) (sym same) ∙ append_behind own.0 own.1 (slash ∷ []) ∙ own_whole d own q in
    sym (first_not _ _ h) ∙ ap (λ t. starts_with nat_eq e.path.dataset t) whole ∙ begins) in
    ap (λ b. b || is_on_way entries d) here ∙ no_way entries d own p q same (second_not _ _ h)

-- ---- what a path has

pub step_is : (records : Stored) (moment : ℤ) (p : Path) (paths : List Path) (b : Bool) → list_any (same_path p) paths ≡ b →
    table.find path_cmp p (map (step_at records moment) paths) ≡ cond b (Some (step_at records moment p).1) None
step_is records moment p paths true h =
    let found = some_found (same_path p) paths h in
    let same = paths_same p found.0 (found_has (same_path p) paths found.0 found.1) in
    found_as (λ q. q) (λ q. (step_at records moment q).1) p paths ∙ ap (option_map (λ q. (step_at records moment q).1)) found.1 ∙ ap (λ q. Some (step_at records moment q).1) (sym same)
step_is records moment p paths false h =
    found_as (λ q. q) (λ q. (step_at records moment q).1) p paths ∙ ap (option_map (λ q. (step_at records moment q).1)) (not_found_none (same_path p) paths h)

-- a step makes its dataset
dot_stays : (cells : Celled) → is_dot_list (table.get (table.insert cells sub (Multi (codes "." ∷ []))) sub) ≡ true
dot_stays cells = ap is_dot_list (get-insert nat_list_cmp_total cells sub (Multi (codes "." ∷ [])) sub)

-- what a path has when the missing datasets have been made: by whether its dataset is on a way, and whether it existed
module _ (records : Stored) (moment : ℤ) (p : Path) where
  abbrev after_step : Bool → Bool → Option Record
  after_step way existed = after_edit (cond (way && not existed) (Some (step_at records moment p).1) None) (table.get records p)

  made_by_step : (way existed : Bool) → makes_at (table.get records p) ≡ existed → makes_at (after_step way existed) ≡ (existed || way)
  made_by_step true true e = e
  made_by_step true false e = dot_stays (cells_of (table.get records p))
  made_by_step false true e = e
  made_by_step false false e = e

  dots_by_step : (way existed : Bool) → is_dot_list (table.get (cells_of (table.get records p)) sub) ≡ existed → is_dot_list (table.get (cells_of (after_step way existed)) sub) ≡ (existed || way)
  dots_by_step true true e = e
  dots_by_step true false e = dot_stays (cells_of (table.get records p))
  dots_by_step false true e = e
  dots_by_step false false e = e

-- in a store where what is not present has no `subdataset` the cells tell it
old_dots : (records : Stored) (p : Path) (old : Option Record) → table.get records p ≡ old → IsHoused records → is_dot_list (table.get (cells_of old) sub) ≡ makes_at old
old_dots records p None e housed = ap is_dot_list (get-empty octets_cmp sub)
old_dots records p (Some entry) e housed = elim entry.present as (λ b. entry.present ≡ b → is_dot_list (table.get entry.cells sub) ≡ (b && is_dot_list (table.get entry.cells sub))) [
  | true ↦ λ b. refl
  | false ↦ λ b. ap is_dot_list (housed.absent p entry e b)
] refl

nil_is_nothing : (given : Given) → Rattle.acap_store.specs.Writing.is_nil given ≡ true → is_nothing given ≡ true
nil_is_nothing (Put Nil) e = refl
nil_is_nothing (Put (Single value)) e = cc
nil_is_nothing (Put (Multi values)) e = cc
nil_is_nothing Default e = cc

deletes_ends : (items : List StoreItem) → list_any is_ending items ≡ false → list_any Rattle.acap_store.specs.Writing.is_deleting items ≡ false
deletes_ends [] h = refl
deletes_ends (item ∷ items) h =
    let here : Rattle.acap_store.specs.Writing.is_deleting item ≡ false = not_true _ (λ d.
    sym (first_not (is_ending item) (list_any is_ending items) h) ∙ and_from (is_of (codes "entry") item) (is_nothing item.given) (first_so (is_of (codes "entry") item) (Rattle.acap_store.specs.Writing.is_nil item.given) d) (nil_is_nothing item.given (second_so (is_of (codes "entry") item) (Rattle.acap_store.specs.Writing.is_nil item.given) d))) in
    ap (λ b. b || list_any Rattle.acap_store.specs.Writing.is_deleting items) here ∙ deletes_ends items (second_not _ _ h)

-- ---- what an entry writes

-- an entry that ends makes no dataset
ended : (user : List ℕ) (old before : Option Record) (moment : ℤ) (e : StoreEntry) → ends e ≡ true → makes_at (after_edit (Some (edit_of user old moment e)) before) ≡ false
ended user old before moment e h = elim (deletes e) as (λ b. makes_at (after_edit (Some (cond b (edit.Put (Rattle.acap_store.specs.Writing.deleted_record moment)) (cond (ends e) edit.Remove (edit.Put (given_record user e.path old e.items moment))))) before) ≡ false) [
  | true ↦ refl
  | false ↦ ap (λ b. makes_at (after_edit (Some (cond b edit.Remove (edit.Put (given_record user e.path old e.items moment)))) before)) h
]

-- any other makes the dataset that its cells say
given : (user : List ℕ) (old before : Option Record) (moment : ℤ) (e : StoreEntry) → ends e ≡ false → makes_at (after_edit (Some (edit_of user old moment e)) before) ≡ is_dot_list (table.get (with_values user e.path (cells_of old) e.items) sub)
given user old before moment e h =
    ap (λ b. makes_at (after_edit (Some (cond b (edit.Put (Rattle.acap_store.specs.Writing.deleted_record moment)) (cond (ends e) edit.Remove (edit.Put (given_record user e.path old e.items moment))))) before)) (deletes_ends e.items h)
    ∙ ap (λ b. makes_at (after_edit (Some (cond b edit.Remove (edit.Put (given_record user e.path old e.items moment)))) before)) h

last_swap : (g x w : Bool) → (g || (x || w)) ≡ ((x || w) || g)
last_swap true true w = refl
last_swap true false true = refl
last_swap true false false = refl
last_swap false x w = sym (or-false (x || w))

-- an entry that is valid, by all that is known of its path
one_entry : (records : Stored) (user : List ℕ) (all : List StoreEntry) (moment : ℤ) (d : List ℕ) (own : List ℕ × List ℕ) (e : StoreEntry) (way existed : Bool) →
    own_entry d ≡ Some own → own_path own ≡ e.path → list_any (is_invalid records all e) e.items ≡ false → IsHoused records → is_on_way all d ≡ way → makes_at (table.get records e.path) ≡ existed →
    makes_at (after_edit (Some (edit_of user (after_step records moment e.path way existed) moment e)) (table.get records e.path)) ≡ ((existed || way) || gets_subdataset e)
one_entry records user all moment d own e way existed q same valid housed on there =
    elim (ends e) as (λ b. ends e ≡ b → makes_at (after_edit (Some (edit_of user (after_step records moment e.path way existed) moment e)) (table.get records e.path)) ≡ ((existed || way) || gets_subdataset e)) [
      | true ↦ λ h.
          let may = ending_may records all e e.items valid h in
          let one = first_so _ _ (first_so _ _ (first_so _ _ may)) in
          let unvalued : is_some (resolved_at records e.path sub) ≡ false = not-true _ (second_so _ _ (first_so _ _ may)) in
          let alone : list_any (λ other. lies_beneath e.path other.path) all ≡ false = not-true _ (second_so _ _ may) in
          let nowhere : existed ≡ false = sym there ∙ makes_none records e.path (table.get records e.path) refl unvalued in
          let off : way ≡ false = sym on ∙ no_way all d own e.path q same alone in
          let silent : gets_subdataset e ≡ false = sole e.items one h in
          ended user (after_step records moment e.path way existed) (table.get records e.path) moment e h
          ∙ sym (ap (λ b. (b || way) || gets_subdataset e) nowhere ∙ ap (λ b. b || gets_subdataset e) off ∙ silent)
      | false ↦ λ h.
          given user (after_step records moment e.path way existed) (table.get records e.path) moment e h
          ∙ all_values records all e user (cells_of (after_step records moment e.path way existed)) e.items valid
          ∙ ap (λ b. gets_subdataset e || b) (dots_by_step records moment e.path way existed (old_dots records e.path (table.get records e.path) refl housed ∙ there))
          ∙ last_swap (gets_subdataset e) existed way
    ] refl

-- ---- the entry that has the path

none_invalid : (f : StoreItem → Refusal) (drops : Bool) (test : StoreItem → Bool) (items : List StoreItem) → option_map f (find (λ item. drops || test item) items) ≡ None → list_any test items ≡ false
none_invalid f drops test [] = λ e. refl
none_invalid f drops test (item ∷ items) = elim drops as (λ b. option_map f (cond (b || test item) (Some item) (find (λ item. b || test item) items)) ≡ None → test item || list_any test items ≡ false) [
  | true ↦ λ e. cc
  | false ↦ elim (test item) as (λ t. option_map f (cond t (Some item) (find test items)) ≡ None → t || list_any test items ≡ false) [
    | true ↦ λ e. cc
    | false ↦ λ e. none_invalid f false test items e
  ]
]

or_none : (a b : Option Refusal) → option_or a b ≡ None → (a ≡ None) × (b ≡ None)
or_none None b e = (refl, e)
or_none (Some r) b e = cc

entry_valid : (records : Stored) (meant : ResolvedWrite) (test : StoreEntry → Bool) (entries : List StoreEntry) (e : StoreEntry) → first_invalid records meant entries ≡ None → find test entries ≡ Some e → list_any (is_invalid records meant.entries e) e.items ≡ false
entry_valid records meant test [] e h = λ g. cc
entry_valid records meant test (x ∷ entries) e h =
    let parts = or_none (invalid_in records meant x) (first_invalid records meant entries) h in
    elim (test x) as (λ b. cond b (Some x) (find test entries) ≡ Some e → list_any (is_invalid records meant.entries e) e.items ≡ false) [
      | true ↦ λ g.
          let same : x ≡ e = cc in
          subst (λ (y : StoreEntry). list_any (is_invalid records meant.entries y) y.items ≡ false) same (none_invalid _ meant.drops_dataset_list (is_invalid records meant.entries x) x.items parts.0)
      | false ↦ λ g. entry_valid records meant test entries e parts.1 g
    ]

-- ---- what a path has afterwards

at_path : (records : Stored) (user : List ℕ) (meant : ResolvedWrite) (moment : ℤ) (d : List ℕ) (own : List ℕ × List ℕ) (found : Option StoreEntry) → own_entry d ≡ Some own →
    first_invalid records meant meant.entries ≡ None → IsHoused records → find (λ e. same_path (own_path own) e.path) meant.entries ≡ found →
    makes_at (after_edit (option_or (option_map (λ e. (entry_at records user (steps_for records meant.entries moment) moment e).1) found) (table.find path_cmp (own_path own) (map (step_at records moment) (missing_for records meant.entries)))) (table.get records (own_path own)))
    ≡ ((makes_at (table.get records (own_path own)) || is_on_way meant.entries d) || option_map_or gets_subdataset found false)
at_path records user meant moment d own None q valid housed f =
    let existed = makes_at (table.get records (own_path own)) in
    let missing = missing_is records meant.entries d own q ∙ ap (λ b. is_on_way meant.entries d && not b) (exists_by records d own q) in
    ap (λ o. makes_at (after_edit o (table.get records (own_path own)))) (step_is records moment (own_path own) (missing_for records meant.entries) _ missing)
    ∙ made_by_step records moment (own_path own) (is_on_way meant.entries d) existed refl
    ∙ sym (or-false (existed || is_on_way meant.entries d))
at_path records user meant moment d own (Some e) q valid housed f =
    let same : own_path own ≡ e.path = paths_same (own_path own) e.path (found_has (λ e. same_path (own_path own) e.path) meant.entries e f) in
    let existed = makes_at (table.get records (own_path own)) in
    let missing = missing_is records meant.entries d own q ∙ ap (λ b. is_on_way meant.entries d && not b) (exists_by records d own q) in
    let before : record_with_steps records (steps_for records meant.entries moment) (own_path own) ≡ after_step records moment (own_path own) (is_on_way meant.entries d) existed =
    ap (λ o. after_edit o (table.get records (own_path own))) (steps_at records meant.entries moment (own_path own) ∙ step_is records moment (own_path own) (missing_for records meant.entries) _ missing) in
    let there : record_with_steps records (steps_for records meant.entries moment) e.path ≡ after_step records moment e.path (is_on_way meant.entries d) existed =
    subst (λ p. record_with_steps records (steps_for records meant.entries moment) p ≡ after_step records moment p (is_on_way meant.entries d) existed) same before in
    let kept : makes_at (table.get records e.path) ≡ existed = ap (λ p. makes_at (table.get records p)) (sym same) in
    ap (λ p. makes_at (after_edit (Some (edit_of user (record_with_steps records (steps_for records meant.entries moment) e.path) moment e)) (table.get records p))) same
    ∙ ap (λ o. makes_at (after_edit (Some (edit_of user o moment e)) (table.get records e.path))) there
    ∙ one_entry records user meant.entries moment d own e (is_on_way meant.entries d) existed q same (entry_valid records meant _ meant.entries e valid f) housed refl kept

pub after_is : (records : Stored) (user : List ℕ) (meant : ResolvedWrite) (moment : ℤ) (after : Stored) → first_invalid records meant meant.entries ≡ None → IsHoused records →
    ((p : Path) → table.get after p ≡ after_edit (option_or (table.find path_cmp p (map (entry_at records user (steps_for records meant.entries moment) moment) meant.entries)) (table.find path_cmp p (map (step_at records moment) (missing_for records meant.entries)))) (table.get records p)) →
    (d : List ℕ) → dataset_exists after d ≡ (dataset_exists records d || is_on_way meant.entries d || is_made meant.entries d)
after_is records user meant moment after valid housed law d =
    elim (own_entry d) as (λ o. own_entry d ≡ o → dataset_exists after d ≡ (dataset_exists records d || is_on_way meant.entries d || option_map_or (λ own. is_made_at meant.entries (own_path own)) o false)) [
      | None ↦ λ q.
          exists_without after d q ∙ sym (or-false _ ∙ ap (λ b. b || is_on_way meant.entries d) (exists_without records d q) ∙ ap (λ b. octets_eq d (slash ∷ []) || b) (on_none meant.entries d q) ∙ or-false _)
      | (Some own) ↦ λ q.
          let p = own_path own in
          exists_by after d own q
          ∙ ap makes_at (law p)
          ∙ ap (λ o. makes_at (after_edit (option_or o (table.find path_cmp p (map (step_at records moment) (missing_for records meant.entries)))) (table.get records p)))
          (found_as (λ (e : StoreEntry). e.path) (λ e. (entry_at records user (steps_for records meant.entries moment) moment e).1) p meant.entries)
          ∙ at_path records user meant moment d own (find (λ e. same_path p e.path) meant.entries) q valid housed refl
          ∙ ap (λ b. (b || is_on_way meant.entries d) || is_made_at meant.entries p) (sym (exists_by records d own q))
    ] refl

-- ---- the law

invalid_of : (a b c d e : Option Refusal) (rest : List (Option Refusal)) → list_all is_none (a ∷ b ∷ c ∷ d ∷ e ∷ rest) ≡ true → e ≡ None
invalid_of None None None None None rest h = refl
invalid_of None None None None (Some r) rest h = cc
invalid_of None None None (Some r) e rest h = cc
invalid_of None None (Some r) d e rest h = cc
invalid_of None (Some r) c d e rest h = cc
invalid_of (Some r) b c d e rest h = cc

pub all_valid : (s : Store) (realm : Realm) (user : List ℕ) (meant : ResolvedWrite) (now : ℤ) → list_all is_none (refusals_of s realm user meant now) ≡ true → first_invalid s.records meant meant.entries ≡ None
unfolding refusals_of invalid
all_valid s realm user meant now h = invalid_of (refused_if (has_twice meant.entries) refusal.NotPermittedTwice) (permission s.records realm user meant.entries) (no_exist s.records meant.entries) (modified s.records meant.entries) (first_invalid s.records meant meant.entries) (refusals_by_room s (gives_large meant.entries) (written_for s.records user meant.entries (written_at s now)) now) h

pub dataset_law : DatasetLaw
dataset_law s realm user write now change e housed d =
    after_is s.records user (meaning s.records user write) change.moment (store_after change s).records
    (all_valid s realm user (meaning s.records user write) now (order.accepted s realm user write now change e)) housed (path_law s realm user write now change e) d
