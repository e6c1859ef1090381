-- What is at hand of an entry gives the answers about it.
use Rattle.std.proofs.Common.{◌≡◌, ℕ, Bool, true, false, not, cond, is_some, T, ◌&&◌, ◌||◌, codes, Option, Some, None, List, [], ◌∷◌, ◌==◌, take, length, refl, sym, ◌∙◌, ap, subst, append-nil, arith, map as each}
use Rattle.std.specs.FinMap as map
use Rattle.std.specs.FinMap.{is_sorted}
use Rattle.std.specs.FinMap.Entries.{below_all, find, same_entries}
use Rattle.std.specs.List.{filter, cons_option}
use Rattle.std.specs.Option.{option_and_then, unwrap_or}
use Rattle.std.specs.Ordering.{is_lt, is_eq, eq_by_cmp, ordering_reverse}
use Rattle.std.specs.Cmp.{tied_itself}
use Rattle.std.specs.declared.cmp.Ordering.{Ordering}
use Rattle.std.specs.declared.cmp.Ordering.TheVariants.{Less, Equal, Greater}
use Rattle.std.specs.Cmp.Lexicographic.{nat_list_cmp_total, same_text}
use Rattle.acap_entries.specs.Orders.{octets_cmp, octets_eq}
use Rattle.acap_entries.specs.Stamp.{stamp_of}
use Rattle.acap_entries.specs.Store.{Stored, path_cmp}
use Rattle.acap_entries.specs.declared.record.Cell.{Cell}
use Rattle.acap_entries.specs.declared.record.Cell.TheVariants.{Nil, Single, Multi}
use Rattle.acap_entries.specs.declared.path.Path.{Path}
use Rattle.acap_entries.specs.declared.record.Record.{Record}
use Rattle.acap_ordmap.proofs.Logic.{first_T, second_T, both_T}
use Rattle.acap_entries.proofs.StoreLemmas.{octets_same, path_cmp_total}
use Rattle.acap_inherit.specs.EntryNames.{set_of, union_of, names_in, names_on}
use Rattle.acap_inherit.specs.Records.{record_at, cell_in, ends_inheritance}
use Rattle.acap_inherit.specs.Resolving.{lying, by_cell, by_record, by_presence, greatest, until_end, entry_on, value_on, modtime_on, stamp_value, members_for, members_of, lookup}
use Rattle.acap_inherit.proofs.NameLemmas.{by_name}
use Rattle.acap_rights.specs.Deciding.{OfEntry, own_list}
use Rattle.acap_rights.proofs.SharingLemmas.{shared_law}
use Rattle.acap_rights.specs.Sharing.{shared_on}
use Rattle.acap_rights.specs.declared.rights.Rights.{Rights}
use Rattle.acap_rights.specs.declared.sharing.SharedRights.{SharedRights}
use Rattle.acap_search.specs.RecordCaches.{own_value, IsPlain, AreKept, lies_in}
use Rattle.acap_search.specs.Sight.{may_read, may_test, is_held, cell_at, is_nil, is_seen}
use Rattle.acap_search.specs.Views.{Spotted, answers_of, is_readable_at, rights_in}

-- ---- the record

one_of_one : (b : Bool) (dataset : List ℕ) → cond b (take 1 (dataset ∷ [])) (dataset ∷ []) ≡ dataset ∷ []
one_of_one true dataset = refl
one_of_one false dataset = refl

either : {X : Type 0} (b : Bool) (x : X) → cond b x x ≡ x
either true x = refl
either false x = refl

twice : (b : Bool) → (b && b) ≡ b
twice true = refl
twice false = refl

by_own_cell : (cell : Option Cell) (entry : Record) (dataset : List ℕ) → by_cell cell entry dataset None ≡ lying (unwrap_or cell Nil) dataset
by_own_cell (Some cell) entry dataset = refl
by_own_cell None entry dataset = elim (ends_inheritance entry) as (λ b. cond {A = Option (Cell × List ℕ)} b None None ≡ None) [ true ↦ refl | false ↦ refl ]

-- what a record at hand has is what its attribute resolves to
module _ (records : Stored) (dataset name : List ℕ) (entry : Record) (kept : record_at records dataset name ≡ Some entry) where
  own_entry : (members : List (List ℕ)) → members ≡ dataset ∷ [] → entry_on records members name ≡ lying (cond entry.present (Single name) Nil) dataset
  own_entry members e =
      ap (λ members. entry_on records members name) e
      ∙ (ap (λ o. by_presence o name dataset None) kept
      ∙ (elim entry.present as (λ b. cond b (Some (Single name, dataset)) None ≡ lying (cond b (Single name) Nil) dataset) [ true ↦ refl | false ↦ refl ]))

  own_moment : (members : List (List ℕ)) → members ≡ dataset ∷ [] → modtime_on records members name ≡ Some entry.modtime
  own_moment members e =
      ap (λ members. modtime_on records members name) e
      ∙ (ap (λ o. greatest (each (λ entry. entry.modtime) (until_end (cons_option o [])))) kept
      ∙ (elim (ends_inheritance entry) as (λ b. greatest (each (λ entry. entry.modtime) (entry ∷ cond b [] [])) ≡ Some entry.modtime) [ true ↦ refl | false ↦ refl ]))

  own_cell : (members : List (List ℕ)) (attribute : List ℕ) → members ≡ dataset ∷ [] → value_on records members name attribute ≡ lying (unwrap_or (cell_in entry attribute) Nil) dataset
  own_cell members attribute e =
      ap (λ members. value_on records members name attribute) e
      ∙ (ap (λ o. by_record o attribute dataset None) kept ∙ by_own_cell (cell_in entry attribute) entry dataset)

  member : members_for (dataset ∷ []) name ≡ dataset ∷ []
  member = one_of_one (length name == 0) dataset

  members : (attribute : List ℕ) → members_of (dataset ∷ []) name attribute ≡ dataset ∷ []
  members attribute = ap (λ all. cond (octets_eq attribute (codes "subdataset")) (dataset ∷ []) all) member ∙ either (octets_eq attribute (codes "subdataset")) (dataset ∷ [])

  pub own_resolved : (attribute : List ℕ) → lookup records (dataset ∷ []) name attribute ≡ lying (own_value entry name attribute) dataset
  unfolding lookup
  own_resolved attribute =
      let is_entry = octets_eq attribute (codes "entry") in
      let is_moment = octets_eq attribute (codes "modtime") in
      (λ i. cond is_entry (own_entry _ member i) (cond is_moment (stamp_value (dataset ∷ []) (own_moment _ member i)) (own_cell _ attribute (members attribute) i)))
      ∙ elim is_entry as (λ a. cond a (lying (cond entry.present (Single name) Nil) dataset) (cond is_moment (lying (Single (stamp_of entry.modtime)) dataset) (lying (unwrap_or (cell_in entry attribute) Nil) dataset))
      ≡ lying (cond a (cond entry.present (Single name) Nil) (cond is_moment (Single (stamp_of entry.modtime)) (unwrap_or (cell_in entry attribute) Nil))) dataset) [
        | true ↦ refl
        | false ↦ elim is_moment as (λ b. cond b (lying (Single (stamp_of entry.modtime)) dataset) (lying (unwrap_or (cell_in entry attribute) Nil) dataset) ≡ lying (cond b (Single (stamp_of entry.modtime)) (unwrap_or (cell_in entry attribute) Nil)) dataset)
            [ true ↦ refl | false ↦ refl ]
      ]

-- ---- the rights

pub none_of : {X : Type 0} (o : Option X) (b : Bool) → b ≡ is_some o → b ≡ false → o ≡ None
none_of None b e h = refl
none_of (Some x) b e h = absurd (cc (e, h))

-- ---- the answers

cell_lying : (may : Rights → Bool) (rights_in : List ℕ → Rights) (dataset : List ℕ) (value : Cell) → cell_at may (rights_in dataset) rights_in (lying value dataset) ≡ cond (may (rights_in dataset)) value Nil
cell_lying may rights_in dataset Nil = sym (either (may (rights_in dataset)) Nil)
cell_lying may rights_in dataset (Single value) = ap (λ b. cond b (Single value) Nil) (twice (may (rights_in dataset)))
cell_lying may rights_in dataset (Multi values) = ap (λ b. cond b (Multi values) Nil) (twice (may (rights_in dataset)))

held_lying : (may : Rights → Bool) (rights_in : List ℕ → Rights) (dataset : List ℕ) (value : Cell) → is_held may (rights_in dataset) rights_in (lying value dataset) ≡ may (rights_in dataset)
held_lying may rights_in dataset Nil = refl
held_lying may rights_in dataset (Single value) = twice (may (rights_in dataset))
held_lying may rights_in dataset (Multi values) = twice (may (rights_in dataset))

module _ (spot : Spotted) (entry : Record) (shared : SharedRights) (plain : IsPlain spot.by shared) (kept : record_at spot.by.records spot.by.dataset spot.name ≡ Some entry) (attribute : List ℕ) (none : map.get entry.acls attribute ≡ None) where
  abbrev value : Cell
  value = own_value entry spot.name attribute

  abbrev rights : Rights
  rights = shared_on shared attribute

  abbrev rights_at : List ℕ → Rights
  rights_at dataset = rights_in spot.by dataset attribute spot.name

  pub near_rights : rights_at spot.by.dataset ≡ rights
  near_rights =
      let own : own_list spot.by.records (OfEntry spot.by.dataset attribute spot.name) ≡ None = ap (option_and_then (λ entry. map.get entry.acls attribute)) kept ∙ none in
      shared_law spot.by.records spot.by.realm spot.by.user spot.by.dataset attribute spot.name own ∙ plain.1 attribute

  found : lookup spot.by.records spot.by.chain spot.name attribute ≡ lying value spot.by.dataset
  found =
      ap (λ chain. lookup spot.by.records chain spot.name attribute) plain.0
      ∙ own_resolved spot.by.records spot.by.dataset spot.name entry kept attribute

  near_cell : (may : Rights → Bool) → cell_at may (rights_at spot.by.dataset) rights_at (lookup spot.by.records spot.by.chain spot.name attribute) ≡ cond (may rights) value Nil
  near_cell may =
      ap (cell_at may (rights_at spot.by.dataset) rights_at) found
      ∙ (cell_lying may rights_at spot.by.dataset value ∙ ap (λ rights. cond (may rights) value Nil) near_rights)

  pub near_read : (answers_of spot).read attribute ≡ cond rights.r value Nil
  near_read = near_cell may_read

  pub near_test : (answers_of spot).test attribute ≡ cond (rights.x || rights.r) value Nil
  near_test = near_cell may_test

  pub near_readable : is_readable_at spot attribute ≡ rights.r
  near_readable =
      ap (is_held may_read (rights_at spot.by.dataset) rights_at) found
      ∙ (held_lying may_read rights_at spot.by.dataset value ∙ ap (λ rights. rights.r) near_rights)

seen_here : (present may : Bool) (name : List ℕ) → not (is_nil (cond may (cond present (Single name) Nil) Nil)) ≡ (present && may)
seen_here true true name = refl
seen_here true false name = refl
seen_here false true name = refl
seen_here false false name = refl

pub near_seen : (spot : Spotted) (entry : Record) (shared : SharedRights) (plain : IsPlain spot.by shared) (kept : record_at spot.by.records spot.by.dataset spot.name ≡ Some entry) → map.get entry.acls (codes "entry") ≡ None
    → is_seen (answers_of spot) ≡ (entry.present && (shared_on shared (codes "entry")).r)
near_seen spot entry shared plain kept none = ap (λ cell. not (is_nil cell)) (near_read spot entry shared plain kept (codes "entry") none) ∙ seen_here entry.present _ spot.name

pub met : (a b result : Bool) → a ≡ true → result ≡ b → result ≡ (a && b)
met a b result h e = e ∙ ap (λ a. a && b) (sym h)

pub unmet : (a b result : Bool) → a ≡ false → result ≡ false → result ≡ (a && b)
unmet a b result h e = e ∙ ap (λ a. a && b) (sym h)

-- ---- the records of a dataset

-- names, each as an entry of a set, and those of some records
abbrev marks : List (List ℕ) → List (List ℕ × Unit {0})
marks names = each (λ name. (name, tt)) names

abbrev marked : List (Path × Record) → List (List ℕ × Unit {0})
marked es = marks (each (λ e. e.0.name) es)

below_marked : (dataset : List ℕ) (p : Path) → dataset ≡ p.dataset → (es : List (Path × Record)) → T (below_all path_cmp p es) → T (below_all octets_cmp p.name (marked (filter (lies_in dataset) es)))
below_marked dataset p h [] b = tt
below_marked dataset p h (e ∷ es) b =
    elim (lies_in dataset e) as (λ t. lies_in dataset e ≡ t → T (below_all octets_cmp p.name (marked (cond t (e ∷ filter (lies_in dataset) es) (filter (lies_in dataset) es))))) [
      | true ↦ λ t. both_T _ _ (subst T (ap is_lt (by_name dataset p e.0 h (same_text dataset e.0.dataset (sym t)))) (first_T _ _ b)) (below_marked dataset p h es (second_T _ _ b))
      | false ↦ λ t. below_marked dataset p h es (second_T _ _ b)
    ] refl

marked_rise : (dataset : List ℕ) (es : List (Path × Record)) → T (is_sorted path_cmp es) → T (is_sorted octets_cmp (marked (filter (lies_in dataset) es)))
marked_rise dataset [] s = tt
marked_rise dataset (e ∷ es) s =
    elim (lies_in dataset e) as (λ t. lies_in dataset e ≡ t → T (is_sorted octets_cmp (marked (cond t (e ∷ filter (lies_in dataset) es) (filter (lies_in dataset) es))))) [
      | true ↦ λ t. both_T _ _ (below_marked dataset e.0 (same_text dataset e.0.dataset (sym t)) es (first_T _ _ s)) (marked_rise dataset es (second_T _ _ s))
      | false ↦ λ t. marked_rise dataset es (second_T _ _ s)
    ] refl

listed : (names : List (List ℕ)) → each (λ (e : List ℕ × Unit {0}). e.0) (marks names) ≡ names
listed [] = refl
listed (name ∷ names) = ap (λ rest. name ∷ rest) (listed names)

-- names that rise are the keys of their set
keys_of : (names : List (List ℕ)) → T (is_sorted octets_cmp (marks names)) → map.keys (set_of names) ≡ names
keys_of names s =
    ap (each (λ e. e.0)) (same_entries octets_cmp nat_list_cmp_total octets_same (map.entries (set_of names)) (marks names) (map.entries_sorted (set_of names)) s
    (λ q. sym (map.get-entries (set_of names) q) ∙ map.get-from_entries nat_list_cmp_total (marks names) q))
    ∙ listed names

-- the names along a chain that is one dataset alone
pub names_alone : (records : Stored) (dataset : List ℕ) (chain : List (List ℕ)) → chain ≡ dataset ∷ [] → names_on records chain ≡ each (λ e. e.0.name) (filter (lies_in dataset) (map.entries records))
unfolding union_of
names_alone records dataset chain e =
    ap (names_on records) e
    ∙ (ap (λ names. map.keys (set_of names)) (append-nil (names_in records dataset))
    ∙ keys_of (names_in records dataset) (marked_rise dataset (map.entries records) (map.entries_sorted records)))

-- each of some entries is found among all
abbrev AreFound : List (Path × Record) → List (Path × Record) → Type 0
AreFound [] all = Unit {0}
AreFound (e ∷ es) all = (find path_cmp e.0 all ≡ Some e.1) × AreFound es all

above : (o : Ordering) → T (is_lt o) → is_eq (ordering_reverse o) ≡ false
above Less p = refl
above Equal p = absurd p
above Greater p = absurd p

found_behind : (e : Path × Record) (es all : List (Path × Record)) → T (below_all path_cmp e.0 es) → AreFound es all → AreFound es (e ∷ all)
found_behind e [] all b h = tt
found_behind e (x ∷ es) all b h =
    let apart : eq_by_cmp path_cmp x.0 e.0 ≡ false = ap is_eq (path_cmp_total.antisymm x.0 e.0) ∙ above _ (first_T _ _ b) in
    (ap (λ b. cond b (Some e.1) (find path_cmp x.0 all)) apart ∙ h.0, found_behind e es all (second_T _ _ b) h.1)

all_found : (es : List (Path × Record)) → T (is_sorted path_cmp es) → AreFound es es
all_found [] s = tt
all_found (e ∷ es) s =
    (ap (λ o. cond (is_eq o) (Some e.1) (find path_cmp e.0 es)) (tied_itself path_cmp_total e.0), found_behind e es es (first_T _ _ s) (all_found es (second_T _ _ s)))

kept_of_found : (records : Stored) (dataset : List ℕ) (es : List (Path × Record)) → AreFound es (map.entries records) → AreKept records dataset (filter (lies_in dataset) es)
kept_of_found records dataset [] h = tt
kept_of_found records dataset (e ∷ es) h =
    elim (lies_in dataset e) as (λ t. lies_in dataset e ≡ t → AreKept records dataset (cond t (e ∷ filter (lies_in dataset) es) (filter (lies_in dataset) es))) [
      | true ↦ λ t.
          let place : ◌≡◌ {A = Path} (record { dataset = dataset; name = e.0.name }) e.0 = λ i. record { dataset = same_text dataset e.0.dataset (sym t) i; name = e.0.name } in
          ((sym (same_text dataset e.0.dataset (sym t)), ap (map.get records) place ∙ (map.get-entries records e.0 ∙ h.0)), kept_of_found records dataset es h.1)
      | false ↦ λ t. kept_of_found records dataset es h.1
    ] refl

pub all_kept : (records : Stored) (dataset : List ℕ) (es : List (Path × Record)) → es ≡ filter (lies_in dataset) (map.entries records) → AreKept records dataset es
all_kept records dataset es e = subst (AreKept records dataset) (sym e) (kept_of_found records dataset (map.entries records) (all_found (map.entries records) (map.entries_sorted records)))

-- a chain of one name
pub alone_of : {A : Type 0} (name : A → List ℕ) (first : A) (others all : List A) (chain : List (List ℕ)) (dataset : List ℕ) → each name all ≡ chain → all ≡ first ∷ others → length others ≡ 0 → name first ≡ dataset → chain ≡ dataset ∷ []
alone_of name first [] all chain dataset n e l d = sym n ∙ (ap (each name) e ∙ ap (λ x. x ∷ []) d)
alone_of name first (other ∷ others) all chain dataset n e l d = absurd (omega (arith, l))

pub moved : {A B : Type 0} {x y : A} {n m : B} (P : A → B → Type 0) → x ≡ y → n ≡ m → P x n → P y m
moved {y = y} {n = n} P e f h = subst (P y) f (subst (λ x. P x n) e h)
