-- What is touched, by what is looked up of stores; and that of stores that are written out.
use Rattle.std.proofs.Common.{◌≡◌, ℕ, zero, suc, Bool, true, false, ◌&&◌, ◌||◌, List, [], ◌∷◌, ◌++◌, map as each, Option, Some, None, refl, sym, ap, ◌∙◌}
use Rattle.std.specs.Prelude.{codes, filter, is_some, if◌then◌else◌}
use Rattle.std.specs.List.{list_any}
use Rattle.std.specs.Option.{option_map, option_and_then, option_map_or}
use Rattle.std.specs.FinMap as map
use Rattle.std.specs.FinMap.{find, put}
use Rattle.std.specs.declared.cmp.Ordering.{Ordering}
use Rattle.std.specs.Cmp.Lexicographic.{nat_list_cmp_total}
use Rattle.std.specs.Ordering.{eq_by_cmp}
use Rattle.std.proofs.lemmas.List.{nil_from_length}
use Rattle.acap_entries.specs.Datasets.{is_dot_list, makes_dataset}
use Rattle.acap_entries.specs.Names.{slash, own_entry}
use Rattle.acap_entries.specs.Orders.{octets_cmp, octets_eq}
use Rattle.acap_entries.specs.Store.{Stored, Written, path_cmp, after_edit, IsPathByPath}
use Rattle.acap_entries.specs.declared.record.Cell.{Cell}
use Rattle.acap_entries.specs.declared.path.Path.{Path}
use Rattle.acap_entries.specs.declared.record.Record.{Record}
use Rattle.acap_entries.proofs.StoreLemmas.{path_cmp_total}
use Rattle.acap_inherit.specs.Chains.{name_in, onward, chain_within, chain_of}
use Rattle.acap_inherit.specs.Records.{record_at, cell_in}
use Rattle.acap_inherit.specs.Touched.{is_change, is_written, is_reached, is_touched, paths_known, paths_across, in_order, touched_paths}
use Rattle.acap_inherit.specs.TouchedExamples.{Attributes, present, store_of, edit_of, writes_of, at}

-- ---- what is looked up: the cells of a record by attribute, if there is one

abbrev pub Look : Type 0
Look = List ℕ → List ℕ → Option (List ℕ → Option Cell)

abbrev pub look : Stored → Look
look records d n = option_map cell_in (record_at records d n)

abbrev pub base_by : Look → List ℕ → Option (List ℕ)
base_by l d = option_and_then name_in (option_and_then (λ f. f (codes "dataset.inherit")) (l d []))

abbrev pub within_by : ℕ → Look → List ℕ → List (List ℕ)
within_by zero l d = []
within_by (suc most) l d = d ∷ onward (base_by l d) (within_by most l)

abbrev pub makes_by : Option (List ℕ → Option Cell) → Bool
makes_by found = option_map_or (λ f. is_dot_list (f (codes "subdataset"))) found false

abbrev pub exists_by : Look → List ℕ → Bool
exists_by l d = octets_eq d (slash ∷ []) || makes_by (option_and_then (λ own. l own.0 own.1) (own_entry d))

abbrev pub reached_by : (List ℕ → List ℕ → Bool) → Look → List (List ℕ) → List ℕ → Bool
reached_by w l chain name = list_any (λ m. w m name) chain || (list_any (λ m. w m []) chain && list_any (λ m. is_some (l m name)) chain)

abbrev pub touched_by : (List ℕ → List ℕ → Bool) → Look → Look → Path → Bool
touched_by w old new p =
    exists_by new p.dataset
    && (reached_by w old (within_by 8 old p.dataset) p.name || reached_by w new (within_by 8 new p.dataset) p.name)

base_found : (found : Option Record) → option_and_then name_in (option_and_then (λ e. cell_in e (codes "dataset.inherit")) found) ≡ option_and_then name_in (option_and_then (λ f. f (codes "dataset.inherit")) (option_map cell_in found))
base_found None = refl
base_found (Some e) = refl

within_seen : (most : ℕ) (records : Stored) (d : List ℕ) → chain_within most records d ≡ within_by most (look records) d
unfolding chain_within
within_seen zero records d = refl
within_seen (suc most) records d = λ i. d ∷ onward (base_found (record_at records d []) i) (λ base. within_seen most records base i)

makes_seen : (e : Record) → makes_dataset e ≡ is_dot_list (cell_in e (codes "subdataset"))
makes_seen e = elim e.present as (λ b. (b && is_dot_list (map.get e.cells (codes "subdataset"))) ≡ is_dot_list (if b then map.get e.cells (codes "subdataset") else None)) [ true ↦ refl | false ↦ refl ]

makes_found : (found : Option Record) → option_map_or makes_dataset found false ≡ makes_by (option_map cell_in found)
makes_found None = refl
makes_found (Some e) = makes_seen e

exists_found : (records : Stored) (own : Option (List ℕ × List ℕ)) → option_map_or makes_dataset (option_and_then (λ own. map.get records (at own.0 own.1)) own) false ≡ makes_by (option_and_then (λ own. look records own.0 own.1) own)
exists_found records None = refl
exists_found records (Some own) = makes_found (record_at records own.0 own.1)

is_found : (found : Option Record) → is_some found ≡ is_some (option_map cell_in found)
is_found None = refl
is_found (Some e) = refl

reached_seen : (written : Written) (old records : Stored) (d name : List ℕ) → is_reached written old records (chain_of records d false) name ≡ reached_by (is_written written old) (look records) (within_by 8 (look records) d) name
reached_seen written old records d name =
    ap (λ chain. is_reached written old records chain name) (within_seen 8 records d)
    ∙ (λ i. let chain = within_by 8 (look records) d in list_any (λ m. is_written written old m name) chain || (list_any (λ m. is_written written old m []) chain && list_any (λ m. is_found (record_at records m name) i) chain))

touched_seen : (written : Written) (old new : Stored) (p : Path) → is_touched written old new p ≡ touched_by (is_written written old) (look old) (look new) p
unfolding is_touched
touched_seen written old new p =
    λ i. (octets_eq p.dataset (slash ∷ []) || exists_found new (own_entry p.dataset) i) && (reached_seen written old old p.dataset p.name i || reached_seen written old new p.dataset p.name i)

-- ---- stores that are written out

module _ {K X Y : Type 0} (R : K → K → Ordering) (f : X → Y) where
  find_each : (q : K) (rows : List (K × X)) → find R q (each (λ row. (row.0, f row.1)) rows) ≡ option_map f (find R q rows)
  find_each q [] = refl
  find_each q (row ∷ rows) =
      elim (eq_by_cmp R q row.0) as (λ b. (if b then Some (f row.1) else find R q (each (λ row. (row.0, f row.1)) rows)) ≡ option_map f (if b then Some row.1 else find R q rows)) [ true ↦ refl | false ↦ find_each q rows ]

-- each put in its place
abbrev pub all_put : {X : Type 0} → List (Path × X) → List (Path × X)
all_put [] = []
all_put (e ∷ es) = put path_cmp e.0 e.1 (all_put es)

entries_put : {X : Type 0} (es : List (Path × X)) → map.entries (map.from_entries {R = path_cmp} es) ≡ all_put es
entries_put {X} [] = nil_from_length _ (sym (map.len-entries {R = path_cmp} (map.empty {X = X})) ∙ map.len-empty path_cmp X)
entries_put (e ∷ es) = map.entries-insert path_cmp_total (map.from_entries es) e.0 e.1 ∙ ap (put path_cmp e.0 e.1) (entries_put es)

abbrev pub cells_by : Attributes → List ℕ → Option Cell
cells_by attributes k = find octets_cmp k attributes

cells_found : (found : Option Attributes) → option_map cell_in (option_map present found) ≡ option_map cells_by found
cells_found None = refl
cells_found (Some attributes) = λ i. Some (λ k. map.get-from_entries nat_list_cmp_total attributes k i)

abbrev pub rows_by : List (Path × Attributes) → Look
rows_by rows d n = option_map cells_by (find path_cmp (at d n) rows)

rows_seen : (rows : List (Path × Attributes)) (d n : List ℕ) → look (store_of rows) d n ≡ rows_by rows d n
rows_seen rows d n =
    ap (option_map cell_in) (map.get-from_entries path_cmp_total (each (λ row. (row.0, present row.1)) rows) (at d n) ∙ find_each path_cmp present (at d n) rows)
    ∙ cells_found (find path_cmp (at d n) rows)

edit_found : (writes : List (Path × Option Attributes)) (p : Path) → map.get (writes_of writes) p ≡ option_map edit_of (find path_cmp p writes)
edit_found writes p = map.get-from_entries path_cmp_total (each (λ row. (row.0, edit_of row.1)) writes) p ∙ find_each path_cmp edit_of p writes

abbrev pub change_row : Option (Option Attributes) → Bool → Bool
change_row None before = false
change_row (Some None) before = before
change_row (Some (Some attributes)) before = true

row_changes : (found : Option (Option Attributes)) (before : Option Record) → is_change (option_map edit_of found) before ≡ change_row found (is_some before)
row_changes None before = refl
row_changes (Some None) before = refl
row_changes (Some (Some attributes)) before = refl

abbrev pub writes_by : List (Path × Option Attributes) → List (Path × Attributes) → List ℕ → List ℕ → Bool
writes_by writes rows d n = change_row (find path_cmp (at d n) writes) (is_some (rows_by rows d n))

writes_seen : (writes : List (Path × Option Attributes)) (rows : List (Path × Attributes)) (d n : List ℕ) → is_written (writes_of writes) (store_of rows) d n ≡ writes_by writes rows d n
writes_seen writes rows d n =
    let before = record_at (store_of rows) d n in
    ap (λ edit. is_change edit before) (edit_found writes (at d n))
    ∙ (row_changes (find path_cmp (at d n) writes) before
    ∙ ap (change_row (find path_cmp (at d n) writes)) (is_found before ∙ ap is_some (rows_seen rows d n)))

abbrev pub after_row : Option (Option Attributes) → Option (List ℕ → Option Cell) → Option (List ℕ → Option Cell)
after_row None old = old
after_row (Some row) old = option_map cells_by row

row_after : (found : Option (Option Attributes)) (old : Option Record) → option_map cell_in (after_edit (option_map edit_of found) old) ≡ after_row found (option_map cell_in old)
row_after None old = refl
row_after (Some None) old = refl
row_after (Some (Some attributes)) old = cells_found (Some attributes)

abbrev pub after_by : List (Path × Option Attributes) → List (Path × Attributes) → Look
after_by writes rows d n = after_row (find path_cmp (at d n) writes) (rows_by rows d n)

after_seen : (writes : List (Path × Option Attributes)) (rows : List (Path × Attributes)) (new : Stored) → IsPathByPath (writes_of writes) (store_of rows) new → (d n : List ℕ) → look new d n ≡ after_by writes rows d n
after_seen writes rows new h d n =
    ap (option_map cell_in) (h.at_path (at d n) ∙ ap (λ edit. after_edit edit (record_at (store_of rows) d n)) (edit_found writes (at d n)))
    ∙ (row_after (find path_cmp (at d n) writes) (record_at (store_of rows) d n)
    ∙ ap (after_row (find path_cmp (at d n) writes)) (rows_seen rows d n))

abbrev pub is_touched_in : List (Path × Attributes) → List (Path × Option Attributes) → Path → Bool
is_touched_in rows writes p = touched_by (writes_by writes rows) (rows_by rows) (after_by writes rows) p

pub one_computed : (rows : List (Path × Attributes)) (writes : List (Path × Option Attributes)) (new : Stored) → IsPathByPath (writes_of writes) (store_of rows) new → (p : Path) → is_touched (writes_of writes) (store_of rows) new p ≡ is_touched_in rows writes p
one_computed rows writes new h p =
    touched_seen (writes_of writes) (store_of rows) new p
    ∙ (λ i. touched_by (λ d n. writes_seen writes rows d n i) (λ d n. rows_seen rows d n i) (λ d n. after_seen writes rows new h d n i) p)

abbrev pub known_in : List (Path × Attributes) → List (Path × Option Attributes) → List Path
known_in rows writes =
    each (λ e. e.0) (all_put (each (λ row. (row.0, present row.1)) rows)) ++ each (λ e. e.0) (all_put (each (λ row. (row.0, edit_of row.1)) writes))

pub all_computed : (rows : List (Path × Attributes)) (writes : List (Path × Option Attributes)) (new : Stored) → IsPathByPath (writes_of writes) (store_of rows) new
    → touched_paths (writes_of writes) (store_of rows) new ≡ in_order (filter (is_touched_in rows writes) (paths_across (known_in rows writes) (known_in rows writes)))
unfolding touched_paths
all_computed rows writes new h =
    let known : paths_known (writes_of writes) (store_of rows) ≡ known_in rows writes =
    λ i. each (λ e. e.0) (entries_put (each (λ row. (row.0, present row.1)) rows) i) ++ each (λ e. e.0) (entries_put (each (λ row. (row.0, edit_of row.1)) writes) i) in
    λ i. in_order (filter (λ p. one_computed rows writes new h p i) (paths_across (known i) (known i)))
