-- That it doesn't depend on the moment whether what is written is too much.
use Rattle.std.proofs.Common.{◌≡◌, ℕ, suc, ◌+◌, Bool, true, false, cond, ◌||◌, List, [], ◌∷◌, length, map, Option, Some, None, refl, sym, ap, ◌∙◌, ℤ, pos}
use Rattle.std.specs.Prelude.{filter, find, option_map, nat_lt}
use Rattle.std.specs.List.{list_any}
use Rattle.std.specs.declared.cmp.Ordering.TheVariants.{Less, Equal, Greater}
use Rattle.std.specs.FinMap as table
use Rattle.std.specs.FinMap.{entries-insert}
use Rattle.std.specs.FinMap.Entries.{put, by_order}
use Rattle.acap_entries.specs.Store.{Stored, Written, path_cmp, after_edit}
use Rattle.acap_entries.specs.declared.change.RecordEdit.{RecordEdit}
use Rattle.acap_entries.specs.declared.change.RecordEdit.TheVariants.{Put, Remove}
use Rattle.acap_entries.specs.declared.path.Path.{Path}
use Rattle.acap_entries.specs.declared.record.Record.{Record}
use Rattle.acap_entries.proofs.StoreLemmas.{path_cmp_total}
use Rattle.acap_commands.specs.declared.store.StoreEntry.{StoreEntry}
use Rattle.acap_store.specs.Counting.{is_new, is_gone}
use Rattle.acap_store.specs.Laws.{RoomLaw, StepsLaw}
use Rattle.acap_store.specs.Limits.{is_crowded, writes_crowded, is_full_after}
use Rattle.acap_store.specs.Refusing.{same_path}
use Rattle.acap_store.specs.Writing.{put_all, written_for, steps_for, step_at, entry_at, missing_for, edit_of, record_with_steps, deletes, ends, deleted_record, given_record}
use Rattle.acap_store.proofs.CountLemmas.{full_by_count}
use Rattle.acap_store.proofs.DatasetLemmas.{found_as}
use Rattle.acap_store.proofs.StoreLaws.{steps_at}
use Rattle.acap_store.proofs.WriteLemmas.{missing_by, none_within}

-- ---- what is written, but for the moment

abbrev timeless_record : Record → Record
timeless_record r = record { present = r.present; blocks_inheritance = r.blocks_inheritance; cells = r.cells; acls = r.acls; modtime = pos 0 }

abbrev timeless : RecordEdit → RecordEdit
timeless (Put r) = Put (timeless_record r)
timeless Remove = Remove

abbrev Writes : Type 0
Writes = List (Path × RecordEdit)

abbrev shape : Writes → Writes
shape ws = map (λ w. (w.0, timeless w.1)) ws

abbrev puts : Writes → Writes → Writes
puts [] es = es
puts (w ∷ ws) es = put path_cmp w.0 w.1 (puts ws es)

shape_put : (p : Path) (edit : RecordEdit) (es : Writes) → shape (put path_cmp p edit es) ≡ put path_cmp p (timeless edit) (shape es)
shape_put p edit [] = refl
shape_put p edit (e ∷ es) = elim (path_cmp p e.0) as (λ o. shape (by_order o ((p, edit) ∷ e ∷ es) ((e.0, edit) ∷ es) (e ∷ put path_cmp p edit es)) ≡ by_order o ((p, timeless edit) ∷ shape (e ∷ es)) ((e.0, timeless edit) ∷ shape es) ((e.0, timeless e.1) ∷ put path_cmp p (timeless edit) (shape es))) [
  | Less ↦ refl
  | Equal ↦ refl
  | Greater ↦ ap (λ t. (e.0, timeless e.1) ∷ t) (shape_put p edit es)
]

shape_all : (ws : Writes) (w : Written) → shape (table.entries (put_all ws w)) ≡ puts (shape ws) (shape (table.entries w))
shape_all [] w = refl
shape_all (x ∷ ws) w =
    ap shape (entries-insert path_cmp_total (put_all ws w) x.0 x.1) ∙ shape_put x.0 x.1 (table.entries (put_all ws w)) ∙ ap (put path_cmp x.0 (timeless x.1)) (shape_all ws w)

-- ---- steps and entries

same_steps : (records : Stored) (a b : ℤ) (paths : List Path) → shape (map (step_at records a) paths) ≡ shape (map (step_at records b) paths)
same_steps records a b [] = refl
same_steps records a b (p ∷ paths) = ap (λ t. (p, timeless (step_at records a p).1) ∷ t) (same_steps records a b paths)

steps_shape : (records : Stored) (entries : List StoreEntry) (a b : ℤ) → shape (table.entries (steps_for records entries a)) ≡ shape (table.entries (steps_for records entries b))
unfolding steps_for
steps_shape records entries a b =
    shape_all (map (step_at records a) (missing_for records entries)) table.empty
    ∙ ap (λ t. puts t (shape (table.entries {R = path_cmp} table.empty))) (same_steps records a b (missing_for records entries))
    ∙ sym (shape_all (map (step_at records b) (missing_for records entries)) table.empty)

abbrev timeless_old : Option Record → Option Record
timeless_old o = option_map timeless_record o

one_step : (records : Stored) (a b : ℤ) (old : Option Record) (found : Option Path) →
    timeless_old (after_edit (option_map (λ q. (step_at records a q).1) found) old) ≡ timeless_old (after_edit (option_map (λ q. (step_at records b q).1) found) old)
one_step records a b old None = refl
one_step records a b old (Some q) = refl

stepped_shape : (records : Stored) (entries : List StoreEntry) (a b : ℤ) (p : Path) →
    timeless_old (record_with_steps records (steps_for records entries a) p) ≡ timeless_old (record_with_steps records (steps_for records entries b) p)
stepped_shape records entries a b p =
    ap (λ o. timeless_old (after_edit o (table.get records p))) (steps_at records entries a p ∙ found_as (λ q. q) (λ q. (step_at records a q).1) p (missing_for records entries))
    ∙ one_step records a b (table.get records p) (find (same_path p) (missing_for records entries))
    ∙ sym (ap (λ o. timeless_old (after_edit o (table.get records p))) (steps_at records entries b p ∙ found_as (λ q. q) (λ q. (step_at records b q).1) p (missing_for records entries)))

given_shape : (user : List ℕ) (p : Path) (old : Option Record) (a b : ℤ) (e : StoreEntry) → timeless (Put (given_record user p old e.items a)) ≡ timeless (Put (given_record user p (timeless_old old) e.items b))
given_shape user p None a b e = refl
given_shape user p (Some r) a b e = refl

by_shape : (user : List ℕ) (old : Option Record) (a b : ℤ) (e : StoreEntry) → timeless (edit_of user old a e) ≡ timeless (edit_of user (timeless_old old) b e)
by_shape user old a b e = elim (deletes e) as (λ d. timeless (cond d (Put (deleted_record a)) (cond (ends e) Remove (Put (given_record user e.path old e.items a)))) ≡ timeless (cond d (Put (deleted_record b)) (cond (ends e) Remove (Put (given_record user e.path (timeless_old old) e.items b))))) [
  | true ↦ refl
  | false ↦ elim (ends e) as (λ d. timeless (cond d Remove (Put (given_record user e.path old e.items a))) ≡ timeless (cond d Remove (Put (given_record user e.path (timeless_old old) e.items b)))) [
    | true ↦ refl
    | false ↦ given_shape user e.path old a b e
  ]
]

edit_shape : (user : List ℕ) (old other : Option Record) (a b : ℤ) (e : StoreEntry) → timeless_old old ≡ timeless_old other → timeless (edit_of user old a e) ≡ timeless (edit_of user other b e)
edit_shape user old other a b e same = by_shape user old a b e ∙ ap (λ o. timeless (edit_of user o b e)) same ∙ sym (by_shape user other b b e)

entries_shape : (records : Stored) (user : List ℕ) (all entries : List StoreEntry) (a b : ℤ) →
    shape (map (entry_at records user (steps_for records all a) a) entries) ≡ shape (map (entry_at records user (steps_for records all b) b) entries)
entries_shape records user all [] a b = refl
entries_shape records user all (e ∷ entries) a b =
    ap (λ f. (e.path, f) ∷ shape (map (entry_at records user (steps_for records all a) a) entries))
    (edit_shape user (record_with_steps records (steps_for records all a) e.path) (record_with_steps records (steps_for records all b) e.path) a b e (stepped_shape records all a b e.path))
    ∙ ap (λ t. (e.path, timeless (entry_at records user (steps_for records all b) b e).1) ∷ t) (entries_shape records user all entries a b)

written_shape : (records : Stored) (user : List ℕ) (entries : List StoreEntry) (a b : ℤ) → shape (table.entries (written_for records user entries a)) ≡ shape (table.entries (written_for records user entries b))
unfolding written_for
written_shape records user entries a b =
    shape_all (map (entry_at records user (steps_for records entries a) a) entries) (steps_for records entries a)
    ∙ ap (λ t. puts t (shape (table.entries (steps_for records entries a)))) (entries_shape records user entries entries a b)
    ∙ ap (puts (shape (map (entry_at records user (steps_for records entries b) b) entries))) (steps_shape records entries a b)
    ∙ sym (shape_all (map (entry_at records user (steps_for records entries b) b) entries) (steps_for records entries b))

-- ---- what is counted of it

crowded_one : (edit : RecordEdit) → is_crowded (timeless edit) ≡ is_crowded edit
crowded_one (Put r) = refl
crowded_one Remove = refl

crowded_shape : (ws : Writes) → list_any (λ w. is_crowded w.1) (shape ws) ≡ list_any (λ w. is_crowded w.1) ws
crowded_shape [] = refl
crowded_shape (w ∷ ws) = ap (λ b. b || list_any (λ w. is_crowded w.1) (shape ws)) (crowded_one w.1) ∙ ap (λ b. is_crowded w.1 || b) (crowded_shape ws)

new_one : (records : Stored) (p : Path) (edit : RecordEdit) → is_new records (p, timeless edit) ≡ is_new records (p, edit)
new_one records p (Put r) = refl
new_one records p Remove = refl

gone_one : (records : Stored) (p : Path) (edit : RecordEdit) → is_gone records (p, timeless edit) ≡ is_gone records (p, edit)
gone_one records p (Put r) = refl
gone_one records p Remove = refl

count_shape : (test : Path × RecordEdit → Bool) → ((p : Path) (edit : RecordEdit) → test (p, timeless edit) ≡ test (p, edit)) → (ws : Writes) → length (filter test (shape ws)) ≡ length (filter test ws)
count_shape test same [] = refl
count_shape test same (w ∷ ws) =
    ap (λ b. length (cond b ((w.0, timeless w.1) ∷ filter test (shape ws)) (filter test (shape ws)))) (same w.0 w.1)
    ∙ elim (test w) as (λ b. length (cond b ((w.0, timeless w.1) ∷ filter test (shape ws)) (filter test (shape ws))) ≡ length (cond b (w ∷ filter test ws) (filter test ws))) [
      | true ↦ ap suc (count_shape test same ws)
      | false ↦ count_shape test same ws
    ]

counts : (v w : Written) (test : Path × RecordEdit → Bool) → ((p : Path) (edit : RecordEdit) → test (p, timeless edit) ≡ test (p, edit)) → shape (table.entries v) ≡ shape (table.entries w) → length (filter test (table.entries v)) ≡ length (filter test (table.entries w))
counts v w test f same = sym (count_shape test f (table.entries v)) ∙ ap (λ t. length (filter test t)) same ∙ count_shape test f (table.entries w)

full_shape : (records : Stored) (v w : Written) → shape (table.entries v) ≡ shape (table.entries w) → is_full_after records v ≡ is_full_after records w
full_shape records v w same =
    sym (full_by_count v records)
    ∙ ap (λ n. nat_lt (65_536 + n) (table.len records + length (filter (is_new records) (table.entries v)))) (counts v w (is_gone records) (gone_one records) same)
    ∙ ap (λ n. nat_lt (65_536 + length (filter (is_gone records) (table.entries w))) (table.len records + n)) (counts v w (is_new records) (new_one records) same)
    ∙ full_by_count w records

pub room_law : RoomLaw
room_law records user entries is_given_large a b =
    let same = written_shape records user entries a b in
    ap (λ x. is_given_large || x || is_full_after records (written_for records user entries a))
    (sym (crowded_shape (table.entries (written_for records user entries a))) ∙ ap (list_any (λ w. is_crowded w.1)) same ∙ crowded_shape (table.entries (written_for records user entries b)))
    ∙ ap (λ x. is_given_large || writes_crowded (written_for records user entries b) || x) (full_shape records (written_for records user entries a) (written_for records user entries b) same)

pub steps_law : StepsLaw
steps_law = record {
  parent = missing_by;
  none = λ records d e. none_within records (length d) d e;
}
