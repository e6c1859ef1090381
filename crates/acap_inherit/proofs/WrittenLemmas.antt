-- At which paths a change puts or removes a record, and what stays at the others.
use Rattle.std.proofs.Common.{◌≡◌, ℕ, Bool, true, false, cond, ◌||◌, List, [], ◌∷◌, map as each, Option, Some, None, refl, sym, ap, ◌∙◌}
use Rattle.std.specs.Prelude.{is_some, filter}
use Rattle.std.specs.FinMap as map
use Rattle.std.specs.FinMap.{find, is_sorted}
use Rattle.std.specs.FinMap.Entries.{below_all}
use Rattle.std.specs.List.{list_any}
use Rattle.std.specs.Ordering.{eq_by_cmp}
use Rattle.std.specs.Cmp.{second_so, first_so}
use Rattle.acap_entries.specs.Store.{Stored, Written, path_cmp, after_edit}
use Rattle.acap_entries.specs.declared.change.RecordEdit.{RecordEdit}
use Rattle.acap_entries.specs.declared.change.RecordEdit.TheVariants.{Put, Remove}
use Rattle.acap_entries.specs.declared.path.Path.{Path}
use Rattle.acap_entries.specs.declared.record.Record.{Record}
use Rattle.acap_entries.proofs.StoreLemmas.{path_same}
use Rattle.acap_ordmap.proofs.Logic.{true_from_T, Equal_from_is_eq, unequal_from_is_lt}
use Rattle.acap_inherit.specs.Records.{record_at}
use Rattle.acap_inherit.specs.Touched.{is_change, is_written}
use Rattle.acap_inherit.specs.Touching.{changes}

-- ---- one path

-- what is there stays where it isn't changed
pub unchanged : (edit : Option RecordEdit) (before : Option Record) → is_change edit before ≡ false → before ≡ after_edit edit before
unchanged None before e = refl
unchanged (Some (Put entry)) before e = cc
unchanged (Some Remove) None e = refl
unchanged (Some Remove) (Some entry) e = cc

-- whether anything is to be done at a path, if only the removal of nothing
abbrev pub has_edit : Written → List ℕ → List ℕ → Bool
has_edit written m n = is_some (map.get written (record { dataset = m; name = n }))

edit_there : (edit : Option RecordEdit) (before : Option Record) → is_change edit before ≡ true → is_some edit ≡ true
edit_there None before e = e
edit_there (Some edit) before e = refl

pub written_edit : (written : Written) (old : Stored) (m n : List ℕ) → is_written written old m n ≡ true → has_edit written m n ≡ true
written_edit written old m n e = edit_there (map.get written (record { dataset = m; name = n })) (record_at old m n) e

edit_none : (edit : Option RecordEdit) (before : Option Record) → is_some edit ≡ false → is_change edit before ≡ false
edit_none None before e = refl
edit_none (Some edit) before e = cc

pub no_edit : (written : Written) (old : Stored) (m n : List ℕ) → has_edit written m n ≡ false → is_written written old m n ≡ false
no_edit written old m n e = edit_none (map.get written (record { dataset = m; name = n })) (record_at old m n) e

-- ---- all paths

-- the writes that put or remove a record, and the paths of these
abbrev changing : Stored → List (Path × RecordEdit) → List (Path × RecordEdit)
changing old es = filter (changes old) es

abbrev pub paths_of : List (Path × RecordEdit) → List Path
paths_of es = each (λ (e : Path × RecordEdit). e.0) es

is_at : Path → Path → Bool
is_at p = eq_by_cmp path_cmp p

none_beyond : (old : Stored) (p : Path) (es : List (Path × RecordEdit)) → below_all path_cmp p es ≡ true → list_any (is_at p) (paths_of (changing old es)) ≡ false
unfolding is_at
none_beyond old p [] e = refl
none_beyond old p (w ∷ es) e =
    let rest = none_beyond old p es (second_so _ _ e) in
    elim (changes old w) as (λ b. list_any (is_at p) (paths_of (cond b (w ∷ changing old es) (changing old es))) ≡ false) [
      | true ↦ ap (λ b. b || list_any (is_at p) (paths_of (changing old es))) (unequal_from_is_lt (path_cmp p w.0) (first_so _ _ e)) ∙ rest
      | false ↦ rest
    ]

sorted_changes : (old : Stored) (p : Path) (es : List (Path × RecordEdit)) → is_sorted path_cmp es ≡ true → list_any (is_at p) (paths_of (changing old es)) ≡ is_change (find path_cmp p es) (map.get old p)
unfolding is_at
sorted_changes old p [] e = refl
sorted_changes old p (w ∷ es) e =
    let rest = changing old es in
    elim (eq_by_cmp path_cmp p w.0) as (λ t. eq_by_cmp path_cmp p w.0 ≡ t → list_any (is_at p) (paths_of (cond (changes old w) (w ∷ rest) rest)) ≡ is_change (cond t (Some w.1) (find path_cmp p es)) (map.get old p)) [
      | true ↦ λ t.
          let same : p ≡ w.0 = path_same p w.0 (Equal_from_is_eq _ t) in
          let none = none_beyond old p es (ap (λ q. below_all path_cmp q es) same ∙ first_so _ _ e) in
          elim (changes old w) as (λ b. list_any (is_at p) (paths_of (cond b (w ∷ rest) rest)) ≡ b) [
            | true ↦ ap (λ b. b || list_any (is_at p) (paths_of rest)) t
            | false ↦ none
          ]
          ∙ ap (λ q. is_change (Some w.1) (map.get old q)) (sym same)
      | false ↦ λ t.
          elim (changes old w) as (λ b. list_any (is_at p) (paths_of (cond b (w ∷ rest) rest)) ≡ list_any (is_at p) (paths_of rest)) [
            | true ↦ ap (λ b. b || list_any (is_at p) (paths_of rest)) t
            | false ↦ refl
          ]
          ∙ sorted_changes old p es (second_so _ _ e)
    ] refl

pub changes_at : (written : Written) (old : Stored) (p : Path) → list_any (eq_by_cmp path_cmp p) (paths_of (filter (changes old) (map.entries written))) ≡ is_written written old p.dataset p.name
unfolding is_at
changes_at written old p =
    sorted_changes old p (map.entries written) (true_from_T _ (map.entries_sorted written))
    ∙ ap (λ edit. is_change edit (map.get old p)) (sym (map.get-entries written p))
