-- What is put twice is put once: so datasets that entries share are made for the first of them alone.
use Rattle.std.proofs.Common.{◌≡◌, true, false, cond, List, [], ◌∷◌, ◌++◌, map, Option, Some, refl, sym, ap, ◌∙◌}
use Rattle.std.specs.Ordering.{eq_by_cmp}
use Rattle.std.specs.FinMap as table
use Rattle.std.specs.FinMap.{get-insert, same_map}
use Rattle.acap_entries.proofs.StoreLemmas.{path_cmp_total, path_same}
use Rattle.acap_entries.specs.Store.{Stored, Written, path_cmp}
use Rattle.acap_entries.specs.declared.change.RecordEdit.{RecordEdit}
use Rattle.acap_entries.specs.declared.path.Path.{Path}
use Rattle.acap_commands.specs.declared.store.StoreEntry.{StoreEntry}
use Rattle.acap_store.specs.Writing.{put_all, missing_to, missing_for}
use Rattle.acap_store.proofs.WriteLemmas.{last_entry}

-- what is put at a path, the first of some that stands there, or what was
put_at : List (Path × RecordEdit) → Path → Option RecordEdit → Option RecordEdit
put_at [] p o = o
put_at (x ∷ xs) p o = cond (eq_by_cmp path_cmp p x.0) (Some x.1) (put_at xs p o)

get_put : (xs : List (Path × RecordEdit)) (w : Written) (p : Path) → table.get (put_all xs w) p ≡ put_at xs p (table.get w p)
unfolding put_at
get_put [] w p = refl
get_put (x ∷ xs) w p = get-insert path_cmp_total (put_all xs w) x.0 x.1 p ∙ ap (cond (eq_by_cmp path_cmp p x.0) (Some x.1)) (get_put xs w p)

put_at_again : (xs : List (Path × RecordEdit)) (p : Path) (o : Option RecordEdit) → put_at xs p (put_at xs p o) ≡ put_at xs p o
unfolding put_at
put_at_again [] p o = refl
put_at_again (x ∷ xs) p o = elim (eq_by_cmp path_cmp p x.0) as (λ b. cond b (Some x.1) (put_at xs p (cond b (Some x.1) (put_at xs p o))) ≡ cond b (Some x.1) (put_at xs p o)) [
  | true ↦ refl
  | false ↦ put_at_again xs p o
]

-- to put the same again changes nothing
pub put_again : (xs : List (Path × RecordEdit)) (w : Written) → put_all xs (put_all xs w) ≡ put_all xs w
put_again xs w = same_map path_cmp_total path_same _ _ (λ p. get_put xs (put_all xs w) p ∙ ap (put_at xs p) (get_put xs w p) ∙ put_at_again xs p (table.get w p) ∙ sym (get_put xs w p))

-- the last of some entries whose dataset was made asks for nothing
pub made_before : (records : Stored) (f : Path → Path × RecordEdit) (entries : List StoreEntry) (e : StoreEntry) (w : Written) → put_all (map f (missing_to records e.path.dataset)) w ≡ w
    → put_all (map f (missing_for records (entries ++ e ∷ []))) w ≡ put_all (map f (missing_for records entries)) w
made_before records f entries e w made = sym (last_entry records f entries e w) ∙ ap (put_all (map f (missing_for records entries))) made
