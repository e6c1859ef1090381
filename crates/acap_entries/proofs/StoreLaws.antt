-- What changes leave.
use Rattle.std.proofs.Common.{◌≡◌, refl, Some, sym, ap, ◌∙◌, cond}
use Rattle.std.specs.Cmp.{eq_by_cmp_equiv}
use Rattle.std.specs.FinMap.{get, get-insert, empty, same_map}
use Rattle.std.specs.FinMap as map
use Rattle.acap_entries.specs.Changes.{IsStoreAfter, store_after}
use Rattle.acap_entries.specs.Store.{path_cmp, Store, after_edit}
use Rattle.acap_entries.specs.Laws.{ChangeLaw, AfterLaw, TwoChangesLaw, RemovalLaw}
use Rattle.acap_entries.specs.declared.change.Change.{Change}
use Rattle.acap_entries.specs.declared.change.RecordEdit.{RecordEdit}
use Rattle.acap_entries.specs.declared.change.RecordEdit.TheVariants.{Put, Remove}
use Rattle.acap_entries.specs.declared.path.Path.{Path}
use Rattle.acap_entries.proofs.StoreLemmas.{path_cmp_total, path_same, entries-IsPathByPath}

pub same_store : ChangeLaw
same_store change old a b p q =
    let records = same_map path_cmp_total path_same a.records b.records (λ path. p.paths.at_path path ∙ sym (q.paths.at_path path)) in
    let last = p.last ∙ sym q.last in
    let deletions = p.deletions ∙ sym q.deletions in
    let forgotten = p.forgotten ∙ sym q.forgotten in
    λ i. record { records = records i; last = last i; deletions = deletions i; forgotten = forgotten i }

pub value_after : AfterLaw
value_after change old = record { paths = entries-IsPathByPath change.writes old.records; last = refl; deletions = refl; forgotten = refl }

-- so a store that a change leaves is that value
pub is_value_after : (change : Change) (old new : Store) → IsStoreAfter change old new → new ≡ store_after change old
is_value_after change old new p = same_store change old new _ p (value_after change old)

pub two_changes : TwoChangesLaw
two_changes earlier later old mid new p q =
    ((λ path. q.paths.at_path path ∙ ap (after_edit (map.get later.writes path)) (p.paths.at_path path)), q.last)

-- what is written at the one path of a change
written_at : (p : Path) (edit : RecordEdit) → map.get (map.insert {R = path_cmp} map.empty p edit) p ≡ Some edit
written_at p edit = get-insert path_cmp_total map.empty p edit p ∙ ap (λ b. cond b (Some edit) (map.get {R = path_cmp} map.empty p)) ((eq_by_cmp_equiv path_cmp_total).refl p)

pub removal : RemovalLaw
removal p r earlier later old mid new f g =
    (f.paths.at_path p ∙ ap (λ o. after_edit o (map.get old.records p)) (written_at p (Put r)), g.paths.at_path p ∙ ap (λ o. after_edit o (map.get mid.records p)) (written_at p Remove))
