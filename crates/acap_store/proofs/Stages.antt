-- The order of refusals, and what a change deletes, by computation.
use Rattle.std.proofs.Common.{◌≡◌, ℕ, ℤ, false, true, List, [], ◌∷◌, Some, None, refl}
use Rattle.std.specs.Prelude.{codes}
use Rattle.std.specs.FinMap.{get, entries}
use Rattle.acap_entries.specs.Store.{Stored, Store, after_writes}
use Rattle.acap_entries.specs.declared.record.Cell.TheVariants.{Single}
use Rattle.acap_entries.specs.declared.record.Record.{Record}
use Rattle.acap_rights.specs.declared.realm.Realm.{Realm}
use Rattle.acap_inherit.specs.Resolving.{lookup, entry_exists, modtime_of}
use Rattle.acap_store.specs.Deleting.{ending, deleted_by}
use Rattle.acap_inherit.specs.Chains.{chain_of}
use Rattle.acap_store.specs.Examples.{StageLaw, ChangeExamples, home, at}
use Rattle.acap_store.specs.Forms.{resolved_at, exists_at}
use Rattle.acap_store.specs.Planning.{planned_for, refusals_of}
use Rattle.acap_store.specs.declared.write.ResolvedWrite.{ResolvedWrite}

pub stage_law : (s : Store) (realm : Realm) (user : List ℕ) (meant : ResolvedWrite) (now : ℤ) → StageLaw s realm user meant now
unfolding planned_for refusals_of
stage_law s realm user meant now = record {
  twice = λ a. rw a refl;
  denied = λ r a b. rw (a, b) refl;
  missing = λ r a b c. rw (a, b, c) refl;
  changed = λ r a b c d. rw (a, b, c, d) refl;
  not_valid = λ r a b c d e. rw (a, b, c, d, e) refl;
  limit = λ a b c d e f. rw (a, b, c, d, e, f) refl;
  clock_end = λ a b c d e f g. rw (a, b, c, d, e, g, f) refl;
}

-- where inheritance leads
inherited : (records : Stored) (base : List ℕ) (second : Record) → chain_of records home false ≡ home ∷ base ∷ [] → get records (at (codes "a")) ≡ None → get records (record { dataset = base; name = codes "a" }) ≡ Some second →
    second.present ≡ true → exists_at records (at (codes "a")) ≡ true
unfolding entry_exists
inherited records base second chain a b present = rw (chain, a, b, present) refl

inherited_value : (records : Stored) (base : List ℕ) (second : Record) → chain_of records home false ≡ home ∷ base ∷ [] → get records (at (codes "a")) ≡ None → get records (record { dataset = base; name = codes "a" }) ≡ Some second →
    second.present ≡ true → get second.cells (codes "k") ≡ Some (Single (codes "1")) → resolved_at records (at (codes "a")) (codes "k") ≡ Some (Single (codes "1"), base)
unfolding lookup
inherited_value records base second chain a b present k = rw (chain, a, b, present, k) refl

-- nothing where there is no record and no base
alone : (records : Stored) → chain_of records home false ≡ home ∷ [] → get records (at (codes "a")) ≡ None → exists_at records (at (codes "a")) ≡ false
unfolding entry_exists
alone records chain a = rw (chain, a) refl

pub change_examples : (records : Stored) → ChangeExamples records
unfolding ending deleted_by modtime_of
change_examples records = record {
  there = λ e. rw e refl;
  not_there = λ e. rw e refl;
  shows_through = λ written e f. rw (e, f) refl;
  ends = λ written e f. rw (e, f) refl;
  gone = λ written e chain none. rw (e, alone (after_writes (entries written) records) chain none) refl;
  recorded = λ written moment e f. rw (e, f) refl;
  inherited = inherited records;
  inherited_value = inherited_value records;
  latest = λ base first second chain a b p q m n. rw (chain, a, b, p, q, m, n) refl;
}
