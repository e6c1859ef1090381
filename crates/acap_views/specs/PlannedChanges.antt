-- A change that is about to be committed: words of private contracts.
use Rattle.std.specs.Prelude.{◌≡◌, Option, refl}
use Rattle.std.specs.Borrow.{Bor}
use Rattle.std.specs.Coded.{Coded, code_by, coded×}
use Rattle.std.specs.Option.{ForSome}
use Rattle.acap_entries.specs.Changes.{store_after}
use Rattle.acap_entries.specs.FullPaths.{AreWellFormed}
use Rattle.acap_entries.specs.Leaving.{records_before, records_ahead}
use Rattle.acap_entries.specs.Store.{Store, Roomy, store_code}
use Rattle.acap_entries.specs.contracts.change.Change as change
use Rattle.acap_entries.specs.declared.after.After.{After}
use Rattle.acap_entries.specs.declared.change.Change.{Change}
use Rattle.acap_inherit.specs.Reaching.{Reaching}
use Rattle.acap_rights.specs.contracts.realm.Realm as realm
use Rattle.acap_rights.specs.declared.realm.Realm.{Realm}
use Rattle.acap_views.specs.Changing.{IsSoundStep}
use Rattle.acap_views.specs.FirstWrites.{IsOfBoth}
use Rattle.acap_views.specs.declared.first_written.FirstWritten.{FirstWritten}

-- the change, the store before it, and who is who
pub record Planned : Type 0 where
  pub change : Change
  pub old : Store
  pub realm : Realm

abbrev pub store_ahead : Planned → Store
store_ahead plan = store_after plan.change plan.old

-- the change and the store alone
abbrev pub reaching : Planned → Reaching
reaching plan = record { change = plan.change; old = plan.old }

-- the change may be made, and what is known of it is so
pub record IsAhead (change : Bor Change) (tree : Bor Roomy) (after : Bor After)
    (reach : Bor Reaching) : Type 0 where
  pub sound : IsSoundStep tree.now.store (store_after change.now tree.now.store)
  pub formed : AreWellFormed change.now.writes
  pub reached : reach.now ≡ record { change = change.now; old = tree.now.store }
  pub before : records_before after.now ≡ tree.now.store.records
  pub ahead : records_ahead after.now ≡ (store_after change.now tree.now.store).records

-- what is at hand of it is so: of the entry that it writes first, and of that one's dataset
pub record IsLookout (plan : Planned) (first : Option FirstWritten) (beside : Store) : Type 0 where
  pub at_hand : ForSome first (IsOfBoth plan.old.records (store_ahead plan).records)
  pub near : beside.records ≡ (store_ahead plan).records

-- how they are told apart in proofs
abbrev pub planned_code : Coded Planned
planned_code =
    code_by (Change × (Store × Realm)) (coded× change.the_row.coded (coded× store_code realm.the_row.coded))
    (λ p. (p.change, (p.old, p.realm))) (λ q. record { change = q.0; old = q.1.0; realm = q.1.1 }) (λ _. refl)
