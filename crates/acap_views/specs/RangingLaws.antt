-- What a search over a context starts from, over all that happens [RFC 2244 sections 3.3 and 6.4.1].
use Rattle.std.specs.Prelude.{◌≡◌, ◌⊎◌, ℕ, List, Ok, Err}
use Rattle.acap_entries.specs.Store.{Store}
use Rattle.acap_rights.specs.declared.realm.Realm.{Realm}
use Rattle.acap_views.specs.Changing.{changed_seats}
use Rattle.acap_views.specs.Ranging.{Ranged, range_at}
use Rattle.acap_views.specs.Seats.{Seated}
use Rattle.acap_views.specs.declared.refusal.ViewRefusal.{ViewRefusal}
use Rattle.acap_views.specs.declared.refusal.ViewRefusal.TheVariants as refusal

-- until its client is sent something, a change of the store moves no position of a context: there is the same
-- list, or the server has freed the context; and one that isn't there or was freed stays so
pub record RangedLaw : Type 0 where
  pub kept : (realm : Realm) (old new : Store) (seats : Seated) (seat : ℕ) (name : List ℕ) (found : Ranged)
      → range_at seats seat name ≡ Ok found
      → (range_at (changed_seats realm old new seats) seat name ≡ Ok found)
      ⊎ (range_at (changed_seats realm old new seats) seat name ≡ Err refusal.FreedContext)
  pub refused : (realm : Realm) (old new : Store) (seats : Seated) (seat : ℕ) (name : List ℕ)
      (why : ViewRefusal) → range_at seats seat name ≡ Err why
      → range_at (changed_seats realm old new seats) seat name ≡ Err why
