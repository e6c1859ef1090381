-- Whose context is looked at, when a change is about to be committed: words of private contracts.
use Rattle.std.specs.Prelude.{◌≡◌, ℕ, List, [], ◌∷◌, Option, None, refl}
use Rattle.std.specs.Borrow.{Bor}
use Rattle.std.specs.Coded.{Coded, code_by, coded×, coded_list, coded_ℕ}
use Rattle.std.specs.FinMap as map
use Rattle.std.specs.Option.{unwrap_or, ForSome}
use Rattle.acap_entries.specs.Leaving.{records_before, records_ahead}
use Rattle.acap_entries.specs.Store.{Store, Stored}
use Rattle.acap_entries.specs.contracts.path.Path as path
use Rattle.acap_entries.specs.contracts.record.Record as row
use Rattle.acap_entries.specs.declared.after.After.{After}
use Rattle.acap_entries.specs.declared.path.Path.{Path}
use Rattle.acap_entries.specs.declared.record.Record.{Record}
use Rattle.acap_inherit.specs.Records.{record_at}
use Rattle.acap_rights.specs.contracts.realm.Realm as realm
use Rattle.acap_rights.specs.declared.realm.Realm.{Realm}
use Rattle.acap_search.specs.Matches.{Match}
use Rattle.acap_search.specs.RecordCursors.{RecordCursor}
use Rattle.acap_search.specs.Views.{View, Spotted, places_at, found_at}
use Rattle.acap_search.specs.Walks.{quest_of, view_in}
use Rattle.acap_search.specs.contracts.query.SearchSpec as query
use Rattle.acap_search.specs.declared.query.SearchSpec.{SearchSpec}
use Rattle.acap_search.specs.declared.sort_term.SortTerm.{SortTerm}
use Rattle.acap_views.specs.FirstWrites.{IsOfBoth}
use Rattle.acap_views.specs.Preparing.{seen_at, shift_for}
use Rattle.acap_views.specs.EntryUpdates.{EntryUpdate}
use Rattle.acap_views.specs.declared.first_written.FirstWritten.{FirstWritten}

pub record ContextView : Type 0 where
  pub old : Stored
  pub new : Stored
  pub realm : Realm
  pub user : List ℕ
  pub sought : SearchSpec

-- a change leads from these records to those, and what is at hand of its first write is of both
pub record IsBetween (old new : Stored) (ahead : Bor After) (first : Option FirstWritten) : Type 0 where
  pub before : records_before ahead.now ≡ old
  pub after : records_ahead ahead.now ≡ new
  pub at_hand : ForSome first (IsOfBoth old new)

-- the management entry of a dataset
abbrev pub IsAtHand : Store → List ℕ → Option Record → Type 0
IsAtHand store dataset management = management ≡ record_at store.records dataset []

-- who looks into the dataset of a search
abbrev pub own_view : Stored → Realm → List ℕ → SearchSpec → View
own_view records realm user sought = view_in (quest_of records realm user sought) sought.dataset

-- so does the user of the context, before the change and afterwards
abbrev pub view_before : ContextView → View
view_before scene = own_view scene.old scene.realm scene.user scene.sought

abbrev pub view_after : ContextView → View
view_after scene = own_view scene.new scene.realm scene.user scene.sought

-- it looks through its dataset alone
abbrev pub IsAlone : View → Type 0
IsAlone view = view.chain ≡ view.dataset ∷ []

-- the records of the dataset before the change
pub record IsShelfOf (scene : ContextView) (shelf : RecordCursor) : Type 0 where
  pub records : shelf.records ≡ scene.old
  pub dataset : shelf.dataset ≡ scene.sought.dataset

-- so do those two, and those are the records
pub record IsField (scene : ContextView) (before : Option View) (after : View)
    (shelf : Option RecordCursor) : Type 0 where
  pub sees_before : ForSome before (λ view. view ≡ view_before scene)
  pub sees_after : after ≡ view_after scene
  pub at_hand : ForSome shelf (IsShelfOf scene)

-- an entry before the change and afterwards: where it stood, what is found of it then, and what becomes of it
abbrev pub spot_before : ContextView → Path → Spotted
spot_before scene path = seen_at scene.old scene.realm scene.user scene.sought path

abbrev pub spot_after : ContextView → Path → Spotted
spot_after scene path = seen_at scene.new scene.realm scene.user scene.sought path

abbrev pub places_before : ContextView → Path → List SortTerm
places_before scene path = places_at (spot_before scene path) (unwrap_or scene.sought.sort [])

abbrev pub found_after : ContextView → Path → Option Match
found_after scene path = found_at scene.sought None (spot_after scene path)

abbrev pub shift_in : ContextView → Path → EntryUpdate
shift_in scene path = shift_for scene.old scene.new scene.realm scene.user scene.sought path

-- how they are told apart in proofs
abbrev pub scene_code : Coded ContextView
scene_code =
    code_by (Stored × (Stored × (Realm × (List ℕ × SearchSpec))))
    (coded× (map.code path.the_row.coded row.the_row.coded)
    (coded× (map.code path.the_row.coded row.the_row.coded)
    (coded× realm.the_row.coded (coded× (coded_list coded_ℕ) query.the_row.coded))))
    (λ s. (s.old, (s.new, (s.realm, (s.user, s.sought)))))
    (λ p. record { old = p.0; new = p.1.0; realm = p.1.1.0; user = p.1.1.1.0; sought = p.1.1.1.1 })
    (λ _. refl)
