-- What follows from the definitions alone.
use Rattle.std.specs.Prelude.{◌≡◌, ◌↔◌, ℕ, ℤ, Bool, List, [], ◌∷◌, ◌++◌, map, Option, Some, None, Ok, Err}
use Rattle.std.specs.Prelude.{true, false, is_none, int_lt}
use Rattle.std.specs.List.{list_any, list_all}
use Rattle.std.specs.Option.{option_or}
use Rattle.std.specs.FinMap as table
use Rattle.acap_entries.specs.Changes.{store_after}
use Rattle.acap_entries.specs.Names.{own_entry}
use Rattle.acap_entries.specs.Store.{Stored, Store, path_cmp, after_edit}
use Rattle.acap_entries.specs.declared.change.Change.{Change}
use Rattle.acap_entries.specs.declared.path.Path.{Path}
use Rattle.acap_commands.specs.declared.refusal.Refusal.{Refusal}
use Rattle.acap_commands.specs.declared.store.StoreEntry.{StoreEntry}
use Rattle.acap_rights.specs.declared.realm.Realm.{Realm}
use Rattle.acap_store.specs.Limits.{is_too_much}
use Rattle.acap_store.specs.Meaning.{meaning}
use Rattle.acap_store.specs.Planning.{refusals_of, plan}
use Rattle.acap_store.specs.Refusing.{same_path}
use Rattle.acap_store.specs.Writing.{own_if_missing, missing_to, written_for, steps_for, entry_at, step_at}
use Rattle.acap_store.specs.Writing.{missing_for}
use Rattle.acap_store.specs.declared.write.Write.{Write}

-- ---- refusals

-- a refusal holds, and none before it does
pub record IsFirst (refusal : Refusal) (all : List (Option Refusal)) : Type 0 where
  pub before : List (Option Refusal)
  pub behind : List (Option Refusal)
  pub whole : before ++ Some refusal ∷ behind ≡ all
  pub none_before : list_all is_none before ≡ true

-- the refusals of a command
abbrev pub refusals : Store → Realm → List ℕ → Write → ℤ → List (Option Refusal)
refusals s realm user write now = refusals_of s realm user (meaning s.records user write) now

-- a command is refused exactly by the first refusal of their
-- order that holds, and accepted exactly where none does
pub record OrderLaw : Type 0 where
  pub refused : (s : Store) (realm : Realm) (user : List ℕ) (write : Write) (now : ℤ) (refusal : Refusal) →
      (plan s realm user write now ≡ Err refusal) ↔ IsFirst refusal (refusals s realm user write now)
  pub accepted : (s : Store) (realm : Realm) (user : List ℕ) (write : Write) (now : ℤ) (change : Change) →
      plan s realm user write now ≡ Ok change → list_all is_none (refusals s realm user write now) ≡ true

-- ---- what is written

-- the entries of a command
abbrev pub entries_of : Store → List ℕ → Write → List StoreEntry
entries_of s user write = (meaning s.records user write).entries

-- path by path: what an accepted command writes at a path is what its entry with that path gets, else what
-- the own entry of a missing dataset gets, and every other path has its old record
abbrev pub PathLaw : Type 0
PathLaw = (s : Store) (realm : Realm) (user : List ℕ) (write : Write) (now : ℤ) (change : Change)
    → plan s realm user write now ≡ Ok change → (p : Path) →
    table.get (store_after change s).records p
    ≡ after_edit
    (option_or
    (table.find path_cmp p
    (map (entry_at s.records user (steps_for s.records (entries_of s user write) change.moment)
    change.moment) (entries_of s user write)))
    (table.find path_cmp p
    (map (step_at s.records change.moment) (missing_for s.records (entries_of s user write)))))
    (table.get s.records p)

-- a path that no entry of the command has, and that is no missing dataset's own entry, keeps its record
abbrev pub KeptLaw : Type 0
KeptLaw = (s : Store) (realm : Realm) (user : List ℕ) (write : Write) (now : ℤ) (change : Change)
    → plan s realm user write now ≡ Ok change → (p : Path) →
    list_any (λ e. same_path p e.path) (entries_of s user write) ≡ false
    → list_any (same_path p) (missing_for s.records (entries_of s user write)) ≡ false →
    table.get (store_after change s).records p ≡ table.get s.records p

-- an accepted command is later than the one before it, whatever the clock
abbrev pub LaterLaw : Type 0
LaterLaw = (s : Store) (realm : Realm) (user : List ℕ) (write : Write) (now : ℤ) (change : Change)
    → plan s realm user write now ≡ Ok change → int_lt s.last change.moment ≡ true

-- ---- in other words

-- whether what is written is too much doesn't depend on the
-- moment: so a limit is answered before the end of the clock
abbrev pub RoomLaw : Type 0
RoomLaw = (records : Stored) (user : List ℕ) (entries : List StoreEntry) (is_given_large : Bool) (a b : ℤ) →
    is_too_much records is_given_large (written_for records user entries a)
    ≡ is_too_much records is_given_large (written_for records user entries b)

-- the datasets that are missing on the way to one are those on the way to its parent, and itself if it
-- doesn't exist; none on the way to one without a parent
pub record StepsLaw : Type 0 where
  pub parent : (records : Stored) (dataset : List ℕ) (own : List ℕ × List ℕ) → own_entry dataset ≡ Some own
      → missing_to records dataset ≡ missing_to records own.0 ++ own_if_missing records dataset own
  pub none : (records : Stored) (dataset : List ℕ) → own_entry dataset ≡ None
      → missing_to records dataset ≡ []
