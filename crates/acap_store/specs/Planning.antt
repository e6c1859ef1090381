-- The change that a command makes of a store, or its first refusal [RFC 2244 sections 3.1, 3.6 and 6.6.1].
use Rattle.std.specs.Prelude.{ℤ, List, [], ◌∷◌, Bool, is_none, ℕ, Option, Some, None, Result, Ok, Err}
use Rattle.std.specs.Option.{unwrap_or}
use Rattle.acap_entries.specs.Moments.{moment_after}
use Rattle.acap_entries.specs.Store.{Store, Stored, Written}
use Rattle.acap_entries.specs.declared.change.Change.{Change}
use Rattle.acap_commands.specs.declared.refusal.Refusal.{Refusal}
use Rattle.acap_commands.specs.declared.refusal.Refusal.TheVariants as refusals
use Rattle.acap_commands.specs.declared.store.StoreEntry.{StoreEntry}
use Rattle.acap_rights.specs.declared.realm.Realm.{Realm}
use Rattle.acap_store.specs.Deleting.{deleted_by}
use Rattle.acap_store.specs.Invalid.{invalid}
use Rattle.acap_store.specs.Limits.{gives_large, is_too_much}
use Rattle.acap_store.specs.Meaning.{meaning}
use Rattle.acap_store.specs.Permission.{permission}
use Rattle.acap_store.specs.Refusing.{refused_if, first_of, has_twice, no_exist, modified}
use Rattle.acap_store.specs.Writing.{written_for}
use Rattle.acap_store.specs.declared.write.ResolvedWrite.{ResolvedWrite}
use Rattle.acap_store.specs.declared.write.Write.{Write}

-- the moment of what is written: the change's, and where none is left that of the last change, by which alone
-- it is then judged whether it is too much
abbrev pub written_at : Store → ℤ → ℤ
written_at s now = unwrap_or (moment_after s.last now) s.last

-- ---- the refusals in their order, each over all entries: parts of them first, then all seven

abbrev pub refusals_by_asking : Stored → Realm → List ℕ → ResolvedWrite → List (Option Refusal)
refusals_by_asking records realm user meant =
    permission records realm user meant.entries
    ∷ no_exist records meant.entries
    ∷ modified records meant.entries
    ∷ invalid records meant
    ∷ []

abbrev pub refusals_by_terms : Stored → Realm → List ℕ → ResolvedWrite → List (Option Refusal)
refusals_by_terms records realm user meant =
    refused_if (has_twice meant.entries) refusals.NotPermittedTwice
    ∷ refusals_by_asking records realm user meant

abbrev pub refusals_by_room : Store → Bool → Written → ℤ → List (Option Refusal)
refusals_by_room s is_given_large written now =
    refused_if (is_too_much s.records is_given_large written) refusals.Limit
    ∷ refused_if (is_none (moment_after s.last now)) refusals.ClockEnd
    ∷ []

abbrev pub room_refusal : Store → Bool → Written → ℤ → Option Refusal
room_refusal s is_given_large written now = first_of (refusals_by_room s is_given_large written now)

-- all seven
unfoldable pub refusals_of : Store → Realm → List ℕ → ResolvedWrite → ℤ → List (Option Refusal)
refusals_of s realm user meant now =
    let written = written_for s.records user meant.entries (written_at s now) in
    refused_if (has_twice meant.entries) refusals.NotPermittedTwice
    ∷ permission s.records realm user meant.entries
    ∷ no_exist s.records meant.entries
    ∷ modified s.records meant.entries
    ∷ invalid s.records meant
    ∷ refused_if (is_too_much s.records (gives_large meant.entries) written) refusals.Limit
    ∷ refused_if (is_none (moment_after s.last now)) refusals.ClockEnd
    ∷ []

-- ---- the change: all is stored, at one moment

abbrev pub change_with : Stored → List StoreEntry → Written → ℤ → Change
change_with records entries written moment = record {
  writes = written;
  moment = moment;
  deleted = deleted_by records written entries;
}

unfoldable pub change_of : Store → List ℕ → List StoreEntry → ℤ → Change
change_of s user entries moment =
    change_with s.records entries (written_for s.records user entries moment) moment

-- ---- the answer

abbrev pub unless_refused : Option Refusal → Change → Result Change Refusal
unless_refused (Some refusal) change = Err refusal
unless_refused None change = Ok change

unfoldable pub planned_for : Store → Realm → List ℕ → ResolvedWrite → ℤ → Result Change Refusal
planned_for s realm user meant now =
    unless_refused (first_of (refusals_of s realm user meant now))
    (change_of s user meant.entries (written_at s now))

abbrev pub plan : Store → Realm → List ℕ → Write → ℤ → Result Change Refusal
plan s realm user write now = planned_for s realm user (meaning s.records user write) now
