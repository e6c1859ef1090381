-- What a command of a user comes to: what is said, and the machine
-- afterwards [RFC 2244 sections 6.2, 6.4.1, 6.5, 6.6 and 6.7].
use Rattle.std.specs.Prelude.{ℕ, ℤ, List, Option, Some, None, Result, Ok, Err}
use Rattle.acap_entries.specs.declared.change.Change.{Change}
use Rattle.acap_commands.specs.declared.command.Command.{Command}
use Rattle.acap_commands.specs.declared.command.Command.TheVariants as command
use Rattle.acap_commands.specs.declared.object_name.ObjectName.{ObjectName}
use Rattle.acap_commands.specs.declared.refusal.Refusal.{Refusal}
use Rattle.acap_commands.specs.declared.refusal.Refusal.TheVariants as refusals
use Rattle.acap_commands.specs.declared.said.Said.{Said}
use Rattle.acap_commands.specs.declared.said.Said.TheVariants as said
use Rattle.acap_commands.specs.declared.command.Verb.{Verb}
use Rattle.acap_commands.specs.declared.command.Verb.TheVariants as verb
use Rattle.acap_machine.specs.Changing.{changed_by}
use Rattle.acap_machine.specs.Machine.{Machine}
use Rattle.acap_machine.specs.Searching.{search_answer, seated_or, view_refused_as}
use Rattle.acap_notices.specs.declared.told.Told.{Told}
use Rattle.acap_rights.specs.Deciding.{dataset_in, rights_of, implicit_rights}
use Rattle.acap_rights.specs.Rights.{letters_of, rights_list}
use Rattle.acap_store.specs.Deleting.{deleted_since}
use Rattle.acap_store.specs.Meaning.{target_for}
use Rattle.acap_store.specs.Planning.{plan}
use Rattle.acap_store.specs.declared.write.Write.{Write}
use Rattle.acap_store.specs.declared.write.Write.TheVariants as write
use Rattle.acap_views.specs.Opening.{freed_by}
use Rattle.acap_views.specs.Seats.{Seated}
use Rattle.acap_views.specs.Telling.{told_of}
use Rattle.acap_views.specs.declared.refusal.ViewRefusal.{ViewRefusal}

-- ---- STORE, SETACL and DELETEACL: the change is made, and answered as done under its verb, or it is refused

abbrev pub written_or : Machine → Verb → Result Change Refusal → Said × Machine
written_or m done (Ok change) = (said.Done done, changed_by change m)
written_or m done (Err refusal) = (said.Refused refusal, m)

abbrev pub write_answer : Machine → List ℕ → Verb → Write → ℤ → Said × Machine
write_answer m user done write clock = written_or m done (plan m.store m.realm user write clock)

-- ---- MYRIGHTS and LISTRIGHTS, of any object, whether it is there or not

abbrev pub rights_told : Machine → List ℕ → ObjectName → Said × Machine
rights_told m user object =
    (said.Rights (letters_of (rights_of m.store.records m.realm user (target_for user object))), m)

-- what the identifier always has there, and then each other right apart: no list is looked at
abbrev pub rights_listed : Machine → List ℕ → ObjectName → List ℕ → Said × Machine
rights_listed m user object identifier = (
  said.RightsList (rights_list (implicit_rights m.realm identifier (dataset_in (target_for user object)))),
  m,
)

-- ---- DELETEDSINCE

abbrev pub names_or : Result (List (List ℕ)) Refusal → Said
names_or (Ok names) = said.Deleted names
names_or (Err refusal) = said.Refused refusal

abbrev pub deletions_answer : Machine → List ℕ → List ℕ → ℤ → Said × Machine
deletions_answer m user dataset since = (names_or (deleted_since m.store m.realm user dataset since), m)

-- ---- FREECONTEXT and UPDATECONTEXT

abbrev pub free_answer : Machine → ℕ → List ℕ → Said × Machine
free_answer m seat name = seated_or m (said.Done verb.FreeContext) (freed_by m.seats seat name)

abbrev pub updated_or : Machine → Result (List Told × Seated) ViewRefusal → Said × Machine
updated_or m (Ok told) = (said.Updated told.0, record m { seats = told.1 })
updated_or m (Err why) = (said.Refused (view_refused_as why), m)

-- the store's last moment is sent of each context
abbrev pub update_answer : Machine → ℕ → List (List ℕ) → Said × Machine
update_answer m seat names = updated_or m (told_of m.seats seat names m.store.last)

-- ---- every command. NOOP, LOGOUT and AUTHENTICATE concern the session alone, which answers them without the
-- machine; to the user of a seat the machine would say this

unfoldable pub answer_to : Machine → ℕ → List ℕ → Command → ℤ → Said × Machine
answer_to m seat user command.Noop clock = (said.Done verb.Noop, m)
answer_to m seat user command.Logout clock = (said.GoodBye, m)
answer_to m seat user (command.Authenticate mechanism) clock = (said.Refused refusals.LoggedIn, m)
answer_to m seat user (command.Store entries) clock =
    write_answer m user verb.Store (write.Store entries) clock
answer_to m seat user (command.Search search) clock = search_answer m seat user search
answer_to m seat user (command.SetAcl object identifier letters) clock =
    write_answer m user verb.SetAcl (write.SetAcl object identifier letters) clock
answer_to m seat user (command.DeleteAcl object identifier) clock =
    write_answer m user verb.DeleteAcl (write.DeleteAcl object identifier) clock
answer_to m seat user (command.MyRights object) clock = rights_told m user object
answer_to m seat user (command.ListRights object identifier) clock = rights_listed m user object identifier
answer_to m seat user (command.DeletedSince dataset since) clock = deletions_answer m user dataset since
answer_to m seat user (command.FreeContext name) clock = free_answer m seat name
answer_to m seat user (command.UpdateContext names) clock = update_answer m seat names

-- the change of the store that a command asks for, as it was sent
abbrev pub write_of : Command → Option Write
write_of command.Noop = None
write_of command.Logout = None
write_of (command.Authenticate mechanism) = None
write_of (command.Store entries) = Some (write.Store entries)
write_of (command.Search search) = None
write_of (command.SetAcl object identifier letters) = Some (write.SetAcl object identifier letters)
write_of (command.DeleteAcl object identifier) = Some (write.DeleteAcl object identifier)
write_of (command.MyRights object) = None
write_of (command.ListRights object identifier) = None
write_of (command.DeletedSince dataset since) = None
write_of (command.FreeContext name) = None
write_of (command.UpdateContext names) = None
