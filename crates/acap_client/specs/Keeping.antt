-- What each line makes of a context and of a command that waits [RFC 2244 sections 3.3, 6.4.1 and 6.5].
use Rattle.std.specs.Prelude.{◌≡◌, ℕ, true, false, List, [], ◌∷◌, ◌++◌, Option, Some, None, option_map}
use Rattle.std.specs.Prelude.{length, if◌then◌else◌}
use Rattle.std.specs.Prelude.{Result, Err}
use Rattle.std.specs.Option.{option_and_then}
use Rattle.acap_grammar.specs.Printed.{PrintedRow, PrintedNotice}
use Rattle.acap_grammar.specs.Printed as printed
use Rattle.acap_client.specs.Arguments.{data_in, value_in}
use Rattle.acap_client.specs.Following.{Held, held_as, held_after, Kept, Asked, Making, Freeing, row_of}
use Rattle.acap_client.specs.Following.{look_up, put}
use Rattle.acap_notices.specs.declared.held_fault.HeldFault.{HeldFault}
use Rattle.acap_notices.specs.declared.held_fault.HeldFault.TheVariants as fault
use Rattle.acap_client.specs.declared.note.Note.{Note}
use Rattle.acap_client.specs.declared.note.Note.TheVariants as note

-- ---- what a line makes of a context

abbrev pub noted : Note → PrintedNotice
noted (note.AddTo position name items) = printed.AddTo (value_in position) (row_of name.now (data_in items))
noted (note.RemoveFrom name position) = printed.RemoveFrom name.now (value_in position)
noted (note.Change old new name items) =
    printed.Change (value_in old) (value_in new) (row_of name.now (data_in items))

-- what is kept of a context that was made
abbrev pub started : Held → Kept
started held = record { held = held; complete = false; freed = false }

abbrev pub freed_kept : Kept → Kept
freed_kept kept = record kept { freed = true }

-- None where the line doesn't fit what is held, as where nothing more was to come
abbrev pub kept_after : PrintedNotice → Kept → Option Kept
kept_after notice kept = if kept.freed then None else option_map started (held_after kept.held notice)

abbrev pub kept_upto : Kept → Option Kept
kept_upto kept = if kept.freed then None else Some (record kept { complete = true })

-- the context of a name is changed so, if it is held and what comes of it fits
abbrev pub changed_in : (Kept → Option Kept) → List ℕ → List (List ℕ × Kept) → Option (List (List ℕ × Kept))
changed_in change context contexts =
    option_map (λ kept. put context kept contexts) (option_and_then change (look_up context contexts))

-- a context that isn't held stays so
abbrev pub freed_where : Option Kept → List ℕ → List (List ℕ × Kept) → List (List ℕ × Kept)
freed_where None context contexts = contexts
freed_where (Some kept) context contexts = put context (freed_kept kept) contexts

abbrev pub freed_in : List ℕ → List (List ℕ × Kept) → List (List ℕ × Kept)
freed_in context contexts = freed_where (look_up context contexts) context contexts

-- what a command that has succeeded makes of the contexts
abbrev pub made_of : Asked → List (List ℕ × Kept) → List (List ℕ × Kept)
made_of (Making make rows) contexts = put make.name (started (held_as make.enumerate rows)) contexts
made_of (Freeing context) contexts = freed_in context contexts

abbrev pub IsMisfit : {A : Type 0} → Result A HeldFault → Type 0
IsMisfit result = result ≡ Err fault.Misfit

-- ---- what a line makes of a command that waits

abbrev pub with_row_of : PrintedRow → Asked → Asked
with_row_of row (Making make rows) = Making make (rows ++ row ∷ [])
with_row_of row (Freeing context) = Freeing context

-- how many rows of it are to be put into the order of their names
abbrev pub unplaced : Asked → ℕ
unplaced (Making make rows) = if make.enumerate then 0 else length rows
unplaced (Freeing context) = 0

abbrev pub row_where : Option Asked → List ℕ → PrintedRow → List (List ℕ × Asked) → List (List ℕ × Asked)
row_where None tag row waiting = waiting
row_where (Some asked) tag row waiting = put tag (with_row_of row asked) waiting

abbrev pub row_added : List ℕ → PrintedRow → List (List ℕ × Asked) → List (List ℕ × Asked)
row_added tag row waiting = row_where (look_up tag waiting) tag row waiting

abbrev pub done_in : Option Asked → List (List ℕ × Kept) → List (List ℕ × Kept)
done_in None contexts = contexts
done_in (Some asked) contexts = made_of asked contexts
