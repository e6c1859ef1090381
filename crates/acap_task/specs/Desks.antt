-- A desk in memory.
use Rattle.std.specs.Prelude.{◌≡◌, ◌⊎◌, ℕ, ℤ, List, [], ◌∷◌, ◌++◌, Bool, true, false, map, Option, Some}
use Rattle.std.specs.Prelude.{Result, Ok, Err, refl}
use Rattle.std.specs.Coded.{Coded, code_by, coded×, coded_list, coded_option, coded_result, coded_ℕ}
use Rattle.acap_commands.specs.contracts.event.Fault as refusal
use Rattle.acap_commands.specs.declared.event.Fault.{Fault}
use Rattle.acap_commands.specs.declared.event.Fault.TheVariants as fault
use Rattle.acap_locked.specs.contracts.call.Answer as answer
use Rattle.acap_locked.specs.contracts.call.Call as call
use Rattle.acap_locked.specs.declared.call.Answer.{Answer}
use Rattle.acap_commands.specs.declared.event.Event.{Event}
use Rattle.acap_commands.specs.declared.event.Event.TheVariants as event
use Rattle.acap_commands.specs.declared.reply.Reply.{Reply}
use Rattle.acap_locked.specs.Calls.{Gains}
use Rattle.acap_locked.specs.Notes.{call_of}
use Rattle.acap_locked.specs.declared.call.Call.{Call}
use Rattle.acap_locked.specs.declared.item.PassContents.{PassContents}
use Rattle.acap_locked.specs.declared.item.Item.{Item}
use Rattle.acap_task.specs.Told.{DeskTold}

-- why a call is not answered: its answer is that fault, or there is none left, or memory was refused
abbrev pub IsFault : List (Result Answer Fault) → Fault → Type 0
IsFault (Err given ∷ answers) f = f ≡ given
IsFault other f = f ≡ fault.Memory

-- what it reports, and the answers that are left
abbrev pub DeskNow : Type 0
DeskNow = DeskTold × List (Result Answer Fault)

-- how they are told apart in proofs
abbrev pub told_code : Coded DeskTold
told_code =
    code_by (Option (List Call) × ℕ) (coded× (coded_option (coded_list call.the_row.coded)) coded_ℕ)
    (λ d. (d.calls, d.faults)) (λ p. record { calls = p.0; faults = p.1 }) (λ _. refl)

abbrev pub desk_code : Coded DeskNow
desk_code = coded× told_code (coded_list (coded_result answer.the_row.coded refusal.the_row.coded))

-- ---- a desk with a pass

-- the call of an item
abbrev pub exchange_of : Item → Call
exchange_of i = i.exchange

-- what it reports of its record
abbrev pub desk_told : List Item → ℕ → DeskTold
desk_told calls faults = record { calls = Some (map exchange_of calls); faults = faults }

-- whether a Leave is owed after a call: where it was the Leave that was refused
abbrev pub owes_after : Event → Result Answer Fault → Bool → Bool
owes_after event.Leave (Ok answer) owed = false
owes_after event.Leave (Err fault) owed = true
owes_after other outcome owed = owed

-- one list ends with the other
pub record EndsWith (long short : List Item) : Type 0 where
  pub front : List Item
  pub is : long ≡ front ++ short

-- of two lists the shorter is how the other ends
abbrev pub EndsAlike : List Item → List Item → Type 0
EndsAlike one other = EndsWith one other ⊎ EndsWith other one

-- One more call stands in the record, and in the pass, which may have dropped all before it.
pub record HasCalled (event : Event) (now : ℤ) (reply : Reply) (items kept new_items new_kept : List Item)
    : Type 0 where
  pub item : Item
  pub call : item.exchange ≡ call_of event now reply
  pub in_record : new_kept ≡ kept ++ item ∷ []
  pub in_pass : (new_items ≡ items ++ item ∷ []) ⊎ (new_items ≡ item ∷ [])

-- a pass has one call more, a Leave at that moment
pub record HasLeft (now : ℤ) (old new : PassContents) : Type 0 where
  pub answer : Answer
  pub gains : Gains old event.Leave now answer new
