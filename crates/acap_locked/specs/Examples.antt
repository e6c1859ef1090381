-- Examples of histories, flags, passes and epochs, by the definitions alone.
use Rattle.std.specs.Prelude.{◌≡◌, ℕ, ℤ, List, [], ◌∷◌, length}
use Rattle.acap_commands.specs.declared.command.Command.{Command}
use Rattle.acap_commands.specs.declared.event.Event.{Event}
use Rattle.acap_commands.specs.declared.event.Event.TheVariants as event
use Rattle.acap_commands.specs.declared.event.Fault.TheVariants as fault
use Rattle.acap_machine.specs.Machine.{Machine}
use Rattle.acap_machine.specs.Stepping.{Stepped}
use Rattle.acap_locked.specs.declared.call.Call.{Call}
use Rattle.acap_locked.specs.declared.history_entry.HistoryEntry.{HistoryEntry}
use Rattle.acap_locked.specs.declared.item.PassContents.{PassContents}
use Rattle.acap_locked.specs.Calls.{IsRefused}
use Rattle.acap_locked.specs.Epochs.{MayBegin, held_in, next_epoch, retire}
use Rattle.acap_locked.specs.History.{IsReplay}
use Rattle.acap_locked.specs.Notes.{entry_of, item_of}
use Rattle.acap_locked.specs.Passes.{IsMissing, IsUnequal, Stands, items_from, new_pass, new_passes}
use Rattle.acap_locked.specs.Rings.{flags_left, rings_of}
use Rattle.acap_locked.specs.Shelf.{Shelf, shelf_of}

-- seats 2 and 3 are flagged, by the bits 4 and 8
pub record RingExamples : Type 0 where
  pub drains : flags_left 3 event.Drain 12 ≡ 4
  pub leaves : flags_left 2 event.Leave 12 ≡ 8
  pub enters : (user : List ℕ) → flags_left 0 (event.Enter user) 12 ≡ 12
  pub commands : (command : Command) → flags_left 3 (event.Command command) 12 ≡ 12
  -- of seats 0 and 2, which wait, the one without a flag is rung
  pub rings : rings_of 5 12 ≡ 1
  pub rung : rings_of 12 12 ≡ 0

-- a history of three calls, of seats 1, 0 and 1
abbrev pub three : Call → Call → Call → List HistoryEntry
three a b c = entry_of 1 a ∷ entry_of 0 b ∷ entry_of 1 c ∷ []

-- a pass of seat 1 that holds two calls of epoch 2, and made five before
abbrev pub pass_of : Call → Call → PassContents
pass_of a c = record { seat = 1; epoch = 2; items = item_of 2 0 a ∷ item_of 2 2 c ∷ []; retired = 5 }

pub record HistoryExamples : Type 0 where
  pub items : (a b c : Call) → items_from 2 1 0 (three a b c) ≡ item_of 2 0 a ∷ item_of 2 2 c ∷ []
  pub none : (a b c : Call) → items_from 2 7 0 (three a b c) ≡ []
  pub counts : (a b c : Call) → retire (4 ∷ 0 ∷ 1 ∷ []) (three a b c) ≡ 5 ∷ 2 ∷ 1 ∷ []
  pub stands : (a b c : Call) → Stands 2 (three a b c) 5 (pass_of a c)
  pub keeps : (a c : Call) → held_in 2 (pass_of a c) ≡ pass_of a c
  pub retires : (a c : Call) → held_in 3 (pass_of a c)
      ≡ record { seat = 1; epoch = 3; items = []; retired = 7 }
  -- a call is legal by the machine that the one before it left
  pub replays : (base mid machine : Machine) (a b : Call) → Stepped base 1 a.event a.moment a.reply mid
      → Stepped mid 0 b.event b.moment b.reply machine
      → IsReplay base (entry_of 1 a ∷ entry_of 0 b ∷ []) machine

pub record PassExamples : Type 0 where
  pub two : new_passes 2 ≡ new_pass 0 ∷ new_pass 1 ∷ []
  -- one pass is there and the next is missing, in whatever order they come
  pub missing : IsMissing (new_pass 2 ∷ new_pass 0 ∷ []) 1
  -- a pass that lacks its seat's only call differs, and so does one that has a call of its own
  pub lacks : (a : Call) → IsUnequal (new_pass 0 ∷ []) 0 (entry_of 0 a ∷ []) (0 ∷ []) 0
  pub invents : (a : Call)
      → IsUnequal (record { seat = 0; epoch = 0; items = item_of 0 0 a ∷ []; retired = 0 } ∷ []) 0 [] (0 ∷ [])
      0

pub record EpochExamples : Type 0 where
  pub short : (s : Shelf) → length s.history ≡ 499999 → MayBegin s → ⊥
  pub last : (s : Shelf) → s.epoch ≡ 4611686018427387904 → MayBegin s → ⊥
  pub begins : (m base : Machine) (a : Call)
      → next_epoch (shelf_of m (entry_of 1 a ∷ []) 6 3 base (2 ∷ 0 ∷ [])) ≡ shelf_of m [] 6 4 m (2 ∷ 1 ∷ [])
  -- a history is full at 1,000,000 calls, and then nothing else is answered
  pub full : (s : Shelf) (seat : ℕ) (e : Event) (now : ℤ) → length s.history ≡ 999999
      → IsRefused s seat e now fault.HistoryFull → ⊥
  pub only : (s : Shelf) (seat : ℕ) (e : Event) (now : ℤ) → length s.history ≡ 1000000
      → IsRefused s seat e now fault.NotEntered → ⊥
