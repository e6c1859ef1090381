-- What one call does.
use Rattle.std.specs.Prelude.{◌≡◌, ◌≤◌, ◌<◌, ℕ, ℤ, [], ◌∷◌, ◌++◌, Some, length, bit_or}
use Rattle.acap_commands.specs.declared.event.Event.{Event}
use Rattle.acap_commands.specs.declared.event.Fault.{Fault}
use Rattle.acap_commands.specs.declared.event.Fault.TheVariants as fault
use Rattle.acap_machine.specs.Stepping.{Stepped, step_of, IsFault}
use Rattle.acap_views.specs.Waiting.{waiting}
use Rattle.acap_locked.specs.declared.call.Answer.{Answer}
use Rattle.acap_locked.specs.declared.item.PassContents.{PassContents}
use Rattle.acap_locked.specs.declared.item.Item.{Item}
use Rattle.acap_locked.specs.Epochs.{held_in, Turns}
use Rattle.acap_locked.specs.Notes.{call_of, entry_of, item_of}
use Rattle.acap_locked.specs.Rings.{flags_left, rings_of}
use Rattle.acap_locked.specs.Shelf.{Shelf}

-- what a pass holds, with one item more
abbrev pub with_item : PassContents → Item → PassContents
with_item h item = record h { items = h.items ++ item ∷ [] }

-- the pass has one more item, which is the caller's event and moment
-- and the answer's place and reply, and the caller is given it too
pub record Gains (old : PassContents) (event : Event) (now : ℤ) (answer : Answer) (new : PassContents)
    : Type 0 where
  pub pass : new
      ≡ with_item (held_in answer.epoch old)
      (item_of answer.epoch answer.place (call_of event now answer.reply))
  pub kept : answer.kept ≡ Some (item_of answer.epoch answer.place (call_of event now answer.reply))

-- exactly one step of the machine before it, which is
-- answered, noted in the history and in the pass, and rung for
pub record IsCalled
    (old : Shelf) (held : PassContents) (event : Event) (now : ℤ) (answer : Answer) (new : Shelf)
    (left : PassContents) : Type 0 where
  pub below : length old.history < 1000000
  pub step : Stepped old.machine held.seat event now answer.reply new.machine
  pub history : new.history ≡ old.history ++ entry_of held.seat (call_of event now answer.reply) ∷ []
  pub place : answer.place ≡ length old.history
  pub epoch : answer.epoch ≡ old.epoch
  pub rest : (new.epoch ≡ old.epoch) × (new.base ≡ old.base) × (new.retired ≡ old.retired)
  pub gains : Gains held event now answer left
  pub rings : answer.rings ≡ rings_of (waiting new.machine.seats) (flags_left held.seat event old.flags)
  pub flags : new.flags ≡ bit_or (flags_left held.seat event old.flags) answer.rings

-- a new epoch may begin, and then the call is made
abbrev pub IsServed : Shelf → PassContents → Event → ℤ → Answer → Shelf → PassContents → Type 0
IsServed old held event now answer new left =
    (mid : Shelf) × Turns old mid × IsCalled mid held event now answer new left

-- why an event is refused: first of all since the history is full, and else as the machine refuses it
abbrev pub IsRefused : Shelf → ℕ → Event → ℤ → Fault → Type 0
IsRefused s seat event now fault.Memory = length s.history < 1000000
IsRefused s seat event now fault.NotEntered =
    (length s.history < 1000000) × IsFault (step_of s.machine seat event now) fault.NotEntered
IsRefused s seat event now fault.AlreadyEntered =
    (length s.history < 1000000) × IsFault (step_of s.machine seat event now) fault.AlreadyEntered
IsRefused s seat event now fault.HistoryFull = 1000000 ≤ length s.history
