-- An event that was made ready: what is said, and what is yet to be put in place.
use Rattle.std.specs.Prelude.{◌≡◌, ◌<◌, ◌≤◌, ◌+◌, ℕ, ℤ, true, List, length, Result, Ok, Err, refl}
use Rattle.std.specs.Coded.{Coded, code_by, coded×, coded_ℕ}
use Rattle.std.specs.FinMap as table
use Rattle.acap_entries.specs.Changes.{store_after}
use Rattle.acap_entries.specs.Changes as tree
use Rattle.acap_entries.specs.declared.change.Change.{Change}
use Rattle.acap_commands.specs.contracts.reply.Reply as reply
use Rattle.acap_commands.specs.declared.event.Event.{Event}
use Rattle.acap_commands.specs.declared.event.Fault.{Fault}
use Rattle.acap_commands.specs.declared.reply.Reply.{Reply}
use Rattle.acap_inherit.specs.Index.{index_with}
use Rattle.acap_inherit.specs.Leaving.{IsPrepared}
use Rattle.acap_inherit.specs.declared.link.Link.{Link}
use Rattle.acap_machine.specs.Changing.{IsKept}
use Rattle.acap_machine.specs.Machine.{Machine, Kept, Roomed}
use Rattle.acap_machine.specs.Stepping.{IsFault, step_of}
use Rattle.acap_machine.specs.contracts.effect.Effect as effects
use Rattle.acap_machine.specs.declared.effect.Effect.{Effect}
use Rattle.acap_machine.specs.declared.effect.Effect.TheVariants as effect
use Rattle.acap_views.specs.Answering.{HasPlace, with_context}
use Rattle.acap_views.specs.Followed as views
use Rattle.acap_views.specs.Keeping.{seats_in}
use Rattle.acap_views.specs.Preparing.{IsPreparedFor, Prepared, with_delta}
use Rattle.acap_views.specs.Seats.{contexts_at, with_contexts, with_user, without_user}
use Rattle.acap_views.specs.Telling.{after_updates, drain_of}

-- the seat, what is put in place there, what is said, and how many touched entries were looked at
pub record Pending : Type 0 where
  pub seat : ℕ
  pub effect : Effect
  pub reply : Reply
  pub work : ℕ

abbrev pub pending_of : ℕ → Effect → Reply → ℕ → Pending
pending_of seat effect reply work = record { seat = seat; effect = effect; reply = reply; work = work }

-- what putting it in place makes of a machine
abbrev pub after_effect : Effect → ℕ → Machine → Machine
after_effect effect.Nothing seat m = m
after_effect (effect.Enters user) seat m = record m { seats = with_user m.seats seat user }
after_effect (effect.Changes change links delta) seat m =
    record m { store = store_after change m.store; seats = with_delta delta m.seats }
after_effect (effect.Makes new) seat m = record m { seats = with_context m.seats seat new }
after_effect (effect.Frees name) seat m =
    record m { seats = with_contexts m.seats seat (table.remove (contexts_at m.seats seat) name) }
after_effect (effect.Tells names last) seat m =
    record m { seats = with_contexts m.seats seat (after_updates (contexts_at m.seats seat) names last) }
after_effect effect.Drains seat m = record m { seats = (drain_of m.seats seat).1 }
after_effect effect.Leaves seat m = record m { seats = without_user m.seats seat }

-- what it makes of the index of heirs
abbrev pub links_after : Effect → List Link → List Link
links_after effect.Nothing links = links
links_after (effect.Enters user) links = links
links_after (effect.Changes change prepared delta) links = index_with prepared links
links_after (effect.Makes new) links = links
links_after (effect.Frees name) links = links
links_after (effect.Tells names last) links = links
links_after effect.Drains links = links
links_after effect.Leaves links = links

-- there is room for it, and what is to be freed is there
abbrev pub HasRoom : Effect → ℕ → Kept → Type 0
HasRoom effect.Nothing seat kept = Unit {0}
HasRoom (effect.Enters user) seat kept = 0 < kept.views.spare
HasRoom (effect.Changes change links delta) seat kept =
    tree.HasRoom change kept.tree × (length links.1 ≤ kept.index.1) × views.HasRoom delta kept.views
HasRoom (effect.Makes new) seat kept = HasPlace kept.views seat
HasRoom (effect.Frees name) seat kept =
    table.contains_key (contexts_at (seats_in kept.views) seat) name ≡ true
HasRoom (effect.Tells names last) seat kept = Unit {0}
HasRoom effect.Drains seat kept = Unit {0}
HasRoom effect.Leaves seat kept = Unit {0}

-- once it is in place, what the machine keeps beside its store and seats is true of them
abbrev pub StaysKept : Effect → ℕ → Roomed → Type 0
StaysKept effect seat state =
    IsKept (after_effect effect seat state.machine) (links_after effect state.kept.index.0)

-- the state is one for which it was made ready: there is room,
-- and what is so of machines between two events is so afterwards
pub record IsReadied (pending : Pending) (state : Roomed) : Type 0 where
  pub room : HasRoom pending.effect pending.seat state.kept
  pub sound : StaysKept pending.effect pending.seat state

-- it was made ready of a step: that is what the step says
-- and leaves, and the state is one for which it is ready
pub record IsReady (old : Roomed) (stepped : Result (Reply × Machine) Fault) (pending : Pending)
    (new : Roomed) : Type 0 where
  pub step : stepped ≡ Ok (pending.reply, after_effect pending.effect pending.seat old.machine)
  pub readied : IsReadied pending new

-- what is made ready of a step, or the fault in which it ends
abbrev pub IsReadyOf : Result Pending Fault → Roomed → Result (Reply × Machine) Fault → Roomed → Type 0
IsReadyOf (Ok pending) old stepped new = IsReady old stepped pending new
IsReadyOf (Err fault) old stepped new = IsFault stepped fault

-- the same of the step that an event is at a seat
abbrev pub IsReadyFor : Result Pending Fault → Roomed → ℕ → Event → ℤ → Roomed → Type 0
IsReadyFor result old seat event clock new = IsReadyOf result old (step_of old.machine seat event clock) new

-- what a change makes of the index, and of the contexts of all seats
abbrev pub IsIndexReady : Change → Roomed → List Link × List Link → Type 0
IsIndexReady change old prepared = IsPrepared change old.machine.store old.kept.index.0 prepared

abbrev pub AreViewsReady : Change → Roomed → Prepared → Type 0
AreViewsReady change old delta =
    IsPreparedFor change old.machine.store old.machine.realm old.machine.seats delta

-- how far a counter rose meanwhile: as far as is said, and at most as far
abbrev pub IsWork : Result Pending Fault → ℕ → ℕ → ℕ → Type 0
IsWork (Ok pending) old new most = (new ≡ old + pending.work) × (pending.work ≤ most)
IsWork (Err fault) old new most = (old ≤ new) × (new ≤ old + most)

-- how they are told apart in proofs
abbrev pub pending_code : Coded Pending
pending_code =
    code_by (ℕ × (Effect × (Reply × ℕ)))
    (coded× coded_ℕ (coded× effects.the_row.coded (coded× reply.the_row.coded coded_ℕ)))
    (λ p. (p.seat, (p.effect, (p.reply, p.work))))
    (λ q. record { seat = q.0; effect = q.1.0; reply = q.1.1.0; work = q.1.1.1 }) (λ _. refl)
