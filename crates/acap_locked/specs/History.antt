-- Which histories are legal.
use Rattle.std.specs.Prelude.{◌≡◌, ◌≤◌, ◌+◌, ◌*◌, ℕ, List, [], ◌∷◌, length, replicate, sum}
use Rattle.acap_machine.specs.Machine.{Machine}
use Rattle.acap_machine.specs.Stepping.{Stepped}
use Rattle.acap_locked.specs.declared.history_entry.HistoryEntry.{HistoryEntry}
use Rattle.acap_locked.specs.Epochs.{retire}
use Rattle.acap_locked.specs.Shelf.{Shelf}

-- each call is one step of the machine that the calls before
-- it left, with that reply, and the last machine is this one
abbrev pub IsReplay : Machine → List HistoryEntry → Machine → Type 0
IsReplay base [] machine = machine ≡ base
IsReplay base (e ∷ es) machine =
    (mid : Machine) × Stepped base e.seat e.exchange.event e.exchange.moment e.exchange.reply mid
    × IsReplay mid es machine

-- The calls of the epochs before, in their order: they lead from the first
-- machine of all to that with which this epoch began, the counts are how many of
-- them each seat made, and each of those epochs had 500,000 calls to 1,000,000.
pub record IsEarlier (first : Machine) (shelf : Shelf) (earlier : List HistoryEntry) : Type 0 where
  pub replays : IsReplay first earlier shelf.base
  pub counted : shelf.retired ≡ retire (replicate 64 0) earlier
  pub whole : sum shelf.retired ≡ length earlier
  pub least : 500000 * shelf.epoch ≤ length earlier
  pub most : length earlier ≤ 1000000 * shelf.epoch

-- the machine is the replay of the history from the base of its epoch, to which the calls before lead
pub record IsLegal (first : Machine) (shelf : Shelf) : Type 0 where
  pub earlier : List HistoryEntry
  pub before : IsEarlier first shelf earlier
  pub replays : IsReplay shelf.base shelf.history shelf.machine
  pub began : shelf.epoch ≡ 0 → shelf.base ≡ first
  pub few : length shelf.history ≤ 1000000
  pub seats : length shelf.retired ≡ 64

-- and `total` calls were counted: those of the history, and those of the epochs before
pub record IsKept (first : Machine) (shelf : Shelf) (total gone : ℕ) : Type 0 where
  pub legal : IsLegal first shelf
  pub counted : total ≡ gone + length shelf.history
  pub past : gone ≡ sum shelf.retired
  pub bound : gone ≤ 4611686018427387904
