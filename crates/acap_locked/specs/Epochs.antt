-- Epochs: when a history is long, a new one begins from the machine that was reached.
use Rattle.std.specs.Prelude.{◌≡◌, ◌≤◌, ◌<◌, ◌+◌, ◌==◌, ◌⊎◌, ℕ, List, [], ◌∷◌, length, sum, slice_index}
use Rattle.std.specs.Prelude.{slice_set, if◌then◌else◌}
use Rattle.acap_locked.specs.declared.history_entry.HistoryEntry.{HistoryEntry}
use Rattle.acap_locked.specs.declared.item.PassContents.{PassContents}
use Rattle.acap_locked.specs.Shelf.{Shelf}

-- the counts, with one more for the seat of each call
abbrev pub retire : List ℕ → List HistoryEntry → List ℕ
retire counts [] = counts
retire counts (e ∷ es) = retire (slice_set counts e.seat (slice_index counts e.seat + 1)) es

-- the next epoch
abbrev pub next_epoch : Shelf → Shelf
next_epoch s = record {
  machine = s.machine;
  history = [];
  flags = s.flags;
  epoch = s.epoch + 1;
  base = s.machine;
  retired = retire s.retired s.history;
}

-- it may be begun: the history is long, and there is a number for it and for all calls before it
pub record MayBegin (s : Shelf) : Type 0 where
  pub long : 500000 ≤ length s.history
  pub numbered : s.epoch < 4611686018427387904
  pub counted : sum s.retired + length s.history ≤ 4611686018427387904

-- nothing is done, or a new epoch is begun
pub record Turns (old new : Shelf) : Type 0 where
  pub turn : (new ≡ old) ⊎ (MayBegin old × (new ≡ next_epoch old))

-- what a pass holds in an epoch: its items of older ones are counted, and gone
abbrev pub held_in : ℕ → PassContents → PassContents
held_in epoch h = record {
  seat = h.seat;
  epoch = epoch;
  items = (if h.epoch == epoch then h.items else []);
  retired = (if h.epoch == epoch then h.retired else h.retired + length h.items);
}
