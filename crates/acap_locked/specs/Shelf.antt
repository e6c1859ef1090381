-- What contracts see of a book: a machine, and how it came to be [RFC 2244 section 2].
use Rattle.std.specs.Prelude.{ℕ, List, [], replicate, refl}
use Rattle.std.specs.Coded.{Coded, code_by, coded×, coded_list, coded_ℕ}
use Rattle.acap_machine.specs.Machine.{Machine, machine_code, new_machine}
use Rattle.acap_locked.specs.contracts.history_entry.HistoryEntry as entry
use Rattle.acap_locked.specs.declared.history_entry.HistoryEntry.{HistoryEntry}

-- the machine, the calls of this epoch in their order, which seats are rung (a bit for each), the number of
-- the epoch, the machine with which the epoch began, and how many calls each seat made in the epochs before
pub record Shelf : Type 0 where
  pub machine : Machine
  pub history : List HistoryEntry
  pub flags : ℕ
  pub epoch : ℕ
  pub base : Machine
  pub retired : List ℕ

abbrev pub shelf_of : Machine → List HistoryEntry → ℕ → ℕ → Machine → List ℕ → Shelf
shelf_of machine history flags epoch base retired =
    record {
      machine = machine;
      history = history;
      flags = flags;
      epoch = epoch;
      base = base;
      retired = retired;
    }

-- a book without calls
abbrev pub new_shelf : Machine → Shelf
new_shelf base = shelf_of base [] 0 0 base (replicate 64 0)

-- a machine, where any will do
abbrev pub no_machine : Machine
no_machine = new_machine (record { administrators = []; groups = [] })

-- how they are told apart in proofs
abbrev pub shelf_code : Coded Shelf
shelf_code =
    code_by (Machine × (List HistoryEntry × (ℕ × (ℕ × (Machine × List ℕ)))))
    (coded× machine_code
    (coded× (coded_list entry.the_row.coded)
    (coded× coded_ℕ (coded× coded_ℕ (coded× machine_code (coded_list coded_ℕ))))))
    (λ s. (s.machine, (s.history, (s.flags, (s.epoch, (s.base, s.retired))))))
    (λ p. record {
      machine = p.0;
      history = p.1.0;
      flags = p.1.1.0;
      epoch = p.1.1.1.0;
      base = p.1.1.1.1.0;
      retired = p.1.1.1.1.1;
    }) (λ _. refl)
