-- The abstract dataset machine: who is who, a store, and who sits
-- where with which contexts [RFC 2244 sections 2, 3.3 and 3.5].
use Rattle.std.specs.Prelude.{ℕ, List, Option, option_map, refl}
use Rattle.std.specs.FinMap as table
use Rattle.std.specs.Coded.{Coded, code_by, coded×, coded_list, coded_ℕ}
use Rattle.acap_entries.specs.Store.{Store, Roomy, empty_store, store_code, roomy_code}
use Rattle.acap_inherit.specs.contracts.link.Link as link
use Rattle.acap_inherit.specs.declared.link.Link.{Link}
use Rattle.acap_rights.specs.contracts.realm.Realm as realm
use Rattle.acap_rights.specs.declared.realm.Realm.{Realm}
use Rattle.acap_views.specs.Keeping.{RoomySeats, roomy_seats_code, seats_in}
use Rattle.acap_views.specs.Seats.{Seated, seated_code}

pub record Machine : Type 0 where
  pub realm : Realm
  pub store : Store
  pub seats : Seated

-- the empty machine of a realm: nothing is stored, and nobody sits anywhere
abbrev pub new_machine : Realm → Machine
new_machine realm = record { realm = realm; store = empty_store; seats = table.empty }

-- the user at a seat, if somebody sits there
abbrev pub user_at : Machine → ℕ → Option (List ℕ)
user_at m seat = option_map (λ occupant. occupant.user) (table.get m.seats seat)

-- the machine of what is kept in memory
abbrev pub machine_with : Realm → Store → RoomySeats → Machine
machine_with realm store views = record { realm = realm; store = store; seats = seats_in views }

-- the store, the index of heirs and the contexts of all seats
-- as they are kept in memory, with the room that each has
pub record Kept : Type 0 where
  pub tree : Roomy
  pub index : List Link × ℕ
  pub views : RoomySeats

-- a machine, how it is kept, and how many touched entries were looked at for contexts in its last event
pub record Roomed : Type 0 where
  pub machine : Machine
  pub kept : Kept
  pub work : ℕ

-- how machines are told apart in proofs
abbrev pub machine_code : Coded Machine
machine_code =
    code_by (Realm × (Store × Seated)) (coded× realm.the_row.coded (coded× store_code seated_code))
    (λ m. (m.realm, (m.store, m.seats))) (λ p. record { realm = p.0; store = p.1.0; seats = p.1.1 })
    (λ _. refl)

abbrev pub kept_code : Coded Kept
kept_code =
    code_by (Roomy × ((List Link × ℕ) × RoomySeats))
    (coded× roomy_code (coded× (coded× (coded_list link.the_row.coded) coded_ℕ) roomy_seats_code))
    (λ k. (k.tree, (k.index, k.views))) (λ p. record { tree = p.0; index = p.1.0; views = p.1.1 }) (λ _. refl)

abbrev pub roomed_code : Coded Roomed
roomed_code =
    code_by (Machine × (Kept × ℕ)) (coded× machine_code (coded× kept_code coded_ℕ))
    (λ s. (s.machine, (s.kept, s.work))) (λ p. record { machine = p.0; kept = p.1.0; work = p.1.1 })
    (λ _. refl)
