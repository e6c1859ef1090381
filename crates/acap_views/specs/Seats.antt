-- Who sits where, and with which contexts [RFC 2244 sections 2 and 3.3].
use Rattle.std.specs.Prelude.{◌≡◌, ℕ, List, refl}
use Rattle.std.specs.Coded.{Coded, code_by, coded×, coded_list, coded_ℕ}
use Rattle.std.specs.FinMap as table
use Rattle.std.specs.Option.{option_map_or, ForSome}
use Rattle.std.specs.Ordering.{nat_cmp}
use Rattle.acap_views.specs.Contexts.{Contexts, contexts_code}

-- the user of a seat, and the contexts of the session that has it
pub record Occupant : Type 0 where
  pub user : List ℕ
  pub contexts : Contexts

abbrev pub Seated : Type 0
Seated = table.FinMap nat_cmp Occupant

-- a user who takes a seat has no context there, and who leaves it takes all along
abbrev pub with_user : Seated → ℕ → List ℕ → Seated
with_user seats seat user = table.insert seats seat (record { user = user; contexts = table.empty })

abbrev pub without_user : Seated → ℕ → Seated
without_user seats seat = table.remove seats seat

-- who sits at a seat
abbrev pub IsAt : Seated → ℕ → List ℕ → Type 0
IsAt seats seat user = ForSome (table.get seats seat) (λ occupant. occupant.user ≡ user)

-- the contexts at a seat, and other ones there; an empty seat has none
abbrev pub contexts_at : Seated → ℕ → Contexts
contexts_at seats seat = option_map_or (λ occupant. occupant.contexts) (table.get seats seat) table.empty

abbrev pub with_contexts : Seated → ℕ → Contexts → Seated
with_contexts seats seat contexts =
    option_map_or (λ occupant. table.insert seats seat (record occupant { contexts = contexts }))
    (table.get seats seat) seats

-- how seats are told apart in proofs
abbrev pub occupant_code : Coded Occupant
occupant_code =
    code_by (List ℕ × Contexts) (coded× (coded_list coded_ℕ) contexts_code) (λ o. (o.user, o.contexts))
    (λ p. record { user = p.0; contexts = p.1 }) (λ _. refl)

abbrev pub seated_code : Coded Seated
seated_code = table.code coded_ℕ occupant_code
