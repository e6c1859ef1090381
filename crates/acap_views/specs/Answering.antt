-- What is answered to calls on contexts, where memory may be
-- refused; and contexts that are made before they are put in place.
use Rattle.std.specs.Prelude.{◌≡◌, ℕ, ◌<◌, ℤ, List, Result, Ok, Err, IsOk, refl}
use Rattle.std.specs.Coded.{Coded, code_by, coded×, coded_list, coded_ℕ}
use Rattle.std.specs.FinMap as table
use Rattle.std.specs.Option.{IsSomeAnd}
use Rattle.acap_notices.specs.declared.told.Told.{Told}
use Rattle.acap_views.specs.Contexts.{Contexts}
use Rattle.acap_views.specs.Keeping.{RoomyContext, roomy_context_code, RoomySeats}
use Rattle.acap_views.specs.Seats.{Seated, contexts_at, with_contexts}
use Rattle.acap_views.specs.Telling.{fault_of, told_in_turn, unless_faulty}
use Rattle.acap_views.specs.declared.refusal.ViewRefusal.{ViewRefusal}
use Rattle.acap_views.specs.declared.refusal.ViewRefusal.TheVariants as refusal

-- what is wanted is answered, or why it is refused. Memory is wanted only where nothing else refuses it
abbrev pub IsAnswer : {X Y : Type 0} → Result Y ViewRefusal → (X → Y) → Result X ViewRefusal → Type 0
IsAnswer wanted meant (Ok x) = wanted ≡ Ok (meant x)
IsAnswer wanted meant (Err refusal.TryFreeContext) = wanted ≡ Err refusal.TryFreeContext
IsAnswer wanted meant (Err refusal.NoContext) = wanted ≡ Err refusal.NoContext
IsAnswer wanted meant (Err refusal.FreedContext) = wanted ≡ Err refusal.FreedContext
IsAnswer wanted meant (Err refusal.NotNotify) = wanted ≡ Err refusal.NotNotify
IsAnswer wanted meant (Err refusal.Memory) = IsOk wanted

-- what an UPDATECONTEXT sends
abbrev pub update_tells : Contexts → List (List ℕ) → ℤ → Result (List Told) ViewRefusal
update_tells contexts names last = unless_faulty (fault_of contexts names) (told_in_turn contexts names last)

-- a context and its name
pub record NamedContext : Type 0 where
  pub name : List ℕ
  pub kept : RoomyContext

abbrev pub named_code : Coded NamedContext
named_code =
    code_by (List ℕ × RoomyContext) (coded× (coded_list coded_ℕ) roomy_context_code) (λ c. (c.name, c.kept))
    (λ p. record { name = p.0; kept = p.1 }) (λ _. refl)

-- that context put at a seat; one of its name makes way
abbrev pub with_context : Seated → ℕ → NamedContext → Seated
with_context seats seat new =
    with_contexts seats seat (table.insert (contexts_at seats seat) new.name new.kept.context)

-- somebody sits at a seat, and there is room for one context more
abbrev pub HasPlace : RoomySeats → ℕ → Type 0
HasPlace seats seat = IsSomeAnd (table.get seats.seats seat) (λ occupant. 0 < occupant.spare)
