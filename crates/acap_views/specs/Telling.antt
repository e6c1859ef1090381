-- What a client is sent of its contexts, and when [RFC 2244 sections 3.3 and 6.5].
use Rattle.std.specs.Prelude.{ℕ, ℤ, List, [], ◌∷◌, ◌++◌, Option, Some, None, Result, Ok, Err, flat_map}
use Rattle.std.specs.Prelude.{map as each}
use Rattle.std.specs.FinMap as table
use Rattle.std.specs.Option.{option_map_or, option_or}
use Rattle.acap_notices.specs.declared.told.Told.{Told}
use Rattle.acap_notices.specs.declared.told.Told.TheVariants as told
use Rattle.acap_views.specs.Contexts.{Kept, Snapshot, Live, Freed, Context, Contexts}
use Rattle.acap_views.specs.Maps.{each_kept}
use Rattle.acap_views.specs.Seats.{Seated, contexts_at, with_contexts}
use Rattle.acap_views.specs.declared.refusal.ViewRefusal.{ViewRefusal}
use Rattle.acap_views.specs.declared.refusal.ViewRefusal.TheVariants as refusal

-- the notices that wait, under the name of their context
abbrev pub notes_of : List ℕ → Kept → List Told
notes_of name (Snapshot shown) = []
notes_of name (Live shown now pending) = each (told.Note name) pending
notes_of name Freed = []

-- when they are sent the client has the present list, and nothing waits
abbrev pub shown_now : Kept → Kept
shown_now (Snapshot shown) = Snapshot shown
shown_now (Live shown now pending) = Live now now []
shown_now Freed = Freed

-- ---- UPDATECONTEXT

-- why nothing is sent of a context
abbrev pub fault_in : Kept → Option ViewRefusal
fault_in (Snapshot shown) = Some refusal.NotNotify
fault_in (Live shown now pending) = None
fault_in Freed = Some refusal.FreedContext

abbrev pub fault_at : Contexts → List ℕ → Option ViewRefusal
fault_at contexts name =
    option_map_or (λ context. fault_in context.kept) (table.get contexts name) (Some refusal.NoContext)

-- the first fault in the order of the names
abbrev pub fault_of : Contexts → List (List ℕ) → Option ViewRefusal
fault_of contexts [] = None
fault_of contexts (name ∷ names) = option_or (fault_at contexts name) (fault_of contexts names)

-- a context is sent all that waits, and then the store's last moment
abbrev pub told_by_name : Contexts → List ℕ → ℤ → List Told
told_by_name contexts name last =
    option_map_or (λ context. notes_of name context.kept) (table.get contexts name) [] ++ told.Upto name last
    ∷ []

abbrev pub updated_to : ℤ → Context → Context
updated_to last context = record context { told = last; kept = shown_now context.kept }

abbrev pub after_update : Contexts → List ℕ → ℤ → Contexts
after_update contexts name last =
    option_map_or (λ context. table.insert contexts name (updated_to last context)) (table.get contexts name)
    contexts

-- one name after the other, so that for a name that is said again nothing waits
abbrev pub told_in_turn : Contexts → List (List ℕ) → ℤ → List Told
told_in_turn contexts [] last = []
told_in_turn contexts (name ∷ names) last =
    told_by_name contexts name last ++ told_in_turn (after_update contexts name last) names last

abbrev pub after_updates : Contexts → List (List ℕ) → ℤ → Contexts
after_updates contexts [] last = contexts
after_updates contexts (name ∷ names) last = after_updates (after_update contexts name last) names last

-- one faulty name refuses all
abbrev pub unless_faulty : {X : Type 0} → Option ViewRefusal → X → Result X ViewRefusal
unless_faulty None x = Ok x
unless_faulty (Some refusal) x = Err refusal

abbrev pub told_of : Seated → ℕ → List (List ℕ) → ℤ → Result (List Told × Seated) ViewRefusal
told_of seats seat names last =
    unless_faulty (fault_of (contexts_at seats seat) names) (
      told_in_turn (contexts_at seats seat) names last,
      with_contexts seats seat (after_updates (contexts_at seats seat) names last),
    )

-- ---- a drain

-- of each context in the order of the names what waits, or that it was freed
abbrev pub drain_told : List ℕ → Kept → List Told
drain_told name (Snapshot shown) = []
drain_told name (Live shown now pending) = each (told.Note name) pending
drain_told name Freed = told.Freed name ∷ []

-- freed ones are gone then; of the others the moment of the last UPDATECONTEXT stays
abbrev pub kept_drained : Context → Kept → Option Context
kept_drained context (Snapshot shown) = Some context
kept_drained context (Live shown now pending) = Some (record context { kept = Live now now [] })
kept_drained context Freed = None

abbrev pub after_drain : Context → Option Context
after_drain context = kept_drained context context.kept

abbrev pub drain_of : Seated → ℕ → List Told × Seated
drain_of seats seat = (
  flat_map (λ e. drain_told e.0 e.1.kept) (table.entries (contexts_at seats seat)),
  with_contexts seats seat (each_kept after_drain (contexts_at seats seat)),
)
