-- What a search over a context starts from [RFC 2244 sections 3.3 and 6.4.1].
use Rattle.std.specs.Prelude.{ℕ, ℤ, Bool, List, Option, Some, None, Result, Ok, Err}
use Rattle.std.specs.FinMap as table
use Rattle.acap_search.specs.Matches.{Match}
use Rattle.acap_search.specs.declared.query.SearchSpec.{SearchSpec}
use Rattle.acap_views.specs.Contexts.{Kept, Snapshot, Live, Freed, Context}
use Rattle.acap_views.specs.Seats.{Seated, contexts_at}
use Rattle.acap_views.specs.declared.refusal.ViewRefusal.{ViewRefusal}
use Rattle.acap_views.specs.declared.refusal.ViewRefusal.TheVariants as refusal

-- what its own search looked for, whether its entries have positions, up to which moment its client was sent
-- all, and the list that was sent, in which these positions count
pub record Ranged : Type 0 where
  pub sought : SearchSpec
  pub enumerated : Bool
  pub told : ℤ
  pub shown : List Match

abbrev pub ranged_as : Context → List Match → Ranged
ranged_as context shown =
    record { sought = context.sought; enumerated = context.enumerated; told = context.told; shown = shown }

-- changes that the client wasn't sent yet have no part in it
abbrev pub ranged_if : Context → Kept → Result Ranged ViewRefusal
ranged_if context (Snapshot shown) = Ok (ranged_as context shown)
ranged_if context (Live shown now pending) = Ok (ranged_as context shown)
ranged_if context Freed = Err refusal.FreedContext

abbrev pub ranged_of : Option Context → Result Ranged ViewRefusal
ranged_of None = Err refusal.NoContext
ranged_of (Some context) = ranged_if context context.kept

abbrev pub range_at : Seated → ℕ → List ℕ → Result Ranged ViewRefusal
range_at seats seat name = ranged_of (table.get (contexts_at seats seat) name)
