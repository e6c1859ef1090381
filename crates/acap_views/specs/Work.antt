-- How much a change may cost: the touched paths that live contexts look at.
use Rattle.std.specs.Prelude.{ℕ, Bool, true, false, List, length, if◌then◌else◌}
use Rattle.std.specs.FinMap as table
use Rattle.std.specs.List.{filter, list_any, sum_by}
use Rattle.acap_entries.specs.Orders.{octets_eq}
use Rattle.acap_entries.specs.Store.{Store, Stored, Written}
use Rattle.acap_entries.specs.declared.path.Path.{Path}
use Rattle.acap_inherit.specs.Touched.{touched_paths}
use Rattle.acap_search.specs.Scopes.{scope_of, datasets_of}
use Rattle.acap_search.specs.declared.query.SearchSpec.{SearchSpec}
use Rattle.acap_views.specs.Contexts.{Kept, Snapshot, Live, Freed, Context, Contexts}
use Rattle.acap_views.specs.Seats.{Seated}

abbrev pub is_live : Kept → Bool
is_live (Snapshot shown) = false
is_live (Live shown now pending) = true
is_live Freed = false

-- whether a context of a session follows the store, and whether one of any session does
abbrev pub any_live : Contexts → Bool
any_live contexts = list_any (λ context. is_live context.kept) (table.values contexts)

abbrev pub has_live : Seated → Bool
has_live seats = list_any (λ occupant. any_live occupant.contexts) (table.values seats)

-- whether a search looks through the dataset of an entry
abbrev pub is_looked_at : Stored → SearchSpec → Path → Bool
is_looked_at records sought path = list_any (octets_eq path.dataset) (datasets_of records (scope_of sought))

-- those in the scope of a context, as it is after the change; a context that isn't live looks at none
abbrev pub touched_for : Written → Store → Store → Context → List Path
touched_for written old new context =
    filter (is_looked_at new.records context.sought) (touched_paths written old.records new.records)

abbrev pub work_for : Written → Store → Store → Context → ℕ
work_for written old new context =
    if is_live context.kept then length (touched_for written old new context) else 0

-- of the contexts of all seats together
abbrev pub touched_within : Written → Store → Store → Seated → ℕ
touched_within written old new seats =
    sum_by (λ occupant. sum_by (work_for written old new) (table.values occupant.contexts))
    (table.values seats)
