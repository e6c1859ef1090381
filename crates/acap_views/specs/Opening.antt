-- Contexts that are made and freed by name [RFC 2244 sections 6.4.1 and 6.5].
use Rattle.std.specs.Prelude.{ℕ, ℤ, Bool, not, ◌&&◌, nat_le, if◌then◌else◌, List, Result, Ok, Err}
use Rattle.std.specs.FinMap as table
use Rattle.acap_commands.specs.declared.search_modifiers.MakeContext.{MakeContext}
use Rattle.acap_search.specs.Matches.{Match}
use Rattle.acap_search.specs.declared.query.SearchSpec.{SearchSpec}
use Rattle.acap_views.specs.Contexts.{Contexts, context_of}
use Rattle.acap_views.specs.Seats.{Seated, contexts_at, with_contexts}
use Rattle.acap_views.specs.declared.refusal.ViewRefusal.{ViewRefusal}
use Rattle.acap_views.specs.declared.refusal.ViewRefusal.TheVariants as refusal

-- how many contexts a session may have, freed ones among them
abbrev pub most_contexts : ℕ
most_contexts = 200

-- whether there is no place for one more; a context of the same name makes way
abbrev pub is_full : Contexts → List ℕ → Bool
is_full contexts name = not (table.contains_key contexts name) && nat_le most_contexts (table.len contexts)

abbrev pub with_context : Seated → ℕ → MakeContext → SearchSpec → List Match → ℤ → Result Seated ViewRefusal
with_context seats seat make sought found last =
    if is_full (contexts_at seats seat) make.name then Err refusal.TryFreeContext
    else Ok (with_contexts seats seat
    (table.insert (contexts_at seats seat) make.name (context_of make sought found last)))

abbrev pub freed_by : Seated → ℕ → List ℕ → Result Seated ViewRefusal
freed_by seats seat name =
    if table.contains_key (contexts_at seats seat) name
    then Ok (with_contexts seats seat (table.remove (contexts_at seats seat) name))
    else Err refusal.NoContext
