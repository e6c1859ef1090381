use Rattle.std.proofs.Common.{◌≡◌, ◌∙◌, sym, None, Some, bytes_eq}
use Rattle.std.specs.List.{position}
use Rattle.acap_client.proofs.OneOfMany.{freed_at, freed_not}
use Rattle.acap_client.proofs.contexts.free.Goals as goal

pub returns-in-Some : goal.returns-in-Some
returns-in-Some c =
    let es = c.args.contexts.now.items in
    let at : Some c.in-Some.at ≡ position (λ e. bytes_eq c.args.context.now e.0) es = rw c.as_slice.ensures.value at c.in-Some.ensures in
    freed_at c.args.context.now es c.in-Some.at c.index_mut.result.now c.free.new.self at c.index_mut.ensures.value c.free.ensures

pub returns-in_default : goal.returns-in_default
returns-in_default c =
    let es = c.args.contexts.now.items in
    let none : None ≡ position (λ e. bytes_eq c.args.context.now e.0) es = rw c.as_slice.ensures.value at (sym c.in_default.is ∙ c.place_of.ensures) in
    freed_not c.args.context.now es none
