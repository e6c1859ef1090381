use Rattle.std.proofs.Common.{◌≡◌, ◌∙◌, sym, None, Some, bytes_eq}
use Rattle.std.specs.List.{position}
use Rattle.acap_client.proofs.OneOfMany.{row_not, row_at}
use Rattle.acap_client.proofs.waiting.add.Goals as goal

pub returns-in_default-clause-ok : goal.returns-in_default-clause-ok
returns-in_default-clause-ok c =
    let es = c.args.waiting.now.items in
    let none : None ≡ position (λ e. bytes_eq c.args.tag.now e.0) es = rw c.as_slice.ensures.value at (sym c.in_default.is ∙ c.place_of.ensures) in
    row_not c.args.tag.now _ es none

pub returns-clause-ok : goal.returns-clause-ok
returns-clause-ok c =
    let es = c.args.waiting.now.items in
    let at : Some c.in-Some.at ≡ position (λ e. bytes_eq c.args.tag.now e.0) es = rw c.as_slice.ensures.value at c.in-Some.ensures in
    row_at c.add.result c.args.tag.now _ es c.in-Some.at c.index_mut.result.now c.add.new.self at c.index_mut.ensures.value c.add.ensures.ok
