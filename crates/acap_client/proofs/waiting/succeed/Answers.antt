use Rattle.std.proofs.Common.{◌≡◌, ◌∙◌, sym, ap, None, Some, bytes_eq}
use Rattle.std.specs.List.{position}
use Rattle.acap_client.specs.Following.{without}
use Rattle.acap_client.specs.Keeping.{made_of}
use Rattle.acap_client.proofs.OneOfMany.{done_not, done_after, none_left, others_after}
use Rattle.acap_client.proofs.waiting.succeed.Goals as goal

pub returns-in_default-clause-contexts : goal.returns-in_default-clause-contexts
returns-in_default-clause-contexts c =
    let es = c.args.waiting.now.items in
    let none : None ≡ position (λ e. bytes_eq c.args.tag.now e.0) es = rw c.as_slice.ensures.value at (sym c.in_default.is ∙ c.place_of.ensures) in
    done_not c.args.tag.now es c.args.contexts.now.items none

pub returns-in_default-clause-waiting : goal.returns-in_default-clause-waiting
returns-in_default-clause-waiting c =
    let es = c.args.waiting.now.items in
    let none : None ≡ position (λ e. bytes_eq c.args.tag.now e.0) es = rw c.as_slice.ensures.value at (sym c.in_default.is ∙ c.place_of.ensures) in
    none_left c.args.tag.now es none

pub returns-clause-contexts : goal.returns-clause-contexts
returns-clause-contexts c =
    let es = c.args.waiting.now.items in
    let at : Some c.in-Some.at ≡ position (λ e. bytes_eq c.args.tag.now e.0) es = rw c.as_slice.ensures.value at c.in-Some.ensures in
    c.finish.ensures ∙ ap (made_of c.remove-asked.result.1) c.in_ok-reserve.ensures.items
    ∙ done_after c.args.tag.now es c.args.contexts.now.items c.in-Some.at c.index_mut.result.now c.remove-asked.result c.prepare.new.self at c.index_mut.ensures.value (c.in_ok-room.ensures.made c.args.contexts.now.items) c.remove-asked.ensures.value

pub returns-clause-waiting : goal.returns-clause-waiting
returns-clause-waiting c =
    let es = c.args.waiting.now.items in
    let at : Some c.in-Some.at ≡ position (λ e. bytes_eq c.args.tag.now e.0) es = rw c.as_slice.ensures.value at c.in-Some.ensures in
    c.take_out.ensures ∙ ap (without c.args.tag.now) c.remove-asked.ensures.items ∙ others_after c.args.tag.now es c.in-Some.at (c.index_mut.result.now.0, c.prepare.new.self) at
