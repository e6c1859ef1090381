use Rattle.std.proofs.Common.{◌≡◌, ◌+◌, ◌||◌, true, drop, arith, sym, ap, ◌∙◌}
use Rattle.std.specs.List.{list_any}
use Rattle.std.proofs.lemmas.List.{drop_all}
use Rattle.acap_views.proofs.TellingLemmas.{entry_waits, any_listed, next_waits}
use Rattle.acap_views.proofs.telling.any_waits.Goals as goal

pub returns-then-waits : goal.returns-then-waits
returns-then-waits c =
    let es = c.args.contexts.now in
    let i = c.loop-entry.entry-index in
    let here : entry_waits c.entry-item.result ≡ true = sym c.waits.ensures ∙ c.if-waits.true in
    sym (any_listed es c.requires ∙ (sym c.loop-entry.invariant
    ∙ (next_waits es i c.entry-item.result (omega arith) c.entry-item.is ∙ ap (λ b. b || list_any entry_waits (drop (i + 1) es)) here)))

pub returns : goal.returns
returns c =
    let es = c.args.contexts.now in
    sym (any_listed es c.requires ∙ (sym c.loop-entry.invariant ∙ ap (list_any entry_waits) (drop_all c.loop-entry.entry-index es (omega arith))))
