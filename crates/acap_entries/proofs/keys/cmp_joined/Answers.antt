use Rattle.std.proofs.Common.{◌++◌, length, sym, ap, ◌∙◌, arith}
use Rattle.std.proofs.lemmas.List.{take-append-drop}
use Rattle.std.specs.Ordering.{is_eq}
use Rattle.acap_entries.specs.Orders.{octets_cmp}
use Rattle.acap_entries.proofs.EdgeLemmas.{too_short, fronts_alike, fronts_differ}
use Rattle.acap_entries.proofs.keys.cmp_joined.Goals as goal

pub returns-then-other-front : goal.returns-then-other-front
returns-then-other-front c =
    c.compare.ensures ∙ sym (too_short c.args.front.now c.args.rest.now c.args.other.now (omega (arith, c.if-other-front.true)))

pub returns-then-is_eq : goal.returns-then-is_eq
returns-then-is_eq c =
    let front = c.args.front.now in
    let rest = c.args.rest.now in
    c.compare-then-is_eq.ensures
    ∙ (sym (fronts_alike front rest c.split_at.result.0.now c.split_at.result.1.now (ap is_eq (sym c.compare-order.ensures) ∙ sym c.is_eq.ensures ∙ c.if-is_eq.true))
    ∙ ap (octets_cmp (front ++ rest)) (rw (c.split_at.ensures.front, c.split_at.ensures.back) (take-append-drop (length front) c.args.other.now)))

pub returns-else-is_eq : goal.returns-else-is_eq
returns-else-is_eq c =
    let front = c.args.front.now in
    let rest = c.args.rest.now in
    c.compare-order.ensures
    ∙ (sym (fronts_differ front rest c.split_at.result.0.now c.split_at.result.1.now c.split_at.ensures.front_len (ap is_eq (sym c.compare-order.ensures) ∙ sym c.is_eq.ensures ∙ c.if-is_eq.false))
    ∙ ap (octets_cmp (front ++ rest)) (rw (c.split_at.ensures.front, c.split_at.ensures.back) (take-append-drop (length front) c.args.other.now)))
