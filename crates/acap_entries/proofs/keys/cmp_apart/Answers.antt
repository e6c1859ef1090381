use Rattle.std.proofs.Common.{sym, ◌∙◌}
use Rattle.acap_entries.proofs.EdgeLemmas.{front_shorter, front_longer, fronts_apart, turned}
use Rattle.acap_entries.proofs.keys.cmp_apart.Goals as goal

pub returns-then-starts_with : goal.returns-then-starts_with
returns-then-starts_with c =
    rw (c.reverse.ensures, c.cmp_joined.ensures, turned, c.split_at.ensures.back)
    (sym (front_shorter c.args.front.now c.args.rest.now c.args.other_front.now c.args.other_rest.now (sym c.starts_with.ensures.value ∙ c.if-starts_with.true)))

pub returns-then-starts_with-2 : goal.returns-then-starts_with-2
returns-then-starts_with-2 c =
    rw (c.cmp_joined-then-starts_with-2.ensures, c.split_at-then-starts_with-2.ensures.back)
    (sym (front_longer c.args.front.now c.args.rest.now c.args.other_front.now c.args.other_rest.now (sym c.starts_with-2.ensures.value ∙ c.if-starts_with-2.true)))

pub returns : goal.returns
returns c =
    rw c.compare.ensures
    (sym (fronts_apart c.args.front.now c.args.rest.now c.args.other_front.now c.args.other_rest.now (sym c.starts_with.ensures.value ∙ c.if-starts_with.false) (sym c.starts_with-2.ensures.value ∙ c.if-starts_with-2.false)))
