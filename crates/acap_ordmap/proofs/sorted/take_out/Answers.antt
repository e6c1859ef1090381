use Rattle.std.proofs.Common.{◌≡◌, Some, true, false, refl, sym, ap, ◌∙◌}
use Rattle.acap_ordmap.specs.Sorted.{is_tied}
use Rattle.acap_ordmap.proofs.SortedLemmas.{without_tied, without_absent, entry_tied, entry_absent}
use Rattle.acap_ordmap.proofs.sorted.take_out.Goals as goal

pub returns-then-tied-clause-taken : goal.returns-then-tied-clause-taken
returns-then-tied-clause-taken g c =
    let key = g.Q.Probe.key c.args.probe.now in
    let same = c.as_slice.ensures.value in
    let tied : is_tied g.K.Ord.cmp key c.as_slice.result.now ≡ true = sym c.place_of-at.ensures.tied ∙ c.if-tied.true in
    let whole = entry_tied g.K.Ord.cmp g.met.K.Ord.total _ _ c.remove.result c.requires (rw same at tied) in
    ap Some (c.remove.ensures.value ∙ rw (c.place_of-at.ensures.place, same) refl) ∙ sym whole

pub returns-then-tied-clause-items : goal.returns-then-tied-clause-items
returns-then-tied-clause-items g c =
    let key = g.Q.Probe.key c.args.probe.now in
    let same = c.as_slice.ensures.value in
    let tied : is_tied g.K.Ord.cmp key c.as_slice.result.now ≡ true = sym c.place_of-at.ensures.tied ∙ c.if-tied.true in
    let rest = without_tied g.K.Ord.cmp g.met.K.Ord.total _ _ c.requires (rw same at tied) in
    c.remove.ensures.items ∙ rw (c.place_of-at.ensures.place, same) (sym rest)

pub returns-else-tied-clause-taken : goal.returns-else-tied-clause-taken
returns-else-tied-clause-taken g c =
    let key = g.Q.Probe.key c.args.probe.now in
    let same = c.as_slice.ensures.value in
    let tied : is_tied g.K.Ord.cmp key c.as_slice.result.now ≡ false = sym c.place_of-at.ensures.tied ∙ c.if-tied.false in
    sym (entry_absent g.K.Ord.cmp g.met.K.Ord.total _ _ c.requires (rw same at tied))

pub returns-else-tied-clause-items : goal.returns-else-tied-clause-items
returns-else-tied-clause-items g c =
    let key = g.Q.Probe.key c.args.probe.now in
    let same = c.as_slice.ensures.value in
    let tied : is_tied g.K.Ord.cmp key c.as_slice.result.now ≡ false = sym c.place_of-at.ensures.tied ∙ c.if-tied.false in
    sym (without_absent g.K.Ord.cmp g.met.K.Ord.total _ _ c.requires (rw same at tied))
