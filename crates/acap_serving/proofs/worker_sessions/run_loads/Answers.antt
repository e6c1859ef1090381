use Rattle.std.proofs.Common.{rules, ◌≡◌, ◌<◌, map, length, sym, ap, ◌∙◌, subst}
use Rattle.acap_serving.proofs.Collected.{rows_same}
use Rattle.acap_serving.proofs.worker_sessions.run_loads.Goals as goal

pub returns-clause-same : goal.returns-clause-same
returns-clause-same g c =
    let v = c.as_mut_slice.ensures.value in
    rows_same (λ load. map g.T.Advance.whose load.items) c.args.loads.now.items c.for_each_mut.new.s c.args.loads.now.len (search rules) (search rules)
    (λ i d h.
    let k = (c.for_each_mut.ensures i d (subst (λ xs. i < length xs) (sym v) h)).1 in
    let p : map g.T.Advance.whose k.after_call.now.items ≡ map g.T.Advance.whose k.argument.now.items = search rules in
    cc)
