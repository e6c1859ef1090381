use Rattle.std.proofs.Common.{◌≡◌, length, sym, ap, arith}
use borrow.Author.Tests.{eqb-true}
use Rattle.acap_ordmap.proofs.LeafLemmas.{without_none, entry_of_none}
use Rattle.acap_ordmap.proofs.leaves.Leaves.take_out.Goals as goal

pub returns-then-is_empty-clause-taken : goal.returns-then-is_empty-clause-taken
returns-then-is_empty-clause-taken g c =
    let none : length c.self.inside.leaves.items ≡ 0 = omega (arith, eqb-true _ _ (sym c.if-is_empty.ensures), c.self.inside.leaves.ok) in
    rw (← ap (λ v. v.0) c.self.view_is) (entry_of_none g.K.Ord.cmp (g.Q.Probe.key c.args.probe.now) c.self.inside.leaves.items none)

pub returns-then-is_empty-clause-entries : goal.returns-then-is_empty-clause-entries
returns-then-is_empty-clause-entries g c =
    let none : length c.self.inside.leaves.items ≡ 0 = omega (arith, eqb-true _ _ (sym c.if-is_empty.ensures), c.self.inside.leaves.ok) in
    rw (← ap (λ v. v.0) c.self.view_is) (without_none g.K.Ord.cmp (g.Q.Probe.key c.args.probe.now) c.self.inside.leaves.items none)
