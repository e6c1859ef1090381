use Rattle.std.proofs.Common.{rules}
use Rattle.acap_serving.proofs.Dealt.{dealt_back}
use Rattle.acap_serving.proofs.deal.take_back.Goals as goal

pub returns-clause-back : goal.returns-clause-back
returns-clause-back g c before last some rows =
    dealt_back (λ load. load.items) g.T.Advance.whose c.args.loads.now.items c.rotate_right.new.self.items c.index_mut.result.now c.pop.new.self c.pop.result before last
    (search rules) (search rules) c.pop.ensures.items (λ none. let z = (rw none at c.pop.ensures.cases).0 in let o = c.index_mut.result.now.ok in cc) some rows
