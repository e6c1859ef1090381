use Rattle.std.proofs.Common.{◌≡◌, ap, length, arith}
use Rattle.acap_ordmap.specs.Ranks.{with_item}
use Rattle.acap_search.specs.Matches.{match_cmp}
use Rattle.acap_views.proofs.UpdateLemmas.{counted_more}
use Rattle.acap_views.proofs.apply_updates.put_free.Goals as goal

pub returns-clause-within : goal.returns-clause-within
returns-clause-within c =
    let put : length c.put.new.self.0 ≡ length (with_item match_cmp c.args.hit c.args.now.now.0) = ap length c.put.ensures.items in
    omega (arith, c.rank-place.ensures.within, put, c.len-count.ensures, c.len-count.type_inv, counted_more c.args.hit c.args.now.now.0 c.requires.free)
