use Rattle.std.proofs.Common.{◌≡◌, ◌≤◌, ◌++◌, drop}
use Rattle.acap_ordmap.specs.Ranks.{rank_of}
use Rattle.acap_inherit.specs.Index.{link_cmp, heirs_in}
use Rattle.acap_inherit.proofs.HeirLemmas.{least_heir}
use Rattle.acap_inherit.proofs.heirs.add_heirs.Given as goal

abbrev pub invariant-loop-index : goal.invariant-loop-index
invariant-loop-index l = record {
  place : rank_of link_cmp (least_heir l.base) l.links.0 ≤ l.index;
  heirs : l.heirs.items ++ heirs_in (drop l.index l.links.0) l.base ≡ l.fn.heirs.items ++ heirs_in l.links.0 l.base;
}
