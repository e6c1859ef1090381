use Rattle.std.proofs.Common.{ap, sym, ◌∙◌, arith, length-append}
use Rattle.std.specs.Option.{option_copied}
use Rattle.std.proofs.lemmas.List.{map-append}
use Rattle.acap_inherit.proofs.ChainSteps.{goes_on, ends, full}
use Rattle.acap_inherit.proofs.chains.follow_bases.Goals as goal

pub returns-in-None : goal.returns-in-None
returns-in-None g c =
    rw (c.push.ensures.items, map-append) (ends 8 c.loop.counter _ _ _ _ (omega arith) (sym c.base_of.ensures ∙ ap option_copied c.in-None.is) c.loop.invariant.names)

pub loop-preserved : goal.loop-preserved
loop-preserved g c = record {
  room = omega arith;
  count = rw c.push.ensures.items (simp length-append (omega arith));
  names = rw (c.push.ensures.items, map-append) (goes_on 8 c.loop.counter _ _ _ _ _ (omega arith) (sym c.base_of.ensures ∙ ap option_copied c.in-Some.is) c.loop.invariant.names);
}

pub returns : goal.returns
returns g c = full 8 c.loop.counter _ _ _ _ (omega arith) c.loop.invariant.names
