use Rattle.acap_rights.specs.Pairs.{says, gives, takes}
use Rattle.acap_rights.proofs.GrantLemmas.{more_gathered, none_left}
use Rattle.acap_rights.proofs.granting.gather.Goals as goal

pub loop-text-preserved : goal.loop-text-preserved
loop-text-preserved c = record {
  given = more_gathered (λ letter text. says (gives c.args.realm.now c.args.user.now letter) text) c.args.acl.now c.loop-text.text-index c.text-item.result c.as_slice.result.now _ _ _ _ c.loop-text-test.true c.text-item.is c.as_slice.ensures c.union-given.ensures c.grant.ensures.given c.loop-text.invariant.given;
  taken = more_gathered (λ letter text. says (takes c.args.realm.now c.args.user.now letter) text) c.args.acl.now c.loop-text.text-index c.text-item.result c.as_slice.result.now _ _ _ _ c.loop-text-test.true c.text-item.is c.as_slice.ensures c.union-taken.ensures c.grant.ensures.taken c.loop-text.invariant.taken;
}

pub returns-clause-given : goal.returns-clause-given
returns-clause-given c = none_left (λ letter text. says (gives c.args.realm.now c.args.user.now letter) text) c.args.acl.now c.loop-text.text-index _ _ c.loop-text-test.false c.loop-text.invariant.given

pub returns-clause-taken : goal.returns-clause-taken
returns-clause-taken c = none_left (λ letter text. says (takes c.args.realm.now c.args.user.now letter) text) c.args.acl.now c.loop-text.text-index _ _ c.loop-text-test.false c.loop-text.invariant.taken
