use Rattle.std.proofs.Common.{rules, tests, sym, ◌∙◌, ◌≡◌}
use Rattle.std.specs.List.{list_all}
use Rattle.std.proofs.lemmas.Iterator.{YieldsList-from_slice}
use Rattle.std.proofs.lemmas.Iterator.Search.{all_from_yields_List}
use Rattle.acap_entries.proofs.PlainNames.{plain, plain_utf8, plain_above, plain_other}
use Rattle.acap_entries.proofs.names.is_plain.Goals as goal

-- the call of `all` tests each octet
tests_each : (c : goal.After-all) → c.all.result ≡ list_all (plain c.args.above c.args.other) c.args.octets.now
tests_each c = all_from_yields_List (plain c.args.above c.args.other) _ _ _ c.all.ensures.ran (YieldsList-from_slice c.args.octets.now c.iter.ensures.rest) (λ x b q k. search (rules, tests))

pub returns-clause-utf8 : goal.returns-clause-utf8
returns-clause-utf8 c holds = plain_utf8 c.args.above c.args.other c.args.octets.now (sym (tests_each c) ∙ holds)

pub returns-clause-above : goal.returns-clause-above
returns-clause-above c holds = plain_above c.args.above c.args.other c.args.octets.now (sym (tests_each c) ∙ holds)

pub returns-clause-other : goal.returns-clause-other
returns-clause-other c holds = plain_other c.args.above c.args.other c.args.octets.now (sym (tests_each c) ∙ holds)
