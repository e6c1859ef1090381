use Rattle.std.proofs.Common.{rules, tests, subst, arith, length, ap}
use Rattle.acap_entries.proofs.NameLemmas.{last_slash, LastSlash}
use Rattle.acap_entries.proofs.names.dataset_len.Goals as goal

pub returns-in-Some-clause-value : goal.returns-in-Some-clause-value
returns-in-Some-clause-value c =
    let found = subst (LastSlash c.args.path.now) c.in-Some.is (last_slash c.args.path.now c.iter.ensures.rest (λ x b q k. search (rules, tests)) _ _ c.rposition.ensures.ran (ap (λ t. length t) c.iter.ensures.rest)) in
    omega (arith, found)

pub returns-in-None-clause-value : goal.returns-in-None-clause-value
returns-in-None-clause-value c =
    let none = subst (LastSlash c.args.path.now) c.in-None.is (last_slash c.args.path.now c.iter.ensures.rest (λ x b q k. search (rules, tests)) _ _ c.rposition.ensures.ran (ap (λ t. length t) c.iter.ensures.rest)) in
    omega (arith, none)
