use Rattle.acap_search.proofs.NamedLemmas.{named_some, named_found, named_none}
use Rattle.acap_search.proofs.dataset_walk.add_only.Goals as goal

pub add_named-requires : goal.add_named-requires
add_named-requires g c =
    named_some c.names_law.ensures _ _ c.by.view_is c.args.sought.now c.args.name.now c.requires c.in-Some.ensures.found

pub returns-in-Some-clause-found : goal.returns-in-Some-clause-found
returns-in-Some-clause-found g c =
    named_found c.names_law.ensures _ _ c.by.view_is c.args.sought.now c.args.name.now c.requires c.add_named.result _ _ _ c.in-Some.ensures.found c.in-Some.ensures.name c.add_named.ensures.found

pub returns-in-None-clause-found : goal.returns-in-None-clause-found
returns-in-None-clause-found g c =
    named_none c.names_law.ensures _ _ c.by.view_is c.args.sought.now c.args.name.now c.requires c.args.found.now c.in-None.ensures.found
