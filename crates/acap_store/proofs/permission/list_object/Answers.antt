use Rattle.acap_store.proofs.RightLemmas.{at_path}
use Rattle.acap_store.proofs.permission.list_object.Goals as goal

pub returns-then-is_management-clause-inside : goal.returns-then-is_management-clause-inside
returns-then-is_management-clause-inside c = at_path c.args.path.now _ _ _ c.object_of_list.ensures c.as_slice-dataset.ensures.value
