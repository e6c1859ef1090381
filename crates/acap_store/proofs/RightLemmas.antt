-- Whose lists the attributes of a management entry are.
use Rattle.std.proofs.Common.{◌≡◌, ℕ, Bool, true, false, cond, List, drop, Option, Some, None, ap, ◌∙◌}
use Rattle.std.specs.Prelude.{IfSome, option_map, nat_eq, nat_lt, length, codes, ◌&&◌}
use Rattle.std.specs.List.{starts_with}
use Rattle.acap_entries.specs.Orders.{octets_eq}
use Rattle.acap_rights.specs.Deciding.{Target, OfDataset, OfAttribute, target_of, dataset_in, dataset_list_name}
use Rattle.acap_rights.specs.Keeping.{target_of_list}
use Rattle.acap_rights.specs.declared.object.Object.{Object}
use Rattle.acap_entries.specs.declared.path.Path.{Path}
use Rattle.acap_store.specs.Asking.{IsAt}
use Rattle.acap_store.specs.Permission.{name_in}

one_of : (a b : Bool) (d rest : List ℕ) (target : Target) → Some target ≡ cond a (Some (OfDataset d)) (cond b (Some (OfAttribute d rest)) None) → dataset_in target ≡ d
one_of true b d rest target e = let same : target ≡ OfDataset d = cc in ap dataset_in same
one_of false true d rest target e = let same : target ≡ OfAttribute d rest = cc in ap dataset_in same
one_of false false d rest target e = cc

none_named : (a b : Bool) (d rest n : List ℕ) (target : Target) → Some target ≡ cond a (Some (OfDataset d)) (cond b (Some (OfAttribute d rest)) None) → name_in n target ≡ n
none_named true b d rest n target e = let same : target ≡ OfDataset d = cc in ap (name_in n) same
none_named false true d rest n target e = let same : target ≡ OfAttribute d rest = cc in ap (name_in n) same
none_named false false d rest n target e = cc

-- what a list of the management entry is of is no entry
named : (d attribute n : List ℕ) (object : Option Object) → option_map target_of object ≡ target_of_list d attribute → IfSome object (λ o. name_in n (target_of o) ≡ n)
unfolding target_of_list
named d attribute n None e = tt
named d attribute n (Some object) e = none_named (octets_eq attribute dataset_list_name) (starts_with nat_eq attribute (codes "dataset.acl.") && nat_lt 12 (length attribute)) d (drop 12 attribute) n (target_of object) e

inside : (d known attribute : List ℕ) (object : Option Object) → option_map target_of object ≡ target_of_list d attribute → d ≡ known → IfSome object (λ o. dataset_in (target_of o) ≡ known)
unfolding target_of_list
inside d known attribute None e same = tt
inside d known attribute (Some object) e same = one_of (octets_eq attribute dataset_list_name) (starts_with nat_eq attribute (codes "dataset.acl.") && nat_lt 12 (length attribute)) d (drop 12 attribute) (target_of object) e ∙ same

-- and lies in its dataset
pub at_path : (p : Path) (d attribute : List ℕ) (object : Option Object) → option_map target_of object ≡ target_of_list d attribute → d ≡ p.dataset → IfSome object (λ o. IsAt p (target_of o))
at_path p d attribute None e same = tt
at_path p d attribute (Some object) e same = (inside d p.dataset attribute (Some object) e same, named d attribute p.name (Some object) e)
