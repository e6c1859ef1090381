-- Whose lists the attributes of a management entry are [RFC 2244 section 3.5].
use Rattle.std.specs.Prelude.{ℕ, ◌&&◌, nat_eq, nat_lt, if◌then◌else◌, List, length, drop, codes, Option, Some}
use Rattle.std.specs.Prelude.{None}
use Rattle.std.specs.List.{starts_with}
use Rattle.acap_entries.specs.Orders.{octets_eq}
use Rattle.acap_rights.specs.Deciding.{Target, OfDataset, OfAttribute, dataset_list_name}

-- `dataset.acl` is the dataset's, and `dataset.acl.ATTRIBUTE` that attribute's,
-- if something stands after the last dot. All others are no lists
unfoldable pub target_of_list : List ℕ → List ℕ → Option Target
target_of_list dataset attribute =
    if octets_eq attribute dataset_list_name
    then Some (OfDataset dataset)
    else if starts_with nat_eq attribute (codes "dataset.acl.") && nat_lt 12 (length attribute)
    then Some (OfAttribute dataset (drop 12 attribute))
    else None
