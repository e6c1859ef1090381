-- The list of an object that is named well has a well-formed path.
use Rattle.std.proofs.Common.{◌≡◌, true, [], ◌∷◌, refl}
use Rattle.std.specs.List.{list_all}
use Rattle.std.proofs.lemmas.Bool.{and_from}
use Rattle.acap_commands.specs.declared.object_name.ObjectName.{ObjectName}
use Rattle.acap_commands.specs.declared.object_name.ObjectName.TheVariants as object_name
use Rattle.acap_entries.specs.FullPaths.{is_well_formed}
use Rattle.acap_entries.specs.Names.{is_closed_dataset, is_entry_name}
use Rattle.acap_store.specs.Meaning.{list_path, target_in}

-- its dataset has a dataset's name, and its entry that of an entry
abbrev pub IsWellNamed : ObjectName → Type 0
IsWellNamed (object_name.Dataset dataset) = is_closed_dataset dataset ≡ true
IsWellNamed (object_name.Attribute dataset attribute) = is_closed_dataset dataset ≡ true
IsWellNamed (object_name.Entry dataset attribute name) = (is_closed_dataset dataset ≡ true) × (is_entry_name name ≡ true)

object_formed : (o : ObjectName) → IsWellNamed o → is_well_formed (list_path (target_in o)) ≡ true
object_formed (object_name.Dataset dataset) is = and_from (is_closed_dataset dataset) _ is refl
object_formed (object_name.Attribute dataset attribute) is = and_from (is_closed_dataset dataset) _ is refl
object_formed (object_name.Entry dataset attribute name) is = and_from (is_closed_dataset dataset) (is_entry_name name) is.0 is.1

pub list_formed : (o : ObjectName) → IsWellNamed o → list_all is_well_formed (list_path (target_in o) ∷ []) ≡ true
list_formed o is = and_from _ true (object_formed o is) refl
