-- The laws of which list decides, and of whose lists attributes are.
use Rattle.std.proofs.Common.{◌≡◌, ◌≢◌, ℕ, ◌<◌, true, false, ◌&&◌, nat_eq, List, [], ◌++◌, length, take, drop, length-drop, take-append-drop, Option, Some, None, refl, sym, ap, ◌∙◌, arith}
use Rattle.std.specs.Prelude.{nat_lt, codes, if◌then◌else◌}
use Rattle.std.proofs.lemmas.Bool.{ltb-true, and_parts}
use Rattle.std.specs.Cmp.Lexicographic.{bytes_decides}
use Rattle.std.specs.List.{starts_with}
use Rattle.acap_entries.specs.FullPaths.{path_of}
use Rattle.acap_entries.specs.Orders.{octets_eq}
use Rattle.std.specs.Option.{option_and_then, option_or, unwrap_or}
use Rattle.std.specs.FinMap as map
use Rattle.std.proofs.lemmas.Bool.Decides.{nat_tests}
use Rattle.acap_entries.specs.Store.{Stored}
use Rattle.acap_entries.specs.declared.record.Cell.{Cell}
use Rattle.acap_entries.specs.declared.record.Cell.TheVariants.{Nil, Single, Multi}
use Rattle.acap_entries.specs.declared.record.Record.{Record}
use Rattle.acap_rights.specs.Deciding.{OfDataset, OfAttribute, OfEntry, list_in, kept_list, own_list, attribute_list_name, dataset_list_name, deciding_list}
use Rattle.acap_rights.specs.Homes.{default_list}
use Rattle.acap_rights.specs.Keeping.{target_of_list}
use Rattle.acap_rights.specs.Laws.{DecidingLaw, KeepingLaw, IsNone}

no_list : (cell : Option Cell) → IsNone cell → option_and_then list_in cell ≡ None
no_list None h = refl
no_list (Some Nil) h = refl
no_list (Some (Single value)) h = absurd h
no_list (Some (Multi values)) h = absurd h

none_kept : (records : Stored) (dataset attribute : List ℕ) → ((entry : Record) → map.get records (path_of dataset []) ≡ Some entry → IsNone (map.get entry.cells attribute)) → kept_list records dataset attribute ≡ None
none_kept records dataset attribute h = elim (map.get records (path_of dataset [])) as (λ o. map.get records (path_of dataset []) ≡ o → option_and_then list_in (option_and_then (λ (entry : Record). map.get entry.cells attribute) o) ≡ None) [
  | None ↦ λ e. refl
  | Some entry ↦ λ e. no_list (map.get entry.cells attribute) (h entry e)
] refl

none_own : (records : Stored) (dataset attribute name : List ℕ) → ((entry : Record) → map.get records (path_of dataset name) ≡ Some entry → map.get entry.acls attribute ≡ None) → own_list records (OfEntry dataset attribute name) ≡ None
none_own records dataset attribute name h = elim (map.get records (path_of dataset name)) as (λ o. map.get records (path_of dataset name) ≡ o → option_and_then (λ (entry : Record). map.get entry.acls attribute) o ≡ None) [
  | None ↦ λ e. refl
  | Some entry ↦ λ e. h entry e
] refl

own : (records : Stored) (dataset attribute name : List ℕ) (entry : Record) (acl : List (List ℕ)) → map.get records (path_of dataset name) ≡ Some entry → map.get entry.acls attribute ≡ Some acl → deciding_list records (OfEntry dataset attribute name) ≡ acl
unfolding deciding_list
own records dataset attribute name entry acl h k =
    let found : own_list records (OfEntry dataset attribute name) ≡ Some acl = ap (option_and_then (λ (entry : Record). map.get entry.acls attribute)) h ∙ k in
    ap (λ first. unwrap_or (option_or first (option_or (kept_list records dataset (attribute_list_name attribute)) (kept_list records dataset dataset_list_name))) (default_list dataset)) found

without_own : (records : Stored) (dataset attribute name : List ℕ) → ((entry : Record) → map.get records (path_of dataset name) ≡ Some entry → map.get entry.acls attribute ≡ None) → deciding_list records (OfEntry dataset attribute name) ≡ deciding_list records (OfAttribute dataset attribute)
unfolding deciding_list
without_own records dataset attribute name h =
    ap (λ first. unwrap_or (option_or first (option_or (kept_list records dataset (attribute_list_name attribute)) (kept_list records dataset dataset_list_name))) (default_list dataset)) (none_own records dataset attribute name h)

kept : (records : Stored) (dataset attribute : List ℕ) (entry : Record) (cell : Cell) → map.get records (path_of dataset []) ≡ Some entry → map.get entry.cells attribute ≡ Some cell → kept_list records dataset attribute ≡ list_in cell
kept records dataset attribute entry cell h k = ap (λ o. option_and_then list_in (option_and_then (λ (entry : Record). map.get entry.cells attribute) o)) h ∙ ap (option_and_then list_in) k

of_attribute : (records : Stored) (dataset attribute : List ℕ) (entry : Record) (acl : List (List ℕ)) → map.get records (path_of dataset []) ≡ Some entry → map.get entry.cells (attribute_list_name attribute) ≡ Some (Multi acl) → deciding_list records (OfAttribute dataset attribute) ≡ acl
unfolding deciding_list
of_attribute records dataset attribute entry acl h k =
    ap (λ first. unwrap_or (option_or first (kept_list records dataset dataset_list_name)) (default_list dataset)) (kept records dataset (attribute_list_name attribute) entry (Multi acl) h k)

without_attribute : (records : Stored) (dataset attribute : List ℕ) → ((entry : Record) → map.get records (path_of dataset []) ≡ Some entry → IsNone (map.get entry.cells (attribute_list_name attribute))) → deciding_list records (OfAttribute dataset attribute) ≡ deciding_list records (OfDataset dataset)
unfolding deciding_list
without_attribute records dataset attribute h =
    ap (λ first. unwrap_or (option_or first (kept_list records dataset dataset_list_name)) (default_list dataset)) (none_kept records dataset (attribute_list_name attribute) h)

of_dataset : (records : Stored) (dataset : List ℕ) (entry : Record) (acl : List (List ℕ)) → map.get records (path_of dataset []) ≡ Some entry → map.get entry.cells dataset_list_name ≡ Some (Multi acl) → deciding_list records (OfDataset dataset) ≡ acl
unfolding deciding_list
of_dataset records dataset entry acl h k = ap (λ first. unwrap_or first (default_list dataset)) (kept records dataset dataset_list_name entry (Multi acl) h k)

without_dataset : (records : Stored) (dataset : List ℕ) → ((entry : Record) → map.get records (path_of dataset []) ≡ Some entry → IsNone (map.get entry.cells dataset_list_name)) → deciding_list records (OfDataset dataset) ≡ default_list dataset
unfolding deciding_list
without_dataset records dataset h = ap (λ first. unwrap_or first (default_list dataset)) (none_kept records dataset dataset_list_name h)

one_string : (records : Stored) (dataset : List ℕ) (entry : Record) (value : List ℕ) → map.get records (path_of dataset []) ≡ Some entry → map.get entry.cells dataset_list_name ≡ Some (Single value) → deciding_list records (OfDataset dataset) ≡ []
unfolding deciding_list
one_string records dataset entry value h k = ap (λ first. unwrap_or first (default_list dataset)) (kept records dataset dataset_list_name entry (Single value) h k)

pub deciding_law : DecidingLaw
deciding_law = record {
  own = own;
  without_own = without_own;
  of_attribute = of_attribute;
  without_attribute = without_attribute;
  of_dataset = of_dataset;
  without_dataset = without_dataset;
  one_string = one_string;
}

named : (dataset attribute : List ℕ) → 0 < length attribute → target_of_list dataset (attribute_list_name attribute) ≡ Some (OfAttribute dataset attribute)
unfolding target_of_list
named dataset attribute h =
    let longer : nat_lt 12 (length (codes "dataset.acl." ++ attribute)) ≡ true = grind (arith, nat_tests) in
    rw longer refl

whole : (dataset : List ℕ) → target_of_list dataset dataset_list_name ≡ Some (OfDataset dataset)
unfolding target_of_list
whole dataset = refl

nameless : (dataset : List ℕ) → target_of_list dataset (attribute_list_name []) ≡ None
unfolding target_of_list
nameless dataset = refl

no_other : (dataset attribute : List ℕ) → attribute ≢ dataset_list_name → ((name : List ℕ) → 0 < length name → attribute ≢ attribute_list_name name) → target_of_list dataset attribute ≡ None
unfolding target_of_list
no_other dataset attribute whole named =
    elim (octets_eq attribute dataset_list_name) as (λ b. octets_eq attribute dataset_list_name ≡ b → (if b then Some (OfDataset dataset) else if starts_with nat_eq attribute (codes "dataset.acl.") && nat_lt 12 (length attribute) then Some (OfAttribute dataset (drop 12 attribute)) else None) ≡ None) [
      | true ↦ λ e. absurd (whole ((bytes_decides attribute dataset_list_name).0 e))
      | false ↦ λ e. elim (starts_with nat_eq attribute (codes "dataset.acl.") && nat_lt 12 (length attribute)) as (λ b. (starts_with nat_eq attribute (codes "dataset.acl.") && nat_lt 12 (length attribute)) ≡ b → (if b then Some (OfAttribute dataset (drop 12 attribute)) else None) ≡ None) [
        | true ↦ λ f.
            let parts = and_parts _ _ f in
            let front : codes "dataset.acl." ≡ take 12 attribute = (bytes_decides (codes "dataset.acl.") (take 12 attribute)).0 parts.0 in
            let long : 12 < length attribute = ltb-true 12 (length attribute) parts.1 in
            absurd (named (drop 12 attribute) (omega (arith, length-drop 12 attribute, long)) (sym (ap (λ xs. xs ++ drop 12 attribute) front ∙ take-append-drop 12 attribute)))
        | false ↦ λ f. refl
      ] refl
    ] refl

pub keeping_law : KeepingLaw
keeping_law = record { of_dataset = whole; of_attribute = named; no_attribute = nameless; no_other = no_other }
