-- Rights that are made once for a dataset are those on each of its attributes.
use Rattle.std.proofs.Common.{◌≡◌, ℕ, Bool, true, false, cond, T, ◌&&◌, codes, drop, Option, Some, None, List, [], ◌∷◌, refl, sym, ◌∙◌, ap, subst}
use Rattle.std.specs.Prelude.{nat_eq}
use Rattle.std.specs.FinMap as map
use Rattle.std.specs.FinMap.Entries.{below_all, is_sorted, find}
use Rattle.std.specs.List.{starts_with}
use Rattle.std.specs.Option.{option_and_then, option_map, option_map_or, option_or, unwrap_or}
use Rattle.std.specs.Ordering.{is_eq, is_lt, eq_by_cmp}
use Rattle.std.specs.declared.cmp.Ordering.TheVariants.{Less, Equal, Greater}
use Rattle.std.specs.Cmp.Lexicographic.{nat_list_cmp_total, same_text, texts_ties}
use Rattle.std.proofs.lemmas.Bool.Decides.{Decides-eqb}
use Rattle.std.proofs.lemmas.Slice.Eq.{starts_is}
use Rattle.acap_entries.specs.Orders.{octets_cmp}
use Rattle.acap_entries.specs.Store.{Stored}
use Rattle.acap_entries.specs.declared.record.Cell.{Cell}
use Rattle.acap_entries.specs.declared.record.Record.{Record}
use Rattle.acap_rights.specs.Deciding.{attribute_list_name, dataset_list_name, deciding_list, kept_list, list_in, rights_by_list, rights_of}
use Rattle.acap_rights.specs.Sharing.{Listed, SharedLaw, AreShared, by_list, listed_from, listed_in, with_list}
use Rattle.acap_rights.specs.declared.realm.Realm.{Realm}
use Rattle.acap_rights.specs.declared.rights.Rights.{Rights}
use Rattle.acap_rights.specs.declared.sharing.SharedRights.{SharedRights}

-- what is below all keys is not found
missing : (q : List ℕ) (es : List (List ℕ × Cell)) → T (below_all octets_cmp q es) → find octets_cmp q es ≡ None
missing q [] b = refl
missing q (e ∷ es) b =
    elim (octets_cmp q e.0) as (λ o. T (is_lt o && below_all octets_cmp q es) → cond (is_eq o) (Some e.1) (find octets_cmp q es) ≡ None) [
      | Less ↦ λ b. missing q es b
      | Equal ↦ λ b. absurd b
      | Greater ↦ λ b. absurd b
    ] b

parts : (a b : Bool) → T (a && b) → T a × T b
parts true b p = (tt, p)
parts false b p = absurd p

or_none : {X : Type 0} (o : Option X) → option_or o None ≡ o
or_none None = refl
or_none (Some x) = refl

pub tied : (p q : List ℕ) → eq_by_cmp octets_cmp p q ≡ true → p ≡ q
tied p q t = same_text p q (sym (texts_ties p q ∙ t))

module _ (rights : List (List ℕ) → Rights) (attribute : List ℕ) where
  -- its list's name, and the rights by that list
  abbrev wanted : List ℕ
  wanted = attribute_list_name attribute

  abbrev by_cell : Option Cell → Option Rights
  by_cell cell = option_map rights (option_and_then list_in cell)

  abbrev is_wanted : List ℕ → Bool
  is_wanted name = eq_by_cmp octets_cmp wanted name

  put_found : (k : List ℕ) (list : Option (List (List ℕ))) (listed : Listed) (t : Bool) → eq_by_cmp octets_cmp attribute k ≡ t
      → map.get (option_map_or (λ list. map.insert listed k (rights list)) list listed) attribute ≡ option_or (option_map rights (cond t list None)) (map.get listed attribute)
  put_found k None listed true e = refl
  put_found k None listed false e = refl
  put_found k (Some list) listed true e = map.get-insert nat_list_cmp_total listed k (rights list) attribute ∙ ap (λ t. cond t (Some (rights list)) (map.get listed attribute)) e
  put_found k (Some list) listed false e = map.get-insert nat_list_cmp_total listed k (rights list) attribute ∙ ap (λ t. cond t (Some (rights list)) (map.get listed attribute)) e

  only_if : (t : Bool) (cell : Cell) → cond t (list_in cell) None ≡ option_and_then list_in (cond t (Some cell) None)
  only_if true cell = refl
  only_if false cell = refl

  one_put : (e : List ℕ × Cell) (listed : Listed) → map.get (with_list rights e listed) attribute ≡ option_or (by_cell (cond (is_wanted e.0) (Some e.1) None)) (map.get listed attribute)
  one_put e listed =
      let begins = starts_is {A = ℕ} {E = nat_eq} Decides-eqb e.0 (codes "dataset.acl.") (starts_with nat_eq e.0 (codes "dataset.acl.")) refl in
      elim (starts_with nat_eq e.0 (codes "dataset.acl.")) as (λ b. starts_with nat_eq e.0 (codes "dataset.acl.") ≡ b
      → map.get (option_map_or (λ k. option_map_or (λ list. map.insert listed k (rights list)) (list_in e.1) listed) (cond b (Some (drop 12 e.0)) None) listed) attribute
      ≡ option_or (by_cell (cond (is_wanted e.0) (Some e.1) None)) (map.get listed attribute)) [
        | true ↦ λ h.
            let is : is_wanted e.0 ≡ eq_by_cmp octets_cmp attribute (drop 12 e.0) = ap is_wanted (begins.0 h) in
            put_found (drop 12 e.0) (list_in e.1) listed (is_wanted e.0) (sym is)
            ∙ ap (λ list. option_or (option_map rights list) (map.get listed attribute)) (only_if (is_wanted e.0) e.1)
        | false ↦ λ h.
            elim (is_wanted e.0) as (λ t. is_wanted e.0 ≡ t → map.get listed attribute ≡ option_or (by_cell (cond t (Some e.1) None)) (map.get listed attribute)) [
              | true ↦ λ t. let yes = begins.1 attribute (sym (tied wanted e.0 t)) in absurd (cc (yes, h))
              | false ↦ λ t. refl
            ] refl
      ] refl

  one_found : (t : Bool) (cell : Cell) (rest : Option Cell) (before : Option Rights) → (t ≡ true → rest ≡ None)
      → option_or (by_cell rest) (option_or (by_cell (cond t (Some cell) None)) before) ≡ option_or (by_cell (cond t (Some cell) rest)) before
  one_found true cell rest before h = ap (λ rest. option_or (by_cell rest) (option_or (by_cell (Some cell)) before)) (h refl)
  one_found false cell rest before h = refl

  listed_found : (es : List (List ℕ × Cell)) (listed : Listed) → T (is_sorted octets_cmp es)
      → map.get (listed_from rights es listed) attribute ≡ option_or (by_cell (find octets_cmp wanted es)) (map.get listed attribute)
  listed_found [] listed s = refl
  listed_found (e ∷ es) listed s =
      let rises = parts _ _ s in
      listed_found es (with_list rights e listed) rises.1
      ∙ (ap (option_or (by_cell (find octets_cmp wanted es))) (one_put e listed)
      ∙ one_found (is_wanted e.0) e.1 (find octets_cmp wanted es) (map.get listed attribute) (λ t. missing wanted es (subst (λ q. T (below_all octets_cmp q es)) (sym (tied wanted e.0 t)) rises.0)))

  in_entry : (management : Option Record) → map.get (option_map_or (λ entry. listed_from rights (map.entries entry.cells) map.empty) management map.empty) attribute
      ≡ by_cell (option_and_then (λ entry. map.get entry.cells wanted) management)
  in_entry None = map.get-empty octets_cmp attribute
  in_entry (Some entry) =
      listed_found (map.entries entry.cells) map.empty (map.entries_sorted entry.cells)
      ∙ (ap (option_or (by_cell (find octets_cmp wanted (map.entries entry.cells)))) (map.get-empty octets_cmp attribute)
      ∙ (or_none _ ∙ ap by_cell (sym (map.get-entries entry.cells wanted))))

by_either : (rights : Option (List (List ℕ)) → Rights) (own shared : Option (List (List ℕ))) → rights (option_or own shared) ≡ unwrap_or (option_map (λ list. rights (Some list)) own) (rights shared)
by_either rights None shared = refl
by_either rights (Some list) shared = refl

pub are_shared : (records : Stored) (realm : Realm) (user dataset : List ℕ) (shared : SharedRights)
    → shared.listed ≡ listed_in realm user dataset (map.get records (record { dataset = dataset; name = [] }))
    → shared.others ≡ rights_by_list realm user dataset (kept_list records dataset dataset_list_name) → AreShared records realm user dataset shared
unfolding rights_of deciding_list listed_in
are_shared records realm user dataset shared listed others attribute =
    let rights : Option (List (List ℕ)) → Rights = rights_by_list realm user dataset in
    by_either rights (kept_list records dataset (attribute_list_name attribute)) (kept_list records dataset dataset_list_name)
    ∙ (λ i. unwrap_or (sym (ap (λ listed. map.get listed attribute) listed ∙ in_entry (by_list realm user dataset) attribute (map.get records (record { dataset = dataset; name = [] }))) i) (sym others i))

pub shared_law : SharedLaw
unfolding rights_of deciding_list
shared_law records realm user dataset attribute name own =
    let management = kept_list records dataset in
    ap (λ list. rights_by_list realm user dataset (option_or list (option_or (management (attribute_list_name attribute)) (management dataset_list_name)))) own
