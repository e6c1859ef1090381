-- What is read of a store, and what is NIL where nothing is found.
use Rattle.std.proofs.Common.{◌≡◌, ℕ, suc, zero, ℤ, Bool, true, false, cond, ◌==◌, ◌||◌, List, [], ◌∷◌, length, take, map, Option, Some, None, arith, refl, sym, ap, subst, ◌∙◌}
use Rattle.std.specs.Prelude.{codes, is_some, if◌then◌else◌}
use Rattle.std.specs.List.{list_any, cons_option, Contains}
use Rattle.std.specs.Option.{option_and_then}
use Rattle.std.specs.Cmp.Lexicographic.{same_text}
use Rattle.acap_entries.specs.Orders.{octets_eq}
use Rattle.acap_entries.specs.Store.{Stored}
use Rattle.acap_entries.specs.declared.record.Cell.{Cell}
use Rattle.acap_entries.specs.declared.record.Cell.TheVariants.{Nil, Single, Multi}
use Rattle.acap_entries.specs.declared.record.Record.{Record}
use Rattle.acap_ordmap.proofs.Logic.{Contains-here, Contains-there}
use Rattle.acap_inherit.specs.Chains.{name_in, base_at, onward, chain_within, chain_of}
use Rattle.acap_inherit.specs.Records.{record_at, cell_in, ends_inheritance}
use Rattle.acap_inherit.specs.Resolving.{Resolution, lying, by_cell, by_record, by_presence, value_on, entry_on, records_along, until_end, greatest, modtime_on, stamp_value, members_for, members_of, lookup, entry_exists, modtime_of}
use Rattle.acap_inherit.specs.Laws.{NothingLaw, ReadingLaw, AgreeOn}
use Rattle.acap_inherit.proofs.FirstLaws.{stored_value}
use Rattle.acap_inherit.proofs.NamesLaws.{same_names_on}

-- ---- the part of a chain that counts is of the chain

of_one : (chain : List (List ℕ)) (d : List ℕ) → Contains (take 1 chain) d → Contains chain d
of_one [] d h = h
of_one (x ∷ chain) d (zero, k, e) = (zero, omega arith, e)
of_one (x ∷ chain) d (suc i, k, e) = absurd (omega (arith, k))

pub of_members_for : (chain : List (List ℕ)) (name d : List ℕ) → Contains (members_for chain name) d → Contains chain d
of_members_for chain name d = elim (length name == 0) as (λ b. Contains (if b then take 1 chain else chain) d → Contains chain d) [ true ↦ of_one chain d | false ↦ λ h. h ]

pub of_members : (chain : List (List ℕ)) (name attribute d : List ℕ) → Contains (members_of chain name attribute) d → Contains chain d
of_members chain name attribute d =
    elim (octets_eq attribute (codes "subdataset")) as (λ b. Contains (if b then take 1 chain else members_for chain name) d → Contains chain d) [ true ↦ of_one chain d | false ↦ of_members_for chain name d ]

-- ---- nothing is found where nothing is

by_none : (entry : Option Record) (attribute dataset : List ℕ) (beyond : Resolution) → option_and_then (λ r. cell_in r attribute) entry ≡ None → beyond ≡ None → by_record entry attribute dataset beyond ≡ None
by_none None attribute dataset beyond e n = n
by_none (Some entry) attribute dataset beyond e n =
    ap (λ cell. by_cell cell entry dataset beyond) e
    ∙ elim (ends_inheritance entry) as (λ b. (if b then None else beyond) ≡ None) [ true ↦ refl | false ↦ n ]

value_none : (records : Stored) (chain : List (List ℕ)) (name attribute : List ℕ) → ((d : List ℕ) → Contains chain d → option_and_then (λ r. cell_in r attribute) (record_at records d name) ≡ None) → value_on records chain name attribute ≡ None
value_none records [] name attribute h = refl
value_none records (d ∷ chain) name attribute h =
    by_none (record_at records d name) attribute d (value_on records chain name attribute) (h d (Contains-here d chain)) (value_none records chain name attribute (λ x k. h x (Contains-there d x chain k)))

entry_none : (records : Stored) (chain : List (List ℕ)) (name : List ℕ) → ((d : List ℕ) → Contains chain d → record_at records d name ≡ None) → entry_on records chain name ≡ None
entry_none records [] name h = refl
entry_none records (d ∷ chain) name h =
    ap (λ entry. by_presence entry name d (entry_on records chain name)) (h d (Contains-here d chain)) ∙ entry_none records chain name (λ x k. h x (Contains-there d x chain k))

records_none : (records : Stored) (chain : List (List ℕ)) (name : List ℕ) → ((d : List ℕ) → Contains chain d → record_at records d name ≡ None) → records_along records chain name ≡ []
records_none records [] name h = refl
records_none records (d ∷ chain) name h =
    ap (λ entry. cons_option entry (records_along records chain name)) (h d (Contains-here d chain)) ∙ records_none records chain name (λ x k. h x (Contains-there d x chain k))

modtime_none : (records : Stored) (chain : List (List ℕ)) (name : List ℕ) → ((d : List ℕ) → Contains chain d → record_at records d name ≡ None) → modtime_on records chain name ≡ None
modtime_none records chain name h = ap (λ entries. greatest (map (λ (entry : Record). entry.modtime) (until_end entries))) (records_none records chain name h)

abbrev nothing_found : Resolution
nothing_found = None

whichever : (a b : Bool) → cond a nothing_found (cond b nothing_found nothing_found) ≡ nothing_found
whichever true b = refl
whichever false true = refl
whichever false false = refl

all_none : (records : Stored) (chain : List (List ℕ)) (name attribute : List ℕ) → ((d : List ℕ) → Contains chain d → record_at records d name ≡ None) → lookup records chain name attribute ≡ None
unfolding lookup
all_none records chain name attribute h =
    let entries = entry_none records (members_for chain name) name (λ d k. h d (of_members_for chain name d k)) in
    let stamps = ap (stamp_value chain) (modtime_none records (members_for chain name) name (λ d k. h d (of_members_for chain name d k))) in
    let values = value_none records (members_of chain name attribute) name attribute (λ d k. ap (λ entry. option_and_then (λ r. cell_in r attribute) entry) (h d (of_members chain name attribute d k))) in
    (λ i. if octets_eq attribute (codes "entry") then entries i else (if octets_eq attribute (codes "modtime") then stamps i else values i))
    ∙ whichever (octets_eq attribute (codes "entry")) (octets_eq attribute (codes "modtime"))

no_entry : (records : Stored) (chain : List (List ℕ)) (name : List ℕ) → ((d : List ℕ) → Contains chain d → record_at records d name ≡ None) → entry_exists records chain name ≡ false
unfolding entry_exists
no_entry records chain name h = ap is_some (entry_none records (members_for chain name) name (λ d k. h d (of_members_for chain name d k)))

no_moment : (records : Stored) (chain : List (List ℕ)) (name : List ℕ) → ((d : List ℕ) → Contains chain d → record_at records d name ≡ None) → modtime_of records chain name ≡ None
unfolding modtime_of
no_moment records chain name h = modtime_none records (members_for chain name) name (λ d k. h d (of_members_for chain name d k))

-- ---- what is found lies in the chain

abbrev where_found : List ℕ → Resolution → List ℕ
where_found other None = other
where_found other (Some found) = found.1

abbrev at_place : Cell → List ℕ → Resolution
at_place cell dataset = Some (cell, dataset)

at_first : (cell : Cell) (d : List ℕ) (chain : List (List ℕ)) (found : Cell) (dataset : List ℕ) → at_place cell d ≡ at_place found dataset → Contains (d ∷ chain) dataset
at_first cell d chain found dataset e = subst (λ x. Contains (d ∷ chain) x) (ap (where_found dataset) e) (Contains-here d chain)

not_found : (P : Type 0) (found : Cell × List ℕ) → None ≡ Some found → P
not_found P found e = cc

cell_within : (cell : Cell) (d : List ℕ) (chain : List (List ℕ)) (found : Cell) (dataset : List ℕ) → lying cell d ≡ Some (found, dataset) → Contains (d ∷ chain) dataset
cell_within Nil d chain found dataset e = not_found _ _ e
cell_within (Single value) d chain found dataset e = at_first (Single value) d chain found dataset e
cell_within (Multi values) d chain found dataset e = at_first (Multi values) d chain found dataset e

by_cell_within : (cell : Option Cell) (entry : Record) (d : List ℕ) (beyond : Resolution) (chain : List (List ℕ)) (found : Cell) (dataset : List ℕ) → (beyond ≡ Some (found, dataset) → Contains chain dataset) → by_cell cell entry d beyond ≡ Some (found, dataset) → Contains (d ∷ chain) dataset
by_cell_within (Some cell) entry d beyond chain found dataset h e = cell_within cell d chain found dataset e
by_cell_within None entry d beyond chain found dataset h e =
    elim (ends_inheritance entry) as (λ b. (if b then None else beyond) ≡ Some (found, dataset) → Contains (d ∷ chain) dataset) [ true ↦ λ e. not_found _ _ e | false ↦ λ e. Contains-there d dataset chain (h e) ] e

by_record_within : (entry : Option Record) (attribute d : List ℕ) (beyond : Resolution) (chain : List (List ℕ)) (found : Cell) (dataset : List ℕ) → (beyond ≡ Some (found, dataset) → Contains chain dataset) → by_record entry attribute d beyond ≡ Some (found, dataset) → Contains (d ∷ chain) dataset
by_record_within None attribute d beyond chain found dataset h e = Contains-there d dataset chain (h e)
by_record_within (Some entry) attribute d beyond chain found dataset h e = by_cell_within (cell_in entry attribute) entry d beyond chain found dataset h e

value_within : (records : Stored) (chain : List (List ℕ)) (name attribute : List ℕ) (found : Cell) (dataset : List ℕ) → value_on records chain name attribute ≡ Some (found, dataset) → Contains chain dataset
value_within records [] name attribute found dataset e = not_found _ _ e
value_within records (d ∷ chain) name attribute found dataset e =
    by_record_within (record_at records d name) attribute d (value_on records chain name attribute) chain found dataset (value_within records chain name attribute found dataset) e

by_presence_within : (entry : Option Record) (name d : List ℕ) (beyond : Resolution) (chain : List (List ℕ)) (found : Cell) (dataset : List ℕ) → (beyond ≡ Some (found, dataset) → Contains chain dataset) → by_presence entry name d beyond ≡ Some (found, dataset) → Contains (d ∷ chain) dataset
by_presence_within None name d beyond chain found dataset h e = Contains-there d dataset chain (h e)
by_presence_within (Some entry) name d beyond chain found dataset h e =
    elim entry.present as (λ b. (if b then at_place (Single name) d else nothing_found) ≡ at_place found dataset → Contains (d ∷ chain) dataset) [
      | true ↦ λ e. at_first (Single name) d chain found dataset e
      | false ↦ λ e. not_found _ _ e
    ] e

entry_within : (records : Stored) (chain : List (List ℕ)) (name : List ℕ) (found : Cell) (dataset : List ℕ) → entry_on records chain name ≡ Some (found, dataset) → Contains chain dataset
entry_within records [] name found dataset e = not_found _ _ e
entry_within records (d ∷ chain) name found dataset e =
    by_presence_within (record_at records d name) name d (entry_on records chain name) chain found dataset (entry_within records chain name found dataset) e

stamp_within : (chain : List (List ℕ)) (moment : Option ℤ) (found : Cell) (dataset : List ℕ) → stamp_value chain moment ≡ Some (found, dataset) → Contains chain dataset
stamp_within chain None found dataset e = not_found _ _ e
stamp_within [] (Some moment) found dataset e = not_found _ _ e
stamp_within (d ∷ chain) (Some moment) found dataset e = at_first _ d chain found dataset e

lies_within : (records : Stored) (chain : List (List ℕ)) (name attribute : List ℕ) (found : Cell) (dataset : List ℕ) → lookup records chain name attribute ≡ Some (found, dataset) → Contains chain dataset
unfolding lookup
lies_within records chain name attribute found dataset =
    elim (octets_eq attribute (codes "entry")) as (λ b. (if b then entry_on records (members_for chain name) name else (if octets_eq attribute (codes "modtime") then stamp_value chain (modtime_on records (members_for chain name) name) else value_on records (members_of chain name attribute) name attribute)) ≡ Some (found, dataset) → Contains chain dataset) [
      | true ↦ λ e. of_members_for chain name dataset (entry_within records (members_for chain name) name found dataset e)
      | false ↦ elim (octets_eq attribute (codes "modtime")) as (λ b. (if b then stamp_value chain (modtime_on records (members_for chain name) name) else value_on records (members_of chain name attribute) name attribute) ≡ Some (found, dataset) → Contains chain dataset) [
        | true ↦ λ e. stamp_within chain _ found dataset e
        | false ↦ λ e. of_members chain name attribute dataset (value_within records (members_of chain name attribute) name attribute found dataset e)
      ]
    ]

pub nothing_law : NothingLaw
nothing_law = record {
  attribute = λ records chain name attribute e m h.
      stored_value records chain name attribute e m ∙ value_none records (members_of chain name attribute) name attribute (λ d k. h d (of_members chain name attribute d k));
  entry = λ records chain name h. (no_entry records chain name h, no_moment records chain name h, λ attribute. all_none records chain name attribute h);
  within = lies_within;
}

-- ---- two stores that agree

value_same : (old new : Stored) (chain : List (List ℕ)) (name attribute : List ℕ) → AgreeOn old new chain name → value_on old chain name attribute ≡ value_on new chain name attribute
value_same old new [] name attribute h = refl
value_same old new (d ∷ chain) name attribute h =
    let one = h d (Contains-here d chain) in
    let rest = value_same old new chain name attribute (λ x k. h x (Contains-there d x chain k)) in
    λ i. by_record (one i) attribute d (rest i)

entry_same : (old new : Stored) (chain : List (List ℕ)) (name : List ℕ) → AgreeOn old new chain name → entry_on old chain name ≡ entry_on new chain name
entry_same old new [] name h = refl
entry_same old new (d ∷ chain) name h =
    let one = h d (Contains-here d chain) in
    let rest = entry_same old new chain name (λ x k. h x (Contains-there d x chain k)) in
    λ i. by_presence (one i) name d (rest i)

records_same : (old new : Stored) (chain : List (List ℕ)) (name : List ℕ) → AgreeOn old new chain name → records_along old chain name ≡ records_along new chain name
records_same old new [] name h = refl
records_same old new (d ∷ chain) name h =
    let one = h d (Contains-here d chain) in
    let rest = records_same old new chain name (λ x k. h x (Contains-there d x chain k)) in
    λ i. cons_option (one i) (rest i)

modtime_same : (old new : Stored) (chain : List (List ℕ)) (name : List ℕ) → AgreeOn old new chain name → modtime_on old chain name ≡ modtime_on new chain name
modtime_same old new chain name h = ap (λ entries. greatest (map (λ (entry : Record). entry.modtime) (until_end entries))) (records_same old new chain name h)

-- of `entry` and of `modtime` as much of the chain counts as of the entry
for_entry : (old new : Stored) (chain : List (List ℕ)) (name attribute : List ℕ) → AgreeOn old new (members_of chain name attribute) name → octets_eq attribute (codes "entry") ≡ true → AgreeOn old new (members_for chain name) name
for_entry old new chain name attribute h e = subst (λ a. AgreeOn old new (members_of chain name a) name) (same_text attribute (codes "entry") (sym e)) h

for_modtime : (old new : Stored) (chain : List (List ℕ)) (name attribute : List ℕ) → AgreeOn old new (members_of chain name attribute) name → octets_eq attribute (codes "modtime") ≡ true → AgreeOn old new (members_for chain name) name
for_modtime old new chain name attribute h e = subst (λ a. AgreeOn old new (members_of chain name a) name) (same_text attribute (codes "modtime") (sym e)) h

attribute_same : (old new : Stored) (chain : List (List ℕ)) (name attribute : List ℕ) → AgreeOn old new (members_of chain name attribute) name → lookup old chain name attribute ≡ lookup new chain name attribute
unfolding lookup
attribute_same old new chain name attribute h =
    elim (octets_eq attribute (codes "entry")) as (λ b. octets_eq attribute (codes "entry") ≡ b →
    (if b then entry_on old (members_for chain name) name else (if octets_eq attribute (codes "modtime") then stamp_value chain (modtime_on old (members_for chain name) name) else value_on old (members_of chain name attribute) name attribute))
    ≡ (if b then entry_on new (members_for chain name) name else (if octets_eq attribute (codes "modtime") then stamp_value chain (modtime_on new (members_for chain name) name) else value_on new (members_of chain name attribute) name attribute))) [
      | true ↦ λ e. entry_same old new (members_for chain name) name (for_entry old new chain name attribute h e)
      | false ↦ λ _. elim (octets_eq attribute (codes "modtime")) as (λ b. octets_eq attribute (codes "modtime") ≡ b →
          (if b then stamp_value chain (modtime_on old (members_for chain name) name) else value_on old (members_of chain name attribute) name attribute)
          ≡ (if b then stamp_value chain (modtime_on new (members_for chain name) name) else value_on new (members_of chain name attribute) name attribute)) [
            | true ↦ λ e. ap (stamp_value chain) (modtime_same old new (members_for chain name) name (for_modtime old new chain name attribute h e))
            | false ↦ λ _. value_same old new (members_of chain name attribute) name attribute h
          ] refl
    ] refl

existence_same : (old new : Stored) (chain : List (List ℕ)) (name : List ℕ) → AgreeOn old new (members_for chain name) name → entry_exists old chain name ≡ entry_exists new chain name
unfolding entry_exists
existence_same old new chain name h = ap is_some (entry_same old new (members_for chain name) name h)

moment_same : (old new : Stored) (chain : List (List ℕ)) (name : List ℕ) → AgreeOn old new (members_for chain name) name → modtime_of old chain name ≡ modtime_of new chain name
unfolding modtime_of
moment_same old new chain name h = modtime_same old new (members_for chain name) name h

base_in : Option Record → Option (List ℕ)
base_in entry = option_and_then name_in (option_and_then (λ r. cell_in r (codes "dataset.inherit")) entry)

no_more : (records : Stored) (base : Option (List ℕ)) → onward base (chain_within zero records) ≡ []
unfolding chain_within
no_more records None = refl
no_more records (Some base) = refl

chain_same : (most : ℕ) (old new : Stored) (dataset : List ℕ) → AgreeOn old new (take most (chain_within (suc most) old dataset)) [] → chain_within (suc most) old dataset ≡ chain_within (suc most) new dataset
unfolding chain_within base_in
chain_same zero old new dataset h = ap (λ rest. dataset ∷ rest) (no_more old (base_at old dataset) ∙ sym (no_more new (base_at new dataset)))
chain_same (suc most) old new dataset h =
    let same : base_at old dataset ≡ base_at new dataset = ap base_in (h dataset (Contains-here dataset _)) in
    ap (λ rest. dataset ∷ rest)
    (elim (base_at old dataset) as (λ base. AgreeOn old new (take most (onward base (chain_within (suc most) old))) [] → onward base (chain_within (suc most) old) ≡ onward base (chain_within (suc most) new)) [
      | None ↦ λ _. refl
      | Some base ↦ λ k. chain_same most old new base k
    ] (λ x k. h x (Contains-there dataset x _ k))
    ∙ ap (λ base. onward base (chain_within (suc most) new)) same)

any_same : (old new : Stored) (chain : List (List ℕ)) (name : List ℕ) → ((d : List ℕ) → Contains chain d → is_some (record_at old d name) ≡ is_some (record_at new d name)) → list_any (λ d. is_some (record_at old d name)) chain ≡ list_any (λ d. is_some (record_at new d name)) chain
any_same old new [] name h = refl
any_same old new (d ∷ chain) name h =
    let one = h d (Contains-here d chain) in
    let rest = any_same old new chain name (λ x k. h x (Contains-there d x chain k)) in
    λ i. one i || rest i

pub reading_law : ReadingLaw
reading_law = record {
  chain = λ old new dataset no_inherit. elim no_inherit as (λ b. AgreeOn old new (take 7 (chain_of old dataset b)) [] → chain_of old dataset b ≡ chain_of new dataset b) [ true ↦ λ _. refl | false ↦ chain_same 7 old new dataset ];
  attribute = attribute_same;
  existence = existence_same;
  moment = moment_same;
  names = λ old new chain h. same_names_on old new chain chain (λ q. any_same old new chain q (h q));
}
