-- Which datasets inherit from which: the index that leads from a base to its heirs [RFC 2244 section 5.2].
use Rattle.std.specs.Prelude.{◌≡◌, ℕ, ◌==◌, Bool, false, List, [], ◌∷◌, length, Option, Some, None}
use Rattle.std.specs.Prelude.{map as each, if◌then◌else◌}
use Rattle.std.specs.FinMap as map
use Rattle.std.specs.List.{filter, flat_map, list_any}
use Rattle.std.specs.declared.cmp.Ordering.{Ordering}
use Rattle.std.specs.Ordering.{eq_by_cmp, ordering_then}
use Rattle.acap_entries.specs.Orders.{octets_cmp, octets_eq}
use Rattle.acap_ordmap.specs.Ranks.{with_item, without_item}
use Rattle.acap_entries.specs.Store.{Stored, Written}
use Rattle.acap_entries.specs.declared.path.Path.{Path}
use Rattle.acap_inherit.specs.Chains.{base_at}
use Rattle.acap_inherit.specs.declared.link.Link.{Link}

-- the order of pairs: by base, and then by heir
abbrev pub link_cmp : Link → Link → Ordering
link_cmp a b = ordering_then (octets_cmp a.base b.base) (octets_cmp a.heir b.heir)

-- whether a pair is among some
abbrev pub is_linked : List Link → List ℕ → List ℕ → Bool
is_linked links base heir = list_any (eq_by_cmp link_cmp (record { base = base; heir = heir })) links

-- whether a base is that one
abbrev pub is_base : Option (List ℕ) → List ℕ → Bool
is_base None base = false
is_base (Some found) base = octets_eq base found

-- a pair is there exactly where the dataset's `dataset.inherit` names the base
pub record IsIndexOf (records : Stored) (links : List Link) : Type 0 where
  pub each : (base heir : List ℕ) → is_linked links base heir ≡ is_base (base_at records heir) base

-- the pairs of the datasets whose management entries are written, by what a store has there
abbrev pub link_at : List ℕ → Option (List ℕ) → List Link
link_at heir None = []
link_at heir (Some base) = record { base = base; heir = heir } ∷ []

abbrev pub links_of : Stored → Path → List Link
links_of records p = if length p.name == 0 then link_at p.dataset (base_at records p.dataset) else []

abbrev pub links_written : Written → Stored → List Link
links_written written records = flat_map (λ w. links_of records w.0) (map.entries written)

-- pairs without some, and with some
abbrev pub without_all : List Link → List Link → List Link
without_all [] links = links
without_all (link ∷ taken) links = without_item link_cmp link (without_all taken links)

abbrev pub with_all : List Link → List Link → List Link
with_all [] links = links
with_all (link ∷ put) links = with_item link_cmp link (with_all put links)

-- what becomes of an index once the first of two lists was taken out, and the second put in
abbrev pub index_with : List Link × List Link → List Link → List Link
index_with prepared links = with_all prepared.1 (without_all prepared.0 links)

-- the heirs of a base
abbrev pub heirs_in : List Link → List ℕ → List (List ℕ)
heirs_in links base = each (λ link. link.heir) (filter (λ link. octets_eq base link.base) links)
