-- What follows of touched paths from the definition alone [RFC 2244 sections 5.1 and 5.2].
use Rattle.std.specs.Prelude.{◌≡◌, ◌⊎◌, ℕ, Bool, true, false, List, []}
use Rattle.std.specs.List.{list_any, flat_map}
use Rattle.std.specs.Ordering.{eq_by_cmp}
use Rattle.acap_entries.specs.Datasets.{dataset_exists}
use Rattle.acap_entries.specs.FullPaths.{full_path_cmp, IsSplit}
use Rattle.acap_ordmap.specs.Ranks.{Ascending}
use Rattle.acap_entries.specs.Sound.{IsHoused}
use Rattle.acap_entries.specs.Store.{Stored, Written, IsPathByPath}
use Rattle.acap_entries.specs.declared.path.Path.{Path}
use Rattle.acap_inherit.specs.Chains.{chain_of}
use Rattle.acap_inherit.specs.Laws.{AgreeOn}
use Rattle.acap_inherit.specs.Resolving.{lookup, entry_exists, modtime_of}
use Rattle.acap_inherit.specs.Touched.{has_record_on, is_touched, by_octets, in_order, touched_paths}
use Rattle.acap_inherit.specs.Touched.{datasets_touched, touched_at}

-- writes lead from one store to another, in both of which the
-- dataset of each record exists, and take no dataset away
pub record IsStep (written : Written) (old new : Stored) : Type 0 where
  pub paths : IsPathByPath written old new
  pub before : IsHoused old
  pub after : IsHoused new
  pub stays : (dataset : List ℕ) → dataset_exists old dataset ≡ true → dataset_exists new dataset ≡ true

-- two stores agree on all that is looked at for an entry: the chain of its dataset, its record in each
-- dataset there, and the management entries, in which are the lists that decide on rights
pub record IsReadAlike (old new : Stored) (dataset name : List ℕ) : Type 0 where
  pub chain : chain_of old dataset false ≡ chain_of new dataset false
  pub records : AgreeOn old new (chain_of old dataset false) name
  pub management : AgreeOn old new (chain_of old dataset false) []

-- an entry has no record along the chain in either of two stores
pub record IsNowhere (old new : Stored) (dataset name : List ℕ) : Type 0 where
  pub before : has_record_on old (chain_of old dataset false) name ≡ false
  pub after : has_record_on new (chain_of new dataset false) name ≡ false

-- two stores answer alike of an entry, whether what is inherited is asked for or the dataset alone
pub record IsAnsweredAlike (old new : Stored) (dataset name : List ℕ) : Type 0 where
  pub attribute : (no_inherit : Bool) (attribute : List ℕ)
      → lookup old (chain_of old dataset no_inherit) name attribute
      ≡ lookup new (chain_of new dataset no_inherit) name attribute
  pub existence : (no_inherit : Bool)
      → entry_exists old (chain_of old dataset no_inherit) name
      ≡ entry_exists new (chain_of new dataset no_inherit) name
  pub moment : (no_inherit : Bool)
      → modtime_of old (chain_of old dataset no_inherit) name
      ≡ modtime_of new (chain_of new dataset no_inherit) name

-- what is read of a path that is not touched is the same before
-- and after, or it is nowhere; so each answer is the same
pub record UnreadLaw : Type 0 where
  pub read : (written : Written) (old new : Stored) → IsStep written old new → (p : Path)
      → is_touched written old new p ≡ false
      → IsReadAlike old new p.dataset p.name ⊎ IsNowhere old new p.dataset p.name
  pub answers : (written : Written) (old new : Stored) → IsStep written old new → (p : Path)
      → is_touched written old new p ≡ false
      → IsAnsweredAlike old new p.dataset p.name

-- the list of touched paths is that of all of them, whatever is in question, and each comes once, in the
-- order of full octets: paths that are split at their last slash, as all of a store are, are told apart by
-- these alone. Those of each touched dataset are all of them together
pub record TouchedPathsLaw : Type 0 where
  pub all : (written : Written) (old new : Stored) → IsPathByPath written old new → (p : Path)
      → list_any (eq_by_cmp by_octets p) (touched_paths written old new) ≡ is_touched written old new p
  pub rises : (written : Written) (old new : Stored) → Ascending by_octets (touched_paths written old new)
  pub together : (written : Written) (old new : Stored)
      → in_order (flat_map (touched_at written old new) (datasets_touched written old new))
      ≡ touched_paths written old new
  pub formed : (a b : Path) → IsSplit a → IsSplit b → by_octets a b ≡ full_path_cmp a b
