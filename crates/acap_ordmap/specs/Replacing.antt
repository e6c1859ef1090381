-- Where a key stands in leaves, and how one entry takes the place of another.
use Rattle.std.specs.Prelude.{◌≡◌, ℕ, ◌+◌, List, [], slice_index_or}
use Rattle.std.specs.declared.cmp.Ordering.{Ordering}
use Rattle.acap_ordmap.specs.Leaves.{IsAmong}
use Rattle.acap_ordmap.specs.Sorted.{place, put_in, without}

module _ {K X : Type 0} (R : K → K → Ordering) where
  -- the key belongs in a leaf, in which `at` entries stand before it
  pub record LiesAt (k : K) (leaves : List (List (K × X))) (leaf at : ℕ) : Type 0 where
    pub among : IsAmong R k leaves leaf (leaf + 1)
    pub place : at ≡ place R k (slice_index_or leaves leaf [])

  -- the entries with this one, and without the one whose key ties with its key
  abbrev pub replaced : K → X → List (K × X) → List (K × X)
  replaced k v es = put_in R k v (without R k es)
