-- Items that come in ascending order of their keys.
use Rattle.std.specs.Prelude.{◌≡◌, ◌-◌, Bool, true, List, length, Option, Some, None}
use Rattle.std.specs.List.{All, slice_get}
use Rattle.std.specs.declared.cmp.Ordering.{Ordering}
use Rattle.std.specs.declared.cmp.Ordering.TheVariants.{Less}

module _ {A K : Type 0} (key : A → K) (R : K → K → Ordering) where
  -- how the key of an item compares with k; none is less
  abbrev pub item_cmp : Option A → K → Ordering
  item_cmp None k = Less
  item_cmp (Some x) k = R (key x) k

  -- how the key of the last item compares with k
  unfoldable pub last_cmp : List A → K → Ordering
  last_cmp seen k = item_cmp (slice_get seen (length seen - 1)) k

  -- where they ascend, what is greater than the last key is greater than every one
  pub record Ascends (ascend : Bool) (seen : List A) : Type 0 where
    pub below : ascend ≡ true → (k : K) → last_cmp seen k ≡ Less → All (λ x. R (key x) k ≡ Less) seen
