-- Lists of items in their own order: which one ties with a key, how many stand before it, and edits.
use Rattle.std.specs.Prelude.{ℕ, not, map, List, [], ◌∷◌, Option, AllPairs, ◌≡◌}
use Rattle.std.specs.declared.cmp.Ordering.{Ordering}
use Rattle.std.specs.declared.cmp.Ordering.TheVariants.{Less}
use Rattle.std.specs.Ordering.{eq_by_cmp, is_lt}
use Rattle.std.specs.List as list
use Rattle.std.specs.FinMap.Entries.{by_order}

-- items with nothing beside them
abbrev pub units : {T : Type 0} → List T → List (T × Unit {0})
units xs = map (λ x. (x, tt)) xs

module _ {T : Type 0} (R : T → T → Ordering) where
  -- each item is less than all that follow it
  pub record Ascending (xs : List T) : Type 0 where
    pub rises : AllPairs (λ x y. R x y ≡ Less) xs

  -- how many items are less than k
  unfoldable pub rank_of : T → List T → ℕ
  rank_of k xs = list.count_by (λ x. is_lt (R x k)) xs

  -- the first item that ties with k
  unfoldable pub item_at : T → List T → Option T
  item_at k xs = list.find (eq_by_cmp R k) xs

  -- the items with one more in its place; where one ties with it, that one stays alone
  unfoldable pub with_item : T → List T → List T
  with_item x [] = x ∷ []
  with_item x (y ∷ ys) = by_order (R x y) (x ∷ y ∷ ys) (y ∷ ys) (y ∷ with_item x ys)

  -- the items that don't tie with k
  unfoldable pub without_item : T → List T → List T
  without_item k xs = list.filter (λ x. not (eq_by_cmp R k x)) xs
