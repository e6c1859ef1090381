-- What follows of lists of items in their own order.
use Rattle.std.specs.Prelude.{◌≡◌, ℕ, ◌<◌, ◌≤◌, map, List, Some, None, slice_get, insert, remove}
use Rattle.std.specs.declared.cmp.Ordering.{Ordering}
use Rattle.std.specs.declared.cmp.Ordering.TheVariants.{Less}
use Rattle.acap_ordmap.specs.Ranks.{Ascending, rank_of, item_at, with_item, without_item}
use Rattle.acap_ordmap.specs.Sorted.{found, put_in, without}

-- each item as its own key
abbrev pub own_keys : {T : Type 0} → List T → List (T × T)
own_keys xs = map (λ x. (x, x)) xs

pub record RankLaw {T : Type 0} (R : T → T → Ordering) : Type 0 where
  -- the item at the rank of a key that is there is that key's, and each item stands at its own rank
  pub there : (k x : T) (xs : List T) → Ascending R xs → item_at R k xs ≡ Some x
      → slice_get xs (rank_of R k xs) ≡ Some x
  pub own : (i : ℕ) (x : T) (xs : List T) → Ascending R xs → slice_get xs i ≡ Some x → rank_of R x xs ≡ i
  -- ranks ascend with keys, strictly where the lesser one is there
  pub rises : (k l : T) (xs : List T) → R k l ≡ Less → rank_of R k xs ≤ rank_of R l xs
  pub strictly : (k l x : T) (xs : List T) → R k l ≡ Less → item_at R k xs ≡ Some x
      → rank_of R k xs < rank_of R l xs
  -- what is new is put at its rank, and what is taken stood at its rank; else all stays
  pub put_new : (x : T) (xs : List T) → Ascending R xs → item_at R x xs ≡ None
      → with_item R x xs ≡ insert xs (rank_of R x xs) x
  pub put_tied : (x y : T) (xs : List T) → Ascending R xs → item_at R x xs ≡ Some y → with_item R x xs ≡ xs
  pub taken : (k x : T) (xs : List T) → Ascending R xs → item_at R k xs ≡ Some x
      → without_item R k xs ≡ remove xs (rank_of R k xs)
  pub absent : (k : T) (xs : List T) → Ascending R xs → item_at R k xs ≡ None → without_item R k xs ≡ xs
  -- the items ascend afterwards
  pub after_put : (x : T) (xs : List T) → Ascending R xs → Ascending R (with_item R x xs)
  pub after_take : (k : T) (xs : List T) → Ascending R xs → Ascending R (without_item R k xs)
  -- all this is what finite maps do that are kept in order
  pub as_found : (k : T) (xs : List T) → item_at R k xs ≡ found R k (own_keys xs)
  pub as_put : (x : T) (xs : List T) → with_item R x xs ≡ map (λ e. e.0) (put_in R x x (own_keys xs))
  pub as_without : (k : T) (xs : List T) → without_item R k xs ≡ map (λ e. e.0) (without R k (own_keys xs))
