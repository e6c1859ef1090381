-- Entries in the order of their keys: how a finite map is kept.
use Rattle.std.specs.Prelude.{ℕ, suc, Bool, true, false, not, IsTrue, Option, List, [], ◌∷◌}
use Rattle.std.specs.declared.cmp.Ordering.{Ordering}
use Rattle.std.specs.Ordering.{eq_by_cmp}
use Rattle.std.specs.List as list
use Rattle.std.specs.FinMap.Entries.{by_order, where_key, put, find, is_sorted}

module _ {K X : Type 0} (R : K → K → Ordering) where
  -- how many keys stand before the place of k
  abbrev pub place : K → List (K × X) → ℕ
  place k [] = 0
  place k (e ∷ es) = by_order (R k e.0) 0 0 (suc (place k es))

  -- whether the key that stands there ties with k
  abbrev pub is_tied : K → List (K × X) → Bool
  is_tied k [] = false
  is_tied k (e ∷ es) = by_order (R k e.0) false true (is_tied k es)

  -- the entries with the value at the key
  unfoldable pub put_in : K → X → List (K × X) → List (K × X)
  put_in k v es = put R k v es

  -- the entries whose keys don't tie with k
  unfoldable pub without : K → List (K × X) → List (K × X)
  without k es = where_key R (λ x. not (eq_by_cmp R k x)) es

  -- the value of the first entry whose key ties with k
  unfoldable pub found : K → List (K × X) → Option X
  found k es = find R k es

  -- the first entry whose key ties with k
  unfoldable pub entry_of : K → List (K × X) → Option (K × X)
  entry_of k es = list.find (λ e. eq_by_cmp R k e.0) es

  -- the keys strictly rise
  pub record InOrder (es : List (K × X)) : Type 0 where
    pub rises : IsTrue (is_sorted R es)
