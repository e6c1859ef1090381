-- The hits of a live search: one for a name at the most, in
-- the order of the search [RFC 2244 sections 3.3 and 6.4].
use Rattle.std.specs.Prelude.{◌≡◌, ℕ, suc, ◌+◌, Bool, false, ◌||◌, if◌then◌else◌, Option, Some, None, List}
use Rattle.std.specs.Prelude.{[], ◌∷◌, map}
use Rattle.std.specs.declared.cmp.Ordering.{Ordering}
use Rattle.std.specs.declared.cmp.Ordering.TheVariants.{Less, Equal}
use Rattle.std.specs.Option.{option_map}
use Rattle.std.specs.FinMap.Entries.{by_order}
use Rattle.std.specs.Cmp.{IsTotalOrder}
use Rattle.acap_entries.specs.Orders.{octets_cmp, octets_eq}
use Rattle.acap_entries.specs.declared.row.Row.{Row}

-- a name as it is sent
abbrev pub Name : Type 0
Name = List ℕ

-- how hits compare, by which name one is sent, and its row
pub record Shape (H : Type 0) : Type 0 where
  pub order : H → H → Ordering
  pub name : H → Name
  pub row : H → Row

-- a total order in which hits that tie have one name, and each row has its hit's name
pub record IsLawful {H : Type 0} (v : Shape H) : Type 0 where
  pub order_total : IsTotalOrder v.order
  pub order_name : (a b : H) → v.order a b ≡ Equal → v.name a ≡ v.name b
  pub row_name : (h : H) → (v.row h).name ≡ v.name h

unfoldable pub is_among : Name → List Name → Bool
is_among name [] = false
is_among name (other ∷ names) = octets_eq name other || is_among name names

-- no name comes twice
unfoldable pub IsDistinct : List Name → Type 0
IsDistinct [] = Unit {0}
IsDistinct (name ∷ names) = (is_among name names ≡ false) × IsDistinct names

abbrev pub IsBelow : Name → List Name → Type 0
IsBelow name [] = Unit {0}
IsBelow name (other ∷ names) = (octets_cmp name other ≡ Less) × IsBelow name names

-- the names strictly rise
abbrev pub IsAscending : List Name → Type 0
IsAscending [] = Unit {0}
IsAscending (name ∷ names) = IsBelow name names × IsAscending names

-- no other name has a hit
pub record Supports {H : Type 0} (hit : Name → Option H) (names : List Name) : Type 0 where
  pub none_elsewhere : (name : Name) → is_among name names ≡ false → hit name ≡ None

module _ {H : Type 0} (v : Shape H) where
  -- the list with a hit at its place
  unfoldable pub put : H → List H → List H
  put h [] = h ∷ []
  put h (e ∷ es) = by_order (v.order h e) (h ∷ e ∷ es) (h ∷ e ∷ es) (e ∷ put h es)

  unfoldable pub put_some : Option H → List H → List H
  put_some None hits = hits
  put_some (Some h) hits = put h hits

  -- the hits of some names, in order
  unfoldable pub fresh : (Name → Option H) → List Name → List H
  fresh hit [] = []
  fresh hit (name ∷ names) = put_some (hit name) (fresh hit names)

  -- what is sent of them
  unfoldable pub rows : List H → List Row
  rows hits = map v.row hits

  -- how many stand before a hit's place
  unfoldable pub rank : H → List H → ℕ
  rank h [] = 0
  rank h (e ∷ es) = by_order (v.order h e) 0 0 (suc (rank h es))

  -- how many stand before a name's hit, and that hit
  unfoldable pub found : Name → List H → Option (ℕ × H)
  found name [] = None
  found name (h ∷ hs) = if octets_eq name (v.name h) then Some (0, h)
      else option_map (λ s. (suc s.0, s.1)) (found name hs)

  -- where a name stands, from 1, and its hit
  unfoldable pub spot : Name → List H → Option (ℕ × H)
  spot name hits = option_map (λ s. (s.0 + 1, s.1)) (found name hits)

  -- each hit has the name that it is the hit of
  pub record IsOfNames (hit : Name → Option H) : Type 0 where
    pub of_name : (name : Name) (h : H) → hit name ≡ Some h → v.name h ≡ name
