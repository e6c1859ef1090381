-- Entries in order that lie in leaves, one leaf after the other: where a key belongs.
use Rattle.std.specs.Prelude.{◌≡◌, ℕ, ◌+◌, ◌-◌, ◌*◌, min, max, ◌<◌, ◌≤◌, Bool, true, false, IsTrue}
use Rattle.std.specs.Prelude.{Vec, vec_len, vec_capacity}
use Rattle.std.specs.Prelude.{List, [], ◌∷◌, ◌++◌, length, take, drop, flat_map, slice_index_or, slice_set}
use Rattle.std.specs.List.{list_all, insert}
use Rattle.std.specs.declared.cmp.Ordering.{Ordering}
use Rattle.std.specs.declared.cmp.Ordering.TheVariants.{Greater}
use Rattle.acap_ordmap.specs.Sorted.{place, is_tied}

-- how many entries a leaf has room for
abbrev pub leaf_capacity : ℕ
leaf_capacity = 64

-- all that the leaves hold, in order
abbrev pub contents : {A : Type 0} → List (List A) → List A
contents leaves = flat_map (λ leaf. leaf) leaves

-- how many entries lie in the leaves, and before one of them
abbrev pub entry_count : {A : Type 0} → List (List A) → ℕ
entry_count leaves = length (contents leaves)

abbrev pub before : {A : Type 0} → List (List A) → ℕ → ℕ
before leaves i = entry_count (take i leaves)

-- the leaves with all but the first `kept` entries of one in a leaf right after it
abbrev pub split_at : {A : Type 0} → ℕ → ℕ → List (List A) → List (List A)
split_at at kept leaves =
    let leaf = slice_index_or leaves at [] in
    insert (slice_set leaves at (take kept leaf)) (at + 1) (drop kept leaf)

-- each leaf has an entry
abbrev pub is_filled : {A : Type 0} → List A → Bool
is_filled [] = false
is_filled (x ∷ xs) = true

pub record AreFilled {A : Type 0} (leaves : List (List A)) : Type 0 where
  pub each : IsTrue (list_all is_filled leaves)

-- at least `count` entries stand in `front` and after it in filled leaves
abbrev pub AreToCome : {A : Type 0} → ℕ → List A → List (List A) → Type 0
AreToCome count front leaves = AreFilled leaves × (count ≤ length (front ++ contents leaves))

-- what stands before the one key stands before the other
abbrev pub Rises : {K : Type 0} → (K → K → Ordering) → K → K → Type 0
Rises {K} R low high = (k : K) → R low k ≡ Greater → R high k ≡ Greater

module _ {K X : Type 0} (R : K → K → Ordering) where
  -- how many of the entries stand before the place of the key
  abbrev pub place_in : K → List (List (K × X)) → ℕ
  place_in k leaves = place R k (contents leaves)

  -- the entries from the place of one key on and before that of another
  abbrev pub between : K → K → List (List (K × X)) → List (K × X)
  between low high leaves =
      take (place_in high leaves - place_in low leaves) (drop (place_in low leaves) (contents leaves))

  -- the key's place is in the leaves from one on and before another, or right after the last of their entries
  -- where the key is nowhere
  pub record IsAmong (k : K) (leaves : List (List (K × X))) (low high : ℕ) : Type 0 where
    pub rise : low < high
    pub within : high ≤ length leaves
    pub from : before leaves low ≤ place R k (contents leaves)
    pub until : place R k (contents leaves) ≤ before leaves high
    pub tied : is_tied R k (contents leaves) ≡ true → place R k (contents leaves) < before leaves high

  -- the key stands after all entries
  pub record IsBehind (k : K) (entries : List (K × X)) : Type 0 where
    pub place : place R k entries ≡ length entries
    pub absent : is_tied R k entries ≡ false

-- the last leaf, if there is one
abbrev pub last_leaf : {A : Type 0} → List (List A) → List A
last_leaf leaves = slice_index_or leaves (length leaves - 1) []

-- the last leaf is full, or there is none
abbrev pub EndsFull : {A : Type 0} → List (List A) → Type 0
EndsFull leaves = 0 < length leaves → leaf_capacity ≤ length (last_leaf leaves)

-- What the leaves weigh: 16 for each, one for each of up to 16 entries beyond 48, and in the last one also
-- one for each of up to 16 beyond 16. Where there is none it is 16. No put adds more than one to it: before a
-- leaf is split, or one is made after the last, 16 puts have added one each.
abbrev pub beyond : ℕ → ℕ → ℕ
beyond some count = min (count - some) 16

abbrev pub weight_after : {A : Type 0} → ℕ → List (List A) → ℕ
weight_after last [] = last
weight_after last (leaf ∷ leaves) =
    16 + beyond 48 (length leaf) + weight_after (beyond 16 (length leaf)) leaves

abbrev pub weight : {A : Type 0} → List (List A) → ℕ
weight leaves = weight_after 16 leaves

-- how many leaves there may be without memory: each that goes is kept, where there is a place to keep it in
abbrev pub most_leaves : {X Y Z W : Type 0} → Vec X Z → Vec Y W → ℕ
most_leaves leaves spare =
    min (vec_len leaves + vec_len spare) (min (vec_capacity spare) (vec_capacity leaves))

-- How many entries more there is room for: each needs a spare leaf and a place for it at most, and 16 for
-- each leaf that there may be suffice for what they weigh. Each has to be counted.
abbrev pub room_of : ℕ → ℕ → ℕ → ℕ → ℕ → ℕ
room_of spare places most weight count =
    min (max (min spare places) (16 * most - weight)) (18_446_744_073_709_551_615 - count)
