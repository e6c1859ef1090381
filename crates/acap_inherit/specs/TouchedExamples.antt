-- Touched paths, computed from the definition alone [RFC 2244 sections 5.1 and 5.2].
use Rattle.std.specs.Prelude.{◌≡◌, ℕ, pos, Bool, true, false, List, [], ◌∷◌, ◌++◌, map as each, Option, Some}
use Rattle.std.specs.Prelude.{None, codes}
use Rattle.std.specs.FinMap as map
use Rattle.acap_entries.specs.Names.{slash}
use Rattle.acap_entries.specs.Orders.{octets_cmp}
use Rattle.acap_entries.specs.Store.{Stored, Written, IsPathByPath}
use Rattle.acap_entries.specs.declared.record.Cell.{Cell}
use Rattle.acap_entries.specs.declared.record.Cell.TheVariants.{Single, Multi}
use Rattle.acap_entries.specs.declared.change.RecordEdit.{RecordEdit}
use Rattle.acap_entries.specs.declared.change.RecordEdit.TheVariants.{Put, Remove}
use Rattle.acap_entries.specs.declared.path.Path.{Path}
use Rattle.acap_entries.specs.declared.record.Record.{Record}
use Rattle.acap_inherit.specs.Touched.{is_touched, touched_paths}

-- a record that is present, by its attributes
abbrev pub Attributes : Type 0
Attributes = List (List ℕ × Cell)

abbrev pub present : Attributes → Record
present attributes = record {
  present = true;
  blocks_inheritance = false;
  cells = map.from_entries {R = octets_cmp} attributes;
  acls = map.empty;
  modtime = pos 0;
}

-- the records of a store, and what is written: a record, or the removal of one
abbrev pub store_of : List (Path × Attributes) → Stored
store_of rows = map.from_entries (each (λ row. (row.0, present row.1)) rows)

abbrev pub edit_of : Option Attributes → RecordEdit
edit_of None = Remove
edit_of (Some attributes) = Put (present attributes)

abbrev pub writes_of : List (Path × Option Attributes) → Written
writes_of rows = map.from_entries (each (λ row. (row.0, edit_of row.1)) rows)

-- what those writes touch in that store, whatever is left is a store after them
abbrev pub Touches : List (Path × Attributes) → List (Path × Option Attributes) → List Path → Type 0
Touches rows writes paths = (new : Stored) → IsPathByPath (writes_of writes) (store_of rows) new
    → touched_paths (writes_of writes) (store_of rows) new ≡ paths

-- the same of one path
abbrev pub TouchesOne : List (Path × Attributes) → List (Path × Option Attributes) → Path → Bool → Type 0
TouchesOne rows writes path is =
    (new : Stored) → IsPathByPath (writes_of writes) (store_of rows) new
    → is_touched (writes_of writes) (store_of rows) new path ≡ is

abbrev pub at : List ℕ → List ℕ → Path
at dataset name = record { dataset = dataset; name = name }

-- a dataset's own entry, its management entry with a base, and an entry that shows nothing else
abbrev pub dataset : List ℕ → Path × Attributes
dataset name = (at (codes "/") name, (codes "subdataset", Multi (codes "." ∷ [])) ∷ [])

abbrev pub inherits : List ℕ → List ℕ → Path × Attributes
inherits heir base = (at heir [], (codes "dataset.inherit", Single base) ∷ [])

abbrev pub entry : List ℕ → List ℕ → Path × Attributes
entry dataset name = (at dataset name, [])

-- a record, and the removal of one
abbrev pub new_row : Path × Attributes → Path × Option Attributes
new_row row = (row.0, Some row.1)

abbrev pub no_row : List ℕ → List ℕ → Path × Option Attributes
no_row dataset name = (at dataset name, None)

-- a list for the rights in a dataset
abbrev pub lists : List ℕ → Path × Attributes
lists dataset = (at dataset [], (codes "dataset.acl", Multi []) ∷ [])

abbrev pub a : List ℕ
a = codes "/a/"

abbrev pub b : List ℕ
b = codes "/b/"

abbrev pub c : List ℕ
c = codes "/c/"

abbrev pub x : List ℕ
x = codes "x"

abbrev pub y : List ℕ
y = codes "y"

-- three datasets
abbrev pub three : List (Path × Attributes)
three = dataset (codes "a") ∷ dataset (codes "b") ∷ dataset (codes "c") ∷ []

-- the datasets of nine names of one letter, each of the first eight with the next as its base
abbrev pub nine : List (Path × Attributes)
nine =
    each (λ letter. dataset (letter ∷ [])) (codes "abcdefghi")
    ++ each (λ (pair : ℕ × ℕ). inherits (slash ∷ pair.0 ∷ slash ∷ []) (slash ∷ pair.1 ∷ slash ∷ []))
    ((97, 98) ∷ (98, 99) ∷ (99, 100) ∷ (100, 101) ∷ (101, 102) ∷ (102, 103) ∷ (103, 104) ∷ (104, 105) ∷ [])

pub record TouchedExamples : Type 0 where
  -- a record of a dataset that no one inherits, in the dataset that it is in alone
  pub own : Touches three (new_row (entry a x) ∷ []) (at a x ∷ [])
  -- a record of a base is seen by its heir, and by the heir's heir
  pub heirs : Touches (three ++ inherits b a ∷ inherits c b ∷ []) (new_row (entry a x) ∷ [])
      (at a x ∷ at b x ∷ at c x ∷ [])
  -- each other's base
  pub ring : Touches (three ++ inherits a b ∷ inherits b a ∷ []) (new_row (entry a x) ∷ [])
      (at a x ∷ at b x ∷ [])
  -- of nine in a row the last is too far from the first, and not from the second
  pub ninth : TouchesOne nine (new_row (entry (codes "/i/") x) ∷ []) (at a x) false
  pub eighth : TouchesOne nine (new_row (entry (codes "/i/") x) ∷ []) (at b x) true
  -- a list of a base, or anything else of its management entry, is looked at for each entry that is seen
  -- through it; an entry that has no record there is none of these
  pub listed : Touches (three ++ inherits b a ∷ entry a x ∷ entry b y ∷ entry c x ∷ [])
      (new_row (lists a) ∷ [])
      (at a [] ∷ at a x ∷ at b [] ∷ at b x ∷ at b y ∷ [])
  -- another base: what was seen, what is seen, and what the dataset has itself
  pub rebased : Touches (three ++ inherits c a ∷ entry a x ∷ entry b y ∷ entry c (codes "z") ∷ [])
      (new_row (inherits c b) ∷ [])
      (at c [] ∷ at c x ∷ at c y ∷ at c (codes "z") ∷ [])
  -- a dataset that comes to be with its first entry; one that doesn't is not reported
  pub made : Touches (dataset (codes "a") ∷ []) (new_row (dataset (codes "b")) ∷ new_row (entry b x) ∷ [])
      (at (codes "/") (codes "b") ∷ at b x ∷ [])
  pub not_made : Touches (dataset (codes "a") ∷ []) (new_row (entry b x) ∷ []) []
  -- the removal of a record over a base's
  pub uncovered : Touches (three ++ inherits b a ∷ entry a x ∷ entry b x ∷ []) (no_row b x ∷ []) (at b x ∷ [])
  -- the removal of a record that isn't there touches nothing, also where a base has one
  pub not_there : Touches (three ++ inherits b a ∷ entry a x ∷ []) (no_row b x ∷ no_row a y ∷ []) []
  -- of a management entry likewise, whatever is in its dataset; the
  -- removal of one that is there touches all that was seen through it
  pub not_managed : Touches (three ++ entry a x ∷ []) (no_row a [] ∷ []) []
  pub parted : Touches (three ++ inherits b a ∷ entry a x ∷ entry b y ∷ []) (no_row b [] ∷ [])
      (at b [] ∷ at b x ∷ at b y ∷ [])
  -- a management entry of a dataset that inherits nothing
  pub managed : Touches (three ++ entry a x ∷ entry b y ∷ []) (new_row (lists a) ∷ []) (at a [] ∷ at a x ∷ [])
  -- the order is that of full octets, in which `!` comes before `/`
  pub ordered : Touches
      (three ++ (at (codes "/a/") (codes "b"), (codes "subdataset", Multi (codes "." ∷ [])) ∷ []) ∷ [])
      (new_row (entry (codes "/a/b/") x) ∷ new_row (entry a (codes "b!")) ∷ [])
      (at a (codes "b!") ∷ at (codes "/a/b/") x ∷ [])
