-- The examples of touched paths, by computation.
use Rattle.std.proofs.Common.{◌≡◌, ◌++◌, [], ◌∷◌, List, Bool, Option, refl, ◌∙◌}
use Rattle.std.specs.Prelude.{codes, filter}
use Rattle.acap_entries.specs.Names.{dataset_of, name_of}
use Rattle.acap_ordmap.specs.Ranks.{with_item}
use Rattle.acap_entries.specs.declared.record.Cell.TheVariants.{Multi}
use Rattle.acap_entries.specs.declared.path.Path.{Path}
use Rattle.acap_inherit.specs.Touched.{paths_across, in_order}
use Rattle.acap_inherit.specs.TouchedExamples.{Attributes, Touches, TouchesOne, at, dataset, inherits, entry, new_row, no_row, lists, a, b, c, x, y, three, nine, TouchedExamples}
use Rattle.acap_inherit.proofs.Sampling.{is_touched_in, known_in, one_computed, all_computed}

all_touched : (rows : List (Path × Attributes)) (writes : List (Path × Option Attributes)) {paths : List Path} → in_order (filter (is_touched_in rows writes) (paths_across (known_in rows writes) (known_in rows writes))) ≡ paths → Touches rows writes paths
all_touched rows writes e = λ new h. all_computed rows writes new h ∙ e

one_touched : (rows : List (Path × Attributes)) (writes : List (Path × Option Attributes)) (path : Path) {is : Bool} → is_touched_in rows writes path ≡ is → TouchesOne rows writes path is
one_touched rows writes path e = λ new h. one_computed rows writes new h path ∙ e

pub touched_examples : TouchedExamples
unfolding dataset_of name_of with_item
touched_examples = record {
  own = all_touched three (new_row (entry a x) ∷ []) refl;
  heirs = all_touched (three ++ inherits b a ∷ inherits c b ∷ []) (new_row (entry a x) ∷ []) refl;
  ring = all_touched (three ++ inherits a b ∷ inherits b a ∷ []) (new_row (entry a x) ∷ []) refl;
  ninth = one_touched nine (new_row (entry (codes "/i/") x) ∷ []) (at a x) refl;
  eighth = one_touched nine (new_row (entry (codes "/i/") x) ∷ []) (at b x) refl;
  listed = all_touched (three ++ inherits b a ∷ entry a x ∷ entry b y ∷ entry c x ∷ []) (new_row (lists a) ∷ []) refl;
  rebased = all_touched (three ++ inherits c a ∷ entry a x ∷ entry b y ∷ entry c (codes "z") ∷ []) (new_row (inherits c b) ∷ []) refl;
  made = all_touched (dataset (codes "a") ∷ []) (new_row (dataset (codes "b")) ∷ new_row (entry b x) ∷ []) refl;
  not_made = all_touched (dataset (codes "a") ∷ []) (new_row (entry b x) ∷ []) refl;
  uncovered = all_touched (three ++ inherits b a ∷ entry a x ∷ entry b x ∷ []) (no_row b x ∷ []) refl;
  not_there = all_touched (three ++ inherits b a ∷ entry a x ∷ []) (no_row b x ∷ no_row a y ∷ []) refl;
  not_managed = all_touched (three ++ entry a x ∷ []) (no_row a [] ∷ []) refl;
  parted = all_touched (three ++ inherits b a ∷ entry a x ∷ entry b y ∷ []) (no_row b [] ∷ []) refl;
  managed = all_touched (three ++ entry a x ∷ entry b y ∷ []) (new_row (lists a) ∷ []) refl;
  ordered = all_touched (three ++ (at (codes "/a/") (codes "b"), (codes "subdataset", Multi (codes "." ∷ [])) ∷ []) ∷ []) (new_row (entry (codes "/a/b/") x) ∷ new_row (entry a (codes "b!")) ∷ []) refl;
}
