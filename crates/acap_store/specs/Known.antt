-- The rights in datasets that are known: words of private contracts.
use Rattle.std.specs.Prelude.{◌≡◌, ℕ, List, [], ◌∷◌, slice_index_or, ⊤}
use Rattle.acap_store.specs.Asking.{Asking, AreSharedIn}
use Rattle.acap_store.specs.declared.known.Known.{Known}

-- each are the rights in their dataset
abbrev pub AreKnown : Asking → List Known → Type 0
AreKnown asking [] = ⊤
AreKnown asking (known ∷ others) = AreSharedIn asking known.dataset.now known.shared × AreKnown asking others

-- those at a place are of a dataset, or are the rights in it
abbrev pub AreOf : List Known → ℕ → List ℕ → Type 0
AreOf known at dataset = (k : Known) → k ≡ slice_index_or known at k → k.dataset.now ≡ dataset

abbrev pub AreKnownAt : Asking → List Known → ℕ → List ℕ → Type 0
AreKnownAt asking known at dataset =
    (k : Known) → k ≡ slice_index_or known at k → AreSharedIn asking dataset k.shared
