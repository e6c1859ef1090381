-- In which datasets a change touches something, asked dataset by dataset: words of contracts [RFC 2244
-- sections 5.1 and 5.2].
use Rattle.std.specs.Prelude.{◌≡◌, ℕ, Bool, true, false, ◌&&◌, ◌||◌, List, [], ◌∷◌, filter, refl}
use Rattle.std.specs.Borrow.{Bor}
use Rattle.std.specs.Coded.{Coded, code_by, coded×}
use Rattle.std.specs.List.{list_any}
use Rattle.acap_entries.specs.Leaving.{ForStoreAfter}
use Rattle.acap_entries.specs.Orders.{octets_eq}
use Rattle.acap_entries.specs.Store.{Store, Stored, Written, Roomy, store_code}
use Rattle.acap_entries.specs.contracts.change.Change as change
use Rattle.acap_entries.specs.declared.change.Change.{Change}
use Rattle.acap_entries.specs.declared.change.RecordEdit.{RecordEdit}
use Rattle.acap_entries.specs.declared.path.Path.{Path}
use Rattle.acap_inherit.specs.Chains.{chain_of}
use Rattle.acap_inherit.specs.Index.{IsIndexOf, heirs_in}
use Rattle.acap_inherit.specs.Touched.{touched_paths, datasets_touched}
use Rattle.acap_inherit.specs.Touching.{changes, datasets_written}
use Rattle.acap_inherit.specs.declared.link.Link.{Link}

-- a change, and the store before it
pub record Reaching : Type 0 where
  pub change : Change
  pub old : Store

-- whether something is touched in a dataset
abbrev pub is_touched_in : Written → Stored → Stored → List ℕ → Bool
is_touched_in written old new dataset = list_any (octets_eq dataset) (datasets_touched written old new)

-- what is said of a dataset: whether the change touches something in it
abbrev pub SaysWhether : Reaching → List ℕ → Bool → Type 0
SaysWhether reach dataset answer =
    ForStoreAfter reach.change reach.old
    (λ new. answer ≡ is_touched_in reach.change.writes reach.old.records new.records dataset)

-- outside of a dataset the change touches nothing
abbrev pub TouchesNoOther : Reaching → List ℕ → Type 0
TouchesNoOther reach only =
    (dataset : List ℕ) → octets_eq only dataset ≡ false → SaysWhether reach dataset false

-- the touched paths that lie in some datasets
abbrev pub lies_in : List (List ℕ) → Path → Bool
lies_in datasets path = list_any (octets_eq path.dataset) datasets

abbrev pub touched_among : Written → Stored → Stored → List (List ℕ) → List Path
touched_among written old new datasets = filter (lies_in datasets) (touched_paths written old new)

abbrev pub AreTouchedAmong : Reaching → List (List ℕ) → List Path → Type 0
AreTouchedAmong reach datasets paths =
    ForStoreAfter reach.change reach.old
    (λ new. paths ≡ touched_among reach.change.writes reach.old.records new.records datasets)

-- all that is touched lies in some datasets
abbrev pub LieAllIn : Written → Stored → Stored → List (List ℕ) → Type 0
LieAllIn written old new datasets = touched_among written old new datasets ≡ touched_paths written old new

-- among these datasets are all in which the change touches something
abbrev pub AreAllReached : Reaching → List (List ℕ) → Type 0
AreAllReached reach datasets =
    ForStoreAfter reach.change reach.old
    (λ new. LieAllIn reach.change.writes reach.old.records new.records datasets)

-- ---- words of private contracts

-- whether any dataset inherits from a base
abbrev pub is_any : List (List ℕ) → Bool
is_any [] = false
is_any (dataset ∷ datasets) = true

abbrev pub is_inherited : List Link → List ℕ → Bool
is_inherited links base = is_any (heirs_in links base)

-- whether a dataset is among some that are given by their octets
abbrev pub is_known : List (Bor (List ℕ)) → List ℕ → Bool
is_known known dataset = list_any (λ d. octets_eq d.now dataset) known

-- whether a change puts or removes a record in a dataset
abbrev pub is_written_in : Written → Stored → List ℕ → Bool
is_written_in written old dataset = list_any (λ d. octets_eq d dataset) (datasets_written written old)

-- just these are the datasets in which it does
abbrev pub AreWritten : Written → Stored → List (Bor (List ℕ)) → Type 0
AreWritten written old known = (dataset : List ℕ) → is_known known dataset ≡ is_written_in written old dataset

-- whether a write does so, and what is known of written datasets once it is looked at
abbrev pub writes_in : Stored → Path × RecordEdit → List ℕ → Bool
writes_in old w dataset = octets_eq w.0.dataset dataset && changes old w

abbrev pub Notes : Path × RecordEdit → Stored → List (Bor (List ℕ)) → List (Bor (List ℕ)) → Type 0
Notes w old known after =
    (dataset : List ℕ) → is_known after dataset ≡ (is_known known dataset || writes_in old w dataset)

-- whether it does in one of some datasets, and in one of the chain that a dataset has before it
abbrev pub is_written_along : Reaching → List (List ℕ) → Bool
is_written_along reach members = list_any (is_written_in reach.change.writes reach.old.records) members

abbrev pub is_reached : Reaching → List ℕ → Bool
is_reached reach dataset = is_written_along reach (chain_of reach.old.records dataset false)

-- whether any dataset inherits from one of these
abbrev pub is_any_inherited : List Link → List (Bor (List ℕ)) → Bool
is_any_inherited links known = list_any (λ d. is_inherited links d.now) known

-- what is kept of a change is so
pub record IsReach (change : Bor Change) (tree : Bor Roomy) (links : Bor (List Link × ℕ))
    (known : List (Bor (List ℕ))) (inherited : Bool) : Type 0 where
  pub index : IsIndexOf tree.now.store.records links.now.0
  pub written : AreWritten change.now.writes tree.now.store.records known
  pub heirs : inherited ≡ is_any_inherited links.now.0 known

-- how they are told apart in proofs
abbrev pub reaching_code : Coded Reaching
reaching_code =
    code_by (Change × Store) (coded× change.the_row.coded store_code) (λ r. (r.change, r.old))
    (λ p. record { change = p.0; old = p.1 }) (λ _. refl)
