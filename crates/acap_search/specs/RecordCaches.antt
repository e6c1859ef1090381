-- What is at hand of an entry whose dataset inherits nothing: words of private contracts.
use Rattle.std.specs.Prelude.{◌≡◌, ℕ, Bool, List, [], ◌∷◌, codes, Option, Some, if◌then◌else◌}
use Rattle.std.specs.Borrow.{Bor}
use Rattle.std.specs.Option.{unwrap_or, ForSome}
use Rattle.acap_entries.specs.Orders.{octets_eq}
use Rattle.acap_entries.specs.Stamp.{stamp_of}
use Rattle.acap_entries.specs.Store.{Stored}
use Rattle.acap_entries.specs.declared.record.Cell.{Cell}
use Rattle.acap_entries.specs.declared.record.Cell.TheVariants.{Nil, Single}
use Rattle.acap_entries.specs.declared.path.Path.{Path}
use Rattle.acap_entries.specs.declared.record.Record.{Record}
use Rattle.acap_inherit.specs.Records.{record_at, cell_in}
use Rattle.acap_rights.specs.Sharing.{AreShared}
use Rattle.acap_rights.specs.declared.sharing.SharedRights.{SharedRights}
use Rattle.acap_search.specs.Views.{View, Spotted}
use Rattle.acap_search.specs.declared.cached.ChainRights.{ChainRights}
use Rattle.acap_search.specs.declared.cached.OwnRecord.{OwnRecord}

-- what a record has for an attribute, where nothing is inherited
abbrev pub own_value : Record → List ℕ → List ℕ → Cell
own_value entry name attribute =
    if octets_eq attribute (codes "entry") then (if entry.present then Single name else Nil)
    else (if octets_eq attribute (codes "modtime") then Single (stamp_of entry.modtime)
    else unwrap_or (cell_in entry attribute) Nil)

-- a dataset inherits nothing, and those are the user's rights on its attributes
abbrev pub IsPlain : View → SharedRights → Type 0
IsPlain view shared = (view.chain ≡ view.dataset ∷ [])
    × AreShared view.records view.realm view.user view.dataset shared

-- those rights, where they are at hand
abbrev pub AreSharedBy : View → Option (Bor SharedRights) → Type 0
AreSharedBy view shared = ForSome shared (λ rights. IsPlain view rights.now)

-- what is at hand of an entry is its record, and the rights in its dataset, which is such a one
abbrev pub IsNear : Spotted → Option OwnRecord → Type 0
IsNear spot kept =
    ForSome kept (λ kept. IsPlain spot.by kept.shared.now
    × (record_at spot.by.records spot.by.dataset spot.name ≡ Some kept.entry.now))

-- the rights at hand are those in the searched dataset, and in its base
abbrev pub AreAlong : View → Option ChainRights → Type 0
AreAlong view along = ForSome along (λ along.
    AreShared view.records view.realm view.user view.dataset along.own.now
    × AreShared view.records view.realm view.user along.base.now along.inherited.now)

-- such rights are the user's on the attributes of a dataset
abbrev pub SharesIn : Spotted → List ℕ → SharedRights → Type 0
SharesIn spot dataset shared = AreShared spot.by.records spot.by.realm spot.by.user dataset shared

-- what is at hand where an entry is looked at
pub record IsAtHandOf (spot : Spotted) (kept : Option OwnRecord) (along : Option ChainRights) : Type 0 where
  pub near : IsNear spot kept
  pub rights : AreAlong spot.by along

-- whether a record lies in a dataset
abbrev pub lies_in : List ℕ → Path × Record → Bool
lies_in dataset e = octets_eq dataset e.0.dataset

-- the records of a dataset, each with its path
abbrev pub AreKept : Stored → List ℕ → List (Path × Record) → Type 0
AreKept records dataset [] = Unit {0}
AreKept records dataset (e ∷ es) =
    ((e.0.dataset ≡ dataset) × (record_at records dataset e.0.name ≡ Some e.1)) × AreKept records dataset es
