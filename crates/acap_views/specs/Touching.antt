-- Which touched entries a search looks at, before the change is committed: words of private contracts.
use Rattle.std.specs.Prelude.{◌≡◌, ℕ, Bool, ◌&&◌, ◌||◌, List, Option, Some, None, is_some, map}
use Rattle.std.specs.Borrow.{Bor}
use Rattle.std.specs.List.{filter, list_any}
use Rattle.std.specs.Option.{ForSome}
use Rattle.acap_entries.specs.Orders.{octets_eq}
use Rattle.acap_entries.specs.declared.path.Path.{Path}
use Rattle.acap_inherit.specs.Leaving.{AreTouchedAt}
use Rattle.acap_inherit.specs.Reaching.{AreAllReached}
use Rattle.acap_inherit.specs.Touched.{touched_paths, datasets_touched}
use Rattle.acap_search.specs.Scopes.{scope_of, datasets_of}
use Rattle.acap_search.specs.declared.query.SearchSpec.{SearchSpec}
use Rattle.acap_views.specs.PlannedChanges.{Planned, store_ahead, reaching}
use Rattle.acap_views.specs.Contexts.{Context}
use Rattle.acap_views.specs.Keeping.{RoomyContext}
use Rattle.acap_views.specs.SharedRights.{AreOf, AreSharesNoted}
use Rattle.acap_views.specs.Work.{is_live, is_looked_at}
use Rattle.acap_views.specs.declared.touched_cache.TouchedCache.{TouchedCache}
use Rattle.acap_views.specs.declared.touched_cache.CachedPaths.{CachedPaths}

-- all paths that a change touches, and those that a search looks at
abbrev pub touched_by : Planned → List Path
touched_by plan = touched_paths plan.change.writes plan.old.records (store_ahead plan).records

abbrev pub looks_at : Planned → SearchSpec → Path → Bool
looks_at plan sought path = is_looked_at (store_ahead plan).records sought path

abbrev pub looked_at_by : Planned → SearchSpec → List Path
looked_at_by plan sought = filter (looks_at plan sought) (touched_by plan)

-- so are these where a search looks through one dataset alone
abbrev pub AreLookedAt : Planned → SearchSpec → List Path → Type 0
AreLookedAt plan sought paths = sought.depth ≡ None → paths ≡ looked_at_by plan sought

-- the datasets through which a search looks, and whether it looks through one
abbrev pub searched_by : Planned → SearchSpec → List (List ℕ)
searched_by plan sought = datasets_of (store_ahead plan).records (scope_of sought)

abbrev pub looks_into : Planned → SearchSpec → List ℕ → Bool
looks_into plan sought dataset = list_any (octets_eq dataset) (searched_by plan sought)

-- just these of some datasets
abbrev pub AreLookedInto : Planned → SearchSpec → List (List ℕ) → List (Bor (List ℕ)) → Type 0
AreLookedInto plan sought datasets looked = map (λ d. d.now) looked ≡ filter (looks_into plan sought) datasets

-- the datasets in which a change touches something, and whether it does in one
abbrev pub changed_by : Planned → List (List ℕ)
changed_by plan = datasets_touched plan.change.writes plan.old.records (store_ahead plan).records

abbrev pub is_touched_in : Planned → List ℕ → Bool
is_touched_in plan dataset = list_any (octets_eq dataset) (changed_by plan)

-- whether a search may look at a touched entry: where its dataset has one, and with DEPTH always
abbrev pub is_asked : Planned → SearchSpec → Bool
is_asked plan sought = is_some sought.depth || is_touched_in plan sought.dataset

-- whether a context may: a live one may where its search may
abbrev pub may_look : Planned → Context → Bool
may_look plan context = is_asked plan context.sought && is_live context.kept

-- whether one may where nothing is touched outside of a dataset: any with DEPTH, and one that looks into that
abbrev pub may_be_in : List ℕ → SearchSpec → Bool
may_be_in only sought = is_some sought.depth || octets_eq only sought.dataset

abbrev pub any_may_be_in : List ℕ → List (List ℕ × RoomyContext) → Bool
any_may_be_in only contexts = list_any (λ entry. may_be_in only entry.1.context.sought) contexts

abbrev pub any_may_look : Planned → List (List ℕ × RoomyContext) → Bool
any_may_look plan contexts = list_any (λ entry. may_look plan entry.1.context) contexts

-- what is kept of a dataset, if anything is, is so of the change
abbrev pub ArePathsNoted : Planned → Option CachedPaths → Type 0
ArePathsNoted plan None = Unit {0}
ArePathsNoted plan (Some noted) = AreTouchedAt plan.change plan.old noted.dataset.now noted.paths

-- and so are the datasets in which something may be touched
abbrev pub AreReached : Planned → List (List ℕ) → Type 0
AreReached plan datasets = AreAllReached (reaching plan) datasets

abbrev pub AreDatasetsNoted : Planned → Option (List (List ℕ) × ℕ) → Type 0
AreDatasetsNoted plan None = Unit {0}
AreDatasetsNoted plan (Some noted) = AreReached plan noted.0

pub record IsNoted (plan : Planned) (noted : TouchedCache) : Type 0 where
  pub last : ArePathsNoted plan noted.last
  pub datasets : AreDatasetsNoted plan noted.datasets
  pub shares : AreSharesNoted plan noted.shares

-- the rights that are kept, if any are, are of this user and of the dataset of this search
abbrev pub AreNotedFor : List ℕ → SearchSpec → TouchedCache → Type 0
AreNotedFor user sought noted = ForSome noted.shares (λ shares. AreOf shares user sought)
