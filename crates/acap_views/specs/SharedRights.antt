-- The rights that the entries of a context's dataset share: words of private contracts.
use Rattle.std.specs.Prelude.{◌≡◌, ℕ, List, Option, Some, None}
use Rattle.std.specs.Option.{ForSome}
use Rattle.acap_entries.specs.Store.{Stored}
use Rattle.acap_rights.specs.declared.realm.Realm.{Realm}
use Rattle.acap_search.specs.RecordCaches.{IsPlain, AreSharedBy}
use Rattle.acap_search.specs.Views.{View, view_of}
use Rattle.acap_search.specs.declared.query.SearchSpec.{SearchSpec}
use Rattle.acap_views.specs.PlannedChanges.{Planned, store_ahead}
use Rattle.acap_views.specs.ContextViews.{ContextView, view_before, view_after}
use Rattle.acap_views.specs.declared.shared_rights.LentRightsPair.{LentRightsPair}
use Rattle.acap_views.specs.declared.shared_rights.CachedRights.{CachedRights}

-- a context of a user, when a change is about to be committed
abbrev pub scene_by : Planned → List ℕ → SearchSpec → ContextView
scene_by plan user sought = record {
  old = plan.old.records;
  new = (store_ahead plan).records;
  realm = plan.realm;
  user = user;
  sought = sought;
}

-- what was made is of this user and of the dataset of this search
pub record AreOf (noted : CachedRights) (user : List ℕ) (sought : SearchSpec) : Type 0 where
  pub same_user : noted.user.now ≡ user
  pub same_dataset : noted.dataset.now ≡ sought.dataset
  pub same_chain : noted.no_inherit ≡ sought.no_inherit

-- who looks into its dataset
abbrev pub noted_view : Stored → Realm → CachedRights → View
noted_view records realm noted = view_of records realm noted.user.now noted.no_inherit noted.dataset.now

-- and it is so of the change
pub record AreShares (plan : Planned) (noted : CachedRights) : Type 0 where
  pub before : ForSome noted.shares.before (IsPlain (noted_view plan.old.records plan.realm noted))
  pub after : ForSome noted.shares.after (IsPlain (noted_view (store_ahead plan).records plan.realm noted))

abbrev pub AreSharesNoted : Planned → Option CachedRights → Type 0
AreSharesNoted plan None = Unit {0}
AreSharesNoted plan (Some noted) = AreShares plan noted

-- what is lent is so of a context
pub record AreLentFor (scene : ContextView) (lent : LentRightsPair) : Type 0 where
  pub before : AreSharedBy (view_before scene) lent.before
  pub after : AreSharedBy (view_after scene) lent.after
