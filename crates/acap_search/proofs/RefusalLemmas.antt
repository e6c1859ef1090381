-- Why a search is refused.
use Rattle.std.proofs.Common.{◌≡◌, ℕ, true, false, not, cond, List, length, Some, None}
use Rattle.acap_entries.specs.Datasets.{dataset_exists}
use Rattle.acap_entries.specs.Store.{Stored}
use Rattle.acap_rights.specs.declared.realm.Realm.{Realm}
use Rattle.acap_search.specs.Fresh.{has_range, is_over, matches_of, refusal_of}
use Rattle.acap_search.specs.declared.query.Query.{Query}
use Rattle.acap_search.specs.declared.refusal.SearchRefusal.TheVariants as refusal

-- a search that is let in is refused for too many matches alone
pub refused : (records : Stored) (realm : Realm) (user : List ℕ) (query : Query) → has_range query.sought.key ≡ false → dataset_exists records query.sought.dataset ≡ true
    → refusal_of records realm user query ≡ cond (is_over query.hard_limit (length (matches_of records realm user query.sought))) (Some refusal.WayTooMany) None
refused records realm user query r e =
    λ i. cond (r i) (Some refusal.RangeHere) (cond (not (e i)) (Some refusal.NoExist)
    (cond (is_over query.hard_limit (length (matches_of records realm user query.sought))) (Some refusal.WayTooMany) None))
