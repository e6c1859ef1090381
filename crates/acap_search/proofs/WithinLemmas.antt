-- What is found among the paths of a context is what is made of those in sight.
use Rattle.std.proofs.Common.{◌≡◌, ℕ, true, false, not, cond, Option, Some, None, List, length, refl, sym, ap, is_some}
use Rattle.std.specs.List.{Contains}
use Rattle.acap_commands.specs.declared.search_modifiers.SortItem.{SortItem}
use Rattle.acap_entries.specs.Store.{Stored}
use Rattle.acap_entries.specs.declared.path.Path.{Path}
use Rattle.acap_inherit.specs.Laws.{NothingLaw, NamesLaw}
use Rattle.acap_rights.specs.declared.realm.Realm.{Realm}
use Rattle.acap_search.specs.Fresh.{is_among, is_over, answers_on}
use Rattle.acap_search.specs.Matches.{Match, match_lt, ordered_by, sorted_by}
use Rattle.acap_search.specs.Rows.{stars_of}
use Rattle.acap_search.specs.Scopes.{scope_of, datasets_of}
use Rattle.acap_search.specs.Sight.{is_seen}
use Rattle.acap_search.specs.Tuples.{tuple_for}
use Rattle.acap_search.specs.Views.{found_at, spot_in}
use Rattle.acap_search.specs.Walks.{Walk, view_in, sight_by}
use Rattle.acap_search.specs.Within.{Context, tuple_at, has_old, lacks_positions, matches_within, refusal_within}
use Rattle.acap_search.specs.declared.query.Query.{Query}
use Rattle.acap_search.specs.declared.refusal.SearchRefusal.TheVariants as refusal
use Rattle.acap_search.proofs.SeenLemmas.{only_seen, seen_law}
use Rattle.acap_search.proofs.TupleLemmas.{among, from_among}

module _ (nothing : NothingLaw) (names : NamesLaw) (quest : Walk) (place : Option ℕ) (path : Path) where
  abbrev made : Option Match
  made =
      tuple_for quest.sought place path ((sight_by quest).answers path)
      (stars_of ((sight_by quest).answers path).read ((sight_by quest).attributes path))

  not_among : is_among (sight_by quest).paths path ≡ false → tuple_at (sight_by quest) quest.sought place path ≡ None
  not_among e = ap (λ b. cond b made None) e

  pub not_looked_in : (Contains (datasets_of quest.records (scope_of quest.sought)) path.dataset → ⊥) → None ≡ tuple_at (sight_by quest) quest.sought place path
  not_looked_in h =
      elim (is_among (sight_by quest).paths path) as (λ b. is_among (sight_by quest).paths path ≡ b → None ≡ tuple_at (sight_by quest) quest.sought place path) [
        | true ↦ λ e. absurd (h (only_seen nothing names quest.records quest.realm quest.user (scope_of quest.sought) path (from_among (sight_by quest).paths path e)).0)
        | false ↦ λ e. sym (not_among e)
      ] refl

  pub looked_in : Contains (datasets_of quest.records (scope_of quest.sought)) path.dataset
      → found_at quest.sought place (spot_in (view_in quest path.dataset) path.name) ≡ tuple_at (sight_by quest) quest.sought place path
  looked_in h =
      elim (is_seen (answers_on quest.records quest.realm quest.user quest.sought.no_inherit path)) as
      (λ b. is_seen (answers_on quest.records quest.realm quest.user quest.sought.no_inherit path) ≡ b → cond b made None ≡ tuple_at (sight_by quest) quest.sought place path) [
        | true ↦ λ e. sym (ap (λ b. cond b made None) (among (sight_by quest).paths path ((seen_law nothing names).all quest.records quest.realm quest.user (scope_of quest.sought) path h e)))
        | false ↦ λ e. elim (is_among (sight_by quest).paths path) as (λ b. is_among (sight_by quest).paths path ≡ b → None ≡ tuple_at (sight_by quest) quest.sought place path) [
          | true ↦ λ f. absurd (cc (e, (only_seen nothing names quest.records quest.realm quest.user (scope_of quest.sought) path (from_among (sight_by quest).paths path f)).1))
          | false ↦ λ f. sym (not_among f)
        ] refl
      ] refl

-- a search that is let in is refused for too many matches alone
pub refused_within : (records : Stored) (realm : Realm) (user : List ℕ) (query : Query) (context : Context) → lacks_positions context query ≡ false → has_old context.told query.sought.key ≡ false
    → refusal_within records realm user query context ≡ cond (is_over query.hard_limit (length (matches_within records realm user query.sought context.paths))) (Some refusal.WayTooMany) None
refused_within records realm user query context r e =
    λ i. cond (r i) (Some refusal.RangeHere) (cond (e i) (Some refusal.TooOld)
    (cond (is_over query.hard_limit (length (matches_within records realm user query.sought context.paths))) (Some refusal.WayTooMany) None))

-- without SORT matches stay as they come, and with it they are sorted
pub unsorted : (sort : Option (List SortItem)) (matches : List Match) → not (is_some sort) ≡ true → matches ≡ ordered_by sort matches
unsorted None matches e = refl
unsorted (Some items) matches e = absurd (cc e)

pub put_sorted : (sort : Option (List SortItem)) (matches : List Match) → not (is_some sort) ≡ false → sorted_by match_lt matches ≡ ordered_by sort matches
put_sorted None matches e = absurd (cc e)
put_sorted (Some items) matches e = refl
