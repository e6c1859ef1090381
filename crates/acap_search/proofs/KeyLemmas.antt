-- What a search finds is what is made of the entries at the paths of its matches.
use Rattle.std.proofs.Common.{◌≡◌, ℕ, Bool, true, false, cond, Some, None, List, sym, ◌∙◌, ap, subst}
use Rattle.std.specs.Borrow.{Bor}
use Rattle.std.specs.List.{Contains}
use Rattle.acap_entries.specs.Store.{Stored}
use Rattle.acap_inherit.specs.EntryNames.{names_on}
use Rattle.acap_rights.specs.declared.realm.Realm.{Realm}
use Rattle.acap_search.specs.Matches.{Match, match_lt, sorted_by}
use Rattle.acap_search.specs.Scopes.{scope_of, datasets_of}
use Rattle.acap_search.specs.Views.{found_at, match_at, spot_in}
use Rattle.acap_search.specs.Walks.{Walk, quest_of, sight_by, view_in, hits_in, hits_over, matches_among, matches_by, match_in}
use Rattle.acap_search.specs.Within.{numbered_paths, paths_shown, tuple_within}
use Rattle.acap_search.specs.declared.query.SearchSpec.{SearchSpec}
use Rattle.acap_search.proofs.FoundLemmas.{AreMade}
use Rattle.acap_search.proofs.OnceLemmas.{from_made}
use Rattle.acap_search.proofs.SeenLemmas.{from_all, from_order}
use Rattle.acap_search.proofs.WalkLemmas.{fresh_is}
use Rattle.acap_search.proofs.ListedLemmas.{from_ordered}

of_made : (seen wanted : Bool) (made m : Match) → cond seen (cond wanted (Some made) None) None ≡ Some m → made ≡ m
of_made true true made m e = cc (e)
of_made true false made m e = absurd (cc (e))
of_made false wanted made m e = absurd (cc (e))

module _ (records : Stored) (realm : Realm) (user : List ℕ) (sought : SearchSpec) where
  abbrev quest : Walk
  quest = quest_of records realm user sought

  made_in : (dataset : List ℕ) → AreMade quest (hits_in quest dataset)
  unfolding hits_in
  made_in dataset m k =
      let by = view_in quest dataset in
      let from = from_made (λ name. found_at sought None (spot_in by name)) (names_on by.records by.chain) m k in
      let same : match_at sought (spot_in by from.0) ≡ m = of_made _ _ _ m from.1.1 in
      ap (λ made. match_in quest made.path) (sym same) ∙ same

  pub made_by : AreMade quest (matches_by quest)
  made_by m k =
      let sorted : Contains (sorted_by match_lt (hits_over quest)) m = subst (λ ms. Contains ms m) (sym (fresh_is records realm user sought)) k in
      let from = from_all (hits_in quest) (datasets_of records (scope_of sought)) m (from_order match_lt (hits_over quest) m sorted) in
      made_in from.0 m from.1.1

module _ (records : Stored) (realm : Realm) (user : List ℕ) (sought : SearchSpec) (shown : List (Bor Match)) where
  abbrev asked : Walk
  asked = quest_of records realm user sought

  -- what a search over a context finds is made so too, wherever an entry stands in it
  pub made_within : AreMade asked (matches_among asked shown)
  made_within m k =
      let from = from_made (tuple_within (sight_by asked) sought) (numbered_paths (paths_shown shown)) m (from_ordered sought.sort _ m k) in
      let same : match_in asked from.0.1 ≡ m = of_made _ _ _ m from.1.1 in
      ap (λ made. match_in asked made.path) (sym same) ∙ same
