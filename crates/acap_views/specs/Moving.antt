-- A live context is brought up to date by touched paths alone [RFC 2244 sections 3.3 and 6.5].
use Rattle.std.specs.Prelude.{◌≡◌, ℕ, true, List, map as each}
use Rattle.acap_entries.specs.Datasets.{dataset_exists}
use Rattle.acap_entries.specs.FullPaths.{AreWellFormed}
use Rattle.acap_entries.specs.Store.{Store, Written, IsPathByPath}
use Rattle.acap_entries.specs.declared.path.Path.{Path}
use Rattle.acap_moves.specs.Moves.{Move, after_moves, moves_notices}
use Rattle.acap_rights.specs.declared.realm.Realm.{Realm}
use Rattle.acap_search.specs.Fresh.{Sight, tuple_of, matches_of}
use Rattle.acap_search.specs.Matches.{Match}
use Rattle.acap_search.specs.Tuples.{name_told}
use Rattle.acap_search.specs.declared.query.SearchSpec.{SearchSpec}
use Rattle.acap_views.specs.Changing.{IsSoundStep, sight_for}
use Rattle.acap_views.specs.Contexts.{Context}
use Rattle.acap_views.specs.Notices.{told_shape, event_notices}
use Rattle.acap_views.specs.Work.{touched_for}

-- each under the name by which it is sent, with what is made of it now, if it is found
abbrev pub moves_of : SearchSpec → Sight → List Path → List (Move Match)
moves_of sought now paths = each (λ path. (name_told sought.depth path, tuple_of now sought path)) paths

-- a change as a tree takes it: from a sound store to a
-- sound store, path by path, by writes at well-formed paths
pub record IsTaken (written : Written) (old new : Store) : Type 0 where
  pub sound : IsSoundStep old new
  pub paths : IsPathByPath written old.records new.records
  pub formed : AreWellFormed written

-- to take each touched entry out of the list that there was, and to put in
-- what is made of it now, one after the other, gives the list that a search
-- finds now; and what is sent of these steps is what is sent of the change
pub record TouchedMovesLaw : Type 0 where
  pub list : (written : Written) (old new : Store) (realm : Realm) (user : List ℕ) (context : Context)
      → IsTaken written old new → dataset_exists old.records context.sought.dataset ≡ true
      → after_moves told_shape
      (moves_of context.sought (sight_for realm new user context.sought)
      (touched_for written old new context)) (matches_of old.records realm user context.sought)
      ≡ matches_of new.records realm user context.sought
  pub told : (written : Written) (old new : Store) (realm : Realm) (user : List ℕ) (context : Context)
      → IsTaken written old new → dataset_exists old.records context.sought.dataset ≡ true
      → moves_notices told_shape context.enumerated
      (moves_of context.sought (sight_for realm new user context.sought)
      (touched_for written old new context)) (matches_of old.records realm user context.sought)
      ≡ event_notices context.enumerated context.sought (sight_for realm old user context.sought)
      (sight_for realm new user context.sought)
