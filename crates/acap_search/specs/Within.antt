-- What a search over a context finds [RFC 2244 sections 3.3 and 6.4.1].
use Rattle.std.specs.Prelude.{◌≡◌, ℕ, suc, ℤ, int_lt, Bool, false, not, ◌&&◌, ◌||◌, nat_le, List, [], ◌∷◌}
use Rattle.std.specs.Prelude.{length, Option, Some, None, Result, Ok, Err, if◌then◌else◌, map as each}
use Rattle.std.specs.Borrow.{Bor}
use Rattle.std.specs.List.{filter_map}
use Rattle.acap_entries.specs.Store.{Stored}
use Rattle.acap_entries.specs.declared.path.Path.{Path}
use Rattle.acap_commands.specs.Wanted.{Wanted, One, And, Or, Not}
use Rattle.acap_commands.specs.declared.test.Test.{Test}
use Rattle.acap_commands.specs.declared.test.Test.TheVariants as test
use Rattle.acap_rights.specs.declared.realm.Realm.{Realm}
use Rattle.acap_search.specs.Fresh.{Sight, sight_of, is_among, has_range, is_over}
use Rattle.acap_search.specs.Matches.{Match, ordered_by}
use Rattle.acap_search.specs.Rows.{stars_of}
use Rattle.acap_search.specs.Scopes.{scope_of}
use Rattle.acap_search.specs.Tuples.{tuple_for}
use Rattle.acap_search.specs.declared.query.Query.{Query}
use Rattle.acap_search.specs.declared.query.SearchSpec.{SearchSpec}
use Rattle.acap_search.specs.declared.refusal.SearchRefusal.{SearchRefusal}
use Rattle.acap_search.specs.declared.refusal.SearchRefusal.TheVariants as refusal
use Rattle.acap_search.specs.declared.context_list.ContextList.{ContextList}

-- what is kept of a context that is searched: the paths that it shows, in its order, the moment that was last
-- sent of it, and whether its entries have positions
pub record Context : Type 0 where
  pub paths : List Path
  pub told : ℤ
  pub enumerated : Bool

abbrev pub context_of : List Path → ℤ → Bool → Context
context_of paths told enumerated = record { paths = paths; told = told; enumerated = enumerated }

-- the same of a context that is lent as its hits
abbrev pub paths_shown : List (Bor Match) → List Path
paths_shown shown = each (λ hit. hit.now.path) shown

abbrev pub context_shown : ContextList → Context
context_shown showing = context_of (paths_shown showing.hits.now) showing.told showing.enumerated

-- the paths of a context with their positions, from 1 on.
-- An entry that went keeps the positions of those after it
abbrev pub numbered_from : ℕ → List Path → List (ℕ × Path)
numbered_from first [] = []
numbered_from first (path ∷ paths) = (first, path) ∷ numbered_from (suc first) paths

abbrev pub numbered_paths : List Path → List (ℕ × Path)
numbered_paths = numbered_from 1

-- the position that RANGE means; none over 4,294,967,295 can be named by it
abbrev pub position_of : ℕ → Option ℕ
position_of place = if nat_le place 4_294_967_295 then Some place else None

-- what is made of the path at a position: none where it isn't in sight, or where the key doesn't want it
abbrev pub tuple_at : Sight → SearchSpec → Option ℕ → Path → Option Match
tuple_at sight sought place path =
    if is_among sight.paths path
    then tuple_for sought place path (sight.answers path)
    (stars_of (sight.answers path).read (sight.attributes path))
    else None

abbrev pub tuple_within : Sight → SearchSpec → ℕ × Path → Option Match
tuple_within sight sought entry = tuple_at sight sought (position_of entry.0) entry.1

-- what a search over a context finds: of its paths in their order those that
-- are in sight now and that the key wants, as they are now. Dataset, DEPTH and
-- NOINHERIT are the context's, and key, SORT and RETURN those of the new search
abbrev pub matches_in : Sight → SearchSpec → List Path → List Match
matches_in sight sought paths =
    ordered_by sought.sort (filter_map (tuple_within sight sought) (numbered_paths paths))

abbrev pub matches_within : Stored → Realm → List ℕ → SearchSpec → List Path → List Match
matches_within records realm user sought = matches_in (sight_of records realm user (scope_of sought)) sought

-- ---- refusals

-- whether RANGE stands anywhere in a key with a time before a moment, whether that is needed or not
abbrev pub is_old : ℤ → Test → Bool
is_old told test.All = false
is_old told (test.IsNil attribute comparator) = false
is_old told (test.Meets relation attribute comparator wanted) = false
is_old told (test.Range first last since) = int_lt since told

abbrev pub has_old : ℤ → Wanted → Bool
has_old told (One t) = is_old told t
has_old told (And a b) = has_old told a || has_old told b
has_old told (Or a b) = has_old told a || has_old told b
has_old told (Not a) = has_old told a

-- whether the key asks for positions in a context that has none
abbrev pub lacks_positions : Context → Query → Bool
lacks_positions context query = not context.enumerated && has_range query.sought.key

-- why a search over a context is refused, by the first of these: a key that asks for positions which
-- there aren't, or for those of a moment before the last that was sent, and more matches than HARDLIMIT
abbrev pub refusal_within : Stored → Realm → List ℕ → Query → Context → Option SearchRefusal
refusal_within records realm user query context =
    if lacks_positions context query then Some refusal.RangeHere
    else if has_old context.told query.sought.key then Some refusal.TooOld
    else if is_over query.hard_limit (length (matches_within records realm user query.sought context.paths))
    then Some refusal.WayTooMany
    else None

-- what is answered to a search over a context: what holds of all matches,
-- or why it is refused. Memory is wanted only where the key is right
abbrev pub IsWithin : {X : Type 0} → Stored → Realm → List ℕ → Query → Context → (X → List Match → Type 0)
    → Result X SearchRefusal → Type 0
IsWithin records realm user query context holds (Ok found) =
    (refusal_within records realm user query context ≡ None)
    × holds found (matches_within records realm user query.sought context.paths)
IsWithin records realm user query context holds (Err refusal.RangeHere) =
    refusal_within records realm user query context ≡ Some refusal.RangeHere
IsWithin records realm user query context holds (Err refusal.NoExist) =
    refusal_within records realm user query context ≡ Some refusal.NoExist
IsWithin records realm user query context holds (Err refusal.TooOld) =
    refusal_within records realm user query context ≡ Some refusal.TooOld
IsWithin records realm user query context holds (Err refusal.WayTooMany) =
    refusal_within records realm user query context ≡ Some refusal.WayTooMany
IsWithin records realm user query context holds (Err refusal.Memory) =
    (lacks_positions context query ≡ false) × (has_old context.told query.sought.key ≡ false)
