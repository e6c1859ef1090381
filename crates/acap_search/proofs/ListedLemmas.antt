-- A search over the list of a search finds that list again.
use Rattle.std.proofs.Common.{◌≡◌, ℕ, suc, true, false, not, cond, ◌&&◌, ◌||◌, Option, Some, None, List, [], ◌∷◌, refl, sym, ◌∙◌, ap, map as each}
use Rattle.std.proofs.lemmas.Bool.{or_parts}
use Rattle.std.specs.List.{Contains, filter_map, cons_option}
use Rattle.acap_commands.specs.Wanted.{Wanted, One, And, Or, Not}
use Rattle.acap_commands.specs.declared.search_modifiers.SortItem.{SortItem}
use Rattle.acap_commands.specs.declared.test.Test.{Test}
use Rattle.acap_commands.specs.declared.test.Test.TheVariants as test
use Rattle.acap_entries.specs.Store.{Stored}
use Rattle.acap_entries.specs.declared.path.Path.{Path}
use Rattle.acap_ordmap.proofs.Logic.{Contains-here, Contains-there}
use Rattle.acap_rights.specs.declared.realm.Realm.{Realm}
use Rattle.acap_search.specs.ContextLaws.{WithinLaw, without_places, with_no_sort}
use Rattle.acap_search.specs.Fresh.{Sight, sight_of, is_among, tuple_of, is_range, has_range, matches_of}
use Rattle.acap_search.specs.Keys.{passes, holds}
use Rattle.acap_search.specs.Matches.{Match, match_lt, ordered_by}
use Rattle.acap_search.specs.Rows.{stars_of}
use Rattle.acap_search.specs.Scopes.{scope_of}
use Rattle.acap_search.specs.Sight.{Answers}
use Rattle.acap_search.specs.Tuples.{match_of}
use Rattle.acap_search.specs.Within.{numbered_from, position_of, tuple_at, tuple_within}
use Rattle.acap_search.specs.declared.query.SearchSpec.{SearchSpec}
use Rattle.acap_search.proofs.FreshLemmas.{fresh_law}
use Rattle.acap_search.proofs.OnceLemmas.{from_made}
use Rattle.acap_search.proofs.OrderLemmas.{match_weak}
use Rattle.acap_search.proofs.SeenLemmas.{from_order}
use Rattle.acap_search.proofs.SortLemmas.{sorted_is}
use Rattle.acap_search.proofs.TupleLemmas.{made_is}

-- ---- a key without RANGE wants an entry wherever it stands

passes_anywhere : (t : Test) (place : Option ℕ) (answers : Answers) → is_range t ≡ false → passes t place answers ≡ passes t None answers
passes_anywhere test.All place answers e = refl
passes_anywhere (test.IsNil attribute comparator) place answers e = refl
passes_anywhere (test.Meets relation attribute comparator wanted) place answers e = refl
passes_anywhere (test.Range first last since) place answers e = absurd (cc (e))

holds_anywhere : (key : Wanted) (place : Option ℕ) (answers : Answers) → has_range key ≡ false → holds key place answers ≡ holds key None answers
holds_anywhere (One t) place answers e = passes_anywhere t place answers e
holds_anywhere (And a b) place answers e =
    let parts = or_parts (has_range a) (has_range b) e in
    λ i. holds_anywhere a place answers parts.0 i && holds_anywhere b place answers parts.1 i
holds_anywhere (Or a b) place answers e =
    let parts = or_parts (has_range a) (has_range b) e in
    λ i. holds_anywhere a place answers parts.0 i || holds_anywhere b place answers parts.1 i
holds_anywhere (Not a) place answers e = ap not (holds_anywhere a place answers e)

-- ---- lists

each_of : (f : ℕ × Path → Option Match) (g : Match → Match) (ms : List Match) → ((m : Match) → Contains ms m → (n : ℕ) → f (n, m.path) ≡ Some (g m)) → (n : ℕ)
    → filter_map f (numbered_from n (each (λ (m : Match). m.path) ms)) ≡ each g ms
each_of f g [] h n = refl
each_of f g (m ∷ ms) h n =
    let first = h m (Contains-here m ms) n in
    let rest = each_of f g ms (λ l k. h l (Contains-there m l ms k)) (suc n) in
    λ i. cons_option (first i) (rest i)

each_itself : (ms : List Match) → each (λ m. m) ms ≡ ms
each_itself [] = refl
each_itself (m ∷ ms) = ap (λ rest. m ∷ rest) (each_itself ms)

pub from_ordered : (sort : Option (List SortItem)) (ms : List Match) (m : Match) → Contains (ordered_by sort ms) m → Contains ms m
from_ordered None ms m k = k
from_ordered (Some sort) ms m k = from_order match_lt ms m k

-- ---- what is found again

module _ (records : Stored) (realm : Realm) (user : List ℕ) (sought : SearchSpec) (plain : has_range sought.key ≡ false) where
  abbrev sight : Sight
  sight = sight_of records realm user (scope_of sought)

  abbrev found : List Match
  found = matches_of records realm user sought

  -- what is made of a match by a search for as much, whatever its SORT
  again : (other : SearchSpec) → other.key ≡ sought.key → (m : Match) → Contains found m → (place : Option ℕ)
      → (p : Path) × ((m ≡ match_of sought p (sight.answers p) (stars_of (sight.answers p).read (sight.attributes p)))
      × (tuple_at sight other place m.path ≡ Some (match_of other p (sight.answers p) (stars_of (sight.answers p).read (sight.attributes p)))))
  again other same m k place =
      let w = from_made (tuple_of sight sought) sight.paths m (from_ordered sought.sort _ m k) in
      let p : Path = w.0 in
      let is = made_is (is_among sight.paths p) (holds sought.key None (sight.answers p)) (match_of sought p (sight.answers p) (stars_of (sight.answers p).read (sight.attributes p))) m w.1.1 in
      let at : m.path ≡ p = ap (λ (m : Match). m.path) (sym is.1.1) in
      let wanted : holds other.key place (sight.answers p) ≡ true = ap (λ key. holds key place (sight.answers p)) same ∙ (holds_anywhere sought.key place (sight.answers p) plain ∙ is.1.0) in (
        p,
        (
          sym is.1.1,
          ap (λ q. tuple_at sight other place q) at
              ∙ λ i. cond (is.0 i) (cond (wanted i) (Some (match_of other p (sight.answers p) (stars_of (sight.answers p).read (sight.attributes p)))) None) None,
        ),
      )

  without_sort : filter_map (tuple_within sight (with_no_sort sought)) (numbered_from 1 (each (λ (m : Match). m.path) found)) ≡ each without_places found
  without_sort =
      each_of (tuple_within sight (with_no_sort sought)) without_places found
      (λ m k n. let r = again (with_no_sort sought) refl m k (position_of n) in r.1.1 ∙ ap (λ m. Some (without_places m)) (sym r.1.0)) 1

  with_sort : filter_map (tuple_within sight sought) (numbered_from 1 (each (λ (m : Match). m.path) found)) ≡ found
  with_sort =
      each_of (tuple_within sight sought) (λ m. m) found (λ m k n. let r = again sought refl m k (position_of n) in r.1.1 ∙ ap Some (sym r.1.0)) 1
      ∙ each_itself found

  in_order : (sort : Option (List SortItem)) → ordered_by sort found ≡ found
  in_order None = refl
  in_order (Some sort) = sym (sorted_is match_lt match_weak found found (fresh_law.order records realm user sought) (λ m. refl))

  pub ordered : ordered_by sought.sort (filter_map (tuple_within sight sought) (numbered_from 1 (each (λ (m : Match). m.path) found))) ≡ found
  ordered = ap (ordered_by sought.sort) with_sort ∙ in_order sought.sort

pub within_law : WithinLaw
within_law = record {
  plain = λ records realm user sought e. without_sort records realm user sought e;
  ordered = λ records realm user sought e. ordered records realm user sought e;
}
