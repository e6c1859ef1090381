-- Matches of one dataset are found in order.
use Rattle.std.proofs.Common.{◌≡◌, ℕ, Bool, true, false, cond, Option, Some, None, List, [], ◌∷◌, ◌++◌, refl, sym, ◌∙◌, ap, append-nil, flat_map}
use Rattle.std.specs.List.{filter_map, cons_option}
use Rattle.std.specs.Option.{option_map_or, unwrap_or}
use Rattle.std.specs.Cmp.{first_so, second_so, tied_itself}
use Rattle.std.specs.Cmp.Lexicographic.{nat_list_cmp_total}
use Rattle.std.specs.Ordering.{is_lt, ordering_then, ordering_reverse}
use Rattle.std.specs.declared.cmp.Ordering.{Ordering}
use Rattle.std.specs.declared.cmp.Ordering.TheVariants.{Less, Equal, Greater}
use Rattle.std.proofs.lemmas.Cmp.{nat_cmp_total}
use Rattle.acap_entries.specs.FullPaths.{full_path_cmp}
use Rattle.acap_entries.specs.Orders.{octets_cmp}
use Rattle.acap_entries.specs.Store.{Stored}
use Rattle.acap_inherit.specs.Chains.{chain_of}
use Rattle.acap_inherit.specs.EntryNames.{names_on}
use Rattle.acap_inherit.specs.Laws.{NamesLaw}
use Rattle.acap_inherit.specs.Merging.{is_below, is_rising}
use Rattle.acap_rights.specs.declared.realm.Realm.{Realm}
use Rattle.acap_search.specs.Matches.{Match, match_lt, sorted_by}
use Rattle.acap_search.specs.Places.{places_cmp, places_in}
use Rattle.acap_search.specs.Scopes.{beneath}
use Rattle.acap_search.specs.Sight.{answers_at}
use Rattle.acap_search.specs.Views.{spot_in, found_at}
use Rattle.acap_search.specs.Walks.{Walk, quest_of, view_in, hits_in, hits_over, matches_by}
use Rattle.acap_search.specs.declared.query.SearchSpec.{SearchSpec}
use Rattle.acap_search.proofs.OrderLemmas.{match_weak}
use Rattle.acap_search.proofs.SortLemmas.{Above, Rises, rising_stays}
use Rattle.acap_search.proofs.WalkLemmas.{fresh_is}

-- ---- order

pub same_front : (front a b : List ℕ) → octets_cmp (front ++ a) (front ++ b) ≡ octets_cmp a b
same_front [] a b = refl
same_front (x ∷ front) a b = ap (λ r. ordering_then r (octets_cmp (front ++ a) (front ++ b))) (tied_itself nat_cmp_total x) ∙ same_front front a b

not_below : (r : Ordering) → is_lt r ≡ true → is_lt (ordering_reverse r) ≡ false
not_below Less e = refl
not_below Equal e = absurd (cc (e))
not_below Greater e = absurd (cc (e))

module _ (dataset : List ℕ) (f : List ℕ → Option Match) where
  -- a match at a name of the dataset, with no places
  abbrev IsAt : List ℕ → Match → Type 0
  IsAt name m = (m.path ≡ record { dataset = dataset; name = name }) × (m.places ≡ [])

  abbrev AreAt : List ℕ → Option Match → Type 0
  AreAt name None = Unit {0}
  AreAt name (Some m) = IsAt name m

  behind : (n o : List ℕ) (a b : Match) → IsAt n a → IsAt o b → is_lt (octets_cmp n o) ≡ true → match_lt b a ≡ false
  behind n o a b p q e =
      (λ i. is_lt (ordering_then (places_cmp (q.1 i) (p.1 i)) (full_path_cmp (q.0 i) (p.0 i))))
      ∙ (ap is_lt (same_front dataset o n ∙ nat_list_cmp_total.antisymm o n) ∙ not_below (octets_cmp n o) e)

  module _ (own : (name : List ℕ) → AreAt name (f name)) where
    above : (n : List ℕ) (a : Match) → IsAt n a → (names : List (List ℕ)) → is_below n names ≡ true → Above match_lt match_weak a (filter_map f names)
    above n a p [] e = tt
    above n a p (o ∷ names) e =
        elim (f o) as (λ m. AreAt o m → Above match_lt match_weak a (cons_option m (filter_map f names))) [
          | Some b ↦ λ q. (behind n o a b p q (first_so _ _ e), above n a p names (second_so _ _ e))
          | None ↦ λ q. above n a p names (second_so _ _ e)
        ] (own o)

    rises : (names : List (List ℕ)) → is_rising names ≡ true → Rises match_lt match_weak (filter_map f names)
    rises [] e = tt
    rises (n ∷ names) e =
        elim (f n) as (λ m. AreAt n m → Rises match_lt match_weak (cons_option m (filter_map f names))) [
          | Some a ↦ λ p. (above n a p names (first_so _ _ e), rises names (second_so _ _ e))
          | None ↦ λ p. rises names (second_so _ _ e)
        ] (own n)

module _ (records : Stored) (realm : Realm) (user : List ℕ) (sought : SearchSpec) (depth : sought.depth ≡ None) (sort : sought.sort ≡ None) (law : NamesLaw) where
  abbrev quest : Walk
  quest = quest_of records realm user sought

  abbrev chain : List (List ℕ)
  chain = chain_of records sought.dataset sought.no_inherit

  abbrev found : List ℕ → Option Match
  found name = found_at sought None (spot_in (view_in quest sought.dataset) name)

  made_at : (seen wanted : Bool) (name : List ℕ) (m : Match) → IsAt sought.dataset found name m → AreAt sought.dataset found name (cond seen (cond wanted (Some m) None) None)
  made_at true true name m p = p
  made_at true false name m p = tt
  made_at false wanted name m p = tt

  all_at : (name : List ℕ) → AreAt sought.dataset found name (found name)
  all_at name = made_at _ _ name _ (refl, ap (λ sort. places_in (answers_at records realm user sought.dataset chain name).read (unwrap_or sort [])) sort)

  alone : hits_over quest ≡ hits_in quest sought.dataset
  alone =
      ap (λ depth. flat_map (hits_in quest) (sought.dataset ∷ option_map_or (beneath records sought.dataset) depth [])) depth
      ∙ append-nil (hits_in quest sought.dataset)

  found_rise : Rises match_lt match_weak (hits_in quest sought.dataset)
  unfolding hits_in
  found_rise = rises sought.dataset found all_at (names_on records chain) (law.rising records chain)

  -- without DEPTH and SORT the matches of the dataset come in order
  pub plain_is : hits_over quest ≡ matches_by quest
  plain_is =
      alone
      ∙ (sym (rising_stays match_lt match_weak _ found_rise) ∙ (ap (sorted_by match_lt) (sym alone) ∙ fresh_is records realm user sought))
