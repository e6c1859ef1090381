-- Matches of one search ascend, have full paths of their own, and names that these give.
use Rattle.std.proofs.Common.{◌≡◌, ℕ, zero, suc, ◌<◌, true, false, Option, Some, None, List, [], ◌∷◌, length, drop, get_or, refl, sym, ◌∙◌, ap, subst, arith, map as each}
use Rattle.std.proofs.Math.Seq.{drop-append_seam}
use Rattle.std.proofs.lemmas.List.Sorted.{sorted_far}
use Rattle.std.specs.Cmp.Lexicographic.{bytes_decides, texts_ties}
use Rattle.std.specs.List.{Contains}
use Rattle.std.specs.Ordering.{is_eq, is_lt, ordering_reverse}
use Rattle.std.specs.declared.cmp.Ordering.{Ordering}
use Rattle.std.specs.declared.cmp.Ordering.TheVariants.{Less, Equal, Greater}
use Rattle.acap_entries.specs.Datasets.{dataset_exists}
use Rattle.acap_entries.specs.FullPaths.{full_path}
use Rattle.acap_entries.specs.Orders.{octets_cmp}
use Rattle.acap_ordmap.specs.Ranks.{Ascending}
use Rattle.acap_entries.specs.Sound.{IsSoundStore}
use Rattle.acap_entries.specs.Store.{Stored}
use Rattle.acap_entries.specs.declared.path.Path.{Path}
use Rattle.acap_ordmap.proofs.Logic.{second_Equal, Contains-here, Contains-there}
use Rattle.acap_inherit.specs.Laws.{NothingLaw, NamesLaw}
use Rattle.acap_rights.specs.declared.realm.Realm.{Realm}
use Rattle.acap_search.specs.ContextLaws.{HitLaw, name_by}
use Rattle.acap_search.specs.Fresh.{tuple_of, matches_of}
use Rattle.acap_search.specs.Matches.{Match, match_cmp, match_lt}
use Rattle.acap_search.specs.Once.{EachOnce}
use Rattle.acap_search.specs.Tuples.{name_told}
use Rattle.acap_search.specs.declared.query.SearchSpec.{SearchSpec}
use Rattle.acap_search.proofs.FreshLemmas.{fresh_law}
use Rattle.acap_search.proofs.OnceLemmas.{from_made, sight, found_at, in_one, from_ordered, fresh_once}
use Rattle.acap_search.proofs.OrderLemmas.{match_total, match_weak}
use Rattle.acap_search.proofs.SeenLemmas.{in_map, from_map}

at_contains : {X : Type 0} (xs : List X) (k : ℕ) (d : X) → k < length xs → Contains xs (get_or xs k d)
at_contains [] k d less = absurd (omega (arith, less))
at_contains (x ∷ xs) zero d less = Contains-here x xs
at_contains (x ∷ xs) (suc k) d less = Contains-there x (get_or xs k d) xs (at_contains xs k d (omega (arith, less)))

-- what comes once doesn't come again
not_again : {X Y : Type 0} (f : X → Y) (xs : List X) (i j : ℕ) (d : X) → i < j → j < length xs → EachOnce (each f xs) → f (get_or xs i d) ≡ f (get_or xs j d) → ⊥
not_again f [] i j d less within o e = absurd (omega (arith, within))
not_again f (x ∷ xs) i zero d less within o e = absurd (omega (arith, less))
not_again f (x ∷ xs) zero (suc j) d less within o e =
    o.0 (subst (λ y. Contains (each f xs) y) (sym e) (in_map f xs (get_or xs j d) (at_contains xs j d (omega (arith, within)))))
not_again f (x ∷ xs) (suc i) (suc j) d less within o e = not_again f xs i j d (omega (arith, less)) (omega (arith, within)) o.1 e

-- what gives names that come once comes once
once_before : {X Y Z : Type 0} (f : X → Y) (g : X → Z) (h : Z → Y) (xs : List X) → ((x : X) → Contains xs x → f x ≡ h (g x)) → EachOnce (each f xs) → EachOnce (each g xs)
once_before f g h [] is o = tt
once_before f g h (x ∷ xs) is o = (
  λ k.
      let m = from_map g xs (g x) k in
      let same : f m.0 ≡ f x = is m.0 (Contains-there x m.0 xs m.1.0) ∙ (ap h m.1.1 ∙ sym (is x (Contains-here x xs))) in
      o.0 (subst (λ y. Contains (each f xs) y) same (in_map f xs m.0 m.1.0)),
  once_before f g h xs (λ y k. is y (Contains-there x y xs k)) o.1,
)

less_of : (o r : Ordering) → r ≡ ordering_reverse o → is_lt r ≡ false → (o ≡ Equal → ⊥) → o ≡ Less
less_of Less r e h differ = refl
less_of Equal r e h differ = absurd (differ refl)
less_of Greater r e h differ = absurd (cc (h, ap is_lt e))

same_octets : (a b : List ℕ) → octets_cmp a b ≡ Equal → a ≡ b
same_octets a b e = (bytes_decides a b).0 (texts_ties a b ∙ ap is_eq e)

module _ (nothing : NothingLaw) (names : NamesLaw) (records : Stored) (realm : Realm) (user : List ℕ) (sound : IsSoundStore records) (sought : SearchSpec) (exists : dataset_exists records sought.dataset ≡ true) where
  abbrev found : List Match
  found = matches_of records realm user sought

  told_by : (p : Path) (depth : Option ℕ) → (depth ≡ None → p.dataset ≡ sought.dataset) → name_told depth p ≡ name_by depth sought.dataset (full_path p)
  told_by p (Some depth) one = refl
  told_by p None one = sym (ap (λ d. drop (length d) (full_path p)) (sym (one refl)) ∙ drop-append_seam p.dataset p.name)

  name_of : (m : Match) → Contains found m → m.row.name ≡ name_by sought.depth sought.dataset (full_path m.path)
  name_of m k =
      let paths = (sight nothing names records realm user sound sought exists).paths in
      let w = from_made (tuple_of (sight nothing names records realm user sound sought exists) sought) paths m (from_ordered nothing names records realm user sound sought exists sought.sort _ m k) in
      let is = found_at nothing names records realm user sound sought exists w.0 m w.1.1 in
      is.1 ∙ (told_by w.0 sought.depth (λ none. in_one nothing names records realm user sound sought exists w.0 w.1.0 none)
      ∙ ap (λ p. name_by sought.depth sought.dataset (full_path p)) (sym is.0))

  paths_once : EachOnce (each (λ (m : Match). full_path m.path) found)
  paths_once =
      once_before (λ (m : Match). m.row.name) (λ (m : Match). full_path m.path) (name_by sought.depth sought.dataset) found name_of
      (fresh_once nothing names records realm user sound sought exists)

  ascend : Ascending match_cmp found
  ascend = record {
    rises = λ i j d less within.
        less_of (match_cmp (get_or found i d) (get_or found j d)) (match_cmp (get_or found j d) (get_or found i d))
        (match_total.antisymm (get_or found j d) (get_or found i d))
        (sorted_far match_lt match_weak found (fresh_law.order records realm user sought) i j d (omega (arith, less)) within)
        (λ e. not_again (λ (m : Match). full_path m.path) found i j d less within paths_once (same_octets _ _ (second_Equal _ _ e)));
  }

pub hit_law : NothingLaw → NamesLaw → HitLaw
hit_law nothing names = record {
  ascend = λ records realm user sought sound exists. ascend nothing names records realm user sound sought exists;
  paths = λ records realm user sought sound exists. paths_once nothing names records realm user sound sought exists;
  names = λ records realm user sought sound exists. name_of nothing names records realm user sound sought exists;
}
