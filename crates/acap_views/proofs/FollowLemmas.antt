-- A live list that is brought up to date entry by entry, each match found by where it stood, is brought up to date by names.
use Rattle.std.proofs.Common.{◌≡◌, ℕ, ◌+◌, ◌<◌, ◌≤◌, ◌==◌, ◌&&◌, Bool, true, false, not, cond, nat_lt, Option, Some, None, List, [], ◌∷◌, ◌++◌, length, length-append, arith, refl, sym, ◌∙◌, ap, subst, ◌⊎◌, inl, inr, map as each}
use Rattle.std.specs.Cmp.{both_ways, tied_itself}
use Rattle.std.specs.FinMap.Entries.{by_order}
use Rattle.std.proofs.lemmas.Bool.{ltb-true, false_from_ne_true}
use Rattle.std.specs.List.{Contains, filter, find}
use Rattle.std.specs.Option.{option_map}
use Rattle.std.specs.Ordering.{eq_by_cmp, is_eq, ordering_then}
use Rattle.std.specs.declared.cmp.Ordering.TheVariants.{Less, Equal, Greater}
use Rattle.acap_entries.proofs.FullPathLaws.{full_paths}
use Rattle.acap_ordmap.proofs.RankLaws.{rank_holds}
use Rattle.acap_entries.specs.FullPaths.{full_path_cmp, IsSplit}
use Rattle.acap_entries.specs.Orders.{octets_eq}
use Rattle.acap_ordmap.specs.Ranks.{Ascending, rank_of, item_at, with_item, without_item}
use Rattle.acap_entries.specs.declared.path.Path.{Path}
use Rattle.acap_ordmap.proofs.Logic.{second_Equal, Contains-here, Contains-there, Equal_from_is_eq}
use Rattle.acap_notices.specs.Waiting.{notices_pending}
use Rattle.acap_notices.specs.declared.notice.Notice.{Notice}
use Rattle.acap_moves.specs.Hits.{Name}
use Rattle.acap_moves.specs.Moves.{Move, after_moves, after_move, moves_notices}
use Rattle.acap_moves.specs.Notices.{notice_at, notice_between, same_row}
use Rattle.acap_moves.proofs.Splits.{same_name, itself}
use Rattle.acap_search.specs.Matches.{Match, match_cmp}
use Rattle.acap_search.specs.Places.{places_cmp}
use Rattle.acap_search.specs.Totals.{match_total}
use Rattle.acap_search.specs.Tuples.{name_told}
use Rattle.acap_search.specs.declared.sort_term.SortTerm.{SortTerm}
use Rattle.acap_search.proofs.SeenLemmas.{first_or, nowhere, either}
use Rattle.acap_views.specs.Notices.{told_shape}
use Rattle.acap_views.specs.EntryUpdates.{EntryUpdate, standing, with_match, without_old, old_place, stands, from_one, after_shift, after_shifts, shift_notices, shifts_notices, tells_between, surely_tells, count_with, until_full}
use Rattle.acap_views.proofs.PathLemmas.{IsIn, told_apart}
use Rattle.acap_views.proofs.UpdateLemmas.{Unlike, IsApt, rises, left_of, finds_place, shift_is, told_is}
use Rattle.acap_views.proofs.StayLemmas.{stays, untold}

from_with : (come : Match) (es : List Match) (x : Match) → Contains (with_item match_cmp come es) x → (come ≡ x) ⊎ Contains es x
unfolding with_item
from_with come [] x k = either (first_or come x [] k) (λ e. inl e) (λ l. nowhere x l)
from_with come (e ∷ es) x k = elim (match_cmp come e) as (λ o. Contains (by_order o (come ∷ e ∷ es) (e ∷ es) (e ∷ with_item match_cmp come es)) x → (come ≡ x) ⊎ Contains (e ∷ es) x) [
  | Less ↦ λ l. first_or come x (e ∷ es) l
  | Equal ↦ λ l. inr l
  | Greater ↦ λ l. either (first_or e x (with_item match_cmp come es) l)
      (λ same. inr (subst (λ y. Contains (e ∷ es) y) same (Contains-here e es)))
      (λ m. either (from_with come es x m) (λ same. inl same) (λ n. inr (Contains-there e x es n)))
] k

found_left : (p q : Match → Bool) (xs : List Match) → ((x : Match) → Contains xs x → p x ≡ true → q x ≡ true) → find p (filter q xs) ≡ find p xs
found_left p q [] h = refl
found_left p q (x ∷ xs) h =
    let rest = found_left p q xs (λ y k. h y (Contains-there x y xs k)) in
    elim (q x) as (λ b. q x ≡ b → find p (cond b (x ∷ filter q xs) (filter q xs)) ≡ cond (p x) (Some x) (find p xs)) [
      | true ↦ λ e. ap (λ o. cond (p x) (Some x) o) rest
      | false ↦ λ e. rest ∙ sym (ap (λ b. cond b (Some x) (find p xs)) (false_from_ne_true (p x) (λ t. cc (sym e ∙ h x (Contains-here x xs) t))))
    ] refl

found_with : (p : Match → Bool) (come : Match) (xs : List Match) → p come ≡ false → find p (with_item match_cmp come xs) ≡ find p xs
unfolding with_item
found_with p come [] e = ap (λ b. cond b (Some come) None) e
found_with p come (x ∷ xs) e = elim (match_cmp come x) as (λ o. find p (by_order o (come ∷ x ∷ xs) (x ∷ xs) (x ∷ with_item match_cmp come xs)) ≡ find p (x ∷ xs)) [
  | Less ↦ ap (λ b. cond b (Some come) (find p (x ∷ xs))) e
  | Equal ↦ refl
  | Greater ↦ ap (λ o. cond (p x) (Some x) o) (found_with p come xs e)
]

found_then : (p : Match → Bool) (o : Option Match) (xs : List Match) → ((m : Match) → o ≡ Some m → p m ≡ false) → find p (with_match o xs) ≡ find p xs
found_then p None xs h = refl
found_then p (Some m) xs h = found_with p m xs (h m refl)

-- where something goes or comes, or a row is another, one notice is told
one_if_changed : (same row : Bool) (notice : Notice) → not row ≡ true → 1 ≤ length (cond (same && row) [] (notice ∷ []))
one_if_changed true true notice e = absurd (cc (e))
one_if_changed true false notice e = omega arith
one_if_changed false row notice e = omega arith

told_one : (enumerated : Bool) (name : Name) (gone come : Option (ℕ × Match)) → tells_between (option_map (λ s. s.1) gone) (option_map (λ s. s.1) come) ≡ true
    → 1 ≤ length (notice_between told_shape enumerated name gone come)
told_one true name None None e = absurd (cc (e))
told_one true name None (Some b) e = omega arith
told_one true name (Some a) None e = omega arith
told_one true name (Some a) (Some b) e = one_if_changed (a.0 == b.0) (same_row a.1.row b.1.row) _ e
told_one false name None None e = absurd (cc (e))
told_one false name None (Some b) e = omega arith
told_one false name (Some a) None e = omega arith
told_one false name (Some a) (Some b) e = one_if_changed true (same_row a.1.row b.1.row) _ e

found_there : (place : ℕ) (o : Option Match) → option_map (λ s. s.1) (from_one (option_map (λ found. (place, found)) o)) ≡ o
found_there place None = refl
found_there place (Some found) = refl

counted_within : (b : Bool) (count n : ℕ) → (b ≡ true → 1 ≤ n) → cond b (count + 1) count ≤ count + n
counted_within true count n h = omega (arith, h refl)
counted_within false count n h = omega arith

abbrev pub Apart : List Path → Type 0
Apart [] = Unit {0}
Apart (p ∷ ps) = ((q : Path) → Contains ps q → p ≡ q → ⊥) × Apart ps

module _ (dataset : List ℕ) (depth : Option ℕ) (was : Path → List SortTerm) (come : Path → Option Match) where
  abbrev pub told : Path → Name
  told = name_told depth

  abbrev pub shift_by : Path → EntryUpdate
  shift_by p = record { name = told p; old = standing p (was p); come = come p }

  abbrev pub move_of : Path → Move Match
  move_of p = (told p, come p)

  -- a match of the search, told by the name of its path
  pub record IsNamed (h : Match) : Type 0 where
    pub split : IsSplit h.path
    pub inside : IsIn dataset depth h.path
    pub name : h.row.name ≡ told h.path

  pub record AreNamed (hits : List Match) : Type 0 where
    pub ascend : Ascending match_cmp hits
    pub named : (h : Match) → Contains hits h → IsNamed h

  pub record IsAsked (p : Path) : Type 0 where
    pub split : IsSplit p
    pub inside : IsIn dataset depth p
    pub path : (m : Match) → come p ≡ Some m → m.path ≡ p
    pub name : (m : Match) → come p ≡ Some m → m.row.name ≡ told p

  abbrev pub StoodThere : List Match → Path → Type 0
  StoodThere hits p = (h : Match) → Contains hits h → h.path ≡ p → h.places ≡ was p

  module _ (p : Path) (hits : List Match) (named : AreNamed hits) (asked : IsAsked p) (stood : StoodThere hits p) where
    by_name : (h : Match) → Contains hits h → octets_eq (told p) h.row.name ≡ true → p ≡ h.path
    by_name h k e =
        let is = named.named h k in
        told_apart dataset depth p h.path asked.inside is.inside asked.split is.split (same_name _ _ e ∙ is.name)

    same_path_of : (h : Match) → IsSplit h.path → full_path_cmp p h.path ≡ Equal → p ≡ h.path
    same_path_of h s e = full_paths.same p h.path asked.split s e

    by_place : (h : Match) → Contains hits h → eq_by_cmp match_cmp (standing p (was p)) h ≡ true → p ≡ h.path
    by_place h k e = same_path_of h (named.named h k).split (second_Equal _ _ (Equal_from_is_eq _ e))

    ties_there : (h : Match) → Contains hits h → p ≡ h.path → eq_by_cmp match_cmp (standing p (was p)) h ≡ true
    ties_there h k e =
        ap (λ places. is_eq (ordering_then (places_cmp (was p) places) (full_path_cmp p h.path))) (stood h k (sym e))
        ∙ (ap (λ q. is_eq (ordering_then (places_cmp (was p) (was p)) (full_path_cmp p q))) (sym e) ∙ ap is_eq (tied_itself match_total (standing p (was p))))

    agree : (h : Match) → Contains hits h → octets_eq (told p) h.row.name ≡ eq_by_cmp match_cmp (standing p (was p)) h
    agree h k = both_ways _ _
        (λ e. ties_there h k (by_name h k e))
        (λ e. itself (told p) h.row.name (ap told (by_place h k e) ∙ sym (named.named h k).name))

    unlike : (m : Match) → come p ≡ Some m → Unlike m (without_old (standing p (was p)) hits)
    unlike m c x k e =
        let l = left_of (standing p (was p)) hits x k in
        let full : full_path_cmp p x.path ≡ Equal = ap (λ q. full_path_cmp q x.path) (sym (asked.path m c)) ∙ second_Equal _ _ e in
        cc (ties_there x l.0 (same_path_of x (named.named x l.0).split full), l.1)

    apt : IsApt (shift_by p) hits
    apt = record { rises = rises hits named.ascend; agree = agree; named = asked.name; unlike = unlike }

    from_next : (o : Option Match) (x : Match) → Contains (with_match o (without_old (standing p (was p)) hits)) x → (o ≡ Some x) ⊎ Contains hits x
    from_next None x k = inr (left_of (standing p (was p)) hits x k).0
    from_next (Some m) x k = either (from_with m (without_old (standing p (was p)) hits) x k) (λ e. inl (ap Some e)) (λ l. inr (left_of (standing p (was p)) hits x l).0)

    comes_named : (m : Match) → come p ≡ Some m → IsNamed m
    comes_named m c =
        let same : m.path ≡ p = asked.path m c in
        record { split = subst IsSplit (sym same) asked.split; inside = subst (IsIn dataset depth) (sym same) asked.inside; name = asked.name m c ∙ ap told (sym same) }

    ascends : (o : Option Match) → Ascending match_cmp (with_match o (without_old (standing p (was p)) hits))
    ascends None = (rank_holds match_cmp match_total).after_take (standing p (was p)) hits named.ascend
    ascends (Some m) = (rank_holds match_cmp match_total).after_put m _ ((rank_holds match_cmp match_total).after_take (standing p (was p)) hits named.ascend)

    next_named : AreNamed (after_shift (shift_by p) hits)
    next_named = record {
      ascend = ascends (come p);
      named = λ h k. either (from_next (come p) h k) (λ c. comes_named h c) (λ l. named.named h l);
    }

    still_there : (q : Path) → (p ≡ q → ⊥) → StoodThere hits q → StoodThere (after_shift (shift_by p) hits) q
    still_there q n s h k e = either (from_next (come p) h k) (λ c. absurd (n (sym (asked.path h c) ∙ e))) (λ l. s h l e)

  -- what stood at another path is found as before
  still_found : (p q : Path) (hits : List Match) → AreNamed hits → IsAsked p → IsAsked q → StoodThere hits p → StoodThere hits q → (p ≡ q → ⊥)
      → item_at match_cmp (standing q (was q)) (after_shift (shift_by p) hits) ≡ item_at match_cmp (standing q (was q)) hits
  unfolding item_at without_item
  still_found p q hits named asked other Contains-here Contains-there n =
      let ties = eq_by_cmp match_cmp (standing q (was q)) in
      found_then ties (come p) _ (λ m c. false_from_ne_true (ties m) (λ e.
      n (sym (full_paths.same q m.path other.split (subst IsSplit (sym (asked.path m c)) asked.split) (second_Equal _ _ (Equal_from_is_eq _ e)) ∙ asked.path m c))))
      ∙ found_left ties (λ x. not (eq_by_cmp match_cmp (standing p (was p)) x)) hits (λ x k e.
      ap not (false_from_ne_true (eq_by_cmp match_cmp (standing p (was p)) x) (λ t. n (by_place p hits named asked Contains-here x k t ∙ sym (by_place q hits named other Contains-there x k e)))))

  surely_told : (p : Path) (hits : List Match) → AreNamed hits → IsAsked p → StoodThere hits p → (enumerated : Bool) → surely_tells hits (shift_by p) ≡ true
      → 1 ≤ length (shift_notices enumerated (shift_by p) hits)
  surely_told p hits named asked at enumerated e =
      let old = standing p (was p) in
      let stood_is = found_there (rank_of match_cmp old hits) (item_at match_cmp old hits) in
      let place = finds_place (shift_by p) hits (apt p hits named asked at) (come p) (unlike p hits named asked at) in
      told_one enumerated (told p) (from_one (old_place old hits)) (from_one (stands old (come p) hits))
      ((λ i. tells_between (stood_is i) (place i)) ∙ e)

  -- what is made of some comes to what all come to, or more notices would wait than may: with those that are made, and with all
  abbrev pub Suffices : Bool → ℕ → List EntryUpdate → List EntryUpdate → List Match → Type 0
  Suffices enumerated count made all hits =
      ((after_shifts made hits ≡ after_shifts all hits) × (shifts_notices enumerated made hits ≡ shifts_notices enumerated all hits))
      ⊎ ((notices_pending < count + length (shifts_notices enumerated made hits)) × (notices_pending < count + length (shifts_notices enumerated all hits)))

  one_suffices : (enumerated : Bool) (count next : ℕ) (shift : EntryUpdate) (made all : List EntryUpdate) (hits : List Match) → next ≤ count + length (shift_notices enumerated shift hits)
      → Suffices enumerated next made all (after_shift shift hits) → Suffices enumerated count (shift ∷ made) (shift ∷ all) hits
  one_suffices enumerated count next shift made all hits h (inl e) = inl (e.0, ap (λ ns. shift_notices enumerated shift hits ++ ns) e.1)
  one_suffices enumerated count next shift made all hits h (inr over) =
      let first = shift_notices enumerated shift hits in
      inr (
        omega (arith, h, over.0, length-append first (shifts_notices enumerated made (after_shift shift hits))),
        omega (arith, h, over.1, length-append first (shifts_notices enumerated all (after_shift shift hits))),
      )

  -- one that leaves the list as it is and tells nothing may be left out
  none_suffices : (enumerated : Bool) (count : ℕ) (shift : EntryUpdate) (made all : List EntryUpdate) (hits : List Match) → after_shift shift hits ≡ hits → shift_notices enumerated shift hits ≡ []
      → Suffices enumerated count made all (after_shift shift hits) → Suffices enumerated count made (shift ∷ all) hits
  none_suffices enumerated count shift made all hits same none (inl e) =
      inl (
        ap (after_shifts made) (sym same) ∙ e.0,
        ap (shifts_notices enumerated made) (sym same) ∙ (e.1 ∙ sym (ap (λ ns. ns ++ shifts_notices enumerated all (after_shift shift hits)) none)),
      )
  none_suffices enumerated count shift made all hits same none (inr over) =
      inr (
        omega (arith, over.0, ap (λ hs. length (shifts_notices enumerated made hs)) same),
        omega (arith, over.1, ap (λ ns. length (ns ++ shifts_notices enumerated all (after_shift shift hits))) none),
      )

  -- so it does of those that are due, where all others are found again as they were
  pub suffices : (due : EntryUpdate → Bool) (enumerated : Bool) (first : List Match) (ps : List Path) (hits : List Match) (count : ℕ)
      → AreNamed hits → ((p : Path) → Contains ps p → IsAsked p) → ((p : Path) → Contains ps p → StoodThere hits p) → Apart ps
      → ((p : Path) → Contains ps p → item_at match_cmp (standing p (was p)) hits ≡ item_at match_cmp (standing p (was p)) first)
      → ((p : Path) → due (shift_by p) ≡ false → item_at match_cmp (standing p (was p)) first ≡ come p)
      → Suffices enumerated count (until_full first count (filter due (each shift_by ps))) (each shift_by ps) hits
  suffices due enumerated first [] hits count n a s d f l = inl (refl, refl)
  suffices due enumerated first (p ∷ ps) hits count n a s d f l =
      let asked = a p (Contains-here p ps) in
      let stood = s p (Contains-here p ps) in
      let next = count_with first (shift_by p) count in
      let more = filter due (each shift_by ps) in
      let within = counted_within (surely_tells first (shift_by p)) count (length (shift_notices enumerated (shift_by p) hits)) (λ e.
      surely_told p hits n asked stood enumerated (ap (λ (o : Option Match). tells_between o (come p)) (f p (Contains-here p ps)) ∙ e)) in
      let rest : (m : ℕ) → Suffices enumerated m (until_full first m more) (each shift_by ps) (after_shift (shift_by p) hits) = λ m.
      suffices due enumerated first ps (after_shift (shift_by p) hits) m (next_named p hits n asked stood) (λ q k. a q (Contains-there p q ps k))
      (λ q k. still_there p hits n asked stood q (d.0 q k) (s q (Contains-there p q ps k))) d.1
      (λ q k. still_found p q hits n asked (a q (Contains-there p q ps k)) stood (s q (Contains-there p q ps k)) (d.0 q k) ∙ f q (Contains-there p q ps k)) l in
      elim (due (shift_by p)) as (λ (b : Bool). due (shift_by p) ≡ b
      → Suffices enumerated count (until_full first count (cond b (shift_by p ∷ more) more)) (shift_by p ∷ each shift_by ps) hits) [
        | true ↦ λ _. elim (nat_lt notices_pending count) as (λ b. nat_lt notices_pending count ≡ b
            → Suffices enumerated count (cond b [] (shift_by p ∷ until_full first next more)) (shift_by p ∷ each shift_by ps) hits) [
              | true ↦ λ e. inr (omega (arith, ltb-true _ _ e), omega (arith, ltb-true _ _ e))
              | false ↦ λ e. one_suffices enumerated count next (shift_by p) (until_full first next more) (each shift_by ps) hits within (rest next)
            ] refl
        | false ↦ λ e.
            let again = f p (Contains-here p ps) ∙ l p e in
            let now = apt p hits n asked stood in
            none_suffices enumerated count (shift_by p) (until_full first count more) (each shift_by ps) hits (stays (shift_by p) hits now again) (untold (shift_by p) hits now again enumerated) (rest count)
      ] refl

  pub follow : (ps : List Path) (hits : List Match) → AreNamed hits → ((p : Path) → Contains ps p → IsAsked p) → ((p : Path) → Contains ps p → StoodThere hits p) → Apart ps
      → (after_shifts (each shift_by ps) hits ≡ after_moves told_shape (each move_of ps) hits)
      × ((enumerated : Bool) → shifts_notices enumerated (each shift_by ps) hits ≡ moves_notices told_shape enumerated (each move_of ps) hits)
  follow [] hits n a s d = (refl, λ enumerated. refl)
  follow (p ∷ ps) hits n a s d =
      let asked = a p (Contains-here p ps) in
      let stood = s p (Contains-here p ps) in
      let now = apt p hits n asked stood in
      let same : after_shift (shift_by p) hits ≡ after_move told_shape (move_of p) hits = shift_is (shift_by p) hits now in
      let rest = follow ps (after_shift (shift_by p) hits) (next_named p hits n asked stood) (λ q k. a q (Contains-there p q ps k)) (λ q k. still_there p hits n asked stood q (d.0 q k) (s q (Contains-there p q ps k))) d.1 in (
        rest.0 ∙ ap (after_moves told_shape (each move_of ps)) same,
        λ enumerated.
            ap (λ ns. ns ++ shifts_notices enumerated (each shift_by ps) (after_shift (shift_by p) hits)) (told_is (shift_by p) hits now enumerated)
            ∙ (ap (λ ns. notice_at told_shape enumerated (told p) hits (after_move told_shape (move_of p) hits) ++ ns) (rest.1 enumerated)
            ∙ ap (λ hs. notice_at told_shape enumerated (told p) hits (after_move told_shape (move_of p) hits) ++ moves_notices told_shape enumerated (each move_of ps) hs) same),
      )
