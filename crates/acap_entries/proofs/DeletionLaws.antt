-- Which deletions are kept.
use Rattle.std.proofs.Common.{◌≡◌, suc, ◌+◌, ◌-◌, ◌<◌, ◌≤◌, List, [], ◌∷◌, ◌++◌, length, take, drop, Option, Some, refl, sym, ap, ◌∙◌, arith, length-append, length-drop, take-append-drop, append_assoc, append-nil, inl, inr}
use Rattle.std.specs.Prelude.{ℤ, slice_get}
use Rattle.std.proofs.lemmas.List.{drop-append-le}
use Rattle.std.proofs.Math.Seq.{drop-drop}
use Rattle.std.proofs.lemmas.Bool.{cases_lt}
use Rattle.acap_entries.specs.Deletions.{newest_of, others_of, forgotten_of, deletions_at, Remembered, IsAdded}
use Rattle.acap_entries.specs.Laws.{DeletionLaw}
use Rattle.acap_entries.specs.declared.deletions.Deletion.{Deletion}
use Rattle.acap_entries.specs.declared.path.Path.{Path}

whole : (all : List Deletion) → others_of all ++ newest_of all ≡ all
unfolding others_of newest_of
whole all = take-append-drop (length all - 4096) all

few : (all : List Deletion) → length (newest_of all) ≤ 4096
unfolding newest_of
few all = omega (arith, length-drop (length all - 4096) all)

pub kept_whole : (all : List Deletion) → length all ≤ 4096 → newest_of all ≡ all
unfolding newest_of
kept_whole all h = let none : length all - 4096 ≡ 0 = omega arith in rw none refl

none_other : (all : List Deletion) → length all ≤ 4096 → others_of all ≡ []
unfolding others_of
none_other all h = let none : length all - 4096 ≡ 0 = omega arith in rw none refl

pub none_forgotten : (before : Option ℤ) (all : List Deletion) → length all ≤ 4096 → forgotten_of before all ≡ before
unfolding forgotten_of
none_forgotten before all h = rw (none_other all h) refl

last_of : (front : List Deletion) (d : Deletion) → slice_get (front ++ d ∷ []) (length (front ++ d ∷ []) - 1) ≡ Some d
last_of [] d = refl
last_of (x ∷ front) d =
    let less : suc (length (front ++ d ∷ [])) - 1 ≡ suc (length (front ++ d ∷ []) - 1) = omega (arith, length-append front (d ∷ [])) in
    rw less (last_of front d)

front_of : (front : List Deletion) (d : Deletion) (rest : List Deletion) → take (length front + 1) (front ++ d ∷ rest) ≡ front ++ d ∷ []
front_of [] d rest = refl
front_of (x ∷ front) d rest = let more : suc (length front) + 1 ≡ suc (length front + 1) = omega arith in rw more (ap (λ (t : List Deletion). x ∷ t) (front_of front d rest))

pub last_forgotten : (before : Option ℤ) (front : List Deletion) (d : Deletion) (rest : List Deletion) → length rest ≡ 4096 → forgotten_of before (front ++ d ∷ rest) ≡ Some d.moment
unfolding forgotten_of others_of
last_forgotten before front d rest h =
    let many : length (front ++ d ∷ rest) - 4096 ≡ length front + 1 = omega (arith, length-append front (d ∷ rest)) in
    rw (many, front_of front d rest, last_of front d) refl

by_parts : (all more : List Deletion) → newest_of (newest_of all ++ more) ≡ newest_of (all ++ more)
unfolding newest_of
by_parts all more =
    let gone = length all - 4096 in
    let less = length-drop gone all in
    let long = length-append (drop gone all) more in
    let longer = length-append all more in
    let e : gone + (length (drop gone all ++ more) - 4096) ≡ length (all ++ more) - 4096 = omega (arith, less, long, longer) in
    let within : gone ≤ length all = omega arith in
    ap (λ (t : List Deletion). drop (length (drop gone all ++ more) - 4096) t) (sym (drop-append-le gone all more within))
    ∙ drop-drop (length (drop gone all ++ more) - 4096) gone (all ++ more)
    ∙ ap (λ n. drop n (all ++ more)) e

pub deletions_kept : DeletionLaw
deletions_kept = record { whole = whole; few = few; all_of_few = kept_whole; none_of_few = none_forgotten; last_of_others = last_forgotten; by_parts = by_parts }

-- ---- one deletion more

pub added_few : (kept : List Deletion) (d : Deletion) → length kept < 4096 → newest_of (kept ++ d ∷ []) ≡ kept ++ d ∷ []
added_few kept d h = kept_whole (kept ++ d ∷ []) (omega (arith, length-append kept (d ∷ [])))

pub added_few_forgotten : (before : Option ℤ) (kept : List Deletion) (d : Deletion) → length kept < 4096 → forgotten_of before (kept ++ d ∷ []) ≡ before
added_few_forgotten before kept d h = none_forgotten before (kept ++ d ∷ []) (omega (arith, length-append kept (d ∷ [])))

pub added_full : (oldest : Deletion) (rest : List Deletion) (d : Deletion) → length rest + 1 ≡ 4096 → newest_of ((oldest ∷ rest) ++ d ∷ []) ≡ rest ++ d ∷ []
unfolding newest_of
added_full oldest rest d h = let one : length ((oldest ∷ rest) ++ d ∷ []) - 4096 ≡ 1 = omega (arith, length-append rest (d ∷ [])) in rw one refl

pub added_full_forgotten : (before : Option ℤ) (oldest : Deletion) (rest : List Deletion) (d : Deletion) → length rest + 1 ≡ 4096 → forgotten_of before ((oldest ∷ rest) ++ d ∷ []) ≡ Some oldest.moment
added_full_forgotten before oldest rest d h = last_forgotten before [] oldest (rest ++ d ∷ []) (omega (arith, length-append rest (d ∷ [])))

-- ---- one after the other

pub newest_short : (all : List Deletion) → length (newest_of all) ≤ length all
unfolding newest_of
newest_short all = omega (arith, length-drop (length all - 4096) all)

newest_full : (all : List Deletion) → 4096 ≤ length all → length (newest_of all) ≡ 4096
unfolding newest_of
newest_full all h = omega (arith, length-drop (length all - 4096) all)

forgotten_at : (before earlier : Option ℤ) (others newest : List Deletion) (d : Deletion) → length newest ≡ 4096 → forgotten_of earlier (newest ++ d ∷ []) ≡ forgotten_of before ((others ++ newest) ++ d ∷ [])
forgotten_at before earlier others [] d h = absurd (omega arith)
forgotten_at before earlier others (o ∷ rest) d h =
    let long : length (rest ++ d ∷ []) ≡ 4096 = omega (arith, length-append rest (d ∷ [])) in
    last_forgotten earlier [] o (rest ++ d ∷ []) long
    ∙ sym (ap (forgotten_of before) (append_assoc others (o ∷ rest) (d ∷ [])) ∙ last_forgotten before others o (rest ++ d ∷ []) long)

pub forgotten_next : (before : Option ℤ) (all : List Deletion) (d : Deletion) → forgotten_of (forgotten_of before all) (newest_of all ++ d ∷ []) ≡ forgotten_of before (all ++ d ∷ [])
forgotten_next before all d = elim (cases_lt (length all) 4096) [
  | inl few ↦
      let short : length all ≤ 4096 = omega arith in
      rw (kept_whole all short, none_forgotten before all short) refl
  | inr many ↦
      forgotten_at before (forgotten_of before all) (others_of all) (newest_of all) d (newest_full all many)
      ∙ ap (λ (es : List Deletion). forgotten_of before (es ++ d ∷ [])) (whole all)
]

pub added_next : (old mid new : Remembered) (added : List Deletion) (d : Deletion) → IsAdded added old mid → IsAdded (d ∷ []) mid new → IsAdded (added ++ d ∷ []) old new
added_next old mid new added d p q = record {
  kept = q.kept ∙ ap (λ (es : List Deletion). newest_of (es ++ d ∷ [])) p.kept ∙ by_parts (old.kept ++ added) (d ∷ []) ∙ ap newest_of (append_assoc old.kept added (d ∷ []));
  forgotten =
      q.forgotten ∙ ap (λ (es : List Deletion). forgotten_of mid.forgotten (es ++ d ∷ [])) p.kept
      ∙ ap (λ (f : Option ℤ). forgotten_of f (newest_of (old.kept ++ added) ++ d ∷ [])) p.forgotten
      ∙ forgotten_next old.forgotten (old.kept ++ added) d
      ∙ ap (forgotten_of old.forgotten) (append_assoc old.kept added (d ∷ []));
}

pub none_added : (old : Remembered) → length old.kept ≤ 4096 → IsAdded [] old old
none_added old h = record {
  kept = sym (ap newest_of (append-nil old.kept) ∙ kept_whole old.kept h);
  forgotten = sym (ap (forgotten_of old.forgotten) (append-nil old.kept) ∙ none_forgotten old.forgotten old.kept h);
}

pub deletions_more : (paths : List Path) (path : Path) (moment : ℤ) → deletions_at (paths ++ path ∷ []) moment ≡ deletions_at paths moment ++ record { path = path; moment = moment } ∷ []
deletions_more [] path moment = refl
deletions_more (p ∷ paths) path moment = ap (λ (t : List Deletion). record { path = p; moment = moment } ∷ t) (deletions_more paths path moment)

pub deletions_length : (paths : List Path) (moment : ℤ) → length (deletions_at paths moment) ≡ length paths
deletions_length [] moment = refl
deletions_length (p ∷ paths) moment = ap suc (deletions_length paths moment)
