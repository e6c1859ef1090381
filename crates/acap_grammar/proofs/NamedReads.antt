-- Names and times that were read: a dataset is read back without its closing slash, and a time is a moment.
use Rattle.std.proofs.Common.{◌≡◌, ℕ, ℤ, suc, ◌-◌, ◌<◌, Bool, true, false, List, [], ◌∷◌, ◌++◌, length, take, drop, Some, None, refl, sym, ap, subst, ◌∙◌, arith, length-append, pos}
use Rattle.std.specs.Prelude.{if◌then◌else◌, ◌==◌, nat_le, nat_lt}
use Rattle.std.specs.List.{list_all, slice_split, onto_first}
use Rattle.std.proofs.lemmas.Bool.{and_parts, and_from}
use Rattle.std.proofs.lemmas.Bool.Decides.{nat_tests}
use Rattle.std.proofs.lemmas.List.{take-append-le, take_all}
use borrow.Author.Tests.{eqb-true}
use Rattle.jiff_core.proofs.CalendarLemmas.{day_count_bounds}
use Rattle.jiff_core.proofs.SignedLemmas.{signed_arith}
use Rattle.acap_entries.specs.Moments.{IsMoment}
use Rattle.acap_entries.specs.Stamp.{IsCivil, days_of, clock_of, moment_of}
use Rattle.acap_entries.specs.Names.{is_slash, slash, begins_with, ends_with, is_component, components, is_dataset_argument, with_slash}
use Rattle.acap_entries.specs.Times.{civil_in, is_time, time_of}
use Rattle.acap_entries.specs.declared.stamps.Civil.{Civil}
use Rattle.acap_entries.proofs.StampLemmas.{zero_count}
use Rattle.acap_entries.proofs.TimeLemmas.{civil_by_test}
use Rattle.acap_grammar.specs.Arguments.{dataset_named}
use Rattle.acap_grammar.specs.Sendable.{IsDataset}
use Rattle.acap_grammar.specs.Spelling.{dataset_text}

-- ---- texts that end in an octet

abbrev pub ends_here : ℕ → List ℕ → Bool
ends_here octet [] = false
ends_here octet (x ∷ []) = x == octet
ends_here octet (x ∷ y ∷ ys) = ends_here octet (y ∷ ys)

pub ends_same : (octet : ℕ) (xs : List ℕ) → ends_with octet xs ≡ ends_here octet xs
ends_same octet [] = refl
ends_same octet (x ∷ []) = refl
ends_same octet (x ∷ y ∷ ys) =
    let more : suc (suc (length ys)) - 1 ≡ suc (length ys) = omega arith in
    let less : suc (length ys) - 1 ≡ length ys = omega arith in
    let some : nat_lt 0 (suc (suc (length ys))) ≡ nat_lt 0 (suc (length ys)) = grind (arith, nat_tests) in
    rw (some, more) (rw less at (ends_same octet (y ∷ ys)))

pub with_end : (octet : ℕ) (xs : List ℕ) → ends_here octet xs ≡ true → take (length xs - 1) xs ++ octet ∷ [] ≡ xs
with_end octet [] h = absurd cc
with_end octet (x ∷ []) h = ap (λ (n : ℕ). n ∷ []) (sym (eqb-true x octet h))
with_end octet (x ∷ y ∷ ys) h =
    let more : suc (suc (length ys)) - 1 ≡ suc (length ys) = omega arith in
    let less : suc (length ys) - 1 ≡ length ys = omega arith in
    rw more (ap (λ (t : List ℕ). x ∷ t) (rw less at (with_end octet (y ∷ ys) h)))

pub end_again : (octet : ℕ) (xs : List ℕ) → ends_with octet xs ≡ true → take (length xs - 1) xs ++ octet ∷ [] ≡ xs
end_again octet xs h = with_end octet xs (sym (ends_same octet xs) ∙ h)

pub ends_behind : (octet : ℕ) (xs : List ℕ) → ends_here octet (xs ++ octet ∷ []) ≡ true
ends_behind octet [] = grind (arith, nat_tests)
ends_behind octet (x ∷ []) = grind (arith, nat_tests)
ends_behind octet (x ∷ y ∷ ys) = ends_behind octet (y ∷ ys)

pub without_end : (octet : ℕ) (xs : List ℕ) → take (length (xs ++ octet ∷ []) - 1) (xs ++ octet ∷ []) ≡ xs
without_end octet xs =
    let size : length (xs ++ octet ∷ []) - 1 ≡ length xs = omega (arith, length-append xs (octet ∷ [])) in
    rw size (take-append-le (length xs) xs (octet ∷ []) (omega arith) ∙ take_all (length xs) xs (omega arith))

-- ---- components

pub all_behind : (parts : List (List ℕ)) → list_all is_component parts ≡ true → list_all is_component (drop 1 parts) ≡ true
all_behind [] h = refl
all_behind (c ∷ parts) h = (and_parts (is_component c) (list_all is_component parts) h).1

behind_onto : (x : ℕ) (parts : List (List ℕ)) → drop 1 (onto_first x parts) ≡ drop 1 parts
behind_onto x [] = refl
behind_onto x (c ∷ parts) = refl

-- what stands between slashes, where each part after the first is a component, doesn't end in a slash
pub no_slash_behind : (xs : List ℕ) → list_all is_component (drop 1 (slice_split is_slash xs)) ≡ true → ends_here slash xs ≡ false
unfolding is_component
no_slash_behind [] h = refl
no_slash_behind (x ∷ []) h = by_slash (is_slash x) h where
  by_slash : (b : Bool) → list_all is_component (drop 1 (if b then [] ∷ slice_split is_slash [] else onto_first x (slice_split is_slash []))) ≡ true → b ≡ false
  by_slash true k = absurd cc
  by_slash false k = refl
no_slash_behind (x ∷ y ∷ ys) h = no_slash_behind (y ∷ ys) (by_slash (is_slash x) (slice_split is_slash (y ∷ ys)) h) where
  by_slash : (b : Bool) (parts : List (List ℕ)) → list_all is_component (drop 1 (if b then [] ∷ parts else onto_first x parts)) ≡ true → list_all is_component (drop 1 parts) ≡ true
  by_slash true parts k = all_behind parts k
  by_slash false parts k = ap (list_all is_component) (sym (behind_onto x parts)) ∙ k

pub components_closed : (x : ℕ) (xs : List ℕ) → components (x ∷ (xs ++ slash ∷ [])) ≡ slice_split is_slash xs
unfolding components
components_closed x xs =
    let long : nat_le (length (x ∷ (xs ++ slash ∷ []))) 1 ≡ false = let size = length-append xs (slash ∷ []) in grind (arith, nat_tests, size) in
    let ends : ends_with slash (x ∷ (xs ++ slash ∷ [])) ≡ true = ends_same slash (x ∷ (xs ++ slash ∷ [])) ∙ ends_behind slash (x ∷ xs) in
    rw (long, ends, without_end slash (x ∷ xs)) refl

pub components_open : (x y : ℕ) (ys : List ℕ) → ends_with slash (x ∷ y ∷ ys) ≡ false → components (x ∷ y ∷ ys) ≡ slice_split is_slash (y ∷ ys)
unfolding components
components_open x y ys ends =
    let long : nat_le (length (x ∷ y ∷ ys)) 1 ≡ false = grind (arith, nat_tests) in
    rw (long, ends) refl

-- ---- a dataset without its closing slash

pub record IsArgument (text : List ℕ) : Type 0 where
  pub size : nat_le (length text) 1024 ≡ true
  pub begins : begins_with slash text ≡ true
  pub parts : list_all is_component (components text) ≡ true
  pub few : nat_le (length (components text)) 16 ≡ true

pub argument : (text : List ℕ) → is_dataset_argument text ≡ true → IsArgument text
unfolding is_dataset_argument
argument text h =
    let a = and_parts _ _ h in
    let b = and_parts _ _ a.0 in
    let c = and_parts _ _ b.1 in
    record { size = b.0; begins = c.0; parts = c.1; few = a.1 }

pub by_argument : (text : List ℕ) → IsArgument text → is_dataset_argument text ≡ true
unfolding is_dataset_argument
by_argument text a = and_from _ _ (and_from _ _ a.size (and_from _ _ a.begins a.parts)) a.few

pub some_text : (text : List ℕ) → begins_with slash text ≡ true → 0 < length text
some_text [] h = absurd cc
some_text (x ∷ xs) h = omega arith

-- a text is read as the dataset whose text it is
pub read_back : (text d : List ℕ) → is_dataset_argument text ≡ true → with_slash text ≡ d → dataset_text d ≡ text → IsDataset d
unfolding dataset_named
read_back text d h c s = rw (s, h, c) refl

-- ---- times

pub moment_of_time : (text : List ℕ) (t : ℤ) → time_of text ≡ Some t → IsMoment t
unfolding time_of is_time
moment_of_time text t e = by_time (is_time text) refl e where
  within : (c : Civil) → IsCivil c → IsMoment (moment_of c)
  within c h =
      let bound = day_count_bounds (pos c.year) c.month c.day h.date in
      let days : days_of c < 3_652_425 = omega (arith, bound.1, zero_count) in
      let clock : clock_of c < 86_400_000_000 = omega (arith, h.hour, h.minute, h.second, h.micros) in
      (omega (arith, signed_arith), omega (arith, signed_arith, days, clock))

  by_time : (b : Bool) → is_time text ≡ b → (if b then Some (moment_of (civil_in text)) else None) ≡ Some t → IsMoment t
  by_time true m f = let same : moment_of (civil_in text) ≡ t = cc in subst IsMoment same (within (civil_in text) (civil_by_test (civil_in text) (and_parts _ _ m).1))
  by_time false m f = absurd cc
