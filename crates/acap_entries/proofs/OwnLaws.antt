-- What the own entry of a dataset is.
use Rattle.std.proofs.Common.{◌≡◌, ℕ, zero, suc, ◌<◌, ◌≤◌, Bool, true, false, not, cond, ◌&&◌, ◌||◌, List, [], ◌∷◌, ◌++◌, length, get_or, Option, Some, None, refl, sym, ap, subst, ◌∙◌, arith, append_assoc}
use Rattle.std.specs.Prelude.{take, drop, ◌-◌, ◌==◌}
use Rattle.std.proofs.lemmas.List.{length-append}
use Rattle.std.proofs.lemmas.List.Sums.{suffix_len_is}
use Rattle.std.proofs.Math.ListN.{take-append-drop}
use Rattle.std.proofs.Math.Seq.{take-append_seam}
use Rattle.std.proofs.lemmas.Bool.{and_from}
use Rattle.std.specs.Cmp.{first_so, second_so}
use Rattle.std.specs.List.{suffix_len}
use Rattle.std.proofs.Math.Bool.{or-false}
use Rattle.acap_entries.specs.FullPaths.{full_path, IsSplit}
use Rattle.acap_entries.specs.Laws.{OwnEntryLaw}
use Rattle.acap_entries.specs.Names.{slash, is_slash, has, begins_with, ends_with, own_entry, dataset_len, dataset_of, name_of}
use Rattle.acap_entries.specs.declared.path.Path.{Path}
use Rattle.acap_entries.proofs.NameLemmas.{closed_behind, closed_again, closed_by_slash, same_parts}

-- how many octets there are through the last slash
pub cut : List ℕ → ℕ
cut [] = 0
cut (x ∷ xs) = cond (has slash xs) (suc (cut xs)) (cond (x == slash) 1 0)

cut_none : (xs : List ℕ) → has slash xs ≡ false → cut xs ≡ 0
unfolding cut
cut_none [] = λ h. refl
cut_none (x ∷ xs) = elim (x == slash) as (λ b. b || has slash xs ≡ false → cond (has slash xs) (suc (cut xs)) (cond b 1 0) ≡ 0) [
  | true ↦ λ h. cc
  | false ↦ λ h. ap (λ b. cond b (suc (cut xs)) 0) h
]

cut_some : (xs : List ℕ) → has slash xs ≡ true → 0 < cut xs
unfolding cut
cut_some [] h = cc
cut_some (x ∷ xs) h = elim (has slash xs) as (λ b. (x == slash) || b ≡ true → 0 < cond b (suc (cut xs)) (cond (x == slash) 1 0)) [
  | true ↦ λ g. omega arith
  | false ↦ λ g. let here : (x == slash) ≡ true = sym (or-false (x == slash)) ∙ g in subst (λ b. 0 < cond b 1 0) (sym here) (omega arith)
] h

cut_within : (xs : List ℕ) → cut xs ≤ length xs
unfolding cut
cut_within [] = omega arith
cut_within (x ∷ xs) = elim (has slash xs) as (λ b. cond b (suc (cut xs)) (cond (x == slash) 1 0) ≤ suc (length xs)) [
  | true ↦ omega (arith, cut_within xs)
  | false ↦ elim (x == slash) as (λ b. cond b 1 0 ≤ suc (length xs)) [ true ↦ omega arith | false ↦ omega arith ]
]

-- after them there is no slash
behind : (xs : List ℕ) (k : ℕ) → cut xs ≤ k → k < length xs → not (is_slash (get_or xs k 0)) ≡ true
unfolding cut
behind [] k = λ p q. absurd (omega (arith, q))
behind (x ∷ xs) zero = elim (has slash xs) as (λ b. has slash xs ≡ b → cond b (suc (cut xs)) (cond (x == slash) 1 0) ≤ 0 → 0 < suc (length xs) → not (x == slash) ≡ true) [
  | true ↦ λ h p q. absurd (omega (arith, p))
  | false ↦ λ h. elim (x == slash) as (λ b. cond b 1 0 ≤ 0 → 0 < suc (length xs) → not b ≡ true) [
    | true ↦ λ p q. absurd (omega (arith, p))
    | false ↦ λ p q. refl
  ]
] refl
behind (x ∷ xs) (suc k) = elim (has slash xs) as (λ b. has slash xs ≡ b → cond b (suc (cut xs)) (cond (x == slash) 1 0) ≤ suc k → suc k < suc (length xs) → not (is_slash (get_or xs k 0)) ≡ true) [
  | true ↦ λ h p q. behind xs k (omega (arith, p)) (omega (arith, q))
  | false ↦ λ h p q. let none = cut_none xs h in behind xs k (omega (arith, none)) (omega (arith, q))
] refl

-- and they end in one
last_later : (x : ℕ) (xs : List ℕ) (n : ℕ) → cut xs ≡ n → 0 < n → not (is_slash (get_or xs (n - 1) 0)) ≡ false → not (is_slash (get_or (x ∷ xs) (suc n - 1) 0)) ≡ false
last_later x xs zero c p e = absurd (omega (arith, p))
last_later x xs (suc n) c p e =
    let one : suc (suc n) - 1 ≡ suc n = omega arith in
    let less : suc n - 1 ≡ n = omega arith in
    ap (λ m. not (is_slash (get_or (x ∷ xs) m 0))) one ∙ sym (ap (λ m. not (is_slash (get_or xs m 0))) less) ∙ e

last_is : (xs : List ℕ) → 0 < cut xs → not (is_slash (get_or xs (cut xs - 1) 0)) ≡ false
unfolding cut
last_is [] = λ p. absurd (omega (arith, p))
last_is (x ∷ xs) = elim (has slash xs) as (λ b. has slash xs ≡ b → 0 < cond b (suc (cut xs)) (cond (x == slash) 1 0) → not (is_slash (get_or (x ∷ xs) (cond b (suc (cut xs)) (cond (x == slash) 1 0) - 1) 0)) ≡ false) [
  | true ↦ λ h p. last_later x xs (cut xs) refl (cut_some xs h) (last_is xs (cut_some xs h))
  | false ↦ λ h. elim (x == slash) as (λ b. (x == slash) ≡ b → 0 < cond b 1 0 → not (is_slash (get_or (x ∷ xs) (cond b 1 0 - 1) 0)) ≡ false) [
    | true ↦ λ e p. ap not e
    | false ↦ λ e p. absurd (omega (arith, p))
  ] refl
] refl

cut_is : (xs : List ℕ) → dataset_len xs ≡ cut xs
cut_is xs =
    let behind_is : suffix_len (λ octet. not (is_slash octet)) xs ≡ length xs - cut xs = suffix_len_is (λ octet. not (is_slash octet)) xs (cut xs) 0 (cut_within xs) (behind xs) (last_is xs) in
    let within = cut_within xs in
    omega (arith, behind_is, within)

pub cut_closed : (xs : List ℕ) → has slash xs ≡ true → ends_with slash (take (cut xs) xs) ≡ true
unfolding cut
cut_closed [] = λ h. cc
cut_closed (x ∷ xs) = elim (has slash xs) as (λ b. has slash xs ≡ b → (x == slash) || b ≡ true → ends_with slash (take (cond b (suc (cut xs)) (cond (x == slash) 1 0)) (x ∷ xs)) ≡ true) [
  | true ↦ λ h g. closed_behind (x ∷ []) (take (cut xs) xs) (cut_closed xs h)
  | false ↦ λ h g. let here : (x == slash) ≡ true = sym (or-false (x == slash)) ∙ g in ap (λ b. ends_with slash (take (cond b 1 0) (x ∷ xs))) here ∙ here
] refl

pub cut_begins : (x : ℕ) (xs : List ℕ) → (x == slash) ≡ true → begins_with slash (take (cut (x ∷ xs)) (x ∷ xs)) ≡ true
unfolding cut
cut_begins x xs e = elim (has slash xs) as (λ b. begins_with slash (take (cond b (suc (cut xs)) (cond (x == slash) 1 0)) (x ∷ xs)) ≡ true) [
  | true ↦ e
  | false ↦ ap (λ b. begins_with slash (take (cond b 1 0) (x ∷ xs))) e ∙ e
]

pub dataset_cut : (path : List ℕ) → dataset_of path ≡ take (cut path) path
unfolding dataset_of
dataset_cut path = ap (λ n. take n path) (cut_is path)

-- after them there is a name
cut_plain : (xs : List ℕ) → has slash (drop (cut xs) xs) ≡ false
unfolding cut
cut_plain [] = refl
cut_plain (x ∷ xs) = elim (has slash xs) as (λ b. has slash xs ≡ b → has slash (drop (cond b (suc (cut xs)) (cond (x == slash) 1 0)) (x ∷ xs)) ≡ false) [
  | true ↦ λ h. cut_plain xs
  | false ↦ λ h. elim (x == slash) as (λ b. (x == slash) ≡ b → has slash (drop (cond b 1 0) (x ∷ xs)) ≡ false) [
    | true ↦ λ e. h
    | false ↦ λ e. ap (λ b. b || has slash xs) e ∙ h
  ] refl
] refl

name_plain : (path : List ℕ) → has slash (name_of path) ≡ false
unfolding name_of
name_plain path = ap (λ n. has slash (drop n path)) (cut_is path) ∙ cut_plain path

path_whole : (path : List ℕ) → dataset_of path ++ name_of path ≡ path
unfolding dataset_of name_of
path_whole path = take-append-drop (dataset_len path) path

-- ---- the law

own_parts : (b : Bool) (x y m n : List ℕ) → cond {A = Option (List ℕ × List ℕ)} b (Some (x, y)) None ≡ Some (m, n) → (b ≡ true) × ((x ≡ m) × (y ≡ n))
own_parts true x y m n e = let same : ◌≡◌ {A = List ℕ × List ℕ} (x, y) (m, n) = cc in (refl, (ap (λ (p : List ℕ × List ℕ). p.0) same, ap (λ (p : List ℕ × List ℕ). p.1) same))
own_parts false x y m n e = absurd (cc (e))

has_within : (xs ys : List ℕ) → has slash (xs ++ slash ∷ ys) ≡ true
has_within [] ys = refl
has_within (x ∷ xs) ys = elim (x == slash) as (λ b. b || has slash (xs ++ slash ∷ ys) ≡ true) [ true ↦ refl | false ↦ has_within xs ys ]

has_end : (xs ys : List ℕ) → ends_with slash xs ≡ true → has slash (xs ++ ys) ≡ true
has_end xs ys e = ap (λ zs. has slash (zs ++ ys)) (sym (closed_again xs e)) ∙ (ap (has slash) (append_assoc (take (length xs - 1) xs) (slash ∷ []) ys) ∙ has_within (take (length xs - 1) xs) ys)

own_is : (d : List ℕ) (p : Path) → own_entry d ≡ Some (p.dataset, p.name) → IsSplit p × (full_path p ++ slash ∷ [] ≡ d)
own_is d p e =
    let path = take (length d - 1) d in
    let parts = own_parts (ends_with slash d && ends_with slash (dataset_of path)) (dataset_of path) (name_of path) p.dataset p.name e in
    let whole : path ++ slash ∷ [] ≡ d = closed_again d (first_so _ _ parts.0) in (
      record {
        dataset = sym (ap (ends_with slash) parts.1.0) ∙ second_so _ _ parts.0;
        name = sym (ap (has slash) parts.1.1) ∙ name_plain path;
      },
      (λ i. (sym parts.1.0 i ++ sym parts.1.1 i) ++ slash ∷ []) ∙ (ap (λ path. path ++ slash ∷ []) (path_whole path) ∙ whole),
    )

before_last : (xs : List ℕ) → take (length (xs ++ slash ∷ []) - 1) (xs ++ slash ∷ []) ≡ xs
before_last xs =
    let less : length (xs ++ slash ∷ []) - 1 ≡ length xs = omega (arith, length-append xs (slash ∷ [])) in
    ap (λ n. take n (xs ++ slash ∷ [])) less ∙ take-append_seam xs (slash ∷ [])

is_own : (p : Path) → IsSplit p → own_entry (full_path p ++ slash ∷ []) ≡ Some (p.dataset, p.name)
is_own p h =
    let path = full_path p in
    let whole = before_last path in
    let some : has slash path ≡ true = has_end p.dataset p.name h.dataset in
    let ends : ends_with slash (dataset_of path) ≡ true = ap (ends_with slash) (dataset_cut path) ∙ cut_closed path some in
    let same = same_parts (dataset_of path) p.dataset (name_of path) p.name (name_plain path) h.name ends h.dataset (path_whole path) in
    ap (λ t. cond (ends_with slash (path ++ slash ∷ []) && ends_with slash (dataset_of t)) (Some (dataset_of t, name_of t)) None) whole
    ∙ (ap (λ b. cond b (Some (dataset_of path, name_of path)) None) (and_from _ _ (closed_by_slash path) ends)
    ∙ (λ i. Some (same.0 i, same.1 i)))

pub own_entry_law : OwnEntryLaw
own_entry_law d p = (own_is d p, λ h. ap own_entry (sym h.1) ∙ is_own p h.0)
