-- What a challenge is made of can be read back.
use Rattle.std.proofs.Common.{◌≡◌, ℕ, ◌+◌, ◌%◌, ◌^◌, ◌<◌, ◌≤◌, ◌==◌, ◌||◌, Bool, true, false, List, [], ◌∷◌, ◌++◌, refl, sym, ap, ◌∙◌, arith, append_assoc}
use Rattle.std.specs.Prelude.{decimal}
use Rattle.std.specs.List.{list_any}
use Rattle.std.proofs.lemmas.Bool.Decides.{Decides-eqb}
use Rattle.std.proofs.lemmas.List.{append_cancel_right}
use Rattle.std.proofs.lemmas.List.Folds.{list_any-append}
use Rattle.std.proofs.lemmas.Fmt.{decimal_by_steps, decimal_injective}
use Rattle.acap_login.specs.Login.{challenge_of}
use Rattle.acap_login.specs.Laws.{ChallengeLaw}

-- whether a mark stands in a text
abbrev has : ℕ → List ℕ → Bool
has mark text = list_any (λ x. x == mark) text

not_first : (mark y : ℕ) (ys : List ℕ) → has mark (y ∷ ys) ≡ false → ¬ (y ≡ mark)
not_first mark y ys none = λ e.
    let same : (y == mark) ≡ true = (Decides-eqb y mark).1 e in
    let has_it = ap (λ (b : Bool). b || has mark ys) same in cc

not_behind : (mark y : ℕ) (ys : List ℕ) → has mark (y ∷ ys) ≡ false → has mark ys ≡ false
not_behind mark y ys none = elim (y == mark) as (λ b. (b || has mark ys) ≡ false → has mark ys ≡ false) [ true ↦ λ h. cc | false ↦ λ h. h ] none

-- two cuts at the first of a mark are one
first_cut : (mark : ℕ) (front behind front' behind' : List ℕ) → has mark front ≡ false → has mark front' ≡ false → front ++ mark ∷ behind ≡ front' ++ mark ∷ behind' → (front ≡ front') × (behind ≡ behind')
first_cut mark [] b [] b' none none' e = (refl, cc)
first_cut mark [] b (y ∷ ys) b' none none' e = let head : y ≡ mark = cc in absurd (not_first mark y ys none' head)
first_cut mark (x ∷ xs) b [] b' none none' e = let head : x ≡ mark = cc in absurd (not_first mark x xs none head)
first_cut mark (x ∷ xs) b (y ∷ ys) b' none none' e =
    let heads : x ≡ y = cc in
    let tails : xs ++ mark ∷ b ≡ ys ++ mark ∷ b' = cc in
    let rest = first_cut mark xs b ys b' (not_behind mark x xs none) (not_behind mark y ys none') tails in
    let fronts = rest.0 in (cc, rest.1)

-- a mark above the digits, or below them, stands in no number
no_dot : (n : ℕ) → n < 2 ^ 64 → has 46 (decimal n) ≡ false
no_dot = decimal_by_steps (λ n text. has 46 text ≡ false) (λ n h. grind arith) (λ n text h e. rw (list_any-append, e) (grind arith))

no_at : (n : ℕ) → n < 2 ^ 64 → has 64 (decimal n) ≡ false
no_at = decimal_by_steps (λ n text. has 64 text ≡ false) (λ n h. let small : 48 + n ≤ 57 = omega arith in grind arith) (λ n text h e. let small : 48 + n % 10 ≤ 57 = omega arith in rw (list_any-append, e) (grind arith))

-- the text from the left
nested : (nonce seconds : ℕ) (host : List ℕ) → challenge_of nonce seconds host ≡ 60 ∷ (decimal nonce ++ 46 ∷ (decimal seconds ++ 64 ∷ (host ++ 62 ∷ [])))
unfolding challenge_of
nested nonce seconds host = simp append_assoc

parts : (n s : ℕ) (h : List ℕ) (n' s' : ℕ) (h' : List ℕ) → n < 2 ^ 64 → n' < 2 ^ 64 → s < 2 ^ 64 → s' < 2 ^ 64 → challenge_of n s h ≡ challenge_of n' s' h' → (n ≡ n') × (s ≡ s') × (h ≡ h')
parts n s h n' s' h' fits fits' time time' e =
    let same : 60 ∷ (decimal n ++ 46 ∷ (decimal s ++ 64 ∷ (h ++ 62 ∷ []))) ≡ 60 ∷ (decimal n' ++ 46 ∷ (decimal s' ++ 64 ∷ (h' ++ 62 ∷ []))) = sym (nested n s h) ∙ e ∙ nested n' s' h' in
    let nonces = first_cut 46 (decimal n) (decimal s ++ 64 ∷ (h ++ 62 ∷ [])) (decimal n') (decimal s' ++ 64 ∷ (h' ++ 62 ∷ [])) (no_dot n fits) (no_dot n' fits') cc in
    let times = first_cut 64 (decimal s) (h ++ 62 ∷ []) (decimal s') (h' ++ 62 ∷ []) (no_at s time) (no_at s' time') nonces.1 in
    (decimal_injective n n' fits fits' nonces.0, decimal_injective s s' time time' times.0, append_cancel_right h h' (62 ∷ []) times.1)

pub challenge_law : ChallengeLaw
challenge_law = record {
  one_nonce = λ n s h n' s' h' a b c d e. (parts n s h n' s' h' a b c d e).0;
  one_time = λ n s h n' s' h' a b c d e. (parts n s h n' s' h' a b c d e).1;
  one_host = λ n s h n' s' h' a b c d e. (parts n s h n' s' h' a b c d e).2;
}
