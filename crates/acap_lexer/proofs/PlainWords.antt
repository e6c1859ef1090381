-- How many octets at the front stand for themselves, from the mask of those that don't.
use Rattle.std.proofs.Common.{◌≡◌, ℕ, ◌+◌, ◌*◌, ◌%◌, ◌^◌, ◌<◌, ◌≤◌, Bool, true, false, cond, eqb, List, [], ◌∷◌, map, length, drop, refl, sym, ap, ap₂, ◌∙◌, arith, w8, Fits}
use Rattle.std.specs.Prelude.{not}
use Rattle.std.specs.List.{prefix_len}
use Rattle.std.proofs.lemmas.Bool.{eq-eqb, ne_eqb}
use Rattle.std.proofs.lemmas.List.{length-drop, length-map}
use Rattle.std.proofs.lemmas.List.Folds.{prefix_len-append}
use Rattle.std.proofs.lemmas.List.Sums.{prefix_len-le-length}
use Rattle.std.proofs.lemmas.Simd.{chunk-drop, length-chunk, leading_from_mask_l, trailing_mask_l, mask_l-mod}
use lib.Count.{count_trailing_zeros}
use lib.Lanes.{chunk, mask_l, top, Each1}
use Rattle.acap_lexer.specs.Octets.{is_quotable, is_special}
use Rattle.acap_lexer.proofs.Classes.{agree_below, agree_at}

-- ---- the mask

abbrev pub hit : ℕ → ℕ → ℕ
hit a b = cond (eqb a b) 255 0

tops : (f : ℕ → ℕ) (p : ℕ → Bool) → agree_below (λ x. top 7 (f x)) p 256 ≡ true → (v : List ℕ) → Each1 (Fits w8) v → map (top 7) (map f v) ≡ map p v
tops f p all [] fits = refl
tops f p all (x ∷ xs) fits = ap₂ (λ a b. a ∷ b) (agree_at _ _ 256 all x fits.0.fits) (tops f p all xs fits.1)

pub masked : (f : ℕ → ℕ) (p : ℕ → Bool) (v z : List ℕ) → length v ≤ 64 → Each1 (Fits w8) v → z ≡ map f v → agree_below (λ x. top 7 (f x)) p 256 ≡ true
    → mask_l (map (top 7) z) % 2 ^ 64 ≡ mask_l (map p v)
masked f p v z short fits e all =
    ap (λ l. mask_l l % 2 ^ 64) (ap (map (top 7)) e ∙ tops f p all v fits) ∙ mask_l-mod (map p v) 64 (omega (arith, length-map v p))

-- ---- the front

not-not : (b : Bool) → b ≡ not (not b)
not-not true = refl
not-not false = refl

same_front : (xs : List ℕ) → prefix_len is_quotable xs ≡ prefix_len (λ x. not (is_special x)) xs
same_front [] = refl
same_front (x ∷ xs) = ap₂ (λ b n. cond b (1 + n) 0) (not-not (is_quotable x)) (same_front xs)

none_special : (b : Bool) (n l m : ℕ) → n ≤ l → cond b (1 + n) 0 ≡ 1 + l → (n ≡ l → m ≡ 0) → cond (not b) 1 0 + 2 * m ≡ 0
none_special false n l m le e later = let no : ⊥ = omega arith in absurd no
none_special true n l m le e later = let z = later (omega arith) in omega arith

all_pass : (xs : List ℕ) → prefix_len is_quotable xs ≡ length xs → mask_l (map is_special xs) ≡ 0
all_pass [] e = refl
all_pass (x ∷ xs) e = none_special (is_quotable x) _ (length xs) _ (prefix_len-le-length is_quotable xs) (omega arith) (all_pass xs)

split : (text : List ℕ) (i n : ℕ) → prefix_len is_quotable (drop i text)
    ≡ cond (eqb (prefix_len is_quotable (chunk i n text)) (length (chunk i n text))) (length (chunk i n text) + prefix_len is_quotable (drop (i + n) text)) (prefix_len is_quotable (chunk i n text))
split text i n = ap (prefix_len is_quotable) (chunk-drop i n text) ∙ prefix_len-append is_quotable (chunk i n text) (drop (i + n) text)

pub goes_through : (text : List ℕ) (i n : ℕ) → i + n ≤ length text → mask_l (map is_special (chunk i n text)) ≡ 0
    → prefix_len is_quotable (drop i text) ≡ n + prefix_len is_quotable (drop (i + n) text)
goes_through text i n room none =
    let word = chunk i n text in
    split text i n ∙ ap (λ b. cond b (length word + prefix_len is_quotable (drop (i + n) text)) (prefix_len is_quotable word)) (eq-eqb _ _ (same_front word ∙ leading_from_mask_l is_special word none))
    ∙ ap (λ k. k + prefix_len is_quotable (drop (i + n) text)) (length-chunk i n text room)

pub stops_within : (text : List ℕ) (i n : ℕ) → i + n ≤ length text → n ≤ 64 → 0 < mask_l (map is_special (chunk i n text))
    → prefix_len is_quotable (drop i text) ≡ count_trailing_zeros 64 (mask_l (map is_special (chunk i n text)))
stops_within text i n room short some =
    let word = chunk i n text in
    split text i n
    ∙ ap (λ b. cond b (length word + prefix_len is_quotable (drop (i + n) text)) (prefix_len is_quotable word)) (ne_eqb _ _ (λ (e : prefix_len is_quotable word ≡ length word). omega (arith, all_pass word e)))
    ∙ same_front word ∙ sym (trailing_mask_l is_special 64 word (omega (arith, length-chunk i n text room)) some)

pub front_within : (text : List ℕ) (i : ℕ) → i ≤ length text → i + prefix_len is_quotable (drop i text) ≤ length text
front_within text i h = omega (arith, prefix_len-le-length is_quotable (drop i text), length-drop i text)
