-- Answers are cut at their last SP, and a digest has none.
use Rattle.std.proofs.Common.{◌≡◌, ℕ, zero, suc, ◌/◌, ◌%◌, ◌||◌, Bool, true, false, List, [], ◌∷◌, ◌++◌, length, length-append, slice_index, refl, sym, ap, ◌∙◌, arith}
use Rattle.std.specs.Prelude.{◌↔◌}
use Rattle.std.specs.List.{list_any}
use Rattle.md5.specs.Md5.{md5}
use Rattle.md5.proofs.StandardFacts.{length-md5}
use Rattle.hex.specs.Hex.{encode_with, lower_digits}
use Rattle.hex.proofs.HexLemmas.{length-encode_with}
use Rattle.acap_login.specs.Hmac.{hmac, key_block}
use Rattle.acap_login.specs.Login.{Fits, User, digest_of, answer_of, is_space, space}
use Rattle.acap_login.specs.Laws.{CutLaw, DigestLaw}

-- a digit of the table, or what stands for none, is no SP
not_at : (p : ℕ → Bool) (xs : List ℕ) (n : ℕ) → p 0 ≡ false → list_any p xs ≡ false → p (slice_index xs n) ≡ false
not_at p [] n zeros none = zeros
not_at p (x ∷ xs) zero zeros none = elim (p x) as (λ b. p x ≡ b → (b || list_any p xs) ≡ false → b ≡ false) [ true ↦ λ is h. h | false ↦ λ is h. refl ] refl none
not_at p (x ∷ xs) (suc n) zeros none = not_at p xs n zeros (elim (p x) as (λ b. (b || list_any p xs) ≡ false → list_any p xs ≡ false) [ true ↦ λ h. cc | false ↦ λ h. h ] none)

no_digit : (n : ℕ) → is_space (slice_index lower_digits n) ≡ false
no_digit n = not_at is_space lower_digits n refl refl

unspaced : (bytes : List ℕ) → list_any is_space (encode_with lower_digits bytes) ≡ false
unfolding encode_with
unspaced [] = refl
unspaced (b ∷ rest) = let e = unspaced rest in rw (no_digit (b / 16), no_digit (b % 16)) e

pub no_space : (secret challenge : List ℕ) → list_any is_space (digest_of secret challenge) ≡ false
unfolding digest_of
no_space secret challenge = unspaced (hmac secret challenge)

pub count : (secret challenge : List ℕ) → length (digest_of secret challenge) ≡ 32
unfolding digest_of hmac
count secret challenge =
    let digits = length-encode_with lower_digits (hmac secret challenge) in
    let bytes = length-md5 (key_block 0x5C secret ++ md5 (key_block 0x36 secret ++ challenge)) in
    omega (arith, digits, bytes)

pub digest_law : DigestLaw
digest_law = record { count = count; no_space = no_space }

-- what has an SP after it has an SP
spaced : (front behind : List ℕ) → list_any is_space (front ++ space ∷ behind) ≡ true
spaced [] behind = refl
spaced (x ∷ xs) behind = let e = spaced xs behind in elim (is_space x) as (λ b. (b || list_any is_space (xs ++ space ∷ behind)) ≡ true) [ true ↦ refl | false ↦ e ]

-- two cuts at a last SP are one
one_cut : (front behind front' behind' : List ℕ) → front ++ space ∷ behind ≡ front' ++ space ∷ behind' → list_any is_space behind ≡ false → list_any is_space behind' ≡ false → (front ≡ front') × (behind ≡ behind')
one_cut [] b [] b' e none none' = (refl, cc)
one_cut [] b (y ∷ ys) b' e none none' =
    let tails : b ≡ ys ++ space ∷ b' = cc in
    let has = spaced ys b' in
    let all = ap (list_any is_space) tails in cc
one_cut (x ∷ xs) b [] b' e none none' =
    let tails : xs ++ space ∷ b ≡ b' = cc in
    let has = spaced xs b in
    let all = ap (list_any is_space) tails in cc
one_cut (x ∷ xs) b (y ∷ ys) b' e none none' =
    let heads : x ≡ y = cc in
    let tails : xs ++ space ∷ b ≡ ys ++ space ∷ b' = cc in
    let rest = one_cut xs b ys b' tails none none' in
    let fronts = rest.0 in (cc, rest.1)

pub printed : (challenge answer : List ℕ) (user : User) → Fits challenge answer user ↔ (answer ≡ answer_of challenge user)
printed challenge answer user = (λ f. f.whole, λ e. record { whole = e; last = no_space user.1 challenge })

pub cut_law : CutLaw
cut_law = record {
  one_front = λ text f b f' b' c c'. (one_cut f b f' b' (sym c.whole ∙ c'.whole) c.last c'.last).0;
  one_back = λ text f b f' b' c c'. (one_cut f b f' b' (sym c.whole ∙ c'.whole) c.last c'.last).1;
  printed = printed;
}

-- names and digits apart: where there are as many digits, texts are equal exactly if both parts are
pub parts_apart : (name digits known wanted : List ℕ) → length digits ≡ length wanted → name ++ space ∷ digits ≡ known ++ space ∷ wanted → (name ≡ known) × (digits ≡ wanted)
parts_apart [] d [] w long e = (refl, cc)
parts_apart [] d (y ∷ ys) w long e =
    let all : length (space ∷ d) ≡ length (y ∷ (ys ++ space ∷ w)) = ap length e in
    let more = length-append ys (space ∷ w) in
    absurd (omega (arith, all, more))
parts_apart (x ∷ xs) d [] w long e =
    let all : length (x ∷ (xs ++ space ∷ d)) ≡ length (space ∷ w) = ap length e in
    let more = length-append xs (space ∷ d) in
    absurd (omega (arith, all, more))
parts_apart (x ∷ xs) d (y ∷ ys) w long e =
    let tails : xs ++ space ∷ d ≡ ys ++ space ∷ w = cc in
    let heads : x ≡ y = cc in
    let rest = parts_apart xs d ys w long tails in
    let fronts = rest.0 in (cc, rest.1)
