-- Texts between slashes, and UTF-8 as a test.
use Rattle.std.proofs.Common.{◌≡◌, ℕ, suc, ◌+◌, ◌<◌, ◌≤◌, Bool, true, false, not, cond, List, [], ◌∷◌, ◌++◌, ◌-◌, zero, length, take, drop, length-drop, Some, None, Result, Ok, Err, MatchResult, refl, sym, ap, ◌∙◌, arith}
use Rattle.std.proofs.lemmas.Bool.{ltb-true, ltb-false, and_parts, false≢true}
use Rattle.std.proofs.lemmas.Bool.Decides.{nat_tests}
use borrow.Author.Tests.{eqb-true}
use Rattle.std.specs.Prelude.{nat_lt, count_by, slice_index, ◌==◌, ◌||◌, nat_eq, codes}
use Rattle.std.specs.Result.{is_ok}
use Rattle.std.specs.List.{starts_with, slice_split, position, position_or_len, suffix_len}
use Rattle.std.specs.Str.{IsUtf8, is_utf8}
use Rattle.std.proofs.lemmas.Str.{is_utf8-from_IsUtf8, IsUtf8-from_is_utf8}
use Rattle.std.proofs.Common.{Bor, Iter, MatchOption, reverse, subst, Option}
use Rattle.std.proofs.lemmas.List.{length-reverse, reverse-append}
use Rattle.std.specs.Fn.{Mut, Called}
use Rattle.std.specs.Slice.Iter.{iter_rest, iter_steps_back}
use Rattle.std.specs.Iterator.{FindsPositionBack}
use Rattle.std.proofs.lemmas.Iterator.{YieldsList}
use Rattle.std.proofs.lemmas.Iterator.Consumers.{YieldsList-from_shown}
use Rattle.std.proofs.lemmas.Iterator.Search.{position_from_yields_List}
use Rattle.std.proofs.lemmas.List.Splits.{length-slice_split}
use Rattle.std.proofs.Math.Bool.{or-true}
use Rattle.acap_entries.specs.Names.{is_slash, slash, ends_with, begins_with, has, is_path, dataset_of}
use Rattle.acap_entries.specs.Homes.{for_user, is_home, second_at}

abbrev pub behind_slash : List ℕ → ℕ
behind_slash xs = suffix_len (λ octet. not (is_slash octet)) xs

-- the last slash stands at an index, or there is none
abbrev pub LastSlash : List ℕ → Option ℕ → Type 0
LastSlash xs r = MatchOption r (length xs ≤ behind_slash xs) (λ i. i + 1 + behind_slash xs ≡ length xs)

found_behind : (xs : List ℕ) (n : ℕ) → Some n ≡ cond (nat_lt (position_or_len is_slash (reverse xs)) (length (reverse xs))) (Some (position_or_len is_slash (reverse xs))) None → behind_slash xs ≡ n
found_behind xs n = elim (nat_lt (position_or_len is_slash (reverse xs)) (length (reverse xs))) as (λ b. Some n ≡ cond b (Some (position_or_len is_slash (reverse xs))) None → behind_slash xs ≡ n) [ true ↦ λ e. cc | false ↦ λ e. cc ]

found_nowhere : (xs : List ℕ) → None ≡ cond (nat_lt (position_or_len is_slash (reverse xs)) (length (reverse xs))) (Some (position_or_len is_slash (reverse xs))) None → length xs ≤ behind_slash xs
found_nowhere xs = elim (nat_lt (position_or_len is_slash (reverse xs)) (length (reverse xs))) as (λ b. nat_lt (position_or_len is_slash (reverse xs)) (length (reverse xs)) ≡ b → None ≡ cond b (Some (position_or_len is_slash (reverse xs))) None → length xs ≤ behind_slash xs) [
  | true ↦ λ t e. cc
  | false ↦ λ t e. let last = ltb-false _ _ t in omega (arith, last, length-reverse xs)
] refl

from_the_end : {s : Iter ℕ} (xs : List ℕ) → iter_rest s ≡ xs → YieldsList iter_steps_back (λ y. y.now) s (reverse xs)
from_the_end {s} xs rest = subst (λ ys. YieldsList iter_steps_back (λ y. y.now) s (reverse ys)) rest
    (YieldsList-from_shown iter_steps_back (λ y. y.now) (λ t. reverse (iter_rest t)) (λ t v p. length-reverse _ ∙ p.0)
    (λ t x v p. ap reverse p ∙ reverse-append (iter_rest v) (x.now ∷ [])) s)

-- what `rposition` answers says how many octets stand after the last slash
module _ {F : Type 0} {g : Mut F (Bor ℕ × Unit {0}) Bool} {s u : Iter ℕ} {f : F} (xs : List ℕ) (rest : iter_rest s ≡ xs) (k : (x : Bor ℕ) (b : Bool) (q : F) → Called g f (x, tt) b q → (q ≡ f) × (b ≡ is_slash x.now)) where
  pub last_slash : (n : ℕ) (r : Option ℕ) → FindsPositionBack iter_steps_back g s f n r u → n ≡ length xs → LastSlash xs r
  last_slash n r (seen, None, j, y, c, m) same = subst (LastSlash xs) (sym m) (found_nowhere xs (position_from_yields_List is_slash u f None (seen, None, j, y, c, refl) (from_the_end xs rest) k))
  last_slash n None (seen, Some x, j, y, c, m) same = absurd m.0
  last_slash n (Some i) (seen, Some x, j, y, c, m) same =
      let at : i + 1 + length seen ≡ n = m.0 in
      let behind = found_behind xs (length seen) (position_from_yields_List is_slash u f (Some (length seen)) (seen, Some x, j, y, c, (refl, m.1)) (from_the_end xs rest) k) in
      omega (arith, at, behind, same)

-- a first slash stands within the text
pub slash_within : (xs : List ℕ) (at : ℕ) → position is_slash xs ≡ Some at → at < length xs
slash_within xs at = elim (nat_lt (position_or_len is_slash xs) (length xs)) as (λ b. nat_lt (position_or_len is_slash xs) (length xs) ≡ b → cond b (Some (position_or_len is_slash xs)) None ≡ Some at → at < length xs) [
  | true ↦ λ lt e. let same : position_or_len is_slash xs ≡ at = cc in let below : position_or_len is_slash xs < length xs = ltb-true _ _ lt in omega arith
  | false ↦ λ lt e. cc
] refl

pub part_count : (xs : List ℕ) → length (slice_split is_slash xs) ≡ count_by is_slash xs + 1
part_count = length-slice_split is_slash

is_tested : (bs : List ℕ) (b : Bool) → (b ≡ true → is_utf8 bs ≡ true) → (is_utf8 bs ≡ true → b ≡ true) → b ≡ is_utf8 bs
is_tested bs true f g = sym (f refl)
is_tested bs false f g = elim (is_utf8 bs) as (λ t. (t ≡ true → false ≡ true) → false ≡ t) [ true ↦ λ h. h refl | false ↦ λ h. refl ] g

-- what `from_utf8` answers is the test
pub utf8_test : {S E : Type 0} (bs : List ℕ) (r : Result S E) (P : S → Type 0) (Q : E → Type 0) → MatchResult r (λ s. P s × IsUtf8 bs) (λ e. (IsUtf8 bs → ⊥) × Q e) → is_ok r ≡ is_utf8 bs
utf8_test bs (Ok s) P Q h = sym (is_utf8-from_IsUtf8 bs h.1)
utf8_test bs (Err e) P Q h = is_tested bs false (λ f. cc) (λ t. absurd (h.0 (IsUtf8-from_is_utf8 bs t)))

-- ---- octets that end in a slash

abbrev ends_here : List ℕ → Bool
ends_here [] = false
ends_here (x ∷ []) = x == slash
ends_here (x ∷ y ∷ ys) = ends_here (y ∷ ys)

ends_same : (xs : List ℕ) → ends_with slash xs ≡ ends_here xs
ends_same [] = refl
ends_same (x ∷ []) = refl
ends_same (x ∷ y ∷ ys) =
    let more : suc (suc (length ys)) - 1 ≡ suc (length ys) = omega arith in
    let less : suc (length ys) - 1 ≡ length ys = omega arith in
    let some : nat_lt 0 (suc (suc (length ys))) ≡ nat_lt 0 (suc (length ys)) = grind (arith, nat_tests) in
    let tail : slice_index (x ∷ y ∷ ys) (suc (length ys)) ≡ slice_index (y ∷ ys) (length ys) = refl in
    rw (some, more) (rw less at (ends_same (y ∷ ys)))

behind : (xs ys : List ℕ) → ends_here ys ≡ true → ends_here (xs ++ ys) ≡ true
behind [] ys h = h
behind (x ∷ []) [] h = cc
behind (x ∷ []) (y ∷ ys) h = h
behind (x ∷ z ∷ xs) ys h = behind (z ∷ xs) ys h

dropped : (n : ℕ) (xs : List ℕ) → n < length xs → ends_here xs ≡ true → ends_here (drop n xs) ≡ true
dropped zero xs lt h = h
dropped (suc n) [] lt h = absurd (omega arith)
dropped (suc n) (x ∷ []) lt h = absurd (omega arith)
dropped (suc n) (x ∷ y ∷ xs) lt h = dropped n (y ∷ xs) (omega arith) h

without_end : (xs : List ℕ) → ends_here xs ≡ true → take (length xs - 1) xs ++ slash ∷ [] ≡ xs
without_end [] h = cc
without_end (x ∷ []) h = ap (λ n. n ∷ []) (sym (eqb-true x slash h))
without_end (x ∷ y ∷ ys) h =
    let more : suc (suc (length ys)) - 1 ≡ suc (length ys) = omega arith in
    let less : suc (length ys) - 1 ≡ length ys = omega arith in
    rw more (ap (λ (t : List ℕ). x ∷ t) (rw less at (without_end (y ∷ ys) h)))

pub closed_behind : (xs ys : List ℕ) → ends_with slash ys ≡ true → ends_with slash (xs ++ ys) ≡ true
closed_behind xs ys h = ends_same (xs ++ ys) ∙ behind xs ys (sym (ends_same ys) ∙ h)

pub closed_dropped : (n : ℕ) (xs : List ℕ) → n < length xs → ends_with slash xs ≡ true → ends_with slash (drop n xs) ≡ true
closed_dropped n xs lt h = ends_same (drop n xs) ∙ dropped n xs lt (sym (ends_same xs) ∙ h)

pub closed_again : (xs : List ℕ) → ends_with slash xs ≡ true → take (length xs - 1) xs ++ slash ∷ [] ≡ xs
closed_again xs h = without_end xs (sym (ends_same xs) ∙ h)

pub closed_by_slash : (xs : List ℕ) → ends_with slash (xs ++ slash ∷ []) ≡ true
closed_by_slash xs = closed_behind xs (slash ∷ []) refl

last_taken : (n : ℕ) (xs : List ℕ) → 0 < n → n ≤ length xs → slice_index xs (n - 1) ≡ 47 → ends_here (take n xs) ≡ true
last_taken zero xs some within e = absurd (omega arith)
last_taken (suc n) [] some within e = absurd (omega arith)
last_taken (suc zero) (x ∷ xs) some within e = ap (λ n. n == slash) e
last_taken (suc (suc n)) (x ∷ []) some within e = absurd (omega arith)
last_taken (suc (suc n)) (x ∷ y ∷ xs) some within e =
    let more : suc (suc n) - 1 ≡ suc n = omega arith in
    let less : suc n - 1 ≡ n = omega arith in
    last_taken (suc n) (y ∷ xs) (omega arith) (omega arith) (rw less (rw more at e))

-- what a path's dataset, taken through a slash, ends in
pub taken_closed : (n : ℕ) (xs : List ℕ) → 0 < n → n ≤ length xs → slice_index xs (n - 1) ≡ 47 → ends_with slash (take n xs) ≡ true
taken_closed n xs some within e = ends_same (take n xs) ∙ last_taken n xs some within e

begun_some : (xs : List ℕ) → begins_with slash xs ≡ true → 0 < length xs
begun_some [] e = absurd (false≢true e)
begun_some (x ∷ xs) e = omega arith

-- a path has a dataset
pub path_has_dataset : (text : List ℕ) → is_path text ≡ true → 0 < length (dataset_of text)
unfolding is_path
path_has_dataset text e = begun_some (dataset_of text) (and_parts _ _ (and_parts _ _ (and_parts _ _ (and_parts _ _ e).0).0).1).0

long_enough : (xs : List ℕ) → starts_with nat_eq xs (codes "~/") ≡ true → 1 < length xs
long_enough [] e = absurd (false≢true e)
long_enough (x ∷ []) e = absurd (false≢true (and_parts _ _ e).1)
long_enough (x ∷ y ∷ xs) e = omega arith

home_within : (d : List ℕ) → is_home d ≡ true → second_at d + 1 < length d
unfolding is_home
home_within d e = let long : 1 < length (drop (second_at d) d) = long_enough (drop (second_at d) d) (and_parts _ _ e).1 in omega (arith, length-drop (second_at d) d, long)

-- the dataset that is meant is closed as the one that is named
pub for_user_closed : (user d : List ℕ) → ends_with slash d ≡ true → ends_with slash (for_user user d) ≡ true
unfolding for_user
for_user_closed user d h = elim (is_home d) as (λ b. is_home d ≡ b → ends_with slash (cond b (take (second_at d) d ++ codes "user/" ++ user ++ drop (second_at d + 1) d) d) ≡ true) [
  | true ↦ λ e. closed_behind (take (second_at d) d ++ codes "user/" ++ user) (drop (second_at d + 1) d) (closed_dropped (second_at d + 1) d (home_within d e) h)
  | false ↦ λ e. h
] refl

has_slash : (xs n : List ℕ) → ends_here xs ≡ true → has slash (xs ++ n) ≡ true
has_slash [] n h = absurd (false≢true h)
has_slash (x ∷ []) n h = ap (λ v. v || has slash n) h
has_slash (x ∷ y ∷ xs) n h = ap (λ v. (x == slash) || v) (has_slash (y ∷ xs) n h) ∙ or-true (x == slash)

tail_of : List ℕ → List ℕ
tail_of [] = []
tail_of (x ∷ xs) = xs

head_of : List ℕ → ℕ
head_of [] = 0
head_of (x ∷ xs) = x

parts_within : (a b m n : List ℕ) → has slash m ≡ false → has slash n ≡ false → ends_here a ≡ true → ends_here b ≡ true → a ++ m ≡ b ++ n → (a ≡ b) × (m ≡ n)
unfolding tail_of head_of
parts_within [] b m n hm hn ha hb e = absurd (false≢true ha)
parts_within (x ∷ a) [] m n hm hn ha hb e = absurd (false≢true hb)
parts_within (x ∷ []) (y ∷ []) m n hm hn ha hb e = (ap (λ v. v ∷ []) (ap head_of e), ap tail_of e)
parts_within (x ∷ []) (y ∷ z ∷ b) m n hm hn ha hb e = absurd (false≢true (sym hm ∙ ap (has slash) (ap tail_of e) ∙ has_slash (z ∷ b) n hb))
parts_within (x ∷ w ∷ a) (y ∷ []) m n hm hn ha hb e = absurd (false≢true (sym hn ∙ ap (has slash) (sym (ap tail_of e)) ∙ has_slash (w ∷ a) m ha))
parts_within (x ∷ w ∷ a) (y ∷ z ∷ b) m n hm hn ha hb e =
    let rest = parts_within (w ∷ a) (z ∷ b) m n hm hn ha hb (ap tail_of e) in
    let first = ap head_of e in
    (λ i. first i ∷ rest.0 i, rest.1)

-- names without a slash after octets that end in one: what is after the last slash is the name
pub same_parts : (a b m n : List ℕ) → has slash m ≡ false → has slash n ≡ false → ends_with slash a ≡ true → ends_with slash b ≡ true → a ++ m ≡ b ++ n → (a ≡ b) × (m ≡ n)
same_parts a b m n hm hn ha hb e = parts_within a b m n hm hn (sym (ends_same a) ∙ ha) (sym (ends_same b) ∙ hb) e
