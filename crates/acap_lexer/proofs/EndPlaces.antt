-- Where the first CR LF begins, by places.
use Rattle.std.proofs.Common.{◌≡◌, ℕ, zero, suc, ◌+◌, ◌-◌, ◌<◌, ◌≤◌, Bool, true, false, cond, List, [], ◌∷◌, length, take, drop, Option, Some, None, refl, sym, ap, ◌∙◌, subst, arith, eqb, ltb, slice_index, length-drop, inl, inr}
use Rattle.std.specs.Prelude.{option_map, min, ◌&&◌}
use Rattle.std.proofs.lemmas.Bool.{and_parts, eqb-true, eq-eqb, and_from, cases_lt, ltb-true, lt-ltb, le-ltb, true≢false}
use Rattle.std.proofs.lemmas.List.{get_or-drop, take_all, take_min}
use Rattle.memchr.specs.Find.{IsFirstByte, is_byte}
use Rattle.acap_lexer.specs.Ends.{NoEnd, follows_return}
use Rattle.acap_lexer.specs.declared.found.PartEnd.TheVariants.{At, Never, NotYet}
use Rattle.acap_lexer.specs.Stream.{end_of, part_end, part_end_by, part_limit}

-- a CR LF lies there
pub record IsEnd (text : List ℕ) (n : ℕ) : Type 0 where
  pub inside : n + 1 < length text
  pub return : slice_index text n ≡ 13
  pub feed : slice_index text (n + 1) ≡ 10

abbrev ends_at : ℕ → List ℕ → Bool
ends_at c rest = eqb c 13 && eqb (slice_index rest 0) 10

not_empty : (rest : List ℕ) → slice_index rest 0 ≡ 10 → 0 < length rest
not_empty [] e = absurd (omega (arith, e))
not_empty (d ∷ rest) e = omega arith

behind_first : (c : ℕ) (rest : List ℕ) (i j : ℕ) → j ≡ suc i → slice_index (c ∷ rest) j ≡ slice_index rest i
behind_first c rest i j e = ap (slice_index (c ∷ rest)) e

-- places after the first octet
no_end_behind : (c : ℕ) (rest : List ℕ) (n : ℕ) → NoEnd (c ∷ rest) (suc n) → NoEnd rest n
no_end_behind c rest n none k lt return feed =
    none (suc k) (omega arith) return (behind_first c rest (k + 1) (suc k + 1) (omega arith) ∙ feed)

end_behind : (c : ℕ) (rest : List ℕ) (n : ℕ) → IsEnd (c ∷ rest) (suc n) → IsEnd rest n
end_behind c rest n e = record {
  inside = omega (arith, e.inside);
  return = e.return;
  feed = sym (behind_first c rest (n + 1) (suc n + 1) (omega arith)) ∙ e.feed;
}

-- where no CR LF lies at the front
not_here : (c : ℕ) (rest : List ℕ) (n : ℕ) → 1 < n → n ≤ length (c ∷ rest) → NoEnd (c ∷ rest) n → ends_at c rest ≡ false
not_here c rest n some inside none = by_test (ends_at c rest) refl
  where
    by_test : (b : Bool) → ends_at c rest ≡ b → b ≡ false
    by_test false e = refl
    by_test true e =
        let p = and_parts (eqb c 13) (eqb (slice_index rest 0) 10) e in
        absurd (none 0 (omega arith) (eqb-true _ _ p.0) (behind_first c rest 0 (0 + 1) (omega arith) ∙ eqb-true _ _ p.1))

end_if : (c : ℕ) (rest : List ℕ) → ends_at c rest ≡ false → end_of (c ∷ rest) ≡ option_map (λ n. n + 1) (end_of rest)
unfolding end_of
end_if c rest e = rw e refl

short_end : (c : ℕ) → end_of (c ∷ []) ≡ None
unfolding end_of
short_end c = by_test (eqb c 13)
  where
    by_test : (b : Bool) → cond {A = Option ℕ} (b && false) (Some 0) None ≡ None
    by_test true = refl
    by_test false = refl

pub no_end : (text : List ℕ) → NoEnd text (length text) → end_of text ≡ None
unfolding end_of
no_end [] none = refl
no_end (c ∷ []) none = short_end c
no_end (c ∷ d ∷ rest) none =
    end_if c (d ∷ rest) (not_here c (d ∷ rest) (length (c ∷ d ∷ rest)) (omega arith) (omega arith) none)
    ∙ ap (option_map (λ n. n + 1)) (no_end (d ∷ rest) (no_end_behind c (d ∷ rest) (length (d ∷ rest)) none))

end_here : (c : ℕ) (rest : List ℕ) → c ≡ 13 → slice_index rest 0 ≡ 10 → end_of (c ∷ rest) ≡ Some 0
unfolding end_of
end_here c rest p q = rw (eq-eqb c 13 p, eq-eqb (slice_index rest 0) 10 q) refl

pub first_end : (text : List ℕ) (n : ℕ) → IsEnd text n → NoEnd text (n + 1) → end_of text ≡ Some n
first_end [] n e none = absurd (omega (arith, e.inside))
first_end (c ∷ rest) zero e none = end_here c rest e.return (sym (behind_first c rest 0 (0 + 1) (omega arith)) ∙ e.feed)
first_end (c ∷ rest) (suc n) e none =
    let later : NoEnd (c ∷ rest) (suc (n + 1)) = λ k lt return feed. none k (omega arith) return feed in
    end_if c rest (not_here c rest (suc n + 1) (omega arith) (omega (arith, e.inside)) none)
    ∙ ap (option_map (λ k. k + 1)) (first_end rest n (end_behind c rest n e) (no_end_behind c rest (n + 1) later))
    ∙ ap (λ (k : ℕ). Some k) (omega arith)

-- the first CR LF lies in the text
pub end_of_within : (text : List ℕ) (n : ℕ) → end_of text ≡ Some n → n + 2 ≤ length text
unfolding end_of
end_of_within [] n e = absurd cc
end_of_within (c ∷ rest) n e = by_test (ends_at c rest) (end_of rest) refl (λ k l. end_of_within rest k l) refl e
  where
    by_test : (b : Bool) (later : Option ℕ) → ends_at c rest ≡ b → ((k : ℕ) → end_of rest ≡ Some k → k + 2 ≤ length rest) → end_of rest ≡ later
        → cond b (Some 0) (option_map (λ k. k + 1) later) ≡ Some n → n + 2 ≤ suc (length rest)
    by_test true later t within l f =
        let p = and_parts (eqb c 13) (eqb (slice_index rest 0) 10) t in
        let z : 0 ≡ n = cc in
        omega (arith, z, not_empty rest (eqb-true _ _ p.1))
    by_test false None t within l f = absurd cc
    by_test false (Some k) t within l f =
        let z : k + 1 ≡ n = cc in
        omega (arith, z, within k l)

-- ---- the search for line feeds

-- a line feed found after those that were looked at
pub record Feeds (text : List ℕ) (from passed : ℕ) : Type 0 where
  pub inside : from + passed < length text
  pub feed : slice_index text (from + passed) ≡ 10
  pub before : (k : ℕ) → from ≤ k → k < from + passed → slice_index text k ≡ 10 → ⊥

index_behind : (text : List ℕ) (from k : ℕ) → slice_index (drop from text) k ≡ slice_index text (from + k)
index_behind text from k = get_or-drop from text k 0

-- the slice from a place on
tail : (text : List ℕ) (from : ℕ) → take (length text - from) (drop from text) ≡ drop from text
tail text from = take_all (length text - from) (drop from text) (omega (arith, length-drop from text))

feeds_in : (text : List ℕ) (from passed : ℕ) → from ≤ length text → IsFirstByte (is_byte 10) (drop from text) (Some passed) → Feeds text from passed
feeds_in text from passed within f = record {
  inside = omega (arith, f.0.high, length-drop from text);
  feed = sym (index_behind text from passed) ∙ eqb-true _ _ f.1;
  before = λ k low high is. f.0.before (k - from) (omega arith) (omega arith) (eq-eqb _ _ (index_behind text from (k - from) ∙ ap (slice_index text) (omega arith) ∙ is));
}

pub feeds : (text : List ℕ) (from passed : ℕ) → from ≤ length text → IsFirstByte (is_byte 10) (take (length text - from) (drop from text)) (Some passed) → Feeds text from passed
feeds text from passed within f = feeds_in text from passed within (rw tail at f)

none_in : (text : List ℕ) (from : ℕ) → from ≤ length text → NoEnd text from → IsFirstByte (is_byte 10) (drop from text) None → NoEnd text (length text)
none_in text from within none f k lt return feed =
    elim (cases_lt (k + 1) from) [
      | inl before ↦ none k before return feed
      | inr behind ↦ f (k + 1 - from) (omega arith) (omega (arith, length-drop from text)) (eq-eqb _ _ (index_behind text from (k + 1 - from) ∙ ap (slice_index text) (omega arith) ∙ feed))
    ]

pub none_left : (text : List ℕ) (from : ℕ) → from ≤ length text → NoEnd text from → IsFirstByte (is_byte 10) (take (length text - from) (drop from text)) None → NoEnd text (length text)
none_left text from within none f = none_in text from within none (rw tail at f)

before_feed : (text : List ℕ) (from passed : ℕ) → NoEnd text from → Feeds text from passed → NoEnd text (from + passed)
before_feed text from passed none f k lt return feed =
    elim (cases_lt (k + 1) from) [
      | inl before ↦ none k before return feed
      | inr behind ↦ f.before (k + 1) behind lt feed
    ]

pub feed_ends : (text : List ℕ) (from passed : ℕ) → NoEnd text from → Feeds text from passed → follows_return text (from + passed) ≡ true → end_of text ≡ Some (from + passed - 1)
feed_ends text from passed none f r =
    let p = and_parts (ltb 0 (from + passed)) (eqb (slice_index text (from + passed - 1)) 13) r in
    let some : 0 < from + passed = ltb-true _ _ p.0 in
    let next : from + passed - 1 + 1 ≡ from + passed = omega arith in
    first_end text (from + passed - 1)
    (record { inside = omega (arith, f.inside); return = eqb-true _ _ p.1; feed = ap (slice_index text) next ∙ f.feed })
    (λ k lt return feed. before_feed text from passed none f k (omega arith) return feed)

pub feed_passes : (text : List ℕ) (from passed : ℕ) → NoEnd text from → Feeds text from passed → follows_return text (from + passed) ≡ false → NoEnd text (from + passed + 1)
feed_passes text from passed none f r k lt return feed =
    elim (cases_lt (k + 1) (from + passed)) [
      | inl before ↦ before_feed text from passed none f k before return feed
      | inr behind ↦ (
          let place : k ≡ from + passed - 1 = omega arith in
          let is_return : slice_index text (from + passed - 1) ≡ 13 = ap (slice_index text) (sym place) ∙ return in
          let t : follows_return text (from + passed) ≡ true = and_from _ _ (lt-ltb _ _ (omega arith)) (eq-eqb _ _ is_return) in
          absurd (true≢false (sym t ∙ r)))
    ]

-- the end of a part is known from its front
by_front : (text : List ℕ) (n : ℕ) (end : Option ℕ) → n ≡ min part_limit (length text) → end ≡ end_of (take n text) → part_end_by end (length text) ≡ part_end text
unfolding part_end
by_front text n end is first = ap (λ o. part_end_by o (length text)) (first ∙ ap end_of (ap (λ m. take m text) is ∙ take_min part_limit text))

pub ends_there : (text : List ℕ) (n at : ℕ) → n ≡ min part_limit (length text) → Some at ≡ end_of (take n text) → At at ≡ part_end text
ends_there text n at is first = by_front text n (Some at) is first

pub not_yet : (text : List ℕ) (n : ℕ) → n ≡ min part_limit (length text) → None ≡ end_of (take n text) → length text < part_limit → NotYet ≡ part_end text
not_yet text n is none short = rw (← by_front text n None is none, lt-ltb _ _ short) refl

pub never : (text : List ℕ) (n : ℕ) → n ≡ min part_limit (length text) → None ≡ end_of (take n text) → part_limit ≤ length text → Never ≡ part_end text
never text n is none long = rw (← by_front text n None is none, le-ltb _ _ long) refl

-- a text that is shorter than a part may be is its own front
pub none_yet : (text : List ℕ) (n : ℕ) → n ≡ min part_limit (length text) → NoEnd (take n text) (length (take n text)) → length text < part_limit → NoEnd text (length text)
none_yet text n is none short = subst (λ (front : List ℕ). NoEnd front (length front)) (take_all n text (omega arith)) none
