-- Where a part ends, in a text and in a longer one.
use Rattle.std.proofs.Common.{◌≡◌, ℕ, ◌+◌, ◌-◌, ◌<◌, ◌≤◌, ◌⊎◌, Bool, true, false, cond, List, [], ◌∷◌, ◌++◌, length, take, Option, Some, None, refl, sym, ap, subst, ◌∙◌, arith, eqb, ltb, inl, inr, length-append, length-take}
use Rattle.std.specs.Prelude.{option_map, ◌&&◌}
use Rattle.std.proofs.lemmas.Bool.{cases_lt, le-ltb, lt-ltb}
use Rattle.std.proofs.lemmas.List.{take-append-le, take_all}
use Rattle.std.proofs.Math.Seq.{take-append-add}
use Rattle.acap_lexer.specs.declared.found.PartEnd.TheVariants.{At, Never, NotYet}
use Rattle.acap_lexer.specs.Stream.{end_of, part_end, part_end_by, part_limit}
use Rattle.acap_lexer.proofs.EndPlaces.{end_of_within}

end_more : (found : Bool) (later after : Option ℕ) (n : ℕ) → ((k : ℕ) → later ≡ Some k → after ≡ Some k)
    → cond found (Some 0) (option_map (λ k. k + 1) later) ≡ Some n → cond found (Some 0) (option_map (λ k. k + 1) after) ≡ Some n
end_more true later after n keeps e = e
end_more false None after n keeps e = absurd cc
end_more false (Some k) after n keeps e = rw (keeps k refl) e

none_there : (found : Bool) (n : ℕ) → cond {A = Option ℕ} (found && false) (Some 0) None ≡ Some n → ⊥
none_there true n e = cc
none_there false n e = cc

-- the first CR LF stays the first
pub end_of-append : (text more : List ℕ) (n : ℕ) → end_of text ≡ Some n → end_of (text ++ more) ≡ Some n
unfolding end_of
end_of-append [] more n e = absurd cc
end_of-append (c ∷ []) more n e = absurd (none_there (eqb c 13) n e)
end_of-append (c ∷ d ∷ rest) more n e = end_more (eqb c 13 && eqb d 10) (end_of (d ∷ rest)) (end_of ((d ∷ rest) ++ more)) n (λ k h. end_of-append (d ∷ rest) more k h) e

front_of_longer : (limit : ℕ) (text more : List ℕ) → (take limit (text ++ more) ≡ take limit text) ⊎ ((length text < limit) × (rest : List ℕ) × (take limit (text ++ more) ≡ take limit text ++ rest))
front_of_longer limit text more =
    elim (cases_lt (length text) limit) [
      | inl lt ↦ inr (
        lt,
        take (limit - length text) more,
        (
            let k : limit ≡ length text + (limit - length text) = omega arith in
            let a : take limit (text ++ more) ≡ text ++ take (limit - length text) more = subst (λ (m : ℕ). take m (text ++ more) ≡ text ++ take (limit - length text) more) (sym k) (take-append-add text more (limit - length text)) in
            a ∙ ap (λ (t : List ℕ). t ++ take (limit - length text) more) (sym (take_all limit text (omega arith)))),
      )
      | inr le ↦ inl (take-append-le limit text more le)
    ]

same_end : (limit : ℕ) (text more : List ℕ) → (end_of (take limit text) ≡ None → limit ≤ length text) → end_of (take limit (text ++ more)) ≡ end_of (take limit text)
same_end limit text more long =
    elim (front_of_longer limit text more) [
      | inl same ↦ ap end_of same
      | inr s ↦ ap end_of s.2 ∙ by_end (end_of (take limit text)) refl s.0 s.1
    ]
  where
    by_end : (end : Option ℕ) → end_of (take limit text) ≡ end → length text < limit → (rest : List ℕ) → end_of (take limit text ++ rest) ≡ end_of (take limit text)
    by_end (Some n) e short rest = end_of-append (take limit text) rest n e ∙ sym e
    by_end None e short rest = absurd (omega (arith, long e))

-- what the end of a part says of its text
pub record IsAt (text : List ℕ) (n : ℕ) : Type 0 where
  pub end : end_of (take part_limit text) ≡ Some n
  pub within : n + 2 ≤ length text

by_at : (end : Option ℕ) (len n : ℕ) → part_end_by end len ≡ At n → end ≡ Some n
by_at (Some k) len n e = let same : k ≡ n = cc in ap (λ (i : ℕ). Some i) same
by_at None len n e = elim (ltb len part_limit) as (λ b. cond b NotYet Never ≡ At n → None ≡ Some n) [ true ↦ (λ h. absurd cc) | false ↦ (λ h. absurd cc) ] e

by_never : (end : Option ℕ) (len : ℕ) → part_end_by end len ≡ Never → (end ≡ None) × (part_limit ≤ len)
by_never (Some k) len e = absurd cc
by_never None len e =
    elim (cases_lt len part_limit) [
      | inl lt ↦ (let a : ltb len part_limit ≡ true = lt-ltb _ _ lt in let f : NotYet ≡ Never = rw a at e in absurd cc)
      | inr le ↦ (refl, le)
    ]

by_not_yet : (end : Option ℕ) (len : ℕ) → part_end_by end len ≡ NotYet → len < part_limit
by_not_yet (Some k) len e = absurd cc
by_not_yet None len e =
    elim (cases_lt len part_limit) [
      | inl lt ↦ lt
      | inr le ↦ (let a : ltb len part_limit ≡ false = le-ltb _ _ le in let f : Never ≡ NotYet = rw a at e in absurd cc)
    ]

pub is_at : (text : List ℕ) (n : ℕ) → part_end text ≡ At n → IsAt text n
unfolding part_end
is_at text n e =
    let end = by_at (end_of (take part_limit text)) (length text) n e in
    record { end = end; within = omega (arith, end_of_within (take part_limit text) n end, length-take part_limit text) }

pub is_never : (text : List ℕ) → part_end text ≡ Never → part_limit ≤ length text
unfolding part_end
is_never text e = (by_never (end_of (take part_limit text)) (length text) e).1

pub is_short : (text : List ℕ) → part_end text ≡ NotYet → length text < part_limit
unfolding part_end
is_short text e = by_not_yet (end_of (take part_limit text)) (length text) e

pub keeps_at : (text more : List ℕ) (n : ℕ) → part_end text ≡ At n → part_end (text ++ more) ≡ At n
unfolding part_end
keeps_at text more n e =
    let end = by_at (end_of (take part_limit text)) (length text) n e in
    let same = same_end part_limit text more (λ none. let f : Some n ≡ None = sym end ∙ none in absurd cc) in
    rw (same, end) refl

pub keeps_never : (text more : List ℕ) → part_end text ≡ Never → part_end (text ++ more) ≡ Never
unfolding part_end
keeps_never text more e =
    let k = by_never (end_of (take part_limit text)) (length text) e in
    let same = same_end part_limit text more (λ none. k.1) in
    let b : ltb (length (text ++ more)) part_limit ≡ false = le-ltb _ _ (omega (arith, k.1, length-append text more)) in
    rw (same, k.0, b) refl
