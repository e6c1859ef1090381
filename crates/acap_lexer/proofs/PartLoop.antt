-- What the loop over the tokens of a part keeps.
use Rattle.std.proofs.Common.{◌≡◌, ℕ, suc, ◌+◌, ◌-◌, ◌<◌, ◌≤◌, List, [], ◌∷◌, length, Some, None, Result, Ok, Err, refl, sym, ap, ◌∙◌, arith}
use Rattle.acap_lexer.specs.declared.found.Announced.{Announced}
use Rattle.acap_lexer.specs.declared.fault.LexError.{LexError}
use Rattle.acap_lexer.specs.declared.fault.LexFault.{LexFault}
use Rattle.acap_lexer.specs.declared.fault.LexFault.TheVariants.{BadToken}
use Rattle.acap_lexer.specs.declared.found.Coming.TheVariants.{Mark, Rest}
use Rattle.std.specs.Borrow.{Bor}
use Rattle.acap_lexer.specs.Token.{Token}
use Rattle.acap_lexer.specs.Part.{Part, next_at, part_within}
use Rattle.acap_lexer.specs.Printing.{Grows}
use Rattle.acap_lexer.specs.Reading.{Fails}
use Rattle.acap_lexer.specs.Taking.{TakesNext}
use Rattle.acap_lexer.proofs.Growing.{grows_on}

pub record IsSoFar (end : ℕ) (old : List Token) (text : List ℕ) (tokens : List Token) (left : List ℕ) (counter : ℕ) : Type 0 where
  pub reads : part_within (length text - counter) end tokens left ≡ part_within (length text) end old text
  pub grows : Grows old tokens
  pub within : length left ≤ length text

at_end : (most end : ℕ) (tokens : List Token) (left : List ℕ) → length left ≡ 0 → part_within most end tokens left ≡ Ok (record { tokens = tokens; mark = None })
unfolding part_within
at_end most end tokens [] e = refl
at_end most end tokens (c ∷ rest) e = absurd (omega arith)

pub ends_here : (end : ℕ) (old : List Token) (text : List ℕ) (tokens : List Token) (left : List ℕ) (counter : ℕ) → IsSoFar end old text tokens left counter
    → length left ≡ 0 → part_within (length text) end old text ≡ Ok (record { tokens = tokens; mark = None })
ends_here end old text tokens left counter s none = sym s.reads ∙ at_end (length text - counter) end tokens left none

past_bound : (end : ℕ) (tokens : List Token) (left : List ℕ) → 0 < length left → part_within 0 end tokens left ≡ Err BadToken
unfolding part_within
past_bound end tokens [] some = absurd (omega arith)
past_bound end tokens (c ∷ rest) some = refl

pub ends_past : (end : ℕ) (old : List Token) (text : List ℕ) (tokens : List Token) (left : List ℕ) (counter : ℕ) → IsSoFar end old text tokens left counter
    → 0 < length left → length text ≤ counter → part_within (length text) end old text ≡ Err BadToken
ends_past end old text tokens left counter s some past =
    let none : length text - counter ≡ 0 = omega arith in
    sym s.reads ∙ ap (λ n. part_within n end tokens left) none ∙ past_bound end tokens left some

pub one_next : (most end : ℕ) (tokens : List Token) (left : List ℕ) → 0 < length left → part_within (suc most) end tokens left ≡ next_at (part_within most end) end tokens left
unfolding part_within
one_next most end tokens [] some = absurd (omega arith)
one_next most end tokens (c ∷ rest) some = refl

-- the part is read by its next token
next_so_far : (end : ℕ) (old : List Token) (text : List ℕ) (tokens : List Token) (left : List ℕ) (counter : ℕ) → IsSoFar end old text tokens left counter
    → 0 < length left → counter < length text → part_within (length text) end old text ≡ next_at (part_within (length text - (counter + 1)) end) end tokens left
next_so_far end old text tokens left counter s some more =
    let turns : length text - counter ≡ suc (length text - (counter + 1)) = omega arith in
    sym s.reads ∙ ap (λ n. part_within n end tokens left) turns ∙ one_next (length text - (counter + 1)) end tokens left some

pub goes_on : (end : ℕ) (old : List Token) (text : List ℕ) (tokens new : List Token) (left : List ℕ) (rest : Bor (List ℕ)) (counter : ℕ) → IsSoFar end old text tokens left counter
    → 0 < length left → counter < length text → TakesNext end tokens new left (Ok (Rest rest)) → Grows tokens new → IsSoFar end old text new rest.now (counter + 1)
goes_on end old text tokens new left rest counter s some more t g = record {
  reads = sym (t.0 (part_within (length text - (counter + 1)) end)) ∙ sym (next_so_far end old text tokens left counter s some more);
  grows = grows_on old tokens new s.grows g;
  within = omega (arith, s.within, t.1);
}

pub ends_marked : (end : ℕ) (old : List Token) (text : List ℕ) (tokens new : List Token) (left : List ℕ) (counter start : ℕ) (m : Announced) → IsSoFar end old text tokens left counter
    → 0 < length left → counter < length text → TakesNext end tokens new left (Ok (Mark start m)) → part_within (length text) end old text ≡ Ok (record { tokens = new; mark = Some (start, m) })
ends_marked end old text tokens new left counter start m s some more t =
    next_so_far end old text tokens left counter s some more ∙ t.0 (part_within (length text - (counter + 1)) end) ∙ ap (λ (ts : List Token). let r : Result Part LexFault = Ok (record { tokens = ts; mark = Some (start, m) }) in r) (sym t.1)

pub fails : (e : LexError) (end : ℕ) (old : List Token) (text : List ℕ) (tokens new : List Token) (left : List ℕ) (counter : ℕ) → IsSoFar end old text tokens left counter
    → 0 < length left → counter < length text → TakesNext end tokens new left (Err e) → Fails e (part_within (length text) end old text)
fails e end old text tokens new left counter s some more t =
    rw (next_so_far end old text tokens left counter s some more) (t (part_within (length text - (counter + 1)) end))
