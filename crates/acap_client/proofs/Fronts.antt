-- What stands first in the data of tokens.
use Rattle.std.proofs.Common.{◌≡◌, ℕ, ◌+◌, ◌≤◌, false, List, [], ◌∷◌, length, drop, Some, None, refl, sym}
use Rattle.acap_grammar.specs.Lines.{Datum, group}
use Rattle.acap_client.specs.Data.{before_all, grouped, nothing, data_of}
use Rattle.acap_client.specs.Arguments.{are_none, word_at, text_at, group_at, first_outer, outside}
use Rattle.acap_client.specs.declared.draft.Token.{Token}
use Rattle.acap_client.specs.declared.draft.Token.TheVariants as token

-- a parenthesis is no word and no string, and is a datum
opened_data : (inner : List Datum) (outer : List (List Datum)) → (grouped inner outer).inner ≡ group inner ∷ first_outer outer
opened_data inner [] = refl
opened_data inner (others ∷ outer) = refl

pub open_data : (ts : List Token) → data_of (token.Open ∷ ts) ≡ group (data_of ts) ∷ outside ts
open_data ts = opened_data (data_of ts) (before_all ts nothing).outer

no_word : (inner others : List Datum) → word_at (group inner ∷ others) ≡ None
no_word [] others = refl
no_word (first ∷ inner) others = refl

no_text : (inner others : List Datum) → text_at (group inner ∷ others) ≡ None
no_text [] others = refl
no_text (first ∷ inner) others = refl

is_group : (inner others : List Datum) → group_at (group inner ∷ others) ≡ Some (group inner, others)
is_group [] others = refl
is_group (first ∷ inner) others = refl

pub not_none : (ts : List Token) → are_none (data_of (token.Open ∷ ts)) ≡ false
not_none ts = rw (open_data ts) refl

pub open_no_word : (ts : List Token) → word_at (data_of (token.Open ∷ ts)) ≡ None
open_no_word ts = rw (open_data ts) (no_word (data_of ts) (outside ts))

pub open_no_text : (ts : List Token) → text_at (data_of (token.Open ∷ ts)) ≡ None
open_no_text ts = rw (open_data ts) (no_text (data_of ts) (outside ts))

pub open_group : (ts : List Token) → group_at (data_of (token.Open ∷ ts)) ≡ Some (group (data_of ts), outside ts)
open_group ts = rw (open_data ts) (is_group (data_of ts) (outside ts))

-- ---- what follows a parenthesis

-- so many parentheses further out
abbrev pub outer_at : ℕ → List (List Datum) → List Datum
outer_at depth outer = first_outer (drop depth outer)

abbrev pub outside_at : ℕ → List Token → List Datum
outside_at depth ts = outer_at depth (before_all ts nothing).outer

-- what is left of tokens, and how many parentheses are open there
pub record IsSoFar (tokens left : List Token) (depth : ℕ) : Type 0 where
  pub there : outside tokens ≡ outside_at depth left
  pub few : depth + length left ≤ length tokens

pub not_word : (t : Token) (ts : List Token) → ((octets : List ℕ) → t ≡ token.Word octets → ⊥) → word_at (data_of (t ∷ ts)) ≡ None
not_word (token.Word octets) ts other = absurd (other octets refl)
not_word (token.Text octets) ts other = refl
not_word token.Open ts other = open_no_word ts
not_word token.Close ts other = refl

pub not_text : (t : Token) (ts : List Token) → ((octets : List ℕ) → t ≡ token.Text octets → ⊥) → text_at (data_of (t ∷ ts)) ≡ None
not_text (token.Word octets) ts other = refl
not_text (token.Text octets) ts other = absurd (other octets refl)
not_text token.Open ts other = open_no_text ts
not_text token.Close ts other = refl

pub lacks_word : (here : List Token) (t : Token) (ts : List Token) → here ≡ t ∷ ts → ((octets : List ℕ) → t ≡ token.Word octets → ⊥) → None ≡ word_at (data_of here)
lacks_word here t ts e other = rw e (sym (not_word t ts other))

pub lacks_text : (here : List Token) (t : Token) (ts : List Token) → here ≡ t ∷ ts → ((octets : List ℕ) → t ≡ token.Text octets → ⊥) → None ≡ text_at (data_of here)
lacks_text here t ts e other = rw e (sym (not_text t ts other))

pub has_group : (here : List Token) (t : Token) (ts after : List Token) → here ≡ t ∷ ts → t ≡ token.Open → data_of after ≡ outside ts → Some (group (data_of ts), data_of after) ≡ group_at (data_of here)
has_group here t ts after e opens same = rw (e, opens, same) (sym (open_group ts))
