-- Tokens as they are written.
use Rattle.std.proofs.Common.{◌≡◌, ℕ, true, false, List, [], ◌∷◌, ◌++◌, length, refl, sym, ap, ◌∙◌, append_assoc, codes, decimal}
use Rattle.acap_lexer.specs.declared.kind.Kind.{Kind}
use Rattle.acap_lexer.specs.declared.kind.Kind.TheVariants as kind
use Rattle.acap_lexer.specs.Printing.{may_quote, printed_form}
use Rattle.acap_lexer.specs.Spelling.{Written, Word, Quoted, Literal, Open, Close, crlf, gap, kind_of, may_part, own}
use Rattle.acap_lexer.specs.Token.{Token}
use Rattle.acap_grammar.specs.Spelling.{word, string, open_then, shut}
use Rattle.acap_grammar.specs.Texts.{writing_of}
use Rattle.acap_client.specs.Writing.{space_after, text_after, Writes}
use Rattle.acap_client.specs.declared.writing.Writing.{Writing}

-- a token is what stands before it, its own octets, and the text of those after it
behind : (last : Kind) (t : Token) (after : List Token)
    → text_after last (t ∷ after) ≡ gap (may_part last (kind_of (writing_of t.kind t.value))) ++ (own (writing_of t.kind t.value) ++ text_after (kind_of (writing_of t.kind t.value)) after)
unfolding text_after
behind last t after = refl

gap_is : (last : Kind) (w : Written) → (kind_of w ≡ kind.Close → ⊥) → gap (may_part last (kind_of w)) ≡ space_after last
gap_is kind.Open w other = refl
gap_is kind.Tag (Word o) other = refl
gap_is kind.Tag (Quoted o) other = refl
gap_is kind.Tag (Literal d b o) other = refl
gap_is kind.Tag Open other = refl
gap_is kind.Tag Close other = absurd (other refl)
gap_is kind.Word (Word o) other = refl
gap_is kind.Word (Quoted o) other = refl
gap_is kind.Word (Literal d b o) other = refl
gap_is kind.Word Open other = refl
gap_is kind.Word Close other = absurd (other refl)
gap_is kind.Quoted (Word o) other = refl
gap_is kind.Quoted (Quoted o) other = refl
gap_is kind.Quoted (Literal d b o) other = refl
gap_is kind.Quoted Open other = refl
gap_is kind.Quoted Close other = absurd (other refl)
gap_is kind.Literal (Word o) other = refl
gap_is kind.Literal (Quoted o) other = refl
gap_is kind.Literal (Literal d b o) other = refl
gap_is kind.Literal Open other = refl
gap_is kind.Literal Close other = absurd (other refl)
gap_is kind.Close (Word o) other = refl
gap_is kind.Close (Quoted o) other = refl
gap_is kind.Close (Literal d b o) other = refl
gap_is kind.Close Open other = refl
gap_is kind.Close Close other = absurd (other refl)

no_gap : (last : Kind) → gap (may_part last kind.Close) ≡ []
no_gap kind.Open = refl
no_gap kind.Tag = refl
no_gap kind.Word = refl
no_gap kind.Quoted = refl
no_gap kind.Literal = refl
no_gap kind.Close = refl

-- a space, if one may stand there, and octets of a token's own
pub record Adds (old new : Writing) (w : Written) : Type 0 where
  pub octets : new.octets.items ≡ (old.octets.items ++ space_after old.last) ++ own w
  pub last : new.last ≡ kind_of w

writes : (old new : Writing) (t : Token) (w : Written) → writing_of t.kind t.value ≡ w → (kind_of w ≡ kind.Close → ⊥) → Adds old new w → Writes (λ after. t ∷ after) old new
writes old new t w is other adds after =
    let back = text_after (kind_of w) after in
    ap (λ (xs : List ℕ). old.octets.items ++ xs) (behind old.last t after
    ∙ ap (λ (v : Written). gap (may_part old.last (kind_of v)) ++ (own v ++ text_after (kind_of v) after)) is
    ∙ ap (λ (xs : List ℕ). xs ++ (own w ++ back)) (gap_is old.last w other))
    ∙ sym (append_assoc old.octets.items (space_after old.last) (own w ++ back))
    ∙ sym (append_assoc (old.octets.items ++ space_after old.last) (own w) back)
    ∙ ap (λ (xs : List ℕ). xs ++ back) (sym adds.octets)
    ∙ ap (λ k. new.octets.items ++ text_after k after) (sym adds.last)

pub word_writes : (text : List ℕ) (old new : Writing) → Adds old new (Word text) → Writes (word text) old new
word_writes text old new adds = writes old new _ (Word text) refl (λ e. cc) adds

pub open_writes : (old new : Writing) → Adds old new Open → Writes open_then old new
open_writes old new adds = writes old new _ Open refl (λ e. cc) adds

pub quoted_writes : (text : List ℕ) (old new : Writing) → may_quote text ≡ true → Adds old new (Quoted text) → Writes (string text) old new
quoted_writes text old new may adds = writes old new _ (Quoted text) (rw may refl) (λ e. cc) adds

pub literal_writes : (text : List ℕ) (old new : Writing) → may_quote text ≡ false → Adds old new (Literal (decimal (length text)) false text) → Writes (string text) old new
literal_writes text old new may adds = writes old new _ (Literal (decimal (length text)) false text) (rw may refl) (λ e. cc) adds

pub close_writes : (old new : Writing) → new.octets.items ≡ old.octets.items ++ codes ")" → new.last ≡ kind.Close → Writes shut old new
close_writes old new octets last after =
    let back = text_after kind.Close after in
    ap (λ (xs : List ℕ). old.octets.items ++ xs) (behind old.last _ after ∙ ap (λ (xs : List ℕ). xs ++ (codes ")" ++ back)) (no_gap old.last))
    ∙ sym (append_assoc old.octets.items (codes ")") back)
    ∙ ap (λ (xs : List ℕ). xs ++ back) (sym octets)
    ∙ ap (λ k. new.octets.items ++ text_after k after) (sym last)

pub ends : (last : Kind) → text_after last [] ≡ crlf
unfolding text_after
ends last = refl

pub printed : (text : List ℕ) → may_quote text ≡ true → printed_form text ≡ own (Quoted text)
unfolding printed_form
printed text may = rw may refl

-- the octets of a literal, piece by piece
pub literal_octets : (spaced opened numbered marked new start digits text : List ℕ) → spaced ≡ start → opened ≡ spaced ++ 123 ∷ [] → numbered ≡ opened ++ digits → digits ≡ decimal (length text)
    → marked ≡ numbered ++ 43 ∷ 125 ∷ 13 ∷ 10 ∷ [] → new ≡ marked ++ text → new ≡ start ++ own (Literal (decimal (length text)) false text)
literal_octets spaced opened numbered marked new start digits text s o n d m e =
    rw (e, m, n, o, s, d) (
    append_assoc ((start ++ 123 ∷ []) ++ decimal (length text)) (43 ∷ 125 ∷ 13 ∷ 10 ∷ []) text
    ∙ append_assoc (start ++ 123 ∷ []) (decimal (length text)) (43 ∷ 125 ∷ 13 ∷ 10 ∷ text)
    ∙ append_assoc start (123 ∷ []) (decimal (length text) ++ 43 ∷ 125 ∷ 13 ∷ 10 ∷ text)
    ∙ ap (λ (xs : List ℕ). start ++ 123 ∷ xs) (sym (append_assoc (decimal (length text)) (43 ∷ 125 ∷ []) (13 ∷ 10 ∷ text))))

pub quoted_octets : (spaced new start text : List ℕ) → spaced ≡ start → new ≡ spaced ++ printed_form text → may_quote text ≡ true → new ≡ start ++ own (Quoted text)
quoted_octets spaced new start text s e may = rw (e, s, printed text may) refl
