-- Values in the copy of a part.
use Rattle.std.proofs.Common.{◌≡◌, ℕ, ◌+◌, ◌-◌, ◌≤◌, Bool, true, false, cond, List, [], ◌∷◌, ◌++◌, length, take, drop, Option, Some, None, Result, Ok, Err, refl, sym, ap, ◌∙◌, subst, append_assoc, arith, length-append, eqb, leb, slice_index}
use Rattle.std.specs.List.{prefix_len}
use Rattle.std.proofs.lemmas.List.{drop_at, take-append-le, take-append-drop}
use Rattle.acap_lexer.specs.declared.fault.LexFault.{LexFault}
use Rattle.acap_lexer.specs.declared.fault.LexFault.TheVariants.{BadToken}
use Rattle.acap_lexer.specs.declared.kind.Kind.{Kind}
use Rattle.acap_lexer.specs.declared.kind.Kind.TheVariants as kinds
use Rattle.acap_lexer.specs.Octets.{is_word, is_quotable, is_escaped}
use Rattle.acap_lexer.specs.declared.lexed.Mode.{Mode}
use Rattle.acap_lexer.specs.declared.lexed.Mode.TheVariants as modes
use Rattle.acap_lexer.specs.Part.{with_token, token_of_lexeme, begun_at, tag_token}
use Rattle.acap_lexer.specs.Places.{LiesIn, Splits}
use Rattle.acap_lexer.specs.Printing.{Grows}
use Rattle.acap_lexer.specs.Reading.{◌>>=◌, Read, Lexeme, behind, quoted_at, escaped_at, string_at, as_string, token_at, may_touch, gap_behind, gap_at, stray, quoted_limit, tag_at}
use Rattle.acap_lexer.specs.Token.{Token}

-- ---- what is left is the end of what was there

pub record EndsIn (text left : List ℕ) : Type 0 where
  pub front : List ℕ
  pub text_is : text ≡ front ++ left

whole : (text : List ℕ) → EndsIn text text
whole text = record { front = []; text_is = refl }

one_more : (c : ℕ) (text left : List ℕ) → EndsIn text left → EndsIn (c ∷ text) left
one_more c text left e = record { front = c ∷ e.front; text_is = ap (λ (xs : List ℕ). c ∷ xs) e.text_is }

dropped : (n : ℕ) (text : List ℕ) → EndsIn text (drop n text)
dropped n text = record { front = take n text; text_is = sym (take-append-drop n text) }

abbrev Leaves : {A : Type 0} → List ℕ → Read A → Type 0
Leaves text (Ok x) = EndsIn text x.1
Leaves text (Err f) = Unit {0}

leaves_more : {A : Type 0} (c : ℕ) (text : List ℕ) (read : Read A) → Leaves text read → Leaves (c ∷ text) read
leaves_more c text (Ok x) h = one_more c text x.1 h
leaves_more c text (Err f) h = tt

leaves_if : {A : Type 0} (text : List ℕ) (b : Bool) (x y : Read A) → Leaves text x → Leaves text y → Leaves text (cond b x y)
leaves_if text true x y h k = h
leaves_if text false x y h k = k

leaves_behind : (text front : List ℕ) (read : Read (List ℕ)) → Leaves text read → Leaves text (behind front read)
leaves_behind text front (Ok x) h = h
leaves_behind text front (Err f) h = tt

mutual
  unfolding quoted_at

  quoted_leaves : (rest : List ℕ) → Leaves rest (quoted_at rest)
  quoted_leaves [] = tt
  quoted_leaves (c ∷ rest) =
      leaves_if _ (eqb c 34) _ _ (one_more c rest rest (whole rest))
      (leaves_if _ (eqb c 92) _ _ (leaves_more c rest (escaped_at rest) (escaped_leaves rest))
      (leaves_if _ (is_quotable c) _ (Err BadToken) (leaves_more c rest (behind (c ∷ []) (quoted_at rest)) (leaves_behind rest (c ∷ []) (quoted_at rest) (quoted_leaves rest))) tt))

  escaped_leaves : (rest : List ℕ) → Leaves rest (escaped_at rest)
  escaped_leaves [] = tt
  escaped_leaves (d ∷ rest) =
      leaves_if _ (is_escaped d) _ (Err BadToken) (leaves_more d rest (behind (d ∷ []) (quoted_at rest)) (leaves_behind rest (d ∷ []) (quoted_at rest) (quoted_leaves rest))) tt

leaves_string : (text : List ℕ) (limit : ℕ) (read : Read (List ℕ)) → Leaves text read → Leaves text (as_string (read >>= λ x. cond (leb limit (length x.1 + (quoted_limit + 1))) (Ok x) (Err BadToken)))
leaves_string text limit (Err f) h = tt
leaves_string text limit (Ok x) h = elim (leb limit (length x.1 + (quoted_limit + 1))) as (λ b. Leaves text (as_string (cond b (Ok x) (Err BadToken)))) [ true ↦ h | false ↦ tt ]

token_leaves : (text : List ℕ) → Leaves text (token_at text)
unfolding token_at string_at
token_leaves [] = tt
token_leaves (c ∷ rest) =
    leaves_if _ (eqb c 40) _ _ (one_more c rest rest (whole rest))
    (leaves_if _ (eqb c 41) _ _ (one_more c rest rest (whole rest))
    (leaves_if _ (eqb c 34) _ _ (leaves_more c rest (as_string (string_at rest)) (leaves_string rest (length rest) (quoted_at rest) (quoted_leaves rest)))
    (leaves_if _ (is_word c) _ (Err (stray (c ∷ rest))) (dropped (prefix_len is_word (c ∷ rest)) (c ∷ rest)) tt)))

abbrev Keeps : List ℕ → Result (List ℕ) LexFault → Type 0
Keeps text (Ok left) = EndsIn text left
Keeps text (Err f) = Unit {0}

keeps_if : (text : List ℕ) (b : Bool) (x y : Result (List ℕ) LexFault) → Keeps text x → Keeps text y → Keeps text (cond b x y)
keeps_if text true x y h k = h
keeps_if text false x y h k = k

behind_keeps : (kind : Kind) (text : List ℕ) → Keeps text (gap_behind kind text)
unfolding gap_behind
behind_keeps kind [] = tt
behind_keeps kind (c ∷ rest) =
    keeps_if _ (eqb c 32) _ _ (keeps_if _ (eqb (slice_index rest 0) 41) (Err BadToken) (Ok rest) tt (one_more c rest rest (whole rest)))
    (keeps_if _ (may_touch kind c) (Ok (c ∷ rest)) (Err (stray (c ∷ rest))) (whole (c ∷ rest)) tt)

gap_keeps : (last : Option Kind) (text : List ℕ) → Keeps text (gap_at last text)
gap_keeps None text = whole text
gap_keeps (Some kinds.Open) text = whole text
gap_keeps (Some kinds.Tag) text = behind_keeps kinds.Tag text
gap_keeps (Some kinds.Word) text = behind_keeps kinds.Word text
gap_keeps (Some kinds.Quoted) text = behind_keeps kinds.Quoted text
gap_keeps (Some kinds.Literal) text = behind_keeps kinds.Literal text
gap_keeps (Some kinds.Close) text = behind_keeps kinds.Close text

-- where the next token begins
pub gap_ends : (last : Option Kind) (text left : List ℕ) → gap_at last text ≡ Ok left → EndsIn text left
gap_ends last text left e = rw e at (gap_keeps last text)

-- ---- where a text lies

pub lies_left : (copy : List ℕ) (end : ℕ) (text left : List ℕ) → LiesIn copy end text → EndsIn text left → LiesIn copy end left
lies_left copy end text left l e = record {
  front = l.front ++ e.front;
  after = l.after;
  whole_is =
      l.whole_is ∙ ap (λ (xs : List ℕ). l.front ++ (xs ++ l.after)) e.text_is ∙ ap (λ (xs : List ℕ). l.front ++ xs) (append_assoc e.front left l.after)
      ∙ sym (append_assoc l.front e.front (left ++ l.after));
  behind_is = omega (arith, l.behind_is, ap length e.text_is, length-append e.front left, length-append l.front e.front);
}

pub lies_grown : (copy new : List ℕ) (end : ℕ) (text : List ℕ) → Grows copy new → LiesIn copy end text → LiesIn new end text
lies_grown copy new end text g l =
    let more = drop (length copy) new in
    let grown : new ≡ copy ++ more = sym (take-append-drop (length copy) new) ∙ ap (λ (front : List ℕ). front ++ more) g in
    record {
      front = l.front;
      after = l.after ++ more;
      whole_is =
          grown ∙ ap (λ (xs : List ℕ). xs ++ more) l.whole_is ∙ append_assoc l.front (text ++ l.after) more
          ∙ ap (λ (xs : List ℕ). l.front ++ xs) (append_assoc text l.after more);
      behind_is = l.behind_is;
    }

-- the octets at its front
pub front_in : (copy : List ℕ) (end : ℕ) (text : List ℕ) (start n : ℕ) → LiesIn copy end text → n ≤ length text → start ≡ end - length text → take (start + n - start) (drop start copy) ≡ take n text
front_in copy end text start n l within e =
    let begins : start ≡ length l.front = omega (arith, l.behind_is) in
    let len : start + n - start ≡ n = omega arith in
    ap (λ k. take k (drop start copy)) len ∙ ap (λ (xs : List ℕ). take n (drop start xs)) l.whole_is ∙ ap (take n) (drop_at l.front (text ++ l.after) start (sym begins)) ∙ take-append-le n text l.after within

pub lies_within : (copy : List ℕ) (end : ℕ) (text : List ℕ) → LiesIn copy end text → (length text ≤ end) × (end ≤ length copy)
lies_within copy end text l =
    let whole_len : length copy ≡ length l.front + (length text + length l.after) = ap length l.whole_is ∙ length-append l.front (text ++ l.after) ∙ ap (λ n. length l.front + n) (length-append text l.after) in
    (omega (arith, l.behind_is), omega (arith, l.behind_is, whole_len))

pub lies_dropped : (copy : List ℕ) (end : ℕ) (text left : List ℕ) (n : ℕ) → LiesIn copy end text → left ≡ drop n text → LiesIn copy end left
lies_dropped copy end text left n l e = rw e (lies_left copy end text (drop n text) l (dropped n text))

pub lies_behind : (copy : List ℕ) (end : ℕ) (text left : List ℕ) (c : ℕ) → LiesIn copy end text → text ≡ c ∷ left → LiesIn copy end left
lies_behind copy end text left c l e = lies_left copy end text left l (record { front = c ∷ []; text_is = e })

-- the first token of a command
pub begun_tag : (mode : Mode) (tokens new : List Token) (part tag left : List ℕ) → mode ≡ modes.Command → length tokens ≡ 0 → tag_at part ≡ Ok (tag, left) → Splits part tag left
    → new ≡ tokens ++ tag_token (take (length tag) part) ∷ [] → begun_at mode tokens part ≡ Ok (new, left)
begun_tag mode [] new part tag left m e read s is =
    let front : take (length tag) part ≡ tag = sym s.front_is in
    rw (m, read, is, front) refl
begun_tag mode (t ∷ ts) new part tag left m e read s is = absurd (omega arith)

-- after a token that was pushed
left_of : (seen new : List Token) (end : ℕ) (front left : List ℕ) (read : Read Lexeme) → with_token seen end front read ≡ Ok (new, left) → Leaves front read → EndsIn front left
left_of seen new end front left (Err f) e h = absurd cc
left_of seen new end front left (Ok x) e h =
    let p : ◌≡◌ {A = List Token × List ℕ} (seen ++ token_of_lexeme end front x ∷ [], x.1) (new, left) = cc in
    subst (EndsIn front) (ap (λ q. q.1) p) h

pub token_ends : (seen new : List Token) (end : ℕ) (front left : List ℕ) → with_token seen end front (token_at front) ≡ Ok (new, left) → EndsIn front left
token_ends seen new end front left e = left_of seen new end front left (token_at front) e (token_leaves front)
