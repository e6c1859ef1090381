-- Each token of a part takes an octet at least, so that the bound on their number changes nothing.
use Rattle.std.proofs.Common.{◌≡◌, ℕ, zero, suc, ◌+◌, ◌<◌, ◌≤◌, Bool, true, false, cond, List, [], ◌∷◌, ◌++◌, length, drop, Option, Some, None, Result, Ok, Err, refl, arith, length-drop, eqb, leb, slice_index}
use Rattle.std.specs.List.{prefix_len}
use Rattle.acap_lexer.specs.declared.found.Announced.{Announced}
use Rattle.acap_lexer.specs.declared.fault.LexFault.{LexFault}
use Rattle.acap_lexer.specs.declared.fault.LexFault.TheVariants.{BadToken}
use Rattle.acap_lexer.specs.declared.kind.Kind.{Kind}
use Rattle.acap_lexer.specs.declared.kind.Kind.TheVariants as kinds
use Rattle.acap_lexer.specs.Octets.{is_word, is_quotable, is_escaped}
use Rattle.acap_lexer.specs.Part.{Part, last_kind, with_token, token_of_lexeme, part_by, part_within}
use Rattle.acap_lexer.specs.Reading.{◌>>=◌, Read, Lexeme, behind, quoted_at, escaped_at, string_at, as_string, token_at, mark_of, may_touch, gap_behind, gap_at, stray, quoted_limit}
use Rattle.acap_lexer.specs.Token.{Token}

-- less is left than the number
abbrev Leaves : {A : Type 0} → ℕ → Read A → Type 0
Leaves n (Ok x) = length x.1 < n
Leaves n (Err f) = Unit {0}

leaves_more : {A : Type 0} (m n : ℕ) (read : Read A) → m ≤ n → Leaves m read → Leaves n read
leaves_more m n (Ok x) le h = omega (arith, h)
leaves_more m n (Err f) le h = tt

leaves_if : {A : Type 0} (n : ℕ) (b : Bool) (x y : Read A) → Leaves n x → Leaves n y → Leaves n (cond b x y)
leaves_if n true x y h k = h
leaves_if n false x y h k = k

leaves_if_true : {A : Type 0} (n : ℕ) (b : Bool) (x y : Read A) → (b ≡ true → Leaves n x) → Leaves n y → Leaves n (cond b x y)
leaves_if_true n true x y h k = h refl
leaves_if_true n false x y h k = k

leaves_behind : (n : ℕ) (front : List ℕ) (read : Read (List ℕ)) → Leaves n read → Leaves n (behind front read)
leaves_behind n front (Ok x) h = h
leaves_behind n front (Err f) h = tt

mutual
  unfolding quoted_at

  quoted_leaves : (rest : List ℕ) → Leaves (length rest) (quoted_at rest)
  quoted_leaves [] = tt
  quoted_leaves (c ∷ rest) =
      leaves_if _ (eqb c 34) _ _ (omega arith)
      (leaves_if _ (eqb c 92) _ _ (leaves_more (length rest) _ (escaped_at rest) (omega arith) (escaped_leaves rest))
      (leaves_if _ (is_quotable c) _ (Err BadToken) (leaves_more (length rest) _ (behind (c ∷ []) (quoted_at rest)) (omega arith) (leaves_behind (length rest) (c ∷ []) (quoted_at rest) (quoted_leaves rest))) tt))

  escaped_leaves : (rest : List ℕ) → Leaves (length rest) (escaped_at rest)
  escaped_leaves [] = tt
  escaped_leaves (d ∷ rest) =
      leaves_if _ (is_escaped d) _ (Err BadToken) (leaves_more (length rest) _ (behind (d ∷ []) (quoted_at rest)) (omega arith) (leaves_behind (length rest) (d ∷ []) (quoted_at rest) (quoted_leaves rest))) tt

leaves_string : (n limit : ℕ) (read : Read (List ℕ)) → Leaves n read → Leaves n (as_string (read >>= λ x. cond (leb limit (length x.1 + (quoted_limit + 1))) (Ok x) (Err BadToken)))
leaves_string n limit (Err f) h = tt
leaves_string n limit (Ok x) h = elim (leb limit (length x.1 + (quoted_limit + 1))) as (λ b. Leaves n (as_string (cond b (Ok x) (Err BadToken)))) [ true ↦ h | false ↦ tt ]

prefix_one : (p : ℕ → Bool) (c : ℕ) (rest : List ℕ) → p c ≡ true → length (drop (prefix_len p (c ∷ rest)) (c ∷ rest)) < length (c ∷ rest)
prefix_one p c rest h = rw h (omega (arith, length-drop (1 + prefix_len p rest) (c ∷ rest)))

token_leaves : (text : List ℕ) → Leaves (length text) (token_at text)
unfolding token_at string_at
token_leaves [] = tt
token_leaves (c ∷ rest) =
    leaves_if _ (eqb c 40) _ _ (omega arith)
    (leaves_if _ (eqb c 41) _ _ (omega arith)
    (leaves_if _ (eqb c 34) _ _ (leaves_more (length rest) _ (as_string (string_at rest)) (omega arith) (leaves_string (length rest) (length rest) (quoted_at rest) (quoted_leaves rest)))
    (leaves_if_true _ (is_word c) _ _ (λ h. prefix_one is_word c rest h) tt)))

-- no more is left than there was
abbrev Keeps : ℕ → Result (List ℕ) LexFault → Type 0
Keeps n (Ok left) = length left ≤ n
Keeps n (Err f) = Unit {0}

keeps_if : (n : ℕ) (b : Bool) (x y : Result (List ℕ) LexFault) → Keeps n x → Keeps n y → Keeps n (cond b x y)
keeps_if n true x y h k = h
keeps_if n false x y h k = k

behind_keeps : (kind : Kind) (text : List ℕ) → Keeps (length text) (gap_behind kind text)
unfolding gap_behind
behind_keeps kind [] = tt
behind_keeps kind (c ∷ rest) =
    keeps_if _ (eqb c 32) _ _ (keeps_if _ (eqb (slice_index rest 0) 41) (Err BadToken) (Ok rest) tt (omega arith))
    (keeps_if _ (may_touch kind c) (Ok (c ∷ rest)) (Err (stray (c ∷ rest))) (omega arith) tt)

gap_keeps : (last : Option Kind) (text : List ℕ) → Keeps (length text) (gap_at last text)
gap_keeps None text = omega arith
gap_keeps (Some kinds.Open) text = omega arith
gap_keeps (Some kinds.Tag) text = behind_keeps kinds.Tag text
gap_keeps (Some kinds.Word) text = behind_keeps kinds.Word text
gap_keeps (Some kinds.Quoted) text = behind_keeps kinds.Quoted text
gap_keeps (Some kinds.Literal) text = behind_keeps kinds.Literal text
gap_keeps (Some kinds.Close) text = behind_keeps kinds.Close text

same_token : (n end : ℕ) (seen : List Token) (front : List ℕ) (f g : List Token → List ℕ → Result Part LexFault) (read : Read Lexeme)
    → ((ts : List Token) (t : List ℕ) → length t < n → f ts t ≡ g ts t) → Leaves n read
    → (with_token seen end front read >>= λ x. f x.0 x.1) ≡ (with_token seen end front read >>= λ x. g x.0 x.1)
same_token n end seen front f g (Ok x) same h = same (seen ++ token_of_lexeme end front x ∷ []) x.1 h
same_token n end seen front f g (Err e) same h = refl

same_part : (n end : ℕ) (seen : List Token) (front : List ℕ) (f g : List Token → List ℕ → Result Part LexFault) (mark : Option Announced)
    → length front ≤ n → ((ts : List Token) (t : List ℕ) → length t < n → f ts t ≡ g ts t) → part_by f end seen front mark ≡ part_by g end seen front mark
same_part n end seen front f g (Some m) within same = refl
same_part n end seen front f g None within same = same_token n end seen front f g (token_at front) same (leaves_more (length front) n (token_at front) within (token_leaves front))

same_gap : (n end : ℕ) (seen : List Token) (f g : List Token → List ℕ → Result Part LexFault) (gap : Result (List ℕ) LexFault)
    → Keeps n gap → ((ts : List Token) (t : List ℕ) → length t < n → f ts t ≡ g ts t)
    → (gap >>= λ front. part_by f end seen front (mark_of front)) ≡ (gap >>= λ front. part_by g end seen front (mark_of front))
same_gap n end seen f g (Ok front) keeps same = same_part n end seen front f g (mark_of front) keeps same
same_gap n end seen f g (Err e) keeps same = refl

enough : (m n end : ℕ) (seen : List Token) (text : List ℕ) → length text ≤ m → length text ≤ n → part_within m end seen text ≡ part_within n end seen text
unfolding part_within
enough zero zero end seen [] a b = refl
enough zero (suc n) end seen [] a b = refl
enough (suc m) zero end seen [] a b = refl
enough (suc m) (suc n) end seen [] a b = refl
enough zero n end seen (c ∷ rest) a b = absurd (omega arith)
enough (suc m) zero end seen (c ∷ rest) a b = absurd (omega arith)
enough (suc m) (suc n) end seen (c ∷ rest) a b =
    same_gap (length (c ∷ rest)) end seen (part_within m end) (part_within n end) (gap_at (last_kind seen) (c ∷ rest)) (gap_keeps (last_kind seen) (c ∷ rest))
    (λ ts t lt. enough m n end ts t (omega arith) (omega arith))

-- A part is read to its end: its octets are a bound on its tokens, and a greater bound changes nothing.
pub reads_parts : (most end : ℕ) (seen : List Token) (text : List ℕ) → length text ≤ most → part_within most end seen text ≡ part_within (length text) end seen text
reads_parts most end seen text le = enough most (length text) end seen text le (omega arith)
