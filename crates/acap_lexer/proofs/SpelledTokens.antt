-- A token as it is written, and as it is read.
use Rattle.std.proofs.Common.{◌≡◌, ℕ, suc, ◌+◌, ◌-◌, ◌*◌, ◌^◌, ◌≤◌, ◌⊎◌, inl, inr, Bool, true, false, cond, List, [], ◌∷◌, ◌++◌, length, take, drop, Option, Some, None, Ok, refl, sym, ap, ◌∙◌, arith, eqb, slice_index, length-append, append_assoc}
use Rattle.std.specs.List.{list_all, prefix_len}
use Rattle.std.proofs.lemmas.Bool.{and_parts, eqb-true, leb-true}
use Rattle.std.proofs.lemmas.List.{take-append-drop}
use Rattle.std.proofs.lemmas.List.Folds.{length-prefix_len}
use Rattle.std.proofs.Math.Seq.{take-append_seam, drop-append_seam}
use Rattle.std.proofs.Math.Nat.{add-mul, mul_assoc, mul_comm, pow-suc}
use Rattle.acap_lexer.specs.declared.found.Announced.{Announced}
use Rattle.acap_lexer.specs.declared.kind.Kind.{Kind}
use Rattle.acap_lexer.specs.declared.kind.Kind.TheVariants as kinds
use Rattle.acap_lexer.specs.Octets.{is_word, is_digit}
use Rattle.acap_lexer.specs.Printing.{escaped_form, quoted_form}
use Rattle.acap_lexer.specs.Reading.{Read, Lexeme, as_string, number_of, is_count, count_of, closing_of, mark_of, quoted_at, string_at, token_at, may_touch, gap_behind, gap_at}
use Rattle.acap_lexer.specs.Spelling.{Written, Word, Quoted, Literal, Open, Close, kind_of, value_of, own, mark, number, IsCount, IsSpelled, may_follow, gap}
use Rattle.acap_lexer.proofs.Counting.{number_from}
use Rattle.acap_lexer.proofs.Quoting.{reads_string, quoted_spelled}

-- ---- runs of octets of one kind

-- the octet at the front, if any, is none of these
abbrev pub Stops : (ℕ → Bool) → List ℕ → Type 0
Stops p [] = Unit {0}
Stops p (c ∷ rest) = p c ≡ false

pub longest : (p : ℕ → Bool) (xs rest : List ℕ) → list_all p xs ≡ true → Stops p rest → prefix_len p (xs ++ rest) ≡ length xs
longest p [] [] all stops = refl
longest p [] (c ∷ rest) all stops = rw stops refl
longest p (x ∷ xs) rest all stops = grind (arith, longest p xs rest)

taken_one : (p : ℕ → Bool) (x : ℕ) (xs : List ℕ) (n : ℕ) → p x ≡ true → list_all p (take n xs) ≡ true → list_all p (take (1 + n) (x ∷ xs)) ≡ true
taken_one p x xs n h later = let more : 1 + n ≡ suc n = omega arith in rw (more, h) later

pub all_taken : (p : ℕ → Bool) (xs : List ℕ) → list_all p (take (prefix_len p xs) xs) ≡ true
all_taken p [] = refl
all_taken p (x ∷ xs) = grind (arith, taken_one p x xs (prefix_len p xs), all_taken p xs)

-- ---- the mark of a literal

in_places : (a x p r : ℕ) → (10 * a + x) * p + r ≡ a * (p * 10) + (x * p + r)
in_places a x p r =
    let turned : 10 * a * p ≡ a * (p * 10) = ap (λ n. n * p) (mul_comm 10 a) ∙ mul_assoc a 10 p ∙ ap (λ n. a * n) (mul_comm 10 p) in
    omega (arith, add-mul (10 * a) x p, turned)

-- digit by digit it is the same number
by_places : (digits : List ℕ) (count : ℕ) → number_from count digits ≡ count * 10 ^ length digits + number digits
by_places [] count = let one : count * 10 ^ 0 ≡ count = omega arith in omega (arith, one)
by_places (d ∷ digits) count =
    by_places digits (10 * count + (d - 48)) ∙ in_places count (d - 48) (10 ^ length digits) (number digits)
    ∙ ap (λ n. count * n + ((d - 48) * 10 ^ length digits + number digits)) (sym (pow-suc 10 (length digits)))

pub number_same : (digits : List ℕ) → number_of digits ≡ number digits
number_same digits = by_places digits 0 ∙ omega arith

count_reads : (digits : List ℕ) (count : ℕ) → IsCount digits count → count_of digits ≡ Some count
unfolding count_of is_count
count_reads digits count c = grind (arith, number_same digits)

count_spelled : (digits : List ℕ) (count : ℕ) → count_of digits ≡ Some count → (number digits ≡ count) × (1 ≤ length digits) × (length digits ≤ 10) × (count ≤ 4294967295)
unfolding count_of is_count
count_spelled digits count e = grind (arith, number_same digits, leb-true)

closing : Bool → List ℕ
closing waits = cond waits (125 ∷ []) (43 ∷ 125 ∷ [])

closing_spelled : (rest : List ℕ) (waits : Bool) → closing_of rest ≡ Some waits → rest ≡ closing waits
unfolding closing closing_of
closing_spelled [] waits e = absurd cc
closing_spelled (c ∷ []) waits e = grind (arith, eqb-true c 125)
closing_spelled (c ∷ d ∷ []) waits e = grind (arith, eqb-true c 43, eqb-true d 125)
closing_spelled (c ∷ d ∷ f ∷ rest) waits e = grind arith

closing_stops : (waits : Bool) → Stops is_digit (closing waits) × (closing_of (closing waits) ≡ Some waits)
unfolding closing closing_of is_digit
closing_stops true = (refl, refl)
closing_stops false = (refl, refl)

pub mark_reads : (digits : List ℕ) (waits : Bool) (count : ℕ) → IsCount digits count → mark_of (mark digits waits) ≡ Some (record { count = count; waits = waits })
unfolding mark_of closing
mark_reads digits waits count c =
    let stops = closing_stops waits in
    rw (longest is_digit digits (closing waits) c.digits_only stops.0, take-append_seam digits (closing waits), drop-append_seam digits (closing waits), count_reads digits count c, stops.1) refl

mark_parts : (c : ℕ) (rest : List ℕ) (m : Announced) → mark_of (c ∷ rest) ≡ Some m
    → (c ≡ 123) × (count_of (take (prefix_len is_digit rest) rest) ≡ Some m.count) × (closing_of (drop (prefix_len is_digit rest) rest) ≡ Some m.waits)
unfolding mark_of
mark_parts c rest m e = grind (arith, eqb-true c 123)

-- the text is a mark that says so
pub record IsMark (text : List ℕ) (m : Announced) : Type 0 where
  pub digits : List ℕ
  pub count : IsCount digits m.count
  pub text_is : text ≡ mark digits m.waits

pub mark_spelled : (text : List ℕ) (m : Announced) → mark_of text ≡ Some m → IsMark text m
unfolding closing mark_of
mark_spelled [] m e = absurd cc
mark_spelled (c ∷ rest) m e =
    let n = prefix_len is_digit rest in
    let p = mark_parts c rest m e in
    let k = count_spelled (take n rest) m.count p.1 in
    record {
      digits = take n rest;
      count = record { digits_only = all_taken is_digit rest; some = k.1; few = k.2; number_is = k.0; small = k.3 };
      text_is = rw p.0 (ap (λ (r : List ℕ). 123 ∷ r) (sym (take-append-drop n rest) ∙ ap (λ (r : List ℕ). take n rest ++ r) (closing_spelled (drop n rest) m.waits p.2)));
    }

-- ---- the first octet of a token

-- what it tells of the token's kind
abbrev pub IsFirst : Kind → ℕ → Type 0
IsFirst kinds.Open c = c ≡ 40
IsFirst kinds.Close c = c ≡ 41
IsFirst kinds.Literal c = c ≡ 123
IsFirst _ c = (eqb c 40 ≡ false) × (eqb c 41 ≡ false) × (eqb c 123 ≡ false) × (eqb c 32 ≡ false)

abbrev pub Starts : Kind → List ℕ → Type 0
Starts kind text = (c : ℕ) × (others : List ℕ) × (text ≡ c ∷ others) × IsFirst kind c

word_first : (c : ℕ) → is_word c ≡ true → IsFirst kinds.Word c × (eqb c 34 ≡ false)
unfolding is_word
word_first c w = grind arith

pub starts : (w : Written) → IsSpelled w → Starts (kind_of w) (own w)
unfolding quoted_form
starts (Word []) s = absurd (omega (arith, s.1))
starts (Word (c ∷ cs)) s = (c, cs, refl, (word_first c (and_parts (is_word c) (list_all is_word cs) s.0).0).0)
starts (Quoted octets) s = (34, escaped_form octets ++ 34 ∷ [], refl, (refl, refl, refl, refl))
starts (Literal digits waits octets) s = (123, _, refl, refl)
starts Open s = (40, [], refl, refl)
starts Close s = (41, [], refl, refl)

-- ---- a token but a literal

abbrev pub IsPlain : Written → Type 0
IsPlain (Literal digits waits octets) = ⊥
IsPlain _ = Unit {0}

-- a word goes up to an octet that is in none
abbrev pub Ends : Kind → List ℕ → Type 0
Ends kinds.Word rest = Stops is_word rest
Ends _ rest = Unit {0}

abbrev pub lexeme_of : Written → Lexeme
lexeme_of w = record { kind = kind_of w; value = value_of w }

word_at : ℕ → List ℕ → Read Lexeme
word_at n text = Ok (lexeme_of (Word (take n text)), drop n text)

word_reads : (c : ℕ) (rest : List ℕ) → is_word c ≡ true → token_at (c ∷ rest) ≡ word_at (prefix_len is_word (c ∷ rest)) (c ∷ rest)
unfolding token_at word_at
word_reads c rest w = let f = word_first c w in rw (f.0.0, f.0.1, f.1, w) refl

pub token_reads : (w : Written) (rest : List ℕ) → IsSpelled w → IsPlain w → Ends (kind_of w) rest → token_at (own w ++ rest) ≡ Ok (lexeme_of w, rest)
unfolding token_at word_at
token_reads (Word []) rest s plain ends = absurd (omega (arith, s.1))
token_reads (Word (c ∷ cs)) rest s plain ends =
    word_reads c (cs ++ rest) (and_parts (is_word c) (list_all is_word cs) s.0).0 ∙ ap (λ n. word_at n ((c ∷ cs) ++ rest)) (longest is_word (c ∷ cs) rest s.0 ends)
    ∙ rw (take-append_seam (c ∷ cs) rest, drop-append_seam (c ∷ cs) rest) refl
token_reads (Quoted octets) rest s plain ends = reads_string octets rest s.0 s.1
token_reads (Literal digits waits octets) rest s plain ends = absurd plain
token_reads Open rest s plain ends = refl
token_reads Close rest s plain ends = refl

string_parts : (rest : List ℕ) (x : Lexeme × List ℕ) → as_string (string_at rest) ≡ Ok x
    → (quoted_at rest ≡ Ok (x.0.value, x.1)) × (x.0 ≡ lexeme_of (Quoted x.0.value)) × (length rest ≤ length x.1 + 1025)
unfolding string_at
string_parts rest x e = grind (arith, leb-true)

abbrev IsWord : ℕ → List ℕ → Lexeme × List ℕ → Type 0
IsWord n text x = (x.0 ≡ lexeme_of (Word (take n text))) × (x.1 ≡ drop n text) × (1 ≤ n)

token_parts : (c : ℕ) (rest : List ℕ) (x : Lexeme × List ℕ) → token_at (c ∷ rest) ≡ Ok x
    → ((c ≡ 40) × (x.0 ≡ lexeme_of Open) × (x.1 ≡ rest)) ⊎ (((c ≡ 41) × (x.0 ≡ lexeme_of Close) × (x.1 ≡ rest))
    ⊎ (((c ≡ 34) × (as_string (string_at rest) ≡ Ok x)) ⊎ IsWord (prefix_len is_word (c ∷ rest)) (c ∷ rest) x))
unfolding token_at
token_parts c rest x e = grind (arith, eqb-true c 40, eqb-true c 41, eqb-true c 34)

-- the text is a token, as it was read, and what is left
pub record IsToken (text : List ℕ) (x : Lexeme × List ℕ) : Type 0 where
  pub written : Written
  pub spelled : IsSpelled written
  pub plain : IsPlain written
  pub text_is : text ≡ own written ++ x.1
  pub lexeme_is : x.0 ≡ lexeme_of written

pub token_spelled : (text : List ℕ) (x : Lexeme × List ℕ) → token_at text ≡ Ok x → IsToken text x
unfolding token_at quoted_form
token_spelled [] x e = absurd cc
token_spelled (c ∷ rest) x e =
    elim (token_parts c rest x e) [
      | inl o ↦ record { written = Open; spelled = tt; plain = tt; text_is = rw (o.0, o.2) refl; lexeme_is = o.1 }
      | inr p ↦ elim p [
        | inl o ↦ record { written = Close; spelled = tt; plain = tt; text_is = rw (o.0, o.2) refl; lexeme_is = o.1 }
        | inr q ↦ elim q [
          | inl s ↦ (
              let t = string_parts rest x s.1 in
              let quote = quoted_spelled rest x.0.value x.1 t.0 in
              record {
                written = Quoted x.0.value;
                spelled = (quote.printable, omega (arith, t.2, ap length quote.form, length-append (escaped_form x.0.value) (34 ∷ x.1)));
                plain = tt;
                text_is = rw s.0 (ap (λ (r : List ℕ). 34 ∷ r) (quote.form ∙ sym (append_assoc (escaped_form x.0.value) (34 ∷ []) x.1)));
                lexeme_is = t.1;
              })
          | inr w ↦ record {
            written = Word (take (prefix_len is_word (c ∷ rest)) (c ∷ rest));
            spelled = (all_taken is_word (c ∷ rest), omega (arith, w.2, length-prefix_len is_word (c ∷ rest)));
            plain = tt;
            text_is = sym (take-append-drop (prefix_len is_word (c ∷ rest)) (c ∷ rest)) ∙ ap (λ (r : List ℕ). take (prefix_len is_word (c ∷ rest)) (c ∷ rest) ++ r) (sym w.1);
            lexeme_is = w.0;
          }
        ]
      ]
    ]

-- ---- the gap before a token

pub gap_reads : (last : Option Kind) (next : Kind) (spaced : Bool) (c : ℕ) (rest : List ℕ) → may_follow last spaced next ≡ true → IsFirst next c → gap_at last (gap spaced ++ c ∷ rest) ≡ Ok (c ∷ rest)
unfolding gap_behind may_touch
gap_reads last next spaced c rest m f = grind arith

abbrev pub is_spaced : Option Kind → List ℕ → Bool
is_spaced None text = false
is_spaced (Some kinds.Open) text = false
is_spaced (Some _) text = eqb (slice_index text 0) 32

pub gap_spelled : (last : Option Kind) (next : Kind) (text : List ℕ) (c : ℕ) (rest : List ℕ) → gap_at last text ≡ Ok (c ∷ rest) → IsFirst next c
    → (may_follow last (is_spaced last text) next ≡ true) × (text ≡ gap (is_spaced last text) ++ c ∷ rest)
unfolding gap_behind may_touch
gap_spelled last next [] c rest e f = grind arith
gap_spelled last next (d ∷ text) c rest e f = grind (arith, eqb-true d 32)
