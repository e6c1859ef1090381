-- Reading a quoted string.
use Rattle.std.proofs.Common.{◌≡◌, ℕ, suc, ◌+◌, ◌⊎◌, inl, inr, Bool, true, false, List, [], ◌∷◌, ◌++◌, take, drop, length, Ok, Err, refl, sym, ap, ◌∙◌, append_assoc, eqb, leb, ◌≤◌, arith, length-append, length-drop}
use Rattle.std.specs.Prelude.{not, ◌||◌, ◌&&◌}
use Rattle.std.specs.Str.{is_utf8}
use Rattle.std.proofs.lemmas.Bool.{and_parts, and_from, eqb-true, or_parts, or_from, not-true, not_from_false, le-leb, leb-true}
use Rattle.std.proofs.lemmas.List.{append-nil}
use Rattle.acap_lexer.specs.declared.kind.Kind.TheVariants as kinds
use Rattle.std.specs.List.{list_all}
use Rattle.acap_lexer.specs.Printing.{escape, escaped_form, is_printable, may_quote, quoted_form}
use Rattle.std.specs.List.{prefix_len}
use Rattle.acap_lexer.specs.Octets.{is_quotable, is_escaped}
use Rattle.acap_lexer.specs.Reading.{Read, behind, quoted_at, escaped_at, string_at, token_at}

pub behind_more : (front more : List ℕ) (read : Read (List ℕ)) → behind front (behind more read) ≡ behind (front ++ more) read
behind_more front more (Ok x) = ap (λ (bs : List ℕ). Ok (bs, x.1)) (sym (append_assoc front more x.0))
behind_more front more (Err f) = refl

behind_none : (read : Read (List ℕ)) → behind [] read ≡ read
behind_none (Ok x) = refl
behind_none (Err f) = refl

-- what stands for itself is neither a quote nor a backslash
pub not_special : (a b : Bool) → not (a || b) ≡ true → (a ≡ false) × (b ≡ false)
not_special true b e = absurd cc
not_special false true e = absurd cc
not_special false false e = (refl, refl)

pub plain : (c : ℕ) → is_quotable c ≡ true → (eqb c 34 ≡ false) × (eqb c 92 ≡ false)
unfolding is_quotable
plain c e =
    let outer = not_special (eqb c 0 || eqb c 10 || eqb c 13 || eqb c 34) (eqb c 92) e in
    let inner = not_special (eqb c 0 || eqb c 10 || eqb c 13) (eqb c 34) (ap not outer.0) in
    (inner.1, outer.1)

-- the octets that stand for themselves may be read at once
pub quoted_plain : (text : List ℕ) → quoted_at text ≡ behind (take (prefix_len is_quotable text) text) (quoted_at (drop (prefix_len is_quotable text) text))
unfolding quoted_at
quoted_plain [] = refl
quoted_plain (c ∷ rest) = by_test (is_quotable c) refl (quoted_plain rest)
  where
    split_at : ℕ → Read (List ℕ)
    split_at n = behind (take n (c ∷ rest)) (quoted_at (drop n (c ∷ rest)))

    by_test : (b : Bool) → is_quotable c ≡ b → quoted_at rest ≡ behind (take (prefix_len is_quotable rest) rest) (quoted_at (drop (prefix_len is_quotable rest) rest))
        → quoted_at (c ∷ rest) ≡ split_at (prefix_len is_quotable (c ∷ rest))
    by_test false e later =
        let none : prefix_len is_quotable (c ∷ rest) ≡ 0 = rw e refl in
        sym (behind_none (quoted_at (c ∷ rest))) ∙ ap split_at (sym none)
    by_test true e later =
        let n = prefix_len is_quotable rest in
        let more : prefix_len is_quotable (c ∷ rest) ≡ suc n = rw e (omega arith) in
        let p = plain c e in
        let first : quoted_at (c ∷ rest) ≡ behind (c ∷ []) (quoted_at rest) = rw (p.0, p.1, e) refl in
        first ∙ ap (behind (c ∷ [])) later ∙ behind_more (c ∷ []) (take n rest) (quoted_at (drop n rest)) ∙ ap split_at (sym more)

read_plain : (c : ℕ) (rest : List ℕ) → is_quotable c ≡ true → quoted_at (c ∷ rest) ≡ behind (c ∷ []) (quoted_at rest)
unfolding quoted_at
read_plain c rest e = let p = plain c e in rw (p.0, p.1, e) refl

-- an octet that was read, and those after it that stand for themselves, may be read at once
octets_at_once : (c : ℕ) (rest : List ℕ) (read : Read (List ℕ)) (n : ℕ) → n ≡ prefix_len is_quotable rest → read ≡ behind (c ∷ []) (quoted_at rest)
    → read ≡ behind (take (1 + n) (c ∷ rest)) (quoted_at (drop (1 + n) (c ∷ rest)))
octets_at_once c rest read n longest first =
    let more : 1 + n ≡ suc n = omega arith in
    let later : quoted_at rest ≡ behind (take n rest) (quoted_at (drop n rest)) = rw longest (quoted_plain rest) in
    rw more (first ∙ ap (behind (c ∷ [])) later ∙ behind_more (c ∷ []) (take n rest) (quoted_at (drop n rest)))

pub escaped_run : (text run left : List ℕ) (d : ℕ) (rest : List ℕ) (n : ℕ) → text ≡ d ∷ rest → is_escaped d ≡ true → n ≡ prefix_len is_quotable rest
    → run ≡ take (1 + n) text → left ≡ drop (1 + n) text → escaped_at text ≡ behind run (quoted_at left)
unfolding quoted_at
escaped_run text run left d rest n form e longest taken dropped =
    rw (taken, dropped, form) (octets_at_once d rest (escaped_at (d ∷ rest)) n longest (rw e refl))

pub plain_run : (text run left : List ℕ) (c : ℕ) (rest : List ℕ) (n : ℕ) → text ≡ c ∷ rest → is_quotable c ≡ true → n ≡ prefix_len is_quotable rest
    → run ≡ take (1 + n) text → left ≡ drop (1 + n) text → quoted_at text ≡ behind run (quoted_at left)
plain_run text run left c rest n form e longest taken dropped =
    rw (taken, dropped, form) (octets_at_once c rest (quoted_at (c ∷ rest)) n longest (read_plain c rest e))

-- ---- what is printed is read back

read_escaped : (c : ℕ) (rest : List ℕ) → is_escaped c ≡ true → quoted_at (92 ∷ c ∷ rest) ≡ behind (c ∷ []) (quoted_at rest)
unfolding quoted_at
read_escaped c rest e = rw e refl

pub is_plain : (c : ℕ) → is_printable c ≡ true → is_escaped c ≡ false → is_quotable c ≡ true
unfolding is_printable is_escaped is_quotable
is_plain c p e =
    let special = or_parts (eqb c 34) (eqb c 92) e in
    let control = not-true (eqb c 0 || eqb c 10 || eqb c 13) p in
    not_from_false _ (or_from (eqb c 0 || eqb c 10 || eqb c 13 || eqb c 34) (eqb c 92) (or_from (eqb c 0 || eqb c 10 || eqb c 13) (eqb c 34) control special.0) special.1)

pub escaped_reads : (text rest : List ℕ) → list_all is_printable text ≡ true → quoted_at (escaped_form text ++ 34 ∷ rest) ≡ Ok (text, rest)
unfolding quoted_at
escaped_reads [] rest p = refl
escaped_reads (c ∷ text) rest p = by_test (is_escaped c) refl (and_parts (is_printable c) (list_all is_printable text) p).0 (escaped_reads text rest (and_parts (is_printable c) (list_all is_printable text) p).1)
  where
    tail : List ℕ
    tail = escaped_form text ++ 34 ∷ rest

    by_test : (b : Bool) → is_escaped c ≡ b → is_printable c ≡ true → quoted_at tail ≡ Ok (text, rest) → quoted_at (escaped_form (c ∷ text) ++ 34 ∷ rest) ≡ Ok (c ∷ text, rest)
    by_test true e printable later =
        let form : escape c ≡ 92 ∷ c ∷ [] = rw e refl in
        ap (λ (front : List ℕ). quoted_at ((front ++ escaped_form text) ++ 34 ∷ rest)) form ∙ read_escaped c tail e ∙ ap (behind (c ∷ [])) later
    by_test false e printable later =
        let form : escape c ≡ c ∷ [] = rw e refl in
        ap (λ (front : List ℕ). quoted_at ((front ++ escaped_form text) ++ 34 ∷ rest)) form ∙ read_plain c tail (is_plain c printable e) ∙ ap (behind (c ∷ [])) later

pub reads_string : (text rest : List ℕ) → list_all is_printable text ≡ true → length (escaped_form text) ≤ 1024 → token_at (quoted_form text ++ rest) ≡ Ok (record { kind = kinds.Quoted; value = text }, rest)
unfolding token_at quoted_form string_at
reads_string text rest printable few =
    let read = escaped_reads text rest printable in
    let regroup : (escaped_form text ++ 34 ∷ []) ++ rest ≡ escaped_form text ++ 34 ∷ rest = append_assoc (escaped_form text) (34 ∷ []) rest in
    let short : leb (length (escaped_form text ++ 34 ∷ rest)) (length rest + 1025) ≡ true = le-leb _ _ (omega (arith, length-append (escaped_form text) (34 ∷ rest), few)) in
    rw (regroup, read, short) refl

pub reads_quoted : (text rest : List ℕ) → may_quote text ≡ true → token_at (quoted_form text ++ rest) ≡ Ok (record { kind = kinds.Quoted; value = text }, rest)
unfolding may_quote
reads_quoted text rest m =
    let parts = and_parts (leb (length (escaped_form text)) 1024) (is_utf8 text && list_all is_printable text) m in
    let printable = (and_parts (is_utf8 text) (list_all is_printable text) parts.1).1 in
    reads_string text rest printable (leb-true _ _ parts.0)

-- ---- what is read was so written

-- the text is a string's escaped form, its quote, and what is left
pub record IsQuote (text value left : List ℕ) : Type 0 where
  pub form : text ≡ escaped_form value ++ 34 ∷ left
  pub printable : list_all is_printable value ≡ true

abbrev Adds : ℕ → List ℕ → List ℕ → List ℕ → Type 0
Adds c rest value left = (v : List ℕ) × (quoted_at rest ≡ Ok (v, left)) × (value ≡ c ∷ v) × (is_printable c ≡ true)

quoted_parts : (c : ℕ) (rest value left : List ℕ) → quoted_at (c ∷ rest) ≡ Ok (value, left)
    → ((c ≡ 34) × (value ≡ []) × (rest ≡ left)) ⊎ (((c ≡ 92) × (escaped_at rest ≡ Ok (value, left))) ⊎ ((escape c ≡ c ∷ []) × Adds c rest value left))
unfolding quoted_at is_quotable is_printable is_escaped
quoted_parts c rest value left e = grind (arith, eqb-true c 34, eqb-true c 92)

escaped_parts : (d : ℕ) (rest value left : List ℕ) → escaped_at (d ∷ rest) ≡ Ok (value, left) → (escape d ≡ 92 ∷ d ∷ []) × Adds d rest value left
unfolding quoted_at is_printable is_escaped
escaped_parts d rest value left e = grind arith

one_more : (c : ℕ) (front rest value left : List ℕ) → escape c ≡ front → (a : Adds c rest value left) → IsQuote rest a.0 left → IsQuote (front ++ rest) value left
one_more c front rest value left form a q = record {
  form = rw (q.form, a.2, form) (sym (append_assoc front (escaped_form a.0) (34 ∷ left)));
  printable = rw a.2 (and_from _ _ a.3 q.printable);
}

mutual
  unfolding quoted_at

  pub quoted_spelled : (text value left : List ℕ) → quoted_at text ≡ Ok (value, left) → IsQuote text value left
  quoted_spelled [] value left e = absurd cc
  quoted_spelled (c ∷ rest) value left e =
      elim (quoted_parts c rest value left e) [
        | inl q ↦ rw (q.0, q.1, q.2) (record { form = refl; printable = refl })
        | inr p ↦ elim p [
          | inl s ↦ rw s.0 (escaped_spelled rest value left s.1)
          | inr a ↦ one_more c (c ∷ []) rest value left a.0 a.1 (quoted_spelled rest a.1.0 left a.1.1)
        ]
      ]

  escaped_spelled : (rest value left : List ℕ) → escaped_at rest ≡ Ok (value, left) → IsQuote (92 ∷ rest) value left
  escaped_spelled [] value left e = absurd cc
  escaped_spelled (d ∷ rest) value left e =
      let a = escaped_parts d rest value left e in
      one_more d (92 ∷ d ∷ []) rest value left a.0 a.1 (quoted_spelled rest a.1.0 left a.1.1)

-- ---- a string without escapes

pub plain_string : (rest left : List ℕ) (n : ℕ) → n ≡ prefix_len is_quotable rest → drop n rest ≡ 34 ∷ left → n ≤ 1024 → string_at rest ≡ Ok (take n rest, left)
unfolding string_at quoted_at
plain_string rest left n longest back short =
    let split : quoted_at rest ≡ behind (take n rest) (quoted_at (drop n rest)) = rw longest (quoted_plain rest) in
    let closed : quoted_at (34 ∷ left) ≡ Ok ([], left) = refl in
    let read : quoted_at rest ≡ Ok (take n rest, left) =
    split ∙ ap (λ (xs : List ℕ). behind (take n rest) (quoted_at xs)) back ∙ ap (behind (take n rest)) closed
    ∙ ap (λ (xs : List ℕ). let r : Read (List ℕ) = Ok (xs, left) in r) (append-nil (take n rest)) in
    let whole : length rest ≤ length left + 1025 = omega (arith, ap length back, length-drop n rest) in
    let test : leb (length rest) (length left + 1025) ≡ true = le-leb _ _ whole in
    rw (read, test) refl
