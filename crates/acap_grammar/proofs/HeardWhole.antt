-- How a line is heard from its first word to its end.
use Rattle.std.proofs.Common.{◌≡◌, ℕ, ◌<◌, ◌≤◌, ◌^◌, true, false, List, [], ◌∷◌, ◌++◌, map, length, Option, Some, None, refl, sym, ap, subst, ◌∙◌, append_assoc, length-append, arith, eqb, leb, decimal}
use Rattle.std.specs.Prelude.{◌||◌, ◌&&◌}
use Rattle.std.specs.List.{list_all}
use Rattle.std.proofs.lemmas.Bool.{and_parts, and_from, or_cases, or_left, or_right, leb-true, le-leb, ne_eqb}
use Rattle.std.proofs.Common.{◌⊎◌, inl, inr}
use Rattle.acap_lexer.specs.Octets.{is_word, is_tag}
use Rattle.acap_lexer.specs.Printing.{printed_form}
use Rattle.acap_grammar.specs.Lines.{Datum, Word, Text, group, Line, line_of, tagged, untagged}
use Rattle.acap_grammar.specs.Listening.{Client, Fresh, InWord, turned, heard, hears}
use Rattle.acap_grammar.specs.Readable.{after, IsLine}
use Rattle.acap_grammar.specs.Replies.{crlf, behind_spaces, tag_of, about_form, position_form}
use Rattle.acap_grammar.specs.Sayable.{IsTagged}
use Rattle.acap_grammar.proofs.HeardStrings.{hears-append}
use Rattle.acap_grammar.proofs.HeardForms.{holding, Settles, Reads, fits_first, fits_last, string_reads, word_settles, first_word, number_reads, then_space, together, reads_next, reads_spaced, reads_group}
use Rattle.acap_grammar.proofs.HeardLines.{line_from}

-- ---- a line so far: where a datum may begin, and where one has ended

pub record Opens (head : List ℕ) (ds : List Datum) : Type 0 where
  pub opens : (lines : List (Option Line)) → hears (after lines) head ≡ turned (holding (after lines) ds) Fresh

pub record Holds (body : List ℕ) (ds : List Datum) : Type 0 where
  pub holds : (lines : List (Option Line)) → Settles (hears (after lines) body) (holding (after lines) ds)

pub opens_then : (head form : List ℕ) (ds more : List Datum) → Opens head ds → Reads form more → length (head ++ form) < 2 ^ 64 → Holds (head ++ form) (ds ++ more)
opens_then head form ds more o r small = record {
  holds = λ lines.
      subst (λ t. Settles t (holding (after lines) (ds ++ more))) (sym (hears-append (after lines) head form ∙ ap (λ s. hears s form) (o.opens lines)))
      (r.read (fits_last head form small) (holding (after lines) ds));
}

pub holds_space : (body : List ℕ) (ds : List Datum) → Holds body ds → Opens (body ++ 32 ∷ []) ds
holds_space body ds h = record { opens = λ lines. hears-append (after lines) body (32 ∷ []) ∙ then_space (after lines) ds (hears (after lines) body) (h.holds lines) }

pub holds_number : (body : List ℕ) (ds : List Datum) (n : ℕ) → Holds body ds → n < 2 ^ 64 → length (body ++ position_form n) < 2 ^ 64 → Holds (body ++ position_form n) (ds ++ Word (decimal n) ∷ [])
unfolding position_form
holds_number body ds n h small all = record {
  holds = λ lines.
      subst (λ t. Settles t (holding (after lines) (ds ++ Word (decimal n) ∷ []))) (sym (hears-append (after lines) body (32 ∷ decimal n)))
      (reads_next (after lines) ds (hears (after lines) body) (decimal n) (Word (decimal n) ∷ []) (h.holds lines) (number_reads n small)
      (omega (arith, fits_last body (32 ∷ decimal n) all)));
}

pub holds_spaced : {A : Type 0} (form : A → List ℕ) (datum : A → Datum) → ((x : A) → Reads (form x) (datum x ∷ [])) → (xs : List A) (body : List ℕ) (ds : List Datum)
    → Holds body ds → length (body ++ behind_spaces form xs) < 2 ^ 64 → Holds (body ++ behind_spaces form xs) (ds ++ map datum xs)
holds_spaced form datum each xs body ds h small = record {
  holds = λ lines.
      subst (λ t. Settles t (holding (after lines) (ds ++ map datum xs))) (sym (hears-append (after lines) body (behind_spaces form xs)))
      (reads_spaced form datum each xs (after lines) ds (hears (after lines) body) (h.holds lines) (fits_last body (behind_spaces form xs) small));
}

-- the end of a line
pub holds_line : (body : List ℕ) (ds : List Datum) (line : Line) → Holds body ds → line_of ds ≡ Some line → IsLine (body ++ crlf) line
unfolding is_word
holds_line body ds line h e = line_from (body ++ crlf) line (λ lines.
    hears-append (after lines) body crlf
    ∙ ap (λ t. heard t 10) ((h.holds lines).alike 13 refl)
    ∙ ap (λ (x : Option Line). after (lines ++ x ∷ [])) e)

-- a parenthesis, and the space after it
pub opens_group : (head inner : List ℕ) (ds about : List Datum) → Opens head ds → Reads inner about → length (head ++ (40 ∷ (inner ++ 41 ∷ 32 ∷ []))) < 2 ^ 64
    → Opens (head ++ (40 ∷ (inner ++ 41 ∷ 32 ∷ []))) (ds ++ group about ∷ [])
opens_group head inner ds about o r small = record {
  opens = λ lines.
      let client : Client = holding (after lines) ds in
      let whole = 40 ∷ (inner ++ 41 ∷ 32 ∷ []) in
      let short : length inner < 2 ^ 64 = omega (arith, fits_last head whole small, length-append inner (41 ∷ 32 ∷ [])) in
      let regroup : whole ≡ (40 ∷ (inner ++ 41 ∷ [])) ++ 32 ∷ [] = ap (λ (w : List ℕ). 40 ∷ w) (sym (append_assoc inner (41 ∷ []) (32 ∷ []))) in
      hears-append (after lines) head whole
      ∙ ap (λ s. hears s whole) (o.opens lines)
      ∙ ap (hears (turned client Fresh)) regroup
      ∙ hears-append (turned client Fresh) (40 ∷ (inner ++ 41 ∷ [])) (32 ∷ [])
      ∙ ap (λ s. heard s 32) (reads_group inner about r short client)
      ∙ ap (λ (s : Client). turned s Fresh) (together (after lines) ds (group about ∷ []));
}

-- `word "context" "thing"`
pub about_holds : (word : List ℕ) (ds : List Datum) (context thing : List ℕ) → Opens word ds → length (about_form word context thing) < 2 ^ 64
    → Holds (about_form word context thing) ((ds ++ Text context ∷ []) ++ Text thing ∷ [])
unfolding about_form
about_holds word ds context thing o small =
    let first = word ++ printed_form context in
    let spaced = first ++ 32 ∷ [] in
    let short = fits_first spaced (printed_form thing) small in
    let one = opens_then word (printed_form context) ds (Text context ∷ []) o (string_reads context) (fits_first first (32 ∷ []) short) in
    opens_then spaced (printed_form thing) (ds ++ Text context ∷ []) (Text thing ∷ []) (holds_space first (ds ++ Text context ∷ []) one) (string_reads thing) small

-- ---- tags

tag_octet : (c : ℕ) → is_tag c ≡ true → is_word c ≡ true
unfolding is_tag is_word
tag_octet c e = by_cases (or_cases _ _ e)
  where
    mid : (leb 44 c && leb c 91) ≡ true → (leb 42 c && leb c 91) ≡ true
    mid h =
        let parts = and_parts (leb 44 c) (leb c 91) h in
        and_from _ _ (le-leb 42 c (omega (arith, leb-true 44 c parts.0))) parts.1

    by_third : ((eqb c 33 || (leb 35 c && leb c 39)) ≡ true) ⊎ ((leb 44 c && leb c 91) ≡ true) → is_word c ≡ true
    by_third (inl h) = or_left _ _ (or_left _ _ (or_left _ _ h))
    by_third (inr h) = or_left _ _ (or_left _ _ (or_right _ _ (mid h)))

    by_fourth : ((eqb c 33 || (leb 35 c && leb c 39) || (leb 44 c && leb c 91)) ≡ true) ⊎ ((leb 93 c && leb c 122) ≡ true) → is_word c ≡ true
    by_fourth (inl h) = by_third (or_cases _ _ h)
    by_fourth (inr h) = or_left _ _ (or_right _ _ h)

    by_cases : ((eqb c 33 || (leb 35 c && leb c 39) || (leb 44 c && leb c 91) || (leb 93 c && leb c 122)) ≡ true) ⊎ ((leb 124 c && leb c 126) ≡ true) → is_word c ≡ true
    by_cases (inl h) = by_fourth (or_cases _ _ h)
    by_cases (inr h) = or_right _ _ h

tag_octets : (tag : List ℕ) → list_all is_tag tag ≡ true → list_all is_word tag ≡ true
tag_octets [] p = refl
tag_octets (c ∷ tag) p =
    let parts = and_parts (is_tag c) (list_all is_tag tag) p in
    and_from _ _ (tag_octet c parts.0) (tag_octets tag parts.1)

tag_word : (tag : Option (List ℕ)) → IsTagged tag → (list_all is_word (tag_of tag) ≡ true) × (1 ≤ length (tag_of tag))
unfolding is_word
tag_word None t = (refl, omega arith)
tag_word (Some tag) t = (tag_octets tag t.0, t.1)

star_is_none : (c : ℕ) → is_tag c ≡ true → eqb c 42 ≡ false
unfolding is_tag
star_is_none c e = ne_eqb c 42 (λ is. clash (sym (ap is_tag is) ∙ e))
  where
    clash : is_tag 42 ≡ true → ⊥
    clash h = cc

-- what stands under a tag or a `*`, of words that are read alike under both
pub under_tag : (tag : Option (List ℕ)) (word : List ℕ) (args : List Datum) → IsTagged tag → untagged word args ≡ tagged None word args
    → line_of (Word (tag_of tag) ∷ Word word ∷ args) ≡ tagged tag word args
under_tag None word args t e = e
under_tag (Some []) word args t e = absurd (omega (arith, t.1))
under_tag (Some (c ∷ tag)) word args t e =
    let parts = and_parts (is_tag c) (list_all is_tag tag) t.0 in
    rw (star_is_none c parts.0) refl

-- the tag, a word after it, and a space
pub tag_opens : (tag : Option (List ℕ)) (word behind : List ℕ) → IsTagged tag
    → ((lines : List (Option Line)) → hears (turned (after lines) (InWord (tag_of tag))) behind ≡ turned (holding (after lines) (Word (tag_of tag) ∷ Word word ∷ [])) Fresh)
    → Opens (tag_of tag ++ behind) (Word (tag_of tag) ∷ Word word ∷ [])
tag_opens tag word behind t e = record {
  opens = λ lines.
      let w = tag_word tag t in
      hears-append (after lines) (tag_of tag) behind ∙ ap (λ s. hears s behind) (first_word (after lines) (tag_of tag) w.0 w.1) ∙ e lines;
}

-- the tag, and a word after it
pub tag_holds : (tag : Option (List ℕ)) (word behind : List ℕ) → IsTagged tag
    → ((lines : List (Option Line)) → hears (turned (after lines) (InWord (tag_of tag))) behind ≡ turned (holding (after lines) (Word (tag_of tag) ∷ [])) (InWord word))
    → Holds (tag_of tag ++ behind) (Word (tag_of tag) ∷ Word word ∷ [])
tag_holds tag word behind t e = record {
  holds = λ lines.
      let w = tag_word tag t in
      subst (λ s. Settles s (holding (after lines) (Word (tag_of tag) ∷ Word word ∷ [])))
      (sym (hears-append (after lines) (tag_of tag) behind ∙ ap (λ s. hears s behind) (first_word (after lines) (tag_of tag) w.0 w.1) ∙ e lines))
      (word_settles (holding (after lines) (Word (tag_of tag) ∷ [])) word);
}
