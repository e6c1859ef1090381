-- Where a part that is written ends, and the tag before the first.
use Rattle.std.proofs.Common.{◌≡◌, ℕ, zero, suc, ◌+◌, ◌≤◌, Bool, true, false, List, [], ◌∷◌, ◌++◌, length, take, drop, Option, Some, Ok, refl, sym, ap, subst, ◌∙◌, arith, eqb, length-append, append_assoc}
use Rattle.std.specs.Prelude.{not}
use Rattle.std.specs.List.{list_all, prefix_len}
use Rattle.std.proofs.lemmas.Bool.{and_parts, and_from, eqb-true, le-leb, leb-true}
use Rattle.std.proofs.lemmas.List.{take_all, take-append-drop, length-take}
use Rattle.std.proofs.lemmas.List.Folds.{list_all-append, length-prefix_len}
use Rattle.std.proofs.Math.Seq.{take-append_seam, drop-append_seam}
use Rattle.acap_lexer.specs.declared.kind.Kind.{Kind}
use Rattle.acap_lexer.specs.declared.kind.Kind.TheVariants as kinds
use Rattle.acap_lexer.specs.declared.lexed.Mode.{Mode}
use Rattle.acap_lexer.specs.declared.lexed.Mode.TheVariants as modes
use Rattle.acap_lexer.specs.declared.found.PartEnd.TheVariants.{At}
use Rattle.acap_lexer.specs.Octets.{is_word, is_tag, is_digit}
use Rattle.acap_lexer.specs.Part.{begun_at, tag_token, last_kind}
use Rattle.acap_lexer.specs.Printing.{escape, escaped_form, is_printable, quoted_form}
use Rattle.acap_lexer.specs.Reading.{ends_tag, tag_at}
use Rattle.acap_lexer.specs.Spelling.{Written, Word, Quoted, Literal, Open, Close, kind_of, own, mark, IsSpelled, IsTag, may_follow, Piece, gap}
use Rattle.acap_lexer.specs.Stream.{end_of, part_end, part_limit}
use Rattle.acap_lexer.specs.Token.{Token}
use Rattle.acap_lexer.proofs.EndLaws.{end_of-append, is_at, keeps_at}
use Rattle.acap_lexer.proofs.EndPlaces.{end_of_within}
use Rattle.acap_lexer.proofs.SpelledTokens.{Stops, longest, all_taken, IsPlain}
use Rattle.acap_lexer.proofs.SpelledParts.{Ending, Done, Marked, part_text, PartStands}

-- ---- no CR stands in a part

abbrev pub is_other : ℕ → Bool
is_other c = not (eqb c 13)

all_others : (p : ℕ → Bool) (xs : List ℕ) → p 13 ≡ false → list_all p xs ≡ true → list_all is_other xs ≡ true
all_others p [] f all = refl
all_others p (x ∷ xs) f all = grind (arith, f, eqb-true x 13, all_others p xs f)

pub others_append : (xs ys : List ℕ) → list_all is_other xs ≡ true → list_all is_other ys ≡ true → list_all is_other (xs ++ ys) ≡ true
others_append xs ys a b = list_all-append is_other xs ys ∙ and_from _ _ a b

escape_others : (c : ℕ) → is_printable c ≡ true → list_all is_other (escape c) ≡ true
unfolding is_printable
escape_others c p = grind arith

escaped_others : (text : List ℕ) → list_all is_printable text ≡ true → list_all is_other (escaped_form text) ≡ true
escaped_others [] all = refl
escaped_others (c ∷ text) all =
    let a = and_parts (is_printable c) (list_all is_printable text) all in
    others_append (escape c) (escaped_form text) (escape_others c a.0) (escaped_others text a.1)

own_others : (w : Written) → IsSpelled w → IsPlain w → list_all is_other (own w) ≡ true
unfolding is_word quoted_form
own_others (Word octets) s plain = all_others is_word octets refl s.0
own_others (Quoted octets) s plain = others_append (escaped_form octets) (34 ∷ []) (escaped_others octets s.0) refl
own_others (Literal digits waits octets) s plain = absurd plain
own_others Open s plain = refl
own_others Close s plain = refl

gap_others : (spaced : Bool) → list_all is_other (gap spaced) ≡ true
gap_others spaced = grind arith

pub part_others : (e : Ending) (last : Option Kind) (ps : List Piece) → PartStands e last ps → list_all is_other (part_text e ps) ≡ true
unfolding is_digit
part_others Done last [] s = refl
part_others (Marked spaced digits true) last [] s = others_append (gap spaced) _ (gap_others spaced) (others_append digits _ (all_others is_digit digits refl s.1.digits_only) refl)
part_others (Marked spaced digits false) last [] s = others_append (gap spaced) _ (gap_others spaced) (others_append digits _ (all_others is_digit digits refl s.1.digits_only) refl)
part_others e last (p ∷ ps) s =
    others_append (gap p.spaced) _ (gap_others p.spaced) (others_append (own p.written) _ (own_others p.written s.1 s.2) (part_others e (Some (kind_of p.written)) ps s.3))

end_is : (part rest : List ℕ) → list_all is_other part ≡ true → end_of (part ++ 13 ∷ 10 ∷ rest) ≡ Some (length part)
unfolding end_of
end_is [] rest all = refl
end_is (c ∷ part) rest all = grind (arith, end_is part rest)

within_limit : (limit : ℕ) (part : List ℕ) → list_all is_other part ≡ true → length part + 2 ≤ limit → end_of (take limit (part ++ 13 ∷ 10 ∷ [])) ≡ Some (length part)
within_limit limit part all fits = ap end_of (take_all limit (part ++ 13 ∷ 10 ∷ []) (omega (arith, fits, length-append part (13 ∷ 10 ∷ [])))) ∙ end_is part [] all

-- a part ends at the first CR LF after it
pub ends_at : (part rest : List ℕ) → list_all is_other part ≡ true → length part + 2 ≤ part_limit → part_end (part ++ 13 ∷ 10 ∷ rest) ≡ At (length part)
unfolding part_end
ends_at part rest all fits =
    let short : part_end (part ++ 13 ∷ 10 ∷ []) ≡ At (length part) = rw (within_limit part_limit part all fits) refl in
    ap part_end (sym (append_assoc part (13 ∷ 10 ∷ []) rest)) ∙ keeps_at (part ++ 13 ∷ 10 ∷ []) rest (length part) short

-- what stands before the first CR LF, and after it
cut_at : (text : List ℕ) (n : ℕ) → end_of text ≡ Some n → text ≡ take n text ++ 13 ∷ 10 ∷ drop (2 + n) text
unfolding end_of
cut_at [] n e = absurd cc
cut_at (c ∷ []) n e = grind arith
cut_at (c ∷ d ∷ rest) zero e = grind (arith, eqb-true c 13, eqb-true d 10)
cut_at (c ∷ d ∷ rest) (suc n) e =
    let later : end_of (d ∷ rest) ≡ Some n = grind arith in
    let place : 2 + suc n ≡ suc (2 + n) = omega arith in
    rw place (ap (λ (xs : List ℕ). c ∷ xs) (cut_at (d ∷ rest) n later))

pub cut_of : (text : List ℕ) (n : ℕ) → part_end text ≡ At n → (text ≡ take n text ++ 13 ∷ 10 ∷ drop (2 + n) text) × (n + 2 ≤ part_limit)
cut_of text n e =
    let a = is_at text n e in
    let whole : end_of text ≡ Some n = ap end_of (sym (take-append-drop part_limit text)) ∙ end_of-append (take part_limit text) (drop part_limit text) n a.end in
    (cut_at text n whole, omega (arith, end_of_within (take part_limit text) n a.end, length-take part_limit text))

-- ---- what stands before the first token of a part: a command's tag, or nothing

abbrev pub IsLead : Mode → List Token → List ℕ → List Token → Type 0
IsLead modes.Command [] lead seen = IsTag lead × (seen ≡ tag_token lead ∷ [])
IsLead mode tokens lead seen = (lead ≡ []) × (seen ≡ tokens)

pub lead_others : (mode : Mode) (tokens : List Token) (lead : List ℕ) (seen : List Token) → IsLead mode tokens lead seen → list_all is_other lead ≡ true
unfolding is_tag
lead_others modes.Command [] lead seen l = all_others is_tag lead refl l.0.0
lead_others modes.Command (t ∷ ts) lead seen l = ap (list_all is_other) l.0
lead_others modes.Answer tokens lead seen l = ap (list_all is_other) l.0

-- after a tag a space stands, or the end
tag_ends_by : (spaced : Bool) (next : Kind) (rest : List ℕ) → may_follow (Some kinds.Tag) spaced next ≡ true → (ends_tag (gap spaced ++ rest) ≡ true) × Stops is_tag (gap spaced ++ rest)
unfolding ends_tag is_tag
tag_ends_by true next rest m = (refl, refl)
tag_ends_by false next rest m = absurd cc

tag_ends : (e : Ending) (ps : List Piece) → PartStands e (Some kinds.Tag) ps → (ends_tag (part_text e ps) ≡ true) × Stops is_tag (part_text e ps)
unfolding ends_tag
tag_ends Done [] s = (refl, tt)
tag_ends (Marked spaced digits waits) [] s = tag_ends_by spaced kinds.Literal (mark digits waits) s.0
tag_ends e (p ∷ ps) s = tag_ends_by p.spaced (kind_of p.written) _ s.0

pub lead_reads : (mode : Mode) (tokens : List Token) (lead : List ℕ) (seen : List Token) (e : Ending) (ps : List Piece) → IsLead mode tokens lead seen → PartStands e (last_kind seen) ps
    → begun_at mode tokens (lead ++ part_text e ps) ≡ Ok (seen, part_text e ps)
unfolding tag_at
lead_reads modes.Command [] lead seen e ps l s =
    let ends = tag_ends e ps (subst (λ (ts : List Token). PartStands e (last_kind ts) ps) l.1 s) in
    rw (longest is_tag lead (part_text e ps) l.0.0 ends.1, take-append_seam lead (part_text e ps), drop-append_seam lead (part_text e ps), le-leb _ _ l.0.1, le-leb _ _ l.0.2, ends.0, l.1) refl
lead_reads modes.Command (t ∷ ts) lead seen e ps l s = rw (l.0, l.1) refl
lead_reads modes.Answer tokens lead seen e ps l s = rw (l.0, l.1) refl

tag_parts : (part : List ℕ) (x : List Token × List ℕ) → begun_at modes.Command [] part ≡ Ok x
    → (1 ≤ prefix_len is_tag part) × (prefix_len is_tag part ≤ 32) × (x.0 ≡ tag_token (take (prefix_len is_tag part) part) ∷ []) × (x.1 ≡ drop (prefix_len is_tag part) part)
unfolding tag_at
tag_parts part x e = grind (arith, leb-true)

abbrev pub HasLead : Mode → List Token → List ℕ → List Token × List ℕ → Type 0
HasLead mode tokens part x = (lead : List ℕ) × IsLead mode tokens lead x.0 × (part ≡ lead ++ x.1)

pub lead_spelled : (mode : Mode) (tokens : List Token) (part : List ℕ) (x : List Token × List ℕ) → begun_at mode tokens part ≡ Ok x → HasLead mode tokens part x
lead_spelled modes.Command [] part x e =
    let n = prefix_len is_tag part in
    let p = tag_parts part x e in
    let long = length-prefix_len is_tag part in
    (take n part, ((all_taken is_tag part, omega (arith, long, p.0), omega (arith, long, p.1)), p.2), sym (take-append-drop n part) ∙ ap (λ (xs : List ℕ). take n part ++ xs) (sym p.3))
lead_spelled modes.Command (t ∷ ts) part x e = ([], (refl, grind arith), grind arith)
lead_spelled modes.Answer tokens part x e = ([], (refl, grind arith), grind arith)

-- no tag stands after a token
pub lead_later : (mode : Mode) (tokens : List Token) (t : Token) (lead : List ℕ) (seen : List Token)
    → IsLead mode (tokens ++ t ∷ []) [] (tokens ++ t ∷ []) × (IsLead mode (tokens ++ t ∷ []) lead seen → (lead ≡ []) × (seen ≡ tokens ++ t ∷ []))
lead_later modes.Command [] t lead seen = ((refl, refl), λ l. l)
lead_later modes.Command (s ∷ ts) t lead seen = ((refl, refl), λ l. l)
lead_later modes.Answer tokens t lead seen = ((refl, refl), λ l. l)
