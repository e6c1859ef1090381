-- A part of a command as it is written, and as it is read.
use Rattle.std.proofs.Common.{◌≡◌, ℕ, zero, suc, ◌+◌, ◌-◌, ◌<◌, ◌≤◌, Bool, true, List, [], ◌∷◌, ◌++◌, length, Option, Some, None, Result, Ok, Err, refl, sym, ap, subst, ◌∙◌, arith, length-append, append_assoc}
use Rattle.std.specs.Prelude.{slice_get}
use Rattle.std.proofs.lemmas.List.{append-nil}
use Rattle.acap_lexer.specs.declared.found.Announced.{Announced}
use Rattle.acap_lexer.specs.declared.fault.LexFault.{LexFault}
use Rattle.acap_lexer.specs.declared.kind.Kind.{Kind}
use Rattle.acap_lexer.specs.declared.kind.Kind.TheVariants as kinds
use Rattle.acap_lexer.specs.Octets.{is_word}
use Rattle.acap_lexer.specs.Part.{Part, last_kind, token_of_lexeme, with_token, part_by, next_at, part_within}
use Rattle.acap_lexer.specs.Reading.{◌>>=◌, Read, Lexeme, gap_at, mark_of, token_at}
use Rattle.acap_lexer.specs.Spelling.{Written, kind_of, own, mark, number, IsCount, IsSpelled, may_follow, Piece, gap, token, tokens_from}
use Rattle.acap_lexer.specs.Token.{Token}
use Rattle.acap_lexer.proofs.PartLoop.{one_next}
use Rattle.acap_lexer.proofs.SpelledTokens.{Stops, IsFirst, starts, IsPlain, Ends, lexeme_of, mark_reads, mark_spelled, token_reads, token_spelled, gap_reads, is_spaced, gap_spelled}

-- how a part ends: with a token, or with the mark of a literal after its gap
pub data Ending : Type 0 where
  Done : Ending
  Marked : Bool → List ℕ → Bool → Ending

abbrev pub ending_text : Ending → List ℕ
ending_text Done = []
ending_text (Marked spaced digits waits) = gap spaced ++ mark digits waits

-- what the part's text is, up to its CR LF
abbrev pub part_text : Ending → List Piece → List ℕ
part_text e [] = ending_text e
part_text e (p ∷ ps) = gap p.spaced ++ (own p.written ++ part_text e ps)

abbrev pub PartStands : Ending → Option Kind → List Piece → Type 0
PartStands Done last [] = Unit {0}
PartStands (Marked spaced digits waits) last [] = (may_follow last spaced kinds.Literal ≡ true) × IsCount digits (number digits)
PartStands e last (p ∷ ps) = (may_follow last p.spaced (kind_of p.written) ≡ true) × IsSpelled p.written × IsPlain p.written × PartStands e (Some (kind_of p.written)) ps

abbrev pub place_behind : ℕ → List Piece → ℕ
place_behind at [] = at
place_behind at (p ∷ ps) = place_behind (at + length (gap p.spaced) + length (own p.written)) ps

-- what the part says
abbrev pub mark_at : ℕ → Ending → Option (ℕ × Announced)
mark_at at Done = None
mark_at at (Marked spaced digits waits) = Some (at + length (gap spaced), record { count = number digits; waits = waits })

abbrev pub said_part : List Token → Option (ℕ × Announced) → Result Part LexFault
said_part tokens mark = Ok (record { tokens = tokens; mark = mark })

-- ---- one token

behind_last : (xs : List Token) (x : Token) → slice_get (xs ++ x ∷ []) (length xs) ≡ Some x
behind_last [] x = refl
behind_last (y ∷ xs) x = behind_last xs x

pub last_pushed : (seen : List Token) (t : Token) → last_kind (seen ++ t ∷ []) ≡ Some t.kind
last_pushed seen t =
    let place : length (seen ++ t ∷ []) - 1 ≡ length seen = omega (arith, length-append seen (t ∷ [])) in
    rw (place, behind_last seen t) refl

no_mark : (w : Written) (c : ℕ) (rest : List ℕ) → IsPlain w → IsFirst (kind_of w) c → mark_of (c ∷ rest) ≡ None
unfolding mark_of
no_mark w c rest p f = grind arith

-- after a word something else than a word's octet stands
word_ends_by : (spaced : Bool) (next : Kind) (c : ℕ) (rest : List ℕ) → may_follow (Some kinds.Word) spaced next ≡ true → IsFirst next c → Stops is_word (gap spaced ++ c ∷ rest)
unfolding is_word
word_ends_by spaced next c rest m f = grind arith

word_ends : (e : Ending) (ps : List Piece) → PartStands e (Some kinds.Word) ps → Stops is_word (part_text e ps)
word_ends Done [] s = tt
word_ends (Marked spaced digits waits) [] s = word_ends_by spaced kinds.Literal 123 _ s.0 refl
word_ends e (p ∷ ps) s = let f = starts p.written s.1 in rw f.2 (word_ends_by p.spaced (kind_of p.written) f.0 (f.1 ++ part_text e ps) s.0 f.3)

ends_there : (kind : Kind) (e : Ending) (ps : List Piece) → PartStands e (Some kind) ps → Ends kind (part_text e ps)
ends_there kinds.Word e ps s = word_ends e ps s
ends_there _ e ps s = tt

next_marks : (go : List Token → List ℕ → Result Part LexFault) (end : ℕ) (seen : List Token) (text front : List ℕ) (m : Announced) → gap_at (last_kind seen) text ≡ Ok front → mark_of front ≡ Some m
    → next_at go end seen text ≡ said_part seen (Some (end - length front, m))
next_marks go end seen text front m g h = rw (g, h) refl

next_takes : (go : List Token → List ℕ → Result Part LexFault) (end : ℕ) (seen : List Token) (text front : List ℕ) (x : Lexeme × List ℕ) → gap_at (last_kind seen) text ≡ Ok front → mark_of front ≡ None → token_at front ≡ Ok x
    → next_at go end seen text ≡ go (seen ++ token_of_lexeme end front x ∷ []) x.1
next_takes go end seen text front x g h t = rw (g, h, t) refl

-- a token is read after its gap
piece_reads : (go : List Token → List ℕ → Result Part LexFault) (end at : ℕ) (seen : List Token) (p : Piece) (e : Ending) (ps : List Piece) → PartStands e (last_kind seen) (p ∷ ps) → at + length (part_text e (p ∷ ps)) ≡ end
    → next_at go end seen (part_text e (p ∷ ps)) ≡ go (seen ++ token (at + length (gap p.spaced)) p.written ∷ []) (part_text e ps)
piece_reads go end at seen p e ps s place =
    let w = p.written in
    let rest = part_text e ps in
    let f = starts w s.1 in
    let front : own w ++ rest ≡ f.0 ∷ (f.1 ++ rest) = ap (λ (xs : List ℕ). xs ++ rest) f.2 in
    let spaces : gap_at (last_kind seen) (gap p.spaced ++ (own w ++ rest)) ≡ Ok (own w ++ rest) = rw front (gap_reads (last_kind seen) (kind_of w) p.spaced f.0 (f.1 ++ rest) s.0 f.3) in
    let from : end - length (own w ++ rest) ≡ at + length (gap p.spaced) = omega (arith, place, length-append (gap p.spaced) (own w ++ rest)) in
    let to : end - length rest ≡ at + length (gap p.spaced) + length (own w) = omega (arith, place, length-append (gap p.spaced) (own w ++ rest), length-append (own w) rest) in
    next_takes go end seen (gap p.spaced ++ (own w ++ rest)) (own w ++ rest) (lexeme_of w, rest) spaces (rw front (no_mark w f.0 (f.1 ++ rest) s.2 f.3)) (token_reads w rest s.1 s.2 (ends_there (kind_of w) e ps s.3))
    ∙ rw (from, to) refl

piece_long : (e : Ending) (p : Piece) (ps : List Piece) → IsSpelled p.written → length (part_text e ps) < length (part_text e (p ∷ ps))
piece_long e p ps s = omega (arith, length-append (gap p.spaced) (own p.written ++ part_text e ps), length-append (own p.written) (part_text e ps), ap length (starts p.written s).2)

-- ---- a whole part

pub part_reads : (ps : List Piece) (e : Ending) (most end at : ℕ) (seen : List Token) → PartStands e (last_kind seen) ps → at + length (part_text e ps) ≡ end → length (part_text e ps) ≤ most
    → part_within most end seen (part_text e ps) ≡ said_part (seen ++ tokens_from at ps) (mark_at (place_behind at ps) e)
unfolding part_within
part_reads [] Done most end at seen s place fits = ap (λ (ts : List Token). said_part ts None) (sym (append-nil seen))
part_reads [] (Marked spaced digits waits) zero end at seen s place fits = absurd (omega (arith, length-append (gap spaced) (mark digits waits)))
part_reads [] (Marked spaced digits waits) (suc most) end at seen s place fits =
    let text = gap spaced ++ mark digits waits in
    let start : end - length (mark digits waits) ≡ at + length (gap spaced) = omega (arith, length-append (gap spaced) (mark digits waits)) in
    one_next most end seen text (omega (arith, length-append (gap spaced) (mark digits waits)))
    ∙ next_marks (part_within most end) end seen text (mark digits waits) (record { count = number digits; waits = waits }) (gap_reads (last_kind seen) kinds.Literal spaced 123 _ s.0 refl) (mark_reads digits waits (number digits) s.1)
    ∙ rw (start, append-nil seen) refl
part_reads (p ∷ ps) e zero end at seen s place fits = absurd (omega (arith, fits, piece_long e p ps s.1))
part_reads (p ∷ ps) e (suc most) end at seen s place fits =
    let w = p.written in
    let start = at + length (gap p.spaced) in
    let t = token start w in
    let long = piece_long e p ps s.1 in
    let stand = subst (λ (l : Option Kind). PartStands e l ps) (sym (last_pushed seen t)) s.3 in
    let next : start + length (own w) + length (part_text e ps) ≡ end = omega (arith, place, length-append (gap p.spaced) (own w ++ part_text e ps), length-append (own w) (part_text e ps)) in
    one_next most end seen (part_text e (p ∷ ps)) (omega (arith, long)) ∙ piece_reads (part_within most end) end at seen p e ps s place
    ∙ part_reads ps e most end (start + length (own w)) (seen ++ t ∷ []) stand next (omega (arith, fits, long))
    ∙ ap (λ (ts : List Token). said_part ts (mark_at (place_behind at (p ∷ ps)) e)) (append_assoc seen (t ∷ []) (tokens_from (start + length (own w)) ps))

-- the mark that the part was read to end in
abbrev pub MarkIs : Ending → Option (ℕ × Announced) → Type 0
MarkIs Done None = Unit {0}
MarkIs (Marked spaced digits waits) (Some m) = m.1.count ≡ number digits
MarkIs _ _ = ⊥

-- the part was written so
pub record IsPart (last : Option Kind) (text : List ℕ) (mark : Option (ℕ × Announced)) : Type 0 where
  pub pieces : List Piece
  pub ending : Ending
  pub stand : PartStands ending last pieces
  pub text_is : text ≡ part_text ending pieces
  pub mark_is : MarkIs ending mark

marked_part : (last : Option Kind) (text front : List ℕ) (start : ℕ) (m : Announced) → gap_at last text ≡ Ok front → mark_of front ≡ Some m → IsPart last text (Some (start, m))
marked_part last text front start m g h =
    let k = mark_spelled front m h in
    let gone = gap_spelled last kinds.Literal text 123 _ (g ∙ ap (λ (f : List ℕ). let r : Result (List ℕ) LexFault = Ok f in r) k.text_is) refl in
    record { pieces = []; ending = Marked (is_spaced last text) k.digits m.waits; stand = (gone.0, rw k.count.number_is k.count); text_is = gone.1; mark_is = sym k.count.number_is }

one_more : (last : Option Kind) (text front : List ℕ) (x : Lexeme × List ℕ) (mark : Option (ℕ × Announced)) → gap_at last text ≡ Ok front → token_at front ≡ Ok x → IsPart (Some x.0.kind) x.1 mark → IsPart last text mark
one_more last text front x mark g t r =
    let k = token_spelled front x t in
    let w = k.written in
    let f = starts w k.spelled in
    let front_is : front ≡ f.0 ∷ (f.1 ++ x.1) = k.text_is ∙ ap (λ (xs : List ℕ). xs ++ x.1) f.2 in
    let gone = gap_spelled last (kind_of w) text f.0 (f.1 ++ x.1) (g ∙ ap (λ (xs : List ℕ). let r : Result (List ℕ) LexFault = Ok xs in r) front_is) f.3 in
    record {
      pieces = record { spaced = is_spaced last text; written = w } ∷ r.pieces;
      ending = r.ending;
      stand = (gone.0, k.spelled, k.plain, subst (λ (l : Option Kind). PartStands r.ending l r.pieces) (ap (λ (l : Lexeme). Some l.kind) k.lexeme_is) r.stand);
      text_is = gone.1 ∙ ap (λ (xs : List ℕ). gap (is_spaced last text) ++ xs) (sym front_is ∙ k.text_is ∙ ap (λ (xs : List ℕ). own w ++ xs) r.text_is);
      mark_is = r.mark_is;
    }

next_spelled : (go : List Token → List ℕ → Result Part LexFault) (end : ℕ) (seen : List Token) (text : List ℕ) (part : Part)
    → ((seen : List Token) (text : List ℕ) → go seen text ≡ Ok part → IsPart (last_kind seen) text part.mark) → next_at go end seen text ≡ Ok part → IsPart (last_kind seen) text part.mark
next_spelled go end seen text part later e = by_gap (gap_at (last_kind seen) text) refl e
  where
    by_token : (front : List ℕ) (read : Read Lexeme) → gap_at (last_kind seen) text ≡ Ok front → token_at front ≡ read → (with_token seen end front read >>= λ x. go x.0 x.1) ≡ Ok part → IsPart (last_kind seen) text part.mark
    by_token front (Err f) g t h = absurd cc
    by_token front (Ok x) g t h =
        let next = token_of_lexeme end front x in
        one_more (last_kind seen) text front x part.mark g t (subst (λ (l : Option Kind). IsPart l x.1 part.mark) (last_pushed seen next) (later (seen ++ next ∷ []) x.1 h))

    by_mark : (front : List ℕ) (m : Option Announced) → gap_at (last_kind seen) text ≡ Ok front → mark_of front ≡ m → part_by go end seen front m ≡ Ok part → IsPart (last_kind seen) text part.mark
    by_mark front None g h f = by_token front (token_at front) g refl f
    by_mark front (Some m) g h f =
        let says : ◌≡◌ {A = Part} (record { tokens = seen; mark = Some (end - length front, m) }) part = cc in
        subst (λ (p : Part). IsPart (last_kind seen) text p.mark) says (marked_part (last_kind seen) text front (end - length front) m g h)

    by_gap : (gone : Result (List ℕ) LexFault) → gap_at (last_kind seen) text ≡ gone → (gone >>= λ front. part_by go end seen front (mark_of front)) ≡ Ok part → IsPart (last_kind seen) text part.mark
    by_gap (Ok front) g h = by_mark front (mark_of front) g refl h
    by_gap (Err f) g h = absurd cc

pub part_spelled : (most end : ℕ) (seen : List Token) (text : List ℕ) (part : Part) → part_within most end seen text ≡ Ok part → IsPart (last_kind seen) text part.mark
unfolding part_within
part_spelled most end seen [] part e =
    let says : ◌≡◌ {A = Part} (record { tokens = seen; mark = None }) part = cc in
    subst (λ (p : Part). IsPart (last_kind seen) [] p.mark) says (record { pieces = []; ending = Done; stand = tt; text_is = refl; mark_is = tt })
part_spelled zero end seen (c ∷ rest) part e = absurd cc
part_spelled (suc most) end seen (c ∷ rest) part e = next_spelled (part_within most end) end seen (c ∷ rest) part (λ s t h. part_spelled most end s t part h) e
