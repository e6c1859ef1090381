-- A line as it is written, and as it is read, part by part.
use Rattle.std.proofs.Common.{◌≡◌, ℕ, zero, suc, ◌+◌, ◌-◌, ◌<◌, ◌≤◌, Bool, true, cond, List, [], ◌∷◌, ◌++◌, length, take, drop, Option, Some, None, Ok, refl, sym, ap, subst, ◌∙◌, arith, length-append, length-drop, append_assoc}
use Rattle.std.specs.List.{AllByRecursion, list_all}
use Rattle.std.proofs.lemmas.Bool.{le-ltb}
use Rattle.std.proofs.lemmas.List.{append-nil, drop-drop, drop-take, length-take-le, take-append-drop, nil_from_length}
use Rattle.std.proofs.Math.Seq.{take-append_seam, drop-append_seam, take-append-add}
use Rattle.acap_lexer.specs.declared.found.Announced.{Announced}
use Rattle.acap_lexer.specs.declared.kind.Kind.{Kind}
use Rattle.acap_lexer.specs.declared.kind.Kind.TheVariants as kinds
use Rattle.acap_lexer.specs.declared.lexed.Lexed.{Lexed}
use Rattle.acap_lexer.specs.declared.lexed.Lexed.TheVariants.{Line}
use Rattle.acap_lexer.specs.declared.lexed.Mode.{Mode}
use Rattle.acap_lexer.specs.declared.lexed.Mode.TheVariants as modes
use Rattle.acap_lexer.specs.declared.found.PartEnd.TheVariants.{At}
use Rattle.acap_lexer.specs.Part.{Part, last_kind, part_within, begun_at}
use Rattle.acap_lexer.specs.Spelling.{Written, Literal, kind_of, own, mark, number, IsCount, Piece, gap, Stand, text_of, token, tokens_from, wait, waits_of, lengths_by, part_lengths, Begins, IsSpelling, kind_before, tokens_before}
use Rattle.acap_lexer.specs.Stream.{Front, Stage, AtPart, InLiteral, Goes, Progress, step_of_part, step_by_mark, step_by_end, step_of, literal_token, part_end, part_limit, command_limit, waiting, progress_by, progress_from, progress}
use Rattle.acap_lexer.specs.Token.{Token}
use Rattle.acap_lexer.proofs.EndLaws.{is_at}
use Rattle.acap_lexer.proofs.ProgressLaws.{by_stages, keeps_items, takes_octets}
use Rattle.acap_lexer.proofs.SpelledTokens.{IsPlain}
use Rattle.acap_lexer.proofs.SpelledParts.{Ending, Done, Marked, ending_text, part_text, PartStands, place_behind, mark_at, last_pushed, part_reads, MarkIs, part_spelled}
use Rattle.acap_lexer.proofs.SpelledEnds.{is_other, others_append, part_others, lead_others, ends_at, cut_of, IsLead, lead_reads, HasLead, lead_spelled, lead_later}

-- ---- a line is a part, and what follows its mark

-- the pieces after a part's, the text after its CR LF, and how long the parts there are
abbrev pub after : Ending → List ℕ → List Piece → List Piece
after Done octets rs = []
after (Marked spaced digits waits) octets rs = record { spaced = spaced; written = Literal digits waits octets } ∷ rs

abbrev pub behind : Ending → List ℕ → List Piece → List ℕ
behind Done octets rs = []
behind (Marked spaced digits waits) octets rs = octets ++ text_of rs

abbrev pub lengths_after : Ending → List Piece → List ℕ
lengths_after Done rs = []
lengths_after (Marked spaced digits waits) rs = part_lengths 0 rs

abbrev pub GoesOn : Ending → List ℕ → List Piece → Type 0
GoesOn Done octets rs = Unit {0}
GoesOn (Marked spaced digits waits) octets rs = (number digits ≡ length octets) × Stand (Some kinds.Literal) rs

-- the first part of these pieces
record Divides (last : Option Kind) (ps : List Piece) : Type 0 where
  pieces : List Piece
  ending : Ending
  octets : List ℕ
  others : List Piece
  whole : ps ≡ pieces ++ after ending octets others
  stand : PartStands ending last pieces
  on : GoesOn ending octets others

one_before : (last : Option Kind) (p : Piece) (ps : List Piece) → IsPlain p.written → Stand last (p ∷ ps) → Divides (Some (kind_of p.written)) ps → Divides last (p ∷ ps)
one_before last p ps plain s d =
    record { pieces = p ∷ d.pieces; ending = d.ending; octets = d.octets; others = d.others; whole = ap (λ (qs : List Piece). p ∷ qs) d.whole; stand = (s.0, s.1, plain, d.stand); on = d.on }

by_written : (last : Option Kind) (spaced : Bool) (w : Written) (ps : List Piece) → Stand last (record { spaced = spaced; written = w } ∷ ps) → Divides (Some (kind_of w)) ps
    → Divides last (record { spaced = spaced; written = w } ∷ ps)
by_written last spaced (Literal digits waits octets) ps s d =
    record { pieces = []; ending = Marked spaced digits waits; octets = octets; others = ps; whole = refl; stand = (s.0, subst (λ n. IsCount digits n) (sym s.1.number_is) s.1); on = (s.1.number_is, s.2) }
by_written last spaced w ps s d = one_before last _ ps tt s d

divide : (last : Option Kind) (ps : List Piece) → Stand last ps → Divides last ps
divide last [] s = record { pieces = []; ending = Done; octets = []; others = []; whole = refl; stand = tt; on = tt }
divide last (p ∷ ps) s = by_written last p.spaced p.written ps s (divide (Some (kind_of p.written)) ps s.2)

-- the other way
joined : (last : Option Kind) (qs : List Piece) (e : Ending) (octets : List ℕ) (rs : List Piece) → PartStands e last qs → GoesOn e octets rs → Stand last (qs ++ after e octets rs)
joined last [] Done octets rs s g = tt
joined last [] (Marked spaced digits waits) octets rs s g = (s.0, subst (λ m. IsCount digits m) g.0 s.1, g.1)
joined last (p ∷ qs) e octets rs s g = (s.0, s.1, joined (Some (kind_of p.written)) qs e octets rs s.3 g)

text_joined : (e : Ending) (octets : List ℕ) (rs qs : List Piece) → text_of (qs ++ after e octets rs) ≡ part_text e qs ++ 13 ∷ 10 ∷ behind e octets rs
text_joined Done octets rs [] = refl
text_joined (Marked spaced digits waits) octets rs [] =
    ap (λ (xs : List ℕ). gap spaced ++ xs) (append_assoc (mark digits waits) (13 ∷ 10 ∷ octets) (text_of rs)) ∙ sym (append_assoc (gap spaced) (mark digits waits) (13 ∷ 10 ∷ (octets ++ text_of rs)))
text_joined e octets rs (p ∷ qs) = simp (append_assoc, text_joined e octets rs qs) refl

tokens_joined : (at : ℕ) (qs rs : List Piece) → tokens_from at (qs ++ rs) ≡ tokens_from at qs ++ tokens_from (place_behind at qs) rs
tokens_joined at [] rs = refl
tokens_joined at (p ∷ qs) rs = ap (λ (ts : List Token). token (at + length (gap p.spaced)) p.written ∷ ts) (tokens_joined (at + length (gap p.spaced) + length (own p.written)) qs rs)

no_wait : (w : Written) → IsPlain w → wait w ≡ 0
no_wait w p = grind arith

waits_joined : (e : Ending) (last : Option Kind) (qs rs : List Piece) → PartStands e last qs → waits_of (qs ++ rs) ≡ waits_of rs
waits_joined e last [] rs s = refl
waits_joined e last (p ∷ qs) rs s = omega (arith, no_wait p.written s.2, waits_joined e (Some (kind_of p.written)) qs rs s.3)

place_is : (e : Ending) (at : ℕ) (qs : List Piece) → place_behind at qs + length (ending_text e) ≡ at + length (part_text e qs)
place_is e at [] = refl
place_is e at (p ∷ qs) =
    omega (arith, place_is e (at + length (gap p.spaced) + length (own p.written)) qs, length-append (gap p.spaced) (own p.written ++ part_text e qs), length-append (own p.written) (part_text e qs))

plain_length : (go : ℕ → List ℕ) (before : ℕ) (w : Written) → IsPlain w → lengths_by go before w ≡ go (before + length (own w))
plain_length go before w p = grind arith

-- how many octets the parts have
lengths_are : (e : Ending) (last : Option Kind) (before : ℕ) (qs : List Piece) (octets : List ℕ) (rs : List Piece) → PartStands e last qs
    → part_lengths before (qs ++ after e octets rs) ≡ (before + length (part_text e qs) + 2) ∷ lengths_after e rs
lengths_are Done last before [] octets rs s = ap (λ n. n ∷ []) (omega arith)
lengths_are (Marked spaced digits waits) last before [] octets rs s = ap (λ n. n ∷ part_lengths 0 rs) (omega (arith, length-append (gap spaced) (mark digits waits)))
lengths_are e last before (p ∷ qs) octets rs s =
    plain_length (λ n. part_lengths n (qs ++ after e octets rs)) (before + length (gap p.spaced)) p.written s.2
    ∙ lengths_are e (Some (kind_of p.written)) (before + length (gap p.spaced) + length (own p.written)) qs octets rs s.3
    ∙ ap (λ n. n ∷ lengths_after e rs) (omega (arith, length-append (gap p.spaced) (own p.written ++ part_text e qs), length-append (own p.written) (part_text e qs)))

-- ---- one stage

-- the rest of a command, from a part on
record IsRest (mode : Mode) (front : Front) (text lead : List ℕ) (seen : List Token) (ps : List Piece) : Type 0 where
  is_lead : IsLead mode front.tokens lead seen
  within : front.octets ≤ length text
  rest_is : drop front.octets text ≡ lead ++ text_of ps
  stand : Stand (last_kind seen) ps
  lengths : AllByRecursion (λ n. n ≤ 8192) (part_lengths (length lead) ps)

drop_on : (at : ℕ) (text xs ys : List ℕ) → drop at text ≡ xs ++ ys → drop (at + length xs) text ≡ ys
drop_on at text xs ys e = sym (drop-drop (length xs) at text) ∙ ap (drop (length xs)) e ∙ drop-append_seam xs ys

-- after a part and its CR LF
drop_part : (at : ℕ) (text part more : List ℕ) → drop at text ≡ part ++ 13 ∷ 10 ∷ more → drop (at + length part + 2) text ≡ more
drop_part at text part more e =
    ap (λ n. drop n text) (omega (arith, length-append part (13 ∷ 10 ∷ []))) ∙ drop_on at text (part ++ 13 ∷ 10 ∷ []) more (e ∙ sym (append_assoc part (13 ∷ 10 ∷ []) more))

said_reads : (mode : Mode) (front : Front) (lead : List ℕ) (seen : List Token) (e : Ending) (qs : List Piece) → IsLead mode front.tokens lead seen → PartStands e (last_kind seen) qs
    → front.octets + length (lead ++ part_text e qs) + 2 ≤ command_limit
    → step_of_part mode front (lead ++ part_text e qs) ≡ step_by_mark (front.octets + length (lead ++ part_text e qs)) (seen ++ tokens_from (front.octets + length lead) qs) (mark_at (place_behind (front.octets + length lead) qs) e)
unfolding step_of_part
said_reads mode front lead seen e qs l s le =
    let end = front.octets + length (lead ++ part_text e qs) in
    let read = part_reads qs e (length (part_text e qs)) end (front.octets + length lead) seen s (omega (arith, length-append lead (part_text e qs))) (omega arith) in
    rw (le-ltb command_limit (end + 2) le, lead_reads mode front.tokens lead seen e qs l s, read) refl

-- what comes of a part that is written so
record HasStep (mode : Mode) (front : Front) (text lead : List ℕ) (seen : List Token) (e : Ending) (qs : List Piece) (octets : List ℕ) (rs : List Piece) : Type 0 where
  step : step_of mode (AtPart front) text ≡ step_by_mark (front.octets + length (lead ++ part_text e qs)) (seen ++ tokens_from (front.octets + length lead) qs) (mark_at (place_behind (front.octets + length lead) qs) e)
  left : drop (front.octets + length (lead ++ part_text e qs) + 2) text ≡ behind e octets rs
  whole : length text ≡ front.octets + length (lead ++ part_text e qs) + 2 + length (behind e octets rs)
  lengths : AllByRecursion (λ n. n ≤ 8192) (lengths_after e rs)

has_step : (mode : Mode) (front : Front) (text lead : List ℕ) (seen : List Token) (e : Ending) (qs : List Piece) (octets : List ℕ) (rs : List Piece) → length text ≤ command_limit
    → PartStands e (last_kind seen) qs → IsRest mode front text lead seen (qs ++ after e octets rs) → HasStep mode front text lead seen e qs octets rs
unfolding step_of
has_step mode front text lead seen e qs octets rs fits s r =
    let part = lead ++ part_text e qs in
    let more = behind e octets rs in
    let split : drop front.octets text ≡ part ++ 13 ∷ 10 ∷ more = r.rest_is ∙ ap (λ (xs : List ℕ). lead ++ xs) (text_joined e octets rs qs) ∙ sym (append_assoc lead (part_text e qs) (13 ∷ 10 ∷ more)) in
    let all = subst (λ (ns : List ℕ). AllByRecursion (λ n. n ≤ 8192) ns) (lengths_are e (last_kind seen) (length lead) qs octets rs s) r.lengths in
    let long : length text ≡ front.octets + length part + 2 + length more = omega (arith, ap length split, length-append part (13 ∷ 10 ∷ more), length-drop front.octets text, r.within) in
    let others : list_all is_other part ≡ true = others_append lead (part_text e qs) (lead_others mode front.tokens lead seen r.is_lead) (part_others e (last_kind seen) qs s) in
    let end : part_end (drop front.octets text) ≡ At (length part) = ap part_end split ∙ ends_at part more others (omega (arith, all.0, length-append lead (part_text e qs))) in
    let front_is : take (length part) (drop front.octets text) ≡ part = ap (take (length part)) split ∙ take-append_seam part (13 ∷ 10 ∷ more) in
    record {
      step = ap (step_by_end mode front (drop front.octets text)) end ∙ ap (step_of_part mode front) front_is ∙ said_reads mode front lead seen e qs r.is_lead s (omega (arith, long, fits));
      left = drop_part front.octets text part more split;
      whole = long;
      lengths = all.1;
    }

literal_step : (mode : Mode) (start : ℕ) (front : Front) (text octets rest : List ℕ) (count : ℕ) → count ≡ length octets → front.octets + count ≤ length text → drop front.octets text ≡ octets ++ rest
    → step_of mode (InLiteral start count front) text ≡ Goes 0 (AtPart (record { tokens = front.tokens ++ literal_token start count front octets ∷ []; octets = front.octets + count }))
unfolding step_of
literal_step mode start front text octets rest count is within e =
    let front_is : take count (drop front.octets text) ≡ octets = ap (λ n. take n (drop front.octets text)) is ∙ ap (take (length octets)) e ∙ take-append_seam octets rest in
    rw (le-ltb (length text) (front.octets + count) within, front_is) refl

-- ---- what is written is read

line_of : ℕ → List Token → ℕ → Progress
line_of waits tokens octets = record { waits = waits; item = Some (Line tokens, octets) }

abbrev IsReadAs : Mode → Front → List ℕ → List ℕ → List Token → List Piece → Type 0
IsReadAs mode front text lead seen ps = progress_from mode (AtPart front) text ≡ line_of (waits_of ps) (seen ++ tokens_from (front.octets + length lead) ps) (length text)

two_left : (ps : List Piece) → 2 ≤ length (text_of ps)
two_left [] = omega arith
two_left (p ∷ ps) = omega (arith, two_left ps, length-append (gap p.spaced) (own p.written ++ text_of ps), length-append (own p.written) (text_of ps))

wait_is : (digits : List ℕ) (waits : Bool) (octets : List ℕ) (n : ℕ) → (let k : ℕ = cond waits 1 0 in k) + (0 + n) ≡ wait (Literal digits waits octets) + n
wait_is digits waits octets n = grind arith

stage_reads_by : (mode : Mode) (front : Front) (text lead : List ℕ) (seen : List Token) (e : Ending) (qs : List Piece) (octets : List ℕ) (rs : List Piece) → length text ≤ command_limit
    → PartStands e (last_kind seen) qs → GoesOn e octets rs → IsRest mode front text lead seen (qs ++ after e octets rs)
    → ((f : Front) → length rs < length (qs ++ after e octets rs) → IsRest mode f text [] f.tokens rs → IsReadAs mode f text [] f.tokens rs) → IsReadAs mode front text lead seen (qs ++ after e octets rs)
unfolding line_of
stage_reads_by mode front text lead seen Done qs octets rs fits s g r later =
    let h = has_step mode front text lead seen Done qs octets rs fits s r in
    by_stages mode (AtPart front) text r.within ∙ ap (progress_by (λ s. progress_from mode s text)) h.step
    ∙ ap (line_of 0 (seen ++ tokens_from (front.octets + length lead) qs)) (let end : front.octets + length (lead ++ part_text Done qs) + 2 ≡ length text = omega (arith, h.whole) in end)
    ∙ rw (waits_joined Done (last_kind seen) qs [] s, append-nil qs) refl
stage_reads_by mode front text lead seen (Marked spaced digits waits) qs octets rs fits s g r later =
    let e = Marked spaced digits waits in
    let go = λ (s : Stage). progress_from mode s text in
    let lit : Piece = record { spaced = spaced; written = Literal digits waits octets } in
    let count = number digits in
    let at = front.octets + length lead in
    let start = place_behind at qs + length (gap spaced) in
    let end = front.octets + length (lead ++ part_text e qs) in
    let before = seen ++ tokens_from at qs in
    let opened : Front = record { tokens = before; octets = end + 2 } in
    let literal : Token = literal_token start count opened octets in
    let next : Front = record { tokens = before ++ literal ∷ []; octets = end + 2 + count } in
    let h = has_step mode front text lead seen e qs octets rs fits s r in
    let long : length text ≡ end + 2 + length octets + length (text_of rs) = omega (arith, h.whole, length-append octets (text_of rs)) in
    let goes : step_by_mark end before (mark_at (place_behind at qs) e) ≡ Goes (cond waits 1 0) (InLiteral start count opened) = rw (le-ltb command_limit (end + 2 + count + 2) (omega (arith, long, two_left rs, fits, g.0))) refl in
    let taken = literal_step mode start opened text octets (text_of rs) count g.0 (omega (arith, long, g.0)) h.left in
    let rest : IsRest mode next text [] next.tokens rs = record {
      is_lead = (lead_later mode before literal [] []).0;
      within = omega (arith, long, g.0);
      rest_is = ap (λ k. drop k text) (omega (arith, g.0)) ∙ drop_on (end + 2) text octets (text_of rs) h.left;
      stand = subst (λ (l : Option Kind). Stand l rs) (sym (last_pushed before literal)) g.1;
      lengths = h.lengths;
    } in
    let place : end + 2 + count ≡ start + length (own lit.written) = omega (arith, g.0, place_is e at qs, length-append lead (part_text e qs), length-append (gap spaced) (mark digits waits), length-append (mark digits waits) (13 ∷ 10 ∷ octets)) in
    let no_more : start + length (own lit.written) + 0 ≡ start + length (own lit.written) = omega arith in
    let tokens_are : next.tokens ++ tokens_from (next.octets + 0) rs ≡ seen ++ tokens_from at (qs ++ lit ∷ rs) =
    ap (λ k. (before ++ record { kind = kinds.Literal; value = octets; start = start; end = k } ∷ []) ++ tokens_from (k + 0) rs) place
    ∙ ap (λ k. (before ++ token start lit.written ∷ []) ++ tokens_from k rs) no_more ∙ simp (append_assoc, tokens_joined at qs (lit ∷ rs)) refl in
    by_stages mode (AtPart front) text r.within ∙ ap (progress_by go) (h.step ∙ goes)
    ∙ ap (waiting (cond waits 1 0)) (by_stages mode (InLiteral start count opened) text (omega (arith, long)) ∙ ap (progress_by go) taken ∙ ap (waiting 0) (later next (omega (arith, length-append qs (lit ∷ rs))) rest))
    ∙ ap (λ k. line_of k (next.tokens ++ tokens_from (next.octets + 0) rs) (length text)) (wait_is digits waits octets (waits_of rs) ∙ sym (waits_joined e (last_kind seen) qs (lit ∷ rs) s))
    ∙ ap (λ (ts : List Token). line_of (waits_of (qs ++ lit ∷ rs)) ts (length text)) tokens_are

stage_reads : (n : ℕ) (mode : Mode) (front : Front) (text lead : List ℕ) (seen : List Token) (ps : List Piece) → length ps < n → length text ≤ command_limit
    → IsRest mode front text lead seen ps → IsReadAs mode front text lead seen ps
stage_reads zero mode front text lead seen ps short fits r = absurd (omega arith)
stage_reads (suc n) mode front text lead seen ps short fits r =
    let d = divide (last_kind seen) ps r.stand in
    subst (λ (xs : List Piece). IsReadAs mode front text lead seen xs) (sym d.whole)
    (stage_reads_by mode front text lead seen d.ending d.pieces d.octets d.others fits d.stand d.on (subst (λ (xs : List Piece). IsRest mode front text lead seen xs) d.whole r)
    (λ f lt rest. stage_reads n mode f text [] f.tokens d.others (omega (arith, lt, ap length d.whole)) fits rest))

-- ---- what is read was so written

abbrev Says : Progress → List Token → ℕ → Type 0
Says p tokens n = p.item ≡ Some (Line tokens, n)

-- what a line says of the steps that lead to it
by_end : (mode : Mode) (front : Front) (rest : List ℕ) (go : Stage → Progress) (tokens : List Token) (n : ℕ) → Says (progress_by go (step_by_end mode front rest (part_end rest))) tokens n
    → (k : ℕ) × (part_end rest ≡ At k) × Says (progress_by go (step_of_part mode front (take k rest))) tokens n
by_end mode front rest go tokens n e = grind arith

by_said : (mode : Mode) (front : Front) (part : List ℕ) (go : Stage → Progress) (tokens : List Token) (n : ℕ) → Says (progress_by go (step_of_part mode front part)) tokens n
    → (front.octets + length part + 2 ≤ command_limit) × (x : List Token × List ℕ) × (begun_at mode front.tokens part ≡ Ok x)
    × (p : Part) × (part_within (length x.1) (front.octets + length part) x.0 x.1 ≡ Ok p) × Says (progress_by go (step_by_mark (front.octets + length part) p.tokens p.mark)) tokens n
unfolding step_of_part
by_said mode front part go tokens n e = grind arith

by_mark : (end : ℕ) (seen : List Token) (m : ℕ × Announced) (go : Stage → Progress) (tokens : List Token) (n : ℕ) → Says (progress_by go (step_by_mark end seen (Some m))) tokens n
    → Says (go (InLiteral m.0 m.1.count (record { tokens = seen; octets = end + 2 }))) tokens n
by_mark end seen m go tokens n e = grind arith

by_literal : (mode : Mode) (start count : ℕ) (front : Front) (text : List ℕ) (go : Stage → Progress) (tokens : List Token) (n : ℕ) → Says (progress_by go (step_of mode (InLiteral start count front) text)) tokens n
    → (front.octets + count ≤ length text) × Says (go (AtPart (record { tokens = front.tokens ++ literal_token start count front (take count (drop front.octets text)) ∷ []; octets = front.octets + count }))) tokens n
unfolding step_of
by_literal mode start count front text go tokens n e = grind arith

by_line : (tokens others : List Token) (m n : ℕ) → Says (line_of 0 tokens m) others n → (tokens ≡ others) × (m ≡ n)
unfolding line_of
by_line tokens others m n e = grind arith

record IsFound (mode : Mode) (front : Front) (text : List ℕ) : Type 0 where
  lead : List ℕ
  seen : List Token
  pieces : List Piece
  rest : IsRest mode front text lead seen pieces
  fits : length text ≤ command_limit

-- a part that was read, and what is to follow it
found : (mode : Mode) (front : Front) (text part more : List ℕ) (x : List Token × List ℕ) (led : HasLead mode front.tokens part x) (e : Ending) (qs : List Piece) (octets : List ℕ) (rs : List Piece)
    → front.octets ≤ length text → drop front.octets text ≡ part ++ 13 ∷ 10 ∷ more → length part + 2 ≤ part_limit → PartStands e (last_kind x.0) qs → x.1 ≡ part_text e qs
    → GoesOn e octets rs → more ≡ behind e octets rs → AllByRecursion (λ k. k ≤ 8192) (lengths_after e rs) → length text ≤ command_limit → IsFound mode front text
found mode front text part more x led e qs octets rs within cut short stand text_is g more_is lengths fits =
    let whole : part ≡ led.0 ++ part_text e qs = led.2 ∙ ap (λ (xs : List ℕ). led.0 ++ xs) text_is in
    let all = subst (λ (ns : List ℕ). AllByRecursion (λ k. k ≤ 8192) ns) (sym (lengths_are e (last_kind x.0) (length led.0) qs octets rs stand)) (omega (arith, short, ap length whole, length-append led.0 (part_text e qs)), lengths) in
    record {
      lead = led.0;
      seen = x.0;
      pieces = qs ++ after e octets rs;
      rest = record {
        is_lead = led.1;
        within = within;
        rest_is = cut ∙ rw (whole, more_is, text_joined e octets rs qs) (append_assoc led.0 (part_text e qs) (13 ∷ 10 ∷ behind e octets rs));
        stand = joined (last_kind x.0) qs e octets rs stand g;
        lengths = all;
      };
      fits = fits;
    }

-- a part in a text that ends after it
cut_short : (at size : ℕ) (text part more : List ℕ) → drop at text ≡ part ++ 13 ∷ 10 ∷ more → at + length part + 2 ≤ size → drop at (take size text) ≡ part ++ 13 ∷ 10 ∷ take (size - (at + length part + 2)) more
cut_short at size text part more cut within =
    let line = part ++ 13 ∷ 10 ∷ [] in
    let k = size - (at + length part + 2) in
    let size_is : size ≡ at + (length line + k) = omega (arith, length-append part (13 ∷ 10 ∷ [])) in
    ap (λ j. drop at (take j text)) size_is ∙ drop-take at (length line + k) text ∙ ap (take (length line + k)) (cut ∙ sym (append_assoc part (13 ∷ 10 ∷ []) more)) ∙ take-append-add line more k
    ∙ append_assoc part (13 ∷ 10 ∷ []) (take k more)

found_by_mark : (n : ℕ) (mode : Mode) (front : Front) (text part more : List ℕ) (size : ℕ) (x : List Token × List ℕ) (led : HasLead mode front.tokens part x) (p : Part) (e : Ending) (qs : List Piece) (mark : Option (ℕ × Announced)) (tokens : List Token)
    → MarkIs e mark → size ≤ length text → length text - front.octets < suc n → front.octets ≤ length text → drop front.octets text ≡ part ++ 13 ∷ 10 ∷ more → length part + 2 ≤ part_limit → PartStands e (last_kind x.0) qs → x.1 ≡ part_text e qs
    → front.octets + length part + 2 ≤ command_limit → Says (progress_by (λ s. progress_from mode s text) (step_by_mark (front.octets + length part) p.tokens mark)) tokens size
    → ((f : Front) → length text - f.octets < n → f.octets ≤ length text → Says (progress_from mode (AtPart f) text) tokens size → IsFound mode f (take size text)) → IsFound mode front (take size text)
unfolding line_of
found_by_mark n mode front text part more size x led p Done qs None tokens m le far within cut short stand text_is fits e later =
    let end = by_line p.tokens tokens (front.octets + length part + 2) size e in
    let whole = length-take-le size text le in
    let inner = cut_short front.octets size text part more cut (omega (arith, end.1)) in
    let nothing = nil_from_length (take (size - (front.octets + length part + 2)) more) (omega (arith, end.1, whole, ap length inner, length-append part (13 ∷ 10 ∷ take (size - (front.octets + length part + 2)) more), length-drop front.octets (take size text))) in
    found mode front (take size text) part (take (size - (front.octets + length part + 2)) more) x led Done qs [] [] (omega (arith, end.1, whole)) inner short stand text_is tt nothing tt (omega (arith, end.1, whole, fits))
found_by_mark n mode front text part more size x led p (Marked spaced digits waits) qs (Some m) tokens is le far within cut short stand text_is fits e later =
    let go = λ (s : Stage). progress_from mode s text in
    let count = m.1.count in
    let opened : Front = record { tokens = p.tokens; octets = front.octets + length part + 2 } in
    let long : length text ≡ front.octets + length part + 2 + length more = omega (arith, ap length cut, length-append part (13 ∷ 10 ∷ more), length-drop front.octets text, within) in
    let opens : progress_from mode (InLiteral m.0 count opened) text ≡ progress_by go (step_of mode (InLiteral m.0 count opened) text) = by_stages mode (InLiteral m.0 count opened) text (omega (arith, long)) in
    let l = by_literal mode m.0 count opened text go tokens size (ap (λ (q : Progress). q.item) (sym opens) ∙ by_mark (front.octets + length part) p.tokens m go tokens size e) in
    let f = later _ (omega (arith, far, l.0)) l.0 l.1 in
    let only = (lead_later mode p.tokens (literal_token m.0 count opened (take count (drop opened.octets text))) f.lead f.seen).1 f.rest.is_lead in
    let whole = length-take-le size text le in
    let after_part = take (size - (front.octets + length part + 2)) more in
    let inner = cut_short front.octets size text part more cut (omega (arith, whole, f.rest.within)) in
    let left = drop_part front.octets (take size text) part after_part inner in
    let back : drop count after_part ≡ text_of f.pieces = ap (drop count) (sym left) ∙ drop-drop count opened.octets (take size text) ∙ f.rest.rest_is ∙ ap (λ (xs : List ℕ). xs ++ text_of f.pieces) only.0 in
    let room : count ≤ length after_part = omega (arith, whole, f.rest.within, ap length left, length-drop opened.octets (take size text)) in
    found mode front (take size text) part after_part x led (Marked spaced digits waits) qs (take count after_part) f.pieces (omega (arith, f.rest.within)) inner short stand text_is
    (sym is ∙ sym (length-take-le count after_part room), subst (λ (k : Option Kind). Stand k f.pieces) (ap last_kind only.1 ∙ last_pushed p.tokens _) f.rest.stand)
    (sym (take-append-drop count after_part) ∙ ap (λ (xs : List ℕ). take count after_part ++ xs) back)
    (subst (λ (xs : List ℕ). AllByRecursion (λ k. k ≤ 8192) (part_lengths (length xs) f.pieces)) only.0 f.rest.lengths) f.fits
found_by_mark n mode front text part more size x led p Done qs (Some m) tokens is le far within cut short stand text_is fits e later = absurd is
found_by_mark n mode front text part more size x led p (Marked spaced digits waits) qs None tokens is le far within cut short stand text_is fits e later = absurd is

stage_spelled : (n : ℕ) (mode : Mode) (front : Front) (text : List ℕ) (size : ℕ) (tokens : List Token) → size ≤ length text → length text - front.octets < n → front.octets ≤ length text
    → Says (progress_from mode (AtPart front) text) tokens size → IsFound mode front (take size text)
unfolding step_of
stage_spelled zero mode front text size tokens le far within line = absurd (omega arith)
stage_spelled (suc n) mode front text size tokens le far within line =
    let go = λ (s : Stage). progress_from mode s text in
    let rest = drop front.octets text in
    let k = by_end mode front rest go tokens size (ap (λ (q : Progress). q.item) (sym (by_stages mode (AtPart front) text within)) ∙ line) in
    let cut = cut_of rest k.0 k.1 in
    let part = take k.0 rest in
    let front_is : length part ≡ k.0 = length-take-le k.0 rest (omega (arith, (is_at rest k.0 k.1).within)) in
    let s = by_said mode front part go tokens size k.2 in
    let x = s.1 in
    let p = s.3 in
    let r = part_spelled (length x.1) (front.octets + length part) x.0 x.1 p s.4 in
    found_by_mark n mode front text part (drop (2 + k.0) rest) size x (lead_spelled mode front.tokens part x s.2) p r.ending r.pieces p.mark tokens r.mark_is le far within cut.0 (omega (arith, cut.1, front_is)) r.stand r.text_is s.0 s.5
    (λ f far within l. stage_spelled n mode f text size tokens le far within l)

-- ---- a whole line

alone_reads : (mode : Mode) (text : List ℕ) (tokens : List Token) (waits : ℕ) → IsSpelling mode tokens waits text → progress mode text ≡ line_of waits tokens (length text)
unfolding progress line_of
alone_reads mode text tokens waits s =
    stage_reads (suc (length s.pieces)) mode (record { tokens = []; octets = 0 }) text s.tag (tokens_before mode s.tag) s.pieces (omega arith) s.fits (begins mode s.begins s.stand)
    ∙ ap (λ (ts : List Token). line_of (waits_of s.pieces) ts (length text)) (ap (λ k. tokens_before mode s.tag ++ tokens_from k s.pieces) (omega arith) ∙ sym s.tokens_are)
    ∙ ap (λ k. line_of k tokens (length text)) (sym s.waits_are)
  where
    begins : (mode : Mode) → Begins mode s.tag → Stand (kind_before mode) s.pieces → IsRest mode (record { tokens = []; octets = 0 }) text s.tag (tokens_before mode s.tag) s.pieces
    begins modes.Command b stand = record { is_lead = (b, refl); within = omega arith; rest_is = s.text_is; stand = stand; lengths = s.parts_fit }
    begins modes.Answer b stand = record { is_lead = (b, refl); within = omega arith; rest_is = s.text_is; stand = stand; lengths = s.parts_fit }

-- how far a line leads, so far a longer text does
with_more : (mode : Mode) (text rest : List ℕ) (waits : ℕ) (tokens : List Token) (n : ℕ) → progress mode text ≡ line_of waits tokens n → progress mode (text ++ rest) ≡ line_of waits tokens n
unfolding line_of
with_more mode text rest waits tokens n e =
    let k = keeps_items mode text rest (Line tokens, n) (ap (λ (p : Progress). p.item) e) in
    let w : (progress mode (text ++ rest)).waits ≡ waits = k.1 ∙ ap (λ (p : Progress). p.waits) e in
    ap (λ (i : Option (Lexed × ℕ)). let p : Progress = record { waits = (progress mode (text ++ rest)).waits; item = i } in p) k.0 ∙ ap (λ i. line_of i tokens n) w

pub spelling_reads : (mode : Mode) (text rest : List ℕ) (tokens : List Token) (waits : ℕ) → IsSpelling mode tokens waits text
    → progress mode (text ++ rest) ≡ record { waits = waits; item = Some (Line tokens, length text) }
unfolding line_of
spelling_reads mode text rest tokens waits s = with_more mode text rest waits tokens (length text) (alone_reads mode text tokens waits s)

before_is : (mode : Mode) (lead : List ℕ) (seen : List Token) → IsLead mode [] lead seen → Begins mode lead × (seen ≡ tokens_before mode lead) × (last_kind seen ≡ kind_before mode)
before_is modes.Command lead seen l = (l.0, l.1, ap last_kind l.1)
before_is modes.Answer lead seen l = (l.0, l.1, ap last_kind l.1)

pub line_spelled : (mode : Mode) (text : List ℕ) (tokens : List Token) (n : ℕ) → (progress mode text).item ≡ Some (Line tokens, n) → IsSpelling mode tokens (progress mode text).waits (take n text)
unfolding progress line_of
line_spelled mode text tokens n e =
    let f = stage_spelled (suc (length text)) mode (record { tokens = []; octets = 0 }) text n tokens (takes_octets mode text (Line tokens, n) e).2 (omega arith) (omega arith) e in
    let line = f.seen ++ tokens_from (0 + length f.lead) f.pieces in
    let alone = stage_reads (suc (length f.pieces)) mode (record { tokens = []; octets = 0 }) (take n text) f.lead f.seen f.pieces (omega arith) f.fits f.rest in
    let r : progress mode text ≡ line_of (waits_of f.pieces) line (length (take n text)) =
    ap (progress mode) (sym (take-append-drop n text)) ∙ with_more mode (take n text) (drop n text) (waits_of f.pieces) line (length (take n text)) alone in
    let same = by_line line tokens (length (take n text)) n (sym (ap (λ (p : Progress). p.item) r) ∙ e) in
    let b = before_is mode f.lead f.seen f.rest.is_lead in
    record {
      tag = f.lead;
      pieces = f.pieces;
      begins = b.0;
      stand = subst (λ (l : Option Kind). Stand l f.pieces) b.2 f.rest.stand;
      text_is = f.rest.rest_is;
      tokens_are = sym same.0 ∙ ap (λ (ts : List Token). ts ++ tokens_from (0 + length f.lead) f.pieces) b.1 ∙ ap (λ k. tokens_before mode f.lead ++ tokens_from k f.pieces) (omega arith);
      waits_are = ap (λ (p : Progress). p.waits) r;
      parts_fit = f.rest.lengths;
      fits = f.fits;
    }
