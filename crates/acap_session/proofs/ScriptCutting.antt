-- A text cut into lines, and what a session says cut into parts.
use Rattle.std.proofs.Common.{◌≡◌, ◌≢◌, ℕ, suc, ◌+◌, ◌==◌, Bool, true, false, ◌&&◌, List, [], ◌∷◌, ◌++◌, take, drop, Option, Some, None, refl, sym, ap, ◌∙◌, append_assoc, arith, slice_index}
use Rattle.std.specs.Prelude.{flat_map, option_map}
use Rattle.std.proofs.lemmas.List.{append-nil}
use Rattle.acap_ordmap.proofs.Logic.{false_and}
use Rattle.acap_lexer.specs.Stream.{end_of}
use Rattle.acap_session.specs.ScriptOutput.{AreParts, IsCutBy, Shows, part_line}
use Rattle.acap_session.specs.ScriptRun.{AreLines, IsLine, is_feed, lines_of, with_last}
use Rattle.acap_session.specs.ScriptWriting.{cut_lines, cut_parts, printed, with_octet}

-- ---- lines

plain : (c : ℕ) (b : Bool) (text : List ℕ) → is_feed c ≡ b → IsLine (c ∷ text) → (is_feed c ≡ false) × IsLine text
plain c true text e h = absurd (let k = rw e at h in cc)
plain c false text e h = (e, let k = rw e at h in k)

line_cut : (line more : List ℕ) → IsLine line → cut_lines (line ++ 10 ∷ more) ≡ line ∷ cut_lines more
line_cut [] more h = refl
line_cut (c ∷ line) more h =
    let p = plain c (is_feed c) line refl h in
    rw p.0 (ap (with_octet c) (line_cut line more p.1))

rest_cut : (rest : List ℕ) → IsLine rest → cut_lines rest ≡ with_last [] rest
rest_cut [] h = refl
rest_cut (c ∷ []) h = let p = plain c (is_feed c) [] refl h in rw p.0 refl
rest_cut (c ∷ d ∷ rest) h =
    let p = plain c (is_feed c) (d ∷ rest) refl h in
    rw p.0 (ap (with_octet c) (rest_cut (d ∷ rest) p.1))

lines_cut : (lines : List (List ℕ)) (more : List ℕ) → AreLines lines → cut_lines (lines_of lines ++ more) ≡ lines ++ cut_lines more
lines_cut [] more h = refl
lines_cut (line ∷ lines) more h =
    ap cut_lines (append_assoc (line ++ 10 ∷ []) (lines_of lines) more ∙ append_assoc line (10 ∷ []) (lines_of lines ++ more))
    ∙ line_cut line (lines_of lines ++ more) h.0 ∙ ap (λ ls. line ∷ ls) (lines_cut lines more h.1)

last_added : (lines : List (List ℕ)) (rest : List ℕ) → lines ++ with_last [] rest ≡ with_last lines rest
last_added [] [] = refl
last_added [] (c ∷ rest) = refl
last_added (line ∷ lines) [] = ap (λ ls. line ∷ ls) (last_added lines [])
last_added (line ∷ lines) (c ∷ rest) = refl

pub text_cut : (lines : List (List ℕ)) (rest : List ℕ) → AreLines lines → IsLine rest → cut_lines (lines_of lines ++ rest) ≡ with_last lines rest
text_cut lines rest h k = lines_cut lines rest h ∙ ap (λ ls. lines ++ ls) (rest_cut rest k) ∙ last_added lines rest

-- ---- parts

-- by where the first CR LF stands
abbrev CutAt : List ℕ → Option ℕ → Type 0
CutAt said (Some place) = cut_parts false said ≡ take place said ∷ cut_parts false (drop (place + 2) said)
CutAt said None = said ≢ [] → cut_parts false said ≡ said ∷ []

cut_on : (c : ℕ) (said : List ℕ) (o : Option ℕ) → end_of said ≡ o → (c == 13 && slice_index said 0 == 10) ≡ false → CutAt said o → CutAt (c ∷ said) (option_map (λ n. n + 1) o)
cut_on c said (Some place) e f h =
    let a : place + 1 ≡ suc place = omega arith in
    let b : suc place + 2 ≡ suc (place + 2) = omega arith in
    rw (f, a, b) (ap (with_octet c) h)
cut_on c [] None e f h = λ some. rw f refl
cut_on c (d ∷ said) None e f h = λ some. rw f (ap (with_octet c) (h (λ none. cc)))

feeds : (c : ℕ) (said : List ℕ) → (c == 13 && slice_index said 0 == 10) ≡ true → CutAt (c ∷ said) (Some 0)
feeds c [] e = absurd (let k = false_and (c == 13) ∙ e in cc)
feeds c (d ∷ said) e = rw e refl

by_test : (c : ℕ) (said : List ℕ) (b : Bool) → (c == 13 && slice_index said 0 == 10) ≡ b → CutAt said (end_of said) → CutAt (c ∷ said) (end_of (c ∷ said))
unfolding end_of
by_test c said true e h = rw e (feeds c said e)
by_test c said false e h = rw e (cut_on c said (end_of said) refl e h)

part_cut : (said : List ℕ) → CutAt said (end_of said)
unfolding end_of
part_cut [] = λ some. absurd (some refl)
part_cut (c ∷ said) = by_test c said (c == 13 && slice_index said 0 == 10) refl (part_cut said)

parts_by : (said part behind : List ℕ) (o : Option ℕ) → CutAt said o → said ≢ [] → IsCutBy o said part behind → cut_parts false said ≡ part ∷ cut_parts false behind
parts_by said part behind (Some place) h some (e, f) = h ∙ rw (e, f) refl
parts_by said part behind None h some (e, f) = h some ∙ rw (e, f) refl

parts_cut : (parts : List (List ℕ)) (said : List ℕ) → AreParts parts said → parts ≡ cut_parts false said
parts_cut [] said e = sym (ap (cut_parts false) e)
parts_cut (part ∷ parts) said (some, (behind, first, more)) =
    ap (λ ps. part ∷ ps) (parts_cut parts behind more) ∙ sym (parts_by said part behind (end_of said) (part_cut said) some first)

-- so what a script shows is what is printed
pub shown : (seat : ℕ) (said written : List ℕ) → Shows seat said written → written ≡ printed seat said
shown seat said written h = h.is ∙ ap (flat_map (part_line seat)) (parts_cut h.parts said h.said_is)

-- ---- lines that ended, and one after them

pub ended_cut : (lines : List (List ℕ)) → AreLines lines → cut_lines (lines_of lines) ≡ lines
ended_cut lines h = ap cut_lines (sym (append-nil (lines_of lines))) ∙ text_cut lines [] h refl

-- the line that is cut off behind some
pub record IsCutAfter (text : List ℕ) (before : List (List ℕ)) (line : List ℕ) : Type 0 where
  pub more : List (List ℕ)
  pub is : cut_lines text ≡ before ++ line ∷ more

pub fed_cut : (before : List (List ℕ)) (line more : List ℕ) → AreLines before → IsLine line → IsCutAfter (lines_of before ++ (line ++ 10 ∷ more)) before line
fed_cut before line more h k = record {
  more = cut_lines more;
  is = lines_cut before (line ++ 10 ∷ more) h ∙ ap (λ ls. before ++ ls) (line_cut line more k);
}

pub last_cut : (before : List (List ℕ)) (c : ℕ) (line : List ℕ) → AreLines before → IsLine (c ∷ line) → IsCutAfter (lines_of before ++ (c ∷ line)) before (c ∷ line)
last_cut before c line h k = record { more = []; is = text_cut before (c ∷ line) h k }
