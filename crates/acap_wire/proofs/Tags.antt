-- The first token of a command that a lexer answers is a tag, and so is that of a line with a fault.
use Rattle.std.proofs.Common.{◌≡◌, ℕ, zero, suc, ◌+◌, ◌≤◌, arith, Bool, true, false, cond, ◌&&◌, nat_le, nat_lt, List, [], ◌∷◌, ◌++◌, length, take, drop, Option, Some, None, Result, Ok, Err, refl, sym, ap, subst, ◌∙◌, if◌then◌else◌, tests}
use Rattle.std.specs.Prelude.{slice_get}
use Rattle.std.specs.List.{list_all, prefix_len}
use Rattle.std.specs.Option.{option_map}
use Rattle.std.proofs.lemmas.Bool.{and_parts}
use Rattle.std.proofs.lemmas.List.Folds.{length-prefix_len}
use Rattle.std.proofs.Math.Numerals.{one-add}
use Rattle.acap_lexer.specs.Held.{next_of, next_by, next_by_item}
use Rattle.acap_lexer.specs.Holding.{Held}
use Rattle.acap_lexer.specs.Octets.{is_tag}
use Rattle.acap_lexer.specs.Part.{Part, begun_at, last_kind, part_by, part_within, tag_of, tag_token, with_token}
use Rattle.acap_lexer.specs.Reading.{Lexeme, Read, ends_tag, gap_at, mark_of, tag_at, tag_limit, token_at, ◌>>=◌}
use Rattle.acap_lexer.specs.Spelling.{IsTag}
use Rattle.acap_lexer.specs.Stream.{AtPart, Ends, Front, Goes, InLiteral, Progress, Stage, Step, Waits, beginning, command_limit, end_of, literal_token, part_end, part_end_by, part_limit, progress, progress_by, progress_from, progress_within, step_by_end, step_by_front, step_by_mark, step_by_part, step_of, step_of_part}
use Rattle.acap_lexer.specs.Token.{Token}
use Rattle.acap_lexer.specs.declared.fault.LexFault.{LexFault}
use Rattle.acap_lexer.specs.declared.fault.LexFault.TheVariants as faults
use Rattle.acap_lexer.specs.declared.lexed.Lexed.{Lexed}
use Rattle.acap_lexer.specs.declared.lexed.Lexed.TheVariants as lexed
use Rattle.acap_lexer.specs.declared.lexed.Mode.TheVariants as modes
use Rattle.acap_grammar.specs.Sayable.{IsTagged}

-- the first of some tokens is a tag
abbrev Headed : List Token → Type 0
Headed [] = ⊥
Headed (t ∷ ts) = IsTag t.value

abbrev HeadedIfAny : List Token → Type 0
HeadedIfAny [] = Unit {0}
HeadedIfAny (t ∷ ts) = IsTag t.value

headed_more : (ts us : List Token) → Headed ts → Headed (ts ++ us)
headed_more [] us h = absurd h
headed_more (t ∷ ts) us h = h

if_any : (ts : List Token) → Headed ts → HeadedIfAny ts
if_any [] h = absurd h
if_any (t ∷ ts) h = h

-- an answer of the lexer has a tag where it has one at all
abbrev pub IsTaggedLine : Lexed → Type 0
IsTaggedLine lexed.More = Unit {0}
IsTaggedLine lexed.Plus = Unit {0}
IsTaggedLine (lexed.Line tokens) = IsTagged (option_map (λ (t : Token). t.value) (slice_get tokens 0))
IsTaggedLine (lexed.Bad fault tag) = IsTagged tag
IsTaggedLine (lexed.Fatal fault) = Unit {0}

headed_line : (ts : List Token) → Headed ts → IsTaggedLine (lexed.Line ts)
headed_line [] h = absurd h
headed_line (t ∷ ts) h = h

headed_tag : (ts : List Token) → Headed ts → IsTagged (tag_of modes.Command ts)
headed_tag [] h = absurd h
headed_tag (t ∷ ts) h = h

-- ---- a tag that is read

all_front : (text : List ℕ) → list_all is_tag (take (prefix_len is_tag text) text) ≡ true
all_front [] = refl
all_front (c ∷ rest) = elim (is_tag c) as (λ b. is_tag c ≡ b → list_all is_tag (take (cond b (1 + prefix_len is_tag rest) 0) (c ∷ rest)) ≡ true) [
  | true ↦ λ t. ap (λ n. list_all is_tag (take n (c ∷ rest))) (one-add (prefix_len is_tag rest)) ∙ (λ i. t i && all_front rest i)
  | false ↦ λ t. refl
] refl

abbrev read_if : Bool → List ℕ × List ℕ → Read (List ℕ)
read_if b x = if b then Ok x else Err faults.BadTag

was_read : (b : Bool) (x y : List ℕ × List ℕ) → read_if b x ≡ Ok y → (b ≡ true) × (x ≡ y)
was_read true x y e = (refl, cc)
was_read false x y e = absurd cc

at_least : (n m : ℕ) → nat_le n m ≡ true → n ≤ m
at_least n m e = grind (arith, tests)

reads_tag : (text tag left : List ℕ) → tag_at text ≡ Ok (tag, left) → IsTag tag
unfolding tag_at
reads_tag text tag left e =
    let n = prefix_len is_tag text in
    let was = was_read (nat_le 1 n && nat_le n tag_limit && ends_tag (drop n text)) (take n text, drop n text) (tag, left) e in
    let sizes = and_parts (nat_le 1 n) (nat_le n tag_limit) (and_parts (nat_le 1 n && nat_le n tag_limit) (ends_tag (drop n text)) was.0).0 in
    let long = length-prefix_len is_tag text in
    let is : IsTag (take n text) = (
      all_front text,
      subst (λ k. 1 ≤ k) (sym long) (at_least 1 n sizes.0),
      subst (λ k. k ≤ 32) (sym long) (at_least n 32 sizes.1),
    ) in
    subst IsTag (ap (λ (p : List ℕ × List ℕ). p.0) was.1) is

-- ---- a part

abbrev GoodPart : Result Part LexFault → Type 0
GoodPart (Ok part) = Headed part.tokens
GoodPart (Err fault) = Unit {0}

abbrev GoodTokens : Result (List Token × List ℕ) LexFault → Type 0
GoodTokens (Ok x) = Headed x.0
GoodTokens (Err fault) = Unit {0}

token_good : (end : ℕ) (front : List ℕ) (seen : List Token) (go : List Token → List ℕ → Result Part LexFault) → Headed seen → ((ts : List Token) (text : List ℕ) → Headed ts → GoodPart (go ts text))
    → (r : Read Lexeme) → GoodPart (with_token seen end front r >>= λ x. go x.0 x.1)
token_good end front seen go h goes (Ok x) = goes _ _ (headed_more seen _ h)
token_good end front seen go h goes (Err fault) = tt

mark_good : (end : ℕ) (front : List ℕ) (seen : List Token) (go : List Token → List ℕ → Result Part LexFault) → Headed seen → ((ts : List Token) (text : List ℕ) → Headed ts → GoodPart (go ts text))
    → (mark : Option _) → GoodPart (part_by go end seen front mark)
mark_good end front seen go h goes (Some mark) = h
mark_good end front seen go h goes None = token_good end front seen go h goes (token_at front)

gap_good : (end : ℕ) (seen : List Token) (go : List Token → List ℕ → Result Part LexFault) → Headed seen → ((ts : List Token) (text : List ℕ) → Headed ts → GoodPart (go ts text))
    → (gap : Result (List ℕ) LexFault) → GoodPart (gap >>= λ front. part_by go end seen front (mark_of front))
gap_good end seen go h goes (Ok front) = mark_good end front seen go h goes (mark_of front)
gap_good end seen go h goes (Err fault) = tt

part_good : (most end : ℕ) (seen : List Token) (text : List ℕ) → Headed seen → GoodPart (part_within most end seen text)
unfolding part_within
part_good most end seen [] h = h
part_good zero end seen (c ∷ rest) h = tt
part_good (suc most) end seen (c ∷ rest) h =
    gap_good end seen (part_within most end) h (λ ts text k. part_good most end ts text k) (gap_at (last_kind seen) (c ∷ rest))

begun_good : (tokens : List Token) (part : List ℕ) → HeadedIfAny tokens → GoodTokens (begun_at modes.Command tokens part)
begun_good (t ∷ ts) part h = h
begun_good [] part h = tag_good (tag_at part) refl
  where
    tag_good : (r : Read (List ℕ)) → tag_at part ≡ r → GoodTokens (r >>= λ x. Ok (tag_token x.0 ∷ [], x.1))
    tag_good (Ok x) e = reads_tag part x.0 x.1 e
    tag_good (Err fault) e = tt

-- ---- a stage

abbrev GoodStage : Stage → Type 0
GoodStage (AtPart front) = HeadedIfAny front.tokens
GoodStage (InLiteral start count front) = Headed front.tokens

abbrev GoodStep : Step → Type 0
GoodStep Waits = Unit {0}
GoodStep (Ends item n) = IsTaggedLine item
GoodStep (Goes n stage) = GoodStage stage

either : (b : Bool) (x y : Step) → GoodStep x → GoodStep y → GoodStep (if b then x else y)
either true x y g h = g
either false x y g h = h

by_mark : (end : ℕ) (tokens : List Token) (mark : Option (ℕ × _)) → Headed tokens → GoodStep (step_by_mark end tokens mark)
by_mark end tokens None h = headed_line tokens h
by_mark end tokens (Some m) h = either (nat_lt command_limit (end + 2 + m.1.count + 2)) _ _ tt h

by_part : (tag : Option (List ℕ)) (end : ℕ) (r : Result Part LexFault) → IsTagged tag → GoodPart r → GoodStep (step_by_part tag end r)
by_part tag end (Ok part) t h = by_mark end part.tokens part.mark h
by_part tag end (Err fault) t h = t

by_front : (end : ℕ) (r : Read (List Token)) → GoodTokens r → GoodStep (step_by_front modes.Command end r)
by_front end (Ok x) h = by_part (tag_of modes.Command x.0) end (part_within (length x.1) end x.0 x.1) (headed_tag x.0 h) (part_good (length x.1) end x.0 x.1 h)
by_front end (Err fault) h = tt

in_part : (front : Front) (part : List ℕ) → HeadedIfAny front.tokens → GoodStep (step_of_part modes.Command front part)
unfolding step_of_part
in_part front part h =
    let end = front.octets + length part in
    either (nat_lt command_limit (end + 2)) _ _ tt (by_front end (begun_at modes.Command front.tokens part) (begun_good front.tokens part h))

by_end : (front : Front) (text : List ℕ) (place : Option ℕ) (octets : ℕ) → HeadedIfAny front.tokens → GoodStep (step_by_end modes.Command front text (part_end_by place octets))
by_end front text (Some n) octets h = in_part front (take n text) h
by_end front text None octets h = by_test (nat_lt octets part_limit) refl
  where
    by_test : (b : Bool) → nat_lt octets part_limit ≡ b → GoodStep (step_by_end modes.Command front text (part_end_by None octets))
    by_test true e = rw e tt
    by_test false e = rw e tt

step_good : (stage : Stage) (text : List ℕ) → GoodStage stage → GoodStep (step_of modes.Command stage text)
unfolding step_of part_end
step_good (AtPart front) text h = let rest = drop front.octets text in by_end front rest (end_of (take part_limit rest)) (length rest) h
step_good (InLiteral start count front) text h =
    let more = front.tokens ++ literal_token start count front (take count (drop front.octets text)) ∷ [] in
    either (nat_lt (length text) (front.octets + count)) _ _ tt (if_any more (headed_more front.tokens _ h))

-- ---- the item that begins a text

abbrev GoodItem : Option (Lexed × ℕ) → Type 0
GoodItem None = Unit {0}
GoodItem (Some x) = IsTaggedLine x.0

by_step : (go : Stage → Progress) (x : Step) → GoodStep x → ((s : Stage) → GoodStage s → GoodItem (go s).item) → GoodItem (progress_by go x).item
by_step go Waits g goes = tt
by_step go (Ends item n) g goes = g
by_step go (Goes n stage) g goes = goes stage g

within_good : (most : ℕ) (stage : Stage) (text : List ℕ) → GoodStage stage → GoodItem (progress_within most modes.Command stage text).item
unfolding progress_within
within_good zero stage text h = tt
within_good (suc most) stage text h = by_step (λ s. progress_within most modes.Command s text) (step_of modes.Command stage text) (step_good stage text h) (λ s k. within_good most s text k)

item_good : (text : List ℕ) → GoodItem (progress modes.Command text).item
unfolding progress progress_from
item_good text = within_good (suc (suc (suc (length text)))) beginning text tt

by_item : (h : Held) (item : Option (Lexed × ℕ)) → GoodItem item → IsTaggedLine (next_by_item h item).0
by_item h None g = tt
by_item h (Some x) g = g

by_fatal : (fatal : Option LexFault) (h : Held) (p : Progress) → GoodItem p.item → IsTaggedLine (next_by fatal h p).0
by_fatal (Some fault) h p g = tt
by_fatal None h p g = elim (nat_lt h.told p.waits) as (λ b. IsTaggedLine (if b then (lexed.Plus, record { text = h.text; told = h.told + 1; fatal = None }) else next_by_item h p.item).0) [
  | true ↦ tt
  | false ↦ by_item h p.item g
]

pub tagged_line : (h : Held) → IsTaggedLine (next_of modes.Command h).0
unfolding next_of
tagged_line h = by_fatal h.fatal h (progress modes.Command h.text) (item_good h.text)
