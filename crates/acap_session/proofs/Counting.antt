-- How many turns may be left: a turn that says something takes octets, or tells a continuation that is due.
use Rattle.std.proofs.Common.{◌≡◌, ℕ, zero, suc, ◌+◌, ◌-◌, ◌<◌, ◌≤◌, min, nat_lt, Bool, true, false, if◌then◌else◌, List, [], ◌∷◌, ◌++◌, length, take, drop, Option, Some, None, Result, Ok, Err, refl, sym, ap, subst, arith, length-drop}
use Rattle.acap_lexer.specs.Held.{next_of}
use Rattle.acap_lexer.specs.Holding.{Held}
use Rattle.acap_lexer.specs.Part.{Part, begun_at, part_within, tag_of}
use Rattle.acap_lexer.specs.Reading.{Read}
use Rattle.acap_lexer.specs.Stream.{Front, Stage, AtPart, InLiteral, Step, Waits, Ends, Goes, Progress, beginning, command_limit, end_of, literal_token, part_end, part_end_by, part_limit, progress, progress_by, progress_from, progress_within, step_by_end, step_by_front, step_by_mark, step_by_part, step_of, step_of_part}
use Rattle.acap_lexer.specs.Token.{Token}
use Rattle.acap_lexer.specs.declared.fault.LexFault.{LexFault}
use Rattle.acap_lexer.specs.declared.fault.LexFault.TheVariants as faults
use Rattle.acap_lexer.specs.declared.lexed.Lexed.{Lexed}
use Rattle.acap_lexer.specs.declared.lexed.Lexed.TheVariants as lexed
use Rattle.acap_lexer.specs.declared.lexed.Mode.{Mode}
use Rattle.acap_lexer.proofs.Asking.{plus_cases, item_cases}
use Rattle.acap_lexer.proofs.ProgressLaws.{takes_octets}
use Rattle.acap_session.specs.ScriptWriting.{turns_for}

-- ---- a text of so many octets has at most so many continuations due, and three

-- a stage has one due at most
abbrev HasOne : Step → Type 0
HasOne Waits = Unit {0}
HasOne (Ends item n) = Unit {0}
HasOne (Goes n stage) = n ≤ 1

one_or : (b : Bool) (x y : Step) → HasOne x → HasOne y → HasOne (if b then x else y)
one_or true x y h k = h
one_or false x y h k = k

one_if : (b : Bool) → (if b then 1 else 0) ≤ 1
one_if true = omega arith
one_if false = omega arith

one_by_mark : (end : ℕ) (tokens : List Token) (m : _) → HasOne (step_by_mark end tokens m)
one_by_mark end tokens None = tt
one_by_mark end tokens (Some m) =
    one_or (nat_lt command_limit (end + 2 + m.1.count + 2)) (Ends (lexed.Fatal faults.CommandTooLong) (end + 2))
    (Goes (if m.1.waits then 1 else 0) (InLiteral m.0 m.1.count (record { tokens = tokens; octets = end + 2 }))) tt (one_if m.1.waits)

one_by_part : (tag : Option (List ℕ)) (end : ℕ) (r : Result Part LexFault) → HasOne (step_by_part tag end r)
one_by_part tag end (Ok part) = one_by_mark end part.tokens part.mark
one_by_part tag end (Err fault) = tt

one_by_front : (mode : Mode) (end : ℕ) (r : Read (List Token)) → HasOne (step_by_front mode end r)
one_by_front mode end (Ok x) = one_by_part (tag_of mode x.0) end (part_within (length x.1) end x.0 x.1)
one_by_front mode end (Err fault) = tt

one_in_part : (mode : Mode) (front : Front) (part : List ℕ) → HasOne (step_of_part mode front part)
unfolding step_of_part
one_in_part mode front part =
    let end = front.octets + length part in
    one_or (nat_lt command_limit (end + 2)) (Ends (lexed.Fatal faults.CommandTooLong) (end + 2))
    (step_by_front mode end (begun_at mode front.tokens part)) tt (one_by_front mode end (begun_at mode front.tokens part))

one_by_end : (mode : Mode) (front : Front) (text : List ℕ) (place : Option ℕ) (octets : ℕ) → HasOne (step_by_end mode front text (part_end_by place octets))
one_by_end mode front text (Some n) octets = one_in_part mode front (take n text)
one_by_end mode front text None octets = by_test (nat_lt octets part_limit) refl
  where
    by_test : (b : Bool) → nat_lt octets part_limit ≡ b → HasOne (step_by_end mode front text (part_end_by None octets))
    by_test true e = rw e tt
    by_test false e = rw e tt

has_one : (mode : Mode) (stage : Stage) (text : List ℕ) → HasOne (step_of mode stage text)
unfolding step_of part_end
has_one mode (AtPart front) text =
    let rest = drop front.octets text in
    one_by_end mode front rest (end_of (take part_limit rest)) (length rest)
has_one mode (InLiteral start count front) text =
    let next : Stage = AtPart (record {
      tokens = front.tokens ++ literal_token start count front (take count (drop front.octets text)) ∷ [];
      octets = front.octets + count;
    }) in
    one_or (nat_lt (length text) (front.octets + count)) Waits (Goes 0 next) tt (omega arith)

waits_by : (most : ℕ) (go : Stage → Progress) (x : Step) → ((s : Stage) → (go s).waits ≤ most) → HasOne x
    → (progress_by go x).waits ≤ suc most
waits_by most go Waits h e = omega arith
waits_by most go (Ends item n) h e = omega arith
waits_by most go (Goes n stage) h e = let k = h stage in omega (arith, e, k)

waits_within : (most : ℕ) (mode : Mode) (stage : Stage) (text : List ℕ) → (progress_within most mode stage text).waits ≤ most
unfolding progress_within
waits_within zero mode stage text = omega arith
waits_within (suc most) mode stage text =
    waits_by most (λ s. progress_within most mode s text) (step_of mode stage text) (λ s. waits_within most mode s text)
    (has_one mode stage text)

waits_at_most : (mode : Mode) (text : List ℕ) → (progress mode text).waits ≤ length text + 3
unfolding progress progress_from
waits_at_most mode text = let k = waits_within (suc (suc (suc (length text)))) mode beginning text in omega (arith, k)

-- ---- the turns that may follow

by_more : (more few : ℕ) → turns_for few + (more + few + 5) ≤ turns_for (more + suc few)
unfolding turns_for
by_more zero few =
    let e : suc few ≡ 0 + suc few = omega arith in
    subst (λ k. turns_for few + (0 + few + 5) ≤ turns_for k) e (omega arith)
by_more (suc more) few =
    let a = by_more more few in
    let e : suc (more + suc few) ≡ suc more + suc few = omega arith in
    subst (λ k. turns_for few + (suc more + few + 5) ≤ turns_for k) e (omega (arith, a))

for_more : (few many : ℕ) → few < many → turns_for few + (many + 4) ≤ turns_for many
for_more few many e =
    let k : many - suc few + suc few ≡ many = omega (arith, e) in
    let a = subst (λ n. turns_for few + (many - suc few + few + 5) ≤ turns_for n) k (by_more (many - suc few) few) in
    omega (arith, a, e)

five_more : (octets : ℕ) → octets + 5 ≤ turns_for octets
unfolding turns_for
five_more zero = omega arith
five_more (suc octets) = let k = five_more octets in omega (arith, k)

-- so many may follow in whatever modes, where so many continuations were told
unfoldable pub turns_behind : Held → ℕ
turns_behind h = let octets = length h.text in turns_for octets - 2 - min h.told (octets + 3)

pub at_most : (h : Held) → turns_behind h + 2 ≤ turns_for (length h.text)
unfolding turns_behind
at_most h = let k = five_more (length h.text) in omega (arith, k)

-- an item is taken
pub item_fewer : (m : Mode) (h : Held) (x : Lexed) → h.fatal ≡ None → (x ≡ lexed.Plus → ⊥) → (x ≡ lexed.More → ⊥) → (next_of m h).0 ≡ x → turns_behind (next_of m h).1 < turns_behind h
unfolding turns_behind
item_fewer m h x going not_plus not_more e =
    let t = item_cases m h (next_of m h).1 x going not_plus not_more (sym e, refl) in
    let takes = takes_octets m h.text (x, t.octets) t.some in
    let short : length (next_of m h).1.text ≡ length (drop t.octets h.text) = ap (λ (g : Held). length g.text) t.is in
    let few : length (next_of m h).1.text < length h.text = omega (arith, short, takes.1, takes.2, length-drop t.octets h.text) in
    let fewer = for_more (length (next_of m h).1.text) (length h.text) few in
    let least = five_more (length (next_of m h).1.text) in
    omega (arith, few, fewer, least)

-- a continuation is told
pub plus_fewer : (m : Mode) (h : Held) → h.fatal ≡ None → (next_of m h).0 ≡ lexed.Plus → turns_behind (next_of m h).1 < turns_behind h
unfolding turns_behind
plus_fewer m h going e =
    let t = plus_cases m h (next_of m h).1 going (sym e, refl) in
    let most = waits_at_most m h.text in
    let least = five_more (length h.text) in
    let told : (next_of m h).1.told ≡ h.told + 1 = ap (λ (g : Held). g.told) t.1 in
    let octets : length (next_of m h).1.text ≡ length h.text = ap (λ (g : Held). length g.text) t.1 in
    rw octets (omega (arith, t.0, most, least, told))
