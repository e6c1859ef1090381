-- What a lexer keeps when it takes a piece, and what it answers next.
use Rattle.std.proofs.Common.{◌≡◌, ℕ, ◌≤◌, List, ◌++◌, length, drop, Option, Some, None, refl, sym, ap, ◌∙◌, arith, length-append}
use Rattle.std.proofs.lemmas.List.{drop-append-le}
use Rattle.acap_lexer.specs.declared.outcomes.Due.{Due}
use Rattle.acap_lexer.specs.declared.fault.LexFault.{LexFault}
use Rattle.acap_lexer.specs.declared.lexed.Lexed.{Lexed}
use Rattle.acap_lexer.specs.declared.lexed.Lexed.TheVariants.{Fatal}
use Rattle.acap_lexer.specs.declared.lexed.Mode.{Mode}
use Rattle.acap_lexer.specs.declared.scan.Scan.{Scan}
use Rattle.acap_lexer.specs.Held.{next_of}
use Rattle.acap_lexer.specs.Holding.{Held}
use Rattle.acap_lexer.specs.Lexing.{IsLexer}
use Rattle.acap_lexer.specs.Scanning.{IsSound, Reaches, IsDue}
use Rattle.acap_lexer.proofs.Asking.{answer_to, due_next, fatal_next}
use Rattle.acap_lexer.proofs.Reaching.{reaches_more, sound_more}

pub pushed : (old new piece : List ℕ) (start place : ℕ) (scan : Scan) → IsLexer old start scan → drop place new ≡ drop start old → place ≤ length new → IsLexer (new ++ piece) place scan
pushed old new piece start place scan l rest within = record {
  within = omega (arith, within, length-append new piece);
  sound = rw (drop-append-le place new piece within, rest) (sound_more (drop start old) piece scan l.sound);
  reaches = rw (drop-append-le place new piece within, rest) (reaches_more (drop start old) piece scan l.reaches);
}

-- an answer, and what is held after it
abbrev pub Answers : Mode → Held → Lexed × Held → Type 0
Answers mode old r = record { answer : r.0 ≡ (next_of mode old).0; held : r.1 ≡ (next_of mode old).1; err : Unit {0} }

answers : (mode : Mode) (here old : Held) (r : Lexed × Held) → here ≡ old → next_of mode here ≡ r → Answers mode old r
answers mode here old r same e =
    let n : r ≡ next_of mode old = sym e ∙ ap (next_of mode) same in
    record { answer = ap (λ x. x.0) n; held = ap (λ x. x.1) n; err = tt }

pub answers_fault : (mode : Mode) (here old : Held) (fault : LexFault) → here ≡ old → here.fatal ≡ Some fault → Answers mode old (Fatal fault, old)
answers_fault mode here old fault same e = rw (← same) (answers mode here here (Fatal fault, here) refl (fatal_next mode here fault e))

no_fault : (fatal : Option LexFault) → ((fault : LexFault) → fatal ≡ Some fault → ⊥) → fatal ≡ None
no_fault None going = refl
no_fault (Some fault) going = absurd (going fault refl)

-- what is due of the octets after the start is answered, where no fault was
pub answers_due : (mode scanned : Mode) (held : Held) (rest octets items : List ℕ) (start told : ℕ) (fatal : Option LexFault) (due : Due)
    → (let h : Held = record { text = drop start items; told = told; fatal = fatal } in h ≡ held) → ((fault : LexFault) → fatal ≡ Some fault → ⊥)
    → scanned ≡ mode → rest ≡ drop start octets → octets ≡ items → IsDue scanned told rest due
    → Answers mode held (answer_to due (record { text = drop start items; told = told; fatal = fatal }))
answers_due mode scanned held rest octets items start told fatal due same going turned behind read is =
    let here : Held = record { text = drop start items; told = told; fatal = fatal } in
    answers mode here held _ same (due_next mode here due (no_fault fatal going) (rw (turned, behind, read) at is))

pub keeps_scan : (rest octets items : List ℕ) (start : ℕ) (scan : Scan) (scanned : Mode) → start ≤ length items → rest ≡ drop start octets → octets ≡ items
    → IsSound rest scan × Reaches rest scan × (scan.mode ≡ scanned) → IsLexer items start scan
keeps_scan rest octets items start scan scanned within behind read keeps = record {
  within = within;
  sound = rw (behind, read) at keeps.0;
  reaches = rw (behind, read) at keeps.1;
}
