-- What comes of a stage, and what of a stage in a longer text.
use Rattle.std.proofs.Common.{◌≡◌, ℕ, ◌+◌, ◌-◌, ◌<◌, ◌≤◌, Bool, true, false, List, ◌++◌, length, take, drop, Option, Some, None, Result, Ok, Err, refl, ap, subst, ◌∙◌, arith, ltb, inl, inr, length-append, length-take, length-drop}
use Rattle.std.proofs.lemmas.Bool.{cases_lt, le-ltb, lt-ltb, ltb-false}
use Rattle.std.proofs.lemmas.List.{take-append-le, drop-append-le}
use Rattle.acap_lexer.specs.declared.found.Announced.{Announced}
use Rattle.acap_lexer.specs.declared.found.PartEnd.{PartEnd}
use Rattle.acap_lexer.specs.declared.found.PartEnd.TheVariants.{At, Never, NotYet}
use Rattle.acap_lexer.specs.declared.fault.LexFault.{LexFault}
use Rattle.acap_lexer.specs.declared.lexed.Mode.{Mode}
use Rattle.acap_lexer.specs.Token.{Token}
use Rattle.acap_lexer.specs.Reading.{Read}
use Rattle.acap_lexer.specs.Part.{Part, part_within, begun_at, tag_of}
use Rattle.acap_lexer.specs.Stream.{Front, Stage, AtPart, InLiteral, Step, Waits, Ends, Goes, IsItem, step_of_part, step_by_mark, step_by_part, step_by_front, step_by_end, step_of, octets_of, part_end, command_limit}
use Rattle.acap_lexer.proofs.EndLaws.{is_at, is_never, is_short, keeps_at, keeps_never}

-- what a whole part, which ends there, leads to
abbrev pub Outcome : ℕ → Step → Type 0
Outcome place Waits = ⊥
Outcome place (Ends item n) = (n ≡ place) × IsItem item
Outcome place (Goes p (AtPart front)) = ⊥
Outcome place (Goes p (InLiteral start count front)) = (front.octets ≡ place) × (place + count + 2 ≤ command_limit)

outcome_mark : (end : ℕ) (tokens : List Token) (mark : Option (ℕ × Announced)) → Outcome (end + 2) (step_by_mark end tokens mark)
outcome_mark end tokens None = (refl, tt)
outcome_mark end tokens (Some m) = by_test (ltb command_limit (end + 2 + m.1.count + 2)) refl
  where
    by_test : (b : Bool) → ltb command_limit (end + 2 + m.1.count + 2) ≡ b → Outcome (end + 2) (step_by_mark end tokens (Some m))
    by_test true e = rw e (refl, tt)
    by_test false e = rw e (refl, ltb-false _ _ e)

outcome_part : (tag : Option (List ℕ)) (end : ℕ) (part : Result Part LexFault) → Outcome (end + 2) (step_by_part tag end part)
outcome_part tag end (Err fault) = (refl, tt)
outcome_part tag end (Ok part) = outcome_mark end part.tokens part.mark

outcome_front : (mode : Mode) (end : ℕ) (read : Read (List Token)) → Outcome (end + 2) (step_by_front mode end read)
outcome_front mode end (Err fault) = (refl, tt)
outcome_front mode end (Ok x) = outcome_part (tag_of mode x.0) end (part_within (length x.1) end x.0 x.1)

pub outcome : (mode : Mode) (front : Front) (part : List ℕ) → Outcome (front.octets + length part + 2) (step_of_part mode front part)
unfolding step_of_part
outcome mode front part = by_test (ltb command_limit (front.octets + length part + 2)) refl
  where
    end : ℕ
    end = front.octets + length part

    by_test : (b : Bool) → ltb command_limit (end + 2) ≡ b → Outcome (end + 2) (step_of_part mode front part)
    by_test true e = rw e (refl, tt)
    by_test false e = rw e (outcome_front mode end (begun_at mode front.tokens part))

-- an upper bound on the stages that are left
abbrev pub rank : Stage → List ℕ → ℕ
rank (AtPart front) text = (length text - front.octets) + 1
rank (InLiteral start count front) text = (length text - front.octets) + 2

-- the stage's literal fits in a command
abbrev pub FitsIn : Stage → Type 0
FitsIn (AtPart front) = front.octets ≤ command_limit
FitsIn (InLiteral start count front) = front.octets + count + 2 ≤ command_limit

-- a step onwards in the text
pub record Onwards (stage next : Stage) (text : List ℕ) : Type 0 where
  pub within : octets_of next ≤ length text
  pub nearer : rank next text < rank stage text
  pub fits : FitsIn stage → FitsIn next

-- what a step tells of its text, and of any longer one
abbrev pub Tells : Mode → Stage → List ℕ → Step → Type 0
Tells mode stage text Waits = FitsIn stage → length text < 270336
Tells mode stage text (Ends item n) = (octets_of stage < n) × (n ≤ length text) × IsItem item × ((more : List ℕ) → step_of mode stage (text ++ more) ≡ Ends item n)
Tells mode stage text (Goes p next) = Onwards stage next text × ((more : List ℕ) → step_of mode stage (text ++ more) ≡ Goes p next)

-- a part whose CR LF is there
part_tells : (mode : Mode) (front : Front) (text : List ℕ) (n : ℕ) (step : Step) → front.octets ≤ length text → part_end (drop front.octets text) ≡ At n
    → step_of_part mode front (take n (drop front.octets text)) ≡ step → Outcome (front.octets + n + 2) step → Tells mode (AtPart front) text step
unfolding step_of
part_tells mode front text n step within at is o = by_step step is o
  where
    longer : (more : List ℕ) → step_of mode (AtPart front) (text ++ more) ≡ step_of_part mode front (take n (drop front.octets text))
    longer more =
        let a = is_at (drop front.octets text) n at in
        let left : drop front.octets (text ++ more) ≡ drop front.octets text ++ more = drop-append-le front.octets text more within in
        let same : take n (drop front.octets text ++ more) ≡ take n (drop front.octets text) = take-append-le n (drop front.octets text) more (omega (arith, a.within)) in
        rw (left, keeps_at (drop front.octets text) more n at, same) refl

    room : front.octets + n + 2 ≤ length text
    room = omega (arith, (is_at (drop front.octets text) n at).within, length-drop front.octets text)

    by_step : (s : Step) → step_of_part mode front (take n (drop front.octets text)) ≡ s → Outcome (front.octets + n + 2) s → Tells mode (AtPart front) text s
    by_step Waits e o = absurd o
    by_step (Ends item k) e o = (omega (arith, o.0), omega (arith, o.0, room), o.1, λ more. longer more ∙ e)
    by_step (Goes p (AtPart f)) e o = absurd o
    by_step (Goes p (InLiteral start count f)) e o =
        (record { within = omega (arith, o.0, room); nearer = omega (arith, o.0, room); fits = λ h. omega (arith, o.0, o.1) }, λ more. longer more ∙ e)

end_tells : (mode : Mode) (front : Front) (text : List ℕ) (c : PartEnd) → front.octets ≤ length text → part_end (drop front.octets text) ≡ c
    → Tells mode (AtPart front) text (step_by_end mode front (drop front.octets text) c)
unfolding step_of
end_tells mode front text (At n) within e =
    let a = is_at (drop front.octets text) n e in
    let len : length (take n (drop front.octets text)) ≡ n = omega (arith, length-take n (drop front.octets text), a.within) in
    let o : Outcome (front.octets + n + 2) (step_of_part mode front (take n (drop front.octets text))) =
    subst (λ (k : ℕ). Outcome (front.octets + k + 2) (step_of_part mode front (take n (drop front.octets text)))) len (outcome mode front (take n (drop front.octets text))) in
    part_tells mode front text n (step_of_part mode front (take n (drop front.octets text))) within e refl o
end_tells mode front text Never within e =
    let long = is_never (drop front.octets text) e in (
      omega arith,
      omega (arith, long, length-drop front.octets text),
      tt,
      λ more.
          let left : drop front.octets (text ++ more) ≡ drop front.octets text ++ more = drop-append-le front.octets text more within in
          rw (left, keeps_never (drop front.octets text) more e) refl,
    )
end_tells mode front text NotYet within e = λ fits. omega (arith, is_short (drop front.octets text) e, length-drop front.octets text)

literal_tells : (mode : Mode) (start count : ℕ) (front : Front) (text : List ℕ) → front.octets ≤ length text → Tells mode (InLiteral start count front) text (step_of mode (InLiteral start count front) text)
unfolding step_of
literal_tells mode start count front text within =
    elim (cases_lt (length text) (front.octets + count)) [
      | inl lt ↦ (let a : ltb (length text) (front.octets + count) ≡ true = lt-ltb _ _ lt in rw a (λ fits. omega arith))
      | inr le ↦ (
          let a : ltb (length text) (front.octets + count) ≡ false = le-ltb _ _ le in
          rw a (
            record { within = le; nearer = omega arith; fits = λ fits. omega arith },
            λ more.
                let b : ltb (length (text ++ more)) (front.octets + count) ≡ false = le-ltb _ _ (omega (arith, length-append text more)) in
                let octets : take count (drop front.octets (text ++ more)) ≡ take count (drop front.octets text) =
                ap (take count) (drop-append-le front.octets text more within) ∙ take-append-le count (drop front.octets text) more (omega (arith, length-drop front.octets text)) in
                rw (b, octets) refl,
          ))
    ]

-- What a step tells of its text.
pub step_tells : (mode : Mode) (stage : Stage) (text : List ℕ) → octets_of stage ≤ length text → Tells mode stage text (step_of mode stage text)
unfolding step_of
step_tells mode (AtPart front) text within = end_tells mode front text (part_end (drop front.octets text)) within refl
step_tells mode (InLiteral start count front) text within = literal_tells mode start count front text within
