-- Items that are spelled one after the other are read back.
use Rattle.std.proofs.Common.{◌≡◌, ℕ, zero, suc, ◌-◌, ◌≤◌, Bool, true, false, List, [], ◌∷◌, ◌++◌, length, Ok, refl, sym, ap, ◌∙◌, arith, append_assoc}
use Rattle.std.proofs.lemmas.List.{append-nil}
use Rattle.acap_lexer.specs.Token.{Token}
use Rattle.acap_grammar.specs.Outcome.{Read}
use Rattle.acap_grammar.specs.Several.{several, some_of, in_parenthesis}
use Rattle.acap_grammar.specs.Marks.{is_close, starts, behind}
use Rattle.acap_grammar.specs.Sendable.{Each, OneTo}
use Rattle.acap_grammar.specs.Spelling.{each, open_then, shut}

-- an item is read, and the next
pub one_more : {A : Type 0} (over fits : List Token → Bool) (item : A → List Token → Read A) (room : ℕ) (seen : A) (tokens : List Token) (x : A × List Token)
    → over tokens ≡ false → item seen tokens ≡ Ok x → several over fits item (suc room) seen tokens ≡ several over fits item room x.0 x.1
unfolding several
one_more over fits item room seen tokens x o e = rw (o, e) refl

-- no further item comes
pub no_more : {A : Type 0} (over fits : List Token → Bool) (item : A → List Token → Read A) (room : ℕ) (seen : A) (tokens : List Token) → over tokens ≡ true → several over fits item room seen tokens ≡ Ok (seen, tokens)
unfolding several
no_more over fits item zero seen tokens o = rw o refl
no_more over fits item (suc room) seen tokens o = rw o refl

-- a first item, and others
pub first_of_some : {A : Type 0} (over fits : List Token → Bool) (item : A → List Token → Read A) (room : ℕ) (none : A) (tokens : List Token)
    → over tokens ≡ false → some_of over fits item (suc room) none tokens ≡ several over fits item (suc room) none tokens
unfolding some_of several
first_of_some over fits item room none tokens o = let left : suc room - 1 ≡ room = omega arith in rw (o, left) refl

-- how items of a list are spelled and read: each begins as one, and what stands after it is as it may be
pub record ReadsEach {X : Type 0} (over next : List Token → Bool) (item : List X → List Token → Read (List X)) (spell : X → List Token → List Token) (Suits : List X → X → Type 0) : Type 0 where
  pub leads : (x : X) (rest : List Token) → over (spell x rest) ≡ false
  pub follows : (x : X) (rest : List Token) → next (spell x rest) ≡ true
  pub reads : (seen : List X) (x : X) (rest : List Token) → Suits seen x → next rest ≡ true → item seen (spell x rest) ≡ Ok (seen ++ x ∷ [], rest)

each_follows : {X : Type 0} {over next : List Token → Bool} {item : List X → List Token → Read (List X)} {spell : X → List Token → List Token} {Suits : List X → X → Type 0}
    → ReadsEach over next item spell Suits → (xs : List X) (rest : List Token) → next rest ≡ true → next (each spell xs rest) ≡ true
each_follows r [] rest n = n
each_follows r (x ∷ xs) rest n = r.follows x _

pub list_reads : {X : Type 0} {over next : List Token → Bool} {item : List X → List Token → Read (List X)} {spell : X → List Token → List Token} {Suits : List X → X → Type 0}
    → ReadsEach over next item spell Suits → (fits : List Token → Bool) (xs : List X) (room : ℕ) (seen : List X) (rest : List Token)
    → over rest ≡ true → next rest ≡ true → length xs ≤ room → Each Suits seen xs → several over fits item room seen (each spell xs rest) ≡ Ok (seen ++ xs, rest)
list_reads {X} {over} {next} {item} {spell} {Suits} r fits [] room seen rest o n h s = no_more over fits item room seen rest o ∙ ap (λ (all : List X). Ok (all, rest)) (sym (append-nil seen))
list_reads {X} {over} {next} {item} {spell} {Suits} r fits (x ∷ xs) zero seen rest o n h s = absurd (omega arith)
list_reads {X} {over} {next} {item} {spell} {Suits} r fits (x ∷ xs) (suc room) seen rest o n h s =
    let read = r.reads seen x (each spell xs rest) s.0 (each_follows r xs rest n) in
    one_more over fits item room seen _ _ (r.leads x _) read
    ∙ list_reads r fits xs room (seen ++ x ∷ []) rest o n (omega arith) s.1 ∙ ap (λ (all : List X). Ok (all, rest)) (append_assoc seen (x ∷ []) xs)

-- one or more
pub some_read : {X : Type 0} {over next : List Token → Bool} {item : List X → List Token → Read (List X)} {spell : X → List Token → List Token} {Suits : List X → X → Type 0}
    → ReadsEach over next item spell Suits → (fits : List Token → Bool) (xs : List X) (room : ℕ) (rest : List Token)
    → over rest ≡ true → next rest ≡ true → OneTo (suc room) xs → Each Suits [] xs → some_of over fits item (suc room) [] (each spell xs rest) ≡ Ok (xs, rest)
some_read r fits [] room rest o n h s = absurd (omega arith)
some_read {X} {over} {next} {item} {spell} {Suits} r fits (x ∷ xs) room rest o n h s =
    first_of_some over fits item room [] _ (r.leads x _) ∙ list_reads r fits (x ∷ xs) (suc room) [] rest o n h.1 s

-- in a parenthesis
pub enclosed_read : {X : Type 0} {next : List Token → Bool} {item : List X → List Token → Read (List X)} {spell : X → List Token → List Token} {Suits : List X → X → Type 0}
    → ReadsEach (starts is_close) next item spell Suits → (fits : List Token → Bool) (xs : List X) (room : ℕ) (rest : List Token)
    → next (shut rest) ≡ true → OneTo (suc room) xs → Each Suits [] xs → in_parenthesis (starts is_close) fits item (suc room) [] (open_then (each spell xs (shut rest))) ≡ Ok (xs, rest)
unfolding in_parenthesis behind starts
enclosed_read r fits xs room rest n h s = rw (some_read r fits xs room (shut rest) refl n h s) refl
