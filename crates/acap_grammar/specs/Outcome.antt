-- What reading tokens comes to: a value and the tokens after
-- it, or the first fault from the left and where it lies.
use Rattle.std.specs.Prelude.{◌≡◌, List, [], Bool, true, false, Option, Some, None, Result, Ok, Err}
use Rattle.acap_lexer.specs.Token.{Token}
use Rattle.acap_grammar.specs.declared.command_fault.CommandFault.{CommandFault}
use Rattle.acap_grammar.specs.declared.grammar_fault.GrammarFault.{GrammarFault}
use Rattle.acap_grammar.specs.declared.grammar_fault.GrammarFault.TheVariants as error

-- a fault, and the tokens from that on at which it lies: none where it lies at the end of the line
pub record Fault : Type 0 where
  pub fault : CommandFault
  pub left : List Token

-- a value, and the tokens after it
abbrev pub Read : Type 0 → Type 0
Read A = Result (A × List Token) Fault

infixl 10 ◌>>=◌
abbrev pub ◌>>=◌ : {A B E : Type 0} → Result A E → (A → Result B E) → Result B E
(Ok x) >>= f = f x
(Err e) >>= f = Err e

-- this fault lies at the first of these tokens
abbrev pub fault_here : {A : Type 0} → List Token → CommandFault → Result A Fault
fault_here tokens fault = Err (record { fault = fault; left = tokens })

-- what is judged of the first of these tokens
abbrev pub verdict_at : {A : Type 0} → List Token → Result A CommandFault → Result A Fault
verdict_at tokens (Ok x) = Ok x
verdict_at tokens (Err fault) = fault_here tokens fault

-- ---- the words of contracts

-- this fault is what is judged, unless the error is want of memory
abbrev pub Fails : {Y : Type 0} → GrammarFault → Result Y CommandFault → Type 0
Fails e judgement = (fault : CommandFault) → e ≡ error.Fault fault → judgement ≡ Err fault

-- what a function returned is what is judged, unless memory was refused
abbrev pub Gives : {X : Type 0} → Result X GrammarFault → Result X CommandFault → Type 0
Gives (Ok x) judgement = judgement ≡ Ok x
Gives (Err e) judgement = Fails e judgement

-- the same of what is read, wherever a fault lies
abbrev pub left_by : {Y : Type 0} → Result Y Fault → List Token
left_by (Ok x) = []
left_by (Err e) = e.left

abbrev pub Refuses : {Y : Type 0} → GrammarFault → Result Y Fault → Type 0
Refuses e read = (fault : CommandFault) → e ≡ error.Fault fault → read ≡ fault_here (left_by read) fault

-- what a function returned, seen by view beside the tokens
-- that it left, is what is read, unless memory was refused
abbrev pub ReadsBy : {X Y : Type 0} → (X → List Token → Y) → Result X GrammarFault → List Token
    → Result Y Fault → Type 0
ReadsBy view (Ok x) left read = read ≡ Ok (view x left)
ReadsBy view (Err e) left read = Refuses e read

abbrev pub Reads : {X : Type 0} → Result X GrammarFault → List Token → Read X → Type 0
Reads result left read = ReadsBy (λ x rest. (x, rest)) result left read

-- what a function found first among the old tokens, and what it left; where it found nothing it left them all
abbrev pub Finds : {X : Type 0} → Option X → List Token → List Token → Option (X × List Token) → Type 0
Finds None old left found = (found ≡ None) × (left ≡ old)
Finds (Some x) old left found = found ≡ Some (x, left)

-- the same of what has no value
abbrev pub Passes : Bool → List Token → List Token → Option (List Token) → Type 0
Passes false old left found = (found ≡ None) × (left ≡ old)
Passes true old left found = found ≡ Some left
