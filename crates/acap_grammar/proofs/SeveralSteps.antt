-- One item more, and then those after it.
use Rattle.std.proofs.Common.{◌≡◌, ℕ, suc, ◌+◌, ◌-◌, ◌<◌, Bool, false, List, Ok, refl, arith}
use Rattle.acap_lexer.specs.Token.{Token}
use Rattle.acap_grammar.specs.declared.grammar_fault.GrammarFault.{GrammarFault}
use Rattle.acap_grammar.specs.Outcome.{Read, Refuses}
use Rattle.acap_grammar.specs.Several.{several}

-- an item is read
pub goes_on : {A : Type 0} (over fits : List Token → Bool) (item : A → List Token → Read A) (count i : ℕ) (seen more : A) (tokens left : List Token)
    → i < count → false ≡ over tokens → item seen tokens ≡ Ok (more, left) → several over fits item (count - (i + 1)) more left ≡ several over fits item (count - i) seen tokens
unfolding several
goes_on over fits item count i seen more tokens left lt c e =
    let k : count - i ≡ suc (count - (i + 1)) = omega arith in
    rw (k, ← c, e) refl

-- no item is read
pub fails : {A : Type 0} (e : GrammarFault) (over fits : List Token → Bool) (item : A → List Token → Read A) (count i : ℕ) (seen : A) (tokens : List Token) (total : Read A)
    → i < count → false ≡ over tokens → Refuses e (item seen tokens) → several over fits item (count - i) seen tokens ≡ total → Refuses e total
unfolding several
fails e over fits item count i seen tokens total lt c h so_far fault is =
    let k : count - i ≡ suc (count - (i + 1)) = omega arith in
    rw (← so_far, k, ← c, h fault is) refl
