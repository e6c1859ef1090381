-- What a step leaves.
use Rattle.std.proofs.Common.{ℕ, ◌+◌, ◌≤◌, cond, List, length, Option, Some, None, Result, Ok, Err, arith}
use Rattle.std.specs.Prelude.{IfOk, is_some}
use Rattle.acap_lexer.specs.declared.scan.Scan.{Scan}
use Rattle.acap_lexer.specs.declared.scan.Literal.{Literal}
use Rattle.acap_lexer.specs.declared.outcomes.StageOutcome.{StageOutcome}
use Rattle.acap_lexer.specs.declared.outcomes.StageOutcome.TheVariants as outcomes
use Rattle.acap_lexer.specs.Scanning.{IsNearer, StaysSound, OpensOn}

pub at_ok : {E : Type 0} (r : Result StageOutcome E) (P Q : StageOutcome → Type 0) → ((turn : StageOutcome) → P turn → Q turn) → IfOk r P → IfOk r Q
at_ok (Ok turn) P Q f p = f turn p
at_ok (Err e) P Q f p = p

pub opens_sound : (text : List ℕ) (place : ℕ) (new : Scan) → place ≤ length text → (turn : StageOutcome) → OpensOn place new turn → StaysSound text new turn
opens_sound text place new within outcomes.Waits o = absurd o
opens_sound text place new within (outcomes.Ends lexed n) o = tt
opens_sound text place new within outcomes.Goes o = record {
  within = omega (arith, o.octets);
  looked = omega (arith, o.octets, o.looked);
  none = λ k lt return feed. absurd (omega (arith, o.looked));
  waits = omega (arith, o.waits, o.octets);
}

few : (literal : Option Literal) → (let n : ℕ = cond (is_some literal) 1 0 in n) ≤ 1
few None = omega arith
few (Some l) = omega arith

pub opens_nearer : (text : List ℕ) (place : ℕ) (old new : Scan) → old.octets + 2 ≤ place → place ≤ length text → (turn : StageOutcome) → OpensOn place new turn → IsNearer text old new turn
opens_nearer text place old new behind within outcomes.Waits o = absurd o
opens_nearer text place old new behind within (outcomes.Ends lexed n) o = (omega (arith, o), omega (arith, o))
opens_nearer text place old new behind within outcomes.Goes o = omega (arith, o.octets, few new.literal)
