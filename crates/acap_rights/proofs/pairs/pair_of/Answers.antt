use Rattle.std.proofs.Common.{◌≡◌, sym, ap, ◌∙◌, false}
use Rattle.std.specs.Prelude.{◌&&◌}
use Rattle.std.specs.List.{list_all}
use Rattle.std.proofs.Math.Bool.{and-false}
use Rattle.acap_rights.specs.Pairs.{pair_of, pair_in, is_identifier, is_letter}
use Rattle.acap_rights.proofs.PairLemmas.{pair_behind, none_behind}
use Rattle.acap_rights.proofs.pairs.pair_of.Goals as goal
use Rattle.acap_rights.proofs.pairs.pair_of.Goals.{else-is_identifier-via-then-is_identifier+else-are_letters, else-is_identifier-via-else-is_identifier}

pub returns-then-are_letters : goal.returns-then-are_letters
unfolding pair_of
returns-then-are_letters c =
    let behind = pair_behind c.in_ok-identifier.identifier.now c.in_ok-identifier.letters.now in
    let first = sym c.is_identifier.ensures ∙ c.if-is_identifier.true in
    let second = sym c.are_letters.ensures ∙ c.if-are_letters.true in
    rw c.in_ok-identifier.ensures.some (sym (rw (first, second) at behind))

pub returns-else-is_identifier : goal.returns-else-is_identifier
unfolding pair_of
returns-else-is_identifier c =
    let tests : is_identifier c.in_ok-identifier.identifier.now && list_all is_letter c.in_ok-identifier.letters.now ≡ false = elim c.else-is_identifier.branch [
      | else-is_identifier-via-then-is_identifier+else-are_letters w ↦ rw (sym w.are_letters.ensures ∙ w.if-are_letters.false) (and-false _)
      | else-is_identifier-via-else-is_identifier w ↦ rw (sym c.is_identifier.ensures ∙ w.if-is_identifier.false)
    ] in
    sym (ap pair_in c.in_ok-identifier.ensures.some ∙ none_behind c.in_ok-identifier.identifier.now c.in_ok-identifier.letters.now tests)
