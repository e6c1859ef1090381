use Rattle.std.proofs.Common.{◌≡◌, ◌∷◌, [], take, map}
use Rattle.acap_rights.specs.Rights as rule
use Rattle.acap_rights.proofs.rights.Rights.list.Given as goal

abbrev pub invariant-loop-letter : goal.invariant-loop-letter
invariant-loop-letter l = l.list ≡ rule.letters_of l.fn.self ∷ map (λ letter. letter ∷ []) (take l.letter-index l.letter-items)
