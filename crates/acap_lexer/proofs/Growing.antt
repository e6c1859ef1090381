-- What a list keeps to which others are added. The answers cite it at each return: the search finds these facts too, but
-- they were most of what the printing functions took.
use Rattle.std.proofs.Common.{◌≤◌, List, ◌++◌, length, take, sym, ap, ◌∙◌, arith, length-take}
use Rattle.std.proofs.Math.Seq.{take-append_seam}
use Rattle.std.proofs.lemmas.List.{take-take}
use Rattle.acap_lexer.specs.Printing.{Grows}

pub grows_on : {X : Type 0} (a b c : List X) → Grows a b → Grows b c → Grows a c
grows_on a b c p q =
    let fits : length a ≤ length b = omega (arith, ap length p, length-take (length a) b) in
    sym (take-take (length a) (length b) c fits) ∙ ap (take (length a)) q ∙ p

pub grows_more : {X : Type 0} (old here more : List X) → Grows old here → Grows old (here ++ more)
grows_more old here more g = grows_on old here (here ++ more) g (take-append_seam here more)
