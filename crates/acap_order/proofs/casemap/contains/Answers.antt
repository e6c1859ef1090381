use Rattle.std.proofs.Common.{◌<◌, length, arith}
use Rattle.std.proofs.lemmas.Bool.Decides.{same_from_decides}
use Rattle.std.proofs.lemmas.List.{length-map}
use Rattle.acap_order.specs.Ranks.{upper_case_of, upper_case}
use Rattle.acap_order.proofs.MatchLemmas.{Decides-longer, Decides-stands}
use Rattle.acap_order.proofs.casemap.contains.Goals as goal

pub returns-then-pattern-length : goal.returns-then-pattern-length
returns-then-pattern-length c =
    let text = upper_case c.args.text.now in
    let pattern = upper_case c.args.pattern.now in
    let longer : length text < length pattern =
    omega (arith, length-map c.args.text.now upper_case_of, length-map c.args.pattern.now upper_case_of) in
    same_from_decides _ _ (Decides-longer text pattern longer) (Decides-stands text pattern)
