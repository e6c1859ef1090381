use Rattle.std.proofs.Common.{◌≡◌, nat_eq, length, true, refl, sym}
use Rattle.std.proofs.lemmas.List.{nil_from_length}
use Rattle.std.specs.List.{starts_with}
use Rattle.acap_order.specs.Ranks.{upper_case}
use Rattle.acap_order.proofs.MatchLemmas.{stands-front}
use Rattle.acap_order.proofs.casemap.contains_by_places.Goals as goal

pub returns-in_default : goal.returns-in_default
returns-in_default c =
    let text = upper_case c.args.text.now in
    let none : length c.args.pattern.now ≡ 0 = (rw c.in_default.is at c.split_first.ensures.cases) in
    let nothing = nil_from_length c.args.pattern.now none in
    let front : starts_with nat_eq text (upper_case c.args.pattern.now) ≡ true = rw nothing refl in
    sym (stands-front text (upper_case c.args.pattern.now) front)
