use Rattle.std.proofs.Common.{rules, ◌≡◌, true, sym}
use Rattle.acap_entries.specs.Orders.{octets_eq}
use Rattle.acap_search.proofs.SeenLemmas.{same_name}
use Rattle.acap_views.proofs.TouchingLemmas.{known_is}
use Rattle.acap_views.proofs.touching.known_paths.Goals as goal

pub returns-then-is_same : goal.returns-then-is_same
returns-then-is_same c = λ none.
    let alike : octets_eq c.in_ok-known.known.now.dataset.now c.args.sought.now.dataset ≡ true = search rules in
    let same : c.in_ok-known.known.now.dataset.now ≡ c.args.sought.now.dataset = same_name _ _ alike in
    known_is c.args.ahead.now c.args.sought.now c.args.noted.now.last c.in_ok-known.known.now (sym c.in_ok-known.ensures.value) c.requires.last same none
