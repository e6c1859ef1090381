use Rattle.std.proofs.Common.{rules, ◌≡◌, ◌∙◌, get_or, ap, sym, arith, Some, None, bytes_eq}
use Rattle.std.specs.List.{position}
use Rattle.acap_client.proofs.UnderNames.{seat_some, seat_none, look_at, look_past}
use Rattle.acap_client.proofs.named.look_up.Goals as goal

pub returns-in_err-at : goal.returns-in_err-at
returns-in_err-at g c =
    let name = c.args.name.now in
    let es = c.args.entries.now in
    let none : None ≡ position (λ e. bytes_eq name e.0) es = cc (c.in_err-at.was, c.place_of.ensures) in
    rw (look_past name es (seat_none name es none)) (search rules)

pub returns : goal.returns
returns g c =
    let name = c.args.name.now in
    let es = c.args.entries.now in
    let d = c.index-entries-at.result in
    let at : Some c.in_ok-at.at ≡ position (λ e. bytes_eq name e.0) es = cc (c.in_ok-at.was, c.place_of.ensures) in
    let s = seat_some name es c.in_ok-at.at at in
    ap (λ i. Some (get_or es i d).1) s.0 ∙ sym (look_at name es d (omega (arith, s.0, s.1)))
