use Rattle.std.proofs.Common.{◌≡◌, ◌∙◌, ◌<◌, length, get_or, set, ap, sym, arith, Some, None, bytes_eq}
use Rattle.std.specs.List.{position}
use Rattle.acap_client.proofs.UnderNames.{seat, seat_some, seat_none, key_at, put_at, put_past}
use Rattle.acap_client.proofs.named.put_in_room.Goals as goal

pub returns-in-Some : goal.returns-in-Some
returns-in-Some g c =
    let name = c.args.name in
    let es = c.args.entries.now.items in
    let d = c.index_mut.result.now in
    let at : Some c.in-Some.at ≡ position (λ e. bytes_eq name e.0) es = rw (c.as_slice.ensures.value, c.as_slice-2.ensures) at c.in-Some.ensures in
    let s = seat_some name es c.in-Some.at at in
    let below : seat name es < length es = omega (arith, s.0, s.1) in
    let key : d.0 ≡ name = ap (λ e. e.0) c.index_mut.ensures.value ∙ ap (λ i. (get_or es i d).0) s.0 ∙ key_at name es d below in
    ap (λ i. set es i (d.0, c.args.value)) s.0 ∙ ap (λ k. set es (seat name es) (k, c.args.value)) key ∙ sym (put_at name c.args.value es below)

pub returns-in-None : goal.returns-in-None
returns-in-None g c =
    let name = c.args.name in
    let es = c.args.entries.now.items in
    let none : None ≡ position (λ e. bytes_eq name e.0) es = rw (c.as_slice.ensures.value, c.as_slice-2.ensures) at c.in-None.ensures in
    c.push.ensures.items ∙ rw c.unwrap.ensures (sym (put_past name c.args.value es (seat_none name es none)))
