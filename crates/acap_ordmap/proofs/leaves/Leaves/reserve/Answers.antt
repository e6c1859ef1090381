use Rattle.std.proofs.Common.{◌≡◌, ◌≤◌, ◌+◌, ◌*◌, ◌/◌, min, ap, ◌∙◌, arith, vec_len, vec_capacity}
use Rattle.acap_ordmap.specs.Leaves.{weight}
use Rattle.acap_ordmap.proofs.WeightLemmas.{weight_most, room_wide}
use Rattle.acap_ordmap.proofs.leaves.Leaves.reserve.Goals as goal

pub returns-in_ok-reserve-2-clause-room : goal.returns-in_ok-reserve-2-clause-room
returns-in_ok-reserve-2-clause-room g c =
    let ls = c.reserve.new.self in
    let sp = c.reserve-then-wanted-more.new.self in
    let most : weight ls.items ≤ 32 * vec_len ls + 16 = omega (arith, weight_most ls.items, ls.ok) in
    let wanted : c.leaves_for-wanted.result ≡ min c.args.more (vec_len ls + c.args.more / 16 + 2) = c.leaves_for-wanted.ensures ∙ ap (λ n. min c.args.more (n + c.args.more / 16 + 2)) (omega (arith, c.len.ensures, c.in_ok-reserve.ensures.len)) in
    room_wide c.args.more (vec_len ls) (weight ls.items) (vec_len sp) (vec_capacity sp) (vec_capacity ls) c.self.inside.count c.leaves_for-wanted.result
    most wanted (omega (arith, c.if-wanted-more.true))
    (omega (arith, c.in_ok-make_spare.ensures.ok, c.in_ok-reserve-2.ensures.len))
    (omega (arith, c.in_ok-reserve-2.ensures.ok, c.len-then-wanted-more.ensures))
    (omega (arith, c.in_ok-reserve.ensures.ok))
    (omega (arith, c.if-self-more.false))
