use Rattle.std.proofs.Common.{sym, ap, subst, ◌≤◌, ◌<◌, ◌∙◌, arith}
use Rattle.acap_session.specs.Places.{places_up_to}
use Rattle.acap_session.proofs.Placing.{reached_more, reached_all}
use Rattle.acap_session.proofs.seat_session.reach.Goals as goal

pub nobody-init : goal.nobody-init
nobody-init c =
    let k = c.in_ok-reserve.ensures in
    record {
      same = ap (λ xs. places_up_to xs c.from-index.result) k.items;
      room = let a = k.len in let b = k.ok in let d = c.saturating_sub.ensures in let e = c.len.ensures in omega (arith, a, b, d, e);
    }

pub unwrap-requires : goal.unwrap-requires
unwrap-requires c =
    c.push.ensures.succeeds (let d = c.nobody.invariant.room in let e = c.nobody-test.true in let f = c.len-in-nobody.ensures in omega (arith, d, e, f))

pub nobody-preserved : goal.nobody-preserved
nobody-preserved c =
    let within = subst (λ n. n ≤ c.from-index.result) (c.len-in-nobody.ensures ∙ c.nobody.places.ok.0) c.nobody-test.true in
    let pushed = rw c.unwrap.ensures at c.push.ensures.items in
    record {
      same = ap (λ xs. places_up_to xs c.from-index.result) pushed ∙ reached_more c.nobody.places.items c.from-index.result within ∙ c.nobody.invariant.same;
      room = let a = c.push.ensures.capacity in let b = c.nobody.invariant.room in omega (arith, a, b);
    }

pub returns-clause-reached : goal.returns-clause-reached
returns-clause-reached c =
    let behind = subst (λ n. c.from-index.result < n) (c.len-in-nobody.ensures ∙ c.nobody.places.ok.0) c.nobody-test.false in
    sym (reached_all c.nobody.places.items c.from-index.result behind) ∙ c.nobody.invariant.same ∙ ap (λ n. places_up_to c.args.places.now.items n) (c.from-index.ensures ∙ c.number.ensures.value)
