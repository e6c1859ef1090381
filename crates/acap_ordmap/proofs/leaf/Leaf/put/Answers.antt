use Rattle.std.proofs.Common.{◌≡◌, ◌≤◌, true, false, vec_len, refl, ap, length, arith}
use Rattle.acap_ordmap.proofs.LeafLemmas.{put_in_grows}
use Rattle.acap_ordmap.proofs.leaf.Leaf.put.Goals as goal

pub returns-clause-grows : goal.returns-clause-grows
returns-clause-grows g c = rw (c.put_there.ensures.items, ← c.self.view_is) (put_in_grows g.K.Ord.cmp c.args.key c.args.value c.self.inside.entries.items).0

pub returns-clause-filled : goal.returns-clause-filled
returns-clause-filled g c = rw c.put_there.ensures.items (put_in_grows g.K.Ord.cmp c.args.key c.args.value c.self.inside.entries.items).1

pub invariant_of-self : goal.invariant_of-self
invariant_of-self g c =
    let made = c.put_there.new.entries in
    let most : vec_len made ≤ 64 = elim c.place_of-at.result.1 as (λ b. c.place_of-at.result.1 ≡ b → vec_len made ≤ 64) [
      | true ↦ λ there. omega (arith, c.put_there.ensures.same there, c.self.invariant.0)
      | false ↦ λ absent.
          let room = c.requires.room (cc (c.place_of-at.ensures.tied, c.as_slice.ensures.value, c.self.view_is, absent)) in
          omega (arith, c.put_there.ensures.len, room, c.self.inside.entries.ok, ap length c.self.view_is)
    ] refl in
    (most, omega (arith, c.put_there.ensures.capacity, c.self.invariant.1))
