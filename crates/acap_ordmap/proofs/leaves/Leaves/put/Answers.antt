use Rattle.std.proofs.Common.{◌<◌, ◌≤◌, ◌+◌, ◌*◌, vec_len, vec_capacity, ap, subst, sym, arith}
use Rattle.acap_ordmap.specs.Leaves.{room_of, most_leaves, weight}
use Rattle.acap_ordmap.specs.Room.{free_of}
use Rattle.acap_ordmap.proofs.WeightLemmas.{weight_least, room_spare, room_place, room_step, most_step}
use Rattle.acap_ordmap.proofs.leaves.Leaves.put.Goals as goal

pub room_for-requires-clause-room : goal.room_for-requires-clause-room
room_for-requires-clause-room g c =
    let ls = c.self.inside.leaves in
    let sp = c.self.inside.spare in
    let least : 16 * vec_len ls ≤ weight ls.items = omega (arith, weight_least ls.items, ls.ok) in
    room_place (vec_len ls) (vec_capacity ls) (vec_len sp) (vec_capacity sp) (weight ls.items) c.self.inside.count least
    (subst (λ n. 0 < n) (sym (ap (λ v. v.1) c.self.view_is)) c.requires.room)

pub room_for-requires-clause-spare : goal.room_for-requires-clause-spare
room_for-requires-clause-spare g c =
    let ls = c.self.inside.leaves in
    let sp = c.self.inside.spare in
    let least : 16 * vec_len ls ≤ weight ls.items = omega (arith, weight_least ls.items, ls.ok) in
    room_spare (vec_len ls) (vec_capacity ls) (vec_len sp) (vec_capacity sp) (weight ls.items) c.self.inside.count least
    (subst (λ n. 0 < n) (sym (ap (λ v. v.1) c.self.view_is)) c.requires.room)

pub unwrap-leaf-requires : goal.unwrap-leaf-requires
unwrap-leaf-requires g c =
    let ls = c.self.inside.leaves in
    let sp = c.self.inside.spare in
    let least : 16 * vec_len ls ≤ weight ls.items = omega (arith, weight_least ls.items, ls.ok) in
    let some = room_spare (vec_len ls) (vec_capacity ls) (vec_len sp) (vec_capacity sp) (weight ls.items) c.self.inside.count least
    (subst (λ n. 0 < n) (sym (ap (λ v. v.1) c.self.view_is)) c.requires.room) in
    c.pop.ensures.variant.1 (subst (λ v. 0 < vec_len v) (sym c.in-None.ensures.kept) some)

pub put_behind-requires-clause-room : goal.put_behind-requires-clause-room
put_behind-requires-clause-room g c =
    let ls = c.self.inside.leaves in
    let sp = c.self.inside.spare in
    let least : 16 * vec_len ls ≤ weight ls.items = omega (arith, weight_least ls.items, ls.ok) in
    let some = room_place (vec_len ls) (vec_capacity ls) (vec_len sp) (vec_capacity sp) (weight ls.items) c.self.inside.count least
    (subst (λ n. 0 < n) (sym (ap (λ v. v.1) c.self.view_is)) c.requires.room) in
    omega (arith, some, c.in-None.ensures.unsplit, c.in-None.ensures.capacity)

pub returns-in-Some-clause-room : goal.returns-in-Some-clause-room
returns-in-Some-clause-room g c =
    let ls = c.self.inside.leaves in
    let sp = c.self.inside.spare in
    let made = c.put_at.new.leaves in
    let left = c.room_for.new.spare in
    let some = c.in-Some.ensures in
    let most : most_leaves ls sp ≤ most_leaves made left =
    most_step (vec_len ls) (vec_len sp) (vec_capacity sp) (vec_capacity ls) (vec_len made) (vec_len left) (vec_capacity left) (vec_capacity made)
    (omega (arith, some.total, c.put_at.ensures.len)) some.kept_places (omega (arith, some.capacity, c.put_at.ensures.capacity)) in
    subst (λ n. n ≤ room_of (vec_len left) (free_of made) (most_leaves made left) (weight made.items) (c.self.inside.count + c.put_at.result) + 1) (ap (λ v. v.1) c.self.view_is)
    (room_step 1 (vec_len sp) (free_of ls) (most_leaves ls sp) (weight ls.items) c.self.inside.count
    (vec_len left) (free_of made) (most_leaves made left) (weight made.items) (c.self.inside.count + c.put_at.result)
    some.spare (omega (arith, some.len, some.capacity, c.put_at.ensures.len, c.put_at.ensures.capacity)) most (omega (arith, some.weight, c.put_at.ensures.weight)) (omega (arith, c.put_at.ensures.few)))
