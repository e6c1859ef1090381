use Rattle.std.proofs.Common.{◌≡◌, ◌<◌, ◌≤◌, ◌+◌, ◌-◌, length, get_or, [], ap, sym, subst, ◌∙◌, arith}
use Rattle.acap_ordmap.specs.Leaves.{IsAmong, IsBehind}
use Rattle.acap_ordmap.proofs.LeafLemmas.{leaf_read, leaf_in_order, behind_all, joined_parted, tied_in_leaf, parted_room, among_parts}
use Rattle.acap_ordmap.proofs.leaf_edits.room_for.Goals as goal

pub returns-then-at-len-clause-none : goal.returns-then-at-len-clause-none
returns-then-at-len-clause-none g c =
    let at : c.leaf_of-at.result < length c.args.leaves.now.items = omega (arith, c.leaf_of-at.ensures.within) in
    let last : c.leaf_of-at.result + 1 ≡ length c.args.leaves.now.items = omega (arith, c.if-at-len.true, c.len-then-place-eq-LEAF_CAPACITY.ensures, c.args.leaves.now.ok) in
    let among = subst (λ ls. IsAmong g.K.Ord.cmp (g.Q.Probe.key c.args.probe.now) ls c.leaf_of-at.result (c.leaf_of-at.result + 1)) c.as_slice.ensures.value c.leaf_of-at.ensures in
    let key = g.Q.Probe.key c.args.probe.now in
    let placed = rw c.as_slice-2.ensures at c.place_of-place.ensures.place in
    let tied = rw c.as_slice-2.ensures at c.place_of-place.ensures.tied in
    let behind : IsBehind g.K.Ord.cmp key c.index-leaf.result.now = record {
      place = omega (arith, placed, c.if-place-eq-LEAF_CAPACITY.true, c.len.ensures.value, c.len.ensures.most, c.if-len-lt-LEAF_CAPACITY.false);
      absent = sym tied ∙ c.if-is_there.false;
    } in
    behind_all g.K.Ord.cmp _ _ _ last among (rw (leaf_read _ _ _ at c.index-leaf.ensures) behind)

pub returns-then-is_there-clause-room : goal.returns-then-is_there-clause-room
returns-then-is_there-clause-room g c =
    let at : c.leaf_of-at.result < length c.args.leaves.now.items = omega (arith, c.leaf_of-at.ensures.within) in
    let among = subst (λ ls. IsAmong g.K.Ord.cmp (g.Q.Probe.key c.args.probe.now) ls c.leaf_of-at.result (c.leaf_of-at.result + 1)) c.as_slice.ensures.value c.leaf_of-at.ensures in
    let whole = leaf_read _ _ _ at c.index-leaf.ensures in
    let tied = tied_in_leaf g.K.Ord.cmp _ _ _ among in
    λ none. cc (c.if-is_there.true, c.place_of-place.ensures.tied, c.as_slice-2.ensures, whole, tied, none)

pub place_of-place-requires : goal.place_of-place-requires
place_of-place-requires g c =
    let at : c.leaf_of-at.result < length c.args.leaves.now.items = omega (arith, c.leaf_of-at.ensures.within) in
    rw (c.as_slice-2.ensures, ← leaf_read _ _ _ at c.index-leaf.ensures) (leaf_in_order g.K.Ord.cmp _ _ c.requires.sorted at)

pub leaf_among-requires-clause-among : goal.leaf_among-requires-clause-among
leaf_among-requires-clause-among g c =
    let among = subst (λ ls. IsAmong g.K.Ord.cmp (g.Q.Probe.key c.args.probe.now) ls c.leaf_of-at.result (c.leaf_of-at.result + 1)) c.as_slice.ensures.value c.leaf_of-at.ensures in
    rw (c.as_slice-3.ensures.value, c.split_at.ensures.items) (among_parts g.K.Ord.cmp _ _ _ _ among)

pub leaf_among-requires-clause-sorted : goal.leaf_among-requires-clause-sorted
leaf_among-requires-clause-sorted g c =
    let at : c.leaf_of-at.result < length c.args.leaves.now.items = omega (arith, c.leaf_of-at.ensures.within) in
    rw (c.as_slice-3.ensures.value, c.split_at.ensures.items, joined_parted _ _ _ at) c.requires.sorted

pub returns-clause-items : goal.returns-clause-items
returns-clause-items g c =
    let at : c.leaf_of-at.result < length c.args.leaves.now.items = omega (arith, c.leaf_of-at.ensures.within) in
    rw c.split_at.ensures.items (joined_parted _ _ _ at)

pub returns-clause-room : goal.returns-clause-room
returns-clause-room g c =
    let at : c.leaf_of-at.result < length c.args.leaves.now.items = omega (arith, c.leaf_of-at.ensures.within) in
    let full = ap length (leaf_read _ _ _ at c.index-leaf.ensures) in
    let most : length (get_or c.args.leaves.now.items c.leaf_of-at.result []) ≤ 64 = omega (arith, full, c.len.ensures.value, c.len.ensures.most) in
    let many : 1 < length (get_or c.args.leaves.now.items c.leaf_of-at.result []) = omega (arith, full, c.len.ensures.value, c.if-len-lt-LEAF_CAPACITY.false) in
    λ _. rw c.split_at.ensures.items (parted_room _ _ _ _ at c.leaf_among.ensures.low c.leaf_among.ensures.high most (omega arith) (omega arith))

pub returns-then-at-len-clause-full : goal.returns-then-at-len-clause-full
returns-then-at-len-clause-full g c =
    let at : c.leaf_of-at.result < length c.args.leaves.now.items = omega (arith, c.leaf_of-at.ensures.within) in
    let last : c.leaf_of-at.result ≡ length c.args.leaves.now.items - 1 = omega (arith, c.if-at-len.true, c.len-then-place-eq-LEAF_CAPACITY.ensures, c.args.leaves.now.ok) in
    let full = ap length (leaf_read _ _ _ at c.index-leaf.ensures) in
    λ some. rw (← last) (omega (arith, full, c.len.ensures.value, c.if-len-lt-LEAF_CAPACITY.false))

pub split_at-requires-clause-full : goal.split_at-requires-clause-full
split_at-requires-clause-full g c =
    let at : c.leaf_of-at.result < length c.args.leaves.now.items = omega (arith, c.leaf_of-at.ensures.within) in
    let full = ap length (leaf_read _ _ _ at c.index-leaf.ensures) in
    omega (arith, full, c.len.ensures.value, c.len.ensures.most, c.if-len-lt-LEAF_CAPACITY.false)

pub returns-clause-there : goal.returns-clause-there
returns-clause-there g c =
    let at : c.leaf_of-at.result < length c.args.leaves.now.items = omega (arith, c.leaf_of-at.ensures.within) in
    let among = subst (λ ls. IsAmong g.K.Ord.cmp (g.Q.Probe.key c.args.probe.now) ls c.leaf_of-at.result (c.leaf_of-at.result + 1)) c.as_slice.ensures.value c.leaf_of-at.ensures in
    let whole = leaf_read _ _ _ at c.index-leaf.ensures in
    let tied = tied_in_leaf g.K.Ord.cmp _ _ _ among in
    λ there. cc (c.if-is_there.false, c.place_of-place.ensures.tied, c.as_slice-2.ensures, whole, tied, there)
