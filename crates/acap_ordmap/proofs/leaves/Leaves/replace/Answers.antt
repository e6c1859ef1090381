use Rattle.std.proofs.Common.{◌≡◌, length, false, sym, ap, ◌∙◌, arith}
use borrow.Author.Tests.{eqb-true}
use Rattle.acap_ordmap.specs.Leaves.{contents}
use Rattle.acap_ordmap.specs.Replacing.{replaced}
use Rattle.acap_ordmap.specs.Sorted.{place, is_tied, put_in}
use Rattle.acap_ordmap.proofs.LeafLemmas.{entry_of_none}
use Rattle.acap_ordmap.proofs.SortedLemmas.{entry_absent}
use Rattle.acap_ordmap.proofs.ReplaceLemmas.{replaced_none, replaced_absent, within_replaced}
use Rattle.acap_ordmap.proofs.leaves.Leaves.replace.Goals as goal

pub returns-then-is_empty-clause-taken : goal.returns-then-is_empty-clause-taken
returns-then-is_empty-clause-taken g c =
    let none : length c.self.inside.leaves.items ≡ 0 = omega (arith, eqb-true _ _ (sym c.if-is_empty.ensures), c.self.inside.leaves.ok) in
    rw (← ap (λ v. v.0) c.self.view_is) (entry_of_none g.K.Ord.cmp c.args.key c.self.inside.leaves.items none)

pub returns-then-is_empty-clause-entries : goal.returns-then-is_empty-clause-entries
returns-then-is_empty-clause-entries g c =
    let none : length c.self.inside.leaves.items ≡ 0 = omega (arith, eqb-true _ _ (sym c.if-is_empty.ensures), c.self.inside.leaves.ok) in
    c.put.ensures.entries ∙ rw (← ap (λ v. v.0) c.self.view_is) (replaced_none g.K.Ord.cmp c.args.key c.args.value c.self.inside.leaves.items none)

pub returns-then-is_empty-clause-within : goal.returns-then-is_empty-clause-within
returns-then-is_empty-clause-within g c =
    let none : length c.self.inside.leaves.items ≡ 0 = omega (arith, eqb-true _ _ (sym c.if-is_empty.ensures), c.self.inside.leaves.ok) in
    let whole : c.put.new.self.0 ≡ replaced g.K.Ord.cmp c.args.key c.args.value c.args.self.now.0 =
    c.put.ensures.entries ∙ rw (← ap (λ v. v.0) c.self.view_is) (replaced_none g.K.Ord.cmp c.args.key c.args.value c.self.inside.leaves.items none) in
    let stands = within_replaced g.K.Ord.cmp g.met.K.Ord.total c.args.key c.args.value c.args.self.now.0 c.requires.sorted in
    omega (arith, stands, ap length whole)

pub returns-then-slot-clause-within : goal.returns-then-slot-clause-within
returns-then-slot-clause-within g c =
    let same = ap contents c.as_slice.ensures.value ∙ ap (λ v. v.0) c.self.view_is in
    let rank = c.seek-slot.ensures.rank ∙ ap (λ es. place g.K.Ord.cmp c.args.key es) same in
    let whole : contents c.exchange_at-old.new.leaves.items ≡ replaced g.K.Ord.cmp c.args.key c.args.value c.args.self.now.0 =
    c.exchange_at-old.ensures.items ∙ ap (λ v. replaced g.K.Ord.cmp c.args.key c.args.value v.0) c.self.view_is in
    let stands = within_replaced g.K.Ord.cmp g.met.K.Ord.total c.args.key c.args.value c.args.self.now.0 c.requires.sorted in
    omega (arith, stands, rank, ap length whole)

pub returns-then-len-lt-LEAF_CAPACITY-clause-taken : goal.returns-then-len-lt-LEAF_CAPACITY-clause-taken
returns-then-len-lt-LEAF_CAPACITY-clause-taken g c =
    let same = ap contents c.as_slice.ensures.value ∙ ap (λ v. v.0) c.self.view_is in
    let absent : is_tied g.K.Ord.cmp c.args.key c.args.self.now.0 ≡ false = sym (ap (λ es. is_tied g.K.Ord.cmp c.args.key es) same) ∙ sym c.seek-slot.ensures.tied ∙ c.if-slot.false in
    sym (entry_absent g.K.Ord.cmp g.met.K.Ord.total c.args.key c.args.self.now.0 c.requires.sorted absent)

pub returns-then-len-lt-LEAF_CAPACITY-clause-entries : goal.returns-then-len-lt-LEAF_CAPACITY-clause-entries
returns-then-len-lt-LEAF_CAPACITY-clause-entries g c =
    let same = ap contents c.as_slice.ensures.value ∙ ap (λ v. v.0) c.self.view_is in
    let absent : is_tied g.K.Ord.cmp c.args.key c.args.self.now.0 ≡ false = sym (ap (λ es. is_tied g.K.Ord.cmp c.args.key es) same) ∙ sym c.seek-slot.ensures.tied ∙ c.if-slot.false in
    c.insert_at.ensures.items ∙ ap (λ v. put_in g.K.Ord.cmp c.args.key c.args.value v.0) c.self.view_is
    ∙ sym (replaced_absent g.K.Ord.cmp g.met.K.Ord.total c.args.key c.args.value c.args.self.now.0 c.requires.sorted absent)

pub returns-then-len-lt-LEAF_CAPACITY-clause-within : goal.returns-then-len-lt-LEAF_CAPACITY-clause-within
returns-then-len-lt-LEAF_CAPACITY-clause-within g c =
    let same = ap contents c.as_slice.ensures.value ∙ ap (λ v. v.0) c.self.view_is in
    let rank = c.seek-slot.ensures.rank ∙ ap (λ es. place g.K.Ord.cmp c.args.key es) same in
    let absent : is_tied g.K.Ord.cmp c.args.key c.args.self.now.0 ≡ false = sym (ap (λ es. is_tied g.K.Ord.cmp c.args.key es) same) ∙ sym c.seek-slot.ensures.tied ∙ c.if-slot.false in
    let whole : contents c.insert_at.new.leaves.items ≡ replaced g.K.Ord.cmp c.args.key c.args.value c.args.self.now.0 =
    c.insert_at.ensures.items ∙ ap (λ v. put_in g.K.Ord.cmp c.args.key c.args.value v.0) c.self.view_is
    ∙ sym (replaced_absent g.K.Ord.cmp g.met.K.Ord.total c.args.key c.args.value c.args.self.now.0 c.requires.sorted absent) in
    let stands = within_replaced g.K.Ord.cmp g.met.K.Ord.total c.args.key c.args.value c.args.self.now.0 c.requires.sorted in
    omega (arith, stands, rank, ap length whole)

pub returns-clause-taken : goal.returns-clause-taken
returns-clause-taken g c =
    let same = ap contents c.as_slice.ensures.value ∙ ap (λ v. v.0) c.self.view_is in
    let absent : is_tied g.K.Ord.cmp c.args.key c.args.self.now.0 ≡ false = sym (ap (λ es. is_tied g.K.Ord.cmp c.args.key es) same) ∙ sym c.seek-slot.ensures.tied ∙ c.if-slot.false in
    sym (entry_absent g.K.Ord.cmp g.met.K.Ord.total c.args.key c.args.self.now.0 c.requires.sorted absent)

pub returns-clause-entries : goal.returns-clause-entries
returns-clause-entries g c =
    let same = ap contents c.as_slice.ensures.value ∙ ap (λ v. v.0) c.self.view_is in
    let absent : is_tied g.K.Ord.cmp c.args.key c.args.self.now.0 ≡ false = sym (ap (λ es. is_tied g.K.Ord.cmp c.args.key es) same) ∙ sym c.seek-slot.ensures.tied ∙ c.if-slot.false in
    c.put-2.ensures.entries ∙ sym (replaced_absent g.K.Ord.cmp g.met.K.Ord.total c.args.key c.args.value c.args.self.now.0 c.requires.sorted absent)

pub returns-clause-within : goal.returns-clause-within
returns-clause-within g c =
    let same = ap contents c.as_slice.ensures.value ∙ ap (λ v. v.0) c.self.view_is in
    let rank = c.seek-slot.ensures.rank ∙ ap (λ es. place g.K.Ord.cmp c.args.key es) same in
    let absent : is_tied g.K.Ord.cmp c.args.key c.args.self.now.0 ≡ false = sym (ap (λ es. is_tied g.K.Ord.cmp c.args.key es) same) ∙ sym c.seek-slot.ensures.tied ∙ c.if-slot.false in
    let whole : c.put-2.new.self.0 ≡ replaced g.K.Ord.cmp c.args.key c.args.value c.args.self.now.0 =
    c.put-2.ensures.entries ∙ sym (replaced_absent g.K.Ord.cmp g.met.K.Ord.total c.args.key c.args.value c.args.self.now.0 c.requires.sorted absent) in
    let stands = within_replaced g.K.Ord.cmp g.met.K.Ord.total c.args.key c.args.value c.args.self.now.0 c.requires.sorted in
    omega (arith, stands, rank, ap length whole)
