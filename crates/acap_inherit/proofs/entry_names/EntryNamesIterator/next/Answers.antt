use Rattle.std.proofs.Common.{rules, ◌≡◌, [], ◌∷◌, length, true, Some, None, map, ap, sym, subst, ◌∙◌}
use Rattle.std.specs.List.{list_all}
use Rattle.acap_inherit.specs.EntryNames.{union_of}
use Rattle.acap_inherit.specs.Merging.{is_rising, past_name, IsLeast}
use Rattle.acap_inherit.proofs.MergeLemmas.{merged_next, merged_ended, all_rising_passed, refilled}
use Rattle.acap_inherit.proofs.entry_names.EntryNamesIterator.next.Goals as goal

pub returns-in_err-name-clause-steps : goal.returns-in_err-name-clause-steps
returns-in_err-name-clause-steps c =
    let none : c.args.self.now ≡ [] =
    sym c.self.view_is ∙ merged_ended c.self.inside.ranges.items (subst (λ lists. IsLeast None lists) c.as_slice.ensures.value c.in_err-name.ensures) in
    rw c.from_residual.ensures (none, none)

pub invariant_of-self : goal.invariant_of-self
invariant_of-self c =
    let name = c.in_ok-name.name.now in
    let lists = c.self.inside.ranges.items in
    let left = refilled name lists c.pass_all.new.ranges (c.pass_all.ensures ∙ ap (λ lists. map (past_name name) lists) c.as_mut_slice.ensures.value) in
    subst (λ lists. list_all is_rising lists ≡ true) (sym left) (all_rising_passed name lists c.self.invariant)

pub returns-clause-steps : goal.returns-clause-steps
returns-clause-steps c =
    let name = c.in_ok-name.name.now in
    let lists = c.self.inside.ranges.items in
    let left = refilled name lists c.pass_all.new.ranges (c.pass_all.ensures ∙ ap (λ lists. map (past_name name) lists) c.as_mut_slice.ensures.value) in
    sym c.self.view_is
    ∙ (merged_next name lists c.self.invariant (subst (λ lists. IsLeast (Some name) lists) c.as_slice.ensures.value c.in_ok-name.ensures)
    ∙ ap (λ lists. name ∷ union_of lists) (sym left))

pub returns-clause-goes : goal.returns-clause-goes
returns-clause-goes c =
    let shorter = ap length (returns-clause-steps c) in search rules
