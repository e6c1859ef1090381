use Rattle.std.proofs.Common.{◌≡◌, ◌<◌, ◌-◌, length, sym, ◌∙◌, arith}
use Rattle.std.specs.declared.cmp.Ordering.TheVariants.{Less, Equal, Greater}
use Rattle.acap_entries.specs.Store.{path_cmp}
use Rattle.acap_ordmap.proofs.Halves.{less_at, equal_at, greater_at}
use Rattle.acap_ordmap.proofs.SortedLemmas.{place_le, tied_lt}
use Rattle.acap_entries.proofs.StoreLemmas.{path_cmp_total}
use Rattle.acap_commands.specs.EntryOrder.{places_by_path}
use Rattle.acap_commands.proofs.OrderLemmas.{met_at, keyed_len}
use Rattle.acap_commands.proofs.entry_order.EntryOrder.place_of.Goals as goal
use Rattle.acap_commands.proofs.entry_order.EntryOrder.place_of.Goals.{in-Less, in-Greater}

pub loop-low-init : goal.loop-low-init
loop-low-init c =
    let keys = places_by_path c.args.entries.now c.args.self.now in
    let many = keyed_len c.args.entries.now c.args.self.now in
    let high : c.len-high.result ≡ length c.args.self.now = cc (c.len-high.ensures, c.self.view_is) in
    let middle : c.saturating_sub-middle.result ≡ c.len-high.result - 1 = cc c.saturating_sub-middle.ensures in
    record {
      lower = omega arith;
      upper = omega (arith, place_le path_cmp c.args.path.now keys, many, high);
      within = omega (arith, high);
      middle = λ h. (omega arith, omega (arith, h, middle));
      tied = λ t. omega (arith, tied_lt path_cmp c.args.path.now keys t, many, high);
    }

pub returns-in-Equal-clause-place : goal.returns-in-Equal-clause-place
returns-in-Equal-clause-place c =
    let keys = places_by_path c.args.entries.now c.args.self.now in
    let many = keyed_len c.args.entries.now c.args.self.now in
    let middle = c.loop-low.invariant.middle c.loop-low-test.true in
    let within : c.loop-low.middle < length c.args.self.now = omega (arith, middle.1, c.loop-low.invariant.within) in
    let at = met_at c.args.entries.now c.args.self.now c.args.path.now c.loop-low.middle c.index.result.now c.index-entries-index.result Equal c.requires within (rw (← c.self.view_is) c.index.ensures) (sym c.cmp.ensures ∙ c.in-Equal.is) in
    sym (equal_at path_cmp path_cmp_total c.args.path.now keys c.loop-low.middle (c.args.path.now, 0) c.requires.rises (omega (arith, within, many)) at).0

pub returns-in-Equal-clause-tied : goal.returns-in-Equal-clause-tied
returns-in-Equal-clause-tied c =
    let keys = places_by_path c.args.entries.now c.args.self.now in
    let many = keyed_len c.args.entries.now c.args.self.now in
    let middle = c.loop-low.invariant.middle c.loop-low-test.true in
    let within : c.loop-low.middle < length c.args.self.now = omega (arith, middle.1, c.loop-low.invariant.within) in
    let at = met_at c.args.entries.now c.args.self.now c.args.path.now c.loop-low.middle c.index.result.now c.index-entries-index.result Equal c.requires within (rw (← c.self.view_is) c.index.ensures) (sym c.cmp.ensures ∙ c.in-Equal.is) in
    sym (equal_at path_cmp path_cmp_total c.args.path.now keys c.loop-low.middle (c.args.path.now, 0) c.requires.rises (omega (arith, within, many)) at).1

pub loop-low-preserved : goal.loop-low-preserved
loop-low-preserved c =
    let keys = places_by_path c.args.entries.now c.args.self.now in
    let many = keyed_len c.args.entries.now c.args.self.now in
    let old = c.loop-low.invariant in
    let middle = old.middle c.loop-low-test.true in
    let within : c.loop-low.middle < length c.args.self.now = omega (arith, middle.1, old.within) in
    let met = met_at c.args.entries.now c.args.self.now c.args.path.now c.loop-low.middle c.index.result.now c.index-entries-index.result in
    elim c.match-cmp.branch [
      | in-Less w ↦
          let at = met Less c.requires within (rw (← c.self.view_is) c.index.ensures) (sym c.cmp.ensures ∙ w.in-Less.is) in
          let f = less_at path_cmp path_cmp_total c.args.path.now keys c.loop-low.middle (c.args.path.now, 0) c.requires.rises (omega (arith, within, many)) at in
          rw (w.low-is, w.high-is) (record { lower = old.lower; upper = f.0; within = omega (arith, within); middle = λ h. (omega arith, omega (arith, h)); tied = f.1 })
      | in-Greater w ↦
          let at = met Greater c.requires within (rw (← c.self.view_is) c.index.ensures) (sym c.cmp.ensures ∙ w.in-Greater.is) in
          let above = greater_at path_cmp path_cmp_total c.args.path.now keys c.loop-low.middle (c.args.path.now, 0) c.requires.rises (omega (arith, within, many)) at in
          rw (w.low-is, w.high-is) (record { lower = omega (arith, above); upper = old.upper; within = old.within; middle = λ h. (omega arith, omega (arith, h)); tied = old.tied })
    ]
