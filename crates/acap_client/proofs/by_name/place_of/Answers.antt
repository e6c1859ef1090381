use Rattle.std.proofs.Common.{◌≡◌, ◌<◌, ◌+◌, ◌-◌, ◌/◌, length, get_or, sym, ap, ◌∙◌, arith}
use Rattle.std.specs.declared.cmp.Ordering.TheVariants.{Less, Equal, Greater}
use Rattle.acap_entries.specs.Orders.{octets_cmp}
use Rattle.acap_ordmap.proofs.SortedLemmas.{place_le, tied_lt}
use Rattle.acap_ordmap.proofs.Halves.{less_at, equal_at, greater_at}
use Rattle.std.specs.Cmp.Lexicographic.{nat_list_cmp_total}
use Rattle.acap_client.specs.Placing.{keyed}
use Rattle.acap_client.proofs.Placed.{length_keyed, keyed_at}
use Rattle.acap_client.proofs.by_name.place_of.Goals as goal

pub loop-low-init : goal.loop-low-init
loop-low-init c =
    let rows = c.args.rows.now in
    let key = c.args.entry.now in
    record {
      lower = omega arith;
      upper = omega (arith, place_le octets_cmp key (keyed rows), length_keyed rows);
      within = omega arith;
      tied = λ t. omega (arith, tied_lt octets_cmp key (keyed rows) t, length_keyed rows);
    }

pub loop-low-preserved-in-Less : goal.loop-low-preserved-in-Less
loop-low-preserved-in-Less c =
    let rows = c.args.rows.now in
    let key = c.args.entry.now in
    let d = c.index-rows-mid.result in
    let mid = c.loop-low.low + (c.loop-low.high - c.loop-low.low) / 2 in
    let within : mid < length (keyed rows) = omega (arith, c.loop-low.invariant.within, length_keyed rows) in
    let at : octets_cmp key (get_or (keyed rows) mid (d.name, d)).0 ≡ Less = ap (λ e. octets_cmp key e.0) (keyed_at rows mid d) ∙ cc (c.cmp.ensures, c.in-Less.is, c.index-rows-mid.is) in
    let f = less_at octets_cmp nat_list_cmp_total key (keyed rows) mid (d.name, d) c.requires within at in
    record { lower = c.loop-low.invariant.lower; upper = f.0; within = omega (arith, within); tied = f.1 }

pub returns-in-Equal-clause-place : goal.returns-in-Equal-clause-place
returns-in-Equal-clause-place c =
    let rows = c.args.rows.now in
    let key = c.args.entry.now in
    let d = c.index-rows-mid.result in
    let mid = c.loop-low.low + (c.loop-low.high - c.loop-low.low) / 2 in
    let within : mid < length (keyed rows) = omega (arith, c.loop-low.invariant.within, c.loop-low-test.true, length_keyed rows) in
    let at : octets_cmp key (get_or (keyed rows) mid (d.name, d)).0 ≡ Equal = ap (λ e. octets_cmp key e.0) (keyed_at rows mid d) ∙ cc (c.cmp.ensures, c.in-Equal.is, c.index-rows-mid.is) in
    sym (equal_at octets_cmp nat_list_cmp_total key (keyed rows) mid (d.name, d) c.requires within at).0

pub returns-in-Equal-clause-tied : goal.returns-in-Equal-clause-tied
returns-in-Equal-clause-tied c =
    let rows = c.args.rows.now in
    let key = c.args.entry.now in
    let d = c.index-rows-mid.result in
    let mid = c.loop-low.low + (c.loop-low.high - c.loop-low.low) / 2 in
    let within : mid < length (keyed rows) = omega (arith, c.loop-low.invariant.within, c.loop-low-test.true, length_keyed rows) in
    let at : octets_cmp key (get_or (keyed rows) mid (d.name, d)).0 ≡ Equal = ap (λ e. octets_cmp key e.0) (keyed_at rows mid d) ∙ cc (c.cmp.ensures, c.in-Equal.is, c.index-rows-mid.is) in
    sym (equal_at octets_cmp nat_list_cmp_total key (keyed rows) mid (d.name, d) c.requires within at).1

pub loop-low-preserved : goal.loop-low-preserved
loop-low-preserved c =
    let rows = c.args.rows.now in
    let key = c.args.entry.now in
    let d = c.index-rows-mid.result in
    let mid = c.loop-low.low + (c.loop-low.high - c.loop-low.low) / 2 in
    let within : mid < length (keyed rows) = omega (arith, c.loop-low.invariant.within, c.loop-low-test.true, length_keyed rows) in
    let at : octets_cmp key (get_or (keyed rows) mid (d.name, d)).0 ≡ Greater = ap (λ e. octets_cmp key e.0) (keyed_at rows mid d) ∙ cc (c.cmp.ensures, c.in-Greater.is, c.index-rows-mid.is) in
    let above = greater_at octets_cmp nat_list_cmp_total key (keyed rows) mid (d.name, d) c.requires within at in
    record { lower = omega (arith, above); upper = c.loop-low.invariant.upper; within = c.loop-low.invariant.within; tied = c.loop-low.invariant.tied }
