use Rattle.std.proofs.Common.{◌≡◌, ◌∙◌, sym, refl, true, false}
use Rattle.std.specs.List.{insert}
use Rattle.acap_entries.specs.Orders.{octets_cmp}
use Rattle.acap_ordmap.specs.Sorted.{place, is_tied}
use Rattle.acap_client.specs.Placing.{keyed}
use Rattle.acap_client.proofs.Arranged.{first_at, first_tied}
use Rattle.acap_client.proofs.arranging.put_first.Goals as goal

pub returns-then-not-tied-clause-order : goal.returns-then-not-tied-clause-order
returns-then-not-tied-clause-order c =
    let rows = c.args.rows.now.items in
    let tied : is_tied octets_cmp c.args.row.name (keyed rows) ≡ false = rw (c.name.ensures, c.as_slice.ensures.value) at (sym c.place_of-at.ensures.tied ∙ c.if-not-tied.true) in
    let at : c.place_of-at.result.0 ≡ place octets_cmp c.args.row.name (keyed rows) = rw (c.name.ensures, c.as_slice.ensures.value) at c.place_of-at.ensures.place in
    let new : c.insert.new.self.items ≡ insert rows c.place_of-at.result.0 c.args.row = c.insert.ensures.items ∙ rw c.unwrap.ensures refl in
    (first_at rows c.insert.new.self.items c.args.row c.place_of-at.result.0 c.requires.order tied at new).1

pub returns-then-not-tied-clause-rows : goal.returns-then-not-tied-clause-rows
returns-then-not-tied-clause-rows c =
    let rows = c.args.rows.now.items in
    let tied : is_tied octets_cmp c.args.row.name (keyed rows) ≡ false = rw (c.name.ensures, c.as_slice.ensures.value) at (sym c.place_of-at.ensures.tied ∙ c.if-not-tied.true) in
    let at : c.place_of-at.result.0 ≡ place octets_cmp c.args.row.name (keyed rows) = rw (c.name.ensures, c.as_slice.ensures.value) at c.place_of-at.ensures.place in
    let new : c.insert.new.self.items ≡ insert rows c.place_of-at.result.0 c.args.row = c.insert.ensures.items ∙ rw c.unwrap.ensures refl in
    (first_at rows c.insert.new.self.items c.args.row c.place_of-at.result.0 c.requires.order tied at new).0

pub returns-else-not-tied-clause-rows : goal.returns-else-not-tied-clause-rows
returns-else-not-tied-clause-rows c =
    let rows = c.args.rows.now.items in
    let tied : is_tied octets_cmp c.args.row.name (keyed rows) ≡ true = rw (c.name.ensures, c.as_slice.ensures.value) at (sym c.place_of-at.ensures.tied ∙ c.if-not-tied.false) in
    sym (first_tied rows c.args.row c.requires.order tied)
