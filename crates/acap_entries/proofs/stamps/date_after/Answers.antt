use Rattle.std.proofs.Common.{◌≡◌, arith, pos, ◌-ℤ◌, to_z, w64}
use Rattle.std.proofs.lemmas.Int.{to_z_pos}
use Rattle.jiff_core.specs.Date.{epoch_day}
use Rattle.jiff_core.proofs.SignedLemmas.{signed_arith}
use Rattle.acap_entries.proofs.StampLemmas.{count_of, not_before}
use Rattle.acap_entries.proofs.stamps.date_after.Goals as goal

pub returns-clause-value : goal.returns-clause-value
returns-clause-value c =
    let small : to_z w64 c.args.days ≡ pos c.args.days = to_z_pos w64 c.args.days (omega arith) in
    let is = rw small at (rw c.unwrap.ensures at c.from_unix_epoch_day.ensures.value) in
    let day : epoch_day c.unwrap.result ≡ pos c.args.days -ℤ pos 719_528 = omega (arith, signed_arith, is) in
    count_of c.unwrap.result c.args.days day

pub returns-clause-year : goal.returns-clause-year
returns-clause-year c =
    let small : to_z w64 c.args.days ≡ pos c.args.days = to_z_pos w64 c.args.days (omega arith) in
    let is = rw small at (rw c.unwrap.ensures at c.from_unix_epoch_day.ensures.value) in
    let day : epoch_day c.unwrap.result ≡ pos c.args.days -ℤ pos 719_528 = omega (arith, signed_arith, is) in
    not_before c.unwrap.result c.args.days (count_of c.unwrap.result c.args.days day)
