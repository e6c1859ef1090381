use Rattle.std.proofs.Common.{◌<◌, length, get_or, sym, ◌∙◌, arith}
use Rattle.std.specs.Prelude.{ℕ, bit_xor}
use Rattle.std.proofs.lemmas.List.Edits.{map_over_more}
use Rattle.std.proofs.Math.ListN.{length-set}
use Rattle.std.proofs.lemmas.Grind.{get_or_default_zero}
use Rattle.acap_login.proofs.hmac.mix.Goals as goal

pub loop-x-preserved : goal.loop-x-preserved
loop-x-preserved c =
    let kept = c.loop-x.invariant in
    let items = c.loop-x.x-items in
    let at = c.loop-x.x-index in
    let old = get_or items at 0 in
    let within : at < length items = omega (arith, c.loop-x-test.true, kept.long) in
    let in_block : at < length c.args.block = omega (arith, c.loop-x-test.true, kept.block_long) in
    record {
      items = map_over_more (λ (x : ℕ). bit_xor x c.args.octet) c.args.block items at old in_block kept.items (sym (get_or_default_zero items at old within));
      block_long = kept.block_long;
      long = length-set items at (bit_xor old c.args.octet) ∙ kept.long;
    }
