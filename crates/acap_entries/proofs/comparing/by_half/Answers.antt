use Rattle.std.proofs.Common.{rules, sym, ap, ◌∙◌}
use Rattle.std.specs.Int.{w32, from_be_bytes}
use Rattle.std.specs.Ordering.{nat_cmp}
use Rattle.acap_entries.proofs.WordLemmas.{by_half_number}
use Rattle.acap_entries.proofs.comparing.by_half.Goals as goal

pub returns : goal.returns
returns c =
    c.cmp.ensures
    ∙ ap (λ n. nat_cmp n c.from_be_bytes-2.result) c.from_be_bytes.ensures
    ∙ ap (nat_cmp (from_be_bytes w32 c.args.a.now)) c.from_be_bytes-2.ensures
    ∙ sym (by_half_number c.args.a.now c.args.b.now (search rules) (search rules) (search rules) (search rules))
