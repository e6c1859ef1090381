use Rattle.std.proofs.Common.{rules, sym, ap, ◌∙◌}
use Rattle.std.specs.Int.{w64, from_be_bytes}
use Rattle.std.specs.Ordering.{nat_cmp}
use Rattle.acap_entries.proofs.WordLemmas.{by_word_number}
use Rattle.acap_entries.proofs.comparing.by_word.Goals as goal

pub returns : goal.returns
returns c =
    c.cmp.ensures
    ∙ ap (λ n. nat_cmp n c.from_be_bytes-2.result) c.from_be_bytes.ensures
    ∙ ap (nat_cmp (from_be_bytes w64 c.args.a.now)) c.from_be_bytes-2.ensures
    ∙ sym (by_word_number c.args.a.now c.args.b.now (search rules) (search rules) (search rules) (search rules))
