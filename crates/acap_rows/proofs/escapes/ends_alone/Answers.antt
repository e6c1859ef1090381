use Rattle.std.proofs.Common.{◌%◌, ◌∙◌, ap, nat_eq, rules, tests}
use Rattle.std.specs.Prelude.{reverse}
use Rattle.std.proofs.lemmas.Iterator.Adapters.{YieldsList-from_rev_slice}
use Rattle.std.proofs.lemmas.Iterator.Consumers.{count_from_yields_List}
use Rattle.std.proofs.lemmas.Iterator.Search.{YieldsList-from_take_while}
use Rattle.std.proofs.lemmas.List.Folds.{length-prefix_len}
use Rattle.acap_rows.specs.Endings.{is_backslash}
use Rattle.acap_rows.proofs.escapes.ends_alone.Goals as goal

pub returns : goal.returns
returns c =
    let line = c.args.line.now in
    ap (λ n. nat_eq (n % 2) 1)
    (count_from_yields_List c.take_while-backslashes.result _ c.count.ensures.ran
    (YieldsList-from_take_while _ is_backslash (YieldsList-from_rev_slice line cc) c.take_while-backslashes.ensures.closure c.take_while-backslashes.ensures.done (λ x b q k. search (rules, tests)))
    ∙ length-prefix_len is_backslash (reverse line))
