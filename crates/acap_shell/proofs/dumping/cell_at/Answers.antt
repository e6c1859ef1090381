use Rattle.std.proofs.Common.{◌≡◌, ◌∙◌, Some, ap, rules, sym}
use Rattle.acap_grammar.specs.Lines.{group}
use Rattle.acap_client.specs.Arguments.{data_in, group_at}
use Rattle.acap_shell.specs.Dumping.{cell_at, list_of}
use Rattle.acap_shell.proofs.Reading.{cell_first}
use Rattle.acap_shell.proofs.dumping.cell_at.Goals as goal

pub returns-in-Some : goal.returns-in-Some
returns-in-Some c =
    let first : Some (group (data_in c.in-Some.list), data_in c.in-Some.others) ≡ group_at (data_in c.args.items.now) = search rules in
    let taken : c.in_ok-list_of.field-0 ≡ list_of (data_in c.in-Some.list) = search rules in
    ap (λ made. Some (made, data_in c.in-Some.others)) taken ∙ sym (cell_first _ _ _ first)
