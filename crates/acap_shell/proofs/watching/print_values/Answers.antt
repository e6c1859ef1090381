use Rattle.std.proofs.Common.{◌≡◌, Some, rules}
use Rattle.acap_grammar.specs.Lines.{group}
use Rattle.acap_client.specs.Arguments.{data_in, group_at}
use Rattle.acap_shell.specs.Rows.{first_texts, values}
use Rattle.acap_shell.proofs.Reading.{values_in}
use Rattle.acap_shell.proofs.watching.print_values.Goals as goal

pub returns-in-Some : goal.returns-in-Some
returns-in-Some c =
    let first : Some (group (data_in c.in-Some.list), data_in c.in-Some.field-0-1) ≡ group_at (data_in c.args.items.now) = search rules in
    let same : values (data_in c.args.items.now) ≡ first_texts (data_in c.in-Some.list) = values_in _ _ _ first in
    search (rules, same)
