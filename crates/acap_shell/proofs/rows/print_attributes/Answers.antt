use Rattle.std.proofs.Common.{◌≡◌, Some, rules}
use Rattle.acap_grammar.specs.Lines.{group}
use Rattle.acap_client.specs.Arguments.{data_in, group_at}
use Rattle.acap_shell.specs.Rows.{attributes_rows, list_rows}
use Rattle.acap_shell.proofs.Reading.{rows_in}
use Rattle.acap_shell.proofs.rows.print_attributes.Goals as goal

pub returns-in-Some : goal.returns-in-Some
returns-in-Some c =
    let first : Some (group (data_in c.in-Some.pairs), data_in c.in-Some.field-0-1) ≡ group_at (data_in c.args.items.now) = search rules in
    let same : attributes_rows c.args.form c.args.entry.now (data_in c.args.items.now) ≡ list_rows c.args.form c.args.entry.now (data_in c.in-Some.pairs) =
    rows_in c.args.form c.args.entry.now _ _ _ first in
    search (rules, same)
