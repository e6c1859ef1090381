use Rattle.std.proofs.Common.{◌≡◌, Some, rules}
use Rattle.acap_grammar.specs.Lines.{group}
use Rattle.acap_client.specs.Arguments.{data_in, group_at}
use Rattle.acap_shell.specs.Dumping.{all_items, stored_items}
use Rattle.acap_shell.proofs.Reading.{stored_in}
use Rattle.acap_shell.proofs.dumping.stored_items.Goals as goal

pub returns-in-Some : goal.returns-in-Some
returns-in-Some c =
    let first : Some (group (data_in c.in-Some.triples), data_in c.in-Some.field-0-1) ≡ group_at (data_in c.args.items.now) = search rules in
    let same : stored_items (data_in c.args.items.now) ≡ all_items (data_in c.in-Some.triples) = stored_in _ _ _ first in
    search (rules, same)
