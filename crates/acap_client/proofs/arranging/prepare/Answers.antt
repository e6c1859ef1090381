use Rattle.std.proofs.Common.{rules}
use Rattle.std.proofs.lemmas.List.MinMax.{ranks_by}
use Rattle.std.proofs.lemmas.List.Sorted.{answers_always}
use Rattle.std.specs.Cmp.Lexicographic.{nat_list_cmp_total}
use Rattle.acap_grammar.specs.Printed.{PrintedRow}
use Rattle.acap_client.proofs.Arranged.{is_before, sorted_same}
use Rattle.acap_client.proofs.arranging.prepare.Goals as goal

pub returns-clause-same : goal.returns-clause-same
returns-clause-same c =
    sorted_same _ _ (c.sort_by.ensures.stable is_before (ranks_by nat_list_cmp_total (λ (row : PrintedRow). row.name)) (answers_always _ _ _ (λ f a r f' k. search rules)))
