use Rattle.std.proofs.Common.{rules}
use Rattle.acap_task.proofs.Pieces.{copied}
use Rattle.acap_task.proofs.mem_wire.copy_from.Goals as goal

pub returns-clause-taken : goal.returns-clause-taken
returns-clause-taken c = copied c.args.at c.min-count.result c.args.text.now c.copy_from_slice.new.self _ (cc (c.copy_from_slice.ensures.after, c.split_at.ensures.back)) (search rules)
