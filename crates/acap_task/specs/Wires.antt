-- A wire in memory.
use Rattle.std.specs.Prelude.{ℕ, List}
use Rattle.acap_task.specs.Told.{WireTold}
use Rattle.acap_task.specs.declared.mem_wire.WireAnswer.{WireAnswer}

-- what it reports, the octets that were not read yet, and the plans of its reader and its writer
pub record WireNow : Type 0 where
  pub told : WireTold
  pub left : List ℕ
  pub reads : List WireAnswer × WireAnswer
  pub writes : List WireAnswer × WireAnswer
