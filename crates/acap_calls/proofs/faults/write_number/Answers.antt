use Rattle.std.proofs.Common.{◌++◌, ◌∙◌}
use Rattle.std.specs.Prelude.{codes, decimal}
use Rattle.acap_calls.proofs.Printing.{sends_less, sends_then}
use Rattle.acap_calls.proofs.faults.write_number.Goals as goal

pub returns-in_err-write : goal.returns-in_err-write
returns-in_err-write g c = sends_less (codes "acapd: bad script line ") (decimal c.args.number ++ codes "\n") _ _ _ c.from_residual.result c.from_residual.ensures.0 c.in_err-write.ensures

pub returns-in_err-write-2 : goal.returns-in_err-write-2
returns-in_err-write-2 g c =
    sends_then (codes "acapd: bad script line ") (decimal c.args.number ++ codes "\n") _ _ _ _ c.in_ok-write.ensures
    (sends_less (decimal c.args.number) (codes "\n") _ _ _ _ c.from_residual-in_err-write-2.ensures.0 (rw (c.as_bytes.ensures.value, c.format.ensures.text) at c.in_err-write-2.ensures))

pub returns : goal.returns
returns g c =
    sends_then (codes "acapd: bad script line ") (decimal c.args.number ++ codes "\n") _ _ _ _ c.in_ok-write.ensures
    (sends_then (decimal c.args.number) (codes "\n") _ _ _ _ (rw (c.as_bytes.ensures.value, c.format.ensures.text) at c.in_ok-write-2.ensures) c.write-3.ensures)
