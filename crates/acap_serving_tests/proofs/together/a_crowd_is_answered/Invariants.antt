use Rattle.std.proofs.Common.{◌≡◌, All}
use Rattle.acap_serving.specs.Devices.{silent_wire}
use Rattle.acap_serving_tests.specs.declared.gate.OneMoment.{OneMoment}
use Rattle.acap_serving_tests.specs.declared.gate.WaitingWire.{WaitingWire}
use Rattle.acap_task.specs.Told.{WireTold}
use Rattle.acap_task.specs.declared.conn.Conn.{Conn}
use Rattle.acap_serving_tests.proofs.together.a_crowd_is_answered.Given as goal

-- what the wire of a conn tells
abbrev told : Conn WaitingWire OneMoment → WireTold
told conn = record silent_wire {
  ended = conn.wire.ended;
  read_faults = conn.wire.faults;
  write_faults = conn.wire.write_faults;
  read_waits = conn.wire.waits;
}

abbrev pub invariant-loop-number : goal.invariant-loop-number
invariant-loop-number g l = All (λ conn. told conn ≡ silent_wire) l.conns.items
