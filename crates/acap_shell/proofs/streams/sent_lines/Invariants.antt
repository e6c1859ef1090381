use Rattle.std.proofs.Common.{◌≡◌, ◌++◌, take, flat_map}
use Rattle.acap_shell.specs.Streams.{sent}
use Rattle.acap_shell.proofs.streams.sent_lines.Given as goal

abbrev pub invariant-loop-c : goal.invariant-loop-c
invariant-loop-c l = l.out.items ≡ l.initial.out.items ++ flat_map sent (take l.c-index l.lines)
