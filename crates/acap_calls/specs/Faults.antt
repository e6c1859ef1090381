-- The lines that are printed of faults and wrong calls.
use Rattle.std.specs.Prelude.{ℕ, List, ◌++◌, codes, decimal}
use Rattle.acap_session.specs.declared.pipe_fault.PipeFault.{PipeFault}
use Rattle.acap_session.specs.declared.pipe_fault.PipeFault.TheVariants as pipe
use Rattle.acap_session.specs.declared.script_fault.ScriptFault.{ScriptFault}
use Rattle.acap_session.specs.declared.script_fault.ScriptFault.TheVariants as script
use Rattle.acap_serving.specs.declared.fault.ServeFault.{ServeFault}
use Rattle.acap_serving.specs.declared.fault.ServeFault.TheVariants as server
use Rattle.acap_calls.specs.declared.fault.Fault.{Fault}
use Rattle.acap_calls.specs.declared.fault.Fault.TheVariants as fault

abbrev pub of_pipe : PipeFault → Fault
of_pipe pipe.Read = fault.Read
of_pipe pipe.Write = fault.Write
of_pipe pipe.Memory = fault.Memory

abbrev pub of_script : ScriptFault → Fault
of_script (script.Line n) = fault.Line n
of_script script.Read = fault.Read
of_script script.Write = fault.Write
of_script script.Memory = fault.Memory

abbrev pub of_server : ServeFault → Fault
of_server server.Read = fault.Read
of_server server.Settings = fault.Settings
of_server server.Listen = fault.Listen
of_server server.Unequal = fault.Unequal
of_server server.Memory = fault.Memory

-- that of a call with no words or wrong ones
abbrev pub usage : List ℕ
usage = codes "usage: acapd pipe USER | script | serve FILE\n"

abbrev pub line_of : Fault → List ℕ
line_of fault.Read = codes "acapd: cannot read\n"
line_of fault.Write = codes "acapd: cannot write\n"
line_of fault.Memory = codes "acapd: no memory\n"
line_of fault.Settings = codes "acapd: bad settings\n"
line_of fault.Listen = codes "acapd: cannot listen\n"
line_of fault.Unequal = codes "acapd: history unequal\n"
line_of (fault.Line n) = codes "acapd: bad script line " ++ decimal n ++ codes "\n"
