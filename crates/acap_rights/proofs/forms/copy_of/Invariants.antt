use Rattle.std.proofs.Common.{◌≡◌, take}
use Rattle.acap_rights.proofs.forms.copy_of.Given as goal

abbrev pub invariant-loop-text : goal.invariant-loop-text
invariant-loop-text l = l.made ≡ take l.text-index l.strings
