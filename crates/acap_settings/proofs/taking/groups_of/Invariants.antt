use Rattle.std.proofs.Common.{◌≡◌, take, map}
use Rattle.acap_settings.specs.Members.{octets_and_data}
use Rattle.acap_settings.specs.Settings.{said_group}
use Rattle.acap_settings.proofs.taking.groups_of.Given as goal

abbrev pub invariant-loop-name : goal.invariant-loop-name
invariant-loop-name l = map octets_and_data (take l.name-index l.members) ≡ map said_group l.groups
