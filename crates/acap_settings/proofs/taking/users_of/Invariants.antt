use Rattle.std.proofs.Common.{◌≡◌, take, map}
use Rattle.toml.specs.Data.{string}
use Rattle.toml.specs.View.{view}
use Rattle.acap_settings.proofs.taking.users_of.Given as goal

abbrev pub invariant-loop-name : goal.invariant-loop-name
invariant-loop-name l = map view (take l.name-index l.names) ≡ map string l.users
