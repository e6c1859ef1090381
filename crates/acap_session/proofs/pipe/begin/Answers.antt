use Rattle.std.proofs.Common.{ap, ◌∙◌}
use Rattle.acap_machine.specs.Machine.{new_machine}
use Rattle.acap_session.proofs.Piping.{begun_scene}
use Rattle.acap_session.proofs.pipe.begin.Goals as goal

pub returns : goal.returns
returns c =
    begun_scene c.args.user c.in_ok-host.host c.new.result.machine c.new-2.result c.new-3.result.items c.in_ok-host.ensures (c.new.ensures.machine ∙ ap (λ r. new_machine r) c.without_administrators.ensures) c.new-2.ensures c.new-3.ensures.items
