use Rattle.std.proofs.Common.{ap, ◌∙◌, sym}
use Rattle.acap_machine.proofs.Following.{sound_step}
use Rattle.acap_machine.proofs.state.State.ready_write.Goals as goal
use Rattle.acap_store.specs.Planning.{plan}

pub ready_change-requires : goal.ready_change-requires
ready_change-requires g c = record {
  sound = sound_step c.sound_law.ensures c.args.self.now.machine c.in_ok-user.user.now c.args.write c.args.clock c.in-Ok.change c.kept_law.ensures.kept.sound.store
      c.form_law.ensures c.form_write.ensures
      (sym (ap (λ s. plan s.machine.store s.machine.realm c.in_ok-user.user.now c.args.write c.args.clock) c.state.view_is) ∙ c.in-Ok.ensures);
}
