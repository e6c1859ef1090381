use Rattle.std.proofs.Common.{ℕ, arith, length-take, length-drop}
use Rattle.acap_lexer.proofs.StepLaws.{at_ok, opens_sound, opens_nearer}
use Rattle.acap_lexer.proofs.stages.part_step.Goals as goal

pub returns-in-At-clause-sound : goal.returns-in-At-clause-sound
returns-in-At-clause-sound c =
    at_ok _ _ _ (opens_sound _ _ _ (omega (arith, length-take {A = ℕ}, length-drop {A = ℕ}, c.in-At.ensures.places, c.requires.sound.within))) c.read_whole.ensures.opens

pub returns-in-At-clause-nearer : goal.returns-in-At-clause-nearer
returns-in-At-clause-nearer c =
    at_ok _ _ _ (opens_nearer _ _ c.args.scan.now _ (omega arith) (omega (arith, length-take {A = ℕ}, length-drop {A = ℕ}, c.in-At.ensures.places, c.requires.sound.within))) c.read_whole.ensures.opens
