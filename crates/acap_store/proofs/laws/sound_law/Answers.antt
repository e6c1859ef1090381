use Rattle.acap_store.proofs.SoundLaws.{sound_law}
use Rattle.acap_store.proofs.laws.sound_law.Goals as goal

pub returns : goal.returns
returns c = sound_law
