-- What the machine says to a command completes it.
use Rattle.std.proofs.Common.{◌≡◌, true, refl}
use Rattle.acap_machine.specs.Completing.{completes, CompletingLaw}
use Rattle.acap_machine.specs.Machine.{user_at}
use Rattle.acap_machine.specs.Serving.{answer_to}
use Rattle.acap_machine.specs.Stepping.{reply_of}
use Rattle.acap_machine.proofs.ServedLemmas.{served_keeps}
use Rattle.acap_machine.proofs.StepLaws.{by_keeps}

pub completing : CompletingLaw
completing m seat c clock reply new e =
    by_keeps (λ r n. completes r.said ≡ true) (user_at m seat) (λ user. reply_of (answer_to m seat user c clock)) reply new
    (λ user at. served_keeps (λ w n. completes w ≡ true) m seat user c clock (record {
      words = λ w good. good;
      changes = λ done write change w e. refl;
      makes = λ make query found seats none e. refl;
      frees = λ name seats e. refl;
      updates = λ names told seats e. refl;
    })) e
