-- An event that is asked awaits its answer.
use Rattle.std.proofs.Common.{ℕ, Vec, Result, Ok, Err, IfOk, sym, subst}
use Rattle.std.specs.declared.alloc.Global.{Global}
use Rattle.std.specs.declared.alloc.AllocError.{AllocError as Memory}
use Rattle.acap_dialogue.specs.Saying.{Makes, heard_of}
use Rattle.acap_dialogue.specs.Session.{Awaits}
use Rattle.acap_dialogue.specs.Talking.{Talking}
use Rattle.acap_dialogue.specs.declared.next.Heard.{Heard}
use Rattle.acap_dialogue.specs.declared.next.Next.{Next}
use Rattle.acap_dialogue.specs.declared.next.Next.TheVariants as next
use Rattle.acap_task.specs.Hearing.{AwaitsBy}

awaits_heard : (n : Next) (t : Talking) → Awaits n t → AwaitsBy (heard_of n) t
awaits_heard (next.Ask event) t a = a
awaits_heard other t a = tt

pub awaits_as : (x : Next × Talking) (r : Result Heard Memory) (before after : Talking) (out written : Vec ℕ Global) → Makes x r before after out written → Awaits x.0 x.1
    → IfOk r (λ heard. AwaitsBy heard after)
awaits_as x (Ok told) before after out written made a =
    subst (λ h. AwaitsBy h after) (sym made.0) (subst (λ t. AwaitsBy (heard_of x.0) t) (sym made.1) (awaits_heard x.0 x.1 a))
awaits_as x (Err memory) before after out written made a = tt
