use Rattle.std.proofs.Common.{refl}
use Rattle.acap_grammar.specs.Printed.{printed_list_after}
use Rattle.acap_client.proofs.laws.following_examples.Goals as goal

pub returns : goal.returns
unfolding printed_list_after
returns c = record {
  made = refl;
  waits = refl;
  replaced = refl;
  refused = refl;
  added = refl;
  complete = refl;
  since = refl;
  moved = refl;
  misfit = refl;
  stays = refl;
  freed = refl;
  other_text = refl;
}
