use Rattle.std.proofs.Common.{◌≡◌, take}
use Rattle.acap_client.proofs.data.Data.copy_tokens.Given as goal

abbrev pub invariant-loop-token : goal.invariant-loop-token
invariant-loop-token l = l.made.items ≡ take l.token-index l.token-items
