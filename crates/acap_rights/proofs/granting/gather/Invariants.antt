use Rattle.std.proofs.Common.{◌≡◌, drop}
use Rattle.acap_rights.specs.Pairs as rule
use Rattle.acap_rights.specs.Rights.{union}
use Rattle.acap_rights.proofs.granting.gather.Given as goal

abbrev pub invariant-loop-text : goal.invariant-loop-text
invariant-loop-text l = record {
  given : union l.given (rule.rights_given l.realm l.user (drop l.text-index l.acl)) ≡ rule.rights_given l.realm l.user l.acl;
  taken : union l.taken (rule.rights_taken l.realm l.user (drop l.text-index l.acl)) ≡ rule.rights_taken l.realm l.user l.acl;
}
