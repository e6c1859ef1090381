use Rattle.std.proofs.Common.{◌≡◌, ◌≤◌, ◌+◌, ◌-◌, length, drop}
use Rattle.std.specs.List.{prefix_len}
use Rattle.acap_lexer.specs.Octets.{is_quotable}
use Rattle.acap_lexer.proofs.strings.plain_len.Given as goal

abbrev pub invariant-words : goal.invariant-words
invariant-words l = record {
  within : l.at ≤ length l.text;
  counted : prefix_len is_quotable l.text ≡ l.at + prefix_len is_quotable (drop l.at l.text);
}

abbrev pub decreases-words : goal.decreases-words
decreases-words l = length l.text - l.at
