-- The examples, by computation.
use Rattle.std.proofs.Common.{refl}
use Rattle.std.specs.Str.{is_utf8, chars}
use Rattle.std.specs.Char.{encode_utf8}
use Rattle.hex.specs.Hex.{decode_pairs}
use Rattle.acap_entries.specs.Names.{is_component, is_identity, is_user_name}
use Rattle.acap_script.specs.Examples.{LineExamples}
use Rattle.acap_script.specs.Lines.{line_of}

pub line_examples : LineExamples
unfolding line_of is_user_name is_identity is_component is_utf8 chars encode_utf8 decode_pairs
line_examples = record {
  nothing = refl;
  remark = refl;
  user = refl;
  no_secret = refl;
  admin = refl;
  group = refl;
  host = refl;
  clock = refl;
  last_moment = refl;
  nonce = refl;
  opened = refl;
  entered = refl;
  sent = refl;
  nothing_sent = refl;
  raw = refl;
  piece = refl;
  turned = refl;
  drained = refl;
  left = refl;
  no_space = refl;
  unknown = refl;
  upper_case = refl;
  two_spaces = refl;
  no_digits = refl;
  behind_digits = refl;
  signed = refl;
  seat_64 = refl;
  past_the_last_moment = refl;
  past_the_last_nonce = refl;
  no_name = refl;
  group_as_user = refl;
  odd_digits = refl;
}
