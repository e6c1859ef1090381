use Rattle.std.proofs.Common.{refl}
use Rattle.std.proofs.Math.Bool.{and-true}
use Rattle.acap_entries.specs.Names.{dataset_of, name_of}
use Rattle.acap_entries.proofs.laws.existence_law.Goals as goal

pub returns : goal.returns
unfolding dataset_of name_of
returns c = record {
  dot = refl;
  nothing = refl;
  nil = refl;
  text = refl;
  no_string = refl;
  two_dots = refl;
  twice = refl;
  present = λ e h. rw h (and-true e.present);
  without = λ e h p. rw (h, p) refl;
  root = λ records. refl;
  made = λ records e h. rw h refl;
  missing = λ records h. rw h refl;
  unclosed = λ records. refl;
}
