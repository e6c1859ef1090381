use Rattle.std.proofs.Common.{refl}
use Rattle.std.specs.Str.{is_utf8, chars}
use Rattle.std.specs.Char.{encode_utf8}
use Rattle.acap_entries.specs.Names.{is_component, components, dataset_of, name_of, is_path}
use Rattle.acap_entries.proofs.laws.path_examples.Goals as goal

pub returns : goal.returns
unfolding is_path dataset_of name_of components is_component is_utf8 chars encode_utf8
returns c = record { plain = refl; management = refl; root = refl; letters = refl; sixteen = refl; sixteen_steps = refl; seventeen = refl; longest = refl; too_long = refl; relative = refl; nothing = refl; empty_component = refl; dotted = refl; dotted_name = refl; with_nul = refl; not_utf8 = refl; surrogate = refl }
