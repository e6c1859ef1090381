use Rattle.std.proofs.Common.{refl}
use Rattle.std.specs.Str.{is_utf8, chars}
use Rattle.std.specs.Char.{encode_utf8}
use Rattle.acap_entries.specs.Names.{is_component, is_attribute, is_identity, is_user_name, is_context_name}
use Rattle.acap_entries.proofs.laws.name_examples.Goals as goal

pub returns : goal.returns
unfolding is_attribute is_identity is_user_name is_context_name is_component is_utf8 chars encode_utf8
returns c = record { attribute = refl; slashed = refl; empty_attribute = refl; starred = refl; percent = refl; nul_attribute = refl; attribute_bytes = refl; longest_attribute = refl; long_attribute = refl; user = refl; longest_user = refl; long_user = refl; empty_user = refl; anyone = refl; tilde = refl; negative = refl; spaced = refl; tabbed = refl; slashed_user = refl; dotted_user = refl; grouped_user = refl; unnamed_group = refl; group_itself = refl; upper_group = refl; context = refl; empty_context = refl; slashed_context = refl; longest_context = refl; long_context = refl }
