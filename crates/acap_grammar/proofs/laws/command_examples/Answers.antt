use Rattle.std.proofs.Common.{refl, arith}
use Rattle.std.specs.Str.{is_utf8, chars}
use Rattle.std.specs.Char.{encode_utf8}
use Rattle.acap_entries.specs.Names.{is_path, is_attribute, is_dataset_argument, is_component, components, dataset_of, name_of}
use Rattle.acap_grammar.specs.Several.{several, some_of, in_parenthesis}
use Rattle.acap_grammar.specs.Marks.{ends, starts, behind, string_at, word_at}
use Rattle.acap_grammar.specs.Arguments.{path_named, attribute_named, dataset_named, entry_named, target_named, named_at, number_at, entry_part, attribute_part, object_at}
use Rattle.acap_commands.specs.EntryOrder.{has_path}
use Rattle.acap_grammar.specs.Storing.{has_attribute, plain_at, gifts_at, item_at, items_at, condition_at, no_condition, conditions_at, path_at, entry_at, entries_at}
use Rattle.acap_grammar.specs.Keys.{key_at, key_behind}
use Rattle.acap_grammar.specs.Searching.{return_named, metadata_part, return_at, returns_at, sort_at, sorts_at, behind_modifier, modifier_at, no_modifier, modifiers_at, search_at}
use Rattle.acap_grammar.specs.Grammar.{delete_acl_at, arguments_at, command_of}
use Rattle.acap_grammar.proofs.laws.command_examples.Goals as goal

pub returns : goal.returns
unfolding is_utf8 chars encode_utf8 is_path is_attribute is_dataset_argument is_component components dataset_of name_of several some_of in_parenthesis ends starts behind string_at word_at path_named attribute_named dataset_named entry_named target_named named_at number_at entry_part attribute_part object_at has_path has_attribute plain_at gifts_at item_at items_at condition_at no_condition conditions_at path_at entry_at entries_at key_at key_behind return_named metadata_part return_at returns_at sort_at sorts_at behind_modifier modifier_at no_modifier modifiers_at search_at delete_acl_at arguments_at command_of
returns c = record {
  store = refl;
  search = refl;
  delete = refl;
  store_sendable = ((omega arith, omega arith), (record { path = refl; new = refl; since = tt; some = omega arith; items = (refl, refl) }, tt));
  search_sendable = record {
    target = refl;
    modifiers = record { depth = tt; hard_limit = tt; limit = tt; make_context = tt; returns = (omega arith, ((refl, (omega arith, omega arith)), ((refl, (omega arith, omega arith)), tt))); sort = tt };
    fits = tt;
    key = tt;
    levels = omega arith;
  };
  delete_sendable = (refl, refl, refl);
}
