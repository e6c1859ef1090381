-- The examples, by computation.
use Rattle.std.proofs.Common.{refl}
use Rattle.std.specs.Str.{is_utf8, chars}
use Rattle.std.specs.Char.{encode_utf8}
use Rattle.std.specs.Fmt.{digits}
use Rattle.acap_lexer.specs.Octets.{is_escaped}
use Rattle.acap_lexer.specs.Printing.{printed_form, literal, quoted_form, may_quote, is_printable}
use Rattle.acap_lexer.specs.Reading.{count_of, is_count}
use Rattle.acap_entries.specs.Names.{is_path, is_attribute, is_dataset_argument, is_context_name, is_component, components, dataset_of, name_of}
use Rattle.acap_entries.specs.Stamp.{stamp_of}
use Rattle.acap_entries.specs.Times.{is_civil, is_time, time_of}
use Rattle.acap_grammar.specs.Several.{several, some_of, in_parenthesis}
use Rattle.acap_grammar.specs.Marks.{ends, starts, behind, string_at, word_at, behind_word}
use Rattle.acap_grammar.specs.Arguments.{path_named, attribute_named, dataset_named, context_named, entry_named, target_named, named_at, number_at, comparator_for, entry_part, attribute_part, object_at}
use Rattle.acap_commands.specs.EntryOrder.{has_path}
use Rattle.acap_grammar.specs.Storing.{has_attribute, has_item, strings_at, plain_at, given_at, gift_at, gifts_at, item_at, items_at, behind_condition, condition_at, no_condition, conditions_at, path_at, entry_at, entries_at}
use Rattle.acap_grammar.specs.Keys.{value_part, meets_at, range_at, key_at, key_behind}
use Rattle.acap_grammar.specs.Searching.{return_named, metadata_at, metadata_part, return_at, returns_at, sort_at, sorts_at, limit_at, flag_at, make_context_at, behind_modifier, modifier_at, no_modifier, modifiers_at, search_at}
use Rattle.acap_grammar.specs.Grammar.{set_acl_at, delete_acl_at, list_rights_at, deleted_since_at, context_at, contexts_at, arguments_at, command_of}
use Rattle.acap_grammar.specs.Refusals.{code_of}
use Rattle.acap_grammar.specs.Replies.{list_form, cell_form, item_form, done_form, refused_form, said_form, about_form, position_form, added_form, removed_form, changed_form, upto_form, freed_form, updated_form, octets_of}
use Rattle.acap_grammar.specs.Examples.{LineExamples, LineFaults, LimitExamples, TextExamples, ToldExamples}

pub line_examples : LineExamples
unfolding is_utf8 chars encode_utf8 digits count_of is_count is_path is_attribute is_dataset_argument is_context_name is_component components dataset_of name_of is_civil is_time time_of several some_of in_parenthesis ends starts behind string_at word_at behind_word path_named attribute_named dataset_named context_named entry_named target_named named_at number_at comparator_for entry_part attribute_part object_at has_path has_attribute has_item strings_at plain_at given_at gift_at gifts_at item_at items_at behind_condition condition_at no_condition conditions_at path_at entry_at entries_at value_part meets_at range_at key_at key_behind return_named metadata_at metadata_part return_at returns_at sort_at sorts_at limit_at flag_at make_context_at behind_modifier modifier_at no_modifier modifiers_at search_at set_acl_at delete_acl_at list_rights_at deleted_since_at context_at contexts_at arguments_at command_of
line_examples = record {
  noop = refl;
  logout = refl;
  authenticate = refl;
  set_acl = refl;
  delete_acl = refl;
  my_rights = refl;
  list_rights = refl;
  deleted_since = refl;
  free_context = refl;
  update_context = refl;
  given = refl;
  modifiers = refl;
  notify_alone = refl;
  over_a_context = refl;
  equal = refl;
  compared = refl;
  parts = refl;
  joined = refl;
}

pub line_faults : LineFaults
unfolding is_utf8 chars encode_utf8 digits count_of is_count is_path is_attribute is_dataset_argument is_context_name is_component components dataset_of name_of is_civil is_time time_of several some_of in_parenthesis ends starts behind string_at word_at behind_word path_named attribute_named dataset_named context_named entry_named target_named named_at number_at comparator_for entry_part attribute_part object_at has_path has_attribute has_item strings_at plain_at given_at gift_at gifts_at item_at items_at behind_condition condition_at no_condition conditions_at path_at entry_at entries_at value_part meets_at range_at key_at key_behind return_named metadata_at metadata_part return_at returns_at sort_at sorts_at limit_at flag_at make_context_at behind_modifier modifier_at no_modifier modifiers_at search_at set_acl_at delete_acl_at list_rights_at deleted_since_at context_at contexts_at arguments_at command_of
line_faults = record {
  no_verb = refl;
  other_verb = refl;
  left_over = refl;
  no_items = refl;
  other_metadata = refl;
  nil_for_a_part = refl;
  depth_of_a_context = refl;
  context_of_a_context = refl;
  no_inherit_of_a_context = refl;
  limit_of_a_context = refl;
  great_number = refl;
  signed_number = refl;
  bad_time = refl;
  bad_comparator = refl;
  front_of_a_number = refl;
  part_of_a_number = refl;
  object_of_16 = refl;
  object_of_17 = refl;
  attribute_twice = refl;
  path_twice = refl;
  name_in_two_datasets = refl;
  condition_twice = refl;
  metadata_twice = refl;
  contexts_twice = refl;
  before_its_value = refl;
  behind_its_name = refl;
}

pub limit_examples : LimitExamples
unfolding is_utf8 chars encode_utf8 digits count_of is_count is_path is_attribute is_dataset_argument is_context_name is_component components dataset_of name_of is_civil is_time time_of several some_of in_parenthesis ends starts behind string_at word_at behind_word path_named attribute_named dataset_named context_named entry_named target_named named_at number_at comparator_for entry_part attribute_part object_at has_path has_attribute has_item strings_at plain_at given_at gift_at gifts_at item_at items_at behind_condition condition_at no_condition conditions_at path_at entry_at entries_at value_part meets_at range_at key_at key_behind return_named metadata_at metadata_part return_at returns_at sort_at sorts_at limit_at flag_at make_context_at behind_modifier modifier_at no_modifier modifiers_at search_at set_acl_at delete_acl_at list_rights_at deleted_since_at context_at contexts_at arguments_at command_of
limit_examples = record {
  items_256 = refl;
  items_257 = refl;
  entries_256 = refl;
  entries_257 = refl;
  returns_256 = refl;
  returns_257 = refl;
  sorts_16 = refl;
  sorts_17 = refl;
  metadata_32 = refl;
  metadata_33 = refl;
  contexts_200 = refl;
  contexts_201 = refl;
}

pub text_examples : TextExamples
unfolding is_utf8 chars encode_utf8 is_escaped printed_form quoted_form may_quote is_printable code_of done_form refused_form said_form octets_of
text_examples = record {
  lexical_faults = refl;
  of_lines = refl;
  of_octets = refl;
  of_users = refl;
  of_stores = refl;
  done = refl;
  greeting = refl;
  left = refl;
  drained = refl;
}

pub told_examples : ToldExamples
unfolding is_utf8 chars encode_utf8 digits is_escaped printed_form literal quoted_form may_quote is_printable stamp_of list_form cell_form item_form done_form said_form about_form position_form added_form removed_form changed_form upto_form freed_form updated_form octets_of
told_examples = record {
  added = refl;
  starred = refl;
  nothing = refl;
  changed = refl;
  removed = refl;
  escaped = refl;
  literal = refl;
  freed = refl;
  freed_long = refl;
  updated = refl;
  updated_nothing = refl;
}
