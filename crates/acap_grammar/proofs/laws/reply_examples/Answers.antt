use Rattle.std.proofs.Common.{refl}
use Rattle.std.specs.Str.{is_utf8, chars}
use Rattle.std.specs.Char.{encode_utf8}
use Rattle.std.specs.Fmt.{digits}
use Rattle.acap_lexer.specs.Octets.{is_escaped}
use Rattle.acap_lexer.specs.Printing.{printed_form, quoted_form, may_quote, is_printable}
use Rattle.acap_entries.specs.Stamp.{stamp_of}
use Rattle.acap_grammar.specs.Refusals.{path_form, object_form, code_of}
use Rattle.acap_grammar.specs.Replies.{list_form, cell_form, item_form, row_form, last_form, done_form, refused_form, total_form, searched_form, found_form, deleted_name_form, deleted_form, rights_form, rights_list_form, challenge_form, good_bye_form, said_form, octets_of}
use Rattle.acap_grammar.proofs.laws.reply_examples.Goals as goal

pub returns : goal.returns
unfolding is_utf8 chars encode_utf8 digits is_escaped printed_form quoted_form may_quote is_printable stamp_of path_form object_form code_of list_form cell_form item_form row_form last_form done_form refused_form total_form searched_form found_form deleted_name_form deleted_form rights_form rights_list_form challenge_form good_bye_form said_form octets_of
returns c = record {
  stored = refl;
  found = refl;
  good_bye = refl;
  bad_tag = refl;
  too_long = refl;
  no_exist = refl;
  invalid = refl;
  permission = refl;
  permission_dataset = refl;
  permission_attribute = refl;
  modified = refl;
  too_old = refl;
  way_too_many = refl;
  try_free_context = refl;
  memory = refl;
  history_full = refl;
  too_many = refl;
  list_row = refl;
  nil_row = refl;
  several_row = refl;
  starred_row = refl;
  starred_nothing_row = refl;
  deleted = refl;
  rights = refl;
  rights_list = refl;
  challenge = refl;
}
