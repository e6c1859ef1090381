-- How items stand one after the other: where they are over, and with what each begins.
use Rattle.std.specs.Prelude.{List, Bool}
use Rattle.acap_lexer.specs.Token.{Token}
use Rattle.acap_grammar.specs.declared.several.Series.{Series}
use Rattle.acap_grammar.specs.declared.several.Series.TheVariants as series
use Rattle.acap_grammar.specs.Marks.{is_string, is_open, is_close, ends, starts}
use Rattle.acap_grammar.specs.Searching.{no_modifier}
use Rattle.acap_grammar.specs.Storing.{no_condition}

-- whether no further item comes
abbrev pub over : Series → List Token → Bool
over series.Enclosed = starts is_close
over series.Strings = ends
over series.Entries = ends
over series.StoreModifiers = no_condition
over series.SearchModifiers = no_modifier

-- whether the first token is one with which an item begins, so that it is one item too many
abbrev pub fits : Series → List Token → Bool
fits series.Enclosed = starts is_string
fits series.Strings = starts is_string
fits series.Entries = starts is_open
fits series.StoreModifiers = no_condition
fits series.SearchModifiers = no_modifier
