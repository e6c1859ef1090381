-- The examples, by computation.
use Rattle.std.proofs.Common.{refl}
use Rattle.acap_lexer.specs.Octets.{is_word, is_quotable, is_escaped, is_digit}
use Rattle.acap_grammar.specs.Lines.{number_of}
use Rattle.acap_grammar.specs.Printed.{printed_list_after}
use Rattle.acap_wire.specs.Examples.{WireExamples}

pub wire_examples : WireExamples
unfolding is_word is_quotable is_escaped is_digit number_of printed_list_after
wire_examples = record { made = refl; first = refl; second = refl; fit = refl; after_drain = refl; after_literal = refl }
