-- How a string that is no name, or no memory for it, is refused.
use Rattle.acap_entries.specs.declared.name_fault.NameFault.{NameFault}
use Rattle.acap_entries.specs.declared.name_fault.NameFault.TheVariants as unread
use Rattle.acap_grammar.specs.declared.command_fault.CommandFault.TheVariants as fault
use Rattle.acap_grammar.specs.declared.grammar_fault.GrammarFault.{GrammarFault}
use Rattle.acap_grammar.specs.declared.grammar_fault.GrammarFault.TheVariants as error

abbrev pub name_error : NameFault → GrammarFault
name_error unread.BadName = error.Fault fault.BadName
name_error unread.Memory = error.Memory
