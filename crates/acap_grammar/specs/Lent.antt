-- A reply whose tag is lent, and how its last line goes on after it.
use Rattle.std.specs.Prelude.{ℕ, List, ◌++◌, codes, Option, Some, None}
use Rattle.std.specs.Borrow.{Bor}
use Rattle.acap_lexer.specs.Printing.{printed_form}
use Rattle.acap_commands.specs.declared.reply.Reply.{Reply}
use Rattle.acap_commands.specs.declared.said.Said.{Said}
use Rattle.acap_commands.specs.declared.command.Verb.{Verb}
use Rattle.acap_grammar.specs.Replies.{crlf, done_of}

abbrev pub lent_tag : Option (Bor (List ℕ)) → Option (List ℕ)
lent_tag None = None
lent_tag (Some tag) = Some tag.now

-- what is said under a tag
abbrev pub reply_of : Option (Bor (List ℕ)) → Said → Reply
reply_of tag words = record { tag = lent_tag tag; said = words }

-- after the tag of a completion
abbrev pub completion_of : Verb → List ℕ
completion_of verb = codes " OK " ++ printed_form (done_of verb) ++ crlf
