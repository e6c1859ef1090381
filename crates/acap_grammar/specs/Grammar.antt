-- Which command the tokens of a line stand for, and where they stand for none, the first fault from the left
-- [RFC 2244 sections 2.2, 6 and 8]. Each step gives a value and the tokens after it.
use Rattle.std.specs.Prelude.{ℕ, List, [], ◌∷◌, ◌++◌, drop, codes, Option, Some, None, Result, Ok, Err}
use Rattle.std.specs.Prelude.{if◌then◌else◌}
use Rattle.acap_lexer.specs.Token.{Token}
use Rattle.acap_commands.specs.declared.command.Command.{Command}
use Rattle.acap_commands.specs.declared.command.Command.TheVariants as command
use Rattle.acap_grammar.specs.declared.command_fault.CommandFault.{CommandFault}
use Rattle.acap_grammar.specs.declared.command_fault.CommandFault.TheVariants as fault
use Rattle.acap_commands.specs.declared.command.Verb.{Verb}
use Rattle.acap_commands.specs.declared.command.Verb.TheVariants as verb
use Rattle.acap_grammar.specs.Outcome.{◌>>=◌, Fault, Read, fault_here}
use Rattle.acap_grammar.specs.Several.{some_of}
use Rattle.acap_grammar.specs.Marks.{is_string, ends, starts, string_at, word_at}
use Rattle.acap_grammar.specs.Arguments.{dataset_named, context_named, named_at, time_named, object_at}
use Rattle.acap_grammar.specs.Storing.{entries_at}
use Rattle.acap_grammar.specs.Searching.{search_at}
use Rattle.acap_grammar.specs.Limits.{context_names}

abbrev pub verbs : List (List ℕ × Verb)
verbs =
    (codes "NOOP", verb.Noop) ∷ (codes "LOGOUT", verb.Logout) ∷ (codes "AUTHENTICATE", verb.Authenticate)
    ∷ (codes "STORE", verb.Store)
    ∷ (codes "SEARCH", verb.Search) ∷ (codes "SETACL", verb.SetAcl) ∷ (codes "DELETEACL", verb.DeleteAcl)
    ∷ (codes "MYRIGHTS", verb.MyRights)
    ∷ (codes "LISTRIGHTS", verb.ListRights) ∷ (codes "DELETEDSINCE", verb.DeletedSince)
    ∷ (codes "FREECONTEXT", verb.FreeContext)
    ∷ (codes "UPDATECONTEXT", verb.UpdateContext) ∷ []

-- after AUTHENTICATE: mechanism
abbrev pub authenticate_at : List Token → Read Command
authenticate_at tokens = string_at tokens >>= λ x. Ok (command.Authenticate x.0, x.1)

-- after SETACL: object identifier rights
unfoldable pub set_acl_at : List Token → Read Command
set_acl_at tokens = do
  object ← object_at tokens
  identifier ← string_at object.1
  rights ← string_at identifier.1
  Ok (command.SetAcl object.0 identifier.0 rights.0, rights.1)

-- after DELETEACL and its object: [identifier]
abbrev pub identifier_part : List Token → Read (Option (List ℕ))
identifier_part tokens = if ends tokens then Ok (None, tokens)
    else (string_at tokens >>= λ x. Ok (Some x.0, x.1))

-- after DELETEACL: object [identifier]
unfoldable pub delete_acl_at : List Token → Read Command
delete_acl_at tokens = do
  object ← object_at tokens
  identifier ← identifier_part object.1
  Ok (command.DeleteAcl object.0 identifier.0, identifier.1)

-- after LISTRIGHTS: object identifier
unfoldable pub list_rights_at : List Token → Read Command
list_rights_at tokens = do
  object ← object_at tokens
  identifier ← string_at object.1
  Ok (command.ListRights object.0 identifier.0, identifier.1)

-- after DELETEDSINCE: dataset time
unfoldable pub deleted_since_at : List Token → Read Command
deleted_since_at tokens = do
  dataset ← named_at dataset_named tokens
  since ← named_at time_named dataset.1
  Ok (command.DeletedSince dataset.0 since.0, since.1)

-- a context, after those before; they may be repeated
unfoldable pub context_at : List (List ℕ) → List Token → Read (List (List ℕ))
context_at seen tokens = named_at context_named tokens >>= λ x. Ok (seen ++ x.0 ∷ [], x.1)

-- one context or more, up to the end
unfoldable pub contexts_at : List Token → Read (List (List ℕ))
contexts_at tokens = some_of ends (starts is_string) context_at context_names [] tokens

-- after a verb
unfoldable pub arguments_at : Verb → List Token → Read Command
arguments_at verb.Noop tokens = Ok (command.Noop, tokens)
arguments_at verb.Logout tokens = Ok (command.Logout, tokens)
arguments_at verb.Authenticate tokens = authenticate_at tokens
arguments_at verb.Store tokens = entries_at tokens >>= λ x. Ok (command.Store x.0, x.1)
arguments_at verb.Search tokens = search_at tokens >>= λ x. Ok (command.Search x.0, x.1)
arguments_at verb.SetAcl tokens = set_acl_at tokens
arguments_at verb.DeleteAcl tokens = delete_acl_at tokens
arguments_at verb.MyRights tokens = object_at tokens >>= λ x. Ok (command.MyRights x.0, x.1)
arguments_at verb.ListRights tokens = list_rights_at tokens
arguments_at verb.DeletedSince tokens = deleted_since_at tokens
arguments_at verb.FreeContext tokens =
    named_at context_named tokens >>= λ x. Ok (command.FreeContext x.0, x.1)
arguments_at verb.UpdateContext tokens = contexts_at tokens >>= λ x. Ok (command.UpdateContext x.0, x.1)

-- a command takes all tokens up to the end
abbrev pub whole : Command × List Token → Result Command Fault
whole read = if ends read.1 then Ok read.0 else fault_here read.1 fault.Arguments

abbrev pub command_by : List Token → Option (Verb × List Token) → Result Command Fault
command_by tokens None = fault_here tokens fault.UnknownCommand
command_by tokens (Some x) = arguments_at x.0 x.1 >>= whole

-- The command of a line, whose first token is its tag, or its first fault and where that lies.
abbrev pub command_at : List Token → Result Command Fault
command_at tokens = command_by (drop 1 tokens) (word_at verbs (drop 1 tokens))

-- the same without the place
abbrev pub without_place : {A : Type 0} → Result A Fault → Result A CommandFault
without_place (Ok x) = Ok x
without_place (Err e) = Err e.fault

unfoldable pub command_of : List Token → Result Command CommandFault
command_of tokens = without_place (command_at tokens)
