-- The arguments of commands: names, numbers, times, comparators, objects [RFC 2244 sections 2.2, 3, 6 and 8].
use Rattle.std.specs.Prelude.{ℕ, ℤ, List, [], ◌∷◌, ◌++◌, Bool, true, false, ◌&&◌, Option, Some, None, Result}
use Rattle.std.specs.Prelude.{Ok, Err, if◌then◌else◌}
use Rattle.std.specs.List.{list_all}
use Rattle.std.specs.Char.{is_ascii_digit}
use Rattle.acap_lexer.specs.Reading.{count_of}
use Rattle.acap_lexer.specs.Token.{Token}
use Rattle.acap_order.specs.Ranks.{is_numeric}
use Rattle.acap_order.specs.Spellings.{comparator_of}
use Rattle.acap_order.specs.declared.comparator.Comparator.{Comparator}
use Rattle.acap_entries.specs.Names.{is_path, is_attribute, is_dataset_argument, is_entry_name}
use Rattle.acap_entries.specs.Names.{is_context_name, dataset_of, name_of, with_slash, begins_with, slash}
use Rattle.acap_entries.specs.Times.{time_of}
use Rattle.acap_entries.specs.declared.path.Path.{Path}
use Rattle.acap_grammar.specs.declared.command_fault.CommandFault.{CommandFault}
use Rattle.acap_grammar.specs.declared.command_fault.CommandFault.TheVariants as fault
use Rattle.acap_commands.specs.declared.object_name.ObjectName.{ObjectName}
use Rattle.acap_commands.specs.declared.object_name.ObjectName.TheVariants as object_name
use Rattle.acap_commands.specs.declared.test.Relation.{Relation}
use Rattle.acap_commands.specs.declared.test.Relation.TheVariants as relation
use Rattle.acap_commands.specs.declared.target.Target.{Target}
use Rattle.acap_commands.specs.declared.target.Target.TheVariants as target
use Rattle.acap_grammar.specs.Outcome.{◌>>=◌, Read, fault_here, verdict_at}
use Rattle.acap_grammar.specs.Marks.{is_word, is_open, is_close, starts, behind, string_at}

-- what is there, or else a fault
abbrev pub or_fault : {A : Type 0} → CommandFault → Option A → Result A CommandFault
or_fault fault None = Err fault
or_fault fault (Some x) = Ok x

-- a text, if it is such a name
abbrev pub if_named : {A : Type 0} → Bool → A → Result A CommandFault
if_named good name = if good then Ok name else Err fault.BadName

-- names as they are sent
unfoldable pub path_named : List ℕ → Result Path CommandFault
path_named text = if_named (is_path text) (record { dataset = dataset_of text; name = name_of text })

unfoldable pub attribute_named : List ℕ → Result (List ℕ) CommandFault
attribute_named text = if_named (is_attribute text) text

unfoldable pub dataset_named : List ℕ → Result (List ℕ) CommandFault
dataset_named text = if_named (is_dataset_argument text) (with_slash text)

unfoldable pub context_named : List ℕ → Result (List ℕ) CommandFault
context_named text = if_named (is_context_name text) text

-- the name of an entry in a dataset: together they are a path as it may be sent
unfoldable pub entry_named : List ℕ → List ℕ → Result (List ℕ) CommandFault
entry_named dataset text = if_named (is_entry_name text && is_path (dataset ++ text)) text

-- what is looked through: a name that begins `/` is a dataset's
unfoldable pub target_named : List ℕ → Result Target CommandFault
target_named text =
    if begins_with slash text then (dataset_named text >>= λ dataset. Ok (target.Dataset dataset))
    else (context_named text >>= λ name. Ok (target.Context name))

-- a string that is such a name
unfoldable pub named_at : {A : Type 0} → (List ℕ → Result A CommandFault) → List Token → Read A
named_at named tokens = do
  text ← string_at tokens
  name ← verdict_at tokens (named text.0)
  Ok (name, text.1)

-- a number: a word of 1 to 10 digits up to 4294967295
abbrev pub number_in : List ℕ → Option ℕ
number_in text = if list_all is_ascii_digit text then count_of text else None

unfoldable pub number_at : List Token → Read ℕ
number_at [] = fault_here [] fault.Arguments
number_at (t ∷ rest) =
    if is_word t.kind then (verdict_at (t ∷ rest) (or_fault fault.Arguments (number_in t.value))
    >>= λ x. Ok (x, rest))
    else fault_here (t ∷ rest) fault.Arguments

-- a time
abbrev pub time_named : List ℕ → Result ℤ CommandFault
time_named text = or_fault fault.BadTime (time_of text)

-- a comparator
abbrev pub comparator_named : List ℕ → Result Comparator CommandFault
comparator_named text = or_fault fault.BadComparator (comparator_of text)

-- numbers have no fronts and no parts
abbrev pub is_of_texts : Relation → Bool
is_of_texts relation.Begins = true
is_of_texts relation.Contains = true
is_of_texts _ = false

-- a comparator for a relation
unfoldable pub comparator_for : Relation → List ℕ → Result Comparator CommandFault
comparator_for relation text = do
  comparator ← comparator_named text
  if is_of_texts relation && is_numeric comparator.collation then Err fault.BadComparator else Ok comparator

-- an object: `(` dataset [attribute [entry name]] `)`
unfoldable pub entry_part : List ℕ → List ℕ → List Token → Read ObjectName
entry_part dataset attribute tokens =
    if starts is_close tokens then Ok (object_name.Attribute dataset attribute, tokens)
    else (named_at (entry_named dataset) tokens
    >>= λ name. Ok (object_name.Entry dataset attribute name.0, name.1))

unfoldable pub attribute_part : List ℕ → List Token → Read ObjectName
attribute_part dataset tokens =
    if starts is_close tokens then Ok (object_name.Dataset dataset, tokens)
    else (named_at attribute_named tokens >>= λ attribute. entry_part dataset attribute.0 attribute.1)

unfoldable pub object_at : List Token → Read ObjectName
object_at tokens = do
  inside ← behind is_open tokens
  dataset ← named_at dataset_named inside
  object ← attribute_part dataset.0 dataset.1
  left ← behind is_close object.1
  Ok (object.0, left)
