-- The key of a SEARCH [RFC 2244 sections 6.4.1 and 8].
use Rattle.std.specs.Prelude.{ℕ, zero, suc, List, [], ◌∷◌, codes, Option, Some, None, Ok, if◌then◌else◌}
use Rattle.acap_lexer.specs.Token.{Token}
use Rattle.acap_order.specs.declared.comparator.Comparator.{Comparator}
use Rattle.acap_grammar.specs.declared.command_fault.CommandFault.TheVariants as fault
use Rattle.acap_commands.specs.declared.test.Relation.{Relation}
use Rattle.acap_commands.specs.declared.test.Relation.TheVariants as relation
use Rattle.acap_commands.specs.declared.test.Test.{Test}
use Rattle.acap_commands.specs.declared.test.Test.TheVariants as test
use Rattle.acap_grammar.specs.declared.words.KeyWord.{KeyWord}
use Rattle.acap_grammar.specs.declared.words.KeyWord.TheVariants as key_word
use Rattle.acap_grammar.specs.Outcome.{◌>>=◌, Read, fault_here}
use Rattle.acap_grammar.specs.Marks.{ends, string_at, behind_word, word_at}
use Rattle.acap_grammar.specs.Arguments.{attribute_named, named_at, number_at, time_named, comparator_for}
use Rattle.acap_commands.specs.Wanted.{Wanted, One, And, Or, Not}

abbrev pub key_words : List (List ℕ × KeyWord)
key_words =
    (codes "ALL", key_word.All) ∷ (codes "AND", key_word.And) ∷ (codes "OR", key_word.Or)
    ∷ (codes "NOT", key_word.Not)
    ∷ (codes "RANGE", key_word.Range) ∷ (codes "EQUAL", key_word.Meets relation.Equal)
    ∷ (codes "COMPARE", key_word.Meets relation.AtLeast)
    ∷ (codes "COMPARESTRICT", key_word.Meets relation.Greater)
    ∷ (codes "PREFIX", key_word.Meets relation.Begins)
    ∷ (codes "SUBSTRING", key_word.Meets relation.Contains) ∷ []

-- after a relation, its attribute and its comparator: a string, and for EQUAL also NIL
abbrev pub string_part : Relation → List ℕ → Comparator → List Token → Read Test
string_part relation attribute comparator tokens =
    string_at tokens >>= λ x. Ok (test.Meets relation attribute comparator x.0, x.1)

abbrev pub equal_part : List ℕ → Comparator → List Token → Option (List Token) → Read Test
equal_part attribute comparator tokens (Some rest) = Ok (test.IsNil attribute comparator, rest)
equal_part attribute comparator tokens None = string_part relation.Equal attribute comparator tokens

unfoldable pub value_part : Relation → List ℕ → Comparator → List Token → Read Test
value_part relation.Equal attribute comparator tokens =
    equal_part attribute comparator tokens (behind_word (codes "NIL") tokens)
value_part relation attribute comparator tokens = string_part relation attribute comparator tokens

-- after a relation: attribute comparator string
unfoldable pub meets_at : Relation → List Token → Read Test
meets_at relation tokens = do
  attribute ← named_at attribute_named tokens
  comparator ← named_at (comparator_for relation) attribute.1
  value_part relation attribute.0 comparator.0 comparator.1

-- after RANGE: number number time
unfoldable pub range_at : List Token → Read Test
range_at tokens = do
  first ← number_at tokens
  last ← number_at first.1
  since ← named_at time_named last.1
  Ok (test.Range first.0 last.0 since.0, since.1)

-- one test
abbrev pub one_of : Read Test → Read Wanted
one_of read = read >>= λ x. Ok (One x.0, x.1)

-- two keys, joined
abbrev pub two_of : (Wanted → Wanted → Wanted) → (List Token → Read Wanted) → List Token → Read Wanted
two_of join inner tokens = do
  first ← inner tokens
  second ← inner first.1
  Ok (join first.0 second.0, second.1)

-- after a word, where further keys are read so
unfoldable pub key_behind : (List Token → Read Wanted) → KeyWord → List Token → Read Wanted
key_behind inner key_word.All tokens = Ok (One test.All, tokens)
key_behind inner key_word.And tokens = two_of And inner tokens
key_behind inner key_word.Or tokens = two_of Or inner tokens
key_behind inner key_word.Not tokens = inner tokens >>= λ x. Ok (Not x.0, x.1)
key_behind inner key_word.Range tokens = one_of (range_at tokens)
key_behind inner (key_word.Meets relation) tokens = one_of (meets_at relation tokens)

abbrev pub key_by : (List Token → Read Wanted) → List Token → Option (KeyWord × List Token) → Read Wanted
key_by inner tokens None = fault_here tokens fault.Arguments
key_by inner tokens (Some x) = key_behind inner x.0 x.1

-- a key of at most `levels` levels; one level too many is refused at its first token, whatever it is
unfoldable pub key_at : ℕ → List Token → Read Wanted
key_at zero tokens = fault_here tokens (if ends tokens then fault.Arguments else fault.TooDeep)
key_at (suc levels) tokens = key_by (key_at levels) tokens (word_at key_words tokens)
