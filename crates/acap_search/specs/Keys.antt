-- Which entries a key wants, of what is seen of them [RFC 2244 section 6.4.1].
use Rattle.std.specs.Prelude.{ℕ, Bool, true, false, not, ◌&&◌, ◌||◌, nat_le, List, Option, if◌then◌else◌}
use Rattle.std.specs.List.{list_any}
use Rattle.std.specs.Option.{option_map_or}
use Rattle.std.specs.Ordering.{is_ge, is_gt}
use Rattle.acap_entries.specs.declared.record.Cell.{Cell}
use Rattle.acap_entries.specs.declared.record.Cell.TheVariants.{Nil, Single, Multi}
use Rattle.acap_commands.specs.Wanted.{Wanted, One, And, Or, Not}
use Rattle.acap_commands.specs.declared.test.Relation.{Relation}
use Rattle.acap_commands.specs.declared.test.Relation.TheVariants as relation
use Rattle.acap_commands.specs.declared.test.Test.{Test}
use Rattle.acap_commands.specs.declared.test.Test.TheVariants as test
use Rattle.acap_order.specs.declared.comparator.Collation.{Collation}
use Rattle.acap_order.specs.declared.comparator.Collation.TheVariants.{Octet, AsciiCasemap, AsciiNumeric}
use Rattle.acap_order.specs.declared.comparator.Comparator.{Comparator}
use Rattle.acap_order.specs.Matching.{has_prefix, has_substring}
use Rattle.acap_order.specs.Ranks.{comparator_cmp, comparator_eq}
use Rattle.acap_search.specs.Sight.{Answers, is_nil}

-- how a string stands to the string of a key
abbrev pub stands_so : Relation → Comparator → List ℕ → List ℕ → Bool
stands_so relation.Equal comparator wanted text = comparator_eq comparator text wanted
stands_so relation.AtLeast comparator wanted text = is_ge (comparator_cmp comparator text wanted)
stands_so relation.Greater comparator wanted text = is_gt (comparator_cmp comparator text wanted)
stands_so relation.Begins comparator wanted text = has_prefix comparator text wanted
stands_so relation.Contains comparator wanted text = has_substring comparator text wanted

-- NIL stands in no relation, and a list in those of each of its strings
abbrev pub some_text : (List ℕ → Bool) → Cell → Bool
some_text passes Nil = false
some_text passes (Single text) = passes text
some_text passes (Multi texts) = list_any passes texts

-- EQUAL by octets, whatever the sign, is the one test that the right x is enough for
abbrev pub is_octet : Collation → Bool
is_octet Octet = true
is_octet AsciiCasemap = false
is_octet AsciiNumeric = false

abbrev pub is_equal : Relation → Bool
is_equal relation.Equal = true
is_equal relation.AtLeast = false
is_equal relation.Greater = false
is_equal relation.Begins = false
is_equal relation.Contains = false

-- what is tested of an attribute
abbrev pub tested_cell : Bool → Answers → List ℕ → Cell
tested_cell by_octets answers attribute = if by_octets then answers.test attribute else answers.read attribute

-- RANGE: from one position to another, both included, where there are positions
abbrev pub is_within : ℕ → ℕ → Option ℕ → Bool
is_within first last place =
    option_map_or (λ position. nat_le first position && nat_le position last) place false

-- one test of an entry, which has this place in the context that is looked through, or none in a dataset
abbrev pub passes : Test → Option ℕ → Answers → Bool
passes test.All place answers = true
passes (test.IsNil attribute comparator) place answers =
    is_nil (tested_cell (is_octet comparator.collation) answers attribute)
passes (test.Meets rel attribute comparator wanted) place answers =
    some_text (stands_so rel comparator wanted)
    (tested_cell (is_equal rel && is_octet comparator.collation) answers attribute)
passes (test.Range first last since) place answers = is_within first last place

-- whether an entry is wanted
abbrev pub holds : Wanted → Option ℕ → Answers → Bool
holds (One t) place answers = passes t place answers
holds (And a b) place answers = holds a place answers && holds b place answers
holds (Or a b) place answers = holds a place answers || holds b place answers
holds (Not a) place answers = not (holds a place answers)
