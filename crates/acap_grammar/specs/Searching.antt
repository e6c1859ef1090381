-- What a SEARCH asks for [RFC 2244 sections 6.4.1 and 8].
use Rattle.std.specs.Prelude.{ℕ, List, [], ◌∷◌, ◌++◌, ◌-◌, ◌==◌, length, take, codes, is_none, is_some, Bool}
use Rattle.std.specs.Prelude.{true, false, ◌&&◌, ◌||◌, Option, Some, None, Result, Ok, Err, if◌then◌else◌}
use Rattle.acap_lexer.specs.Token.{Token}
use Rattle.acap_entries.specs.Names.{is_attribute, ends_with, star}
use Rattle.acap_grammar.specs.declared.command_fault.CommandFault.{CommandFault}
use Rattle.acap_grammar.specs.declared.command_fault.CommandFault.TheVariants as fault
use Rattle.acap_commands.specs.declared.search_modifiers.Limit.{Limit}
use Rattle.acap_commands.specs.declared.search_modifiers.MakeContext.{MakeContext}
use Rattle.acap_commands.specs.declared.returns.Metadata.{Metadata}
use Rattle.acap_commands.specs.declared.returns.Metadata.TheVariants as metadata
use Rattle.acap_commands.specs.declared.returns.ReturnItem.{ReturnItem}
use Rattle.acap_commands.specs.declared.returns.ReturnName.{ReturnName}
use Rattle.acap_commands.specs.declared.returns.ReturnName.TheVariants as name
use Rattle.acap_commands.specs.declared.search.Search.{Search}
use Rattle.acap_grammar.specs.declared.searching.Scope.{Scope}
use Rattle.acap_commands.specs.Modifiers.{no_modifiers}
use Rattle.acap_commands.specs.declared.search_modifiers.SearchModifiers.{SearchModifiers}
use Rattle.acap_commands.specs.declared.search_modifiers.SortItem.{SortItem}
use Rattle.acap_commands.specs.declared.target.Target.{Target}
use Rattle.acap_commands.specs.declared.target.Target.TheVariants as target
use Rattle.acap_grammar.specs.declared.words.SearchWord.{SearchWord}
use Rattle.acap_grammar.specs.declared.words.SearchWord.TheVariants as search_word
use Rattle.acap_grammar.specs.Outcome.{◌>>=◌, Read, fault_here, verdict_at}
use Rattle.acap_grammar.specs.Several.{several, in_parenthesis}
use Rattle.acap_grammar.specs.Marks.{is_string, is_open, is_close, starts, behind, text_in, word_at}
use Rattle.acap_grammar.specs.Marks.{behind_word}
use Rattle.acap_grammar.specs.Arguments.{or_fault, if_named, attribute_named, context_named, target_named}
use Rattle.acap_grammar.specs.Arguments.{named_at, number_at, comparator_named}
use Rattle.acap_grammar.specs.Storing.{once}
use Rattle.acap_grammar.specs.Keys.{key_at}
use Rattle.acap_grammar.specs.Limits.{key_levels, metadata_items, return_items, sort_items}

-- ---- RETURN

-- an attribute, or with a `*` at its end those whose names begin so, all of them for `*` alone
unfoldable pub return_named : List ℕ → Result ReturnName CommandFault
return_named text =
    if ends_with star text
    then (let front = take (length text - 1) text
    in if_named (length front == 0 || is_attribute front) (name.Beginning front))
    else (attribute_named text >>= λ attribute. Ok (name.Named attribute))

abbrev pub metadata_names : List (List ℕ × Metadata)
metadata_names =
    (codes "acl", metadata.Acl) ∷ (codes "attribute", metadata.Attribute)
    ∷ (codes "myrights", metadata.MyRights) ∷ (codes "size", metadata.Size)
    ∷ (codes "value", metadata.Value) ∷ []

abbrev pub metadata_named : List ℕ → Result Metadata CommandFault
metadata_named text = or_fault fault.Arguments (text_in metadata_names text)

-- metadata, after those before; they may be repeated
unfoldable pub metadata_at : List Metadata → List Token → Read (List Metadata)
metadata_at seen tokens = named_at metadata_named tokens >>= λ x. Ok (seen ++ x.0 ∷ [], x.1)

-- what is sent where no metadata is asked for: of one attribute its value, of several each name and value
abbrev pub default_metadata : ReturnName → List Metadata
default_metadata (name.Named attribute) = metadata.Value ∷ []
default_metadata (name.Beginning front) = metadata.Attribute ∷ metadata.Value ∷ []

-- `(` metadata+ `)`, or nothing
unfoldable pub metadata_part : ReturnName → List Token → Read (List Metadata)
metadata_part name tokens =
    if starts is_open tokens
    then in_parenthesis (starts is_close) (starts is_string) metadata_at metadata_items [] tokens
    else Ok (default_metadata name, tokens)

-- an item, after those before; they may be repeated
unfoldable pub return_at : List ReturnItem → List Token → Read (List ReturnItem)
return_at seen tokens = do
  name ← named_at return_named tokens
  metadata ← metadata_part name.0 name.1
  Ok (seen ++ record { name = name.0; metadata = metadata.0 } ∷ [], metadata.1)

-- after RETURN: `(` item* `)`
unfoldable pub returns_at : List Token → Read (List ReturnItem)
returns_at tokens = do
  inside ← behind is_open tokens
  items ← several (starts is_close) (starts is_string) return_at return_items [] inside
  left ← behind is_close items.1
  Ok (items.0, left)

-- ---- SORT

-- an item, after those before: attribute comparator
unfoldable pub sort_at : List SortItem → List Token → Read (List SortItem)
sort_at seen tokens = do
  attribute ← named_at attribute_named tokens
  comparator ← named_at comparator_named attribute.1
  Ok (seen ++ record { attribute = attribute.0; comparator = comparator.0 } ∷ [], comparator.1)

-- after SORT: `(` item+ `)`
unfoldable pub sorts_at : List Token → Read (List SortItem)
sorts_at tokens = in_parenthesis (starts is_close) (starts is_string) sort_at sort_items [] tokens

-- ---- the other modifiers

-- after LIMIT: number number
unfoldable pub limit_at : List Token → Read Limit
limit_at tokens = do
  over ← number_at tokens
  most ← number_at over.1
  Ok (record { over = over.0; most = most.0 }, most.1)

-- whether that word stands first, and the tokens after it, or those where it doesn't
abbrev pub flag_by : List Token → Option (List Token) → Bool × List Token
flag_by tokens None = (false, tokens)
flag_by tokens (Some rest) = (true, rest)

unfoldable pub flag_at : List ℕ → List Token → Bool × List Token
flag_at word tokens = flag_by tokens (behind_word word tokens)

-- after MAKECONTEXT: [`ENUMERATE`] [`NOTIFY`] name
unfoldable pub make_context_at : List Token → Read MakeContext
make_context_at tokens =
    let enumerate = flag_at (codes "ENUMERATE") tokens in
    let notify = flag_at (codes "NOTIFY") enumerate.1 in
    (named_at context_named notify.1
    >>= λ x. Ok (record { enumerate = enumerate.0; notify = notify.0; name = x.0 }, x.1))

-- ---- all modifiers

abbrev pub search_words : List (List ℕ × SearchWord)
search_words =
    (codes "DEPTH", search_word.Depth) ∷ (codes "HARDLIMIT", search_word.HardLimit)
    ∷ (codes "LIMIT", search_word.Limit)
    ∷ (codes "MAKECONTEXT", search_word.MakeContext) ∷ (codes "NOINHERIT", search_word.NoInherit)
    ∷ (codes "RETURN", search_word.Return)
    ∷ (codes "SORT", search_word.Sort) ∷ []

-- whether that modifier stands among those before
abbrev pub has_modifier : SearchModifiers → SearchWord → Bool
has_modifier m search_word.Depth = is_some m.depth
has_modifier m search_word.HardLimit = is_some m.hard_limit
has_modifier m search_word.Limit = is_some m.limit
has_modifier m search_word.MakeContext = is_some m.make_context
has_modifier m search_word.NoInherit = m.no_inherit
has_modifier m search_word.Return = is_some m.returns
has_modifier m search_word.Sort = is_some m.sort

-- after the word of a modifier
unfoldable pub behind_modifier : SearchModifiers → SearchWord → List Token → Read SearchModifiers
behind_modifier m search_word.Depth tokens = number_at tokens >>= λ x. Ok (record m { depth = Some x.0 }, x.1)
behind_modifier m search_word.HardLimit tokens =
    number_at tokens >>= λ x. Ok (record m { hard_limit = Some x.0 }, x.1)
behind_modifier m search_word.Limit tokens = limit_at tokens >>= λ x. Ok (record m { limit = Some x.0 }, x.1)
behind_modifier m search_word.MakeContext tokens =
    make_context_at tokens >>= λ x. Ok (record m { make_context = Some x.0 }, x.1)
behind_modifier m search_word.NoInherit tokens = Ok (record m { no_inherit = true }, tokens)
behind_modifier m search_word.Return tokens =
    returns_at tokens >>= λ x. Ok (record m { returns = Some x.0 }, x.1)
behind_modifier m search_word.Sort tokens = sorts_at tokens >>= λ x. Ok (record m { sort = Some x.0 }, x.1)

-- DEPTH, MAKECONTEXT and NOINHERIT stand only over a dataset
abbrev pub is_of_datasets : SearchWord → Bool
is_of_datasets search_word.Depth = true
is_of_datasets search_word.MakeContext = true
is_of_datasets search_word.NoInherit = true
is_of_datasets _ = false

abbrev pub is_context : Target → Bool
is_context (target.Dataset dataset) = false
is_context (target.Context name) = true

-- a modifier that may stand over what is looked through, and didn't stand before
abbrev pub may_modify : Scope → SearchWord → Result (Unit {0}) CommandFault
may_modify s word = if is_context s.target && is_of_datasets word then Err fault.Arguments
    else once (has_modifier s.modifiers word)

abbrev pub modifier_by : Scope → List Token → Option (SearchWord × List Token) → Read Scope
modifier_by s tokens None = fault_here tokens fault.Arguments
modifier_by s tokens (Some x) = do
  new ← verdict_at tokens (may_modify s x.0)
  all ← behind_modifier s.modifiers x.0 x.1
  Ok (record s { modifiers = all.0 }, all.1)

unfoldable pub modifier_at : Scope → List Token → Read Scope
modifier_at s tokens = modifier_by s tokens (word_at search_words tokens)

-- whether no modifier stands first
unfoldable pub no_modifier : List Token → Bool
no_modifier tokens = is_none (word_at search_words tokens)

-- modifiers in any order. There are seven and each may stand once, so that an eighth is refused for itself.
unfoldable pub modifiers_at : Target → List Token → Read Scope
modifiers_at target tokens =
    several no_modifier no_modifier modifier_at 8 (record { target = target; modifiers = no_modifiers })
    tokens

-- ---- after SEARCH: (dataset or context) modifier* key
unfoldable pub search_at : List Token → Read Search
search_at tokens = do
  target ← named_at target_named tokens
  scope ← modifiers_at target.0 target.1
  key ← key_at key_levels scope.1
  Ok (record { target = scope.0.target; modifiers = scope.0.modifiers; key = key.0 }, key.1)
