-- The entries of a STORE [RFC 2244 sections 6.6.1 and 8].
use Rattle.std.specs.Prelude.{ℕ, List, [], ◌∷◌, ◌++◌, drop, codes, is_none, is_some, Bool, true, false, ◌&&◌}
use Rattle.std.specs.Prelude.{Option, Some, None, Result, Ok, Err, if◌then◌else◌}
use Rattle.std.specs.List.{list_any}
use Rattle.std.specs.Str.{bytes_eq}
use Rattle.acap_lexer.specs.Token.{Token}
use Rattle.acap_entries.specs.declared.record.Cell.TheVariants as cell
use Rattle.acap_entries.specs.declared.path.Path.{Path}
use Rattle.acap_commands.specs.EntryOrder.{has_path}
use Rattle.acap_commands.specs.Modifiers.{unconditional}
use Rattle.acap_commands.specs.declared.store.Given.{Given}
use Rattle.acap_commands.specs.declared.store.Given.TheVariants as given
use Rattle.acap_grammar.specs.declared.command_fault.CommandFault.{CommandFault}
use Rattle.acap_grammar.specs.declared.command_fault.CommandFault.TheVariants as fault
use Rattle.acap_commands.specs.declared.store.StoreEntry.{StoreEntry}
use Rattle.acap_commands.specs.declared.store.StoreItem.{StoreItem}
use Rattle.acap_commands.specs.declared.store.StoreMetadata.{StoreMetadata}
use Rattle.acap_commands.specs.declared.store.StoreMetadata.TheVariants as metadata
use Rattle.acap_commands.specs.declared.store.StoreModifiers.{StoreModifiers}
use Rattle.acap_grammar.specs.declared.storing.Gifts.{Gifts}
use Rattle.acap_grammar.specs.declared.words.StoreWord.{StoreWord}
use Rattle.acap_grammar.specs.declared.words.StoreWord.TheVariants as store_word
use Rattle.acap_grammar.specs.Outcome.{◌>>=◌, Read, fault_here, verdict_at}
use Rattle.acap_grammar.specs.Several.{several, some_of, in_parenthesis}
use Rattle.acap_grammar.specs.Marks.{is_string, is_open, is_close, ends, starts, behind, string_at, text_in}
use Rattle.acap_grammar.specs.Marks.{word_at}
use Rattle.acap_grammar.specs.Arguments.{or_fault, path_named, attribute_named, named_at, time_named}
use Rattle.acap_grammar.specs.Limits.{store_entries, store_items}

-- ---- what may stand once

-- a fault where it stood before
abbrev pub once : Bool → Result (Unit {0}) CommandFault
once stood = if stood then Err fault.NotPermittedTwice else Ok tt

-- whether an item with this attribute, or one with the same metadata, stands among those before
unfoldable pub has_attribute : List ℕ → List StoreItem → Bool
has_attribute attribute seen = list_any (λ i. bytes_eq i.attribute attribute) seen

abbrev pub same_metadata : StoreMetadata → StoreMetadata → Bool
same_metadata metadata.Value metadata.Value = true
same_metadata metadata.Acl metadata.Acl = true
same_metadata _ _ = false

unfoldable pub has_item : List ℕ → StoreMetadata → List StoreItem → Bool
has_item attribute metadata seen =
    list_any (λ i. bytes_eq i.attribute attribute && same_metadata i.metadata metadata) seen

-- ---- what is given

-- the strings up to the parenthesis that closes them, after those before
unfoldable pub strings_at : List (List ℕ) → List Token → Read (List (List ℕ))
strings_at seen [] = fault_here [] fault.Arguments
strings_at seen (t ∷ rest) =
    if is_close t.kind then Ok (seen, rest)
    else (if is_string t.kind then strings_at (seen ++ t.value ∷ []) rest
    else fault_here (t ∷ rest) fault.Arguments)

-- the words that are given in place of a string
abbrev pub given_words : List (List ℕ × Given)
given_words = (codes "NIL", given.Put cell.Nil) ∷ (codes "DEFAULT", given.Default) ∷ []

-- a string, NIL or DEFAULT
unfoldable pub plain_at : List Token → Read Given
plain_at tokens =
    if starts is_string tokens then (string_at tokens >>= λ x. Ok (given.Put (cell.Single x.0), x.1))
    else verdict_at tokens (or_fault fault.Arguments (word_at given_words tokens))

-- one of these, or a list: `(` string* `)`
unfoldable pub given_at : List Token → Read Given
given_at tokens =
    if starts is_open tokens then (strings_at [] (drop 1 tokens)
    >>= λ x. Ok (given.Put (cell.Multi x.0), x.1))
    else plain_at tokens

-- ---- an item: what an attribute is given

abbrev pub store_metadata : List (List ℕ × StoreMetadata)
store_metadata = (codes "value", metadata.Value) ∷ (codes "acl", metadata.Acl) ∷ []

abbrev pub metadata_named : List ℕ → Result StoreMetadata CommandFault
metadata_named text = or_fault fault.Arguments (text_in store_metadata text)

-- one thing more for an attribute, after what is given before
abbrev pub with_gift : Gifts → StoreMetadata → Given → List StoreItem
with_gift seen stored given =
    seen.items ++ record { attribute = seen.attribute; metadata = stored; given = given } ∷ []

-- what an attribute is given, after what those before it
-- are given: metadata that it doesn't have yet, and a value
unfoldable pub gift_at : Gifts → List Token → Read Gifts
gift_at seen tokens = do
  metadata ← named_at metadata_named tokens
  new ← verdict_at tokens (once (has_item seen.attribute metadata.0 seen.items))
  given ← given_at metadata.1
  Ok (record seen { items = with_gift seen metadata.0 given.0 }, given.1)

-- after an attribute: what its value is given, or `(` (metadata given)+ `)`. There are two metadata and each
-- may stand once, so that a third is refused for itself.
unfoldable pub gifts_at : Gifts → List Token → Read (List StoreItem)
gifts_at seen tokens =
    if starts is_open tokens then (in_parenthesis (starts is_close) (starts is_string) gift_at 3 seen tokens
    >>= λ x. Ok (x.0.items, x.1))
    else (plain_at tokens >>= λ x. Ok (with_gift seen metadata.Value x.0, x.1))

-- an attribute that isn't among those before, and what it is given
unfoldable pub item_at : List StoreItem → List Token → Read (List StoreItem)
item_at seen tokens = do
  attribute ← named_at attribute_named tokens
  new ← verdict_at tokens (once (has_attribute attribute.0 seen))
  gifts_at (record { attribute = attribute.0; items = seen }) attribute.1

-- one attribute or more, up to the parenthesis that closes the entry
unfoldable pub items_at : List Token → Read (List StoreItem)
items_at tokens = some_of (starts is_close) (starts is_string) item_at store_items [] tokens

-- ---- modifiers

abbrev pub store_words : List (List ℕ × StoreWord)
store_words = (codes "NOCREATE", store_word.NoCreate) ∷ (codes "UNCHANGEDSINCE", store_word.UnchangedSince)
    ∷ []

-- whether that modifier stands among those before
abbrev pub has_condition : StoreModifiers → StoreWord → Bool
has_condition seen store_word.NoCreate = seen.no_create
has_condition seen store_word.UnchangedSince = is_some seen.unchanged_since

-- after the word of a modifier
unfoldable pub behind_condition : StoreModifiers → StoreWord → List Token → Read StoreModifiers
behind_condition seen store_word.NoCreate tokens = Ok (record seen { no_create = true }, tokens)
behind_condition seen store_word.UnchangedSince tokens =
    named_at time_named tokens >>= λ x. Ok (record seen { unchanged_since = Some x.0 }, x.1)

abbrev pub condition_by : StoreModifiers → List Token → Option (StoreWord × List Token) → Read StoreModifiers
condition_by seen tokens None = fault_here tokens fault.Arguments
condition_by seen tokens (Some x) =
    verdict_at tokens (once (has_condition seen x.0)) >>= λ new. behind_condition seen x.0 x.1

unfoldable pub condition_at : StoreModifiers → List Token → Read StoreModifiers
condition_at seen tokens = condition_by seen tokens (word_at store_words tokens)

-- whether no modifier stands first
unfoldable pub no_condition : List Token → Bool
no_condition tokens = is_none (word_at store_words tokens)

-- modifiers in any order. There are two and each may stand once, so that a third is refused for itself.
unfoldable pub conditions_at : List Token → Read StoreModifiers
conditions_at tokens = several no_condition no_condition condition_at 3 unconditional tokens

-- ---- entries

-- the path of an entry, which isn't among those before
unfoldable pub path_at : List StoreEntry → List Token → Read Path
path_at seen tokens = do
  path ← named_at path_named tokens
  new ← verdict_at tokens (once (has_path path.0 seen))
  Ok path

-- an entry: `(` path modifier* item+ `)`
unfoldable pub entry_at : List StoreEntry → List Token → Read (List StoreEntry)
entry_at seen tokens = do
  inside ← behind is_open tokens
  path ← path_at seen inside
  modifiers ← conditions_at path.1
  items ← items_at modifiers.1
  left ← behind is_close items.1
  Ok (seen ++ record { path = path.0; modifiers = modifiers.0; items = items.0 } ∷ [], left)

-- one entry or more, up to the end
unfoldable pub entries_at : List Token → Read (List StoreEntry)
entries_at tokens = some_of ends (starts is_open) entry_at store_entries [] tokens
