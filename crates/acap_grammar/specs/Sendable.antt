-- The commands that can be sent: names that are names, and no more
-- of anything than the limits allow [RFC 2244 sections 3, 6 and 8].
use Rattle.std.specs.Prelude.{◌≡◌, ℕ, zero, suc, ◌+◌, ◌≤◌, ◌<◌, List, [], ◌∷◌, ◌++◌, length, Bool, true}
use Rattle.std.specs.Prelude.{false, ◌&&◌, None, IfSome, Result, Ok, max}
use Rattle.std.specs.Str.{bytes_eq}
use Rattle.acap_lexer.specs.Token.{Token}
use Rattle.acap_order.specs.Ranks.{is_numeric}
use Rattle.acap_entries.specs.Moments.{IsMoment}
use Rattle.acap_commands.specs.declared.command.Command.{Command}
use Rattle.acap_commands.specs.declared.command.Command.TheVariants as command
use Rattle.acap_grammar.specs.declared.command_fault.CommandFault.{CommandFault}
use Rattle.acap_commands.specs.declared.search_modifiers.Limit.{Limit}
use Rattle.acap_commands.specs.declared.search_modifiers.MakeContext.{MakeContext}
use Rattle.acap_commands.specs.declared.object_name.ObjectName.{ObjectName}
use Rattle.acap_commands.specs.declared.object_name.ObjectName.TheVariants as object_name
use Rattle.acap_commands.specs.declared.returns.ReturnItem.{ReturnItem}
use Rattle.acap_commands.specs.declared.search.Search.{Search}
use Rattle.acap_commands.specs.declared.search_modifiers.SearchModifiers.{SearchModifiers}
use Rattle.acap_commands.specs.declared.search_modifiers.SortItem.{SortItem}
use Rattle.acap_commands.specs.declared.store.StoreEntry.{StoreEntry}
use Rattle.acap_commands.specs.declared.store.StoreItem.{StoreItem}
use Rattle.acap_commands.specs.declared.target.Target.{Target}
use Rattle.acap_commands.specs.declared.target.Target.TheVariants as target
use Rattle.acap_commands.specs.declared.test.Test.{Test}
use Rattle.acap_commands.specs.declared.test.Test.TheVariants as test
use Rattle.acap_grammar.specs.Arguments.{attribute_named, context_named, dataset_named, entry_named}
use Rattle.acap_grammar.specs.Arguments.{path_named, target_named, is_of_texts}
use Rattle.acap_grammar.specs.Grammar.{command_of}
use Rattle.acap_grammar.specs.Searching.{return_named}
use Rattle.acap_grammar.specs.Spelling.{dataset_text, return_text, target_text, tokens_of}
use Rattle.acap_commands.specs.EntryOrder.{has_path}
use Rattle.acap_grammar.specs.Storing.{has_attribute, same_metadata}
use Rattle.acap_commands.specs.Wanted.{Wanted, One, And, Or, Not}
use Rattle.acap_grammar.specs.Limits.{context_names, key_levels, metadata_items, return_items, sort_items}
use Rattle.acap_grammar.specs.Limits.{store_entries, store_items}

-- ---- in general

-- a text that is read as this name
abbrev pub Names : {A : Type 0} → (List ℕ → Result A CommandFault) → List ℕ → A → Type 0
Names named text name = named text ≡ Ok name

abbrev pub IsNumber : ℕ → Type 0
IsNumber n = n ≤ 4294967295

-- each of a list, with those before it
abbrev pub Each : {A : Type 0} → (List A → A → Type 0) → List A → List A → Type 0
Each Suits before [] = Unit {0}
Each Suits before (x ∷ rest) = Suits before x × Each Suits (before ++ x ∷ []) rest

-- one or more, at most `most`
abbrev pub OneTo : {A : Type 0} → ℕ → List A → Type 0
OneTo most list = (0 < length list) × (length list ≤ most)

-- one of two, by a test
abbrev pub InCase : Bool → Type 0 → Type 0 → Type 0
InCase true A B = A
InCase false A B = B

abbrev pub IsAttribute : List ℕ → Type 0
IsAttribute text = Names attribute_named text text

abbrev pub IsDataset : List ℕ → Type 0
IsDataset name = Names dataset_named (dataset_text name) name

-- ---- objects

abbrev pub IsObject : ObjectName → Type 0
IsObject (object_name.Dataset dataset) = IsDataset dataset
IsObject (object_name.Attribute dataset attribute) = IsDataset dataset × IsAttribute attribute
IsObject (object_name.Entry dataset attribute name) =
    IsDataset dataset × IsAttribute attribute × Names (entry_named dataset) name name

-- ---- STORE

-- an attribute that isn't among those before
abbrev pub IsNew : List StoreItem → StoreItem → Type 0
IsNew before i = IsAttribute i.attribute × (has_attribute i.attribute before ≡ false)

-- the items of at most `room` attributes, after those before:
-- each attribute is new, and its two items stand together
abbrev pub AreItems : ℕ → List StoreItem → List StoreItem → Type 0
AreItems room before [] = Unit {0}
AreItems zero before (i ∷ rest) = ⊥
AreItems (suc room) before (i ∷ []) = IsNew before i
AreItems (suc room) before (i ∷ j ∷ rest) =
    IsNew before i × InCase (bytes_eq i.attribute j.attribute)
    ((same_metadata i.metadata j.metadata ≡ false) × AreItems room (before ++ i ∷ j ∷ []) rest)
    (AreItems room (before ++ i ∷ []) (j ∷ rest))

-- an entry whose path isn't among those before
pub record IsEntry (before : List StoreEntry) (e : StoreEntry) : Type 0 where
  pub path : Names path_named (e.path.dataset ++ e.path.name) e.path
  pub new : has_path e.path before ≡ false
  pub since : IfSome e.modifiers.unchanged_since IsMoment
  pub some : 0 < length e.items
  pub items : AreItems store_items [] e.items

abbrev pub IsStore : List StoreEntry → Type 0
IsStore entries = OneTo store_entries entries × Each IsEntry [] entries

-- ---- SEARCH

abbrev pub IsLimit : Limit → Type 0
IsLimit l = IsNumber l.over × IsNumber l.most

abbrev pub IsContextName : List ℕ → Type 0
IsContextName text = Names context_named text text

abbrev pub IsContext : MakeContext → Type 0
IsContext m = IsContextName m.name

abbrev pub IsReturn : ReturnItem → Type 0
IsReturn r = Names return_named (return_text r.name) r.name × OneTo metadata_items r.metadata

abbrev pub AreReturns : List ReturnItem → Type 0
AreReturns returns = (length returns ≤ return_items) × Each (λ before r. IsReturn r) [] returns

abbrev pub AreSorts : List SortItem → Type 0
AreSorts sort = OneTo sort_items sort × Each (λ before s. IsAttribute s.attribute) [] sort

pub record AreModifiers (m : SearchModifiers) : Type 0 where
  pub depth : IfSome m.depth IsNumber
  pub hard_limit : IfSome m.hard_limit IsNumber
  pub limit : IfSome m.limit IsLimit
  pub make_context : IfSome m.make_context IsContext
  pub returns : IfSome m.returns AreReturns
  pub sort : IfSome m.sort AreSorts

-- DEPTH, MAKECONTEXT and NOINHERIT stand only over a dataset
abbrev pub Fits : Target → SearchModifiers → Type 0
Fits (target.Dataset dataset) m = Unit {0}
Fits (target.Context name) m = (m.depth ≡ None) × (m.make_context ≡ None) × (m.no_inherit ≡ false)

-- numbers have no fronts and no parts
abbrev pub IsTest : Test → Type 0
IsTest test.All = Unit {0}
IsTest (test.IsNil attribute comparator) = IsAttribute attribute
IsTest (test.Meets relation attribute comparator value) =
    IsAttribute attribute × (is_of_texts relation && is_numeric comparator.collation ≡ false)
IsTest (test.Range first last since) = IsNumber first × IsNumber last × IsMoment since

abbrev pub IsKey : Wanted → Type 0
IsKey (One t) = IsTest t
IsKey (And a b) = IsKey a × IsKey b
IsKey (Or a b) = IsKey a × IsKey b
IsKey (Not a) = IsKey a

abbrev pub levels : Wanted → ℕ
levels (One t) = 1
levels (And a b) = max (levels a) (levels b) + 1
levels (Or a b) = max (levels a) (levels b) + 1
levels (Not a) = levels a + 1

pub record IsSearch (s : Search) : Type 0 where
  pub target : Names target_named (target_text s.target) s.target
  pub modifiers : AreModifiers s.modifiers
  pub fits : Fits s.target s.modifiers
  pub key : IsKey s.key
  pub levels : levels s.key ≤ key_levels

-- ---- the table of commands

abbrev pub IsSendable : Command → Type 0
IsSendable command.Noop = Unit {0}
IsSendable command.Logout = Unit {0}
IsSendable (command.Authenticate mechanism) = Unit {0}
IsSendable (command.Store entries) = IsStore entries
IsSendable (command.Search s) = IsSearch s
IsSendable (command.SetAcl o identifier rights) = IsObject o
IsSendable (command.DeleteAcl o identifier) = IsObject o
IsSendable (command.MyRights o) = IsObject o
IsSendable (command.ListRights o identifier) = IsObject o
IsSendable (command.DeletedSince dataset since) = IsDataset dataset × IsMoment since
IsSendable (command.FreeContext name) = IsContextName name
IsSendable (command.UpdateContext names) =
    OneTo context_names names × Each (λ before name. IsContextName name) [] names

-- each of them is the command for which its plainest spelling stands
abbrev pub SpellsCommands : Type 0
SpellsCommands = (tag : List ℕ) (c : Command) → IsSendable c → command_of (tokens_of tag c) ≡ Ok c

-- and nothing else is read as a command
abbrev pub ReadsSendable : Type 0
ReadsSendable = (tokens : List Token) (c : Command) → command_of tokens ≡ Ok c → IsSendable c
