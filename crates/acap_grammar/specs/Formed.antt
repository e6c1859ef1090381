-- Which names are well formed, paths and datasets from their components on, and that those of a command are
-- [RFC 2244 sections 3.1, 3.1.1, 3.3 and 4.1].
use Rattle.std.specs.Prelude.{◌≡◌, ℕ, ◌<◌, ◌≤◌, ◌⊎◌, ◌↔◌, List, [], ◌∷◌, ◌++◌, length, slice_get, Some, Ok}
use Rattle.std.specs.List.{AllByRecursion}
use Rattle.std.specs.Str.{IsUtf8}
use Rattle.acap_lexer.specs.Token.{Token}
use Rattle.acap_entries.specs.Names.{slash, dot, star, percent, nul}
use Rattle.acap_entries.specs.declared.path.Path.{Path}
use Rattle.acap_commands.specs.declared.command.Command.{Command}
use Rattle.acap_commands.specs.declared.command.Command.TheVariants as command
use Rattle.acap_commands.specs.declared.object_name.ObjectName.{ObjectName}
use Rattle.acap_commands.specs.declared.object_name.ObjectName.TheVariants as object_name
use Rattle.acap_commands.specs.declared.returns.ReturnName.{ReturnName}
use Rattle.acap_commands.specs.declared.returns.ReturnName.TheVariants as name
use Rattle.acap_commands.specs.declared.target.Target.{Target}
use Rattle.acap_commands.specs.declared.target.Target.TheVariants as target
use Rattle.acap_grammar.specs.Arguments.{path_named, dataset_named, attribute_named, context_named}
use Rattle.acap_grammar.specs.Grammar.{command_of}
use Rattle.acap_grammar.specs.Searching.{return_named}
use Rattle.acap_grammar.specs.Spelling.{dataset_text, return_text}

-- ---- octets

-- none of them is that one, and the first isn't
abbrev pub Lacks : ℕ → List ℕ → Type 0
Lacks octet text = AllByRecursion (λ x. x ≡ octet → ⊥) text

abbrev pub BeginsOther : ℕ → List ℕ → Type 0
BeginsOther octet text = slice_get text 0 ≡ Some octet → ⊥

-- ---- paths

-- a component: one octet or more of UTF-8, none of them NUL or `/`, and the first no `.`
pub record IsComponent (text : List ℕ) : Type 0 where
  pub some : 0 < length text
  pub utf8 : IsUtf8 text
  pub no_nul : Lacks nul text
  pub no_slash : Lacks slash text
  pub no_dot : BeginsOther dot text

-- a dataset is a slash and then its components, each closed by a slash
abbrev pub closed_each : List (List ℕ) → List ℕ
closed_each [] = []
closed_each (c ∷ components) = c ++ slash ∷ closed_each components

pub record IsMadeOf (components : List (List ℕ)) (dataset : List ℕ) : Type 0 where
  pub each : AllByRecursion IsComponent components
  pub whole : dataset ≡ slash ∷ closed_each components

-- A path as it may be sent: 1,024 octets at most, and 16
-- components, its name counted. The management entry has none.
pub record IsFormed (p : Path) : Type 0 where
  pub components : List (List ℕ)
  pub dataset : IsMadeOf components p.dataset
  pub name : ((p.name ≡ []) × (length components ≤ 16)) ⊎ (IsComponent p.name × (length components < 16))
  pub octets : length (p.dataset ++ p.name) ≤ 1024

-- a dataset as it may be sent: at most 16 components and 1,024 octets, its closing slash not counted
pub record IsFormedDataset (dataset : List ℕ) : Type 0 where
  pub components : List (List ℕ)
  pub is : IsMadeOf components dataset
  pub few : length components ≤ 16
  pub octets : length (dataset_text dataset) ≤ 1024

-- ---- other names

-- an attribute: 1 to 200 octets of UTF-8, none of them NUL, `*` or `%`
pub record IsFormedAttribute (text : List ℕ) : Type 0 where
  pub some : 0 < length text
  pub few : length text ≤ 200
  pub utf8 : IsUtf8 text
  pub no_nul : Lacks nul text
  pub no_star : Lacks star text
  pub no_percent : Lacks percent text

-- a context: 1 to 255 octets of UTF-8, the first no `/`
pub record IsFormedContext (text : List ℕ) : Type 0 where
  pub some : 0 < length text
  pub few : length text ≤ 255
  pub utf8 : IsUtf8 text
  pub no_slash : BeginsOther slash text

-- what a RETURN names: an attribute, or those whose names begin so, all of them where that is nothing
abbrev pub IsFormedReturn : ReturnName → Type 0
IsFormedReturn (name.Named attribute) = IsFormedAttribute attribute
IsFormedReturn (name.Beginning front) = (front ≡ []) ⊎ IsFormedAttribute front

-- Exactly these are read as names: an attribute and a context as they are, a path as its octets, a dataset
-- with its closing slash or without it, in 1,024 octets as it is sent, and what a RETURN names with a `*`
-- after the beginning of names.
pub record NamesLaw : Type 0 where
  pub attribute : (text a : List ℕ) → (attribute_named text ≡ Ok a) ↔ ((text ≡ a) × IsFormedAttribute a)
  pub context : (text c : List ℕ) → (context_named text ≡ Ok c) ↔ ((text ≡ c) × IsFormedContext c)
  pub path : (text : List ℕ) (p : Path) → (path_named text ≡ Ok p)
      ↔ ((text ≡ p.dataset ++ p.name) × IsFormed p)
  pub returned : (text : List ℕ) (n : ReturnName) → (return_named text ≡ Ok n)
      ↔ ((text ≡ return_text n) × IsFormedReturn n)
  pub dataset : (d : List ℕ) → (dataset_named (dataset_text d) ≡ Ok d) ↔ IsFormedDataset d
  pub closed : (d : List ℕ) → (dataset_named d ≡ Ok d) ↔ (IsFormedDataset d × (length d ≤ 1024))
  pub sent : (text d : List ℕ) → dataset_named text ≡ Ok d → (text ≡ d) ⊎ (text ≡ dataset_text d)

-- ---- commands

-- an object's dataset, and the path of its entry
abbrev pub IsFormedObject : ObjectName → Type 0
IsFormedObject (object_name.Dataset dataset) = IsFormedDataset dataset
IsFormedObject (object_name.Attribute dataset attribute) = IsFormedDataset dataset
IsFormedObject (object_name.Entry dataset attribute name) =
    IsFormedDataset dataset × IsFormed (record { dataset = dataset; name = name })

abbrev pub IsFormedTarget : Target → Type 0
IsFormedTarget (target.Dataset dataset) = IsFormedDataset dataset
IsFormedTarget (target.Context name) = Unit {0}

abbrev pub HasFormedPaths : Command → Type 0
HasFormedPaths (command.Store entries) = AllByRecursion (λ e. IsFormed e.path) entries
HasFormedPaths (command.Search s) = IsFormedTarget s.target
HasFormedPaths (command.SetAcl o identifier rights) = IsFormedObject o
HasFormedPaths (command.DeleteAcl o identifier) = IsFormedObject o
HasFormedPaths (command.MyRights o) = IsFormedObject o
HasFormedPaths (command.ListRights o identifier) = IsFormedObject o
HasFormedPaths (command.DeletedSince dataset since) = IsFormedDataset dataset
HasFormedPaths _ = Unit {0}

-- what is read as a command has no others
abbrev pub ReadsFormed : Type 0
ReadsFormed = (tokens : List Token) (c : Command) → command_of tokens ≡ Ok c → HasFormedPaths c
