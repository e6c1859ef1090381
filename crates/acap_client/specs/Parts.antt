-- Parts of the spelling of a command.
use Rattle.std.specs.Prelude.{◌≡◌, ◌≤◌, ℕ, List, ◌∷◌, ◌++◌, length, codes}
use Rattle.acap_lexer.specs.Token.{Token}
use Rattle.acap_grammar.specs.Spelling.{dataset, each, entry, gift, if_there, items, object, one_gift}
use Rattle.acap_grammar.specs.Spelling.{open_then, search_tokens}
use Rattle.acap_grammar.specs.Spelling.{shut, string, time}
use Rattle.acap_entries.specs.declared.path.Path.{Path}
use Rattle.acap_commands.specs.declared.store.StoreItem.{StoreItem}
use Rattle.acap_client.specs.Writing.{line_with}
use Rattle.acap_client.specs.declared.writing.Writing.{Writing}
use Rattle.acap_commands.specs.declared.command.Command.{Command}
use Rattle.acap_commands.specs.declared.command.Command.TheVariants as command
use Rattle.acap_commands.specs.declared.object_name.ObjectName.{ObjectName}
use Rattle.acap_commands.specs.declared.object_name.ObjectName.TheVariants as object_name

-- what an object is, without its parentheses
abbrev pub parts : ObjectName → List Token → List Token
parts (object_name.Dataset of) after = dataset of after
parts (object_name.Attribute of attribute) after = dataset of (string attribute after)
parts (object_name.Entry of attribute name) after = dataset of (string attribute (string name after))

-- a path, an attribute and its item, and an attribute and both its items
abbrev pub path_string : Path → List Token → List Token
path_string path after = string (path.dataset ++ path.name) after

abbrev pub one_item : StoreItem → List Token → List Token
one_item i after = string i.attribute (one_gift i after)

abbrev pub two_items : StoreItem → StoreItem → List Token → List Token
two_items i j after = string i.attribute (open_then (gift i (gift j (shut after))))

-- the attribute that comes first was written with its items, and these items are left
pub record LeavesItems (i : StoreItem) (others : List StoreItem) (old : Writing) (left : List StoreItem)
    (new : Writing) : Type 0 where
  pub writes : (after : List Token)
      → line_with old (items (i ∷ others) after) ≡ line_with new (items left after)
  pub fewer : length left ≤ length others

-- the verb of a command and its arguments, before what follows
abbrev pub verb_of : Command → List ℕ
verb_of command.Noop = codes "NOOP"
verb_of command.Logout = codes "LOGOUT"
verb_of (command.Authenticate mechanism) = codes "AUTHENTICATE"
verb_of (command.Store entries) = codes "STORE"
verb_of (command.Search s) = codes "SEARCH"
verb_of (command.SetAcl o identifier rights) = codes "SETACL"
verb_of (command.DeleteAcl o identifier) = codes "DELETEACL"
verb_of (command.MyRights o) = codes "MYRIGHTS"
verb_of (command.ListRights o identifier) = codes "LISTRIGHTS"
verb_of (command.DeletedSince name since) = codes "DELETEDSINCE"
verb_of (command.FreeContext context) = codes "FREECONTEXT"
verb_of (command.UpdateContext contexts) = codes "UPDATECONTEXT"

abbrev pub arguments_of : Command → List Token → List Token
arguments_of command.Noop after = after
arguments_of command.Logout after = after
arguments_of (command.Authenticate mechanism) after = string mechanism after
arguments_of (command.Store entries) after = each entry entries after
arguments_of (command.Search s) after = search_tokens s after
arguments_of (command.SetAcl o identifier rights) after = object o (string identifier (string rights after))
arguments_of (command.DeleteAcl o identifier) after = object o (if_there string identifier after)
arguments_of (command.MyRights o) after = object o after
arguments_of (command.ListRights o identifier) after = object o (string identifier after)
arguments_of (command.DeletedSince name since) after = dataset name (time since after)
arguments_of (command.FreeContext context) after = string context after
arguments_of (command.UpdateContext contexts) after = each string contexts after
