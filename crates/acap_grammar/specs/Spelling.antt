-- The tokens with which a command is spelled most plainly: words in capitals, strings
-- quoted, modifiers in the order of the table [RFC 2244 sections 2.2, 6 and 8]. Each
-- step puts its tokens before those after it. Where a token lies doesn't matter.
use Rattle.std.specs.Prelude.{ℕ, ◌-◌, nat_le, ℤ, List, [], ◌∷◌, ◌++◌, length, take, codes, decimal, Bool}
use Rattle.std.specs.Prelude.{true, false, Option, Some, None, if◌then◌else◌}
use Rattle.std.specs.Str.{bytes_eq}
use Rattle.acap_lexer.specs.declared.kind.Kind.{Kind}
use Rattle.acap_lexer.specs.declared.kind.Kind.TheVariants as kind
use Rattle.acap_lexer.specs.Token.{Token}
use Rattle.acap_order.specs.declared.comparator.Collation.{Collation}
use Rattle.acap_order.specs.declared.comparator.Collation.TheVariants as collation
use Rattle.acap_order.specs.declared.comparator.Comparator.{Comparator}
use Rattle.acap_order.specs.declared.comparator.Direction.{Direction}
use Rattle.acap_order.specs.declared.comparator.Direction.TheVariants as direction
use Rattle.acap_entries.specs.Stamp.{stamp_of}
use Rattle.acap_entries.specs.declared.record.Cell.TheVariants as cell
use Rattle.acap_commands.specs.declared.command.Command.{Command}
use Rattle.acap_commands.specs.declared.command.Command.TheVariants as command
use Rattle.acap_commands.specs.declared.store.Given.{Given}
use Rattle.acap_commands.specs.declared.store.Given.TheVariants as given
use Rattle.acap_commands.specs.declared.search_modifiers.Limit.{Limit}
use Rattle.acap_commands.specs.declared.search_modifiers.MakeContext.{MakeContext}
use Rattle.acap_commands.specs.declared.returns.Metadata.{Metadata}
use Rattle.acap_commands.specs.declared.returns.Metadata.TheVariants as metadata
use Rattle.acap_commands.specs.declared.object_name.ObjectName.{ObjectName}
use Rattle.acap_commands.specs.declared.object_name.ObjectName.TheVariants as object_name
use Rattle.acap_commands.specs.declared.test.Relation.{Relation}
use Rattle.acap_commands.specs.declared.test.Relation.TheVariants as relation
use Rattle.acap_commands.specs.declared.returns.ReturnItem.{ReturnItem}
use Rattle.acap_commands.specs.declared.returns.ReturnName.{ReturnName}
use Rattle.acap_commands.specs.declared.returns.ReturnName.TheVariants as name
use Rattle.acap_commands.specs.declared.search.Search.{Search}
use Rattle.acap_commands.specs.declared.search_modifiers.SearchModifiers.{SearchModifiers}
use Rattle.acap_commands.specs.declared.search_modifiers.SortItem.{SortItem}
use Rattle.acap_commands.specs.declared.store.StoreEntry.{StoreEntry}
use Rattle.acap_commands.specs.declared.store.StoreItem.{StoreItem}
use Rattle.acap_commands.specs.declared.store.StoreMetadata.{StoreMetadata}
use Rattle.acap_commands.specs.declared.store.StoreMetadata.TheVariants as stored
use Rattle.acap_commands.specs.declared.store.StoreModifiers.{StoreModifiers}
use Rattle.acap_commands.specs.declared.target.Target.{Target}
use Rattle.acap_commands.specs.declared.target.Target.TheVariants as target
use Rattle.acap_commands.specs.declared.test.Test.{Test}
use Rattle.acap_commands.specs.declared.test.Test.TheVariants as test
use Rattle.acap_commands.specs.Wanted.{Wanted, One, And, Or, Not}

-- ---- tokens

abbrev pub token : Kind → List ℕ → Token
token kind value = record { kind = kind; value = value; start = 0; end = 0 }

abbrev pub word : List ℕ → List Token → List Token
word text behind = token kind.Word text ∷ behind

abbrev pub string : List ℕ → List Token → List Token
string text behind = token kind.Quoted text ∷ behind

abbrev pub open_then : List Token → List Token
open_then behind = token kind.Open [] ∷ behind

abbrev pub shut : List Token → List Token
shut behind = token kind.Close [] ∷ behind

-- one after the other
abbrev pub each : {A : Type 0} → (A → List Token → List Token) → List A → List Token → List Token
each spell [] behind = behind
each spell (x ∷ rest) behind = spell x (each spell rest behind)

-- what may be left out, and a word that may be
abbrev pub if_there : {A : Type 0} → (A → List Token → List Token) → Option A → List Token → List Token
if_there spell None behind = behind
if_there spell (Some x) behind = spell x behind

abbrev pub flag : List ℕ → Bool → List Token → List Token
flag text false behind = behind
flag text true behind = word text behind

-- a number in decimal digits, a time as the twenty digits of its stamp
abbrev pub number : ℕ → List Token → List Token
number n behind = word (decimal n) behind

abbrev pub time : ℤ → List Token → List Token
time moment behind = string (stamp_of moment) behind

-- a comparator: a collation's name, after `-` where it is reversed
abbrev pub collation_name : Collation → List ℕ
collation_name collation.Octet = codes "i;octet"
collation_name collation.AsciiCasemap = codes "i;ascii-casemap"
collation_name collation.AsciiNumeric = codes "i;ascii-numeric"

abbrev pub sign : Direction → List ℕ
sign direction.Ascending = []
sign direction.Descending = codes "-"

abbrev pub comparator_name : Comparator → List ℕ
comparator_name c = sign c.direction ++ collation_name c.collation

abbrev pub comparator : Comparator → List Token → List Token
comparator c behind = string (comparator_name c) behind

-- a dataset, without its closing slash unless that is all of it
abbrev pub dataset_text : List ℕ → List ℕ
dataset_text name = if nat_le (length name) 1 then name else take (length name - 1) name

abbrev pub dataset : List ℕ → List Token → List Token
dataset name behind = string (dataset_text name) behind

-- object: `(` dataset [attribute [entry name]] `)`
abbrev pub object : ObjectName → List Token → List Token
object (object_name.Dataset of) behind = open_then (dataset of (shut behind))
object (object_name.Attribute of attribute) behind = open_then (dataset of (string attribute (shut behind)))
object (object_name.Entry of attribute name) behind =
    open_then (dataset of (string attribute (string name (shut behind))))

-- ---- STORE

-- given: string, list, `NIL`, `DEFAULT`; a list is `(` string* `)`
abbrev pub given_tokens : Given → List Token → List Token
given_tokens (given.Put cell.Nil) behind = word (codes "NIL") behind
given_tokens (given.Put (cell.Single text)) behind = string text behind
given_tokens (given.Put (cell.Multi texts)) behind = open_then (each string texts (shut behind))
given_tokens given.Default behind = word (codes "DEFAULT") behind

abbrev pub stored_name : StoreMetadata → List ℕ
stored_name stored.Value = codes "value"
stored_name stored.Acl = codes "acl"

-- metadata given
abbrev pub gift : StoreItem → List Token → List Token
gift i behind = string (stored_name i.metadata) (given_tokens i.given behind)

-- a value that is no list stands without its metadata
abbrev pub is_bare : StoreMetadata → Given → Bool
is_bare stored.Acl given = false
is_bare stored.Value (given.Put (cell.Multi texts)) = false
is_bare stored.Value given = true

abbrev pub one_gift : StoreItem → List Token → List Token
one_gift i behind = if is_bare i.metadata i.given then given_tokens i.given behind
    else open_then (gift i (shut behind))

-- (attribute item)+: an attribute and its item, or in one
-- parenthesis both its items, the value and the list of rights
abbrev pub items : List StoreItem → List Token → List Token
items [] behind = behind
items (i ∷ []) behind = string i.attribute (one_gift i behind)
items (i ∷ j ∷ rest) behind =
    if bytes_eq i.attribute j.attribute
    then string i.attribute (open_then (gift i (gift j (shut (items rest behind)))))
    else string i.attribute (one_gift i (items (j ∷ rest) behind))

-- modifier of STORE: `NOCREATE`, `UNCHANGEDSINCE` time
abbrev pub unchanged_since : ℤ → List Token → List Token
unchanged_since moment behind = word (codes "UNCHANGEDSINCE") (time moment behind)

abbrev pub conditions : StoreModifiers → List Token → List Token
conditions m behind = flag (codes "NOCREATE") m.no_create (if_there unchanged_since m.unchanged_since behind)

-- entry: `(` path modifier* (attribute item)+ `)`
abbrev pub entry : StoreEntry → List Token → List Token
entry e behind =
    open_then (string (e.path.dataset ++ e.path.name) (conditions e.modifiers (items e.items (shut behind))))

-- ---- SEARCH

-- return: attribute, or a name with one `*` at its end, then optionally `(` metadata+ `)`
abbrev pub return_text : ReturnName → List ℕ
return_text (name.Named attribute) = attribute
return_text (name.Beginning front) = front ++ codes "*"

abbrev pub metadata_name : Metadata → List ℕ
metadata_name metadata.Acl = codes "acl"
metadata_name metadata.Attribute = codes "attribute"
metadata_name metadata.MyRights = codes "myrights"
metadata_name metadata.Size = codes "size"
metadata_name metadata.Value = codes "value"

abbrev pub metadata_then : Metadata → List Token → List Token
metadata_then m behind = string (metadata_name m) behind

-- what is sent where nothing is asked for is left out
abbrev pub is_left_out : ReturnName → List Metadata → Bool
is_left_out (name.Named attribute) (metadata.Value ∷ []) = true
is_left_out (name.Beginning front) (metadata.Attribute ∷ metadata.Value ∷ []) = true
is_left_out name metadata = false

abbrev pub return_item : ReturnItem → List Token → List Token
return_item r behind =
    string (return_text r.name) (if is_left_out r.name r.metadata then behind
    else open_then (each metadata_then r.metadata (shut behind)))

abbrev pub sort_item : SortItem → List Token → List Token
sort_item s behind = string s.attribute (comparator s.comparator behind)

-- modifier of SEARCH: `DEPTH` number; `HARDLIMIT` number; `LIMIT` number number; `MAKECONTEXT` [`ENUMERATE`]
-- [`NOTIFY`] context; `NOINHERIT`; `RETURN` `(` return* `)`; `SORT` `(` (attribute comparator)+ `)`
abbrev pub depth : ℕ → List Token → List Token
depth n behind = word (codes "DEPTH") (number n behind)

abbrev pub hard_limit : ℕ → List Token → List Token
hard_limit n behind = word (codes "HARDLIMIT") (number n behind)

abbrev pub limit : Limit → List Token → List Token
limit l behind = word (codes "LIMIT") (number l.over (number l.most behind))

abbrev pub make_context : MakeContext → List Token → List Token
make_context m behind =
    word (codes "MAKECONTEXT")
    (flag (codes "ENUMERATE") m.enumerate (flag (codes "NOTIFY") m.notify (string m.name behind)))

abbrev pub no_inherit : Bool → List Token → List Token
no_inherit stands behind = flag (codes "NOINHERIT") stands behind

abbrev pub returns : List ReturnItem → List Token → List Token
returns all behind = word (codes "RETURN") (open_then (each return_item all (shut behind)))

abbrev pub sort : List SortItem → List Token → List Token
sort all behind = word (codes "SORT") (open_then (each sort_item all (shut behind)))

abbrev pub modifiers : SearchModifiers → List Token → List Token
modifiers m behind =
    if_there depth m.depth
    (if_there hard_limit m.hard_limit (if_there limit m.limit (if_there make_context m.make_context
    (no_inherit m.no_inherit (if_there returns m.returns (if_there sort m.sort behind))))))

-- key: `ALL`; `AND` key key; `OR` key key; `NOT` key; `EQUAL` attribute comparator (string or `NIL`);
-- `COMPARE`, `COMPARESTRICT`, `PREFIX`, `SUBSTRING` attribute comparator string; `RANGE` number number time
abbrev pub relation_word : Relation → List ℕ
relation_word relation.Equal = codes "EQUAL"
relation_word relation.AtLeast = codes "COMPARE"
relation_word relation.Greater = codes "COMPARESTRICT"
relation_word relation.Begins = codes "PREFIX"
relation_word relation.Contains = codes "SUBSTRING"

abbrev pub test_tokens : Test → List Token → List Token
test_tokens test.All behind = word (codes "ALL") behind
test_tokens (test.IsNil attribute c) behind =
    word (codes "EQUAL") (string attribute (comparator c (word (codes "NIL") behind)))
test_tokens (test.Meets r attribute c value) behind =
    word (relation_word r) (string attribute (comparator c (string value behind)))
test_tokens (test.Range first last since) behind =
    word (codes "RANGE") (number first (number last (time since behind)))

abbrev pub key : Wanted → List Token → List Token
key (One t) behind = test_tokens t behind
key (And a b) behind = word (codes "AND") (key a (key b behind))
key (Or a b) behind = word (codes "OR") (key a (key b behind))
key (Not a) behind = word (codes "NOT") (key a behind)

-- what is looked through: a dataset or a context
abbrev pub target_text : Target → List ℕ
target_text (target.Dataset name) = dataset_text name
target_text (target.Context name) = name

-- (dataset or context) modifier* key
abbrev pub search_tokens : Search → List Token → List Token
search_tokens s behind = string (target_text s.target) (modifiers s.modifiers (key s.key behind))

-- ---- the table of commands: a tag, a verb and its arguments

abbrev pub line : List ℕ → List ℕ → List Token → List Token
line tag verb arguments = token kind.Tag tag ∷ word verb arguments

abbrev pub tokens_of : List ℕ → Command → List Token
tokens_of tag command.Noop = line tag (codes "NOOP") []
tokens_of tag command.Logout = line tag (codes "LOGOUT") []
tokens_of tag (command.Authenticate mechanism) = line tag (codes "AUTHENTICATE") (string mechanism [])
tokens_of tag (command.Store entries) = line tag (codes "STORE") (each entry entries [])
tokens_of tag (command.Search s) = line tag (codes "SEARCH") (search_tokens s [])
tokens_of tag (command.SetAcl o identifier rights) =
    line tag (codes "SETACL") (object o (string identifier (string rights [])))
tokens_of tag (command.DeleteAcl o identifier) =
    line tag (codes "DELETEACL") (object o (if_there string identifier []))
tokens_of tag (command.MyRights o) = line tag (codes "MYRIGHTS") (object o [])
tokens_of tag (command.ListRights o identifier) =
    line tag (codes "LISTRIGHTS") (object o (string identifier []))
tokens_of tag (command.DeletedSince name since) =
    line tag (codes "DELETEDSINCE") (dataset name (time since []))
tokens_of tag (command.FreeContext context) = line tag (codes "FREECONTEXT") (string context [])
tokens_of tag (command.UpdateContext contexts) = line tag (codes "UPDATECONTEXT") (each string contexts [])
