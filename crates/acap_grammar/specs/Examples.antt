-- Lines and the commands or faults that they are, limits, and the texts of refusals, computed from the
-- definitions [RFC 2244 sections 3.6, 6 and 8].
use Rattle.std.specs.Prelude.{◌≡◌, ℕ, ℤ, pos, List, [], ◌∷◌, ◌++◌, zero, suc, map, flat_map, replicate, codes}
use Rattle.std.specs.Prelude.{decimal, true, false, Some, None, Ok}
use Rattle.acap_lexer.specs.declared.fault.LexFault.TheVariants as lexical
use Rattle.acap_lexer.specs.declared.kind.Kind.TheVariants as kind
use Rattle.acap_lexer.specs.Token.{Token}
use Rattle.acap_order.specs.declared.comparator.Collation.TheVariants.{Octet, AsciiNumeric}
use Rattle.acap_order.specs.Spellings.{ascending, descending}
use Rattle.acap_entries.specs.declared.record.Cell.TheVariants as cell
use Rattle.acap_entries.specs.declared.row.Item.{Item}
use Rattle.acap_entries.specs.declared.row.Item.TheVariants as item
use Rattle.acap_entries.specs.declared.row.Row.{Row}
use Rattle.acap_entries.specs.Stamp.{moment_of}
use Rattle.acap_notices.specs.declared.notice.Notice.TheVariants as notice
use Rattle.acap_notices.specs.declared.told.Told.{Told}
use Rattle.acap_notices.specs.declared.told.Told.TheVariants as told
use Rattle.acap_commands.specs.declared.command.Command.TheVariants as command
use Rattle.acap_commands.specs.declared.store.Given.TheVariants as given
use Rattle.acap_grammar.specs.declared.command_fault.CommandFault.TheVariants as fault
use Rattle.acap_commands.specs.declared.returns.Metadata.TheVariants as metadata
use Rattle.acap_commands.specs.declared.object_name.ObjectName.{ObjectName}
use Rattle.acap_commands.specs.declared.object_name.ObjectName.TheVariants as object_name
use Rattle.acap_commands.specs.declared.refusal.Refusal.{Refusal}
use Rattle.acap_commands.specs.declared.refusal.Refusal.TheVariants as refusal
use Rattle.acap_commands.specs.declared.test.Relation.TheVariants as relation
use Rattle.acap_commands.specs.declared.returns.ReturnName.TheVariants as name
use Rattle.acap_commands.specs.declared.said.Said.TheVariants as said
use Rattle.acap_commands.specs.declared.store.StoreMetadata.TheVariants as stored
use Rattle.acap_commands.specs.declared.target.Target.TheVariants as target
use Rattle.acap_commands.specs.declared.test.Test.TheVariants as test
use Rattle.acap_commands.specs.declared.command.Verb.TheVariants as verb
use Rattle.acap_grammar.specs.Grammar.{command_of}
use Rattle.acap_grammar.specs.Laws.{fault_of, word_token, under, alone, refusal_under}
use Rattle.acap_grammar.specs.Refusals.{of_lexical, of_grammar}
use Rattle.acap_grammar.specs.Replies.{octets_of, crlf}
use Rattle.acap_commands.specs.Modifiers.{no_modifiers}
use Rattle.acap_commands.specs.Wanted.{Wanted, One, And, Or, Not}

-- ---- tokens, wherever they lie

abbrev pub word : List ℕ → List Token → List Token
word text behind = word_token text ∷ behind

abbrev pub string : List ℕ → List Token → List Token
string text behind = record { kind = kind.Quoted; value = text; start = 0; end = 0 } ∷ behind

abbrev pub open_then : List Token → List Token
open_then behind = record { kind = kind.Open; value = []; start = 0; end = 0 } ∷ behind

abbrev pub shut : List Token → List Token
shut behind = record { kind = kind.Close; value = []; start = 0; end = 0 } ∷ behind

-- a line of that verb
abbrev pub line : List ℕ → List Token → List Token
line verb behind = record { kind = kind.Tag; value = codes "A1"; start = 0; end = 2 } ∷ word verb behind

-- `("/a/") ..`, and the object
abbrev pub a_object : List Token → List Token
a_object behind = open_then (string (codes "/a/") (shut behind))

abbrev pub a_named : ObjectName
a_named = object_name.Dataset (codes "/a/")

-- `STORE ("/a/b" ..`
abbrev pub store : List Token → List Token
store behind = line (codes "STORE") (open_then (string (codes "/a/b") behind))

-- `SEARCH "/" ..` and `SEARCH "c" ..`
abbrev pub search : List Token → List Token
search behind = line (codes "SEARCH") (string (codes "/") behind)

abbrev pub search_context : List Token → List Token
search_context behind = line (codes "SEARCH") (string (codes "c") behind)

abbrev pub all : List Token
all = word (codes "ALL") []

-- `word attribute comparator value` as a key
abbrev pub test_of : List ℕ → List ℕ → List Token → List Token
test_of relation comparator behind = word relation (string (codes "k") (string comparator behind))

abbrev pub meets : List ℕ → List ℕ → List Token → List Token
meets relation comparator behind = test_of relation comparator (string (codes "x") behind)

-- a second of the first minute of 1970
abbrev pub at_second : ℕ → ℤ
at_second n =
    moment_of (record { year = 1970; month = 1; day = 1; hour = 0; minute = 0; second = n; micros = 0 })

-- these tokens after `SEARCH "/" AND` are two such keys
abbrev pub found_by : Wanted → Wanted → List Token → Type 0
found_by first second behind =
    command_of (search (word (codes "AND") behind))
    ≡ Ok (command.Search
    (record { target = target.Dataset (codes "/"); modifiers = no_modifiers; key = And first second }))

pub record LineExamples : Type 0 where
  -- words are read in any case, and the arguments in their order
  pub noop : command_of (line (codes "noOp") []) ≡ Ok command.Noop
  pub logout : command_of (line (codes "LOGOUT") []) ≡ Ok command.Logout
  pub authenticate : command_of (line (codes "AUTHENTICATE") (string (codes "CRAM-MD5") []))
      ≡ Ok (command.Authenticate (codes "CRAM-MD5"))
  pub set_acl : command_of (line (codes "SETACL") (a_object (string (codes "ann") (string (codes "r") []))))
      ≡ Ok (command.SetAcl a_named (codes "ann") (codes "r"))
  pub delete_acl : command_of (line (codes "DELETEACL") (a_object [])) ≡ Ok (command.DeleteAcl a_named None)
  pub my_rights : command_of (line (codes "MYRIGHTS") (a_object [])) ≡ Ok (command.MyRights a_named)
  pub list_rights : command_of (line (codes "LISTRIGHTS") (a_object (string (codes "ann") [])))
      ≡ Ok (command.ListRights a_named (codes "ann"))
  pub deleted_since : command_of
      (line (codes "DELETEDSINCE") (string (codes "/a") (string (codes "19700101000001") [])))
      ≡ Ok (command.DeletedSince (codes "/a/") (at_second 1))
  pub free_context : command_of (line (codes "FREECONTEXT") (string (codes "c") []))
      ≡ Ok (command.FreeContext (codes "c"))
  pub update_context : command_of (line (codes "UPDATECONTEXT") (string (codes "d") (string (codes "c") [])))
      ≡ Ok (command.UpdateContext (codes "d" ∷ codes "c" ∷ []))
  -- what a STORE gives, and on which conditions
  pub given : command_of
      (store (word (codes "NOCREATE")
      (word (codes "UNCHANGEDSINCE")
      (string (codes "19700101000000")
      (string (codes "k") (word (codes "NIL") (string (codes "l") (word (codes "DEFAULT")
      (string (codes "m")
      (open_then
      (string (codes "value")
      (open_then
      (string (codes "x")
      (string (codes "y")
      (shut (string (codes "acl") (word (codes "default") (shut (shut [])))))))))))))))))))
      ≡ Ok (command.Store (record {
        path = record { dataset = codes "/a/"; name = codes "b" };
        modifiers = record { no_create = true; unchanged_since = Some (at_second 0) };
        items = record { attribute = codes "k"; metadata = stored.Value; given = given.Put cell.Nil }
            ∷ record { attribute = codes "l"; metadata = stored.Value; given = given.Default }
            ∷ record {
              attribute = codes "m";
              metadata = stored.Value;
              given = given.Put (cell.Multi (codes "x" ∷ codes "y" ∷ []));
            }
            ∷ record { attribute = codes "m"; metadata = stored.Acl; given = given.Default } ∷ [];
      } ∷ []))
  -- the modifiers of a SEARCH
  pub modifiers : command_of
      (search (word (codes "DEPTH")
      (word (codes "2")
      (word (codes "HARDLIMIT") (word (codes "3") (word (codes "LIMIT") (word (codes "4") (word (codes "5")
      (word (codes "MAKECONTEXT")
      (word (codes "ENUMERATE") (word (codes "NOTIFY") (string (codes "c") (word (codes "NOINHERIT")
      (word (codes "RETURN")
      (open_then
      (string (codes "a*")
      (open_then
      (string (codes "size")
      (string (codes "acl")
      (shut (string (codes "*")
      (shut (word (codes "SORT")
      (open_then (string (codes "k") (string (codes "-i;octet") (shut all)))))))))))))))))))))))))))
      ≡ Ok (command.Search (record {
        target = target.Dataset (codes "/");
        modifiers = record {
          depth = Some 2;
          hard_limit = Some 3;
          limit = Some (record { over = 4; most = 5 });
          make_context = Some (record { enumerate = true; notify = true; name = codes "c" });
          no_inherit = true;
          returns =
              Some (record { name = name.Beginning (codes "a"); metadata = metadata.Size ∷ metadata.Acl ∷ [] }
              ∷ record { name = name.Beginning []; metadata = metadata.Attribute ∷ metadata.Value ∷ [] }
              ∷ []);
          sort = Some (record { attribute = codes "k"; comparator = descending Octet } ∷ []);
        };
        key = One test.All;
      }))
  pub notify_alone : command_of
      (search (word (codes "MAKECONTEXT") (word (codes "NOTIFY") (string (codes "c") all))))
      ≡ Ok (command.Search
      (record {
        target = target.Dataset (codes "/");
        modifiers =
            record no_modifiers
            { make_context = Some (record { enumerate = false; notify = true; name = codes "c" }) };
        key =
            One test.All;
      }))
  pub over_a_context : command_of (search_context all)
      ≡ Ok (command.Search
      (record { target = target.Context (codes "c"); modifiers = no_modifiers; key = One test.All }))
  -- keys
  pub equal : found_by (One (test.Meets relation.Equal (codes "k") (ascending AsciiNumeric) (codes "x")))
      (One (test.IsNil (codes "k") (ascending Octet)))
      (meets (codes "EQUAL") (codes "i;ascii-numeric")
      (test_of (codes "EQUAL") (codes "i;octet") (word (codes "NIL") [])))
  pub compared : found_by (One (test.Meets relation.AtLeast (codes "k") (ascending Octet) (codes "x")))
      (One (test.Meets relation.Greater (codes "k") (ascending Octet) (codes "x")))
      (meets (codes "COMPARE") (codes "i;octet") (meets (codes "COMPARESTRICT") (codes "i;octet") []))
  pub parts : found_by (One (test.Meets relation.Begins (codes "k") (ascending Octet) (codes "x")))
      (One (test.Meets relation.Contains (codes "k") (ascending Octet) (codes "x")))
      (meets (codes "PREFIX") (codes "i;octet") (meets (codes "SUBSTRING") (codes "i;octet") []))
  pub joined : found_by (Or (One test.All) (Not (One test.All))) (One (test.Range 1 2 (at_second 0)))
      (word (codes "OR")
      (word (codes "ALL")
      (word (codes "NOT")
      (word (codes "ALL")
      (word (codes "RANGE")
      (word (codes "1") (word (codes "2") (string (codes "19700101000000") []))))))))

-- ---- faults

-- `"k" "x" ..` in a STORE
abbrev pub gift : List Token → List Token
gift behind = string (codes "k") (string (codes "x") behind)

pub record LineFaults : Type 0 where
  pub no_verb : fault_of (record { kind = kind.Tag; value = codes "A1"; start = 0; end = 2 } ∷ [])
      ≡ Some fault.UnknownCommand
  pub other_verb : fault_of (line (codes "NOOPS") []) ≡ Some fault.UnknownCommand
  pub left_over : fault_of (line (codes "NOOP") (string (codes "x") [])) ≡ Some fault.Arguments
  pub no_items : fault_of (store (shut [])) ≡ Some fault.Arguments
  pub other_metadata : fault_of
      (search (word (codes "RETURN")
      (open_then (string (codes "k") (open_then (string (codes "VALUE") (shut (shut all))))))))
      ≡ Some fault.Arguments
  pub nil_for_a_part : fault_of (search (test_of (codes "PREFIX") (codes "i;octet") (word (codes "NIL") [])))
      ≡ Some fault.Arguments
  pub depth_of_a_context : fault_of (search_context (word (codes "DEPTH") (word (codes "1") all)))
      ≡ Some fault.Arguments
  pub context_of_a_context : fault_of (search_context (word (codes "MAKECONTEXT") (string (codes "d") all)))
      ≡ Some fault.Arguments
  pub no_inherit_of_a_context : fault_of (search_context (word (codes "NOINHERIT") all))
      ≡ Some fault.Arguments
  pub limit_of_a_context : fault_of
      (search_context (word (codes "LIMIT") (word (codes "1") (word (codes "1") all)))) ≡ None
  pub great_number : fault_of (search (word (codes "DEPTH") (word (codes "4294967296") all)))
      ≡ Some fault.Arguments
  pub signed_number : fault_of (search (word (codes "DEPTH") (word (codes "+1") all))) ≡ Some fault.Arguments
  pub bad_time : fault_of (line (codes "DELETEDSINCE") (string (codes "/a/") (string (codes "1970") [])))
      ≡ Some fault.BadTime
  pub bad_comparator : fault_of (search (meets (codes "EQUAL") (codes "i;other") []))
      ≡ Some fault.BadComparator
  pub front_of_a_number : fault_of (search (meets (codes "PREFIX") (codes "i;ascii-numeric") []))
      ≡ Some fault.BadComparator
  pub part_of_a_number : fault_of (search (meets (codes "SUBSTRING") (codes "-i;ascii-numeric") []))
      ≡ Some fault.BadComparator
  -- an object's dataset and entry name are a path of at most 16 components
  pub object_of_16 : fault_of
      (line (codes "MYRIGHTS")
      (open_then
      (string (codes "/a/b/c/d/e/f/g/h/i/j/k/l/m/n/o/") (string (codes "k") (string (codes "p") (shut []))))))
      ≡ None
  pub object_of_17 : fault_of
      (line (codes "MYRIGHTS")
      (open_then
      (string (codes "/a/b/c/d/e/f/g/h/i/j/k/l/m/n/o/p/")
      (string (codes "k") (string (codes "q") (shut [])))))) ≡ Some fault.BadName
  -- what may stand once
  pub attribute_twice : fault_of (store (gift (gift (shut [])))) ≡ Some fault.NotPermittedTwice
  pub path_twice : fault_of (store (gift (shut (open_then (string (codes "/a/b") (gift (shut [])))))))
      ≡ Some fault.NotPermittedTwice
  pub name_in_two_datasets : fault_of
      (store (gift (shut (open_then (string (codes "/c/b") (gift (shut []))))))) ≡ None
  pub condition_twice : fault_of (store (word (codes "NOCREATE") (word (codes "NOCREATE") (gift (shut [])))))
      ≡ Some fault.NotPermittedTwice
  pub metadata_twice : fault_of
      (store (string (codes "k")
      (open_then
      (string (codes "acl")
      (word (codes "NIL") (string (codes "acl") (word (codes "NIL") (shut (shut [])))))))))
      ≡ Some fault.NotPermittedTwice
  pub contexts_twice : fault_of (line (codes "UPDATECONTEXT") (string (codes "c") (string (codes "c") [])))
      ≡ None
  -- a repetition is seen before what follows it, and a bad name before a repetition
  pub before_its_value : fault_of (store (gift (string (codes "k") (word (codes "x") []))))
      ≡ Some fault.NotPermittedTwice
  pub behind_its_name : fault_of (store (gift (string (codes "k*") []))) ≡ Some fault.BadName

-- ---- limits

-- `count` tokens, each of its number
abbrev pub each : ℕ → (ℕ → List Token → List Token) → List Token → List Token
each zero form behind = behind
each (suc count) form behind = form count (each count form behind)

abbrev pub nth_name : ℕ → List ℕ
nth_name n = codes "n" ++ decimal n

abbrev pub items : ℕ → List Token
items count = store (each count (λ n behind. string (nth_name n) (string [] behind)) (shut []))

abbrev pub entries : ℕ → List Token
entries count =
    line (codes "STORE")
    (each count (λ n behind. open_then (string (codes "/a/" ++ nth_name n) (gift (shut behind)))) [])

abbrev pub returns : ℕ → List Token
returns count =
    search (word (codes "RETURN") (open_then (each count (λ n behind. string (codes "k") behind) (shut all))))

abbrev pub sorts : ℕ → List Token
sorts count =
    search (word (codes "SORT")
    (open_then (each count (λ n behind. string (codes "k") (string (codes "i;octet") behind)) (shut all))))

abbrev pub metadata_of : ℕ → List Token
metadata_of count =
    search (word (codes "RETURN")
    (open_then
    (string (codes "k")
    (open_then (each count (λ n behind. string (codes "acl") behind) (shut (shut all)))))))

abbrev pub contexts : ℕ → List Token
contexts count = line (codes "UPDATECONTEXT") (each count (λ n behind. string (codes "c") behind) [])

pub record LimitExamples : Type 0 where
  pub items_256 : fault_of (items 256) ≡ None
  pub items_257 : fault_of (items 257) ≡ Some fault.TooMany
  pub entries_256 : fault_of (entries 256) ≡ None
  pub entries_257 : fault_of (entries 257) ≡ Some fault.TooMany
  pub returns_256 : fault_of (returns 256) ≡ None
  pub returns_257 : fault_of (returns 257) ≡ Some fault.TooMany
  pub sorts_16 : fault_of (sorts 16) ≡ None
  pub sorts_17 : fault_of (sorts 17) ≡ Some fault.TooMany
  pub metadata_32 : fault_of (metadata_of 32) ≡ None
  pub metadata_33 : fault_of (metadata_of 33) ≡ Some fault.TooMany
  pub contexts_200 : fault_of (contexts 200) ≡ None
  pub contexts_201 : fault_of (contexts 201) ≡ Some fault.TooMany

-- ---- texts

-- lines one after the other
abbrev pub lines : List (List ℕ) → List ℕ
lines texts = flat_map (λ text. text ++ crlf) texts

abbrev pub refusals_of : List Refusal → List ℕ
refusals_of all = flat_map (λ r. octets_of (refusal_under (codes "A1") r)) all

pub record TextExamples : Type 0 where
  pub lexical_faults : map of_lexical
      (lexical.BadTag ∷ lexical.BadToken ∷ lexical.BadLiteral ∷ lexical.CommandTooLong ∷ lexical.LineTooLong
      ∷ [])
      ≡ refusal.BadTag ∷ refusal.BadToken ∷ refusal.BadLiteral ∷ refusal.CommandTooLong ∷ refusal.LineTooLong
      ∷ []
  pub of_lines : refusals_of
      (map of_grammar (fault.UnknownCommand ∷ fault.Arguments ∷ fault.NotPermittedTwice ∷ fault.BadName
      ∷ fault.BadTime ∷ fault.BadComparator ∷ fault.TooDeep ∷ fault.TooMany ∷ []))
      ≡ lines (codes "A1 BAD \"Unknown command\"" ∷ codes "A1 BAD \"Bad arguments\""
      ∷ codes "A1 BAD \"Not permitted twice\"" ∷ codes "A1 BAD \"Bad name\"" ∷ codes "A1 BAD \"Bad time\""
      ∷ codes "A1 BAD \"Bad comparator\"" ∷ codes "A1 BAD \"Too deep\"" ∷ codes "A1 BAD \"Too many\"" ∷ [])
  pub of_octets : refusals_of (refusal.BadToken ∷ refusal.BadLiteral ∷ refusal.LineTooLong
      ∷ refusal.TooManySessions ∷ [])
      ≡ lines (codes "A1 BAD \"Bad token\"" ∷ codes "A1 BAD \"Bad literal\"" ∷ codes "* BYE \"Line too long\""
      ∷ codes "* BYE \"Too many sessions\"" ∷ [])
  pub of_users : refusals_of (refusal.NotLoggedIn ∷ refusal.LoggedIn ∷ refusal.Cancelled ∷ refusal.NoMechanism
      ∷ refusal.LoginFailed ∷ [])
      ≡ lines (codes "A1 BAD \"Log in first\"" ∷ codes "A1 BAD \"Already logged in\""
      ∷ codes "A1 BAD \"Login cancelled\"" ∷ codes "A1 NO \"Mechanism not offered\""
      ∷ codes "A1 NO \"Login failed\"" ∷ [])
  pub of_stores : refusals_of (refusal.Limit ∷ refusal.ClockEnd ∷ refusal.RangeHere ∷ refusal.NoContext
      ∷ refusal.FreedContext ∷ refusal.NotNotify ∷ [])
      ≡ lines (codes "A1 NO \"Limit reached\"" ∷ codes "A1 NO \"Clock at its end\""
      ∷ codes "A1 BAD \"RANGE needs an enumerated context\"" ∷ codes "A1 NO \"No such context\""
      ∷ codes "A1 NO \"Context was freed\"" ∷ codes "A1 NO \"Context has no NOTIFY\"" ∷ [])
  pub done : flat_map (λ v. octets_of (under (codes "A1") (said.Done v)))
      (verb.Noop ∷ verb.Logout ∷ verb.Authenticate ∷ verb.Store ∷ verb.SetAcl ∷ verb.DeleteAcl
      ∷ verb.FreeContext ∷ verb.UpdateContext ∷ [])
      ≡ lines (codes "A1 OK \"NOOP done\"" ∷ codes "A1 OK \"LOGOUT done\""
      ∷ codes "A1 OK \"AUTHENTICATE done\"" ∷ codes "A1 OK \"STORE done\"" ∷ codes "A1 OK \"SETACL done\""
      ∷ codes "A1 OK \"DELETEACL done\""
      ∷ codes "A1 OK \"FREECONTEXT done\"" ∷ codes "A1 OK \"UPDATECONTEXT done\"" ∷ [])
  pub greeting : octets_of (alone said.Greeting)
      ≡ lines (codes "* ACAP (IMPLEMENTATION \"acapd\") (SASL \"CRAM-MD5\") (CONTEXTLIMIT \"200\")" ∷ [])
  pub left : octets_of (alone said.Left) ≡ []
  pub drained : octets_of (alone (said.Drained [])) ≡ []

-- ---- what is sent of contexts

abbrev pub row_of : List ℕ → List Item → Row
row_of name items = record { name = name; items = items }

abbrev pub told_lines : List Told → List (List ℕ) → Type 0
told_lines tolds texts = octets_of (alone (said.Drained tolds)) ≡ lines texts

pub record ToldExamples : Type 0 where
  -- the data of a notice are those of an ENTRY: several, all that a name with `*` has, none
  pub added : told_lines
      (told.Note (codes "c")
      (notice.AddTo 3
      (row_of (codes "a") (item.One (cell.Single (codes "x"))
      ∷ item.Several (cell.Nil ∷ cell.Multi (codes "y" ∷ []) ∷ []) ∷ []))) ∷ [])
      (codes "* ADDTO \"c\" \"a\" 3 \"x\" (NIL (\"y\"))" ∷ [])
  pub starred : told_lines
      (told.Note (codes "c")
      (notice.AddTo 0
      (row_of [] (item.PerAttribute ((cell.Single (codes "k") ∷ cell.Single (codes "v") ∷ []) ∷ []) ∷ [])))
      ∷ [])
      (codes "* ADDTO \"c\" \"\" 0 ((\"k\" \"v\"))" ∷ [])
  pub nothing : told_lines (told.Note (codes "c") (notice.AddTo 10 (row_of (codes "a") [])) ∷ [])
      (codes "* ADDTO \"c\" \"a\" 10" ∷ [])
  -- the old position stands before the new one
  pub changed : told_lines
      (told.Note (codes "c")
      (notice.Change 1 4 (row_of (codes "a") (item.One (cell.Single (codes "9")) ∷ []))) ∷ [])
      (codes "* CHANGE \"c\" \"a\" 1 4 \"9\"" ∷ [])
  -- an entry that can't stand between quotes is a literal
  pub removed : told_lines (told.Note (codes "c") (notice.RemoveFrom (97 ∷ 13 ∷ []) 2) ∷ [])
      ((codes "* REMOVEFROM \"c\" {2}" ++ crlf ++ 97 ∷ 13 ∷ codes " 2") ∷ [])
  -- so is the name of a context; else `"` and `\` are escaped
  pub escaped : told_lines (told.Upto (codes "a\"b\\") (pos 0) ∷ [])
      (codes "* MODTIME \"a\\\"b\\\\\" \"19700101000000000000\"" ∷ [])
  pub literal : told_lines (told.Upto (99 ∷ 13 ∷ []) (pos 1) ∷ [])
      ((codes "* MODTIME {2}" ++ crlf ++ 99 ∷ 13 ∷ codes " \"19700101000000000001\"") ∷ [])
  -- the name of a freed context stands in the text; a text that is too long between quotes is a literal
  pub freed : told_lines (told.Freed (codes "c") ∷ []) (codes "* ALERT \"Context freed: c\"" ∷ [])
  pub freed_long : told_lines (told.Freed (replicate 510 34) ∷ [])
      ((codes "* ALERT {525}" ++ crlf ++ codes "Context freed: " ++ replicate 510 34) ∷ [])
  -- the completion alone is under the tag, and after all that is sent
  pub updated : octets_of
      (under (codes "A1")
      (said.Updated (told.Note (codes "c") (notice.RemoveFrom (codes "a") 1) ∷ told.Upto (codes "c") (pos 5)
      ∷ [])))
      ≡ lines (codes "* REMOVEFROM \"c\" \"a\" 1" ∷ codes "* MODTIME \"c\" \"19700101000000000005\""
      ∷ codes "A1 OK \"UPDATECONTEXT done\"" ∷ [])
  pub updated_nothing : octets_of (under (codes "A1") (said.Updated []))
      ≡ lines (codes "A1 OK \"UPDATECONTEXT done\"" ∷ [])
