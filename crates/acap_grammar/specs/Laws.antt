-- What follows from the definitions alone.
use Rattle.std.specs.Prelude.{◌≡◌, ◌≢◌, ℕ, ◌+◌, ◌-◌, ◌<◌, ◌≤◌, pos, ◌⊎◌, List, [], ◌∷◌, ◌++◌, length, take}
use Rattle.std.specs.Prelude.{replicate, codes, Option, Some, None, Result, Ok, Err}
use Rattle.acap_lexer.specs.declared.kind.Kind.{Kind}
use Rattle.acap_lexer.specs.declared.kind.Kind.TheVariants as kind
use Rattle.acap_lexer.specs.Token.{Token}
use Rattle.acap_entries.specs.declared.record.Cell.TheVariants as cell
use Rattle.acap_entries.specs.declared.row.Item.{Item}
use Rattle.acap_entries.specs.declared.row.Item.TheVariants as item
use Rattle.acap_entries.specs.declared.row.Row.{Row}
use Rattle.acap_commands.specs.declared.command.Command.{Command}
use Rattle.acap_commands.specs.declared.command.Command.TheVariants as command
use Rattle.acap_commands.specs.declared.store.Given.TheVariants as given
use Rattle.acap_grammar.specs.declared.command_fault.CommandFault.{CommandFault}
use Rattle.acap_grammar.specs.declared.command_fault.CommandFault.TheVariants as fault
use Rattle.acap_commands.specs.declared.returns.Metadata.TheVariants as metadata
use Rattle.acap_commands.specs.declared.object_name.ObjectName.TheVariants as object_name
use Rattle.acap_commands.specs.declared.reply.Reply.{Reply}
use Rattle.acap_commands.specs.declared.refusal.Refusal.{Refusal}
use Rattle.acap_commands.specs.declared.refusal.Refusal.TheVariants as refusal
use Rattle.acap_commands.specs.declared.returns.ReturnItem.{ReturnItem}
use Rattle.acap_commands.specs.declared.returns.ReturnName.TheVariants as name
use Rattle.acap_commands.specs.declared.said.Said.{Said}
use Rattle.acap_commands.specs.declared.said.Said.TheVariants as said
use Rattle.acap_commands.specs.declared.store.StoreMetadata.TheVariants as stored
use Rattle.acap_commands.specs.declared.target.Target.TheVariants as target
use Rattle.acap_commands.specs.declared.test.Test.TheVariants as test
use Rattle.acap_commands.specs.declared.command.Verb.TheVariants as verb
use Rattle.acap_grammar.specs.Grammar.{command_at, command_of}
use Rattle.acap_grammar.specs.Outcome.{Fault}
use Rattle.acap_grammar.specs.Replies.{octets_of, crlf}
use Rattle.acap_commands.specs.Modifiers.{no_modifiers}
use Rattle.acap_grammar.specs.Sendable.{IsSendable}
use Rattle.acap_commands.specs.Modifiers.{unconditional}
use Rattle.acap_commands.specs.Wanted.{One}

-- the first fault from the left of a line that is no command
abbrev pub fault_in : Result Command CommandFault → Option CommandFault
fault_in (Ok c) = None
fault_in (Err e) = Some e

abbrev pub fault_of : List Token → Option CommandFault
fault_of tokens = fault_in (command_of tokens)

-- the fault of a line and the index of the token at which
-- it lies, or the number of tokens where it lies at the end
abbrev pub place_in : List Token → Result Command Fault → Option (CommandFault × ℕ)
place_in tokens (Ok c) = None
place_in tokens (Err e) = Some (e.fault, length tokens - length e.left)

abbrev pub fault_at : List Token → Option (CommandFault × ℕ)
fault_at tokens = place_in tokens (command_at tokens)

-- some command begins with these tokens
pub record BeginsCommand (tokens : List Token) : Type 0 where
  pub others : List Token
  pub what : Command
  pub is : command_of (tokens ++ others) ≡ Ok what

-- The fault is the first from the left: what stands after its token changes nothing, and it lies at the end
-- only where an argument or the verb is missing. It lies at the first token with which no command goes on:
-- some command begins with those before it, but where a key would have too many levels.
pub record FirstFault : Type 0 where
  pub told : (tokens : List Token) (e : CommandFault) (i : ℕ) → fault_at tokens ≡ Some (e, i)
      → command_of tokens ≡ Err e
  pub within : (tokens : List Token) (e : CommandFault) (i : ℕ) → fault_at tokens ≡ Some (e, i)
      → i ≤ length tokens
  pub first : (tokens others : List Token) (e : CommandFault) (i : ℕ) → fault_at tokens ≡ Some (e, i)
      → i < length tokens → fault_at (take (i + 1) tokens ++ others) ≡ Some (e, i)
  pub viable : (tokens : List Token) (e : CommandFault) (i : ℕ) → fault_at tokens ≡ Some (e, i)
      → i < length tokens → e ≢ fault.TooDeep → BeginsCommand (take i tokens)
  pub missing : (tokens : List Token) (e : CommandFault) → fault_at tokens ≡ Some (e, length tokens)
      → (e ≡ fault.Arguments) ⊎ (e ≡ fault.UnknownCommand)

-- a token that lies there
abbrev pub at : Kind → List ℕ → ℕ → ℕ → Token
at kind value start end = record { kind = kind; value = value; start = start; end = end }

-- the tokens of `A1 STORE ("/option/~/font" "option.value" "mono")`
abbrev pub store_tokens : List Token
store_tokens =
    at kind.Tag (codes "A1") 0 2 ∷ at kind.Word (codes "STORE") 3 8 ∷ at kind.Open [] 9 10
    ∷ at kind.Quoted (codes "/option/~/font") 10 26
    ∷ at kind.Quoted (codes "option.value") 27 41 ∷ at kind.Quoted (codes "mono") 42 48
    ∷ at kind.Close [] 48 49 ∷ []

abbrev pub store_command : Command
store_command = command.Store (
    record {
      path = record { dataset = codes "/option/~/"; name = codes "font" };
      modifiers = unconditional;
      items = record {
        attribute = codes "option.value";
        metadata = stored.Value;
        given = given.Put (cell.Single (codes "mono"));
      } ∷ [];
    } ∷ [])

-- the tokens of `A2 SEARCH "/option/~/" RETURN ("option.value" "modtime") ALL`
abbrev pub search_tokens : List Token
search_tokens =
    at kind.Tag (codes "A2") 0 2 ∷ at kind.Word (codes "SEARCH") 3 9
    ∷ at kind.Quoted (codes "/option/~/") 10 22 ∷ at kind.Word (codes "RETURN") 23 29
    ∷ at kind.Open [] 30 31 ∷ at kind.Quoted (codes "option.value") 31 45
    ∷ at kind.Quoted (codes "modtime") 46 55 ∷ at kind.Close [] 55 56
    ∷ at kind.Word (codes "ALL") 57 60 ∷ []

abbrev pub value_of : List ℕ → ReturnItem
value_of attribute = record { name = name.Named attribute; metadata = metadata.Value ∷ [] }

abbrev pub search_command : Command
search_command = command.Search (
    record {
      target = target.Dataset (codes "/option/~/");
      modifiers =
          record no_modifiers
          { returns = Some (value_of (codes "option.value") ∷ value_of (codes "modtime") ∷ []) };
      key = One test.All;
    })

-- the tokens of `A3 DELETEACL ("/a" "b" "") "joe"`
abbrev pub delete_tokens : List Token
delete_tokens =
    at kind.Tag (codes "A3") 0 2 ∷ at kind.Word (codes "DELETEACL") 3 12 ∷ at kind.Open [] 13 14
    ∷ at kind.Quoted (codes "/a") 14 18
    ∷ at kind.Quoted (codes "b") 19 22 ∷ at kind.Quoted [] 23 25 ∷ at kind.Close [] 25 26
    ∷ at kind.Quoted (codes "joe") 27 32 ∷ []

abbrev pub delete_command : Command
delete_command = command.DeleteAcl (object_name.Entry (codes "/a/") (codes "b") []) (Some (codes "joe"))

pub record CommandExamples : Type 0 where
  pub store : command_of store_tokens ≡ Ok store_command
  pub search : command_of search_tokens ≡ Ok search_command
  pub delete : command_of delete_tokens ≡ Ok delete_command
  -- and they are among those that can be sent
  pub store_sendable : IsSendable store_command
  pub search_sendable : IsSendable search_command
  pub delete_sendable : IsSendable delete_command

-- a line `A1 SEARCH "/"` with words after it
abbrev pub word_token : List ℕ → Token
word_token text = at kind.Word text 0 0

abbrev pub search_with : List Token → List Token
search_with behind = at kind.Tag (codes "A1") 0 2 ∷ word_token (codes "SEARCH")
    ∷ at kind.Quoted (codes "/") 0 0 ∷ behind

abbrev pub nots : ℕ → List Token → List Token
nots count behind = replicate count (word_token (codes "NOT")) ++ behind

abbrev pub depth_one : List Token → List Token
depth_one behind = word_token (codes "DEPTH") ∷ word_token (codes "1") ∷ behind

pub record FaultExamples : Type 0 where
  pub deep : fault_of (search_with (nots 31 (word_token (codes "ALL") ∷ []))) ≡ None
  pub too_deep : fault_of (search_with (nots 32 (word_token (codes "ALL") ∷ []))) ≡ Some fault.TooDeep
  pub whatever_it_is : fault_of (search_with (nots 32 (at kind.Close [] 0 0 ∷ []))) ≡ Some fault.TooDeep
  pub nothing_there : fault_of (search_with (nots 32 [])) ≡ Some fault.Arguments
  pub twice : fault_of (search_with (depth_one (depth_one []))) ≡ Some fault.NotPermittedTwice
  pub first : fault_of
      (search_with
      (depth_one (word_token (codes "SORT") ∷ at kind.Open [] 0 0 ∷ at kind.Quoted (codes "*") 0 0
      ∷ word_token (codes "DEPTH") ∷ []))) ≡ Some fault.BadName

-- the row of `/option/~/font`, of which `option.value` and `modtime` are sent
abbrev pub font_row : Row
font_row =
    record {
      name = codes "font";
      items = item.One (cell.Single (codes "mono")) ∷ item.One (cell.Single (codes "19700101000000000000"))
          ∷ [];
    }

-- what is said under that tag
abbrev pub under : List ℕ → Said → Reply
under tag said = record { tag = Some tag; said = said }

abbrev pub alone : Said → Reply
alone said = record { tag = None; said = said }

abbrev pub refusal_under : List ℕ → Refusal → Reply
refusal_under tag refusal = under tag (said.Refused refusal)

-- a search that finds one row, of which this is sent
abbrev pub telling : List Item → Reply
telling items =
    under (codes "A3")
    (said.Searched
    (record { rows = record { name = codes "font"; items = items } ∷ []; last = None; total = None }))

pub record ReplyExamples : Type 0 where
  pub stored : octets_of (under (codes "A1") (said.Done verb.Store)) ≡ codes "A1 OK \"STORE done\"" ++ crlf
  pub found : octets_of
      (under (codes "A2")
      (said.Searched (record { rows = font_row ∷ []; last = Some (pos 0); total = None })))
      ≡ codes "A2 ENTRY \"font\" \"mono\" \"19700101000000000000\"" ++ crlf
      ++ codes "A2 MODTIME \"19700101000000000000\"" ++ crlf ++ codes "A2 OK \"SEARCH done\"" ++ crlf
  pub good_bye : octets_of (under (codes "A3") said.GoodBye)
      ≡ codes "* BYE \"Good bye\"" ++ crlf ++ codes "A3 OK \"LOGOUT done\"" ++ crlf
  pub bad_tag : octets_of (alone (said.Refused refusal.BadTag)) ≡ codes "* BAD \"Bad tag\"" ++ crlf
  pub too_long : octets_of (alone (said.Refused refusal.CommandTooLong))
      ≡ codes "* BYE \"Command too long\"" ++ crlf
  pub no_exist : octets_of (refusal_under (codes "A4") (refusal.NoExist (codes "/option/user/joe/")))
      ≡ codes "A4 NO (NOEXIST \"/option/user/joe/\") \"No such dataset\"" ++ crlf
  pub invalid : octets_of
      (refusal_under (codes "A1")
      (refusal.Invalid (record { dataset = codes "/option/user/joe/"; name = codes "n" }) (codes "modtime")))
      ≡ codes "A1 NO (INVALID (\"/option/user/joe/n\" \"modtime\")) \"Invalid value\"" ++ crlf
  pub permission : octets_of
      (refusal_under (codes "A5")
      (refusal.Permission (object_name.Entry (codes "/option/site/") (codes "entry") (codes "b"))))
      ≡ codes "A5 NO (PERMISSION (\"/option/site/\" \"entry\" \"b\")) \"Permission denied\"" ++ crlf
  pub permission_dataset : octets_of
      (refusal_under (codes "A5") (refusal.Permission (object_name.Dataset (codes "/option/site/"))))
      ≡ codes "A5 NO (PERMISSION (\"/option/site/\")) \"Permission denied\"" ++ crlf
  pub permission_attribute : octets_of
      (refusal_under (codes "A5")
      (refusal.Permission (object_name.Attribute (codes "/option/site/") (codes "entry"))))
      ≡ codes "A5 NO (PERMISSION (\"/option/site/\" \"entry\")) \"Permission denied\"" ++ crlf
  pub modified : octets_of
      (refusal_under (codes "A6")
      (refusal.Modified (record { dataset = codes "/option/user/joe/"; name = codes "n" })))
      ≡ codes "A6 NO (MODIFIED \"/option/user/joe/n\") \"Entry was changed\"" ++ crlf
  pub too_old : octets_of (refusal_under (codes "A7") refusal.TooOld)
      ≡ codes "A7 NO (TOOOLD) \"Time too old\"" ++ crlf
  pub way_too_many : octets_of (refusal_under (codes "A8") refusal.WayTooMany)
      ≡ codes "A8 NO (WAYTOOMANY) \"Too many matches\"" ++ crlf
  pub try_free_context : octets_of (refusal_under (codes "A9") refusal.TryFreeContext)
      ≡ codes "A9 NO (TRYFREECONTEXT) \"Too many contexts\"" ++ crlf
  pub memory : octets_of (refusal_under (codes "A1") refusal.Memory)
      ≡ codes "A1 NO (TRYLATER) \"No memory\"" ++ crlf
  pub history_full : octets_of (refusal_under (codes "A1") refusal.HistoryFull)
      ≡ codes "A1 NO (TRYLATER) \"History is full\"" ++ crlf
  pub too_many : octets_of
      (under (codes "A2") (said.Searched (record { rows = []; last = None; total = Some 65_536 })))
      ≡ codes "A2 OK (TOOMANY 65536) \"SEARCH done\"" ++ crlf
  pub list_row : octets_of (telling (item.One (cell.Multi (codes "a" ∷ codes "b" ∷ [])) ∷ []))
      ≡ codes "A3 ENTRY \"font\" (\"a\" \"b\")" ++ crlf ++ codes "A3 OK \"SEARCH done\"" ++ crlf
  pub nil_row : octets_of (telling (item.One cell.Nil ∷ []))
      ≡ codes "A3 ENTRY \"font\" NIL" ++ crlf ++ codes "A3 OK \"SEARCH done\"" ++ crlf
  pub several_row : octets_of
      (telling
      (item.Several (cell.Single (codes "mono") ∷ cell.Nil ∷ cell.Multi (codes "a" ∷ codes "b" ∷ []) ∷ [])
      ∷ []))
      ≡ codes "A3 ENTRY \"font\" (\"mono\" NIL (\"a\" \"b\"))" ++ crlf ++ codes "A3 OK \"SEARCH done\""
      ++ crlf
  pub starred_row : octets_of
      (telling
      (item.PerAttribute ((cell.Single (codes "option.face") ∷ cell.Single (codes "mono") ∷ [])
      ∷ (cell.Single (codes "option.size") ∷ cell.Single (codes "12") ∷ []) ∷ []) ∷ []))
      ≡ codes "A3 ENTRY \"font\" ((\"option.face\" \"mono\") (\"option.size\" \"12\"))" ++ crlf
      ++ codes "A3 OK \"SEARCH done\"" ++ crlf
  pub starred_nothing_row : octets_of (telling (item.PerAttribute [] ∷ []))
      ≡ codes "A3 ENTRY \"font\" ()" ++ crlf ++ codes "A3 OK \"SEARCH done\"" ++ crlf
  pub deleted : octets_of (under (codes "A4") (said.Deleted (codes "font" ∷ codes "a b" ∷ [])))
      ≡ codes "A4 DELETED \"font\"" ++ crlf ++ codes "A4 DELETED \"a b\"" ++ crlf
      ++ codes "A4 OK \"DELETEDSINCE done\"" ++ crlf
  pub rights : octets_of (under (codes "A5") (said.Rights (codes "xrwia")))
      ≡ codes "A5 MYRIGHTS \"xrwia\"" ++ crlf ++ codes "A5 OK \"MYRIGHTS done\"" ++ crlf
  pub rights_list : octets_of
      (under (codes "A6") (said.RightsList (codes "xr" ∷ codes "w" ∷ codes "i" ∷ codes "a" ∷ [])))
      ≡ codes "A6 LISTRIGHTS \"xr\" \"w\" \"i\" \"a\"" ++ crlf ++ codes "A6 OK \"LISTRIGHTS done\"" ++ crlf
  pub challenge : octets_of (under (codes "A7") (said.Challenge (codes "<1896.697170952@acap.example>")))
      ≡ codes "+ \"<1896.697170952@acap.example>\"" ++ crlf
