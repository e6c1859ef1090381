-- What holds of the small readers, and of how readers are put together, holds of those of each verb's arguments.
use Rattle.std.proofs.Common.{◌≡◌, ℕ, zero, suc, ◌-◌, Bool, true, false, List, [], ◌∷◌, ◌++◌, drop, Option, Some, None, Result, Ok, Err, refl, ◌⊎◌, inl, inr}
use Rattle.std.specs.Prelude.{codes, is_none, if◌then◌else◌}
use Rattle.acap_lexer.specs.declared.kind.Kind.{Kind}
use Rattle.acap_lexer.specs.Token.{Token}
use Rattle.acap_order.specs.declared.comparator.Comparator.{Comparator}
use Rattle.acap_commands.specs.EntryOrder as entry_order
use Rattle.acap_commands.specs.Modifiers as plain_modifiers
use Rattle.acap_commands.specs.declared.command.Command.{Command}
use Rattle.acap_grammar.specs.declared.command_fault.CommandFault.{CommandFault}
use Rattle.acap_grammar.specs.declared.command_fault.CommandFault.TheVariants as fault
use Rattle.acap_commands.specs.declared.search_modifiers.MakeContext.{MakeContext}
use Rattle.acap_commands.specs.declared.test.Relation.{Relation}
use Rattle.acap_commands.specs.declared.test.Relation.TheVariants as relation
use Rattle.acap_commands.specs.declared.returns.ReturnItem.{ReturnItem}
use Rattle.acap_commands.specs.declared.returns.ReturnName.{ReturnName}
use Rattle.acap_commands.specs.declared.search_modifiers.SearchModifiers.{SearchModifiers}
use Rattle.acap_grammar.specs.declared.searching.Scope.{Scope}
use Rattle.acap_commands.specs.declared.store.StoreEntry.{StoreEntry}
use Rattle.acap_commands.specs.declared.store.StoreItem.{StoreItem}
use Rattle.acap_commands.specs.declared.store.StoreModifiers.{StoreModifiers}
use Rattle.acap_grammar.specs.declared.storing.Gifts.{Gifts}
use Rattle.acap_commands.specs.declared.target.Target.{Target}
use Rattle.acap_commands.specs.declared.command.Verb.{Verb}
use Rattle.acap_commands.specs.declared.command.Verb.TheVariants as verb
use Rattle.acap_grammar.specs.declared.words.KeyWord.{KeyWord}
use Rattle.acap_grammar.specs.declared.words.KeyWord.TheVariants as key_word
use Rattle.acap_grammar.specs.declared.words.SearchWord.{SearchWord}
use Rattle.acap_grammar.specs.declared.words.SearchWord.TheVariants as search_word
use Rattle.acap_grammar.specs.declared.words.StoreWord.{StoreWord}
use Rattle.acap_grammar.specs.declared.words.StoreWord.TheVariants as store_word
use Rattle.acap_grammar.specs.Arguments as argument
use Rattle.acap_grammar.specs.Grammar as grammar
use Rattle.acap_grammar.specs.Keys as keys
use Rattle.acap_grammar.specs.Marks as mark
use Rattle.acap_grammar.specs.Outcome.{◌>>=◌, Read, fault_here, verdict_at}
use Rattle.acap_grammar.specs.Searching as searching
use Rattle.acap_grammar.specs.Storing as storing
use Rattle.acap_commands.specs.Wanted.{Wanted}
use Rattle.acap_grammar.specs.Several.{several, some_of, in_parenthesis}

-- what is read after a word of a table: the word is judged, and then a reader goes on
pub record Judged {A W : Type 0} (Holds : (A : Type 0) → (List Token → Read A) → Type 0) (g : List Token → Option (W × List Token) → Read A) (w : W) : Type 0 where
  pub judgement : Result (Unit {0}) CommandFault
  pub next : List Token → Read A
  pub holds : Holds _ next
  pub is : (ts rest : List Token) → g ts (Some (w, rest)) ≡ (verdict_at ts judgement >>= λ new. next rest)

-- what holds of readers, tests of tokens and kinds of tokens, holds of the small ones and of what is put together of such
pub record Closed (Holds : (A : Type 0) → (List Token → Read A) → Type 0) (Tests : (List Token → Bool) → Type 0) (Kinds : (Kind → Bool) → Type 0) : Type 1 where
  pub string_kind : Kinds mark.is_string
  pub open_kind : Kinds mark.is_open
  pub close_kind : Kinds mark.is_close
  pub starting : (is : Kind → Bool) → Kinds is → Tests (mark.starts is)
  pub ending : Tests mark.ends
  pub worded_first : {W : Type 0} (table : List (List ℕ × W)) → Tests (λ ts. is_none (mark.word_at table ts))
  pub value : {A : Type 0} (x : A) → Holds _ (λ (ts : List Token). Ok (x, ts))
  pub bind : {A B : Type 0} (read : List Token → Read A) (f : A × List Token → Read B) → Holds _ read → ((x : A) → Holds _ (λ ts. f (x, ts))) → Holds _ (λ ts. read ts >>= f)
  pub choose : {A : Type 0} (test : List Token → Bool) (x y : List Token → Read A) → Tests test → Holds _ x → Holds _ y → Holds _ (λ ts. if test ts then x ts else y ts)
  pub behind : {A : Type 0} (is : Kind → Bool) (f : List Token → Read A) → Kinds is → Holds _ f → Holds _ (λ ts. mark.behind is ts >>= f)
  pub past_first : {A : Type 0} (read : List Token → Read A) → Holds _ read → Holds _ (λ ts. read (drop 1 ts))
  pub string : Holds _ mark.string_at
  pub strings : Holds _ (storing.strings_at [])
  pub number : Holds _ argument.number_at
  pub named : {A : Type 0} (read : List ℕ → Result A CommandFault) → Holds _ (argument.named_at read)
  pub new_name : {A B : Type 0} (read : List ℕ → Result A CommandFault) (stood : A → Bool) (f : A → List Token → Read B) → ((x : A) → Holds _ (f x))
      → Holds _ (λ ts. argument.named_at read ts >>= λ x. verdict_at ts (storing.once (stood x.0)) >>= λ new. f x.0 x.1)
  pub worded : {W A : Type 0} (table : List (List ℕ × W)) (g : List Token → Option (W × List Token) → Read A) → ((ts : List Token) → g ts None ≡ fault_here ts fault.Arguments)
      → ((w : W) → Judged Holds g w) → Holds _ (λ ts. g ts (mark.word_at table ts))
  pub flagged : {A : Type 0} (text : List ℕ) (g : List Token → Option (List Token) → Read A) (next : List Token → Read A) → Holds _ (λ ts. g ts None) → Holds _ next
      → ((ts rest : List Token) → g ts (Some rest) ≡ next rest) → Holds _ (λ ts. g ts (mark.behind_word text ts))
  pub items : {A : Type 0} (over fits : List Token → Bool) (item : A → List Token → Read A) → Tests over → Tests fits → over [] ≡ true ⊎ fits [] ≡ false → ((seen : A) → Holds _ (item seen))
      → (room : ℕ) (seen : A) → Holds _ (several over fits item room seen)
  pub too_deep : Holds _ (keys.key_at zero)

module _ {Holds : (A : Type 0) → (List Token → Read A) → Type 0} {Tests : (List Token → Bool) → Type 0} {Kinds : (Kind → Bool) → Type 0} (closed : Closed Holds Tests Kinds) where
  unjudged : {A W : Type 0} {g : List Token → Option (W × List Token) → Read A} {w : W} (next : List Token → Read A) → Holds _ next → ((ts rest : List Token) → g ts (Some (w, rest)) ≡ next rest) → Judged Holds g w
  unjudged next h is = record { judgement = Ok tt; next = next; holds = h; is = is }

  some_items : {A : Type 0} (over fits : List Token → Bool) (item : A → List Token → Read A) → Tests over → Tests fits → over [] ≡ true ⊎ fits [] ≡ false → ((seen : A) → Holds _ (item seen))
      → (most : ℕ) (none : A) → Holds _ (some_of over fits item most none)
  unfolding some_of
  some_items over fits item o f n p most none = closed.bind (item none) _ (p none) (λ x. closed.items over fits item o f n p (most - 1) x)

  -- strings in a parenthesis
  enclosed_items : {A : Type 0} (item : A → List Token → Read A) → ((seen : A) → Holds _ (item seen)) → (most : ℕ) (none : A) → Holds _ (in_parenthesis (mark.starts mark.is_close) (mark.starts mark.is_string) item most none)
  unfolding in_parenthesis mark.starts
  enclosed_items item p most none =
      closed.behind _ _ closed.open_kind
      (closed.bind _ _ (some_items (mark.starts mark.is_close) (mark.starts mark.is_string) item (closed.starting _ closed.close_kind) (closed.starting _ closed.string_kind) (inr refl) p most none) (λ x. closed.behind _ _ closed.close_kind (closed.value x)))

  -- ---- objects

  entry_part : (dataset attribute : List ℕ) → Holds _ (argument.entry_part dataset attribute)
  unfolding argument.entry_part
  entry_part dataset attribute = closed.choose _ _ _ (closed.starting _ closed.close_kind) (closed.value _) (closed.bind _ _ (closed.named _) (λ x. closed.value _))

  attribute_part : (dataset : List ℕ) → Holds _ (argument.attribute_part dataset)
  unfolding argument.attribute_part
  attribute_part dataset = closed.choose _ _ _ (closed.starting _ closed.close_kind) (closed.value _) (closed.bind _ _ (closed.named _) (λ a. entry_part dataset a))

  object : Holds _ argument.object_at
  unfolding argument.object_at
  object = closed.behind _ _ closed.open_kind (closed.bind _ _ (closed.named _) (λ d. closed.bind _ _ (attribute_part d) (λ o. closed.behind _ _ closed.close_kind (closed.value _))))

  -- ---- STORE

  plain : Holds _ storing.plain_at
  unfolding storing.plain_at
  plain =
      closed.choose _ _ _ (closed.starting _ closed.string_kind) (closed.bind _ _ closed.string (λ x. closed.value _))
      (closed.worded storing.given_words (λ ts o. verdict_at ts (argument.or_fault fault.Arguments o)) (λ ts. refl) (λ w. unjudged (λ rest. Ok (w, rest)) (closed.value w) (λ ts rest. refl)))

  given : Holds _ storing.given_at
  unfolding storing.given_at
  given = closed.choose _ _ _ (closed.starting _ closed.open_kind) (closed.bind _ _ (closed.past_first _ closed.strings) (λ x. closed.value _)) plain

  gift : (seen : Gifts) → Holds _ (storing.gift_at seen)
  unfolding storing.gift_at
  gift seen =
      closed.new_name storing.metadata_named (λ m. storing.has_item seen.attribute m seen.items)
      (λ m ts. storing.given_at ts >>= λ g. Ok (record seen { items = seen.items ++ record { attribute = seen.attribute; metadata = m; given = g.0 } ∷ [] }, g.1)) (λ m. closed.bind _ _ given (λ g. closed.value _))

  gifts : (seen : Gifts) → Holds _ (storing.gifts_at seen)
  unfolding storing.gifts_at
  gifts seen = closed.choose _ _ _ (closed.starting _ closed.open_kind) (closed.bind _ _ (enclosed_items storing.gift_at gift 3 seen) (λ x. closed.value _)) (closed.bind _ _ plain (λ x. closed.value _))

  item : (seen : List StoreItem) → Holds _ (storing.item_at seen)
  unfolding storing.item_at
  item seen =
      closed.new_name argument.attribute_named (λ a. storing.has_attribute a seen) (λ a ts. storing.gifts_at (record { attribute = a; items = seen }) ts) (λ a. gifts _)

  store_items : Holds _ storing.items_at
  unfolding storing.items_at mark.starts
  store_items = some_items _ _ storing.item_at (closed.starting _ closed.close_kind) (closed.starting _ closed.string_kind) (inr refl) item 256 []

  conditioned : (seen : StoreModifiers) (w : StoreWord) → Holds _ (storing.behind_condition seen w)
  unfolding storing.behind_condition
  conditioned seen store_word.NoCreate = closed.value _
  conditioned seen store_word.UnchangedSince = closed.bind _ _ (closed.named _) (λ x. closed.value _)

  condition : (seen : StoreModifiers) → Holds _ (storing.condition_at seen)
  unfolding storing.condition_at
  condition seen = closed.worded storing.store_words (storing.condition_by seen) (λ ts. refl)
      (λ w. record { judgement = storing.once (storing.has_condition seen w); next = storing.behind_condition seen w; holds = conditioned seen w; is = λ ts rest. refl })

  conditions : Holds _ storing.conditions_at
  unfolding storing.conditions_at storing.no_condition mark.word_at
  conditions = closed.items storing.no_condition storing.no_condition storing.condition_at (closed.worded_first storing.store_words) (closed.worded_first storing.store_words) (inl refl) condition 3 plain_modifiers.unconditional

  new_path : (seen : List StoreEntry) → Holds _ (storing.path_at seen)
  unfolding storing.path_at
  new_path seen = closed.new_name argument.path_named (λ p. entry_order.has_path p seen) (λ p ts. Ok (p, ts)) (λ p. closed.value p)

  store_entry : (seen : List StoreEntry) → Holds _ (storing.entry_at seen)
  unfolding storing.entry_at
  store_entry seen =
      closed.behind _ _ closed.open_kind (closed.bind _ _ (new_path seen) (λ p. closed.bind _ _ conditions (λ m. closed.bind _ _ store_items (λ i. closed.behind _ _ closed.close_kind (closed.value _)))))

  entries : Holds _ storing.entries_at
  unfolding storing.entries_at mark.ends
  entries = some_items _ _ storing.entry_at closed.ending (closed.starting _ closed.open_kind) (inl refl) store_entry 256 []

  -- ---- keys

  string_part : (r : Relation) (of : List ℕ) (by : Comparator) → Holds _ (keys.string_part r of by)
  string_part r of by = closed.bind _ _ closed.string (λ x. closed.value _)

  value_part : (r : Relation) (of : List ℕ) (by : Comparator) → Holds _ (keys.value_part r of by)
  unfolding keys.value_part
  value_part relation.Equal of by = closed.flagged (codes "NIL") (keys.equal_part of by) (λ rest. Ok (_, rest)) (string_part relation.Equal of by) (closed.value _) (λ ts rest. refl)
  value_part relation.AtLeast of by = string_part relation.AtLeast of by
  value_part relation.Greater of by = string_part relation.Greater of by
  value_part relation.Begins of by = string_part relation.Begins of by
  value_part relation.Contains of by = string_part relation.Contains of by

  meets : (r : Relation) → Holds _ (keys.meets_at r)
  unfolding keys.meets_at
  meets r = closed.bind _ _ (closed.named _) (λ a. closed.bind _ _ (closed.named _) (λ c. value_part r a c))

  range : Holds _ keys.range_at
  unfolding keys.range_at
  range = closed.bind _ _ closed.number (λ first. closed.bind _ _ closed.number (λ last. closed.bind _ _ (closed.named _) (λ since. closed.value _)))

  two : (join : Wanted → Wanted → Wanted) (inner : List Token → Read Wanted) → Holds _ inner → Holds _ (keys.two_of join inner)
  two join inner p = closed.bind _ _ p (λ first. closed.bind _ _ p (λ second. closed.value _))

  key_behind : (inner : List Token → Read Wanted) → Holds _ inner → (w : KeyWord) → Holds _ (keys.key_behind inner w)
  unfolding keys.key_behind
  key_behind inner p key_word.All = closed.value _
  key_behind inner p key_word.And = two _ inner p
  key_behind inner p key_word.Or = two _ inner p
  key_behind inner p key_word.Not = closed.bind _ _ p (λ x. closed.value _)
  key_behind inner p key_word.Range = closed.bind _ _ range (λ x. closed.value _)
  key_behind inner p (key_word.Meets r) = closed.bind _ _ (meets r) (λ x. closed.value _)

  key : (levels : ℕ) → Holds _ (keys.key_at levels)
  unfolding keys.key_at mark.ends mark.word_at
  key zero = closed.too_deep
  key (suc levels) = closed.worded keys.key_words (keys.key_by (keys.key_at levels)) (λ ts. refl) (λ w. unjudged (keys.key_behind (keys.key_at levels) w) (key_behind _ (key levels) w) (λ ts rest. refl))

  -- ---- SEARCH

  metadata_part : (of : ReturnName) → Holds _ (searching.metadata_part of)
  unfolding searching.metadata_part searching.metadata_at
  metadata_part of = closed.choose _ _ _ (closed.starting _ closed.open_kind) (enclosed_items searching.metadata_at (λ seen. closed.bind _ _ (closed.named _) (λ x. closed.value _)) 32 []) (closed.value _)

  return_item : (seen : List ReturnItem) → Holds _ (searching.return_at seen)
  unfolding searching.return_at
  return_item seen = closed.bind _ _ (closed.named _) (λ n. closed.bind _ _ (metadata_part n) (λ m. closed.value _))

  returns : Holds _ searching.returns_at
  unfolding searching.returns_at mark.starts
  returns =
      closed.behind _ _ closed.open_kind (closed.bind _ _ (closed.items _ _ searching.return_at (closed.starting _ closed.close_kind) (closed.starting _ closed.string_kind) (inr refl) return_item 256 []) (λ all. closed.behind _ _ closed.close_kind (closed.value _)))

  sorts : Holds _ searching.sorts_at
  unfolding searching.sorts_at searching.sort_at
  sorts = enclosed_items searching.sort_at (λ seen. closed.bind _ _ (closed.named _) (λ a. closed.bind _ _ (closed.named _) (λ c. closed.value _))) 16 []

  limit : Holds _ searching.limit_at
  unfolding searching.limit_at
  limit = closed.bind _ _ closed.number (λ over. closed.bind _ _ closed.number (λ most. closed.value _))

  abbrev context_behind : Bool → Bool → List Token → Read MakeContext
  context_behind e n ts = argument.named_at argument.context_named ts >>= λ x. Ok (record { enumerate = e; notify = n; name = x.0 }, x.1)

  one_context : (e n : Bool) → Holds _ (context_behind e n)
  one_context e n = closed.bind _ _ (closed.named _) (λ x. closed.value _)

  notified : (e : Bool) → Holds _ (λ ts. let notify = searching.flag_at (codes "NOTIFY") ts in context_behind e notify.0 notify.1)
  unfolding searching.flag_at
  notified e = closed.flagged (codes "NOTIFY") (λ ts o. context_behind e (searching.flag_by ts o).0 (searching.flag_by ts o).1) (context_behind e true) (one_context e false) (one_context e true) (λ ts rest. refl)

  abbrev notified_behind : Bool → List Token → Read MakeContext
  notified_behind e ts = let notify = searching.flag_at (codes "NOTIFY") ts in context_behind e notify.0 notify.1

  make_context : Holds _ searching.make_context_at
  unfolding searching.make_context_at searching.flag_at
  make_context = closed.flagged (codes "ENUMERATE") (λ ts o. notified_behind (searching.flag_by ts o).0 (searching.flag_by ts o).1) (notified_behind true) (notified false) (notified true) (λ ts rest. refl)

  modified : (m : SearchModifiers) (w : SearchWord) → Holds _ (searching.behind_modifier m w)
  unfolding searching.behind_modifier
  modified m search_word.Depth = closed.bind _ _ closed.number (λ x. closed.value _)
  modified m search_word.HardLimit = closed.bind _ _ closed.number (λ x. closed.value _)
  modified m search_word.Limit = closed.bind _ _ limit (λ x. closed.value _)
  modified m search_word.MakeContext = closed.bind _ _ make_context (λ x. closed.value _)
  modified m search_word.NoInherit = closed.value _
  modified m search_word.Return = closed.bind _ _ returns (λ x. closed.value _)
  modified m search_word.Sort = closed.bind _ _ sorts (λ x. closed.value _)

  modifier : (s : Scope) → Holds _ (searching.modifier_at s)
  unfolding searching.modifier_at
  modifier s =
      closed.worded searching.search_words (searching.modifier_by s) (λ ts. refl)
      (λ w. record {
        judgement = searching.may_modify s w;
        next = λ ts. searching.behind_modifier s.modifiers w ts >>= λ y. Ok (record s { modifiers = y.0 }, y.1);
        holds = closed.bind _ _ (modified s.modifiers w) (λ y. closed.value _);
        is = λ ts rest. refl;
      })

  modifiers : (of : Target) → Holds _ (searching.modifiers_at of)
  unfolding searching.modifiers_at searching.no_modifier mark.word_at
  modifiers of = closed.items _ _ searching.modifier_at (closed.worded_first searching.search_words) (closed.worded_first searching.search_words) (inl refl) modifier 8 _

  wanted : Holds _ searching.search_at
  unfolding searching.search_at
  wanted = closed.bind _ _ (closed.named _) (λ of. closed.bind _ _ (modifiers of) (λ scope. closed.bind _ _ (key 32) (λ k. closed.value _)))

  -- ---- commands

  delete_acl : Holds _ grammar.delete_acl_at
  unfolding grammar.delete_acl_at
  delete_acl = closed.bind _ _ object (λ o. closed.bind _ _ (closed.choose _ _ _ closed.ending (closed.value _) (closed.bind _ _ closed.string (λ x. closed.value _))) (λ i. closed.value _))

  contexts : Holds _ grammar.contexts_at
  unfolding grammar.contexts_at grammar.context_at mark.ends
  contexts = some_items _ _ grammar.context_at closed.ending (closed.starting _ closed.string_kind) (inl refl) (λ seen. closed.bind _ _ (closed.named _) (λ x. closed.value _)) 200 []

  pub arguments : (v : Verb) → Holds _ (grammar.arguments_at v)
  unfolding grammar.arguments_at grammar.set_acl_at grammar.list_rights_at grammar.deleted_since_at
  arguments verb.Noop = closed.value _
  arguments verb.Logout = closed.value _
  arguments verb.Authenticate = closed.bind _ _ closed.string (λ x. closed.value _)
  arguments verb.Store = closed.bind _ _ entries (λ x. closed.value _)
  arguments verb.Search = closed.bind _ _ wanted (λ x. closed.value _)
  arguments verb.SetAcl = closed.bind _ _ object (λ o. closed.bind _ _ closed.string (λ i. closed.bind _ _ closed.string (λ r. closed.value _)))
  arguments verb.DeleteAcl = delete_acl
  arguments verb.MyRights = closed.bind _ _ object (λ x. closed.value _)
  arguments verb.ListRights = closed.bind _ _ object (λ o. closed.bind _ _ closed.string (λ i. closed.value _))
  arguments verb.DeletedSince = closed.bind _ _ (closed.named _) (λ d. closed.bind _ _ (closed.named _) (λ t. closed.value _))
  arguments verb.FreeContext = closed.bind _ _ (closed.named _) (λ x. closed.value _)
  arguments verb.UpdateContext = closed.bind _ _ contexts (λ x. closed.value _)
