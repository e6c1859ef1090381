-- Readers read the same of tokens without their places.
use Rattle.std.proofs.Common.{◌≡◌, ◌⊎◌, ℕ, zero, suc, ◌-◌, Bool, true, false, List, [], ◌∷◌, ◌++◌, drop, Option, Some, None, Result, Ok, Err, refl, sym, ap, ◌∙◌}
use Rattle.std.specs.Prelude.{codes, if◌then◌else◌, map, option_map, is_none}
use Rattle.std.specs.Str.{str_eq_ignore_ascii_case}
use Rattle.std.proofs.lemmas.List.{length-map}
use Rattle.acap_lexer.specs.declared.kind.Kind.{Kind}
use Rattle.acap_lexer.specs.declared.kind.Kind.TheVariants as kind
use Rattle.acap_lexer.specs.Token.{Token}
use Rattle.acap_order.specs.declared.comparator.Comparator.{Comparator}
use Rattle.acap_commands.specs.EntryOrder as entry_order
use Rattle.acap_commands.specs.Modifiers as plain_modifiers
use Rattle.acap_commands.specs.declared.command.Command.{Command}
use Rattle.acap_grammar.specs.declared.command_fault.CommandFault.{CommandFault}
use Rattle.acap_grammar.specs.declared.command_fault.CommandFault.TheVariants as fault
use Rattle.acap_commands.specs.declared.search_modifiers.MakeContext.{MakeContext}
use Rattle.acap_commands.specs.declared.test.Relation.{Relation}
use Rattle.acap_commands.specs.declared.test.Relation.TheVariants as relation
use Rattle.acap_commands.specs.declared.returns.ReturnItem.{ReturnItem}
use Rattle.acap_commands.specs.declared.returns.ReturnName.{ReturnName}
use Rattle.acap_commands.specs.declared.search_modifiers.SearchModifiers.{SearchModifiers}
use Rattle.acap_grammar.specs.declared.searching.Scope.{Scope}
use Rattle.acap_commands.specs.declared.store.StoreEntry.{StoreEntry}
use Rattle.acap_commands.specs.declared.store.StoreItem.{StoreItem}
use Rattle.acap_commands.specs.declared.store.StoreModifiers.{StoreModifiers}
use Rattle.acap_grammar.specs.declared.storing.Gifts.{Gifts}
use Rattle.acap_commands.specs.declared.target.Target.{Target}
use Rattle.acap_commands.specs.declared.command.Verb.{Verb}
use Rattle.acap_commands.specs.declared.command.Verb.TheVariants as verb
use Rattle.acap_grammar.specs.declared.words.KeyWord.{KeyWord}
use Rattle.acap_grammar.specs.declared.words.KeyWord.TheVariants as key_word
use Rattle.acap_grammar.specs.declared.words.SearchWord.{SearchWord}
use Rattle.acap_grammar.specs.declared.words.SearchWord.TheVariants as search_word
use Rattle.acap_grammar.specs.declared.words.StoreWord.{StoreWord}
use Rattle.acap_grammar.specs.declared.words.StoreWord.TheVariants as store_word
use Rattle.acap_grammar.specs.Alike.{plain_kind, plain, PlacesLaw}
use Rattle.acap_grammar.specs.Arguments as argument
use Rattle.acap_grammar.specs.Grammar as grammar
use Rattle.acap_grammar.specs.Keys as keys
use Rattle.acap_grammar.specs.Laws.{place_in, fault_at}
use Rattle.acap_grammar.specs.Marks as mark
use Rattle.acap_grammar.specs.Outcome.{◌>>=◌, Fault, Read, fault_here, verdict_at}
use Rattle.acap_grammar.specs.Searching as searching
use Rattle.acap_grammar.specs.Several.{several, some_of, in_parenthesis}
use Rattle.acap_grammar.specs.Storing as storing
use Rattle.acap_commands.specs.Wanted.{Wanted}
use Rattle.acap_grammar.proofs.Induction.{Judged, Closed, arguments}

-- what was read, with the tokens left as plain ones
abbrev plain_fault : Fault → Fault
plain_fault e = record { fault = e.fault; left = map plain e.left }

abbrev plain_read : {A : Type 0} → Read A → Read A
plain_read (Ok x) = Ok (x.0, map plain x.1)
plain_read (Err e) = Err (plain_fault e)

-- a reader that doesn't look at places
record Blind {A : Type 0} (read : List Token → Read A) : Type 0 where
  pub same : (ts : List Token) → read (map plain ts) ≡ plain_read (read ts)

-- a test of tokens, and of a kind, that doesn't either
record Sees (test : List Token → Bool) : Type 0 where
  pub same : (ts : List Token) → test (map plain ts) ≡ test ts

abbrev IsOfKinds : (Kind → Bool) → Type 0
IsOfKinds is = (k : Kind) → is (plain_kind k) ≡ is k

strings_kind : IsOfKinds mark.is_string
strings_kind kind.Literal = refl
strings_kind _ = refl

words_kind : IsOfKinds mark.is_word
words_kind kind.Literal = refl
words_kind _ = refl

opens_kind : IsOfKinds mark.is_open
opens_kind kind.Literal = refl
opens_kind _ = refl

closes_kind : IsOfKinds mark.is_close
closes_kind kind.Literal = refl
closes_kind _ = refl

-- ---- one reader after another

value : {A : Type 0} (x : A) → Blind (λ (ts : List Token). Ok (x, ts))
value x = record { same = λ ts. refl }

-- the second also looks at the tokens of the first
bind_all : {A B : Type 0} (read : List Token → Read A) (f : List Token → A × List Token → Read B) → Blind read
    → ((x : A) (ts rest : List Token) → f (map plain ts) (x, map plain rest) ≡ plain_read (f ts (x, rest))) → Blind (λ ts. read ts >>= f ts)
bind_all {A} {B} read f p q = record { same = λ ts. rw (p.same ts) (by_read ts (read ts)) } where
  by_read : (ts : List Token) (r : Read A) → (plain_read r >>= f (map plain ts)) ≡ plain_read (r >>= f ts)
  by_read ts (Ok x) = q x.0 ts x.1
  by_read ts (Err e) = refl

bind : {A B : Type 0} (read : List Token → Read A) (f : A × List Token → Read B) → Blind read → ((x : A) → Blind (λ ts. f (x, ts))) → Blind (λ ts. read ts >>= f)
bind read f p q = bind_all read (λ ts x. f x) p (λ x ts rest. (q x).same rest)

judged_same : {A : Type 0} (judgement : Result (Unit {0}) CommandFault) (read : List Token → Read A) → Blind read → (ts rest : List Token)
    → (verdict_at (map plain ts) judgement >>= λ new. read (map plain rest)) ≡ plain_read (verdict_at ts judgement >>= λ new. read rest)
judged_same (Ok x) read p ts rest = p.same rest
judged_same (Err e) read p ts rest = refl

choose : {A : Type 0} (test : List Token → Bool) (x y : List Token → Read A) → Sees test → Blind x → Blind y → Blind (λ ts. if test ts then x ts else y ts)
choose test x y g p q = record { same = λ ts. rw (g.same ts) (by_test ts (test ts)) } where
  by_test : (ts : List Token) (b : Bool) → (if b then x (map plain ts) else y (map plain ts)) ≡ plain_read (if b then x ts else y ts)
  by_test ts true = p.same ts
  by_test ts false = q.same ts

starting : (is : Kind → Bool) → IsOfKinds is → Sees (mark.starts is)
unfolding mark.starts
starting is h = record { same = same } where
  same : (ts : List Token) → mark.starts is (map plain ts) ≡ mark.starts is ts
  same [] = refl
  same (t ∷ ts) = h t.kind

ending : Sees mark.ends
unfolding mark.ends
ending = record { same = same } where
  same : (ts : List Token) → mark.ends (map plain ts) ≡ mark.ends ts
  same [] = refl
  same (t ∷ ts) = refl

-- after a token of a kind
behind : {A : Type 0} (is : Kind → Bool) (f : List Token → Read A) → IsOfKinds is → Blind f → Blind (λ ts. mark.behind is ts >>= f)
unfolding mark.behind
behind is f h p = record { same = same } where
  by_kind : (t : Token) (rest : List Token) (b : Bool)
      → ((if b then Ok (map plain rest) else fault_here (plain t ∷ map plain rest) fault.Arguments) >>= f) ≡ plain_read ((if b then Ok rest else fault_here (t ∷ rest) fault.Arguments) >>= f)
  by_kind t rest true = p.same rest
  by_kind t rest false = refl

  same : (ts : List Token) → (mark.behind is (map plain ts) >>= f) ≡ plain_read (mark.behind is ts >>= f)
  same [] = refl
  same (t ∷ rest) = rw (h t.kind) (by_kind t rest (is t.kind))

-- ---- strings, names and numbers

string : Blind mark.string_at
unfolding mark.string_at
string = record { same = same } where
  by_kind : (t : Token) (rest : List Token) (b : Bool)
      → (if b then Ok (t.value, map plain rest) else fault_here (plain t ∷ map plain rest) fault.Arguments) ≡ plain_read (if b then Ok (t.value, rest) else fault_here (t ∷ rest) fault.Arguments)
  by_kind t rest true = refl
  by_kind t rest false = refl

  same : (ts : List Token) → mark.string_at (map plain ts) ≡ plain_read (mark.string_at ts)
  same [] = refl
  same (t ∷ rest) = rw (strings_kind t.kind) (by_kind t rest (mark.is_string t.kind))

judged_name : {A : Type 0} (judgement : Result A CommandFault) (ts rest : List Token)
    → (verdict_at (map plain ts) judgement >>= λ x. Ok (x, map plain rest)) ≡ plain_read (verdict_at ts judgement >>= λ x. Ok (x, rest))
judged_name (Ok x) ts rest = refl
judged_name (Err e) ts rest = refl

named : {A : Type 0} (read : List ℕ → Result A CommandFault) → Blind (argument.named_at read)
unfolding argument.named_at
named read = bind_all _ _ string (λ text ts rest. judged_name (read text) ts rest)

-- a name that didn't stand before
new_name : {A B : Type 0} (read : List ℕ → Result A CommandFault) (stood : A → Bool) (f : A → List Token → Read B) → ((x : A) → Blind (f x))
    → Blind (λ ts. argument.named_at read ts >>= λ x. verdict_at ts (storing.once (stood x.0)) >>= λ new. f x.0 x.1)
new_name read stood f p = bind_all _ _ (named read) (λ x ts rest. judged_same (storing.once (stood x)) (f x) (p x) ts rest)

number : Blind argument.number_at
unfolding argument.number_at
number = record { same = same } where
  by_kind : (t : Token) (rest : List Token) (b : Bool)
      → (if b then (verdict_at (plain t ∷ map plain rest) (argument.or_fault fault.Arguments (argument.number_in t.value)) >>= λ x. Ok (x, map plain rest)) else fault_here (plain t ∷ map plain rest) fault.Arguments)
      ≡ plain_read (if b then (verdict_at (t ∷ rest) (argument.or_fault fault.Arguments (argument.number_in t.value)) >>= λ x. Ok (x, rest)) else fault_here (t ∷ rest) fault.Arguments)
  by_kind t rest true = judged_name (argument.or_fault fault.Arguments (argument.number_in t.value)) (t ∷ rest) rest
  by_kind t rest false = refl

  same : (ts : List Token) → argument.number_at (map plain ts) ≡ plain_read (argument.number_at ts)
  same [] = refl
  same (t ∷ rest) = rw (words_kind t.kind) (by_kind t rest (mark.is_word t.kind))

-- ---- words

abbrev plain_word : {W : Type 0} → Option (W × List Token) → Option (W × List Token)
plain_word None = None
plain_word (Some x) = Some (x.0, map plain x.1)

word_same : {W : Type 0} (table : List (List ℕ × W)) (ts : List Token) → mark.word_at table (map plain ts) ≡ plain_word (mark.word_at table ts)
unfolding mark.word_at
word_same table [] = refl
word_same {W} table (t ∷ rest) = rw (words_kind t.kind) (by_word (mark.is_word t.kind) (mark.word_in table t.value)) where
  by_word : (b : Bool) (o : Option W) → (if b then option_map (λ x. (x, map plain rest)) o else None) ≡ plain_word (if b then option_map (λ x. (x, rest)) o else None)
  by_word false o = refl
  by_word true None = refl
  by_word true (Some w) = refl

worded_first : {W : Type 0} (table : List (List ℕ × W)) → Sees (λ ts. is_none (mark.word_at table ts))
worded_first {W} table = record { same = λ ts. rw (word_same table ts) (by_word (mark.word_at table ts)) } where
  by_word : (o : Option (W × List Token)) → is_none (plain_word o) ≡ is_none o
  by_word None = refl
  by_word (Some x) = refl

-- what is read by a word of a table
worded : {W A : Type 0} (table : List (List ℕ × W)) (g : List Token → Option (W × List Token) → Read A) → ((ts : List Token) → g ts None ≡ fault_here ts fault.Arguments)
    → ((w : W) → Judged (λ A (read : List Token → Read A). Blind read) g w) → Blind (λ ts. g ts (mark.word_at table ts))
worded {W} {A} table g none some = record { same = λ ts. rw (word_same table ts) (by_word ts (mark.word_at table ts)) } where
  by_word : (ts : List Token) (o : Option (W × List Token)) → g (map plain ts) (plain_word o) ≡ plain_read (g ts o)
  by_word ts None = none (map plain ts) ∙ ap plain_read (sym (none ts))
  by_word ts (Some x) = let s = some x.0 in s.is (map plain ts) (map plain x.1) ∙ judged_same s.judgement s.next s.holds ts x.1 ∙ ap plain_read (sym (s.is ts x.1))

-- what is read where a word stands first, and where not
abbrev plain_rest : Option (List Token) → Option (List Token)
plain_rest None = None
plain_rest (Some rest) = Some (map plain rest)

flag_same : (text : List ℕ) (ts : List Token) → mark.behind_word text (map plain ts) ≡ plain_rest (mark.behind_word text ts)
unfolding mark.behind_word
flag_same text [] = refl
flag_same text (t ∷ rest) = rw (words_kind t.kind) (by_tests (mark.is_word t.kind) (str_eq_ignore_ascii_case t.value text)) where
  by_tests : (b c : Bool) → (if b then (if c then Some (map plain rest) else None) else None) ≡ plain_rest (if b then (if c then Some rest else None) else None)
  by_tests false c = refl
  by_tests true false = refl
  by_tests true true = refl

flagged : {A : Type 0} (text : List ℕ) (g : List Token → Option (List Token) → Read A) (next : List Token → Read A) → Blind (λ ts. g ts None) → Blind next
    → ((ts rest : List Token) → g ts (Some rest) ≡ next rest) → Blind (λ ts. g ts (mark.behind_word text ts))
flagged text g next none p is = record { same = λ ts. rw (flag_same text ts) (by_flag ts (mark.behind_word text ts)) } where
  by_flag : (ts : List Token) (o : Option (List Token)) → g (map plain ts) (plain_rest o) ≡ plain_read (g ts o)
  by_flag ts None = none.same ts
  by_flag ts (Some rest) = is (map plain ts) (map plain rest) ∙ p.same rest ∙ ap plain_read (sym (is ts rest))

-- ---- items one after the other

items : {A : Type 0} (over fits : List Token → Bool) (item : A → List Token → Read A) → Sees over → Sees fits → over [] ≡ true ⊎ fits [] ≡ false → ((seen : A) → Blind (item seen)) → (room : ℕ) (seen : A) → Blind (several over fits item room seen)
unfolding several
items over fits item o f n p zero seen = choose over _ _ o (value seen) (record { same = λ ts. rw (f.same ts) refl })
items over fits item o f n p (suc room) seen = choose over _ _ o (value seen) (bind (item seen) _ (p seen) (λ x. items over fits item o f n p room x))

-- ---- lists of strings

strings_same : (ts : List Token) (seen : List (List ℕ)) → storing.strings_at seen (map plain ts) ≡ plain_read (storing.strings_at seen ts)
unfolding storing.strings_at
strings_same [] seen = refl
strings_same (t ∷ rest) seen = rw (closes_kind t.kind, strings_kind t.kind) (by_kind (mark.is_close t.kind) (mark.is_string t.kind) (strings_same rest (seen ++ t.value ∷ []))) where
  by_kind : (b c : Bool) → storing.strings_at (seen ++ t.value ∷ []) (map plain rest) ≡ plain_read (storing.strings_at (seen ++ t.value ∷ []) rest)
      → (if b then Ok (seen, map plain rest) else (if c then storing.strings_at (seen ++ t.value ∷ []) (map plain rest) else fault_here (plain t ∷ map plain rest) fault.Arguments))
      ≡ plain_read (if b then Ok (seen, rest) else (if c then storing.strings_at (seen ++ t.value ∷ []) rest else fault_here (t ∷ rest) fault.Arguments))
  by_kind true c further = refl
  by_kind false true further = further
  by_kind false false further = refl

-- after the first token, whatever that is
past_first : {A : Type 0} (read : List Token → Read A) → Blind read → Blind (λ ts. read (drop 1 ts))
past_first read p = record { same = same } where
  same : (ts : List Token) → read (drop 1 (map plain ts)) ≡ plain_read (read (drop 1 ts))
  same [] = p.same []
  same (t ∷ rest) = p.same rest

-- ---- the arguments of each verb

too_deep : Blind (keys.key_at zero)
unfolding keys.key_at
too_deep = record { same = λ ts. rw (ending.same ts) refl }

blind : Closed (λ A (read : List Token → Read A). Blind read) Sees IsOfKinds
blind = record {
  string_kind = strings_kind;
  open_kind = opens_kind;
  close_kind = closes_kind;
  starting = starting;
  ending = ending;
  worded_first = worded_first;
  value = value;
  bind = bind;
  choose = choose;
  behind = behind;
  past_first = past_first;
  string = string;
  strings = record { same = λ ts. strings_same ts [] };
  number = number;
  named = named;
  new_name = new_name;
  worded = worded;
  flagged = flagged;
  items = items;
  too_deep = too_deep;
}

-- ---- the whole

abbrev plain_result : Result Command Fault → Result Command Fault
plain_result (Ok c) = Ok c
plain_result (Err e) = Err (plain_fault e)

whole_same : (r : Read Command) → (plain_read r >>= grammar.whole) ≡ plain_result (r >>= grammar.whole)
whole_same (Ok x) = rw (ending.same x.1) (by_end (mark.ends x.1)) where
  by_end : (b : Bool) → (if b then Ok x.0 else fault_here (map plain x.1) fault.Arguments) ≡ plain_result (if b then Ok x.0 else fault_here x.1 fault.Arguments)
  by_end true = refl
  by_end false = refl
whole_same (Err e) = refl

by_verb : (ts : List Token) → grammar.command_by (map plain ts) (mark.word_at grammar.verbs (map plain ts)) ≡ plain_result (grammar.command_by ts (mark.word_at grammar.verbs ts))
by_verb ts = rw (word_same grammar.verbs ts) (by_word (mark.word_at grammar.verbs ts)) where
  by_word : (o : Option (Verb × List Token)) → grammar.command_by (map plain ts) (plain_word o) ≡ plain_result (grammar.command_by ts o)
  by_word None = refl
  by_word (Some x) = rw ((arguments blind x.0).same x.1) (whole_same (grammar.arguments_at x.0 x.1))

command_same : (ts : List Token) → grammar.command_at (map plain ts) ≡ plain_result (grammar.command_at ts)
command_same [] = by_verb []
command_same (t ∷ rest) = by_verb rest

same_command : (r : Result Command Fault) → grammar.without_place (plain_result r) ≡ grammar.without_place r
same_command (Ok c) = refl
same_command (Err e) = refl

same_place : (ts : List Token) (r : Result Command Fault) → place_in (map plain ts) (plain_result r) ≡ place_in ts r
same_place ts (Ok c) = refl
same_place ts (Err e) = rw (length-map ts plain, length-map e.left plain) refl

pub places_law : PlacesLaw
unfolding grammar.command_of
places_law tokens others alike = (
  sym (plain_command tokens) ∙ ap grammar.command_of alike ∙ plain_command others,
  sym (plain_place tokens) ∙ ap fault_at alike ∙ plain_place others,
) where
  plain_command : (ts : List Token) → grammar.command_of (map plain ts) ≡ grammar.command_of ts
  plain_command ts = rw (command_same ts) (same_command (grammar.command_at ts))

  plain_place : (ts : List Token) → fault_at (map plain ts) ≡ fault_at ts
  plain_place ts = rw (command_same ts) (same_place ts (grammar.command_at ts))
