-- The text of a command is read as its tokens, and these as the command.
use Rattle.std.proofs.Common.{◌≡◌, ℕ, ℤ, ◌+◌, ◌<◌, ◌≤◌, ◌^◌, Bool, true, false, List, [], ◌∷◌, ◌++◌, length, drop, Option, Some, None, refl, sym, ap, subst, ◌∙◌, arith, length-append}
use Rattle.std.specs.Prelude.{codes, decimal, map, nat_le, ◌==◌, ◌&&◌, ◌||◌, if◌then◌else◌, IfSome, IsTrue}
use Rattle.std.specs.Str.{bytes_eq, is_utf8}
use Rattle.std.specs.List.{list_all}
use Rattle.std.specs.Char.{is_ascii_digit}
use Rattle.std.proofs.lemmas.Bool.{and_parts, and_from, leb-true, le-leb}
use Rattle.std.proofs.lemmas.Fmt.{digits_decimal, digits_value-decimal, length-decimal-le, decimal_nonempty}
use Rattle.std.proofs.Math.Seq.{drop-append_seam}
use Rattle.acap_lexer.specs.declared.kind.Kind.{Kind}
use Rattle.acap_lexer.specs.declared.kind.Kind.TheVariants as kind
use Rattle.acap_lexer.specs.declared.lexed.Lexed.{Lexed}
use Rattle.acap_lexer.specs.declared.lexed.Lexed.TheVariants.{Line}
use Rattle.acap_lexer.specs.declared.lexed.Mode.{Mode}
use Rattle.acap_lexer.specs.declared.lexed.Mode.TheVariants as mode
use Rattle.acap_lexer.specs.Held.{next_of, answers_from, answers_of}
use Rattle.acap_lexer.specs.Holding.{Held}
use Rattle.acap_lexer.specs.Octets.{is_word, is_digit, within}
use Rattle.acap_lexer.specs.Printing.{escaped_form, is_printable, may_quote}
use Rattle.acap_lexer.specs.Spelling.{Written, Quoted, Literal, IsCount, IsSpelled, IsSpelling, Stand, crlf, gap, kind_of, mark, may_follow, may_part, own, text_of, token, tokens_before, tokens_from, wait, waits_of}
use Rattle.acap_lexer.specs.Stream.{progress}
use Rattle.acap_lexer.specs.Token.{Token}
use Rattle.acap_lexer.proofs.SpelledLines.{spelling_reads}
use Rattle.acap_lexer.proofs.SpelledTokens.{number_same}
use Rattle.acap_entries.specs.declared.record.Cell.TheVariants as cell
use Rattle.acap_commands.specs.declared.command.Command.{Command}
use Rattle.acap_commands.specs.declared.command.Command.TheVariants as command
use Rattle.acap_commands.specs.declared.store.Given.{Given}
use Rattle.acap_commands.specs.declared.store.Given.TheVariants as given
use Rattle.acap_commands.specs.declared.search_modifiers.Limit.{Limit}
use Rattle.acap_commands.specs.declared.search_modifiers.MakeContext.{MakeContext}
use Rattle.acap_commands.specs.declared.returns.Metadata.{Metadata}
use Rattle.acap_commands.specs.declared.object_name.ObjectName.{ObjectName}
use Rattle.acap_commands.specs.declared.object_name.ObjectName.TheVariants as object_name
use Rattle.acap_commands.specs.declared.test.Relation.TheVariants as relation
use Rattle.acap_commands.specs.declared.returns.ReturnItem.{ReturnItem}
use Rattle.acap_commands.specs.declared.search_modifiers.SearchModifiers.{SearchModifiers}
use Rattle.acap_commands.specs.declared.search_modifiers.SortItem.{SortItem}
use Rattle.acap_commands.specs.declared.store.StoreEntry.{StoreEntry}
use Rattle.acap_commands.specs.declared.store.StoreItem.{StoreItem}
use Rattle.acap_commands.specs.declared.test.Test.{Test}
use Rattle.acap_commands.specs.declared.test.Test.TheVariants as test
use Rattle.acap_grammar.specs.Alike.{plain_kind, plain}
use Rattle.acap_grammar.specs.Sendable.{IsNumber, IsLimit, AreModifiers, IsTest, IsKey, IsSendable}
use Rattle.acap_grammar.specs.Spelling as spelling
use Rattle.acap_grammar.specs.Texts.{written_string, writing_of, pieces_behind, pieces_of, line_of, holding, SpelledTexts, ReadsTexts}
use Rattle.acap_commands.specs.Wanted.{Wanted, One, And, Or, Not}
use Rattle.acap_grammar.proofs.NumberReads.{numerals}
use Rattle.acap_grammar.proofs.PlainReads.{places_law}
use Rattle.acap_grammar.proofs.SpellingReads.{spells_commands}

-- ---- the tokens that spellings are made of

abbrev CanStand : Kind → List ℕ → Type 0
CanStand kind.Word value = IsTrue (list_all is_word value) × (1 ≤ length value)
CanStand kind.Quoted value = Unit {0}
CanStand kind.Open value = value ≡ []
CanStand kind.Close value = value ≡ []
CanStand _ value = ⊥

abbrev AllStand : List Token → Type 0
AllStand [] = Unit {0}
AllStand (t ∷ ts) = CanStand t.kind t.value × AllStand ts

-- ---- numbers as words

third : (a b d e f : Bool) → d ≡ true → a || b || d || e || f ≡ true
third true b d e f h = refl
third false true d e f h = refl
third false false d e f h = rw h refl

word_of_digit : (c : ℕ) → is_ascii_digit c ≡ true → is_word c ≡ true
unfolding is_word
word_of_digit c h =
    let p = and_parts (nat_le 48 c) (nat_le c 57) h in
    let low : 48 ≤ c = leb-true 48 c p.0 in
    let high : c ≤ 57 = leb-true c 57 p.1 in
    third (c == 0x21) (within 0x23 0x27 c) (within 0x2A 0x5B c) (within 0x5D 0x7A c) (within 0x7C 0x7E c) (and_from _ _ (le-leb 0x2A c (omega arith)) (le-leb c 0x5B (omega arith)))

words_of_digits : (digits : List ℕ) → list_all is_ascii_digit digits ≡ true → list_all is_word digits ≡ true
words_of_digits [] h = refl
words_of_digits (c ∷ digits) h =
    let p = and_parts (is_ascii_digit c) (list_all is_ascii_digit digits) h in
    and_from _ _ (word_of_digit c p.0) (words_of_digits digits p.1)

number_stands : (n : ℕ) (rest : List Token) → IsNumber n → AllStand rest → AllStand (spelling.number n rest)
number_stands n rest h r =
    let small : n < 2 ^ 64 = omega arith in
    ((words_of_digits (decimal n) (digits_decimal numerals n small), decimal_nonempty n small), r)

count_is : (n : ℕ) → n ≤ 4294967295 → IsCount (decimal n) n
unfolding is_digit
count_is n h =
    let small : n < 2 ^ 64 = omega arith in
    record {
      digits_only = digits_decimal numerals n small;
      some = decimal_nonempty n small;
      few = length-decimal-le 10 n (omega arith) (omega arith) small;
      number_is = sym (number_same (decimal n)) ∙ digits_value-decimal numerals n small;
      small = h;
    }

-- ---- what may be left out, and lists

there : {A : Type 0} (Suits : A → Type 0) (spell : A → List Token → List Token) → ((x : A) (rest : List Token) → Suits x → AllStand rest → AllStand (spell x rest))
    → (o : Option A) (rest : List Token) → IfSome o Suits → AllStand rest → AllStand (spelling.if_there spell o rest)
there Suits spell f None rest h r = r
there Suits spell f (Some x) rest h r = f x rest h r

maybe : {A : Type 0} (spell : A → List Token → List Token) → ((x : A) (rest : List Token) → AllStand rest → AllStand (spell x rest)) → (o : Option A) (rest : List Token) → AllStand rest → AllStand (spelling.if_there spell o rest)
maybe spell f None rest r = r
maybe spell f (Some x) rest r = f x rest r

all_of : {A : Type 0} (spell : A → List Token → List Token) → ((x : A) (rest : List Token) → AllStand rest → AllStand (spell x rest)) → (xs : List A) (rest : List Token) → AllStand rest → AllStand (spelling.each spell xs rest)
all_of spell f [] rest r = r
all_of spell f (x ∷ xs) rest r = f x _ (all_of spell f xs rest r)

in_order : (b : Bool) (x y : List Token) → AllStand x → AllStand y → AllStand (if b then x else y)
in_order true x y p q = p
in_order false x y p q = q

string_stands : (text : List ℕ) (rest : List Token) → AllStand rest → AllStand (spelling.string text rest)
string_stands text rest r = (tt, r)

object_stands : (o : ObjectName) (rest : List Token) → AllStand rest → AllStand (spelling.object o rest)
object_stands (object_name.Dataset dataset) rest r = (refl, (tt, (refl, r)))
object_stands (object_name.Attribute dataset attribute) rest r = (refl, (tt, (tt, (refl, r))))
object_stands (object_name.Entry dataset attribute name) rest r = (refl, (tt, (tt, (tt, (refl, r)))))

-- ---- STORE

given_stands : (g : Given) (rest : List Token) → AllStand rest → AllStand (spelling.given_tokens g rest)
unfolding is_word
given_stands (given.Put cell.Nil) rest r = ((refl, omega arith), r)
given_stands (given.Put (cell.Single text)) rest r = (tt, r)
given_stands (given.Put (cell.Multi texts)) rest r = (refl, all_of spelling.string string_stands texts _ (refl, r))
given_stands given.Default rest r = ((refl, omega arith), r)

gift_stands : (i : StoreItem) (rest : List Token) → AllStand rest → AllStand (spelling.gift i rest)
gift_stands i rest r = (tt, given_stands i.given rest r)

one_gift_stands : (i : StoreItem) (rest : List Token) → AllStand rest → AllStand (spelling.one_gift i rest)
one_gift_stands i rest r = in_order (spelling.is_bare i.metadata i.given) _ _ (given_stands i.given rest r) (refl, gift_stands i _ (refl, r))

items_stand : (xs : List StoreItem) (rest : List Token) → AllStand rest → AllStand (spelling.items xs rest)
items_stand [] rest r = r
items_stand (i ∷ []) rest r = (tt, one_gift_stands i rest r)
items_stand (i ∷ j ∷ xs) rest r =
    in_order (bytes_eq i.attribute j.attribute) _ _ (tt, (refl, gift_stands i _ (gift_stands j _ (refl, items_stand xs rest r)))) (tt, one_gift_stands i _ (items_stand (j ∷ xs) rest r))

no_create_stands : (b : Bool) (rest : List Token) → AllStand rest → AllStand (spelling.flag (codes "NOCREATE") b rest)
unfolding is_word
no_create_stands false rest r = r
no_create_stands true rest r = ((refl, omega arith), r)

since_stands : (t : ℤ) (rest : List Token) → AllStand rest → AllStand (spelling.unchanged_since t rest)
unfolding is_word
since_stands t rest r = ((refl, omega arith), (tt, r))

entry_stands : (e : StoreEntry) (rest : List Token) → AllStand rest → AllStand (spelling.entry e rest)
entry_stands e rest r =
    (refl, (tt, no_create_stands e.modifiers.no_create _ (maybe spelling.unchanged_since since_stands e.modifiers.unchanged_since _ (items_stand e.items _ (refl, r)))))

-- ---- SEARCH

told_stands : (m : Metadata) (rest : List Token) → AllStand rest → AllStand (spelling.metadata_then m rest)
told_stands m rest r = (tt, r)

return_stands : (i : ReturnItem) (rest : List Token) → AllStand rest → AllStand (spelling.return_item i rest)
return_stands i rest r = (tt, in_order (spelling.is_left_out i.name i.metadata) _ _ r (refl, all_of spelling.metadata_then told_stands i.metadata _ (refl, r)))

sort_item_stands : (s : SortItem) (rest : List Token) → AllStand rest → AllStand (spelling.sort_item s rest)
sort_item_stands s rest r = (tt, (tt, r))

depth_stands : (n : ℕ) (rest : List Token) → IsNumber n → AllStand rest → AllStand (spelling.depth n rest)
unfolding is_word
depth_stands n rest h r = ((refl, omega arith), number_stands n rest h r)

hard_limit_stands : (n : ℕ) (rest : List Token) → IsNumber n → AllStand rest → AllStand (spelling.hard_limit n rest)
unfolding is_word
hard_limit_stands n rest h r = ((refl, omega arith), number_stands n rest h r)

limit_stands : (l : Limit) (rest : List Token) → IsLimit l → AllStand rest → AllStand (spelling.limit l rest)
unfolding is_word
limit_stands l rest h r = ((refl, omega arith), number_stands l.over (spelling.number l.most rest) h.0 (number_stands l.most rest h.1 r))

make_context_stands : (m : MakeContext) (rest : List Token) → AllStand rest → AllStand (spelling.make_context m rest)
unfolding is_word
make_context_stands m rest r = ((refl, omega arith), enumerated m.enumerate _ (notified m.notify _ (tt, r))) where
  enumerated : (b : Bool) (rest : List Token) → AllStand rest → AllStand (spelling.flag (codes "ENUMERATE") b rest)
  enumerated false rest r = r
  enumerated true rest r = ((refl, omega arith), r)

  notified : (b : Bool) (rest : List Token) → AllStand rest → AllStand (spelling.flag (codes "NOTIFY") b rest)
  notified false rest r = r
  notified true rest r = ((refl, omega arith), r)

no_inherit_stands : (b : Bool) (rest : List Token) → AllStand rest → AllStand (spelling.no_inherit b rest)
unfolding is_word
no_inherit_stands false rest r = r
no_inherit_stands true rest r = ((refl, omega arith), r)

returns_stand : (all : List ReturnItem) (rest : List Token) → AllStand rest → AllStand (spelling.returns all rest)
unfolding is_word
returns_stand all rest r = ((refl, omega arith), (refl, all_of spelling.return_item return_stands all _ (refl, r)))

sort_stands : (all : List SortItem) (rest : List Token) → AllStand rest → AllStand (spelling.sort all rest)
unfolding is_word
sort_stands all rest r = ((refl, omega arith), (refl, all_of spelling.sort_item sort_item_stands all _ (refl, r)))

modifiers_stand : (m : SearchModifiers) (rest : List Token) → AreModifiers m → AllStand rest → AllStand (spelling.modifiers m rest)
modifiers_stand m rest h r =
    there IsNumber spelling.depth depth_stands m.depth _ h.depth (there IsNumber spelling.hard_limit hard_limit_stands m.hard_limit _ h.hard_limit
    (there IsLimit spelling.limit limit_stands m.limit _ h.limit (maybe spelling.make_context make_context_stands m.make_context _ (no_inherit_stands m.no_inherit _
    (maybe spelling.returns returns_stand m.returns _ (maybe spelling.sort sort_stands m.sort rest r))))))

test_stands : (t : Test) (rest : List Token) → IsTest t → AllStand rest → AllStand (spelling.test_tokens t rest)
unfolding is_word
test_stands test.All rest h r = ((refl, omega arith), r)
test_stands (test.IsNil attribute c) rest h r = ((refl, omega arith), (tt, (tt, ((refl, omega arith), r))))
test_stands (test.Meets relation.Equal attribute c value) rest h r = ((refl, omega arith), (tt, (tt, (tt, r))))
test_stands (test.Meets relation.AtLeast attribute c value) rest h r = ((refl, omega arith), (tt, (tt, (tt, r))))
test_stands (test.Meets relation.Greater attribute c value) rest h r = ((refl, omega arith), (tt, (tt, (tt, r))))
test_stands (test.Meets relation.Begins attribute c value) rest h r = ((refl, omega arith), (tt, (tt, (tt, r))))
test_stands (test.Meets relation.Contains attribute c value) rest h r = ((refl, omega arith), (tt, (tt, (tt, r))))
test_stands (test.Range first last since) rest h r = ((refl, omega arith), number_stands first (spelling.number last (spelling.time since rest)) h.0 (number_stands last (spelling.time since rest) h.1 (tt, r)))

key_stands : (k : Wanted) (rest : List Token) → IsKey k → AllStand rest → AllStand (spelling.key k rest)
unfolding is_word
key_stands (One t) rest h r = test_stands t rest h r
key_stands (And a b) rest h r = ((refl, omega arith), key_stands a _ h.0 (key_stands b rest h.1 r))
key_stands (Or a b) rest h r = ((refl, omega arith), key_stands a _ h.0 (key_stands b rest h.1 r))
key_stands (Not a) rest h r = ((refl, omega arith), key_stands a rest h r)

-- ---- a whole line

record IsLine (tag : List ℕ) (tokens : List Token) : Type 0 where
  verb : List ℕ
  behind : List Token
  is : tokens ≡ spelling.line tag verb behind
  word : IsTrue (list_all is_word verb) × (1 ≤ length verb)
  stand : AllStand behind

spelled_line : (tag : List ℕ) (c : Command) → IsSendable c → IsLine tag (spelling.tokens_of tag c)
unfolding is_word
spelled_line tag command.Noop h = record { verb = _; behind = _; is = refl; word = (refl, omega arith); stand = tt }
spelled_line tag command.Logout h = record { verb = _; behind = _; is = refl; word = (refl, omega arith); stand = tt }
spelled_line tag (command.Authenticate mechanism) h = record { verb = _; behind = _; is = refl; word = (refl, omega arith); stand = (tt, tt) }
spelled_line tag (command.Store entries) h = record { verb = _; behind = _; is = refl; word = (refl, omega arith); stand = all_of spelling.entry entry_stands entries [] tt }
spelled_line tag (command.Search s) h =
    record { verb = _; behind = _; is = refl; word = (refl, omega arith); stand = (tt, modifiers_stand s.modifiers _ h.modifiers (key_stands s.key [] h.key tt)) }
spelled_line tag (command.SetAcl o identifier rights) h = record { verb = _; behind = _; is = refl; word = (refl, omega arith); stand = object_stands o _ (tt, (tt, tt)) }
spelled_line tag (command.DeleteAcl o identifier) h =
    record { verb = _; behind = _; is = refl; word = (refl, omega arith); stand = object_stands o _ (maybe spelling.string string_stands identifier [] tt) }
spelled_line tag (command.MyRights o) h = record { verb = _; behind = _; is = refl; word = (refl, omega arith); stand = object_stands o [] tt }
spelled_line tag (command.ListRights o identifier) h = record { verb = _; behind = _; is = refl; word = (refl, omega arith); stand = object_stands o _ (tt, tt) }
spelled_line tag (command.DeletedSince name since) h = record { verb = _; behind = _; is = refl; word = (refl, omega arith); stand = (tt, (tt, tt)) }
spelled_line tag (command.FreeContext context) h = record { verb = _; behind = _; is = refl; word = (refl, omega arith); stand = (tt, tt) }
spelled_line tag (command.UpdateContext contexts) h = record { verb = _; behind = _; is = refl; word = (refl, omega arith); stand = all_of spelling.string string_stands contexts [] tt }

-- ---- the pieces of a line are a spelling of its tokens

abbrev IsBehindTag : Kind → Type 0
IsBehindTag kind.Tag = ⊥
IsBehindTag _ = Unit {0}

follows : (last next : Kind) → IsBehindTag last → IsTrue (may_follow (Some last) (may_part last next) next)
follows kind.Tag next h = absurd h
follows kind.Open next h = refl
follows last kind.Close h = refl
follows last next h = refl

abbrev literal_of : List ℕ → Written
literal_of text = Literal (decimal (length text)) false text

literal_spelled : (text : List ℕ) → length (own (literal_of text)) ≤ 262144 → IsSpelled (literal_of text)
literal_spelled text h =
    let mark_is = length-append (mark (decimal (length text)) false) (crlf ++ text) in
    count_is (length text) (omega (arith, h, mark_is, length-append crlf text))

string_spelled : (text : List ℕ) → length (own (written_string text)) ≤ 262144 → IsSpelled (written_string text)
unfolding may_quote
string_spelled text h = by_quote (may_quote text) refl h where
  by_quote : (b : Bool) → may_quote text ≡ b → length (own (if b then Quoted text else literal_of text)) ≤ 262144 → IsSpelled (if b then Quoted text else literal_of text)
  by_quote true e h =
      let p = and_parts (nat_le (length (escaped_form text)) 1024) (is_utf8 text && list_all is_printable text) e in
      ((and_parts (is_utf8 text) (list_all is_printable text) p.1).1, leb-true (length (escaped_form text)) 1024 p.0)
  by_quote false e h = literal_spelled text h

spelled : (k : Kind) (value : List ℕ) → CanStand k value → length (own (writing_of k value)) ≤ 262144 → IsSpelled (writing_of k value)
spelled kind.Tag value s h = absurd s
spelled kind.Word value s h = s
spelled kind.Quoted value s h = string_spelled value h
spelled kind.Literal value s h = absurd s
spelled kind.Open value s h = tt
spelled kind.Close value s h = tt

string_kind : (b : Bool) (text : List ℕ) → IsBehindTag (kind_of (if b then Quoted text else literal_of text))
string_kind true text = tt
string_kind false text = tt

behind_tag : (k : Kind) (value : List ℕ) → CanStand k value → IsBehindTag (kind_of (writing_of k value))
behind_tag kind.Tag value s = absurd s
behind_tag kind.Word value s = tt
behind_tag kind.Quoted value s = string_kind (may_quote value) value
behind_tag kind.Literal value s = absurd s
behind_tag kind.Open value s = tt
behind_tag kind.Close value s = tt

pieces_stand : (last : Kind) (ts : List Token) → IsBehindTag last → AllStand ts → length (text_of (pieces_behind last ts)) ≤ 262144 → Stand (Some last) (pieces_behind last ts)
pieces_stand last [] b a h = tt
pieces_stand last (t ∷ ts) b a h =
    let w = writing_of t.kind t.value in
    let left = text_of (pieces_behind (kind_of w) ts) in
    let outer = length-append (gap (may_part last (kind_of w))) (own w ++ left) in
    let inner = length-append (own w) left in
    (follows last (kind_of w) b, spelled t.kind t.value a.0 (omega (arith, h, outer, inner)), pieces_stand (kind_of w) ts (behind_tag t.kind t.value a.0) a.1 (omega (arith, h, outer, inner)))

string_waits : (b : Bool) (text : List ℕ) → wait (if b then Quoted text else literal_of text) ≡ 0
string_waits true text = refl
string_waits false text = refl

one_waits : (k : Kind) (value : List ℕ) → CanStand k value → wait (writing_of k value) ≡ 0
one_waits kind.Tag value s = absurd s
one_waits kind.Word value s = refl
one_waits kind.Quoted value s = string_waits (may_quote value) value
one_waits kind.Literal value s = absurd s
one_waits kind.Open value s = refl
one_waits kind.Close value s = refl

pieces_wait : (last : Kind) (ts : List Token) → AllStand ts → waits_of (pieces_behind last ts) ≡ 0
pieces_wait last [] a = refl
pieces_wait last (t ∷ ts) a = let one = one_waits t.kind t.value a.0 in let others = pieces_wait (kind_of (writing_of t.kind t.value)) ts a.1 in omega (arith, one, others)

abbrev plain_token : Kind → List ℕ → Token
plain_token k value = record { kind = plain_kind k; value = value; start = 0; end = 0 }

string_alike : (b : Bool) (text : List ℕ) (at : ℕ) → plain (token at (if b then Quoted text else literal_of text)) ≡ plain_token kind.Quoted text
string_alike true text at = refl
string_alike false text at = refl

one_alike : (k : Kind) (value : List ℕ) (at : ℕ) → CanStand k value → plain (token at (writing_of k value)) ≡ plain_token k value
one_alike kind.Tag value at s = absurd s
one_alike kind.Word value at s = refl
one_alike kind.Quoted value at s = string_alike (may_quote value) value at
one_alike kind.Literal value at s = absurd s
one_alike kind.Open value at s = ap (plain_token kind.Open) (sym s)
one_alike kind.Close value at s = ap (plain_token kind.Close) (sym s)

pieces_alike : (last : Kind) (at : ℕ) (ts : List Token) → AllStand ts → map plain (tokens_from at (pieces_behind last ts)) ≡ map plain ts
pieces_alike last at [] a = refl
pieces_alike last at (t ∷ ts) a =
    let w = writing_of t.kind t.value in
    let start = at + length (gap (may_part last (kind_of w))) in
    let others = pieces_alike (kind_of w) (start + length (own w)) ts a.1 in
    ap (λ (u : Token). u ∷ map plain (tokens_from (start + length (own w)) (pieces_behind (kind_of w) ts))) (one_alike t.kind t.value start a.0) ∙ ap (λ (us : List Token). plain t ∷ us) others

-- what is so of the pieces of tokens after a tag
record IsSpelledBehind (at : ℕ) (ts : List Token) : Type 0 where
  stand : length (text_of (pieces_behind kind.Tag ts)) ≤ 262144 → Stand (Some kind.Tag) (pieces_behind kind.Tag ts)
  waits : waits_of (pieces_behind kind.Tag ts) ≡ 0
  alike : map plain (tokens_from at (pieces_behind kind.Tag ts)) ≡ map plain ts

behind_verb : (at : ℕ) (verb : List ℕ) (ts : List Token) → IsTrue (list_all is_word verb) × (1 ≤ length verb) → AllStand ts → IsSpelledBehind at (spelling.word verb ts)
behind_verb at verb ts w a = record {
  stand = λ h. (refl, w, pieces_stand kind.Word ts tt a (omega (arith, h, length-append (codes " ") (verb ++ text_of (pieces_behind kind.Word ts)), length-append verb (text_of (pieces_behind kind.Word ts)))));
  waits = pieces_wait kind.Tag (spelling.word verb ts) (w, a);
  alike = pieces_alike kind.Tag at (spelling.word verb ts) (w, a);
}

line_answered : (text rest : List ℕ) (tokens : List Token) → progress mode.Command (text ++ rest) ≡ record { waits = 0; item = Some (Line tokens, length text) }
    → next_of mode.Command (holding (text ++ rest)) ≡ (Line tokens, holding rest)
unfolding next_of
line_answered text rest tokens p = rw p (ap (λ (left : List ℕ). let x : Lexed × Held = (Line tokens, holding left) in x) (drop-append_seam text rest))

all_answered : (text rest : List ℕ) (tokens : List Token) (modes : List Mode) → progress mode.Command (text ++ rest) ≡ record { waits = 0; item = Some (Line tokens, length text) }
    → answers_of (mode.Command ∷ modes) (text ++ rest) ≡ Line tokens ∷ answers_of modes rest
unfolding answers_from
all_answered text rest tokens modes p = rw p (ap (λ (left : List ℕ). Line tokens ∷ answers_of modes left) (drop-append_seam text rest))

pub spelled_texts : SpelledTexts
spelled_texts tag rest c h s short =
    let l = spelled_line tag c s in
    let behind : drop 1 (spelling.tokens_of tag c) ≡ spelling.word l.verb l.behind = ap (λ (ts : List Token). drop 1 ts) l.is in
    let b = subst (λ (ts : List Token). IsSpelledBehind (length tag) ts) (sym behind) (behind_verb (length tag) l.verb l.behind l.word l.stand) in
    let tokens = tokens_before mode.Command tag ++ tokens_from (length tag) (pieces_of tag c) in
    let is_spelling : IsSpelling mode.Command tokens 0 (line_of tag c) = record {
      tag = tag;
      pieces = pieces_of tag c;
      begins = h;
      stand = b.stand (omega (arith, short.whole, length-append tag (text_of (pieces_of tag c))));
      text_is = refl;
      tokens_are = refl;
      waits_are = sym b.waits;
      parts_fit = short.parts;
      fits = short.whole;
    } in
    let whole : spelling.tokens_of tag c ≡ spelling.token kind.Tag tag ∷ drop 1 (spelling.tokens_of tag c) = l.is ∙ ap (λ (ts : List Token). spelling.token kind.Tag tag ∷ ts) (sym behind) in
    let alike : map plain tokens ≡ map plain (spelling.tokens_of tag c) =
    ap (λ (ts : List Token). spelling.token kind.Tag tag ∷ ts) b.alike ∙ sym (ap (λ (ts : List Token). map plain ts) whole) in
    let read = spelling_reads mode.Command (line_of tag c) rest tokens 0 is_spelling in
    (tokens, line_answered (line_of tag c) rest tokens read, (λ modes. all_answered (line_of tag c) rest tokens modes read), (places_law tokens (spelling.tokens_of tag c) alike).0 ∙ spells_commands tag c s)

pub reads_texts : ReadsTexts
reads_texts tag text rest c tokens waits s is_spelling alike =
    (spelling_reads mode.Command text rest tokens waits is_spelling, (places_law tokens (spelling.tokens_of tag c) alike).0 ∙ spells_commands tag c s)
