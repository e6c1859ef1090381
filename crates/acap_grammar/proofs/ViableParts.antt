-- What stands before a fault in a part that commands share goes on to the part: strings, words, parentheses and objects.
use Rattle.std.proofs.Common.{◌≡◌, ℕ, Bool, true, false, List, [], ◌∷◌, drop, codes, Option, Some, None, Result, Ok, Err, refl, inr}
use Rattle.std.specs.Prelude.{pos}
use Rattle.jiff_core.specs.Calendar.{day_count, days_of_years, days_of_months}
use Rattle.acap_entries.specs.Times.{is_civil, is_time, time_of}
use Rattle.std.specs.Str.{is_utf8, chars, str_eq_ignore_ascii_case}
use Rattle.std.specs.Char.{encode_utf8}
use Rattle.acap_lexer.specs.declared.kind.Kind.{Kind}
use Rattle.acap_lexer.specs.declared.kind.Kind.TheVariants as kind
use Rattle.acap_lexer.specs.Reading as reading
use Rattle.acap_entries.specs.Names as names
use Rattle.acap_commands.specs.declared.object_name.ObjectName.TheVariants as object_name
use Rattle.acap_lexer.specs.Token.{Token}
use Rattle.acap_grammar.specs.declared.command_fault.CommandFault.{CommandFault}
use Rattle.acap_grammar.specs.declared.command_fault.CommandFault.TheVariants as fault
use Rattle.acap_grammar.specs.Arguments as argument
use Rattle.acap_grammar.specs.Arguments.{named_at}
use Rattle.acap_grammar.specs.Marks as mark
use Rattle.acap_grammar.specs.Outcome.{◌>>=◌, Read, fault_here, verdict_at}
use Rattle.acap_grammar.specs.Several.{some_of, in_parenthesis}
use Rattle.acap_grammar.specs.Storing.{once}
use Rattle.acap_grammar.proofs.Looking.{starting}
use Rattle.acap_grammar.proofs.Mending.{any, Mends, Begun, Items, Always, Takes, Goes, Sinks, Fails, Taking, after, anything, begun_then, bind, mended, nothing_more, same_takes, some_begun, some_items, takes_one, then_taking, make_taking, unless, value}

-- ---- tokens that are sent

abbrev token : Kind → List ℕ → Token
token k v = record { kind = k; value = v; start = 0; end = 0 }

abbrev pub text : List ℕ → Token
text v = token kind.Quoted v

abbrev pub word : List ℕ → Token
word v = token kind.Word v

abbrev pub closed : Token
closed = token kind.Close []

-- ---- strings, names and words

pub string : Taking mark.string_at any
unfolding mark.string_at
string = record { none = refl; at = λ t. by_kind t (mark.is_string t.kind) refl } where
  by_kind : (t : Token) (b : Bool) → mark.is_string t.kind ≡ b → Takes mark.string_at any t
  by_kind t false e = Fails fault.Arguments (λ rest. rw e refl)
  by_kind t true e = Goes (λ rest. Ok (t.value, rest)) (value any t.value) (nothing_more any t.value) (λ rest. rw e refl)

pub a_string : (begin : List Token → Bool) → ((rest : List Token) → begin (text [] ∷ rest) ≡ true) → Begun mark.string_at any begin
unfolding mark.string_at
a_string begin b = record { more = text [] ∷ []; value = []; is = λ rest h. refl; start = λ rest h. b rest }

pub named : {A : Type 0} (read : List ℕ → Result A CommandFault) → Taking (named_at read) any
unfolding named_at mark.string_at
named {A} read = record { none = refl; at = λ t. by_kind t (mark.is_string t.kind) refl (read t.value) refl } where
  by_kind : (t : Token) (b : Bool) → mark.is_string t.kind ≡ b → (r : Result A CommandFault) → read t.value ≡ r → Takes (named_at read) any t
  by_kind t false e r n = Fails fault.Arguments (λ rest. rw e refl)
  by_kind t true e (Ok x) n = Goes (λ rest. Ok (x, rest)) (value any x) (nothing_more any x) (λ rest. rw (e, n) refl)
  by_kind t true e (Err f) n = Fails f (λ rest. rw (e, n) refl)

a_name : {A : Type 0} (read : List ℕ → Result A CommandFault) (v : List ℕ) (x : A) → read v ≡ Ok x → (begin : List Token → Bool) → ((rest : List Token) → begin (text v ∷ rest) ≡ true) → Begun (named_at read) any begin
unfolding named_at mark.string_at
a_name read v x e begin b = record { more = text v ∷ []; value = x; is = λ rest h. rw e refl; start = λ rest h. b rest }

pub number : Taking argument.number_at any
unfolding argument.number_at
number = record { none = refl; at = λ t. by_kind t (mark.is_word t.kind) refl (argument.number_in t.value) refl } where
  by_kind : (t : Token) (b : Bool) → mark.is_word t.kind ≡ b → (o : Option ℕ) → argument.number_in t.value ≡ o → Takes argument.number_at any t
  by_kind t false e o n = Fails fault.Arguments (λ rest. rw e refl)
  by_kind t true e None n = Fails fault.Arguments (λ rest. rw (e, n) refl)
  by_kind t true e (Some x) n = Goes (λ rest. Ok (x, rest)) (value any x) (nothing_more any x) (λ rest. rw (e, n) refl)

pub a_number : Begun argument.number_at any any
unfolding argument.number_at reading.count_of reading.is_count
a_number = record { more = word (codes "1") ∷ []; value = 1; is = λ rest h. refl; start = λ rest h. refl }

-- a name that didn't stand before, and what follows it
pub fresh_name : {A B : Type 0} (read : List ℕ → Result A CommandFault) (stood : A → Bool) (f : A → List Token → Read B) (may : List Token → Bool) → ((x : A) → stood x ≡ false → Mends (f x) may)
    → ((x : A) → stood x ≡ false → Begun (f x) may any) → Taking (λ ts. named_at read ts >>= λ x. verdict_at ts (once (stood x.0)) >>= λ new. f x.0 x.1) may
unfolding named_at mark.string_at
fresh_name {A} {B} read stood f may p anew = record { none = refl; at = λ t. by_kind t (mark.is_string t.kind) refl (read t.value) refl } where
  by_kind : (t : Token) (b : Bool) → mark.is_string t.kind ≡ b → (r : Result A CommandFault) → read t.value ≡ r → Takes (λ ts. named_at read ts >>= λ x. verdict_at ts (once (stood x.0)) >>= λ new. f x.0 x.1) may t
  by_kind t false e r n = Fails fault.Arguments (λ rest. rw e refl)
  by_kind t true e (Err d) n = Fails d (λ rest. rw (e, n) refl)
  by_kind t true e (Ok x) n = by_stood (stood x) refl where
    by_stood : (c : Bool) → stood x ≡ c → Takes (λ ts. named_at read ts >>= λ y. verdict_at ts (once (stood y.0)) >>= λ new. f y.0 y.1) may t
    by_stood false s = Goes (f x) (p x s) (anew x s) (λ rest. rw (e, n, s) refl)
    by_stood true s = Fails fault.NotPermittedTwice (λ rest. rw (e, n, s) refl)

-- after a token of a kind
after_kind : {A : Type 0} (is : Kind → Bool) (f : List Token → Read A) (may : List Token → Bool) → Mends f may → Begun f may any → Taking (λ ts. mark.behind is ts >>= f) may
unfolding mark.behind
after_kind {A} is f may p anew = record { none = refl; at = λ t. by_kind t (is t.kind) refl } where
  by_kind : (t : Token) (b : Bool) → is t.kind ≡ b → Takes (λ ts. mark.behind is ts >>= f) may t
  by_kind t false e = Fails fault.Arguments (λ rest. rw e refl)
  by_kind t true e = Goes f p anew (λ rest. rw e refl)

-- a closing parenthesis, and a value
pub closing : {A : Type 0} (x : A) → Taking (λ ts. mark.behind mark.is_close ts >>= λ left. Ok (x, left)) any
closing x = after_kind mark.is_close (λ left. Ok (x, left)) any (value any x) (nothing_more any x)

pub a_closing : {A : Type 0} (x : A) (begin : List Token → Bool) → ((rest : List Token) → begin (closed ∷ rest) ≡ true) → Begun (λ ts. mark.behind mark.is_close ts >>= λ left. Ok (x, left)) any begin
unfolding mark.behind
a_closing x begin b = record { more = closed ∷ []; value = x; is = λ rest h. refl; start = λ rest h. b rest }

-- by a word of a table
pub worded : {W A : Type 0} (table : List (List ℕ × W)) (g : List Token → Option (W × List Token) → Read A) (may : List Token → Bool) → ((ts : List Token) → g ts None ≡ fault_here ts fault.Arguments)
    → ((t : Token) (w : W) → Takes (λ ts. g ts (Some (w, drop 1 ts))) may t) → Taking (λ ts. g ts (mark.word_at table ts)) may
unfolding mark.word_at
worded {W} {A} table g may none some = record { none = none []; at = λ t. by_kind t (mark.is_word t.kind) refl (mark.word_in table t.value) refl } where
  by_kind : (t : Token) (b : Bool) → mark.is_word t.kind ≡ b → (o : Option W) → mark.word_in table t.value ≡ o → Takes (λ ts. g ts (mark.word_at table ts)) may t
  by_kind t false e o n = Fails fault.Arguments (λ rest. rw e (none (t ∷ rest)))
  by_kind t true e None n = Fails fault.Arguments (λ rest. rw (e, n) (none (t ∷ rest)))
  by_kind t true e (Some w) n = elim (some t w) [
    | Goes next p b is ↦ Goes next p b (λ rest. rw (e, n) (is rest))
    | Sinks next p is ↦ Sinks next p (λ rest. rw (e, n) (is rest))
    | Fails d is ↦ Fails d (λ rest. rw (e, n) (is rest))
  ]

pub judged : {A : Type 0} (judgement : Result (Unit {0}) CommandFault) (next : List Token → Read A) (may : List Token → Bool) → Mends next may → Begun next may any → (t : Token)
    → Takes (λ ts. verdict_at ts judgement >>= λ new. next (drop 1 ts)) may t
judged (Ok x) next may p b t = Goes next p b (λ rest. refl)
judged (Err f) next may p b t = Fails f (λ rest. refl)

-- where a word may stand first
pub flagged : {A : Type 0} (of : List ℕ) (g : List Token → Option (List Token) → Read A) (next : List Token → Read A) (may : List Token → Bool) → Taking (λ ts. g ts None) may → Mends next may → Begun next may any
    → ((ts rest : List Token) → g ts (Some rest) ≡ next rest) → Taking (λ ts. g ts (mark.behind_word of ts)) may
unfolding mark.behind_word
flagged {A} of g next may p q b is = record { none = p.none; at = λ t. by_tests t (mark.is_word t.kind) refl (str_eq_ignore_ascii_case t.value of) refl } where
  by_tests : (t : Token) (c : Bool) → mark.is_word t.kind ≡ c → (d : Bool) → str_eq_ignore_ascii_case t.value of ≡ d → Takes (λ ts. g ts (mark.behind_word of ts)) may t
  by_tests t false e d n = same_takes _ _ may t (λ rest. rw e refl) (p.at t)
  by_tests t true e false n = same_takes _ _ may t (λ rest. rw (e, n) refl) (p.at t)
  by_tests t true e true n = Goes next q b (λ rest. rw (e, n) (is (t ∷ rest) rest))

-- ---- items in a parenthesis

pub enclosed : {A : Type 0} (fits next : List Token → Bool) (item : A → List Token → Read A) → Items (mark.starts mark.is_close) next item Always → (most : ℕ) (none : A) → Begun (item none) next any
    → Taking (in_parenthesis (mark.starts mark.is_close) fits item most none) any
unfolding in_parenthesis mark.starts
enclosed fits next item i most none b =
    after_kind mark.is_open (λ inside. some_of (mark.starts mark.is_close) fits item most none inside >>= λ items. mark.behind mark.is_close items.1 >>= λ left. Ok (items.0, left)) any
    (bind (some_of (mark.starts mark.is_close) fits item most none) (λ items. mark.behind mark.is_close items.1 >>= λ left. Ok (items.0, left)) (mark.starts mark.is_close) any
    (some_items (mark.starts mark.is_close) fits next item Always i most none tt) (λ x. mended _ any (closing x)) (λ x. a_closing x (mark.starts mark.is_close) (λ rest. refl)) (λ x. inr (takes_one _ any (closing x))))
    (begun_then (some_of (mark.starts mark.is_close) fits item most none) (λ items. mark.behind mark.is_close items.1 >>= λ left. Ok (items.0, left)) (mark.starts mark.is_close) any any
    (some_begun (mark.starts mark.is_close) fits next any item Always i most none b) (λ x. a_closing x (mark.starts mark.is_close) (λ rest. refl)))

-- ---- readers of which both is so

pub record Whole {A : Type 0} (read : List Token → Read A) (may : List Token → Bool) : Type 0 where
  pub mends : Mends read may
  pub begun : Begun read may any

pub a_value : {A : Type 0} (may : List Token → Bool) (x : A) → Whole (λ (ts : List Token). Ok (x, ts)) may
a_value may x = record { mends = value may x; begun = anything _ may may (nothing_more may x) }

pub both : {A B : Type 0} (read : List Token → Read A) (f : A × List Token → Read B) (may : List Token → Bool) → Mends read any → Begun read any any → ((x : A) → Whole (λ ts. f (x, ts)) may) → Whole (λ ts. read ts >>= f) may
both read f may p b q = record { mends = after read f may p (λ x. (q x).mends) (λ x. (q x).begun); begun = begun_then read f any may any b (λ x. (q x).begun) }

pub made_of : {A B : Type 0} (read : List Token → Read A) (make : A → B) (may : List Token → Bool) → Mends read any → Begun read any any → Whole (λ ts. read ts >>= λ x. Ok (make x.0, x.1)) may
made_of read make may p b = both read (λ x. Ok (make x.0, x.1)) may p b (λ x. a_value may (make x))

pub closed_after : {A B : Type 0} (read : List Token → Read A) (make : A → B) → Mends read (mark.starts mark.is_close) → Begun read (mark.starts mark.is_close) any
    → Whole (λ ts. read ts >>= λ x. mark.behind mark.is_close x.1 >>= λ left. Ok (make x.0, left)) any
unfolding mark.starts
closed_after read make p b = record {
  mends = bind read (λ x. mark.behind mark.is_close x.1 >>= λ left. Ok (make x.0, left)) (mark.starts mark.is_close) any p (λ x. mended _ any (closing (make x)))
      (λ x. a_closing (make x) (mark.starts mark.is_close) (λ rest. refl)) (λ x. inr (takes_one _ any (closing (make x))));
  begun = begun_then read (λ x. mark.behind mark.is_close x.1 >>= λ left. Ok (make x.0, left)) (mark.starts mark.is_close) any any b (λ x. a_closing (make x) (mark.starts mark.is_close) (λ rest. refl));
}

pub opened : {A : Type 0} (f : List Token → Read A) → Whole f any → Taking (λ ts. mark.behind mark.is_open ts >>= f) any
opened f w = after_kind mark.is_open f any w.mends w.begun

pub an_opened : {A : Type 0} (f : List Token → Read A) → Whole f any → Begun (λ ts. mark.behind mark.is_open ts >>= f) any any
unfolding mark.behind
an_opened f w = record { more = token kind.Open [] ∷ w.begun.more; value = w.begun.value; is = λ rest h. w.begun.is rest h; start = λ rest h. refl }

pub the_name : {A : Type 0} (read : List ℕ → Result A CommandFault) (v : List ℕ) (x : A) → read v ≡ Ok x → Begun (named_at read) any any
the_name read v x e = a_name read v x e any (λ rest. refl)

-- ---- objects

entry_part : (dataset attribute : List ℕ) → Whole (argument.entry_part dataset attribute) (mark.starts mark.is_close)
unfolding argument.entry_part
entry_part dataset attribute =
    let rest_of = make_taking (named_at (argument.entry_named dataset)) (λ name. object_name.Entry dataset attribute name) (mark.starts mark.is_close) (named (argument.entry_named dataset)) in
    record {
      mends = unless (mark.starts mark.is_close) (object_name.Attribute dataset attribute) _ (starting mark.is_close) (mended _ _ rest_of) (takes_one _ _ rest_of);
      begun = record { more = []; value = object_name.Attribute dataset attribute; is = λ rest h. rw h refl; start = λ rest h. refl };
    }

attribute_part : (dataset : List ℕ) → Whole (argument.attribute_part dataset) (mark.starts mark.is_close)
unfolding argument.attribute_part
attribute_part dataset =
    let rest_of = then_taking (named_at argument.attribute_named) (λ a. argument.entry_part dataset a.0 a.1) (mark.starts mark.is_close) (named argument.attribute_named)
    (λ a. (entry_part dataset a).mends) (λ a. (entry_part dataset a).begun) in
    record {
      mends = unless (mark.starts mark.is_close) (object_name.Dataset dataset) _ (starting mark.is_close) (mended _ _ rest_of) (takes_one _ _ rest_of);
      begun = record { more = []; value = object_name.Dataset dataset; is = λ rest h. rw h refl; start = λ rest h. refl };
    }

pub root_named : argument.dataset_named (codes "/") ≡ Ok (codes "/")
unfolding argument.dataset_named names.is_dataset_argument names.components
root_named = refl

pub a_named : argument.attribute_named (codes "a") ≡ Ok (codes "a")
unfolding argument.attribute_named names.is_attribute is_utf8 chars encode_utf8
a_named = refl

pub a_time : argument.time_named (codes "19700101000000") ≡ Ok (pos 0)
unfolding time_of is_time is_civil day_count days_of_years days_of_months
a_time = refl

in_object : Whole (λ inside. named_at argument.dataset_named inside >>= λ d. argument.attribute_part d.0 d.1 >>= λ o. mark.behind mark.is_close o.1 >>= λ left. Ok (o.0, left)) any
in_object = both (named_at argument.dataset_named) _ any (mended _ any (named _)) (the_name _ (codes "/") _ root_named) (λ d. closed_after (argument.attribute_part d) (λ o. o) (attribute_part d).mends (attribute_part d).begun)

pub object : Taking argument.object_at any
unfolding argument.object_at
object = opened _ in_object

pub an_object : Begun argument.object_at any any
unfolding argument.object_at
an_object = an_opened _ in_object
