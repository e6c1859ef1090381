-- What stands before a fault in a SEARCH goes on to one.
use Rattle.std.proofs.Common.{◌≡◌, ℕ, zero, suc, Bool, true, false, not, List, [], ◌∷◌, ◌++◌, drop, codes, Some, Ok, Err, refl, sym, ap, ◌∙◌, ◌⊎◌, inl, inr}
use Rattle.std.specs.Prelude.{if◌then◌else◌}
use Rattle.acap_commands.specs.Modifiers as plain_modifiers
use Rattle.std.specs.Str.{is_utf8, chars}
use Rattle.std.specs.Char.{encode_utf8}
use Rattle.acap_lexer.specs.declared.kind.Kind.{Kind}
use Rattle.acap_lexer.specs.declared.kind.Kind.TheVariants as kind
use Rattle.acap_entries.specs.Names as names
use Rattle.acap_order.specs.declared.comparator.Comparator.{Comparator}
use Rattle.acap_commands.specs.declared.returns.Metadata.{Metadata}
use Rattle.acap_commands.specs.declared.returns.Metadata.TheVariants as shown
use Rattle.acap_commands.specs.declared.test.Relation.{Relation}
use Rattle.acap_commands.specs.declared.test.Relation.TheVariants as relation
use Rattle.acap_commands.specs.declared.returns.ReturnItem.{ReturnItem}
use Rattle.acap_commands.specs.declared.returns.ReturnName.{ReturnName}
use Rattle.acap_commands.specs.declared.search_modifiers.SortItem.{SortItem}
use Rattle.acap_commands.specs.declared.test.Test.TheVariants as test
use Rattle.acap_commands.specs.Wanted.{Wanted, One, And, Or, Not}
use Rattle.acap_grammar.specs.declared.words.KeyWord.{KeyWord}
use Rattle.acap_grammar.specs.declared.words.KeyWord.TheVariants as key_word
use Rattle.acap_grammar.specs.Keys as keys
use Rattle.acap_grammar.specs.Searching as searching
use Rattle.acap_commands.specs.declared.search_modifiers.MakeContext.{MakeContext}
use Rattle.acap_commands.specs.declared.search.Search.{Search}
use Rattle.acap_commands.specs.declared.search_modifiers.SearchModifiers.{SearchModifiers}
use Rattle.acap_commands.specs.declared.target.Target.{Target}
use Rattle.acap_commands.specs.declared.target.Target.TheVariants as target
use Rattle.acap_grammar.specs.declared.searching.Scope.{Scope}
use Rattle.acap_grammar.specs.declared.words.SearchWord.{SearchWord}
use Rattle.acap_grammar.specs.declared.words.SearchWord.TheVariants as search_word
use Rattle.acap_lexer.specs.Token.{Token}
use Rattle.acap_grammar.specs.declared.command_fault.CommandFault.TheVariants as fault
use Rattle.acap_grammar.specs.Arguments as argument
use Rattle.acap_grammar.specs.Arguments.{named_at}
use Rattle.acap_grammar.specs.Marks as mark
use Rattle.acap_grammar.specs.Outcome.{◌>>=◌, Fault, Read}
use Rattle.acap_grammar.specs.Several.{several, some_of, in_parenthesis}
use Rattle.acap_grammar.proofs.Looking.{starting, worded_first}
use Rattle.acap_grammar.proofs.Mending as does
use Rattle.acap_grammar.proofs.Mending.{any, Yields, Does, by_token, Mends, Begun, Items, Always, Hopeless, Takes, Goes, Sinks, Fails, Taking, begun_then, before_some, begun_before, begun_made, hopeless_then, items, made, mended, none_begun, nothing_more, plain_items, some_begun, some_items, takes_one, then_taking, make_taking, value}
use Rattle.acap_grammar.proofs.ViableParts.{text, word, string, a_string, named, number, a_number, worded, judged, flagged, enclosed, Whole, a_value, both, made_of, closed_after, opened, an_opened, the_name, root_named, a_named, a_time}
use Rattle.acap_grammar.proofs.ViableItems.{to_close}
use Rattle.acap_grammar.proofs.ViableStores.{seamed}

-- ---- keys

string_part : (r : Relation) (of : List ℕ) (by : Comparator) → Whole (keys.string_part r of by) any
string_part r of by = made_of mark.string_at (λ x. test.Meets r of by x) any (mended _ any string) (a_string any (λ rest. refl))

value_part : (r : Relation) (of : List ℕ) (by : Comparator) → Whole (keys.value_part r of by) any
unfolding keys.value_part mark.behind_word mark.string_at
value_part relation.Equal of by =
    let there = flagged (codes "NIL") (keys.equal_part of by) (λ rest. Ok (test.IsNil of by, rest)) any (make_taking mark.string_at (λ x. test.Meets relation.Equal of by x) any string) (value any _) (nothing_more any _) (λ ts rest. refl) in
    record { mends = mended _ any there; begun = record { more = text [] ∷ []; value = test.Meets relation.Equal of by []; is = λ rest h. refl; start = λ rest h. refl } }
value_part relation.AtLeast of by = string_part relation.AtLeast of by
value_part relation.Greater of by = string_part relation.Greater of by
value_part relation.Begins of by = string_part relation.Begins of by
value_part relation.Contains of by = string_part relation.Contains of by

a_comparator : (r : Relation) → (c : Comparator) × (argument.comparator_for r (codes "i;octet") ≡ Ok c)
unfolding argument.comparator_for
a_comparator relation.Equal = (_, refl)
a_comparator relation.AtLeast = (_, refl)
a_comparator relation.Greater = (_, refl)
a_comparator relation.Begins = (_, refl)
a_comparator relation.Contains = (_, refl)

meets : (r : Relation) → Whole (keys.meets_at r) any
unfolding keys.meets_at
meets r =
    both (named_at argument.attribute_named) _ any (mended _ any (named _)) (the_name _ (codes "a") _ a_named)
    (λ a. both (named_at (argument.comparator_for r)) _ any (mended _ any (named _)) (the_name _ (codes "i;octet") _ (a_comparator r).1) (λ c. value_part r a c))

range : Whole keys.range_at any
unfolding keys.range_at
range =
    both argument.number_at _ any (mended _ any number) a_number
    (λ first. both argument.number_at _ any (mended _ any number) a_number (λ last. made_of (named_at argument.time_named) (λ since. test.Range first last since) any (mended _ any (named _)) (the_name _ (codes "19700101000000") _ a_time)))

no_level : Hopeless (keys.key_at zero)
unfolding keys.key_at mark.ends
no_level = record { never = λ ts x m. absurd cc; deep = deep } where
  deep : (ts : List Token) (e : Fault) (t : Token) (left : List Token) → keys.key_at zero ts ≡ Err e → e.left ≡ t ∷ left → e.fault ≡ fault.TooDeep
  deep [] e t left m l = let all : record { fault = fault.Arguments; left = [] } ≡ e = cc in let none : [] ≡ t ∷ left = ap (λ (x : Fault). x.left) all ∙ l in absurd cc
  deep (u ∷ ts) e t left m l = let all : record { fault = fault.TooDeep; left = u ∷ ts } ≡ e = cc in ap (λ (x : Fault). x.fault) (sym all)

two : (join : Wanted → Wanted → Wanted) (inner : List Token → Read Wanted) → Whole inner any → Whole (keys.two_of join inner) any
two join inner w = both inner _ any w.mends w.begun (λ first. made_of inner (λ second. join first second) any w.mends w.begun)

key_behind : (inner : List Token → Read Wanted) → Hopeless inner ⊎ Whole inner any → (t : Token) (w : KeyWord) → Takes (λ ts. keys.key_by inner ts (Some (w, drop 1 ts))) any t
unfolding keys.key_behind
key_behind inner p t key_word.All = Goes (λ rest. Ok (One test.All, rest)) (value any _) (nothing_more any _) (λ rest. refl)
key_behind inner (inl p) t key_word.And = Sinks (keys.two_of And inner) (hopeless_then inner _ p) (λ rest. refl)
key_behind inner (inr p) t key_word.And = let w = two And inner p in Goes (keys.two_of And inner) w.mends w.begun (λ rest. refl)
key_behind inner (inl p) t key_word.Or = Sinks (keys.two_of Or inner) (hopeless_then inner _ p) (λ rest. refl)
key_behind inner (inr p) t key_word.Or = let w = two Or inner p in Goes (keys.two_of Or inner) w.mends w.begun (λ rest. refl)
key_behind inner (inl p) t key_word.Not = Sinks (λ ts. inner ts >>= λ x. Ok (Not x.0, x.1)) (hopeless_then inner _ p) (λ rest. refl)
key_behind inner (inr p) t key_word.Not = let w = made_of inner (λ x. Not x) any p.mends p.begun in Goes (λ ts. inner ts >>= λ x. Ok (Not x.0, x.1)) w.mends w.begun (λ rest. refl)
key_behind inner p t key_word.Range = let w = made_of keys.range_at (λ x. One x) any range.mends range.begun in Goes (λ ts. keys.one_of (keys.range_at ts)) w.mends w.begun (λ rest. refl)
key_behind inner p t (key_word.Meets r) = let w = made_of (keys.meets_at r) (λ x. One x) any (meets r).mends (meets r).begun in Goes (λ ts. keys.one_of (keys.meets_at r ts)) w.mends w.begun (λ rest. refl)

a_key : (levels : ℕ) (begin : List Token → Bool) → ((rest : List Token) → begin (word (codes "ALL") ∷ rest) ≡ true) → Begun (keys.key_at (suc levels)) any begin
unfolding keys.key_at keys.key_behind mark.word_at
a_key levels begin b = record { more = word (codes "ALL") ∷ []; value = One test.All; is = λ rest h. refl; start = λ rest h. b rest }

key : (levels : ℕ) → Taking (keys.key_at (suc levels)) any
unfolding keys.key_at
key zero = worded keys.key_words (keys.key_by (keys.key_at zero)) any (λ ts. refl) (λ t w. key_behind (keys.key_at zero) (inl no_level) t w)
key (suc levels) =
    worded keys.key_words (keys.key_by (keys.key_at (suc levels))) any (λ ts. refl)
    (λ t w. key_behind (keys.key_at (suc levels)) (inr (record { mends = mended _ any (key levels); begun = a_key levels any (λ rest. refl) })) t w)

-- ---- SEARCH

metadata_item : (seen : List Metadata) → Taking (searching.metadata_at seen) any
unfolding searching.metadata_at
metadata_item seen = make_taking (named_at searching.metadata_named) _ any (named _)

a_metadata : (seen : List Metadata) → Begun (searching.metadata_at seen) any any
unfolding searching.metadata_at
a_metadata seen = begun_made (named_at searching.metadata_named) any any _ (the_name _ (codes "value") shown.Value refl)

not_open : List Token → Bool
not_open ts = not (mark.starts mark.is_open ts)

metadata_all : Taking (in_parenthesis (mark.starts mark.is_close) (mark.starts mark.is_string) searching.metadata_at 32 []) any
metadata_all =
    enclosed (mark.starts mark.is_string) any searching.metadata_at
    (plain_items (mark.starts mark.is_close) any searching.metadata_at (starting mark.is_close) to_close ([], refl) (λ s. mended _ any (metadata_item s)) (λ s. takes_one _ any (metadata_item s))) 32 [] (a_metadata [])

metadata_part : (of : ReturnName) → Mends (searching.metadata_part of) not_open
unfolding searching.metadata_part not_open mark.starts
metadata_part of = by_token _ not_open (Yields (searching.default_metadata of) refl closed_off) (λ t. by_kind t (mark.is_open t.kind) refl) where
  by_test : (b : Bool) (rest : List Token) → not b ≡ true → (if b then in_parenthesis (mark.starts mark.is_close) (mark.starts mark.is_string) searching.metadata_at 32 [] rest else Ok (searching.default_metadata of, rest)) ≡ Ok (searching.default_metadata of, rest)
  by_test true rest h = absurd cc
  by_test false rest h = refl

  closed_off : (rest : List Token) → not_open rest ≡ true → searching.metadata_part of rest ≡ Ok (searching.default_metadata of, rest)
  closed_off rest h = by_test (mark.starts mark.is_open rest) rest h

  from_taking : (t : Token) → mark.is_open t.kind ≡ true → Takes (in_parenthesis (mark.starts mark.is_close) (mark.starts mark.is_string) searching.metadata_at 32 []) any t → Does (searching.metadata_part of) not_open t
  from_taking t e (Goes next p b is) = does.Goes next (before_some next not_open p) (begun_before next not_open any b) (λ rest. rw e (is rest))
  from_taking t e (Sinks next p is) = does.Sinks next p (λ rest. rw e (is rest))
  from_taking t e (Fails d is) = does.Fails d (λ rest. rw e (is rest))

  by_kind : (t : Token) (b : Bool) → mark.is_open t.kind ≡ b → Does (searching.metadata_part of) not_open t
  by_kind t true e = from_taking t e (metadata_all.at t)
  by_kind t false e = does.Quits (searching.default_metadata of) (λ rest. rw e refl) closed_off

no_metadata : (of : ReturnName) → Begun (searching.metadata_part of) not_open any
unfolding searching.metadata_part not_open
no_metadata of = record { more = []; value = searching.default_metadata of; is = λ rest h. by_test (mark.starts mark.is_open rest) rest h; start = λ rest h. refl } where
  by_test : (b : Bool) (rest : List Token) → not b ≡ true → (if b then in_parenthesis (mark.starts mark.is_close) (mark.starts mark.is_string) searching.metadata_at 32 [] rest else Ok (searching.default_metadata of, rest)) ≡ Ok (searching.default_metadata of, rest)
  by_test true rest h = absurd cc
  by_test false rest h = refl

return_item : (seen : List ReturnItem) → Taking (searching.return_at seen) not_open
unfolding searching.return_at
return_item seen =
    then_taking (named_at searching.return_named) _ not_open (named _)
    (λ n. made (searching.metadata_part n) not_open (λ m. seen ++ record { name = n; metadata = m } ∷ []) (metadata_part n)) (λ n. begun_made (searching.metadata_part n) not_open any (λ m. seen ++ record { name = n; metadata = m } ∷ []) (no_metadata n))

close_not_open : (rest : List Token) → mark.starts mark.is_close rest ≡ true → not_open rest ≡ true
unfolding mark.starts not_open
close_not_open [] h = absurd cc
close_not_open (t ∷ rest) h = by_kind t.kind h where
  by_kind : (k : Kind) → mark.is_close k ≡ true → not (mark.is_open k) ≡ true
  by_kind kind.Tag e = absurd cc
  by_kind kind.Word e = absurd cc
  by_kind kind.Quoted e = absurd cc
  by_kind kind.Literal e = absurd cc
  by_kind kind.Open e = absurd cc
  by_kind kind.Close e = refl

all_returns : Items (mark.starts mark.is_close) not_open searching.return_at Always
unfolding not_open mark.starts
all_returns =
    plain_items (mark.starts mark.is_close) not_open searching.return_at (starting mark.is_close) close_not_open ([], refl) (λ s. mended _ not_open (return_item s)) (λ s. takes_one _ not_open (return_item s))

in_returns : Whole (λ inside. several (mark.starts mark.is_close) (mark.starts mark.is_string) searching.return_at 256 [] inside >>= λ i. mark.behind mark.is_close i.1 >>= λ left. Ok (i.0, left)) any
in_returns =
    closed_after (several (mark.starts mark.is_close) (mark.starts mark.is_string) searching.return_at 256 []) (λ i. i) (items (mark.starts mark.is_close) (mark.starts mark.is_string) not_open searching.return_at Always all_returns 256 [] tt)
    (none_begun (mark.starts mark.is_close) (mark.starts mark.is_string) any searching.return_at 256 [] (λ rest h. refl))

returns : Taking searching.returns_at any
unfolding searching.returns_at
returns = opened _ in_returns

a_returns : Begun searching.returns_at any any
unfolding searching.returns_at
a_returns = an_opened _ in_returns

sort_item : (seen : List SortItem) → Taking (searching.sort_at seen) any
unfolding searching.sort_at
sort_item seen =
    then_taking (named_at argument.attribute_named) _ any (named _)
    (λ a. (made_of (named_at argument.comparator_named) (λ c. seen ++ record { attribute = a; comparator = c } ∷ []) any (mended _ any (named _)) (the_name _ (codes "i;octet") _ refl)).mends)
    (λ a. (made_of (named_at argument.comparator_named) (λ c. seen ++ record { attribute = a; comparator = c } ∷ []) any (mended _ any (named _)) (the_name _ (codes "i;octet") _ refl)).begun)

a_sort : Begun (searching.sort_at []) any any
unfolding searching.sort_at
a_sort = begun_then (named_at argument.attribute_named) _ any any any (the_name _ (codes "a") _ a_named)
    (λ a. begun_made (named_at argument.comparator_named) any any (λ c. [] ++ record { attribute = a; comparator = c } ∷ []) (the_name _ (codes "i;octet") _ refl))

all_sorts : Items (mark.starts mark.is_close) any searching.sort_at Always
all_sorts = plain_items (mark.starts mark.is_close) any searching.sort_at (starting mark.is_close) to_close ([], refl) (λ s. mended _ any (sort_item s)) (λ s. takes_one _ any (sort_item s))

in_sorts : Whole (λ inside. some_of (mark.starts mark.is_close) (mark.starts mark.is_string) searching.sort_at 16 [] inside >>= λ i. mark.behind mark.is_close i.1 >>= λ left. Ok (i.0, left)) any
in_sorts =
    closed_after (some_of (mark.starts mark.is_close) (mark.starts mark.is_string) searching.sort_at 16 []) (λ i. i) (some_items (mark.starts mark.is_close) (mark.starts mark.is_string) any searching.sort_at Always all_sorts 16 [] tt)
    (some_begun (mark.starts mark.is_close) (mark.starts mark.is_string) any any searching.sort_at Always all_sorts 16 [] a_sort)

sorts : Taking searching.sorts_at any
unfolding searching.sorts_at in_parenthesis
sorts = opened _ in_sorts

a_sorts : Begun searching.sorts_at any any
unfolding searching.sorts_at in_parenthesis
a_sorts = an_opened _ in_sorts

limit : Whole searching.limit_at any
unfolding searching.limit_at
limit = both argument.number_at _ any (mended _ any number) a_number (λ over. made_of argument.number_at (λ most. record { over = over; most = most }) any (mended _ any number) a_number)

pub c_named : argument.context_named (codes "c") ≡ Ok (codes "c")
unfolding argument.context_named names.is_context_name is_utf8 chars encode_utf8
c_named = refl

abbrev context_behind : Bool → Bool → List Token → Read MakeContext
context_behind e n ts = named_at argument.context_named ts >>= λ x. Ok (record { enumerate = e; notify = n; name = x.0 }, x.1)

one_context : (e n : Bool) → Taking (context_behind e n) any
one_context e n = make_taking (named_at argument.context_named) (λ x. record { enumerate = e; notify = n; name = x }) any (named _)

a_context : (e n : Bool) → Begun (context_behind e n) any any
a_context e n = begun_made (named_at argument.context_named) any any (λ x. record { enumerate = e; notify = n; name = x }) (the_name _ (codes "c") _ c_named)

abbrev notified_behind : Bool → List Token → Read MakeContext
notified_behind e ts = let notify = searching.flag_at (codes "NOTIFY") ts in context_behind e notify.0 notify.1

notified : (e : Bool) → Taking (notified_behind e) any
unfolding searching.flag_at
notified e =
    flagged (codes "NOTIFY") (λ ts o. context_behind e (searching.flag_by ts o).0 (searching.flag_by ts o).1) (context_behind e true) any (one_context e false) (mended _ any (one_context e true)) (a_context e true) (λ ts rest. refl)

a_notified : (e : Bool) → Begun (notified_behind e) any any
unfolding searching.flag_at mark.behind_word named_at mark.string_at
a_notified e = record { more = text (codes "c") ∷ []; value = record { enumerate = e; notify = false; name = codes "c" }; is = λ rest h. rw c_named refl; start = λ rest h. refl }

make_context : Whole searching.make_context_at any
unfolding searching.make_context_at searching.flag_at mark.behind_word named_at mark.string_at
make_context =
    let there = flagged (codes "ENUMERATE") (λ ts o. notified_behind (searching.flag_by ts o).0 (searching.flag_by ts o).1) (notified_behind true) any (notified false) (mended _ any (notified true)) (a_notified true) (λ ts rest. refl) in
    record {
      mends = mended _ any there;
      begun = record { more = text (codes "c") ∷ []; value = record { enumerate = false; notify = false; name = codes "c" }; is = λ rest h. rw c_named refl; start = λ rest h. refl };
    }

modified : (m : SearchModifiers) (w : SearchWord) → Whole (searching.behind_modifier m w) any
unfolding searching.behind_modifier
modified m search_word.Depth = made_of argument.number_at (λ x. record m { depth = Some x }) any (mended _ any number) a_number
modified m search_word.HardLimit = made_of argument.number_at (λ x. record m { hard_limit = Some x }) any (mended _ any number) a_number
modified m search_word.Limit = made_of searching.limit_at (λ x. record m { limit = Some x }) any limit.mends limit.begun
modified m search_word.MakeContext = made_of searching.make_context_at (λ x. record m { make_context = Some x }) any make_context.mends make_context.begun
modified m search_word.NoInherit = a_value any _
modified m search_word.Return = made_of searching.returns_at (λ x. record m { returns = Some x }) any (mended _ any returns) a_returns
modified m search_word.Sort = made_of searching.sorts_at (λ x. record m { sort = Some x }) any (mended _ any sorts) a_sorts

modifier : (s : Scope) → Taking (searching.modifier_at s) any
unfolding searching.modifier_at
modifier s =
    worded searching.search_words (searching.modifier_by s) any (λ ts. refl)
    (λ t w.
    let all = made_of (searching.behind_modifier s.modifiers w) (λ y. record s { modifiers = y }) any (modified s.modifiers w).mends (modified s.modifiers w).begun in
    judged (searching.may_modify s w) (λ ts. searching.behind_modifier s.modifiers w ts >>= λ y. Ok (record s { modifiers = y.0 }, y.1)) any all.mends all.begun t)

all_modifiers : Items searching.no_modifier any searching.modifier_at Always
unfolding searching.no_modifier
all_modifiers = plain_items searching.no_modifier any searching.modifier_at (worded_first searching.search_words) (λ rest h. refl) ([], refl) (λ s. mended _ any (modifier s)) (λ s. takes_one _ any (modifier s))

modifiers : (of : Target) → Mends (searching.modifiers_at of) searching.no_modifier
unfolding searching.modifiers_at
modifiers of = items searching.no_modifier searching.no_modifier any searching.modifier_at Always all_modifiers 8 (record { target = of; modifiers = plain_modifiers.no_modifiers }) tt

unmodified : (of : Target) → Begun (searching.modifiers_at of) searching.no_modifier any
unfolding searching.modifiers_at
unmodified of = none_begun searching.no_modifier searching.no_modifier any searching.modifier_at 8 (record { target = of; modifiers = plain_modifiers.no_modifiers }) (λ rest h. refl)

root_target : argument.target_named (codes "/") ≡ Ok (target.Dataset (codes "/"))
unfolding argument.target_named
root_target = rw root_named refl

abbrev search_of : Scope → Wanted → Search
search_of s k = record { target = s.target; modifiers = s.modifiers; key = k }

key_closed : (s : Scope) → Taking (λ ts. keys.key_at 32 ts >>= λ k. Ok (search_of s k.0, k.1)) any
key_closed s = make_taking (keys.key_at 32) (λ k. search_of s k) any (key 31)

a_key_closed : (s : Scope) → Begun (λ ts. keys.key_at 32 ts >>= λ k. Ok (search_of s k.0, k.1)) any searching.no_modifier
unfolding searching.no_modifier mark.word_at
a_key_closed s = begun_made (keys.key_at 32) any searching.no_modifier (λ k. search_of s k) (a_key 31 searching.no_modifier (λ rest. refl))

pub search : Whole searching.search_at any
unfolding searching.search_at
search =
    both (named_at argument.target_named) _ any (mended _ any (named _)) (the_name _ (codes "/") _ root_target)
    (λ of. seamed (searching.modifiers_at of) (λ s. keys.key_at 32 s.1 >>= λ k. Ok (search_of s.0 k.0, k.1)) searching.no_modifier (modifiers of) (unmodified of)
    (λ s. mended _ any (key_closed s)) (λ s. a_key_closed s) (λ s. takes_one _ any (key_closed s)))
