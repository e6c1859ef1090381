-- What a SEARCH asks for is read back from its plainest spelling.
use Rattle.std.proofs.Common.{◌≡◌, ℕ, zero, suc, ◌<◌, ◌≤◌, Bool, true, false, List, [], ◌∷◌, ◌++◌, Option, Some, None, Ok, refl, sym, ap, ◌∙◌, subst, arith}
use Rattle.std.specs.Prelude.{◌&&◌, codes, not, IfSome, if◌then◌else◌}
use Rattle.std.proofs.lemmas.Bool.{and_left, and_right, not-true}
use Rattle.acap_lexer.specs.Token.{Token}
use Rattle.acap_order.specs.Ranks.{is_numeric}
use Rattle.acap_order.specs.Spellings.{comparator_of}
use Rattle.acap_order.specs.declared.comparator.Collation.{Collation}
use Rattle.acap_order.specs.declared.comparator.Collation.TheVariants as collation
use Rattle.acap_order.specs.declared.comparator.Comparator.{Comparator}
use Rattle.acap_order.specs.declared.comparator.Direction.{Direction}
use Rattle.acap_order.specs.declared.comparator.Direction.TheVariants as direction
use Rattle.acap_entries.proofs.TimeLaws.{time_law}
use Rattle.acap_commands.specs.declared.search_modifiers.Limit.{Limit}
use Rattle.acap_commands.specs.declared.search_modifiers.MakeContext.{MakeContext}
use Rattle.acap_commands.specs.declared.returns.Metadata.{Metadata}
use Rattle.acap_commands.specs.declared.returns.Metadata.TheVariants as metadata
use Rattle.acap_commands.specs.declared.test.Relation.{Relation}
use Rattle.acap_commands.specs.declared.test.Relation.TheVariants as relation
use Rattle.acap_commands.specs.declared.returns.ReturnItem.{ReturnItem}
use Rattle.acap_commands.specs.declared.returns.ReturnName.{ReturnName}
use Rattle.acap_commands.specs.declared.returns.ReturnName.TheVariants as name
use Rattle.acap_commands.specs.declared.search.Search.{Search}
use Rattle.acap_commands.specs.declared.search_modifiers.SearchModifiers.{SearchModifiers}
use Rattle.acap_grammar.specs.declared.searching.Scope.{Scope}
use Rattle.acap_commands.specs.declared.search_modifiers.SortItem.{SortItem}
use Rattle.acap_commands.specs.declared.target.Target.{Target}
use Rattle.acap_commands.specs.declared.target.Target.TheVariants as target
use Rattle.acap_commands.specs.declared.test.Test.{Test}
use Rattle.acap_commands.specs.declared.test.Test.TheVariants as test
use Rattle.acap_grammar.specs.Several.{several}
use Rattle.acap_grammar.specs.Marks.{is_string, is_open, is_close, starts, behind, string_at, word_at, behind_word}
use Rattle.acap_grammar.specs.Arguments.{comparator_for, named_at, is_of_texts}
use Rattle.acap_grammar.specs.Keys.{value_part, meets_at, range_at, key_at, key_behind}
use Rattle.acap_commands.specs.Modifiers.{no_modifiers}
use Rattle.acap_grammar.specs.Searching.{is_context, metadata_at, default_metadata, metadata_part, return_at, returns_at, sort_at, sorts_at, limit_at, flag_at, make_context_at, behind_modifier, modifier_at, no_modifier, modifiers_at, search_at}
use Rattle.acap_grammar.specs.Sendable.{Each, OneTo, IsNumber, IsAttribute, IsLimit, IsContext, IsReturn, AreReturns, AreSorts, AreModifiers, Fits, IsTest, IsKey, levels, IsSearch}
use Rattle.acap_grammar.specs.Spelling.{string, open_then, shut, each, if_there, flag, word, number, time, comparator_name, comparator, metadata_then, is_left_out, return_item, sort_item, depth, hard_limit, limit, make_context, returns, sort, modifiers, test_tokens, key, search_tokens}
use Rattle.acap_commands.specs.Wanted.{Wanted, One, And, Or, Not}
use Rattle.acap_grammar.proofs.NumberReads.{number_reads}
use Rattle.acap_grammar.proofs.ListReads.{ReadsEach, one_more, no_more, list_reads, enclosed_read}

-- ---- comparators

comparator_is : (c : Comparator) → comparator_of (comparator_name c) ≡ Some c
comparator_is c = by_parts c.collation c.direction where
  by_parts : (by : Collation) (to : Direction) → comparator_of (comparator_name (record { collation = by; direction = to })) ≡ Some (record { collation = by; direction = to })
  by_parts collation.Octet direction.Ascending = refl
  by_parts collation.Octet direction.Descending = refl
  by_parts collation.AsciiCasemap direction.Ascending = refl
  by_parts collation.AsciiCasemap direction.Descending = refl
  by_parts collation.AsciiNumeric direction.Ascending = refl
  by_parts collation.AsciiNumeric direction.Descending = refl

comparator_fits : (r : Relation) (c : Comparator) → is_of_texts r && is_numeric c.collation ≡ false → comparator_for r (comparator_name c) ≡ Ok c
unfolding comparator_for
comparator_fits r c h = rw (comparator_is c, h) refl

-- ---- keys

meets_read : (r : Relation) (attribute : List ℕ) (c : Comparator) (value : List ℕ) (rest : List Token) → IsAttribute attribute → is_of_texts r && is_numeric c.collation ≡ false
    → meets_at r (string attribute (comparator c (string value rest))) ≡ Ok (test.Meets r attribute c value, rest)
unfolding meets_at named_at string_at value_part behind_word
meets_read relation.Equal attribute c value rest a f = rw (a, comparator_fits relation.Equal c f) refl
meets_read relation.AtLeast attribute c value rest a f = rw (a, comparator_fits relation.AtLeast c f) refl
meets_read relation.Greater attribute c value rest a f = rw (a, comparator_fits relation.Greater c f) refl
meets_read relation.Begins attribute c value rest a f = rw (a, comparator_fits relation.Begins c f) refl
meets_read relation.Contains attribute c value rest a f = rw (a, comparator_fits relation.Contains c f) refl

test_reads : (n : ℕ) (t : Test) (rest : List Token) → IsTest t → key_at (suc n) (test_tokens t rest) ≡ Ok (One t, rest)
unfolding key_at key_behind word_at meets_at range_at named_at string_at value_part behind_word
test_reads n test.All rest h = refl
test_reads n (test.IsNil attribute c) rest h = rw (h, comparator_fits relation.Equal c refl) refl
test_reads n (test.Meets relation.Equal attribute c value) rest h = rw (meets_read relation.Equal attribute c value rest h.0 h.1) refl
test_reads n (test.Meets relation.AtLeast attribute c value) rest h = rw (meets_read relation.AtLeast attribute c value rest h.0 h.1) refl
test_reads n (test.Meets relation.Greater attribute c value) rest h = rw (meets_read relation.Greater attribute c value rest h.0 h.1) refl
test_reads n (test.Meets relation.Begins attribute c value) rest h = rw (meets_read relation.Begins attribute c value rest h.0 h.1) refl
test_reads n (test.Meets relation.Contains attribute c value) rest h = rw (meets_read relation.Contains attribute c value rest h.0 h.1) refl
test_reads n (test.Range first last since) rest h = rw (number_reads first (number last (time since rest)) h.0, number_reads last (time since rest) h.1, time_law since h.2) refl

some_levels : (k : Wanted) → 0 < levels k
some_levels (One t) = omega arith
some_levels (And a b) = omega arith
some_levels (Or a b) = omega arith
some_levels (Not a) = omega arith

key_reads : (k : Wanted) (n : ℕ) (rest : List Token) → IsKey k → levels k ≤ n → key_at n (key k rest) ≡ Ok (k, rest)
unfolding key_at key_behind word_at
key_reads k zero rest h l = absurd (omega (arith, some_levels k))
key_reads (One t) (suc n) rest h l = test_reads n t rest h
key_reads (And a b) (suc n) rest h l = rw (key_reads a n (key b rest) h.0 (omega arith), key_reads b n rest h.1 (omega arith)) refl
key_reads (Or a b) (suc n) rest h l = rw (key_reads a n (key b rest) h.0 (omega arith), key_reads b n rest h.1 (omega arith)) refl
key_reads (Not a) (suc n) rest h l = rw (key_reads a n rest h (omega arith)) refl

-- no modifier stands before a key
key_leads : (k : Wanted) (rest : List Token) → no_modifier (key k rest) ≡ true
unfolding no_modifier word_at
key_leads (One test.All) rest = refl
key_leads (One (test.IsNil attribute c)) rest = refl
key_leads (One (test.Meets relation.Equal attribute c value)) rest = refl
key_leads (One (test.Meets relation.AtLeast attribute c value)) rest = refl
key_leads (One (test.Meets relation.Greater attribute c value)) rest = refl
key_leads (One (test.Meets relation.Begins attribute c value)) rest = refl
key_leads (One (test.Meets relation.Contains attribute c value)) rest = refl
key_leads (One (test.Range first last since)) rest = refl
key_leads (And a b) rest = refl
key_leads (Or a b) rest = refl
key_leads (Not a) rest = refl

-- ---- RETURN and SORT

are_told : ReadsEach {X = Metadata} (starts is_close) (λ ts. true) metadata_at metadata_then (λ before m. Unit {0})
unfolding starts metadata_at named_at string_at
are_told = record { leads = λ x rest. refl; follows = λ x rest. refl; reads = read } where
  read : (seen : List Metadata) (m : Metadata) (rest : List Token) → Unit {0} → true ≡ true → metadata_at seen (metadata_then m rest) ≡ Ok (seen ++ m ∷ [], rest)
  read seen metadata.Acl rest u n = refl
  read seen metadata.Attribute rest u n = refl
  read seen metadata.MyRights rest u n = refl
  read seen metadata.Size rest u n = refl
  read seen metadata.Value rest u n = refl

all_told : (before all : List Metadata) → Each (λ before m. Unit {0}) before all
all_told before [] = tt
all_told before (m ∷ all) = (tt, all_told (before ++ m ∷ []) all)

left_out : (n : ReturnName) (all : List Metadata) → is_left_out n all ≡ true → default_metadata n ≡ all
left_out (name.Named attribute) (metadata.Value ∷ []) e = refl
left_out (name.Beginning front) (metadata.Attribute ∷ metadata.Value ∷ []) e = refl
left_out n all e = absurd cc

abbrev not_opened : List Token → Bool
not_opened tokens = not (starts is_open tokens)

enclosed_metadata : (n : ReturnName) (all : List Metadata) (rest : List Token) → OneTo 32 all → metadata_part n (open_then (each metadata_then all (shut rest))) ≡ Ok (all, rest)
unfolding metadata_part starts
enclosed_metadata n all rest h = enclosed_read are_told (starts is_string) all 31 rest refl h (all_told [] all)

metadata_reads : (n : ReturnName) (all : List Metadata) (rest : List Token) → OneTo 32 all → not_opened rest ≡ true
    → metadata_part n (if is_left_out n all then rest else open_then (each metadata_then all (shut rest))) ≡ Ok (all, rest)
unfolding metadata_part
metadata_reads n all rest h o = by_form (is_left_out n all) refl where
  by_form : (b : Bool) → is_left_out n all ≡ b → metadata_part n (if b then rest else open_then (each metadata_then all (shut rest))) ≡ Ok (all, rest)
  by_form true e = rw (not-true (starts is_open rest) o) (ap (λ (m : List Metadata). Ok (m, rest)) (left_out n all e))
  by_form false e = enclosed_metadata n all rest h

are_returns : ReadsEach {X = ReturnItem} (starts is_close) not_opened return_at return_item (λ before r. IsReturn r)
unfolding starts return_at named_at string_at
are_returns = record { leads = λ x rest. refl; follows = λ x rest. refl; reads = λ seen r rest s n. rw (s.0, metadata_reads r.name r.metadata rest s.1 n) refl }

returns_read : (all : List ReturnItem) (rest : List Token) → AreReturns all → returns_at (open_then (each return_item all (shut rest))) ≡ Ok (all, rest)
unfolding returns_at behind starts
returns_read all rest h = rw (list_reads are_returns (starts is_string) all 256 [] (shut rest) refl refl h.0 h.1) refl

are_sorts : ReadsEach {X = SortItem} (starts is_close) (λ ts. true) sort_at sort_item (λ before s. IsAttribute s.attribute)
unfolding starts sort_at named_at string_at
are_sorts = record { leads = λ x rest. refl; follows = λ x rest. refl; reads = λ seen s rest a n. rw (a, comparator_is s.comparator) refl }

sorts_read : (all : List SortItem) (rest : List Token) → AreSorts all → sorts_at (open_then (each sort_item all (shut rest))) ≡ Ok (all, rest)
unfolding sorts_at
sorts_read all rest h = enclosed_read are_sorts (starts is_string) all 15 rest refl h.0 h.1

-- ---- modifiers, the last first: each is read where none of it stood, and then those after it

limit_reads : (l : Limit) (rest : List Token) → IsLimit l → limit_at (number l.over (number l.most rest)) ≡ Ok (l, rest)
unfolding limit_at
limit_reads l rest h = rw (number_reads l.over (number l.most rest) h.0, number_reads l.most rest h.1) refl

context_reads : (m : MakeContext) (rest : List Token) → IsContext m → make_context_at (flag (codes "ENUMERATE") m.enumerate (flag (codes "NOTIFY") m.notify (string m.name rest))) ≡ Ok (m, rest)
unfolding make_context_at flag_at behind_word named_at string_at
context_reads m rest h = by_parts m.enumerate m.notify where
  by_parts : (e n : Bool) → make_context_at (flag (codes "ENUMERATE") e (flag (codes "NOTIFY") n (string m.name rest))) ≡ Ok (record { enumerate = e; notify = n; name = m.name }, rest)
  by_parts false false = rw h refl
  by_parts false true = rw h refl
  by_parts true false = rw h refl
  by_parts true true = rw h refl

abbrev so_far : Target → SearchModifiers → Scope
so_far of m = record { target = of; modifiers = m }

-- with that much room modifiers are read to the end
record Ends (last : Scope) (rest : List Token) (needed : ℕ) (now : Scope) (tokens : List Token) : Type 0 where
  pub in_room : (room : ℕ) → needed ≤ room → several no_modifier no_modifier modifier_at room now tokens ≡ Ok (last, rest)

skip : {last : Scope} {rest : List Token} {needed : ℕ} {now : Scope} {tokens : List Token} → Ends last rest needed now tokens → Ends last rest (suc needed) now tokens
skip e = record { in_room = λ room h. e.in_room room (omega arith) }

take_one : {last : Scope} {rest : List Token} {needed : ℕ} {now next : Scope} {tokens behind : List Token} → no_modifier tokens ≡ false → modifier_at now tokens ≡ Ok (next, behind)
    → Ends last rest needed next behind → Ends last rest (suc needed) now tokens
take_one {last} {rest} {needed} {now} {next} {tokens} {behind} n m e = record { in_room = in_room } where
  in_room : (room : ℕ) → suc needed ≤ room → several no_modifier no_modifier modifier_at room now tokens ≡ Ok (last, rest)
  in_room zero h = absurd (omega arith)
  in_room (suc room) h = one_more no_modifier no_modifier modifier_at room now tokens (next, behind) n m ∙ e.in_room room (omega arith)

-- a modifier that may be there, before those after it
may_be : {V : Type 0} (spell : V → List Token → List Token) (last now : Option V → Scope) (rest behind : List Token) (needed : ℕ) → ((o : Option V) → Ends (last o) rest needed (now o) behind)
    → (o : Option V) → ((v : V) → o ≡ Some v → (no_modifier (spell v behind) ≡ false) × (modifier_at (now None) (spell v behind) ≡ Ok (now (Some v), behind)))
    → Ends (last o) rest (suc needed) (now None) (if_there spell o behind)
may_be spell last now rest behind needed e None h = skip (e None)
may_be spell last now rest behind needed e (Some v) h = take_one (h v refl).0 (h v refl).1 (e (Some v))

may_stand : (text : List ℕ) (last now : Bool → Scope) (rest behind : List Token) (needed : ℕ) → ((b : Bool) → Ends (last b) rest needed (now b) behind)
    → (b : Bool) → (b ≡ true → (no_modifier (word text behind) ≡ false) × (modifier_at (now false) (word text behind) ≡ Ok (now true, behind)))
    → Ends (last b) rest (suc needed) (now false) (flag text b behind)
may_stand text last now rest behind needed e false h = skip (e false)
may_stand text last now rest behind needed e true h = take_one (h refl).0 (h refl).1 (e true)

-- where a modifier stands that isn't over contexts, a dataset is looked through
is_dataset : {V : Type 0} (of : Target) (o : Option V) (v : V) → (is_context of ≡ true → o ≡ None) → o ≡ Some v → is_context of ≡ false
is_dataset (target.Dataset d) o v h e = refl
is_dataset (target.Context c) o v h e = let p : None ≡ Some v = sym (h refl) ∙ e in absurd cc

stands_over_dataset : (of : Target) (b : Bool) → (is_context of ≡ true → b ≡ false) → b ≡ true → is_context of ≡ false
stands_over_dataset (target.Dataset d) b h e = refl
stands_over_dataset (target.Context c) b h e = let p : false ≡ true = sym (h refl) ∙ e in absurd cc

over : (of : Target) (m : SearchModifiers) → Fits of m → is_context of ≡ true → (m.depth ≡ None) × (m.make_context ≡ None) × (m.no_inherit ≡ false)
over (target.Dataset d) m f e = absurd cc
over (target.Context c) m f e = f

given : {V : Type 0} (P : V → Type 0) (o : Option V) (v : V) → IfSome o P → o ≡ Some v → P v
given P None v h e = absurd cc
given P (Some w) v h e = let same : w ≡ v = cc in subst P same h

modifiers_end : (of : Target) (m : SearchModifiers) (rest : List Token) → AreModifiers m → Fits of m → no_modifier rest ≡ true
    → Ends (so_far of m) rest 7 (so_far of no_modifiers) (modifiers m rest)
unfolding no_modifier modifier_at behind_modifier word_at
modifiers_end of m rest h f n =
    may_be depth (λ d. so_far of (record m { depth = d })) (λ d. so_far of (record no_modifiers { depth = d })) rest _ 6
    (λ d. may_be hard_limit (λ o. so_far of (record m { depth = d; hard_limit = o })) (λ o. so_far of (record no_modifiers { depth = d; hard_limit = o })) rest _ 5
    (λ o. may_be limit (λ l. so_far of (record m { depth = d; hard_limit = o; limit = l })) (λ l. so_far of (record no_modifiers { depth = d; hard_limit = o; limit = l })) rest _ 4
    (λ l. may_be make_context (λ c. so_far of (record m { depth = d; hard_limit = o; limit = l; make_context = c })) (λ c. so_far of (record no_modifiers { depth = d; hard_limit = o; limit = l; make_context = c })) rest _ 3
    (λ c. may_stand (codes "NOINHERIT") (λ b. so_far of (record m { depth = d; hard_limit = o; limit = l; make_context = c; no_inherit = b })) (λ b. so_far of (record no_modifiers { depth = d; hard_limit = o; limit = l; make_context = c; no_inherit = b })) rest _ 2
    (λ b. may_be returns (λ r. so_far of (record m { depth = d; hard_limit = o; limit = l; make_context = c; no_inherit = b; returns = r })) (λ r. so_far of (record no_modifiers { depth = d; hard_limit = o; limit = l; make_context = c; no_inherit = b; returns = r })) rest _ 1
    (λ r. may_be sort (λ s. so_far of (record { depth = d; hard_limit = o; limit = l; make_context = c; no_inherit = b; returns = r; sort = s })) (λ s. so_far of (record { depth = d; hard_limit = o; limit = l; make_context = c; no_inherit = b; returns = r; sort = s })) rest rest 0
    (λ s. record { in_room = λ room e. no_more no_modifier no_modifier modifier_at room _ rest n })
    m.sort (λ v e. (refl, rw (and_right (is_context of) false refl, sorts_read v rest (given AreSorts m.sort v h.sort e)) refl)))
    m.returns (λ v e. (refl, rw (and_right (is_context of) false refl, returns_read v (if_there sort m.sort rest) (given AreReturns m.returns v h.returns e)) refl)))
    m.no_inherit (λ e. (refl, rw (and_left (is_context of) true (stands_over_dataset of m.no_inherit (λ q. (over of m f q).2) e)) refl)))
    m.make_context (λ v e. (refl, rw (and_left (is_context of) true (is_dataset of m.make_context v (λ q. (over of m f q).1) e), context_reads v _ (given IsContext m.make_context v h.make_context e)) refl)))
    m.limit (λ v e. (refl, rw (and_right (is_context of) false refl, limit_reads v _ (given IsLimit m.limit v h.limit e)) refl)))
    m.hard_limit (λ v e. (refl, rw (and_right (is_context of) false refl, number_reads v _ (given IsNumber m.hard_limit v h.hard_limit e)) refl)))
    m.depth (λ v e. (refl, rw (and_left (is_context of) true (is_dataset of m.depth v (λ q. (over of m f q).0) e), number_reads v _ (given IsNumber m.depth v h.depth e)) refl))

-- ---- the whole

pub search_reads : (s : Search) → IsSearch s → search_at (search_tokens s []) ≡ Ok (s, [])
unfolding search_at named_at string_at modifiers_at
search_reads s h =
    let behind = (modifiers_end s.target s.modifiers (key s.key []) h.modifiers h.fits (key_leads s.key [])).in_room 8 (omega arith) in
    rw (h.target, behind, key_reads s.key 32 [] h.key h.levels) refl
