-- What is read is a command that can be sent.
use Rattle.std.proofs.Common.{◌≡◌, ℕ, ℤ, zero, suc, ◌+◌, ◌<◌, ◌≤◌, Bool, true, false, List, [], ◌∷◌, ◌++◌, length, drop, Option, Some, None, Result, Ok, Err, refl, sym, ap, subst, ◌∙◌, arith, append_assoc, length-append, ◌⊎◌, inl, inr}
use Rattle.std.specs.Prelude.{codes, if◌then◌else◌, nat_le, IfSome, ◌&&◌}
use Rattle.std.specs.Str.{bytes_eq}
use Rattle.std.specs.List.{list_all, list_any}
use Rattle.std.specs.Char.{is_ascii_digit}
use Rattle.std.proofs.lemmas.Bool.{and_parts, or_parts, leb-true}
use Rattle.std.proofs.lemmas.List.{append-nil, take-append-drop}
use Rattle.std.proofs.lemmas.List.Folds.{list_any-append}
use Rattle.std.proofs.lemmas.Slice.Eq.{bytes_eq-Decides}
use Rattle.acap_lexer.specs.Reading.{count_of, is_count, number_of}
use Rattle.acap_lexer.specs.Token.{Token}
use Rattle.acap_order.specs.Ranks.{is_numeric}
use Rattle.acap_order.specs.declared.comparator.Comparator.{Comparator}
use Rattle.acap_entries.specs.Moments.{IsMoment}
use Rattle.acap_entries.specs.Names.{is_path, dataset_of, name_of, dataset_len, is_attribute, is_context_name, is_entry_name}
use Rattle.acap_entries.specs.Times.{time_of}
use Rattle.acap_entries.specs.declared.path.Path.{Path}
use Rattle.acap_commands.specs.EntryOrder as entry_order
use Rattle.acap_commands.specs.Modifiers as plain_modifiers
use Rattle.acap_commands.specs.declared.command.Command.{Command}
use Rattle.acap_commands.specs.declared.command.Command.TheVariants as command
use Rattle.acap_grammar.specs.declared.command_fault.CommandFault.{CommandFault}
use Rattle.acap_grammar.specs.declared.command_fault.CommandFault.TheVariants as fault
use Rattle.acap_commands.specs.declared.returns.Metadata.{Metadata}
use Rattle.acap_commands.specs.declared.object_name.ObjectName.TheVariants as object_name
use Rattle.acap_commands.specs.declared.test.Relation.{Relation}
use Rattle.acap_commands.specs.declared.test.Relation.TheVariants as relation
use Rattle.acap_commands.specs.declared.returns.ReturnItem.{ReturnItem}
use Rattle.acap_commands.specs.declared.returns.ReturnName.{ReturnName}
use Rattle.acap_commands.specs.declared.returns.ReturnName.TheVariants as name
use Rattle.acap_commands.specs.declared.search_modifiers.SearchModifiers.{SearchModifiers}
use Rattle.acap_grammar.specs.declared.searching.Scope.{Scope}
use Rattle.acap_commands.specs.declared.search_modifiers.SortItem.{SortItem}
use Rattle.acap_commands.specs.declared.store.StoreEntry.{StoreEntry}
use Rattle.acap_commands.specs.declared.store.StoreItem.{StoreItem}
use Rattle.acap_commands.specs.declared.store.StoreMetadata.{StoreMetadata}
use Rattle.acap_commands.specs.declared.store.StoreMetadata.TheVariants as stored
use Rattle.acap_commands.specs.declared.store.StoreModifiers.{StoreModifiers}
use Rattle.acap_grammar.specs.declared.storing.Gifts.{Gifts}
use Rattle.acap_commands.specs.declared.target.Target.{Target}
use Rattle.acap_commands.specs.declared.target.Target.TheVariants as target
use Rattle.acap_commands.specs.declared.test.Test.{Test}
use Rattle.acap_commands.specs.declared.test.Test.TheVariants as test
use Rattle.acap_commands.specs.declared.command.Verb.{Verb}
use Rattle.acap_commands.specs.declared.command.Verb.TheVariants as verb
use Rattle.acap_grammar.specs.declared.words.KeyWord.{KeyWord}
use Rattle.acap_grammar.specs.declared.words.KeyWord.TheVariants as key_word
use Rattle.acap_grammar.specs.declared.words.SearchWord.{SearchWord}
use Rattle.acap_grammar.specs.declared.words.SearchWord.TheVariants as search_word
use Rattle.acap_grammar.specs.declared.words.StoreWord.{StoreWord}
use Rattle.acap_grammar.specs.declared.words.StoreWord.TheVariants as store_word
use Rattle.acap_grammar.specs.Arguments as argument
use Rattle.acap_grammar.specs.Grammar as grammar
use Rattle.acap_grammar.specs.Keys as keys
use Rattle.acap_grammar.specs.Marks as mark
use Rattle.acap_grammar.specs.Outcome.{◌>>=◌, Fault, Read, fault_here, verdict_at}
use Rattle.acap_grammar.specs.Searching as searching
use Rattle.acap_grammar.specs.Sendable.{Names, IsNumber, Each, OneTo, InCase, IsAttribute, IsDataset, IsObject, IsNew, AreItems, IsEntry, IsStore, IsLimit, IsContextName, IsContext, IsReturn, AreReturns, AreSorts, AreModifiers, Fits, IsTest, IsKey, levels, IsSearch, IsSendable}
use Rattle.acap_grammar.specs.Several.{several, some_of, in_parenthesis}
use Rattle.acap_grammar.specs.Spelling.{target_text}
use Rattle.acap_grammar.specs.Storing as storing
use Rattle.acap_commands.specs.Wanted.{Wanted, One, And, Or, Not}
use Rattle.acap_grammar.proofs.FormedNames.{dataset_back, returned_is, target_is}
use Rattle.acap_grammar.proofs.NamedReads.{moment_of_time}
use Rattle.acap_grammar.proofs.Yielding.{Yields, bind, any, value, choose, behind, IsNamed, named, past_once, new_name, worded, no_fault, next_item, no_item, kept, AddsOne, list_items, some_items, enclosed_items}

-- ---- names, numbers and times

-- a name that is its text
same_text : (good : Bool) (text x : List ℕ) → argument.if_named good text ≡ Ok x → text ≡ x
same_text true text x e = cc
same_text false text x e = absurd cc

attribute_is : (a : List ℕ) → IsNamed argument.attribute_named a → IsAttribute a
unfolding argument.attribute_named
attribute_is a n = subst (λ (t : List ℕ). argument.attribute_named t ≡ Ok a) (same_text (is_attribute n.text) n.text a n.is) n.is

context_is : (c : List ℕ) → IsNamed argument.context_named c → IsContextName c
unfolding argument.context_named
context_is c n = subst (λ (t : List ℕ). argument.context_named t ≡ Ok c) (same_text (is_context_name n.text) n.text c n.is) n.is

entry_is : (dataset e : List ℕ) → IsNamed (argument.entry_named dataset) e → Names (argument.entry_named dataset) e e
unfolding argument.entry_named
entry_is dataset e n = subst (λ (t : List ℕ). argument.entry_named dataset t ≡ Ok e) (same_text (is_entry_name n.text && is_path (dataset ++ n.text)) n.text e n.is) n.is

named_path : (good : Bool) (text : List ℕ) (p q : Path) → argument.if_named good p ≡ Ok q → p.dataset ++ p.name ≡ text → q.dataset ++ q.name ≡ text
named_path true text p q e w = let same : p ≡ q = cc in subst (λ (r : Path). r.dataset ++ r.name ≡ text) same w
named_path false text p q e w = absurd cc

path_is : (p : Path) → IsNamed argument.path_named p → Names argument.path_named (p.dataset ++ p.name) p
unfolding argument.path_named dataset_of name_of
path_is p n =
    let whole = named_path (is_path n.text) n.text _ p n.is (take-append-drop (dataset_len n.text) n.text) in
    subst (λ (t : List ℕ). argument.path_named t ≡ Ok p) (sym whole) n.is

dataset_is : (d : List ℕ) → IsNamed argument.dataset_named d → IsDataset d
dataset_is d n = dataset_back n.text d n.is

time_is : (t : ℤ) → IsNamed argument.time_named t → IsMoment t
time_is t n = by_time (time_of n.text) refl n.is where
  by_time : (o : Option ℤ) → time_of n.text ≡ o → argument.or_fault fault.BadTime o ≡ Ok t → IsMoment t
  by_time None m e = absurd cc
  by_time (Some s) m e = let same : s ≡ t = cc in moment_of_time n.text t (m ∙ ap Some same)

comparator_is : (r : Relation) (c : Comparator) → IsNamed (argument.comparator_for r) c → argument.is_of_texts r && is_numeric c.collation ≡ false
unfolding argument.comparator_for
comparator_is r c n = by_name (argument.comparator_named n.text) n.is where
  by_test : (d : Comparator) (b : Bool) → argument.is_of_texts r && is_numeric d.collation ≡ b → ◌≡◌ {A = Result Comparator CommandFault} (if b then Err fault.BadComparator else Ok d) (Ok c) → argument.is_of_texts r && is_numeric c.collation ≡ false
  by_test d true m e = absurd cc
  by_test d false m e = let same : d ≡ c = cc in subst (λ (x : Comparator). argument.is_of_texts r && is_numeric x.collation ≡ false) same m

  by_name : (j : Result Comparator CommandFault) → (j >>= λ d. if argument.is_of_texts r && is_numeric d.collation then Err fault.BadComparator else Ok d) ≡ Ok c → argument.is_of_texts r && is_numeric c.collation ≡ false
  by_name (Ok d) e = by_test d _ refl e
  by_name (Err f) e = absurd cc

number_in : (text : List ℕ) (n : ℕ) → argument.number_in text ≡ Some n → IsNumber n
unfolding count_of is_count
number_in text n e = by_digits (list_all is_ascii_digit text) (is_count text) refl e where
  by_digits : (b c : Bool) → is_count text ≡ c → (if b then (if c then Some (number_of text) else None) else None) ≡ Some n → IsNumber n
  by_digits false c m e = absurd cc
  by_digits true false m e = absurd cc
  by_digits true true m e =
      let same : number_of text ≡ n = cc in
      let small : number_of text ≤ 4294967295 = leb-true (number_of text) 4294967295 (and_parts (nat_le 1 (length text) && nat_le (length text) 10) (nat_le (number_of text) 4294967295) m).1 in
      omega (arith, small, same)

number : Yields argument.number_at IsNumber
unfolding argument.number_at
number = record { gives = gives } where
  by_number : (t : Token) (rest : List Token) (x : ℕ × List Token) (o : Option ℕ) → argument.number_in t.value ≡ o
      → (verdict_at (t ∷ rest) (argument.or_fault fault.Arguments o) >>= λ n. Ok (n, rest)) ≡ Ok x → IsNumber x.0
  by_number t rest x None m e = absurd cc
  by_number t rest x (Some n) m e = let same : (n, rest) ≡ x = cc in subst IsNumber (ap (λ (z : ℕ × List Token). z.0) same) (number_in t.value n m)

  by_kind : (t : Token) (rest : List Token) (x : ℕ × List Token) (b : Bool)
      → (if b then (verdict_at (t ∷ rest) (argument.or_fault fault.Arguments (argument.number_in t.value)) >>= λ n. Ok (n, rest)) else fault_here (t ∷ rest) fault.Arguments) ≡ Ok x → IsNumber x.0
  by_kind t rest x true e = by_number t rest x (argument.number_in t.value) refl e
  by_kind t rest x false e = absurd cc

  gives : (ts : List Token) (x : ℕ × List Token) → argument.number_at ts ≡ Ok x → IsNumber x.0
  gives [] x e = absurd cc
  gives (t ∷ rest) x e = by_kind t rest x (mark.is_word t.kind) e

-- ---- objects

entry_part : (dataset attribute : List ℕ) → IsDataset dataset → IsAttribute attribute → Yields (argument.entry_part dataset attribute) IsObject
unfolding argument.entry_part
entry_part dataset attribute d a =
    choose IsObject _ _ _ (value IsObject (object_name.Attribute dataset attribute) (d, a))
    (bind _ IsObject _ _ (named _) (λ n h. value IsObject (object_name.Entry dataset attribute n) (d, a, entry_is dataset n h)))

attribute_part : (dataset : List ℕ) → IsDataset dataset → Yields (argument.attribute_part dataset) IsObject
unfolding argument.attribute_part
attribute_part dataset d =
    choose IsObject _ _ _ (value IsObject (object_name.Dataset dataset) d)
    (bind _ IsObject _ _ (named _) (λ a h. entry_part dataset a d (attribute_is a h)))

object : Yields argument.object_at IsObject
unfolding argument.object_at
object =
    behind _ mark.is_open _
    (bind _ IsObject _ _ (named _) (λ d h. bind IsObject IsObject _ _ (attribute_part d (dataset_is d h)) (λ o w. behind _ mark.is_close _ (value IsObject o w))))

-- ---- STORE

-- an item that is added for an attribute, which doesn't have such an item
record Gift (seen all : Gifts) : Type 0 where
  item : StoreItem
  whole : all ≡ record { attribute = seen.attribute; items = seen.items ++ item ∷ [] }
  attribute : item.attribute ≡ seen.attribute
  new : storing.has_item seen.attribute item.metadata seen.items ≡ false

gift : (seen : Gifts) → Yields (storing.gift_at seen) (Gift seen)
unfolding storing.gift_at
gift seen =
    new_name (Gift seen) storing.metadata_named (λ m. storing.has_item seen.attribute m seen.items)
    (λ m ts. storing.given_at ts >>= λ g. Ok (record seen { items = seen.items ++ record { attribute = seen.attribute; metadata = m; given = g.0 } ∷ [] }, g.1))
    (λ m h new. bind _ (Gift seen) _ _ (any storing.given_at) (λ g u. value (Gift seen) _ (record { item = record { attribute = seen.attribute; metadata = m; given = g }; whole = refl; attribute = refl; new = new })))

-- one item of an attribute, or both
record OneItem (seen : List StoreItem) (attribute : List ℕ) (all : List StoreItem) : Type 0 where
  item : StoreItem
  whole : all ≡ seen ++ item ∷ []
  attribute_is : item.attribute ≡ attribute

record TwoItems (seen : List StoreItem) (attribute : List ℕ) (all : List StoreItem) : Type 0 where
  first : StoreItem
  second : StoreItem
  whole : all ≡ seen ++ first ∷ second ∷ []
  first_is : first.attribute ≡ attribute
  second_is : second.attribute ≡ attribute
  differ : storing.same_metadata first.metadata second.metadata ≡ false

abbrev Items : List StoreItem → List ℕ → List StoreItem → Type 0
Items seen attribute all = OneItem seen attribute all ⊎ TwoItems seen attribute all

same_octets : (a : List ℕ) → bytes_eq a a ≡ true
same_octets a = (bytes_eq-Decides a a).1 refl

-- what is so of none of a list isn't so of the one after its front
behind_front : {X : Type 0} (p : X → Bool) (front : List X) (i : X) (rest : List X) → list_any p (front ++ i ∷ rest) ≡ false → (p i ≡ false) × (list_any p rest ≡ false)
behind_front p front i rest e = or_parts (p i) _ (or_parts (list_any p front) _ (sym (list_any-append p front (i ∷ rest)) ∙ e)).1

-- two items of one attribute differ in their metadata, and there is no third
differs : (a b : List ℕ) (m n : StoreMetadata) → a ≡ b → bytes_eq a b && storing.same_metadata m n ≡ false → storing.same_metadata m n ≡ false
differs a b m n same e = subst (λ (t : Bool). t && storing.same_metadata m n ≡ false) ((bytes_eq-Decides a b).1 same) e

no_third : (m n k : StoreMetadata) → storing.same_metadata m n ≡ false → storing.same_metadata m k ≡ false → storing.same_metadata n k ≡ false → ⊥
no_third stored.Value stored.Value k p q r = absurd cc
no_third stored.Acl stored.Acl k p q r = absurd cc
no_third stored.Value stored.Acl stored.Value p q r = absurd cc
no_third stored.Value stored.Acl stored.Acl p q r = absurd cc
no_third stored.Acl stored.Value stored.Value p q r = absurd cc
no_third stored.Acl stored.Value stored.Acl p q r = absurd cc

one_gift : (seen next : Gifts) → Gift seen next → OneItem seen.items seen.attribute next.items
one_gift seen next g = record { item = g.item; whole = ap (λ (x : Gifts). x.items) g.whole; attribute_is = g.attribute }

two_gifts : (seen next all : Gifts) → Gift seen next → Gift next all → TwoItems seen.items seen.attribute all.items
unfolding storing.has_item
two_gifts seen next all g h =
    let items : next.items ≡ seen.items ++ g.item ∷ [] = ap (λ (x : Gifts). x.items) g.whole in
    let attribute : next.attribute ≡ seen.attribute = ap (λ (x : Gifts). x.attribute) g.whole in
    let test = λ (i : StoreItem). bytes_eq i.attribute next.attribute && storing.same_metadata i.metadata h.item.metadata in
    let new : list_any test (seen.items ++ g.item ∷ []) ≡ false = ap (list_any test) (sym items) ∙ h.new in
    record {
      first = g.item;
      second = h.item;
      whole = ap (λ (x : Gifts). x.items) h.whole ∙ ap (λ (xs : List StoreItem). xs ++ h.item ∷ []) items ∙ append_assoc seen.items (g.item ∷ []) (h.item ∷ []);
      first_is = g.attribute;
      second_is = h.attribute ∙ attribute;
      differ = differs g.item.attribute next.attribute g.item.metadata h.item.metadata (g.attribute ∙ sym attribute) (behind_front test seen.items g.item [] new).0;
    }

three_gifts : (base : List StoreItem) (seen all : Gifts) → TwoItems base seen.attribute seen.items → Gift seen all → ⊥
unfolding storing.has_item
three_gifts base seen all t g =
    let test = λ (i : StoreItem). bytes_eq i.attribute seen.attribute && storing.same_metadata i.metadata g.item.metadata in
    let new : list_any test (base ++ t.first ∷ t.second ∷ []) ≡ false = ap (list_any test) (sym t.whole) ∙ g.new in
    let first = behind_front test base t.first (t.second ∷ []) new in
    let second = or_parts (test t.second) false first.1 in
    no_third t.first.metadata t.second.metadata g.item.metadata t.differ
    (differs t.first.attribute seen.attribute t.first.metadata g.item.metadata t.first_is first.0) (differs t.second.attribute seen.attribute t.second.metadata g.item.metadata t.second_is second.0)

same_attribute : (seen next all : Gifts) → Gift seen next → Gift next all → all.attribute ≡ seen.attribute
same_attribute seen next all g h = ap (λ (x : Gifts). x.attribute) h.whole ∙ ap (λ (x : Gifts). x.attribute) g.whole

gifts : (seen : Gifts) → Yields (storing.gifts_at seen) (Items seen.items seen.attribute)
unfolding storing.gifts_at in_parenthesis some_of
gifts seen =
    choose P _ _ _
    (bind Q P _ _
    (behind Q mark.is_open _ (bind Q Q _ _ (bind (Gift seen) Q _ _ (gift seen) second) (λ all h. behind Q mark.is_close _ (value Q all h))))
    (λ all h. value P all.items h))
    (bind _ P _ _ (any storing.plain_at) (λ g u. value P _ (inl (record { item = record { attribute = seen.attribute; metadata = stored.Value; given = g }; whole = refl; attribute_is = refl })))) where
      P : List StoreItem → Type 0
      P all = Items seen.items seen.attribute all

      Q : Gifts → Type 0
      Q all = Items seen.items seen.attribute all.items

      third : (next two : Gifts) → Gift seen next → Gift next two → Yields (several (mark.starts mark.is_close) (mark.starts mark.is_string) storing.gift_at 1 two) Q
      third next two g h =
          next_item Q (Gift two) _ _ storing.gift_at 0 two (inr (two_gifts seen next two g h)) (gift two)
          (λ three k. absurd (three_gifts seen.items two three (subst (λ (a : List ℕ). TwoItems seen.items a two.items) (sym (same_attribute seen next two g h)) (two_gifts seen next two g h)) k))

      second : (next : Gifts) → Gift seen next → Yields (several (mark.starts mark.is_close) (mark.starts mark.is_string) storing.gift_at 2 next) Q
      second next g = next_item Q (Gift next) _ _ storing.gift_at 1 next (inl (one_gift seen next g)) (gift next) (λ two h. third next two g h)

-- the items of a new attribute
record NewItems (seen all : List StoreItem) : Type 0 where
  attribute : List ℕ
  is : IsAttribute attribute
  new : storing.has_attribute attribute seen ≡ false
  items : Items seen attribute all

item : (seen : List StoreItem) → Yields (storing.item_at seen) (NewItems seen)
unfolding storing.item_at
item seen =
    new_name (NewItems seen) argument.attribute_named (λ a. storing.has_attribute a seen) (λ a ts. storing.gifts_at (record { attribute = a; items = seen }) ts)
    (λ a h new. record { gives = λ ts y e. record { attribute = a; is = attribute_is a h; new = new; items = (gifts (record { attribute = a; items = seen })).gives ts y e } })

new_item : (seen : List StoreItem) (a : List ℕ) (i : StoreItem) → i.attribute ≡ a → IsAttribute a → storing.has_attribute a seen ≡ false → IsNew seen i
new_item seen a i e h n = subst (λ (x : List ℕ). IsAttribute x × (storing.has_attribute x seen ≡ false)) (sym e) (h, n)

first_new : (room : ℕ) (seen : List StoreItem) (j : StoreItem) (rest : List StoreItem) → AreItems room seen (j ∷ rest) → IsNew seen j
first_new zero seen j rest h = absurd h
first_new (suc room) seen j [] h = h
first_new (suc room) seen j (k ∷ rest) h = h.0

one_then : (room : ℕ) (seen : List StoreItem) (i : StoreItem) (rest : List StoreItem) → IsNew seen i → AreItems room (seen ++ i ∷ []) rest → AreItems (suc room) seen (i ∷ rest)
unfolding storing.has_attribute
one_then room seen i [] n h = n
one_then room seen i (j ∷ rest) n h =
    let other = (behind_front (λ (k : StoreItem). bytes_eq k.attribute j.attribute) seen i [] (first_new room (seen ++ i ∷ []) j rest h).1).0 in
    (n, subst (λ (b : Bool). InCase b ((storing.same_metadata i.metadata j.metadata ≡ false) × AreItems room (seen ++ i ∷ j ∷ []) rest) (AreItems room (seen ++ i ∷ []) (j ∷ rest))) (sym other) h)

two_then : (room : ℕ) (seen : List StoreItem) (i j : StoreItem) (rest : List StoreItem) → IsNew seen i → i.attribute ≡ j.attribute → storing.same_metadata i.metadata j.metadata ≡ false
    → AreItems room (seen ++ i ∷ j ∷ []) rest → AreItems (suc room) seen (i ∷ j ∷ rest)
two_then room seen i j rest n same d h =
    let equal = (bytes_eq-Decides i.attribute j.attribute).1 same in
    (n, subst (λ (b : Bool). InCase b ((storing.same_metadata i.metadata j.metadata ≡ false) × AreItems room (seen ++ i ∷ j ∷ []) rest) (AreItems room (seen ++ i ∷ []) (j ∷ rest))) (sym equal) (d, h))

-- the items of so many attributes after those seen
record AddsItems (room : ℕ) (seen all : List StoreItem) : Type 0 where
  added : List StoreItem
  whole : all ≡ seen ++ added
  are : AreItems room seen added

adds_items : (room : ℕ) (seen next all : List StoreItem) → NewItems seen next → AddsItems room next all → AddsItems (suc room) seen all
adds_items room seen next all n b = by_items n.items where
  by_items : Items seen n.attribute next → AddsItems (suc room) seen all
  by_items (inl o) = record {
    added = o.item ∷ b.added;
    whole = b.whole ∙ ap (λ (xs : List StoreItem). xs ++ b.added) o.whole ∙ append_assoc seen (o.item ∷ []) b.added;
    are = one_then room seen o.item b.added (new_item seen n.attribute o.item o.attribute_is n.is n.new) (subst (λ (xs : List StoreItem). AreItems room xs b.added) o.whole b.are);
  }
  by_items (inr t) = record {
    added = t.first ∷ t.second ∷ b.added;
    whole = b.whole ∙ ap (λ (xs : List StoreItem). xs ++ b.added) t.whole ∙ append_assoc seen (t.first ∷ t.second ∷ []) b.added;
    are = two_then room seen t.first t.second b.added (new_item seen n.attribute t.first t.first_is n.is n.new) (t.first_is ∙ sym t.second_is) t.differ (subst (λ (xs : List StoreItem). AreItems room xs b.added) t.whole b.are);
  }

more_items : (room : ℕ) (seen : List StoreItem) → Yields (several (mark.starts mark.is_close) (mark.starts mark.is_string) storing.item_at room seen) (AddsItems room seen)
more_items zero seen = no_item (AddsItems zero seen) _ _ storing.item_at seen (record { added = []; whole = sym (append-nil seen); are = tt })
more_items (suc room) seen =
    next_item (AddsItems (suc room) seen) (NewItems seen) _ _ storing.item_at room seen (record { added = []; whole = sym (append-nil seen); are = tt }) (item seen)
    (λ next n. record { gives = λ ts y e. adds_items room seen next y.0 n ((more_items room next).gives ts y e) })

some_in : (room : ℕ) (next all : List StoreItem) → NewItems [] next → AddsItems room next all → 0 < length all
some_in room next all n b = by_items n.items where
  size : length all ≡ length next + length b.added
  size = ap (λ (xs : List StoreItem). length xs) b.whole ∙ length-append next b.added

  by_items : Items [] n.attribute next → 0 < length all
  by_items (inl o) = omega (arith, size, ap (λ (xs : List StoreItem). length xs) o.whole)
  by_items (inr t) = omega (arith, size, ap (λ (xs : List StoreItem). length xs) t.whole)

abbrev AreAllItems : List StoreItem → Type 0
AreAllItems all = (0 < length all) × AreItems 256 [] all

store_items : Yields storing.items_at AreAllItems
unfolding storing.items_at some_of
store_items =
    bind (NewItems []) AreAllItems (storing.item_at []) _ (item [])
    (λ next n. record { gives = λ ts y e. let b = (more_items 255 next).gives ts y e in let a = adds_items 255 [] next y.0 n b in (some_in 255 next y.0 n b, subst (λ (xs : List StoreItem). AreItems 256 [] xs) (sym a.whole) a.are) })

-- ---- the modifiers of a STORE, its entries

abbrev SinceMoment : StoreModifiers → Type 0
SinceMoment m = IfSome m.unchanged_since IsMoment

conditioned : (m : StoreModifiers) → SinceMoment m → (w : StoreWord) → Yields (storing.behind_condition m w) SinceMoment
unfolding storing.behind_condition
conditioned m h store_word.NoCreate = value SinceMoment (record m { no_create = true }) h
conditioned m h store_word.UnchangedSince = bind _ SinceMoment _ _ (named argument.time_named) (λ t n. value SinceMoment (record m { unchanged_since = Some t }) (time_is t n))

condition : (m : StoreModifiers) → SinceMoment m → Yields (storing.condition_at m) SinceMoment
unfolding storing.condition_at
condition m h =
    worded SinceMoment storing.store_words (storing.condition_by m) (λ ts y e. no_fault SinceMoment _ y e)
    (λ w ts rest y e. (conditioned m h w).gives rest y (past_once (storing.has_condition m w) ts (storing.behind_condition m w rest) y e).1)

conditions : Yields storing.conditions_at SinceMoment
unfolding storing.conditions_at
conditions = kept SinceMoment storing.no_condition storing.no_condition storing.condition_at condition 3 plain_modifiers.unconditional tt

abbrev IsNewPath : List StoreEntry → Path → Type 0
IsNewPath seen p = Names argument.path_named (p.dataset ++ p.name) p × (entry_order.has_path p seen ≡ false)

new_path : (seen : List StoreEntry) → Yields (storing.path_at seen) (IsNewPath seen)
unfolding storing.path_at
new_path seen = new_name (IsNewPath seen) argument.path_named (λ p. entry_order.has_path p seen) (λ p ts. Ok (p, ts)) (λ p h new. value (IsNewPath seen) p (path_is p h, new))

store_entry : (seen : List StoreEntry) → Yields (storing.entry_at seen) (AddsOne IsEntry seen)
unfolding storing.entry_at
store_entry seen =
    let Q = AddsOne IsEntry seen in
    behind Q mark.is_open _
    (bind _ Q _ _ (new_path seen) (λ p h. bind _ Q _ _ conditions (λ m c. bind _ Q _ _ store_items (λ i a. behind Q mark.is_close _
    (value Q _ (record { added = record { path = p; modifiers = m; items = i }; whole = refl; suits = record { path = h.0; new = h.1; since = c; some = a.0; items = a.1 } }))))))

entries : Yields storing.entries_at IsStore
unfolding storing.entries_at
entries = some_items IsEntry mark.ends (mark.starts mark.is_open) storing.entry_at store_entry 255

-- ---- keys

string_part : (r : Relation) (a : List ℕ) (c : Comparator) → IsAttribute a → argument.is_of_texts r && is_numeric c.collation ≡ false → Yields (keys.string_part r a c) IsTest
string_part r a c h f = bind _ IsTest _ _ (any mark.string_at) (λ v u. value IsTest (test.Meets r a c v) (h, f))

value_part : (r : Relation) (a : List ℕ) (c : Comparator) → IsAttribute a → argument.is_of_texts r && is_numeric c.collation ≡ false → Yields (keys.value_part r a c) IsTest
unfolding keys.value_part
value_part relation.Equal a c h f = record { gives = λ ts y e. by_word ts y (mark.behind_word (codes "NIL") ts) e } where
  by_word : (ts : List Token) (y : Test × List Token) (o : Option (List Token)) → keys.equal_part a c ts o ≡ Ok y → IsTest y.0
  by_word ts y None e = (string_part relation.Equal a c h f).gives ts y e
  by_word ts y (Some rest) e = (value IsTest (test.IsNil a c) h).gives rest y e
value_part relation.AtLeast a c h f = string_part relation.AtLeast a c h f
value_part relation.Greater a c h f = string_part relation.Greater a c h f
value_part relation.Begins a c h f = string_part relation.Begins a c h f
value_part relation.Contains a c h f = string_part relation.Contains a c h f

meets : (r : Relation) → Yields (keys.meets_at r) IsTest
unfolding keys.meets_at
meets r = bind _ IsTest _ _ (named argument.attribute_named) (λ a h. bind _ IsTest _ _ (named (argument.comparator_for r)) (λ c f. value_part r a c (attribute_is a h) (comparator_is r c f)))

range : Yields keys.range_at IsTest
unfolding keys.range_at
range =
    bind _ IsTest _ _ number (λ first h. bind _ IsTest _ _ number (λ last k. bind _ IsTest _ _ (named argument.time_named) (λ since n. value IsTest (test.Range first last since) (h, k, time_is since n))))

abbrev IsKeyIn : ℕ → Wanted → Type 0
IsKeyIn room k = IsKey k × (levels k ≤ room)

one : (room : ℕ) (read : List Token → Read Test) → Yields read IsTest → Yields (λ ts. keys.one_of (read ts)) (IsKeyIn (suc room))
one room read p = bind IsTest (IsKeyIn (suc room)) read _ p (λ t h. value (IsKeyIn (suc room)) (One t) (h, omega arith))

key_behind : (room : ℕ) (inner : List Token → Read Wanted) → Yields inner (IsKeyIn room) → (w : KeyWord) → Yields (keys.key_behind inner w) (IsKeyIn (suc room))
unfolding keys.key_behind
key_behind room inner p key_word.All = value (IsKeyIn (suc room)) (One test.All) (tt, omega arith)
key_behind room inner p key_word.And =
    bind _ (IsKeyIn (suc room)) _ _ p (λ a h. bind _ (IsKeyIn (suc room)) _ _ p (λ b k. value (IsKeyIn (suc room)) (And a b) ((h.0, k.0), omega (arith, h.1, k.1))))
key_behind room inner p key_word.Or =
    bind _ (IsKeyIn (suc room)) _ _ p (λ a h. bind _ (IsKeyIn (suc room)) _ _ p (λ b k. value (IsKeyIn (suc room)) (Or a b) ((h.0, k.0), omega (arith, h.1, k.1))))
key_behind room inner p key_word.Not = bind _ (IsKeyIn (suc room)) _ _ p (λ a h. value (IsKeyIn (suc room)) (Not a) (h.0, omega (arith, h.1)))
key_behind room inner p key_word.Range = one room keys.range_at range
key_behind room inner p (key_word.Meets r) = one room (keys.meets_at r) (meets r)

key : (room : ℕ) → Yields (keys.key_at room) (IsKeyIn room)
unfolding keys.key_at
key zero = record { gives = λ ts y e. no_fault (IsKeyIn zero) _ y e }
key (suc room) = worded (IsKeyIn (suc room)) keys.key_words (keys.key_by (keys.key_at room)) (λ ts y e. no_fault (IsKeyIn (suc room)) _ y e) (λ w ts rest y e. (key_behind room (keys.key_at room) (key room) w).gives rest y e)

-- ---- RETURN and SORT

weaker : {A : Type 0} (P Q : A → Type 0) (read : List Token → Read A) → Yields read P → ((x : A) → P x → Q x) → Yields read Q
weaker P Q read p f = record { gives = λ ts x e. f x.0 (p.gives ts x e) }

abbrev IsAny : List Metadata → Metadata → Type 0
IsAny before m = Unit {0}

metadata : (seen : List Metadata) → Yields (searching.metadata_at seen) (AddsOne IsAny seen)
unfolding searching.metadata_at
metadata seen = bind _ (AddsOne IsAny seen) _ _ (named searching.metadata_named) (λ m h. value (AddsOne IsAny seen) _ (record { added = m; whole = refl; suits = tt }))

left_out : (n : ReturnName) → OneTo 32 (searching.default_metadata n)
left_out (name.Named attribute) = (omega arith, omega arith)
left_out (name.Beginning front) = (omega arith, omega arith)

metadata_part : (n : ReturnName) → Yields (searching.metadata_part n) (OneTo 32)
unfolding searching.metadata_part
metadata_part n =
    choose (OneTo 32) _ _ _ (weaker _ (OneTo 32) _ (enclosed_items IsAny mark.is_string searching.metadata_at metadata 31) (λ all h. h.0)) (value (OneTo 32) (searching.default_metadata n) (left_out n))

abbrev IsReturned : List ReturnItem → ReturnItem → Type 0
IsReturned before r = IsReturn r

return_item : (seen : List ReturnItem) → Yields (searching.return_at seen) (AddsOne IsReturned seen)
unfolding searching.return_at
return_item seen =
    bind _ (AddsOne IsReturned seen) _ _ (named searching.return_named)
    (λ n h. bind _ (AddsOne IsReturned seen) _ _ (metadata_part n)
    (λ m few. value (AddsOne IsReturned seen) _ (record { added = record { name = n; metadata = m }; whole = refl; suits = (subst (λ (t : List ℕ). searching.return_named t ≡ Ok n) (returned_is h.text n h.is).0 h.is, few) })))

returns : Yields searching.returns_at AreReturns
unfolding searching.returns_at
returns =
    behind AreReturns mark.is_open _ (bind _ AreReturns _ _ (list_items IsReturned _ _ searching.return_at return_item 256 []) (λ all a. behind AreReturns mark.is_close _
    (value AreReturns all (subst AreReturns (sym a.whole) (a.few, a.each)))))

abbrev IsSorted : List SortItem → SortItem → Type 0
IsSorted before s = IsAttribute s.attribute

sort_item : (seen : List SortItem) → Yields (searching.sort_at seen) (AddsOne IsSorted seen)
unfolding searching.sort_at
sort_item seen =
    bind _ (AddsOne IsSorted seen) _ _ (named argument.attribute_named)
    (λ a h. bind _ (AddsOne IsSorted seen) _ _ (named argument.comparator_named)
    (λ c k. value (AddsOne IsSorted seen) _ (record { added = record { attribute = a; comparator = c }; whole = refl; suits = attribute_is a h })))

sorts : Yields searching.sorts_at AreSorts
unfolding searching.sorts_at
sorts = enclosed_items IsSorted mark.is_string searching.sort_at sort_item 15

-- ---- the modifiers of a SEARCH

limit : Yields searching.limit_at IsLimit
unfolding searching.limit_at
limit = bind _ IsLimit _ _ number (λ over h. bind _ IsLimit _ _ number (λ most k. value IsLimit (record { over = over; most = most }) (h, k)))

make_context : Yields searching.make_context_at IsContext
unfolding searching.make_context_at
make_context = record {
  gives = λ ts y e.
      let enumerate = searching.flag_at (codes "ENUMERATE") ts in
      let notify = searching.flag_at (codes "NOTIFY") enumerate.1 in
      (bind _ IsContext _ _ (named argument.context_named) (λ x h. value IsContext (record { enumerate = enumerate.0; notify = notify.0; name = x }) (context_is x h))).gives notify.1 y e;
}

-- what is known of modifiers over what is looked through
abbrev FitModifiers : Target → SearchModifiers → Type 0
FitModifiers of m = AreModifiers m × Fits of m

-- a modifier that isn't over contexts changes nothing where a context is looked through
over_dataset : (of : Target) (m : SearchModifiers) → searching.is_context of && true ≡ false → Fits of m
over_dataset (target.Dataset d) m e = tt
over_dataset (target.Context c) m e = absurd cc

over_both : (of : Target) (m n : SearchModifiers) → n.depth ≡ m.depth → n.make_context ≡ m.make_context → n.no_inherit ≡ m.no_inherit → Fits of m → Fits of n
over_both (target.Dataset d) m n p q r f = tt
over_both (target.Context c) m n p q r f = (p ∙ f.0, q ∙ f.1, r ∙ f.2)

modified : (of : Target) (m : SearchModifiers) (w : SearchWord) → FitModifiers of m → searching.is_context of && searching.is_of_datasets w ≡ false → Yields (searching.behind_modifier m w) (FitModifiers of)
unfolding searching.behind_modifier
modified of m search_word.Depth (h, f) o =
    bind _ (FitModifiers of) _ _ number (λ n k. value (FitModifiers of) (record m { depth = Some n })
    (record { depth = k; hard_limit = h.hard_limit; limit = h.limit; make_context = h.make_context; returns = h.returns; sort = h.sort }, over_dataset of _ o))
modified of m search_word.HardLimit (h, f) o =
    bind _ (FitModifiers of) _ _ number (λ n k. value (FitModifiers of) (record m { hard_limit = Some n })
    (record { depth = h.depth; hard_limit = k; limit = h.limit; make_context = h.make_context; returns = h.returns; sort = h.sort }, over_both of m _ refl refl refl f))
modified of m search_word.Limit (h, f) o =
    bind _ (FitModifiers of) _ _ limit (λ l k. value (FitModifiers of) (record m { limit = Some l })
    (record { depth = h.depth; hard_limit = h.hard_limit; limit = k; make_context = h.make_context; returns = h.returns; sort = h.sort }, over_both of m _ refl refl refl f))
modified of m search_word.MakeContext (h, f) o =
    bind _ (FitModifiers of) _ _ make_context (λ c k. value (FitModifiers of) (record m { make_context = Some c })
    (record { depth = h.depth; hard_limit = h.hard_limit; limit = h.limit; make_context = k; returns = h.returns; sort = h.sort }, over_dataset of _ o))
modified of m search_word.NoInherit (h, f) o =
    value (FitModifiers of) (record m { no_inherit = true })
    (record { depth = h.depth; hard_limit = h.hard_limit; limit = h.limit; make_context = h.make_context; returns = h.returns; sort = h.sort }, over_dataset of _ o)
modified of m search_word.Return (h, f) o =
    bind _ (FitModifiers of) _ _ returns (λ r k. value (FitModifiers of) (record m { returns = Some r })
    (record { depth = h.depth; hard_limit = h.hard_limit; limit = h.limit; make_context = h.make_context; returns = k; sort = h.sort }, over_both of m _ refl refl refl f))
modified of m search_word.Sort (h, f) o =
    bind _ (FitModifiers of) _ _ sorts (λ s k. value (FitModifiers of) (record m { sort = Some s })
    (record { depth = h.depth; hard_limit = h.hard_limit; limit = h.limit; make_context = h.make_context; returns = h.returns; sort = k }, over_both of m _ refl refl refl f))

-- what is known of a search's modifiers as they are read
record IsScope (of : Target) (s : Scope) : Type 0 where
  target_is : s.target ≡ of
  fit : FitModifiers of s.modifiers

may_modify : {A : Type 0} (s : Scope) (w : SearchWord) (ts : List Token) (r : Read A) (y : A × List Token) → (verdict_at ts (searching.may_modify s w) >>= λ new. r) ≡ Ok y
    → (searching.is_context s.target && searching.is_of_datasets w ≡ false) × (r ≡ Ok y)
may_modify {A} s w ts r y e = by_test (searching.is_context s.target && searching.is_of_datasets w) refl e where
  by_test : (b : Bool) → searching.is_context s.target && searching.is_of_datasets w ≡ b
      → (verdict_at ts (if b then Err fault.Arguments else storing.once (searching.has_modifier s.modifiers w)) >>= λ new. r) ≡ Ok y → (searching.is_context s.target && searching.is_of_datasets w ≡ false) × (r ≡ Ok y)
  by_test true m f = absurd cc
  by_test false m f = (m, (past_once (searching.has_modifier s.modifiers w) ts r y f).1)

modifier : (of : Target) (s : Scope) → IsScope of s → Yields (searching.modifier_at s) (IsScope of)
unfolding searching.modifier_at
modifier of s k = worded (IsScope of) searching.search_words (searching.modifier_by s) (λ ts y e. no_fault (IsScope of) _ y e) by_word where
  by_word : (w : SearchWord) (ts rest : List Token) (y : Scope × List Token) → searching.modifier_by s ts (Some (w, rest)) ≡ Ok y → IsScope of y.0
  by_word w ts rest y e =
      let m = may_modify s w ts (searching.behind_modifier s.modifiers w rest >>= λ all. Ok (record s { modifiers = all.0 }, all.1)) y e in
      let over : searching.is_context of && searching.is_of_datasets w ≡ false = subst (λ (t : Target). searching.is_context t && searching.is_of_datasets w ≡ false) k.target_is m.0 in
      (bind (FitModifiers of) (IsScope of) (searching.behind_modifier s.modifiers w) _ (modified of s.modifiers w k.fit over) (λ n h. value (IsScope of) (record s { modifiers = n }) (record { target_is = k.target_is; fit = h }))).gives rest y m.1

unmodified_fits : (of : Target) → Fits of plain_modifiers.no_modifiers
unmodified_fits (target.Dataset d) = tt
unmodified_fits (target.Context c) = (refl, refl, refl)

modifiers : (of : Target) → Yields (searching.modifiers_at of) (IsScope of)
unfolding searching.modifiers_at
modifiers of =
    kept (IsScope of) searching.no_modifier searching.no_modifier searching.modifier_at (modifier of) 8 _
    (record { target_is = refl; fit = (record { depth = tt; hard_limit = tt; limit = tt; make_context = tt; returns = tt; sort = tt }, unmodified_fits of) })

search_all : Yields searching.search_at IsSearch
unfolding searching.search_at
search_all =
    bind _ IsSearch _ _ (named argument.target_named) (λ of n. bind _ IsSearch _ _ (modifiers of) (λ s h. bind _ IsSearch _ _ (key 32)
    (λ k l. value IsSearch (record { target = s.target; modifiers = s.modifiers; key = k })
    (record {
      target = subst (λ (t : Target). Names argument.target_named (target_text t) t) (sym h.target_is) (target_is n.text of n.is).0;
      modifiers = h.fit.0;
      fits = subst (λ (t : Target). Fits t s.modifiers) (sym h.target_is) h.fit.1;
      key = l.0;
      levels = l.1;
    }))))

-- ---- the whole

abbrev IsContextList : List (List ℕ) → List ℕ → Type 0
IsContextList before c = IsContextName c

context_item : (seen : List (List ℕ)) → Yields (grammar.context_at seen) (AddsOne IsContextList seen)
unfolding grammar.context_at
context_item seen = bind _ (AddsOne IsContextList seen) _ _ (named argument.context_named) (λ c h. value (AddsOne IsContextList seen) _ (record { added = c; whole = refl; suits = context_is c h }))

contexts : Yields grammar.contexts_at (λ names. OneTo 200 names × Each IsContextList [] names)
unfolding grammar.contexts_at
contexts = some_items IsContextList mark.ends (mark.starts mark.is_string) grammar.context_at context_item 199

arguments : (v : Verb) → Yields (grammar.arguments_at v) IsSendable
unfolding grammar.arguments_at grammar.set_acl_at grammar.delete_acl_at grammar.list_rights_at grammar.deleted_since_at
arguments verb.Noop = value IsSendable command.Noop tt
arguments verb.Logout = value IsSendable command.Logout tt
arguments verb.Authenticate = bind _ IsSendable _ _ (any mark.string_at) (λ x u. value IsSendable (command.Authenticate x) tt)
arguments verb.Store = bind _ IsSendable _ _ entries (λ x h. value IsSendable (command.Store x) h)
arguments verb.Search = bind _ IsSendable _ _ search_all (λ x h. value IsSendable (command.Search x) h)
arguments verb.SetAcl = bind _ IsSendable _ _ object (λ o h. bind _ IsSendable _ _ (any mark.string_at) (λ i u. bind _ IsSendable _ _ (any mark.string_at) (λ r v. value IsSendable (command.SetAcl o i r) h)))
arguments verb.DeleteAcl = bind _ IsSendable _ _ object (λ o h. bind _ IsSendable _ _ (any grammar.identifier_part) (λ i u. value IsSendable (command.DeleteAcl o i) h))
arguments verb.MyRights = bind _ IsSendable _ _ object (λ o h. value IsSendable (command.MyRights o) h)
arguments verb.ListRights = bind _ IsSendable _ _ object (λ o h. bind _ IsSendable _ _ (any mark.string_at) (λ i u. value IsSendable (command.ListRights o i) h))
arguments verb.DeletedSince =
    bind _ IsSendable _ _ (named argument.dataset_named) (λ d h. bind _ IsSendable _ _ (named argument.time_named) (λ t n. value IsSendable (command.DeletedSince d t) (dataset_is d h, time_is t n)))
arguments verb.FreeContext = bind _ IsSendable _ _ (named argument.context_named) (λ c h. value IsSendable (command.FreeContext c) (context_is c h))
arguments verb.UpdateContext = bind _ IsSendable _ _ contexts (λ c h. value IsSendable (command.UpdateContext c) h)

whole : (r : Read Command) (c : Command) → (r >>= grammar.whole) ≡ Ok c → (rest : List Token) × (r ≡ Ok (c, rest))
whole (Err e) c m = absurd cc
whole (Ok x) c m = by_end (mark.ends x.1) m where
  by_end : (b : Bool) → ◌≡◌ {A = Result Command Fault} (if b then Ok x.0 else fault_here x.1 fault.Arguments) (Ok c) → (rest : List Token) × (◌≡◌ {A = Read Command} (Ok x) (Ok (c, rest)))
  by_end true n = let same : x.0 ≡ c = cc in (x.1, ap (λ (d : Command). let r : Read Command = Ok (d, x.1) in r) same)
  by_end false n = absurd cc

pub reads_sendable : (tokens : List Token) (c : Command) → grammar.command_of tokens ≡ Ok c → IsSendable c
unfolding grammar.command_of
reads_sendable tokens c e = by_word (mark.word_at grammar.verbs (drop 1 tokens)) e where
  by_read : (r : Result Command Fault) → grammar.without_place r ≡ Ok c → r ≡ Ok c
  by_read (Ok d) m = let same : d ≡ c = cc in ap Ok same
  by_read (Err f) m = absurd cc

  by_word : (o : Option (Verb × List Token)) → grammar.without_place (grammar.command_by (drop 1 tokens) o) ≡ Ok c → IsSendable c
  by_word None m = absurd cc
  by_word (Some x) m =
      let w = whole (grammar.arguments_at x.0 x.1) c (by_read (grammar.arguments_at x.0 x.1 >>= grammar.whole) m) in
      (arguments x.0).gives x.1 (c, w.0) w.1
