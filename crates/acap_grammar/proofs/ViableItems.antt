-- What stands before a fault in the items of an entry that is stored, or in its conditions, goes on to all of them.
use Rattle.std.proofs.Common.{◌≡◌, ℕ, Bool, true, false, List, [], ◌∷◌, ◌++◌, codes, Option, Some, None, Ok, Err, refl, ap, ◌∙◌, ◌⊎◌, inl, inr}
use Rattle.std.specs.Prelude.{if◌then◌else◌}
use Rattle.std.specs.List.{list_any}
use Rattle.std.proofs.lemmas.Bool.{or_parts}
use Rattle.acap_entries.specs.declared.record.Cell.TheVariants as cell
use Rattle.acap_commands.specs.declared.store.Given.{Given}
use Rattle.acap_commands.specs.declared.store.Given.TheVariants as given
use Rattle.acap_commands.specs.declared.store.StoreItem.{StoreItem}
use Rattle.acap_commands.specs.declared.store.StoreMetadata.{StoreMetadata}
use Rattle.acap_commands.specs.declared.store.StoreMetadata.TheVariants as metadata
use Rattle.acap_commands.specs.declared.store.StoreModifiers.{StoreModifiers}
use Rattle.acap_grammar.specs.declared.storing.Gifts.{Gifts}
use Rattle.acap_grammar.specs.declared.words.StoreWord.{StoreWord}
use Rattle.acap_grammar.specs.declared.words.StoreWord.TheVariants as store_word
use Rattle.std.specs.Str.{bytes_eq}
use Rattle.acap_lexer.specs.Token.{Token}
use Rattle.acap_grammar.specs.declared.command_fault.CommandFault.TheVariants as fault
use Rattle.acap_grammar.specs.Arguments as argument
use Rattle.acap_grammar.specs.Arguments.{named_at}
use Rattle.acap_grammar.specs.Marks as mark
use Rattle.acap_grammar.specs.Outcome.{◌>>=◌, Fault, Read, fault_here}
use Rattle.acap_grammar.specs.Several.{in_parenthesis}
use Rattle.acap_grammar.specs.Storing as storing
use Rattle.acap_grammar.specs.Storing.{once}
use Rattle.acap_grammar.proofs.Looking.{starting, worded_first}
use Rattle.acap_grammar.proofs.Mending.{any, Broken, Completes, Stayed, Begun, Items, Always, Takes, Goes, Fails, Taking, items, mended, nothing_more, plain_items, same_takes, takes_one, make_taking, value}
use Rattle.acap_grammar.proofs.ViableParts.{text, closed, named, fresh_name, worded, judged, enclosed, Whole, a_value, made_of, the_name, a_named, a_time}

-- ---- STORE

-- a list of strings, from a fault on: its closing parenthesis goes on
strings_mend : (tokens : List Token) (seen : List (List ℕ)) (e : Fault) (t : Token) (left : List Token) → storing.strings_at seen tokens ≡ Err e → e.left ≡ t ∷ left → Broken (storing.strings_at seen) any tokens t left
unfolding storing.strings_at
strings_mend [] seen e t left m l =
    let all : record { fault = fault.Arguments; left = [] } ≡ e = cc in let none : [] ≡ t ∷ left = ap (λ (x : Fault). x.left) all ∙ l in absurd cc
strings_mend (u ∷ rest) seen e t left m l = by_kind (mark.is_close u.kind) refl (mark.is_string u.kind) refl (λ n. strings_mend rest (seen ++ u.value ∷ []) e t left n l) m where
  onward : (b : Broken (storing.strings_at (seen ++ u.value ∷ [])) any rest t left) → mark.is_close u.kind ≡ false → mark.is_string u.kind ≡ true → Broken (storing.strings_at seen) any (u ∷ rest) t left
  onward b p q = record {
    front = u ∷ b.front;
    whole = ap (λ (ts : List Token). u ∷ ts) b.whole;
    onward = inr (further b.onward);
  } where
    further : (b.front ≡ []) ⊎ Completes (storing.strings_at (seen ++ u.value ∷ [])) any b.front → Completes (storing.strings_at seen) any (u ∷ b.front)
    further (inl n) = record { more = closed ∷ []; value = seen ++ u.value ∷ []; is = λ more h. rw (p, q, n) refl }
    further (inr c) = record { more = c.more; value = c.value; is = λ more h. rw (p, q) (c.is more h) }

  by_kind : (b : Bool) → mark.is_close u.kind ≡ b → (c : Bool) → mark.is_string u.kind ≡ c → (storing.strings_at (seen ++ u.value ∷ []) rest ≡ Err e → Broken (storing.strings_at (seen ++ u.value ∷ [])) any rest t left)
      → (if b then Ok (seen, rest) else (if c then storing.strings_at (seen ++ u.value ∷ []) rest else fault_here (u ∷ rest) fault.Arguments)) ≡ Err e → Broken (storing.strings_at seen) any (u ∷ rest) t left
  by_kind true p c q further n = absurd cc
  by_kind false p true q further n = onward (further n) p q
  by_kind false p false q further n =
      let all : record { fault = fault.Arguments; left = u ∷ rest } ≡ e = cc in record { front = []; whole = ap (λ (x : Fault). x.left) all ∙ l; onward = inl refl }

strings_stay : (tokens : List Token) (seen x : List (List ℕ)) (left : List Token) → storing.strings_at seen tokens ≡ Ok (x, left) → Stayed (storing.strings_at seen) any tokens x left
unfolding storing.strings_at
strings_stay [] seen x left m = absurd cc
strings_stay (u ∷ rest) seen x left m = by_kind (mark.is_close u.kind) refl (mark.is_string u.kind) refl (λ n. strings_stay rest (seen ++ u.value ∷ []) x left n) m where
  by_kind : (b : Bool) → mark.is_close u.kind ≡ b → (c : Bool) → mark.is_string u.kind ≡ c → (storing.strings_at (seen ++ u.value ∷ []) rest ≡ Ok (x, left) → Stayed (storing.strings_at (seen ++ u.value ∷ [])) any rest x left)
      → ◌≡◌ {A = Read (List (List ℕ))} (if b then Ok (seen, rest) else (if c then storing.strings_at (seen ++ u.value ∷ []) rest else fault_here (u ∷ rest) fault.Arguments)) (Ok (x, left)) → Stayed (storing.strings_at seen) any (u ∷ rest) x left
  by_kind true p c q further n =
      let pair : ◌≡◌ {A = List (List ℕ) × List Token} (seen, rest) (x, left) = cc in
      let same : seen ≡ x = ap (λ (z : List (List ℕ) × List Token). z.0) pair in
      record {
        front = u ∷ [];
        whole = ap (λ (z : List (List ℕ) × List Token). u ∷ z.1) pair;
        is = λ more h. rw p (ap (λ (z : List (List ℕ)). Ok (z, more)) same);
        same = λ t a b l. rw p (ap (λ (z : List (List ℕ)). Ok (z, t ∷ b)) same);
      }
  by_kind false p true q further n =
      let s = further n in
      record { front = u ∷ s.front; whole = ap (λ (ts : List Token). u ∷ ts) s.whole; is = λ more h. rw (p, q) (s.is more h); same = λ t a b l. rw (p, q) (s.same t a b l) }
  by_kind false p false q further n = absurd cc

strings : Whole (storing.strings_at []) any
unfolding storing.strings_at
strings = record {
  mends = record { mend = λ tokens e t left m l deep. strings_mend tokens [] e t left m l; stay = λ tokens x left m. strings_stay tokens [] x left m };
  begun = record { more = closed ∷ []; value = []; is = λ rest h. refl; start = λ rest h. refl };
}

plain : Taking storing.plain_at any
unfolding storing.plain_at mark.starts mark.string_at mark.word_at
plain = record { none = refl; at = λ t. by_kind t (mark.is_string t.kind) refl (mark.is_word t.kind) refl (mark.word_in storing.given_words t.value) refl } where
  by_kind : (t : Token) (b : Bool) → mark.is_string t.kind ≡ b → (c : Bool) → mark.is_word t.kind ≡ c → (o : Option Given) → mark.word_in storing.given_words t.value ≡ o → Takes storing.plain_at any t
  by_kind t true e c f o n = Goes (λ rest. Ok (given.Put (cell.Single t.value), rest)) (value any _) (nothing_more any _) (λ rest. rw e refl)
  by_kind t false e false f o n = Fails fault.Arguments (λ rest. rw (e, f) refl)
  by_kind t false e true f None n = Fails fault.Arguments (λ rest. rw (e, f, n) refl)
  by_kind t false e true f (Some w) n = Goes (λ rest. Ok (w, rest)) (value any w) (nothing_more any w) (λ rest. rw (e, f, n) refl)

a_plain : Begun storing.plain_at any any
unfolding storing.plain_at mark.starts mark.string_at
a_plain = record { more = text [] ∷ []; value = given.Put (cell.Single []); is = λ rest h. refl; start = λ rest h. refl }

given_there : Taking storing.given_at any
unfolding storing.given_at mark.starts storing.plain_at mark.word_at
given_there = record { none = refl; at = λ t. by_kind t (mark.is_open t.kind) refl } where
  by_kind : (t : Token) (b : Bool) → mark.is_open t.kind ≡ b → Takes storing.given_at any t
  by_kind t false e = same_takes storing.given_at storing.plain_at any t (λ rest. rw e refl) (plain.at t)
  by_kind t true e =
      let w = made_of (storing.strings_at []) (λ x. given.Put (cell.Multi x)) any strings.mends strings.begun in
      Goes (λ rest. storing.strings_at [] rest >>= λ x. Ok (given.Put (cell.Multi x.0), x.1)) w.mends w.begun (λ rest. rw e refl)

a_given : Begun storing.given_at any any
unfolding storing.given_at mark.starts storing.plain_at mark.string_at
a_given = record { more = text [] ∷ []; value = given.Put (cell.Single []); is = λ rest h. refl; start = λ rest h. refl }

gift : (seen : Gifts) → Taking (storing.gift_at seen) any
unfolding storing.gift_at
gift seen =
    fresh_name storing.metadata_named (λ m. storing.has_item seen.attribute m seen.items) _ any
    (λ m s. (made_of storing.given_at (λ g. record seen { items = storing.with_gift seen m g }) any (mended _ any given_there) a_given).mends)
    (λ m s. (made_of storing.given_at (λ g. record seen { items = storing.with_gift seen m g }) any (mended _ any given_there) a_given).begun)

-- an attribute that didn't stand has no metadata yet
no_item : (attribute : List ℕ) (m : StoreMetadata) (items : List StoreItem) → storing.has_attribute attribute items ≡ false → storing.has_item attribute m items ≡ false
unfolding storing.has_attribute storing.has_item
no_item attribute m [] h = refl
no_item attribute m (i ∷ items) h =
    let p = or_parts (bytes_eq i.attribute attribute) (list_any (λ (j : StoreItem). bytes_eq j.attribute attribute) items) h in
    rw (p.0) (no_item attribute m items p.1)

a_gift : (seen : Gifts) → storing.has_attribute seen.attribute seen.items ≡ false → Begun (storing.gift_at seen) any any
unfolding storing.gift_at named_at mark.string_at a_given no_item
a_gift seen fresh =
    let none : storing.has_item seen.attribute metadata.Value seen.items ≡ false = no_item seen.attribute metadata.Value seen.items fresh in
    record {
      more = text (codes "value") ∷ text [] ∷ [];
      value = record seen { items = storing.with_gift seen metadata.Value (given.Put (cell.Single [])) };
      is = λ rest h. rw none (ap (λ (r : Read Given). r >>= λ g. Ok (record seen { items = storing.with_gift seen metadata.Value g.0 }, g.1)) (a_given.is rest h));
      start = λ rest h. refl;
    }

pub to_close : (rest : List Token) → mark.starts mark.is_close rest ≡ true → any rest ≡ true
to_close rest h = refl

gifts : (seen : Gifts) → storing.has_attribute seen.attribute seen.items ≡ false → Taking (storing.gifts_at seen) any
unfolding storing.gifts_at mark.starts storing.plain_at mark.word_at
gifts seen fresh = record { none = refl; at = λ t. by_kind t (mark.is_open t.kind) refl } where
  all : Taking (λ ts. in_parenthesis (mark.starts mark.is_close) (mark.starts mark.is_string) storing.gift_at 3 seen ts >>= λ x. Ok (x.0.items, x.1)) any
  all = make_taking _ (λ (g : Gifts). g.items) any
      (enclosed (mark.starts mark.is_string) any storing.gift_at
      (plain_items (mark.starts mark.is_close) any storing.gift_at (starting mark.is_close) to_close ([], refl) (λ s. mended _ any (gift s)) (λ s. takes_one _ any (gift s))) 3 seen (a_gift seen fresh))

  by_kind : (t : Token) (b : Bool) → mark.is_open t.kind ≡ b → Takes (storing.gifts_at seen) any t
  by_kind t false e = same_takes _ (λ ts. storing.plain_at ts >>= λ x. Ok (storing.with_gift seen metadata.Value x.0, x.1)) any t (λ rest. rw e refl) ((make_taking storing.plain_at (λ g. storing.with_gift seen metadata.Value g) any plain).at t)
  by_kind t true e = same_takes _ _ any t (λ rest. rw e refl) (all.at t)

a_gifts : (seen : Gifts) → Begun (storing.gifts_at seen) any any
unfolding storing.gifts_at mark.starts storing.plain_at mark.string_at
a_gifts seen = record { more = text [] ∷ []; value = storing.with_gift seen metadata.Value (given.Put (cell.Single [])); is = λ rest h. refl; start = λ rest h. refl }

item : (seen : List StoreItem) → Taking (storing.item_at seen) any
unfolding storing.item_at
item seen =
    fresh_name argument.attribute_named (λ a. storing.has_attribute a seen) (λ a ts. storing.gifts_at (record { attribute = a; items = seen }) ts) any
    (λ a s. mended _ any (gifts (record { attribute = a; items = seen }) s)) (λ a s. a_gifts (record { attribute = a; items = seen }))

pub an_item : (begin : List Token → Bool) → ((rest : List Token) → begin (text (codes "a") ∷ rest) ≡ true) → Begun (storing.item_at []) any begin
unfolding storing.item_at named_at mark.string_at storing.has_attribute a_gifts
an_item begin b = record {
  more = text (codes "a") ∷ text [] ∷ [];
  value = storing.with_gift (record { attribute = codes "a"; items = [] }) metadata.Value (given.Put (cell.Single []));
  is = λ rest h. rw a_named ((a_gifts (record { attribute = codes "a"; items = [] })).is rest h);
  start = λ rest h. b (text [] ∷ rest);
}

pub all_items : Items (mark.starts mark.is_close) any storing.item_at Always
all_items = plain_items (mark.starts mark.is_close) any storing.item_at (starting mark.is_close) to_close ([], refl) (λ s. mended _ any (item s)) (λ s. takes_one _ any (item s))

conditioned : (seen : StoreModifiers) (w : StoreWord) → Whole (storing.behind_condition seen w) any
unfolding storing.behind_condition
conditioned seen store_word.NoCreate = a_value any _
conditioned seen store_word.UnchangedSince = made_of (named_at argument.time_named) _ any (mended _ any (named _)) (the_name _ (codes "19700101000000") _ a_time)

condition : (seen : StoreModifiers) → Taking (storing.condition_at seen) any
unfolding storing.condition_at
condition seen =
    worded storing.store_words (storing.condition_by seen) any (λ ts. refl)
    (λ t w. judged (storing.once (storing.has_condition seen w)) (storing.behind_condition seen w) any (conditioned seen w).mends (conditioned seen w).begun t)

pub all_conditions : Items storing.no_condition any storing.condition_at Always
unfolding storing.no_condition
all_conditions = plain_items storing.no_condition any storing.condition_at (worded_first storing.store_words) (λ rest h. refl) ([], refl) (λ s. mended _ any (condition s)) (λ s. takes_one _ any (condition s))
