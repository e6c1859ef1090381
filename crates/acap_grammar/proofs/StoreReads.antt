-- The entries of a STORE are read back from their plainest spelling.
use Rattle.std.proofs.Common.{◌≡◌, ℕ, ℤ, zero, suc, ◌<◌, Bool, true, false, List, [], ◌∷◌, ◌++◌, length, Option, Some, None, Ok, refl, sym, ap, ◌∙◌, arith, append_assoc}
use Rattle.std.specs.Prelude.{IfSome, if◌then◌else◌}
use Rattle.std.specs.Str.{bytes_eq}
use Rattle.std.proofs.lemmas.Bool.{and_left, and_right, or_parts, or_from}
use Rattle.std.proofs.lemmas.List.{append-nil}
use Rattle.std.proofs.lemmas.List.Folds.{list_any-append}
use Rattle.std.proofs.lemmas.Slice.Eq.{bytes_eq-Decides}
use Rattle.acap_lexer.specs.Token.{Token}
use Rattle.acap_entries.specs.Moments.{IsMoment}
use Rattle.acap_entries.specs.declared.record.Cell.TheVariants as cell
use Rattle.acap_entries.proofs.TimeLaws.{time_law}
use Rattle.acap_commands.specs.declared.store.Given.{Given}
use Rattle.acap_commands.specs.declared.store.Given.TheVariants as given
use Rattle.acap_commands.specs.declared.store.StoreEntry.{StoreEntry}
use Rattle.acap_commands.specs.declared.store.StoreItem.{StoreItem}
use Rattle.acap_commands.specs.declared.store.StoreMetadata.{StoreMetadata}
use Rattle.acap_commands.specs.declared.store.StoreMetadata.TheVariants as metadata
use Rattle.acap_commands.specs.declared.store.StoreModifiers.{StoreModifiers}
use Rattle.acap_grammar.specs.Several.{several, some_of, in_parenthesis}
use Rattle.acap_grammar.specs.Marks.{is_string, is_open, is_close, ends, starts, behind, string_at, word_at}
use Rattle.acap_grammar.specs.Arguments.{named_at}
use Rattle.acap_grammar.specs.Storing.{has_attribute, has_item, same_metadata, strings_at, plain_at, given_at, gift_at, gifts_at, item_at, items_at, behind_condition, condition_at, no_condition, conditions_at, path_at, entry_at, entries_at}
use Rattle.acap_grammar.specs.Sendable.{InCase, IsNew, AreItems, IsEntry, IsStore}
use Rattle.acap_grammar.specs.Spelling.{string, open_then, shut, each, given_tokens, stored_name, gift, is_bare, one_gift, items, conditions, entry}
use Rattle.acap_grammar.proofs.ListReads.{ReadsEach, one_more, no_more, first_of_some, some_read}

-- ---- what is given

strings_read : (texts seen : List (List ℕ)) (rest : List Token) → strings_at seen (each string texts (shut rest)) ≡ Ok (seen ++ texts, rest)
unfolding strings_at
strings_read [] seen rest = ap (λ (all : List (List ℕ)). Ok (all, rest)) (sym (append-nil seen))
strings_read (text ∷ texts) seen rest = strings_read texts (seen ++ text ∷ []) rest ∙ ap (λ (all : List (List ℕ)). Ok (all, rest)) (append_assoc seen (text ∷ []) texts)

given_reads : (g : Given) (rest : List Token) → given_at (given_tokens g rest) ≡ Ok (g, rest)
unfolding given_at plain_at string_at word_at starts
given_reads (given.Put cell.Nil) rest = refl
given_reads (given.Put (cell.Single text)) rest = refl
given_reads (given.Put (cell.Multi texts)) rest = rw (strings_read texts [] rest) refl
given_reads given.Default rest = refl

-- ---- what stood before

no_item_of : (attribute : List ℕ) (m : StoreMetadata) (seen : List StoreItem) → has_attribute attribute seen ≡ false → has_item attribute m seen ≡ false
unfolding has_attribute has_item
no_item_of attribute m [] h = refl
no_item_of attribute m (i ∷ seen) h =
    let p = or_parts _ _ h in
    or_from _ _ (and_left _ _ p.0) (no_item_of attribute m seen p.1)

no_second : (attribute : List ℕ) (m n : StoreMetadata) (g : Given) (seen : List StoreItem) → has_attribute attribute seen ≡ false → same_metadata m n ≡ false
    → has_item attribute n (seen ++ record { attribute = attribute; metadata = m; given = g } ∷ []) ≡ false
unfolding has_item
no_second attribute m n g seen h d = list_any-append _ seen _ ∙ or_from _ _ (no_item_of attribute n seen h) (or_from _ _ (and_right _ _ d) refl)

-- ---- the items of an attribute

gift_reads : (attribute : List ℕ) (seen : List StoreItem) (m : StoreMetadata) (g : Given) (rest : List Token) → has_item attribute m seen ≡ false
    → gift_at (record { attribute = attribute; items = seen }) (string (stored_name m) (given_tokens g rest)) ≡ Ok (record { attribute = attribute; items = seen ++ record { attribute = attribute; metadata = m; given = g } ∷ [] }, rest)
unfolding gift_at named_at string_at
gift_reads attribute seen metadata.Value g rest h = rw (h, given_reads g rest) refl
gift_reads attribute seen metadata.Acl g rest h = rw (h, given_reads g rest) refl

enclosed_gift : (i : StoreItem) (seen : List StoreItem) (rest : List Token) → has_attribute i.attribute seen ≡ false
    → gifts_at (record { attribute = i.attribute; items = seen }) (open_then (gift i (shut rest))) ≡ Ok (seen ++ i ∷ [], rest)
unfolding gifts_at in_parenthesis some_of several starts behind
enclosed_gift i seen rest h = rw (gift_reads i.attribute seen i.metadata i.given (shut rest) (no_item_of i.attribute i.metadata seen h)) refl

bare_gift : (i : StoreItem) (seen : List StoreItem) (rest : List Token) (m : StoreMetadata) (g : Given) → has_attribute i.attribute seen ≡ false → is_bare m g ≡ true
    → gifts_at (record { attribute = i.attribute; items = seen }) (given_tokens g rest) ≡ Ok (seen ++ record { attribute = i.attribute; metadata = m; given = g } ∷ [], rest)
unfolding gifts_at plain_at string_at word_at starts
bare_gift i seen rest metadata.Acl g h b = absurd cc
bare_gift i seen rest metadata.Value (given.Put cell.Nil) h b = refl
bare_gift i seen rest metadata.Value (given.Put (cell.Single text)) h b = refl
bare_gift i seen rest metadata.Value (given.Put (cell.Multi texts)) h b = absurd cc
bare_gift i seen rest metadata.Value given.Default h b = refl

gifts_read : (i : StoreItem) (seen : List StoreItem) (rest : List Token) → has_attribute i.attribute seen ≡ false
    → gifts_at (record { attribute = i.attribute; items = seen }) (one_gift i rest) ≡ Ok (seen ++ i ∷ [], rest)
gifts_read i seen rest h = by_form (is_bare i.metadata i.given) refl where
  by_form : (b : Bool) → is_bare i.metadata i.given ≡ b
      → gifts_at (record { attribute = i.attribute; items = seen }) (if b then given_tokens i.given rest else open_then (gift i (shut rest))) ≡ Ok (seen ++ i ∷ [], rest)
  by_form true e = bare_gift i seen rest i.metadata i.given h e
  by_form false e = enclosed_gift i seen rest h

one_item : (i : StoreItem) (seen : List StoreItem) (rest : List Token) → IsNew seen i → item_at seen (string i.attribute (one_gift i rest)) ≡ Ok (seen ++ i ∷ [], rest)
unfolding item_at named_at string_at
one_item i seen rest n = rw (n.0, n.1, gifts_read i seen rest n.1) refl

two_items : (i j : StoreItem) (seen : List StoreItem) (rest : List Token) → IsNew seen i → i.attribute ≡ j.attribute → same_metadata i.metadata j.metadata ≡ false
    → item_at seen (string i.attribute (open_then (gift i (gift j (shut rest))))) ≡ Ok (seen ++ i ∷ j ∷ [], rest)
unfolding item_at named_at string_at gifts_at in_parenthesis some_of several starts behind
two_items i j seen rest n same d =
    let second = no_second i.attribute i.metadata j.metadata i.given seen n.1 d in
    rw (
      n.0,
      n.1,
      gift_reads i.attribute seen i.metadata i.given (gift j (shut rest)) (no_item_of i.attribute i.metadata seen n.1),
      gift_reads i.attribute (seen ++ i ∷ []) j.metadata j.given (shut rest) second,
    )
    (ap (λ (all : List StoreItem). Ok (all, rest)) (append_assoc seen (i ∷ []) _)
    ∙ ap (λ (a : List ℕ). Ok (seen ++ i ∷ record { attribute = a; metadata = j.metadata; given = j.given } ∷ [], rest)) same)

-- ---- the items of an entry

abbrev AreRead : ℕ → List StoreItem → List StoreItem → List Token → Type 0
AreRead room seen xs rest = several (starts is_close) (starts is_string) item_at room seen (items xs (shut rest)) ≡ Ok (seen ++ xs, shut rest)

-- two items of one attribute, or one and the next
next_items : (b : Bool) (i j : StoreItem) (xs : List StoreItem) (room : ℕ) (seen : List StoreItem) (rest : List Token) → bytes_eq i.attribute j.attribute ≡ b → IsNew seen i
    → InCase b ((same_metadata i.metadata j.metadata ≡ false) × AreRead room (seen ++ i ∷ j ∷ []) xs rest) (AreRead room (seen ++ i ∷ []) (j ∷ xs) rest)
    → several (starts is_close) (starts is_string) item_at (suc room) seen
    (if b then string i.attribute (open_then (gift i (gift j (shut (items xs (shut rest)))))) else string i.attribute (one_gift i (items (j ∷ xs) (shut rest)))) ≡ Ok (seen ++ i ∷ j ∷ xs, shut rest)
unfolding starts
next_items true i j xs room seen rest e n h =
    one_more _ _ item_at room seen _ _ refl (two_items i j seen _ n ((bytes_eq-Decides i.attribute j.attribute).0 e) h.0)
    ∙ h.1 ∙ ap (λ (all : List StoreItem). Ok (all, shut rest)) (append_assoc seen (i ∷ j ∷ []) xs)
next_items false i j xs room seen rest e n h =
    one_more _ _ item_at room seen _ _ refl (one_item i seen _ n) ∙ h ∙ ap (λ (all : List StoreItem). Ok (all, shut rest)) (append_assoc seen (i ∷ []) (j ∷ xs))

in_case : (b : Bool) (A B C D : Type 0) → (A → C) → (B → D) → InCase b A B → InCase b C D
in_case true A B C D f g x = f x
in_case false A B C D f g x = g x

items_read : (xs : List StoreItem) (room : ℕ) (seen : List StoreItem) (rest : List Token) → AreItems room seen xs → AreRead room seen xs rest
unfolding starts
items_read [] room seen rest h = no_more _ _ item_at room seen _ refl ∙ ap (λ (all : List StoreItem). Ok (all, shut rest)) (sym (append-nil seen))
items_read (i ∷ xs) zero seen rest h = absurd h
items_read (i ∷ []) (suc room) seen rest h =
    one_more _ _ item_at room seen _ _ refl (one_item i seen (shut rest) h) ∙ no_more _ _ item_at room (seen ++ i ∷ []) _ refl
items_read (i ∷ j ∷ xs) (suc room) seen rest h =
    next_items (bytes_eq i.attribute j.attribute) i j xs room seen rest refl h.0
    (in_case _ _ _ ((same_metadata i.metadata j.metadata ≡ false) × AreRead room (seen ++ i ∷ j ∷ []) xs rest) _ (λ x. (x.0, items_read xs room (seen ++ i ∷ j ∷ []) rest x.1)) (λ x. items_read (j ∷ xs) room (seen ++ i ∷ []) rest x) h.1)

-- an attribute stands first
items_lead : (test : List Token → Bool) (b : Bool) → ((text : List ℕ) (rest : List Token) → test (string text rest) ≡ b) → (xs : List StoreItem) (rest : List Token) → 0 < length xs → test (items xs rest) ≡ b
items_lead test b h [] rest some = absurd (omega arith)
items_lead test b h (i ∷ []) rest some = h i.attribute _
items_lead test b h (i ∷ j ∷ xs) rest some = by_same (bytes_eq i.attribute j.attribute) where
  by_same : (c : Bool) → test (if c then string i.attribute (open_then (gift i (gift j (shut (items xs rest))))) else string i.attribute (one_gift i (items (j ∷ xs) rest))) ≡ b
  by_same true = h i.attribute _
  by_same false = h i.attribute _

entry_items : (xs : List StoreItem) (rest : List Token) → 0 < length xs → AreItems 256 [] xs → items_at (items xs (shut rest)) ≡ Ok (xs, shut rest)
unfolding items_at starts
entry_items xs rest some h = first_of_some _ _ item_at 255 [] _ (items_lead (starts is_close) false (λ text more. refl) xs (shut rest) some) ∙ items_read xs 256 [] rest h

-- ---- entries

conditions_read : (m : StoreModifiers) (rest : List Token) → IfSome m.unchanged_since IsMoment → no_condition rest ≡ true → conditions_at (conditions m rest) ≡ Ok (m, rest)
unfolding conditions_at several no_condition condition_at behind_condition named_at string_at word_at
conditions_read m rest h n = by_parts m.no_create m.unchanged_since h where
  by_parts : (stands : Bool) (since : Option ℤ) → IfSome since IsMoment
      → conditions_at (conditions (record { no_create = stands; unchanged_since = since }) rest) ≡ Ok (record { no_create = stands; unchanged_since = since }, rest)
  by_parts false None h = rw n refl
  by_parts true None h = rw n refl
  by_parts false (Some since) h = rw (time_law since h, n) refl
  by_parts true (Some since) h = rw (time_law since h, n) refl

string_first : (text : List ℕ) (more : List Token) → no_condition (string text more) ≡ true
unfolding no_condition word_at
string_first text more = refl

entry_reads : (seen : List StoreEntry) (e : StoreEntry) (rest : List Token) → IsEntry seen e → entry_at seen (entry e rest) ≡ Ok (seen ++ e ∷ [], rest)
unfolding entry_at behind path_at named_at string_at
entry_reads seen e rest h =
    let first = items_lead no_condition true string_first e.items (shut rest) h.some in
    rw (h.path, h.new, conditions_read e.modifiers (items e.items (shut rest)) h.since first, entry_items e.items rest h.some h.items) refl

are_entries : ReadsEach {X = StoreEntry} ends (λ ts. true) entry_at entry IsEntry
unfolding ends
are_entries = record { leads = λ e rest. refl; follows = λ e rest. refl; reads = λ seen e rest h n. entry_reads seen e rest h }

pub entries_read : (entries : List StoreEntry) → IsStore entries → entries_at (each entry entries []) ≡ Ok (entries, [])
unfolding entries_at ends
entries_read entries h = some_read are_entries (starts is_open) entries 255 [] refl refl h.0 h.1
