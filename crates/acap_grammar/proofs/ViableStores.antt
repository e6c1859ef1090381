-- What stands before a fault in the entries of a STORE goes on to all of them.
use Rattle.std.proofs.Common.{◌≡◌, ℕ, zero, suc, ◌+◌, ◌==◌, ◌<◌, ◌≤◌, Bool, true, false, map, List, [], ◌∷◌, ◌++◌, length, drop, codes, Result, Ok, Err, refl, sym, ap, ◌∙◌, length-append, arith, inr}
use Rattle.std.specs.Prelude.{if◌then◌else◌, slice_index, ◌&&◌, ◌||◌}
use Rattle.std.specs.List.{list_any, AllByRecursion}
use Rattle.std.specs.Cmp.Lexicographic.{bytes_decides}
use Rattle.std.proofs.lemmas.List.{length-map}
use Rattle.std.proofs.lemmas.Str.{IsUtf8-from_ascii}
use Rattle.std.proofs.lemmas.Bool.{eqb-false, eqb-true}
use Rattle.acap_commands.specs.EntryOrder as entry_order
use Rattle.acap_commands.specs.Modifiers as plain_modifiers
use Rattle.acap_commands.specs.declared.store.StoreEntry.{StoreEntry}
use Rattle.acap_commands.specs.declared.store.StoreItem.{StoreItem}
use Rattle.acap_commands.specs.declared.store.StoreModifiers.{StoreModifiers}
use Rattle.std.specs.Str.{IsAscii, bytes_eq}
use Rattle.acap_lexer.specs.Token.{Token}
use Rattle.acap_grammar.specs.Arguments as argument
use Rattle.acap_grammar.specs.Arguments.{named_at}
use Rattle.acap_grammar.specs.Marks as mark
use Rattle.acap_grammar.specs.Outcome.{◌>>=◌, Read}
use Rattle.acap_grammar.specs.Storing as storing
use Rattle.acap_entries.specs.declared.path.Path.{Path}
use Rattle.acap_grammar.specs.Formed.{IsComponent}
use Rattle.acap_grammar.proofs.FormedNames.{path_is_good}
use Rattle.acap_grammar.proofs.Looking.{ending}
use Rattle.acap_grammar.proofs.Mending.{any, Mends, Begun, Eats, Items, Always, Taking, begun_then, bind, eats_then, items, mended, none_begun, nothing_more, some_begun, some_eat, some_items, takes_one, value}
use Rattle.acap_grammar.proofs.ViableParts.{text, fresh_name, closing, a_closing, Whole, both, closed_after, opened, an_opened}
use Rattle.acap_grammar.proofs.ViableItems.{an_item, all_items, all_conditions}

-- ---- entries

-- a letter that doesn't stand first, and some that differ in turn from what stands at a place of some names and at those after it
letter : List ℕ → ℕ
letter [] = 97
letter (x ∷ name) = if x == 97 then 98 else 97

unlike : ℕ → List (List ℕ) → List ℕ
unlike i [] = []
unlike i (name ∷ names) = letter (drop i name) ∷ unlike (suc i) names

not_letter : (xs rest : List ℕ) → xs ≡ letter xs ∷ rest → ⊥
unfolding letter
not_letter [] rest e = cc (e)
not_letter (x ∷ xs) rest e = by_test (x == 97) refl (let first : x ≡ (if x == 97 then 98 else 97) = cc (e) in first) where
  by_test : (b : Bool) → (x == 97) ≡ b → x ≡ (if b then 98 else 97) → ⊥
  by_test true n same = let is : x ≡ 97 = eqb-true x 97 n in omega (arith, is, same)
  by_test false n same = eqb-false x 97 n same

drop_one : (i : ℕ) (xs : List ℕ) → drop 1 (drop i xs) ≡ drop (suc i) xs
drop_one zero [] = refl
drop_one zero (x ∷ xs) = refl
drop_one (suc i) [] = refl
drop_one (suc i) (x ∷ xs) = drop_one i xs

abbrev entry_names : List StoreEntry → List (List ℕ)
entry_names seen = map (λ e. e.path.name) seen

not_among : (i : ℕ) (seen : List StoreEntry) (dataset name : List ℕ) → drop i name ≡ unlike i (entry_names seen) → list_any (λ (e : StoreEntry). bytes_eq e.path.dataset dataset && bytes_eq e.path.name name) seen ≡ false
unfolding unlike
not_among i [] dataset name e = refl
not_among i (s ∷ seen) dataset name e =
    let further : drop (suc i) name ≡ unlike (suc i) (entry_names seen) = sym (drop_one i name) ∙ ap (drop 1) e in
    by_same (bytes_eq s.path.dataset dataset) (bytes_eq s.path.name name) refl (not_among (suc i) seen dataset name further)
  where
    by_same : (c d : Bool) → bytes_eq s.path.name name ≡ d → list_any (λ (x : StoreEntry). bytes_eq x.path.dataset dataset && bytes_eq x.path.name name) seen ≡ false
        → (c && d) || list_any (λ (x : StoreEntry). bytes_eq x.path.dataset dataset && bytes_eq x.path.name name) seen ≡ false
    by_same false d q none = none
    by_same true false q none = none
    by_same true true q none =
        let same : s.path.name ≡ name = (bytes_decides s.path.name name).0 q in
        absurd (not_letter (drop i s.path.name) (unlike (suc i) (entry_names seen)) (ap (drop i) same ∙ e))

many : (i : ℕ) (names : List (List ℕ)) → length (unlike i names) ≡ length names
unfolding unlike
many i [] = refl
many i (name ∷ names) = ap suc (many (suc i) names)

letter_is : (P : ℕ → Type 0) → P 97 → P 98 → (xs : List ℕ) → P (letter xs)
unfolding letter
letter_is P a b [] = a
letter_is P a b (x ∷ xs) = by_test (x == 97) where
  by_test : (c : Bool) → P (if c then 98 else 97)
  by_test true = b
  by_test false = a

all_of : (P : ℕ → Type 0) → P 97 → P 98 → (i : ℕ) (names : List (List ℕ)) → AllByRecursion P (unlike i names)
unfolding unlike
all_of P a b i [] = tt
all_of P a b i (name ∷ names) = (letter_is P a b (drop i name), all_of P a b (suc i) names)

abbrev fresh_entry : List StoreEntry → List ℕ
fresh_entry seen = 97 ∷ unlike 1 (entry_names seen)

ascii : (i : ℕ) (names : List (List ℕ)) (k : ℕ) → slice_index (unlike i names) k < 128
unfolding unlike
ascii i [] k = omega arith
ascii i (name ∷ names) zero = letter_is (λ c. c < 128) (omega arith) (omega arith) (drop i name)
ascii i (name ∷ names) (suc k) = ascii (suc i) names k

fresh_ascii : (seen : List StoreEntry) → IsAscii (fresh_entry seen)
fresh_ascii seen zero = omega arith
fresh_ascii seen (suc k) = ascii 1 (entry_names seen) k

differs : (n : ℕ) → (97 ≡ n → ⊥) → (98 ≡ n → ⊥) → (seen : List StoreEntry) → AllByRecursion (λ c. c ≡ n → ⊥) (fresh_entry seen)
differs n a b seen = (a, all_of (λ c. c ≡ n → ⊥) a b 1 (entry_names seen))

fresh_component : (seen : List StoreEntry) → IsComponent (fresh_entry seen)
fresh_component seen = record {
  some = omega arith;
  utf8 = IsUtf8-from_ascii (fresh_entry seen) (fresh_ascii seen);
  no_nul = differs 0 (λ e. cc (e)) (λ e. cc (e)) seen;
  no_slash = differs 47 (λ e. cc (e)) (λ e. cc (e)) seen;
  no_dot = λ e. cc (e);
}

abbrev fresh_path : List StoreEntry → Path
fresh_path seen = record { dataset = codes "/"; name = fresh_entry seen }

path_read : (seen : List StoreEntry) → length seen ≤ 256 → argument.path_named (codes "/" ++ fresh_entry seen) ≡ Ok (fresh_path seen)
path_read seen few =
    path_is_good (codes "/") (fresh_entry seen) [] (record { each = tt; whole = refl }) (inr (fresh_component seen, omega arith))
    (let count : length (entry_names seen) ≡ length seen = length-map seen (λ (e : StoreEntry). e.path.name) in omega (arith, many 1 (entry_names seen), count, few))

path_new : (seen : List StoreEntry) → entry_order.has_path (fresh_path seen) seen ≡ false
unfolding entry_order.has_path
path_new seen = not_among 1 seen (codes "/") (fresh_entry seen) refl

new_path : (seen : List StoreEntry) → Taking (storing.path_at seen) any
unfolding storing.path_at
new_path seen = fresh_name argument.path_named (λ p. entry_order.has_path p seen) (λ p ts. Ok (p, ts)) any (λ p s. value any p) (λ p s. nothing_more any p)

a_path : (seen : List StoreEntry) → length seen ≤ 256 → Begun (storing.path_at seen) any any
unfolding storing.path_at named_at mark.string_at
a_path seen few = record { more = text (codes "/" ++ fresh_entry seen) ∷ []; value = fresh_path seen; is = λ rest h. rw (path_read seen few, path_new seen) refl; start = λ rest h. refl }

-- what is read after a part that must be followed so
pub seamed : {A B : Type 0} (read : List Token → Read A) (f : A × List Token → Read B) (first : List Token → Bool) → Mends read first → Begun read first any → ((x : A) → Mends (λ ts. f (x, ts)) any)
    → ((x : A) → Begun (λ ts. f (x, ts)) any first) → ((x : A) → Eats (λ ts. f (x, ts))) → Whole (λ ts. read ts >>= f) any
seamed read f first p b q anew eats = record { mends = bind read f first any p q anew (λ x. inr (eats x)); begun = begun_then read f first any any b anew }

conditions : Mends storing.conditions_at storing.no_condition
unfolding storing.conditions_at
conditions = items storing.no_condition storing.no_condition any storing.condition_at Always all_conditions 3 plain_modifiers.unconditional tt

no_conditions : Begun storing.conditions_at storing.no_condition any
unfolding storing.conditions_at
no_conditions = none_begun storing.no_condition storing.no_condition any storing.condition_at 3 plain_modifiers.unconditional (λ rest h. refl)

store_items : Mends storing.items_at (mark.starts mark.is_close)
unfolding storing.items_at
store_items = some_items (mark.starts mark.is_close) (mark.starts mark.is_string) any storing.item_at Always all_items 256 [] tt

items_eat : Eats storing.items_at
unfolding storing.items_at
items_eat = some_eat (mark.starts mark.is_close) (mark.starts mark.is_string) any storing.item_at Always all_items 256 [] tt

an_items : (begin : List Token → Bool) → ((rest : List Token) → begin (text (codes "a") ∷ rest) ≡ true) → Begun storing.items_at (mark.starts mark.is_close) begin
unfolding storing.items_at
an_items begin b = some_begun (mark.starts mark.is_close) (mark.starts mark.is_string) any begin storing.item_at Always all_items 256 [] (an_item begin b)

abbrev entry_of : List StoreEntry → Path → StoreModifiers → List StoreItem → List StoreEntry
entry_of seen p m i = seen ++ record { path = p; modifiers = m; items = i } ∷ []

abbrev items_closed : List StoreEntry → Path → StoreModifiers → List Token → Read (List StoreEntry)
items_closed seen p m ts = storing.items_at ts >>= λ i. mark.behind mark.is_close i.1 >>= λ left. Ok (entry_of seen p m i.0, left)

items_closed_whole : (seen : List StoreEntry) (p : Path) (m : StoreModifiers) → Whole (items_closed seen p m) any
items_closed_whole seen p m = closed_after storing.items_at (λ i. entry_of seen p m i) store_items (an_items any (λ rest. refl))

items_closed_begun : (seen : List StoreEntry) (p : Path) (m : StoreModifiers) → Begun (items_closed seen p m) any storing.no_condition
unfolding mark.starts storing.no_condition mark.word_at
items_closed_begun seen p m =
    begun_then storing.items_at (λ i. mark.behind mark.is_close i.1 >>= λ left. Ok (entry_of seen p m i.0, left)) (mark.starts mark.is_close) any storing.no_condition
    (an_items storing.no_condition (λ rest. refl)) (λ i. a_closing (entry_of seen p m i) (mark.starts mark.is_close) (λ rest. refl))

items_closed_eat : (seen : List StoreEntry) (p : Path) (m : StoreModifiers) → Eats (items_closed seen p m)
items_closed_eat seen p m =
    eats_then storing.items_at (λ i. mark.behind mark.is_close i.1 >>= λ left. Ok (entry_of seen p m i.0, left)) (mark.starts mark.is_close) any items_eat store_items (λ i. mended _ any (closing (entry_of seen p m i)))

abbrev conditions_closed : List StoreEntry → Path → List Token → Read (List StoreEntry)
conditions_closed seen p ts = storing.conditions_at ts >>= λ m. items_closed seen p m.0 m.1

conditions_closed_whole : (seen : List StoreEntry) (p : Path) → Whole (conditions_closed seen p) any
conditions_closed_whole seen p =
    seamed storing.conditions_at (λ m. items_closed seen p m.0 m.1) storing.no_condition conditions no_conditions (λ m. (items_closed_whole seen p m).mends) (λ m. items_closed_begun seen p m) (λ m. items_closed_eat seen p m)

in_entry : (seen : List StoreEntry) → length seen ≤ 256 → Whole (λ inside. storing.path_at seen inside >>= λ p. conditions_closed seen p.0 p.1) any
in_entry seen few = both (storing.path_at seen) (λ p. conditions_closed seen p.0 p.1) any (mended _ any (new_path seen)) (a_path seen few) (λ p. conditions_closed_whole seen p)

store_entry : (seen : List StoreEntry) → length seen ≤ 256 → Taking (storing.entry_at seen) any
unfolding storing.entry_at
store_entry seen few = opened _ (in_entry seen few)

an_entry : Begun (storing.entry_at []) any any
unfolding storing.entry_at
an_entry = an_opened _ (in_entry [] (omega arith))

-- an entry that is read is one more
grown : {Z A E : Type 0} (P : A → Type 0) (r : Result Z E) (f : Z → Result (A × List Token) E) → ((z : Z) (x : A) (left : List Token) → f z ≡ Ok (x, left) → P x) → (x : A) (left : List Token) → (r >>= f) ≡ Ok (x, left) → P x
grown P (Ok z) f h x left e = h z x left e
grown P (Err d) f h x left e = absurd cc

one_more : (seen : List StoreEntry) (tokens : List Token) (x : List StoreEntry) (left : List Token) → storing.entry_at seen tokens ≡ Ok (x, left) → length x ≡ length seen + 1
unfolding storing.entry_at
one_more seen tokens =
    grown more (mark.behind mark.is_open tokens) _ (λ inside. grown more (storing.path_at seen inside) _ (λ p. grown more (storing.conditions_at p.1) _ (λ m. grown more (storing.items_at m.1) _ (λ i. grown more (mark.behind mark.is_close i.1) _ (λ l x left e. at_last p.0 m.0 i.0 l x left e)))))
  where
    more : List StoreEntry → Type 0
    more x = length x ≡ length seen + 1

    at_last : (p : Path) (m : StoreModifiers) (i : List StoreItem) (l : List Token) (x : List StoreEntry) (left : List Token) → ◌≡◌ {A = Read (List StoreEntry)} (Ok (entry_of seen p m i, l)) (Ok (x, left)) → length x ≡ length seen + 1
    at_last p m i l x left e =
        let pair : ◌≡◌ {A = List StoreEntry × List Token} (entry_of seen p m i, l) (x, left) = cc in
        let same : entry_of seen p m i ≡ x = ap (λ (z : List StoreEntry × List Token). z.0) pair in
        omega (arith, ap (λ (z : List StoreEntry). length z) same, length-append seen (record { path = p; modifiers = m; items = i } ∷ []))

abbrev Room : ℕ → List StoreEntry → Type 0
Room room seen = length seen + room ≤ 256

all_entries : Items mark.ends any storing.entry_at Room
all_entries = record {
  glance = ending;
  next = λ rest h. refl;
  some = ([], refl);
  mends = λ room seen fit. mended _ any (store_entry seen (omega (arith, fit)));
  keeps = λ room seen fit tokens x left e. omega (arith, fit, one_more seen tokens x left e);
  eats = λ room seen fit. takes_one _ any (store_entry seen (omega (arith, fit)));
}

pub entries : Mends storing.entries_at mark.ends
unfolding storing.entries_at
entries = some_items mark.ends (mark.starts mark.is_open) any storing.entry_at Room all_entries 256 [] (omega arith)

pub an_entries : Begun storing.entries_at mark.ends any
unfolding storing.entries_at
an_entries = some_begun mark.ends (mark.starts mark.is_open) any any storing.entry_at Room all_entries 256 [] an_entry
