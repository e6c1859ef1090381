-- Entries in the order of their paths: what is found among them, and what one entry more brings.
use Rattle.std.proofs.Common.{◌≡◌, ℕ, zero, suc, ◌<◌, Bool, true, false, cond, T, List, [], ◌∷◌, ◌++◌, length, map, take, drop, get_or, Option, Some, None, refl, sym, ap, subst, ◌∙◌, arith, ◌&&◌, ◌||◌}
use Rattle.std.specs.Prelude.{is_some}
use Rattle.std.specs.List.{All, list_any, insert}
use Rattle.std.specs.Option.{option_map_or}
use Rattle.std.specs.declared.cmp.Ordering.{Ordering}
use Rattle.std.specs.declared.cmp.Ordering.TheVariants.{Less, Equal, Greater}
use Rattle.std.specs.Ordering.{eq_by_cmp, is_eq, ordering_reverse}
use Rattle.std.specs.FinMap.Entries.{find, find-put, find_tied, is_sorted-put, is_some-find}
use Rattle.std.specs.Str.{bytes_eq}
use Rattle.std.proofs.lemmas.List.{length-map, get_or-map, map-append, take-map, drop-map, length_push}
use Rattle.std.proofs.lemmas.List.Elements.{All-nil, All-cons, All-head, All-tail, All-take, All-drop, All-append, All-weaker, All-get_or}
use Rattle.std.proofs.lemmas.List.Folds.{list_any_none}
use Rattle.std.proofs.lemmas.Map.Text.{is_eq-slice_cmp}
use Rattle.std.proofs.lemmas.Option.{slice_get-get_or}
use Rattle.std.proofs.Math.Bool.{or-true}
use Rattle.acap_entries.specs.Orders.{octets_cmp}
use Rattle.acap_ordmap.specs.Sorted.{place, is_tied, put_in, found, InOrder}
use Rattle.acap_entries.specs.Store.{path_cmp}
use Rattle.acap_entries.specs.declared.path.Path.{Path}
use Rattle.acap_ordmap.proofs.SortedLemmas.{put_in_absent, found_absent, found_tied}
use Rattle.acap_entries.proofs.StoreLemmas.{path_cmp_total}
use Rattle.acap_ordmap.proofs.Logic.{true_from_T, is_eq-then, is_eq-reverse}
use Rattle.acap_commands.specs.EntryOrder.{path_at, places_by_path, Orders}
use Rattle.acap_commands.specs.EntryOrder.{has_path}
use Rattle.acap_commands.specs.declared.store.StoreEntry.{StoreEntry}

-- ---- the path at a place

path_there : (entries : List StoreEntry) (i : ℕ) (d : StoreEntry) → i < length entries → path_at entries i ≡ (get_or entries i d).path
path_there entries i d h = ap (λ o. option_map_or (λ (e : StoreEntry). e.path) o (record { dataset = []; name = [] })) (slice_get-get_or entries i d h)

keyed_at : (entries : List StoreEntry) (places : List ℕ) (m i : ℕ) (d : Path × ℕ) → m < length places → get_or (places_by_path entries places) m d ≡ (path_at entries (get_or places m i), get_or places m i)
keyed_at entries places m i d h = get_or-map (λ i. (path_at entries i, i)) places m i d h

key_there : (entries : List StoreEntry) (places : List ℕ) (m i : ℕ) (e : StoreEntry) (d : Path × ℕ) → Orders places entries → m < length places → i ≡ get_or places m i → (get_or (places_by_path entries places) m d).0 ≡ (get_or entries i e).path
key_there entries places m i e d orders h at =
    let within : i < length entries = subst (λ n. n < length entries) (sym at) (All-get_or (λ n. n < length entries) places m i h orders.within) in
    ap (λ t. t.0) (keyed_at entries places m i d h) ∙ ap (path_at entries) (sym at) ∙ path_there entries i e within

-- what a comparison with the entry at a place says of the key there
pub met_at : (entries : List StoreEntry) (places : List ℕ) (path : Path) (m i : ℕ) (e : StoreEntry) (o : Ordering) → Orders places entries → m < length places → i ≡ get_or places m i → path_cmp path (get_or entries i e).path ≡ o → path_cmp path (get_or (places_by_path entries places) m (path, 0)).0 ≡ o
met_at entries places path m i e o orders h at met = ap (path_cmp path) (key_there entries places m i e (path, 0) orders h at) ∙ met

pub keyed_len : (entries : List StoreEntry) (places : List ℕ) → length (places_by_path entries places) ≡ length places
keyed_len entries places = length-map places (λ i. (path_at entries i, i))

-- ---- what is found

turned_tie : (p q : Path) → eq_by_cmp path_cmp p q ≡ eq_by_cmp path_cmp q p
turned_tie p q = ap is_eq (path_cmp_total.antisymm p q) ∙ is_eq-reverse (path_cmp q p)

is_own_reverse : (o : Ordering) → o ≡ ordering_reverse o → is_eq o ≡ true
is_own_reverse Less e = cc
is_own_reverse Equal e = refl
is_own_reverse Greater e = cc

ties_itself : (p : Path) → eq_by_cmp path_cmp p p ≡ true
ties_itself p = is_own_reverse (path_cmp p p) (path_cmp_total.antisymm p p)

path_tie : (p q : Path) → eq_by_cmp path_cmp p q ≡ (bytes_eq p.dataset q.dataset && bytes_eq p.name q.name)
path_tie p q =
    is_eq-then (octets_cmp p.dataset q.dataset) (octets_cmp p.name q.name)
    ∙ ap (λ b. b && is_eq (octets_cmp p.name q.name)) (is_eq-slice_cmp p.dataset q.dataset)
    ∙ ap (λ b. bytes_eq p.dataset q.dataset && b) (is_eq-slice_cmp p.name q.name)

-- the path is an entry's
abbrev has_tie : Path → List StoreEntry → Bool
has_tie path entries = list_any (λ e. eq_by_cmp path_cmp path e.path) entries

has_by_tie : (path : Path) (entries : List StoreEntry) → has_path path entries ≡ has_tie path entries
unfolding has_path
has_by_tie path [] = refl
has_by_tie path (e ∷ entries) =
    ap (λ b. b || list_any (λ (x : StoreEntry). bytes_eq x.path.dataset path.dataset && bytes_eq x.path.name path.name) entries) (sym (path_tie e.path path) ∙ turned_tie e.path path)
    ∙ ap (λ b. eq_by_cmp path_cmp path e.path || b) (has_by_tie path entries)

has_there : (path : Path) (entries : List StoreEntry) (i : ℕ) → i < length entries → eq_by_cmp path_cmp path (path_at entries i) ≡ true → has_tie path entries ≡ true
has_there path [] i h t = absurd (omega (arith, h))
has_there path (e ∷ entries) zero h t = ap (λ b. b || has_tie path entries) t
has_there path (e ∷ entries) (suc i) h t = ap (λ b. eq_by_cmp path_cmp path e.path || b) (has_there path entries i (omega (arith, h)) t) ∙ or-true _

-- a path that is found stands at the place of an entry
stands : (entries : List StoreEntry) (path : Path) (places : List ℕ) → All (λ i. i < length entries) places → list_any (eq_by_cmp path_cmp path) (map (λ x. x.0) (places_by_path entries places)) ≡ true → has_tie path entries ≡ true
stands entries path [] w h = cc
stands entries path (i ∷ places) w h = elim (eq_by_cmp path_cmp path (path_at entries i)) as (λ b. eq_by_cmp path_cmp path (path_at entries i) ≡ b → (b || list_any (eq_by_cmp path_cmp path) (map (λ x. x.0) (places_by_path entries places))) ≡ true → has_tie path entries ≡ true) [
  | true ↦ λ t h. has_there path entries i (All-head (λ i. i < length entries) i places w) t
  | false ↦ λ t h. stands entries path places (All-tail (λ i. i < length entries) i places w) h
] refl h

found_is : (path : Path) (keys : List (Path × ℕ)) → is_some (found path_cmp path keys) ≡ list_any (eq_by_cmp path_cmp path) (map (λ x. x.0) keys)
unfolding found
found_is path keys = is_some-find path_cmp path keys

no_tie : (path : Path) (keys : List (Path × ℕ)) (e : StoreEntry) → found path_cmp path keys ≡ None → is_some (found path_cmp e.path keys) ≡ true → eq_by_cmp path_cmp path e.path ≡ false
unfolding found
no_tie path keys e none some = elim (path_cmp path e.path) as (λ o. path_cmp path e.path ≡ o → is_eq o ≡ false) [
  | Less ↦ λ p. refl
  | Equal ↦ λ p. let same : find path_cmp e.path keys ≡ None = find_tied path_cmp path_cmp_total path e.path p keys ∙ none in cc
  | Greater ↦ λ p. refl
] refl

-- a path ties with a key where it is an entry's
pub tied_has : (entries : List StoreEntry) (places : List ℕ) (path : Path) → Orders places entries → is_tied path_cmp path (places_by_path entries places) ≡ has_path path entries
tied_has entries places path orders =
    let keys = places_by_path entries places in
    elim (is_tied path_cmp path keys) as (λ b. is_tied path_cmp path keys ≡ b → b ≡ has_path path entries) [
      | true ↦ λ t. sym (has_by_tie path entries ∙ stands entries path places orders.within (sym (found_is path keys) ∙ ap is_some (found_tied path_cmp path_cmp_total path keys (path, 0) orders.rises t)))
      | false ↦ λ t. sym (has_by_tie path entries ∙ list_any_none _ entries (All-weaker _ _ (λ e some. no_tie path keys e (found_absent path_cmp path_cmp_total path keys orders.rises t) some) entries orders.whole))
    ] refl

-- ---- one entry more

path_kept : (entries : List StoreEntry) (next : StoreEntry) (i : ℕ) → i < length entries → path_at (entries ++ next ∷ []) i ≡ path_at entries i
path_kept [] next i h = absurd (omega (arith, h))
path_kept (e ∷ entries) next zero h = refl
path_kept (e ∷ entries) next (suc i) h = path_kept entries next i (omega (arith, h))

path_next : (entries : List StoreEntry) (next : StoreEntry) → path_at (entries ++ next ∷ []) (length entries) ≡ next.path
path_next [] next = refl
path_next (e ∷ entries) next = path_next entries next

keyed_kept : (entries : List StoreEntry) (next : StoreEntry) (places : List ℕ) → All (λ i. i < length entries) places → places_by_path (entries ++ next ∷ []) places ≡ places_by_path entries places
keyed_kept entries next [] w = refl
keyed_kept entries next (i ∷ places) w =
    ap (λ p. (p, i) ∷ places_by_path (entries ++ next ∷ []) places) (path_kept entries next i (All-head (λ i. i < length entries) i places w))
    ∙ ap (λ t. (path_at entries i, i) ∷ t) (keyed_kept entries next places (All-tail (λ i. i < length entries) i places w))

keyed_insert : (entries : List StoreEntry) (places : List ℕ) (at i : ℕ) → places_by_path entries (insert places at i) ≡ insert (places_by_path entries places) at (path_at entries i, i)
keyed_insert entries places at i =
    let f : ℕ → Path × ℕ = λ i. (path_at entries i, i) in
    map-append f (take at places) (i ∷ drop at places)
    ∙ ap (λ t. t ++ f i ∷ map f (drop at places)) (sym (take-map f at places))
    ∙ ap (λ t. take at (map f places) ++ f i ∷ t) (sym (drop-map f at places))

abbrev inside : List StoreEntry → ℕ → Type 0
inside entries i = i < length entries

abbrev is_there : List (Path × ℕ) → StoreEntry → Type 0
is_there keys e = is_some (found path_cmp e.path keys) ≡ true

within_more : (entries : List StoreEntry) (next : StoreEntry) (places : List ℕ) → All (λ i. i < length entries) places → All (λ i. i < length (entries ++ next ∷ [])) places
within_more entries next places w = All-weaker (inside entries) (inside (entries ++ next ∷ [])) (λ i h. omega (arith, h, length_push entries next)) places w

rises_more : (keys : List (Path × ℕ)) (path : Path) (i : ℕ) → InOrder path_cmp keys → InOrder path_cmp (put_in path_cmp path i keys)
unfolding put_in
rises_more keys path i o = record { rises = true_from_T _ (is_sorted-put path_cmp path_cmp_total path i keys (subst T (sym o.rises) tt)) }

found_more : (keys : List (Path × ℕ)) (path : Path) (i : ℕ) (q : Path) → found path_cmp q (put_in path_cmp path i keys) ≡ cond (eq_by_cmp path_cmp q path) (Some i) (found path_cmp q keys)
unfolding found put_in
found_more keys path i q = find-put path_cmp path_cmp_total q path i keys

still_some : (b : Bool) (i : ℕ) (o : Option ℕ) → is_some o ≡ true → is_some (cond b (Some i) o) ≡ true
still_some true i o h = refl
still_some false i o h = h

-- an entry whose path is new comes to its place
pub orders_new : (entries : List StoreEntry) (places : List ℕ) (next : StoreEntry) → Orders places entries → is_tied path_cmp next.path (places_by_path entries places) ≡ false → Orders (insert places (place path_cmp next.path (places_by_path entries places)) (length entries)) (entries ++ next ∷ [])
orders_new entries places next orders new =
    let n = length entries in
    let keys = places_by_path entries places in
    let at = place path_cmp next.path keys in
    let now : places_by_path (entries ++ next ∷ []) (insert places at n) ≡ put_in path_cmp next.path n keys =
    keyed_insert (entries ++ next ∷ []) places at n
    ∙ ap (λ t. insert t at (path_at (entries ++ next ∷ []) n, n)) (keyed_kept entries next places orders.within)
    ∙ ap (λ p. insert keys at (p, n)) (path_next entries next)
    ∙ sym (put_in_absent path_cmp next.path n keys new) in
    let within = within_more entries next places orders.within in
    let there = found_more keys next.path n in
    let test = inside (entries ++ next ∷ []) in
    record {
      within = All-append test (take at places) (n ∷ drop at places) (All-take test at places within) (All-cons test n (drop at places) (omega (arith, length_push entries next)) (All-drop test at places within));
      rises = rw now (rises_more keys next.path n orders.rises);
      whole = rw now (All-append (is_there (put_in path_cmp next.path n keys)) entries (next ∷ [])
          (All-weaker (is_there keys) (is_there (put_in path_cmp next.path n keys)) (λ e some. ap is_some (there e.path) ∙ still_some _ n _ some) entries orders.whole)
          (All-cons (is_there (put_in path_cmp next.path n keys)) next [] (ap is_some (there next.path) ∙ ap (λ b. is_some (cond b (Some n) (found path_cmp next.path keys))) (ties_itself next.path)) (All-nil (is_there (put_in path_cmp next.path n keys)))));
    }

-- an entry whose path is there leaves the places as they are
pub orders_same : (entries : List StoreEntry) (places : List ℕ) (next : StoreEntry) → Orders places entries → is_tied path_cmp next.path (places_by_path entries places) ≡ true → Orders places (entries ++ next ∷ [])
orders_same entries places next orders tied =
    let keys = places_by_path entries places in
    let now = keyed_kept entries next places orders.within in
    record {
      within = within_more entries next places orders.within;
      rises = rw now orders.rises;
      whole = rw now (All-append (is_there keys) entries (next ∷ []) orders.whole (All-cons (is_there keys) next [] (ap is_some (found_tied path_cmp path_cmp_total next.path keys (next.path, 0) orders.rises tied)) (All-nil (is_there keys))));
    }
