-- What stands twice, sought from the last entry on.
use Rattle.std.proofs.Common.{◌≡◌, ℕ, zero, suc, ◌<◌, ◌+◌, length, take, drop, get_or, not, arith, Bool, true, false, T, subst, ◌||◌, List, [], ◌∷◌, ◌++◌, map, Some, refl, sym, ap, ◌∙◌}
use Rattle.std.proofs.lemmas.List.Folds.{list_any-append}
use Rattle.std.specs.List.{list_any, slice_get}
use Rattle.std.specs.Ordering.{is_eq}
use Rattle.std.specs.declared.cmp.Ordering.TheVariants.{Less}
use Rattle.std.specs.FinMap.Entries.{below_all}
use Rattle.std.proofs.Math.Bool.{or-true, or-false}
use Rattle.acap_entries.specs.Store.{path_cmp}
use Rattle.acap_entries.specs.declared.path.Path.{Path}
use Rattle.acap_entries.proofs.StoreLemmas.{path_cmp_total}
use Rattle.acap_ordmap.proofs.SortedLemmas.{rises_behind}
use Rattle.acap_ordmap.proofs.Logic.{or_regrouped, or_crossed, first_T, second_T, Less_from_T, same_from_both}
use Rattle.acap_commands.specs.EntryOrder.{has_path}
use Rattle.acap_commands.specs.declared.store.StoreEntry.{StoreEntry}
use Rattle.acap_store.specs.Refusing.{same_path, has_twice}
use Rattle.acap_store.specs.Rising.{with_path, rising}
use Rattle.acap_store.proofs.DatasetLemmas.{paths_same, paths_refl}
use Rattle.acap_store.proofs.StoreLaws.{path_tie}

turned : (p q : Path) → same_path p q ≡ same_path q p
turned p q = same_from_both _ _ (λ e. paths_refl q p (sym (paths_same p q e))) (λ e. paths_refl p q (sym (paths_same q p e)))

any_last : (test : StoreEntry → Bool) (xs : List StoreEntry) (e : StoreEntry) → list_any test (xs ++ e ∷ []) ≡ (list_any test xs || test e)
any_last test [] e = or-false (test e)
any_last test (x ∷ xs) e = ap (λ b. test x || b) (any_last test xs e) ∙ or_regrouped (test x) (list_any test xs) (test e)

-- of entries and one more, two have one path where two of them have, or one of them has the path of that
twice_more : (entries : List StoreEntry) (e : StoreEntry) → has_twice (entries ++ e ∷ []) ≡ (has_twice entries || has_path e.path entries)
unfolding has_path
twice_more [] e = refl
twice_more (x ∷ entries) e =
    let a = list_any (λ other. same_path other.path x.path) entries in
    ap (λ b. b || has_twice (entries ++ e ∷ [])) (any_last (λ other. same_path other.path x.path) entries e)
    ∙ ap (λ b. (a || same_path e.path x.path) || b) (twice_more entries e)
    ∙ or_crossed a (same_path e.path x.path) (has_twice entries) (has_path e.path entries)
    ∙ ap (λ b. (a || has_twice entries) || (b || has_path e.path entries)) (turned e.path x.path)

pub once_more : (entries : List StoreEntry) (e : StoreEntry) → has_twice entries ≡ false → has_path e.path entries ≡ false → has_twice (entries ++ e ∷ []) ≡ false
once_more entries e once new = twice_more entries e ∙ ap (λ b. b || has_path e.path entries) once ∙ new

any_front : (test : StoreEntry → Bool) (xs ys : List StoreEntry) → list_any test xs ≡ true → list_any test (xs ++ ys) ≡ true
any_front test xs ys h = list_any-append test xs ys ∙ ap (λ b. b || list_any test ys) h

either : (a h b k : Bool) → (a ≡ true → b ≡ true) → (h ≡ true → k ≡ true) → (a || h) ≡ true → (b || k) ≡ true
either true h b k f g e = ap (λ x. x || k) (f refl)
either false h b k f g e = ap (λ x. b || x) (g e) ∙ or-true b

twice_front : (xs ys : List StoreEntry) → has_twice xs ≡ true → has_twice (xs ++ ys) ≡ true
twice_front [] ys h = cc
twice_front (x ∷ xs) ys h = either _ _ _ _ (any_front (λ other. same_path other.path x.path) xs ys) (twice_front xs ys) h

-- an entry whose path is that of one before it
pub twice_at : (front back : List StoreEntry) (e : StoreEntry) → has_path e.path front ≡ true → has_twice ((front ++ e ∷ []) ++ back) ≡ true
twice_at front back e there = twice_front (front ++ e ∷ []) back (twice_more front e ∙ ap (λ b. has_twice front || b) there ∙ or-true (has_twice front))

one_longer : (entries : List StoreEntry) (at : ℕ) (e : StoreEntry) → at < length entries → e ≡ get_or (drop at entries) 0 e → take (suc at) entries ≡ take at entries ++ e ∷ []
one_longer [] at e h is = absurd (omega (arith, h))
one_longer (x ∷ entries) zero e h is = ap (λ y. y ∷ []) (sym is)
one_longer (x ∷ entries) (suc at) e h is = ap (λ t. x ∷ t) (one_longer entries at e (omega (arith, h)) is)

-- one entry more of the front of a list
pub taken : (entries : List StoreEntry) (at : ℕ) (e : StoreEntry) → at < length entries → e ≡ get_or (drop at entries) 0 e → take (at + 1) entries ≡ take at entries ++ e ∷ []
taken entries at e h is = let next : at + 1 ≡ suc at = omega arith in ap (λ n. take n entries) next ∙ one_longer entries at e h is

pub not_true : (b : Bool) → true ≡ not b → b ≡ false
not_true true e = cc
not_true false e = refl

pub not_false : (b : Bool) → false ≡ not b → b ≡ true
not_false true e = refl
not_false false e = cc

-- a path that is less than another is another
less_apart : (p q : Path) → path_cmp p q ≡ Less → same_path q p ≡ false
less_apart p q h = turned q p ∙ sym (path_tie p q) ∙ ap is_eq h

none_same : (p : Path) (entries : List StoreEntry) → T (below_all path_cmp p (map with_path entries)) → list_any (λ other. same_path other.path p) entries ≡ false
none_same p [] h = refl
none_same p (e ∷ entries) h = ap (λ b. b || list_any (λ other. same_path other.path p) entries) (less_apart p e.path (Less_from_T _ (first_T _ _ h))) ∙ none_same p entries (second_T _ _ h)

-- no path stands twice among those that ascend
once_each : (entries : List StoreEntry) → T (rising entries) → has_twice entries ≡ false
once_each [] h = refl
once_each (e ∷ entries) h = ap (λ b. b || has_twice entries) (none_same e.path entries (first_T _ _ h)) ∙ once_each entries (second_T _ _ h)

pub of_rising : (entries : List StoreEntry) → rising entries ≡ true → has_twice entries ≡ false
of_rising entries h = once_each entries (subst T (sym h) tt)

first_keyed : (others : List StoreEntry) (next : StoreEntry) → slice_get others 0 ≡ Some next → slice_get (map with_path others) 0 ≡ Some (with_path next)
first_keyed [] next e = cc
first_keyed (x ∷ others) next e = let same : x ≡ next = cc in ap (λ y. Some (with_path y)) same

-- the first of several that ascend asks for nothing more than the second
pub rises_behind_first : (first next : StoreEntry) (others : List StoreEntry) → slice_get others 0 ≡ Some next → path_cmp first.path next.path ≡ Less → rising (first ∷ others) ≡ rising others
rises_behind_first first next others e less = rises_behind path_cmp path_cmp_total (with_path first) (with_path next) (map with_path others) (first_keyed others next e) less
