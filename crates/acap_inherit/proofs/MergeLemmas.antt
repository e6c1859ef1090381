-- Ascending lists of names are merged by taking the least of their first names again and again.
use Rattle.std.proofs.Common.{◌≡◌, ℕ, Bool, true, false, not, cond, ◌&&◌, ◌||◌, List, [], ◌∷◌, ◌++◌, map, length, Option, Some, None, is_some, append-nil, refl, sym, ap, subst, ◌∙◌}
use Rattle.std.specs.Prelude.{slice_get, take, drop}
use Rattle.std.specs.FinMap as names
use Rattle.std.specs.FinMap.{put}
use Rattle.std.specs.FinMap.Entries.{by_order, is_some-find}
use Rattle.std.specs.List.{list_all, list_any, flat_map, refill}
use Rattle.std.specs.declared.cmp.Ordering.{Ordering}
use Rattle.std.specs.declared.cmp.Ordering.TheVariants.{Less, Equal, Greater}
use Rattle.std.specs.Ordering.{is_eq, is_lt, is_gt, eq_by_cmp, ordering_reverse}
use Rattle.std.specs.Cmp.{IsTotalOrder, tied_itself, eq_by_cmp_equiv, upto, second_so, first_so}
use Rattle.std.specs.Cmp.Lexicographic.{texts_ties, nat_list_cmp_total, same_text}
use Rattle.std.proofs.lemmas.List.{length-map, nil_from_length}
use Rattle.std.proofs.Math.Seq.{drop-length, take-length}
use Rattle.std.proofs.lemmas.List.Folds.{list_any-append, list_all-append}
use Rattle.std.proofs.lemmas.Bool.{and_from, or_right, or_left}
use Rattle.acap_entries.specs.Orders.{octets_cmp, octets_eq}
use Rattle.acap_ordmap.proofs.Logic.{Less_from_is_lt}
use Rattle.acap_entries.proofs.StoreLemmas.{octets_same}
use Rattle.acap_inherit.specs.EntryNames.{set_of, union_of}
use Rattle.acap_inherit.specs.Merging.{is_below, is_rising, past_name, is_ended, is_first, is_least, IsLeast, lesser}

total : IsTotalOrder octets_cmp
total = nat_list_cmp_total

-- ---- tests

-- a test that isn't passed by a name before it, and doesn't tie with it, is passed after it
greater : (r : Ordering) → not (is_lt r) ≡ true → is_eq r ≡ false → r ≡ Greater
greater Less e f = cc
greater Equal e f = cc
greater Greater e f = refl

apart : (a b c d e : Bool) → ((a && c || d) || (b && c || e)) ≡ ((a || b) && c || (d || e))
apart true true true d e = refl
apart true true false d e = refl
apart true false true d e = refl
apart true false false d e = refl
apart false true true true e = refl
apart false true true false e = refl
apart false true false d e = refl
apart false false c d e = refl

-- ---- names that rise

below_less : (m x : List ℕ) (xs : List (List ℕ)) → octets_cmp m x ≡ Less → is_below x xs ≡ true → is_below m xs ≡ true
below_less m x [] h b = refl
below_less m x (y ∷ xs) h b =
    and_from _ _ (ap is_lt (total.trans m x y h (Less_from_is_lt _ (first_so _ _ b)))) (below_less m x xs h (second_so _ _ b))

below_append : (m : List ℕ) (xs ys : List (List ℕ)) → is_below m xs ≡ true → is_below m ys ≡ true → is_below m (xs ++ ys) ≡ true
below_append m [] ys a b = b
below_append m (x ∷ xs) ys a b = and_from _ _ (first_so _ _ a) (below_append m xs ys (second_so _ _ a) b)

-- what is left of a rising list whose first name isn't lesser
above_passed : (m : List ℕ) (xs : List (List ℕ)) → is_rising xs ≡ true → is_least m xs ≡ true → is_below m (past_name m xs) ≡ true
above_passed m [] r l = refl
above_passed m (x ∷ xs) r l =
    elim (octets_eq m x) as (λ b. octets_eq m x ≡ b → is_below m (cond b xs (x ∷ xs)) ≡ true) [
      | true ↦ λ e. subst (λ k. is_below k xs ≡ true) (sym (same_text m x (sym e))) (first_so _ _ r)
      | false ↦ λ e.
          let tied : is_eq (octets_cmp x m) ≡ false = (eq_by_cmp_equiv total).symm x m ∙ (sym (texts_ties m x) ∙ e) in
          let after : octets_cmp m x ≡ Less = total.antisymm m x ∙ ap ordering_reverse (greater _ l tied) in
          and_from _ _ (ap is_lt after) (below_less m x xs after (first_so _ _ r))
    ] refl

pub rising_passed : (m : List ℕ) (xs : List (List ℕ)) → is_rising xs ≡ true → is_rising (past_name m xs) ≡ true
rising_passed m [] r = refl
rising_passed m (x ∷ xs) r =
    elim (octets_eq m x) as (λ b. is_rising (cond b xs (x ∷ xs)) ≡ true) [ true ↦ second_so _ _ r | false ↦ r ]

-- each of some lists rises
abbrev pub all_rising : List (List (List ℕ)) → Bool
all_rising lists = list_all is_rising lists

pub all_rising_passed : (m : List ℕ) (lists : List (List (List ℕ))) → all_rising lists ≡ true → all_rising (map (past_name m) lists) ≡ true
all_rising_passed m [] r = refl
all_rising_passed m (xs ∷ lists) r = and_from _ _ (rising_passed m xs (first_so _ _ r)) (all_rising_passed m lists (second_so _ _ r))

abbrev pub all_of : List (List (List ℕ)) → List (List ℕ)
all_of lists = flat_map (λ names. names) lists

above_all : (m : List ℕ) (lists : List (List (List ℕ))) → all_rising lists ≡ true → list_all (is_least m) lists ≡ true → is_below m (all_of (map (past_name m) lists)) ≡ true
above_all m [] r l = refl
above_all m (xs ∷ lists) r l =
    below_append m (past_name m xs) _ (above_passed m xs (first_so _ _ r) (first_so _ _ l)) (above_all m lists (second_so _ _ r) (second_so _ _ l))

-- ---- which names there are

abbrev pub is_name : List ℕ → List ℕ → Bool
is_name q = eq_by_cmp octets_cmp q

any_passed : (m q : List ℕ) (xs : List (List ℕ)) → list_any (is_name q) xs ≡ (is_first m xs && is_name q m || list_any (is_name q) (past_name m xs))
any_passed m q [] = refl
any_passed m q (x ∷ xs) =
    elim (octets_eq m x) as (λ b. octets_eq m x ≡ b → (is_name q x || list_any (is_name q) xs) ≡ (b && is_name q m || list_any (is_name q) (cond b xs (x ∷ xs)))) [
      | true ↦ λ e. ap (λ k. is_name q k || list_any (is_name q) xs) (sym (same_text m x (sym e)))
      | false ↦ λ e. refl
    ] refl

any_all : (m q : List ℕ) (lists : List (List (List ℕ))) → list_any (is_name q) (all_of lists) ≡ (list_any (is_first m) lists && is_name q m || list_any (is_name q) (all_of (map (past_name m) lists)))
any_all m q [] = refl
any_all m q (xs ∷ lists) =
    list_any-append (is_name q) xs (all_of lists)
    ∙ ((λ i. any_passed m q xs i || any_all m q lists i)
    ∙ (apart (is_first m xs) (list_any (is_first m) lists) (is_name q m) _ _
    ∙ ap (λ b. list_any (is_first m) (xs ∷ lists) && is_name q m || b) (sym (list_any-append (is_name q) (past_name m xs) (all_of (map (past_name m) lists))))))

keys_listed : (xs : List (List ℕ)) → map (λ (e : List ℕ × Unit {0}). e.0) (map (λ (name : List ℕ). (name, tt)) xs) ≡ xs
keys_listed [] = refl
keys_listed (x ∷ xs) = ap (λ rest. x ∷ rest) (keys_listed xs)

-- a name is in the set exactly where it is in the list
pub in_set : (xs : List (List ℕ)) (q : List ℕ) → is_some (names.get (set_of xs) q) ≡ list_any (is_name q) xs
in_set xs q =
    ap is_some (names.get-from_entries total (map (λ name. (name, tt)) xs) q)
    ∙ (is_some-find octets_cmp q (map (λ name. (name, tt)) xs) ∙ ap (list_any (is_name q)) (keys_listed xs))

pub marked : (x y : Option (Unit {0})) → is_some x ≡ is_some y → x ≡ y
marked None None e = refl
marked None (Some b) e = cc
marked (Some a) None e = cc
marked (Some a) (Some b) e = refl

-- lists of the same names have the same set
pub same_sets : (xs ys : List (List ℕ)) → ((q : List ℕ) → list_any (is_name q) xs ≡ list_any (is_name q) ys) → set_of xs ≡ set_of ys
same_sets xs ys h = names.same_map total octets_same _ _ (λ q. marked _ _ (in_set xs q ∙ (h q ∙ sym (in_set ys q))))

marked_or : (b : Bool) (x : Option (Unit {0})) → is_some (cond b (Some tt) x) ≡ (b || is_some x)
marked_or true x = refl
marked_or false x = refl

-- the set of lists is that of what is left of them, and the name that is passed
same_set : (m : List ℕ) (lists : List (List (List ℕ))) → list_any (is_first m) lists ≡ true → set_of (all_of lists) ≡ names.insert (set_of (all_of (map (past_name m) lists))) m tt
same_set m lists f =
    let rest = all_of (map (past_name m) lists) in
    names.same_map total octets_same _ _ (λ q. marked _ _
    (in_set (all_of lists) q
    ∙ (any_all m q lists
    ∙ (ap (λ b. b && is_name q m || list_any (is_name q) rest) f
    ∙ (ap (λ b. is_name q m || b) (sym (in_set rest q))
    ∙ (sym (marked_or (is_name q m) (names.get (set_of rest) q)) ∙ ap is_some (sym (names.get-insert total (set_of rest) m tt q))))))))

-- ---- the least comes first

-- a name that ties with one of the names after another is after it
behind : (m q : List ℕ) (xs : List (List ℕ)) → is_below m xs ≡ true → list_any (is_name q) xs ≡ true → octets_cmp m q ≡ Less
behind m q [] b a = cc
behind m q (x ∷ xs) b a =
    elim (is_name q x) as (λ t. is_name q x ≡ t → (t || list_any (is_name q) xs) ≡ true → octets_cmp m q ≡ Less) [
      | true ↦ λ e _. ap (octets_cmp m) (same_text q x (sym (texts_ties q x ∙ e))) ∙ Less_from_is_lt _ (first_so _ _ b)
      | false ↦ λ e a. behind m q xs (second_so _ _ b) a
    ] refl a

put_front : (m : List ℕ) (es : List (List ℕ × Unit {0})) → ((q : List ℕ) → list_any (is_name q) (map (λ e. e.0) es) ≡ true → octets_cmp m q ≡ Less) → put octets_cmp m tt es ≡ (m, tt) ∷ es
put_front m [] h = refl
put_front m (e ∷ es) h =
    ap (λ r. by_order r ((m, tt) ∷ e ∷ es) ((e.0, tt) ∷ es) (e ∷ put octets_cmp m tt es))
    (h e.0 (ap (λ b. b || list_any (is_name e.0) (map (λ e. e.0) es)) (ap is_eq (tied_itself total e.0))))

least_first : (m : List ℕ) (xs : List (List ℕ)) → is_below m xs ≡ true → names.keys (names.insert (set_of xs) m tt) ≡ m ∷ names.keys (set_of xs)
least_first m xs b =
    ap (map (λ e. e.0)) (names.entries-insert total (set_of xs) m tt
    ∙ put_front m (names.entries (set_of xs)) (λ q a. behind m q xs b (sym (in_set xs q) ∙ (names.contains_key-keys (set_of xs) q ∙ a))))

-- the merged names begin with the least of the first names, and go on with what is left
pub merged_next : (m : List ℕ) (lists : List (List (List ℕ))) → all_rising lists ≡ true → IsLeast (Some m) lists → union_of lists ≡ m ∷ union_of (map (past_name m) lists)
unfolding union_of
merged_next m lists r l =
    ap (λ s. names.keys s) (same_set m lists (second_so _ _ l))
    ∙ least_first m (all_of (map (past_name m) lists)) (above_all m lists r (first_so _ _ l))

ended_none : (lists : List (List (List ℕ))) → list_all is_ended lists ≡ true → all_of lists ≡ []
ended_none [] e = refl
ended_none ([] ∷ lists) e = ended_none lists e
ended_none ((x ∷ xs) ∷ lists) e = cc

pub merged_ended : (lists : List (List (List ℕ))) → IsLeast None lists → union_of lists ≡ []
unfolding union_of
merged_ended lists e =
    ap (λ names_of. names.keys (set_of names_of)) (ended_none lists e)
    ∙ ap (map (λ e. e.0)) (nil_from_length _ (sym (names.len-entries {R = octets_cmp} (set_of [])) ∙ names.len-empty octets_cmp (Unit {0})))

-- ---- the least of the first names of lists, one list after the other

unturned : (r : Ordering) → not (is_lt r) ≡ true → is_gt (ordering_reverse r) ≡ false
unturned Less e = cc
unturned Equal e = refl
unturned Greater e = refl

back : (r s : Ordering) → s ≡ ordering_reverse r → is_gt r ≡ false → not (is_lt s) ≡ true
back Less s e g = ap (λ k. not (is_lt k)) e
back Equal s e g = ap (λ k. not (is_lt k)) e
back Greater s e g = cc

-- what isn't after a name isn't after a lesser one
least_lower : (m n : List ℕ) (xs : List (List ℕ)) → is_lt (octets_cmp n m) ≡ true → is_least m xs ≡ true → is_least n xs ≡ true
least_lower m n [] h l = refl
least_lower m n (x ∷ xs) h l =
    let not_above : is_gt (octets_cmp m x) ≡ false = ap is_gt (total.antisymm m x) ∙ unturned (octets_cmp x m) l in
    let level : is_gt (octets_cmp n x) ≡ false = upto total n m x (ap is_gt (Less_from_is_lt _ h)) not_above in
    back (octets_cmp n x) (octets_cmp x n) (total.antisymm x n) level

all_lower : (m n : List ℕ) (lists : List (List (List ℕ))) → is_lt (octets_cmp n m) ≡ true → list_all (is_least m) lists ≡ true → list_all (is_least n) lists ≡ true
all_lower m n [] h l = refl
all_lower m n (xs ∷ lists) h l = and_from _ _ (least_lower m n xs h (first_so _ _ l)) (all_lower m n lists h (second_so _ _ l))

pub itself : (m : List ℕ) → octets_eq m m ≡ true
itself m = texts_ties m m ∙ ap is_eq (tied_itself total m)

none_least : (m : List ℕ) (lists : List (List (List ℕ))) → list_all is_ended lists ≡ true → list_all (is_least m) lists ≡ true
none_least m [] e = refl
none_least m ([] ∷ lists) e = none_least m lists e
none_least m ((x ∷ xs) ∷ lists) e = cc

all_snoc : (p : List (List ℕ) → Bool) (lists : List (List (List ℕ))) (xs : List (List ℕ)) → list_all p lists ≡ true → p xs ≡ true → list_all p (lists ++ xs ∷ []) ≡ true
all_snoc p lists xs a b = list_all-append p lists (xs ∷ []) ∙ and_from _ _ a (and_from _ _ b refl)

any_before : (p : List (List ℕ) → Bool) (lists : List (List (List ℕ))) (xs : List (List ℕ)) → list_any p lists ≡ true → list_any p (lists ++ xs ∷ []) ≡ true
any_before p lists xs a = list_any-append p lists (xs ∷ []) ∙ or_left _ _ a

any_last : (p : List (List ℕ) → Bool) (lists : List (List (List ℕ))) (xs : List (List ℕ)) → p xs ≡ true → list_any p (lists ++ xs ∷ []) ≡ true
any_last p lists xs a = list_any-append p lists (xs ∷ []) ∙ or_right _ _ (or_left _ _ a)

pub least_more : (least : Option (List ℕ)) (lists : List (List (List ℕ))) (xs : List (List ℕ)) → IsLeast least lists → IsLeast (lesser least (slice_get xs 0)) (lists ++ xs ∷ [])
least_more None lists [] l = all_snoc is_ended lists [] l refl
least_more None lists (x ∷ xs) l =
    let self : not (is_lt (octets_cmp x x)) ≡ true = ap (λ r. not (is_lt r)) (tied_itself total x) in
    and_from _ _ (all_snoc (is_least x) lists (x ∷ xs) (none_least x lists l) self) (any_last (is_first x) lists (x ∷ xs) (itself x))
least_more (Some m) lists [] l =
    and_from _ _ (all_snoc (is_least m) lists [] (first_so _ _ l) refl) (any_before (is_first m) lists [] (second_so _ _ l))
least_more (Some m) lists (x ∷ xs) l =
    elim (is_lt (octets_cmp x m)) as (λ b. is_lt (octets_cmp x m) ≡ b → IsLeast (cond b (Some x) (Some m)) (lists ++ (x ∷ xs) ∷ [])) [
      | true ↦ λ e.
          let self : not (is_lt (octets_cmp x x)) ≡ true = ap (λ r. not (is_lt r)) (tied_itself total x) in
          and_from _ _ (all_snoc (is_least x) lists (x ∷ xs) (all_lower m x lists e (first_so _ _ l)) self) (any_last (is_first x) lists (x ∷ xs) (itself x))
      | false ↦ λ e.
          and_from _ _ (all_snoc (is_least m) lists (x ∷ xs) (first_so _ _ l) (ap not e)) (any_before (is_first m) lists (x ∷ xs) (second_so _ _ l))
    ] refl

-- what is written over all of a list is the list
pub refilled : (m : List ℕ) (lists ws : List (List (List ℕ))) → ws ≡ map (past_name m) lists → refill (length lists) lists ws ≡ map (past_name m) lists
refilled m lists ws e =
    let n : length ws ≡ length lists = ap length e ∙ length-map lists (past_name m) in
    ap (λ k. take (length lists) (ws ++ drop k lists)) n
    ∙ (ap (λ rest. take (length lists) (ws ++ rest)) (drop-length lists)
    ∙ (ap (λ k. take k (ws ++ [])) (sym n) ∙ (ap (λ xs. take (length ws) xs) (append-nil ws) ∙ (take-length ws ∙ e))))
