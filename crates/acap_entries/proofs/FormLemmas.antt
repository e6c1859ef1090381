-- The form of datasets and paths: what is made of them is well formed too.
use Rattle.std.proofs.Common.{◌≡◌, ℕ, zero, suc, ◌+◌, ◌-◌, ◌<◌, Bool, true, false, not, cond, ◌&&◌, List, [], ◌∷◌, ◌++◌, length, take, drop, Some, refl, sym, ap, ◌∙◌, arith, append_assoc, length-drop}
use Rattle.std.proofs.lemmas.Bool.Decides.{nat_tests}
use borrow.Author.Tests.{eqb-true}
use Rattle.std.specs.Prelude.{nat_eq, nat_lt, nat_le, ◌==◌, codes}
use Rattle.std.specs.List.{list_all, slice_split, onto_first, position_or_len, starts_with}
use Rattle.std.proofs.lemmas.List.Folds.{list_all-append}
use Rattle.std.proofs.lemmas.List.{append-nil}
use Rattle.std.proofs.lemmas.List.Splits.{slice_split-cons_yes, slice_split-cons_no}
use Rattle.std.proofs.Math.ListN.{take-append-drop}
use Rattle.std.proofs.Math.Bool.{and-false, and-true}
use Rattle.std.proofs.lemmas.Bool.{and_parts, or_parts, and_from, not-true, false≢true}
use Rattle.acap_entries.specs.FullPaths.{IsSplit, IsWellFormed}
use Rattle.acap_entries.specs.Laws.{FormLaw}
use Rattle.acap_entries.specs.Homes.{for_user, is_home, second_at}
use Rattle.acap_entries.specs.Names.{slash, nul, dot, is_slash, has, begins_with, ends_with, with_slash, components, inside, is_component, is_dataset, is_closed_dataset, is_dataset_argument, is_entry_name, is_identity, is_path, is_user_name, dataset_of, name_of, own_entry}
use Rattle.acap_entries.specs.declared.path.Path.{Path}
use Rattle.acap_entries.proofs.PlainNames.{plain_utf8}
use Rattle.acap_entries.proofs.OwnLaws.{own_entry_law}
use Rattle.acap_entries.proofs.NameLemmas.{closed_again, closed_behind, closed_by_slash, closed_dropped}

-- ---- parts between slashes

-- each part between slashes is a component
all_parts : List ℕ → Bool
all_parts xs = list_all is_component (slice_split is_slash xs)

-- all but the last octet
but_last : List ℕ → List ℕ
but_last [] = []
but_last (x ∷ []) = []
but_last (x ∷ y ∷ ys) = x ∷ but_last (y ∷ ys)

-- what stands after the first slash of a dataset: components, each with a slash after it
steps : List ℕ → Bool
steps [] = true
steps (x ∷ xs) = all_parts (but_last (x ∷ xs))

split_some : (p : ℕ → Bool) (xs : List ℕ) → ((a : List ℕ) × (parts : List (List ℕ)) × (slice_split p xs ≡ a ∷ parts))
split_some p [] = ([], [], refl)
split_some p (x ∷ xs) = elim (p x) as (λ b. p x ≡ b → ((a : List ℕ) × (parts : List (List ℕ)) × (slice_split p (x ∷ xs) ≡ a ∷ parts))) [
  | true ↦ λ e. ([], slice_split p xs, slice_split-cons_yes p x xs e)
  | false ↦ λ e. let more = split_some p xs in (x ∷ more.0, more.1, slice_split-cons_no p x xs e ∙ ap (onto_first x) more.2)
] refl

split_joined : (a b : List ℕ) → slice_split is_slash (a ++ slash ∷ b) ≡ slice_split is_slash a ++ slice_split is_slash b
split_joined [] b = slice_split-cons_yes is_slash slash b refl
split_joined (x ∷ a) b = elim (is_slash x) as (λ t. is_slash x ≡ t → slice_split is_slash (x ∷ (a ++ slash ∷ b)) ≡ slice_split is_slash (x ∷ a) ++ slice_split is_slash b) [
  | true ↦ λ e. slice_split-cons_yes is_slash x (a ++ slash ∷ b) e ∙ ap (λ t. [] ∷ t) (split_joined a b) ∙ ap (λ t. t ++ slice_split is_slash b) (sym (slice_split-cons_yes is_slash x a e))
  | false ↦ λ e.
      let some = split_some is_slash a in
      slice_split-cons_no is_slash x (a ++ slash ∷ b) e
      ∙ ap (onto_first x) (split_joined a b ∙ ap (λ t. t ++ slice_split is_slash b) some.2)
      ∙ ap (λ t. onto_first x t ++ slice_split is_slash b) (sym some.2)
      ∙ ap (λ t. t ++ slice_split is_slash b) (sym (slice_split-cons_no is_slash x a e))
] refl

parts_joined : (a b : List ℕ) → all_parts (a ++ slash ∷ b) ≡ (all_parts a && all_parts b)
unfolding all_parts
parts_joined a b = ap (list_all is_component) (split_joined a b) ∙ list_all-append is_component (slice_split is_slash a) (slice_split is_slash b)

-- octets without a slash are one part
one_split : (n : List ℕ) → has slash n ≡ false → slice_split is_slash n ≡ n ∷ []
one_split [] e = refl
one_split (x ∷ n) e = let parts = or_parts _ _ e in slice_split-cons_no is_slash x n parts.0 ∙ ap (onto_first x) (one_split n parts.1)

one_part : (n : List ℕ) → has slash n ≡ false → all_parts n ≡ is_component n
unfolding all_parts
one_part n e = ap (list_all is_component) (one_split n e) ∙ and-true (is_component n)

pub component_plain : (n : List ℕ) → is_component n ≡ true → has slash n ≡ false
unfolding is_component
component_plain n e = not-true _ (and_parts _ _ (and_parts _ _ e).0).1

parts_of_component : (n : List ℕ) → is_component n ≡ true → all_parts n ≡ true
parts_of_component n e = one_part n (component_plain n e) ∙ e

-- ---- octets but for the last

but_last_is : (xs : List ℕ) → take (length xs - 1) xs ≡ but_last xs
unfolding but_last
but_last_is [] = refl
but_last_is (x ∷ []) = refl
but_last_is (x ∷ y ∷ ys) =
    let more : suc (suc (length ys)) - 1 ≡ suc (length ys) = omega arith in
    let less : suc (length ys) - 1 ≡ length ys = omega arith in
    rw more (ap (λ (t : List ℕ). x ∷ t) (rw less at (but_last_is (y ∷ ys))))

but_last_behind : (w : List ℕ) (y : ℕ) (ys : List ℕ) → but_last (w ++ y ∷ ys) ≡ w ++ but_last (y ∷ ys)
unfolding but_last
but_last_behind [] y ys = refl
but_last_behind (x ∷ []) y ys = refl
but_last_behind (x ∷ v ∷ w) y ys = ap (λ t. x ∷ t) (but_last_behind (v ∷ w) y ys)

steps_is : (w : List ℕ) (y : ℕ) (ys : List ℕ) → steps (w ++ y ∷ ys) ≡ all_parts (w ++ but_last (y ∷ ys))
unfolding steps
steps_is [] y ys = refl
steps_is (x ∷ w) y ys = ap all_parts (but_last_behind (x ∷ w) y ys)

-- steps after parts, and parts with a slash after them
steps_behind : (w x : List ℕ) → steps (w ++ slash ∷ x) ≡ (all_parts w && steps x)
unfolding steps but_last
steps_behind w [] = steps_is w slash [] ∙ ap all_parts (append-nil w) ∙ sym (and-true (all_parts w))
steps_behind w (y ∷ ys) = steps_is w slash (y ∷ ys) ∙ parts_joined w (but_last (y ∷ ys))

steps_closed : (w : List ℕ) → steps (w ++ slash ∷ []) ≡ all_parts w
unfolding steps
steps_closed w = steps_behind w [] ∙ and-true (all_parts w)

steps_joined : (b x : List ℕ) → ends_with slash b ≡ true → steps (b ++ x) ≡ (steps b && steps x)
steps_joined b x e =
    let w = take (length b - 1) b in
    let whole : w ++ slash ∷ [] ≡ b = closed_again b e in
    ap (λ t. steps (t ++ x)) (sym whole) ∙ ap steps (append_assoc w (slash ∷ []) x) ∙ steps_behind w x
    ∙ ap (λ t. t && steps x) (sym (steps_closed w) ∙ ap steps whole)

-- ---- datasets

closed_parts : (d : List ℕ) → is_closed_dataset d ≡ true → (is_dataset d ≡ true) × (ends_with slash d ≡ true)
unfolding is_closed_dataset
closed_parts d e = and_parts (is_dataset d) (ends_with slash d) e

pub closed_ends : (d : List ℕ) → is_closed_dataset d ≡ true → ends_with slash d ≡ true
closed_ends d e = (closed_parts d e).1

pub closed_begins : (d : List ℕ) → is_closed_dataset d ≡ true → begins_with slash d ≡ true
closed_begins d e = (and_parts (begins_with slash d) (list_all is_component (components d)) (closed_parts d e).0).0

-- what stands after the first slash of a dataset with its closing slash: nothing, or octets closed by a slash
closed_is : (b : List ℕ) → is_closed_dataset (slash ∷ b) ≡ (steps b && ends_with slash (slash ∷ b))
unfolding is_closed_dataset components steps but_last all_parts
closed_is [] = refl
closed_is (y ∷ ys) =
    let long : nat_le (suc (suc (length ys))) 1 ≡ false = grind (arith, nat_tests) in
    ap (λ c. list_all is_component (cond c [] (slice_split is_slash (inside (slash ∷ y ∷ ys)))) && ends_with slash (slash ∷ y ∷ ys)) long ∙
    elim (ends_with slash (slash ∷ y ∷ ys)) as (λ t. ends_with slash (slash ∷ y ∷ ys) ≡ t
    → (list_all is_component (slice_split is_slash (drop 1 (cond t (take (suc (suc (length ys)) - 1) (slash ∷ y ∷ ys)) (slash ∷ y ∷ ys)))) && t) ≡ (all_parts (but_last (y ∷ ys)) && t)) [
      | true ↦ λ e. ap (λ w. list_all is_component (slice_split is_slash (drop 1 w)) && true) (but_last_is (slash ∷ y ∷ ys))
      | false ↦ λ e. and-false _ ∙ sym (and-false _)
    ] refl

-- a dataset begins with a slash
opened : (d : List ℕ) → is_dataset d ≡ true → slash ∷ drop 1 d ≡ d
opened [] e = absurd (false≢true e)
opened (x ∷ xs) e = ap (λ v. v ∷ xs) (sym (eqb-true x slash (and_parts (begins_with slash (x ∷ xs)) (list_all is_component (components (x ∷ xs))) e).0))

steps_of : (b : List ℕ) → is_closed_dataset (slash ∷ b) ≡ true → steps b ≡ true
steps_of b e = (and_parts _ _ (sym (closed_is b) ∙ e)).0

closed_of : (b : List ℕ) → steps b ≡ true → ends_with slash (slash ∷ b) ≡ true → is_closed_dataset (slash ∷ b) ≡ true
closed_of b s e = closed_is b ∙ and_from _ _ s e

-- what stands after it is nothing, or is closed itself
inner : (x y : ℕ) (ys : List ℕ) → ends_with slash (x ∷ y ∷ ys) ≡ true → ends_with slash (y ∷ ys) ≡ true
inner x y ys e = closed_dropped 1 (x ∷ y ∷ ys) (omega arith) e

steps_more : (b x : List ℕ) → ends_with slash (slash ∷ b) ≡ true → steps (b ++ x) ≡ (steps b && steps x)
unfolding steps
steps_more [] x e = refl
steps_more (y ∷ ys) x e = steps_joined (y ∷ ys) x (inner slash y ys e)

-- ---- the dataset that an entry makes

step_of : (n : List ℕ) → is_component n ≡ true → steps (n ++ slash ∷ []) ≡ true
step_of n e = steps_closed n ∙ parts_of_component n e

pub beneath_closed : (d n : List ℕ) → is_closed_dataset d ≡ true → is_component n ≡ true → is_closed_dataset (d ++ n ++ slash ∷ []) ≡ true
beneath_closed d n e c =
    let b = drop 1 d in
    let begun : slash ∷ b ≡ d = opened d (closed_parts d e).0 in
    let known : is_closed_dataset (slash ∷ b) ≡ true = ap is_closed_dataset begun ∙ e in
    let ends = closed_ends (slash ∷ b) known in
    ap is_closed_dataset (ap (λ t. t ++ n ++ slash ∷ []) (sym begun) ∙ append_assoc (slash ∷ b) n (slash ∷ []))
    ∙ closed_of (b ++ (n ++ slash ∷ [])) (steps_more b (n ++ slash ∷ []) ends ∙ and_from _ _ (steps_of b known) (step_of n c)) (closed_behind (slash ∷ b) (n ++ slash ∷ []) (closed_by_slash n))

-- ---- the own entry of a dataset

own_formed : (m n d : List ℕ) → is_closed_dataset d ≡ true → ends_with slash m ≡ true → has slash n ≡ false → (m ++ n) ++ slash ∷ [] ≡ d → (is_closed_dataset m ≡ true) × (is_component n ≡ true)
own_formed [] n d e ends plain whole = absurd (false≢true ends)
own_formed (x ∷ b) n d e ends plain whole =
    let all : is_closed_dataset (x ∷ ((b ++ n) ++ slash ∷ [])) ≡ true = ap is_closed_dataset whole ∙ e in
    let first : x ≡ slash = eqb-true x slash (and_parts (begins_with slash (x ∷ ((b ++ n) ++ slash ∷ []))) (list_all is_component (components (x ∷ ((b ++ n) ++ slash ∷ [])))) (closed_parts _ all).0).0 in
    let closes : ends_with slash (slash ∷ b) ≡ true = ap (λ v. ends_with slash (v ∷ b)) (sym first) ∙ ends in
    let known : is_closed_dataset (slash ∷ ((b ++ n) ++ slash ∷ [])) ≡ true = ap (λ v. is_closed_dataset (v ∷ ((b ++ n) ++ slash ∷ []))) (sym first) ∙ all in
    let parts = and_parts (steps b) (steps (n ++ slash ∷ [])) (sym (steps_more b (n ++ slash ∷ []) closes) ∙ ap steps (sym (append_assoc b n (slash ∷ []))) ∙ steps_of _ known) in
    (ap (λ v. is_closed_dataset (v ∷ b)) first ∙ closed_of b parts.0 closes, sym (one_part n plain) ∙ sym (steps_closed n) ∙ parts.1)

named : (n : List ℕ) → is_component n ≡ true → is_entry_name n ≡ true
named [] e = refl
named (x ∷ n) e = let some : (suc (length n) == 0) ≡ false = grind (arith, nat_tests) in ap (λ b. cond b true (is_component (x ∷ n))) some ∙ e

pub own_well_formed : (d : List ℕ) (p : Path) → is_closed_dataset d ≡ true → own_entry d ≡ Some (p.dataset, p.name) → IsWellFormed p × (is_component p.name ≡ true)
own_well_formed d p e own =
    let parts = (own_entry_law d p).0 own in
    let formed = own_formed p.dataset p.name d e parts.0.dataset parts.0.name parts.1 in
    (record { dataset = formed.0; name = named p.name formed.1 }, formed.1)

-- ---- the dataset that a user means

through_slash : (t : List ℕ) → position_or_len is_slash t < length t → take (position_or_len is_slash t + 1) t ≡ take (position_or_len is_slash t) t ++ slash ∷ []
through_slash [] = λ lt. absurd (omega (arith, lt))
through_slash (x ∷ t) = elim (is_slash x) as (λ b. is_slash x ≡ b → cond (not b) (1 + position_or_len is_slash t) 0 < suc (length t) → take (cond (not b) (1 + position_or_len is_slash t) 0 + 1) (x ∷ t) ≡ take (cond (not b) (1 + position_or_len is_slash t) 0) (x ∷ t) ++ slash ∷ []) [
  | true ↦ λ e lt. ap (λ v. v ∷ []) (eqb-true x slash e)
  | false ↦ λ e lt.
      let one : 1 + position_or_len is_slash t ≡ suc (position_or_len is_slash t) = omega arith in
      let two : suc (position_or_len is_slash t) + 1 ≡ suc (position_or_len is_slash t + 1) = omega arith in
      rw (one, two) (ap (λ ys. x ∷ ys) (through_slash t (omega (arith, lt))))
] refl

tilde : (g : List ℕ) → starts_with nat_eq g (codes "~/") ≡ true → 126 ∷ slash ∷ drop 2 g ≡ g
tilde [] e = absurd (false≢true e)
tilde (x ∷ []) e = absurd (false≢true (and_parts _ _ e).1)
tilde (x ∷ y ∷ g) e =
    let parts = and_parts (nat_eq 126 x) _ e in
    let first = eqb-true 126 x parts.0 in
    let second = eqb-true 47 y (and_parts _ _ parts.1).0 in
    λ i. first i ∷ second i ∷ g

home_text : (t : List ℕ) → is_home (slash ∷ t) ≡ true → starts_with nat_eq (drop (second_at (slash ∷ t)) (slash ∷ t)) (codes "~/") ≡ true
unfolding is_home
home_text t h = (and_parts (begins_with slash (slash ∷ t)) (starts_with nat_eq (drop (second_at (slash ∷ t)) (slash ∷ t)) (codes "~/")) h).1

some_left : (n : ℕ) (t g : List ℕ) → drop (n + 1) t ≡ 126 ∷ g → n < length t
some_left n t g e = let more : length (drop (n + 1) t) ≡ suc (length g) = ap (λ xs. length xs) e in omega (arith, length-drop (n + 1) t, more)

user_component : (user : List ℕ) → is_user_name user ≡ true → is_component user ≡ true
unfolding is_user_name is_identity
user_component user u = (and_parts _ _ (and_parts _ _ (and_parts _ _ (and_parts _ _ (and_parts _ _ u).0).0).0).0).0

user_is : is_component (codes "user") ≡ true
unfolding is_component
user_is = ap (λ b. nat_lt 0 (length (codes "user")) && b && not (has nul (codes "user")) && not (has slash (codes "user")) && not (begins_with dot (codes "user"))) (plain_utf8 0 47 (codes "user") refl)

drop_more : (k : ℕ) (t : List ℕ) → drop (k + 1) t ≡ drop 1 (drop k t)
drop_more zero t = refl
drop_more (suc k) [] = let two : suc k + 1 ≡ suc (k + 1) = omega arith in rw two refl
drop_more (suc k) (x ∷ t) = let two : suc k + 1 ≡ suc (k + 1) = omega arith in rw two (drop_more k t)

-- with what stands around `~`: through the slash before it, and after the slash after it
around : (f r user : List ℕ) → is_component user ≡ true → ends_with slash (slash ∷ f) ≡ true → steps (f ++ 126 ∷ slash ∷ r) ≡ true → steps (f ++ (codes "user/" ++ (user ++ slash ∷ r))) ≡ true
around f r user u ends all =
    let front = and_parts (steps f) (steps (126 ∷ slash ∷ r)) (sym (steps_more f (126 ∷ slash ∷ r) ends) ∙ all) in
    let rest = and_parts (all_parts (126 ∷ [])) (steps r) (sym (steps_behind (126 ∷ []) r) ∙ front.1) in
    steps_more f (codes "user/" ++ (user ++ slash ∷ r)) ends
    ∙ and_from _ _ front.0 (steps_behind (codes "user") (user ++ slash ∷ r) ∙ and_from _ _ (parts_of_component (codes "user") user_is) (steps_behind user r ∙ and_from _ _ (parts_of_component user u) rest.1))

home_closed : (user t : List ℕ) → is_component user ≡ true → is_closed_dataset (slash ∷ t) ≡ true → is_home (slash ∷ t) ≡ true
    → is_closed_dataset (take (second_at (slash ∷ t)) (slash ∷ t) ++ codes "user/" ++ user ++ drop (second_at (slash ∷ t) + 1) (slash ∷ t)) ≡ true
home_closed user t u e h =
    let n = position_or_len is_slash t in
    let at : second_at (slash ∷ t) ≡ suc (n + 1) = omega arith in
    let behind : second_at (slash ∷ t) + 1 ≡ suc (n + 1 + 1) = omega arith in
    let f = take (n + 1) t in
    let g = drop (n + 1) t in
    let r = drop 2 g in
    let begins : 126 ∷ slash ∷ r ≡ g = tilde g (ap (λ k. starts_with nat_eq (drop k (slash ∷ t)) (codes "~/")) (sym at) ∙ home_text t h) in
    let within : n < length t = some_left n t (slash ∷ r) (sym begins) in
    let front : f ≡ take n t ++ slash ∷ [] = through_slash t within in
    let ends : ends_with slash (slash ∷ f) ≡ true = ap (λ x. ends_with slash (slash ∷ x)) front ∙ closed_by_slash (slash ∷ take n t) in
    let whole : f ++ 126 ∷ slash ∷ r ≡ t = ap (λ x. f ++ x) begins ∙ take-append-drop (n + 1) t in
    let left : drop (n + 1 + 1) t ≡ slash ∷ r = drop_more (n + 1) t ∙ ap (λ x. drop 1 x) (sym begins) in
    let front_of = (slash ∷ f) ++ codes "user/" in
    let joins : front_of ++ user ++ slash ∷ r ≡ slash ∷ (f ++ (codes "user/" ++ (user ++ slash ∷ r))) = append_assoc front_of user (slash ∷ r) ∙ append_assoc (slash ∷ f) (codes "user/") (user ++ slash ∷ r) in
    let same : take (second_at (slash ∷ t)) (slash ∷ t) ++ codes "user/" ++ user ++ drop (second_at (slash ∷ t) + 1) (slash ∷ t) ≡ front_of ++ user ++ slash ∷ r =
    (λ i. take (at i) (slash ∷ t) ++ codes "user/" ++ user ++ drop (behind i) (slash ∷ t)) ∙ ap (λ x. front_of ++ user ++ x) left in
    let count : length (drop (n + 1 + 1) t) ≡ suc (length r) = ap (λ x. length x) left in
    let last : ends_with slash (slash ∷ r) ≡ true = ap (ends_with slash) (sym left) ∙ closed_dropped (suc (n + 1 + 1)) (slash ∷ t) (omega (arith, length-drop (n + 1 + 1) t, count)) (closed_ends (slash ∷ t) e) in
    ap is_closed_dataset (same ∙ joins)
    ∙ closed_of (f ++ (codes "user/" ++ (user ++ slash ∷ r))) (around f r user u ends (ap steps whole ∙ steps_of t e))
    (ap (ends_with slash) (sym joins) ∙ closed_behind (front_of ++ user) (slash ∷ r) last)

pub meant_closed : (user d : List ℕ) → is_user_name user ≡ true → is_closed_dataset d ≡ true → is_closed_dataset (for_user user d) ≡ true
unfolding for_user
meant_closed user d u e = elim (is_home d) as (λ b. is_home d ≡ b → is_closed_dataset (cond b (take (second_at d) d ++ codes "user/" ++ user ++ drop (second_at d + 1) d) d) ≡ true) [
  | true ↦ λ h.
      let begun = opened d (closed_parts d e).0 in
      ap (λ t. is_closed_dataset (take (second_at t) t ++ codes "user/" ++ user ++ drop (second_at t + 1) t)) (sym begun)
      ∙ home_closed user (drop 1 d) (user_component user u) (ap is_closed_dataset begun ∙ e) (ap is_home begun ∙ h)
  | false ↦ λ h. e
] refl

-- ---- what is read

whole_closed : (text : List ℕ) → is_dataset text ≡ true → ends_with slash text ≡ true → is_closed_dataset text ≡ true
unfolding is_closed_dataset
whole_closed text e h = and_from _ _ e h

-- the parts of a dataset without its closing slash
open_parts : (b : List ℕ) → is_dataset (slash ∷ b) ≡ true → ends_with slash (slash ∷ b) ≡ false → all_parts b ≡ true
unfolding all_parts components
open_parts [] e h = absurd (false≢true (sym h))
open_parts (y ∷ ys) e h =
    let long : nat_le (suc (suc (length ys))) 1 ≡ false = grind (arith, nat_tests) in
    sym (ap (λ c. list_all is_component (cond c [] (slice_split is_slash (inside (slash ∷ y ∷ ys))))) long ∙ ap (λ c. list_all is_component (slice_split is_slash (drop 1 (cond c (take (suc (suc (length ys)) - 1) (slash ∷ y ∷ ys)) (slash ∷ y ∷ ys))))) h)
    ∙ (and_parts (begins_with slash (slash ∷ y ∷ ys)) _ e).1

pub read_closed : (text : List ℕ) → is_dataset text ≡ true → is_closed_dataset (with_slash text) ≡ true
read_closed text e = elim (ends_with slash text) as (λ b. ends_with slash text ≡ b → is_closed_dataset (cond b text (text ++ slash ∷ [])) ≡ true) [
  | true ↦ λ h. whole_closed text e h
  | false ↦ λ h.
      let begun = opened text e in
      ap (λ t. is_closed_dataset (t ++ slash ∷ [])) (sym begun)
      ∙ closed_of (drop 1 text ++ slash ∷ []) (steps_closed (drop 1 text) ∙ open_parts (drop 1 text) (ap is_dataset begun ∙ e) (ap (ends_with slash) begun ∙ h)) (closed_by_slash (slash ∷ drop 1 text))
] refl

pub argument_dataset : (text : List ℕ) → is_dataset_argument text ≡ true → is_dataset text ≡ true
unfolding is_dataset_argument
argument_dataset text e = (and_parts _ _ (and_parts _ _ e).0).1

pub path_dataset : (text : List ℕ) → is_path text ≡ true → ends_with slash (dataset_of text) ≡ true → is_closed_dataset (dataset_of text) ≡ true
unfolding is_path
path_dataset text e h = whole_closed (dataset_of text) (and_parts _ _ (and_parts _ _ (and_parts _ _ e).0).0).1 h

pub path_name : (text : List ℕ) → is_path text ≡ true → is_entry_name (name_of text) ≡ true
unfolding is_path
path_name text e = (and_parts _ _ (and_parts _ _ e).0).1

pub entry_component : (n : List ℕ) → 0 < length n → is_entry_name n ≡ true → is_component n ≡ true
entry_component [] lt e = absurd (omega (arith, lt))
entry_component (x ∷ n) lt e = let some : (suc (length n) == 0) ≡ false = grind (arith, nat_tests) in sym (ap (λ b. cond b true (is_component (x ∷ n))) some) ∙ e

pub entry_plain : (n : List ℕ) → is_entry_name n ≡ true → has slash n ≡ false
entry_plain [] e = refl
entry_plain (x ∷ n) e = let some : (suc (length n) == 0) ≡ false = grind (arith, nat_tests) in component_plain (x ∷ n) (sym (ap (λ b. cond b true (is_component (x ∷ n))) some) ∙ e)

split : (p : Path) → IsWellFormed p → IsSplit p
split p h = record { dataset = closed_ends p.dataset h.dataset; name = entry_plain p.name h.name }

pub form_law : FormLaw
form_law = record { split = split; own = own_well_formed; beneath = beneath_closed; meant = meant_closed }
