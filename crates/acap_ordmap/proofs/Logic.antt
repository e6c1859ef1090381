-- Lemmas on std's words alone that std lacks, or has the other way round: tests, orderings, numbers, lists, options and
-- results. They name nothing of a store.
use Rattle.std.proofs.Common.{OnOk, Result, Ok, Err, ◌≡◌, ℕ, zero, suc, ◌+◌, ◌-◌, ◌<◌, Bool, true, false, ◌&&◌, ◌||◌, T, List, [], ◌∷◌, Option, Some, None, refl, sym, ◌∙◌, arith}
use Rattle.std.specs.Bool.{IsTrue}
use Rattle.std.specs.List.{list_any, Contains}
use Rattle.std.specs.Option.{is_some}
use Rattle.std.specs.Ordering.{is_lt, is_eq, ordering_then, ordering_reverse}
use Rattle.std.specs.declared.cmp.Ordering.{Ordering}
use Rattle.std.specs.declared.cmp.Ordering.TheVariants.{Less, Equal, Greater}

-- ---- tests that hold: `T`, `IsTrue` and `≡ true`

pub first_T : (a b : Bool) → T (a && b) → T a
first_T true b p = tt
first_T false b p = p

pub second_T : (a b : Bool) → T (a && b) → T b
second_T true b p = p
second_T false b p = absurd p

pub both_T : (a b : Bool) → T a → T b → T (a && b)
both_T true b p q = q
both_T false b p q = absurd p

pub true_from_T : (b : Bool) → T b → b ≡ true
true_from_T true h = refl
true_from_T false h = absurd h

pub IsTrue_from_T : (b : Bool) → T b → IsTrue b
IsTrue_from_T true h = refl
IsTrue_from_T false h = absurd h

pub first_not : (a b : Bool) → (a || b) ≡ false → a ≡ false
first_not true b e = cc
first_not false b e = refl

pub second_not : (a b : Bool) → (a || b) ≡ false → b ≡ false
second_not true b e = cc
second_not false b e = e

pub false_back : (a b : Bool) → (a ≡ true → b ≡ true) → b ≡ false → a ≡ false
false_back true b h e = sym (h refl) ∙ e
false_back false b h e = refl

pub true_without : (b : Bool) → (b || false) ≡ true → b ≡ true
true_without true e = refl
true_without false e = e

pub true_cases : {P : Type 0} (a b : Bool) → (a || b) ≡ true → (a ≡ true → P) → (b ≡ true → P) → P
true_cases true b e f g = f refl
true_cases false b e f g = g e

pub same_from_both : (a b : Bool) → (a ≡ true → b ≡ true) → (b ≡ true → a ≡ true) → a ≡ b
same_from_both true b h k = sym (h refl)
same_from_both false true h k = k refl
same_from_both false false h k = refl

-- ---- how `||` and `&&` are put in another order

pub or_regrouped : (a b c : Bool) → (a || (b || c)) ≡ ((a || b) || c)
or_regrouped true b c = refl
or_regrouped false b c = refl

pub or_crossed : (a b c d : Bool) → ((a || b) || (c || d)) ≡ ((a || c) || (b || d))
or_crossed true b c d = refl
or_crossed false true true d = refl
or_crossed false true false d = refl
or_crossed false false c d = refl

pub or_swapped : (a b c : Bool) → (a || (b || c)) ≡ ((b || a) || c)
or_swapped true true c = refl
or_swapped true false c = refl
or_swapped false true c = refl
or_swapped false false c = refl

pub or_turned : (a b c : Bool) → (a || (b || c)) ≡ (b || (a || c))
or_turned true true c = refl
or_turned true false c = refl
or_turned false b c = refl

pub and_either : (a b c : Bool) → ((a && b) || (a && c)) ≡ (a && (b || c))
and_either true b c = refl
and_either false b c = refl

pub either_and : (a b c : Bool) → ((a && c) || (b && c)) ≡ ((a || b) && c)
either_and true true true = refl
either_and true true false = refl
either_and true false true = refl
either_and true false false = refl
either_and false b c = refl

pub false_and : (a : Bool) → false ≡ (a && false)
false_and true = refl
false_and false = refl

-- ---- orderings

pub Less_from_T : (o : Ordering) → T (is_lt o) → o ≡ Less
Less_from_T Less p = refl
Less_from_T Equal p = absurd p
Less_from_T Greater p = absurd p

pub Less_from_is_lt : (r : Ordering) → is_lt r ≡ true → r ≡ Less
Less_from_is_lt Less e = refl
Less_from_is_lt Equal e = cc
Less_from_is_lt Greater e = cc

pub unequal_from_is_lt : (r : Ordering) → is_lt r ≡ true → is_eq r ≡ false
unequal_from_is_lt Less e = refl
unequal_from_is_lt Equal e = cc
unequal_from_is_lt Greater e = cc

pub Equal_from_is_eq : (o : Ordering) → is_eq o ≡ true → o ≡ Equal
Equal_from_is_eq Less e = cc
Equal_from_is_eq Equal e = refl
Equal_from_is_eq Greater e = cc

pub is_eq-then : (a b : Ordering) → is_eq (ordering_then a b) ≡ (is_eq a && is_eq b)
is_eq-then Less b = refl
is_eq-then Equal b = refl
is_eq-then Greater b = refl

pub is_eq-reverse : (o : Ordering) → is_eq (ordering_reverse o) ≡ is_eq o
is_eq-reverse Less = refl
is_eq-reverse Equal = refl
is_eq-reverse Greater = refl

pub both_Equal : (a b : Ordering) → ordering_then a b ≡ Equal → (a ≡ Equal) × (b ≡ Equal)
both_Equal Less b e = cc
both_Equal Equal b e = (refl, e)
both_Equal Greater b e = cc

pub second_Equal : (a b : Ordering) → ordering_then a b ≡ Equal → b ≡ Equal
second_Equal Less b e = cc
second_Equal Equal b e = e
second_Equal Greater b e = cc

-- ---- numbers

pub suc_is : (i : ℕ) → suc i ≡ i + 1
suc_is i = omega arith

pub one_fewer : (n i : ℕ) → i < n → n - i ≡ suc (n - (i + 1))
one_fewer n i h = omega arith

pub one_back : (n : ℕ) → n + 1 - 1 ≡ n
one_back n = omega arith

-- ---- lists, options and results

pub Contains-here : {A : Type 0} (x : A) (xs : List A) → Contains (x ∷ xs) x
Contains-here x xs = (zero, omega arith, refl)

pub Contains-there : {A : Type 0} (x y : A) (xs : List A) → Contains xs y → Contains (x ∷ xs) y
Contains-there x y xs h = (suc h.0, omega (arith, h.1), h.2)

pub one_of_any : {A : Type 0} (p : A → Bool) (xs : List A) → list_any p xs ≡ true → (x : A) × (p x ≡ true)
one_of_any p [] e = cc
one_of_any p (x ∷ xs) e =
    elim (p x) as (λ b. p x ≡ b → (b || list_any p xs) ≡ true → (x : _) × (p x ≡ true)) [
      | true ↦ λ is _. (x, is)
      | false ↦ λ _ e. one_of_any p xs e
    ] refl e

pub None_from_is_some : {A : Type 0} (found : Option A) → is_some found ≡ false → found ≡ None
None_from_is_some None e = refl
None_from_is_some (Some x) e = cc

pub OnOk_also : {T E A B : Type 0} (r : Result T E) → OnOk r A → (A → B) → OnOk r B
OnOk_also (Ok x) h f = f h
OnOk_also (Err e) h f = h

pub OnOk_then : {X F : Type 0} {P Q : Type 0} (r : Result X F) → (P → Q) → OnOk r P → OnOk r Q
OnOk_then (Ok x) f h = f h
OnOk_then (Err e) f h = h
