-- Pairs and the strings that they are.
use Rattle.std.proofs.Common.{◌≡◌, ℕ, Bool, true, false, not, cond, List, [], ◌∷◌, ◌++◌, length, Option, Some, None, refl, sym, ap, subst, ◌∙◌}
use Rattle.std.specs.Prelude.{◌&&◌, ◌||◌, nat_lt, nat_eq, codes, if◌then◌else◌}
use Rattle.std.specs.Cmp.{first_so, second_so}
use Rattle.std.specs.List.{slice_split, onto_first, list_any, list_all, starts_with}
use Rattle.std.specs.Option.{is_some}
use Rattle.std.proofs.Math.Bool.{and-false}
use Rattle.std.proofs.lemmas.Bool.{or_parts, not-true}
use borrow.Author.Tests.{eqb-true}
use Rattle.acap_entries.specs.Names.{tab, minus, has, begins_with, group_prefix, is_identity, is_user_name, is_component}
use Rattle.acap_entries.specs.Orders.{octets_eq}
use Rattle.acap_rights.specs.Pairs.{Pair, form_of, is_tab, is_letter, is_identifier, pair_in, pair_of, IsPair}

tab_no_letter : (xs : List ℕ) → list_any is_tab xs ≡ true → list_all is_letter xs ≡ false
tab_no_letter [] = λ h. cc
tab_no_letter (x ∷ xs) = elim (is_tab x) as (λ b. is_tab x ≡ b → (b || list_any is_tab xs) ≡ true → (is_letter x && list_all is_letter xs) ≡ false) [
  | true ↦ λ t h. let e : x ≡ 9 = eqb-true x 9 t in rw e refl
  | false ↦ λ t h. let rest = tab_no_letter xs h in rw rest (and-false (is_letter x))
] refl

-- a text without TAB is one part
whole : (xs : List ℕ) → list_any is_tab xs ≡ false → slice_split is_tab xs ≡ xs ∷ []
whole [] = λ h. refl
whole (x ∷ xs) = elim (is_tab x) as (λ b. (b || list_any is_tab xs) ≡ false → cond b ([] ∷ slice_split is_tab xs) (onto_first x (slice_split is_tab xs)) ≡ (x ∷ xs) ∷ []) [
  | true ↦ λ h. cc
  | false ↦ λ h. ap (onto_first x) (whole xs h)
]

-- every text has a first part, one with a TAB a second
one_part : (xs : List ℕ) → (p : List ℕ) × (ps : List (List ℕ)) × (slice_split is_tab xs ≡ p ∷ ps)
one_part [] = ([], [], refl)
one_part (x ∷ xs) = elim (is_tab x) as (λ b. (p : List ℕ) × (ps : List (List ℕ)) × (cond b ([] ∷ slice_split is_tab xs) (onto_first x (slice_split is_tab xs)) ≡ p ∷ ps)) [
  | true ↦ ([], slice_split is_tab xs, refl)
  | false ↦ let rest = one_part xs in (x ∷ rest.0, rest.1, ap (onto_first x) rest.2)
]

two_parts : (xs : List ℕ) → list_any is_tab xs ≡ true → (p q : List ℕ) × (ps : List (List ℕ)) × (slice_split is_tab xs ≡ p ∷ q ∷ ps)
two_parts [] = λ h. cc
two_parts (x ∷ xs) = elim (is_tab x) as (λ b. (b || list_any is_tab xs) ≡ true → (p q : List ℕ) × (ps : List (List ℕ)) × (cond b ([] ∷ slice_split is_tab xs) (onto_first x (slice_split is_tab xs)) ≡ p ∷ q ∷ ps)) [
  | true ↦ λ h. let rest = one_part xs in ([], rest.0, rest.1, ap (λ parts. [] ∷ parts) rest.2)
  | false ↦ λ h. let rest = two_parts xs h in (x ∷ rest.0, rest.1, rest.2, ap (onto_first x) rest.3)
]

-- what the identifier before a TAB and all that stands after it say
abbrev said : List ℕ → List ℕ → Option Pair
said identifier letters = if is_identifier identifier && list_all is_letter letters then Some (record { identifier = identifier; letters = letters }) else None

pub pair_behind : (identifier letters : List ℕ) → pair_in (identifier ∷ slice_split is_tab letters) ≡ (if is_identifier identifier && list_all is_letter letters then Some (record { identifier = identifier; letters = letters }) else None)
pair_behind identifier letters = elim (list_any is_tab letters) as (λ b. list_any is_tab letters ≡ b → pair_in (identifier ∷ slice_split is_tab letters) ≡ said identifier letters) [
  | true ↦ λ h.
      let parts = two_parts letters h in
      let none : (is_identifier identifier && list_all is_letter letters) ≡ false = rw (tab_no_letter letters h) (and-false (is_identifier identifier)) in
      ap (λ ps. pair_in (identifier ∷ ps)) parts.3 ∙ sym (ap (λ b. if b then Some (record { identifier = identifier; letters = letters }) else None) none)
  | false ↦ λ h. ap (λ ps. pair_in (identifier ∷ ps)) (whole letters h)
] refl

pub none_behind : (identifier letters : List ℕ) → (is_identifier identifier && list_all is_letter letters) ≡ false → pair_in (identifier ∷ slice_split is_tab letters) ≡ None
none_behind identifier letters h = pair_behind identifier letters ∙ ap (λ b. if b then Some (record { identifier = identifier; letters = letters }) else None) h

-- a text, TAB and a text
before_tab : (xs ys : List ℕ) → list_any is_tab xs ≡ false → slice_split is_tab (xs ++ tab ∷ ys) ≡ xs ∷ slice_split is_tab ys
before_tab [] ys = λ h. refl
before_tab (x ∷ xs) ys = elim (is_tab x) as (λ b. (b || list_any is_tab xs) ≡ false → cond b ([] ∷ slice_split is_tab (xs ++ tab ∷ ys)) (onto_first x (slice_split is_tab (xs ++ tab ∷ ys))) ≡ (x ∷ xs) ∷ slice_split is_tab ys) [
  | true ↦ λ h. cc
  | false ↦ λ h. ap (onto_first x) (before_tab xs ys h)
]

three_parts : (xs ys : List ℕ) → list_any is_tab xs ≡ true → (p q r : List ℕ) × (ps : List (List ℕ)) × (slice_split is_tab (xs ++ tab ∷ ys) ≡ p ∷ q ∷ r ∷ ps)
three_parts [] ys = λ h. cc
three_parts (x ∷ xs) ys = elim (is_tab x) as (λ b. is_tab x ≡ b → (b || list_any is_tab xs) ≡ true → (p q r : List ℕ) × (ps : List (List ℕ)) × (cond b ([] ∷ slice_split is_tab (xs ++ tab ∷ ys)) (onto_first x (slice_split is_tab (xs ++ tab ∷ ys))) ≡ p ∷ q ∷ r ∷ ps)) [
  | true ↦ λ t h. let rest = two_parts (xs ++ tab ∷ ys) (behind xs ys) in ([], rest.0, rest.1, rest.2, ap (λ parts. [] ∷ parts) rest.3)
  | false ↦ λ t h. let rest = three_parts xs ys h in (x ∷ rest.0, rest.1, rest.2, rest.3, ap (onto_first x) rest.4)
] refl where
  behind : (xs ys : List ℕ) → list_any is_tab (xs ++ tab ∷ ys) ≡ true
  behind [] ys = refl
  behind (x ∷ xs) ys = elim (is_tab x) as (λ b. (b || list_any is_tab (xs ++ tab ∷ ys)) ≡ true) [ true ↦ refl | false ↦ behind xs ys ]

untabbed : (xs : List ℕ) → list_any is_tab xs ≡ true → is_identifier xs ≡ false
unfolding is_identifier
untabbed xs h = rw h (and-false (nat_lt 0 (length xs) && not (octets_eq xs (codes "-"))))

-- the string of any two texts says them where they are an identifier and letters, and nothing else
pub pair_of_form : (identifier letters : List ℕ) → pair_of (form_of (record { identifier = identifier; letters = letters })) ≡ (if is_identifier identifier && list_all is_letter letters then Some (record { identifier = identifier; letters = letters }) else None)
unfolding pair_of
pair_of_form identifier letters = elim (list_any is_tab identifier) as (λ b. list_any is_tab identifier ≡ b → pair_in (slice_split is_tab (identifier ++ tab ∷ letters)) ≡ said identifier letters) [
  | true ↦ λ h.
      let parts = three_parts identifier letters h in
      ap pair_in parts.4 ∙ sym (ap (λ b. if b && list_all is_letter letters then Some (record { identifier = identifier; letters = letters }) else None) (untabbed identifier h))
  | false ↦ λ h. ap pair_in (before_tab identifier letters h) ∙ pair_behind identifier letters
] refl

-- whether they make a string of a list
some_if : (b : Bool) (pair : Pair) → is_some (if b then Some pair else None) ≡ b
some_if true pair = refl
some_if false pair = refl

pub makes_pair : (identifier letters : List ℕ) → is_some (pair_of (form_of (record { identifier = identifier; letters = letters }))) ≡ (is_identifier identifier && list_all is_letter letters)
makes_pair identifier letters = ap is_some (pair_of_form identifier letters) ∙ some_if (is_identifier identifier && list_all is_letter letters) _

-- a text whose first part is followed by others has a TAB after it
rejoined : (xs p q : List ℕ) (ps : List (List ℕ)) → slice_split is_tab xs ≡ p ∷ q ∷ ps → (ys : List ℕ) × (xs ≡ p ++ tab ∷ ys) × (slice_split is_tab ys ≡ q ∷ ps)
rejoined [] p q ps = λ h. cc
rejoined (x ∷ xs) p q ps = elim (is_tab x) as (λ b. is_tab x ≡ b → cond b ([] ∷ slice_split is_tab xs) (onto_first x (slice_split is_tab xs)) ≡ p ∷ q ∷ ps → (ys : List ℕ) × (x ∷ xs ≡ p ++ tab ∷ ys) × (slice_split is_tab ys ≡ q ∷ ps)) [
  | true ↦ λ t h.
      let e : x ≡ 9 = eqb-true x 9 t in
      let none : [] ≡ p = cc in
      let rest : slice_split is_tab xs ≡ q ∷ ps = cc in
      (xs, rw (← none, e) refl, rest)
  | false ↦ λ t h.
      let parts = one_part xs in
      let first : x ∷ parts.0 ≡ p = cc in
      let others : parts.1 ≡ q ∷ ps = cc in
      let rest = rejoined xs parts.0 q ps (parts.2 ∙ ap (λ os. parts.0 ∷ os) others) in
      (rest.0, ap (λ zs. x ∷ zs) rest.1 ∙ ap (λ zs. zs ++ tab ∷ rest.0) first, rest.2)
] refl

only_part : (xs p : List ℕ) → slice_split is_tab xs ≡ p ∷ [] → xs ≡ p
only_part xs p h = elim (list_any is_tab xs) as (λ b. list_any is_tab xs ≡ b → xs ≡ p) [
  | true ↦ λ t. let parts = two_parts xs t in let e = parts.3 in cc
  | false ↦ λ t. let e = whole xs t in cc
] refl

of_two : (text identifier letters : List ℕ) (pair : Pair) → slice_split is_tab text ≡ identifier ∷ letters ∷ [] → said identifier letters ≡ Some pair → IsPair text pair
of_two text identifier letters pair s = elim (is_identifier identifier && list_all is_letter letters) as (λ b. (is_identifier identifier && list_all is_letter letters) ≡ b → (if b then Some (record { identifier = identifier; letters = letters }) else None) ≡ Some pair → IsPair text pair) [
  | true ↦ λ t h.
      let parts = rejoined text identifier letters [] s in
      let rest = only_part parts.0 letters parts.2 in
      let same : record { identifier = identifier; letters = letters } ≡ pair = cc in
      subst (IsPair text) same (record { form = parts.1 ∙ ap (λ ys. identifier ++ tab ∷ ys) rest; identifier = first_so _ _ t; letters = second_so _ _ t })
  | false ↦ λ t h. cc
] refl

in_parts : (text : List ℕ) (parts : List (List ℕ)) (pair : Pair) → slice_split is_tab text ≡ parts → pair_in parts ≡ Some pair → IsPair text pair
in_parts text [] pair s h = cc
in_parts text (identifier ∷ []) pair s h = cc
in_parts text (identifier ∷ letters ∷ []) pair s h = of_two text identifier letters pair s h
in_parts text (identifier ∷ letters ∷ more ∷ others) pair s h = cc

pub is_form : (text : List ℕ) (pair : Pair) → pair_of text ≡ Some pair → IsPair text pair
unfolding pair_of
is_form text pair h = in_parts text (slice_split is_tab text) pair refl h

-- the name of a user is an identifier, and doesn't begin with `-`
unsigned : (xs : List ℕ) → begins_with minus xs ≡ false → octets_eq xs (codes "-") ≡ false
unsigned [] h = refl
unsigned (x ∷ xs) h = rw h refl

pub user_unsigned : (name : List ℕ) → is_user_name name ≡ true → begins_with minus name ≡ false
unfolding is_identity is_user_name
user_unsigned name h = not-true _ (second_so _ _ (first_so _ _ h))

-- neither is it `anyone`, nor a group's identifier
pub user_someone : (name : List ℕ) → is_user_name name ≡ true → octets_eq name (codes "anyone") ≡ false
unfolding is_identity is_user_name
user_someone name h = (or_parts _ _ (or_parts _ _ (not-true _ (second_so _ _ h))).0).0

pub user_ungrouped : (name : List ℕ) → is_user_name name ≡ true → starts_with nat_eq name group_prefix ≡ false
unfolding is_identity is_user_name
user_ungrouped name h = (or_parts _ _ (not-true _ (second_so _ _ h))).1

pub user_identifier : (name : List ℕ) → is_user_name name ≡ true → is_identifier name ≡ true
unfolding is_identity is_user_name is_identifier is_component
user_identifier name h =
    let signed = first_so _ _ h in
    let tabbed = first_so _ _ signed in
    let component = first_so _ _ (first_so _ _ (first_so _ _ tabbed)) in
    let some : nat_lt 0 (length name) ≡ true = first_so _ _ (first_so _ _ (first_so _ _ (first_so _ _ component))) in
    let alone : octets_eq name (codes "-") ≡ false = unsigned name (not-true _ (second_so _ _ signed)) in
    let free : not (has tab name) ≡ true = second_so _ _ tabbed in
    rw (some, alone, free) refl

pub is_said : (text : List ℕ) (pair : Pair) → IsPair text pair → pair_of text ≡ Some pair
is_said text pair h = ap pair_of h.form ∙ (pair_of_form pair.identifier pair.letters ∙ rw (h.identifier, h.letters) refl)
