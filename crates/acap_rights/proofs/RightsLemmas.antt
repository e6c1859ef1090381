-- The laws of what lists give and take, and of the implicit rights.
use Rattle.std.proofs.Common.{◌≡◌, ◌≢◌, ℕ, Bool, true, false, not, List, [], ◌∷◌, ◌++◌, length, Some, None, refl, sym, ap, ◌∙◌, arith}
use Rattle.std.specs.Prelude.{◌&&◌, ◌||◌, codes, nat_lt, if◌then◌else◌}
use Rattle.std.specs.Cmp.{second_so}
use Rattle.std.specs.Option.{option_map_or}
use Rattle.std.proofs.lemmas.Bool.Decides.{nat_tests}
use Rattle.std.specs.Cmp.Lexicographic.{bytes_decides}
use Rattle.std.specs.List.{list_any, list_all}
use Rattle.std.proofs.lemmas.List.Sorted.{list_any-IsPermutation}
use Rattle.std.proofs.Math.Bool.{or-false, or-true}
use Rattle.acap_entries.specs.Names.{tab, minus, slash, has, begins_with, components, group_prefix, is_user_name}
use Rattle.acap_entries.specs.Orders.{octets_eq}
use Rattle.acap_entries.specs.Store.{Stored}
use Rattle.acap_rights.specs.Deciding.{Target, dataset_in, deciding_list, implicit_rights, rights_of}
use Rattle.acap_rights.specs.Homes.{home_of, is_owner, third_of}
use Rattle.acap_rights.specs.Laws.{WhomLaw, NegativeLaw, OrderLaw, AdministratorLaw, OwnerLaw, common}
use Rattle.acap_rights.specs.Pairs.{string_of, Pair, pair_of, says, gives, takes, rights_given, rights_taken, rights_in, is_identifier, is_letter}
use Rattle.acap_rights.specs.Realms.{names, names_in_group, is_administrator}
use Rattle.acap_rights.specs.Rights.{rights_by, no_rights, all_rights, less, union}
use Rattle.acap_rights.specs.declared.realm.Realm.{Realm}
use Rattle.acap_rights.specs.declared.rights.Rights.{Rights}
use Rattle.acap_rights.proofs.GrantLemmas.{named_all}
use Rattle.acap_rights.proofs.PairLemmas.{pair_of_form, user_unsigned, user_identifier}

pub by_letter : (f g : ℕ → Bool) → ((letter : ℕ) → f letter ≡ g letter) → rights_by f ≡ rights_by g
by_letter f g h = λ i. record { x = h 120 i; r = h 114 i; w = h 119 i; i = h 105 i; a = h 97 i }

-- ---- the order of strings

pub order_law : OrderLaw
unfolding rights_in
order_law realm user acl other h =
    let given_same : rights_given realm user acl ≡ rights_given realm user other = by_letter _ _ (λ letter. list_any-IsPermutation (says (gives realm user letter)) acl other h) in
    let taken_same : rights_taken realm user acl ≡ rights_taken realm user other = by_letter _ _ (λ letter. list_any-IsPermutation (says (takes realm user letter)) acl other h) in
    λ i. less (given_same i) (taken_same i)

-- ---- what is taken

any_there : (test : List ℕ → Bool) (front back : List (List ℕ)) (text : List ℕ) → test text ≡ true → list_any test (front ++ text ∷ back) ≡ true
any_there test [] back text h = rw h refl
any_there test (x ∷ front) back text h = rw (any_there test front back text h) (or-true (test x))

blocked : (g : Bool) (test : List ℕ → Bool) (front back : List (List ℕ)) (text : List ℕ) → ((g && not (list_any test (front ++ text ∷ back))) && (test text || false)) ≡ false
blocked g test front back text = elim (test text) as (λ b. test text ≡ b → ((g && not (list_any test (front ++ text ∷ back))) && (b || false)) ≡ false) [
  | true ↦ λ h. rw (any_there test front back text h) (elim g as (λ b. ((b && false) && true) ≡ false) [ true ↦ refl | false ↦ refl ])
  | false ↦ λ h. elim (g && not (list_any test (front ++ text ∷ back))) as (λ b. (b && false) ≡ false) [ true ↦ refl | false ↦ refl ]
] refl

pub taken_here : (realm : Realm) (user : List ℕ) (front back : List (List ℕ)) (text : List ℕ) → common (rights_in realm user (front ++ text ∷ back)) (rights_taken realm user (text ∷ [])) ≡ no_rights
unfolding rights_in
taken_here realm user front back text =
    let all = front ++ text ∷ back in
    let held : (letter : ℕ) → ((list_any (says (gives realm user letter)) all && not (list_any (says (takes realm user letter)) all)) && (says (takes realm user letter) text || false)) ≡ false =
    λ letter. blocked (list_any (says (gives realm user letter)) all) (says (takes realm user letter)) front back text in
    λ i. record { x = held 120 i; r = held 114 i; w = held 119 i; i = held 105 i; a = held 97 i }

kept_off : (r i t : Bool) → (r && t) ≡ false → (((r || i) && not i) && t) ≡ false
kept_off true true t h = refl
kept_off true false t h = h
kept_off false true t h = refl
kept_off false false t h = refl

taken_there : (rights implicit away : Rights) → common rights away ≡ no_rights → common (less (union rights implicit) implicit) away ≡ no_rights
taken_there p q t h = λ i. record {
  x = kept_off p.x q.x t.x (ap (λ (s : Rights). s.x) h) i;
  r = kept_off p.r q.r t.r (ap (λ (s : Rights). s.r) h) i;
  w = kept_off p.w q.w t.w (ap (λ (s : Rights). s.w) h) i;
  i = kept_off p.i q.i t.i (ap (λ (s : Rights). s.i) h) i;
  a = kept_off p.a q.a t.a (ap (λ (s : Rights). s.a) h) i;
}

on_object : (records : Stored) (realm : Realm) (user : List ℕ) (target : Target) (front back : List (List ℕ)) (text : List ℕ) → deciding_list records target ≡ front ++ text ∷ back → common (less (rights_of records realm user target) (implicit_rights realm user (dataset_in target))) (rights_taken realm user (text ∷ [])) ≡ no_rights
unfolding rights_of
on_object records realm user target front back text h =
    rw h (taken_there (rights_in realm user (front ++ text ∷ back)) (implicit_rights realm user (dataset_in target)) (rights_taken realm user (text ∷ [])) (taken_here realm user front back text))

pub negative_law : NegativeLaw
negative_law = record { in_list = taken_here; on_object = on_object }

-- ---- the implicit rights

pub administrator_law : AdministratorLaw
unfolding rights_of implicit_rights
administrator_law records realm user target h =
    let rights = rights_in realm user (deciding_list records target) in
    rw h (λ i. record { x = or-true rights.x i; r = or-true rights.r i; w = or-true rights.w i; i = or-true rights.i i; a = or-true rights.a i })

reads : (records : Stored) (realm : Realm) (user : List ℕ) (target : Target) → is_owner user (dataset_in target) ≡ true → (rights_of records realm user target).r ≡ true
unfolding rights_of implicit_rights
reads records realm user target h = rw h (elim (is_administrator realm user) as (λ b. ((rights_in realm user (deciding_list records target)).r || (if b then all_rights else record { x = false; r = true; w = false; i = false; a = true }).r) ≡ true) [
  | true ↦ or-true (rights_in realm user (deciding_list records target)).r
  | false ↦ or-true (rights_in realm user (deciding_list records target)).r
])

administers : (records : Stored) (realm : Realm) (user : List ℕ) (target : Target) → is_owner user (dataset_in target) ≡ true → (rights_of records realm user target).a ≡ true
unfolding rights_of implicit_rights
administers records realm user target h = rw h (elim (is_administrator realm user) as (λ b. ((rights_in realm user (deciding_list records target)).a || (if b then all_rights else record { x = false; r = true; w = false; i = false; a = true }).a) ≡ true) [
  | true ↦ or-true (rights_in realm user (deciding_list records target)).a
  | false ↦ or-true (rights_in realm user (deciding_list records target)).a
])

held : (b c : Bool) → (if b then c else false) ≡ true → (b ≡ true) × (c ≡ true)
held true c e = (refl, e)
held false c e = absurd (cc (e))

nobody_else : (user dataset : List ℕ) → is_owner user dataset ≡ true → (home_of dataset ≡ Some user) × (is_user_name user ≡ true)
unfolding is_owner
nobody_else user dataset h = elim (home_of dataset) as (λ o. option_map_or (λ name. if is_user_name name then octets_eq name user else false) o false ≡ true → (o ≡ Some user) × (is_user_name user ≡ true)) [
  | None ↦ λ e. absurd (cc (e))
  | Some name ↦ λ e. let parts = held _ _ e in let same : name ≡ user = (bytes_decides name user).0 parts.1 in (ap Some same, sym (ap is_user_name same) ∙ parts.0)
] h

third_is : (parts : List (List ℕ)) (name : List ℕ) → third_of parts ≡ Some name → (class : List ℕ) × (others : List (List ℕ)) × (parts ≡ class ∷ codes "user" ∷ name ∷ others)
third_is [] name h = absurd (cc (h))
third_is (class ∷ []) name h = absurd (cc (h))
third_is (class ∷ second ∷ []) name h = absurd (cc (h))
third_is (class ∷ second ∷ third ∷ others) name given_third = elim (octets_eq second (codes "user")) as (λ b. octets_eq second (codes "user") ≡ b → (if b then Some third else None) ≡ Some name →
    (class' : List ℕ) × (others' : List (List ℕ)) × (class ∷ second ∷ third ∷ others ≡ class' ∷ codes "user" ∷ name ∷ others')) [
      | true ↦ λ e h. let user : second ≡ codes "user" = (bytes_decides second (codes "user")).0 e in let same : third ≡ name = cc (h) in (class, others, λ i. class ∷ user i ∷ same i ∷ others)
      | false ↦ λ e h. absurd (cc (h))
    ] refl given_third

home : (dataset name : List ℕ) → home_of dataset ≡ Some name → (class : List ℕ) × (others : List (List ℕ)) × (components dataset ≡ class ∷ codes "user" ∷ name ∷ others)
unfolding home_of
home dataset name = elim (begins_with slash dataset) as (λ b. (if b then third_of (components dataset) else None) ≡ Some name → (class : List ℕ) × (others : List (List ℕ)) × (components dataset ≡ class ∷ codes "user" ∷ name ∷ others))
    [ true ↦ λ h. third_is (components dataset) name h | false ↦ λ h. absurd (cc (h)) ]

implied : (realm : Realm) (user dataset : List ℕ) (b : Bool) → is_administrator realm user ≡ false → is_owner user dataset ≡ b
    → implicit_rights realm user dataset ≡ (if b then record { x = false; r = true; w = false; i = false; a = true } else no_rights)
unfolding implicit_rights
implied realm user dataset b e f i = if e i then all_rights else if f i then record { x = false; r = true; w = false; i = false; a = true } else no_rights

pub owner_law : OwnerLaw
owner_law = record {
  reads = reads;
  administers = administers;
  nobody_else = nobody_else;
  home = home;
  no_more = λ realm user dataset e f. implied realm user dataset true e f;
  no_other = λ realm user dataset e f. implied realm user dataset false e f;
}

-- ---- whom pairs are about

pub same_text : (text : List ℕ) → octets_eq text text ≡ true
same_text text = (bytes_decides text text).1 refl

other_text : (one two : List ℕ) → one ≢ two → octets_eq one two ≡ false
other_text one two h = elim (octets_eq one two) as (λ b. octets_eq one two ≡ b → octets_eq one two ≡ false) [
  | true ↦ λ e. absurd (h ((bytes_decides one two).0 e))
  | false ↦ λ e. e
] refl

named_self : (realm : Realm) (user : List ℕ) → names realm user user ≡ true
unfolding names
named_self realm user = rw (same_text user) refl

named_other : (realm : Realm) (user identifier : List ℕ) → identifier ≢ user → identifier ≢ codes "anyone" → names_in_group realm user identifier ≡ false → names realm user identifier ≡ false
unfolding names
named_other realm user identifier h k g = rw (other_text identifier user h, other_text identifier (codes "anyone") k, g) refl

pub named_group : (realm : Realm) (user identifier : List ℕ) → names_in_group realm user identifier ≡ true → names realm user identifier ≡ true
unfolding names
named_group realm user identifier g = rw g (or-true _)

-- the identifier of a group, without `-` and with it
pub group_identifier : (name : List ℕ) → is_user_name name ≡ true → is_identifier (group_prefix ++ name) ≡ true
unfolding is_identifier
group_identifier name h =
    let free : not (has tab name) ≡ true = second_so _ _ (user_identifier name h) in
    let some : nat_lt 0 (length (group_prefix ++ name)) ≡ true = grind (arith, nat_tests) in
    rw (some, free) refl

pub group_signed : (name : List ℕ) → is_user_name name ≡ true → is_identifier (minus ∷ group_prefix ++ name) ≡ true
unfolding is_identifier
group_signed name h =
    let free : not (has tab name) ≡ true = second_so _ _ (user_identifier name h) in
    let some : nat_lt 0 (length (minus ∷ group_prefix ++ name)) ≡ true = grind (arith, nat_tests) in
    rw (some, free) refl

-- what a single string says of a letter
one_says : (test : Pair → Bool) (identifier letters : List ℕ) → is_identifier identifier ≡ true → list_all is_letter letters ≡ true → (says test (string_of identifier letters) || false) ≡ test (record { identifier = identifier; letters = letters })
one_says test identifier letters h k =
    let said : pair_of (string_of identifier letters) ≡ Some (record { identifier = identifier; letters = letters }) = pair_of_form identifier letters ∙ rw (h, k) refl in
    rw said (or-false (test (record { identifier = identifier; letters = letters })))

no_said : (test : Pair → Bool) (pair : Pair) (b : Bool) → test pair ≡ false → (option_map_or test (if b then Some pair else None) false || false) ≡ false
no_said test pair true h = rw h refl
no_said test pair false h = refl

pub none_says : (test : Pair → Bool) (identifier letters : List ℕ) → test (record { identifier = identifier; letters = letters }) ≡ false → (says test (string_of identifier letters) || false) ≡ false
none_says test identifier letters h = rw (pair_of_form identifier letters) (no_said test (record { identifier = identifier; letters = letters }) (is_identifier identifier && list_all is_letter letters) h)

and_middle : (x y : Bool) → ((x && false) && y) ≡ false
and_middle true y = refl
and_middle false y = refl

pub signed_identifier : (name : List ℕ) → is_user_name name ≡ true → is_identifier (minus ∷ name) ≡ true
unfolding is_identifier
signed_identifier [] h = let e = user_identifier [] h in cc
signed_identifier (x ∷ name) h =
    let free : not (has tab (x ∷ name)) ≡ true = second_so _ _ (user_identifier (x ∷ name) h) in
    let some : nat_lt 0 (length (minus ∷ x ∷ name)) ≡ true = grind (arith, nat_tests) in
    rw (some, free) refl

-- what a list of one string gives, and what it takes
given_one : (realm : Realm) (user identifier letters : List ℕ) (by : ℕ → Bool) → is_identifier identifier ≡ true → list_all is_letter letters ≡ true → ((letter : ℕ) → gives realm user letter (record { identifier = identifier; letters = letters }) ≡ by letter) → rights_given realm user (string_of identifier letters ∷ []) ≡ rights_by by
given_one realm user identifier letters by h k each = by_letter (λ letter. list_any (says (gives realm user letter)) (string_of identifier letters ∷ [])) by (λ letter. one_says (gives realm user letter) identifier letters h k ∙ each letter)

pub taken_one : (realm : Realm) (user identifier letters : List ℕ) (by : ℕ → Bool) → is_identifier identifier ≡ true → list_all is_letter letters ≡ true → ((letter : ℕ) → takes realm user letter (record { identifier = identifier; letters = letters }) ≡ by letter) → rights_taken realm user (string_of identifier letters ∷ []) ≡ rights_by by
taken_one realm user identifier letters by h k each = by_letter (λ letter. list_any (says (takes realm user letter)) (string_of identifier letters ∷ [])) by (λ letter. one_says (takes realm user letter) identifier letters h k ∙ each letter)

pub given_none : (realm : Realm) (user identifier letters : List ℕ) → ((letter : ℕ) → gives realm user letter (record { identifier = identifier; letters = letters }) ≡ false) → rights_given realm user (string_of identifier letters ∷ []) ≡ no_rights
given_none realm user identifier letters each = by_letter (λ letter. list_any (says (gives realm user letter)) (string_of identifier letters ∷ [])) (λ letter. false) (λ letter. none_says (gives realm user letter) identifier letters (each letter))

pub taken_none : (realm : Realm) (user identifier letters : List ℕ) → ((letter : ℕ) → takes realm user letter (record { identifier = identifier; letters = letters }) ≡ false) → rights_taken realm user (string_of identifier letters ∷ []) ≡ no_rights
taken_none realm user identifier letters each = by_letter (λ letter. list_any (says (takes realm user letter)) (string_of identifier letters ∷ [])) (λ letter. false) (λ letter. none_says (takes realm user letter) identifier letters (each letter))

all_identifier : is_identifier (codes "anyone") ≡ true
unfolding is_identifier
all_identifier = refl

none_identifier : is_identifier (codes "-anyone") ≡ true
unfolding is_identifier
none_identifier = refl

pub whom_law : WhomLaw
whom_law = record {
  own = λ realm user letters h k. given_one realm user user letters (λ letter. has letter letters) (user_identifier user h) k (λ letter. rw (user_unsigned user h, named_self realm user) refl);
  shared = λ realm user letters k. given_one realm user (codes "anyone") letters (λ letter. has letter letters) all_identifier k (λ letter. rw (named_all realm user) refl);
  own_taken = λ realm user letters h k. taken_one realm user (minus ∷ user) letters (λ letter. has letter letters) (signed_identifier user h) k (λ letter. rw (named_self realm user) refl);
  shared_taken = λ realm user letters k. taken_one realm user (codes "-anyone") letters (λ letter. has letter letters) none_identifier k (λ letter. rw (named_all realm user) refl);
  of_group = λ realm user name letters h g k. given_one realm user (group_prefix ++ name) letters (λ letter. has letter letters) (group_identifier name h) k (λ letter. rw (named_group realm user (group_prefix ++ name) g) refl);
  of_group_taken = λ realm user name letters h g k. taken_one realm user (minus ∷ group_prefix ++ name) letters (λ letter. has letter letters) (group_signed name h) k (λ letter. rw (named_group realm user (group_prefix ++ name) g) refl);
  of_another = λ realm user identifier letters h k g. given_none realm user identifier letters (λ letter. rw (named_other realm user identifier h k g) (and_middle (not (begins_with minus identifier)) (has letter letters)));
  taken_from_another = λ realm user identifier letters h k g. taken_none realm user (minus ∷ identifier) letters (λ letter. rw (named_other realm user identifier h k g) refl);
}
