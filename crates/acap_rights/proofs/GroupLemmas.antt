-- Lists that name groups, and the same written out for the members.
use Rattle.std.proofs.Common.{◌≡◌, ℕ, Bool, true, false, not, List, [], ◌∷◌, ◌++◌, map, drop, Some, None, refl, sym, ap, ◌∙◌}
use Rattle.std.specs.Prelude.{◌&&◌, ◌||◌, nat_eq, codes, if◌then◌else◌}
use Rattle.std.specs.Cmp.Lexicographic.{bytes_decides}
use Rattle.std.specs.List.{flat_map, list_any, list_all, starts_with}
use Rattle.std.specs.Option.{option_map_or}
use Rattle.std.proofs.lemmas.Bool.{and_parts}
use Rattle.std.proofs.lemmas.Bool.Decides.{Decides-eqb}
use Rattle.std.proofs.lemmas.List.Folds.{list_any-append, list_all-append}
use Rattle.std.proofs.lemmas.Slice.Eq.{starts_is}
use Rattle.std.proofs.Math.Bool.{or-false}
use Rattle.acap_entries.specs.Names.{minus, has, begins_with, group_prefix, is_user_name}
use Rattle.acap_entries.specs.Orders.{octets_eq}
use Rattle.acap_rights.specs.Groups.{GroupLaw, without_groups, members_of, pair_written_out, written_out, are_users}
use Rattle.acap_rights.specs.Laws.{common}
use Rattle.acap_rights.specs.Pairs.{string_of, Pair, pair_of, says, gives, takes, rights_in, is_identifier, is_letter}
use Rattle.acap_rights.specs.Realms.{has_member, names, names_in_group}
use Rattle.acap_rights.specs.Rights.{less}
use Rattle.acap_rights.specs.declared.group.Group.{Group}
use Rattle.acap_rights.specs.declared.realm.Realm.{Realm}
use Rattle.acap_rights.proofs.PairLemmas.{is_form, pair_of_form, user_unsigned, user_identifier, user_someone, user_ungrouped}
use Rattle.acap_rights.proofs.RealmLemmas.{in_no_group}
use Rattle.acap_rights.proofs.RightsLemmas.{by_letter, none_says, signed_identifier, group_signed, named_group, taken_here, taken_one, given_none, taken_none}

-- a test over lists joined
any_joined : {X Y : Type 0} (p : Y → Bool) (q : X → Bool) (f : X → List Y) (xs : List X) → ((x : X) → q x ≡ list_any p (f x)) → list_any q xs ≡ list_any p (flat_map f xs)
any_joined p q f [] each = refl
any_joined p q f (x ∷ xs) each = (λ i. each x i || any_joined p q f xs each i) ∙ sym (list_any-append p (f x) (flat_map f xs))

-- an identifier that begins as a group's does
grouped : (identifier : List ℕ) → starts_with nat_eq identifier group_prefix ≡ true → identifier ≡ group_prefix ++ drop 6 identifier
grouped identifier h = (starts_is {A = ℕ} {E = nat_eq} Decides-eqb identifier group_prefix (starts_with nat_eq identifier group_prefix) refl).0 h

-- and one that doesn't names nobody in a group
ungrouped : (realm : Realm) (user identifier : List ℕ) → starts_with nat_eq identifier group_prefix ≡ false → names_in_group realm user identifier ≡ false
ungrouped realm user identifier h = in_no_group realm user identifier (λ rest e.
    let begins : starts_with nat_eq identifier group_prefix ≡ true = (starts_is {A = ℕ} {E = nat_eq} Decides-eqb identifier group_prefix (starts_with nat_eq identifier group_prefix) refl).1 rest e in
    cc)

-- groups or none, it names the same
names_alike : (realm : Realm) (user identifier : List ℕ) → starts_with nat_eq identifier group_prefix ≡ false → names realm user identifier ≡ names (without_groups realm) user identifier
unfolding names
names_alike realm user identifier h = ap (λ b. octets_eq identifier user || octets_eq identifier (codes "anyone") || b) (ungrouped realm user identifier h)

-- whom a group's identifier names: the members of the groups of its name
in_one : (user name : List ℕ) (g : Group) → (octets_eq name g.name && has_member user g) ≡ list_any (λ member. octets_eq member user) (if octets_eq name g.name then g.members else [])
in_one user name g = elim (octets_eq name g.name) as (λ b. (b && has_member user g) ≡ list_any (λ member. octets_eq member user) (if b then g.members else [])) [ true ↦ refl | false ↦ refl ]

in_groups : (realm : Realm) (user name : List ℕ) → names_in_group realm user (group_prefix ++ name) ≡ list_any (λ member. octets_eq member user) (members_of realm name)
in_groups realm user name = any_joined (λ member. octets_eq member user) (λ g. octets_eq name g.name && has_member user g) (λ g. if octets_eq name g.name then g.members else []) realm.groups (in_one user name)

other_user : (user name : List ℕ) → is_user_name user ≡ true → octets_eq (group_prefix ++ name) user ≡ false
other_user user name h = elim (octets_eq (group_prefix ++ name) user) as (λ b. octets_eq (group_prefix ++ name) user ≡ b → b ≡ false) [
  | true ↦ λ e.
      let same : group_prefix ++ name ≡ user = (bytes_decides (group_prefix ++ name) user).0 e in
      let begins : starts_with nat_eq user group_prefix ≡ true = (starts_is {A = ℕ} {E = nat_eq} Decides-eqb user group_prefix (starts_with nat_eq user group_prefix) refl).1 name (sym same) in
      let not_so = user_ungrouped user h in
      cc
  | false ↦ λ e. refl
] refl

named : (realm : Realm) (user identifier : List ℕ) → is_user_name user ≡ true → starts_with nat_eq identifier group_prefix ≡ true
    → names realm user identifier ≡ list_any (λ member. octets_eq member user) (members_of realm (drop 6 identifier))
unfolding names
named realm user identifier u h =
    let form = grouped identifier h in
    let one = other_user user (drop 6 identifier) u in
    ap (λ text. octets_eq text user || octets_eq text (codes "anyone") || names_in_group realm user text) form
    ∙ (rw one refl ∙ in_groups realm user (drop 6 identifier))

-- a member's own string, in a realm without groups
member_named : (realm : Realm) (user member : List ℕ) → is_user_name member ≡ true → names (without_groups realm) user member ≡ octets_eq member user
unfolding names
member_named realm user member h = rw (user_someone member h) (or-false (octets_eq member user || false) ∙ or-false (octets_eq member user))

-- the members of groups of users are users
all_users : (name : List ℕ) (groups : List Group) → list_all (λ (g : Group). list_all is_user_name g.members) groups ≡ true → list_all is_user_name (flat_map (λ g. if octets_eq name g.name then g.members else []) groups) ≡ true
all_users name [] h = refl
all_users name (g ∷ groups) h =
    let parts = and_parts (list_all is_user_name g.members) (list_all (λ (g : Group). list_all is_user_name g.members) groups) h in
    let here : list_all is_user_name (if octets_eq name g.name then g.members else []) ≡ true = elim (octets_eq name g.name) as (λ b. list_all is_user_name (if b then g.members else []) ≡ true) [ true ↦ parts.0 | false ↦ refl ] in
    list_all-append is_user_name (if octets_eq name g.name then g.members else []) (flat_map (λ g. if octets_eq name g.name then g.members else []) groups)
    ∙ (λ i. here i && all_users name groups parts.1 i)

-- a string that is a pair's says what its test says
one_test : (test : Pair → Bool) (pair : Pair) (text : List ℕ) → pair_of text ≡ Some pair → says test text ≡ test pair
one_test test pair text h = ap (λ o. option_map_or test o false) h

-- strings of members, one for each: whether one of them passes
module _ (test : Pair → Bool) (letters : List ℕ) (sign : List ℕ → List ℕ) where
  any_member : (user : List ℕ) (letter : ℕ) (members : List (List ℕ)) → list_all is_user_name members ≡ true
      → ((member : List ℕ) → is_user_name member ≡ true → says test (string_of (sign member) letters) ≡ (octets_eq member user && has letter letters))
      → list_any (says test) (map (λ member. string_of (sign member) letters) members) ≡ (list_any (λ member. octets_eq member user) members && has letter letters)
  any_member user letter [] h each = refl
  any_member user letter (member ∷ members) h each =
      let parts = and_parts (is_user_name member) (list_all is_user_name members) h in
      (λ i. each member parts.0 i || any_member user letter members parts.1 each i)
      ∙ joined (octets_eq member user) (list_any (λ member. octets_eq member user) members) (has letter letters) where
        joined : (a b c : Bool) → ((a && c) || (b && c)) ≡ ((a || b) && c)
        joined true true true = refl
        joined true true false = refl
        joined true false true = refl
        joined true false false = refl
        joined false b c = refl

  no_member : (members : List (List ℕ)) → ((member : List ℕ) → says test (string_of (sign member) letters) ≡ false) → list_any (says test) (map (λ member. string_of (sign member) letters) members) ≡ false
  no_member [] each = refl
  no_member (member ∷ members) each = λ i. each member i || no_member members each i

no_test : (test : Pair → Bool) (identifier letters : List ℕ) → test (record { identifier = identifier; letters = letters }) ≡ false → says test (string_of identifier letters) ≡ false
no_test test identifier letters h = sym (or-false (says test (string_of identifier letters))) ∙ none_says test identifier letters h

said : (identifier letters : List ℕ) → (is_identifier identifier && list_all is_letter letters) ≡ true → pair_of (string_of identifier letters) ≡ Some (record { identifier = identifier; letters = letters })
said identifier letters h = pair_of_form identifier letters ∙ rw h refl

-- what one string gives is what its writing out gives
module _ (realm : Realm) (user : List ℕ) (letter : ℕ) (u : is_user_name user ≡ true) (users : are_users realm ≡ true) where
  abbrev bare_gives : Pair → Bool
  bare_gives = gives (without_groups realm) user letter

  gives_written : (text : List ℕ) (pair : Pair) → pair_of text ≡ Some pair → gives realm user letter pair ≡ list_any (says bare_gives) (pair_written_out realm text (Some pair))
  gives_written text pair h = elim (begins_with minus pair.identifier) as (λ s. begins_with minus pair.identifier ≡ s
      → ((not s && names realm user pair.identifier) && has letter pair.letters)
      ≡ list_any (says bare_gives) (if starts_with nat_eq (if s then drop 1 pair.identifier else pair.identifier) group_prefix
      then map (λ member. string_of (if s then minus ∷ member else member) pair.letters) (members_of realm (drop 6 (if s then drop 1 pair.identifier else pair.identifier)))
      else text ∷ [])) [
        | true ↦ λ s. elim (starts_with nat_eq (drop 1 pair.identifier) group_prefix) as (λ g. false ≡ list_any (says bare_gives) (if g then map (λ member. string_of (minus ∷ member) pair.letters) (members_of realm (drop 6 (drop 1 pair.identifier))) else text ∷ [])) [
          | true ↦ sym (no_member bare_gives pair.letters (λ member. minus ∷ member) (members_of realm (drop 6 (drop 1 pair.identifier))) (λ member. no_test bare_gives (minus ∷ member) pair.letters refl))
          | false ↦ sym (or-false (says bare_gives text) ∙ (one_test bare_gives pair text h ∙ rw s refl))
        ]
        | false ↦ λ s. elim (starts_with nat_eq pair.identifier group_prefix) as (λ g. starts_with nat_eq pair.identifier group_prefix ≡ g → (names realm user pair.identifier && has letter pair.letters) ≡ list_any (says bare_gives) (if g then map (λ member. string_of member pair.letters) (members_of realm (drop 6 pair.identifier)) else text ∷ [])) [
          | true ↦ λ g.
              let names_it = named realm user pair.identifier u g in
              let letters = (is_form text pair h).letters in
              let each : (member : List ℕ) → is_user_name member ≡ true → says bare_gives (string_of member pair.letters) ≡ (octets_eq member user && has letter pair.letters) =
              λ member m. one_test bare_gives (record { identifier = member; letters = pair.letters }) (string_of member pair.letters) (said member pair.letters (rw (user_identifier member m) letters))
              ∙ rw (user_unsigned member m, member_named realm user member m) refl in
              ap (λ b. b && has letter pair.letters) names_it
              ∙ sym (any_member bare_gives pair.letters (λ member. member) user letter (members_of realm (drop 6 pair.identifier)) (all_users (drop 6 pair.identifier) realm.groups users) each)
          | false ↦ λ g. ap (λ b. b && has letter pair.letters) (names_alike realm user pair.identifier g) ∙ sym (or-false (says bare_gives text) ∙ (one_test bare_gives pair text h ∙ ap (λ b. (not b && names (without_groups realm) user pair.identifier) && has letter pair.letters) s))
        ] refl
      ] refl

  abbrev bare_takes : Pair → Bool
  bare_takes = takes (without_groups realm) user letter

  takes_written : (text : List ℕ) (pair : Pair) → pair_of text ≡ Some pair → takes realm user letter pair ≡ list_any (says bare_takes) (pair_written_out realm text (Some pair))
  takes_written text pair h = elim (begins_with minus pair.identifier) as (λ s. begins_with minus pair.identifier ≡ s
      → ((s && names realm user (drop 1 pair.identifier)) && has letter pair.letters)
      ≡ list_any (says bare_takes) (if starts_with nat_eq (if s then drop 1 pair.identifier else pair.identifier) group_prefix
      then map (λ member. string_of (if s then minus ∷ member else member) pair.letters) (members_of realm (drop 6 (if s then drop 1 pair.identifier else pair.identifier)))
      else text ∷ [])) [
        | true ↦ λ s. elim (starts_with nat_eq (drop 1 pair.identifier) group_prefix) as (λ g. starts_with nat_eq (drop 1 pair.identifier) group_prefix ≡ g → (names realm user (drop 1 pair.identifier) && has letter pair.letters) ≡ list_any (says bare_takes) (if g then map (λ member. string_of (minus ∷ member) pair.letters) (members_of realm (drop 6 (drop 1 pair.identifier))) else text ∷ [])) [
          | true ↦ λ g.
              let names_it = named realm user (drop 1 pair.identifier) u g in
              let letters = (is_form text pair h).letters in
              let each : (member : List ℕ) → is_user_name member ≡ true → says bare_takes (string_of (minus ∷ member) pair.letters) ≡ (octets_eq member user && has letter pair.letters) =
              λ member m. one_test bare_takes (record { identifier = minus ∷ member; letters = pair.letters }) (string_of (minus ∷ member) pair.letters) (said (minus ∷ member) pair.letters (rw (signed_identifier member m) letters))
              ∙ rw (member_named realm user member m) refl in
              ap (λ b. b && has letter pair.letters) names_it
              ∙ sym (any_member bare_takes pair.letters (λ member. minus ∷ member) user letter (members_of realm (drop 6 (drop 1 pair.identifier))) (all_users (drop 6 (drop 1 pair.identifier)) realm.groups users) each)
          | false ↦ λ g. ap (λ b. b && has letter pair.letters) (names_alike realm user (drop 1 pair.identifier) g) ∙ sym (or-false (says bare_takes text) ∙ (one_test bare_takes pair text h ∙ rw s refl))
        ] refl
        | false ↦ λ s. elim (starts_with nat_eq pair.identifier group_prefix) as (λ g. false ≡ list_any (says bare_takes) (if g then map (λ member. string_of member pair.letters) (members_of realm (drop 6 pair.identifier)) else text ∷ [])) [
          | true ↦ sym (unsigned_takes (members_of realm (drop 6 pair.identifier)) (all_users (drop 6 pair.identifier) realm.groups users) pair.letters)
          | false ↦ sym (or-false (says bare_takes text) ∙ (one_test bare_takes pair text h ∙ rw s refl))
        ]
      ] refl where
        unsigned_takes : (members : List (List ℕ)) → list_all is_user_name members ≡ true → (letters : List ℕ) → list_any (says bare_takes) (map (λ member. string_of member letters) members) ≡ false
        unsigned_takes [] m letters = refl
        unsigned_takes (member ∷ members) m letters =
            let parts = and_parts (is_user_name member) (list_all is_user_name members) m in
            let first = no_test bare_takes member letters (ap (λ b. (b && names (without_groups realm) user (drop 1 member)) && has letter letters) (user_unsigned member parts.0)) in
            λ i. first i || unsigned_takes members parts.1 letters i

  gives_text : (text : List ℕ) → says (gives realm user letter) text ≡ list_any (says bare_gives) (pair_written_out realm text (pair_of text))
  gives_text text = elim (pair_of text) as (λ o. pair_of text ≡ o → option_map_or (gives realm user letter) o false ≡ list_any (says bare_gives) (pair_written_out realm text o)) [
    | None ↦ λ h. sym (or-false (says bare_gives text) ∙ ap (λ o. option_map_or bare_gives o false) h)
    | Some pair ↦ λ h. gives_written text pair h
  ] refl

  takes_text : (text : List ℕ) → says (takes realm user letter) text ≡ list_any (says bare_takes) (pair_written_out realm text (pair_of text))
  takes_text text = elim (pair_of text) as (λ o. pair_of text ≡ o → option_map_or (takes realm user letter) o false ≡ list_any (says bare_takes) (pair_written_out realm text o)) [
    | None ↦ λ h. sym (or-false (says bare_takes text) ∙ ap (λ o. option_map_or bare_takes o false) h)
    | Some pair ↦ λ h. takes_written text pair h
  ] refl

  gives_all : (acl : List (List ℕ)) → list_any (says (gives realm user letter)) acl ≡ list_any (says bare_gives) (written_out realm acl)
  gives_all acl = any_joined (says bare_gives) (says (gives realm user letter)) (λ text. pair_written_out realm text (pair_of text)) acl gives_text

  takes_all : (acl : List (List ℕ)) → list_any (says (takes realm user letter)) acl ≡ list_any (says bare_takes) (written_out realm acl)
  takes_all acl = any_joined (says bare_takes) (says (takes realm user letter)) (λ text. pair_written_out realm text (pair_of text)) acl takes_text

written_law : (realm : Realm) (user : List ℕ) (acl : List (List ℕ)) → is_user_name user ≡ true → are_users realm ≡ true → rights_in realm user acl ≡ rights_in (without_groups realm) user (written_out realm acl)
unfolding rights_in
written_law realm user acl u users =
    let given_same = by_letter _ _ (λ letter. gives_all realm user letter u users acl) in
    let taken_same = by_letter _ _ (λ letter. takes_all realm user letter u users acl) in
    λ i. less (given_same i) (taken_same i)

not_in_group : (realm : Realm) (user name : List ℕ) → is_user_name user ≡ true → names_in_group realm user (group_prefix ++ name) ≡ false → names realm user (group_prefix ++ name) ≡ false
unfolding names
not_in_group realm user name u g = rw (other_user user name u, g) refl

pub group_law : GroupLaw
group_law = record {
  written = written_law;
  negative = λ realm user name letters front back h g k.
      let text = string_of (minus ∷ group_prefix ++ name) letters in
      let away = taken_one realm user (minus ∷ group_prefix ++ name) letters (λ letter. has letter letters) (group_signed name h) k (λ letter. rw (named_group realm user (group_prefix ++ name) g) refl) in
      ap (λ rights. common (rights_in realm user (front ++ text ∷ back)) rights) (sym away) ∙ taken_here realm user front back text;
  others = λ realm user name letters u g. (
    given_none realm user (group_prefix ++ name) letters (λ letter. rw (not_in_group realm user name u g) refl),
    taken_none realm user (minus ∷ group_prefix ++ name) letters (λ letter. rw (not_in_group realm user name u g) refl),
  );
}
