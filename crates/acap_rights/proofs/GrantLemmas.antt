-- What lists give.
use Rattle.std.proofs.Common.{◌≡◌, ℕ, suc, ◌+◌, ◌<◌, ◌≤◌, Bool, true, false, List, [], ◌∷◌, length, drop, get_or, Some, None, refl, sym, ap, ◌∙◌, add-one}
use Rattle.std.proofs.Math.Seq.{drop-cons}
use Rattle.std.proofs.lemmas.List.{drop_all}
use Rattle.std.specs.Prelude.{◌||◌, codes, if◌then◌else◌}
use Rattle.std.specs.List.{list_any}
use Rattle.std.proofs.Math.Bool.{or-false, or-true}
use Rattle.acap_entries.specs.Names.{is_user_name}
use Rattle.acap_entries.specs.Orders.{octets_eq}
use Rattle.acap_rights.specs.Pairs.{form_of, rights_in, pair_of, is_identifier}
use Rattle.acap_rights.specs.Homes.{home_of, default_list}
use Rattle.acap_rights.specs.Realms.{names, names_in_group}
use Rattle.acap_rights.specs.Rights.{rights_by, union, no_rights, all_rights}
use Rattle.acap_rights.specs.declared.realm.Realm.{Realm}
use Rattle.acap_rights.specs.declared.rights.Rights.{Rights}
use Rattle.acap_rights.proofs.PairLemmas.{pair_of_form, user_unsigned, user_identifier}

or_both : (a b c : Bool) → ((a || b) || c) ≡ (a || (b || c))
or_both true b c = refl
or_both false b c = refl

-- what one string more adds to what is gathered
one_more : (gathered : Rights) (test : ℕ → List ℕ → Bool) (text : List ℕ) (rest : List (List ℕ)) → union (union gathered (rights_by (λ letter. test letter text))) (rights_by (λ letter. list_any (test letter) rest)) ≡ union gathered (rights_by (λ letter. list_any (test letter) (text ∷ rest)))
one_more g test text rest = λ i. record {
  x = or_both g.x (test 120 text) (list_any (test 120) rest) i;
  r = or_both g.r (test 114 text) (list_any (test 114) rest) i;
  w = or_both g.w (test 119 text) (list_any (test 119) rest) i;
  i = or_both g.i (test 105 text) (list_any (test 105) rest) i;
  a = or_both g.a (test 97 text) (list_any (test 97) rest) i;
}

-- a step of a loop that gathers
pub more_gathered : (test : ℕ → List ℕ → Bool) (texts : List (List ℕ)) (i : ℕ) (text shown : List ℕ) (new gathered more all : Rights) → i < length texts → text ≡ get_or texts i text → shown ≡ text → new ≡ union gathered more → more ≡ rights_by (λ letter. test letter shown) → union gathered (rights_by (λ letter. list_any (test letter) (drop i texts))) ≡ all → union new (rights_by (λ letter. list_any (test letter) (drop (i + 1) texts))) ≡ all
more_gathered test texts i text shown new gathered more all within item same joined added so_far =
    let parts : drop i texts ≡ text ∷ drop (i + 1) texts = rw add-one (drop-cons texts i text within ∙ ap (λ t. t ∷ drop (suc i) texts) (sym item)) in
    let given : more ≡ rights_by (λ letter. test letter text) = added ∙ ap (λ t. rights_by (λ letter. test letter t)) same in
    ap (λ n. union n (rights_by (λ letter. list_any (test letter) (drop (i + 1) texts)))) (joined ∙ ap (λ m. union gathered m) given)
    ∙ (one_more gathered test text (drop (i + 1) texts)
    ∙ (ap (λ ts. union gathered (rights_by (λ letter. list_any (test letter) ts))) (sym parts) ∙ so_far))

none_more : (gathered : Rights) → union gathered no_rights ≡ gathered
none_more g = λ i. record { x = or-false g.x i; r = or-false g.r i; w = or-false g.w i; i = or-false g.i i; a = or-false g.a i }

-- after the last string nothing more is gathered
pub none_left : (test : ℕ → List ℕ → Bool) (texts : List (List ℕ)) (i : ℕ) (gathered all : Rights) → length texts ≤ i → union gathered (rights_by (λ letter. list_any (test letter) (drop i texts))) ≡ all → gathered ≡ all
none_left test texts i gathered all past so_far =
    let rest : drop i texts ≡ [] = drop_all i texts past in
    sym (none_more gathered) ∙ (ap (λ ts. union gathered (rights_by (λ letter. list_any (test letter) ts))) (sym rest) ∙ so_far)

-- a list for its owner alone gives the owner all
pub owner_list : (realm : Realm) (user name : List ℕ) → is_user_name name ≡ true → rights_in realm user (form_of (record { identifier = name; letters = codes "xrwia" }) ∷ []) ≡ (if names realm user name then all_rights else no_rights)
unfolding rights_in
owner_list realm user name h =
    let said : pair_of (form_of (record { identifier = name; letters = codes "xrwia" })) ≡ Some (record { identifier = name; letters = codes "xrwia" }) =
    pair_of_form name (codes "xrwia") ∙ rw (user_identifier name h) refl in
    let positive = user_unsigned name h in
    elim (names realm user name) as (λ b. names realm user name ≡ b → rights_in realm user (form_of (record { identifier = name; letters = codes "xrwia" }) ∷ []) ≡ (if b then all_rights else no_rights)) [
      | true ↦ λ e. rw (said, positive, e) refl
      | false ↦ λ e. rw (said, positive, e) refl
    ] refl

pub named_all : (realm : Realm) (user : List ℕ) → names realm user (codes "anyone") ≡ true
unfolding names
named_all realm user = ap (λ b. b || names_in_group realm user (codes "anyone")) (or-true (octets_eq (codes "anyone") user))

-- the list for all gives x and r
pub open_list : (realm : Realm) (user : List ℕ) → rights_in realm user (form_of (record { identifier = codes "anyone"; letters = codes "xr" }) ∷ []) ≡ record { x = true; r = true; w = false; i = false; a = false }
unfolding rights_in pair_of is_identifier
open_list realm user = rw (named_all realm user) refl

-- the default of a dataset: in a home, in one of nobody, elsewhere
pub at_home : (realm : Realm) (user dataset name : List ℕ) → home_of dataset ≡ Some name → is_user_name name ≡ true → rights_in realm user (default_list dataset) ≡ (if names realm user name then all_rights else no_rights)
unfolding default_list
at_home realm user dataset name home h = rw (home, h) (owner_list realm user name h)

pub at_nobodys : (realm : Realm) (user dataset name : List ℕ) → home_of dataset ≡ Some name → is_user_name name ≡ false → rights_in realm user (default_list dataset) ≡ no_rights
unfolding default_list rights_in
at_nobodys realm user dataset name home h = rw (home, h) refl

pub elsewhere : (realm : Realm) (user dataset : List ℕ) → home_of dataset ≡ None → rights_in realm user (default_list dataset) ≡ record { x = true; r = true; w = false; i = false; a = false }
unfolding default_list
elsewhere realm user dataset home = rw home (open_list realm user)
