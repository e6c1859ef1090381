-- The laws of SETACL and DELETEACL.
use Rattle.std.proofs.Common.{◌≡◌, ℕ, suc, ◌+◌, Bool, true, false, not, cond, List, [], ◌∷◌, ◌++◌, take, drop, Some, None, refl, sym, ap, ◌∙◌, arith}
use Rattle.std.specs.Prelude.{◌&&◌, if◌then◌else◌}
use Rattle.std.specs.Cmp.{first_so, second_so}
use Rattle.std.specs.Cmp.Lexicographic.{bytes_decides}
use Rattle.std.specs.List.{filter, list_any, list_all, position_or_len}
use Rattle.std.specs.Option.{is_some}
use Rattle.std.proofs.lemmas.List.{take-append-drop}
use Rattle.std.proofs.lemmas.List.Elements.{filter-append}
use Rattle.std.proofs.lemmas.List.Folds.{list_all-append}
use Rattle.std.proofs.lemmas.Bool.{or_parts}
use Rattle.acap_rights.specs.Edits.{is_about, without, with_pair}
use Rattle.acap_rights.specs.Laws.{EditLaw}
use Rattle.acap_rights.specs.Pairs.{string_of, pair_of, is_identifier, is_letter}
use Rattle.acap_rights.proofs.PairLemmas.{pair_of_form, makes_pair}

module _ {X : Type 0} (test : X → Bool) where
  abbrev others : List X → List X
  others xs = filter (λ x. not (test x)) xs

  abbrev put : X → List X → List X
  put y xs = take (position_or_len test xs) xs ++ y ∷ others (drop (position_or_len test xs) xs)

  put_first : (y text : X) (front back : List X) → list_any test front ≡ false → test text ≡ true → put y (front ++ text ∷ back) ≡ front ++ y ∷ others back
  put_first y text [] back n h = rw (h, h) refl
  put_first y text (x ∷ front) back n h =
      let parts = or_parts (test x) (list_any test front) n in
      let one : 1 + position_or_len test (front ++ text ∷ back) ≡ suc (position_or_len test (front ++ text ∷ back)) = omega arith in
      let unlike : test x ≡ false = parts.0 in
      rw (unlike, one) (ap (λ ys. x ∷ ys) (put_first y text front back parts.1 h))

  put_last : (y : X) (xs : List X) → list_any test xs ≡ false → put y xs ≡ xs ++ y ∷ []
  put_last y [] n = refl
  put_last y (x ∷ xs) n =
      let parts = or_parts (test x) (list_any test xs) n in
      let one : 1 + position_or_len test xs ≡ suc (position_or_len test xs) = omega arith in
      let unlike : test x ≡ false = parts.0 in
      rw (unlike, one) (ap (λ ys. x ∷ ys) (put_last y xs parts.1))

  none_left : (xs : List X) → list_any test (others xs) ≡ false
  none_left [] = refl
  none_left (x ∷ xs) = elim (test x) as (λ b. test x ≡ b → list_any test (cond (not b) (x ∷ others xs) (others xs)) ≡ false) [
    | true ↦ λ h. none_left xs
    | false ↦ λ h. rw h (none_left xs)
  ] refl

  all_left : (xs : List X) → list_any test xs ≡ false → others xs ≡ xs
  all_left [] n = refl
  all_left (x ∷ xs) n =
      let parts = or_parts (test x) (list_any test xs) n in
      let unlike : test x ≡ false = parts.0 in
      rw unlike (ap (λ ys. x ∷ ys) (all_left xs parts.1))

  others_again : (xs : List X) → others (others xs) ≡ others xs
  others_again xs = all_left (others xs) (none_left xs)

  others_stay : (y : X) (xs : List X) → test y ≡ true → others (put y xs) ≡ others xs
  others_stay y xs h =
      let n = position_or_len test xs in
      let behind : others (y ∷ others (drop n xs)) ≡ others (drop n xs) = rw h (others_again (drop n xs)) in
      filter-append (λ x. not (test x)) (take n xs) (y ∷ others (drop n xs))
      ∙ (ap (λ ys. others (take n xs) ++ ys) behind
      ∙ (sym (filter-append (λ x. not (test x)) (take n xs) (drop n xs)) ∙ ap others (take-append-drop n xs)))

  all_others : (p : X → Bool) (xs : List X) → list_all p xs ≡ true → list_all p (others xs) ≡ true
  all_others p [] h = refl
  all_others p (x ∷ xs) h =
      let first : p x ≡ true = first_so _ _ h in
      let rest : list_all p xs ≡ true = second_so _ _ h in
      elim (test x) as (λ b. list_all p (cond (not b) (x ∷ others xs) (others xs)) ≡ true) [
        | true ↦ all_others p xs rest
        | false ↦ rw first (all_others p xs rest)
      ]

  all_put : (p : X → Bool) (y : X) (xs : List X) → list_all p xs ≡ true → p y ≡ true → list_all p (put y xs) ≡ true
  all_put p y xs h k =
      let n = position_or_len test xs in
      let parts : (list_all p (take n xs) && list_all p (drop n xs)) ≡ true = sym (list_all-append p (take n xs) (drop n xs)) ∙ (ap (list_all p) (take-append-drop n xs) ∙ h) in
      let front : list_all p (take n xs) ≡ true = first_so _ _ parts in
      let behind : list_all p (others (drop n xs)) ≡ true = all_others p (drop n xs) (second_so _ _ parts) in
      list_all-append p (take n xs) (y ∷ others (drop n xs)) ∙ rw (front, k, behind) refl

-- the new string says something of its identifier
says_own : (identifier letters : List ℕ) → is_some (pair_of (string_of identifier letters)) ≡ true → is_about identifier (string_of identifier letters) ≡ true
says_own identifier letters h =
    let tests : (is_identifier identifier && list_all is_letter letters) ≡ true = sym (makes_pair identifier letters) ∙ h in
    let said : pair_of (string_of identifier letters) ≡ Some (record { identifier = identifier; letters = letters }) = pair_of_form identifier letters ∙ ap (λ b. if b then Some (record { identifier = identifier; letters = letters }) else None) tests in
    rw said ((bytes_decides identifier identifier).1 refl)

pub edit_law : EditLaw
unfolding with_pair without
edit_law = record {
  set_first = λ identifier letters text front back n h. put_first (is_about identifier) (string_of identifier letters) text front back n h;
  set_last = λ identifier letters acl n. put_last (is_about identifier) (string_of identifier letters) acl n;
  none_left = λ identifier acl. none_left (is_about identifier) acl;
  others_stay = λ identifier letters acl h. others_stay (is_about identifier) (string_of identifier letters) acl (says_own identifier letters h);
  unlisted = λ identifier acl n. all_left (is_about identifier) acl n;
  stays_list = λ identifier letters acl h k. all_put (is_about identifier) (λ text. is_some (pair_of text)) (string_of identifier letters) acl h k;
  stays_list_without = λ identifier acl h. all_others (is_about identifier) (λ text. is_some (pair_of text)) acl h;
}
