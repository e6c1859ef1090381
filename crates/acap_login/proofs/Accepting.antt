-- Whom an answer is accepted for, as a function and as a relation.
use Rattle.std.proofs.Common.{◌≡◌, ℕ, Bool, true, false, List, [], ◌∷◌, ◌++◌, length, Option, Some, None, refl, sym, ◌∙◌, map, ◌&&◌}
use Rattle.std.specs.Prelude.{◌↔◌}
use Rattle.std.specs.List.{position}
use Rattle.std.specs.Str.{bytes_eq}
use Rattle.std.proofs.lemmas.Bool.Decides.{same_from_decides}
use Rattle.std.proofs.lemmas.Slice.Eq.{bytes_eq-Decides}
use Rattle.std.proofs.lemmas.List.Quantifiers.{position-Some}
use Rattle.std.proofs.lemmas.Bool.{and_parts}
use Rattle.acap_login.specs.Login.{User, Fits, IsAccepted, IsRefused, answering_user, answer_of, digest_of, space, user_at}
use Rattle.acap_login.proofs.CutLemmas.{printed, count, parts_apart}
use Rattle.acap_login.proofs.Places.{position_at, position_map, position_nowhere, nowhere}

-- the test of one user
abbrev test : List ℕ → List ℕ → User → Bool
test challenge answer user = bytes_eq answer (answer_of challenge user)

passes : (challenge answer : List ℕ) (user : User) → test challenge answer user ≡ true → Fits challenge answer user
passes challenge answer user h = (printed challenge answer user).1 ((bytes_eq-Decides answer (answer_of challenge user)).0 h)

fits : (challenge answer : List ℕ) (user : User) → Fits challenge answer user → test challenge answer user ≡ true
fits challenge answer user h = (bytes_eq-Decides answer (answer_of challenge user)).1 h.whole

fails : (challenge answer : List ℕ) (user : User) → test challenge answer user ≡ false → ¬ Fits challenge answer user
fails challenge answer user h = λ f. let e = fits challenge answer user f in cc

by_test : (b : Bool) → ((b ≡ true) → ⊥) → b ≡ false
by_test true h = absurd (h refl)
by_test false h = refl

misfits : (challenge answer : List ℕ) (user : User) → (¬ Fits challenge answer user) → test challenge answer user ≡ false
misfits challenge answer user h = by_test (test challenge answer user) (λ e. h (passes challenge answer user e))

pub accepted_is : (users : List User) (challenge answer : List ℕ) (place : ℕ) → (answering_user users challenge answer ≡ Some place) ↔ IsAccepted users challenge answer place
unfolding answering_user
accepted_is users challenge answer place = (
  λ h. let found = position-Some (test challenge answer) users place ([], []) h in record {
    within = found.0;
    fits = passes challenge answer (user_at users place) found.1;
    first = λ k lt. fails challenge answer (user_at users k) (found.2 k lt);
  },
  λ a. position_at (test challenge answer) users place ([], []) a.within (fits challenge answer (user_at users place) a.fits) (λ k lt. misfits challenge answer (user_at users k) (a.first k lt)),
)

pub refused_is : (users : List User) (challenge answer : List ℕ) → (answering_user users challenge answer ≡ None) ↔ IsRefused users challenge answer
unfolding answering_user
refused_is users challenge answer = (
  λ h. record { nobody = λ k lt. fails challenge answer (user_at users k) (nowhere (test challenge answer) users ([], []) h k lt) },
  λ r. position_nowhere (test challenge answer) users ([], []) (λ k lt. misfits challenge answer (user_at users k) (r.nobody k lt)),
)

-- what isn't cut before 32 octets fits nobody
pub uncut : (users : List User) (challenge answer : List ℕ) → ((name digits : List ℕ) → length digits ≡ 32 → ¬ (answer ≡ name ++ space ∷ digits)) → answering_user users challenge answer ≡ None
unfolding answering_user
uncut users challenge answer never =
    position_nowhere (test challenge answer) users ([], []) (λ k lt. misfits challenge answer (user_at users k) (λ f. never (user_at users k).0 (digest_of (user_at users k).1 challenge) (count (user_at users k).1 challenge) f.whole))

pub apart : (challenge name digits known secret : List ℕ) (same_name same_digits : Bool) → length digits ≡ 32 → same_name ≡ bytes_eq known name → same_digits ≡ bytes_eq (digest_of secret challenge) digits → (same_name && same_digits) ≡ bytes_eq (name ++ space ∷ digits) (answer_of challenge (known, secret))
apart challenge name digits known secret same_name same_digits long e f =
    let wanted = digest_of secret challenge in
    let names = bytes_eq-Decides known name in
    let texts = bytes_eq-Decides wanted digits in
    let whole = bytes_eq-Decides (name ++ space ∷ digits) (known ++ space ∷ wanted) in
    let as_long : length digits ≡ length wanted = long ∙ sym (count secret challenge) in
    same_from_decides {P = name ++ space ∷ digits ≡ known ++ space ∷ wanted} (same_name && same_digits) (bytes_eq (name ++ space ∷ digits) (known ++ space ∷ wanted)) (
      λ h. let parts = and_parts same_name same_digits h in
          let n : known ≡ name = names.0 (sym e ∙ parts.0) in
          let d : wanted ≡ digits = texts.0 (sym f ∙ parts.1) in cc,
      λ h. let parts = parts_apart name digits known wanted as_long h in
          let n : same_name ≡ true = e ∙ names.1 (sym parts.0) in
          let d : same_digits ≡ true = f ∙ texts.1 (sym parts.1) in
          rw (n, d),
    ) whole

-- the first of what stands for users
pub placed : {X : Type 0} (f : X → User) (entries : List X) (challenge answer : List ℕ) (found : Option ℕ) → found ≡ position (λ entry. bytes_eq answer (answer_of challenge (f entry))) entries → found ≡ answering_user (map f entries) challenge answer
unfolding answering_user
placed f entries challenge answer found e = e ∙ sym (position_map (test challenge answer) f entries)
