-- Octets that each pass one test: ASCII above an octet, and not one more.
use Rattle.std.proofs.Common.{◌≡◌, ℕ, ◌≤◌, Bool, true, false, not, List, [], ◌∷◌, refl, sym, ap, ◌∙◌, arith}
use Rattle.std.proofs.lemmas.Bool.{ltb-true, and_parts, false≢true}
use Rattle.std.proofs.lemmas.Bool.Decides.{nat_tests}
use borrow.Author.Tests.{eqb-true}
use Rattle.std.specs.Prelude.{nat_lt, ◌==◌, ◌&&◌}
use Rattle.std.specs.List.{list_all}
use Rattle.std.specs.Str.{IsAscii, is_utf8}
use Rattle.std.proofs.lemmas.Str.{IsUtf8-from_ascii, is_utf8-from_IsUtf8}
use Rattle.std.proofs.lemmas.Str.Ascii.{IsAscii-nil, IsAscii-cons}
use Rattle.acap_entries.specs.Names.{has}

abbrev pub plain : ℕ → ℕ → ℕ → Bool
plain above other octet = nat_lt above octet && nat_lt octet 128 && not (octet == other)

differs : (test : ℕ → Bool) (octet x : ℕ) → test octet ≡ false → test x ≡ true → (x == octet) ≡ false
differs test octet x fails passes = elim (x == octet) as (λ b. (x == octet) ≡ b → b ≡ false) [
  | true ↦ λ e. absurd (false≢true (sym fails ∙ ap test (sym (eqb-true x octet e)) ∙ passes))
  | false ↦ λ e. refl
] refl

-- an octet that fails the test does not stand among octets that pass it
without : (test : ℕ → Bool) (octet : ℕ) (xs : List ℕ) → test octet ≡ false → list_all test xs ≡ true → has octet xs ≡ false
without test octet [] fails all = refl
without test octet (x ∷ xs) fails all =
    let parts = and_parts _ _ all in
    rw (differs test octet x fails parts.0) (without test octet xs fails parts.1)

module _ (above other : ℕ) where
  ascii : (xs : List ℕ) → list_all (plain above other) xs ≡ true → IsAscii xs
  ascii [] all = IsAscii-nil
  ascii (x ∷ xs) all =
      let parts = and_parts _ _ all in
      IsAscii-cons x xs (ltb-true _ _ (and_parts _ _ (and_parts _ _ parts.0).0).1) (ascii xs parts.1)

  pub plain_utf8 : (xs : List ℕ) → list_all (plain above other) xs ≡ true → is_utf8 xs ≡ true
  plain_utf8 xs all = is_utf8-from_IsUtf8 xs (IsUtf8-from_ascii xs (ascii xs all))

  pub plain_above : (xs : List ℕ) → list_all (plain above other) xs ≡ true → (octet : ℕ) → octet ≤ above → has octet xs ≡ false
  plain_above xs all octet low = without (plain above other) octet xs (grind (arith, nat_tests)) all

  pub plain_other : (xs : List ℕ) → list_all (plain above other) xs ≡ true → has other xs ≡ false
  plain_other xs all = without (plain above other) other xs (grind (arith, nat_tests)) all
