-- What is printed can be read back.
use Rattle.std.proofs.Common.{◌≡◌, ℕ, List, [], ◌∷◌, ◌++◌, refl, true, false, ap, ◌∙◌, arith}
use Rattle.std.specs.List.{list_all}
use Rattle.acap_shell.specs.Escapes.{escape, is_plain, hex_digit, digit_value, printed_value, read_from}
use Rattle.acap_shell.specs.Escapes.{read_back, Plain}

digit_back : (n : ℕ) → digit_value (hex_digit n) ≡ n
digit_back n = grind arith

one_back : (c : ℕ) (rest : List ℕ) → read_from Plain (escape c ++ rest) ≡ c ∷ read_from Plain rest
one_back c rest = grind (arith, digit_back)

pub all_back : (octets : List ℕ) → read_back (printed_value octets) ≡ octets
all_back [] = refl
all_back (c ∷ rest) = one_back c (printed_value rest) ∙ ap (λ l. c ∷ l) (all_back rest)

pub all_plain : (octets : List ℕ) → list_all is_plain octets ≡ true → printed_value octets ≡ octets
all_plain [] plain = refl
all_plain (c ∷ rest) plain = grind (arith, all_plain rest)
