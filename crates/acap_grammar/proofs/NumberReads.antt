-- Numbers, times and comparators are read back from their plainest spelling.
use Rattle.std.proofs.Common.{◌≡◌, ℕ, ◌+◌, ◌*◌, ◌-◌, ◌<◌, ◌^◌, true, List, length, Some, Ok, refl, arith, rules, leb}
use Rattle.std.specs.Prelude.{decimal, fold}
use Rattle.std.specs.List.{list_all}
use Rattle.std.specs.Char.{is_ascii_digit}
use Rattle.std.proofs.lemmas.Bool.{le-leb}
use Rattle.std.proofs.lemmas.Fmt.{digits_decimal, digits_value-decimal, length-decimal-le, decimal_nonempty}
use Rattle.std.proofs.lemmas.Str.Parse.{IsNumeralModel, numerals_by_fold}
use Rattle.acap_lexer.specs.Reading.{is_count, count_of}
use Rattle.acap_lexer.specs.Token.{Token}
use Rattle.acap_grammar.specs.Arguments.{number_in, number_at}
use Rattle.acap_grammar.specs.Sendable.{IsNumber}
use Rattle.acap_grammar.specs.Spelling.{number}

abbrev pub read_on : ℕ → List ℕ → ℕ
read_on n digits = fold (λ n d. 10 * n + (d - 48)) n digits

pub numerals : IsNumeralModel (λ ds. list_all is_ascii_digit ds ≡ true) (read_on 0)
numerals = numerals_by_fold _ (search rules) read_on (search rules)

back : (n : ℕ) → IsNumber n → number_in (decimal n) ≡ Some n
unfolding count_of is_count
back n h =
    let small : n < 2 ^ 64 = omega arith in
    let digits : list_all is_ascii_digit (decimal n) ≡ true = digits_decimal numerals n small in
    let value : read_on 0 (decimal n) ≡ n = digits_value-decimal numerals n small in
    let some : leb 1 (length (decimal n)) ≡ true = le-leb _ _ (decimal_nonempty n small) in
    let ten : leb (length (decimal n)) 10 ≡ true = le-leb _ _ (length-decimal-le 10 n (omega arith) (omega arith) small) in
    let fits : leb (read_on 0 (decimal n)) 4294967295 ≡ true = le-leb _ _ (omega (arith, value, h)) in
    rw (digits, some, ten, fits, value) refl

pub number_reads : (n : ℕ) (rest : List Token) → IsNumber n → number_at (number n rest) ≡ Ok (n, rest)
unfolding number_at
number_reads n rest h = rw (back n h) refl
