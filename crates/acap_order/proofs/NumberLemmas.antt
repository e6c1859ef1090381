-- The order of numbers by their digits: after leading zeros by length, and then digit by digit.
use Rattle.std.proofs.Common.{◌≡◌, ℕ, ◌+◌, ◌-◌, ◌*◌, ◌<◌, ◌≤◌, Bool, true, false, ◌==◌, List, [], ◌∷◌, length, if◌then◌else◌, Some, refl, sym, ap, subst, ◌∙◌, arith}
use Rattle.std.specs.Char.{is_ascii_digit}
use Rattle.std.specs.List.{fold, take_while}
use Rattle.std.specs.Cmp.Lexicographic.{slice_cmp}
use Rattle.std.specs.Ordering.{nat_cmp, ordering_then}
use Rattle.std.specs.declared.cmp.Ordering.{Ordering}
use Rattle.std.specs.declared.cmp.Ordering.TheVariants.{Less, Equal, Greater}
use Rattle.std.proofs.lemmas.Bool.{eqb-true}
use Rattle.std.proofs.lemmas.Bool.Decides.{nat_tests}
use Rattle.std.proofs.lemmas.Cmp.{ranked, by_ranked}
use Rattle.std.proofs.lemmas.List.Sums.{take_while-cons}
use Rattle.acap_order.specs.Ranks.{number_of, spelled_number, leading_number, number_cmp}
use Rattle.acap_order.specs.Digits.{significant_digits}

-- every octet is a digit
abbrev AllDigits : List ℕ → Type 0
AllDigits [] = Unit {0}
AllDigits (digit ∷ digits) = (48 ≤ digit) × ((digit ≤ 57) × AllDigits digits)

-- the number that digits make of one before them
abbrev more : ℕ → List ℕ → ℕ
more number digits = fold (λ number digit. 10 * number + (digit - 48)) number digits

more-le : (number : ℕ) (digits : List ℕ) → number ≤ more number digits
more-le number [] = omega arith
more-le number (digit ∷ digits) =
    let later : 10 * number + (digit - 48) ≤ more (10 * number + (digit - 48)) digits = more-le (10 * number + (digit - 48)) digits in omega arith

-- the lesser number stays the lesser, if it gets no more digits than the other
more-lt : (m n : ℕ) (a b : List ℕ) → AllDigits a → m < n → length a ≤ length b → more m a < more n b
more-lt m n [] b digits lt le = let grows : n ≤ more n b = more-le n b in omega arith
more-lt m n (x ∷ a) [] digits lt le = absurd (omega arith)
more-lt m n (x ∷ a) (y ∷ b) digits lt le =
    let high : x ≤ 57 = digits.1.0 in
    more-lt (10 * m + (x - 48)) (10 * n + (y - 48)) a b digits.1.1 (omega arith) (omega arith)

ordering_then-Equal : (order : Ordering) → order ≡ ordering_then order Equal
ordering_then-Equal Less = refl
ordering_then-Equal Equal = refl
ordering_then-Equal Greater = refl

ordering_then_assoc : (a b c : Ordering) → ordering_then (ordering_then a b) c ≡ ordering_then a (ordering_then b c)
ordering_then_assoc Less b c = refl
ordering_then_assoc Equal b c = refl
ordering_then_assoc Greater b c = refl

-- one more digit counts only where the numbers before are the same
nat_cmp-digit : (m n x y : ℕ) → 48 ≤ x → x ≤ 57 → 48 ≤ y → y ≤ 57 → nat_cmp (10 * m + (x - 48)) (10 * n + (y - 48)) ≡ ordering_then (nat_cmp m n) (nat_cmp x y)
nat_cmp-digit m n x y p q r s = grind (arith, nat_tests)

-- as many digits after each of two numbers
nat_cmp-more : (m n : ℕ) (a b : List ℕ) → AllDigits a → AllDigits b → length a ≡ length b → nat_cmp (more m a) (more n b) ≡ ordering_then (nat_cmp m n) (slice_cmp nat_cmp a b)
nat_cmp-more m n [] [] p q e = ordering_then-Equal (nat_cmp m n)
nat_cmp-more m n [] (y ∷ b) p q e = absurd (omega arith)
nat_cmp-more m n (x ∷ a) [] p q e = absurd (omega arith)
nat_cmp-more m n (x ∷ a) (y ∷ b) p q e =
    nat_cmp-more (10 * m + (x - 48)) (10 * n + (y - 48)) a b p.1.1 q.1.1 (omega arith)
    ∙ ap (λ order. ordering_then order (slice_cmp nat_cmp a b)) (nat_cmp-digit m n x y p.0 p.1.0 q.0 q.1.0)
    ∙ ordering_then_assoc (nat_cmp m n) (nat_cmp x y) (slice_cmp nat_cmp a b)

-- digits with no zero in front
abbrev IsSignificant : List ℕ → Type 0
IsSignificant [] = Unit {0}
IsSignificant (digit ∷ digits) = 48 < digit

-- fewer digits make a lesser number
number_of-lt : (a b : List ℕ) → AllDigits a → IsSignificant b → length a < length b → number_of a < number_of b
number_of-lt a [] p q lt = absurd (omega arith)
number_of-lt a (y ∷ b) p q lt = more-lt 0 (10 * 0 + (y - 48)) a b p (omega arith) (omega arith)

nat_cmp-less : (m n : ℕ) → m < n → nat_cmp m n ≡ Less
nat_cmp-less m n lt = grind (arith, nat_tests)

nat_cmp-greater : (m n : ℕ) → n < m → nat_cmp m n ≡ Greater
nat_cmp-greater m n lt = grind (arith, nat_tests)

-- the order of the numbers of digits with no zero in front
number_of-cmp : (a b : List ℕ) → AllDigits a → AllDigits b → IsSignificant a → IsSignificant b → nat_cmp (number_of a) (number_of b) ≡ ordering_then (nat_cmp (length a) (length b)) (slice_cmp nat_cmp a b)
number_of-cmp a b p q s t =
    let by_digits : Ordering = slice_cmp nat_cmp a b in
    by_ranked _ _ _ (nat_cmp (length a) (length b)) (ranked (length a) (length b) _ refl)
    (λ e lt. nat_cmp-less _ _ (number_of-lt a b p t lt) ∙ sym (ap (λ order. ordering_then order by_digits) e))
    (λ e same. nat_cmp-more 0 0 a b p q same ∙ sym (ap (λ order. ordering_then order by_digits) e))
    (λ e gt. nat_cmp-greater _ _ (number_of-lt b a q s gt) ∙ sym (ap (λ order. ordering_then order by_digits) e))

-- zeros in front change no number
number_of-zero : (zero_first : Bool) (digit : ℕ) (digits : List ℕ) → (zero_first ≡ true → digit ≡ 48) → number_of digits ≡ number_of (significant_digits digits) → number_of (digit ∷ digits) ≡ number_of (if zero_first then significant_digits digits else digit ∷ digits)
number_of-zero true digit digits is_zero same = ap (λ d. number_of (d ∷ digits)) (is_zero refl) ∙ same
number_of-zero false digit digits is_zero same = refl

number_of-significant : (digits : List ℕ) → number_of digits ≡ number_of (significant_digits digits)
number_of-significant [] = refl
number_of-significant (digit ∷ digits) = number_of-zero (digit == 48) digit digits (eqb-true digit 48) (number_of-significant digits)

significant-AllDigits : (digits : List ℕ) → AllDigits digits → AllDigits (significant_digits digits)
significant-AllDigits [] p = p
significant-AllDigits (digit ∷ digits) p =
    elim (digit == 48) as (λ zero_first. AllDigits (if zero_first then significant_digits digits else digit ∷ digits)) [
      | true ↦ significant-AllDigits digits p.1.1
      | false ↦ p
    ]

significant-first : (zero_first : Bool) (digit : ℕ) (digits : List ℕ) → (zero_first ≡ false → 48 < digit) → IsSignificant (significant_digits digits) → IsSignificant (if zero_first then significant_digits digits else digit ∷ digits)
significant-first true digit digits above rest = rest
significant-first false digit digits above rest = above refl

not_zero : (digit : ℕ) → 48 ≤ digit → (digit == 48) ≡ false → 48 < digit
not_zero digit low e = grind (arith, nat_tests)

significant-IsSignificant : (digits : List ℕ) → AllDigits digits → IsSignificant (significant_digits digits)
significant-IsSignificant [] p = tt
significant-IsSignificant (digit ∷ digits) p =
    significant-first (digit == 48) digit digits (not_zero digit p.0) (significant-IsSignificant digits p.1.1)

digit_in_range : (octet : ℕ) → is_ascii_digit octet ≡ true → (48 ≤ octet) × (octet ≤ 57)
digit_in_range octet e = (grind (arith, nat_tests), grind (arith, nat_tests))

leading_first : (is_digit : Bool) (octet : ℕ) (digits : List ℕ) → (is_digit ≡ true → (48 ≤ octet) × (octet ≤ 57)) → AllDigits digits → AllDigits (if is_digit then octet ∷ digits else [])
leading_first true octet digits in_range rest = ((in_range refl).0, ((in_range refl).1, rest))
leading_first false octet digits in_range rest = tt

leading-AllDigits : (text : List ℕ) → AllDigits (take_while is_ascii_digit text)
leading-AllDigits [] = tt
leading-AllDigits (octet ∷ text) =
    subst AllDigits (sym (take_while-cons is_ascii_digit octet text)) (leading_first (is_ascii_digit octet) octet (take_while is_ascii_digit text) (digit_in_range octet) (leading-AllDigits text))

spelled : (digits : List ℕ) → (length digits == 0) ≡ false → spelled_number digits ≡ Some (number_of digits)
spelled [] some = absurd (cc)
spelled (digit ∷ digits) some = refl

-- the order of two leading numbers, by their digits
pub leading_number-cmp : (a b left right : List ℕ) → left ≡ take_while is_ascii_digit a → right ≡ take_while is_ascii_digit b → (length left == 0) ≡ false → (length right == 0) ≡ false → number_cmp (leading_number a) (leading_number b) ≡ ordering_then (nat_cmp (length (significant_digits left)) (length (significant_digits right))) (slice_cmp nat_cmp (significant_digits left) (significant_digits right))
leading_number-cmp a b left right of_a of_b some_left some_right =
    let p : AllDigits left = subst AllDigits (sym of_a) (leading-AllDigits a) in
    let q : AllDigits right = subst AllDigits (sym of_b) (leading-AllDigits b) in
    let whole : number_cmp (leading_number a) (leading_number b) ≡ number_cmp (spelled_number left) (spelled_number right) =
    λ i. number_cmp (spelled_number (sym of_a i)) (spelled_number (sym of_b i)) in
    let numbers : number_cmp (spelled_number left) (spelled_number right) ≡ nat_cmp (number_of left) (number_of right) =
    λ i. number_cmp (spelled left some_left i) (spelled right some_right i) in
    let shorter : nat_cmp (number_of left) (number_of right) ≡ nat_cmp (number_of (significant_digits left)) (number_of (significant_digits right)) =
    λ i. nat_cmp (number_of-significant left i) (number_of-significant right i) in
    whole
    ∙ numbers
    ∙ shorter
    ∙ number_of-cmp (significant_digits left) (significant_digits right) (significant-AllDigits left p) (significant-AllDigits right q) (significant-IsSignificant left p) (significant-IsSignificant right q)
