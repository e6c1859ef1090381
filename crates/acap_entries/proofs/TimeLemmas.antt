-- What the digits of a client's time write, and that the date and time that they write is one of the calendar.
use Rattle.std.proofs.Common.{◌≡◌, ℕ, zero, suc, ◌+◌, ◌-◌, ◌*◌, ◌<◌, ◌≤◌, true, List, [], ◌∷◌, ◌++◌, length, take, drop, refl, sym, ap, ◌∙◌, arith, inl, inr, pos, to_z, w16, ◌+ℤ◌, length-drop}
use Rattle.std.specs.Prelude.{replicate, min}
use Rattle.std.specs.List.{list_all}
use Rattle.std.specs.Char.{is_ascii_digit}
use Rattle.std.proofs.lemmas.Bool.{and_parts, and_from, cases_lt}
use Rattle.std.proofs.lemmas.List.{drop-drop, take-append-le, take_all, take-replicate, drop-replicate, append-nil}
use Rattle.std.proofs.lemmas.Int.{to_z_pos}
use Rattle.std.proofs.lemmas.List.Folds.{list_all-append}
use Rattle.std.proofs.Math.Seq.{take-append-add}
use Rattle.jiff_core.specs.Calendar.{day_count, days_from_civil}
use Rattle.jiff_core.proofs.SignedLemmas.{signed_arith}
use Rattle.jiff_core.proofs.CalendarLemmas.{days_from_civil-day_count, day_count_bounds}
use Rattle.acap_entries.specs.Stamp.{IsCivil, days_of}
use Rattle.acap_entries.specs.Times.{number_of, field, twenty, is_civil}
use Rattle.acap_entries.specs.declared.stamps.Civil.{Civil}
use Rattle.acap_entries.proofs.StampLemmas.{zero_count}
use Rattle.acap_entries.proofs.CivilLemmas.{at_least}

-- four digits are two and two, six are four and two
four_digits : (digits : List ℕ) → 4 ≤ length digits → number_of (take 4 digits) ≡ 100 * number_of (take 2 digits) + number_of (take 2 (drop 2 digits))
four_digits [] h = absurd (omega arith)
four_digits (a ∷ []) h = absurd (omega arith)
four_digits (a ∷ (b ∷ [])) h = absurd (omega arith)
four_digits (a ∷ (b ∷ (c ∷ []))) h = absurd (omega arith)
four_digits (a ∷ (b ∷ (c ∷ (d ∷ digits)))) h = omega arith

six_digits : (digits : List ℕ) → 6 ≤ length digits → number_of (take 6 digits) ≡ 100 * number_of (take 4 digits) + number_of (take 2 (drop 4 digits))
six_digits [] h = absurd (omega arith)
six_digits (a ∷ []) h = absurd (omega arith)
six_digits (a ∷ (b ∷ [])) h = absurd (omega arith)
six_digits (a ∷ (b ∷ (c ∷ []))) h = absurd (omega arith)
six_digits (a ∷ (b ∷ (c ∷ (d ∷ [])))) h = absurd (omega arith)
six_digits (a ∷ (b ∷ (c ∷ (d ∷ (e ∷ []))))) h = absurd (omega arith)
six_digits (a ∷ (b ∷ (c ∷ (d ∷ (e ∷ (f ∷ digits)))))) h = omega arith

pub four_are : (from : ℕ) (digits : List ℕ) → from + 4 ≤ length digits → field from 4 digits ≡ 100 * field from 2 digits + field (from + 2) 2 digits
four_are from digits h =
    let long : 4 ≤ length (drop from digits) = omega (arith, length-drop from digits) in
    rw drop-drop at (four_digits (drop from digits) long)

pub six_are : (from : ℕ) (digits : List ℕ) → from + 6 ≤ length digits → field from 6 digits ≡ 100 * field from 4 digits + field (from + 4) 2 digits
six_are from digits h =
    let long : 6 ≤ length (drop from digits) = omega (arith, length-drop from digits) in
    rw drop-drop at (six_digits (drop from digits) long)

-- after the digits of a text stand as many zeros as it is short of twenty digits
short : (text : List ℕ) (n : ℕ) → length text + n ≡ 20 → n ≤ 6 → text ++ drop (length text) (replicate 20 48) ≡ twenty text
short text n e h =
    let left : 20 - length text ≡ n = omega arith in
    let zeros : drop (length text) (replicate 20 48) ≡ take n (replicate 6 48) = drop-replicate (length text) 20 48 ∙ ap (λ k. replicate k 48) left ∙ sym (take-replicate n 6 48 h) in
    ap (λ part. text ++ part) zeros ∙ sym (take-append-add text (replicate 6 48) n) ∙ ap (λ k. take k (text ++ replicate 6 48)) e

long : (text : List ℕ) → 20 ≤ length text → take 20 text ++ drop 20 (replicate 20 48) ≡ twenty text
long text h = append-nil (take 20 text) ∙ sym (take-append-le 20 text (replicate 6 48) h)

pub twenty_is : (text : List ℕ) (count : ℕ) → 14 ≤ length text → count ≡ min (length text) 20 → take count text ++ drop count (replicate 20 48) ≡ twenty text
twenty_is text count h e = elim (cases_lt (length text) 20) [
  | inl few ↦
      let whole : count ≡ length text = omega arith in
      let all : take count text ≡ text = take_all count text (omega arith) in
      ap (λ part. part ++ drop count (replicate 20 48)) all ∙ ap (λ k. text ++ drop k (replicate 20 48)) whole ∙ short text (20 - length text) (omega arith) (omega arith)
  | inr many ↦
      let cut : count ≡ 20 = omega arith in
      ap (λ k. take k text ++ drop k (replicate 20 48)) cut ∙ long text many
]

-- the twenty digits of digits are digits
first_all : (n : ℕ) (text : List ℕ) → list_all is_ascii_digit text ≡ true → list_all is_ascii_digit (take n text) ≡ true
first_all zero text h = refl
first_all (suc n) [] h = refl
first_all (suc n) (x ∷ text) h = let parts = and_parts (is_ascii_digit x) (list_all is_ascii_digit text) h in and_from _ _ parts.0 (first_all n text parts.1)

pub twenty_all : (text : List ℕ) → list_all is_ascii_digit text ≡ true → list_all is_ascii_digit (twenty text) ≡ true
twenty_all text h = first_all 20 (text ++ replicate 6 48) (list_all-append is_ascii_digit text (replicate 6 48) ∙ and_from _ _ h refl)

pub civil_by_test : (c : Civil) → is_civil c ≡ true → IsCivil c
unfolding is_civil
civil_by_test c h = grind arith

-- the days from the start of the year 0000 are those from the start of the year -9999, less those between the two
pub record AreDays (c : Civil) (days before : ℕ) : Type 0 where
  pub order : before ≤ days
  pub value : days - before ≡ days_of c
  pub bound : days - before < 3_652_425

pub days_are : (c : Civil) (days before : ℕ) → IsCivil c → days_from_civil (to_z w16 c.year) c.month c.day +ℤ pos 4_371_587 ≡ pos days → days_from_civil (pos 0) 1 1 +ℤ pos 4_371_587 ≡ pos before → AreDays c days before
days_are c days before h e f =
    let year : to_z w16 c.year ≡ pos c.year = to_z_pos w16 c.year (omega (arith, h.year)) in
    let date : days_from_civil (pos c.year) c.month c.day +ℤ pos 4_371_587 ≡ pos days = rw year at e in
    let count : days + 366 ≡ day_count (pos c.year) c.month c.day = omega (arith, signed_arith, date, days_from_civil-day_count (pos c.year) c.month c.day) in
    let first : before + 366 ≡ day_count (pos 0) 1 1 = omega (arith, signed_arith, f, days_from_civil-day_count (pos 0) 1 1) in
    let least = at_least c.year c.month c.day h.date in
    let most = day_count_bounds (pos c.year) c.month c.day h.date in
    record {
      order = omega (arith, count, first, least);
      value = omega (arith, count, first);
      bound = omega (arith, count, first, zero_count, most.1);
    }
