-- Searches over contexts, computed.
use Rattle.std.proofs.Common.{ℕ, ℤ, Bool, false, not, ◌&&◌, cond, List, length, Option, Some, None, refl, pos}
use Rattle.acap_commands.specs.Wanted.{Wanted}
use Rattle.acap_search.specs.ContextExamples.{ContextExamples}
use Rattle.acap_search.specs.Fresh.{has_range, is_over}
use Rattle.acap_search.specs.Matches.{Match, sorted_by}
use Rattle.acap_search.specs.Within.{has_old}
use Rattle.acap_search.specs.declared.refusal.SearchRefusal.{SearchRefusal}
use Rattle.acap_search.specs.declared.refusal.SearchRefusal.TheVariants as refusal

-- whether a search is refused, by its key, its HARDLIMIT and the matches, over a context that has positions or none
abbrev judged : Bool → ℤ → Wanted → Option ℕ → List Match → Option SearchRefusal
judged enumerated told key most matches =
    cond (not enumerated && has_range key) (Some refusal.RangeHere) (cond (has_old told key) (Some refusal.TooOld) (cond (is_over most (length matches)) (Some refusal.WayTooMany) None))

pub context_examples : ContextExamples
unfolding sorted_by
context_examples = record {
  all_of_them = refl;
  third = refl;
  second = refl;
  unlisted = refl;
  under_not = refl;
  zero = refl;
  from_zero = refl;
  turned_round = refl;
  to_the_last = refl;
  last_position = refl;
  no_position = refl;
  tested = refl;
  not_tested = refl;
  unsorted = refl;
  sorted = refl;
  full_names = refl;
  same_time = refl;
  later_time = refl;
  earlier_time = refl;
  earlier_under_not = refl;
  earlier_not_needed = refl;
  one_of_two = refl;
  two_times = refl;
  no_positions = λ records realm user query paths k. rw k refl;
  too_old = λ records realm user query paths k. rw k refl;
  too_many = λ records realm user query paths m n k l f i. judged false (pos 9) (k i) (l i) (f i);
  not_too_many = λ records realm user query paths m n k l f i. judged false (pos 9) (k i) (l i) (f i);
}
