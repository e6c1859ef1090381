-- The orders of places and of matches are total: what impls of orders cite.
use Rattle.std.specs.Prelude.{◌≡◌, ℕ, List, [], length, refl}
use Rattle.std.proofs.Common.{subst}
use Rattle.std.proofs.lemmas.Cmp.{on_total, then_total, back_total, lists_total, nat_cmp_total}
use Rattle.std.proofs.lemmas.Cmp.{nat_list_cmp_total}
use Rattle.std.specs.Cmp.{IsTotalOrder}
use Rattle.std.specs.Ordering.{ordering_then, nat_cmp}
use Rattle.std.specs.declared.cmp.Ordering.{Ordering}
use Rattle.std.specs.declared.cmp.Ordering.TheVariants.{Less, Equal, Greater}
use Rattle.acap_entries.specs.FullPaths.{full_path}
use Rattle.acap_entries.specs.Orders.{octets_cmp}
use Rattle.acap_search.specs.Matches.{Match, match_cmp}
use Rattle.acap_search.specs.Places.{rank_cmp, place_cmp, places_cmp}
use Rattle.acap_search.specs.declared.sort_term.SortTerm.{SortTerm}
use Rattle.acap_search.specs.declared.sort_term.SortTerm.TheVariants.{Rising, Falling, Behind}
use Rattle.acap_search.specs.declared.sort_term.Rank.{Rank}
use Rattle.acap_search.specs.declared.sort_term.Rank.TheVariants.{Octets, Number, NoNumber}

-- ranks by their kind, then by the count of digits, then by octets
abbrev kind : Rank → ℕ
kind (Octets a) = 0
kind (Number a) = 1
kind NoNumber = 2

abbrev size : Rank → ℕ
size (Octets a) = 0
size (Number a) = length a
size NoNumber = 0

abbrev text : Rank → List ℕ
text (Octets a) = a
text (Number a) = a
text NoNumber = []

abbrev by_kind : Rank → Rank → Ordering
by_kind a b =
    ordering_then (nat_cmp (kind a) (kind b))
    (ordering_then (nat_cmp (size a) (size b)) (octets_cmp (text a) (text b)))

rank_is : (a b : Rank) → by_kind a b ≡ rank_cmp a b
rank_is (Octets a) (Octets b) = refl
rank_is (Octets a) (Number b) = refl
rank_is (Octets a) NoNumber = refl
rank_is (Number a) (Octets b) = refl
rank_is (Number a) (Number b) = refl
rank_is (Number a) NoNumber = refl
rank_is NoNumber (Octets b) = refl
rank_is NoNumber (Number b) = refl
rank_is NoNumber NoNumber = refl

by_kind_total : IsTotalOrder by_kind
by_kind_total =
    then_total (on_total kind nat_cmp_total)
    (then_total (on_total size nat_cmp_total) (on_total text nat_list_cmp_total))

pub rank_total : IsTotalOrder rank_cmp
rank_total = subst (λ (S : Rank → Rank → Ordering). IsTotalOrder S) (λ i a b. rank_is a b i) by_kind_total

abbrev turn : SortTerm → ℕ
turn (Rising a) = 0
turn (Falling a) = 1
turn Behind = 2

abbrev up : SortTerm → Rank
up (Rising a) = a
up (Falling a) = NoNumber
up Behind = NoNumber

abbrev down : SortTerm → Rank
down (Rising a) = NoNumber
down (Falling a) = a
down Behind = NoNumber

abbrev by_turn : SortTerm → SortTerm → Ordering
by_turn a b =
    ordering_then (nat_cmp (turn a) (turn b))
    (ordering_then (rank_cmp (up a) (up b)) (rank_cmp (down b) (down a)))

then_equal : (order : Ordering) → ordering_then order Equal ≡ order
then_equal Less = refl
then_equal Equal = refl
then_equal Greater = refl

place_is : (a b : SortTerm) → by_turn a b ≡ place_cmp a b
place_is (Rising a) (Rising b) = then_equal (rank_cmp a b)
place_is (Rising a) (Falling b) = refl
place_is (Rising a) Behind = refl
place_is (Falling a) (Rising b) = refl
place_is (Falling a) (Falling b) = refl
place_is (Falling a) Behind = refl
place_is Behind (Rising b) = refl
place_is Behind (Falling b) = refl
place_is Behind Behind = refl

by_turn_total : IsTotalOrder by_turn
by_turn_total =
    then_total (on_total turn nat_cmp_total)
    (then_total (on_total up rank_total) (on_total down (back_total rank_total)))

pub place_total : IsTotalOrder place_cmp
place_total =
    subst (λ (S : SortTerm → SortTerm → Ordering). IsTotalOrder S) (λ i a b. place_is a b i) by_turn_total

pub places_total : IsTotalOrder places_cmp
places_total = lists_total place_total

pub match_total : IsTotalOrder match_cmp
match_total =
    then_total (on_total (λ (m : Match). m.places) places_total)
    (on_total (λ (m : Match). full_path m.path) nat_list_cmp_total)
