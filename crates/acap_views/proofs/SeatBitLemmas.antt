-- The seats at which something waits, gone through in the list in which they are kept.
use Rattle.std.proofs.Common.{◌≡◌, ◌≢◌, ◌↔◌, ℕ, ◌+◌, ◌<◌, Bool, true, false, true≢false, cond, ◌||◌, ◌&&◌, Some, None, List, [], ◌∷◌, ◌++◌, get_or, length, take, refl, sym, ◌∙◌, ap}
use Rattle.std.proofs.Math.Seq.{take-suc}
use Rattle.std.specs.Cmp.{first_so, second_so, tied_itself, nat_cmp_total}
use Rattle.std.specs.FinMap as table
use Rattle.std.specs.FinMap.{find, is_sorted, nat_cmp-IsAntisymmetric}
use Rattle.std.specs.FinMap.Entries.{below_all}
use Rattle.std.specs.Int.{bit_at}
use Rattle.std.specs.Bool.{IsTrue}
use Rattle.std.specs.List.{list_any}
use Rattle.std.specs.Option.{option_map_or}
use Rattle.std.specs.Ordering.{nat_cmp, is_eq}
use Rattle.std.specs.declared.cmp.Ordering.{Ordering}
use Rattle.std.specs.declared.cmp.Ordering.TheVariants.{Less, Equal, Greater}
use Rattle.std.proofs.Math.Bool.{or-false, or-true, and-false}
use Rattle.acap_ordmap.specs.Sorted.{InOrder}
use Rattle.acap_ordmap.proofs.Logic.{or_regrouped, suc_is, Less_from_is_lt}
use Rattle.acap_views.specs.Contexts.{Context, Contexts}
use Rattle.acap_views.specs.Keeping.{RoomyOccupant, contexts_in}
use Rattle.acap_views.specs.Listing.{as_seated}
use Rattle.acap_views.specs.Waiting.{waits, is_waiting}
use Rattle.acap_views.proofs.KeepingLemmas.{contexts_there, contexts_nowhere}
use Rattle.acap_views.proofs.ValueLemmas.{sorted}
use Rattle.acap_views.proofs.WaitingLemmas.{none_in_none}

-- whether something waits in one of the contexts
abbrev pub any_of : Contexts → Bool
any_of contexts = list_any (λ (c : Context). waits c.kept) (table.values contexts)

abbrev pub entry_at : ℕ → ℕ × RoomyOccupant → Bool
entry_at n e = is_eq (nat_cmp n e.0) && any_of (contexts_in e.1.contexts)

-- whether one of the entries is of that seat, and something waits there
abbrev pub waits_among : List (ℕ × RoomyOccupant) → ℕ → Bool
waits_among es n = list_any (entry_at n) es

nowhere_below : (n : ℕ) (es : List (ℕ × RoomyOccupant)) → below_all nat_cmp n es ≡ true → waits_among es n ≡ false
nowhere_below n [] b = refl
nowhere_below n (e ∷ es) b =
    ap (λ r. (is_eq r && any_of (contexts_in e.1.contexts)) || waits_among es n) (Less_from_is_lt _ (first_so _ _ b)) ∙ nowhere_below n es (second_so _ _ b)

at_found : (n : ℕ) (es : List (ℕ × RoomyOccupant)) → is_sorted nat_cmp es ≡ true
    → waits_among es n ≡ option_map_or (λ (o : RoomyOccupant). any_of (contexts_in o.contexts)) (find nat_cmp n es) false
at_found n [] s = refl
at_found n (e ∷ es) s =
    elim (nat_cmp n e.0) as (λ r. nat_cmp n e.0 ≡ r → ((is_eq r && any_of (contexts_in e.1.contexts)) || waits_among es n) ≡ option_map_or (λ (o : RoomyOccupant). any_of (contexts_in o.contexts)) (cond (is_eq r) (Some e.1) (find nat_cmp n es)) false) [
      | Less ↦ λ t. at_found n es (second_so _ _ s)
      | Equal ↦ λ t. ap (λ b. any_of (contexts_in e.1.contexts) || b) (ap (waits_among es) (nat_cmp-IsAntisymmetric n e.0 t) ∙ nowhere_below e.0 es (first_so _ _ s)) ∙ or-false (any_of (contexts_in e.1.contexts))
      | Greater ↦ λ t. at_found n es (second_so _ _ s)
    ] refl

found_in : (n : ℕ) (es : List (ℕ × RoomyOccupant)) → InOrder nat_cmp es → table.get (table.from_sorted {R = nat_cmp} es) n ≡ find nat_cmp n es
found_in n es h =
    table.get-entries (table.from_sorted {R = nat_cmp} es) n ∙ ap (find nat_cmp n) (table.entries-from_sorted nat_cmp es (sorted nat_cmp es h))

pub waits_listed : (n : ℕ) (es : List (ℕ × RoomyOccupant)) → InOrder nat_cmp es → is_waiting (as_seated es) n ≡ waits_among es n
waits_listed n es h =
    elim (find nat_cmp n es) as (λ o. find nat_cmp n es ≡ o → is_waiting (as_seated es) n ≡ option_map_or (λ (o : RoomyOccupant). any_of (contexts_in o.contexts)) o false) [
      | None ↦ λ e. ap any_of (contexts_nowhere (table.from_sorted es) n (found_in n es h ∙ e)) ∙ none_in_none
      | Some o ↦ λ e. ap any_of (contexts_there (table.from_sorted es) n o (found_in n es h ∙ e))
    ] refl ∙ sym (at_found n es h.rises)

-- one entry more
any_after : (test : ℕ × RoomyOccupant → Bool) (xs : List (ℕ × RoomyOccupant)) (e : ℕ × RoomyOccupant) → list_any test (xs ++ e ∷ []) ≡ (list_any test xs || test e)
any_after test [] e = or-false (test e)
any_after test (x ∷ xs) e = ap (λ b. test x || b) (any_after test xs e) ∙ or_regrouped (test x) (list_any test xs) (test e)

one_more : (n i : ℕ) (es : List (ℕ × RoomyOccupant)) (e : ℕ × RoomyOccupant) → i < length es → e ≡ get_or es i e
    → waits_among (take (i + 1) es) n ≡ (waits_among (take i es) n || entry_at n e)
one_more n i es e h g =
    ap (λ k. waits_among (take k es) n) (sym (suc_is i))
    ∙ (ap (λ xs. waits_among xs n) (take-suc es i e h) ∙ (ap (λ x. waits_among (take i es ++ x ∷ []) n) (sym g) ∙ any_after (entry_at n) (take i es) e))

apart : (n number : ℕ) (r : Ordering) → nat_cmp n number ≡ r → is_eq r ≡ false → n ≢ number
apart n number r t differs e =
    let tied : nat_cmp n number ≡ Equal = ap (nat_cmp n) (sym e) ∙ tied_itself nat_cmp_total n in
    true≢false (sym (ap is_eq tied) ∙ ap is_eq t ∙ differs)

still : (old new n : ℕ) → bit_at new n ≡ bit_at old n → (seen : Bool) → (bit_at old n ≡ 1) ↔ (seen ≡ true) → (bit_at new n ≡ 1) ↔ ((seen || false) ≡ true)
still old new n kept seen was = (λ e. or-false seen ∙ was.0 (sym kept ∙ e), λ e. kept ∙ was.1 (sym (or-false seen) ∙ e))

-- the bits with that of the entry's seat set, if something waits there
with_one : (old new number n : ℕ) (set seen : Bool) → (IsTrue set → bit_at new number ≡ 1) → ((m : ℕ) → m ≢ number → bit_at new m ≡ bit_at old m) → (set ≡ false → new ≡ old)
    → (bit_at old n ≡ 1) ↔ (seen ≡ true) → (bit_at new n ≡ 1) ↔ ((seen || (is_eq (nat_cmp n number) && set)) ≡ true)
with_one old new number n false seen one others none was =
    let same : (seen || (is_eq (nat_cmp n number) && false)) ≡ seen = ap (λ b. seen || b) (and-false (is_eq (nat_cmp n number))) ∙ or-false seen in
    let kept : bit_at new n ≡ bit_at old n = ap (λ w. bit_at w n) (none refl) in
    (λ e. same ∙ was.0 (sym kept ∙ e), λ e. kept ∙ was.1 (sym same ∙ e))
with_one old new number n true seen one others none was =
    elim (nat_cmp n number) as (λ r. nat_cmp n number ≡ r → (bit_at new n ≡ 1) ↔ ((seen || (is_eq r && true)) ≡ true)) [
      | Less ↦ λ t. still old new n (others n (apart n number Less t refl)) seen was
      | Equal ↦ λ t. (λ e. or-true seen, λ e. ap (bit_at new) (nat_cmp-IsAntisymmetric n number t) ∙ one refl)
      | Greater ↦ λ t. still old new n (others n (apart n number Greater t refl)) seen was
    ] refl

-- the step of the loop
pub next_bits : (es : List (ℕ × RoomyOccupant)) (i : ℕ) (e : ℕ × RoomyOccupant) (old new n : ℕ) (set : Bool) → i < length es → e ≡ get_or es i e
    → set ≡ any_of (contexts_in e.1.contexts)
    → (IsTrue set → bit_at new e.0 ≡ 1) → ((m : ℕ) → m ≢ e.0 → bit_at new m ≡ bit_at old m) → (set ≡ false → new ≡ old)
    → (bit_at old n ≡ 1) ↔ (waits_among (take i es) n ≡ true) → (bit_at new n ≡ 1) ↔ (waits_among (take (i + 1) es) n ≡ true)
next_bits es i e old new n set h g k one others none was =
    let both = with_one old new e.0 n set (waits_among (take i es) n) one others none was in
    let same : waits_among (take (i + 1) es) n ≡ (waits_among (take i es) n || (is_eq (nat_cmp n e.0) && set)) =
    one_more n i es e h g ∙ ap (λ b. waits_among (take i es) n || (is_eq (nat_cmp n e.0) && b)) (sym k) in
    (λ b. same ∙ both.0 b, λ b. both.1 (sym same ∙ b))
