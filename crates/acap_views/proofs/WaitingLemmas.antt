-- When a drain has something to tell.
use Rattle.std.proofs.Common.{◌≡◌, ◌↔◌, ◌≢◌, ℕ, Bool, true, false, cond, ◌||◌, Option, Some, None, List, [], ◌∷◌, ◌++◌, refl, sym, ◌∙◌, ap, flat_map, map as each}
use Rattle.std.specs.declared.cmp.Ordering.{Ordering}
use Rattle.std.specs.declared.cmp.Ordering.TheVariants.{Less, Equal, Greater}
use Rattle.std.specs.FinMap.Entries.{below_all}
use Rattle.std.specs.Cmp.{IsTotalOrder, tied_itself, nat_cmp_total, first_so, second_so}
use Rattle.std.specs.Cmp.Lexicographic.{nat_list_cmp_total}
use Rattle.std.specs.FinMap as table
use Rattle.std.specs.FinMap.{FinMap, is_sorted, find, nat_cmp-IsAntisymmetric}
use Rattle.std.specs.List.{list_any}
use Rattle.std.specs.Option.{option_map_or, option_and_then}
use Rattle.std.specs.Ordering.{eq_by_cmp, is_eq, nat_cmp}
use Rattle.acap_entries.specs.Orders.{octets_cmp}
use Rattle.acap_ordmap.proofs.Logic.{true_from_T, Less_from_is_lt}
use Rattle.acap_notices.specs.declared.notice.Notice.{Notice}
use Rattle.acap_notices.specs.declared.told.Told.{Told}
use Rattle.acap_notices.specs.declared.told.Told.TheVariants as told
use Rattle.acap_views.specs.Contexts.{Kept, Snapshot, Live, Freed, Context, Contexts}
use Rattle.acap_views.specs.Maps.{each_kept}
use Rattle.acap_views.specs.Seats.{Occupant, Seated, contexts_at}
use Rattle.acap_views.specs.Telling.{drain_told, kept_drained, after_drain, drain_of}
use Rattle.acap_views.specs.Waiting.{any_wait, waits, is_waiting}
use Rattle.acap_views.proofs.BitLemmas.{waiting_bits}
use Rattle.acap_views.specs.WaitingLaws.{WaitingLaw}
use Rattle.acap_views.proofs.ShownLemmas.{get_kept}

-- ---- what is told

abbrev any_told : List Told → Bool
any_told [] = false
any_told (t ∷ ts) = true

notes_told : (name : List ℕ) (pending : List Notice) → any_told (each (told.Note name) pending) ≡ any_wait pending
notes_told name [] = refl
notes_told name (notice ∷ pending) = refl

one_told : (name : List ℕ) (kept : Kept) → any_told (drain_told name kept) ≡ waits kept
one_told name (Snapshot shown) = refl
one_told name (Live shown now pending) = notes_told name pending
one_told name Freed = refl

told_either : (ts us : List Told) → any_told (ts ++ us) ≡ (any_told ts || any_told us)
told_either [] us = refl
told_either (t ∷ ts) us = refl

all_told : (es : List (List ℕ × Context)) → any_told (flat_map (λ e. drain_told e.0 e.1.kept) es) ≡ list_any (λ (c : Context). waits c.kept) (each (λ e. e.1) es)
all_told [] = refl
all_told (e ∷ es) =
    told_either (drain_told e.0 e.1.kept) (flat_map (λ e. drain_told e.0 e.1.kept) es)
    ∙ (λ i. one_told e.0 e.1.kept i || all_told es i)

nothing_told : (ts : List Told) → (any_told ts ≡ false) ↔ (ts ≡ [])
nothing_told [] = (λ e. refl, λ e. refl)
nothing_told (t ∷ ts) = (λ e. absurd (cc (e)), λ e. absurd (cc (e)))

-- ---- a map none of whose values passes a test

module _ {K X : Type 0} {R : K → K → Ordering} (o : IsTotalOrder R) (test : X → Bool) where
  pub tied_none : (q k : K) (es : List (K × X)) → R q k ≡ Equal → below_all R k es ≡ true → find R q es ≡ None
  tied_none q k [] t b = refl
  tied_none q k (e ∷ es) t b = ap (λ r. cond (is_eq r) (Some e.1) (find R q es)) (o.congr q k e.0 t ∙ Less_from_is_lt _ (first_so _ _ b)) ∙ tied_none q k es t (second_so _ _ b)

  -- what stands after an entry isn't at its key
  behind : (e : K × X) (es : List (K × X)) (q : K) (x : X) → below_all R e.0 es ≡ true → find R q es ≡ Some x → find R q (e ∷ es) ≡ Some x
  behind e es q x b k =
      elim (R q e.0) as (λ r. R q e.0 ≡ r → cond (is_eq r) (Some e.1) (find R q es) ≡ Some x) [
        | Less ↦ λ t. k
        | Equal ↦ λ t. absurd (cc (k, tied_none q e.0 es t b))
        | Greater ↦ λ t. k
      ] refl

  none_pass : (es : List (K × X)) → is_sorted R es ≡ true → ((q : K) (x : X) → find R q es ≡ Some x → test x ≡ false) → list_any test (each (λ e. e.1) es) ≡ false
  none_pass [] s h = refl
  none_pass (e ∷ es) s h =
      let first : test e.1 ≡ false = h e.0 e.1 (ap (λ r. cond (is_eq r) (Some e.1) (find R e.0 es)) (tied_itself o e.0)) in
      let rest : list_any test (each (λ e. e.1) es) ≡ false = none_pass es (second_so _ _ s) (λ q x k. h q x (behind e es q x (first_so _ _ s) k)) in
      ap (λ b. b || list_any test (each (λ e. e.1) es)) first ∙ rest

  pub none_of : (m : FinMap R X) → ((q : K) (x : X) → table.get m q ≡ Some x → test x ≡ false) → list_any test (table.values m) ≡ false
  none_of m h = none_pass (table.entries m) (true_from_T _ (table.entries_sorted m)) (λ q x k. h q x (table.get-entries m q ∙ k))

-- ---- drains

stays_not : (c d : Context) → after_drain c ≡ Some d → waits d.kept ≡ false
stays_not c d =
    elim c.kept as (λ k. c.kept ≡ k → kept_drained c k ≡ Some d → waits d.kept ≡ false) [
      | Snapshot shown ↦ λ e s. let same : c ≡ d = cc (s) in ap (λ (x : Context). waits x.kept) (sym same) ∙ ap waits e
      | Live shown now pending ↦ λ e s. let same : record c { kept = Live now now [] } ≡ d = cc (s) in ap (λ (x : Context). waits x.kept) (sym same)
      | Freed ↦ λ e s. absurd (cc (s))
    ] refl

some_not : (c : Option Context) (d : Context) → option_and_then after_drain c ≡ Some d → waits d.kept ≡ false
some_not None d e = absurd (cc (e))
some_not (Some c) d e = stays_not c d e

none_after : (contexts : Contexts) → list_any (λ (c : Context). waits c.kept) (table.values (each_kept after_drain contexts)) ≡ false
none_after contexts =
    none_of nat_list_cmp_total (λ (c : Context). waits c.kept) (each_kept after_drain contexts)
    (λ q d k. some_not (table.get contexts q) d (sym (get_kept nat_list_cmp_total after_drain contexts q) ∙ k))

pub none_in_none : list_any (λ (c : Context). waits c.kept) (table.values (table.empty {X = Context} {R = octets_cmp})) ≡ false
none_in_none = none_of nat_list_cmp_total (λ (c : Context). waits c.kept) table.empty (λ q c k. absurd (cc (k, table.get-empty octets_cmp q)))

abbrev any_in : Option Occupant → Bool
any_in o = list_any (λ (c : Context). waits c.kept) (table.values (option_map_or (λ (occupant : Occupant). occupant.contexts) o table.empty))

module _ (seats : Seated) (seat : ℕ) where
  abbrev with : Contexts → Option Occupant → Seated
  with contexts o = option_map_or (λ (occupant : Occupant). table.insert seats seat (record occupant { contexts = contexts })) o seats

  own : eq_by_cmp nat_cmp seat seat ≡ true
  own = ap is_eq (tied_itself nat_cmp_total seat)

  none_left : is_waiting (drain_of seats seat).1 seat ≡ false
  none_left =
      elim (table.get seats seat) as (λ o. table.get seats seat ≡ o → any_in (table.get (with (each_kept after_drain (option_map_or (λ (occupant : Occupant). occupant.contexts) o table.empty)) o) seat) ≡ false) [
        | None ↦ λ e. ap any_in e ∙ none_in_none
        | Some occupant ↦ λ e.
            ap any_in (table.get-insert nat_cmp_total seats seat (record occupant { contexts = each_kept after_drain occupant.contexts }) seat
            ∙ ap (λ b. cond b (Some (record occupant { contexts = each_kept after_drain occupant.contexts })) (table.get seats seat)) own)
            ∙ none_after occupant.contexts
      ] refl

  elsewhere : (other : ℕ) → seat ≢ other → (contexts : Contexts) (o : Option Occupant) → table.get (with contexts o) other ≡ table.get seats other
  elsewhere other apart contexts None = refl
  elsewhere other apart contexts (Some occupant) =
      table.get-insert nat_cmp_total seats seat (record occupant { contexts = contexts }) other
      ∙ ap (λ b. cond b (Some (record occupant { contexts = contexts })) (table.get seats other)) (elim (nat_cmp other seat) as (λ r. nat_cmp other seat ≡ r → is_eq r ≡ false) [
        | Less ↦ λ e. refl
        | Equal ↦ λ e. absurd (apart (sym (nat_cmp-IsAntisymmetric other seat e)))
        | Greater ↦ λ e. refl
      ] refl)

pub waiting_law : WaitingLaw
waiting_law = record {
  tells = λ seats seat.
      let same = all_told (table.entries (contexts_at seats seat)) in
      let none = nothing_told (drain_of seats seat).0 in
      (λ e. none.0 (same ∙ e), λ e. sym same ∙ none.1 e);
  none_left = none_left;
  bits = waiting_bits;
  elsewhere = λ seats seat other apart. ap any_in (elsewhere seats seat other apart (each_kept after_drain (contexts_at seats seat)) (table.get seats seat));
}
