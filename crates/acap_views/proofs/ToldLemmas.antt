-- The list of a search, told by names, is the list in which each name's match stands at its place.
use Rattle.std.proofs.Common.{◌≡◌, Bool, true, false, not, cond, ◌||◌, ◌&&◌, Some, None, List, [], ◌∷◌, refl, sym, ◌∙◌, ap, subst}
use Rattle.std.specs.Cmp.{then_total, on_total, tied_itself}
use Rattle.std.specs.Cmp.Lexicographic.{nat_list_cmp_total}
use Rattle.std.specs.FinMap.{slice_cmp-IsAntisymmetric, nat_cmp-IsAntisymmetric}
use Rattle.std.specs.FinMap.Entries.{by_order}
use Rattle.std.specs.List.{filter, Contains}
use Rattle.std.specs.Ordering.{is_lt, is_gt, ordering_then, ordering_reverse}
use Rattle.std.specs.declared.cmp.Ordering.TheVariants.{Less, Equal, Greater}
use Rattle.std.proofs.lemmas.Bool.{or_parts}
use Rattle.acap_entries.specs.Orders.{octets_cmp, octets_eq}
use Rattle.acap_ordmap.proofs.Logic.{second_Equal, Contains-here, Contains-there}
use Rattle.acap_moves.specs.Hits.{Name, IsLawful, is_among, IsDistinct, put, put_some, fresh, IsOfNames, Supports}
use Rattle.acap_moves.proofs.Splits.{same_name, itself, distinct_first, distinct_rest, fresh_same}
use Rattle.acap_moves.proofs.Domain.{same_domain}
use Rattle.acap_moves.proofs.Touched.{among_filter}
use Rattle.acap_search.specs.Matches.{Match, match_cmp, match_lt}
use Rattle.acap_search.proofs.OrderLemmas.{match_total, match_weak}
use Rattle.acap_search.proofs.SeenLemmas.{first_or, nowhere, either}
use Rattle.acap_search.proofs.SortLemmas.{Above, Rises}
use Rattle.acap_views.specs.Notices.{told_cmp, told_shape, names_told, match_told, names_of_both}
use Rattle.acap_views.proofs.ListLemmas.{among_append, distinct_both}

pub told_lawful : IsLawful told_shape
told_lawful = record {
  order_total = then_total match_total (on_total (λ (m : Match). m.row.name) nat_list_cmp_total);
  order_name = λ a b e. slice_cmp-IsAntisymmetric nat_cmp-IsAntisymmetric a.row.name b.row.name (second_Equal (match_cmp a b) _ e);
  row_name = λ h. refl;
}

-- ---- the match of a name

pub told_is : (ms : List Match) (name : Name) (m : Match) → match_told ms name ≡ Some m → Contains ms m × (m.row.name ≡ name)
told_is [] name m e = absurd (cc (e))
told_is (x ∷ xs) name m e =
    elim (octets_eq name x.row.name) as (λ b. octets_eq name x.row.name ≡ b → cond b (Some x) (match_told xs name) ≡ Some m → Contains (x ∷ xs) m × (m.row.name ≡ name)) [
      | true ↦ λ t k. let same : x ≡ m = cc (k) in (subst (λ z. Contains (x ∷ xs) z) same (Contains-here x xs), ap (λ (m : Match). m.row.name) (sym same) ∙ sym (same_name name x.row.name t))
      | false ↦ λ t k. let r = told_is xs name m k in (Contains-there x m xs r.0, r.1)
    ] refl e

pub told_none : (ms : List Match) (name : Name) → is_among name (names_told ms) ≡ false → match_told ms name ≡ None
unfolding is_among
told_none [] name e = refl
told_none (x ∷ xs) name e =
    elim (octets_eq name x.row.name) as (λ b. (b || is_among name (names_told xs)) ≡ false → cond b (Some x) (match_told xs name) ≡ None) [
      | true ↦ λ k. absurd (cc (k))
      | false ↦ λ k. told_none xs name k
    ] e

not_first : (x : Match) (xs : List Match) (q : Name) → is_among x.row.name (names_told xs) ≡ false → is_among q (names_told xs) ≡ true → match_told (x ∷ xs) q ≡ match_told xs q
not_first x xs q n m =
    elim (octets_eq q x.row.name) as (λ b. octets_eq q x.row.name ≡ b → cond b (Some x) (match_told xs q) ≡ match_told xs q) [
      | true ↦ λ t. absurd (cc (n, m, ap (λ p. is_among p (names_told xs)) (same_name q x.row.name t)))
      | false ↦ λ t. refl
    ] refl

named_among : (ms : List Match) (m : Match) → Contains ms m → is_among m.row.name (names_told ms) ≡ true
unfolding is_among
named_among [] m h = nowhere m h
named_among (x ∷ xs) m h =
    either (first_or x m xs h)
    (λ e. rw (itself m.row.name x.row.name (ap (λ (m : Match). m.row.name) (sym e))) refl)
    (λ k. rw (named_among xs m k) (elim (octets_eq m.row.name x.row.name) as (λ b. (b || true) ≡ true) [ true ↦ refl | false ↦ refl ]))

pub told_at : (ms : List Match) (m : Match) → IsDistinct (names_told ms) → Contains ms m → match_told ms m.row.name ≡ Some m
told_at [] m d h = nowhere m h
told_at (x ∷ xs) m d h =
    either (first_or x m xs h)
    (λ e. ap (λ b. cond b (Some x) (match_told xs m.row.name)) (itself m.row.name x.row.name (ap (λ (m : Match). m.row.name) (sym e))) ∙ ap Some e)
    (λ k. not_first x xs m.row.name (distinct_first x.row.name (names_told xs) d) (named_among xs m k) ∙ told_at xs m (distinct_rest x.row.name (names_told xs) d) k)

pub told_of_names : (ms : List Match) → IsOfNames told_shape (match_told ms)
told_of_names ms = record { of_name = λ name m e. (told_is ms name m e).1 }

-- ---- the list in order

abbrev Leads : Match → List Match → Type 0
Leads m [] = Unit {0}
Leads m (y ∷ ys) = (is_gt (told_cmp m y) ≡ false) × Leads m ys

abbrev pub InTurn : List Match → Type 0
InTurn [] = Unit {0}
InTurn (m ∷ ms) = Leads m ms × InTurn ms

not_behind : (m y : Match) → match_lt y m ≡ false → (match_cmp m y ≡ Equal → m.row.name ≡ y.row.name) → is_gt (told_cmp m y) ≡ false
not_behind m y below ties =
    elim (match_cmp m y) as (λ o. match_cmp m y ≡ o → is_gt (ordering_then o (octets_cmp m.row.name y.row.name)) ≡ false) [
      | Less ↦ λ e. refl
      | Equal ↦ λ e. ap (λ n. is_gt (octets_cmp m.row.name n)) (sym (ties e)) ∙ ap is_gt (tied_itself nat_list_cmp_total m.row.name)
      | Greater ↦ λ e. absurd (cc (below, ap is_lt (match_total.antisymm y m ∙ ap ordering_reverse e)))
    ] refl

leads : (m : Match) (ms : List Match) → Above match_lt match_weak m ms → ((y : Match) → Contains ms y → match_cmp m y ≡ Equal → m.row.name ≡ y.row.name) → Leads m ms
leads m [] a t = tt
leads m (y ∷ ys) a t = (not_behind m y a.0 (t y (Contains-here y ys)), leads m ys a.1 (λ z k. t z (Contains-there y z ys k)))

pub in_turn : (ms : List Match) → Rises match_lt match_weak ms → ((a b : Match) → Contains ms a → Contains ms b → match_cmp a b ≡ Equal → a.row.name ≡ b.row.name) → InTurn ms
in_turn [] r t = tt
in_turn (m ∷ ms) r t = (
  leads m ms r.0 (λ y k. t m y (Contains-here m ms) (Contains-there m y ms k)),
  in_turn ms r.1 (λ a b k l. t a b (Contains-there m a ms k) (Contains-there m b ms l)),
)

put_first : (m : Match) (ms : List Match) → Leads m ms → put told_shape m ms ≡ m ∷ ms
unfolding put
put_first m [] h = refl
put_first m (y ∷ ys) h = elim (told_cmp m y) as (λ o. is_gt o ≡ false → by_order o (m ∷ y ∷ ys) (m ∷ y ∷ ys) (y ∷ put told_shape m ys) ≡ m ∷ y ∷ ys) [
  | Less ↦ λ e. refl
  | Equal ↦ λ e. refl
  | Greater ↦ λ e. absurd (cc (e))
] h.0

pub fresh_itself : (ms : List Match) → InTurn ms → IsDistinct (names_told ms) → fresh told_shape (match_told ms) (names_told ms) ≡ ms
unfolding fresh put_some
fresh_itself [] t d = refl
fresh_itself (m ∷ ms) t d =
    ap (λ o. put_some told_shape o (fresh told_shape (match_told (m ∷ ms)) (names_told ms))) (ap (λ b. cond b (Some m) (match_told ms m.row.name)) (itself m.row.name m.row.name refl))
    ∙ (ap (put told_shape m)
    (fresh_same told_shape told_lawful (match_told (m ∷ ms)) (match_told ms) (names_told ms) (λ q k. not_first m ms q (distinct_first m.row.name (names_told ms) d) k)
    ∙ fresh_itself ms t.1 (distinct_rest m.row.name (names_told ms) d))
    ∙ put_first m ms t.0)

-- ---- over the names of two lists

pub both_distinct : (old new : List Match) → IsDistinct (names_told old) → IsDistinct (names_told new) → IsDistinct (names_of_both old new)
both_distinct old new d e = distinct_both (names_told old) (names_told new) d e

out_of_new : (a b : Bool) → a ≡ false → (not a && b) ≡ false → b ≡ false
out_of_new true b e f = absurd (cc (e))
out_of_new false b e f = f

pub old_supports : (old new : List Match) → Supports (match_told old) (names_of_both old new)
old_supports old new = record { none_elsewhere = λ name e. told_none old name (or_parts _ _ (sym (among_append name (names_told old) _) ∙ e)).0 }

pub new_supports : (old new : List Match) → Supports (match_told new) (names_of_both old new)
new_supports old new = record {
  none_elsewhere = λ name e.
      let parts = or_parts _ _ (sym (among_append name (names_told old) (filter (λ name. not (is_among name (names_told old))) (names_told new))) ∙ e) in
      told_none new name (out_of_new (is_among name (names_told old)) _ parts.0 (sym (among_filter (λ name. not (is_among name (names_told old))) name (names_told new)) ∙ parts.1));
}

own_supports : (ms : List Match) → Supports (match_told ms) (names_told ms)
own_supports ms = record { none_elsewhere = λ name e. told_none ms name e }

pub list_over : (ms : List Match) (names : List Name) → InTurn ms → IsDistinct (names_told ms) → IsDistinct names → Supports (match_told ms) names → fresh told_shape (match_told ms) names ≡ ms
list_over ms names t d e s =
    same_domain told_shape told_lawful (match_told ms) names (names_told ms) e d (told_of_names ms) s (own_supports ms)
    ∙ fresh_itself ms t d
