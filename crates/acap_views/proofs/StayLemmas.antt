-- A match that is found again as it was leaves the list as it is, and nothing is told of it.
use Rattle.std.proofs.Common.{◌≡◌, ℕ, Bool, true, false, not, cond, Option, Some, None, List, [], ◌∷◌, eq-eqb, refl, sym, ◌∙◌, ap, subst}
use Rattle.std.specs.FinMap.Entries.{by_order}
use Rattle.std.specs.List.{filter, find, Contains}
use Rattle.std.specs.Ordering.{eq_by_cmp, ordering_reverse}
use Rattle.std.specs.declared.cmp.Ordering.TheVariants.{Less, Greater}
use Rattle.acap_entries.proofs.Equalities.{row_exact}
use Rattle.acap_ordmap.specs.Ranks.{item_at, with_item, without_item}
use Rattle.acap_ordmap.proofs.Logic.{Contains-here}
use Rattle.acap_moves.specs.Hits.{spot}
use Rattle.acap_moves.specs.Notices.{notice_at, notice_between}
use Rattle.acap_search.specs.Matches.{Match, match_cmp}
use Rattle.acap_search.specs.Totals.{match_total}
use Rattle.acap_views.specs.Notices.{told_shape}
use Rattle.acap_views.specs.EntryUpdates.{EntryUpdate, with_match, without_old, shift_notices, after_shift}
use Rattle.acap_views.proofs.UpdateLemmas.{Rises, IsApt, all_kept, untied_behind, where_found, shift_is, told_is}

-- ---- it is put where it stood

put_first : (come : Match) (hits : List Match) → ((x : Match) → Contains hits x → match_cmp come x ≡ Less) → with_item match_cmp come hits ≡ come ∷ hits
unfolding with_item
put_first come [] b = refl
put_first come (h ∷ hs) b = ap (λ o. by_order o (come ∷ h ∷ hs) (h ∷ hs) (h ∷ with_item match_cmp come hs)) (b h (Contains-here h hs))

put_behind : (old h : Match) (hs es : List Match) → ((x : Match) → Contains hs x → match_cmp h x ≡ Less) → (o : Option Match) → find (eq_by_cmp match_cmp old) hs ≡ o
    → with_match o es ≡ hs → with_match o (h ∷ es) ≡ h ∷ hs
unfolding with_item
put_behind old h hs es b None e i = ap (λ t. h ∷ t) i
put_behind old h hs es b (Some x) e i =
    let after : match_cmp x h ≡ Greater = match_total.antisymm x h ∙ ap ordering_reverse (b x (where_found (eq_by_cmp match_cmp old) hs x e).0) in
    ap (λ o. by_order o (x ∷ h ∷ es) (h ∷ es) (h ∷ with_item match_cmp x es)) after ∙ ap (λ t. h ∷ t) i

exchanged : (old : Match) (hits : List Match) → Rises hits → (o : Option Match) → find (eq_by_cmp match_cmp old) hits ≡ o → with_match o (without_old old hits) ≡ hits
unfolding without_item
exchanged old [] r None e = refl
exchanged old [] r (Some x) e = absurd (cc (e))
exchanged old (h ∷ hs) r o e = elim (eq_by_cmp match_cmp old h) as (λ b. eq_by_cmp match_cmp old h ≡ b → cond b (Some h) (find (eq_by_cmp match_cmp old) hs) ≡ o
    → with_match o (cond (not b) (h ∷ filter (λ x. not (eq_by_cmp match_cmp old x)) hs) (filter (λ x. not (eq_by_cmp match_cmp old x)) hs)) ≡ h ∷ hs) [
      | true ↦ λ t s. subst (λ m. with_match m (filter (λ x. not (eq_by_cmp match_cmp old x)) hs) ≡ h ∷ hs) s
          (ap (with_item match_cmp h) (all_kept _ hs (λ x k. ap not (untied_behind old h hs t r.0 x k))) ∙ put_first h hs r.0)
      | false ↦ λ t s. put_behind old h hs (filter (λ x. not (eq_by_cmp match_cmp old x)) hs) r.0 o s (exchanged old hs r.1 o s)
    ] refl e

-- ---- nothing is told of it

nothing_between : (enumerated : Bool) (name : List ℕ) (place : Option (ℕ × Match)) → notice_between told_shape enumerated name place place ≡ []
nothing_between true name None = refl
nothing_between true name (Some a) = rw (eq-eqb a.0 a.0 refl, (row_exact a.1.row a.1.row).1 refl) refl
nothing_between false name None = refl
nothing_between false name (Some a) = rw ((row_exact a.1.row a.1.row).1 refl) refl

module _ (shift : EntryUpdate) (hits : List Match) (apt : IsApt shift hits) (again : item_at match_cmp shift.old hits ≡ shift.come) where
  pub stays : after_shift shift hits ≡ hits
  unfolding item_at
  stays = exchanged shift.old hits apt.rises shift.come again

  pub untold : (enumerated : Bool) → shift_notices enumerated shift hits ≡ []
  untold enumerated =
      told_is shift hits apt enumerated
      ∙ (ap (notice_at told_shape enumerated shift.name hits) (sym (shift_is shift hits apt) ∙ stays)
      ∙ nothing_between enumerated shift.name (spot told_shape shift.name hits))
