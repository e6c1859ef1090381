-- What taking out and putting in gives, and putting back.
use Rattle.std.proofs.Common.{◌≡◌, ℕ, suc, Bool, true, false, List, [], ◌∷◌, ◌++◌, Some, None, Option, refl, sym, ap, ◌∙◌, cond}
use Rattle.std.specs.declared.cmp.Ordering.TheVariants.{Less, Equal, Greater}
use Rattle.std.specs.List.{remove}
use Rattle.std.specs.Option.{option_map}
use Rattle.std.specs.FinMap.Entries.{by_order}
use Rattle.acap_entries.specs.Orders.{octets_eq}
use Rattle.acap_ordmap.proofs.Logic.{false_back}
use Rattle.acap_moves.specs.Hits.{Name, Shape, IsLawful, is_among, IsDistinct, put, put_some, fresh, rank, found, IsOfNames, Supports}
use Rattle.acap_moves.specs.Notices.{notice_at, with_new_hit, stepwise, Covers}
use Rattle.acap_moves.specs.Moves.{Move, without, put_back, all_undone, moves_to, taken, after_move, after_moves, moves_notices, undo_of, undone, undos, MovesLaw, UndoLaw}
use Rattle.acap_moves.proofs.Splits.{hidden, if_among, split, split_moved, moved_of, itself}
use Rattle.acap_moves.proofs.ListSteps.{Absent}
use Rattle.acap_moves.proofs.Law.{absent_fresh, of_name_among, covers_none, covers_rest}
use Rattle.acap_moves.proofs.Domain.{among_or_none}
use Rattle.acap_moves.proofs.Touched.{touched_told}
use Rattle.acap_moves.proofs.Mixed.{mixed_steps}

module _ {H : Type 0} (v : Shape H) where
  taken_absent : (p : Name) (es : List H) → Absent v p es → taken v p es ≡ es
  unfolding Absent taken
  taken_absent p [] a = refl
  taken_absent p (e ∷ es) a = rw a.0 (ap (λ t. e ∷ t) (taken_absent p es a.1))

  taken_put : (p : Name) (h : H) (es : List H) → v.name h ≡ p → Absent v p es → taken v p (put v h es) ≡ es
  unfolding Absent taken put
  taken_put p h [] e a = rw (itself p (v.name h) (sym e)) refl
  taken_put p h (x ∷ es) e a = elim (v.order h x) as (λ r. taken v p (by_order r (h ∷ x ∷ es) (h ∷ x ∷ es) (x ∷ put v h es)) ≡ x ∷ es) [
    | Less ↦ rw (itself p (v.name h) (sym e)) refl
    | Equal ↦ rw (itself p (v.name h) (sym e)) refl
    | Greater ↦ rw a.0 (ap (λ t. x ∷ t) (taken_put p h es e a.1))
  ]

  taken_put_some : (p : Name) (x : Option H) (es : List H) → ((h : H) → x ≡ Some h → v.name h ≡ p) → Absent v p es → taken v p (put_some v x es) ≡ es
  unfolding put_some
  taken_put_some p None es e a = taken_absent p es a
  taken_put_some p (Some h) es e a = taken_put p h es (e h refl) a

  -- what was put in is taken out at its place
  removed_put : (h : H) (es : List H) → remove (put v h es) (rank v h es) ≡ es
  unfolding put rank
  removed_put h [] = refl
  removed_put h (e ∷ es) = elim (v.order h e) as (λ r. remove (by_order r (h ∷ e ∷ es) (h ∷ e ∷ es) (e ∷ put v h es)) (by_order r 0 0 (suc (rank v h es))) ≡ e ∷ es) [
    | Less ↦ refl
    | Equal ↦ refl
    | Greater ↦ ap (λ t. e ∷ t) (removed_put h es)
  ]

  without_put : (new : Option H) (es : List H) → without (option_map (λ h. rank v h es) new) (put_some v new es) ≡ es
  unfolding put_some
  without_put None es = refl
  without_put (Some h) es = removed_put h es

  back_later : (o : Option (ℕ × H)) (e : H) (es : List H) → put_back (option_map (λ s. (suc s.0, s.1)) o) (e ∷ es) ≡ e ∷ put_back o es
  back_later None e es = refl
  back_later (Some s) e es = refl

  -- what was taken out is put in where it stood
  back_taken : (p : Name) (es : List H) → put_back (found v p es) (taken v p es) ≡ es
  unfolding found taken
  back_taken p [] = refl
  back_taken p (e ∷ es) = elim (octets_eq p (v.name e)) as (λ b. put_back (cond b (Some (0, e)) (option_map (λ s. (suc s.0, s.1)) (found v p es))) (cond b es (e ∷ taken v p es)) ≡ e ∷ es) [
    | true ↦ refl
    | false ↦ back_later (found v p es) e (taken v p es) ∙ ap (λ t. e ∷ t) (back_taken p es)
  ]

  one_undone : (move : Move H) (es : List H) → undone (undo_of v move es) (after_move v move es) ≡ es
  unfolding after_move
  one_undone move es = ap (put_back (found v move.0 es)) (without_put move.1 (taken v move.0 es)) ∙ back_taken move.0 es

  pub moves_undone : (moves : List (Move H)) (hits : List H) → all_undone (undos v moves hits) (after_moves v moves hits) ≡ hits
  moves_undone [] hits = refl
  moves_undone (move ∷ moves) hits = ap (undone (undo_of v move hits)) (moves_undone moves (after_move v move hits)) ∙ one_undone move hits

  module _ (l : IsLawful v) where
    -- one move of a list
    move_fresh : (p : Name) (t u : Name → Option H) (ps : List Name) → IsDistinct ps → IsOfNames v t → IsOfNames v u → Supports u ps →
        after_move v (p, u p) (fresh v t ps) ≡ fresh v (with_new_hit p u t) ps
    unfolding after_move
    move_fresh p t u ps d f g s =
        ap (λ es. put_some v (u p) (taken v p es)) (split v l p t ps d f)
        ∙ ap (put_some v (u p)) (taken_put_some p (if_among p ps (t p)) (fresh v (hidden p t) ps) (of_name_among v p ps t f) (absent_fresh v p t ps f))
        ∙ ap (λ o. put_some v o (fresh v (hidden p t) ps)) (sym (among_or_none v l p u ps s))
        ∙ sym (split_moved v l p t u ps d f g)

    moves_fresh : (t u : Name → Option H) (ps cs : List Name) → IsDistinct ps → IsOfNames v t → IsOfNames v u → Supports u ps → Covers t u ps cs →
        after_moves v (moves_to u cs) (fresh v t ps) ≡ fresh v u ps
    moves_fresh t u ps [] d f g s k = covers_none v l t u ps k
    moves_fresh t u ps (c ∷ cs) d f g s k =
        ap (after_moves v (moves_to u cs)) (move_fresh c t u ps d f g s)
        ∙ moves_fresh (with_new_hit c u t) u ps cs d (moved_of v l c t u f g) g s (covers_rest v l t u ps c cs k)

    moves_told : (enumerated : Bool) (t u : Name → Option H) (ps cs : List Name) → IsDistinct ps → IsOfNames v t → IsOfNames v u → Supports u ps →
        moves_notices v enumerated (moves_to u cs) (fresh v t ps) ≡ stepwise v enumerated t u ps cs
    unfolding stepwise
    moves_told enumerated t u ps [] d f g s = refl
    moves_told enumerated t u ps (c ∷ cs) d f g s =
        ap (λ es. notice_at v enumerated c (fresh v t ps) es ++ moves_notices v enumerated (moves_to u cs) es) (move_fresh c t u ps d f g s)
        ∙ ap (λ ns. notice_at v enumerated c (fresh v t ps) (fresh v (with_new_hit c u t) ps) ++ ns) (moves_told enumerated (with_new_hit c u t) u ps cs d (moved_of v l c t u f g) g s)

pub undo : {H : Type 0} → UndoLaw H
undo v moves hits = moves_undone v moves hits

pub moves : {H : Type 0} → MovesLaw H
moves v l enumerated old new names changed touched d f g s k a b w = (
  moves_fresh v l old new names touched d f g s (record { same_elsewhere = λ q m n. k q (false_back (is_among q changed) (is_among q touched) (w q) n) }),
  moves_told v l enumerated old new names touched d f g s
      ∙ touched_told v enumerated old new names changed touched k a b w
      ∙ sym (mixed_steps v enumerated old new names changed),
)
