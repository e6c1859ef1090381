-- Over changes and tellings.
use Rattle.std.proofs.Common.{◌≡◌, Bool, List, [], ◌∷◌, ◌++◌, Some, refl, sym, ap, ◌∙◌, append_assoc}
use Rattle.std.specs.Option.{option_and_then}
use Rattle.acap_notices.specs.Holding.{holding, holding_after_all}
use Rattle.acap_moves.specs.Hits.{Shape, IsLawful, rows}
use Rattle.acap_moves.specs.Notices.{notice_at}
use Rattle.acap_moves.specs.Moves.{Move, after_move, after_moves, moves_notices}
use Rattle.acap_moves.specs.Following.{Scene, Change, Happening, Changes, Tells, Followed, IsScene, list_of, IsChange, AreChanges, notices_of, opened, after_one, after_all, IsFollowing, FollowingLaw, PendingLaw}
use Rattle.acap_moves.proofs.Domain.{same_domain}
use Rattle.acap_moves.proofs.Law.{applied_then}
use Rattle.acap_moves.proofs.Mixed.{notice_list}

module _ {H : Type 0} (v : Shape H) (l : IsLawful v) where
  one_change : (enumerated : Bool) (s : Scene H) (e : Change H) → IsScene v s → IsChange v s e →
      holding_after_all (holding enumerated (rows v (list_of v s))) (notices_of v enumerated s e) ≡ Some (holding enumerated (rows v (list_of v e.after)))
  one_change enumerated s e p q =
      let before = same_domain v l s.hit s.names e.names p.distinct q.distinct p.of_names p.supports q.old_within in
      let after = same_domain v l e.after.hit e.after.names e.names q.scene.distinct q.distinct q.scene.of_names q.scene.supports q.new_within in
      rw (before, after) (notice_list v l enumerated s.hit e.after.hit e.names e.changed q.distinct p.of_names q.scene.of_names (record { same_elsewhere = λ name m n. q.kept name n }))

  one : (enumerated : Bool) (f : Followed H) (h : Happening H) (hs : List (Happening H)) → IsFollowing v enumerated f → AreChanges v f.now (h ∷ hs) →
      IsFollowing v enumerated (after_one v enumerated f h) × AreChanges v (after_one v enumerated f h).now hs
  one enumerated f (Changes e) hs i legal = (
    record {
      scene = legal.0.scene;
      leads = applied_then _ _ _ f.pending _ i.leads (one_change enumerated f.now e i.scene legal.0);
      client = i.client;
    },
    legal.1,
  )
  one enumerated f Tells hs i legal = (
    record {
      scene = i.scene;
      leads = refl;
      client = ap (option_and_then (λ held. holding_after_all held f.pending)) i.client ∙ i.leads;
    },
    legal,
  )

  all : (enumerated : Bool) (f : Followed H) (hs : List (Happening H)) → IsFollowing v enumerated f → AreChanges v f.now hs → IsFollowing v enumerated (after_all v enumerated f hs)
  all enumerated f [] i legal = i
  all enumerated f (h ∷ hs) i legal = let next = one enumerated f h hs i legal in all enumerated (after_one v enumerated f h) hs next.0 next.1

  at_start : (enumerated : Bool) (s : Scene H) → IsScene v s → IsFollowing v enumerated (opened v enumerated s)
  at_start enumerated s p = record { scene = p; leads = refl; client = refl }

pub following : {H : Type 0} → FollowingLaw H
following v l enumerated s happenings p legal = all v l enumerated (opened v enumerated s) happenings (at_start v l enumerated s p) legal

moves_joined : {H : Type 0} (v : Shape H) (enumerated : Bool) (one two : List (Move H)) (hits : List H) →
    moves_notices v enumerated (one ++ two) hits ≡ moves_notices v enumerated one hits ++ moves_notices v enumerated two (after_moves v one hits)
moves_joined v enumerated [] two hits = refl
moves_joined v enumerated (m ∷ one) two hits =
    let next = after_move v m hits in
    let told = notice_at v enumerated m.0 hits next in
    ap (λ ns. told ++ ns) (moves_joined v enumerated one two next)
    ∙ sym (append_assoc told (moves_notices v enumerated one next) (moves_notices v enumerated two (after_moves v one next)))

pub pending : {H : Type 0} → PendingLaw H
pending = record {
  wait = λ v enumerated f one two. append_assoc f.pending (notices_of v enumerated f.now one) (notices_of v enumerated one.after two);
  lead = λ v l enumerated s one two p q r. applied_then _ _ _ (notices_of v enumerated s one) _ (one_change v l enumerated s one p q) (one_change v l enumerated one.after two q.scene r);
  moved = moves_joined;
}
