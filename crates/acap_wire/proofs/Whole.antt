-- All octets of a session are heard as the lines of its steps.
use Rattle.std.proofs.Common.{◌≡◌, ℕ, ◌==◌, true, false, cond, List, [], ◌∷◌, ◌++◌, map, Option, Some, None, refl, sym, ap, subst, ◌∙◌}
use Rattle.std.proofs.lemmas.Bool.{eqb-true}
use Rattle.std.proofs.lemmas.List.{map-append}
use Rattle.acap_grammar.specs.Lines.{Line}
use Rattle.acap_grammar.specs.Listening.{Client, hears}
use Rattle.acap_grammar.specs.Readable.{HearingLaw, after}
use Rattle.acap_grammar.specs.Sayable.{IsTagged, ReadableLaw}
use Rattle.acap_session.specs.Live.{told_in}
use Rattle.acap_session.specs.Places.{SeatSession}
use Rattle.acap_session.specs.World as world
use Rattle.acap_session.specs.World.{Action, Step, World, did, open_at}
use Rattle.acap_wire.specs.Seat.{ArePrintable, IsPrintable, lines_in, lines_read, octets_in, said_in, sent_in, so_far}
use Rattle.acap_wire.proofs.Moving.{answered}
use Rattle.acap_wire.proofs.Speaking.{tag_by}
use Rattle.acap_wire.proofs.Steps.{greets_in, has_lines, lines_are}
use Rattle.acap_wire.proofs.Tagged.{TaggedPlace, by_tag, seat_tagged}
use Rattle.acap_wire.proofs.Turns.{spoken}

module _ (readable : ReadableLaw) (hearing : HearingLaw) where
  pub step_heard : (w : World) (x : Step) → IsTagged (tag_by x.action (open_at w x.occasion.seat)) → IsPrintable w x → (before : List (Option Line))
      → hears (after before) (said_in w x) ≡ after (before ++ map Some (lines_in (said_in w x)))
  step_heard w x tagged can before =
      let said_as = spoken w x in
      let has = has_lines readable (sent_in w x) (told_in w x) (tag_by x.action (open_at w x.occasion.seat)) (said_in w x) said_as.closed said_as.speech
      (greets_in w x (answered w x)) tagged can.numbers can.fits in
      hearing.lines before (said_in w x) has.lines has.are
      ∙ ap (λ ls. after (before ++ map Some ls)) (sym (lines_are hearing (said_in w x) has.lines has.are))

  so_far_heard : (action : Action) (now : Option SeatSession) (octets : List ℕ) (lines : List Line) → hears (after []) octets ≡ after (map Some lines)
      → hears (after []) (so_far action now octets) ≡ after (map Some (so_far action now lines))
  so_far_heard (world.Open user) None octets lines e = refl
  so_far_heard (world.Open user) (Some p) octets lines e = e
  so_far_heard (world.Piece piece) now octets lines e = e
  so_far_heard world.Turn now octets lines e = e
  so_far_heard world.Drain now octets lines e = e
  so_far_heard world.Leave now octets lines e = e

  more_heard : (w : World) (x : Step) (octets : List ℕ) (lines : List Line) → IsTagged (tag_by x.action (open_at w x.occasion.seat)) → IsPrintable w x → hears (after []) octets ≡ after (map Some lines)
      → hears (after []) (octets ++ said_in w x) ≡ after (map Some (lines ++ lines_in (said_in w x)))
  more_heard w x octets lines tagged can e =
      hearing.pieces (after []) octets (said_in w x)
      ∙ ap (λ (c : Client). hears c (said_in w x)) e
      ∙ step_heard w x tagged can (map Some lines)
      ∙ ap after (sym (map-append Some lines (lines_in (said_in w x))))

  pub all_heard : (seat : ℕ) (steps : List Step) (w : World) (octets : List ℕ) (lines : List Line) → ArePrintable seat steps w → TaggedPlace (open_at w seat)
      → hears (after []) octets ≡ after (map Some lines) → hears (after []) (octets_in seat steps w octets) ≡ after (map Some (lines_read seat steps w lines))
  all_heard seat [] w octets lines can tagged e = e
  all_heard seat (x ∷ xs) w octets lines can tagged e =
      let now = open_at w x.occasion.seat in
      all_heard seat xs (did x.occasion x.refused x.action w) _ _ can.1 (seat_tagged seat w x tagged)
      (elim (x.occasion.seat == seat) as (λ b. (x.occasion.seat == seat) ≡ b
      → hears (after []) (cond b (so_far x.action now octets ++ said_in w x) octets) ≡ after (map Some (cond b (so_far x.action now lines ++ lines_in (said_in w x)) lines))) [
        | true ↦ λ k.
            let at = eqb-true x.occasion.seat seat k in
            more_heard w x (so_far x.action now octets) (so_far x.action now lines) (by_tag x.action now (subst (λ j. TaggedPlace (open_at w j)) (sym at) tagged)) (can.0 at)
            (so_far_heard x.action now octets lines e)
        | false ↦ λ k. e
      ] refl)
