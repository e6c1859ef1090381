-- After an UPDATECONTEXT that isn't refused each context that it names is live.
use Rattle.std.proofs.Common.{◌≡◌, ℕ, ℤ, Bool, true, false, cond, ◌||◌, is_ok, List, [], ◌∷◌, Option, Some, None, Result, Ok, Err, refl, sym, ap, ◌∙◌}
use Rattle.std.specs.Cmp.Lexicographic.{nat_list_cmp_total, texts_ties}
use Rattle.std.specs.FinMap as table
use Rattle.std.specs.Option.{is_some, option_and_then, option_map_or, option_or}
use Rattle.acap_commands.specs.declared.command.Command.TheVariants as command
use Rattle.acap_commands.specs.declared.event.Event.{Event}
use Rattle.acap_commands.specs.declared.event.Event.TheVariants as event
use Rattle.acap_commands.specs.declared.event.Fault.{Fault}
use Rattle.acap_commands.specs.declared.event.Fault.TheVariants as fault
use Rattle.acap_commands.specs.declared.reply.Reply.{Reply}
use Rattle.acap_commands.specs.declared.said.Said.{Said}
use Rattle.acap_commands.specs.declared.said.Said.TheVariants as said
use Rattle.acap_dialogue.specs.Running.{event_in}
use Rattle.acap_dialogue.specs.Saying.{heard_of}
use Rattle.acap_dialogue.specs.Session.{after_answer, answer_said, has_seat, session_next}
use Rattle.acap_dialogue.specs.Talking.{Talking}
use Rattle.acap_dialogue.specs.declared.next.Next.{Next}
use Rattle.acap_dialogue.specs.declared.next.Next.TheVariants as next
use Rattle.acap_dialogue.specs.declared.stage.Stage.{Stage}
use Rattle.acap_dialogue.specs.declared.stage.Stage.TheVariants as stage
use Rattle.acap_entries.specs.Orders.{octets_eq}
use Rattle.acap_examples.specs.Followed.{updates}
use Rattle.acap_machine.proofs.ClientSteps.{put_contexts, sits}
use Rattle.acap_machine.specs.Client.{live_at, live_in, live_kept, tells, tells_named}
use Rattle.acap_machine.specs.Machine.{Machine, user_at}
use Rattle.acap_machine.specs.Runs.{machine_after, outcome_of}
use Rattle.acap_machine.specs.Serving.{answer_to, updated_or}
use Rattle.acap_machine.specs.Stepping.{reply_of, step_of}
use Rattle.acap_moves.proofs.Splits.{same_name}
use Rattle.acap_moves.specs.Hits.{is_among}
use Rattle.acap_session.specs.Live.{step_on, told_at, told_by, told_in, told_with}
use Rattle.acap_session.specs.Places.{SeatSession}
use Rattle.acap_session.specs.Turning.{Scene, left_at, turn_and_scene, turn_by, turn_of}
use Rattle.acap_session.specs.World as world
use Rattle.acap_session.specs.World.{World, at_open, did, open_at, scene_of}
use Rattle.acap_session.specs.declared.occasion.Occasion.{Occasion}
use Rattle.acap_views.specs.Contexts.{Kept, Live, Freed, Context, Contexts}
use Rattle.acap_views.specs.Seats.{contexts_at, with_contexts}
use Rattle.acap_views.specs.Telling.{after_update, after_updates, fault_at, fault_in, fault_of, shown_now, told_in_turn, unless_faulty, updated_to}
use Rattle.acap_views.specs.declared.refusal.ViewRefusal.{ViewRefusal}
use Rattle.acap_views.specs.declared.refusal.ViewRefusal.TheVariants as refusal

abbrev is_live : Option Context → Bool
is_live found = is_some (option_and_then live_in found)

-- ---- a context of which nothing is wrong is live

unfaulty : (context : Context) (kept : Kept) → fault_in kept ≡ None → is_some (live_kept context kept) ≡ true
unfaulty context (Live shown now pending) e = refl
unfaulty context kept e = absurd cc

unfaulty_there : (found : Option Context) → option_map_or (λ context. fault_in context.kept) found (Some refusal.NoContext) ≡ None → is_live found ≡ true
unfaulty_there None e = absurd cc
unfaulty_there (Some context) e = unfaulty context context.kept e

neither : (one two : Option ViewRefusal) → option_or one two ≡ None → (one ≡ None) × (two ≡ None)
neither None two e = (refl, e)
neither (Some why) two e = absurd cc

named_live : (contexts : Contexts) (names : List (List ℕ)) (name : List ℕ) → fault_of contexts names ≡ None → is_among name names ≡ true → is_live (table.get contexts name) ≡ true
unfolding is_among
named_live contexts [] name e t = absurd cc
named_live contexts (other ∷ names) name e t =
    let both = neither (fault_at contexts other) (fault_of contexts names) e in
    elim (octets_eq name other) as (λ b. octets_eq name other ≡ b → (b || is_among name names) ≡ true → is_live (table.get contexts name) ≡ true) [
      | true ↦ λ k m. ap (λ q. is_live (table.get contexts q)) (same_name name other k) ∙ unfaulty_there (table.get contexts other) both.0
      | false ↦ λ k m. named_live contexts names name both.1 m
    ] refl t

-- ---- it is live after the update too

shown_live : (context : Context) (last : ℤ) (kept : Kept) → is_some (live_kept (updated_to last context) (shown_now kept)) ≡ is_some (live_kept context kept)
shown_live context last Freed = refl
shown_live context last kept = refl

update_live : (contexts : Contexts) (name q : List ℕ) (last : ℤ) → is_live (table.get (after_update contexts name last) q) ≡ is_live (table.get contexts q)
update_live contexts name q last =
    elim (table.get contexts name) as (λ o. table.get contexts name ≡ o → is_live (table.get (option_map_or (λ (c : Context). table.insert contexts name (updated_to last c)) o contexts) q) ≡ is_live (table.get contexts q)) [
      | None ↦ λ e. refl
      | Some c ↦ λ e.
          ap is_live (table.get-insert nat_list_cmp_total contexts name (updated_to last c) q)
          ∙ (ap (λ b. is_live (cond b (Some (updated_to last c)) (table.get contexts q))) (sym (texts_ties q name))
          ∙ elim (octets_eq q name) as (λ b. octets_eq q name ≡ b → is_live (cond b (Some (updated_to last c)) (table.get contexts q)) ≡ is_live (table.get contexts q)) [
            | true ↦ λ t. shown_live c last c.kept ∙ sym (ap (λ p. is_live (table.get contexts p)) (same_name q name t) ∙ ap is_live e)
            | false ↦ λ t. refl
          ] refl)
    ] refl

updates_live : (contexts : Contexts) (names : List (List ℕ)) (q : List ℕ) (last : ℤ) → is_live (table.get (after_updates contexts names last) q) ≡ is_live (table.get contexts q)
updates_live contexts [] q last = refl
updates_live contexts (name ∷ names) q last = updates_live (after_update contexts name last) names q last ∙ update_live contexts name q last

-- ---- the step

abbrev ends_in : Machine → ℕ → List (List ℕ) → Option ViewRefusal → Said × Machine
ends_in m seat names fault = updated_or m (unless_faulty fault (told_in_turn (contexts_at m.seats seat) names m.store.last, with_contexts m.seats seat (after_updates (contexts_at m.seats seat) names m.store.last)))

abbrev is_updated : Said → Bool
is_updated (said.Updated tolds) = true
is_updated other = false

by_fault : (m : Machine) (seat : ℕ) (user : List ℕ) (names : List (List ℕ)) (name : List ℕ) (reply : Reply) (new : Machine) (fault : Option ViewRefusal) → user_at m seat ≡ Some user
    → fault_of (contexts_at m.seats seat) names ≡ fault → reply_of (ends_in m seat names fault) ≡ (reply, new) → is_updated reply.said ≡ true → is_among name names ≡ true → is_some (live_at new seat name) ≡ true
by_fault m seat user names name reply new None at k e u t =
    ap (λ (p : Reply × Machine). is_some (live_at p.1 seat name)) (sym e)
    ∙ ap (λ contexts. is_live (table.get contexts name)) (put_contexts m seat (sits m seat user at) (after_updates (contexts_at m.seats seat) names m.store.last))
    ∙ updates_live (contexts_at m.seats seat) names name m.store.last
    ∙ named_live (contexts_at m.seats seat) names name k t
by_fault m seat user names name reply new (Some why) at k e u t = absurd (let f = ap (λ (p : Reply × Machine). is_updated p.0.said) e ∙ u in cc)

by_user : (m : Machine) (seat : ℕ) (names : List (List ℕ)) (name : List ℕ) (clock : ℤ) (reply : Reply) (new : Machine) (user : Option (List ℕ)) → user_at m seat ≡ user
    → option_map_or (λ u. Ok (reply_of (answer_to m seat u (command.UpdateContext names) clock))) user (Err fault.NotEntered) ≡ Ok (reply, new)
    → is_updated reply.said ≡ true → is_among name names ≡ true → is_some (live_at new seat name) ≡ true
unfolding answer_to
by_user m seat names name clock reply new None at e u t = absurd cc
by_user m seat names name clock reply new (Some user) at e u t =
    let same : reply_of (ends_in m seat names (fault_of (contexts_at m.seats seat) names)) ≡ (reply, new) = cc in
    by_fault m seat user names name reply new (fault_of (contexts_at m.seats seat) names) at refl same u t

by_event : (m : Machine) (seat : ℕ) (name : List ℕ) (e : Event) (clock : ℤ) (reply : Reply) (new : Machine) → step_of m seat e clock ≡ Ok (reply, new) → is_updated reply.said ≡ true → tells_named name e ≡ true → is_some (live_at new seat name) ≡ true
by_event m seat name (event.Command (command.UpdateContext names)) clock reply new s u t = by_user m seat names name clock reply new (user_at m seat) refl s u t
by_event m seat name e clock reply new s u t = absurd cc

-- what an UPDATECONTEXT of the name ended with
pub ended : (name : List ℕ) (e : Event) (words : Said) → updates name e words ≡ true → (is_updated words ≡ true) × (tells_named name e ≡ true) × (tells name e words ≡ true)
ended name e (said.Updated tolds) t = (refl, t, t)
ended name e words t = absurd cc

-- ---- the turn: a session goes on after a reply

stays : (s : Stage) (reply : Reply) (seated : Bool) (o : Occasion) (m : Machine) → left_at (heard_of (answer_said s (Ok reply)).0) seated o m ≡ m
stays stage.Opening reply seated o m = refl
stays s reply seated o m = refl

answered_live : (o : Occasion) (s : Scene) (t : Talking) (name : List ℕ) (e asked : Event) (words : Said) (r : Result (Reply × Machine) Fault) → step_of s.machine o.seat asked o.clock ≡ r → told_with asked (outcome_of r) ≡ Some (e, words) → updates name e words ≡ true
    → is_some (live_at (turn_and_scene o (has_seat t || is_ok r) (machine_after s.machine r) s.out (after_answer t (outcome_of r))).1.machine o.seat name) ≡ true
unfolding after_answer
answered_live o s t name e asked words (Ok stepped) f k u =
    let same : (asked, stepped.0.said) ≡ (e, words) = cc in
    let x = ended name e words u in
    ap (λ n. is_some (live_at n o.seat name)) (stays t.stage stepped.0 (has_seat t || true) o stepped.1)
    ∙ by_event s.machine o.seat name e o.clock stepped.0 stepped.1 (ap (λ (q : Event × Said). step_of s.machine o.seat q.0 o.clock) (sym same) ∙ f) (ap (λ (q : Event × Said). is_updated q.1) same ∙ x.0) x.1
answered_live o s t name e asked words (Err fault) f k u = absurd cc

turn_live : (o : Occasion) (s : Scene) (x : Next × Talking) (name : List ℕ) (e : Event) (words : Said) → told_by o s.machine (event_in x) ≡ Some (e, words) → updates name e words ≡ true → is_some (live_at (turn_by o false s x).1.machine o.seat name) ≡ true
turn_live o s (next.Ask asked, t) name e words k u = answered_live o s t name e asked words (step_of s.machine o.seat asked o.clock) refl k u
turn_live o s (n, t) name e words k u = absurd cc

place_live : (w : World) (o : Occasion) (now : Option SeatSession) (name : List ℕ) (e : Event) (words : Said) → told_at w (step_on o world.Turn) now ≡ Some (e, words) → updates name e words ≡ true → is_some (live_at (at_open w o.seat (λ s. (turn_of w.users o false s).1) now).machine o.seat name) ≡ true
unfolding turn_of
place_live w o None name e words k u = absurd cc
place_live w o (Some p) name e words k u = turn_live o (scene_of w p) (session_next w.users o.nonce o.clock p.talk) name e words k u

pub live_then : (w : World) (o : Occasion) (name : List ℕ) (e : Event) (words : Said) → told_in w (step_on o world.Turn) ≡ Some (e, words) → updates name e words ≡ true → is_some (live_at (did o false world.Turn w).machine o.seat name) ≡ true
unfolding did
live_then w o name e words k u = place_live w o (open_at w o.seat) name e words k u
