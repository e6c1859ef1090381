-- What comes of a story from any step on: its world, what the client holds, whether it began whole, and whether all have names.
use Rattle.std.proofs.Common.{◌≡◌, ℕ, ◌==◌, Bool, true, cond, ◌&&◌, List, [], ◌∷◌, ◌++◌, map, Option, Some, None, refl, sym, ap, subst, ◌∙◌}
use Rattle.std.specs.List.{list_all}
use Rattle.std.specs.Option.{is_some}
use Rattle.std.proofs.lemmas.Bool.{eqb-true}
use Rattle.acap_commands.specs.declared.event.Event.{Event}
use Rattle.acap_commands.specs.declared.said.Said.{Said}
use Rattle.acap_entries.specs.Names.{is_user_name}
use Rattle.acap_examples.proofs.Living.{ended, live_then}
use Rattle.acap_examples.specs.Followed.{HasGone, updates}
use Rattle.acap_examples.specs.Stories.{Shows, as_step}
use Rattle.acap_examples.specs.declared.story.Step.{Step as StoryStep}
use Rattle.acap_machine.specs.Client.{Client, View, client_after, live_at, whole_after}
use Rattle.acap_notices.specs.Holding.{Holding}
use Rattle.acap_session.specs.Live.{IsToldIn, Telling, after, all_steps, client_in, client_told, is_named_action, start, step_on, tells_in, told_all, whole_in, whole_told}
use Rattle.acap_session.specs.World as world
use Rattle.acap_session.specs.World.{World, Step, world_after}
use Rattle.acap_session.specs.declared.occasion.Occasion.{Occasion}

-- ---- one step

pub turned : (seat : ℕ) (name : List ℕ) (o : Occasion) (e : Event) (words : Said) (is_end : Bool) (old new : World) (before held : Client) → IsToldIn (step_on o world.Turn) old (Some (e, words)) new → (o.seat == seat) ≡ true
    → held ≡ client_after name e words before → is_some held ≡ whole_after name e words (is_some before) → is_end ≡ updates name e words → HasGone seat name (step_on o world.Turn) is_end old before new held
turned seat name o e words is_end old new before held d own h w u = record {
  left = d.1;
  held_is = h ∙ (λ i. cond (sym own i) (client_told name (d.0 i) before) before);
  whole = w ∙ (λ i. cond (sym own i) (whole_told name (d.0 i) (is_some before)) (is_some before));
  named = refl;
  tells = λ k. (λ i. own i && told_all name (sym d.0 i)) ∙ (ended name e words (sym u ∙ k)).2;
  live = λ k. subst (λ q. is_some (live_at new.machine q name) ≡ true) (eqb-true o.seat seat own) (ap (λ (v : World). is_some (live_at v.machine o.seat name)) d.1 ∙ live_then old o name e words (sym d.0) (sym u ∙ k));
}

-- ---- all steps

pub record Fate : Type 0 where
  pub world : World
  pub held : Client
  pub whole : Bool
  pub named : Bool

abbrev pub fate : ℕ → List ℕ → List Step → World → Client → Fate
fate seat name xs w held = record {
  world = world_after xs w;
  held = client_in seat name xs w held;
  whole = whole_in seat name xs w (is_some held);
  named = list_all (λ x. is_named_action x.action) xs;
}

-- that of a telling from its first step on
abbrev pub fate_of : Telling → Fate
fate_of t = fate t.seat t.name (all_steps t) (start t) None

gone_on : (seat : ℕ) (name : List ℕ) (x : Step) (xs : List Step) (ended : Bool) (old new : World) (before held : Client) → HasGone seat name x ended old before new held → fate seat name xs new held ≡ fate seat name (x ∷ xs) old before
gone_on seat name x xs ended old new before held g = λ i. record {
  world = world_after xs (g.left i);
  held = client_in seat name xs (g.left i) (g.held_is i);
  whole = whole_in seat name xs (g.left i) (g.whole i);
  named = sym g.named i && list_all (λ x. is_named_action x.action) xs;
}

-- ---- one step of the loop

pub record IsUnderWay (t : Telling) (rest : List StoryStep) (w : World) (held : Client) : Type 0 where
  pub end : fate t.seat t.name (map as_step rest ++ t.last ∷ []) w held ≡ fate_of t
  pub front : world_after (map as_step rest) w ≡ world_after t.steps (start t)

pub goes : (t : Telling) (x : StoryStep) (rest more : List StoryStep) (ended : Bool) (old new : World) (before held : Client) → rest ≡ x ∷ more → HasGone t.seat t.name (as_step x) ended old before new held
    → IsUnderWay t rest old before → IsUnderWay t more new held
goes t x rest more ended old new before held e g h = record {
  end = gone_on t.seat t.name (as_step x) (map as_step more ++ t.last ∷ []) ended old new before held g
      ∙ sym (ap (λ ss. fate t.seat t.name (map as_step ss ++ t.last ∷ []) old before) e)
      ∙ h.end;
  front = ap (world_after (map as_step more)) g.left ∙ sym (ap (λ ss. world_after (map as_step ss) old) e) ∙ h.front;
}

-- ---- the last step

record Sees (found : Option View) : Type 0 where
  view : View
  is : found ≡ Some view

sees : (found : Option View) → is_some found ≡ true → Sees found
sees None e = absurd cc
sees (Some view) e = record { view = view; is = refl }

pub shows_then : (t : Telling) (ended : Bool) (rest : List StoryStep) (w v : World) (before held : Client) (h : Holding) → list_all (λ user. is_user_name user.0) t.users ≡ true → rest ≡ [] → IsUnderWay t rest w before
    → HasGone t.seat t.name t.last ended w before v held → ended ≡ true → held ≡ Some h → Shows t h
shows_then t ended rest w v before held h users none way g k is =
    let at = subst (λ ss. IsUnderWay t ss w before) none way in
    let end = gone_on t.seat t.name t.last [] ended w v before held g ∙ at.end in
    let world : v ≡ after t = ap (λ (f : Fate). f.world) end in
    let seen = sees (live_at v.machine t.seat t.name) (g.live k) in
    record {
      view = seen.view;
      premises = record {
        named = (users, sym (ap (λ (f : Fate). f.named) end));
        tells = subst (λ (u : World). tells_in t.seat t.name u t.last ≡ true) at.front (g.tells k);
        live = ap (λ (u : World). live_at u.machine t.seat t.name) (sym world) ∙ seen.is;
        whole = sym (ap (λ (f : Fate). f.whole) end) ∙ ap is_some is;
      };
      holds = sym (ap (λ (f : Fate). f.held) end) ∙ is;
    }
