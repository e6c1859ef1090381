-- A step in whose lines a MODTIME of a context stands answers an UPDATECONTEXT.
use Rattle.std.proofs.Common.{◌≡◌, inl, inr, ℕ, true, false, List, [], ◌∷◌, ◌++◌, map, append-nil, Option, Some, None, refl, sym, ap, subst, ◌∙◌}
use Rattle.std.specs.List.{list_any}
use Rattle.acap_commands.specs.declared.command.Command.{Command}
use Rattle.acap_commands.specs.declared.command.Command.TheVariants as command
use Rattle.acap_commands.specs.declared.event.Event.{Event}
use Rattle.acap_commands.specs.declared.event.Event.TheVariants as event
use Rattle.acap_commands.specs.declared.said.Said.{Said}
use Rattle.acap_commands.specs.declared.said.Said.TheVariants as said
use Rattle.acap_commands.specs.declared.command.Verb.TheVariants as verb
use Rattle.acap_grammar.specs.Lines.{Line, UpTo}
use Rattle.acap_grammar.specs.SaidLines.{done_line, said_lines, told_line}
use Rattle.acap_machine.specs.Completing.{completes}
use Rattle.acap_machine.specs.Machine.{Machine}
use Rattle.acap_machine.specs.Stepping.{step_of}
use Rattle.acap_notices.specs.declared.told.Told.{Told}
use Rattle.acap_session.specs.World.{Step, World}
use Rattle.acap_wire.proofs.Ends.{DrainTells, drain_tells, is_update, is_updated, is_upto, step_completes, step_updates}
use Rattle.acap_wire.proofs.Machine.{greeted}
use Rattle.acap_wire.proofs.Modtimes.{Stands, no_modtime, stands, stands_upto, words_none}
use Rattle.acap_wire.proofs.Moving.{Answered, HasSaid}
use Rattle.acap_wire.proofs.Replies.{is_plain, tells_notices}
use Rattle.acap_wire.proofs.Speaking.{Fitting, IsEvent, IsUnanswered}

-- the command is an UPDATECONTEXT
pub record IsUpdated (told : Option (Event × Said)) (tolds : List Told) : Type 0 where
  pub names : List (List ℕ)
  pub told_is : told ≡ Some (event.Command (command.UpdateContext names), said.Updated tolds)

update_is : (c : Command) → is_update c ≡ true → (names : List (List ℕ)) × (c ≡ command.UpdateContext names)
update_is (command.UpdateContext names) e = (names, refl)
update_is other e = absurd cc

unanswered_not : (c : Command) (words : Said) → is_plain words ≡ false → tells_notices words ≡ true → IsUnanswered c words → ⊥
unanswered_not c (said.Drained tolds) e f (inl k) = k
unanswered_not c (said.Updated tolds) e f (inl k) = k
unanswered_not c other e f (inl k) = absurd cc
unanswered_not c words e f (inr k) = let no : false ≡ true = sym e ∙ k.1 in cc

module _ (w : World) (x : Step) (n : Machine) where
  -- an answer to a user who enters is a greeting, beside which nothing is told
  event_not : (user : List ℕ) (told words : Said) → is_plain words ≡ false → HasSaid x.occasion w.machine n (event.Enter user) told → IsEvent (event.Enter user) told words → ⊥
  event_not user told words plain s is =
      let no : false ≡ true = sym plain ∙ is (sym s.said ∙ greeted w.machine x.occasion.seat user x.occasion.clock s.reply n s.step) in
      cc

  -- ---- notices that an UPDATECONTEXT tells

  command_updated : (e : Event) (c : Command) (told : Said) (tolds : List Told) → e ≡ event.Command c → told ≡ said.Updated tolds → HasSaid x.occasion w.machine n e told
      → IsUpdated (Some (e, told)) tolds
  command_updated e c told tolds is same s =
      let step = ap (λ k. step_of w.machine x.occasion.seat k x.occasion.clock) (sym is) ∙ s.step in
      let update = update_is c (step_updates w.machine x.occasion.seat c x.occasion.clock s.reply n step (ap is_updated (s.said ∙ same))) in
      record { names = update.0; told_is = (λ i. Some ((is ∙ ap event.Command update.1) i, same i)) }

  event_updated : (e : Event) (told : Said) (tolds : List Told) → HasSaid x.occasion w.machine n e told → IsEvent e told (said.Updated tolds) → ⊥
  event_updated (event.Enter user) told tolds s is = event_not user told (said.Updated tolds) refl s is
  event_updated event.Drain told tolds s is = subst DrainTells (s.said ∙ is) (drain_tells w.machine x.occasion.seat x.occasion.clock s.reply n s.step)
  event_updated (event.Command c) told tolds s is = is
  event_updated event.Leave told tolds s is = is

  updated_by : (sent : Option (List ℕ × Command)) (told : Option (Event × Said)) (tag : Option (List ℕ)) (tolds : List Told) → Fitting sent told tag (said.Updated tolds)
      → Answered x.occasion w.machine n told → IsUpdated told tolds
  updated_by (Some sent) (Some told) tag tolds fit a = command_updated told.0 sent.1 told.1 tolds fit.1 fit.2 a
  updated_by (Some sent) None tag tolds fit a = absurd (unanswered_not sent.1 (said.Updated tolds) refl refl fit.1)
  updated_by None (Some told) tag tolds fit a = absurd (event_updated told.0 told.1 tolds a fit)
  updated_by None None tag tolds fit a = absurd cc

  -- ---- and a drain tells no MODTIME

  command_drained : (e : Event) (c : Command) (told : Said) (tolds : List Told) → e ≡ event.Command c → told ≡ said.Drained tolds → HasSaid x.occasion w.machine n e told → ⊥
  command_drained e c told tolds is same s =
      let step = ap (λ k. step_of w.machine x.occasion.seat k x.occasion.clock) (sym is) ∙ s.step in
      let no : false ≡ true = sym (ap completes (s.said ∙ same)) ∙ step_completes w.machine x.occasion.seat c x.occasion.clock s.reply n step in
      cc

  event_drained : (e : Event) (told : Said) (tolds : List Told) → HasSaid x.occasion w.machine n e told → IsEvent e told (said.Drained tolds) → list_any is_upto tolds ≡ true → ⊥
  event_drained (event.Enter user) told tolds s is has = event_not user told (said.Drained tolds) refl s is
  event_drained event.Drain told tolds s is has =
      let none : DrainTells (said.Drained tolds) = subst DrainTells (s.said ∙ is) (drain_tells w.machine x.occasion.seat x.occasion.clock s.reply n s.step) in
      let no : false ≡ true = sym none ∙ has in
      cc
  event_drained (event.Command c) told tolds s is has = is
  event_drained event.Leave told tolds s is has = is

  drained_by : (sent : Option (List ℕ × Command)) (told : Option (Event × Said)) (tag : Option (List ℕ)) (tolds : List Told) → Fitting sent told tag (said.Drained tolds)
      → Answered x.occasion w.machine n told → list_any is_upto tolds ≡ true → ⊥
  drained_by (Some sent) (Some told) tag tolds fit a has = command_drained told.0 sent.1 told.1 tolds fit.1 fit.2 a
  drained_by (Some sent) None tag tolds fit a has = unanswered_not sent.1 (said.Drained tolds) refl refl fit.1
  drained_by None (Some told) tag tolds fit a has = event_drained told.0 told.1 tolds a fit has
  drained_by None None tag tolds fit a has = absurd cc

  -- ---- the words in whose lines a MODTIME stands

  pub record IsModtime (told : Option (Event × Said)) (q stamp : List ℕ) (front : List Line) : Type 0 where
    pub tolds : List Told
    pub updated : IsUpdated told tolds
    pub stands : Stands q stamp front tolds

  other_not : (q stamp : List ℕ) (tag : Option (List ℕ)) (words : Said) (front back : List Line) → tells_notices words ≡ false → said_lines tag words ≡ front ++ UpTo q stamp ∷ back → ⊥
  other_not q stamp tag words front back e f = no_modtime (said_lines tag words) front back q stamp (words_none tag words e) f

  pub words_modtime : (q stamp : List ℕ) (front back : List Line) (sent : Option (List ℕ × Command)) (told : Option (Event × Said)) (tag : Option (List ℕ)) (words : Said)
      → Fitting sent told tag words → Answered x.occasion w.machine n told → said_lines tag words ≡ front ++ UpTo q stamp ∷ back → IsModtime told q stamp front
  words_modtime q stamp front back sent told tag (said.Updated tolds) fit a e =
      record { tolds = tolds; updated = updated_by sent told tag tolds fit a; stands = stands q stamp tolds (done_line tag verb.UpdateContext ∷ []) front back refl e }
  words_modtime q stamp front back sent told tag (said.Drained tolds) fit a e =
      let here = stands q stamp tolds [] front back refl (append-nil (map told_line tolds) ∙ e) in
      absurd (drained_by sent told tag tolds fit a (stands_upto q stamp front tolds here))
  words_modtime q stamp front back sent told tag other fit a e = absurd (other_not q stamp tag other front back refl e)
