-- The command that the machine answers in a step is the one that was sent, and a SEARCH that was sent makes the context that it names.
use Rattle.std.proofs.Common.{◌≡◌, ℕ, Bool, List, Option, Some, None, Result, Ok, Err, refl, sym, ap, subst, ◌∙◌}
use Rattle.acap_lexer.specs.Held.{next_of}
use Rattle.acap_lexer.specs.Holding.{Held}
use Rattle.acap_lexer.specs.declared.lexed.Lexed.{Lexed}
use Rattle.acap_lexer.specs.declared.lexed.Lexed.TheVariants as lexed
use Rattle.acap_lexer.specs.declared.lexed.Mode.TheVariants as mode
use Rattle.acap_commands.specs.declared.command.Command.{Command}
use Rattle.acap_commands.specs.declared.event.Event.{Event}
use Rattle.acap_commands.specs.declared.event.Event.TheVariants as event
use Rattle.acap_commands.specs.declared.said.Said.{Said}
use Rattle.acap_dialogue.specs.Hearing.{tag_of}
use Rattle.acap_dialogue.specs.declared.stage.Stage.{Stage}
use Rattle.acap_dialogue.specs.declared.stage.Stage.TheVariants as stage
use Rattle.acap_grammar.specs.Grammar.{command_of}
use Rattle.acap_grammar.specs.declared.command_fault.CommandFault.{CommandFault}
use Rattle.acap_grammar.proofs.SendableReads.{reads_sendable}
use Rattle.acap_session.specs.Live.{told_in}
use Rattle.acap_session.specs.Places.{SeatSession}
use Rattle.acap_session.specs.World as world
use Rattle.acap_session.specs.World.{World, Action, Step, open_at}
use Rattle.acap_wire.specs.Seat.{sent_as, sent_at, sent_by, sent_in, sent_line}
use Rattle.acap_wire.proofs.Machine.{IsMakeable, makeable}
use Rattle.acap_wire.proofs.Speaking.{Fitting, IsEvent, Ready, Says, Silent, Speech}
use Rattle.acap_wire.proofs.Turns.{spoken}

-- ---- a command that was sent was read

as_makes : (tag : Option (List ℕ)) (r : Result Command CommandFault) (sent : List ℕ × Command) → ((c : Command) → r ≡ Ok c → IsMakeable c) → sent_as tag r ≡ Some sent → IsMakeable sent.1
as_makes None (Ok c) sent h e = absurd cc
as_makes (Some t) (Ok c) sent h e =
    let is : (t, c) ≡ sent = cc in
    subst (λ (p : List ℕ × Command). IsMakeable p.1) is (h c refl)
as_makes tag (Err fault) sent h e = absurd cc

line_makes : (x : Lexed) (sent : List ℕ × Command) → sent_line x ≡ Some sent → IsMakeable sent.1
line_makes lexed.More sent e = absurd cc
line_makes lexed.Plus sent e = absurd cc
line_makes (lexed.Line tokens) sent e = as_makes (tag_of tokens) (command_of tokens) sent (λ c f. makeable c (reads_sendable tokens c f)) e
line_makes (lexed.Bad fault tag) sent e = absurd cc
line_makes (lexed.Fatal fault) sent e = absurd cc

at_makes : (s : Stage) (held : Held) (sent : List ℕ × Command) → sent_at s held ≡ Some sent → IsMakeable sent.1
at_makes stage.Ready held sent e = line_makes (next_of mode.Command held).0 sent e
at_makes stage.Opening held sent e = absurd cc
at_makes stage.Entering held sent e = absurd cc
at_makes (stage.Asked tag) held sent e = absurd cc
at_makes (stage.Challenged tag challenge) held sent e = absurd cc
at_makes (stage.LoggingIn tag user) held sent e = absurd cc
at_makes stage.Draining held sent e = absurd cc
at_makes stage.Closed held sent e = absurd cc

by_makes : (action : Action) (now : Option SeatSession) (sent : List ℕ × Command) → sent_by action now ≡ Some sent → IsMakeable sent.1
by_makes world.Turn (Some p) sent e = at_makes p.talk.stage p.talk.held sent e
by_makes world.Turn None sent e = absurd cc
by_makes (world.Open user) now sent e = absurd cc
by_makes (world.Piece octets) now sent e = absurd cc
by_makes world.Drain now sent e = absurd cc
by_makes world.Leave now sent e = absurd cc

-- ---- what the machine answers was sent

pub record WasSent (c : Command) (words : Said) (sent : Option (List ℕ × Command)) (tag : Option (List ℕ)) (spoken_words : Said) : Type 0 where
  pub under : List ℕ
  pub sent_is : sent ≡ Some (under, c)
  pub tag_is : tag ≡ Some under
  pub words_are : words ≡ spoken_words

command_is : (a b : Command) → event.Command a ≡ event.Command b → a ≡ b
command_is a b e = cc

no_event : (e : Event) (c : Command) (words spoken_words : Said) → e ≡ event.Command c → IsEvent e words spoken_words → ⊥
no_event e c words spoken_words at is = subst (λ x. IsEvent x words spoken_words) at is

pub fitting_sent : (sent : Option (List ℕ × Command)) (told : Event × Said) (tag : Option (List ℕ)) (spoken_words : Said) (c : Command) (words : Said) → told ≡ (event.Command c, words)
    → Fitting sent (Some told) tag spoken_words → WasSent c words sent tag spoken_words
fitting_sent (Some sent) told tag spoken_words c words e fit =
    let same : sent.1 ≡ c = command_is sent.1 c (sym fit.1 ∙ ap (λ (p : Event × Said). p.0) e) in
    record {
      under = sent.0;
      sent_is = ap (λ d. Some (sent.0, d)) same;
      tag_is = fit.0;
      words_are = sym (ap (λ (p : Event × Said). p.1) e) ∙ fit.2;
    }
fitting_sent None told tag spoken_words c words e fit = absurd (no_event told.0 c told.1 spoken_words (ap (λ (p : Event × Said). p.0) e) fit)

-- then it is said under its tag
pub record IsAnswer (c : Command) (words : Said) (sent : Option (List ℕ × Command)) (tag : Option (List ℕ)) : Type 0 where
  pub under : List ℕ
  pub sent_is : sent ≡ Some (under, c)
  pub tag_is : tag ≡ Some under

pub speech_sent : (sent : Option (List ℕ × Command)) (told : Option (Event × Said)) (tag : Option (List ℕ)) (octets : List ℕ) (closed : Bool) (c : Command) (words : Said) → Speech sent told tag octets closed
    → told ≡ Some (event.Command c, words) → IsAnswer c words sent tag
speech_sent sent None tag octets closed c words s e = absurd cc
speech_sent sent (Some told) tag octets closed c words (Silent o t k) e = absurd cc
speech_sent sent (Some told) tag octets closed c words (Ready o k t) e = absurd cc
speech_sent sent (Some told) tag octets closed c words (Says spoken_words o fit) e =
    let told_is : told ≡ (event.Command c, words) = cc in
    let was = fitting_sent sent told tag spoken_words c words told_is fit in
    record { under = was.under; sent_is = was.sent_is; tag_is = was.tag_is }

pub told_makes : (w : World) (x : Step) (c : Command) (words : Said) → told_in w x ≡ Some (event.Command c, words) → IsMakeable c
told_makes w x c words e =
    let answer = speech_sent (sent_in w x) (told_in w x) _ _ _ c words (spoken w x).speech e in
    by_makes x.action (open_at w x.occasion.seat) (answer.under, c) answer.sent_is
