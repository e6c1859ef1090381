-- A command may be sent before lines of other replies are read.
use Rattle.std.proofs.Common.{◌≡◌, ℕ, ◌==◌, Bool, true, false, cond, List, [], ◌∷◌, ◌++◌, map, take, drop, length, Option, Some, None, refl, sym, ap, ◌∙◌}
use Rattle.std.specs.Prelude.{bytes_eq}
use Rattle.std.proofs.lemmas.Bool.{false_from_ne_true}
use Rattle.std.specs.Cmp.Lexicographic.{bytes_decides}
use Rattle.acap_client.specs.Following.{Asked, Follower, Followed, Freeing, Goes, Kept, Making, Misfit, alerted, ask, changed, completed_of, done, ended, follow, follow_all, followed_with, freed_by, freeing, held_after, look_up, making, new, noticed_of, put, row_of, with_row, without}
use Rattle.acap_commands.specs.declared.command.Command.{Command}
use Rattle.acap_commands.specs.declared.command.Command.TheVariants as command
use Rattle.acap_commands.specs.declared.search.Search.{Search}
use Rattle.acap_commands.specs.declared.search_modifiers.MakeContext.{MakeContext}
use Rattle.acap_grammar.specs.Lines as lines
use Rattle.acap_grammar.specs.Lines.{Line}
use Rattle.acap_grammar.specs.Printed.{PrintedNotice, PrintedRow}
use Rattle.acap_session.specs.Places.{SeatSession}
use Rattle.acap_session.specs.World as world
use Rattle.acap_session.specs.World.{Action, Step, World, did, open_at}
use Rattle.acap_wire.specs.Ahead.{Act, AheadLaw, IsAhead, Reads, Same, Sends, Sooner, acts_in, acts_of, follow_acts, is_under, sends}
use Rattle.acap_wire.specs.Seat.{after_lines, asking, begun, follower_in, lines_in, said_in, sent_in, so_far}
use Rattle.acap_wire.proofs.Named.{look_other}

-- ---- what is put under another name

apart : (u t n : List ℕ) → bytes_eq u t ≡ false → bytes_eq u n ≡ true → bytes_eq t n ≡ true → ⊥
apart u t n other a b =
    let same : u ≡ t = (bytes_decides u n).0 a ∙ sym ((bytes_decides t n).0 b) in
    let k : false ≡ true = sym other ∙ (bytes_decides u t).1 same in
    cc

turned : (u t : List ℕ) → bytes_eq u t ≡ false → bytes_eq t u ≡ false
turned u t e = false_from_ne_true (bytes_eq t u) (λ k. let same : false ≡ true = sym e ∙ (bytes_decides u t).1 (sym ((bytes_decides t u).0 k)) in cc)

module _ {A : Type 0} where
  at_put : (u t : List ℕ) (x y : A) (d : List ℕ × A) (es : List (List ℕ × A)) → bytes_eq u t ≡ false → bytes_eq t d.0 ≡ true → (b : Bool) → bytes_eq u d.0 ≡ b
      → put u x ((t, y) ∷ es) ≡ put t y (cond b ((u, x) ∷ es) (d ∷ put u x es))
  at_put u t x y d es other at true k = absurd (apart u t d.0 other k at)
  at_put u t x y d es other at false k =
      ap (λ b. cond b ((u, x) ∷ es) ((t, y) ∷ put u x es)) other
      ∙ ap (λ b. cond b ((t, y) ∷ put u x es) (d ∷ put t y (put u x es))) (sym at)

  past_put : (u t : List ℕ) (x y z : A) (d : List ℕ × A) (es : List (List ℕ × A)) → bytes_eq u t ≡ false → bytes_eq t d.0 ≡ false → (b : Bool) → bytes_eq u d.0 ≡ b
      → cond b (Some d.1) (look_up u es) ≡ Some z → (look_up u es ≡ Some z → put u x (put t y es) ≡ put t y (put u x es))
      → put u x (d ∷ put t y es) ≡ put t y (cond b ((u, x) ∷ es) (d ∷ put u x es))
  past_put u t x y z d es other not true k e rest =
      ap (λ b. cond b ((u, x) ∷ put t y es) (d ∷ put u x (put t y es))) k
      ∙ ap (λ b. cond b ((t, y) ∷ es) ((u, x) ∷ put t y es)) (sym (turned u t other))
  past_put u t x y z d es other not false k e rest =
      ap (λ b. cond b ((u, x) ∷ put t y es) (d ∷ put u x (put t y es))) k
      ∙ ap (λ more. d ∷ more) (rest e)
      ∙ ap (λ b. cond b ((t, y) ∷ put u x es) (d ∷ put t y (put u x es))) (sym not)

  pub swap : (u t : List ℕ) → bytes_eq u t ≡ false → (x y : A) (es : List (List ℕ × A)) (z : A) → look_up u es ≡ Some z → put u x (put t y es) ≡ put t y (put u x es)
  swap u t other x y [] z e = absurd cc
  swap u t other x y (d ∷ es) z e = elim (bytes_eq t d.0) as (λ b. bytes_eq t d.0 ≡ b → put u x (cond b ((t, y) ∷ es) (d ∷ put t y es)) ≡ put t y (cond (bytes_eq u d.0) ((u, x) ∷ es) (d ∷ put u x es))) [
    | true ↦ λ at. at_put u t x y d es other at (bytes_eq u d.0) refl
    | false ↦ λ not. past_put u t x y z d es other not (bytes_eq u d.0) refl e (λ k. swap u t other x y es z k)
  ] refl

  at_gone : (u t : List ℕ) (y : A) (d : List ℕ × A) (es : List (List ℕ × A)) → bytes_eq u t ≡ false → bytes_eq t d.0 ≡ true → (b : Bool) → bytes_eq u d.0 ≡ b
      → without u ((t, y) ∷ es) ≡ put t y (cond b (without u es) (d ∷ without u es))
  at_gone u t y d es other at true k = absurd (apart u t d.0 other k at)
  at_gone u t y d es other at false k =
      ap (λ b. cond b (without u es) ((t, y) ∷ without u es)) other
      ∙ ap (λ b. cond b ((t, y) ∷ without u es) (d ∷ put t y (without u es))) (sym at)

  past_gone : (u t : List ℕ) (y : A) (d : List ℕ × A) (es : List (List ℕ × A)) → bytes_eq t d.0 ≡ false → (b : Bool) → bytes_eq u d.0 ≡ b → without u (put t y es) ≡ put t y (without u es)
      → without u (d ∷ put t y es) ≡ put t y (cond b (without u es) (d ∷ without u es))
  past_gone u t y d es not true k rest = ap (λ b. cond b (without u (put t y es)) (d ∷ without u (put t y es))) k ∙ rest
  past_gone u t y d es not false k rest =
      ap (λ b. cond b (without u (put t y es)) (d ∷ without u (put t y es))) k
      ∙ ap (λ more. d ∷ more) rest
      ∙ ap (λ b. cond b ((t, y) ∷ without u es) (d ∷ put t y (without u es))) (sym not)

  pub without_other : (u t : List ℕ) → bytes_eq u t ≡ false → (y : A) (es : List (List ℕ × A)) → without u (put t y es) ≡ put t y (without u es)
  without_other u t other y [] = ap (λ b. cond b [] ((t, y) ∷ [])) other
  without_other u t other y (d ∷ es) = elim (bytes_eq t d.0) as (λ b. bytes_eq t d.0 ≡ b → without u (cond b ((t, y) ∷ es) (d ∷ put t y es)) ≡ put t y (cond (bytes_eq u d.0) (without u es) (d ∷ without u es))) [
    | true ↦ λ at. at_gone u t y d es other at (bytes_eq u d.0) refl
    | false ↦ λ not. past_gone u t y d es not (bytes_eq u d.0) refl (without_other u t other y es)
  ] refl

-- ---- a command that waits, and a line of another reply

module _ (t : List ℕ) (a : Asked) where
  abbrev waits : Follower → Follower
  waits f = record f { asked = put t a f.asked }

  abbrev also : Followed → Followed
  also (Goes f) = Goes (waits f)
  also (Misfit context) = Misfit context

  also_changed : (context : List ℕ) (held : Option _) (f : Follower) → changed context held (waits f) ≡ also (changed context held f)
  also_changed context None f = refl
  also_changed context (Some held) f = refl

  also_noticed : (context : List ℕ) (n : PrintedNotice) (found : Option Kept) (f : Follower) → noticed_of context n found (waits f) ≡ also (noticed_of context n found f)
  also_noticed context n None f = refl
  also_noticed context n (Some kept) f = elim kept.freed as (λ b. cond b (Misfit context) (changed context (held_after kept.held n) (waits f)) ≡ also (cond b (Misfit context) (changed context (held_after kept.held n) f))) [
    | true ↦ refl
    | false ↦ also_changed context (held_after kept.held n) f
  ]

  also_completed : (context : List ℕ) (found : Option Kept) (f : Follower) → completed_of context found (waits f) ≡ also (completed_of context found f)
  also_completed context None f = refl
  also_completed context (Some kept) f = elim kept.freed as (λ b.
      cond b (Misfit context) (Goes (record f { contexts = put context (record kept { complete = true }) f.contexts; asked = put t a f.asked }))
      ≡ also (cond b (Misfit context) (Goes (record f { contexts = put context (record kept { complete = true }) f.contexts })))) [
        | true ↦ refl
        | false ↦ refl
      ]

  also_freed : (context : List ℕ) (found : Option Kept) (f : Follower) → freed_by context found (waits f) ≡ waits (freed_by context found f)
  also_freed context None f = refl
  also_freed context (Some kept) f = refl

  also_alerted : (text : List ℕ) (f : Follower) → alerted text (waits f) ≡ waits (alerted text f)
  also_alerted text f = elim (bytes_eq (take (length freeing) text) freeing) as (λ b.
      cond b (freed_by (drop (length freeing) text) (look_up (drop (length freeing) text) f.contexts) (waits f)) (waits f)
      ≡ waits (cond b (freed_by (drop (length freeing) text) (look_up (drop (length freeing) text) f.contexts) f) f)) [
        | true ↦ also_freed (drop (length freeing) text) (look_up (drop (length freeing) text) f.contexts) f
        | false ↦ refl
      ]

  also_done : (found : Option Asked) (f : Follower) → done found (waits f) ≡ waits (done found f)
  also_done None f = refl
  also_done (Some (Making make rows)) f = refl
  also_done (Some (Freeing context)) f = also_freed context (look_up context f.contexts) f

  module _ (u : List ℕ) (other : bytes_eq u t ≡ false) where
    also_row : (row : PrintedRow) (found : Option Asked) (f : Follower) → look_up u f.asked ≡ found → with_row u row found (waits f) ≡ waits (with_row u row found f)
    also_row row None f e = refl
    also_row row (Some (Making make rows)) f e = ap (λ asked. record f { asked = asked }) (swap u t other (Making make (rows ++ row ∷ [])) a f.asked (Making make rows) e)
    also_row row (Some (Freeing context)) f e = refl

    also_left : (f : Follower) → record f { asked = without u (put t a f.asked) } ≡ waits (record f { asked = without u f.asked })
    also_left f = ap (λ asked. record f { asked = asked }) (without_other u t other a f.asked)

    also_ended : (ending : lines.Ending) (f : Follower) → ended ending u (waits f) ≡ waits (ended ending u f)
    also_ended lines.Done f =
        (λ i. done (look_other u t a f.asked other i) (also_left f i)) ∙ also_done (look_up u f.asked) (record f { asked = without u f.asked })
    also_ended lines.Failed f = also_left f
    also_ended lines.Wrong f = also_left f

  also_line : (line : Line) (f : Follower) → is_under t line ≡ false → follow (waits f) line ≡ also (follow f line)
  also_line (lines.Entry (Some u) name items) f e =
      ap (λ found. Goes (with_row u (row_of name items) found (waits f))) (look_other u t a f.asked (turned t u e))
      ∙ ap Goes (also_row u (turned t u e) (row_of name items) (look_up u f.asked) f refl)
  also_line (lines.Entry None name items) f e = refl
  also_line (lines.Completion (Some u) ending code text) f e = ap Goes (also_ended u (turned t u e) ending f)
  also_line (lines.Completion None ending code text) f e = refl
  also_line (lines.AddTo context entry position items) f e = also_noticed context _ (look_up context f.contexts) f
  also_line (lines.RemoveFrom context entry position) f e = also_noticed context _ (look_up context f.contexts) f
  also_line (lines.Change context entry from to items) f e = also_noticed context _ (look_up context f.contexts) f
  also_line (lines.UpTo context stamp) f e = also_completed context (look_up context f.contexts) f
  also_line (lines.Alert text) f e = ap Goes (also_alerted text f)
  also_line (lines.Greeting items) f e = refl
  also_line (lines.GoOn text) f e = refl
  also_line (lines.Moment tag stamp) f e = refl
  also_line (lines.Deleted tag name) f e = refl
  also_line (lines.Rights tag rights) f e = refl
  also_line (lines.RightsList tag rights) f e = refl
  also_line (lines.Bye code text) f e = refl

-- ---- a command

abbrev making_then : List ℕ → Option MakeContext → Followed → Followed
making_then t make (Goes f) = Goes (making t make f)
making_then t make (Misfit context) = Misfit context

abbrev sent_then : List ℕ → Command → Followed → Followed
sent_then t c (Goes f) = Goes (ask t c f)
sent_then t c (Misfit context) = Misfit context

none_then : (t : List ℕ) (r : Followed) → r ≡ making_then t None r
none_then t (Goes f) = refl
none_then t (Misfit context) = refl

made_then : (t : List ℕ) (make : MakeContext) (r : Followed) → also t (Making make []) r ≡ making_then t (Some make) r
made_then t make (Goes f) = refl
made_then t make (Misfit context) = refl

making_line : (t : List ℕ) (make : Option MakeContext) (line : Line) (f : Follower) → is_under t line ≡ false → follow (making t make f) line ≡ making_then t make (follow f line)
making_line t None line f e = none_then t (follow f line)
making_line t (Some make) line f e = also_line t (Making make []) line f e ∙ made_then t make (follow f line)

search_then : (t : List ℕ) (s : Search) (r : Followed) → making_then t s.modifiers.make_context r ≡ sent_then t (command.Search s) r
search_then t s (Goes f) = refl
search_then t s (Misfit context) = refl

free_then : (t name : List ℕ) (r : Followed) → also t (Freeing name) r ≡ sent_then t (command.FreeContext name) r
free_then t name (Goes f) = refl
free_then t name (Misfit context) = refl

nothing_then : (t : List ℕ) (c : Command) (r : Followed) → ((f : Follower) → ask t c f ≡ f) → r ≡ sent_then t c r
nothing_then t c (Goes f) same = ap Goes (sym (same f))
nothing_then t c (Misfit context) same = refl

quiet_line : (t : List ℕ) (c : Command) (line : Line) (f : Follower) → ((g : Follower) → ask t c g ≡ g) → follow (ask t c f) line ≡ sent_then t c (follow f line)
quiet_line t c line f same = ap (λ g. follow g line) (same f) ∙ nothing_then t c (follow f line) same

ask_line : (t : List ℕ) (c : Command) (line : Line) (f : Follower) → is_under t line ≡ false → follow (ask t c f) line ≡ sent_then t c (follow f line)
ask_line t (command.Search s) line f e = making_line t s.modifiers.make_context line f e ∙ search_then t s (follow f line)
ask_line t (command.FreeContext name) line f e = also_line t (Freeing name) line f e ∙ free_then t name (follow f line)
ask_line t other line f e = quiet_line t other line f (λ g. refl)

-- ---- acts

then_sent : (t : List ℕ) (c : Command) (after : List Act) (f : Follower) (r : Followed)
    → followed_with (follow_acts after) (ask t c f) (sent_then t c r) ≡ followed_with (follow_acts (Sends t c ∷ after)) f r
then_sent t c after f (Goes g) = refl
then_sent t c after f (Misfit context) = refl

then_read : (xs ys : List Act) → ((f : Follower) → follow_acts xs f ≡ follow_acts ys f) → (f : Follower) (r : Followed) → followed_with (follow_acts xs) f r ≡ followed_with (follow_acts ys) f r
then_read xs ys same f (Goes g) = same g
then_read xs ys same f (Misfit context) = ap (λ (p : Follower × List (List ℕ)). (p.0, context ∷ p.1)) (same f)

sooner : (before after : List Act) (t : List ℕ) (c : Command) (line : Line) → is_under t line ≡ false → (f : Follower)
    → follow_acts (before ++ Sends t c ∷ Reads line ∷ after) f ≡ follow_acts (before ++ Reads line ∷ Sends t c ∷ after) f
sooner [] after t c line e f = ap (followed_with (follow_acts after) (ask t c f)) (ask_line t c line f e) ∙ then_sent t c after f (follow f line)
sooner (Sends u d ∷ before) after t c line e f = sooner before after t c line e (ask u d f)
sooner (Reads other ∷ before) after t c line e f = then_read (before ++ Sends t c ∷ Reads line ∷ after) (before ++ Reads line ∷ Sends t c ∷ after) (λ g. sooner before after t c line e g) f (follow f other)

same : (acts others : List Act) (f : Follower) → IsAhead acts others → follow_acts acts f ≡ follow_acts others f
same acts others f (Same all) = refl
same acts others f (Sooner before after rest tag c line e ahead) = sooner before after tag c line e f ∙ same _ _ f ahead

-- ---- the client of a seat

acts_append : (xs ys : List Act) (f : Follower) → (follow_acts (xs ++ ys) f).0 ≡ (follow_acts ys (follow_acts xs f).0).0
acts_append [] ys f = refl
acts_append (Sends t c ∷ xs) ys f = acts_append xs ys (ask t c f)
acts_append (Reads line ∷ xs) ys f = elim (follow f line) as (λ r. (followed_with (follow_acts (xs ++ ys)) f r).0 ≡ (follow_acts ys (followed_with (follow_acts xs) f r).0).0) [
  | Goes g ↦ acts_append xs ys g
  | Misfit context ↦ acts_append xs ys f
]

acts_read : (ls : List Line) (f : Follower) → follow_acts (map Reads ls) f ≡ follow_all ls f
acts_read [] f = refl
acts_read (line ∷ ls) f = elim (follow f line) as (λ r. followed_with (follow_acts (map Reads ls)) f r ≡ followed_with (follow_all ls) f r) [
  | Goes g ↦ acts_read ls g
  | Misfit context ↦ ap (λ (p : Follower × List (List ℕ)). (p.0, context ∷ p.1)) (acts_read ls f)
]

acts_sent : (sent : Option (List ℕ × Command)) (ls : List Line) (f : Follower) → follow_acts (sends sent ++ map Reads ls) f ≡ follow_all ls (asking sent f)
acts_sent None ls f = acts_read ls f
acts_sent (Some s) ls f = acts_read ls (ask s.0 s.1 f)

acts_begun : (action : Action) (now : Option SeatSession) (acts : List Act) (f : Follower) → (follow_acts acts new).0 ≡ f → (follow_acts (so_far action now acts) new).0 ≡ begun action now f
acts_begun (world.Open user) None acts f e = refl
acts_begun (world.Open user) (Some p) acts f e = e
acts_begun (world.Piece octets) now acts f e = e
acts_begun world.Turn now acts f e = e
acts_begun world.Drain now acts f e = e
acts_begun world.Leave now acts f e = e

acts_stepped : (w : World) (x : Step) (acts : List Act) (f : Follower) → (follow_acts acts new).0 ≡ f
    → (follow_acts (so_far x.action (open_at w x.occasion.seat) acts ++ acts_of w x) new).0 ≡ (after_lines w x f).0
acts_stepped w x acts f e =
    acts_append (so_far x.action (open_at w x.occasion.seat) acts) (acts_of w x) new
    ∙ ap (λ g. (follow_acts (acts_of w x) g).0) (acts_begun x.action (open_at w x.occasion.seat) acts f e)
    ∙ ap (λ (r : Follower × List (List ℕ)). r.0) (acts_sent (sent_in w x) (lines_in (said_in w x)) (begun x.action (open_at w x.occasion.seat) f))

acts_run : (seat : ℕ) (steps : List Step) (w : World) (acts : List Act) (f : Follower) → (follow_acts acts new).0 ≡ f → (follow_acts (acts_in seat steps w acts) new).0 ≡ follower_in seat steps w f
acts_run seat [] w acts f e = e
acts_run seat (x ∷ xs) w acts f e =
    acts_run seat xs (did x.occasion x.refused x.action w) _ _
    (elim (x.occasion.seat == seat) as (λ b. (follow_acts (cond b (so_far x.action (open_at w x.occasion.seat) acts ++ acts_of w x) acts) new).0 ≡ cond b (after_lines w x f).0 f) [
      | true ↦ acts_stepped w x acts f e
      | false ↦ e
    ])

pub ahead_law : AheadLaw
ahead_law = record {
  same = same;
  run = λ seat steps w acts ahead.
      ap (λ (r : Follower × List (List ℕ)). r.0) (same acts (acts_in seat steps w []) new ahead) ∙ acts_run seat steps w [] new refl;
}
