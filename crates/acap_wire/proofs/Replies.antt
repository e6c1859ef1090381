-- What a follower makes of the lines of one reply.
use Rattle.std.proofs.Common.{◌≡◌, ℕ, ℤ, Bool, true, false, cond, List, [], ◌∷◌, ◌++◌, map, append_assoc, append-nil, Option, Some, None, refl, sym, ap, subst, ◌∙◌}
use Rattle.std.specs.Prelude.{◌&&◌}
use Rattle.acap_client.specs.Following.{Kept, Asked, Making, Freeing, Follower, Followed, Goes, Misfit, look_up, put, ask, making, with_row, done, made, free, freed_by, held_as, held_after, noticed_of, changed, completed_of, follow, follow_all, followed_with}
use Rattle.acap_commands.specs.Statuses.{status_of}
use Rattle.acap_commands.specs.declared.command.Command.{Command}
use Rattle.acap_commands.specs.declared.command.Command.TheVariants as command
use Rattle.acap_commands.specs.declared.event.Event.{Event}
use Rattle.acap_commands.specs.declared.event.Event.TheVariants as event
use Rattle.acap_commands.specs.declared.search_modifiers.MakeContext.{MakeContext}
use Rattle.acap_commands.specs.declared.refusal.Refusal.{Refusal}
use Rattle.acap_commands.specs.declared.said.Said.{Said}
use Rattle.acap_commands.specs.declared.said.Said.TheVariants as said
use Rattle.acap_commands.specs.declared.search.Search.{Search}
use Rattle.acap_commands.specs.declared.said.SearchReply.{SearchReply}
use Rattle.acap_commands.specs.declared.refusal.Status.{Status}
use Rattle.acap_commands.specs.declared.refusal.Status.TheVariants as status
use Rattle.acap_commands.specs.declared.command.Verb.{Verb}
use Rattle.acap_commands.specs.declared.command.Verb.TheVariants as verb
use Rattle.acap_entries.specs.Orders.{octets_eq}
use Rattle.acap_entries.specs.declared.row.Row.{Row}
use Rattle.acap_grammar.specs.Lines.{Datum, Line, Ending, Done, Failed, Wrong, Completion, Deleted}
use Rattle.acap_grammar.specs.Printed.{PrintedRow, PrintedNotice, PrintedLaw, printed_row}
use Rattle.acap_grammar.specs.Refusals.{text_of}
use Rattle.acap_grammar.specs.Replies.{done_of}
use Rattle.acap_grammar.specs.SaidLines.{code_datum, done_line, entry_line, found_lines, moment_lines, refused_by, refused_line, said_lines, searched_line, told_line, total_datum}
use Rattle.acap_machine.specs.Client.{client_after, client_after_tolds, answered_on, searched_on, begun_with, is_told_whole, made_over, makes_named}
use Rattle.acap_machine.specs.Completing.{is_answer}
use Rattle.acap_moves.proofs.Splits.{same_name}
use Rattle.acap_moves.specs.Hits.{is_among}
use Rattle.acap_notices.specs.Holding.{Holding, holding}
use Rattle.acap_notices.specs.declared.notice.Notice.TheVariants as notice
use Rattle.acap_notices.specs.declared.told.Told.{Told}
use Rattle.acap_notices.specs.declared.told.Told.TheVariants as told
use Rattle.acap_wire.proofs.Kept.{IsKeptAs, IsHeldAs, IsPrintedAs, starts}
use Rattle.acap_wire.proofs.Named.{look_own, look_other, look_one, put_one, without_one}
use Rattle.acap_wire.proofs.Tolds.{all_told, append_follow, frees_among, other_freed}

-- ---- a follower between two replies, and one with a command that waits

abbrev pub Contexts : Type 0
Contexts = List (List ℕ × Kept)

abbrev pub between : Contexts → Follower
between contexts = record { contexts = contexts; asked = [] }

abbrev waiting : Contexts → List ℕ → Asked → Follower
waiting contexts t asked = record { contexts = contexts; asked = (t, asked) ∷ [] }

-- ---- lines that change nothing

one_line : (line : Line) (f g : Follower) → follow f line ≡ Goes g → follow_all (line ∷ []) f ≡ (g, [])
one_line line f g e = ap (followed_with (follow_all []) f) e

passes : {A : Type 0} (f : Follower) (line : A → Line) → ((x : A) → follow f (line x) ≡ Goes f) → (xs : List A) (rest : List Line)
    → follow_all (map line xs ++ rest) f ≡ follow_all rest f
passes f line each [] rest = refl
passes f line each (x ∷ xs) rest = ap (followed_with (follow_all (map line xs ++ rest)) f) (each x) ∙ passes f line each xs rest

moments : (tag : Option (List ℕ)) (last : Option ℤ) (rest : List Line) (f : Follower) → follow_all (moment_lines tag last ++ rest) f ≡ follow_all rest f
moments tag None rest f = refl
moments tag (Some moment) rest f = refl

entry_passes : (tag : Option (List ℕ)) (contexts : Contexts) (row : Row) → follow (between contexts) (entry_line tag row) ≡ Goes (between contexts)
entry_passes None contexts row = refl
entry_passes (Some t) contexts row = refl

ending_passes : (tag : Option (List ℕ)) (ending : Ending) (code : Option Datum) (text : List ℕ) (contexts : Contexts)
    → follow (between contexts) (Completion tag ending code text) ≡ Goes (between contexts)
ending_passes None ending code text contexts = refl
ending_passes (Some t) Done code text contexts = refl
ending_passes (Some t) Failed code text contexts = refl
ending_passes (Some t) Wrong code text contexts = refl

refused_passes : (s : Status) (tag : Option (List ℕ)) (code : Option Datum) (text : List ℕ) (contexts : Contexts)
    → follow (between contexts) (refused_by s tag code text) ≡ Goes (between contexts)
refused_passes status.No tag code text contexts = ending_passes tag Failed code text contexts
refused_passes status.Bad tag code text contexts = ending_passes tag Wrong code text contexts
refused_passes status.Bye tag code text contexts = refl

-- whether notices are told
abbrev pub tells_notices : Said → Bool
tells_notices (said.Drained tolds) = true
tells_notices (said.Updated tolds) = true
tells_notices other = false

-- what is neither notices nor what a SEARCH found
abbrev pub is_plain : Said → Bool
is_plain (said.Drained tolds) = false
is_plain (said.Updated tolds) = false
is_plain (said.Searched found) = false
is_plain other = true

pub plain_tells : (words : Said) → is_plain words ≡ true → tells_notices words ≡ false
plain_tells (said.Drained tolds) e = cc
plain_tells (said.Updated tolds) e = cc
plain_tells other e = refl

done_passes : (tag : Option (List ℕ)) (verb : Verb) (contexts : Contexts) → follow_all (done_line tag verb ∷ []) (between contexts) ≡ (between contexts, [])
done_passes tag verb contexts = one_line (done_line tag verb) (between contexts) (between contexts) (ending_passes tag Done None (done_of verb) contexts)

pub done_quiet : (tag : Option (List ℕ)) (verb : Verb) (f : Follower) → f.asked ≡ [] → follow_all (done_line tag verb ∷ []) f ≡ (f, [])
done_quiet tag verb f a =
    let same : f ≡ between f.contexts = (λ i. record { contexts = f.contexts; asked = a i }) in
    ap (follow_all (done_line tag verb ∷ [])) same ∙ done_passes tag verb f.contexts ∙ ap (λ (g : Follower). (g, [])) (sym same)

-- where no command waits, all else changes nothing
pub idle_lines : (tag : Option (List ℕ)) (words : Said) (contexts : Contexts) → tells_notices words ≡ false → follow_all (said_lines tag words) (between contexts) ≡ (between contexts, [])
idle_lines tag said.Greeting contexts e = refl
idle_lines tag said.Left contexts e = refl
idle_lines tag (said.Drained tolds) contexts e = cc
idle_lines tag (said.Updated tolds) contexts e = cc
idle_lines tag (said.Done verb) contexts e = done_passes tag verb contexts
idle_lines tag (said.Searched found) contexts e =
    ap (λ lines. follow_all lines (between contexts)) (append_assoc (map (entry_line tag) found.rows) (moment_lines tag found.last) (searched_line tag found.total ∷ []))
    ∙ passes (between contexts) (entry_line tag) (entry_passes tag contexts) found.rows (moment_lines tag found.last ++ searched_line tag found.total ∷ [])
    ∙ moments tag found.last (searched_line tag found.total ∷ []) (between contexts)
    ∙ one_line (searched_line tag found.total) (between contexts) (between contexts) (ending_passes tag Done (total_datum found.total) (done_of verb.Search) contexts)
idle_lines tag (said.Deleted names) contexts e =
    passes (between contexts) (Deleted tag) (λ name. refl) names (done_line tag verb.DeletedSince ∷ []) ∙ done_passes tag verb.DeletedSince contexts
idle_lines tag (said.Rights rights) contexts e = done_passes tag verb.MyRights contexts
idle_lines tag (said.RightsList rights) contexts e = done_passes tag verb.ListRights contexts
idle_lines tag (said.Challenge challenge) contexts e = refl
idle_lines tag said.GoodBye contexts e = done_passes tag verb.Logout contexts
idle_lines tag (said.Refused why) contexts e =
    one_line (refused_line tag why) (between contexts) (between contexts) (refused_passes (status_of why) tag (code_datum why) (text_of why) contexts)

-- ---- lines that change no command that waits

abbrev SameAsked : Follower → Followed → Type 0
SameAsked f (Goes g) = g.asked ≡ f.asked
SameAsked f (Misfit context) = Unit {0}

changed_asked : (context : List ℕ) (held : Option _) (f : Follower) → SameAsked f (changed context held f)
changed_asked context None f = tt
changed_asked context (Some held) f = refl

noticed_asked : (context : List ℕ) (n : PrintedNotice) (found : Option Kept) (f : Follower) → SameAsked f (noticed_of context n found f)
noticed_asked context n None f = tt
noticed_asked context n (Some kept) f = elim kept.freed as (λ b. SameAsked f (cond b (Misfit context) (changed context (held_after kept.held n) f))) [
  | true ↦ tt
  | false ↦ changed_asked context (held_after kept.held n) f
]

completed_asked : (context : List ℕ) (found : Option Kept) (f : Follower) → SameAsked f (completed_of context found f)
completed_asked context None f = tt
completed_asked context (Some kept) f = elim kept.freed as (λ b. SameAsked f (cond b (Misfit context) (Goes (record f { contexts = put context (record kept { complete = true }) f.contexts })))) [
  | true ↦ tt
  | false ↦ refl
]

freed_asked : (context : List ℕ) (found : Option Kept) (f : Follower) → (freed_by context found f).asked ≡ f.asked
freed_asked context None f = refl
freed_asked context (Some kept) f = refl

told_asked : (one : Told) (f : Follower) → SameAsked f (follow f (told_line one))
told_asked (told.Note context (notice.AddTo position row)) f = noticed_asked context _ (look_up context f.contexts) f
told_asked (told.Note context (notice.RemoveFrom entry position)) f = noticed_asked context _ (look_up context f.contexts) f
told_asked (told.Note context (notice.Change old new row)) f = noticed_asked context _ (look_up context f.contexts) f
told_asked (told.Upto context moment) f = completed_asked context (look_up context f.contexts) f
told_asked (told.Freed context) f = freed_asked context (look_up context f.contexts) f

asked_then : (f : Follower) (r : Followed) (others : Follower → Follower × List (List ℕ)) → SameAsked f r → ((g : Follower) → (others g).0.asked ≡ g.asked)
    → (followed_with others f r).0.asked ≡ f.asked
asked_then f (Goes g) others same each = each g ∙ same
asked_then f (Misfit context) others same each = each f

pub tolds_asked : (tolds : List Told) (f : Follower) → (follow_all (map told_line tolds) f).0.asked ≡ f.asked
tolds_asked [] f = refl
tolds_asked (one ∷ tolds) f = asked_then f (follow f (told_line one)) (follow_all (map told_line tolds)) (told_asked one f) (tolds_asked tolds)

-- ---- the lines of a command that waits

-- a row of a SEARCH
row_added : (contexts : Contexts) (t : List ℕ) (make : MakeContext) (rows : List PrintedRow) (row : Row)
    → follow (waiting contexts t (Making make rows)) (entry_line (Some t) row) ≡ Goes (waiting contexts t (Making make (rows ++ printed_row row ∷ [])))
row_added contexts t make rows row =
    ap (λ found. Goes (with_row t (printed_row row) found (waiting contexts t (Making make rows)))) (look_one t (Making make rows))
    ∙ ap (λ asked. Goes (record { contexts = contexts; asked = asked })) (put_one t (Making make rows) (Making make (rows ++ printed_row row ∷ [])))

rows_added : (contexts : Contexts) (t : List ℕ) (make : MakeContext) (got : List PrintedRow) (rows : List Row) (rest : List Line)
    → follow_all (map (entry_line (Some t)) rows ++ rest) (waiting contexts t (Making make got)) ≡ follow_all rest (waiting contexts t (Making make (got ++ map printed_row rows)))
rows_added contexts t make got [] rest = ap (λ ps. follow_all rest (waiting contexts t (Making make ps))) (sym (append-nil got))
rows_added contexts t make got (row ∷ rows) rest =
    ap (followed_with (follow_all (map (entry_line (Some t)) rows ++ rest)) (waiting contexts t (Making make got))) (row_added contexts t make got row)
    ∙ rows_added contexts t make (got ++ printed_row row ∷ []) rows rest
    ∙ ap (λ ps. follow_all rest (waiting contexts t (Making make ps))) (append_assoc got (printed_row row ∷ []) (map printed_row rows))

-- its end
done_waiting : (contexts : Contexts) (t : List ℕ) (asked : Asked) (code : Option Datum) (text : List ℕ)
    → follow (waiting contexts t asked) (Completion (Some t) Done code text) ≡ Goes (done (Some asked) (between contexts))
done_waiting contexts t asked code text =
    λ i. Goes (done (look_one t asked i) (record { contexts = contexts; asked = without_one t asked i }))

refused_waiting : (s : Status) (contexts : Contexts) (t : List ℕ) (asked : Asked) (code : Option Datum) (text : List ℕ) → is_answer s ≡ true
    → follow (waiting contexts t asked) (refused_by s (Some t) code text) ≡ Goes (between contexts)
refused_waiting status.No contexts t asked code text e = ap (λ left. Goes (record { contexts = contexts; asked = left })) (without_one t asked)
refused_waiting status.Bad contexts t asked code text e = ap (λ left. Goes (record { contexts = contexts; asked = left })) (without_one t asked)
refused_waiting status.Bye contexts t asked code text e = cc

-- all lines of a SEARCH that makes a context
made_lines : (contexts : Contexts) (t : List ℕ) (make : MakeContext) (found : SearchReply)
    → follow_all (found_lines (Some t) found) (waiting contexts t (Making make [])) ≡ (made make (map printed_row found.rows) (between contexts), [])
made_lines contexts t make found =
    ap (λ lines. follow_all lines (waiting contexts t (Making make [])))
    (append_assoc (map (entry_line (Some t)) found.rows) (moment_lines (Some t) found.last) (searched_line (Some t) found.total ∷ []))
    ∙ rows_added contexts t make [] found.rows (moment_lines (Some t) found.last ++ searched_line (Some t) found.total ∷ [])
    ∙ moments (Some t) found.last (searched_line (Some t) found.total ∷ []) (waiting contexts t (Making make (map printed_row found.rows)))
    ∙ one_line (searched_line (Some t) found.total) (waiting contexts t (Making make (map printed_row found.rows))) (made make (map printed_row found.rows) (between contexts)) (done_waiting contexts t (Making make (map printed_row found.rows)) (total_datum found.total) (done_of verb.Search))

refused_lines : (contexts : Contexts) (t : List ℕ) (asked : Asked) (why : Refusal) → is_answer (status_of why) ≡ true
    → follow_all (said_lines (Some t) (said.Refused why)) (waiting contexts t asked) ≡ (between contexts, [])
refused_lines contexts t asked why e = one_line (refused_line (Some t) why) (waiting contexts t asked) (between contexts) (refused_waiting (status_of why) contexts t asked (code_datum why) (text_of why) e)

freed_lines : (contexts : Contexts) (t context : List ℕ) (verb : Verb)
    → follow_all (said_lines (Some t) (said.Done verb)) (waiting contexts t (Freeing context)) ≡ (free context (between contexts), [])
freed_lines contexts t context verb = one_line (done_line (Some t) verb) (waiting contexts t (Freeing context)) (free context (between contexts)) (done_waiting contexts t (Freeing context) None (done_of verb))

-- ---- what is held after a reply

-- no command waits then; what the client of a context holds is held, and no line was a misfit of it
pub record IsReplied (q : List ℕ) (held : Option Holding) (r : Follower × List (List ℕ)) : Type 0 where
  pub asked : r.0.asked ≡ []
  pub holds : IsHeldAs held (look_up q r.0.contexts)
  pub fits : (h : Holding) → held ≡ Some h → is_among q r.1 ≡ false

-- a command that may make a context or free one
abbrev pub asks_context : Command → Bool
asks_context (command.Search s) = true
asks_context (command.FreeContext context) = true
asks_context other = false

pub asks_nothing : (t : List ℕ) (c : Command) (f : Follower) → asks_context c ≡ false → ask t c f ≡ f
asks_nothing t (command.Search s) f e = cc
asks_nothing t (command.FreeContext context) f e = cc
asks_nothing t other f e = refl

-- what may be said to a command
abbrev pub AnswersSearch : Search → Said → Type 0
AnswersSearch s (said.Searched found) = made_over s.target s.modifiers.make_context ≡ s.modifiers.make_context
AnswersSearch s (said.Refused why) = is_answer (status_of why) ≡ true
AnswersSearch s other = ⊥

abbrev pub AnswersFree : Said → Type 0
AnswersFree (said.Done verb) = Unit {0}
AnswersFree (said.Refused why) = is_answer (status_of why) ≡ true
AnswersFree other = ⊥

abbrev pub Answers : Command → Said → Type 0
Answers (command.Search s) words = AnswersSearch s words
Answers (command.FreeContext context) words = AnswersFree words
Answers other words = Unit {0}

-- whether the context of a name is freed by what is told, and by that or by the command
abbrev pub frees_said : List ℕ → Said → Bool
frees_said q (said.Drained tolds) = frees_among q tolds
frees_said q (said.Updated tolds) = frees_among q tolds
frees_said q other = false

abbrev pub frees_done : List ℕ → Said → Bool
frees_done context (said.Done verb) = true
frees_done context other = false

abbrev pub frees : List ℕ → Command → Said → Bool
frees q (command.FreeContext context) words = octets_eq q context && frees_done context words
frees q other words = frees_said q words

-- that isn't so, where the client holds rows
abbrev pub Unless : Option Holding → Bool → Type 0
Unless held b = (h : Holding) → held ≡ Some h → b ≡ false

module _ (law : PrintedLaw) (q : List ℕ) where
  replied_as : (held : Option Holding) (r s : Follower × List (List ℕ)) → r ≡ s → IsReplied q held s → IsReplied q held r
  replied_as held r s e k = subst (IsReplied q held) (sym e) k

  unfolding_none : (held : Option Holding) (contexts : Contexts) → IsHeldAs held (look_up q contexts) → IsReplied q held (between contexts, [])
  unfolding is_among
  unfolding_none held contexts h = record { asked = refl; holds = h; fits = λ k e. refl }

  -- where nothing waits and nothing is told
  pub idle_replied : (tag : Option (List ℕ)) (words : Said) (contexts : Contexts) (held : Option Holding) → IsHeldAs held (look_up q contexts) → tells_notices words ≡ false
      → IsReplied q held (follow_all (said_lines tag words) (between contexts))
  idle_replied tag words contexts held h e = replied_as held _ _ (idle_lines tag words contexts e) (unfolding_none held contexts h)

  -- ---- what is told of contexts

  told_before : (tolds : List Told) (contexts : Contexts) (held : Option Holding) → IsHeldAs held (look_up q contexts) → Unless held (frees_among q tolds)
      → IsReplied q (client_after_tolds q tolds held) (follow_all (map told_line tolds) (between contexts))
  told_before tolds contexts None h e = record { asked = tolds_asked tolds (between contexts); holds = λ k f. absurd cc; fits = λ k f. absurd cc }
  told_before tolds contexts (Some old) h e = record {
    asked = tolds_asked tolds (between contexts);
    holds = λ k f. (all_told law q tolds (between contexts) old k (h old refl) (e old refl) f).holds;
    fits = λ k f. (all_told law q tolds (between contexts) old k (h old refl) (e old refl) f).fits;
  }

  then_done : (tag : Option (List ℕ)) (verb : Verb) (lines : List Line) (held : Option Holding) (f : Follower) → IsReplied q held (follow_all lines f)
      → IsReplied q held (follow_all (lines ++ done_line tag verb ∷ []) f)
  then_done tag verb lines held f k =
      let g = (follow_all lines f).0 in
      let last : follow_all (done_line tag verb ∷ []) g ≡ (g, []) = done_quiet tag verb g k.asked in
      replied_as held _ (g, (follow_all lines f).1)
      (append_follow lines (done_line tag verb ∷ []) f
      ∙ ap (λ (r : Follower × List (List ℕ)). (r.0, (follow_all lines f).1 ++ r.1)) last
      ∙ ap (λ ms. (g, ms)) (append-nil (follow_all lines f).1)) k

  -- ---- where no command waits

  pub unasked_replied : (tag : Option (List ℕ)) (e : Event) (words : Said) (contexts : Contexts) (held : Option Holding) → IsHeldAs held (look_up q contexts)
      → ((found : SearchReply) → answered_on q e found held ≡ held) → Unless held (frees_said q words)
      → IsReplied q (client_after q e words held) (follow_all (said_lines tag words) (between contexts))
  unasked_replied tag e (said.Drained tolds) contexts held h same stays = told_before tolds contexts held h stays
  unasked_replied tag e (said.Updated tolds) contexts held h same stays = then_done tag verb.UpdateContext (map told_line tolds) _ (between contexts) (told_before tolds contexts held h stays)
  unasked_replied tag e (said.Searched found) contexts held h same stays =
      subst (λ k. IsReplied q k (follow_all (said_lines tag (said.Searched found)) (between contexts))) (sym (same found)) (idle_replied tag (said.Searched found) contexts held h refl)
  unasked_replied tag e said.Greeting contexts held h same stays = idle_replied tag said.Greeting contexts held h refl
  unasked_replied tag e said.Left contexts held h same stays = idle_replied tag said.Left contexts held h refl
  unasked_replied tag e (said.Done verb) contexts held h same stays = idle_replied tag (said.Done verb) contexts held h refl
  unasked_replied tag e (said.Deleted names) contexts held h same stays = idle_replied tag (said.Deleted names) contexts held h refl
  unasked_replied tag e (said.Rights rights) contexts held h same stays = idle_replied tag (said.Rights rights) contexts held h refl
  unasked_replied tag e (said.RightsList rights) contexts held h same stays = idle_replied tag (said.RightsList rights) contexts held h refl
  unasked_replied tag e (said.Challenge challenge) contexts held h same stays = idle_replied tag (said.Challenge challenge) contexts held h refl
  unasked_replied tag e said.GoodBye contexts held h same stays = idle_replied tag said.GoodBye contexts held h refl
  unasked_replied tag e (said.Refused why) contexts held h same stays = idle_replied tag (said.Refused why) contexts held h refl

  -- ---- a SEARCH

  made_kept : (make : MakeContext) (rows : List Row) (contexts : Contexts) (b : Bool) → octets_eq q make.name ≡ b → (held : Option Holding) → IsHeldAs held (look_up q contexts) → (told_whole : Bool)
      → IsHeldAs (cond b (cond told_whole (Some (holding make.enumerate rows)) None) held) (look_up q (made make (map printed_row rows) (between contexts)).contexts)
  made_kept make rows contexts true e held h true k f =
      let is : holding make.enumerate rows ≡ k = cc in
      let kept : Kept = record { held = held_as make.enumerate (map printed_row rows); complete = false; freed = false } in
      let here : q ≡ make.name = same_name q make.name e in
      record {
        kept = kept;
        there = ap (λ n. look_up n (put make.name kept contexts)) here ∙ look_own make.name kept contexts;
        printed = subst (λ g. IsPrintedAs g kept.held) is (starts law make.enumerate rows);
        goes_on = refl;
      }
  made_kept make rows contexts true e held h false k f = absurd cc
  made_kept make rows contexts false e held h told_whole k f =
      subst (IsKeptAs k) (sym (look_other q make.name (record { held = held_as make.enumerate (map printed_row rows); complete = false; freed = false }) contexts e)) (h k f)

  begun_is : (s : Search) (found : SearchReply) (make : Option MakeContext) (held : Option Holding) → s.modifiers.make_context ≡ make → made_over s.target s.modifiers.make_context ≡ s.modifiers.make_context
      → searched_on q s found held ≡ cond (makes_named q make) (begun_with s found make) held
  begun_is s found make held e same = (λ i. cond (makes_named q ((same ∙ e) i)) (begun_with s found (e i)) held)

  searched : (t : List ℕ) (s : Search) (found : SearchReply) (contexts : Contexts) (held : Option Holding) (make : Option MakeContext) → s.modifiers.make_context ≡ make
      → IsHeldAs held (look_up q contexts)
      → IsReplied q (cond (makes_named q make) (begun_with s found make) held) (follow_all (said_lines (Some t) (said.Searched found)) (making t make (between contexts)))
  unfolding is_among
  searched t s found contexts held None e h = idle_replied (Some t) (said.Searched found) contexts held h refl
  searched t s found contexts held (Some make) e h =
      replied_as _ _ _ (made_lines contexts t make found)
      (record { asked = refl; holds = made_kept make found.rows contexts (octets_eq q make.name) refl held h (is_told_whole s found); fits = λ k f. refl })

  search_refused : (t : List ℕ) (why : Refusal) (contexts : Contexts) (held : Option Holding) (make : Option MakeContext) → is_answer (status_of why) ≡ true → IsHeldAs held (look_up q contexts)
      → IsReplied q held (follow_all (said_lines (Some t) (said.Refused why)) (making t make (between contexts)))
  search_refused t why contexts held None e h = idle_replied (Some t) (said.Refused why) contexts held h refl
  search_refused t why contexts held (Some make) e h = replied_as held _ _ (refused_lines contexts t (Making make []) why e) (unfolding_none held contexts h)

  search_replied : (t : List ℕ) (s : Search) (words : Said) (contexts : Contexts) (held : Option Holding) → IsHeldAs held (look_up q contexts) → AnswersSearch s words
      → IsReplied q (client_after q (event.Command (command.Search s)) words held) (follow_all (said_lines (Some t) words) (ask t (command.Search s) (between contexts)))
  search_replied t s (said.Searched found) contexts held h a =
      subst (λ k. IsReplied q k (follow_all (said_lines (Some t) (said.Searched found)) (making t s.modifiers.make_context (between contexts)))) (sym (begun_is s found s.modifiers.make_context held refl a))
      (searched t s found contexts held s.modifiers.make_context refl h)
  search_replied t s (said.Refused why) contexts held h a = search_refused t why contexts held s.modifiers.make_context a h
  search_replied t s said.Greeting contexts held h a = absurd a
  search_replied t s said.Left contexts held h a = absurd a
  search_replied t s (said.Drained tolds) contexts held h a = absurd a
  search_replied t s (said.Updated tolds) contexts held h a = absurd a
  search_replied t s (said.Done verb) contexts held h a = absurd a
  search_replied t s (said.Deleted names) contexts held h a = absurd a
  search_replied t s (said.Rights rights) contexts held h a = absurd a
  search_replied t s (said.RightsList rights) contexts held h a = absurd a
  search_replied t s (said.Challenge challenge) contexts held h a = absurd a
  search_replied t s said.GoodBye contexts held h a = absurd a

  -- ---- a FREECONTEXT

  freed_kept : (context : List ℕ) (contexts : Contexts) (held : Option Holding) → IsHeldAs held (look_up q contexts) → Unless held (octets_eq q context)
      → IsHeldAs held (look_up q (free context (between contexts)).contexts)
  freed_kept context contexts held h e k f = (other_freed law q k context (e k f) (between contexts) (h k f) (look_up context contexts)).0

  free_asked : (context : List ℕ) (contexts : Contexts) (found : Option Kept) → (freed_by context found (between contexts)).asked ≡ []
  free_asked context contexts None = refl
  free_asked context contexts (Some kept) = refl

  free_replied : (t context : List ℕ) (words : Said) (contexts : Contexts) (held : Option Holding) → IsHeldAs held (look_up q contexts) → AnswersFree words
      → Unless held (octets_eq q context && frees_done context words)
      → IsReplied q (client_after q (event.Command (command.FreeContext context)) words held) (follow_all (said_lines (Some t) words) (ask t (command.FreeContext context) (between contexts)))
  unfolding is_among
  free_replied t context (said.Done verb) contexts held h a stays =
      replied_as held _ _ (freed_lines contexts t context verb)
      (record {
        asked = free_asked context contexts (look_up context contexts);
        holds = freed_kept context contexts held h (λ k f. and_true (octets_eq q context) (stays k f));
        fits = λ k f. refl;
      })
    where
      and_true : (b : Bool) → (b && true) ≡ false → b ≡ false
      and_true true e = cc
      and_true false e = refl
  free_replied t context (said.Refused why) contexts held h a stays = replied_as held _ _ (refused_lines contexts t (Freeing context) why a) (unfolding_none held contexts h)
  free_replied t context said.Greeting contexts held h a stays = absurd a
  free_replied t context said.Left contexts held h a stays = absurd a
  free_replied t context (said.Drained tolds) contexts held h a stays = absurd a
  free_replied t context (said.Updated tolds) contexts held h a stays = absurd a
  free_replied t context (said.Searched found) contexts held h a stays = absurd a
  free_replied t context (said.Deleted names) contexts held h a stays = absurd a
  free_replied t context (said.Rights rights) contexts held h a stays = absurd a
  free_replied t context (said.RightsList rights) contexts held h a stays = absurd a
  free_replied t context (said.Challenge challenge) contexts held h a stays = absurd a
  free_replied t context said.GoodBye contexts held h a stays = absurd a

  -- ---- every command

  pub replied : (t : List ℕ) (c : Command) (words : Said) (contexts : Contexts) (held : Option Holding) → IsHeldAs held (look_up q contexts) → Answers c words → Unless held (frees q c words)
      → IsReplied q (client_after q (event.Command c) words held) (follow_all (said_lines (Some t) words) (ask t c (between contexts)))
  replied t (command.Search s) words contexts held h a stays = search_replied t s words contexts held h a
  replied t (command.FreeContext context) words contexts held h a stays = free_replied t context words contexts held h a stays
  replied t other words contexts held h a stays = unasked_replied (Some t) (event.Command other) words contexts held h (λ found. refl) stays

  -- ---- a command that is refused, whatever it is

  pub fails_replied : (t : List ℕ) (c : Command) (why : Refusal) (contexts : Contexts) (held : Option Holding) → IsHeldAs held (look_up q contexts) → is_answer (status_of why) ≡ true
      → IsReplied q held (follow_all (said_lines (Some t) (said.Refused why)) (ask t c (between contexts)))
  fails_replied t (command.Search s) why contexts held h e = search_refused t why contexts held s.modifiers.make_context e h
  fails_replied t (command.FreeContext context) why contexts held h e = replied_as held _ _ (refused_lines contexts t (Freeing context) why e) (unfolding_none held contexts h)
  fails_replied t other why contexts held h e = idle_replied (Some t) (said.Refused why) contexts held h refl
