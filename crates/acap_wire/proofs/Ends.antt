-- With which words an UPDATECONTEXT and a drain end what they tell of a context.
use Rattle.std.proofs.Common.{◌≡◌, ℕ, ℤ, Bool, true, false, ◌||◌, List, [], ◌∷◌, ◌++◌, Option, Some, None, Result, Ok, Err, refl, sym, ap, ◌∙◌, append_assoc, flat_map, map as each}
use Rattle.std.specs.FinMap as table
use Rattle.std.specs.List.{list_any}
use Rattle.std.specs.Option.{option_map_or}
use Rattle.std.proofs.lemmas.Bool.{or_from, or_parts}
use Rattle.std.proofs.lemmas.List.Folds.{list_any-append}
use Rattle.acap_commands.specs.declared.command.Command.{Command}
use Rattle.acap_commands.specs.declared.command.Command.TheVariants as command
use Rattle.acap_commands.specs.declared.event.Event.TheVariants as event
use Rattle.acap_commands.specs.declared.refusal.Refusal.{Refusal}
use Rattle.acap_commands.specs.declared.reply.Reply.{Reply}
use Rattle.acap_commands.specs.declared.said.Said.{Said}
use Rattle.acap_commands.specs.declared.said.Said.TheVariants as said
use Rattle.acap_commands.specs.declared.search.Search.{Search}
use Rattle.acap_commands.specs.declared.command.Verb.{Verb}
use Rattle.acap_entries.specs.Orders.{octets_eq}
use Rattle.acap_entries.specs.declared.change.Change.{Change}
use Rattle.acap_machine.specs.Completing.{completes}
use Rattle.acap_machine.specs.Machine.{Machine, user_at}
use Rattle.acap_machine.specs.Searching.{seated_or}
use Rattle.acap_machine.specs.Serving.{answer_to, names_or, updated_or, written_or}
use Rattle.acap_machine.specs.Stepping.{drained_at, reply_of, step_of}
use Rattle.acap_machine.proofs.Completing.{completing}
use Rattle.acap_machine.proofs.StepLaws.{by_keeps}
use Rattle.acap_moves.proofs.Splits.{same_name}
use Rattle.acap_moves.specs.Hits.{is_among}
use Rattle.acap_notices.specs.declared.notice.Notice.{Notice}
use Rattle.acap_notices.specs.declared.told.Told.{Told}
use Rattle.acap_notices.specs.declared.told.Told.TheVariants as told
use Rattle.acap_views.specs.Contexts.{Kept, Snapshot, Live, Freed, Context, Contexts}
use Rattle.acap_views.specs.Opening.{freed_by}
use Rattle.acap_views.specs.Seats.{Seated, contexts_at}
use Rattle.acap_views.specs.Telling.{after_update, drain_told, fault_of, notes_of, told_by_name, told_in_turn, unless_faulty}
use Rattle.acap_views.specs.declared.refusal.ViewRefusal.{ViewRefusal}
use Rattle.acap_wire.proofs.Tolds.{about}
use Rattle.acap_wire.proofs.Machine.{Finds, searched_finds}

-- ---- which events are answered with MODTIMEs of contexts

abbrev pub is_upto : Told → Bool
is_upto (told.Note context n) = false
is_upto (told.Upto context moment) = true
is_upto (told.Freed context) = false

abbrev pub is_updated : Said → Bool
is_updated (said.Updated tolds) = true
is_updated other = false

abbrev pub is_update : Command → Bool
is_update (command.UpdateContext names) = true
is_update other = false

finds_updated : (words : Said) → Finds words → is_updated words ≡ false
finds_updated (said.Updated tolds) f = absurd f
finds_updated other f = refl

written_updated : (m : Machine) (verb : Verb) (r : Result Change Refusal) → is_updated (written_or m verb r).0 ≡ false
written_updated m verb (Ok change) = refl
written_updated m verb (Err why) = refl

deleted_updated : (r : Result (List (List ℕ)) Refusal) → is_updated (names_or r) ≡ false
deleted_updated (Ok names) = refl
deleted_updated (Err why) = refl

freed_updated : (m : Machine) (verb : Verb) (r : Result Seated ViewRefusal) → is_updated (seated_or m (said.Done verb) r).0 ≡ false
freed_updated m verb (Ok seats) = refl
freed_updated m verb (Err why) = refl

not_both : (b c : Bool) → b ≡ false → b ≡ true → c ≡ true
not_both b c e f = absurd (let k : false ≡ true = sym e ∙ f in cc)

command_updates : (m : Machine) (seat : ℕ) (user : List ℕ) (c : Command) (clock : ℤ) → is_updated (answer_to m seat user c clock).0 ≡ true → is_update c ≡ true
unfolding answer_to
command_updates m seat user (command.Search s) clock = not_both _ _ (finds_updated _ (searched_finds m seat user s.target s.modifiers s.key))
command_updates m seat user (command.FreeContext name) clock = not_both _ _ (freed_updated m _ (freed_by m.seats seat name))
command_updates m seat user command.Noop clock = not_both _ _ refl
command_updates m seat user command.Logout clock = not_both _ _ refl
command_updates m seat user (command.Authenticate mechanism) clock = not_both _ _ refl
command_updates m seat user (command.Store entries) clock = not_both _ _ (written_updated m _ _)
command_updates m seat user (command.SetAcl object identifier letters) clock = not_both _ _ (written_updated m _ _)
command_updates m seat user (command.DeleteAcl object identifier) clock = not_both _ _ (written_updated m _ _)
command_updates m seat user (command.MyRights object) clock = not_both _ _ refl
command_updates m seat user (command.ListRights object identifier) clock = not_both _ _ refl
command_updates m seat user (command.DeletedSince dataset since) clock = not_both _ _ (deleted_updated _)
command_updates m seat user (command.UpdateContext names) clock = λ e. refl

pub step_updates : (m : Machine) (seat : ℕ) (c : Command) (clock : ℤ) (reply : Reply) (new : Machine) → step_of m seat (event.Command c) clock ≡ Ok (reply, new) → is_updated reply.said ≡ true → is_update c ≡ true
step_updates m seat c clock reply new e =
    by_keeps (λ r n. is_updated r.said ≡ true → is_update c ≡ true) (user_at m seat) (λ user. reply_of (answer_to m seat user c clock)) reply new (λ user at. command_updates m seat user c clock) e

-- a drain tells no MODTIME
abbrev pub DrainTells : Said → Type 0
DrainTells (said.Drained tolds) = list_any is_upto tolds ≡ false
DrainTells other = ⊥

notes_upto : (other : List ℕ) (pending : List Notice) → list_any is_upto (each (told.Note other) pending) ≡ false
notes_upto other [] = refl
notes_upto other (n ∷ pending) = notes_upto other pending

drain_upto : (other : List ℕ) (kept : Kept) → list_any is_upto (drain_told other kept) ≡ false
drain_upto other (Snapshot shown) = refl
drain_upto other (Live shown now pending) = notes_upto other pending
drain_upto other Freed = refl

drained_upto : (es : List (List ℕ × Context)) → list_any is_upto (flat_map (λ e. drain_told e.0 e.1.kept) es) ≡ false
drained_upto [] = refl
drained_upto (e ∷ es) =
    list_any-append is_upto (drain_told e.0 e.1.kept) (flat_map (λ e. drain_told e.0 e.1.kept) es) ∙ or_from _ _ (drain_upto e.0 e.1.kept) (drained_upto es)

pub drain_tells : (m : Machine) (seat : ℕ) (clock : ℤ) (reply : Reply) (new : Machine) → step_of m seat event.Drain clock ≡ Ok (reply, new) → DrainTells reply.said
drain_tells m seat clock reply new e =
    by_keeps (λ r n. DrainTells r.said) (user_at m seat) (λ user. drained_at m seat) reply new (λ user at. drained_upto (table.entries (contexts_at m.seats seat))) e

-- a command is completed by what is said to it
pub step_completes : (m : Machine) (seat : ℕ) (c : Command) (clock : ℤ) (reply : Reply) (new : Machine) → step_of m seat (event.Command c) clock ≡ Ok (reply, new) → completes reply.said ≡ true
step_completes m seat c clock reply new e = completing m seat c clock reply new e

-- ---- an UPDATECONTEXT ends a context that it names with its MODTIME

pub record Ends (q : List ℕ) (tolds : List Told) : Type 0 where
  pub read : List Told
  pub unread : List Told
  pub moment : ℤ
  pub is : tolds ≡ read ++ told.Upto q moment ∷ unread
  pub quiet : list_any (about q) unread ≡ false

abbrev pub EndsSaid : List ℕ → Said → Type 0
EndsSaid q (said.Updated tolds) = Ends q tolds
EndsSaid q other = Unit {0}

module _ (q : List ℕ) where
  notes_apart : (other : List ℕ) (pending : List Notice) → octets_eq q other ≡ false → list_any (about q) (each (told.Note other) pending) ≡ false
  notes_apart other [] e = refl
  notes_apart other (n ∷ pending) e = or_from _ _ e (notes_apart other pending e)

  kept_apart : (other : List ℕ) (kept : Kept) → octets_eq q other ≡ false → list_any (about q) (notes_of other kept) ≡ false
  kept_apart other (Snapshot shown) e = refl
  kept_apart other (Live shown now pending) e = notes_apart other pending e
  kept_apart other Freed e = refl

  found_apart : (other : List ℕ) (found : Option Context) → octets_eq q other ≡ false → list_any (about q) (option_map_or (λ (c : Context). notes_of other c.kept) found []) ≡ false
  found_apart other None e = refl
  found_apart other (Some c) e = kept_apart other c.kept e

  name_apart : (contexts : Contexts) (other : List ℕ) (last : ℤ) → octets_eq q other ≡ false → list_any (about q) (told_by_name contexts other last) ≡ false
  name_apart contexts other last e =
      list_any-append (about q) (option_map_or (λ (c : Context). notes_of other c.kept) (table.get contexts other) []) (told.Upto other last ∷ [])
      ∙ or_from _ _ (found_apart other (table.get contexts other) e) (or_from _ _ e refl)

  names_apart : (names : List (List ℕ)) (contexts : Contexts) (last : ℤ) → is_among q names ≡ false → list_any (about q) (told_in_turn contexts names last) ≡ false
  unfolding is_among
  names_apart [] contexts last e = refl
  names_apart (name ∷ names) contexts last e =
      let parts = or_parts (octets_eq q name) (is_among q names) e in
      list_any-append (about q) (told_by_name contexts name last) (told_in_turn (after_update contexts name last) names last)
      ∙ or_from _ _ (name_apart contexts name last parts.0) (names_apart names (after_update contexts name last) last parts.1)

  ends_later : (first : List Told) (tolds : List Told) → Ends q tolds → Ends q (first ++ tolds)
  ends_later first tolds e = record {
    read = first ++ e.read;
    unread = e.unread;
    moment = e.moment;
    is = ap (λ ts. first ++ ts) e.is ∙ sym (append_assoc first e.read (told.Upto q e.moment ∷ e.unread));
    quiet = e.quiet;
  }

  ends_here : (notes : List Told) (name : List ℕ) (last : ℤ) (tolds : List Told) → q ≡ name → list_any (about q) tolds ≡ false → Ends q ((notes ++ told.Upto name last ∷ []) ++ tolds)
  ends_here notes name last tolds e none = record {
    read = notes;
    unread = tolds;
    moment = last;
    is = append_assoc notes (told.Upto name last ∷ []) tolds ∙ ap (λ n. notes ++ told.Upto n last ∷ tolds) (sym e);
    quiet = none;
  }

  names_end : (names : List (List ℕ)) (contexts : Contexts) (last : ℤ) → is_among q names ≡ true → Ends q (told_in_turn contexts names last)
  unfolding is_among
  names_end [] contexts last e = absurd cc
  names_end (name ∷ names) contexts last e =
      let first = told_by_name contexts name last in
      let others = told_in_turn (after_update contexts name last) names last in
      elim (is_among q names) as (λ b. is_among q names ≡ b → (octets_eq q name || b) ≡ true → Ends q (first ++ others)) [
        | true ↦ λ t k. ends_later first others (names_end names (after_update contexts name last) last t)
        | false ↦ λ t k.
            ends_here (option_map_or (λ (c : Context). notes_of name c.kept) (table.get contexts name) []) name last others
            (same_name q name (sym (either_false (octets_eq q name)) ∙ k)) (names_apart names (after_update contexts name last) last t)
      ] refl e
    where
      either_false : (b : Bool) → (b || false) ≡ b
      either_false true = refl
      either_false false = refl

  unless_ends : (m : Machine) (why : Option ViewRefusal) (tolds : List Told) (seats : Seated) → Ends q tolds → EndsSaid q (updated_or m (unless_faulty why (tolds, seats))).0
  unless_ends m None tolds seats e = e
  unless_ends m (Some refusal) tolds seats e = tt

  update_ends : (m : Machine) (seat : ℕ) (user : List ℕ) (names : List (List ℕ)) (clock : ℤ) → is_among q names ≡ true → EndsSaid q (answer_to m seat user (command.UpdateContext names) clock).0
  unfolding answer_to
  update_ends m seat user names clock e = unless_ends m (fault_of (contexts_at m.seats seat) names) _ _ (names_end names (contexts_at m.seats seat) m.store.last e)

  pub step_ends : (m : Machine) (seat : ℕ) (names : List (List ℕ)) (clock : ℤ) (reply : Reply) (new : Machine) → step_of m seat (event.Command (command.UpdateContext names)) clock ≡ Ok (reply, new)
      → is_among q names ≡ true → EndsSaid q reply.said
  step_ends m seat names clock reply new f e =
      by_keeps (λ r n. EndsSaid q r.said) (user_at m seat) (λ user. reply_of (answer_to m seat user (command.UpdateContext names) clock)) reply new
      (λ user at. update_ends m seat user names clock e) f
