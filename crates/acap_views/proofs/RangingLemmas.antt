-- A change of the store moves no position that a client was told.
use Rattle.std.proofs.Common.{◌≡◌, ◌⊎◌, inl, inr, ℕ, ◌+◌, Bool, true, false, cond, nat_lt, Option, Some, None, List, ◌++◌, length, Result, Ok, Err, refl, sym, ◌∙◌, subst}
use Rattle.std.specs.FinMap as table
use Rattle.std.specs.Option.{option_map, option_map_or}
use Rattle.acap_entries.specs.Store.{Store}
use Rattle.acap_notices.specs.Waiting.{notices_pending}
use Rattle.acap_notices.specs.declared.notice.Notice.{Notice}
use Rattle.acap_rights.specs.declared.realm.Realm.{Realm}
use Rattle.acap_search.specs.Fresh.{matches_of}
use Rattle.acap_search.specs.Matches.{Match}
use Rattle.acap_views.specs.Changing.{follows, sight_for, changed_context, changed_occupant, changed_seats}
use Rattle.acap_views.specs.Contexts.{Kept, Snapshot, Live, Freed, Context, Contexts}
use Rattle.acap_views.specs.Laws.{ChangedLaw}
use Rattle.acap_views.specs.Notices.{event_notices}
use Rattle.acap_views.specs.Ranging.{Ranged, ranged_as, ranged_if, ranged_of, range_at}
use Rattle.acap_views.specs.RangingLaws.{RangedLaw}
use Rattle.acap_views.specs.Seats.{Occupant, Seated}
use Rattle.acap_views.specs.declared.refusal.ViewRefusal.{ViewRefusal}
use Rattle.acap_views.specs.declared.refusal.ViewRefusal.TheVariants as refusal

abbrev Stays : Result Ranged ViewRefusal → Result Ranged ViewRefusal → Type 0
Stays before after = (after ≡ before) ⊎ ((after ≡ Err refusal.FreedContext) × ((why : ViewRefusal) → before ≡ Err why → after ≡ Err why))

followed : (context : Context) (many : Bool) (shown now : List Match) (pending : List Notice) → Stays (Ok (ranged_as context shown)) (ranged_if context (cond many Freed (Live shown now pending)))
followed context true shown now pending = inr (refl, λ why e. absurd (cc (e)))
followed context false shown now pending = inl refl

by_kept : (context : Context) (notices : List Notice) (after : List Match) (kept : Kept) → Stays (ranged_if context kept) (ranged_if context (follows notices after kept))
by_kept context notices after (Snapshot shown) = inl refl
by_kept context notices after (Live shown before pending) = followed context (nat_lt notices_pending (length pending + length notices)) shown after (pending ++ notices)
by_kept context notices after Freed = inl refl

module _ (changes : ChangedLaw) (realm : Realm) (old new : Store) where
  one : (user : List ℕ) (found : Option Context) → Stays (ranged_of found) (ranged_of (option_map (changed_context realm old new user) found))
  one user None = inl refl
  one user (Some context) = by_kept context (event_notices context.enumerated context.sought (sight_for realm old user context.sought) (sight_for realm new user context.sought)) (matches_of new.records realm user context.sought) context.kept

  abbrev contexts_in : Option Occupant → Contexts
  contexts_in o = option_map_or (λ (occupant : Occupant). occupant.contexts) o table.empty

  at_seat : (name : List ℕ) (o : Option Occupant) → Stays (ranged_of (table.get (contexts_in o) name)) (ranged_of (table.get (contexts_in (option_map (changed_occupant realm old new) o)) name))
  at_seat name None = inl refl
  at_seat name (Some occupant) =
      subst (λ found. Stays (ranged_of (table.get occupant.contexts name)) (ranged_of found)) (sym (changes.contexts realm old new occupant name)) (one occupant.user (table.get occupant.contexts name))

  stays : (seats : Seated) (seat : ℕ) (name : List ℕ) → Stays (range_at seats seat name) (range_at (changed_seats realm old new seats) seat name)
  stays seats seat name =
      subst (λ o. Stays (range_at seats seat name) (ranged_of (table.get (contexts_in o) name))) (sym (changes.seats realm old new seats seat)) (at_seat name (table.get seats seat))

kept_or : (before after : Result Ranged ViewRefusal) (found : Ranged) → Stays before after → before ≡ Ok found → (after ≡ Ok found) ⊎ (after ≡ Err refusal.FreedContext)
kept_or before after found (inl same) e = inl (same ∙ e)
kept_or before after found (inr freed) e = inr freed.0

still_refused : (before after : Result Ranged ViewRefusal) (why : ViewRefusal) → Stays before after → before ≡ Err why → after ≡ Err why
still_refused before after why (inl same) e = same ∙ e
still_refused before after why (inr freed) e = freed.1 why e

pub ranged_law : ChangedLaw → RangedLaw
ranged_law changes = record {
  kept = λ realm old new seats seat name found e. kept_or _ _ found (stays changes realm old new seats seat name) e;
  refused = λ realm old new seats seat name why e. still_refused _ _ why (stays changes realm old new seats seat name) e;
}
