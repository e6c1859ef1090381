-- What is prepared of each touched entry comes to the change.
use Rattle.std.proofs.Common.{◌≡◌, ℕ, ◌<◌, suc, Bool, true, false, cond, nat_lt, Option, Some, None, List, [], ◌∷◌, length, refl, sym, ◌∙◌, ap, subst, arith, map as each}
use Rattle.std.specs.Cmp.{nat_cmp_total, tied_itself}
use Rattle.std.specs.Cmp.Lexicographic.{nat_list_cmp_total}
use Rattle.std.specs.FinMap as table
use Rattle.std.specs.List.{filter, filter_map, sum_by, Contains}
use Rattle.std.specs.Option.{option_map}
use Rattle.acap_entries.specs.Datasets.{dataset_exists}
use Rattle.std.proofs.lemmas.Bool.{lt-ltb, not-false}
use Rattle.std.proofs.lemmas.List.Sums.{sum_by-cons}
use Rattle.acap_notices.specs.Waiting.{notices_pending}
use Rattle.acap_notices.specs.declared.notice.Notice.{Notice}
use Rattle.acap_entries.specs.FullPaths.{IsSplit}
use Rattle.acap_entries.specs.Orders.{octets_cmp}
use Rattle.acap_ordmap.specs.Ranks.{item_at}
use Rattle.acap_entries.specs.Store.{Store, Written}
use Rattle.acap_entries.specs.declared.path.Path.{Path}
use Rattle.acap_ordmap.proofs.Logic.{Contains-here, Contains-there, true_from_T}
use Rattle.acap_inherit.specs.Laws.{NothingLaw, NamesLaw}
use Rattle.acap_inherit.specs.TouchedLaws.{TouchedPathsLaw}
use Rattle.acap_moves.specs.Hits.{Name, IsBelow, IsAscending}
use Rattle.acap_moves.specs.Moves.{after_moves, moves_notices}
use Rattle.acap_rights.specs.declared.realm.Realm.{Realm}
use Rattle.acap_search.specs.ContextLaws.{HitLaw}
use Rattle.acap_search.specs.Fresh.{Sight, tuple_of, matches_of, is_among}
use Rattle.acap_search.specs.Keys.{holds}
use Rattle.acap_search.specs.Laws.{SeenLaw, TupleLaw}
use Rattle.acap_search.specs.Matches.{Match, match_cmp}
use Rattle.acap_search.specs.Rows.{stars_of}
use Rattle.acap_search.specs.Sight.{is_seen}
use Rattle.acap_search.specs.Touched.{TouchedLaw}
use Rattle.acap_search.specs.Tuples.{name_told, match_of}
use Rattle.acap_search.specs.Views.{answers_of, stars_at}
use Rattle.acap_search.specs.declared.query.SearchSpec.{SearchSpec}
use Rattle.acap_search.specs.declared.sort_term.SortTerm.{SortTerm}
use Rattle.acap_search.proofs.OnceLemmas.{from_made, found_at, in_one, from_ordered}
use Rattle.acap_search.proofs.SeenLemmas.{first_or, nowhere, either, in_map}
use Rattle.acap_search.proofs.TupleLemmas.{made_is}
use Rattle.acap_views.specs.PlannedChanges.{Planned, store_ahead}
use Rattle.acap_views.specs.Changing.{sight_for, follows, changed_context, changed_occupant, changed_seats}
use Rattle.acap_views.specs.Contexts.{Kept, Snapshot, Live, Freed, Context}
use Rattle.acap_views.specs.Current.{IsCurrentKept, IsCurrentContext, IsCurrentOccupant, IsCurrent}
use Rattle.acap_views.specs.Laws.{ChangedLaw, FoundLaw}
use Rattle.acap_views.specs.Moving.{moves_of, IsTaken, TouchedMovesLaw}
use Rattle.acap_views.specs.Notices.{told_shape, event_notices}
use Rattle.acap_views.specs.Plans.{live_shifts, shifts_in, needed_in, turns_by, work_in, work_at, shifts_count}
use Rattle.acap_views.specs.PreparedLaws.{PreparedLaw}
use Rattle.acap_views.specs.Preparing.{seen_at, shift_for, shifts_if, shifts_for, needed_if, kept_after, context_after, contexts_after, occupant_after, seats_after, with_delta}
use Rattle.acap_views.specs.Seats.{Occupant, Seated}
use Rattle.acap_views.specs.EntryUpdates.{EntryUpdate, after_shifts, shifts_notices, until_full, has_changed, few, due_among}
use Rattle.acap_views.specs.Work.{is_live, touched_for}
use Rattle.acap_views.proofs.CurrentLemmas.{find_own}
use Rattle.acap_views.proofs.FollowLemmas.{Apart, move_of, IsNamed, AreNamed, IsAsked, StoodThere, suffices, follow}
use Rattle.acap_views.proofs.MovingLemmas.{split_seen, looked_split, looked_in, alone, looked_rise}
use Rattle.acap_views.proofs.PathLemmas.{IsIn}
use Rattle.acap_views.proofs.SameLemmas.{same_exact}
use Rattle.acap_views.proofs.StillLemmas.{contexts_trimmed, count_trimmed}

-- ---- names that ascend are apart

below_itself : (n : Name) (ns : List Name) (m : Name) → IsBelow n ns → Contains ns m → n ≡ m → ⊥
below_itself n [] m b k e = nowhere m k
below_itself n (x ∷ ns) m b k e =
    either (first_or x m ns k)
    (λ s. cc (sym b.0 ∙ (ap (octets_cmp n) (s ∙ sym e) ∙ tied_itself nat_list_cmp_total n)))
    (λ l. below_itself n ns m b.1 l e)

apart : (depth : Option ℕ) (ps : List Path) → IsAscending (each (name_told depth) ps) → Apart ps
apart depth [] a = tt
apart depth (p ∷ ps) a = (
  λ q k e. below_itself (name_told depth p) (each (name_told depth) ps) (name_told depth q) a.0 (in_map (name_told depth) ps q k) (ap (name_told depth) e),
  apart depth ps a.1,
)

freed : (count : ℕ) (kept : Kept) → notices_pending < count → cond (nat_lt notices_pending count) Freed kept ≡ Freed
freed count kept h = ap (λ b. cond b Freed kept) (lt-ltb _ _ h)

all_of : (xs : List EntryUpdate) → filter (λ _. true) xs ≡ xs
all_of [] = refl
all_of (x ∷ xs) = ap (λ t. x ∷ t) (all_of xs)

module _ (nothing : NothingLaw) (names : NamesLaw) (listed : TouchedPathsLaw) (seen : SeenLaw) (unread : TouchedLaw) (changes : ChangedLaw) (found : FoundLaw) (tuples : TupleLaw) (hits : HitLaw) (moved : TouchedMovesLaw) where
  module _ (written : Written) (old new : Store) (realm : Realm) (user : List ℕ) (context : Context) (taken : IsTaken written old new) (exists : dataset_exists old.records context.sought.dataset ≡ true) where
    abbrev sought : SearchSpec
    sought = context.sought

    abbrev before : Sight
    before = sight_for realm old user sought

    abbrev after : Sight
    after = sight_for realm new user sought

    abbrev was : Path → List SortTerm
    was p = (shift_for old.records new.records realm user sought p).old.places

    abbrev come : Path → Option Match
    come p = (shift_for old.records new.records realm user sought p).come

    abbrev looked : List Path
    looked = touched_for written old new context

    abbrev last : List Match
    last = matches_of old.records realm user sought

    -- ---- the matches before the change

    from_last : (h : Match) → Contains last h → (p : Path) × (Contains before.paths p × (tuple_of before sought p ≡ Some h))
    from_last h k = from_made (tuple_of before sought) before.paths h (from_ordered nothing names old.records realm user taken.sound.old_sound sought exists sought.sort _ h k)

    stood_at : (p : Path) (h : Match) → tuple_of before sought p ≡ Some h → h.places ≡ was p
    stood_at p h e =
        ap (λ (m : Match). m.places) (sym (made_is (is_among before.paths p) (holds sought.key None (before.answers p)) (match_of sought p (before.answers p) (stars_of (before.answers p).read (before.attributes p))) h e).1.1)

    is_named : (h : Match) → Contains last h → IsNamed sought.dataset sought.depth was come h
    is_named h k =
        let w = from_last h k in
        let is = found_at nothing names old.records realm user taken.sound.old_sound sought exists w.0 h w.1.1 in
        record {
          split = subst IsSplit (sym is.0) (split_seen nothing names seen old realm user sought taken.sound.old_sound exists w.0 w.1.0);
          inside = subst (IsIn sought.dataset sought.depth) (sym is.0) (in_one nothing names old.records realm user taken.sound.old_sound sought exists w.0 w.1.0);
          name = is.1 ∙ ap (name_told sought.depth) (sym is.0);
        }

    are_named : AreNamed sought.dataset sought.depth was come last
    are_named = record { ascend = hits.ascend old.records realm user sought taken.sound.old_sound exists; named = is_named }

    stood : (p : Path) → StoodThere sought.dataset sought.depth was come last p
    stood p h k e =
        let w = from_last h k in
        let is = found_at nothing names old.records realm user taken.sound.old_sound sought exists w.0 h w.1.1 in
        stood_at w.0 h w.1.1 ∙ ap was (sym is.0 ∙ e)

    -- ---- the entries that are looked at

    made_from : (p : Path) (m : Match) → come p ≡ Some m → match_of sought p (answers_of (seen_at new.records realm user sought p)) (stars_at (seen_at new.records realm user sought p)) ≡ m
    made_from p m e =
        (made_is (is_seen (answers_of (seen_at new.records realm user sought p))) (holds sought.key None (answers_of (seen_at new.records realm user sought p)))
        (match_of sought p (answers_of (seen_at new.records realm user sought p)) (stars_at (seen_at new.records realm user sought p))) m e).1.1

    asked : (p : Path) → Contains looked p → IsAsked sought.dataset sought.depth was come p
    asked p k = record {
      split = looked_split nothing names listed seen unread changes found written old new realm user sought taken exists p k;
      inside = alone nothing names listed seen unread changes found written old new realm user sought taken exists p (looked_in nothing names listed seen unread changes found written old new realm user sought taken exists p k);
      path = λ m e. ap (λ (m : Match). m.path) (sym (made_from p m e));
      name = λ m e. ap (λ (m : Match). m.row.name) (sym (made_from p m e));
    }

    come_is : (p : Path) → Contains looked p → come p ≡ tuple_of after sought p
    come_is p k = sym (tuples.inside new.records realm user sought p (looked_in nothing names listed seen unread changes found written old new realm user sought taken exists p k))

    same_moves : (ps : List Path) → ((p : Path) → Contains ps p → come p ≡ tuple_of after sought p) → each (move_of sought.dataset sought.depth was come) ps ≡ moves_of sought after ps
    same_moves [] h = refl
    same_moves (p ∷ ps) h = λ i. (name_told sought.depth p, h p (Contains-here p ps) i) ∷ same_moves ps (λ q k. h q (Contains-there p q ps k)) i

    apart_looked : Apart looked
    apart_looked = apart sought.depth looked (looked_rise nothing names listed seen unread changes found written old new realm user sought taken exists)

    followed : (after_shifts (each (shift_for old.records new.records realm user sought) looked) last ≡ matches_of new.records realm user sought)
        × (shifts_notices context.enumerated (each (shift_for old.records new.records realm user sought) looked) last ≡ event_notices context.enumerated sought before after)
    followed =
        let same = same_moves looked come_is in
        let f = follow sought.dataset sought.depth was come looked last are_named asked (λ p k. stood p)
        apart_looked in (
          f.0 ∙ (ap (λ ms. after_moves told_shape ms last) same ∙ moved.list written old new realm user context taken exists),
          f.1 context.enumerated ∙ (ap (λ ms. moves_notices told_shape context.enumerated ms last) same ∙ moved.told written old new realm user context taken exists),
        )

    kept_is : (kept : Kept) → IsCurrentKept last context.enumerated kept
        → kept_after context.enumerated (shifts_if kept (each (shift_for old.records new.records realm user sought) looked)) kept
        ≡ follows (event_notices context.enumerated sought before after) (matches_of new.records realm user sought) kept
    kept_is (Snapshot shown) i = refl
    kept_is (Live shown now pending) i =
        let shifts = each (shift_for old.records new.records realm user sought) looked in
        ap (λ ms. follows (shifts_notices context.enumerated shifts ms) (after_shifts shifts ms) (Live shown now pending)) i.fresh_now
        ∙ (ap (λ ns. follows ns (after_shifts shifts last) (Live shown now pending)) followed.1
        ∙ ap (λ ms. follows (event_notices context.enumerated sought before after) ms (Live shown now pending)) followed.0)
    kept_is Freed i = refl

    abbrev all : List EntryUpdate
    all = each (shift_for old.records new.records realm user sought) looked

    abbrev kept_by : List Match → List Match → List Notice → List EntryUpdate → Kept
    kept_by shown now pending shifts = follows (shifts_notices context.enumerated shifts now) (after_shifts shifts now) (Live shown now pending)

    due_at : (shown : List Match) (pending : List Notice) (due : EntryUpdate → Bool)
        → ((p : Path) → due (shift_for old.records new.records realm user sought p) ≡ false → item_at match_cmp (shift_for old.records new.records realm user sought p).old last ≡ come p)
        → kept_by shown last pending (until_full last (length pending) (filter due all)) ≡ kept_by shown last pending all
    due_at shown pending due left = either
        (suffices sought.dataset sought.depth was come due context.enumerated last looked last (length pending) are_named asked (λ p k. stood p) apart_looked (λ p k. refl) left)
        (λ same. λ i. follows (same.1 i) (same.0 i) (Live shown last pending))
        (λ over. freed _ _ over.0 ∙ sym (freed _ _ over.1))

    -- of a few all are taken, and of many those whose match has changed
    needed_at : (shown : List Match) (pending : List Notice) → kept_by shown last pending (due_among last (length pending) all) ≡ kept_by shown last pending all
    needed_at shown pending = elim (nat_lt few (length all)) as (λ b. kept_by shown last pending (until_full last (length pending) (cond b (filter (has_changed last) all) all)) ≡ kept_by shown last pending all) [
      | true ↦ due_at shown pending (has_changed last) (λ p e. same_exact _ _ (not-false _ e))
      | false ↦ subst (λ ss. kept_by shown last pending (until_full last (length pending) ss) ≡ kept_by shown last pending all) (all_of all) (due_at shown pending (λ _. true) (λ p e. absurd (cc (e))))
    ]

    needed_is : (kept : Kept) → IsCurrentKept last context.enumerated kept
        → kept_after context.enumerated (needed_if kept (shifts_if kept all)) kept ≡ kept_after context.enumerated (shifts_if kept all) kept
    needed_is (Snapshot shown) i = refl
    needed_is (Live shown now pending) i =
        subst (λ ms. kept_by shown ms pending (due_among ms (length pending) all) ≡ kept_by shown ms pending all) (sym i.fresh_now) (needed_at shown pending)
    needed_is Freed i = refl

  one_context : (written : Written) (old new : Store) (realm : Realm) (user : List ℕ) (context : Context) → IsTaken written old new → IsCurrentContext old realm user context
      → context_after (shifts_for written old new realm user context) context ≡ changed_context realm old new user context
  one_context written old new realm user context taken current =
      λ i. record context { kept = kept_is written old new realm user context taken current.exists context.kept current.kept i }

  one_needed : (plan : Planned) (user : List ℕ) (context : Context) → IsTaken plan.change.writes plan.old (store_ahead plan) → IsCurrentContext plan.old plan.realm user context
      → context_after (needed_in plan user context) context ≡ changed_context plan.realm plan.old (store_ahead plan) user context
  one_needed plan user context taken current =
      (λ i. record context { kept = needed_is plan.change.writes plan.old (store_ahead plan) plan.realm user context taken current.exists context.kept current.kept i })
      ∙ one_context plan.change.writes plan.old (store_ahead plan) plan.realm user context taken current

  are_current : (plan : Planned) (occupant : Occupant) → IsCurrentOccupant plan.old plan.realm occupant → (e : List ℕ × Context) → Contains (table.entries occupant.contexts) e
      → IsCurrentContext plan.old plan.realm occupant.user e.1
  are_current plan occupant current e k =
      current.each e.0 e.1 (table.get-entries occupant.contexts e.0 ∙ find_own nat_list_cmp_total (table.entries occupant.contexts) e (true_from_T _ (table.entries_sorted occupant.contexts)) k)

  -- whatever is made for each context, true_from_T that it comes to the change of that one
  module _ (plan : Planned) (made : List ℕ → Context → List EntryUpdate) (right : (user : List ℕ) (context : Context) → IsCurrentContext plan.old plan.realm user context
      → context_after (made user context) context ≡ changed_context plan.realm plan.old (store_ahead plan) user context) where
    all_contexts : (user : List ℕ) (es : List (List ℕ × Context)) → ((e : List ℕ × Context) → Contains es e → IsCurrentContext plan.old plan.realm user e.1)
        → contexts_after (each (made user) (each (λ e. e.1) es)) es ≡ filter_map (λ e. option_map (λ y. (e.0, y)) (Some (changed_context plan.realm plan.old (store_ahead plan) user e.1))) es
    all_contexts user [] current = refl
    all_contexts user (e ∷ es) current = λ i. (e.0, right user e.1 (current e (Contains-here e es)) i) ∷ all_contexts user es (λ x k. current x (Contains-there e x es k)) i

    one_occupant : (occupant : Occupant) → IsCurrentOccupant plan.old plan.realm occupant → occupant_after (turns_by made occupant) occupant ≡ changed_occupant plan.realm plan.old (store_ahead plan) occupant
    one_occupant occupant current = λ i. record occupant {
      contexts = table.from_entries ((contexts_trimmed plan.old plan.realm occupant.user (each (made occupant.user) (table.values occupant.contexts)) (table.entries occupant.contexts) (are_current plan occupant current)
          ∙ all_contexts occupant.user (table.entries occupant.contexts) (are_current plan occupant current)) i);
    }

    all_occupants : (es : List (ℕ × Occupant)) → ((e : ℕ × Occupant) → Contains es e → IsCurrentOccupant plan.old plan.realm e.1)
        → seats_after (each (turns_by made) (each (λ e. e.1) es)) es ≡ filter_map (λ e. option_map (λ y. (e.0, y)) (Some (changed_occupant plan.realm plan.old (store_ahead plan) e.1))) es
    all_occupants [] current = refl
    all_occupants (e ∷ es) current = λ i. (e.0, one_occupant e.1 (current e (Contains-here e es)) i) ∷ all_occupants es (λ x k. current x (Contains-there e x es k)) i

    all_seats : (seats : Seated) (work : ℕ) → IsCurrent plan.old plan.realm seats
        → with_delta (record { seats = each (turns_by made) (table.values seats); work = work }) seats ≡ changed_seats plan.realm plan.old (store_ahead plan) seats
    all_seats seats work current = ap table.from_entries (all_occupants (table.entries seats)
        (λ e k. current.all e.0 e.1 (table.get-entries seats e.0 ∙ find_own nat_cmp_total (table.entries seats) e (true_from_T _ (table.entries_sorted seats)) k)))

  -- ---- how many are looked at

  each_length : {A B : Type 0} (f : A → B) (xs : List A) → length (each f xs) ≡ length xs
  each_length f [] = refl
  each_length f (x ∷ xs) = ap suc (each_length f xs)

  sum_each : {A B : Type 0} (f : B → ℕ) (g : A → B) (h : A → ℕ) (xs : List A) → ((x : A) → f (g x) ≡ h x) → sum_by f (each g xs) ≡ sum_by h xs
  sum_each f g h [] e = refl
  sum_each f g h (x ∷ xs) e = sum_by-cons f (g x) (each g xs) ∙ omega (arith, e x, sum_each f g h xs e, sum_by-cons h x xs)

  count_if : (kept : Kept) (shifts : List EntryUpdate) → length (shifts_if kept shifts) ≡ cond (is_live kept) (length shifts) 0
  count_if (Snapshot shown) shifts = refl
  count_if (Live shown now pending) shifts = refl
  count_if Freed shifts = refl

  one_count : (plan : Planned) (user : List ℕ) (context : Context) → length (shifts_in plan user context) ≡ work_in plan context
  one_count plan user context =
      count_if context.kept (live_shifts plan user context.sought)
      ∙ ap (λ n. cond (is_live context.kept) n 0) (each_length (shift_for plan.old.records (store_ahead plan).records plan.realm user context.sought) (touched_for plan.change.writes plan.old (store_ahead plan) context))

  pub prepared_law : PreparedLaw
  prepared_law = record {
    changed = λ plan seats work taken current. all_seats plan (shifts_in plan)
        (λ user context c. one_context plan.change.writes plan.old (store_ahead plan) plan.realm user context taken c) seats work current;
    needed = λ plan seats work taken current. all_seats plan (needed_in plan) (λ user context c. one_needed plan user context taken c) seats work current;
    count = λ plan seats. sum_each shifts_count (turns_by (shifts_in plan)) (work_at plan) (table.values seats) (λ occupant.
        count_trimmed (each (shifts_in plan occupant.user) (table.values occupant.contexts))
        ∙ sum_each length (shifts_in plan occupant.user) (work_in plan) (table.values occupant.contexts) (one_count plan occupant.user));
  }
