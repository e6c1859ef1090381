-- Whatever happens to the contexts, live ones stay current.
use Rattle.std.proofs.Common.{◌≡◌, ℕ, ℤ, ◌+◌, ◌≤◌, Bool, true, false, not, cond, ◌||◌, ◌&&◌, nat_lt, Option, Some, None, List, [], ◌∷◌, ◌++◌, length, refl, sym, ◌∙◌, ap, subst, arith, length-append}
use Rattle.std.proofs.lemmas.Bool.{ltb-false}
use Rattle.std.specs.Cmp.{IsTotalOrder, tied_itself, first_so, second_so}
use Rattle.std.specs.Cmp.Lexicographic.{nat_list_cmp_total}
use Rattle.std.specs.Cmp.{nat_cmp_total}
use Rattle.std.specs.FinMap as table
use Rattle.std.specs.FinMap.{FinMap, is_sorted, find}
use Rattle.std.specs.FinMap.Entries.{below_all}
use Rattle.std.specs.List.{filter_map, Contains}
use Rattle.std.specs.Option.{option_map, option_map_or}
use Rattle.std.specs.Ordering.{eq_by_cmp, is_eq, nat_cmp, ordering_reverse}
use Rattle.std.specs.declared.cmp.Ordering.{Ordering}
use Rattle.std.specs.declared.cmp.Ordering.TheVariants.{Less}
use Rattle.std.specs.declared.result.Result.TheVariants.{Ok, Err}
use Rattle.acap_entries.specs.Datasets.{dataset_exists}
use Rattle.acap_entries.specs.Orders.{octets_cmp, octets_eq}
use Rattle.acap_entries.specs.Sound.{IsSoundStore}
use Rattle.acap_entries.specs.Store.{Store}
use Rattle.acap_ordmap.proofs.Logic.{Contains-here, Contains-there, true_from_T, Less_from_is_lt}
use Rattle.acap_moves.specs.Hits.{Name, is_among, IsDistinct}
use Rattle.acap_moves.proofs.Law.{applied_then}
use Rattle.acap_notices.specs.Holding.{holding, holding_after_all}
use Rattle.acap_notices.specs.Rows.{IsEachOnce, is_each_once, is_held}
use Rattle.acap_notices.specs.Waiting.{notices_pending}
use Rattle.acap_notices.specs.declared.notice.Notice.{Notice}
use Rattle.acap_notices.specs.declared.told.Told.{Told}
use Rattle.acap_rights.specs.declared.realm.Realm.{Realm}
use Rattle.acap_search.specs.Fresh.{matches_of}
use Rattle.acap_search.specs.Matches.{Match}
use Rattle.acap_search.specs.Once.{OnceLaw}
use Rattle.acap_search.specs.declared.query.SearchSpec.{SearchSpec}
use Rattle.acap_search.proofs.SeenLemmas.{first_or, nowhere, either}
use Rattle.acap_search.proofs.OnceLemmas.{from_made}
use Rattle.acap_views.specs.Changing.{IsSoundStep, sight_for, follows, changed_context, changed_occupant, changed_seats}
use Rattle.acap_views.specs.Contexts.{Kept, Snapshot, Live, Freed, Context, Contexts, kept_of, context_of}
use Rattle.acap_views.specs.Current.{rows, IsFollowing, IsCurrentKept, IsCurrentContext, IsCurrentOccupant, IsCurrent}
use Rattle.acap_views.specs.Laws.{NoticeLaw, CurrentLaw}
use Rattle.acap_views.specs.Maps.{each_kept}
use Rattle.acap_views.specs.Notices.{names_told, event_notices}
use Rattle.acap_views.specs.Opening.{is_full}
use Rattle.acap_views.specs.Seats.{Occupant, Seated, IsAt, contexts_at, with_contexts}
use Rattle.acap_views.specs.Telling.{shown_now, fault_of, updated_to, after_update, after_updates, unless_faulty, kept_drained, after_drain}
use Rattle.acap_views.specs.declared.refusal.ViewRefusal.{ViewRefusal}
use Rattle.acap_views.proofs.ListLemmas.{distinct}

-- ---- maps

module _ {K X : Type 0} {R : K → K → Ordering} (o : IsTotalOrder R) where
  below : (k : K) (es : List (K × X)) (e : K × X) → below_all R k es ≡ true → Contains es e → R k e.0 ≡ Less
  below k [] e b h = nowhere e h
  below k (x ∷ xs) e b h = either (first_or x e xs h) (λ same. ap (λ (y : K × X). R k y.0) (sym same) ∙ Less_from_is_lt _ (first_so _ _ b)) (λ l. below k xs e (second_so _ _ b) l)

  pub find_own : (es : List (K × X)) (e : K × X) → is_sorted R es ≡ true → Contains es e → find R e.0 es ≡ Some e.1
  find_own [] e s h = nowhere e h
  find_own (x ∷ xs) e s h =
      either (first_or x e xs h)
      (λ same. ap (λ r. cond (is_eq r) (Some x.1) (find R e.0 xs)) (ap (λ (y : K × X). R e.0 y.0) same ∙ tied_itself o e.0) ∙ ap (λ (y : K × X). Some y.1) same)
      (λ l. ap (λ r. cond (is_eq r) (Some x.1) (find R e.0 xs)) (o.antisymm e.0 x.0 ∙ ap ordering_reverse (below x.0 xs e (first_so _ _ s) l)) ∙ find_own xs e (second_so _ _ s) l)

find_some : {K X : Type 0} (R : K → K → Ordering) (k : K) (es : List (K × X)) (x : X) → find R k es ≡ Some x → (e : K × X) × (Contains es e × (e.1 ≡ x))
find_some R k [] x h = absurd (cc (h))
find_some R k (y ∷ ys) x h =
    elim (eq_by_cmp R k y.0) as (λ b. cond b (Some y.1) (find R k ys) ≡ Some x → (e : _ × _) × (Contains (y ∷ ys) e × (e.1 ≡ x))) [
      | true ↦ λ e. (y, (Contains-here y ys, cc (e)))
      | false ↦ λ e. let r = find_some R k ys x e in (r.0, (Contains-there y r.0 ys r.1.0, r.1.1))
    ] h

became : {K Y : Type 0} (k : K) (o : Option Y) (e : K × Y) → option_map (λ y. (k, y)) o ≡ Some e → o ≡ Some e.1
became k None e h = absurd (cc (h))
became k (Some y) e h = cc (h)

-- each value is what became of one that was there
pub from_kept : {K X Y : Type 0} {R : K → K → Ordering} → IsTotalOrder R → (f : X → Option Y) (m : FinMap R X) (k : K) (y : Y) → table.get (each_kept f m) k ≡ Some y
    → (j : K) × ((x : X) × ((table.get m j ≡ Some x) × (f x ≡ Some y)))
from_kept {R = R} o f m k y h =
    let found = find_some R k (filter_map (λ e. option_map (λ y. (e.0, y)) (f e.1)) (table.entries m)) y (sym (table.get-from_entries o _ k) ∙ h) in
    let w = from_made (λ e. option_map (λ y. (e.0, y)) (f e.1)) (table.entries m) found.0 found.1.0 in (
      w.0.0,
      (
        w.0.1,
        (
          table.get-entries m w.0.0 ∙ find_own o (table.entries m) w.0 (true_from_T _ (table.entries_sorted m)) w.1.0,
          became w.0.0 (f w.0.1) found.0 w.1.1 ∙ ap Some found.1.1,
        ),
      ),
    )

-- ---- rows

held_is : (name : Name) (ms : List Match) → is_held name (rows ms) ≡ is_among name (names_told ms)
unfolding is_among
held_is name [] = refl
held_is name (m ∷ ms) = ap (λ b. octets_eq name m.row.name || b) (held_is name ms)

each_once : (ms : List Match) → IsDistinct (names_told ms) → is_each_once (rows ms) ≡ true
unfolding IsDistinct
each_once [] d = refl
each_once (m ∷ ms) d = (λ i. not ((held_is m.row.name ms ∙ d.0) i) && is_each_once (rows ms)) ∙ each_once ms d.1

rows_once : OnceLaw → (store : Store) (realm : Realm) (user : List ℕ) (sought : SearchSpec) → IsSoundStore store.records → dataset_exists store.records sought.dataset ≡ true → IsEachOnce (rows (matches_of store.records realm user sought))
rows_once law store realm user sought sound exists =
    record { once = each_once _ (distinct _ (law.names store.records realm user sought sound exists)) }

-- ---- contexts and seats

abbrev pub AreCurrent : Store → Realm → List ℕ → Contexts → Type 0
AreCurrent store realm user contexts = (name : List ℕ) (context : Context) → table.get contexts name ≡ Some context → IsCurrentContext store realm user context

module _ (store : Store) (realm : Realm) where
  none_there : (user : List ℕ) → AreCurrent store realm user table.empty
  none_there user name context e = absurd (cc (sym (table.get-empty octets_cmp name) ∙ e))

  put_there : (user : List ℕ) (contexts : Contexts) (name : List ℕ) (context : Context) → AreCurrent store realm user contexts → IsCurrentContext store realm user context
      → AreCurrent store realm user (table.insert contexts name context)
  put_there user contexts name context all one q c e =
      elim (eq_by_cmp octets_cmp q name) as (λ b. cond b (Some context) (table.get contexts q) ≡ Some c → IsCurrentContext store realm user c) [
        | true ↦ λ k. let same : context ≡ c = cc (k) in subst (λ (c : Context). IsCurrentContext store realm user c) same one
        | false ↦ λ k. all q c k
      ] (sym (table.get-insert nat_list_cmp_total contexts name context q) ∙ e)

  taken_there : (user : List ℕ) (contexts : Contexts) (name : List ℕ) → AreCurrent store realm user contexts → AreCurrent store realm user (table.remove contexts name)
  taken_there user contexts name all q c e =
      elim (eq_by_cmp octets_cmp q name) as (λ b. cond b None (table.get contexts q) ≡ Some c → IsCurrentContext store realm user c) [
        | true ↦ λ k. absurd (cc (k))
        | false ↦ λ k. all q c k
      ] (sym (table.get-remove nat_list_cmp_total contexts name q) ∙ e)

  sits : (seats : Seated) (seat : ℕ) (occupant : Occupant) → IsCurrent store realm seats → IsCurrentOccupant store realm occupant → IsCurrent store realm (table.insert seats seat occupant)
  sits seats seat occupant current one = record {
    all = λ q other e.
        elim (eq_by_cmp nat_cmp q seat) as (λ b. cond b (Some occupant) (table.get seats q) ≡ Some other → IsCurrentOccupant store realm other) [
          | true ↦ λ k. let same : occupant ≡ other = cc (k) in subst (λ (o : Occupant). IsCurrentOccupant store realm o) same one
          | false ↦ λ k. current.all q other k
        ] (sym (table.get-insert nat_cmp_total seats seat occupant q) ∙ e);
  }

  leaves : (seats : Seated) (seat : ℕ) → IsCurrent store realm seats → IsCurrent store realm (table.remove seats seat)
  leaves seats seat current = record {
    all = λ q other e.
        elim (eq_by_cmp nat_cmp q seat) as (λ b. cond b None (table.get seats q) ≡ Some other → IsCurrentOccupant store realm other) [
          | true ↦ λ k. absurd (cc (k))
          | false ↦ λ k. current.all q other k
        ] (sym (table.get-remove nat_cmp_total seats seat q) ∙ e);
  }

  -- new contexts at a seat, made of those that are Contains-there
  with_current : (seats : Seated) (seat : ℕ) (f : Contexts → Contexts) → IsCurrent store realm seats
      → ((occupant : Occupant) → table.get seats seat ≡ Some occupant → AreCurrent store realm occupant.user occupant.contexts → AreCurrent store realm occupant.user (f occupant.contexts))
      → IsCurrent store realm (with_contexts seats seat (f (contexts_at seats seat)))
  with_current seats seat f current keeps =
      elim (table.get seats seat) as (λ o. table.get seats seat ≡ o → IsCurrent store realm (option_map_or (λ (occupant : Occupant). table.insert seats seat (record occupant { contexts = f (option_map_or (λ (occupant : Occupant). occupant.contexts) o table.empty) })) o seats)) [
        | None ↦ λ e. current
        | Some occupant ↦ λ e. sits seats seat (record occupant { contexts = f occupant.contexts }) current (record { each = keeps occupant e (current.all seat occupant e).each })
      ] refl

-- ---- each clause

told_up : (fresh : List Match) (enumerated : Bool) (kept : Kept) → IsCurrentKept fresh enumerated kept → IsCurrentKept fresh enumerated (shown_now kept)
told_up fresh enumerated (Snapshot shown) i = tt
told_up fresh enumerated (Live shown now pending) i = record { fresh_now = i.fresh_now; leads = refl; once = i.once_now; once_now = i.once_now; few = omega arith }
told_up fresh enumerated Freed i = tt

updated : (store : Store) (realm : Realm) (user : List ℕ) (last : ℤ) (context : Context) → IsCurrentContext store realm user context → IsCurrentContext store realm user (updated_to last context)
updated store realm user last context i = record { exists = i.exists; kept = told_up _ context.enumerated context.kept i.kept }

pub one_update : (store : Store) (realm : Realm) (user : List ℕ) (contexts : Contexts) (name : List ℕ) (last : ℤ) → AreCurrent store realm user contexts → AreCurrent store realm user (after_update contexts name last)
one_update store realm user contexts name last all =
    elim (table.get contexts name) as (λ o. table.get contexts name ≡ o → AreCurrent store realm user (option_map_or (λ (context : Context). table.insert contexts name (updated_to last context)) o contexts)) [
      | None ↦ λ e. all
      | Some context ↦ λ e. put_there store realm user contexts name (updated_to last context) all (updated store realm user last context (all name context e))
    ] refl

all_updates : (store : Store) (realm : Realm) (user : List ℕ) (contexts : Contexts) (names : List (List ℕ)) (last : ℤ) → AreCurrent store realm user contexts → AreCurrent store realm user (after_updates contexts names last)
all_updates store realm user contexts [] last all = all
all_updates store realm user contexts (name ∷ names) last all = all_updates store realm user (after_update contexts name last) names last (one_update store realm user contexts name last all)

drained_kept : (store : Store) (realm : Realm) (user : List ℕ) (old new : Context) (kept : Kept) → IsCurrentContext store realm user old → IsCurrentKept (matches_of store.records realm user old.sought) old.enumerated kept → kept_drained old kept ≡ Some new → IsCurrentContext store realm user new
drained_kept store realm user old new (Snapshot shown) i k e = let same : old ≡ new = cc (e) in subst (λ (c : Context). IsCurrentContext store realm user c) same i
drained_kept store realm user old new (Live shown now pending) i k e =
    let same : (record old { kept = Live now now [] }) ≡ new = cc (e) in
    subst (λ (c : Context). IsCurrentContext store realm user c) same (record { exists = i.exists; kept = told_up _ old.enumerated (Live shown now pending) k })
drained_kept store realm user old new Freed i k e = absurd (cc (e))

drained_all : (store : Store) (realm : Realm) (user : List ℕ) (contexts : Contexts) → AreCurrent store realm user contexts → AreCurrent store realm user (each_kept after_drain contexts)
drained_all store realm user contexts all name context e =
    let w = from_kept nat_list_cmp_total after_drain contexts name context e in
    let i = all w.0 w.1.0 w.1.1.0 in
    drained_kept store realm user w.1.0 context w.1.0.kept i i.kept w.1.1.1

made_kept : (fresh : List Match) (enumerated notify : Bool) → IsEachOnce (rows fresh) → IsCurrentKept fresh enumerated (kept_of notify fresh)
made_kept fresh enumerated true once = record { fresh_now = refl; leads = refl; once = once; once_now = once; few = omega arith }
made_kept fresh enumerated false once = tt

user_of : (seats : Seated) (seat : ℕ) (user : List ℕ) (occupant : Occupant) → IsAt seats seat user → table.get seats seat ≡ Some occupant → occupant.user ≡ user
user_of seats seat user occupant at e = at occupant e

within : (a b : ℕ) → nat_lt notices_pending (a + b) ≡ false → a + b ≤ notices_pending
within a b e = ltb-false notices_pending (a + b) e

followed : (fresh after shown before : List Match) (enumerated : Bool) (pending notices : List Notice)
    → IsFollowing fresh enumerated shown before pending
    → holding_after_all (holding enumerated (rows fresh)) notices ≡ Some (holding enumerated (rows after)) → IsEachOnce (rows after)
    → IsCurrentKept after enumerated (follows notices after (Live shown before pending))
followed fresh after shown before enumerated pending notices i l once =
    elim (nat_lt notices_pending (length pending + length notices)) as (λ b. nat_lt notices_pending (length pending + length notices) ≡ b → IsCurrentKept after enumerated (cond b Freed (Live shown after (pending ++ notices)))) [
      | true ↦ λ e. tt
      | false ↦ λ e. record {
        fresh_now = refl;
        leads = applied_then (holding enumerated (rows shown)) (holding enumerated (rows before)) _ pending notices i.leads (ap (λ (ms : List Match). holding_after_all (holding enumerated (rows ms)) notices) i.fresh_now ∙ l);
        once = i.once;
        once_now = once;
        few = subst (λ n. n ≤ notices_pending) (sym (length-append pending notices)) (within (length pending) (length notices) e);
      }
    ] refl

follows_kept : (fresh after : List Match) (enumerated : Bool) (notices : List Notice) (kept : Kept)
    → IsCurrentKept fresh enumerated kept
    → holding_after_all (holding enumerated (rows fresh)) notices ≡ Some (holding enumerated (rows after)) → IsEachOnce (rows after)
    → IsCurrentKept after enumerated (follows notices after kept)
follows_kept fresh after enumerated notices (Snapshot shown) i l once = tt
follows_kept fresh after enumerated notices (Live shown before pending) i l once = followed fresh after shown before enumerated pending notices i l once
follows_kept fresh after enumerated notices Freed i l once = tt

module _ (notice : NoticeLaw) (once : OnceLaw) (old new : Store) (realm : Realm) (sound : IsSoundStep old new) where
  one_changed : (user : List ℕ) (context : Context) → IsCurrentContext old realm user context → IsCurrentContext new realm user (changed_context realm old new user context)
  one_changed user context i =
      let exists = sound.kept context.sought.dataset i.exists in
      record {
        exists = exists;
        kept = follows_kept (matches_of old.records realm user context.sought) (matches_of new.records realm user context.sought) context.enumerated
            (event_notices context.enumerated context.sought (sight_for realm old user context.sought) (sight_for realm new user context.sought)) context.kept i.kept
            (notice.leads old new realm user context.enumerated context.sought sound i.exists)
            (rows_once once new realm user context.sought sound.new_sound exists);
      }

  occupant_changed : (occupant : Occupant) → IsCurrentOccupant old realm occupant → IsCurrentOccupant new realm (changed_occupant realm old new occupant)
  occupant_changed occupant i = record {
    each = λ name context e.
        let w = from_kept nat_list_cmp_total (λ (c : Context). Some (changed_context realm old new occupant.user c)) occupant.contexts name context e in
        let same : changed_context realm old new occupant.user w.1.0 ≡ context = cc (w.1.1.1) in
        subst (λ (c : Context). IsCurrentContext new realm occupant.user c) same (one_changed occupant.user w.1.0 (i.each w.0 w.1.0 w.1.1.0));
  }

  all_changed : (seats : Seated) → IsCurrent old realm seats → IsCurrent new realm (changed_seats realm old new seats)
  all_changed seats i = record {
    all = λ seat occupant e.
        let w = from_kept nat_cmp_total (λ (o : Occupant). Some (changed_occupant realm old new o)) seats seat occupant e in
        let same : changed_occupant realm old new w.1.0 ≡ occupant = cc (w.1.1.1) in
        subst (λ (o : Occupant). IsCurrentOccupant new realm o) same (occupant_changed w.1.0 (i.all w.0 w.1.0 w.1.1.0));
  }

-- ---- refusals change nothing

opened_is : (store : Store) (realm : Realm) (full : Bool) (made new : Seated) (refusal : ViewRefusal) → cond full (Err refusal) (Ok made) ≡ Ok new → IsCurrent store realm made → IsCurrent store realm new
opened_is store realm true made new refusal e i = absurd (cc (e))
opened_is store realm false made new refusal e i = let same : made ≡ new = cc (e) in subst (λ (s : Seated). IsCurrent store realm s) same i

freed_is : (store : Store) (realm : Realm) (known : Bool) (made new : Seated) (refusal : ViewRefusal) → cond known (Ok made) (Err refusal) ≡ Ok new → IsCurrent store realm made → IsCurrent store realm new
freed_is store realm true made new refusal e i = let same : made ≡ new = cc (e) in subst (λ (s : Seated). IsCurrent store realm s) same i
freed_is store realm false made new refusal e i = absurd (cc (e))

told_is : (store : Store) (realm : Realm) (fault : Option ViewRefusal) (said : List Told × Seated) (told : List Told) (new : Seated) → unless_faulty fault said ≡ Ok (told, new) → IsCurrent store realm said.1 → IsCurrent store realm new
told_is store realm None said told new e i = let same : said.1 ≡ new = cc (e) in subst (λ (s : Seated). IsCurrent store realm s) same i
told_is store realm (Some refusal) said told new e i = absurd (cc (e))

pub current_law : NoticeLaw → OnceLaw → CurrentLaw
current_law notice once = record {
  nobody = λ store realm. record { all = λ seat occupant e. absurd (cc (sym (table.get-empty nat_cmp seat) ∙ e)) };
  entered = λ store realm seats seat user i. sits store realm seats seat _ i (record { each = none_there store realm user });
  left = λ store realm seats seat i. leaves store realm seats seat i;
  opened = λ store realm seats new seat make sought user last sound exists at e i.
      opened_is store realm (is_full (contexts_at seats seat) make.name) _ new _ e
      (with_current store realm seats seat (λ contexts. table.insert contexts make.name (context_of make sought (matches_of store.records realm user sought) last)) i
      (λ occupant at_seat all.
      put_there store realm occupant.user occupant.contexts make.name _ all (subst (λ who. IsCurrentContext store realm who (context_of make sought (matches_of store.records realm user sought) last))
      (sym (user_of seats seat user occupant at at_seat))
      (record { exists = exists; kept = made_kept (matches_of store.records realm user sought) make.enumerate make.notify (rows_once once store realm user sought sound exists) }))));
  freed = λ store realm seats new seat name e i.
      freed_is store realm (table.contains_key (contexts_at seats seat) name) _ new _ e
      (with_current store realm seats seat (λ contexts. table.remove contexts name) i (λ occupant at all. taken_there store realm occupant.user occupant.contexts name all));
  told = λ store realm seats new seat names last told e i.
      told_is store realm (fault_of (contexts_at seats seat) names) _ told new e
      (with_current store realm seats seat (λ contexts. after_updates contexts names last) i (λ occupant at all. all_updates store realm occupant.user occupant.contexts names last all));
  drained = λ store realm seats seat i.
      with_current store realm seats seat (λ contexts. each_kept after_drain contexts) i (λ occupant at all. drained_all store realm occupant.user occupant.contexts all);
  changed = λ old new realm seats sound i. all_changed notice once old new realm sound seats i;
}
