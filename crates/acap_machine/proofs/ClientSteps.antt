-- The client of a live context follows each step of the machine.
use Rattle.std.proofs.Common.{◌≡◌, ℕ, ℤ, Bool, true, false, cond, Option, Some, None, List, [], ◌∷◌, refl, sym, ◌∙◌, ap, subst, option_map}
use Rattle.std.specs.Prelude.{◌++◌, flat_map}
use Rattle.std.specs.Cmp.Lexicographic.{nat_list_cmp_total, texts_ties}
use Rattle.std.specs.FinMap as table
use Rattle.std.specs.Option.{option_map_or, option_and_then}
use Rattle.acap_entries.specs.Changes.{store_after}
use Rattle.acap_entries.specs.Orders.{octets_eq}
use Rattle.acap_entries.specs.Store.{Store}
use Rattle.acap_entries.specs.declared.change.Change.{Change}
use Rattle.acap_machine.specs.Changing.{changed_by}
use Rattle.acap_machine.specs.Client.{View, client_after_tolds, live_kept, live_in, live_at, IsHeld, fresh_for}
use Rattle.acap_machine.specs.Machine.{Machine, user_at}
use Rattle.acap_moves.specs.Hits.{is_among}
use Rattle.acap_moves.proofs.Splits.{same_name}
use Rattle.acap_notices.specs.Holding.{Holding, holding, holding_after_all}
use Rattle.acap_notices.specs.declared.notice.Notice.{Notice}
use Rattle.acap_notices.specs.declared.told.Told.{Told}
use Rattle.acap_notices.specs.declared.told.Told.TheVariants as told_as
use Rattle.acap_rights.specs.declared.realm.Realm.{Realm}
use Rattle.acap_search.specs.Fresh.{matches_of}
use Rattle.acap_search.specs.Matches.{Match}
use Rattle.acap_search.specs.declared.query.SearchSpec.{SearchSpec}
use Rattle.acap_views.proofs.ClientLemmas.{client_law}
use Rattle.acap_views.proofs.ListLemmas.{among, from_among}
use Rattle.acap_views.proofs.ShownLemmas.{changed_law, get_kept, seats_law, shown_law}
use Rattle.acap_views.specs.Changing.{changed_context, changed_occupant, follows}
use Rattle.acap_views.specs.Clients.{notices_for, pending_of}
use Rattle.acap_views.specs.Contexts.{Kept, Snapshot, Live, Freed, Context, Contexts}
use Rattle.acap_views.specs.Current.{IsToldAll, IsCurrentOccupant, rows}
use Rattle.acap_views.specs.Maps.{each_kept}
use Rattle.acap_views.specs.Seats.{Occupant, contexts_at, with_contexts}
use Rattle.acap_views.specs.Telling.{shown_now, updated_to, after_update, after_updates, told_in_turn, kept_drained, after_drain, drain_told}

abbrev live_of : Option Context → Option View
live_of found = option_and_then live_in found

-- ---- a context that is live

record IsLiveAs (found : Option Context) (x : View) : Type 0 where
  context : Context
  now : List Match
  pending : List Notice
  there : found ≡ Some context
  kept : context.kept ≡ Live x.1.1 now pending
  sought : context.sought ≡ x.0
  positions : context.enumerated ≡ x.1.0

live_as : (context : Context) (kept : Kept) (x : View) → context.kept ≡ kept → live_kept context kept ≡ Some x → IsLiveAs (Some context) x
live_as context (Snapshot shown) x k e = absurd cc
live_as context (Live shown now pending) x k e =
    let same : (context.sought, (context.enumerated, shown)) ≡ x = cc in
    record {
      context = context;
      now = now;
      pending = pending;
      there = refl;
      kept = k ∙ ap (λ (y : View). Live y.1.1 now pending) same;
      sought = ap (λ (y : View). y.0) same;
      positions = ap (λ (y : View). y.1.0) same;
    }
live_as context Freed x k e = absurd cc

live_is : (found : Option Context) (x : View) → live_of found ≡ Some x → IsLiveAs found x
live_is None x e = absurd cc
live_is (Some context) x e = live_as context context.kept x refl e

-- ---- what an update and a drain leave of it: what it looks for, and whether it has positions

abbrev marks : Option View → Option (SearchSpec × Bool)
marks live = option_map (λ x. (x.0, x.1.0)) live

kept_marks : (context : Context) (last : ℤ) (kept : Kept) → marks (live_kept (updated_to last context) (shown_now kept)) ≡ marks (live_kept context kept)
kept_marks context last (Snapshot shown) = refl
kept_marks context last (Live shown now pending) = refl
kept_marks context last Freed = refl

update_marks : (contexts : Contexts) (name q : List ℕ) (last : ℤ) → marks (live_of (table.get (after_update contexts name last) q)) ≡ marks (live_of (table.get contexts q))
update_marks contexts name q last =
    elim (table.get contexts name) as (λ o. table.get contexts name ≡ o → marks (live_of (table.get (option_map_or (λ (c : Context). table.insert contexts name (updated_to last c)) o contexts) q)) ≡ marks (live_of (table.get contexts q))) [
      | None ↦ λ e. refl
      | Some c ↦ λ e.
          ap (λ o. marks (live_of o)) (table.get-insert nat_list_cmp_total contexts name (updated_to last c) q)
          ∙ (ap (λ b. marks (live_of (cond b (Some (updated_to last c)) (table.get contexts q)))) (sym (texts_ties q name))
          ∙ elim (octets_eq q name) as (λ b. octets_eq q name ≡ b → marks (live_of (cond b (Some (updated_to last c)) (table.get contexts q))) ≡ marks (live_of (table.get contexts q))) [
            | true ↦ λ t. kept_marks c last c.kept ∙ sym (ap (λ p. marks (live_of (table.get contexts p))) (same_name q name t) ∙ ap (λ o. marks (live_of o)) e)
            | false ↦ λ t. refl
          ] refl)
    ] refl

updates_marks : (contexts : Contexts) (names : List (List ℕ)) (q : List ℕ) (last : ℤ) → marks (live_of (table.get (after_updates contexts names last) q)) ≡ marks (live_of (table.get contexts q))
updates_marks contexts [] q last = refl
updates_marks contexts (name ∷ names) q last = updates_marks (after_update contexts name last) names q last ∙ update_marks contexts name q last

drained_marks : (context : Context) (kept : Kept) → context.kept ≡ kept → marks (live_of (kept_drained context kept)) ≡ marks (live_kept context kept)
drained_marks context (Snapshot shown) k = ap (λ kept. marks (live_kept context kept)) k
drained_marks context (Live shown now pending) k = refl
drained_marks context Freed k = refl

drain_marks : (contexts : Contexts) (q : List ℕ) → marks (live_of (table.get (each_kept after_drain contexts) q)) ≡ marks (live_of (table.get contexts q))
drain_marks contexts q =
    ap (λ o. marks (live_of o)) (get_kept nat_list_cmp_total after_drain contexts q)
    ∙ elim (table.get contexts q) as (λ o. marks (live_of (option_and_then after_drain o)) ≡ marks (live_of o)) [
      | None ↦ refl
      | Some c ↦ drained_marks c c.kept refl
    ]

record WasLive (old : Option View) (x : View) : Type 0 where
  before : View
  live : old ≡ Some before
  sought : before.0 ≡ x.0
  positions : before.1.0 ≡ x.1.0

was_live : (old : Option View) (x : View) → marks old ≡ Some (x.0, x.1.0) → WasLive old x
was_live None x e = absurd cc
was_live (Some y) x e =
    let same : (y.0, y.1.0) ≡ (x.0, x.1.0) = cc in
    record { before = y; live = refl; sought = ap (λ (p : SearchSpec × Bool). p.0) same; positions = ap (λ (p : SearchSpec × Bool). p.1) same }

from_marks : (old new : Option View) (x : View) → marks new ≡ marks old → new ≡ Some x → WasLive old x
from_marks old new x same e = was_live old x (sym same ∙ ap marks e)

-- ---- a client that is told all

no_more : (held : Option Holding) (name : List ℕ) (tolds : List Told) → notices_for name tolds ≡ [] → client_after_tolds name tolds held ≡ held
no_more None name tolds e = refl
no_more (Some h) name tolds e = ap (λ ns. holding_after_all h ns) e

shown_is : (fresh : List Match) (kept : Kept) (shown now : List Match) (pending : List Notice) → kept ≡ Live shown now pending → IsToldAll fresh kept → shown ≡ fresh
shown_is fresh kept shown now pending k told = (subst (IsToldAll fresh) k told).0

module _ (store : Store) (realm : Realm) (occupant : Occupant) (current : IsCurrentOccupant store realm occupant) (name : List ℕ) where
  abbrev found_now : SearchSpec → List Match
  found_now sought = matches_of store.records realm occupant.user sought

  -- what is shown to it is what a search finds now
  told_shown : (found : Option Context) (x : View) → ((context : Context) → found ≡ Some context → IsToldAll (found_now context.sought) context.kept) → live_of found ≡ Some x → x.1.1 ≡ found_now x.0
  told_shown found x all e =
      let l = live_is found x e in
      shown_is _ l.context.kept x.1.1 l.now l.pending l.kept (all l.context l.there) ∙ ap found_now l.sought

  -- and so is what the notices lead to
  led : (old : Option Context) (x : View) (tolds : List Told) (whole : Bool) (held : Option Holding) → IsHeld (live_of old) whole held → whole ≡ true → WasLive (live_of old) x
      → x.1.1 ≡ found_now x.0
      → ((context : Context) (shown now : List Match) (pending : List Notice) → old ≡ Some context → context.kept ≡ Live shown now pending
      → holding_after_all (holding context.enumerated (rows shown)) (notices_for name tolds) ≡ Some (holding context.enumerated (rows (found_now context.sought))))
      → client_after_tolds name tolds held ≡ Some (holding x.1.0 (rows x.1.1))
  led old x tolds whole held h w was shown leads =
      let l = live_is old was.before was.live in
      let sought = l.sought ∙ was.sought in
      let positions = l.positions ∙ was.positions in
      ap (client_after_tolds name tolds) (h was.before was.live w ∙ ap (λ b. Some (holding b (rows was.before.1.1))) (sym l.positions))
      ∙ (leads l.context was.before.1.1 l.now l.pending l.there l.kept
      ∙ (λ i. Some (holding (positions i) (rows ((ap found_now sought ∙ sym shown) i)))))

  -- ---- UPDATECONTEXT

  pub updated_shown : (names : List (List ℕ)) (last : ℤ) (x : View) → is_among name names ≡ true → live_of (table.get (after_updates occupant.contexts names last) name) ≡ Some x → x.1.1 ≡ found_now x.0
  updated_shown names last x t e =
      told_shown (table.get (after_updates occupant.contexts names last) name) x
      (λ context there. (shown_law.told store realm occupant names name last context current (from_among names name t) there).0) e

  pub updated_held : (names : List (List ℕ)) (last : ℤ) (whole : Bool) (held : Option Holding) → IsHeld (live_of (table.get occupant.contexts name)) whole held
      → IsHeld (live_of (table.get (after_updates occupant.contexts names last) name)) whole (client_after_tolds name (told_in_turn occupant.contexts names last) held)
  updated_held names last whole held h =
      elim (is_among name names) as (λ b. is_among name names ≡ b → IsHeld (live_of (table.get (after_updates occupant.contexts names last) name)) whole (client_after_tolds name (told_in_turn occupant.contexts names last) held)) [
        | true ↦ λ t x e w.
            led (table.get occupant.contexts name) x (told_in_turn occupant.contexts names last) whole held h w
            (from_marks (live_of (table.get occupant.contexts name)) (live_of (table.get (after_updates occupant.contexts names last) name)) x (updates_marks occupant.contexts names name last) e)
            (updated_shown names last x t e)
            (λ context shown now pending there live. client_law.after_update store realm occupant name context shown now pending names last current there live t)
        | false ↦ λ t x e w.
            no_more held name (told_in_turn occupant.contexts names last)
            (client_law.updated occupant.contexts names name last ∙ ap (λ b. cond b (pending_of (table.get occupant.contexts name)) []) t)
            ∙ h x (ap live_of (sym (shown_law.unnamed occupant.contexts names name last (λ k. let f : false ≡ true = sym t ∙ among names name k in cc))) ∙ e) w
      ] refl

  -- and at each MODTIME of it
  pub updated_front : (names : List (List ℕ)) (last : ℤ) (whole : Bool) (held : Option Holding) → IsHeld (live_of (table.get occupant.contexts name)) whole held
      → (front back : List Told) (moment : ℤ) → told_in_turn occupant.contexts names last ≡ front ++ told_as.Upto name moment ∷ back
      → IsHeld (live_of (table.get (after_updates occupant.contexts names last) name)) whole (client_after_tolds name front held)
  updated_front names last whole held h front back moment s x e w =
      led (table.get occupant.contexts name) x front whole held h w
      (from_marks (live_of (table.get occupant.contexts name)) (live_of (table.get (after_updates occupant.contexts names last) name)) x (updates_marks occupant.contexts names name last) e)
      (updated_shown names last x (client_law.named occupant.contexts names name last front back moment s) e)
      (λ context shown now pending there live. client_law.at_modtime store realm occupant name context shown now pending names last front back moment current there live s)

  -- ---- a drain

  pub drained_shown : (x : View) → live_of (table.get (each_kept after_drain occupant.contexts) name) ≡ Some x → x.1.1 ≡ found_now x.0
  drained_shown x e =
      told_shown (table.get (each_kept after_drain occupant.contexts) name) x (λ context there. shown_law.drained store realm occupant name context current there) e

  pub drained_held : (whole : Bool) (held : Option Holding) → IsHeld (live_of (table.get occupant.contexts name)) whole held
      → IsHeld (live_of (table.get (each_kept after_drain occupant.contexts) name)) whole (client_after_tolds name (flat_map (λ e. drain_told e.0 e.1.kept) (table.entries occupant.contexts)) held)
  drained_held whole held h x e w =
      led (table.get occupant.contexts name) x (flat_map (λ e. drain_told e.0 e.1.kept) (table.entries occupant.contexts)) whole held h w
      (from_marks (live_of (table.get occupant.contexts name)) (live_of (table.get (each_kept after_drain occupant.contexts) name)) x (drain_marks occupant.contexts name) e)
      (drained_shown x e)
      (λ context shown now pending there live. client_law.after_drain store realm occupant name context shown now pending current there live)

-- ---- a change of the store

either_live : (context : Context) (x : View) (b : Bool) (shown after : List Match) (pending : List Notice) → live_kept context (cond b Freed (Live shown after pending)) ≡ Some x
    → Some (context.sought, (context.enumerated, shown)) ≡ Some x
either_live context x true shown after pending e = absurd cc
either_live context x false shown after pending e = e

changed_kept : (context : Context) (notices : List Notice) (after : List Match) (kept : Kept) (x : View) → live_kept context (follows notices after kept) ≡ Some x → live_kept context kept ≡ Some x
changed_kept context notices after (Snapshot shown) x e = e
changed_kept context notices after (Live shown before pending) x e = either_live context x _ shown after (pending ++ notices) e
changed_kept context notices after Freed x e = e

occupant_live : (m : Machine) (new : Store) (name : List ℕ) (found : Option Occupant) (x : View)
    → live_of (table.get (option_map_or (λ (o : Occupant). o.contexts) (option_map (changed_occupant m.realm m.store new) found) table.empty) name) ≡ Some x
    → live_of (table.get (option_map_or (λ (o : Occupant). o.contexts) found table.empty) name) ≡ Some x
occupant_live m new name None x e = e
occupant_live m new name (Some o) x e =
    elim (table.get o.contexts name) as (λ c. live_of (option_map (changed_context m.realm m.store new o.user) c) ≡ Some x → live_of c ≡ Some x) [
      | None ↦ λ f. f
      | Some c ↦ λ f. changed_kept c _ _ c.kept x f
    ] (ap live_of (sym (changed_law.contexts m.realm m.store new o name)) ∙ e)

-- a context that is live after it was live before it, with the same list told
pub changed_live : (m : Machine) (change : Change) (seat : ℕ) (name : List ℕ) (x : View) → live_at (changed_by change m) seat name ≡ Some x → live_at m seat name ≡ Some x
changed_live m change seat name x e =
    occupant_live m (store_after change m.store) name (table.get m.seats seat) x
    (ap (λ o. live_of (table.get (option_map_or (λ (p : Occupant). p.contexts) o table.empty) name)) (sym (changed_law.seats m.realm m.store (store_after change m.store) m.seats seat)) ∙ e)

-- ---- who sits at a seat

pub record Sits (m : Machine) (seat : ℕ) : Type 0 where
  pub occupant : Occupant
  pub at : table.get m.seats seat ≡ Some occupant

sits_by : (m : Machine) (seat : ℕ) (user : List ℕ) (found : Option Occupant) → table.get m.seats seat ≡ found → option_map (λ o. o.user) found ≡ Some user → Sits m seat
sits_by m seat user None at e = absurd cc
sits_by m seat user (Some occupant) at e = record { occupant = occupant; at = at }

pub sits : (m : Machine) (seat : ℕ) (user : List ℕ) → user_at m seat ≡ Some user → Sits m seat
sits m seat user e = sits_by m seat user (table.get m.seats seat) refl e

module _ (m : Machine) (seat : ℕ) (s : Sits m seat) where
  pub own_contexts : contexts_at m.seats seat ≡ s.occupant.contexts
  own_contexts = ap (λ o. option_map_or (λ (p : Occupant). p.contexts) o table.empty) s.at

  pub put_contexts : (contexts : Contexts) → contexts_at (with_contexts m.seats seat contexts) seat ≡ contexts
  put_contexts contexts = ap (λ o. option_map_or (λ (p : Occupant). p.contexts) o table.empty) (seats_law.own m.seats seat s.occupant contexts s.at)

  -- what a search finds there, whatever the contexts
  pub put_fresh : (contexts : Contexts) (sought : SearchSpec) → fresh_for (record m { seats = with_contexts m.seats seat contexts }) seat sought ≡ Some (matches_of m.store.records m.realm s.occupant.user sought)
  put_fresh contexts sought = ap (option_map (λ (o : Occupant). matches_of m.store.records m.realm o.user sought)) (seats_law.own m.seats seat s.occupant contexts s.at)
