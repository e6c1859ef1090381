-- The machine that keeps present lists is the one that keeps none, with these forgotten.
use Rattle.std.proofs.Common.{◌≡◌, ℕ, Bool, true, false, not, cond, ◌&&◌, nat_le, List, [], ◌∷◌, ◌++◌, length, Option, Some, None, refl, sym, ap, ◌∙◌, flat_map, option_map, nat_lt, ◌+◌, map as each}
use Rattle.std.specs.Cmp.{nat_cmp_total}
use Rattle.std.specs.Cmp.Lexicographic.{nat_list_cmp_total}
use Rattle.std.specs.FinMap as table
use Rattle.std.specs.FinMap.{nat_cmp-IsAntisymmetric}
use Rattle.std.specs.Option.{option_map_or, option_or}
use Rattle.acap_entries.specs.Changes.{store_after}
use Rattle.acap_entries.specs.Store.{Store}
use Rattle.acap_entries.specs.declared.change.Change.{Change}
use Rattle.acap_entries.proofs.StoreLemmas.{octets_same}
use Rattle.acap_machine.specs.Changing.{changed_by}
use Rattle.acap_machine.specs.Machine.{Machine}
use Rattle.acap_machine.specs.Plain as plain
use Rattle.acap_machine.specs.Plain.{PlainMachine, forgotten, forgotten_kept, forgotten_context, forgotten_occupant}
use Rattle.acap_machine.proofs.PlainMaps.{values_both, kept_both, flat_both}
use Rattle.acap_notices.specs.Waiting.{notices_pending}
use Rattle.acap_notices.specs.declared.notice.Notice.{Notice}
use Rattle.acap_notices.specs.declared.told.Told.{Told}
use Rattle.acap_notices.specs.declared.told.Told.TheVariants as told
use Rattle.acap_rights.specs.declared.realm.Realm.{Realm}
use Rattle.acap_search.specs.Fresh.{matches_of}
use Rattle.acap_search.specs.Matches.{Match}
use Rattle.acap_views.proofs.CurrentLemmas.{AreCurrent, one_update}
use Rattle.acap_views.proofs.ShownLemmas.{get_value}
use Rattle.acap_views.proofs.ValueLemmas.{insert_value, remove_value, empty_value, has_value, len_value, entries_value}
use Rattle.acap_views.specs.Changing as live
use Rattle.acap_views.specs.Contexts.{Kept, Snapshot, Live, Freed, Context, Contexts, kept_of}
use Rattle.acap_views.specs.Current.{IsCurrentKept, IsCurrentContext}
use Rattle.acap_views.specs.Maps.{each_kept, each_value}
use Rattle.acap_views.specs.Notices.{event_notices}
use Rattle.acap_views.specs.Opening.{is_full}
use Rattle.acap_views.specs.Ranging.{ranged_of, ranged_if}
use Rattle.acap_views.specs.Seats.{Occupant, contexts_at, with_contexts}
use Rattle.acap_views.specs.Telling.{fault_in, fault_of, notes_of, told_by_name, told_in_turn, after_update, after_updates, updated_to, shown_now, drain_told, kept_drained, after_drain}
use Rattle.acap_views.specs.declared.refusal.ViewRefusal.TheVariants as refusal

-- ---- contexts of which the present lists are forgotten

abbrev pub forgotten_contexts : Contexts → plain.Contexts
forgotten_contexts contexts = each_value forgotten_context contexts

pub forgotten_get : (contexts : Contexts) (name : List ℕ) → table.get (forgotten_contexts contexts) name ≡ option_map forgotten_context (table.get contexts name)
forgotten_get contexts name = get_value nat_list_cmp_total forgotten_context contexts name

pub forgotten_insert : (contexts : Contexts) (name : List ℕ) (c : Context) → forgotten_contexts (table.insert contexts name c) ≡ table.insert (forgotten_contexts contexts) name (forgotten_context c)
forgotten_insert contexts name c = insert_value nat_list_cmp_total octets_same forgotten_context contexts name c

pub forgotten_remove : (contexts : Contexts) (name : List ℕ) → forgotten_contexts (table.remove contexts name) ≡ table.remove (forgotten_contexts contexts) name
forgotten_remove contexts name = remove_value nat_list_cmp_total octets_same forgotten_context contexts name

pub forgotten_empty : forgotten_contexts table.empty ≡ table.empty
forgotten_empty = empty_value nat_list_cmp_total octets_same forgotten_context

pub forgotten_has : (contexts : Contexts) (name : List ℕ) → table.contains_key (forgotten_contexts contexts) name ≡ table.contains_key contexts name
forgotten_has contexts name = has_value nat_list_cmp_total octets_same forgotten_context contexts name

pub forgotten_len : (contexts : Contexts) → table.len (forgotten_contexts contexts) ≡ table.len contexts
forgotten_len contexts = len_value nat_list_cmp_total octets_same forgotten_context contexts

pub forgotten_full : (contexts : Contexts) (name : List ℕ) → plain.is_full (forgotten_contexts contexts) name ≡ is_full contexts name
forgotten_full contexts name = λ i. not (forgotten_has contexts name i) && nat_le 200 (forgotten_len contexts i)

-- ---- seats

pub seat_get : (m : Machine) (seat : ℕ) → table.get (forgotten m).seats seat ≡ option_map forgotten_occupant (table.get m.seats seat)
seat_get m seat = get_value nat_cmp_total forgotten_occupant m.seats seat

contexts_in : (x : Option Occupant)
    → option_map_or (λ (o : plain.Occupant). o.contexts) (option_map forgotten_occupant x) table.empty ≡ forgotten_contexts (option_map_or (λ (o : Occupant). o.contexts) x table.empty)
contexts_in None = sym forgotten_empty
contexts_in (Some o) = refl

pub forgotten_at : (m : Machine) (seat : ℕ) → plain.contexts_at (forgotten m).seats seat ≡ forgotten_contexts (contexts_at m.seats seat)
forgotten_at m seat =
    ap (λ x. option_map_or (λ (o : plain.Occupant). o.contexts) x table.empty) (seat_get m seat) ∙ contexts_in (table.get m.seats seat)

with_in : (m : Machine) (seat : ℕ) (contexts : Contexts) (x : Option Occupant)
    → option_map_or (λ (o : plain.Occupant). table.insert (forgotten m).seats seat (record o { contexts = forgotten_contexts contexts })) (option_map forgotten_occupant x) (forgotten m).seats
    ≡ each_value forgotten_occupant (option_map_or (λ (o : Occupant). table.insert m.seats seat (record o { contexts = contexts })) x m.seats)
with_in m seat contexts None = refl
with_in m seat contexts (Some o) = sym (insert_value nat_cmp_total nat_cmp-IsAntisymmetric forgotten_occupant m.seats seat (record o { contexts = contexts }))

with_seats : (m : Machine) (seat : ℕ) (contexts : Contexts)
    → (plain.with_contexts (forgotten m) seat (forgotten_contexts contexts)).seats ≡ each_value forgotten_occupant (with_contexts m.seats seat contexts)
with_seats m seat contexts =
    ap (λ x. option_map_or (λ (o : plain.Occupant). table.insert (forgotten m).seats seat (record o { contexts = forgotten_contexts contexts })) x (forgotten m).seats) (seat_get m seat)
    ∙ with_in m seat contexts (table.get m.seats seat)

abbrev pub with_live : Machine → ℕ → Contexts → Machine
with_live m seat contexts = record m { seats = with_contexts m.seats seat contexts }

pub forgotten_with : (m : Machine) (seat : ℕ) (contexts : Contexts) → plain.with_contexts (forgotten m) seat (forgotten_contexts contexts) ≡ forgotten (with_live m seat contexts)
forgotten_with m seat contexts = λ i. record { realm = m.realm; store = m.store; seats = with_seats m seat contexts i }

-- ---- a change of the store

follows_if : (b : Bool) (shown after : List Match) (pending : List Notice)
    → cond b plain.Freed (plain.Notified shown pending) ≡ forgotten_kept (cond b Freed (Live shown after pending))
follows_if true shown after pending = refl
follows_if false shown after pending = refl

follows_kept : (notices : List Notice) (after : List Match) (kept : Kept) → plain.follows notices (forgotten_kept kept) ≡ forgotten_kept (live.follows notices after kept)
follows_kept notices after (Snapshot shown) = refl
follows_kept notices after (Live shown before pending) = follows_if (nat_lt notices_pending (length pending + length notices)) shown after (pending ++ notices)
follows_kept notices after Freed = refl

abbrev notices_of : Realm → Store → Store → List ℕ → Context → List Notice
notices_of realm old new user c = event_notices c.enumerated c.sought (live.sight_for realm old user c.sought) (live.sight_for realm new user c.sought)

follows_context : (realm : Realm) (old new : Store) (user : List ℕ) (c : Context)
    → plain.follows_in realm old new user (forgotten_context c) ≡ forgotten_context (live.changed_context realm old new user c)
follows_context realm old new user c = λ i. record {
  sought = c.sought;
  enumerated = c.enumerated;
  told = c.told;
  kept = follows_kept (notices_of realm old new user c) (matches_of new.records realm user c.sought) c.kept i;
}

follows_occupant : (realm : Realm) (old new : Store) (o : Occupant)
    → plain.follows_for realm old new (forgotten_occupant o) ≡ forgotten_occupant (live.changed_occupant realm old new o)
follows_occupant realm old new o = λ i. record {
  user = o.user;
  contexts = values_both nat_list_cmp_total octets_same forgotten_context (plain.follows_in realm old new o.user) (live.changed_context realm old new o.user) forgotten_context o.contexts
      (follows_context realm old new o.user) i;
}

pub changed_forgotten : (m : Machine) (change : Change) → plain.after_change change (forgotten m) ≡ forgotten (changed_by change m)
changed_forgotten m change = λ i. record {
  realm = m.realm;
  store = store_after change m.store;
  seats = values_both nat_cmp_total nat_cmp-IsAntisymmetric forgotten_occupant (plain.follows_for m.realm m.store (store_after change m.store))
      (live.changed_occupant m.realm m.store (store_after change m.store)) forgotten_occupant m.seats (follows_occupant m.realm m.store (store_after change m.store)) i;
}

-- ---- UPDATECONTEXT

fault_kept : (kept : Kept) → plain.fault_in (forgotten_kept kept) ≡ fault_in kept
fault_kept (Snapshot shown) = refl
fault_kept (Live shown present pending) = refl
fault_kept Freed = refl

fault_found : (x : Option Context)
    → option_map_or (λ (c : plain.Context). plain.fault_in c.kept) (option_map forgotten_context x) (Some refusal.NoContext)
    ≡ option_map_or (λ (c : Context). fault_in c.kept) x (Some refusal.NoContext)
fault_found None = refl
fault_found (Some c) = fault_kept c.kept

pub fault_forgotten : (contexts : Contexts) (names : List (List ℕ)) → plain.fault_of (forgotten_contexts contexts) names ≡ fault_of contexts names
fault_forgotten contexts [] = refl
fault_forgotten contexts (name ∷ names) = λ i.
    option_or
    ((ap (λ x. option_map_or (λ (c : plain.Context). plain.fault_in c.kept) x (Some refusal.NoContext)) (forgotten_get contexts name) ∙ fault_found (table.get contexts name)) i)
    (fault_forgotten contexts names i)

notes_kept : (name : List ℕ) (kept : Kept) → each (told.Note name) (plain.pending_in (forgotten_kept kept)) ≡ notes_of name kept
notes_kept name (Snapshot shown) = refl
notes_kept name (Live shown present pending) = refl
notes_kept name Freed = refl

notes_found : (name : List ℕ) (x : Option Context)
    → option_map_or (λ (c : plain.Context). each (told.Note name) (plain.pending_in c.kept)) (option_map forgotten_context x) []
    ≡ option_map_or (λ (c : Context). notes_of name c.kept) x []
notes_found name None = refl
notes_found name (Some c) = notes_kept name c.kept

one_told : (m : Machine) (contexts : Contexts) (name : List ℕ) → plain.tolds_of_one (forgotten m) (forgotten_contexts contexts) name ≡ told_by_name contexts name m.store.last
one_told m contexts name =
    ap (λ (tolds : List Told). tolds ++ told.Upto name m.store.last ∷ [])
    (ap (λ x. option_map_or (λ (c : plain.Context). each (told.Note name) (plain.pending_in c.kept)) x []) (forgotten_get contexts name) ∙ notes_found name (table.get contexts name))

-- the present list is the fresh one
shown_kept : (fresh : List Match) (enumerated : Bool) (kept : Kept) → IsCurrentKept fresh enumerated kept → plain.told_kept fresh (forgotten_kept kept) ≡ forgotten_kept (shown_now kept)
shown_kept fresh enumerated (Snapshot shown) is = refl
shown_kept fresh enumerated (Live shown present pending) is = ap (λ (matches : List Match). plain.Notified matches []) (sym is.fresh_now)
shown_kept fresh enumerated Freed is = refl

module _ (m : Machine) (user : List ℕ) where
  abbrev fresh_for : Context → List Match
  fresh_for c = matches_of m.store.records m.realm user c.sought

  updated_context : (c : Context) → IsCurrentContext m.store m.realm user c
      → (record (plain.told_all (forgotten m) user (forgotten_context c)) { told = m.store.last }) ≡ forgotten_context (updated_to m.store.last c)
  updated_context c is = λ i. record { sought = c.sought; enumerated = c.enumerated; told = m.store.last; kept = shown_kept (fresh_for c) c.enumerated c.kept is.kept i }

  updated_found : (contexts : Contexts) (name : List ℕ) (x : Option Context) → ((c : Context) → x ≡ Some c → IsCurrentContext m.store m.realm user c)
      → option_map_or (λ (c : plain.Context). table.insert (forgotten_contexts contexts) name (record (plain.told_all (forgotten m) user c) { told = m.store.last })) (option_map forgotten_context x) (forgotten_contexts contexts)
      ≡ forgotten_contexts (option_map_or (λ (c : Context). table.insert contexts name (updated_to m.store.last c)) x contexts)
  updated_found contexts name None is = refl
  updated_found contexts name (Some c) is = ap (table.insert (forgotten_contexts contexts) name) (updated_context c (is c refl)) ∙ sym (forgotten_insert contexts name (updated_to m.store.last c))

  one_updated : (contexts : Contexts) (name : List ℕ) → AreCurrent m.store m.realm user contexts
      → plain.updated_one (forgotten m) user (forgotten_contexts contexts) name ≡ forgotten_contexts (after_update contexts name m.store.last)
  one_updated contexts name all =
      ap (λ x. option_map_or (λ (c : plain.Context). table.insert (forgotten_contexts contexts) name (record (plain.told_all (forgotten m) user c) { told = m.store.last })) x (forgotten_contexts contexts)) (forgotten_get contexts name)
      ∙ updated_found contexts name (table.get contexts name) (all name)

  pub all_told : (contexts : Contexts) (names : List (List ℕ)) → AreCurrent m.store m.realm user contexts
      → plain.tolds_of (forgotten m) user (forgotten_contexts contexts) names ≡ told_in_turn contexts names m.store.last
  all_told contexts [] all = refl
  all_told contexts (name ∷ names) all = λ i.
      one_told m contexts name i
      ++ (ap (λ (cs : plain.Contexts). plain.tolds_of (forgotten m) user cs names) (one_updated contexts name all)
      ∙ all_told (after_update contexts name m.store.last) names (one_update m.store m.realm user contexts name m.store.last all)) i

  pub all_updated : (contexts : Contexts) (names : List (List ℕ)) → AreCurrent m.store m.realm user contexts
      → plain.updated_all (forgotten m) user (forgotten_contexts contexts) names ≡ forgotten_contexts (after_updates contexts names m.store.last)
  all_updated contexts [] all = refl
  all_updated contexts (name ∷ names) all =
      ap (λ (cs : plain.Contexts). plain.updated_all (forgotten m) user cs names) (one_updated contexts name all)
      ∙ all_updated (after_update contexts name m.store.last) names (one_update m.store m.realm user contexts name m.store.last all)

  -- ---- a drain

  drained_context : (c : Context) (kept : Kept) → IsCurrentKept (fresh_for c) c.enumerated kept → c.kept ≡ kept
      → plain.drained_kept (forgotten m) user (forgotten_context c) (forgotten_kept kept) ≡ option_map forgotten_context (kept_drained c kept)
  drained_context c (Snapshot shown) is e = refl
  drained_context c (Live shown present pending) is e = λ i. Some (record {
    sought = c.sought;
    enumerated = c.enumerated;
    told = c.told;
    kept = (ap (λ (kept : Kept). plain.told_kept (fresh_for c) (forgotten_kept kept)) e ∙ shown_kept (fresh_for c) c.enumerated (Live shown present pending) is) i;
  })
  drained_context c Freed is e = refl

  pub all_drained : (contexts : Contexts) → AreCurrent m.store m.realm user contexts
      → each_kept (λ (c : plain.Context). plain.drained_kept (forgotten m) user c c.kept) (forgotten_contexts contexts) ≡ forgotten_contexts (each_kept after_drain contexts)
  all_drained contexts all =
      kept_both nat_list_cmp_total octets_same forgotten_context (λ (c : plain.Context). plain.drained_kept (forgotten m) user c c.kept) after_drain contexts
      (λ name c e. drained_context c c.kept (all name c e).kept refl)

drain_kept : (name : List ℕ) (kept : Kept) → plain.drain_tolds name (forgotten_kept kept) ≡ drain_told name kept
drain_kept name (Snapshot shown) = refl
drain_kept name (Live shown present pending) = refl
drain_kept name Freed = refl

pub drain_forgotten : (contexts : Contexts)
    → flat_map (λ (e : List ℕ × plain.Context). plain.drain_tolds e.0 e.1.kept) (table.entries (forgotten_contexts contexts)) ≡ flat_map (λ (e : List ℕ × Context). drain_told e.0 e.1.kept) (table.entries contexts)
drain_forgotten contexts =
    ap (flat_map (λ (e : List ℕ × plain.Context). plain.drain_tolds e.0 e.1.kept)) (entries_value nat_list_cmp_total octets_same forgotten_context contexts)
    ∙ flat_both (λ (e : List ℕ × Context). (e.0, forgotten_context e.1)) (λ (e : List ℕ × plain.Context). plain.drain_tolds e.0 e.1.kept) (λ (e : List ℕ × Context). drain_told e.0 e.1.kept)
    (table.entries contexts) (λ e. drain_kept e.0 e.1.kept)

-- ---- contexts that a search makes, and over which one looks

pub made_kept : (notify : Bool) (found : List Match) → plain.kept_of notify found ≡ forgotten_kept (kept_of notify found)
made_kept true found = refl
made_kept false found = refl

ranged_kept : (c : Context) (kept : Kept) → plain.ranged_in (forgotten_context c) (forgotten_kept kept) ≡ ranged_if c kept
ranged_kept c (Snapshot shown) = refl
ranged_kept c (Live shown present pending) = refl
ranged_kept c Freed = refl

ranged_found : (x : Option Context) → plain.ranged_of (option_map forgotten_context x) ≡ ranged_of x
ranged_found None = refl
ranged_found (Some c) = ranged_kept c c.kept

pub ranged_forgotten : (contexts : Contexts) (name : List ℕ) → plain.ranged_of (table.get (forgotten_contexts contexts) name) ≡ ranged_of (table.get contexts name)
ranged_forgotten contexts name = ap plain.ranged_of (forgotten_get contexts name) ∙ ranged_found (table.get contexts name)
