-- What is so of machines between two events is so once what was made ready is put in place.
use Rattle.std.proofs.Common.{◌≡◌, ℕ, ℤ, List, true, Option, Some, None, Result, Ok, Err, refl, sym, subst, ap, ◌∙◌}
use Rattle.std.specs.FinMap as table
use Rattle.acap_entries.proofs.StoreLaws.{value_after, is_value_after}
use Rattle.acap_entries.specs.Changes.{store_after, IsStoreAfter}
use Rattle.acap_entries.specs.Store.{Store, empty_store}
use Rattle.acap_entries.specs.declared.change.Change.{Change}
use Rattle.acap_commands.specs.declared.event.Fault.{Fault}
use Rattle.acap_commands.specs.declared.event.Fault.TheVariants as fault
use Rattle.acap_commands.specs.declared.reply.Reply.{Reply}
use Rattle.acap_commands.specs.declared.said.Said.{Said}
use Rattle.acap_commands.specs.declared.said.Said.TheVariants as said
use Rattle.acap_commands.specs.declared.command.Verb.{Verb}
use Rattle.acap_commands.specs.declared.command.Verb.TheVariants as verb
use Rattle.acap_inherit.specs.Index.{IsIndexOf, index_with}
use Rattle.acap_inherit.specs.Leaving.{IsPrepared}
use Rattle.acap_inherit.specs.declared.link.Link.{Link}
use Rattle.acap_machine.specs.Changing.{IsKept, changed_by}
use Rattle.acap_machine.specs.Machine.{Machine, Roomed, machine_with, new_machine, user_at}
use Rattle.acap_machine.specs.Readied.{Pending, pending_of, after_effect, links_after, HasRoom, IsReadied, IsReady, IsReadyOf}
use Rattle.acap_machine.specs.Searching.{seated_or}
use Rattle.acap_machine.specs.Serving.{free_answer, update_answer, updated_or}
use Rattle.acap_machine.specs.Stepping.{plain, by_user, answer_at, reply_of}
use Rattle.acap_machine.specs.declared.effect.Effect.{Effect}
use Rattle.acap_machine.specs.declared.effect.Effect.TheVariants as effect
use Rattle.acap_machine.proofs.SeatLemmas.{freed_is, told_is}
use Rattle.acap_rights.specs.declared.realm.Realm.{Realm}
use Rattle.acap_notices.specs.declared.told.Told.{Told}
use Rattle.acap_store.specs.DatasetLaws.{SoundLaw}
use Rattle.acap_views.specs.Changing.{IsSoundStep}
use Rattle.acap_views.specs.Current.{IsCurrent}
use Rattle.acap_views.specs.Keeping.{RoomySeats, seats_in}
use Rattle.acap_views.specs.Laws as views
use Rattle.acap_views.specs.Opening.{freed_by}
use Rattle.acap_views.specs.Preparing.{Prepared, IsPreparedFor, with_delta}
use Rattle.acap_views.specs.Seats.{Seated, with_user, without_user, contexts_at, with_contexts}
use Rattle.acap_views.specs.Telling.{told_of, after_updates, drain_of, unless_faulty, fault_of}
use Rattle.acap_views.specs.Answering.{update_tells}
use Rattle.acap_views.specs.declared.refusal.ViewRefusal.{ViewRefusal}

with_seats : (m : Machine) (links : List Link) (seats : Seated) → IsKept m links → IsCurrent m.store m.realm seats → IsKept (record m { seats = seats }) links
with_seats m links seats is current = record { sound = record { store = is.sound.store; current = current }; index = is.index }

module _ (law : views.CurrentLaw) where
  pub enters : (m : Machine) (links : List Link) (seat : ℕ) (user : List ℕ) → IsKept m links → IsKept (record m { seats = with_user m.seats seat user }) links
  enters m links seat user is = with_seats m links _ is (law.entered m.store m.realm m.seats seat user is.sound.current)

  pub leaves : (m : Machine) (links : List Link) (seat : ℕ) → IsKept m links → IsKept (record m { seats = without_user m.seats seat }) links
  leaves m links seat is = with_seats m links _ is (law.left m.store m.realm m.seats seat is.sound.current)

  pub drains : (m : Machine) (links : List Link) (seat : ℕ) → IsKept m links → IsKept (record m { seats = (drain_of m.seats seat).1 }) links
  drains m links seat is = with_seats m links _ is (law.drained m.store m.realm m.seats seat is.sound.current)

  pub frees : (m : Machine) (links : List Link) (seat : ℕ) (name : List ℕ) (new : Seated) → freed_by m.seats seat name ≡ Ok new → IsKept m links
      → IsKept (record m { seats = with_contexts m.seats seat (table.remove (contexts_at m.seats seat) name) }) links
  frees m links seat name new e is =
      subst (λ s. IsKept (record m { seats = s }) links) (sym (freed_is m.seats new seat name e))
      (with_seats m links new is (law.freed m.store m.realm m.seats new seat name e is.sound.current))

  pub tells : (m : Machine) (links : List Link) (seat : ℕ) (names : List (List ℕ)) (last : ℤ) (told : List Told) (new : Seated) → told_of m.seats seat names last ≡ Ok (told, new) → IsKept m links
      → IsKept (record m { seats = with_contexts m.seats seat (after_updates (contexts_at m.seats seat) names last) }) links
  tells m links seat names last told new e is =
      subst (λ s. IsKept (record m { seats = s }) links) (sym (told_is m.seats seat names last told new e))
      (with_seats m links new is (law.told m.store m.realm m.seats new seat names last told e is.sound.current))

  pub makes : (m : Machine) (links : List Link) (new : Seated) → IsCurrent m.store m.realm new → IsKept m links → IsKept (record m { seats = new }) links
  makes m links new current is = with_seats m links new is current

  pub changes : (m : Machine) (links : List Link) (change : Change) (prepared : List Link × List Link) (delta : Prepared) → IsKept m links
      → IsSoundStep m.store (store_after change m.store) → IsPrepared change m.store links prepared → IsPreparedFor change m.store m.realm m.seats delta
      → IsKept (record m { store = store_after change m.store; seats = with_delta delta m.seats }) (index_with prepared links)
  changes m links change prepared delta is step index made = record {
    sound = record {
      store = step.new_sound;
      current = subst (λ s. IsCurrent (store_after change m.store) m.realm s) (sym made) (law.changed m.store (store_after change m.store) m.realm m.seats step is.sound.current);
    };
    index = index (store_after change m.store) (value_after change m.store);
  }

-- what is put in place is what the change makes of the machine
pub performs : (m : Machine) (change : Change) (delta : Prepared) → IsPreparedFor change m.store m.realm m.seats delta
    → record m { store = store_after change m.store; seats = with_delta delta m.seats } ≡ changed_by change m
performs m change delta made = ap (λ s. record m { store = store_after change m.store; seats = s }) made

-- ---- a change is put in place

same_deed : (d e : Effect) (seat : ℕ) (m : Machine) → d ≡ e → after_effect d seat m ≡ after_effect e seat m
same_deed d e seat m is = ap (λ x. after_effect x seat m) is

pub committed : (d : Effect) (change : Change) (prepared : List Link × List Link) (delta : Prepared) (seat : ℕ) (m : Machine) (realm : Realm) (old new : Store) (was views : RoomySeats)
    → machine_with realm old was ≡ m → d ≡ effect.Changes change prepared delta → IsStoreAfter change old new → seats_in views ≡ with_delta delta (seats_in was)
    → machine_with realm new views ≡ after_effect d seat m
committed d change prepared delta seat m realm old new was views m_is d_is after told =
    let store_is = is_value_after change old new after in
    (λ i. record { realm = realm; store = store_is i; seats = told i })
    ∙ ap (λ (n : Machine). record n { store = store_after change n.store; seats = with_delta delta n.seats }) m_is
    ∙ sym (same_deed d (effect.Changes change prepared delta) seat m d_is)

pub kept_committed : (d : Effect) (change : Change) (prepared : List Link × List Link) (delta : Prepared) (links index : List Link) (m n : Machine)
    → d ≡ effect.Changes change prepared delta → n ≡ m → index ≡ index_with prepared links → IsKept m (links_after d links) → IsKept n index
kept_committed d change prepared delta links index m n d_is m_is index_is is =
    let links_are : links_after d links ≡ index = ap (λ x. links_after x links) d_is ∙ sym index_is in
    subst (λ x. IsKept x index) (sym m_is) (subst (λ l. IsKept m l) links_are is)

-- ---- the empty machine

pub begins : views.CurrentLaw → SoundLaw → (realm : Realm) (store : Store) (kept : RoomySeats) (links : List Link) → store ≡ empty_store → seats_in kept ≡ table.empty
    → IsIndexOf empty_store.records links → IsKept (machine_with realm store kept) links
begins law store_law realm store kept links store_is seats_are index =
    let m_is : machine_with realm store kept ≡ new_machine realm = λ i. record { realm = realm; store = store_is i; seats = seats_are i } in
    subst (λ m. IsKept m links) (sym m_is) (record { sound = record { store = store_law.empty; current = law.nobody empty_store realm }; index = index })

-- ---- what is made ready of who has a seat

pub ready_from : (old new : Roomed) (stepped : Result (Reply × Machine) Fault) (seat : ℕ) (pending : Pending) (d : Effect) (words : Said) (work : ℕ) → pending ≡ pending_of seat d (plain words) work
    → stepped ≡ Ok (plain words, after_effect d seat old.machine) → new.machine ≡ old.machine → new.kept.index.0 ≡ old.kept.index.0 → HasRoom d seat new.kept
    → IsKept (after_effect d seat old.machine) (links_after d old.kept.index.0) → IsReady old stepped pending new
ready_from old new stepped seat pending d words work pending_is step m_is links_are room kept =
    let readied : IsReadied (pending_of seat d (plain words) work) new = record {
      room = room;
      sound = subst (λ m. IsKept (after_effect d seat m) (links_after d new.kept.index.0)) (sym m_is)
          (subst (λ l. IsKept (after_effect d seat old.machine) (links_after d l)) (sym links_are) kept);
    } in
    let ready : IsReady old stepped (pending_of seat d (plain words) work) new = record { step = step; readied = readied } in
    subst (λ p. IsReady old stepped p new) (sym pending_is) ready

pub ready_for : (old new : Roomed) (seat : ℕ) (does : List ℕ → Reply × Machine) (user : List ℕ) (pending : Pending) (d : Effect) (words : Said) → user_at old.machine seat ≡ Some user
    → pending ≡ pending_of seat d (plain words) 0 → does user ≡ (plain words, after_effect d seat old.machine)
    → new.machine ≡ old.machine → new.kept.index.0 ≡ old.kept.index.0 → HasRoom d seat new.kept
    → IsKept (after_effect d seat old.machine) (links_after d old.kept.index.0) → IsReady old (by_user (user_at old.machine seat) does) pending new
ready_for old new seat does user pending d words at pending_is did m_is links_are room kept =
    ready_from old new _ seat pending d words 0 pending_is (ap (λ u. by_user u does) at ∙ ap (λ r. Ok r) did) m_is links_are room kept

-- ---- what is told of contexts of some names

told_by : (why : Option ViewRefusal) (tolds given : List Told) (after : Seated) → unless_faulty why given ≡ Ok tolds
    → unless_faulty {X = List Told × Seated} why (given, after) ≡ Ok (tolds, after)
told_by None tolds given after e = let same : given ≡ tolds = cc in ap (λ (t : List Told). Ok (t, after)) same
told_by (Some refusal) tolds given after e = absurd cc

pub update_told : (seats : Seated) (seat : ℕ) (names : List (List ℕ)) (last : ℤ) (tolds : List Told) → update_tells (contexts_at seats seat) names last ≡ Ok tolds
    → told_of seats seat names last ≡ Ok (tolds, with_contexts seats seat (after_updates (contexts_at seats seat) names last))
update_told seats seat names last tolds e = told_by (fault_of (contexts_at seats seat) names) tolds _ _ e

pub updated_is : (m : Machine) (told : List Told) (left : Seated) (x : Result (List Told × Seated) ViewRefusal) → x ≡ Ok (told, left) → updated_or m x ≡ (said.Updated told, record m { seats = left })
updated_is m told left x e = ap (updated_or m) e

pub is_freed : (seats : Seated) (seat : ℕ) (name : List ℕ) → table.contains_key (contexts_at seats seat) name ≡ true
    → freed_by seats seat name ≡ Ok (with_contexts seats seat (table.remove (contexts_at seats seat) name))
is_freed seats seat name e = rw e refl

pub updates : (law : views.CurrentLaw) (s new : Roomed) (seat : ℕ) (user : List ℕ) (names given : List (List ℕ)) (last : ℤ) (seats : Seated) (tolds : List Told) (pending : Pending)
    → user_at s.machine seat ≡ Some user → seats ≡ s.machine.seats → given ≡ names → last ≡ s.machine.store.last → update_tells (contexts_at seats seat) given last ≡ Ok tolds
    → pending ≡ pending_of seat (effect.Tells names last) (plain (said.Updated tolds)) 0 → IsKept s.machine s.kept.index.0
    → new.machine ≡ s.machine → new.kept.index.0 ≡ s.kept.index.0
    → IsReady s (answer_at s.machine seat (λ m u. update_answer m seat names)) pending new
updates law s new seat user names given last seats tolds pending at seats_are given_is last_is e pending_is kept m_is links_are =
    let m = s.machine in
    let told_is : told_of m.seats seat names m.store.last ≡ Ok (tolds, with_contexts m.seats seat (after_updates (contexts_at m.seats seat) names m.store.last)) =
    update_told m.seats seat names m.store.last tolds (sym (λ i. update_tells (contexts_at (seats_are i) seat) (given_is i) (last_is i)) ∙ e) in
    ready_for s new seat (λ u. reply_of (update_answer m seat names)) user pending (effect.Tells names m.store.last) (said.Updated tolds) at
    (pending_is ∙ ap (λ l. pending_of seat (effect.Tells names l) (plain (said.Updated tolds)) 0) last_is)
    (ap reply_of (updated_is m tolds (with_contexts m.seats seat (after_updates (contexts_at m.seats seat) names m.store.last)) (told_of m.seats seat names m.store.last) told_is))
    m_is links_are tt (tells law m s.kept.index.0 seat names m.store.last tolds _ told_is kept)

-- ---- a change of the store

pub prepared_for : (change : Change) (realm : Realm) (store : Store) (kept : RoomySeats) (m : Machine) (delta : Prepared) → machine_with realm store kept ≡ m
    → IsPreparedFor change store realm (seats_in kept) delta → IsPreparedFor change m.store m.realm m.seats delta
prepared_for change realm store kept m delta is made = subst (λ (n : Machine). IsPreparedFor change n.store n.realm n.seats delta) is made

pub change_ready : (law : views.CurrentLaw) (old new : Roomed) (seat : ℕ) (done : Verb) (change : Change) (prepared : List Link × List Link) (delta : Prepared) (reply : Reply) (work : ℕ)
    → IsKept old.machine old.kept.index.0 → IsSoundStep old.machine.store (store_after change old.machine.store)
    → IsPrepared change old.machine.store old.kept.index.0 prepared → IsPreparedFor change old.machine.store old.machine.realm old.machine.seats delta
    → reply ≡ plain (said.Done done) → new.machine ≡ old.machine → new.kept.index.0 ≡ old.kept.index.0
    → HasRoom (effect.Changes change prepared delta) seat new.kept
    → IsReady old (Ok (reply_of (said.Done done, changed_by change old.machine))) (pending_of seat (effect.Changes change prepared delta) reply work) new
change_ready law old new seat done change prepared delta reply work kept step index made reply_is m_is links_are room =
    ready_from old new _ seat _ (effect.Changes change prepared delta) (said.Done done) work (ap (λ r. pending_of seat (effect.Changes change prepared delta) r work) reply_is)
    (ap (λ n. Ok (plain (said.Done done), n)) (sym (performs old.machine change delta made)))
    m_is links_are room (changes law old.machine old.kept.index.0 change prepared delta kept step index made)

pub no_memory : (old : Roomed) (stepped : Result (Reply × Machine) Fault) (r : Result Pending Fault) (f : Fault) (new : Roomed) → r ≡ Err f → f ≡ fault.Memory → IsReadyOf r old stepped new
no_memory old stepped r f new e is = subst (λ x. IsReadyOf x old stepped new) (sym (e ∙ ap (λ x. Err x) is)) tt

pub frees_ready : (law : views.CurrentLaw) (s : Roomed) (seat : ℕ) (user name : List ℕ) (pending : Pending) → user_at s.machine seat ≡ Some user
    → table.contains_key (contexts_at s.machine.seats seat) name ≡ true → table.contains_key (contexts_at (seats_in s.kept.views) seat) name ≡ true
    → pending ≡ pending_of seat (effect.Frees name) (plain (said.Done verb.FreeContext)) 0 → IsKept s.machine s.kept.index.0
    → IsReady s (answer_at s.machine seat (λ m u. free_answer m seat name)) pending s
frees_ready law s seat user name pending at there room pending_is kept =
    let freed_is = is_freed s.machine.seats seat name there in
    ready_for s s seat (λ u. reply_of (free_answer s.machine seat name)) user pending (effect.Frees name) (said.Done verb.FreeContext) at pending_is
    (ap (λ r. reply_of (seated_or s.machine (said.Done verb.FreeContext) r)) freed_is) refl refl room
    (frees law s.machine s.kept.index.0 seat name _ freed_is kept)
