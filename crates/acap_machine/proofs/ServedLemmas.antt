-- What a command comes to: whatever holds of each of these holds of what is said and of the machine then. The words complete it.
use Rattle.std.proofs.Common.{◌≡◌, ℕ, ℤ, Bool, true, false, List, [], ◌∷◌, Option, Some, None, Result, Ok, Err, refl, if◌then◌else◌}
use Rattle.std.specs.Prelude.{◌||◌, find, is_none, not, option_map}
use Rattle.std.specs.Option.{option_or}
use Rattle.acap_entries.specs.Datasets.{dataset_exists}
use Rattle.acap_entries.specs.Homes.{for_user}
use Rattle.acap_entries.specs.Moments.{moment_after}
use Rattle.acap_entries.specs.Store.{Store, Stored}
use Rattle.acap_entries.specs.declared.change.Change.{Change}
use Rattle.acap_commands.specs.Statuses.{status_of}
use Rattle.acap_commands.specs.Wanted.{Wanted}
use Rattle.acap_commands.specs.declared.command.Command.{Command}
use Rattle.acap_commands.specs.declared.command.Command.TheVariants as command
use Rattle.acap_commands.specs.declared.search_modifiers.Limit.{Limit}
use Rattle.acap_commands.specs.declared.search_modifiers.MakeContext.{MakeContext}
use Rattle.acap_commands.specs.declared.refusal.Refusal.{Refusal}
use Rattle.acap_commands.specs.declared.refusal.Refusal.TheVariants as refusals
use Rattle.acap_commands.specs.declared.said.Said.{Said}
use Rattle.acap_commands.specs.declared.said.Said.TheVariants as said
use Rattle.acap_commands.specs.declared.search_modifiers.SearchModifiers.{SearchModifiers}
use Rattle.acap_commands.specs.declared.said.SearchReply.{SearchReply}
use Rattle.acap_commands.specs.declared.store.StoreEntry.{StoreEntry}
use Rattle.acap_commands.specs.declared.target.Target.{Target}
use Rattle.acap_commands.specs.declared.target.Target.TheVariants as target
use Rattle.acap_commands.specs.declared.command.Verb.{Verb}
use Rattle.acap_commands.specs.declared.command.Verb.TheVariants as verb
use Rattle.acap_machine.specs.Changing.{changed_by}
use Rattle.acap_machine.specs.Completing.{is_answer, completes}
use Rattle.acap_machine.specs.Machine.{Machine}
use Rattle.acap_machine.specs.Searching.{found_of, found_unless, refused_as, view_refused_as, seated_or, kept_if, found_or, searched_over, searched_in, searched_within, searched_from}
use Rattle.acap_machine.specs.Serving.{answer_to, write_of, write_answer, written_or, names_or, updated_or}
use Rattle.acap_notices.specs.declared.told.Told.{Told}
use Rattle.acap_rights.specs.declared.realm.Realm.{Realm}
use Rattle.acap_search.specs.Asking.{asked_of}
use Rattle.acap_search.specs.Fresh.{matches_of, refusal_of}
use Rattle.acap_search.specs.declared.query.SearchRequest.{SearchRequest}
use Rattle.acap_search.specs.declared.query.Query.{Query}
use Rattle.acap_search.specs.declared.refusal.SearchRefusal.{SearchRefusal}
use Rattle.acap_search.specs.declared.refusal.SearchRefusal.TheVariants as refusal
use Rattle.acap_store.specs.Deleting.{deleted_in, is_too_old, may_read, names_deleted}
use Rattle.acap_store.specs.Invalid.{first_invalid, invalid, is_invalid}
use Rattle.acap_store.specs.Limits.{gives_large, is_too_much}
use Rattle.acap_store.specs.Meaning.{meaning}
use Rattle.acap_store.specs.Permission.{denied_in, object_name_of, permission}
use Rattle.acap_store.specs.Planning.{plan, planned_for, refusals_of, change_of, unless_refused, written_at}
use Rattle.acap_store.specs.Refusing.{first_of, has_changed, has_twice, lacks_dataset, modified, no_exist, refused_if}
use Rattle.acap_store.specs.Writing.{written_for}
use Rattle.acap_store.specs.declared.write.Write.{Write}
use Rattle.acap_store.specs.declared.write.Write.TheVariants as write
use Rattle.acap_views.specs.Opening.{with_context, freed_by}
use Rattle.acap_views.specs.Ranging.{Ranged, range_at}
use Rattle.acap_views.specs.Seats.{Seated}
use Rattle.acap_views.specs.Telling.{told_of}
use Rattle.acap_views.specs.declared.refusal.ViewRefusal.{ViewRefusal}
use Rattle.acap_views.specs.declared.refusal.ViewRefusal.TheVariants as view

-- ---- no change is refused with a BYE

abbrev Good : Option Refusal → Type 0
Good None = Unit {0}
Good (Some refusal) = is_answer (status_of refusal) ≡ true

either : (a b : Option Refusal) → Good a → Good b → Good (option_or a b)
either None b x y = y
either (Some refusal) b x y = x

told : {A : Type 0} (f : A → Refusal) → ((x : A) → is_answer (status_of (f x)) ≡ true) → (x : Option A) → Good (option_map f x)
told f good None = tt
told f good (Some x) = good x

where_so : (b : Bool) (refusal : Refusal) → is_answer (status_of refusal) ≡ true → Good (refused_if b refusal)
where_so true refusal e = e
where_so false refusal e = tt

permission_good : (records : Stored) (realm : Realm) (user : List ℕ) (entries : List StoreEntry) → Good (permission records realm user entries)
permission_good records realm user [] = tt
permission_good records realm user (e ∷ entries) =
    either _ _ (told (λ target. refusals.Permission (object_name_of target)) (λ target. refl) (denied_in records realm user e)) (permission_good records realm user entries)

invalid_good : (records : Stored) (user : List ℕ) (write : Write) (entries : List StoreEntry) → Good (first_invalid records (meaning records user write) entries)
invalid_good records user write [] = tt
invalid_good records user write (e ∷ entries) =
    let meant = meaning records user write in
    either _ _ (told (λ item. refusals.Invalid e.path item.attribute) (λ item. refl) (find (λ item. meant.drops_dataset_list || is_invalid records meant.entries e item) e.items)) (invalid_good records user write entries)

refusals_good : (s : Store) (realm : Realm) (user : List ℕ) (write : Write) (now : ℤ) → Good (first_of (refusals_of s realm user (meaning s.records user write) now))
unfolding refusals_of no_exist modified invalid
refusals_good s realm user write now =
    let meant = meaning s.records user write in
    either _ _ (where_so (has_twice meant.entries) refusals.NotPermittedTwice refl)
    (either _ _ (permission_good s.records realm user meant.entries)
    (either _ _ (told (λ e. refusals.NoExist e.path.dataset) (λ e. refl) (find (lacks_dataset s.records) meant.entries))
    (either _ _ (told (λ e. refusals.Modified e.path) (λ e. refl) (find (has_changed s.records) meant.entries))
    (either _ _ (invalid_good s.records user write meant.entries)
    (either _ _ (where_so (is_too_much s.records (gives_large meant.entries) (written_for s.records user meant.entries (written_at s now))) refusals.Limit refl)
    (either _ _ (where_so (is_none (moment_after s.last now)) refusals.ClockEnd refl) tt))))))

-- ---- what a command comes to: words alone, a change, or other contexts at the seat

pub record Keeps (P : Said → Machine → Type 0) (m : Machine) (seat : ℕ) (user : List ℕ) (c : Command) (clock : ℤ) : Type 0 where
  pub words : (w : Said) → completes w ≡ true → P w m
  pub changes : (done : Verb) (write : Write) (change : Change) → write_of c ≡ Some write → plan m.store m.realm user write clock ≡ Ok change
      → P (said.Done done) (changed_by change m)
  pub makes : (make : MakeContext) (query : Query) (found : SearchReply) (seats : Seated) → refusal_of m.store.records m.realm user query ≡ None
      → with_context m.seats seat make query.sought (matches_of m.store.records m.realm user query.sought) m.store.last ≡ Ok seats
      → P (said.Searched found) (record m { seats = seats })
  pub frees : (name : List ℕ) (seats : Seated) → freed_by m.seats seat name ≡ Ok seats → P (said.Done verb.FreeContext) (record m { seats = seats })
  pub updates : (names : List (List ℕ)) (told : List Told) (seats : Seated) → told_of m.seats seat names m.store.last ≡ Ok (told, seats)
      → P (said.Updated told) (record m { seats = seats })

pub search_good : (dataset : List ℕ) (r : SearchRefusal) → is_answer (status_of (refused_as dataset r)) ≡ true
search_good dataset refusal.RangeHere = refl
search_good dataset refusal.NoExist = refl
search_good dataset refusal.TooOld = refl
search_good dataset refusal.WayTooMany = refl
search_good dataset refusal.Memory = refl

pub view_good : (why : ViewRefusal) → is_answer (status_of (view_refused_as why)) ≡ true
view_good view.TryFreeContext = refl
view_good view.NoContext = refl
view_good view.FreedContext = refl
view_good view.NotNotify = refl
view_good view.Memory = refl

found_good : (dataset : List ℕ) (because : Option SearchRefusal) (told : SearchReply) → completes (found_unless dataset because told) ≡ true
found_good dataset None told = refl
found_good dataset (Some refusal) told = search_good dataset refusal

from_good : (s : Store) (realm : Realm) (user : List ℕ) (from : Ranged) (query : Query) (limit : Option Limit) → completes (searched_from s realm user from query limit) ≡ true
unfolding searched_from
from_good s realm user from query limit = found_good _ _ _

within_good : (s : Store) (realm : Realm) (user : List ℕ) (from : Result Ranged ViewRefusal) (modifiers : SearchModifiers) (key : Wanted) → completes (searched_within s realm user from modifiers key) ≡ true
within_good s realm user (Ok from) modifiers key = from_good s realm user from _ _
within_good s realm user (Err why) modifiers key = view_good why

names_by : (missing old : Bool) (dataset : List ℕ) (names : List (List ℕ)) →
    completes (names_or (if missing then Err (refusals.NoExist dataset) else (if old then Err refusals.TooOld else Ok names))) ≡ true
names_by true old dataset names = refl
names_by false true dataset names = refl
names_by false false dataset names = refl

deleted_good : (s : Store) (realm : Realm) (user dataset : List ℕ) (since : ℤ) → completes (names_or (deleted_in s realm user dataset since)) ≡ true
unfolding deleted_in
deleted_good s realm user dataset since =
    names_by (not (dataset_exists s.records dataset)) (is_too_old s since) dataset (if may_read s.records realm user dataset then names_deleted s dataset since else [])

abbrev GoodPlan : Result Change Refusal → Type 0
GoodPlan (Ok change) = Unit {0}
GoodPlan (Err refusal) = is_answer (status_of refusal) ≡ true

unless_good : (change : Change) (refusal : Option Refusal) → Good refusal → GoodPlan (unless_refused refusal change)
unless_good change None good = tt
unless_good change (Some refusal) good = good

plan_good : (s : Store) (realm : Realm) (user : List ℕ) (write : Write) (clock : ℤ) → GoodPlan (plan s realm user write clock)
unfolding planned_for
plan_good s realm user write clock =
    let meant = meaning s.records user write in
    unless_good (change_of s user meant.entries (written_at s clock)) (first_of (refusals_of s realm user meant clock)) (refusals_good s realm user write clock)

module _ (P : Said → Machine → Type 0) (m : Machine) (seat : ℕ) (user : List ℕ) (c : Command) (clock : ℤ) (k : Keeps P m seat user c clock) where
  written_keeps : (done : Verb) (write : Write) → write_of c ≡ Some write → (r : Result Change Refusal) → plan m.store m.realm user write clock ≡ r → GoodPlan r
      → P (written_or m done r).0 (written_or m done r).1
  written_keeps done write w (Ok change) e good = k.changes done write change w e
  written_keeps done write w (Err refusal) e good = k.words (said.Refused refusal) good

  writes : (done : Verb) (write : Write) → write_of c ≡ Some write → P (write_answer m user done write clock).0 (write_answer m user done write clock).1
  writes done write w = written_keeps done write w (plan m.store m.realm user write clock) refl (plan_good m.store m.realm user write clock)

  kept_keeps : (make : MakeContext) (query : Query) (limit : Option Limit) → refusal_of m.store.records m.realm user query ≡ None → (r : Result Seated ViewRefusal)
      → with_context m.seats seat make query.sought (matches_of m.store.records m.realm user query.sought) m.store.last ≡ r
      → P (seated_or m (said.Searched (found_of m.store.last query.sought limit (matches_of m.store.records m.realm user query.sought))) r).0
      (seated_or m (said.Searched (found_of m.store.last query.sought limit (matches_of m.store.records m.realm user query.sought))) r).1
  kept_keeps make query limit none (Ok seats) e = k.makes make query _ seats none e
  kept_keeps make query limit none (Err why) e = k.words (said.Refused (view_refused_as why)) (view_good why)

  if_kept : (make : Option MakeContext) (query : Query) (limit : Option Limit) → refusal_of m.store.records m.realm user query ≡ None
      → P (kept_if m seat make query.sought limit (matches_of m.store.records m.realm user query.sought)).0
      (kept_if m seat make query.sought limit (matches_of m.store.records m.realm user query.sought)).1
  if_kept None query limit none = k.words _ refl
  if_kept (Some make) query limit none = kept_keeps make query limit none (with_context m.seats seat make query.sought (matches_of m.store.records m.realm user query.sought) m.store.last) refl

  found_keeps : (asked : SearchRequest) (r : Option SearchRefusal) → refusal_of m.store.records m.realm user asked.query ≡ r
      → P (found_or m seat asked r (matches_of m.store.records m.realm user asked.query.sought)).0
      (found_or m seat asked r (matches_of m.store.records m.realm user asked.query.sought)).1
  found_keeps asked (Some refusal) e = k.words (said.Refused (refused_as asked.query.sought.dataset refusal)) (search_good asked.query.sought.dataset refusal)
  found_keeps asked None e = if_kept asked.make_context asked.query asked.limit e

  over_keeps : (asked : SearchRequest) → P (searched_over m seat user asked).0 (searched_over m seat user asked).1
  unfolding searched_over
  over_keeps asked = found_keeps asked (refusal_of m.store.records m.realm user asked.query) refl

  search_keeps : (t : Target) (modifiers : SearchModifiers) (key : Wanted) → P (searched_in m seat user t modifiers key).0 (searched_in m seat user t modifiers key).1
  search_keeps (target.Dataset dataset) modifiers key = over_keeps (asked_of user dataset modifiers key)
  search_keeps (target.Context name) modifiers key = k.words _ (within_good m.store m.realm user (range_at m.seats seat name) modifiers key)

  freed_keeps : (name : List ℕ) (r : Result Seated ViewRefusal) → freed_by m.seats seat name ≡ r
      → P (seated_or m (said.Done verb.FreeContext) r).0 (seated_or m (said.Done verb.FreeContext) r).1
  freed_keeps name (Ok seats) e = k.frees name seats e
  freed_keeps name (Err why) e = k.words (said.Refused (view_refused_as why)) (view_good why)

  updated_keeps : (names : List (List ℕ)) (r : Result (List Told × Seated) ViewRefusal) → told_of m.seats seat names m.store.last ≡ r
      → P (updated_or m r).0 (updated_or m r).1
  updated_keeps names (Ok told) e = k.updates names told.0 told.1 e
  updated_keeps names (Err why) e = k.words (said.Refused (view_refused_as why)) (view_good why)

pub served_keeps : (P : Said → Machine → Type 0) (m : Machine) (seat : ℕ) (user : List ℕ) (c : Command) (clock : ℤ) → Keeps P m seat user c clock
    → P (answer_to m seat user c clock).0 (answer_to m seat user c clock).1
unfolding answer_to
served_keeps P m seat user command.Noop clock k = k.words _ refl
served_keeps P m seat user command.Logout clock k = k.words _ refl
served_keeps P m seat user (command.Authenticate mechanism) clock k = k.words _ refl
served_keeps P m seat user (command.Store entries) clock k = writes P m seat user _ clock k verb.Store (write.Store entries) refl
served_keeps P m seat user (command.Search search) clock k = search_keeps P m seat user _ clock k search.target search.modifiers search.key
served_keeps P m seat user (command.SetAcl object identifier letters) clock k = writes P m seat user _ clock k verb.SetAcl (write.SetAcl object identifier letters) refl
served_keeps P m seat user (command.DeleteAcl object identifier) clock k = writes P m seat user _ clock k verb.DeleteAcl (write.DeleteAcl object identifier) refl
served_keeps P m seat user (command.MyRights object) clock k = k.words _ refl
served_keeps P m seat user (command.ListRights object identifier) clock k = k.words _ refl
served_keeps P m seat user (command.DeletedSince dataset since) clock k = k.words _ (deleted_good m.store m.realm user (for_user user dataset) since)
served_keeps P m seat user (command.FreeContext name) clock k = freed_keeps P m seat user _ clock k name (freed_by m.seats seat name) refl
served_keeps P m seat user (command.UpdateContext names) clock k = updated_keeps P m seat user _ clock k names (told_of m.seats seat names m.store.last) refl
