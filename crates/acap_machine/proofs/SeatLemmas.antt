-- What is done at one seat leaves the others as they are, and a change of the store leaves each user the seat.
use Rattle.std.proofs.Common.{◌≡◌, ℕ, ℤ, List, Bool, true, false, ◌==◌, Option, Some, None, Ok, Err, refl, sym, subst, ap, ◌∙◌, cond, eq-eqb, option_map, if◌then◌else◌}
use Rattle.std.proofs.lemmas.Bool.{eqb-true}
use Rattle.std.specs.Cmp.{nat_cmp_total, unsigned_tied}
use Rattle.std.specs.FinMap.{get, get-insert, get-remove, get-empty, get_tied, same_map, nat_cmp-IsAntisymmetric}
use Rattle.std.specs.Ordering.{nat_cmp, is_eq}
use Rattle.std.specs.declared.cmp.Ordering.{Ordering}
use Rattle.std.specs.declared.cmp.Ordering.TheVariants as order
use Rattle.std.specs.FinMap as table
use Rattle.acap_commands.specs.declared.search_modifiers.MakeContext.{MakeContext}
use Rattle.acap_entries.specs.Changes.{store_after}
use Rattle.acap_entries.specs.declared.change.Change.{Change}
use Rattle.acap_machine.specs.Changing.{changed_by}
use Rattle.acap_machine.specs.Machine.{Machine, new_machine, user_at}
use Rattle.acap_notices.specs.declared.told.Told.{Told}
use Rattle.acap_rights.specs.declared.realm.Realm.{Realm}
use Rattle.acap_search.specs.Matches.{Match}
use Rattle.acap_search.specs.declared.query.SearchSpec.{SearchSpec}
use Rattle.acap_views.proofs.ShownLemmas.{seats_law, changed_law}
use Rattle.acap_views.specs.Changing.{changed_occupant}
use Rattle.acap_views.specs.Contexts.{Contexts, context_of}
use Rattle.acap_views.specs.Opening.{with_context, freed_by, is_full}
use Rattle.acap_views.specs.Seats.{Seated, Occupant, with_user, without_user, contexts_at, with_contexts}
use Rattle.acap_views.specs.Telling.{told_of, unless_faulty, drain_of, fault_of, told_in_turn, after_updates}
use Rattle.acap_views.specs.declared.refusal.ViewRefusal.{ViewRefusal}

-- ---- at another seat

pub entered_else : (seats : Seated) (seat : ℕ) (user : List ℕ) (other : ℕ) → (other == seat) ≡ false → get (with_user seats seat user) other ≡ get seats other
entered_else seats seat user other apart =
    get-insert nat_cmp_total seats seat (record { user = user; contexts = table.empty }) other
    ∙ ap (λ b. cond b (Some (record { user = user; contexts = table.empty })) (get seats other)) (unsigned_tied other seat ∙ apart)

pub left_else : (seats : Seated) (seat other : ℕ) → (other == seat) ≡ false → get (without_user seats seat) other ≡ get seats other
left_else seats seat other apart =
    get-remove nat_cmp_total seats seat other ∙ ap (λ b. cond b None (get seats other)) (unsigned_tied other seat ∙ apart)

-- ---- what an answer leaves, where it isn't refused

if_ok : {X F : Type 0} (b : Bool) (x y : X) (f : F) → (if b then Err f else Ok x) ≡ Ok y → x ≡ y
if_ok true x y f e = cc
if_ok false x y f e = cc

if_there : {X F : Type 0} (b : Bool) (x y : X) (f : F) → (if b then Ok x else Err f) ≡ Ok y → x ≡ y
if_there true x y f e = cc
if_there false x y f e = cc

pub unless_ok : {X : Type 0} (why : Option ViewRefusal) (x y : X) → unless_faulty why x ≡ Ok y → x ≡ y
unless_ok None x y e = cc
unless_ok (Some refusal) x y e = cc

else_with : (seats new : Seated) (seat : ℕ) (contexts : Contexts) → with_contexts seats seat contexts ≡ new → (other : ℕ) → (other == seat) ≡ false → get new other ≡ get seats other
else_with seats new seat contexts e other apart = ap (λ s. get s other) (sym e) ∙ seats_law.others seats seat other contexts apart

pub opened_is : (seats new : Seated) (seat : ℕ) (make : MakeContext) (sought : SearchSpec) (found : List Match) (last : ℤ) → with_context seats seat make sought found last ≡ Ok new
    → with_contexts seats seat (table.insert (contexts_at seats seat) make.name (context_of make sought found last)) ≡ new
opened_is seats new seat make sought found last e = if_ok (is_full (contexts_at seats seat) make.name) _ new _ e

pub freed_is : (seats new : Seated) (seat : ℕ) (name : List ℕ) → freed_by seats seat name ≡ Ok new → with_contexts seats seat (table.remove (contexts_at seats seat) name) ≡ new
freed_is seats new seat name e = if_there (table.contains_key (contexts_at seats seat) name) _ new _ e

pub told_is : (seats : Seated) (seat : ℕ) (names : List (List ℕ)) (last : ℤ) (told : List Told) (new : Seated)
    → told_of seats seat names last ≡ Ok (told, new) → with_contexts seats seat (after_updates (contexts_at seats seat) names last) ≡ new
told_is seats seat names last told new e =
    let made : List Told × Seated = (told_in_turn (contexts_at seats seat) names last, with_contexts seats seat (after_updates (contexts_at seats seat) names last)) in
    let is : List Told × Seated = (told, new) in
    ap (λ (p : List Told × Seated). p.1) (unless_ok (fault_of (contexts_at seats seat) names) made is e)

pub opened_else : (seats new : Seated) (seat : ℕ) (make : MakeContext) (sought : SearchSpec) (found : List Match) (last : ℤ)
    → with_context seats seat make sought found last ≡ Ok new → (other : ℕ) → (other == seat) ≡ false → get new other ≡ get seats other
opened_else seats new seat make sought found last e = else_with seats new seat _ (opened_is seats new seat make sought found last e)

pub freed_else : (seats new : Seated) (seat : ℕ) (name : List ℕ) → freed_by seats seat name ≡ Ok new → (other : ℕ) → (other == seat) ≡ false → get new other ≡ get seats other
freed_else seats new seat name e = else_with seats new seat _ (freed_is seats new seat name e)

pub told_else : (seats : Seated) (seat : ℕ) (names : List (List ℕ)) (last : ℤ) (told : List Told) (new : Seated)
    → told_of seats seat names last ≡ Ok (told, new) → (other : ℕ) → (other == seat) ≡ false → get new other ≡ get seats other
told_else seats seat names last told new e = else_with seats new seat _ (told_is seats seat names last told new e)

pub drained_else : (seats : Seated) (seat other : ℕ) → (other == seat) ≡ false → get (drain_of seats seat).1 other ≡ get seats other
drained_else seats seat other apart = seats_law.others seats seat other _ apart

-- ---- nobody comes or goes where contexts are changed at a seat

abbrev users : Seated → ℕ → Option (List ℕ)
users seats seat = option_map (λ occupant. occupant.user) (get seats seat)

own_user : (seats : Seated) (seat : ℕ) (contexts : Contexts) (x : Option Occupant) → get seats seat ≡ x → users (with_contexts seats seat contexts) seat ≡ users seats seat
own_user seats seat contexts None e = ap (λ s. users s seat) (seats_law.empty seats seat contexts e)
own_user seats seat contexts (Some occupant) e = ap (option_map (λ o. o.user)) (seats_law.own seats seat occupant contexts e) ∙ sym (ap (option_map (λ o. o.user)) e)

user_in : (seats : Seated) (seat : ℕ) (contexts : Contexts) (other : ℕ) (b : Bool) → (other == seat) ≡ b → users (with_contexts seats seat contexts) other ≡ users seats other
user_in seats seat contexts other true e =
    subst (λ k. users (with_contexts seats seat contexts) k ≡ users seats k) (sym (eqb-true other seat e)) (own_user seats seat contexts (get seats seat) refl)
user_in seats seat contexts other false e = ap (option_map (λ o. o.user)) (seats_law.others seats seat other contexts e)

pub with_users : (seats : Seated) (seat : ℕ) (contexts : Contexts) (other : ℕ) → users (with_contexts seats seat contexts) other ≡ users seats other
with_users seats seat contexts other = user_in seats seat contexts other (other == seat) refl

from_with : (seats new : Seated) (seat : ℕ) (contexts : Contexts) → with_contexts seats seat contexts ≡ new → (other : ℕ) → users new other ≡ users seats other
from_with seats new seat contexts e other = ap (λ s. users s other) (sym e) ∙ with_users seats seat contexts other

pub opened_users : (seats new : Seated) (seat : ℕ) (make : MakeContext) (sought : SearchSpec) (found : List Match) (last : ℤ)
    → with_context seats seat make sought found last ≡ Ok new → (other : ℕ) → users new other ≡ users seats other
opened_users seats new seat make sought found last e = from_with seats new seat _ (opened_is seats new seat make sought found last e)

pub freed_users : (seats new : Seated) (seat : ℕ) (name : List ℕ) → freed_by seats seat name ≡ Ok new → (other : ℕ) → users new other ≡ users seats other
freed_users seats new seat name e = from_with seats new seat _ (freed_is seats new seat name e)

pub told_users : (seats : Seated) (seat : ℕ) (names : List (List ℕ)) (last : ℤ) (told : List Told) (new : Seated)
    → told_of seats seat names last ≡ Ok (told, new) → (other : ℕ) → users new other ≡ users seats other
told_users seats seat names last told new e = from_with seats new seat _ (told_is seats seat names last told new e)

pub drained_users : (seats : Seated) (seat other : ℕ) → users (drain_of seats seat).1 other ≡ users seats other
drained_users seats seat other = with_users seats seat _ other

-- ---- a change of the store leaves each user the seat

user_stays : (m : Machine) (change : Change) (x : Option Occupant) →
    option_map (λ o. o.user) (option_map (changed_occupant m.realm m.store (store_after change m.store)) x) ≡ option_map (λ o. o.user) x
user_stays m change None = refl
user_stays m change (Some occupant) = refl

pub changed_users : (m : Machine) (change : Change) (other : ℕ) → user_at (changed_by change m) other ≡ user_at m other
changed_users m change other =
    ap (option_map (λ o. o.user)) (changed_law.seats m.realm m.store (store_after change m.store) m.seats other) ∙ user_stays m change (get m.seats other)

-- ---- a user who enters a free seat, and leaves it

removed_at : (s : Seated) (seat : ℕ) (x : Occupant) (q : ℕ) (r : Ordering) → nat_cmp q seat ≡ r → get s seat ≡ None → cond (is_eq r) None (get (table.insert s seat x) q) ≡ get s q
removed_at s seat x q order.Less e f = get-insert nat_cmp_total s seat x q ∙ ap (λ r. cond (is_eq r) (Some x) (get s q)) e
removed_at s seat x q order.Equal e f = sym f ∙ get_tied nat_cmp_total s q seat e
removed_at s seat x q order.Greater e f = get-insert nat_cmp_total s seat x q ∙ ap (λ r. cond (is_eq r) (Some x) (get s q)) e

same_seats : (s : Seated) (seat : ℕ) (x : Occupant) → get s seat ≡ None → table.remove (table.insert s seat x) seat ≡ s
same_seats s seat x f = same_map nat_cmp_total nat_cmp-IsAntisymmetric _ _ (λ q. get-remove nat_cmp_total (table.insert s seat x) seat q ∙ removed_at s seat x q (nat_cmp q seat) refl f)

nobody_there : (x : Option Occupant) → option_map (λ o. o.user) x ≡ None → x ≡ None
nobody_there None e = refl
nobody_there (Some occupant) e = cc

pub entered_user : (m : Machine) (seat : ℕ) (user : List ℕ) → user_at (record m { seats = with_user m.seats seat user }) seat ≡ Some user
entered_user m seat user =
    let occupant : Occupant = record { user = user; contexts = table.empty } in
    ap (option_map (λ (o : Occupant). o.user))
    (get-insert nat_cmp_total m.seats seat occupant seat ∙ ap (λ b. cond b (Some occupant) (get m.seats seat)) (unsigned_tied seat seat ∙ eq-eqb seat seat refl))

pub left_again : (m : Machine) (seat : ℕ) (user : List ℕ) → user_at m seat ≡ None → record m { seats = without_user (with_user m.seats seat user) seat } ≡ m
left_again m seat user e = ap (λ s. record m { seats = s }) (same_seats m.seats seat (record { user = user; contexts = table.empty }) (nobody_there (get m.seats seat) e))

pub left_user : (m : Machine) (seat : ℕ) → user_at (record m { seats = without_user m.seats seat }) seat ≡ None
left_user m seat =
    ap (option_map (λ (o : Occupant). o.user))
    (get-remove nat_cmp_total m.seats seat seat ∙ ap (λ b. cond b None (get m.seats seat)) (unsigned_tied seat seat ∙ eq-eqb seat seat refl))

pub nobody_at : (realm : Realm) (seat : ℕ) → user_at (new_machine realm) seat ≡ None
nobody_at realm seat = ap (option_map (λ (o : Occupant). o.user)) (get-empty nat_cmp seat)
