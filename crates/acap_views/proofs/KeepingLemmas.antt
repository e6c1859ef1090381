-- The contexts of all seats as they are kept in memory, and as they are.
use Rattle.std.proofs.Common.{◌≡◌, ℕ, true, false, cond, Option, Some, None, is_some, List, [], ◌∷◌, length, get_or, set, refl, sym, ◌∙◌, ap, subst, map as each}
use Rattle.std.specs.Cmp.{IsTotalOrder, nat_cmp_total, tied_itself}
use Rattle.std.specs.Cmp.Lexicographic.{nat_list_cmp_total}
use Rattle.std.specs.FinMap as table
use Rattle.std.specs.FinMap.{FinMap, is_sorted, nat_cmp-IsAntisymmetric, same_map}
use Rattle.std.specs.Option.{option_map, option_map_or, IsSome, IsSomeAnd}
use Rattle.std.specs.Ordering.{nat_cmp, is_eq}
use Rattle.std.specs.declared.cmp.Ordering.{Ordering}
use Rattle.std.specs.declared.cmp.Ordering.TheVariants.{Less, Equal, Greater}
use Rattle.acap_entries.specs.Orders.{octets_cmp}
use Rattle.acap_ordmap.specs.Sorted.{place, is_tied, found, put_in, InOrder}
use Rattle.acap_ordmap.proofs.MapLemmas.{from_sorted_none, get_kept, insert_kept, put_in_order, len_kept}
use Rattle.acap_ordmap.proofs.SortedLemmas.{put_in_tied, found_tied, found_absent}
use Rattle.acap_entries.proofs.StoreLemmas.{octets_same}
use Rattle.acap_views.specs.Contexts.{Context, Contexts}
use Rattle.acap_views.specs.Keeping.{RoomyContext, RoomyContexts, RoomyOccupant, contexts_in, occupant_in}
use Rattle.acap_views.specs.Maps.{each_value}
use Rattle.acap_views.specs.Seats.{Occupant, Seated, contexts_at, with_contexts}
use Rattle.acap_views.specs.Listing.{as_contexts, as_seated, bare, bare_seat}
use Rattle.acap_views.proofs.ShownLemmas.{get_value}
use Rattle.acap_views.proofs.ValueLemmas.{insert_value, remove_value, empty_value, has_value, len_value, entries_kept, value_made, sorted, in_order, sorted_made}

abbrev pub context_in : RoomyContext → Context
context_in kept = kept.context

-- ---- contexts

pub contexts_get : (cs : RoomyContexts) (name : List ℕ) → table.get (contexts_in cs) name ≡ option_map (λ (kept : RoomyContext). kept.context) (table.get cs name)
contexts_get cs name = get_value nat_list_cmp_total context_in cs name

pub contexts_insert : (cs : RoomyContexts) (name : List ℕ) (c : RoomyContext) → contexts_in (table.insert cs name c) ≡ table.insert (contexts_in cs) name c.context
contexts_insert cs name c = insert_value nat_list_cmp_total octets_same context_in cs name c

pub contexts_remove : (cs : RoomyContexts) (name : List ℕ) → contexts_in (table.remove cs name) ≡ table.remove (contexts_in cs) name
contexts_remove cs name = remove_value nat_list_cmp_total octets_same context_in cs name

pub contexts_empty : contexts_in table.empty ≡ table.empty
contexts_empty = empty_value nat_list_cmp_total octets_same context_in

pub contexts_has : (cs : RoomyContexts) (name : List ℕ) → table.contains_key (contexts_in cs) name ≡ table.contains_key cs name
contexts_has cs name = has_value nat_list_cmp_total octets_same context_in cs name

pub contexts_len : (cs : RoomyContexts) → table.len (contexts_in cs) ≡ table.len cs
contexts_len cs = len_value nat_list_cmp_total octets_same context_in cs

pub listed_get : (es : List (List ℕ × RoomyContext)) (name : List ℕ) → InOrder octets_cmp es
    → table.get (as_contexts es) name ≡ option_map (λ (kept : RoomyContext). kept.context) (found octets_cmp name es)
listed_get es name h =
    contexts_get (table.from_sorted es) name ∙ ap (option_map context_in) (get_kept octets_cmp nat_list_cmp_total es name h)

pub get_listed : (es : List (List ℕ × RoomyContext)) (name : List ℕ) (o : Option RoomyContext) → InOrder octets_cmp es → o ≡ found octets_cmp name es
    → table.get (as_contexts es) name ≡ option_map (λ (kept : RoomyContext). kept.context) o
get_listed es name o h e = listed_get es name h ∙ ap (option_map context_in) (sym e)

pub has_tied : {K X : Type 0} (R : K → K → Ordering) → IsTotalOrder R → (k : K) (es : List (K × X)) → InOrder R es → table.contains_key (table.from_sorted {R = R} es) k ≡ is_tied R k es
has_tied R o k [] h = ap (λ r. is_some r) (get_kept R o [] k h ∙ found_absent R o k [] h refl)
has_tied R o k (x ∷ es) h =
    elim (is_tied R k (x ∷ es)) as (λ b. is_tied R k (x ∷ es) ≡ b → table.contains_key (table.from_sorted {R = R} (x ∷ es)) k ≡ b) [
      | true ↦ λ t. ap (λ r. is_some r) (get_kept R o (x ∷ es) k h ∙ found_tied R o k (x ∷ es) x h t)
      | false ↦ λ t. ap (λ r. is_some r) (get_kept R o (x ∷ es) k h ∙ found_absent R o k (x ∷ es) h t)
    ] refl

pub listed_entries : (es : List (List ℕ × RoomyContext)) → InOrder octets_cmp es → table.entries (as_contexts es) ≡ each bare es
listed_entries es h = entries_kept nat_list_cmp_total octets_same context_in es h

pub listed_len : (es : List (List ℕ × RoomyContext)) → InOrder octets_cmp es → table.len (as_contexts es) ≡ length es
listed_len es h = contexts_len (table.from_sorted es) ∙ len_kept octets_cmp es h

pub none_listed : as_contexts [] ≡ table.empty
none_listed = ap contexts_in (from_sorted_none octets_cmp) ∙ contexts_empty

-- a context at its place in their list
module _ (es : List (List ℕ × RoomyContext)) (name : List ℕ) (h : InOrder octets_cmp es) where
  pub not_listed : is_tied octets_cmp name es ≡ false → table.get (as_contexts es) name ≡ None
  not_listed t = listed_get es name h ∙ ap (option_map context_in) (found_absent octets_cmp nat_list_cmp_total name es h t)

  module _ (items : List (List ℕ × RoomyContext)) (at : ℕ) (e : List ℕ × RoomyContext) (new : RoomyContext) (t : is_tied octets_cmp name es ≡ true) (p : at ≡ place octets_cmp name es) (i : items ≡ set es at (e.0, new)) (g : e ≡ get_or es at e) where
    set_there : items ≡ put_in octets_cmp name new es
    set_there =
        i ∙ sym (put_in_tied octets_cmp name new es e t
        ∙ (ap (λ n. set es n ((get_or es n e).0, new)) (sym p) ∙ ap (λ (x : List ℕ × RoomyContext). set es at (x.0, new)) (sym g)))

    pub listed_in_order : InOrder octets_cmp items
    listed_in_order = subst (λ es. InOrder octets_cmp es) (sym set_there) (put_in_order octets_cmp nat_list_cmp_total es name new h)

    pub was_listed : table.get (as_contexts es) name ≡ Some e.1.context
    was_listed =
        listed_get es name h
        ∙ ap (option_map context_in) (found_tied octets_cmp nat_list_cmp_total name es e h t ∙ ap (λ n. Some (get_or es n e).1) (sym p) ∙ ap (λ (x : List ℕ × RoomyContext). Some x.1) (sym g))

    pub now_listed : as_contexts items ≡ table.insert (as_contexts es) name new.context
    now_listed = ap as_contexts set_there ∙ ap contexts_in (insert_kept octets_cmp nat_list_cmp_total es name new h) ∙ contexts_insert (table.from_sorted es) name new

-- ---- seats

abbrev KeptSeats : Type 0
KeptSeats = FinMap nat_cmp RoomyOccupant

pub seat_get : (seats : KeptSeats) (seat : ℕ) → table.get (each_value occupant_in seats) seat ≡ option_map occupant_in (table.get seats seat)
seat_get seats seat = get_value nat_cmp_total occupant_in seats seat

pub seat_insert : (seats : KeptSeats) (seat : ℕ) (o : RoomyOccupant) → each_value occupant_in (table.insert seats seat o) ≡ table.insert (each_value occupant_in seats) seat (occupant_in o)
seat_insert seats seat o = insert_value nat_cmp_total nat_cmp-IsAntisymmetric occupant_in seats seat o

pub seat_remove : (seats : KeptSeats) (seat : ℕ) → each_value occupant_in (table.remove seats seat) ≡ table.remove (each_value occupant_in seats) seat
seat_remove seats seat = remove_value nat_cmp_total nat_cmp-IsAntisymmetric occupant_in seats seat

pub no_seats : as_seated [] ≡ table.empty
no_seats = ap (each_value occupant_in) (from_sorted_none nat_cmp) ∙ empty_value nat_cmp_total nat_cmp-IsAntisymmetric occupant_in

pub contexts_there : (seats : KeptSeats) (seat : ℕ) (o : RoomyOccupant) → table.get seats seat ≡ Some o → contexts_at (each_value occupant_in seats) seat ≡ contexts_in o.contexts
contexts_there seats seat o e =
    ap (λ r. option_map_or (λ (occupant : Occupant). occupant.contexts) r table.empty) (seat_get seats seat ∙ ap (option_map occupant_in) e)

pub contexts_nowhere : (seats : KeptSeats) (seat : ℕ) → table.get seats seat ≡ None → contexts_at (each_value occupant_in seats) seat ≡ table.empty
contexts_nowhere seats seat e =
    ap (λ r. option_map_or (λ (occupant : Occupant). occupant.contexts) r table.empty) (seat_get seats seat ∙ ap (option_map occupant_in) e)

abbrev among : Seated → ℕ → Contexts → Option Occupant → Seated
among seats seat contexts o = option_map_or (λ (occupant : Occupant). table.insert seats seat (record occupant { contexts = contexts })) o seats

-- other contexts at a seat where somebody sits, and where nobody does
pub in_seat : (seats : KeptSeats) (seat : ℕ) (old new : RoomyOccupant) (contexts : Contexts)
    → table.get seats seat ≡ Some old → new.user ≡ old.user → contexts_in new.contexts ≡ contexts
    → each_value occupant_in (table.insert seats seat new) ≡ with_contexts (each_value occupant_in seats) seat contexts
in_seat seats seat old new contexts g u e =
    let there : occupant_in new ≡ record (occupant_in old) { contexts = contexts } = λ i. record { user = u i; contexts = e i } in
    seat_insert seats seat new ∙ ap (table.insert (each_value occupant_in seats) seat) there
    ∙ sym (ap (among (each_value occupant_in seats) seat contexts) (seat_get seats seat ∙ ap (option_map occupant_in) g))

pub at_none : (seats : KeptSeats) (seat : ℕ) (contexts : Contexts) → table.get seats seat ≡ None → with_contexts (each_value occupant_in seats) seat contexts ≡ each_value occupant_in seats
at_none seats seat contexts e = ap (among (each_value occupant_in seats) seat contexts) (seat_get seats seat ∙ ap (option_map occupant_in) e)

-- somebody sits at a seat
is_there : (o : Option RoomyOccupant) → IsSome (option_map occupant_in o) → IsSome o
is_there None e = absurd (cc (e))
is_there (Some x) e = refl

is_there_so : (o : Option RoomyOccupant) (P : RoomyOccupant → Type 0) → IsSomeAnd o P → IsSome o
is_there_so None P h = absurd h
is_there_so (Some x) P h = refl

insert_same : (seats : KeptSeats) (seat : ℕ) (o : RoomyOccupant) → table.get seats seat ≡ Some o → table.insert seats seat o ≡ seats
insert_same seats seat o e = same_map nat_cmp_total nat_cmp-IsAntisymmetric _ _ (λ q.
    table.get-insert nat_cmp_total seats seat o q
    ∙ elim (nat_cmp q seat) as (λ r. nat_cmp q seat ≡ r → cond (is_eq r) (Some o) (table.get seats q) ≡ table.get seats q) [
      | Less ↦ λ t. refl
      | Equal ↦ λ t. sym (ap (table.get seats) (nat_cmp-IsAntisymmetric q seat t) ∙ e)
      | Greater ↦ λ t. refl
    ] refl)

-- the same of their list
module _ (es : List (ℕ × RoomyOccupant)) (seat : ℕ) (h : InOrder nat_cmp es) where
  pub seat_found : (d : ℕ × RoomyOccupant) → is_tied nat_cmp seat es ≡ true → table.get (table.from_sorted {R = nat_cmp} es) seat ≡ Some (get_or es (place nat_cmp seat es) d).1
  seat_found d t = get_kept nat_cmp nat_cmp_total es seat h ∙ found_tied nat_cmp nat_cmp_total seat es d h t

  pub seat_missing : is_tied nat_cmp seat es ≡ false → table.get (table.from_sorted {R = nat_cmp} es) seat ≡ None
  seat_missing t = get_kept nat_cmp nat_cmp_total es seat h ∙ found_absent nat_cmp nat_cmp_total seat es h t

  has_seat : IsSome (table.get (table.from_sorted {R = nat_cmp} es) seat) → is_tied nat_cmp seat es ≡ true
  has_seat e = sym (has_tied nat_cmp nat_cmp_total seat es h) ∙ e

  pub somebody_tied : (s : Seated) → as_seated es ≡ s → IsSome (table.get s seat) → is_tied nat_cmp seat es ≡ true
  somebody_tied s v e =
      has_seat (is_there _ (ap (λ r. is_some r) (sym (seat_get (table.from_sorted es) seat) ∙ ap (λ (t : Seated). table.get t seat) v) ∙ e))

  pub place_tied : (P : RoomyOccupant → Type 0) → IsSomeAnd (table.get (table.from_sorted {R = nat_cmp} es) seat) P → is_tied nat_cmp seat es ≡ true
  place_tied P e = has_seat (is_there_so _ P e)

  pub empty_seat : (contexts : Contexts) → is_tied nat_cmp seat es ≡ false → as_seated es ≡ with_contexts (as_seated es) seat contexts
  empty_seat contexts t = sym (at_none (table.from_sorted es) seat contexts (seat_missing t))

  -- the same of seats that are seen as this list is
  pub none_at : (s : Seated) (name : List ℕ) → as_seated es ≡ s → is_tied nat_cmp seat es ≡ false → table.contains_key (contexts_at s seat) name ≡ false
  none_at s name v t =
      ap (λ (cs : Contexts). table.contains_key cs name) (ap (λ (x : Seated). contexts_at x seat) (sym v) ∙ contexts_nowhere (table.from_sorted es) seat (seat_missing t))
      ∙ ap (λ r. is_some r) (table.get-empty octets_cmp name)

  pub empty_in : (s : Seated) (contexts : Contexts) → as_seated es ≡ s → is_tied nat_cmp seat es ≡ false → s ≡ with_contexts s seat contexts
  empty_in s contexts v t = subst (λ (x : Seated). x ≡ with_contexts x seat contexts) v (empty_seat contexts t)

  module _ (items : List (ℕ × RoomyOccupant)) (at : ℕ) (e : ℕ × RoomyOccupant) (new : RoomyOccupant) (t : is_tied nat_cmp seat es ≡ true) (p : at ≡ place nat_cmp seat es) (i : items ≡ set es at (e.0, new)) (g : e ≡ get_or es at e) where
    put_there : items ≡ put_in nat_cmp seat new es
    put_there =
        i ∙ sym (put_in_tied nat_cmp seat new es e t
        ∙ (ap (λ n. set es n ((get_or es n e).0, new)) (sym p) ∙ ap (λ (x : ℕ × RoomyOccupant). set es at (x.0, new)) (sym g)))

    pub seats_in_order : InOrder nat_cmp items
    seats_in_order = subst (λ es. InOrder nat_cmp es) (sym put_there) (put_in_order nat_cmp nat_cmp_total es seat new h)

    was_there : table.get (table.from_sorted {R = nat_cmp} es) seat ≡ Some e.1
    was_there = seat_found e t ∙ ap (λ n. Some (get_or es n e).1) (sym p) ∙ ap (λ (x : ℕ × RoomyOccupant). Some x.1) (sym g)

    pub there_so : (P : RoomyOccupant → Type 0) → IsSomeAnd (table.get (table.from_sorted {R = nat_cmp} es) seat) P → P e.1
    there_so P k = subst (λ o. IsSomeAnd o P) was_there k

    pub new_there : table.get (table.from_sorted {R = nat_cmp} items) seat ≡ Some new
    new_there =
        ap (λ (xs : List (ℕ × RoomyOccupant)). table.get (table.from_sorted {R = nat_cmp} xs) seat) put_there
        ∙ (ap (λ (m : KeptSeats). table.get m seat) (insert_kept nat_cmp nat_cmp_total es seat new h)
        ∙ (table.get-insert nat_cmp_total (table.from_sorted es) seat new seat ∙ ap (λ r. cond (is_eq r) (Some new) (table.get (table.from_sorted {R = nat_cmp} es) seat)) (tied_itself nat_cmp_total seat)))

    pub contexts_here : contexts_at (as_seated es) seat ≡ contexts_in e.1.contexts
    contexts_here = contexts_there (table.from_sorted es) seat e.1 was_there

    pub changed_seat : (f : Contexts → Contexts) → new.user ≡ e.1.user → contexts_in new.contexts ≡ f (contexts_in e.1.contexts)
        → as_seated items ≡ with_contexts (as_seated es) seat (f (contexts_at (as_seated es) seat))
    changed_seat f u k =
        ap as_seated put_there ∙ ap (each_value occupant_in) (insert_kept nat_cmp nat_cmp_total es seat new h)
        ∙ in_seat (table.from_sorted es) seat e.1 new _ was_there u (k ∙ ap f (sym (contexts_there (table.from_sorted es) seat e.1 was_there)))

    -- nothing is changed where the contexts aren't
    pub same_seats : new.user ≡ e.1.user → contexts_in new.contexts ≡ contexts_in e.1.contexts → as_seated items ≡ as_seated es
    same_seats u k =
        changed_seat (λ cs. cs) u k
        ∙ (ap (λ (cs : Contexts). with_contexts (as_seated es) seat cs) contexts_here
        ∙ (sym (in_seat (table.from_sorted es) seat e.1 e.1 (contexts_in e.1.contexts) was_there refl refl)
        ∙ ap (each_value occupant_in) (insert_same (table.from_sorted es) seat e.1 was_there)))

    pub has_at : (s : Seated) (name : List ℕ) → as_seated es ≡ s → table.contains_key (contexts_at s seat) name ≡ table.contains_key e.1.contexts name
    has_at s name v =
        ap (λ (cs : Contexts). table.contains_key cs name) (ap (λ (x : Seated). contexts_at x seat) (sym v) ∙ contexts_here) ∙ contexts_has e.1.contexts name

    pub changed_in : (s : Seated) (f : Contexts → Contexts) → as_seated es ≡ s → new.user ≡ e.1.user → contexts_in new.contexts ≡ f (contexts_in e.1.contexts)
        → as_seated items ≡ with_contexts s seat (f (contexts_at s seat))
    changed_in s f v u k = subst (λ (x : Seated). as_seated items ≡ with_contexts x seat (f (contexts_at x seat))) v (changed_seat f u k)

-- copies
pub seats_from : (es : List (ℕ × RoomyOccupant)) → InOrder nat_cmp es → as_seated es ≡ table.from_entries (each bare_seat es)
seats_from es h =
    value_made nat_cmp_total nat_cmp-IsAntisymmetric occupant_in (table.from_sorted es)
    ∙ ap (λ (xs : List (ℕ × RoomyOccupant)). table.from_entries (each bare_seat xs)) (table.entries-from_sorted nat_cmp es (sorted nat_cmp es h))

pub copied_order : (xs ys : List (ℕ × RoomyOccupant)) → each bare_seat xs ≡ each bare_seat ys → InOrder nat_cmp ys → InOrder nat_cmp xs
copied_order xs ys e h =
    in_order nat_cmp xs
    (sym (sorted_made nat_cmp_total nat_cmp-IsAntisymmetric occupant_in xs) ∙ (ap (is_sorted nat_cmp) e ∙ (sorted_made nat_cmp_total nat_cmp-IsAntisymmetric occupant_in ys ∙ h.rises)))

pub copied_seats : (xs ys : List (ℕ × RoomyOccupant)) (s : Seated) → each bare_seat xs ≡ each bare_seat ys → InOrder nat_cmp ys → as_seated ys ≡ s → as_seated xs ≡ s
copied_seats xs ys s e h v =
    seats_from xs (copied_order xs ys e h) ∙ (ap (λ (es : List (ℕ × Occupant)). table.from_entries es) e ∙ (sym (seats_from ys h) ∙ v))
