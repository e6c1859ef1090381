-- Lists of which each item is brought up to date by what is prepared for it, and the room that there is for it.
use Rattle.std.proofs.Common.{◌≡◌, ℕ, zero, suc, ◌+◌, ◌<◌, ◌≤◌, min, ◌&&◌, List, [], ◌∷◌, ◌++◌, length, take, drop, get_or, set, refl, sym, ◌∙◌, ap, subst, arith, map as each}
use Rattle.std.proofs.lemmas.List.{map-set}
use Rattle.std.specs.Cmp.{nat_cmp_total}
use Rattle.std.specs.FinMap as table
use Rattle.std.specs.FinMap.{is_sorted, nat_cmp-IsAntisymmetric}
use Rattle.std.specs.FinMap.Entries.{below_all}
use Rattle.std.specs.Ordering.{nat_cmp, is_lt}
use Rattle.std.specs.declared.cmp.Ordering.{Ordering}
use Rattle.acap_entries.specs.Orders.{octets_cmp}
use Rattle.acap_ordmap.specs.Sorted.{InOrder}
use Rattle.acap_ordmap.proofs.Logic.{suc_is}
use Rattle.acap_views.specs.Contexts.{Context}
use Rattle.acap_views.specs.Keeping.{RoomyContext, RoomyContexts, RoomyOccupant, contexts_in, occupant_in}
use Rattle.acap_views.specs.Listing.{as_contexts, as_seated, bare, bare_seat}
use Rattle.acap_views.specs.Preparing.{context_after, contexts_after, occupant_after, seats_after}
use Rattle.acap_views.specs.Seats.{Occupant, Seated}
use Rattle.acap_views.specs.EntryUpdates.{EntryUpdate}
use Rattle.acap_views.specs.Followed.{EachFits, FitsContext, FitsSeat, IsRoomySeat}
use Rattle.acap_views.proofs.InPlaceLemmas.{keys_kept, listed_from, same_order}
use Rattle.acap_views.proofs.KeepingLemmas.{listed_entries, seats_from}
use Rattle.acap_views.proofs.ValueLemmas.{sorted, in_order, sorted_made, entries_kept}

-- ---- lists

module _ {S B : Type 0} (g : S → B → B) where
  -- each item with what stands at its place
  abbrev pub after_each : List S → List B → List B
  after_each [] bs = bs
  after_each (s ∷ ss) [] = []
  after_each (s ∷ ss) (b ∷ bs) = g s b ∷ after_each ss bs

  none_after : (ss : List S) → after_each ss [] ≡ []
  none_after [] = refl
  none_after (s ∷ ss) = refl

  abbrev pub through : ℕ → List S → List B → List B
  through i ss bs = take i bs ++ after_each ss (drop i bs)

  one_on : (s : S) (ss : List S) (bs : List B) (i : ℕ) (b : B) → i < length bs → b ≡ get_or bs i b
      → through (suc i) ss (set bs i (g s b)) ≡ through i (s ∷ ss) bs
  one_on s ss [] i b h e = absurd (omega (arith, h))
  one_on s ss (x ∷ bs) zero b h e = ap (λ z. g s z ∷ after_each ss bs) e
  one_on s ss (x ∷ bs) (suc i) b h e = ap (λ t. x ∷ t) (one_on s ss bs i b (omega (arith, h)) e)

  all_past : (ss : List S) (bs : List B) (i : ℕ) → length bs ≤ i → through i ss bs ≡ bs
  all_past ss [] zero h = none_after ss
  all_past ss [] (suc i) h = none_after ss
  all_past ss (x ∷ bs) zero h = absurd (omega (arith, h))
  all_past ss (x ∷ bs) (suc i) h = ap (λ t. x ∷ t) (all_past ss bs i (omega (arith, h)))

  all_done : (bs : List B) (i : ℕ) → through i [] bs ≡ bs
  all_done [] zero = refl
  all_done [] (suc i) = refl
  all_done (x ∷ bs) zero = refl
  all_done (x ∷ bs) (suc i) = ap (λ t. x ∷ t) (all_done bs i)

  module _ {E : Type 0} (f : E → B) where
    get_each : (xs : List E) (i : ℕ) (d : E) → get_or (each f xs) i (f d) ≡ f (get_or xs i d)
    get_each [] i d = refl
    get_each (x ∷ xs) zero d = refl
    get_each (x ∷ xs) (suc i) d = get_each xs i d

    each_length : (xs : List E) → length (each f xs) ≡ length xs
    each_length [] = refl
    each_length (x ∷ xs) = ap suc (each_length xs)

    pub followed_on : (was : List S) (s : S) (ss : List S) (items now : List E) (i : ℕ) (e y : E) (end : List B) → was ≡ s ∷ ss → i < length items → e ≡ get_or items i e
        → f y ≡ g s (f e) → now ≡ set items i y → through i was (each f items) ≡ end → through (i + 1) ss (each f now) ≡ end
    followed_on was s ss items now i e y end w h at k n m =
        ap (λ j. through j ss (each f now)) (sym (suc_is i))
        ∙ (ap (λ (xs : List E). through (suc i) ss (each f xs)) n
        ∙ (ap (through (suc i) ss) (map-set f items i y ∙ ap (set (each f items) i) k)
        ∙ (one_on s ss (each f items) i (f e) (omega (arith, h, each_length items)) (ap f at ∙ sym (get_each items i e))
        ∙ (ap (λ t. through i t (each f items)) (sym w) ∙ m))))

    pub followed_past : (was : List S) (items : List E) (i : ℕ) (end : List B) → length items ≤ i → through i was (each f items) ≡ end → each f items ≡ end
    followed_past was items i end h m = sym (all_past was (each f items) i (omega (arith, h, each_length items))) ∙ m

    pub followed_all : (was : List S) (items : List E) (i : ℕ) (end : List B) → was ≡ [] → through i was (each f items) ≡ end → each f items ≡ end
    followed_all was items i end w m = sym (all_done (each f items) i) ∙ (ap (λ t. through i t (each f items)) (sym w) ∙ m)

-- ---- room

module _ {S E : Type 0} (P : S → E → Type 0) where
  fit_here : (s : S) (ss : List S) (es : List E) (i : ℕ) (e : E) → i < length es → e ≡ get_or es i e → EachFits P (s ∷ ss) (drop i es) → P s e
  fit_here s ss [] i e h g r = absurd (omega (arith, h))
  fit_here s ss (x ∷ es) zero e h g r = subst (P s) (sym g) r.0
  fit_here s ss (x ∷ es) (suc i) e h g r = fit_here s ss es i e (omega (arith, h)) g r

  fit_on : (s : S) (ss : List S) (es : List E) (i : ℕ) (y : E) → i < length es → EachFits P (s ∷ ss) (drop i es) → EachFits P ss (drop (suc i) (set es i y))
  fit_on s ss [] i y h r = absurd (omega (arith, h))
  fit_on s ss (x ∷ es) zero y h r = r.1
  fit_on s ss (x ∷ es) (suc i) y h r = fit_on s ss es i y (omega (arith, h)) r

  pub room_here : (was : List S) (s : S) (ss : List S) (es : List E) (i : ℕ) (e : E) → was ≡ s ∷ ss → i < length es → e ≡ get_or es i e → EachFits P was (drop i es) → P s e
  room_here was s ss es i e w h g r = fit_here s ss es i e h g (subst (λ t. EachFits P t (drop i es)) w r)

  pub room_on : (was : List S) (s : S) (ss : List S) (es now : List E) (i : ℕ) (y : E) → was ≡ s ∷ ss → i < length es → now ≡ set es i y
      → EachFits P was (drop i es) → EachFits P ss (drop (i + 1) now)
  room_on was s ss es now i y w h n r =
      subst (λ (xs : List E). EachFits P ss (drop (i + 1) xs)) (sym n)
      (subst (λ j. EachFits P ss (drop j (set es i y))) (suc_is i) (fit_on s ss es i y h (subst (λ t. EachFits P t (drop i es)) w r)))

  -- room is made place by place
  fit_set : (ss : List S) (es : List E) (i : ℕ) (s : S) (y : E) → i < length ss → s ≡ get_or ss i s → P s y
      → EachFits P (take i ss) es → EachFits P (take (suc i) ss) (set es i y)
  fit_set [] es i s y h g p r = absurd (omega (arith, h))
  fit_set (t ∷ ss) [] zero s y h g p r = tt
  fit_set (t ∷ ss) [] (suc i) s y h g p r = tt
  fit_set (t ∷ ss) (e ∷ es) zero s y h g p r = (subst (λ z. P z y) g p, tt)
  fit_set (t ∷ ss) (e ∷ es) (suc i) s y h g p r = (r.0, fit_set ss es i s y (omega (arith, h)) g p r.1)

  pub room_made : (ss : List S) (es now : List E) (i : ℕ) (s : S) (y : E) → i < length ss → s ≡ get_or ss i s → now ≡ set es i y → P s y
      → EachFits P (take i ss) es → EachFits P (take (i + 1) ss) now
  room_made ss es now i s y h g n p r =
      subst (λ (xs : List E). EachFits P (take (i + 1) ss) xs) (sym n)
      (subst (λ j. EachFits P (take j ss) (set es i y)) (suc_is i) (fit_set ss es i s y h g p r))

  -- at as many places as both lists have
  fit_all : (ss : List S) (es : List E) (i : ℕ) → min (length es) (length ss) ≤ i → EachFits P (take i ss) es → EachFits P ss es
  fit_all [] es i h r = tt
  fit_all (s ∷ ss) [] i h r = tt
  fit_all (s ∷ ss) (e ∷ es) zero h r = absurd (omega (arith, h))
  fit_all (s ∷ ss) (e ∷ es) (suc i) h r = (r.0, fit_all ss es i (omega (arith, h)) r.1)

  pub room_all : (ss : List S) (es : List E) (i : ℕ) → min (length es) (length ss) ≤ i → EachFits P (take i ss) es → EachFits P ss es
  room_all ss es i h r = fit_all ss es i h r

-- ---- what stays the same

module _ {E B : Type 0} (f : E → B) where
  kept_each : (items : List E) (i : ℕ) (e y : E) → e ≡ get_or items i e → f y ≡ f e → each f (set items i y) ≡ each f items
  kept_each [] i e y g k = refl
  kept_each (x ∷ items) zero e y g k = ap (λ t. t ∷ each f items) (k ∙ ap f g)
  kept_each (x ∷ items) (suc i) e y g k = ap (λ t. f x ∷ t) (kept_each items i e y g k)

  pub same_on : (items now : List E) (i : ℕ) (e y : E) (end : List B) → e ≡ get_or items i e → f y ≡ f e → now ≡ set items i y → each f items ≡ end → each f now ≡ end
  same_on items now i e y end g k n m = ap (each f) n ∙ (kept_each items i e y g k ∙ m)

  count_each : (xs : List E) → length (each f xs) ≡ length xs
  count_each [] = refl
  count_each (x ∷ xs) = ap suc (count_each xs)

  pub same_count : (xs ys : List E) → each f xs ≡ each f ys → length xs ≡ length ys
  same_count xs ys e = sym (count_each xs) ∙ (ap length e ∙ count_each ys)

-- ---- contexts and seats

abbrev pub context_turn : List EntryUpdate → List ℕ × Context → List ℕ × Context
context_turn shifts entry = (entry.0, context_after shifts entry.1)

abbrev pub seat_turn : List (List EntryUpdate) → ℕ × Occupant → ℕ × Occupant
seat_turn turns entry = (entry.0, occupant_after turns entry.1)

pub contexts_is : (turns : List (List EntryUpdate)) (contexts : List (List ℕ × Context)) → after_each context_turn turns contexts ≡ contexts_after turns contexts
contexts_is [] contexts = refl
contexts_is (shifts ∷ turns) [] = refl
contexts_is (shifts ∷ turns) (c ∷ contexts) = ap (λ t. context_turn shifts c ∷ t) (contexts_is turns contexts)

pub seats_is : (turns : List (List (List EntryUpdate))) (seats : List (ℕ × Occupant)) → after_each seat_turn turns seats ≡ seats_after turns seats
seats_is [] seats = refl
seats_is (at_seat ∷ turns) [] = refl
seats_is (at_seat ∷ turns) (s ∷ seats) = ap (λ t. seat_turn at_seat s ∷ t) (seats_is turns seats)

-- their keys stay
module _ {S K X : Type 0} (R : K → K → Ordering) (h : S → X → X) where
  abbrev turned : S → K × X → K × X
  turned s e = (e.0, h s e.1)

  below_after : (k : K) (ss : List S) (es : List (K × X)) → below_all R k (after_each turned ss es) ≡ below_all R k es
  below_after k [] es = refl
  below_after k (s ∷ ss) [] = refl
  below_after k (s ∷ ss) (e ∷ es) = ap (λ b. is_lt (R k e.0) && b) (below_after k ss es)

  sorted_after : (ss : List S) (es : List (K × X)) → is_sorted R (after_each turned ss es) ≡ is_sorted R es
  sorted_after [] es = refl
  sorted_after (s ∷ ss) [] = refl
  sorted_after (s ∷ ss) (e ∷ es) = λ i. below_after e.0 ss es i && sorted_after ss es i

module _ (turns : List (List EntryUpdate)) (es now : List (List ℕ × RoomyContext)) (h : InOrder octets_cmp es) (n : each bare now ≡ contexts_after turns (each bare es)) where
  pub turned_order : InOrder octets_cmp now
  turned_order = keys_kept now es (ap (is_sorted octets_cmp) (n ∙ sym (contexts_is turns (each bare es))) ∙ sorted_after octets_cmp context_after turns (each bare es)) h

  turned_contexts : as_contexts now ≡ table.from_entries (contexts_after turns (table.entries (as_contexts es)))
  turned_contexts =
      listed_from now turned_order
      ∙ ap (λ (xs : List (List ℕ × Context)). table.from_entries xs) (n ∙ sym (ap (contexts_after turns) (listed_entries es h)))

  pub turned_occupant : (old : RoomyOccupant) (user : List ℕ) → user ≡ old.user → table.from_sorted es ≡ old.contexts
      → occupant_in (record { user = user; contexts = table.from_sorted now; spare = 0 }) ≡ occupant_after turns (occupant_in old)
  turned_occupant old user u v = λ i. record {
    user = u i;
    contexts = (turned_contexts ∙ ap (λ (cs : RoomyContexts). table.from_entries (contexts_after turns (table.entries (contexts_in cs)))) v) i;
  }

pub same_occupant : (es now : List (List ℕ × RoomyContext)) (old : RoomyOccupant) (user : List ℕ) → InOrder octets_cmp es → each bare now ≡ each bare es
    → user ≡ old.user → table.from_sorted es ≡ old.contexts → occupant_in (record { user = user; contexts = table.from_sorted now; spare = 0 }) ≡ occupant_in old
same_occupant es now old user h n u v = λ i. record {
  user = u i;
  contexts = (listed_from now (same_order now es n h) ∙ (ap (λ (xs : List (List ℕ × Context)). table.from_entries xs) n ∙ (sym (listed_from es h) ∙ ap contexts_in v))) i;
}

pub fits_entries : (turns : List (List EntryUpdate)) (es : List (List ℕ × RoomyContext)) (o : RoomyOccupant) → InOrder octets_cmp es → table.from_sorted es ≡ o.contexts
    → IsRoomySeat turns o → EachFits FitsContext turns es
fits_entries turns es o h v r =
    subst (λ (xs : List (List ℕ × RoomyContext)). EachFits FitsContext turns xs) (sym (ap (λ (cs : RoomyContexts). table.entries cs) v) ∙ table.entries-from_sorted octets_cmp es (sorted octets_cmp es h)) r

pub fits_made : (turns : List (List EntryUpdate)) (es : List (List ℕ × RoomyContext)) → InOrder octets_cmp es
    → EachFits FitsContext turns es → EachFits FitsContext turns (table.entries (table.from_sorted {R = octets_cmp} es))
fits_made turns es h r =
    subst (λ (xs : List (List ℕ × RoomyContext)). EachFits FitsContext turns xs) (sym (table.entries-from_sorted octets_cmp es (sorted octets_cmp es h))) r

-- ---- all seats

module _ (turns : List (List (List EntryUpdate))) (es now : List (ℕ × RoomyOccupant)) (h : InOrder nat_cmp es) (n : each bare_seat now ≡ seats_after turns (each bare_seat es)) where
  pub seats_turned : InOrder nat_cmp now
  seats_turned =
      in_order nat_cmp now
      (sym (sorted_made nat_cmp_total nat_cmp-IsAntisymmetric occupant_in now)
      ∙ (ap (is_sorted nat_cmp) (n ∙ sym (seats_is turns (each bare_seat es)))
      ∙ (sorted_after nat_cmp occupant_after turns (each bare_seat es) ∙ (sorted_made nat_cmp_total nat_cmp-IsAntisymmetric occupant_in es ∙ h.rises))))

  pub turned_seats : (s : Seated) → as_seated es ≡ s → as_seated now ≡ table.from_entries (seats_after turns (table.entries s))
  turned_seats s v =
      seats_from now seats_turned
      ∙ (ap (λ (xs : List (ℕ × Occupant)). table.from_entries xs) (n ∙ sym (ap (seats_after turns) (entries_kept nat_cmp_total nat_cmp-IsAntisymmetric occupant_in es h)))
      ∙ ap (λ (x : Seated). table.from_entries (seats_after turns (table.entries x))) v)

pub seats_fit : (turns : List (List (List EntryUpdate))) (es : List (ℕ × RoomyOccupant)) (seats : table.FinMap nat_cmp RoomyOccupant) → InOrder nat_cmp es → table.from_sorted es ≡ seats
    → EachFits FitsSeat turns (table.entries seats) → EachFits FitsSeat turns es
seats_fit turns es seats h v r =
    subst (λ (xs : List (ℕ × RoomyOccupant)). EachFits FitsSeat turns xs) (sym (ap (λ (m : table.FinMap nat_cmp RoomyOccupant). table.entries m) v) ∙ table.entries-from_sorted nat_cmp es (sorted nat_cmp es h)) r

pub seats_fit_made : (turns : List (List (List EntryUpdate))) (es : List (ℕ × RoomyOccupant)) → InOrder nat_cmp es
    → EachFits FitsSeat turns es → EachFits FitsSeat turns (table.entries (table.from_sorted {R = nat_cmp} es))
seats_fit_made turns es h r =
    subst (λ (xs : List (ℕ × RoomyOccupant)). EachFits FitsSeat turns xs) (sym (table.entries-from_sorted nat_cmp es (sorted nat_cmp es h))) r
