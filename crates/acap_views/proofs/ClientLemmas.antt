-- What is told of a context is what waits for it.
use Rattle.std.proofs.Common.{◌≡◌, ◌⊎◌, inl, inr, ℕ, ℤ, Bool, true, false, cond, ◌||◌, Option, Some, None, List, [], ◌∷◌, ◌++◌, refl, sym, ◌∙◌, ap, subst, flat_map, append_assoc, append-nil, map as each}
use Rattle.std.specs.Cmp.{first_so, second_so}
use Rattle.std.specs.Cmp.Lexicographic.{nat_list_cmp_total, texts_ties}
use Rattle.std.specs.FinMap as table
use Rattle.std.specs.FinMap.{find, is_sorted}
use Rattle.std.specs.Option.{option_map_or}
use Rattle.std.specs.Ordering.{eq_by_cmp}
use Rattle.std.proofs.Math.Bool.{or-true}
use Rattle.acap_entries.specs.Orders.{octets_cmp, octets_eq}
use Rattle.acap_ordmap.proofs.Logic.{Equal_from_is_eq, true_from_T}
use Rattle.acap_moves.specs.Hits.{is_among}
use Rattle.acap_moves.proofs.Splits.{itself, same_name}
use Rattle.acap_notices.specs.Holding.{holding, holding_after_all}
use Rattle.acap_notices.specs.declared.notice.Notice.{Notice}
use Rattle.acap_notices.specs.declared.told.Told.{Told}
use Rattle.acap_notices.specs.declared.told.Told.TheVariants as told
use Rattle.acap_search.specs.Matches.{Match}
use Rattle.acap_views.specs.Clients.{notice_for, notices_for, pending_in, pending_of, ClientLaw}
use Rattle.acap_views.specs.Contexts.{Kept, Snapshot, Live, Freed, Context, Contexts}
use Rattle.acap_views.specs.Current.{IsCurrentKept, rows}
use Rattle.acap_views.specs.Telling.{notes_of, shown_now, told_by_name, updated_to, after_update, told_in_turn, drain_told}
use Rattle.acap_views.proofs.WaitingLemmas.{tied_none}

-- ---- notices by name

both_for : (name : List ℕ) (ts us : List Told) → notices_for name (ts ++ us) ≡ notices_for name ts ++ notices_for name us
both_for name [] us = refl
both_for name (t ∷ ts) us = ap (λ ns. notice_for name t ++ ns) (both_for name ts us) ∙ sym (append_assoc (notice_for name t) (notices_for name ts) (notices_for name us))

abbrev no_notices : List Notice
no_notices = []

none_either : (b : Bool) → no_notices ≡ cond b no_notices []
none_either true = refl
none_either false = refl

notes_for : (name other : List ℕ) (pending : List Notice) → notices_for name (each (told.Note other) pending) ≡ cond (octets_eq name other) pending []
notes_for name other [] = none_either (octets_eq name other)
notes_for name other (notice ∷ pending) =
    ap (λ ns. notice_for name (told.Note other notice) ++ ns) (notes_for name other pending)
    ∙ elim (octets_eq name other) as (λ b. cond b (notice ∷ []) [] ++ cond b pending [] ≡ cond b (notice ∷ pending) []) [ true ↦ refl | false ↦ refl ]

kept_notes : (name other : List ℕ) (kept : Kept) → notices_for name (notes_of other kept) ≡ cond (octets_eq name other) (pending_in kept) []
kept_notes name other (Snapshot shown) = none_either (octets_eq name other)
kept_notes name other (Live shown now pending) = notes_for name other pending
kept_notes name other Freed = none_either (octets_eq name other)

drain_notes : (name other : List ℕ) (kept : Kept) → notices_for name (drain_told other kept) ≡ cond (octets_eq name other) (pending_in kept) []
drain_notes name other (Snapshot shown) = none_either (octets_eq name other)
drain_notes name other (Live shown now pending) = notes_for name other pending
drain_notes name other Freed = none_either (octets_eq name other)

-- ---- UPDATECONTEXT

found_notes : (name other : List ℕ) (found : Option Context) → notices_for name (option_map_or (λ (c : Context). notes_of other c.kept) found []) ≡ cond (octets_eq name other) (pending_of found) []
found_notes name other None = none_either (octets_eq name other)
found_notes name other (Some c) = kept_notes name other c.kept

one_name : (contexts : Contexts) (name other : List ℕ) (last : ℤ) → notices_for name (told_by_name contexts other last) ≡ cond (octets_eq name other) (pending_of (table.get contexts other)) []
one_name contexts name other last =
    both_for name (option_map_or (λ (c : Context). notes_of other c.kept) (table.get contexts other) []) (told.Upto other last ∷ [])
    ∙ (append-nil _ ∙ found_notes name other (table.get contexts other))

settled : (kept : Kept) → pending_in (shown_now kept) ≡ []
settled (Snapshot shown) = refl
settled (Live shown now pending) = refl
settled Freed = refl

left_pending : (contexts : Contexts) (name other : List ℕ) (last : ℤ) → pending_of (table.get (after_update contexts other last) name) ≡ cond (octets_eq name other) [] (pending_of (table.get contexts name))
left_pending contexts name other last =
    elim (table.get contexts other) as (λ o. table.get contexts other ≡ o → pending_of (table.get (option_map_or (λ (c : Context). table.insert contexts other (updated_to last c)) o contexts) name) ≡ cond (octets_eq name other) [] (pending_of (table.get contexts name))) [
      | None ↦ λ e. elim (octets_eq name other) as (λ b. octets_eq name other ≡ b → pending_of (table.get contexts name) ≡ cond b [] (pending_of (table.get contexts name))) [
        | true ↦ λ t. ap (λ q. pending_of (table.get contexts q)) (same_name name other t) ∙ ap pending_of e
        | false ↦ λ t. refl
      ] refl
      | Some c ↦ λ e.
          ap pending_of (table.get-insert nat_list_cmp_total contexts other (updated_to last c) name)
          ∙ (ap (λ b. pending_of (cond b (Some (updated_to last c)) (table.get contexts name))) (sym (texts_ties name other))
          ∙ elim (octets_eq name other) as (λ b. pending_of (cond b (Some (updated_to last c)) (table.get contexts name)) ≡ cond b [] (pending_of (table.get contexts name))) [ true ↦ settled c.kept | false ↦ refl ])
    ] refl

joined : (a b : Bool) (first other : List Notice) → (a ≡ true → first ≡ other) → cond a first [] ++ cond b (cond a [] other) [] ≡ cond (a || b) other []
joined true true first other h = append-nil first ∙ h refl
joined true false first other h = append-nil first ∙ h refl
joined false true first other h = refl
joined false false first other h = refl

all_names : (names : List (List ℕ)) (contexts : Contexts) (name : List ℕ) (last : ℤ) → notices_for name (told_in_turn contexts names last) ≡ cond (is_among name names) (pending_of (table.get contexts name)) []
unfolding is_among
all_names [] contexts name last = refl
all_names (other ∷ names) contexts name last =
    both_for name (told_by_name contexts other last) (told_in_turn (after_update contexts other last) names last)
    ∙ ((λ i. one_name contexts name other last i ++ (all_names names (after_update contexts other last) name last ∙ ap (λ ns. cond (is_among name names) ns []) (left_pending contexts name other last)) i)
    ∙ joined (octets_eq name other) (is_among name names) (pending_of (table.get contexts other)) (pending_of (table.get contexts name)) (λ t. ap (λ q. pending_of (table.get contexts q)) (sym (same_name name other t))))

-- ---- each MODTIME

-- where a list stands in two joined ones that is followed by something
pub record Within (xs front back : List Told) (u : Told) : Type 0 where
  rest : List Told
  is : xs ≡ front ++ u ∷ rest

pub record Behind (xs ys front back : List Told) (u : Told) : Type 0 where
  more : List Told
  front_is : front ≡ xs ++ more
  is : ys ≡ more ++ u ∷ back

split_told : (xs ys front back : List Told) (u : Told) → xs ++ ys ≡ front ++ u ∷ back → Within xs front back u ⊎ Behind xs ys front back u
split_told [] ys front back u e = inr (record { more = front; front_is = refl; is = e })
split_told (x ∷ xs) ys [] back u e = let head : x ≡ u = cc in inl (record { rest = xs; is = ap (λ t. t ∷ xs) head })
split_told (x ∷ xs) ys (f ∷ front) back u e =
    let head : x ≡ f = cc in
    let tail : xs ++ ys ≡ front ++ u ∷ back = cc in
    elim (split_told xs ys front back u tail) as (λ _. Within (x ∷ xs) (f ∷ front) back u ⊎ Behind (x ∷ xs) ys (f ∷ front) back u) [
      | inl k ↦ inl (record { rest = k.rest; is = (λ i. head i ∷ k.is i) })
      | inr k ↦ inr (record { more = k.more; front_is = (λ i. sym head i ∷ k.front_is i); is = k.is })
    ]

-- among notices is none
no_modtime : (other name : List ℕ) (moment : ℤ) (pending : List Notice) (front back : List Told) → each (told.Note other) pending ≡ front ++ told.Upto name moment ∷ back → ⊥
no_modtime other name moment [] [] back e = absurd cc
no_modtime other name moment [] (f ∷ front) back e = absurd cc
no_modtime other name moment (n ∷ pending) [] back e = absurd cc
no_modtime other name moment (n ∷ pending) (f ∷ front) back e = let tail : each (told.Note other) pending ≡ front ++ told.Upto name moment ∷ back = cc in no_modtime other name moment pending front back tail

kept_no_modtime : (other name : List ℕ) (moment : ℤ) (kept : Kept) (front back : List Told) → notes_of other kept ≡ front ++ told.Upto name moment ∷ back → ⊥
kept_no_modtime other name moment (Snapshot shown) [] back e = absurd cc
kept_no_modtime other name moment (Snapshot shown) (f ∷ front) back e = absurd cc
kept_no_modtime other name moment (Live shown now pending) front back e = no_modtime other name moment pending front back e
kept_no_modtime other name moment Freed [] back e = absurd cc
kept_no_modtime other name moment Freed (f ∷ front) back e = absurd cc

found_no_modtime : (other name : List ℕ) (moment : ℤ) (found : Option Context) (front back : List Told) → option_map_or (λ (c : Context). notes_of other c.kept) found [] ≡ front ++ told.Upto name moment ∷ back → ⊥
found_no_modtime other name moment None [] back e = absurd cc
found_no_modtime other name moment None (f ∷ front) back e = absurd cc
found_no_modtime other name moment (Some c) front back e = kept_no_modtime other name moment c.kept front back e

-- one MODTIME alone
the_modtime : (other name : List ℕ) (last moment : ℤ) (more back : List Told) → told.Upto other last ∷ [] ≡ more ++ told.Upto name moment ∷ back → (more ≡ []) × (other ≡ name)
the_modtime other name last moment [] back e = let head : told.Upto other last ≡ told.Upto name moment = cc in let name_is : other ≡ name = cc in (refl, name_is)
the_modtime other name last moment (m ∷ []) back e = absurd cc
the_modtime other name last moment (m ∷ (k ∷ more)) back e = absurd cc

-- the first one of a name is after all that waits
first_modtime : (contexts : Contexts) (other name : List ℕ) (last moment : ℤ) (front back : List Told) → told_by_name contexts other last ≡ front ++ told.Upto name moment ∷ back
    → notices_for name front ≡ pending_of (table.get contexts name)
first_modtime contexts other name last moment front back e =
    let notes = option_map_or (λ (c : Context). notes_of other c.kept) (table.get contexts other) [] in
    elim (split_told notes (told.Upto other last ∷ []) front back (told.Upto name moment) e) as (λ _. notices_for name front ≡ pending_of (table.get contexts name)) [
      | inl k ↦ absurd (found_no_modtime other name moment (table.get contexts other) front k.rest k.is)
      | inr k ↦
          let at = the_modtime other name last moment k.more back k.is in
          ap (notices_for name) (k.front_is ∙ ap (λ ts. notes ++ ts) at.0 ∙ append-nil notes)
          ∙ found_notes name other (table.get contexts other)
          ∙ ap (λ q. cond (octets_eq name q) (pending_of (table.get contexts q)) []) at.1
          ∙ ap (λ b. cond b (pending_of (table.get contexts name)) []) (itself name name refl)
    ]

either_told : (b : Bool) (first other : List Notice) → (b ≡ true → first ≡ other) → cond b first [] ++ cond b [] other ≡ other
either_told true first other h = append-nil first ∙ h refl
either_told false first other h = refl

modtimes : (names : List (List ℕ)) (contexts : Contexts) (name : List ℕ) (last : ℤ) (front back : List Told) (moment : ℤ) → told_in_turn contexts names last ≡ front ++ told.Upto name moment ∷ back
    → notices_for name front ≡ pending_of (table.get contexts name)
modtimes [] contexts name last [] back moment e = absurd cc
modtimes [] contexts name last (f ∷ front) back moment e = absurd cc
modtimes (other ∷ names) contexts name last front back moment e =
    elim (split_told (told_by_name contexts other last) (told_in_turn (after_update contexts other last) names last) front back (told.Upto name moment) e) as (λ _. notices_for name front ≡ pending_of (table.get contexts name)) [
      | inl k ↦ first_modtime contexts other name last moment front k.rest k.is
      | inr k ↦
          ap (notices_for name) k.front_is
          ∙ both_for name (told_by_name contexts other last) k.more
          ∙ (λ i. one_name contexts name other last i ++ (modtimes names (after_update contexts other last) name last k.more back moment k.is ∙ left_pending contexts name other last) i)
          ∙ either_told (octets_eq name other) (pending_of (table.get contexts other)) (pending_of (table.get contexts name)) (λ t. ap (λ q. pending_of (table.get contexts q)) (sym (same_name name other t)))
    ]

named_first : (contexts : Contexts) (other name : List ℕ) (last moment : ℤ) (front back : List Told)
    → told_by_name contexts other last ≡ front ++ told.Upto name moment ∷ back → other ≡ name
named_first contexts other name last moment front back e =
    let notes = option_map_or (λ (c : Context). notes_of other c.kept) (table.get contexts other) [] in
    elim (split_told notes (told.Upto other last ∷ []) front back (told.Upto name moment) e) as (λ _. other ≡ name) [
      | inl k ↦ absurd (found_no_modtime other name moment (table.get contexts other) front k.rest k.is)
      | inr k ↦ (the_modtime other name last moment k.more back k.is).1
    ]

-- each is of a name that was said
named : (names : List (List ℕ)) (contexts : Contexts) (name : List ℕ) (last : ℤ) (front back : List Told) (moment : ℤ)
    → told_in_turn contexts names last ≡ front ++ told.Upto name moment ∷ back → is_among name names ≡ true
unfolding is_among
named [] contexts name last [] back moment e = absurd cc
named [] contexts name last (f ∷ front) back moment e = absurd cc
named (other ∷ names) contexts name last front back moment e =
    elim (split_told (told_by_name contexts other last) (told_in_turn (after_update contexts other last) names last) front back (told.Upto name moment) e) as (λ _. (octets_eq name other || is_among name names) ≡ true) [
      | inl k ↦ ap (λ b. b || is_among name names) (itself name other (sym (named_first contexts other name last moment front k.rest k.is)))
      | inr k ↦ ap (λ b. octets_eq name other || b) (named names (after_update contexts other last) name last k.more back moment k.is) ∙ or-true (octets_eq name other)
    ]

-- ---- drains

all_entries : (es : List (List ℕ × Context)) → is_sorted octets_cmp es ≡ true → (name : List ℕ) → notices_for name (flat_map (λ e. drain_told e.0 e.1.kept) es) ≡ pending_of (find octets_cmp name es)
all_entries [] s name = refl
all_entries (e ∷ es) s name =
    both_for name (drain_told e.0 e.1.kept) (flat_map (λ e. drain_told e.0 e.1.kept) es)
    ∙ ((λ i. (drain_notes name e.0 e.1.kept ∙ ap (λ b. cond b (pending_in e.1.kept) []) (texts_ties name e.0)) i ++ all_entries es (second_so _ _ s) name i)
    ∙ elim (eq_by_cmp octets_cmp name e.0) as (λ b. eq_by_cmp octets_cmp name e.0 ≡ b → cond b (pending_in e.1.kept) [] ++ pending_of (find octets_cmp name es) ≡ pending_of (cond b (Some e.1) (find octets_cmp name es))) [
      | true ↦ λ t. ap (λ o. pending_in e.1.kept ++ pending_of o) (tied_none nat_list_cmp_total (λ (c : Context). true) name e.0 es (Equal_from_is_eq _ t) (first_so _ _ s)) ∙ append-nil _
      | false ↦ λ t. refl
    ] refl)

drained : (contexts : Contexts) (name : List ℕ) → notices_for name (flat_map (λ e. drain_told e.0 e.1.kept) (table.entries contexts)) ≡ pending_of (table.get contexts name)
drained contexts name = all_entries (table.entries contexts) (true_from_T _ (table.entries_sorted contexts)) name ∙ ap pending_of (sym (table.get-entries contexts name))

-- ---- the client

leads : (fresh : List Match) (enumerated : Bool) (kept : Kept) (shown now : List Match) (pending : List Notice) → kept ≡ Live shown now pending → IsCurrentKept fresh enumerated kept
    → holding_after_all (holding enumerated (rows shown)) pending ≡ Some (holding enumerated (rows fresh))
leads fresh enumerated kept shown now pending e i =
    let is = subst (IsCurrentKept fresh enumerated) e i in
    is.leads ∙ ap (λ ms. Some (holding enumerated (rows ms))) is.fresh_now

pub client_law : ClientLaw
client_law = record {
  updated = λ contexts names name last. all_names names contexts name last;
  drained = drained;
  after_update = λ store realm occupant name context shown now pending names last current e live among.
      let told = all_names names occupant.contexts name last ∙ (ap (λ b. cond b (pending_of (table.get occupant.contexts name)) []) among ∙ (ap pending_of e ∙ ap pending_in live)) in
      ap (holding_after_all (holding context.enumerated (rows shown))) told
      ∙ leads _ context.enumerated context.kept shown now pending live (current.each name context e).kept;
  modtimes = λ contexts names name last front back moment e. modtimes names contexts name last front back moment e;
  named = λ contexts names name last front back moment e. named names contexts name last front back moment e;
  at_modtime = λ store realm occupant name context shown now pending names last front back moment current e live is.
      let told = modtimes names occupant.contexts name last front back moment is ∙ (ap pending_of e ∙ ap pending_in live) in
      ap (holding_after_all (holding context.enumerated (rows shown))) told
      ∙ leads _ context.enumerated context.kept shown now pending live (current.each name context e).kept;
  after_drain = λ store realm occupant name context shown now pending current e live.
      let told = drained occupant.contexts name ∙ (ap pending_of e ∙ ap pending_in live) in
      ap (holding_after_all (holding context.enumerated (rows shown))) told
      ∙ leads _ context.enumerated context.kept shown now pending live (current.each name context e).kept;
}
