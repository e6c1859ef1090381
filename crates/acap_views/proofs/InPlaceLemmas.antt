-- Contexts of one session that are told of, drained and copied in place.
use Rattle.std.proofs.Common.{◌≡◌, ℕ, ℤ, Bool, true, false, not, cond, T, Option, Some, None, List, [], ◌∷◌, refl, sym, ◌∙◌, ap, subst, map as each}
use Rattle.std.specs.Cmp.Lexicographic.{nat_list_cmp_total}
use Rattle.std.specs.FinMap as table
use Rattle.std.specs.FinMap.{is_sorted}
use Rattle.std.specs.FinMap.Entries.{below_all}
use Rattle.std.specs.List.{filter, filter_map, cons_option}
use Rattle.std.specs.Option.{option_map, option_map_or}
use Rattle.std.specs.declared.cmp.Ordering.{Ordering}
use Rattle.acap_entries.specs.Orders.{octets_cmp}
use Rattle.acap_ordmap.specs.Sorted.{InOrder}
use Rattle.acap_ordmap.proofs.Logic.{both_T, first_T, second_T, true_from_T}
use Rattle.acap_entries.proofs.StoreLemmas.{octets_same}
use Rattle.acap_views.specs.Contexts.{Kept, Snapshot, Live, Freed, Context, Contexts}
use Rattle.acap_views.specs.Holds.{is_freed}
use Rattle.acap_views.specs.Keeping.{RoomyContext}
use Rattle.acap_views.specs.Listing.{as_contexts, bare, told_entry}
use Rattle.acap_views.specs.Maps.{each_kept}
use Rattle.acap_views.specs.Telling.{shown_now, updated_to, after_update, kept_drained, after_drain}
use Rattle.acap_views.proofs.KeepingLemmas.{context_in, listed_entries}
use Rattle.acap_views.proofs.ValueLemmas.{sorted, in_order, sorted_made, value_made}

-- ---- one name

pub updated_none : (contexts : Contexts) (name : List ℕ) (last : ℤ) → table.get contexts name ≡ None → contexts ≡ after_update contexts name last
updated_none contexts name last e =
    sym (ap (λ o. option_map_or (λ (context : Context). table.insert contexts name (updated_to last context)) o contexts) e)

pub updated_some : (contexts : Contexts) (name : List ℕ) (last : ℤ) (old new : Context) → table.get contexts name ≡ Some old → new ≡ updated_to last old
    → table.insert contexts name new ≡ after_update contexts name last
updated_some contexts name last old new g e =
    ap (table.insert contexts name) e
    ∙ sym (ap (λ o. option_map_or (λ (context : Context). table.insert contexts name (updated_to last context)) o contexts) g)

-- ---- their list without the room

pub keys_kept : (xs ys : List (List ℕ × RoomyContext)) → is_sorted octets_cmp (each bare xs) ≡ is_sorted octets_cmp (each bare ys) → InOrder octets_cmp ys → InOrder octets_cmp xs
keys_kept xs ys e h =
    in_order octets_cmp xs
    (sym (sorted_made nat_list_cmp_total octets_same context_in xs) ∙ (e ∙ (sorted_made nat_list_cmp_total octets_same context_in ys ∙ h.rises)))

pub same_order : (xs ys : List (List ℕ × RoomyContext)) → each bare xs ≡ each bare ys → InOrder octets_cmp ys → InOrder octets_cmp xs
same_order xs ys e h = keys_kept xs ys (ap (is_sorted octets_cmp) e) h

pub listed_from : (es : List (List ℕ × RoomyContext)) → InOrder octets_cmp es → as_contexts es ≡ table.from_entries (each bare es)
listed_from es h =
    value_made nat_list_cmp_total octets_same context_in (table.from_sorted es)
    ∙ ap (λ (xs : List (List ℕ × RoomyContext)). table.from_entries (each bare xs)) (table.entries-from_sorted octets_cmp es (sorted octets_cmp es h))

pub same_contexts : (xs ys : List (List ℕ × RoomyContext)) → each bare xs ≡ each bare ys → InOrder octets_cmp ys → as_contexts xs ≡ as_contexts ys
same_contexts xs ys e h = listed_from xs (same_order xs ys e h) ∙ (ap (λ (es : List (List ℕ × Context)). table.from_entries es) e ∙ sym (listed_from ys h))

-- ---- a part of a list in order

module _ {K X : Type 0} (R : K → K → Ordering) (p : K × X → Bool) where
  below_part : (k : K) (es : List (K × X)) → T (below_all R k es) → T (below_all R k (filter p es))
  below_part k [] b = tt
  below_part k (e ∷ es) b =
      elim (p e) as (λ (q : Bool). T (below_all R k (cond q (e ∷ filter p es) (filter p es)))) [
        | true ↦ both_T _ _ (first_T _ _ b) (below_part k es (second_T _ _ b))
        | false ↦ below_part k es (second_T _ _ b)
      ]

  sorted_part : (es : List (K × X)) → T (is_sorted R es) → T (is_sorted R (filter p es))
  sorted_part [] s = tt
  sorted_part (e ∷ es) s =
      elim (p e) as (λ (q : Bool). T (is_sorted R (cond q (e ∷ filter p es) (filter p es)))) [
        | true ↦ both_T _ _ (below_part e.0 es (first_T _ _ s)) (sorted_part es (second_T _ _ s))
        | false ↦ sorted_part es (second_T _ _ s)
      ]

  filtered_order : (es : List (K × X)) → InOrder R es → InOrder R (filter p es)
  filtered_order es h = in_order R (filter p es) (true_from_T _ (sorted_part es (sorted R es h)))

-- ---- drains

abbrev kept_on : List ℕ × Context → Bool
kept_on entry = not (is_freed entry.1.kept)

abbrev gone_on : List ℕ × Context → Option (List ℕ × Context)
gone_on entry = option_map (λ y. (entry.0, y)) (after_drain entry.1)

one_drained : (name : List ℕ) (context : Context) (kept : Kept) (xs ys : List (List ℕ × Context)) → context.kept ≡ kept → xs ≡ ys
    → cons_option (option_map (λ y. (name, y)) (kept_drained context kept)) xs ≡ cond (not (is_freed (shown_now kept))) ((name, record context { kept = shown_now kept }) ∷ ys) ys
one_drained name context (Snapshot shown) xs ys e r = λ i. (name, record context { kept = e i }) ∷ r i
one_drained name context (Live shown now pending) xs ys e r = ap (λ t. (name, record context { kept = Live now now [] }) ∷ t) r
one_drained name context Freed xs ys e r = r

all_drained : (xs : List (List ℕ × Context)) → filter_map gone_on xs ≡ filter kept_on (each told_entry xs)
all_drained [] = refl
all_drained (x ∷ xs) = one_drained x.0 x.1 x.1.kept (filter_map gone_on xs) (filter kept_on (each told_entry xs)) refl (all_drained xs)

filtered : (xs : List (List ℕ × RoomyContext)) → each bare (filter (λ (e : List ℕ × RoomyContext). not (is_freed e.1.context.kept)) xs) ≡ filter kept_on (each bare xs)
filtered [] = refl
filtered (x ∷ xs) =
    elim (not (is_freed x.1.context.kept)) as (λ b. each bare (cond b (x ∷ filter (λ (e : List ℕ × RoomyContext). not (is_freed e.1.context.kept)) xs) (filter (λ (e : List ℕ × RoomyContext). not (is_freed e.1.context.kept)) xs)) ≡ cond b (bare x ∷ filter kept_on (each bare xs)) (filter kept_on (each bare xs))) [
      | true ↦ ap (λ t. bare x ∷ t) (filtered xs)
      | false ↦ filtered xs
    ]

keys_told : (xs : List (List ℕ × Context)) → is_sorted octets_cmp (each told_entry xs) ≡ is_sorted octets_cmp xs
keys_told xs = sorted_made nat_list_cmp_total octets_same (λ (context : Context). record context { kept = shown_now context.kept }) xs

module _ (es told left : List (List ℕ × RoomyContext)) (h : InOrder octets_cmp es) (t : each bare told ≡ each told_entry (each bare es)) (l : left ≡ filter (λ (e : List ℕ × RoomyContext). not (is_freed e.1.context.kept)) told) where
  told_order : InOrder octets_cmp told
  told_order = keys_kept told es (ap (is_sorted octets_cmp) t ∙ keys_told (each bare es)) h

  left_bare : each bare left ≡ filter_map gone_on (each bare es)
  left_bare = ap (each bare) l ∙ (filtered told ∙ (ap (filter kept_on) t ∙ sym (all_drained (each bare es))))

  pub drained_order : InOrder octets_cmp left
  drained_order = subst (λ xs. InOrder octets_cmp xs) (sym l) (filtered_order octets_cmp (λ (e : List ℕ × RoomyContext). not (is_freed e.1.context.kept)) told told_order)

  pub drained_contexts : as_contexts left ≡ each_kept after_drain (as_contexts es)
  drained_contexts =
      listed_from left drained_order
      ∙ (ap (λ (xs : List (List ℕ × Context)). table.from_entries xs) left_bare
      ∙ sym (ap (λ (xs : List (List ℕ × Context)). table.from_entries (filter_map gone_on xs)) (listed_entries es h)))
