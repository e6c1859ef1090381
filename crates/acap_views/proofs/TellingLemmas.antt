-- What is told of contexts one name after the other, and by drains, as batches of what waits.
use Rattle.std.proofs.Common.{◌≡◌, ℕ, ℤ, ◌+◌, ◌<◌, Bool, true, false, cond, ◌||◌, Option, Some, None, List, [], ◌∷◌, ◌++◌, length, take, drop, get_or, refl, sym, ◌∙◌, ap, subst, append_assoc, flat_map, map as each}
use Rattle.std.specs.Cmp.{tied_itself}
use Rattle.std.specs.Cmp.Lexicographic.{nat_list_cmp_total, bytes_decides}
use Rattle.std.specs.FinMap as table
use Rattle.std.specs.List.{list_any}
use Rattle.std.specs.Option.{option_map, option_map_or}
use Rattle.std.specs.Ordering.{eq_by_cmp, is_eq}
use Rattle.std.specs.declared.cmp.Ordering.TheVariants.{Less, Equal, Greater}
use Rattle.std.proofs.lemmas.List.{take_more, append-nil}
use Rattle.acap_entries.specs.Orders.{octets_cmp, octets_eq}
use Rattle.acap_ordmap.specs.Sorted.{InOrder, found}
use Rattle.acap_entries.proofs.StoreLemmas.{octets_same}
use Rattle.acap_notices.specs.Batches as batches
use Rattle.acap_notices.specs.Batches.{all_told, told_in}
use Rattle.acap_notices.specs.declared.batch.Batch.{Batch}
use Rattle.acap_notices.specs.declared.notice.Notice.{Notice}
use Rattle.acap_notices.specs.declared.told.Told.{Told}
use Rattle.acap_notices.specs.declared.told.Told.TheVariants as told
use Rattle.acap_views.specs.Contexts.{Kept, Snapshot, Live, Freed, Context, Contexts}
use Rattle.acap_views.specs.Holds.{is_freed, pending_in}
use Rattle.acap_views.specs.Keeping.{RoomyContext}
use Rattle.acap_views.specs.Listing.{as_contexts, bare, waiting_after}
use Rattle.acap_views.specs.Telling.{notes_of, shown_now, fault_in, fault_at, told_by_name, updated_to, after_update, after_updates, told_in_turn, drain_told}
use Rattle.acap_views.specs.Waiting.{waits}
use Rattle.acap_views.specs.declared.refusal.ViewRefusal.TheVariants as refusal
use Rattle.acap_views.proofs.KeepingLemmas.{listed_entries, get_listed}
use Rattle.acap_views.proofs.LoopLemmas.{one_dropped}

-- ---- one context

pub notes_told : (name : List ℕ) (kept : Kept) → is_freed kept ≡ false → notes_of name kept ≡ drain_told name kept
notes_told name (Snapshot shown) e = refl
notes_told name (Live shown now pending) e = refl
notes_told name Freed e = absurd (cc (e))

-- ---- batches

pub pending_told : (name : List ℕ) (kept : Kept) → batches.notes_of name (pending_in kept) ≡ notes_of name kept
pending_told name (Snapshot shown) = refl
pending_told name (Live shown now pending) = refl
pending_told name Freed = refl

pub freed_told : (name : List ℕ) (kept : Kept) → is_freed kept ≡ true → told.Freed name ∷ [] ≡ drain_told name kept
freed_told name (Snapshot shown) e = absurd (cc (e))
freed_told name (Live shown now pending) e = absurd (cc (e))
freed_told name Freed e = refl

pub lasting_told : (name : List ℕ) (kept : Kept) (notices : List Notice) → is_freed kept ≡ false → notices ≡ pending_in kept
    → batches.notes_of name notices ≡ drain_told name kept
lasting_told name kept notices lasts e = ap (batches.notes_of name) e ∙ (pending_told name kept ∙ notes_told name kept lasts)

pub batch_more : (front : List Batch) (batch : Batch) → all_told (front ++ batch ∷ []) ≡ all_told front ++ told_in batch
batch_more [] batch = append-nil (told_in batch)
batch_more (first ∷ front) batch = ap (λ (ts : List Told). told_in first ++ ts) (batch_more front batch) ∙ sym (append_assoc (told_in first) (all_told front) (told_in batch))

-- ---- by name

abbrev notes_for : List ℕ → Option Context → List Told
notes_for name o = option_map_or (λ (context : Context). notes_of name context.kept) o []

none_wait : (name : List ℕ) (kept : Kept) → notes_of name (shown_now kept) ≡ []
none_wait name (Snapshot shown) = refl
none_wait name (Live shown now pending) = refl
none_wait name Freed = refl

abbrev with_update : Contexts → List ℕ → ℤ → Option Context → Contexts
with_update contexts name last o = option_map_or (λ (context : Context). table.insert contexts name (updated_to last context)) o contexts

module _ (q : List ℕ) (last : ℤ) where
  own : eq_by_cmp octets_cmp q q ≡ true
  own = ap is_eq (tied_itself nat_list_cmp_total q)

  told_here : (contexts : Contexts) → notes_for q (table.get (after_update contexts q last) q) ≡ []
  told_here contexts =
      elim (table.get contexts q) as (λ o. table.get contexts q ≡ o → notes_for q (table.get (with_update contexts q last o) q) ≡ []) [
        | None ↦ λ e. ap (notes_for q) e
        | Some context ↦ λ e.
            ap (notes_for q) (table.get-insert nat_list_cmp_total contexts q (updated_to last context) q ∙ ap (λ b. cond b (Some (updated_to last context)) (table.get contexts q)) own)
            ∙ none_wait q context.kept
      ] refl

  stays_told : (contexts : Contexts) (name : List ℕ) → notes_for q (table.get contexts q) ≡ [] → notes_for q (table.get (after_update contexts name last) q) ≡ []
  stays_told contexts name h =
      elim (table.get contexts name) as (λ o. notes_for q (table.get (with_update contexts name last o) q) ≡ []) [
        | None ↦ h
        | Some context ↦
            ap (notes_for q) (table.get-insert nat_list_cmp_total contexts name (updated_to last context) q)
            ∙ elim (eq_by_cmp octets_cmp q name) as (λ b. notes_for q (cond b (Some (updated_to last context)) (table.get contexts q)) ≡ []) [
              | true ↦ none_wait q context.kept
              | false ↦ h
            ]
      ]

  all_stay : (contexts : Contexts) (names : List (List ℕ)) → notes_for q (table.get contexts q) ≡ [] → notes_for q (table.get (after_updates contexts names last) q) ≡ []
  all_stay contexts [] h = h
  all_stay contexts (name ∷ names) h = all_stay (after_update contexts name last) names (stays_told contexts name h)

  abbrev same_as : List ℕ → Bool
  same_as name = octets_eq name q

  pub seen_told : (contexts : Contexts) (names : List (List ℕ)) → list_any same_as names ≡ true → waiting_after contexts names last q ≡ []
  seen_told contexts [] e = absurd (cc (e))
  seen_told contexts (name ∷ names) e =
      elim (octets_eq name q) as (λ b. octets_eq name q ≡ b → (b || list_any same_as names) ≡ true → notes_for q (table.get (after_updates (after_update contexts name last) names last) q) ≡ []) [
        | true ↦ λ t _. let same : name ≡ q = (bytes_decides name q).0 t in
            all_stay (after_update contexts name last) names (subst (λ (n : List ℕ). notes_for q (table.get (after_update contexts n last) q) ≡ []) (sym same) (told_here contexts))
        | false ↦ λ _ k. seen_told (after_update contexts name last) names k
      ] refl e

  apart : (name : List ℕ) → octets_eq name q ≡ false → eq_by_cmp octets_cmp q name ≡ false
  apart name e =
      elim (octets_cmp q name) as (λ r. octets_cmp q name ≡ r → is_eq r ≡ false) [
        | Less ↦ λ t. refl
        | Equal ↦ λ t. let same : octets_eq name q ≡ true = (bytes_decides name q).1 (sym (octets_same q name t)) in absurd (cc (e, same))
        | Greater ↦ λ t. refl
      ] refl

  not_updated : (contexts : Contexts) (name : List ℕ) → octets_eq name q ≡ false → table.get (after_update contexts name last) q ≡ table.get contexts q
  not_updated contexts name e =
      elim (table.get contexts name) as (λ o. table.get (with_update contexts name last o) q ≡ table.get contexts q) [
        | None ↦ refl
        | Some context ↦ table.get-insert nat_list_cmp_total contexts name (updated_to last context) q ∙ ap (λ b. cond b (Some (updated_to last context)) (table.get contexts q)) (apart name e)
      ]

  none_updated : (contexts : Contexts) (names : List (List ℕ)) → list_any same_as names ≡ false → table.get (after_updates contexts names last) q ≡ table.get contexts q
  none_updated contexts [] e = refl
  none_updated contexts (name ∷ names) e =
      elim (octets_eq name q) as (λ b. octets_eq name q ≡ b → (b || list_any same_as names) ≡ false → table.get (after_updates (after_update contexts name last) names last) q ≡ table.get contexts q) [
        | true ↦ λ t k. absurd (cc (k))
        | false ↦ λ t k. none_updated (after_update contexts name last) names k ∙ not_updated contexts name t
      ] refl e

  -- what waits of a context, given what is found under its name
  pub unseen_waits : (es : List (List ℕ × RoomyContext)) (names : List (List ℕ)) (o : Option RoomyContext) → list_any same_as names ≡ false → InOrder octets_cmp es → o ≡ found octets_cmp q es
      → waiting_after (as_contexts es) names last q ≡ option_map_or (λ (kept : RoomyContext). notes_of q kept.context.kept) o []
  unseen_waits es names o e h f =
      ap (notes_for q) (none_updated (as_contexts es) names e ∙ get_listed es q o h f)
      ∙ elim o as (λ (o : Option RoomyContext). notes_for q (option_map (λ (kept : RoomyContext). kept.context) o) ≡ option_map_or (λ (kept : RoomyContext). notes_of q kept.context.kept) o []) [
        | None ↦ refl
        | Some kept ↦ refl
      ]

-- ---- one name after the other

updates_more : (contexts : Contexts) (names : List (List ℕ)) (name : List ℕ) (last : ℤ) → after_updates contexts (names ++ name ∷ []) last ≡ after_update (after_updates contexts names last) name last
updates_more contexts [] name last = refl
updates_more contexts (first ∷ names) name last = updates_more (after_update contexts first last) names name last

pub one_told : (contexts : Contexts) (names : List (List ℕ)) (i : ℕ) (name : List ℕ) (last : ℤ) (tolds more : List Told) → i < length names → name ≡ get_or names i name
    → more ≡ tolds ++ told_by_name (after_updates contexts (take i names) last) name last
    → tolds ++ told_in_turn (after_updates contexts (take i names) last) (drop i names) last ≡ told_in_turn contexts names last
    → more ++ told_in_turn (after_updates contexts (take (i + 1) names) last) (drop (i + 1) names) last ≡ told_in_turn contexts names last
one_told contexts names i name last tolds more h e m k =
    let rest : Contexts → List Told = λ (cs : Contexts). told_in_turn cs (drop (i + 1) names) last in
    let now = after_updates contexts (take i names) last in
    let later : after_updates contexts (take (i + 1) names) last ≡ after_update now name last =
    ap (λ (ns : List (List ℕ)). after_updates contexts ns last) (take_more names i name h ∙ ap (λ (n : List ℕ). take i names ++ n ∷ []) (sym e))
    ∙ updates_more contexts (take i names) name last in
    ap (λ (ts : List Told). ts ++ rest (after_updates contexts (take (i + 1) names) last)) m
    ∙ (ap (λ (cs : Contexts). (tolds ++ told_by_name now name last) ++ rest cs) later
    ∙ (append_assoc tolds (told_by_name now name last) (rest (after_update now name last))
    ∙ (sym (ap (λ (ns : List (List ℕ)). tolds ++ told_in_turn now ns last) (one_dropped names i name h e)) ∙ k)))

-- ---- faults

pub fault_found : (es : List (List ℕ × RoomyContext)) (name : List ℕ) (o : Option RoomyContext) → InOrder octets_cmp es → o ≡ found octets_cmp name es
    → fault_at (as_contexts es) name ≡ option_map_or (λ (kept : RoomyContext). fault_in kept.context.kept) o (Some refusal.NoContext)
fault_found es name o h f =
    ap (λ r. option_map_or (λ (context : Context). fault_in context.kept) r (Some refusal.NoContext)) (get_listed es name o h f)
    ∙ elim o as (λ (o : Option RoomyContext). option_map_or (λ (context : Context). fault_in context.kept) (option_map (λ (kept : RoomyContext). kept.context) o) (Some refusal.NoContext) ≡ option_map_or (λ (kept : RoomyContext). fault_in kept.context.kept) o (Some refusal.NoContext)) [
      | None ↦ refl
      | Some kept ↦ refl
    ]

-- ---- drains

abbrev pub drained_entry : List ℕ × RoomyContext → List Told
drained_entry e = drain_told e.0 e.1.context.kept

drained_bare : (es : List (List ℕ × RoomyContext)) → flat_map (λ (e : List ℕ × Context). drain_told e.0 e.1.kept) (each bare es) ≡ flat_map drained_entry es
drained_bare [] = refl
drained_bare (e ∷ es) = ap (λ ts. drained_entry e ++ ts) (drained_bare es)

pub drained_listed : (es : List (List ℕ × RoomyContext)) → InOrder octets_cmp es
    → flat_map (λ (e : List ℕ × Context). drain_told e.0 e.1.kept) (table.entries (as_contexts es)) ≡ flat_map drained_entry es
drained_listed es h = ap (flat_map (λ (e : List ℕ × Context). drain_told e.0 e.1.kept)) (listed_entries es h) ∙ drained_bare es

pub one_drained : (es : List (List ℕ × RoomyContext)) (i : ℕ) (e : List ℕ × RoomyContext) (tolds more all : List Told) → i < length es → e ≡ get_or es i e
    → more ≡ tolds ++ drained_entry e → tolds ++ flat_map drained_entry (drop i es) ≡ all → more ++ flat_map drained_entry (drop (i + 1) es) ≡ all
one_drained es i e tolds more all h g m k =
    ap (λ ts. ts ++ flat_map drained_entry (drop (i + 1) es)) m
    ∙ (append_assoc tolds (drained_entry e) (flat_map drained_entry (drop (i + 1) es))
    ∙ (sym (ap (λ (xs : List (List ℕ × RoomyContext)). tolds ++ flat_map drained_entry xs) (one_dropped es i e h g)) ∙ k))

-- ---- whether something waits

abbrev pub entry_waits : List ℕ × RoomyContext → Bool
entry_waits e = waits e.1.context.kept

any_bare : (es : List (List ℕ × RoomyContext)) → list_any (λ (c : Context). waits c.kept) (each (λ e. e.1) (each bare es)) ≡ list_any entry_waits es
any_bare [] = refl
any_bare (e ∷ es) = ap (λ b. entry_waits e || b) (any_bare es)

pub any_listed : (es : List (List ℕ × RoomyContext)) → InOrder octets_cmp es → list_any (λ (c : Context). waits c.kept) (table.values (as_contexts es)) ≡ list_any entry_waits es
any_listed es h = ap (λ (xs : List (List ℕ × Context)). list_any (λ (c : Context). waits c.kept) (each (λ e. e.1) xs)) (listed_entries es h) ∙ any_bare es

pub next_waits : (es : List (List ℕ × RoomyContext)) (i : ℕ) (e : List ℕ × RoomyContext) → i < length es → e ≡ get_or es i e
    → list_any entry_waits (drop i es) ≡ (entry_waits e || list_any entry_waits (drop (i + 1) es))
next_waits es i e h g = ap (list_any entry_waits) (one_dropped es i e h g)
