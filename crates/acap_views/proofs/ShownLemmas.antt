-- What a client has been told is what a search finds, and what a change leaves of each context.
use Rattle.std.proofs.Common.{◌≡◌, ◌≢◌, ℕ, ℤ, Bool, true, false, not, cond, Option, Some, None, List, [], ◌∷◌, refl, sym, ◌∙◌, ap, subst, map as each}
use Rattle.std.specs.Cmp.{unsigned_ties, IsTotalOrder, tied_itself, first_so, second_so, nat_cmp_total}
use Rattle.std.specs.Cmp.Lexicographic.{nat_list_cmp_total}
use Rattle.std.specs.FinMap as table
use Rattle.std.specs.FinMap.{FinMap, is_sorted, find, slice_cmp-IsAntisymmetric, nat_cmp-IsAntisymmetric}
use Rattle.std.specs.FinMap.Entries.{below_all}
use Rattle.std.specs.List.{filter_map, cons_option, Contains}
use Rattle.std.specs.Option.{option_map, option_map_or, option_and_then}
use Rattle.std.specs.Ordering.{eq_by_cmp, is_eq}
use Rattle.std.specs.declared.cmp.Ordering.{Ordering}
use Rattle.std.specs.declared.cmp.Ordering.TheVariants.{Less, Equal, Greater}
use Rattle.acap_entries.specs.Orders.{octets_cmp}
use Rattle.acap_entries.specs.Store.{Store}
use Rattle.acap_entries.specs.declared.path.Path.{Path}
use Rattle.acap_ordmap.proofs.Logic.{Contains-here, Contains-there, true_from_T, Less_from_is_lt}
use Rattle.acap_notices.specs.declared.notice.Notice.{Notice}
use Rattle.acap_rights.specs.declared.realm.Realm.{Realm}
use Rattle.acap_search.specs.Fresh.{Sight, tuple_of, matches_of}
use Rattle.acap_search.specs.Matches.{Match}
use Rattle.acap_search.specs.declared.query.SearchSpec.{SearchSpec}
use Rattle.acap_search.proofs.SeenLemmas.{first_or, nowhere, either, in_filter, from_filter}
use Rattle.acap_views.specs.Changing.{sight_for, follows, changed_context, changed_occupant}
use Rattle.acap_views.specs.Contexts.{Kept, Snapshot, Live, Freed, Context, Contexts}
use Rattle.acap_views.specs.Current.{IsToldAll, IsCurrentKept, IsCurrentContext, IsCurrentOccupant}
use Rattle.acap_views.specs.Laws.{SeatsLaw, ShownLaw, ChangedLaw}
use Rattle.acap_moves.specs.Hits.{Name}
use Rattle.acap_search.specs.Tuples.{name_told}
use Rattle.acap_search.proofs.SeenLemmas.{in_map, from_map}
use Rattle.acap_views.specs.Maps.{each_kept, each_value}
use Rattle.acap_views.specs.Notices.{changed_names, event_notices, same_tuple, paths_of_both, changed_paths}
use Rattle.acap_views.specs.Seats.{Occupant}
use Rattle.acap_views.specs.Telling.{shown_now, updated_to, after_update, after_updates, kept_drained, after_drain}
use Rattle.acap_views.proofs.CurrentLemmas.{from_kept, AreCurrent, one_update}
use Rattle.acap_views.proofs.ListLemmas.{among, from_among, among_ascending, ascends}
use Rattle.acap_views.proofs.NoticeLemmas.{in_both}
use Rattle.acap_views.proofs.SameLemmas.{same_exact, same_itself}

-- ---- maps

module _ {K X Y : Type 0} {R : K → K → Ordering} (o : IsTotalOrder R) (f : X → Option Y) where
  abbrev made : K × X → Option (K × Y)
  made e = option_map (λ y. (e.0, y)) (f e.1)

  tied_none : (q k : K) (es : List (K × X)) → R q k ≡ Equal → below_all R k es ≡ true → find R q es ≡ None
  tied_none q k [] t b = refl
  tied_none q k (e ∷ es) t b = ap (λ r. cond (is_eq r) (Some e.1) (find R q es)) (o.congr q k e.0 t ∙ Less_from_is_lt _ (first_so _ _ b)) ∙ tied_none q k es t (second_so _ _ b)

  tie : (r : Ordering) → is_eq r ≡ true → r ≡ Equal
  tie Less e = absurd (cc (e))
  tie Equal e = refl
  tie Greater e = absurd (cc (e))

  find_made : (q : K) (es : List (K × X)) → is_sorted R es ≡ true → find R q (filter_map made es) ≡ option_and_then f (find R q es)
  find_made q [] s = refl
  find_made q (e ∷ es) s =
      elim (f e.1) as (λ r. f e.1 ≡ r → find R q (cons_option (option_map (λ y. (e.0, y)) r) (filter_map made es)) ≡ option_and_then f (cond (eq_by_cmp R q e.0) (Some e.1) (find R q es))) [
        | None ↦ λ n. find_made q es (second_so _ _ s) ∙ elim (eq_by_cmp R q e.0) as (λ b. eq_by_cmp R q e.0 ≡ b → option_and_then f (find R q es) ≡ option_and_then f (cond b (Some e.1) (find R q es))) [
          | true ↦ λ t. ap (option_and_then f) (tied_none q e.0 es (tie _ t) (first_so _ _ s)) ∙ sym n
          | false ↦ λ t. refl
        ] refl
        | Some y ↦ λ n. elim (eq_by_cmp R q e.0) as (λ b. cond b (Some y) (find R q (filter_map made es)) ≡ option_and_then f (cond b (Some e.1) (find R q es))) [
          | true ↦ sym n
          | false ↦ find_made q es (second_so _ _ s)
        ]
      ] refl

  pub get_kept : (m : FinMap R X) (q : K) → table.get (each_kept f m) q ≡ option_and_then f (table.get m q)
  get_kept m q = table.get-from_entries o _ q ∙ find_made q (table.entries m) (true_from_T _ (table.entries_sorted m)) ∙ ap (option_and_then f) (sym (table.get-entries m q))

always : {X Y : Type 0} (f : X → Y) (o : Option X) → option_and_then (λ x. Some (f x)) o ≡ option_map f o
always f None = refl
always f (Some x) = refl

pub get_value : {K X Y : Type 0} {R : K → K → Ordering} → IsTotalOrder R → (f : X → Y) (m : FinMap R X) (q : K) → table.get (each_value f m) q ≡ option_map f (table.get m q)
get_value o f m q = get_kept o (λ x. Some (f x)) m q ∙ always f (table.get m q)

-- ---- what has been told

told_all : (fresh : List Match) (enumerated : Bool) (kept : Kept) → IsCurrentKept fresh enumerated kept → IsToldAll fresh (shown_now kept)
told_all fresh enumerated (Snapshot shown) i = tt
told_all fresh enumerated (Live shown now pending) i = (i.fresh_now, refl)
told_all fresh enumerated Freed i = tt

module _ (store : Store) (realm : Realm) (user : List ℕ) (last : ℤ) where
  abbrev IsTold : Context → Type 0
  IsTold context = IsToldAll (matches_of store.records realm user context.sought) context.kept × (context.told ≡ last)

  is_told : (context : Context) → IsCurrentContext store realm user context → IsTold (updated_to last context)
  is_told context i = (told_all _ context.enumerated context.kept i.kept, refl)

  abbrev ToldAt : List ℕ → Contexts → Type 0
  ToldAt q contexts = (context : Context) → table.get contexts q ≡ Some context → IsTold context

  stays_told : (q name : List ℕ) (contexts : Contexts) → AreCurrent store realm user contexts → ToldAt q contexts → ToldAt q (after_update contexts name last)
  stays_told q name contexts all h =
      elim (table.get contexts name) as (λ o. table.get contexts name ≡ o → ToldAt q (option_map_or (λ (context : Context). table.insert contexts name (updated_to last context)) o contexts)) [
        | None ↦ λ e. h
        | Some context ↦ λ e c k.
            elim (eq_by_cmp octets_cmp q name) as (λ b. cond b (Some (updated_to last context)) (table.get contexts q) ≡ Some c → IsTold c) [
              | true ↦ λ l. let same : updated_to last context ≡ c = cc (l) in subst (λ (c : Context). IsTold c) same (is_told context (all name context e))
              | false ↦ λ l. h c l
            ] (sym (table.get-insert nat_list_cmp_total contexts name (updated_to last context) q) ∙ k)
      ] refl

  gets_told : (name : List ℕ) (contexts : Contexts) → AreCurrent store realm user contexts → ToldAt name (after_update contexts name last)
  gets_told name contexts all =
      elim (table.get contexts name) as (λ o. table.get contexts name ≡ o → ToldAt name (option_map_or (λ (context : Context). table.insert contexts name (updated_to last context)) o contexts)) [
        | None ↦ λ e c k. absurd (cc (e, k))
        | Some context ↦ λ e c k.
            let own : eq_by_cmp octets_cmp name name ≡ true = ap is_eq (tied_itself nat_list_cmp_total name) in
            let new : Some (updated_to last context) ≡ Some c = ap (λ b. cond b (Some (updated_to last context)) (table.get contexts name)) (sym own) ∙ (sym (table.get-insert nat_list_cmp_total contexts name (updated_to last context) name) ∙ k) in
            let same : updated_to last context ≡ c = cc (new) in
            subst (λ (c : Context). IsTold c) same (is_told context (all name context e))
      ] refl

  all_stay : (q : List ℕ) (names : List (List ℕ)) (contexts : Contexts) → AreCurrent store realm user contexts → ToldAt q contexts → ToldAt q (after_updates contexts names last)
  all_stay q [] contexts all h = h
  all_stay q (name ∷ names) contexts all h = all_stay q names (after_update contexts name last) (one_update store realm user contexts name last all) (stays_told q name contexts all h)

  named_told : (q : List ℕ) (names : List (List ℕ)) (contexts : Contexts) → AreCurrent store realm user contexts → Contains names q → ToldAt q (after_updates contexts names last)
  named_told q [] contexts all h = nowhere q h
  named_told q (name ∷ names) contexts all h =
      let next = one_update store realm user contexts name last all in
      either (first_or name q names h)
      (λ same. all_stay q names (after_update contexts name last) next (subst (λ p. ToldAt p (after_update contexts name last)) same (gets_told name contexts all)))
      (λ l. named_told q names (after_update contexts name last) next l)

other_name : (q name : List ℕ) → (name ≡ q → ⊥) → eq_by_cmp octets_cmp q name ≡ false
other_name q name n =
    elim (octets_cmp q name) as (λ r. octets_cmp q name ≡ r → is_eq r ≡ false) [
      | Less ↦ λ e. refl
      | Equal ↦ λ e. absurd (n (sym (slice_cmp-IsAntisymmetric nat_cmp-IsAntisymmetric q name e)))
      | Greater ↦ λ e. refl
    ] refl

not_named : (contexts : Contexts) (q name : List ℕ) (last : ℤ) → (name ≡ q → ⊥) → table.get (after_update contexts name last) q ≡ table.get contexts q
not_named contexts q name last n =
    elim (table.get contexts name) as (λ o. table.get (option_map_or (λ (context : Context). table.insert contexts name (updated_to last context)) o contexts) q ≡ table.get contexts q) [
      | None ↦ refl
      | Some context ↦ table.get-insert nat_list_cmp_total contexts name (updated_to last context) q ∙ ap (λ b. cond b (Some (updated_to last context)) (table.get contexts q)) (other_name q name n)
    ]

none_named : (contexts : Contexts) (names : List (List ℕ)) (q : List ℕ) (last : ℤ) → (Contains names q → ⊥) → table.get (after_updates contexts names last) q ≡ table.get contexts q
none_named contexts [] q last n = refl
none_named contexts (name ∷ names) q last n =
    none_named (after_update contexts name last) names q last (λ k. n (Contains-there name q names k))
    ∙ not_named contexts q name last (λ e. n (subst (λ z. Contains (name ∷ names) z) e (Contains-here name names)))

drained_told : (store : Store) (realm : Realm) (user : List ℕ) (old new : Context) (kept : Kept) → IsCurrentKept (matches_of store.records realm user old.sought) old.enumerated kept → old.kept ≡ kept
    → kept_drained old kept ≡ Some new → IsToldAll (matches_of store.records realm user new.sought) new.kept
drained_told store realm user old new (Snapshot shown) i k e =
    let same : old ≡ new = cc (e) in
    subst (λ (c : Context). IsToldAll (matches_of store.records realm user c.sought) c.kept) same (subst (λ kept. IsToldAll (matches_of store.records realm user old.sought) kept) (sym k) tt)
drained_told store realm user old new (Live shown now pending) i k e =
    let same : (record old { kept = Live now now [] }) ≡ new = cc (e) in
    subst (λ (c : Context). IsToldAll (matches_of store.records realm user c.sought) c.kept) same (i.fresh_now, refl)
drained_told store realm user old new Freed i k e = absurd (cc (e))

after_drained : (store : Store) (realm : Realm) (occupant : Occupant) (name : List ℕ) (context : Context) → IsCurrentOccupant store realm occupant → table.get (each_kept after_drain occupant.contexts) name ≡ Some context
    → IsToldAll (matches_of store.records realm occupant.user context.sought) context.kept
after_drained store realm occupant name context i e =
    let w = from_kept nat_list_cmp_total after_drain occupant.contexts name context e in
    drained_told store realm occupant.user w.1.0 context w.1.0.kept (i.each w.0 w.1.0 w.1.1.0).kept refl w.1.1.1

snapshot_follows : (notices : List Notice) (after : List Match) (kept : Kept) (shown : List Match) → kept ≡ Snapshot shown → follows notices after kept ≡ kept
snapshot_follows notices after kept shown e = ap (follows notices after) e ∙ sym e

snapshot_same : (realm : Realm) (old new : Store) (user : List ℕ) (context : Context) (shown : List Match) → context.kept ≡ Snapshot shown → changed_context realm old new user context ≡ context
snapshot_same realm old new user context shown e =
    ap (λ kept. record context { kept = kept })
    (snapshot_follows (event_notices context.enumerated context.sought (sight_for realm old user context.sought) (sight_for realm new user context.sought))
    (matches_of new.records realm user context.sought) context.kept shown e)

pub shown_law : ShownLaw
shown_law = record {
  told = λ store realm occupant names name last context i h e. named_told store realm occupant.user last name names occupant.contexts i.each h context e;
  unnamed = λ contexts names name last n. none_named contexts names name last n;
  drained = after_drained;
  drained_live = λ contexts name context shown now pending k e.
      get_kept nat_list_cmp_total after_drain contexts name ∙ (ap (option_and_then after_drain) e ∙ ap (kept_drained context) k);
  drained_freed = λ contexts name context k e.
      get_kept nat_list_cmp_total after_drain contexts name ∙ (ap (option_and_then after_drain) e ∙ ap (kept_drained context) k);
  drained_snapshot = λ contexts name context shown k e.
      get_kept nat_list_cmp_total after_drain contexts name ∙ (ap (option_and_then after_drain) e ∙ ap (kept_drained context) k);
  changed_snapshot = λ old new realm occupant name context shown k e.
      get_value nat_list_cmp_total (changed_context realm old new occupant.user) occupant.contexts name
      ∙ (ap (option_map (changed_context realm old new occupant.user)) e ∙ ap Some (snapshot_same realm old new occupant.user context shown k));
}

-- ---- what has changed

abbrev differs : SearchSpec → Sight → Sight → Path → Bool
differs sought old new path = not (same_tuple (tuple_of old sought path) (tuple_of new sought path))

changed_differs : (sought : SearchSpec) (old new : Sight) (path : Path) → Contains (changed_paths sought old new) path → tuple_of old sought path ≢ tuple_of new sought path
changed_differs sought old new path h e =
    let kept = from_filter (differs sought old new) (paths_of_both old new) path h in
    cc (kept.1, ap not (same_itself _ _ e))

differs_changed : (sought : SearchSpec) (old new : Sight) (path : Path) → tuple_of old sought path ≢ tuple_of new sought path → Contains (changed_paths sought old new) path
differs_changed sought old new path n =
    elim (same_tuple (tuple_of old sought path) (tuple_of new sought path)) as (λ b. same_tuple (tuple_of old sought path) (tuple_of new sought path) ≡ b → Contains (changed_paths sought old new) path) [
      | true ↦ λ e. absurd (n (same_exact _ _ e))
      | false ↦ λ e. in_filter (differs sought old new) (paths_of_both old new) path (in_both old new sought path e) (ap not e)
    ] refl

named_from : (sought : SearchSpec) (old new : Sight) (name : Name) → Contains (changed_names sought old new) name → (path : Path) × (Contains (changed_paths sought old new) path × (name_told sought.depth path ≡ name))
named_from sought old new name h =
    let told : List Name = each (name_told sought.depth) (changed_paths sought old new) in
    from_map (name_told sought.depth) (changed_paths sought old new) name (from_among told name (sym (among_ascending name told) ∙ among (changed_names sought old new) name h))

named_to : (sought : SearchSpec) (old new : Sight) (name : Name) (path : Path) → Contains (changed_paths sought old new) path → name_told sought.depth path ≡ name → Contains (changed_names sought old new) name
named_to sought old new name path h e =
    let told : List Name = each (name_told sought.depth) (changed_paths sought old new) in
    let in_it : Contains told name = subst (λ n. Contains told n) e (in_map (name_told sought.depth) (changed_paths sought old new) path h) in
    from_among (changed_names sought old new) name (among_ascending name told ∙ among told name in_it)

pub changed_law : ChangedLaw
changed_law = record {
  exact = λ sought old new path. (changed_differs sought old new path, differs_changed sought old new path);
  named = λ sought old new name. (named_from sought old new name, λ w. named_to sought old new name w.0 w.1.0 w.1.1);
  ascending = λ sought old new. ascends (each (name_told sought.depth) (changed_paths sought old new));
  seats = λ realm old new seats seat. get_value nat_cmp_total (changed_occupant realm old new) seats seat;
  contexts = λ realm old new occupant name. get_value nat_list_cmp_total (changed_context realm old new occupant.user) occupant.contexts name;
}

-- ---- seats

pub seats_law : SeatsLaw
seats_law = record {
  own = λ seats seat occupant contexts e.
      ap (λ o. table.get (option_map_or (λ (occupant : Occupant). table.insert seats seat (record occupant { contexts = contexts })) o seats) seat) e
      ∙ (table.get-insert nat_cmp_total seats seat (record occupant { contexts = contexts }) seat
      ∙ ap (λ r. cond (is_eq r) (Some (record occupant { contexts = contexts })) (table.get seats seat)) (tied_itself nat_cmp_total seat));
  others = λ seats seat other contexts n.
      elim (table.get seats seat) as (λ o. table.get (option_map_or (λ (occupant : Occupant). table.insert seats seat (record occupant { contexts = contexts })) o seats) other ≡ table.get seats other) [
        | None ↦ refl
        | Some occupant ↦ table.get-insert nat_cmp_total seats seat (record occupant { contexts = contexts }) other
            ∙ ap (λ b. cond b (Some (record occupant { contexts = contexts })) (table.get seats other)) (sym (unsigned_ties other seat) ∙ n)
      ];
  empty = λ seats seat contexts e. ap (λ o. option_map_or (λ (occupant : Occupant). table.insert seats seat (record occupant { contexts = contexts })) o seats) e;
}
