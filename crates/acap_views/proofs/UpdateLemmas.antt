-- To find matches by where they stood is to find them by their names.
use Rattle.std.proofs.Common.{◌≡◌, ℕ, zero, suc, ◌+◌, ◌<◌, Bool, true, false, not, cond, Option, Some, None, List, [], ◌∷◌, ◌++◌, length, is_some, refl, sym, ◌∙◌, ap, subst, arith}
use Rattle.std.specs.FinMap.Entries.{by_order}
use Rattle.std.specs.List.{filter, find, insert, remove, slice_get, Contains}
use Rattle.std.specs.Borrow.{Bor}
use Rattle.std.specs.Option.{option_map, option_copied}
use Rattle.std.specs.Ordering.{eq_by_cmp, is_eq, is_lt, ordering_then, ordering_reverse}
use Rattle.std.specs.declared.cmp.Ordering.{Ordering}
use Rattle.std.specs.declared.cmp.Ordering.TheVariants.{Less, Equal, Greater}
use Rattle.std.proofs.lemmas.Bool.{not-true}
use Rattle.acap_ordmap.proofs.RankLaws.{rank_holds}
use Rattle.acap_ordmap.proofs.RankLemmas.{rank_cons}
use Rattle.acap_entries.specs.Orders.{octets_eq, octets_cmp}
use Rattle.acap_ordmap.specs.Ranks.{Ascending, rank_of, item_at, with_item, without_item}
use Rattle.acap_ordmap.proofs.Logic.{Equal_from_is_eq, Contains-here, Contains-there}
use Rattle.acap_moves.specs.Hits.{Name, put, put_some, rank, found, spot}
use Rattle.acap_moves.specs.Moves.{Undo, taken, after_move, undo_of, undone, all_undone, without, put_back}
use Rattle.acap_moves.specs.Notices.{notice_at, notice_between}
use Rattle.acap_moves.proofs.ListSteps.{Absent, spot_absent, spot_put}
use Rattle.acap_search.specs.Matches.{Match, match_cmp}
use Rattle.acap_search.specs.Totals.{match_total}
use Rattle.acap_search.proofs.SeenLemmas.{first_or, nowhere, either, from_filter}
use Rattle.acap_views.specs.Notices.{told_cmp, told_shape}
use Rattle.acap_views.specs.EntryUpdates.{EntryUpdate, placed_among, with_match, without_old, with_exchange, old_place, stands, undo_by, from_one, shift_notices, after_shift, move_by}

-- ---- lists that ascend

abbrev pub Rises : List Match → Type 0
Rises [] = Unit {0}
Rises (h ∷ hs) = ((x : Match) → Contains hs x → match_cmp h x ≡ Less) × Rises hs

pub rises : (hits : List Match) → Ascending match_cmp hits → Rises hits
rises [] a = tt
rises (h ∷ hs) a = (
  λ x k. subst (λ y. match_cmp h y ≡ Less) k.2 (a.rises 0 (suc k.0) x (omega arith) (omega (arith, k.1))),
  rises hs (record { rises = λ i j d p q. a.rises (suc i) (suc j) d (omega (arith, p)) (omega (arith, q)) }),
)

-- whether a match is found by its name or by where it stood is the same
abbrev pub Agree : Name → Match → List Match → Type 0
Agree name old hits = (h : Match) → Contains hits h → octets_eq name h.row.name ≡ eq_by_cmp match_cmp old h

abbrev pub Untied : Match → List Match → Type 0
Untied old hits = (h : Match) → Contains hits h → eq_by_cmp match_cmp old h ≡ false

-- what comes after a match that stood there didn't
pub untied_behind : (old h : Match) (hs : List Match) → eq_by_cmp match_cmp old h ≡ true → ((x : Match) → Contains hs x → match_cmp h x ≡ Less) → Untied old hs
untied_behind old h hs e b x k = ap is_eq (match_total.congr old h x (Equal_from_is_eq _ e) ∙ b x k)

pub all_kept : (p : Match → Bool) (xs : List Match) → ((x : Match) → Contains xs x → p x ≡ true) → filter p xs ≡ xs
all_kept p [] h = refl
all_kept p (x ∷ xs) h = rw (h x (Contains-here x xs)) (ap (λ t. x ∷ t) (all_kept p xs (λ y k. h y (Contains-there x y xs k))))

none_found : (p : Match → Bool) (xs : List Match) → ((x : Match) → Contains xs x → p x ≡ false) → find p xs ≡ None
none_found p [] h = refl
none_found p (x ∷ xs) h = rw (h x (Contains-here x xs)) (none_found p xs (λ y k. h y (Contains-there x y xs k)))

pub where_found : (p : Match → Bool) (xs : List Match) (y : Match) → find p xs ≡ Some y → Contains xs y × (p y ≡ true)
where_found p [] y e = absurd (cc (e))
where_found p (x ∷ xs) y e = elim (p x) as (λ b. p x ≡ b → cond b (Some x) (find p xs) ≡ Some y → Contains (x ∷ xs) y × (p y ≡ true)) [
  | true ↦ λ t s. let same : x ≡ y = cc (s) in (subst (λ z. Contains (x ∷ xs) z) same (Contains-here x xs), ap p (sym same) ∙ t)
  | false ↦ λ t s. let r = where_found p xs y s in (Contains-there x y xs r.0, r.1)
] refl e

-- ---- what is taken out

abbrev next : ℕ × Match → ℕ × Match
next s = (suc s.0, s.1)

abbrev counted : Match → List Match → Match → ℕ × Match
counted old hs x = (rank_of match_cmp old hs, x)

abbrev pub counted_as : ℕ → Match → ℕ × Match
counted_as place found = (place, found)

abbrev pub place_in : ℕ × Match → ℕ
place_in s = s.0

within : (xs : List Match) (i : ℕ) (x : Match) → slice_get xs i ≡ Some x → i < length xs
within [] i x e = cc
within (y ∷ xs) zero x e = omega arith
within (y ∷ xs) (suc i) x e = omega (arith, within xs i x e)

-- fewer stand before a match that is there than there are
pub stood_within : (old x : Match) (hits : List Match) → Ascending match_cmp hits → item_at match_cmp old hits ≡ Some x → rank_of match_cmp old hits < length hits
stood_within old x hits a e = within hits (rank_of match_cmp old hits) x ((rank_holds match_cmp match_total).there old x hits a e)

taken_is : (name : Name) (old : Match) (hits : List Match) → Rises hits → Agree name old hits → taken told_shape name hits ≡ without_old old hits
unfolding taken without_item
taken_is name old [] r a = refl
taken_is name old (h ∷ hs) r a = rw (a h (Contains-here h hs)) (
    elim (eq_by_cmp match_cmp old h) as (λ b. eq_by_cmp match_cmp old h ≡ b → cond b hs (h ∷ taken told_shape name hs) ≡ cond (not b) (h ∷ filter (λ x. not (eq_by_cmp match_cmp old x)) hs) (filter (λ x. not (eq_by_cmp match_cmp old x)) hs)) [
      | true ↦ λ e. sym (all_kept _ hs (λ x k. ap not (untied_behind old h hs e r.0 x k)))
      | false ↦ λ e. ap (λ t. h ∷ t) (taken_is name old hs r.1 (λ x k. a x (Contains-there h x hs k)))
    ] refl)

ranks_later : (old h x : Match) (hs : List Match) → eq_by_cmp match_cmp old x ≡ true → match_cmp h x ≡ Less → rank_of match_cmp old (h ∷ hs) ≡ suc (rank_of match_cmp old hs)
ranks_later old h x hs e b =
    let after : match_cmp old h ≡ Greater = match_total.congr old x h (Equal_from_is_eq _ e) ∙ (match_total.antisymm x h ∙ ap ordering_reverse b) in
    let before : match_cmp h old ≡ Less = match_total.antisymm h old ∙ ap ordering_reverse after in
    let first : cond {A = ℕ} (is_lt (match_cmp h old)) 1 0 ≡ 1 = ap (λ o. cond {A = ℕ} (is_lt o) 1 0) before in
    rank_cons match_cmp old h hs ∙ omega (arith, first)

none_before : (old : Match) (hs : List Match) → ((x : Match) → Contains hs x → match_cmp old x ≡ Less) → rank_of match_cmp old hs ≡ 0
unfolding rank_of
none_before old [] l = refl
none_before old (x ∷ xs) l =
    let behind : match_cmp x old ≡ Greater = match_total.antisymm x old ∙ ap ordering_reverse (l x (Contains-here x xs)) in
    let first : cond {A = ℕ} (is_lt (match_cmp x old)) 1 0 ≡ 0 = ap (λ o. cond {A = ℕ} (is_lt o) 1 0) behind in
    rank_cons match_cmp old x xs ∙ omega (arith, first, none_before old xs (λ y k. l y (Contains-there x y xs k)))

none_less : (old h : Match) (hs : List Match) → eq_by_cmp match_cmp old h ≡ true → ((x : Match) → Contains hs x → match_cmp h x ≡ Less) → rank_of match_cmp old (h ∷ hs) ≡ 0
none_less old h hs e b =
    let own : match_cmp h old ≡ Equal = match_total.antisymm h old ∙ ap ordering_reverse (Equal_from_is_eq _ e) in
    let first : cond {A = ℕ} (is_lt (match_cmp h old)) 1 0 ≡ 0 = ap (λ o. cond {A = ℕ} (is_lt o) 1 0) own in
    rank_cons match_cmp old h hs ∙ omega (arith, first, none_before old hs (λ x k. match_total.congr old h x (Equal_from_is_eq _ e) ∙ b x k))

-- how many stand before what is found after the first match
later : (old h : Match) (hs : List Match) → ((x : Match) → Contains hs x → match_cmp h x ≡ Less) → (o : Option Match) → find (eq_by_cmp match_cmp old) hs ≡ o
    → option_map next (option_map (counted old hs) o) ≡ option_map (counted old (h ∷ hs)) o
later old h hs b None e = refl
later old h hs b (Some x) e =
    let w = where_found (eq_by_cmp match_cmp old) hs x e in
    ap (λ n. Some (n, x)) (sym (ranks_later old h x hs w.1 (b x w.0)))

-- a match found by its name is that which stood there, and as many stand before it
found_is : (name : Name) (old : Match) (hits : List Match) → Rises hits → Agree name old hits → found told_shape name hits ≡ old_place old hits
unfolding found item_at
found_is name old [] r a = refl
found_is name old (h ∷ hs) r a = rw (a h (Contains-here h hs)) (
    elim (eq_by_cmp match_cmp old h) as (λ b. eq_by_cmp match_cmp old h ≡ b
    → cond {A = Option (ℕ × Match)} b (Some (zero, h)) (option_map next (found told_shape name hs))
    ≡ option_map (counted old (h ∷ hs)) (cond b (Some h) (find (eq_by_cmp match_cmp old) hs))) [
      | true ↦ λ e. ap (λ n. Some (n, h)) (sym (none_less old h hs e r.0))
      | false ↦ λ e.
          ap (λ o. option_map next o) (found_is name old hs r.1 (λ x k. a x (Contains-there h x hs k)))
          ∙ later old h hs r.0 (find (eq_by_cmp match_cmp old) hs) refl
    ] refl)

-- ---- what is put in

abbrev pub Unlike : Match → List Match → Type 0
Unlike come hits = (h : Match) → Contains hits h → match_cmp come h ≡ Equal → ⊥

put_is : (come : Match) (hits : List Match) → Unlike come hits → put told_shape come hits ≡ with_item match_cmp come hits
unfolding put with_item
put_is come [] u = refl
put_is come (h ∷ hs) u = elim (match_cmp come h) as (λ o. match_cmp come h ≡ o
    → by_order (ordering_then o (octets_cmp come.row.name h.row.name)) (come ∷ h ∷ hs) (come ∷ h ∷ hs) (h ∷ put told_shape come hs)
    ≡ by_order o (come ∷ h ∷ hs) (h ∷ hs) (h ∷ with_item match_cmp come hs)) [
      | Less ↦ λ e. refl
      | Equal ↦ λ e. absurd (u h (Contains-here h hs) e)
      | Greater ↦ λ e. ap (λ t. h ∷ t) (put_is come hs (λ x k. u x (Contains-there h x hs k)))
    ] refl

all_behind : (come h : Match) (hs : List Match) → match_cmp come h ≡ Less → ((x : Match) → Contains hs x → match_cmp h x ≡ Less) → (x : Match) → Contains (h ∷ hs) x → match_cmp come x ≡ Less
all_behind come h hs e b x k = either (first_or h x hs k) (λ same. ap (match_cmp come) (sym same) ∙ e) (λ l. match_total.trans come h x e (b x l))

rank_is : (come : Match) (hits : List Match) → Rises hits → Unlike come hits → rank told_shape come hits ≡ rank_of match_cmp come hits
unfolding rank rank_of
rank_is come [] r u = refl
rank_is come (h ∷ hs) r u = elim (match_cmp come h) as (λ o. match_cmp come h ≡ o
    → by_order (ordering_then o (octets_cmp come.row.name h.row.name)) 0 0 (suc (rank told_shape come hs)) ≡ rank_of match_cmp come (h ∷ hs)) [
      | Less ↦ λ e. sym (none_before come (h ∷ hs) (all_behind come h hs e r.0))
      | Equal ↦ λ e. absurd (u h (Contains-here h hs) e)
      | Greater ↦ λ e.
          let before : match_cmp h come ≡ Less = match_total.antisymm h come ∙ ap ordering_reverse e in
          ap suc (rank_is come hs r.1 (λ x k. u x (Contains-there h x hs k)))
          ∙ sym (rank_cons match_cmp come h hs ∙ ap (λ q. cond (is_lt q) 1 0 + rank_of match_cmp come hs) before ∙ omega arith)
    ] refl

-- ---- one entry

rises_without : (old : Match) (hits : List Match) → Rises hits → Rises (without_old old hits)
unfolding without_item
rises_without old [] r = tt
rises_without old (h ∷ hs) r = elim (eq_by_cmp match_cmp old h) as (λ b. Rises (cond (not b) (h ∷ filter (λ x. not (eq_by_cmp match_cmp old x)) hs) (filter (λ x. not (eq_by_cmp match_cmp old x)) hs))) [
  | true ↦ rises_without old hs r.1
  | false ↦ (λ x k. r.0 x (from_filter (λ y. not (eq_by_cmp match_cmp old y)) hs x k).0, rises_without old hs r.1)
]

pub left_of : (old : Match) (hits : List Match) (x : Match) → Contains (without_old old hits) x → Contains hits x × (eq_by_cmp match_cmp old x ≡ false)
unfolding without_item
left_of old hits x k = let r = from_filter (λ y. not (eq_by_cmp match_cmp old y)) hits x k in (r.0, not-true _ r.1)

absent_by : (name : Name) (hits : List Match) → ((x : Match) → Contains hits x → octets_eq name x.row.name ≡ false) → Absent told_shape name hits
unfolding Absent
absent_by name [] n = tt
absent_by name (h ∷ hs) n = (n h (Contains-here h hs), absent_by name hs (λ x k. n x (Contains-there h x hs k)))

unequal : (o : Ordering) → (o ≡ Equal → ⊥) → is_eq o ≡ false
unequal Less n = refl
unequal Equal n = absurd (n refl)
unequal Greater n = refl

-- what comes has the entry's name, and nothing else stands where it is put
pub record IsApt (shift : EntryUpdate) (hits : List Match) : Type 0 where
  pub rises : Rises hits
  pub agree : Agree shift.name shift.old hits
  pub named : (come : Match) → shift.come ≡ Some come → come.row.name ≡ shift.name
  pub unlike : (come : Match) → shift.come ≡ Some come → Unlike come (without_old shift.old hits)

module _ (shift : EntryUpdate) (hits : List Match) (apt : IsApt shift hits) where
  left : taken told_shape shift.name hits ≡ without_old shift.old hits
  left = taken_is shift.name shift.old hits apt.rises apt.agree

  absent : Absent told_shape shift.name (without_old shift.old hits)
  absent = absent_by shift.name (without_old shift.old hits) (λ x k. let r = left_of shift.old hits x k in apt.agree x r.0 ∙ r.1)

  with_is : (come : Option Match) → ((found : Match) → come ≡ Some found → Unlike found (without_old shift.old hits))
      → put_some told_shape come (without_old shift.old hits) ≡ with_match come (without_old shift.old hits)
  unfolding put_some
  with_is None u = refl
  with_is (Some found) u = put_is found (without_old shift.old hits) (u found refl)

  pub shift_is : after_shift shift hits ≡ after_move told_shape (move_by shift) hits
  unfolding after_move
  shift_is = sym (ap (put_some told_shape shift.come) left ∙ with_is shift.come apt.unlike)

  free : (found : Match) → Unlike found (without_old shift.old hits) → stands shift.old (Some found) hits ≡ Some (rank_of match_cmp found (without_old shift.old hits), found)
  unfolding item_at
  free found u = ap (λ (o : Option Match). cond (is_some o) None (Some (rank_of match_cmp found (without_old shift.old hits), found)))
      (none_found (eq_by_cmp match_cmp found) (without_old shift.old hits) (λ x k. unequal (match_cmp found x) (u x k)))

  pub finds_place : (come : Option Match) → ((found : Match) → come ≡ Some found → Unlike found (without_old shift.old hits))
      → option_map (λ s. s.1) (from_one (stands shift.old come hits)) ≡ come
  finds_place None u = refl
  finds_place (Some found) u = ap (λ (o : Option (ℕ × Match)). option_map (λ s. s.1) (from_one o)) (free found (u found refl))

  places_are : (come : Option Match) → ((found : Match) → come ≡ Some found → Unlike found (without_old shift.old hits))
      → option_map (λ found. rank told_shape found (taken told_shape shift.name hits)) come ≡ option_map place_in (stands shift.old come hits)
  places_are None u = refl
  places_are (Some found) u =
      ap Some (ap (rank told_shape found) left ∙ rank_is found (without_old shift.old hits) (rises_without shift.old hits apt.rises) (u found refl))
      ∙ ap (λ (o : Option (ℕ × Match)). option_map place_in o) (sym (free found (u found refl)))

  pub undo_is : undo_by shift.old shift.come hits ≡ undo_of told_shape (move_by shift) hits
  undo_is = λ i. record { gone = sym (found_is shift.name shift.old hits apt.rises apt.agree) i; come = sym (places_are shift.come apt.unlike) i }

  spot_after : (come : Option Match) → ((found : Match) → come ≡ Some found → found.row.name ≡ shift.name) → ((found : Match) → come ≡ Some found → Unlike found (without_old shift.old hits))
      → spot told_shape shift.name (put_some told_shape come (without_old shift.old hits)) ≡ from_one (stands shift.old come hits)
  unfolding put_some
  spot_after None n u = spot_absent told_shape shift.name (without_old shift.old hits) absent
  spot_after (Some found) n u =
      spot_put told_shape shift.name found (without_old shift.old hits) (n found refl) absent
      ∙ (ap (λ m. Some (m + 1, found)) (rank_is found (without_old shift.old hits) (rises_without shift.old hits apt.rises) (u found refl))
      ∙ ap from_one (sym (free found (u found refl))))

  pub told_is : (enumerated : Bool) → shift_notices enumerated shift hits ≡ notice_at told_shape enumerated shift.name hits (after_move told_shape (move_by shift) hits)
  unfolding spot after_move
  told_is enumerated = sym (
      ap (λ place. notice_between told_shape enumerated shift.name place (spot told_shape shift.name (after_move told_shape (move_by shift) hits))) (ap from_one (found_is shift.name shift.old hits apt.rises apt.agree))
      ∙ ap (notice_between told_shape enumerated shift.name (from_one (old_place shift.old hits)))
      (ap (λ es. spot told_shape shift.name (put_some told_shape shift.come es)) left ∙ spot_after shift.come apt.named apt.unlike))

-- ---- taken back

back_later : (o : Option (ℕ × Match)) (e : Match) (es : List Match) → put_back (option_map next o) (e ∷ es) ≡ e ∷ put_back o es
back_later None e es = refl
back_later (Some s) e es = refl

back_taken : (old : Match) (hits : List Match) → Rises hits → put_back (old_place old hits) (without_old old hits) ≡ hits
unfolding item_at without_item
back_taken old [] r = refl
back_taken old (h ∷ hs) r = elim (eq_by_cmp match_cmp old h) as (λ b. eq_by_cmp match_cmp old h ≡ b
    → put_back (option_map (counted old (h ∷ hs)) (cond b (Some h) (find (eq_by_cmp match_cmp old) hs)))
    (cond (not b) (h ∷ filter (λ x. not (eq_by_cmp match_cmp old x)) hs) (filter (λ x. not (eq_by_cmp match_cmp old x)) hs)) ≡ h ∷ hs) [
      | true ↦ λ e.
          ap (λ n. insert (filter (λ x. not (eq_by_cmp match_cmp old x)) hs) n h) (none_less old h hs e r.0)
          ∙ ap (λ t. h ∷ t) (all_kept _ hs (λ x k. ap not (untied_behind old h hs e r.0 x k)))
      | false ↦ λ e.
          ap (λ o. put_back o (h ∷ filter (λ x. not (eq_by_cmp match_cmp old x)) hs)) (sym (later old h hs r.0 (find (eq_by_cmp match_cmp old) hs) refl))
          ∙ (back_later (old_place old hs) h (without_old old hs) ∙ ap (λ t. h ∷ t) (back_taken old hs r.1))
    ] refl

unlike_of : (come : Match) (hits : List Match) → find (eq_by_cmp match_cmp come) hits ≡ None → Unlike come hits
unlike_of come [] n x k e = nowhere x k
unlike_of come (h ∷ hs) n x k e = elim (eq_by_cmp match_cmp come h) as (λ b. eq_by_cmp match_cmp come h ≡ b → cond b (Some h) (find (eq_by_cmp match_cmp come) hs) ≡ None → ⊥) [
  | true ↦ λ t m. cc (m)
  | false ↦ λ t m. either (first_or h x hs k) (λ same. cc (sym t ∙ (ap (λ y. eq_by_cmp match_cmp come y) same ∙ ap is_eq e))) (λ l. unlike_of come hs m x l e)
] refl n

removed_told : (come : Match) (hits : List Match) → remove (put told_shape come hits) (rank told_shape come hits) ≡ hits
unfolding put rank
removed_told come [] = refl
removed_told come (h ∷ hs) = elim (told_cmp come h) as (λ o. remove (by_order o (come ∷ h ∷ hs) (come ∷ h ∷ hs) (h ∷ put told_shape come hs)) (by_order o 0 0 (suc (rank told_shape come hs))) ≡ h ∷ hs) [
  | Less ↦ refl
  | Equal ↦ refl
  | Greater ↦ ap (λ t. h ∷ t) (removed_told come hs)
]

removed_put : (come : Match) (hits : List Match) → Rises hits → Unlike come hits → remove (with_item match_cmp come hits) (rank_of match_cmp come hits) ≡ hits
removed_put come hits r u =
    ap (λ es. remove es (rank_of match_cmp come hits)) (sym (put_is come hits u))
    ∙ (ap (λ n. remove (put told_shape come hits) n) (sym (rank_is come hits r u)) ∙ removed_told come hits)

-- one that ties with what is put in stays, and nothing is put in
with_tied : (come : Match) (hits : List Match) (x : Match) → Ascending match_cmp hits → find (eq_by_cmp match_cmp come) hits ≡ Some x → with_item match_cmp come hits ≡ hits
unfolding item_at
with_tied come hits x a e = (rank_holds match_cmp match_total).put_tied come x hits a e

without_come : (come : Match) (es : List Match) → Ascending match_cmp es → (o : Option Match) → find (eq_by_cmp match_cmp come) es ≡ o
    → without (option_map place_in (cond (is_some o) None (Some (rank_of match_cmp come es, come)))) (with_item match_cmp come es) ≡ es
without_come come es a None e = removed_put come es (rises es a) (unlike_of come es e)
without_come come es a (Some x) e = with_tied come es x a e

without_stands : (old : Match) (come : Option Match) (hits : List Match) → Ascending match_cmp hits
    → without (option_map place_in (stands old come hits)) (with_exchange old come hits) ≡ without_old old hits
unfolding item_at
without_stands old None hits a = refl
without_stands old (Some found) hits a = without_come found (without_old old hits) ((rank_holds match_cmp match_total).after_take old hits a) _ refl

pub undone_is : (old : Match) (come : Option Match) (hits : List Match) → Ascending match_cmp hits → undone (undo_by old come hits) (with_exchange old come hits) ≡ hits
undone_is old come hits a = ap (put_back (old_place old hits)) (without_stands old come hits a) ∙ back_taken old hits (rises hits a)

-- ---- what the code does

pub with_tied_if : (come : Match) (hits : List Match) → Ascending match_cmp hits → is_some (item_at match_cmp come hits) ≡ true → with_item match_cmp come hits ≡ hits
with_tied_if come hits a e = elim (item_at match_cmp come hits) as (λ o. item_at match_cmp come hits ≡ o → is_some o ≡ true → with_item match_cmp come hits ≡ hits) [
  | None ↦ λ n s. absurd (cc (s))
  | Some x ↦ λ n s. (rank_holds match_cmp match_total).put_tied come x hits a n
] refl e

one_more : (come : Match) (hits : List Match) → Unlike come hits → length (with_item match_cmp come hits) ≡ suc (length hits)
unfolding with_item
one_more come [] u = refl
one_more come (h ∷ hs) u = elim (match_cmp come h) as (λ o. match_cmp come h ≡ o → length (by_order o (come ∷ h ∷ hs) (h ∷ hs) (h ∷ with_item match_cmp come hs)) ≡ suc (suc (length hs))) [
  | Less ↦ λ e. refl
  | Equal ↦ λ e. absurd (u h (Contains-here h hs) e)
  | Greater ↦ λ e. ap suc (one_more come hs (λ x k. u x (Contains-there h x hs k)))
] refl

pub counted_more : (come : Match) (hits : List Match) → is_some (item_at match_cmp come hits) ≡ false → length (with_item match_cmp come hits) ≡ suc (length hits)
unfolding item_at
counted_more come hits e = elim (find (eq_by_cmp match_cmp come) hits) as (λ o. find (eq_by_cmp match_cmp come) hits ≡ o → is_some o ≡ false → length (with_item match_cmp come hits) ≡ suc (length hits)) [
  | None ↦ λ n s. one_more come hits (unlike_of come hits n)
  | Some x ↦ λ n s. absurd (cc (s))
] refl e

pub undone_last : (undos : List (Undo Match)) (undo : Undo Match) (now : List Match) → all_undone (undos ++ undo ∷ []) now ≡ all_undone undos (undone undo now)
undone_last [] undo now = refl
undone_last (u ∷ us) undo now = ap (undone u) (undone_last us undo now)

pub some_copied : (o : Option (Bor Match)) (p : Option Match) → option_copied o ≡ p → is_some p ≡ is_some o
some_copied None p e = ap is_some (sym e)
some_copied (Some x) p e = ap is_some (sym e)

placed_if : (b : Bool) (n : ℕ) (found : Match) → option_map (λ place. counted_as place found) (option_map place_in (cond {A = Option (ℕ × Match)} b None (Some (n, found)))) ≡ cond {A = Option (ℕ × Match)} b None (Some (n, found))
placed_if true n found = refl
placed_if false n found = refl

-- a match beside its place, from the place alone
pub placed_back : (found : Match) (others : List Match) → option_map (λ place. counted_as place found) (option_map place_in (placed_among found others)) ≡ placed_among found others
placed_back found others = placed_if (is_some (item_at match_cmp found others)) (rank_of match_cmp found others) found

-- ---- what stands where another match stood

-- as many stand before it
same_side : (old found x : Match) → match_cmp old found ≡ Equal → match_cmp x found ≡ match_cmp x old
same_side old found x e = match_total.antisymm x found ∙ (ap ordering_reverse (sym (match_total.congr old found x e)) ∙ sym (match_total.antisymm x old))

rank_tied : (old found : Match) (xs : List Match) → match_cmp old found ≡ Equal → rank_of match_cmp found xs ≡ rank_of match_cmp old xs
unfolding rank_of
rank_tied old found [] e = refl
rank_tied old found (x ∷ xs) e =
    rank_cons match_cmp found x xs
    ∙ (ap (λ o. cond {A = ℕ} (is_lt o) 1 0 + rank_of match_cmp found xs) (same_side old found x e)
    ∙ (ap (λ n. cond {A = ℕ} (is_lt (match_cmp x old)) 1 0 + n) (rank_tied old found xs e) ∙ sym (rank_cons match_cmp old x xs)))

-- what is taken out stood before nothing
pub rank_left : (old : Match) (hits : List Match) → rank_of match_cmp old (without_old old hits) ≡ rank_of match_cmp old hits
unfolding without_item
rank_left old [] = refl
rank_left old (h ∷ hs) = elim (eq_by_cmp match_cmp old h) as (λ b. eq_by_cmp match_cmp old h ≡ b
    → rank_of match_cmp old (cond (not b) (h ∷ filter (λ x. not (eq_by_cmp match_cmp old x)) hs) (filter (λ x. not (eq_by_cmp match_cmp old x)) hs)) ≡ rank_of match_cmp old (h ∷ hs)) [
      | true ↦ λ e.
          let own : match_cmp h old ≡ Equal = match_total.antisymm h old ∙ ap ordering_reverse (Equal_from_is_eq _ e) in
          let first : cond {A = ℕ} (is_lt (match_cmp h old)) 1 0 ≡ 0 = ap (λ o. cond {A = ℕ} (is_lt o) 1 0) own in
          rank_left old hs ∙ sym (rank_cons match_cmp old h hs ∙ omega (arith, first))
      | false ↦ λ e.
          rank_cons match_cmp old h (without_old old hs)
          ∙ (ap (λ n. cond {A = ℕ} (is_lt (match_cmp h old)) 1 0 + n) (rank_left old hs) ∙ sym (rank_cons match_cmp old h hs))
    ] refl

pub stood_left : (old : Match) (hits : List Match) (place : ℕ) (found : Option Match) → place ≡ rank_of match_cmp old (without_old old hits) → found ≡ item_at match_cmp old hits
    → option_map (counted_as place) found ≡ old_place old hits
stood_left old hits place found p f = ap (λ n. option_map (counted_as n) found) (p ∙ rank_left old hits) ∙ ap (option_map (counted_as (rank_of match_cmp old hits))) f

free_there : (old found : Match) (hits : List Match) → eq_by_cmp match_cmp old found ≡ true → is_some (item_at match_cmp found (without_old old hits)) ≡ false
unfolding item_at
free_there old found hits e =
    ap is_some (none_found (eq_by_cmp match_cmp found) (without_old old hits) (λ x k.
    sym (ap is_eq (match_total.congr old found x (Equal_from_is_eq _ e))) ∙ (left_of old hits x k).1))

stands_there : (old found : Match) (hits : List Match) (place : ℕ) → eq_by_cmp match_cmp old found ≡ true → place ≡ rank_of match_cmp found (without_old old hits)
    → Some place ≡ option_map place_in (stands old (Some found) hits)
stands_there old found hits place e p =
    ap Some p ∙ sym (ap (λ b. option_map place_in (cond {A = Option (ℕ × Match)} b None (Some (rank_of match_cmp found (without_old old hits), found)))) (free_there old found hits e))

-- to look for one of them is to look for the other
same_tie : (old found x : Match) → eq_by_cmp match_cmp old found ≡ true → eq_by_cmp match_cmp found x ≡ eq_by_cmp match_cmp old x
same_tie old found x e = sym (ap is_eq (match_total.congr old found x (Equal_from_is_eq _ e)))

same_item : (old found : Match) (hits : List Match) → eq_by_cmp match_cmp old found ≡ true → item_at match_cmp found hits ≡ item_at match_cmp old hits
unfolding item_at
same_item old found [] e = refl
same_item old found (h ∷ hs) e = λ i. cond (same_tie old found h e i) (Some h) (same_item old found hs e i)

pub same_left : (old found : Match) (hits : List Match) → eq_by_cmp match_cmp old found ≡ true → without_item match_cmp found hits ≡ without_old old hits
unfolding without_item
same_left old found [] e = refl
same_left old found (h ∷ hs) e = λ i. cond (not (same_tie old found h e i)) (h ∷ same_left old found hs e i) (same_left old found hs e i)

pub replaced_is : (old found : Match) (hits : List Match) → eq_by_cmp match_cmp old found ≡ true → with_item match_cmp found (without_item match_cmp found hits) ≡ with_exchange old (Some found) hits
replaced_is old found hits e = ap (with_item match_cmp found) (same_left old found hits e)

pub stood_at : (old come : Match) (hits : List Match) (place : ℕ) (found : Option Match) → eq_by_cmp match_cmp old come ≡ true
    → place ≡ rank_of match_cmp come hits → found ≡ item_at match_cmp come hits → option_map (counted_as place) found ≡ old_place old hits
stood_at old come hits place found e p f =
    ap (λ n. option_map (counted_as n) found) (p ∙ rank_tied old come hits (Equal_from_is_eq _ e)) ∙ ap (option_map (counted_as (rank_of match_cmp old hits))) (f ∙ same_item old come hits e)

pub stands_at : (old found : Match) (hits : List Match) (place : ℕ) → eq_by_cmp match_cmp old found ≡ true → place ≡ rank_of match_cmp found hits
    → Some place ≡ option_map place_in (stands old (Some found) hits)
stands_at old found hits place e p =
    stands_there old found hits place e (p ∙ rank_tied old found hits (Equal_from_is_eq _ e) ∙ sym (rank_left old hits) ∙ sym (rank_tied old found (without_old old hits) (Equal_from_is_eq _ e)))
