-- One entry after the other: what is left comes to what is left of all.
use Rattle.std.proofs.Common.{◌≡◌, ℕ, suc, ◌+◌, ◌-◌, ◌<◌, ◌≤◌, min, cond, Bool, true, false, Option, Some, None, List, [], ◌∷◌, ◌++◌, length, refl, sym, ◌∙◌, ap, subst, arith, length-append, append_assoc, map as each}
use Rattle.std.proofs.lemmas.Bool.{lt-ltb, le-ltb}
use Rattle.std.proofs.lemmas.List.{length-map}
use Rattle.std.proofs.lemmas.List.Elements.{filter-append}
use Rattle.std.specs.List.{cons_option, filter}
use Rattle.std.specs.Prelude.{IfSome}
use Rattle.acap_entries.specs.declared.path.Path.{Path}
use Rattle.acap_notices.specs.Waiting.{notices_pending}
use Rattle.acap_notices.specs.declared.notice.Notice.{Notice}
use Rattle.acap_search.specs.Matches.{Match}
use Rattle.acap_views.specs.Room.{Space, Watched, HasRoom}
use Rattle.acap_views.specs.ContextViews.{ContextView, shift_in}
use Rattle.acap_views.specs.EntryUpdates.{EntryUpdate, after_shift, after_shifts, shift_notices, shifts_notices, surely_tells, count_with, until_full, has_changed, few, due_shifts}

some_first : (n : ℕ) (o : Option ℕ) → IfSome o (λ room. suc n ≤ room) → IfSome o (λ room. 1 ≤ room)
some_first n None i = i
some_first n (Some room) i = omega (arith, i)

least_first : (n left room : ℕ) → min (suc n) left ≤ room → min 1 left ≤ room
least_first n left room h = omega (arith, h)

pub room_first : (n : ℕ) (rest : List EntryUpdate) (pending : List Notice) (space : Space) → length rest ≡ suc n → HasRoom (length rest) pending space → HasRoom 1 pending space
room_first n rest pending space e h =
    let all = subst (λ m. HasRoom m pending space) e h in
    record {
      hits = omega (arith, all.hits);
      moves = some_first n space.moves all.moves;
      notices = record { room = least_first n (notices_pending - length pending) space.notices all.notices.room };
    }

pub present_on : (rest : List EntryUpdate) (shift : EntryUpdate) (now next end : List Match) (shifts : List EntryUpdate) → shifts ≡ shift ∷ rest → next ≡ after_shift shift now → after_shifts shifts now ≡ end → after_shifts rest next ≡ end
present_on rest shift now next end shifts s e i = ap (after_shifts rest) e ∙ (ap (λ ss. after_shifts ss now) (sym s) ∙ i)

pub told_on : (enumerated : Bool) (rest : List EntryUpdate) (shift : EntryUpdate) (now next : List Match) (shifts : List EntryUpdate) (pending more : List Notice) (end : List Notice)
    → shifts ≡ shift ∷ rest → next ≡ after_shift shift now → more ≡ pending ++ shift_notices enumerated shift now
    → pending ++ shifts_notices enumerated shifts now ≡ end → more ++ shifts_notices enumerated rest next ≡ end
told_on enumerated rest shift now next shifts pending more end s e p i =
    ap (λ ns. ns ++ shifts_notices enumerated rest next) p
    ∙ (append_assoc pending (shift_notices enumerated shift now) (shifts_notices enumerated rest next)
    ∙ (ap (λ hits. pending ++ (shift_notices enumerated shift now ++ shifts_notices enumerated rest hits)) e
    ∙ (ap (λ ss. pending ++ shifts_notices enumerated ss now) (sym s) ∙ i)))

pub full_then : (enumerated : Bool) (rest : List EntryUpdate) (shift : EntryUpdate) (now : List Match) (shifts : List EntryUpdate) (pending before all : List Notice)
    → shifts ≡ shift ∷ rest → pending ++ shifts_notices enumerated shifts now ≡ before ++ all
    → notices_pending < length pending + length (shift_notices enumerated shift now) → notices_pending < length before + length all
full_then enumerated rest shift now shifts pending before all s i h =
    let whole : length pending + length (shift_notices enumerated shift now ++ shifts_notices enumerated rest (after_shift shift now)) ≡ length before + length all =
    sym (length-append pending _) ∙ (ap (λ ss. length (pending ++ shifts_notices enumerated ss now)) (sym s) ∙ (ap length i ∙ length-append before all)) in
    let first = length-append (shift_notices enumerated shift now) (shifts_notices enumerated rest (after_shift shift now)) in
    omega (arith, whole, first, h)

-- as many as are needed: none more where the context is certain to be freed, and else one more

stopped : (matches : List Match) (count : ℕ) (shifts : List EntryUpdate) → notices_pending < count → until_full matches count shifts ≡ []
stopped matches count [] h = refl
stopped matches count (shift ∷ shifts) h = ap (λ b. cond b [] (shift ∷ until_full matches (count_with matches shift count) shifts)) (lt-ltb _ _ h)

pub left_out : (matches : List Match) (count : ℕ) (made all rest shifts : List EntryUpdate) → notices_pending < count
    → made ++ until_full matches count shifts ≡ all → made ++ until_full matches count rest ≡ all
left_out matches count made all rest shifts h i = ap (λ ss. made ++ ss) (stopped matches count rest h ∙ sym (stopped matches count shifts h)) ∙ i

pub put_in : (matches : List Match) (count next : ℕ) (made more all : List EntryUpdate) (shift : EntryUpdate) (rest shifts : List EntryUpdate) → count ≤ notices_pending → shifts ≡ shift ∷ rest
    → more ≡ made ++ shift ∷ [] → next ≡ count_with matches shift count → made ++ until_full matches count shifts ≡ all → more ++ until_full matches next rest ≡ all
put_in matches count next made more all shift rest shifts h p m n i =
    (λ t. m t ++ until_full matches (n t) rest)
    ∙ (append_assoc made (shift ∷ []) (until_full matches (count_with matches shift count) rest)
    ∙ (ap (λ b. made ++ cond b [] (shift ∷ until_full matches (count_with matches shift count) rest)) (sym (le-ltb _ _ h))
    ∙ (ap (λ ss. made ++ until_full matches count ss) (sym p) ∙ i)))

-- where all of them may wait, all are needed

one_more_at_most : (b : Bool) (count : ℕ) → cond b (count + 1) count ≤ count + 1
one_more_at_most true count = omega arith
one_more_at_most false count = omega arith

all_few : (matches : List Match) (count : ℕ) (shifts : List EntryUpdate) → count + length shifts ≤ notices_pending → until_full matches count shifts ≡ shifts
all_few matches count [] h = refl
all_few matches count (shift ∷ shifts) h =
    ap (λ b. cond b [] (shift ∷ until_full matches (count_with matches shift count) shifts)) (le-ltb _ _ (omega (arith, h)))
    ∙ ap (λ ss. shift ∷ ss) (all_few matches (count_with matches shift count) shifts (omega (arith, h, one_more_at_most (surely_tells matches shift) count)))

pub all_needed : (f : Path → EntryUpdate) (watched : Watched) (paths : List Path) → length paths ≤ notices_pending - length watched.pending → length watched.pending ≤ notices_pending
    → each f paths ≡ until_full watched.present (length watched.pending) (each f paths)
all_needed f watched paths h room = sym (all_few watched.present (length watched.pending) (each f paths) (omega (arith, h, room, length-map paths f)))

-- of a few all are due, and of many those whose match has changed

pub due_of_few : (f : Path → EntryUpdate) (watched : Watched) (paths : List Path) → length paths ≤ few
    → until_full watched.present (length watched.pending) (each f paths) ≡ due_shifts watched (each f paths)
due_of_few f watched paths h =
    let all = each f paths in
    sym (ap (λ b. until_full watched.present (length watched.pending) (cond b (filter (has_changed watched.present) all) all)) (le-ltb _ _ (omega (arith, h, length-map paths f))))

pub due_of_many : (f : Path → EntryUpdate) (watched : Watched) (paths : List Path) → few < length paths
    → until_full watched.present (length watched.pending) (filter (has_changed watched.present) (each f paths)) ≡ due_shifts watched (each f paths)
due_of_many f watched paths h =
    let all = each f paths in
    sym (ap (λ b. until_full watched.present (length watched.pending) (cond b (filter (has_changed watched.present) all) all)) (lt-ltb _ _ (omega (arith, h, length-map paths f))))

-- the first of some paths is due or isn't

put_before : {X : Type 0} (o : Option X) (xs : List X) → cons_option o [] ++ xs ≡ cons_option o xs
put_before None xs = refl
put_before (Some x) xs = refl

pub first_due : (matches hits : List Match) (scene field : ContextView) (path : Path) (rest paths : List Path) (made : Option EntryUpdate) → hits ≡ matches → field ≡ scene → paths ≡ path ∷ rest
    → cons_option made [] ≡ filter (has_changed hits) (shift_in field path ∷ [])
    → filter (has_changed matches) (each (shift_in scene) paths) ≡ cons_option made (filter (has_changed matches) (each (shift_in scene) rest))
first_due matches hits scene field path rest paths made h f p m =
    let others = filter (has_changed matches) (each (shift_in scene) rest) in
    ap (λ ps. filter (has_changed matches) (each (shift_in scene) ps)) p
    ∙ (filter-append (has_changed matches) (shift_in scene path ∷ []) (each (shift_in scene) rest)
    ∙ (sym (λ i. filter (has_changed (h i)) (shift_in (f i) path ∷ []) ++ others)
    ∙ (ap (λ ss. ss ++ others) (sym m) ∙ put_before made others)))

pub none_if : {X : Type 0} (o : Option X) → ((x : X) → o ≡ Some x → ⊥) → o ≡ None
none_if None n = refl
none_if (Some x) n = absurd (n x refl)

-- what has no items left
pub none_of : {X : Type 0} (xs : List X) (n : ℕ) → length xs ≡ n → n ≡ 0 → xs ≡ []
none_of [] n e z = refl
none_of (x ∷ xs) n e z = absurd (omega (arith, e, z))
