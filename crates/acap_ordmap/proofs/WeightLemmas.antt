-- What leaves weigh: how an edit of one leaf changes it.
use Rattle.std.proofs.Common.{◌≡◌, ℕ, zero, suc, ◌+◌, ◌*◌, ◌-◌, min, max, ◌<◌, ◌≤◌, List, [], ◌∷◌, ◌++◌, length, get_or, set, refl, arith, take, drop, ◌/◌, length-take, length-drop, Option, Some, None, IfSome, IfNone}
use Rattle.std.specs.List.{insert, remove}
use Rattle.acap_ordmap.specs.Leaves.{beyond, weight, weight_after, split_at, room_of, EndsFull}

-- ---- one leaf in the place of another

set_after : {A : Type 0} (d : ℕ) (ls : List (List A)) (i : ℕ) (y : List A) (k : ℕ) → i < length ls → length y ≤ length (get_or ls i []) + k → weight_after d (set ls i y) ≤ weight_after d ls + k
set_after d [] i y k lt h = absurd (omega arith)
set_after d (x ∷ []) zero y k lt h = omega arith
set_after d (x ∷ m ∷ ls) zero y k lt h = omega arith
set_after d (x ∷ ls) (suc i) y k lt h = omega (arith, set_after (beyond 16 (length x)) ls i y k (omega arith) h)

pub weight_set : {A : Type 0} (ls : List (List A)) (i : ℕ) (y : List A) (k : ℕ) → i < length ls → length y ≤ length (get_or ls i []) + k → weight (set ls i y) ≤ weight ls + k
weight_set ls i y k lt h = set_after 16 ls i y k lt h

-- ---- a leaf that goes

remove_after : {A : Type 0} (d : ℕ) (ls : List (List A)) (i : ℕ) → d ≤ 16 → weight_after d (remove ls i) ≤ weight_after d ls
remove_after d [] zero h = omega arith
remove_after d [] (suc i) h = omega arith
remove_after d (x ∷ []) zero h = omega arith
remove_after d (x ∷ m ∷ ls) zero h = omega arith
remove_after d (x ∷ ls) (suc i) h = omega (arith, remove_after (beyond 16 (length x)) ls i (omega arith))

pub weight_remove : {A : Type 0} (ls : List (List A)) (i : ℕ) (y : List A) → i < length ls → length y ≤ length (get_or ls i []) → weight (remove (set ls i y) i) ≤ weight ls
weight_remove ls i y lt h = omega (arith, remove_after 16 (set ls i y) i (omega arith), set_after 16 ls i y 0 lt (omega arith))

-- ---- a full leaf that is split

split_after : {A : Type 0} (d : ℕ) (ls : List (List A)) (i : ℕ) (e l : List A) → i < length ls → length (get_or ls i []) ≡ 64 → length e ≤ 48 → length l ≤ 48 → weight_after d (insert (set ls i e) (suc i) l) ≤ weight_after d ls
split_after d [] i e l lt full earlier later = absurd (omega arith)
split_after d (x ∷ []) zero e l lt full earlier later = omega arith
split_after d (x ∷ m ∷ ls) zero e l lt full earlier later = omega arith
split_after d (x ∷ ls) (suc i) e l lt full earlier later = omega (arith, split_after (beyond 16 (length x)) ls i e l (omega arith) full earlier later)

pub weight_split : {A : Type 0} (ls : List (List A)) (i kept : ℕ) → i < length ls → length (get_or ls i []) ≡ 64 → 16 ≤ kept → kept ≤ 48 → weight (split_at i kept ls) ≤ weight ls
weight_split {A} ls i kept lt full some few =
    let leaf = get_or ls i [] in
    let next : i + 1 ≡ suc i = omega arith in
    let earlier : length (take kept leaf) ≤ 48 = omega (arith, length-take kept leaf) in
    let later : length (drop kept leaf) ≤ 48 = omega (arith, full, length-drop kept leaf) in
    rw next (split_after 16 ls i _ _ lt full earlier later)

-- ---- a leaf after the last

push_after : {A : Type 0} (d : ℕ) (ls : List (List A)) (i : ℕ) (y : List A) → i + 1 ≡ length ls → 64 ≤ length (get_or ls i []) → length y ≤ 16 → weight_after d (ls ++ y ∷ []) ≤ weight_after d ls
push_after d [] i y last full few = absurd (omega arith)
push_after d (x ∷ []) zero y last full few = omega arith
push_after d (x ∷ []) (suc i) y last full few = absurd (omega arith)
push_after d (x ∷ m ∷ ls) zero y last full few = absurd (omega arith)
push_after d (x ∷ m ∷ ls) (suc i) y last full few = omega (arith, push_after (beyond 16 (length x)) (m ∷ ls) i y (omega arith) full few)

pub weight_push : {A : Type 0} (ls : List (List A)) (y : List A) → EndsFull ls → length y ≤ 16 → weight (ls ++ y ∷ []) ≤ weight ls
weight_push [] y full few = omega arith
weight_push (x ∷ ls) y full few = push_after 16 (x ∷ ls) (length (x ∷ ls) - 1) y (omega arith) (full (omega arith)) few

-- ---- how much that is at most

most_after : {A : Type 0} (d : ℕ) (ls : List (List A)) → d ≤ 16 → weight_after d ls ≤ 32 * length ls + 16
most_after d [] h = omega arith
most_after d (x ∷ ls) h = omega (arith, most_after (beyond 16 (length x)) ls (omega arith))

pub weight_most : {A : Type 0} (ls : List (List A)) → weight ls ≤ 32 * length ls + 16
weight_most ls = most_after 16 ls (omega arith)

-- ---- what was taken leaves fewer

pub fewer_from : {X : Type 0} (taken : Option X) (new old : ℕ) → IfSome taken (λ _. new + 1 ≡ old) → IfNone taken (new ≡ old) → new ≤ old
fewer_from (Some x) new old some none = omega (arith, some)
fewer_from None new old some none = omega (arith, none)

-- ---- how much that is at least

least_after : {A : Type 0} (d : ℕ) (ls : List (List A)) → 16 * length ls ≤ weight_after d ls
least_after d [] = omega arith
least_after d (x ∷ ls) = omega (arith, least_after (beyond 16 (length x)) ls)

pub weight_least : {A : Type 0} (ls : List (List A)) → 16 * length ls ≤ weight ls
weight_least ls = least_after 16 ls

-- ---- what there is room for

spare_some : (s p e r : ℕ) → (s ≡ 0 → e ≡ 0) → 0 < min (max (min s p) e) r → 0 < s
spare_some zero p e r h room = absurd (omega (arith, h refl))
spare_some (suc s) p e r h room = omega arith

place_some : (s p e r : ℕ) → (p ≡ 0 → e ≡ 0) → 0 < min (max (min s p) e) r → 0 < p
place_some s zero e r h room = absurd (omega (arith, h refl))
place_some s (suc p) e r h room = omega arith

-- where there is room, there are a spare leaf, a place for it and a number for one more
pub room_spare : (len places spare kept w count : ℕ) → 16 * len ≤ w → 0 < room_of spare (places - len) (min (len + spare) (min kept places)) w count → 0 < spare
room_spare len places spare kept w count least room = spare_some spare (places - len) _ _ (λ none. omega arith) room

pub room_place : (len places spare kept w count : ℕ) → 16 * len ≤ w → 0 < room_of spare (places - len) (min (len + spare) (min kept places)) w count → len < places
room_place len places spare kept w count least room = omega (arith, place_some spare (places - len) (16 * min (len + spare) (min kept places) - w) _ (λ none. omega arith) room)

joined_step : (k a e r b f q : ℕ) → a ≤ b + k → e ≤ f + k → r ≤ q + k → min (max a e) r ≤ min (max b f) q + k
joined_step k a e r b f q h i j = omega arith

-- room after an edit that took so many leaves, places, weights and numbers at most
pub room_step : (k s p m w c s2 p2 m2 w2 c2 : ℕ) → s ≤ s2 + k → p ≤ p2 + k → m ≤ m2 → w2 ≤ w + k → c2 ≤ c + k → room_of s p m w c ≤ room_of s2 p2 m2 w2 c2 + k
room_step k s p m w c s2 p2 m2 w2 c2 spare place most weigh count =
    joined_step k (min s p) (16 * m - w) (18_446_744_073_709_551_615 - c) (min s2 p2) (16 * m2 - w2) (18_446_744_073_709_551_615 - c2) (omega arith) (omega arith) (omega arith)

pub most_step : (l s k p l2 s2 k2 p2 : ℕ) → l + s ≤ l2 + s2 → k ≤ k2 → p ≤ p2 → min (l + s) (min k p) ≤ min (l2 + s2) (min k2 p2)
most_step l s k p l2 s2 k2 p2 total kept places = omega arith

-- as many spare leaves as there are leaves, one for each 16 entries more and two suffice for these
wide : (more len wanted : ℕ) → wanted ≡ min more (len + more / 16 + 2) → wanted < more → 32 * len + 16 + more ≤ 16 * (len + wanted)
wide more len wanted is few = omega arith

at_least : (k a e r : ℕ) → k ≤ e → k ≤ r → k ≤ min (max a e) r
at_least k a e r h i = omega arith

pub room_wide : (more len w spare kept places count wanted : ℕ) → w ≤ 32 * len + 16 → wanted ≡ min more (len + more / 16 + 2) → wanted < more → wanted ≤ spare → spare + len ≤ kept → len + wanted ≤ places → count + more ≤ 18_446_744_073_709_551_615 → more ≤ room_of spare (places - len) (min (len + spare) (min kept places)) w count
room_wide more len w spare kept places count wanted most is few made keeps placed counted =
    let enough : len + wanted ≤ min (len + spare) (min kept places) = omega arith in
    let weighs : more ≤ 16 * min (len + spare) (min kept places) - w = omega (arith, wide more len wanted is few, enough) in
    at_least more (min spare (places - len)) _ _ weighs (omega arith)
