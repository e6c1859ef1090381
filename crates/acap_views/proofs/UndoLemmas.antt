-- Moves taken back in a list of hits that are lent.
use Rattle.std.proofs.Common.{◌≡◌, ℕ, zero, suc, ◌+◌, ◌-◌, ◌<◌, ◌≤◌, List, [], ◌∷◌, ◌++◌, length, take, drop, set, get_or, refl, sym, ◌∙◌, ap, arith, append_assoc}
use Rattle.std.specs.Borrow.{Bor}
use Rattle.std.specs.List.{insert, remove}
use Rattle.std.proofs.lemmas.List.{map-append}
use Rattle.acap_moves.specs.Moves.{Undo, undone, all_undone}
use Rattle.acap_search.specs.Matches.{Match}
use Rattle.acap_views.specs.Undoing.{matches_lent}
use Rattle.acap_views.proofs.LoopLemmas.{one_dropped}

seen_take : (xs : List (Bor Match)) (n : ℕ) → matches_lent (take n xs) ≡ take n (matches_lent xs)
seen_take xs zero = refl
seen_take [] (suc n) = refl
seen_take (x ∷ xs) (suc n) = ap (λ t. x.now ∷ t) (seen_take xs n)

seen_drop : (xs : List (Bor Match)) (n : ℕ) → matches_lent (drop n xs) ≡ drop n (matches_lent xs)
seen_drop xs zero = refl
seen_drop [] (suc n) = refl
seen_drop (x ∷ xs) (suc n) = seen_drop xs n

pub seen_insert : (xs : List (Bor Match)) (n : ℕ) (x : Bor Match) → matches_lent (insert xs n x) ≡ insert (matches_lent xs) n x.now
seen_insert xs n x =
    map-append (λ (h : Bor Match). h.now) (take n xs) (x ∷ drop n xs)
    ∙ (ap (λ t. t ++ x.now ∷ matches_lent (drop n xs)) (seen_take xs n) ∙ ap (λ t. take n (matches_lent xs) ++ x.now ∷ t) (seen_drop xs n))

pub seen_remove : (xs : List (Bor Match)) (n : ℕ) → matches_lent (remove xs n) ≡ remove (matches_lent xs) n
seen_remove xs n =
    map-append (λ (h : Bor Match). h.now) (take n xs) (drop (suc n) xs)
    ∙ (ap (λ t. t ++ matches_lent (drop (suc n) xs)) (seen_take xs n) ∙ ap (λ t. take n (matches_lent xs) ++ t) (seen_drop xs (suc n)))

insert_end : (xs : List Match) (n : ℕ) (x : Match) → length xs ≤ n → insert xs n x ≡ xs ++ x ∷ []
insert_end [] zero x h = refl
insert_end [] (suc n) x h = refl
insert_end (y ∷ xs) zero x h = absurd (omega (arith, h))
insert_end (y ∷ xs) (suc n) x h = ap (λ t. y ∷ t) (insert_end xs n x (omega (arith, h)))

seen_length : (xs : List (Bor Match)) → length (matches_lent xs) ≡ length xs
seen_length [] = refl
seen_length (x ∷ xs) = ap suc (seen_length xs)

pub seen_push : (xs : List (Bor Match)) (n : ℕ) (x : Bor Match) → length xs ≤ n → matches_lent (xs ++ x ∷ []) ≡ insert (matches_lent xs) n x.now
seen_push xs n x h = map-append (λ (h : Bor Match). h.now) xs (x ∷ []) ∙ sym (insert_end (matches_lent xs) n x.now (omega (arith, h, seen_length xs)))

-- one hit more of those that are still to come
pub one_lent : (made : List (Bor Match)) (x : Bor Match) (y : Match) (rest left all : List Match) → x.now ≡ y → left ≡ y ∷ rest → matches_lent made ++ left ≡ all → matches_lent (made ++ x ∷ []) ++ rest ≡ all
one_lent made x y rest left all e l m =
    ap (λ t. t ++ rest) (map-append (λ (h : Bor Match). h.now) made (x ∷ []))
    ∙ (append_assoc (matches_lent made) (x.now ∷ []) rest
    ∙ (ap (λ z. matches_lent made ++ z ∷ rest) e ∙ (ap (λ t. matches_lent made ++ t) (sym l) ∙ m)))

-- the newest move that isn't taken back yet
pub one_undone_more : (undos : List (Undo Match)) (left : ℕ) (undo : Undo Match) (now hits more : List Match) → drop left undos ≡ undo ∷ drop (left + 1) undos
    → hits ≡ all_undone (drop (left + 1) undos) now → more ≡ undone undo hits → more ≡ all_undone (drop left undos) now
one_undone_more undos left undo now hits more d h m =
    m ∙ (ap (undone undo) h ∙ ap (λ us. all_undone us now) (sym d))

pub none_behind : {X : Type 0} (xs : List X) (n : ℕ) → n ≡ length xs → drop n xs ≡ []
none_behind [] zero e = refl
none_behind [] (suc n) e = refl
none_behind (x ∷ xs) zero e = absurd (omega (arith, e))
none_behind (x ∷ xs) (suc n) e = none_behind xs n (omega (arith, e))

pub next_undone : (undos : List (Undo Match)) (left : ℕ) (undo : Undo Match) (now hits more : List Match) → left - 1 < length undos → undo ≡ get_or undos (left - 1) undo
    → left - 1 + 1 ≡ left → hits ≡ all_undone (drop left undos) now → more ≡ undone undo hits → more ≡ all_undone (drop (left - 1) undos) now
next_undone undos left undo now hits more within at back h m =
    one_undone_more undos (left - 1) undo now hits more (one_dropped undos (left - 1) undo within at) (h ∙ ap (λ n. all_undone (drop n undos) now) (sym back)) m

-- another hit where one stands: that one is taken out, and this one put in
pub seen_set : (xs : List (Bor Match)) (n : ℕ) (x : Bor Match) → n < length xs → matches_lent (set xs n x) ≡ insert (remove (matches_lent xs) n) n x.now
seen_set [] n x h = absurd (omega (arith, h))
seen_set (y ∷ xs) zero x h = refl
seen_set (y ∷ xs) (suc n) x h = ap (λ t. y.now ∷ t) (seen_set xs n x (omega (arith, h)))
