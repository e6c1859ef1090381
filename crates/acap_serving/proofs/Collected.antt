-- Sessions that were dealt out, and are taken back in their order.
use Rattle.std.proofs.Common.{◌≡◌, ◌<◌, ◌+◌, ℕ, zero, suc, List, [], ◌∷◌, ◌++◌, length, map, take, drop, slice_index_or, Option, Some, None, IfSome, All, refl, sym, ◌∙◌, ap, subst, arith}
use Rattle.std.proofs.Math.ListN.{drop_of_length-le}
use Rattle.std.proofs.Math.Seq.{take-length}
use Rattle.std.specs.Option.{option_map, option_to_list}
use Rattle.std.proofs.Math.Seq.{append_snoc, get_or-append_seam}
use Rattle.std.proofs.lemmas.List.{get_or_append_left}
use Rattle.std.proofs.lemmas.List.{append-nil, length-append, length-map, map-append, take-append-drop}
use Rattle.acap_serving.specs.Dealing.{dealt, turned}
use Rattle.acap_serving.specs.Ends.{Whose, seated, whose_of}
use Rattle.acap_task.specs.declared.conn.SessionParams.{SessionParams}

-- what a function makes of lists of one length is the same where it is at each place
each_same : {V K : Type 0} (f : V → K) (xs ys : List V) → length ys ≡ length xs
    → ((i : ℕ) (d : V) → i < length xs → f (slice_index_or ys i d) ≡ f (slice_index_or xs i d)) → map f ys ≡ map f xs
each_same f [] [] len each = refl
each_same f [] (y ∷ ys) len each = cc
each_same f (x ∷ xs) [] len each = cc
each_same f (x ∷ xs) (y ∷ ys) len each =
    let head : f y ≡ f x = each 0 x (omega arith) in
    let more : length ys ≡ length xs = cc in
    let tail : map f ys ≡ map f xs = each_same f xs ys more (λ i d h. each (suc i) d (omega arith)) in
    cc

pub rows_same : {V K : Type 0} (f : V → K) (xs ys : List V) (n : ℕ) → n ≡ length xs → length ys ≡ length xs
    → ((i : ℕ) (d : V) → i < length xs → f (slice_index_or ys i d) ≡ f (slice_index_or xs i d))
    → map f (take n (ys ++ drop (length ys) xs)) ≡ map f xs
rows_same f xs ys n is len each =
    ap (λ zs. map f (take n (ys ++ zs))) (drop_of_length-le xs (let e : length xs ≡ length ys = sym len in omega arith)) ∙ ap (λ zs. map f (take n zs)) (append-nil ys)
    ∙ ap (λ m. map f (take m ys)) (is ∙ sym len) ∙ ap (map f) (take-length ys) ∙ each_same f xs ys len each

-- ---- dealing them out

-- what is dealt before all others
dealt_more : {K : Type 0} (loads : List (List K)) (ks : List K) (k : K) → dealt loads (ks ++ k ∷ []) ≡ dealt (turned loads k) ks
dealt_more loads [] k = refl
dealt_more loads (x ∷ ks) k = ap (λ cs. turned cs x) (dealt_more loads ks k)

seated_more : (of : Option (List ℕ) → SessionParams) (users : List (Option (List ℕ))) (seats : List ℕ) (user : Option (List ℕ)) (seat : ℕ)
    → length users ≡ length seats → seated of (users ++ user ∷ []) (seats ++ seat ∷ []) ≡ seated of users seats ++ (of user, seat) ∷ []
seated_more of [] [] user seat len = refl
seated_more of [] (s ∷ seats) user seat len = cc
seated_more of (u ∷ users) [] user seat len = cc
seated_more of (u ∷ users) (s ∷ seats) user seat len =
    let less : length users ≡ length seats = cc in ap (λ ks. (of u, s) ∷ ks) (seated_more of users seats user seat less)

-- the session of the last connection is dealt, and then the others
pub fill_on : (of : Option (List ℕ) → SessionParams) (loads new : List (List (Option Whose))) (users users' : List (Option (List ℕ))) (seats seats' : List ℕ)
    (user : Option (List ℕ)) (seat : ℕ) → users ≡ users' ++ user ∷ [] → seats ≡ seats' ++ seat ∷ [] → length users' ≡ length seats'
    → new ≡ turned loads (Some (of user, seat)) → dealt new (map Some (seated of users' seats')) ≡ dealt loads (map Some (seated of users seats))
fill_on of loads new users users' seats seats' user seat us ss len is =
    sym (ap (λ xs. dealt loads (map Some (seated of xs seats))) us ∙ ap (λ xs. dealt loads (map Some (seated of (users' ++ user ∷ []) xs))) ss
    ∙ ap (λ ks. dealt loads (map Some ks)) (seated_more of users' seats' user seat len)
    ∙ ap (dealt loads) (map-append Some (seated of users' seats') ((of user, seat) ∷ []))
    ∙ dealt_more loads (map Some (seated of users' seats')) (Some (of user, seat))
    ∙ ap (λ cs. dealt cs (map Some (seated of users' seats'))) (sym is))

-- ---- taking them back

-- so many of them were taken back, and the others were dealt to what loads there are
pub record Taken (none : List (List (Option Whose))) (all : List Whose) (count : ℕ) (loads : List (List (Option Whose))) (ends : List Whose) : Type 0 where
  pub left : List Whose
  pub len : length left + count ≡ length all
  pub loads_are : loads ≡ dealt none (map Some left)
  pub ends_are : all ≡ ends ++ left

turned_len : {K : Type 0} (loads : List (List K)) (k : K) → 0 < length loads → 0 < length (turned loads k)
turned_len [] k some = some
turned_len (c ∷ loads) k some = rw (length-append loads ((c ++ k ∷ []) ∷ [])) (omega arith)

dealt_len : {K : Type 0} (none : List (List K)) (ks : List K) → 0 < length none → 0 < length (dealt none ks)
dealt_len none [] some = some
dealt_len none (k ∷ ks) some = turned_len (dealt none ks) k (dealt_len none ks some)

-- one more is taken back
pub take_on : (none : List (List (Option Whose))) (all : List Whose) (count : ℕ) (loads new : List (List (Option Whose))) (ends more : List Whose)
    → 0 < length none → count < length all → Taken none all count loads ends
    → ((before : List (List (Option Whose))) (last : Whose) → 0 < length before → loads ≡ turned before (Some last) → (more ≡ ends ++ last ∷ []) × (new ≡ before))
    → Taken none all (count + 1) new more
take_on none all count loads new ends more some below t back = go t.left t.len t.loads_are t.ends_are
  where
    go : (left : List Whose) → length left + count ≡ length all → loads ≡ dealt none (map Some left) → all ≡ ends ++ left → Taken none all (count + 1) new more
    go [] len are is = let no : ⊥ = omega arith in absurd no
    go (k ∷ left) len are is =
        let b = back (dealt none (map Some left)) k (dealt_len none (map Some left) some) are in
        record {
          left = left;
          len = omega arith;
          loads_are = b.1;
          ends_are = is ∙ sym (append_snoc ends k left) ∙ ap (λ xs. xs ++ left) (sym b.0);
        }

pub all_taken : (none : List (List (Option Whose))) (all : List Whose) (count : ℕ) (loads : List (List (Option Whose))) (ends : List Whose)
    → length all ≡ count → Taken none all count loads ends → ends ≡ all
all_taken none all count loads ends len t = go t.left t.len t.ends_are
  where
    go : (left : List Whose) → length left + count ≡ length all → all ≡ ends ++ left → ends ≡ all
    go [] l is = sym (is ∙ append-nil ends)
    go (k ∷ left) l is = let no : ⊥ = omega arith in absurd no

-- ---- parts of lists

-- what holds of all holds of the last, and of the others
pub all_but : {X : Type 0} (P : X → Type 0) (xs new : List X) (r : Option X) (x : X) → xs ≡ new ++ option_to_list r → r ≡ Some x → All P xs → All P new × P x
all_but P xs new r x is some all =
    let whole : All P (new ++ x ∷ []) = subst (All P) (is ∙ ap (λ o. new ++ option_to_list o) some) all in (
      λ k d h. subst P (get_or_append_left new (x ∷ []) d k h) (whole k d (rw (length-append new (x ∷ [])) (omega arith))),
      subst P (get_or-append_seam new x [] x) (whole (length new) x (rw (length-append new (x ∷ [])) (omega arith))),
    )

-- the others, and the last, as far as a function looks
pub map_but : {X Y : Type 0} (f : X → Y) (xs new : List X) (r : Option X) (x : X) → xs ≡ new ++ option_to_list r → r ≡ Some x → map f xs ≡ map f new ++ f x ∷ []
map_but f xs new r x is some = ap (map f) (is ∙ ap (λ o. new ++ option_to_list o) some) ∙ map-append f new (x ∷ [])

-- one more was put after those before, and is gone from those to come
pub passed : {A B K : Type 0} (f : A → K) (g : B → K) (done new : List A) (left rest : List B) (a : A) (b : B) (all : List K) → new ≡ done ++ a ∷ [] → left ≡ b ∷ rest
    → f a ≡ g b → map f done ++ map g left ≡ all → map f new ++ map g rest ≡ all
passed f g done new left rest a b all put took same was =
    ap (λ xs. map f xs ++ map g rest) put ∙ ap (λ xs. xs ++ map g rest) (map-append f done (a ∷ [])) ∙ append_snoc (map f done) (f a) (map g rest)
    ∙ ap (λ k. map f done ++ k ∷ map g rest) same ∙ ap (λ xs. map f done ++ map g xs) (sym took) ∙ was

pub all_passed : {A B K : Type 0} (f : A → K) (g : B → K) (done : List A) (left : List B) (all : List K) → length left ≡ 0 → map f done ++ map g left ≡ all → map f done ≡ all
all_passed f g done [] all none was = sym (append-nil (map f done)) ∙ was
all_passed f g done (b ∷ left) all none was = cc

-- ---- what they left

-- whom they were between, and their seats
pub firsts_of : (of : Option (List ℕ) → SessionParams) (users : List (Option (List ℕ))) (seats : List ℕ) → length users ≡ length seats
    → map (λ (w : Whose). w.0) (seated of users seats) ≡ map of users
firsts_of of [] [] len = refl
firsts_of of [] (s ∷ seats) len = refl
firsts_of of (u ∷ users) [] len = cc
firsts_of of (u ∷ users) (s ∷ seats) len = let less : length users ≡ length seats = cc in ap (λ xs. of u ∷ xs) (firsts_of of users seats less)

pub seconds_of : (of : Option (List ℕ) → SessionParams) (users : List (Option (List ℕ))) (seats : List ℕ) → length users ≡ length seats
    → map (λ (w : Whose). w.1) (seated of users seats) ≡ seats
seconds_of of [] [] len = refl
seconds_of of [] (s ∷ seats) len = cc
seconds_of of (u ∷ users) [] len = cc
seconds_of of (u ∷ users) (s ∷ seats) len = let less : length users ≡ length seats = cc in ap (λ xs. s ∷ xs) (seconds_of of users seats less)

seated_len : (of : Option (List ℕ) → SessionParams) (users : List (Option (List ℕ))) (seats : List ℕ) → length users ≡ length seats → length (seated of users seats) ≡ length users
seated_len of [] [] len = refl
seated_len of [] (s ∷ seats) len = refl
seated_len of (u ∷ users) [] len = cc
seated_len of (u ∷ users) (s ∷ seats) len =
    let less : length users ≡ length seats = cc in let more : length (seated of users seats) ≡ length users = seated_len of users seats less in omega arith

maps : {A B C : Type 0} (f : A → B) (g : B → C) (xs : List A) → map g (map f xs) ≡ map (λ x. g (f x)) xs
maps f g [] = refl
maps f g (x ∷ xs) = ap (λ ys. g (f x) ∷ ys) (maps f g xs)

-- those that were dealt, run and taken back are whose they were
module _ {C P V : Type 0} (of : Option (List ℕ) → SessionParams) (user : C → Option (List ℕ)) (seat : P → ℕ) (whose : V → Whose) (conns : List C) (passes : List P)
    (overs : List V) where
  abbrev all : List Whose
  all = seated of (map user conns) (map seat passes)

  users_len : length conns ≡ length passes → length (map user conns) ≡ length (map seat passes)
  users_len len = length-map conns user ∙ len ∙ sym (length-map passes seat)

  pub all_len : length conns ≡ length passes → length all ≡ length conns
  all_len len = seated_len of (map user conns) (map seat passes) (users_len len) ∙ length-map conns user

  pub ends_of : length conns ≡ length passes → map whose overs ≡ all → map (λ v. (whose v).0) overs ≡ map (λ c. of (user c)) conns
  ends_of len are =
      sym (maps whose (λ (w : Whose). w.0) overs) ∙ ap (map (λ (w : Whose). w.0)) are ∙ firsts_of of (map user conns) (map seat passes) (users_len len)
      ∙ maps user of conns

  pub seats_of : length conns ≡ length passes → map whose overs ≡ all → map (λ v. (whose v).1) overs ≡ map seat passes
  seats_of len are =
      sym (maps whose (λ (w : Whose). w.1) overs) ∙ ap (map (λ (w : Whose). w.1)) are ∙ seconds_of of (map user conns) (map seat passes) (users_len len)

-- a list in two parts
pub in_parts : {A K : Type 0} (f : A → K) (n : ℕ) (first rest xs : List A) → first ≡ take n xs → rest ≡ drop n xs → map f first ++ map f rest ≡ map f xs
in_parts f n first rest xs one other =
    ap (λ ys. map f ys ++ map f rest) one ∙ ap (λ ys. map f (take n xs) ++ map f ys) other ∙ sym (map-append f (take n xs) (drop n xs)) ∙ ap (map f) (take-append-drop n xs)

-- ---- whose a session was, by how it ended

pub ended_of : {O R : Type 0} (f : O → Whose) (g : R → Whose) (over : Option O) (running : Option R) (o : O) (last : Whose)
    → whose_of (option_map f over) (option_map g running) ≡ Some last → IfSome over (λ x. Some o ≡ Some x)
    → (over ≡ None → IfSome running (λ r. ((f o).0 ≡ (g r).0) × ((f o).1 ≡ (g r).1))) → f o ≡ last
ended_of f g (Some x) running o last is over task =
    let same : o ≡ x = cc (over) in
    let that : f x ≡ last = cc (is) in ap f same ∙ that
ended_of f g None (Some r) o last is over task =
    let e : ((f o).0 ≡ (g r).0) × ((f o).1 ≡ (g r).1) = task refl in
    let same : f o ≡ g r = λ i. (e.0 i, e.1 i) in
    let that : g r ≡ last = cc (is) in same ∙ that
ended_of f g None None o last is over task = cc (is)

-- one end more
pub one_more : {O : Type 0} (f : O → Whose) (old new : List O) (o : O) (last : Whose) → new ≡ old ++ o ∷ [] → f o ≡ last → map f new ≡ map f old ++ last ∷ []
one_more f old new o last put is = ap (map f) put ∙ map-append f old (o ∷ []) ∙ ap (λ k. map f old ++ k ∷ []) is
