-- What was dealt last can be taken back.
use Rattle.std.proofs.Common.{◌≡◌, ◌<◌, ◌+◌, ◌-◌, ℕ, List, [], ◌∷◌, ◌++◌, length, map, take, drop, slice_set, slice_index_or, Option, Some, None, IsSomeAnd, IsSome, refl, sym, ◌∙◌, ap, add-sub_cancel, arith}
use Rattle.std.specs.Option.{option_to_list}
use Rattle.std.proofs.Math.Seq.{drop-append_seam, take-append_seam}
use Rattle.std.proofs.lemmas.List.{map-append, length-append, length-map, drop-map, take-map}
use Rattle.acap_serving.specs.Dealing.{turned}

-- the last of a list, and what is before it
pub last_first : {A : Type 0} (xs : List A) (x : A) (n : ℕ) → n ≡ length xs → drop n (xs ++ x ∷ []) ++ take n (xs ++ x ∷ []) ≡ x ∷ xs
last_first xs x n e = rw e (rw (drop-append_seam xs (x ∷ []), take-append_seam xs (x ∷ [])) refl)

snoc_len : {A : Type 0} (xs : List A) (x : A) → length (xs ++ x ∷ []) - 1 ≡ length xs
snoc_len xs x = rw (length-append xs (x ∷ [])) (add-sub_cancel (length xs) 1)

-- lists with one more at the end are equal only if both parts are
pub snoc_same : {A : Type 0} (xs ys : List A) (x y : A) → xs ++ x ∷ [] ≡ ys ++ y ∷ [] → (xs ≡ ys) × (x ≡ y)
snoc_same [] [] x y e = (refl, cc)
snoc_same [] (b ∷ []) x y e = cc
snoc_same [] (b ∷ c ∷ ys) x y e = cc
snoc_same (a ∷ []) [] x y e = cc
snoc_same (a ∷ c ∷ xs) [] x y e = cc
snoc_same (a ∷ xs) (b ∷ ys) x y e =
    let rest : xs ++ x ∷ [] ≡ ys ++ y ∷ [] = cc in
    let same = snoc_same xs ys x y rest in
    let head : a ≡ b = cc in
    let tail : xs ≡ ys = same.0 in
    (cc, same.1)

module _ {V T K : Type 0} (items : V → List T) (f : T → K) where
  abbrev row : V → List K
  row v = map f (items v)

  -- the last item of the first list is taken
  popped : (first after : V) (r : Option T) (b : List K) (last : K) → row first ≡ b ++ last ∷ [] → items first ≡ items after ++ option_to_list r
      → (r ≡ None → length (items first) ≡ 0) → IsSomeAnd r (λ t. (f t ≡ last) × (row after ≡ b))
  popped first after None b last is left none = no_snoc (items first) b last (none refl) is
    where
      no_snoc : {C : Type 0} (ts : List T) (xs : List K) (x : K) → length ts ≡ 0 → map f ts ≡ xs ++ x ∷ [] → C
      no_snoc [] [] x z e = cc
      no_snoc [] (y ∷ ys) x z e = cc
      no_snoc (t ∷ ts) xs x z e = cc
  popped first after (Some t) b last is left none =
      let e : row after ++ f t ∷ [] ≡ b ++ last ∷ [] = sym (map-append f (items after) (t ∷ [])) ∙ sym (ap (map f) left) ∙ is in
      let both = snoc_same (row after) b (f t) last e in
      (both.1, both.0)

  turned_back : (old new : List V) (b : List K) (bs : List (List K)) (last : K) → new ≡ drop (length old - 1) old ++ take (length old - 1) old
      → map row old ≡ bs ++ (b ++ last ∷ []) ∷ [] → map row new ≡ (b ++ last ∷ []) ∷ bs
  turned_back old new b bs last is rows =
      let len : length old - 1 ≡ length bs = ap (λ n. n - 1) (sym (length-map old row) ∙ ap length rows) ∙ snoc_len bs (b ++ last ∷ []) in
      ap (map row) is ∙ map-append row (drop (length old - 1) old) (take (length old - 1) old)
      ∙ ap (λ xs. xs ++ map row (take (length old - 1) old)) (sym (drop-map row (length old - 1) old))
      ∙ ap (λ xs. drop (length old - 1) (map row old) ++ xs) (sym (take-map row (length old - 1) old))
      ∙ ap (λ xs. drop (length old - 1) xs ++ take (length old - 1) xs) rows
      ∙ last_first bs (b ++ last ∷ []) (length old - 1) len

  with_first : (new : List V) (first after : V) (r : Option T) (b : List K) (bs : List (List K)) (last : K) → map row new ≡ (b ++ last ∷ []) ∷ bs
      → first ≡ slice_index_or new 0 first → items first ≡ items after ++ option_to_list r → (r ≡ None → length (items first) ≡ 0)
      → IsSomeAnd r (λ t. (f t ≡ last) × (map row (slice_set new 0 after) ≡ b ∷ bs))
  with_first [] first after r b bs last rows is left none = cc
  with_first (x ∷ xs) first after r b bs last rows is left none =
      let head : row x ≡ b ++ last ∷ [] = cc in
      let rest : map row xs ≡ bs = cc in
      go r (popped first after r b last (ap row is ∙ head) left none) rest
    where
      go : (r : Option T) → IsSomeAnd r (λ t. (f t ≡ last) × (row after ≡ b)) → map row xs ≡ bs
          → IsSomeAnd r (λ t. (f t ≡ last) × (map row (slice_set (x ∷ xs) 0 after) ≡ b ∷ bs))
      go None h rest = h
      go (Some t) h rest = (h.0, cc)

  -- the session that was dealt last
  pub dealt_back : (old new : List V) (first after : V) (r : Option T) (before : List (List K)) (last : K)
      → new ≡ drop (length old - 1) old ++ take (length old - 1) old → first ≡ slice_index_or new 0 first
      → items first ≡ items after ++ option_to_list r → (r ≡ None → length (items first) ≡ 0) → 0 < length before → map row old ≡ turned before last
      → IsSomeAnd r (λ t. (f t ≡ last) × (map row (slice_set new 0 after) ≡ before))
  dealt_back old new first after r [] last is at left none some rows = let no : ⊥ = omega arith in absurd no
  dealt_back old new first after r (b ∷ bs) last is at left none some rows =
      with_first new first after r b bs last (turned_back old new b bs last is rows) at left none
