-- Lists that loops go through, one item further.
use Rattle.std.proofs.Common.{◌≡◌, ℕ, zero, suc, ◌+◌, ◌<◌, List, [], ◌∷◌, ◌++◌, length, take, drop, get_or, set, refl, sym, ◌∙◌, ap, arith, map as each}
use Rattle.std.proofs.Math.Seq.{drop-cons}
use Rattle.std.proofs.lemmas.List.Edits.{map_over_more}
use Rattle.std.proofs.lemmas.List.{map-set, length-map}
use Rattle.acap_ordmap.proofs.Logic.{suc_is}

pub one_dropped : {A : Type 0} (xs : List A) (i : ℕ) (x : A) → i < length xs → x ≡ get_or xs i x → drop i xs ≡ x ∷ drop (i + 1) xs
one_dropped xs i x h e = drop-cons xs i x h ∙ (ap (λ z. z ∷ drop (suc i) xs) (sym e) ∙ ap (λ n. x ∷ drop n xs) (suc_is i))

get_each : {A B : Type 0} (f : A → B) (xs : List A) (i : ℕ) (d : A) → get_or (each f xs) i (f d) ≡ f (get_or xs i d)
get_each f [] i d = refl
get_each f (x ∷ xs) zero d = refl
get_each f (x ∷ xs) (suc i) d = get_each f xs i d

-- a list that is changed item by item, of which f tells what is so of the items
pub one_changed : {A B : Type 0} (f : A → B) (g : B → B) (old items : List A) (i : ℕ) (e y : A) → i < length old → e ≡ get_or items i e → f y ≡ g (f e)
    → each f items ≡ each g (take i (each f old)) ++ drop i (each f old) → each f (set items i y) ≡ each g (take (i + 1) (each f old)) ++ drop (i + 1) (each f old)
one_changed f g old items i e y h at k m =
    let within : i < length (each f old) = omega (arith, h, length-map old f) in
    map-set f items i y ∙ (ap (set (each f items) i) k
    ∙ map_over_more g (each f old) (each f items) i (f e) within m (ap f at ∙ sym (get_each f items i e)))
