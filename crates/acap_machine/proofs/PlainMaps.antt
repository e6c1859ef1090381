-- Maps and lists in which each value has become another: what is found there, and what an edit makes of them.
use Rattle.std.proofs.Common.{◌≡◌, List, [], ◌∷◌, ◌++◌, Option, Some, None, refl, sym, ap, ◌∙◌, flat_map, option_map, map as each}
use Rattle.std.specs.Cmp.{IsTotalOrder}
use Rattle.std.specs.FinMap as table
use Rattle.std.specs.FinMap.{FinMap, IsAntisymmetric, same_map}
use Rattle.std.specs.Option.{option_and_then}
use Rattle.std.specs.declared.cmp.Ordering.{Ordering}
use Rattle.acap_views.proofs.ShownLemmas.{get_kept, get_value}
use Rattle.acap_views.specs.Maps.{each_kept, each_value}

-- two ways to come to the same values come to the same map
through : {X Y Z W : Type 0} (f : X → Y) (g : Y → W) (h : X → Z) (k : Z → W) (x : Option X) → ((v : X) → g (f v) ≡ k (h v))
    → option_map g (option_map f x) ≡ option_map k (option_map h x)
through f g h k None same = refl
through f g h k (Some v) same = ap Some (same v)

pub values_both : {K X Y Z W : Type 0} {R : K → K → Ordering} (o : IsTotalOrder R) (apart : IsAntisymmetric R) (f : X → Y) (g : Y → W) (h : X → Z) (k : Z → W) (m : FinMap R X)
    → ((v : X) → g (f v) ≡ k (h v)) → each_value g (each_value f m) ≡ each_value k (each_value h m)
values_both o apart f g h k m same = same_map o apart _ _ (λ q.
    get_value o g (each_value f m) q ∙ ap (option_map g) (get_value o f m q) ∙ through f g h k (table.get m q) same
    ∙ sym (get_value o k (each_value h m) q ∙ ap (option_map k) (get_value o h m q)))

-- the same where some values go
taken : {X Y : Type 0} (f : X → Y) (g : Y → Option Y) (h : X → Option X) (x : Option X) → ((v : X) → x ≡ Some v → g (f v) ≡ option_map f (h v))
    → option_and_then g (option_map f x) ≡ option_map f (option_and_then h x)
taken f g h None same = refl
taken f g h (Some v) same = same v refl

pub kept_both : {K X Y : Type 0} {R : K → K → Ordering} (o : IsTotalOrder R) (apart : IsAntisymmetric R) (f : X → Y) (g : Y → Option Y) (h : X → Option X) (m : FinMap R X)
    → ((q : K) (v : X) → table.get m q ≡ Some v → g (f v) ≡ option_map f (h v)) → each_kept g (each_value f m) ≡ each_value f (each_kept h m)
kept_both o apart f g h m same = same_map o apart _ _ (λ q.
    get_kept o g (each_value f m) q ∙ ap (option_and_then g) (get_value o f m q) ∙ taken f g h (table.get m q) (same q)
    ∙ sym (get_value o f (each_kept h m) q ∙ ap (option_map f) (get_kept o h m q)))

-- what is told of each
pub flat_both : {X Y Z : Type 0} (f : X → Y) (g : Y → List Z) (h : X → List Z) (xs : List X) → ((x : X) → g (f x) ≡ h x) → flat_map g (each f xs) ≡ flat_map h xs
flat_both f g h [] same = refl
flat_both f g h (x ∷ xs) same = λ i. same x i ++ flat_both f g h xs same i
