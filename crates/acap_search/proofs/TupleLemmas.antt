-- The tuples of the paths in sight.
use Rattle.std.proofs.Common.{◌≡◌, zero, suc, Bool, true, false, cond, ◌&&◌, ◌||◌, Option, Some, None, List, [], ◌∷◌, refl, ◌∙◌, ap, arith}
use Rattle.std.specs.Cmp.{first_so, second_so}
use Rattle.std.specs.Cmp.Lexicographic.{bytes_decides}
use Rattle.std.specs.List.{filter_map, Contains, cons_option}
use Rattle.std.proofs.lemmas.Map.Views.{Contains-from_any}
use Rattle.acap_entries.specs.Orders.{octets_eq}
use Rattle.acap_entries.specs.declared.path.Path.{Path}
use Rattle.acap_search.specs.Fresh.{Sight, same_path, is_among, tuple_of}
use Rattle.acap_search.specs.Matches.{Match}
use Rattle.acap_search.specs.Rows.{stars_of}
use Rattle.acap_search.specs.Tuples.{tuple_for}
use Rattle.acap_search.specs.declared.query.SearchSpec.{SearchSpec}

-- ---- which paths are among some

pub same_paths : (a b : Path) → same_path a b ≡ true → a ≡ b
same_paths a b e =
    let dataset : a.dataset ≡ b.dataset = (bytes_decides a.dataset b.dataset).0 (first_so _ _ e) in
    let name : a.name ≡ b.name = (bytes_decides a.name b.name).0 (second_so _ _ e) in
    λ i. record { dataset = dataset i; name = name i }

pub itself : (p : Path) → same_path p p ≡ true
itself p = (λ i. (bytes_decides p.dataset p.dataset).1 refl i && octets_eq p.name p.name) ∙ (bytes_decides p.name p.name).1 refl

at : (p q : Path) (ps : List Path) → p ≡ q → is_among (p ∷ ps) q ≡ true
at p q ps e = ap (λ b. b || is_among ps q) (ap (λ r. same_path q r) e ∙ itself q)

pub among : (ps : List Path) (p : Path) → Contains ps p → is_among ps p ≡ true
among [] p h = absurd (omega (arith, h.1))
among (q ∷ qs) p (zero, lt, e) = at q p qs e
among (q ∷ qs) p (suc k, lt, e) =
    let behind : is_among qs p ≡ true = among qs p (k, omega (arith, lt), e) in
    elim (same_path p q) as (λ b. (b || is_among qs p) ≡ true) [ true ↦ refl | false ↦ behind ]

pub from_among : (ps : List Path) (p : Path) → is_among ps p ≡ true → Contains ps p
from_among ps p e = Contains-from_any same_paths p ps e

-- ---- tuples

-- what is made of a path that is in sight
abbrev pub tuple_at : Sight → SearchSpec → Path → Option Match
tuple_at sight sought path = tuple_for sought None path (sight.answers path) (stars_of (sight.answers path).read (sight.attributes path))

pub filter_map_same : {X Y : Type 0} (f g : X → Option Y) (xs : List X) → ((x : X) → Contains xs x → f x ≡ g x) → filter_map f xs ≡ filter_map g xs
filter_map_same f g [] h = refl
filter_map_same f g (x ∷ xs) h =
    let first : f x ≡ g x = h x (zero, omega arith, refl) in
    let others : filter_map f xs ≡ filter_map g xs = filter_map_same f g xs (λ y k. h y (suc k.0, omega (arith, k.1), k.2)) in
    λ i. cons_option (first i) (others i)

pub tuple_inside : (sight : Sight) (sought : SearchSpec) (path : Path) → Contains sight.paths path → tuple_of sight sought path ≡ tuple_at sight sought path
tuple_inside sight sought path h = ap (λ b. cond b (tuple_at sight sought path) None) (among sight.paths path h)

pub tuples_are : (sight : Sight) (sought : SearchSpec) → filter_map (tuple_of sight sought) sight.paths ≡ filter_map (tuple_at sight sought) sight.paths
tuples_are sight sought = filter_map_same (tuple_of sight sought) (tuple_at sight sought) sight.paths (tuple_inside sight sought)

-- what is made where two tests hold, is that, and both do
pub made_is : {X : Type 0} (b c : Bool) (x y : X) → cond b (cond c (Some x) None) None ≡ Some y → (b ≡ true) × ((c ≡ true) × (x ≡ y))
made_is true true x y e = (refl, (refl, cc (e)))
made_is true false x y e = absurd (cc (e))
made_is false c x y e = absurd (cc (e))
