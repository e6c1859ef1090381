-- Hits put into a list: two in either order, and where one stands.
use Rattle.std.proofs.Common.{◌≡◌, List, [], ◌∷◌, refl, sym, ap, ◌∙◌}
use Rattle.std.specs.declared.cmp.Ordering.{Ordering}
use Rattle.std.specs.declared.cmp.Ordering.TheVariants.{Less, Equal, Greater}
use Rattle.std.specs.Ordering.{ordering_reverse}
use Rattle.std.specs.Cmp.{IsTotalOrder}
use Rattle.acap_moves.specs.Hits.{Shape, put}

pub reversed : (o p : Ordering) → o ≡ ordering_reverse p → p ≡ ordering_reverse o
reversed Less p e = elim p as (λ p. Less ≡ ordering_reverse p → p ≡ Greater) [ Less ↦ λ e. cc | Equal ↦ λ e. cc | Greater ↦ λ e. refl ] e
reversed Equal p e = elim p as (λ p. Equal ≡ ordering_reverse p → p ≡ Equal) [ Less ↦ λ e. cc | Equal ↦ λ e. refl | Greater ↦ λ e. cc ] e
reversed Greater p e = elim p as (λ p. Greater ≡ ordering_reverse p → p ≡ Less) [ Less ↦ λ e. refl | Equal ↦ λ e. cc | Greater ↦ λ e. cc ] e

module _ {H : Type 0} (v : Shape H) where
  module _ (o : IsTotalOrder v.order) where
    greater_from : (a b : H) → v.order a b ≡ Less → v.order b a ≡ Greater
    greater_from a b p = o.antisymm b a ∙ ap ordering_reverse p

    less_from : (a b : H) → v.order a b ≡ Greater → v.order b a ≡ Less
    less_from a b p = o.antisymm b a ∙ ap ordering_reverse p

    equal_from : (a b : H) → v.order a b ≡ Equal → v.order b a ≡ Equal
    equal_from a b p = o.antisymm b a ∙ ap ordering_reverse p

    -- a is at or before e, and b after it
    less_over : (a e b : H) → v.order a e ≡ Less → v.order b e ≡ Greater → v.order a b ≡ Less
    less_over a e b p q = o.trans a e b p (less_from b e q)

    equal_over : (a e b : H) → v.order a e ≡ Equal → v.order b e ≡ Greater → v.order a b ≡ Less
    equal_over a e b p q = o.congr a e b p ∙ less_from b e q

    -- a stands before b wherever both stand
    put_less : (a b e : H) (es : List H) → v.order a e ≡ Less → v.order b e ≡ Greater → put v a (put v b (e ∷ es)) ≡ put v b (put v a (e ∷ es))
    unfolding put
    put_less a b e es p q = rw (q, p, greater_from a b (less_over a e b p q), q) refl

    put_equal : (a b e : H) (es : List H) → v.order a e ≡ Equal → v.order b e ≡ Greater → put v a (put v b (e ∷ es)) ≡ put v b (put v a (e ∷ es))
    unfolding put
    put_equal a b e es p q = rw (q, p, greater_from a b (equal_over a e b p q), q) refl

    put_greater : (a b e : H) (es : List H) → v.order a e ≡ Greater → v.order b e ≡ Greater → put v a (put v b es) ≡ put v b (put v a es) → put v a (put v b (e ∷ es)) ≡ put v b (put v a (e ∷ es))
    unfolding put
    put_greater a b e es p q r = rw (q, p, q) (ap (λ t. e ∷ t) r)

    first_less : (a e : H) (es : List H) → v.order a e ≡ Less → put v a (e ∷ es) ≡ a ∷ e ∷ es
    unfolding put
    first_less a e es p = rw p refl

    first_equal : (a e : H) (es : List H) → v.order a e ≡ Equal → put v a (e ∷ es) ≡ a ∷ e ∷ es
    unfolding put
    first_equal a e es p = rw p refl

    later : (a e : H) (es : List H) → v.order a e ≡ Greater → put v a (e ∷ es) ≡ e ∷ put v a es
    unfolding put
    later a e es p = rw p refl

    put_first : (a : H) → put v a [] ≡ a ∷ []
    unfolding put
    put_first a = refl

    -- where the two of them come first
    put_firsts : (a b : H) (es : List H) → (v.order a b ≡ Equal → ⊥) → put v a es ≡ a ∷ es → put v b es ≡ b ∷ es → put v a (put v b es) ≡ put v b (put v a es)
    put_firsts a b es n p q =
        elim (v.order a b) as (λ r. v.order a b ≡ r → put v a (put v b es) ≡ put v b (put v a es)) [
          | Less ↦ λ r. ap (put v a) q ∙ first_less a b es r ∙ sym (ap (put v b) p ∙ later b a es (greater_from a b r) ∙ ap (λ t. a ∷ t) q)
          | Equal ↦ λ r. absurd (n r)
          | Greater ↦ λ r. ap (put v a) q ∙ later a b es r ∙ ap (λ t. b ∷ t) p ∙ sym (ap (put v b) p ∙ first_less b a es (less_from a b r))
        ] refl

    -- two hits may be put in either order
    pub put_swap : (a b : H) (es : List H) → (v.order a b ≡ Equal → ⊥) → put v a (put v b es) ≡ put v b (put v a es)
    put_swap a b [] n = put_firsts a b [] n (put_first a) (put_first b)
    put_swap a b (e ∷ es) n =
        let swaps : Type 0 = put v a (put v b (e ∷ es)) ≡ put v b (put v a (e ∷ es)) in
        elim (v.order a e) as (λ r. v.order a e ≡ r → swaps) [
          | Less ↦ λ p. elim (v.order b e) as (λ r. v.order b e ≡ r → swaps) [
            | Less ↦ λ q. put_firsts a b (e ∷ es) n (first_less a e es p) (first_less b e es q)
            | Equal ↦ λ q. put_firsts a b (e ∷ es) n (first_less a e es p) (first_equal b e es q)
            | Greater ↦ λ q. put_less a b e es p q
          ] refl
          | Equal ↦ λ p. elim (v.order b e) as (λ r. v.order b e ≡ r → swaps) [
            | Less ↦ λ q. put_firsts a b (e ∷ es) n (first_equal a e es p) (first_less b e es q)
            | Equal ↦ λ q. put_firsts a b (e ∷ es) n (first_equal a e es p) (first_equal b e es q)
            | Greater ↦ λ q. put_equal a b e es p q
          ] refl
          | Greater ↦ λ p. elim (v.order b e) as (λ r. v.order b e ≡ r → swaps) [
            | Less ↦ λ q. sym (put_less b a e es q p)
            | Equal ↦ λ q. sym (put_equal b a e es q p)
            | Greater ↦ λ q. put_greater a b e es p q (put_swap a b es n)
          ] refl
        ] refl
