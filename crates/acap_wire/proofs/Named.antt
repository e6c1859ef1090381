-- What stands under a name once something is put under one.
use Rattle.std.proofs.Common.{◌≡◌, ℕ, Bool, true, false, cond, List, [], ◌∷◌, Option, Some, None, refl, sym, ap, ◌∙◌}
use Rattle.std.specs.Prelude.{bytes_eq}
use Rattle.std.specs.Cmp.Lexicographic.{bytes_decides}
use Rattle.acap_client.specs.Following.{look_up, put, without}

pub itself : (q : List ℕ) → bytes_eq q q ≡ true
itself q = (bytes_decides q q).1 refl

apart : (q n m : List ℕ) → bytes_eq n m ≡ false → bytes_eq q m ≡ true → bytes_eq q n ≡ true → ⊥
apart q n m t a b =
    let same : n ≡ m = sym ((bytes_decides q n).0 b) ∙ (bytes_decides q m).0 a in
    let k : false ≡ true = sym t ∙ (bytes_decides n m).1 same in
    cc

module _ {A : Type 0} where
  covers : (b : Bool) (x y l : Option A) → cond b x l ≡ cond b x (cond b y l)
  covers true x y l = refl
  covers false x y l = refl

  swaps : (a b : Bool) (x y l : Option A) → (a ≡ true → b ≡ true → ⊥) → cond a x (cond b y l) ≡ cond b y (cond a x l)
  swaps true true x y l h = absurd (h refl refl)
  swaps true false x y l h = refl
  swaps false true x y l h = refl
  swaps false false x y l h = refl

  pub look_put : (q n : List ℕ) (x : A) (es : List (List ℕ × A)) → look_up q (put n x es) ≡ cond (bytes_eq q n) (Some x) (look_up q es)
  look_put q n x [] = refl
  look_put q n x (e ∷ es) = elim (bytes_eq n e.0) as (λ b. bytes_eq n e.0 ≡ b
      → look_up q (cond b ((n, x) ∷ es) (e ∷ put n x es)) ≡ cond (bytes_eq q n) (Some x) (cond (bytes_eq q e.0) (Some e.1) (look_up q es))) [
        | true ↦ λ t.
            covers (bytes_eq q n) (Some x) (Some e.1) (look_up q es)
            ∙ ap (λ m. cond (bytes_eq q n) (Some x) (cond (bytes_eq q m) (Some e.1) (look_up q es))) ((bytes_decides n e.0).0 t)
        | false ↦ λ t.
            ap (λ l. cond (bytes_eq q e.0) (Some e.1) l) (look_put q n x es)
            ∙ swaps (bytes_eq q e.0) (bytes_eq q n) (Some e.1) (Some x) (look_up q es) (apart q n e.0 t)
      ] refl

  -- under the name itself, and under another one
  pub look_own : (q : List ℕ) (x : A) (es : List (List ℕ × A)) → look_up q (put q x es) ≡ Some x
  look_own q x es = look_put q q x es ∙ ap (λ b. cond b (Some x) (look_up q es)) (itself q)

  pub look_other : (q n : List ℕ) (x : A) (es : List (List ℕ × A)) → bytes_eq q n ≡ false → look_up q (put n x es) ≡ look_up q es
  look_other q n x es e = look_put q n x es ∙ ap (λ b. cond b (Some x) (look_up q es)) e

  -- of one thing alone
  pub look_one : (t : List ℕ) (x : A) → look_up t ((t, x) ∷ []) ≡ Some x
  look_one t x = ap (λ b. cond b (Some x) None) (itself t)

  pub put_one : (t : List ℕ) (x y : A) → put t y ((t, x) ∷ []) ≡ (t, y) ∷ []
  put_one t x y = ap (λ b. cond b ((t, y) ∷ []) ((t, x) ∷ put t y [])) (itself t)

  pub without_one : (t : List ℕ) (x : A) → without t ((t, x) ∷ []) ≡ []
  without_one t x = ap (λ b. cond b (without t []) ((t, x) ∷ without t [])) (itself t)
