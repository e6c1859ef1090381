-- Values under names, by the place of the first of a name.
use Rattle.std.proofs.Common.{◌≡◌, ℕ, suc, ◌+◌, ◌<◌, ◌≤◌, true, false, not, cond, nat_lt, List, [], ◌∷◌, ◌++◌, length, get_or, set, refl, sym, ap, ◌∙◌, arith, tests, Some, None}
use Rattle.std.specs.Prelude.{bytes_eq}
use Rattle.std.specs.List.{filter, position, position_or_len, remove}
use Rattle.std.specs.Cmp.Lexicographic.{bytes_decides}
use Rattle.std.proofs.Math.Numerals.{one-add}
use Rattle.acap_client.specs.Following.{look_up, put, without}

module _ {A : Type 0} where
  abbrev pub seat : List ℕ → List (List ℕ × A) → ℕ
  seat name es = position_or_len (λ e. bytes_eq name e.0) es

  pub seat_some : (name : List ℕ) (es : List (List ℕ × A)) (i : ℕ) → Some i ≡ position (λ e. bytes_eq name e.0) es → (i ≡ seat name es) × (i < length es)
  seat_some name es i = elim (nat_lt (seat name es) (length es)) as (λ b. nat_lt (seat name es) (length es) ≡ b → Some i ≡ cond b (Some (seat name es)) None → (i ≡ seat name es) × (i < length es)) [
    | true ↦ λ t e. let same : i ≡ seat name es = cc e in let below : seat name es < length es = grind (arith, tests) in (same, omega (arith, same, below))
    | false ↦ λ t e. absurd (cc e)
  ] refl

  pub seat_none : (name : List ℕ) (es : List (List ℕ × A)) → None ≡ position (λ e. bytes_eq name e.0) es → length es ≤ seat name es
  seat_none name es = elim (nat_lt (seat name es) (length es)) as (λ b. nat_lt (seat name es) (length es) ≡ b → None ≡ cond b (Some (seat name es)) None → length es ≤ seat name es) [
    | true ↦ λ t e. absurd (cc e)
    | false ↦ λ t e. grind (arith, tests)
  ] refl

  pub key_at : (name : List ℕ) (es : List (List ℕ × A)) (d : List ℕ × A) → seat name es < length es → (get_or es (seat name es) d).0 ≡ name
  key_at name [] d = λ h. absurd (omega arith)
  key_at name (e ∷ es) d = elim (bytes_eq name e.0) as (λ b. bytes_eq name e.0 ≡ b → cond (not b) (1 + seat name es) 0 < suc (length es) → (get_or (e ∷ es) (cond (not b) (1 + seat name es) 0) d).0 ≡ name) [
    | true ↦ λ t h. sym ((bytes_decides name e.0).0 t)
    | false ↦ λ t h. ap (λ i. (get_or (e ∷ es) i d).0) (one-add (seat name es)) ∙ key_at name es d (omega (arith, h))
  ] refl

  pub look_at : (name : List ℕ) (es : List (List ℕ × A)) (d : List ℕ × A) → seat name es < length es → look_up name es ≡ Some (get_or es (seat name es) d).1
  look_at name [] d = λ h. absurd (omega arith)
  look_at name (e ∷ es) d = elim (bytes_eq name e.0) as (λ b. cond (not b) (1 + seat name es) 0 < suc (length es) → cond b (Some e.1) (look_up name es) ≡ Some (get_or (e ∷ es) (cond (not b) (1 + seat name es) 0) d).1) [
    | true ↦ λ h. refl
    | false ↦ λ h. look_at name es d (omega (arith, h)) ∙ ap (λ i. Some (get_or (e ∷ es) i d).1) (sym (one-add (seat name es)))
  ]

  pub look_past : (name : List ℕ) (es : List (List ℕ × A)) → length es ≤ seat name es → look_up name es ≡ None
  look_past name [] = λ h. refl
  look_past name (e ∷ es) = elim (bytes_eq name e.0) as (λ b. suc (length es) ≤ cond (not b) (1 + seat name es) 0 → cond b (Some e.1) (look_up name es) ≡ None) [
    | true ↦ λ h. absurd (omega (arith, h))
    | false ↦ λ h. look_past name es (omega (arith, h))
  ]

  pub put_at : (name : List ℕ) (x : A) (es : List (List ℕ × A)) → seat name es < length es → put name x es ≡ set es (seat name es) (name, x)
  put_at name x [] = λ h. absurd (omega arith)
  put_at name x (e ∷ es) = elim (bytes_eq name e.0) as (λ b. cond (not b) (1 + seat name es) 0 < suc (length es) → cond b ((name, x) ∷ es) (e ∷ put name x es) ≡ set (e ∷ es) (cond (not b) (1 + seat name es) 0) (name, x)) [
    | true ↦ λ h. refl
    | false ↦ λ h. ap (λ t. e ∷ t) (put_at name x es (omega (arith, h))) ∙ ap (λ i. set (e ∷ es) i (name, x)) (sym (one-add (seat name es)))
  ]

  pub put_past : (name : List ℕ) (x : A) (es : List (List ℕ × A)) → length es ≤ seat name es → put name x es ≡ es ++ (name, x) ∷ []
  put_past name x [] = λ h. refl
  put_past name x (e ∷ es) = elim (bytes_eq name e.0) as (λ b. suc (length es) ≤ cond (not b) (1 + seat name es) 0 → cond b ((name, x) ∷ es) (e ∷ put name x es) ≡ e ∷ (es ++ (name, x) ∷ [])) [
    | true ↦ λ h. absurd (omega (arith, h))
    | false ↦ λ h. ap (λ t. e ∷ t) (put_past name x es (omega (arith, h)))
  ]

  -- what is put where it stands already
  pub put_same : (name : List ℕ) (x : A) (es : List (List ℕ × A)) → look_up name es ≡ Some x → put name x es ≡ es
  put_same name x [] = λ h. absurd (cc h)
  put_same name x (e ∷ es) = elim (bytes_eq name e.0) as (λ b. bytes_eq name e.0 ≡ b → cond b (Some e.1) (look_up name es) ≡ Some x → cond b ((name, x) ∷ es) (e ∷ put name x es) ≡ e ∷ es) [
    | true ↦ λ t h. let key : name ≡ e.0 = (bytes_decides name e.0).0 t in let value : x ≡ e.1 = cc h in (λ i. (key i, value i) ∷ es)
    | false ↦ λ t h. ap (λ t. e ∷ t) (put_same name x es h)
  ] refl

  pub without_at : (name : List ℕ) (es : List (List ℕ × A)) → without name (remove es (seat name es)) ≡ without name es
  without_at name [] = refl
  without_at name (e ∷ es) = elim (bytes_eq name e.0) as (λ b. bytes_eq name e.0 ≡ b → without name (remove (e ∷ es) (cond (not b) (1 + seat name es) 0)) ≡ cond b (without name es) (e ∷ without name es)) [
    | true ↦ λ t. refl
    | false ↦ λ t. ap (λ i. without name (remove (e ∷ es) i)) (one-add (seat name es)) ∙ ap (λ b. cond b (without name (remove es (seat name es))) (e ∷ without name (remove es (seat name es)))) t ∙ ap (λ t. e ∷ t) (without_at name es)
  ] refl

  pub without_past : (name : List ℕ) (es : List (List ℕ × A)) → length es ≤ seat name es → without name es ≡ es
  without_past name [] = λ h. refl
  without_past name (e ∷ es) = elim (bytes_eq name e.0) as (λ b. suc (length es) ≤ cond (not b) (1 + seat name es) 0 → cond b (without name es) (e ∷ without name es) ≡ e ∷ es) [
    | true ↦ λ h. absurd (omega (arith, h))
    | false ↦ λ h. ap (λ t. e ∷ t) (without_past name es (omega (arith, h)))
  ]

  pub without_is : (name : List ℕ) (es : List (List ℕ × A)) → without name es ≡ filter (λ e. not (bytes_eq name e.0)) es
  without_is name [] = refl
  without_is name (e ∷ es) = elim (bytes_eq name e.0) as (λ b. cond b (without name es) (e ∷ without name es) ≡ cond (not b) (e ∷ filter (λ e. not (bytes_eq name e.0)) es) (filter (λ e. not (bytes_eq name e.0)) es)) [
    | true ↦ without_is name es
    | false ↦ ap (λ t. e ∷ t) (without_is name es)
  ]
