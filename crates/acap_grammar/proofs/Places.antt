-- The tokens from an index on.
use Rattle.std.proofs.Common.{◌≡◌, ℕ, zero, suc, ◌+◌, List, [], ◌∷◌, drop, Option, Some, None, refl, ap, sym}
use Rattle.std.proofs.lemmas.List.{drop-drop}
use Rattle.std.specs.Prelude.{option_map, slice_get}
use Rattle.acap_lexer.specs.declared.kind.Kind.{Kind}
use Rattle.acap_lexer.specs.Token.{Token}

pub passed : (tokens : List Token) (i : ℕ) → drop (i + 1) tokens ≡ drop 1 (drop i tokens)
passed tokens i = sym (drop-drop 1 i tokens)

first_is : (tokens : List Token) (i : ℕ) (t : Token) → slice_get tokens i ≡ Some t → drop i tokens ≡ t ∷ drop 1 (drop i tokens)
first_is [] i t e = absurd cc
first_is (u ∷ tokens) zero t e = let same : u ≡ t = cc in ap (λ (v : Token). v ∷ tokens) same
first_is (u ∷ tokens) (suc i) t e = first_is tokens i t e

parts : (o : Option Token) (k : Kind) (v : List ℕ) (s n : ℕ) → option_map (λ t. t.kind) o ≡ Some k → option_map (λ t. t.value) o ≡ Some v → option_map (λ t. t.start) o ≡ Some s → option_map (λ t. t.end) o ≡ Some n
    → o ≡ Some (record { kind = k; value = v; start = s; end = n })
parts None k v s n p q r u = absurd cc
parts (Some t) k v s n p q r u =
    let a : t.kind ≡ k = cc in
    let b : t.value ≡ v = cc in
    let c : t.start ≡ s = cc in
    let d : t.end ≡ n = cc in
    rw (← a, ← b, ← c, ← d) refl

pub first_of : (tokens : List Token) (i : ℕ) (k : Kind) (v : List ℕ) (s n : ℕ) → option_map (λ t. t.kind) (slice_get tokens i) ≡ Some k → option_map (λ t. t.value) (slice_get tokens i) ≡ Some v
    → option_map (λ t. t.start) (slice_get tokens i) ≡ Some s → option_map (λ t. t.end) (slice_get tokens i) ≡ Some n
    → drop i tokens ≡ record { kind = k; value = v; start = s; end = n } ∷ drop 1 (drop i tokens)
first_of tokens i k v s n p q r u = first_is tokens i (record { kind = k; value = v; start = s; end = n }) (parts (slice_get tokens i) k v s n p q r u)
