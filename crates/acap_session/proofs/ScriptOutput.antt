-- Octets in parts, part by part.
use Rattle.std.proofs.Common.{◌≡◌, ◌≢◌, ℕ, zero, suc, ◌+◌, ◌<◌, List, [], ◌∷◌, ◌++◌, length, Some, None, sym, ap, subst, ◌∙◌, append_assoc, arith, slice_index}
use Rattle.std.specs.Prelude.{flat_map}
use Rattle.std.proofs.lemmas.List.{append-nil}
use Rattle.memchr.specs.Find.{FindsNeedle, OccursAt}
use Rattle.acap_lexer.specs.Stream.{end_of}
use Rattle.acap_lexer.proofs.EndPlaces.{first_end, no_end}
use Rattle.acap_session.specs.ScriptOutput.{part_line, IsFirstPart, AreParts, Shows}

abbrev pub crlf : List ℕ
crlf = 13 ∷ 10 ∷ []

occurs : (said : List ℕ) (k : ℕ) → k + 1 < length said → slice_index said k ≡ 13 → slice_index said (k + 1) ≡ 10 → OccursAt said crlf k
occurs said k inside return feed = record { fits = omega (arith, inside); reads = reads }
  where
    reads : (j : ℕ) → j < length crlf → slice_index said (k + j) ≡ slice_index crlf j
    reads zero lt = ap (slice_index said) (omega arith) ∙ return
    reads (suc zero) lt = feed
    reads (suc (suc j)) lt = absurd (omega (arith, lt))

pub found : (said : List ℕ) (place : ℕ) → FindsNeedle said crlf 0 (Some place) → end_of said ≡ Some place
found said place h = first_end said place
    (record { inside = omega (arith, h.1.fits); return = ap (slice_index said) (omega arith) ∙ h.1.reads 0 (omega arith); feed = h.1.reads 1 (omega arith) })
    (λ k lt return feed. h.0.before k (omega arith) (omega (arith, lt)) (occurs said k (omega (arith, lt, h.1.fits)) return feed))

pub not_found : (said : List ℕ) → FindsNeedle said crlf 0 None → end_of said ≡ None
not_found said h = no_end said (λ k lt return feed. h k (omega arith) (omega (arith, lt)) (occurs said k lt return feed))

-- ---- parts so far

pub flat_snoc : (f : List ℕ → List ℕ) (xs : List (List ℕ)) (x : List ℕ) → flat_map f (xs ++ x ∷ []) ≡ flat_map f xs ++ f x
flat_snoc f [] x = append-nil (f x)
flat_snoc f (y ∷ xs) x = ap (λ ys. f y ++ ys) (flat_snoc f xs x) ∙ sym (append_assoc (f y) (flat_map f xs) (f x))

pub record IsPartly (seat : ℕ) (said rest written : List ℕ) : Type 0 where
  pub parts : List (List ℕ)
  pub is : written ≡ flat_map (part_line seat) parts
  pub more : (later : List (List ℕ)) → AreParts later rest → AreParts (parts ++ later) said

pub one_more : (seat : ℕ) (said rest part behind written more : List ℕ) → IsPartly seat said rest written → rest ≢ [] → IsFirstPart rest part behind → more ≡ written ++ part_line seat part → IsPartly seat said behind more
one_more seat said rest part behind written more h some first e = record {
  parts = h.parts ++ part ∷ [];
  is = e ∙ ap (λ ys. ys ++ part_line seat part) h.is ∙ sym (flat_snoc (part_line seat) h.parts part);
  more = λ later k. subst (λ ps. AreParts ps said) (sym (append_assoc h.parts (part ∷ []) later)) (h.more (part ∷ later) (some, (behind, first, k)));
}

pub all_parts : (seat : ℕ) (said rest written : List ℕ) → IsPartly seat said rest written → rest ≡ [] → Shows seat said written
all_parts seat said rest written h e = record {
  parts = h.parts;
  said_is = subst (λ ps. AreParts ps said) (append-nil h.parts) (h.more [] e);
  is = h.is;
}

pub not_empty : (xs : List ℕ) → 0 < length xs → xs ≢ []
not_empty [] e = absurd (omega (arith, e))
not_empty (x ∷ xs) e = λ f. cc
