-- Lists, item by item.
use Rattle.std.proofs.Common.{◌≡◌, ℕ, true, false, cond, List, [], ◌∷◌, length, drop, sym, ap, ◌∙◌, arith}
use Rattle.std.specs.Prelude.{bytes_eq}
use Rattle.acap_commands.specs.declared.store.StoreItem.{StoreItem}
use Rattle.acap_client.specs.Parts.{LeavesItems, one_item, two_items}
use Rattle.acap_lexer.specs.Token.{Token}
use Rattle.acap_grammar.specs.Spelling.{each, items}
use Rattle.acap_client.specs.Writing.{Writes, line_with}
use Rattle.acap_client.specs.declared.writing.Writing.{Writing}

-- with the items that are left, the line is what it was with all of them
abbrev pub IsSoFar : {A : Type 0} → (A → List Token → List Token) → List A → Writing → ℕ → Writing → Type 0
IsSoFar spell items old index new = (after : List Token) → line_with old (each spell items after) ≡ line_with new (each spell (drop index items) after)

-- ---- the items of a STORE

pub alone : (i : StoreItem) (others : List StoreItem) (old new : Writing) → others ≡ [] → Writes (one_item i) old new → LeavesItems i others old others new
alone i others old new none w = record {
  writes = λ after. ap (λ (rest : List StoreItem). line_with old (items (i ∷ rest) after)) none ∙ w after ∙ ap (λ (rest : List StoreItem). line_with new (items rest after)) (sym none);
  fewer = omega arith;
}

pub differs : (i j : StoreItem) (others left : List StoreItem) (old new : Writing) → others ≡ j ∷ left → bytes_eq i.attribute j.attribute ≡ false → Writes (one_item i) old new → LeavesItems i others old others new
differs i j others left old new split other w = record {
  writes = λ after.
      ap (λ (rest : List StoreItem). line_with old (items (i ∷ rest) after)) split
      ∙ ap (λ b. line_with old (cond b (two_items i j (items left after)) (one_item i (items (j ∷ left) after)))) other
      ∙ w (items (j ∷ left) after)
      ∙ ap (λ (rest : List StoreItem). line_with new (items rest after)) (sym split);
  fewer = omega arith;
}

pub both : (i j : StoreItem) (others left : List StoreItem) (old new : Writing) → others ≡ j ∷ left → bytes_eq i.attribute j.attribute ≡ true → Writes (two_items i j) old new → LeavesItems i others old left new
both i j others left old new split same w = record {
  writes = λ after.
      ap (λ (rest : List StoreItem). line_with old (items (i ∷ rest) after)) split
      ∙ ap (λ b. line_with old (cond b (two_items i j (items left after)) (one_item i (items (j ∷ left) after)))) same
      ∙ w (items left after);
  fewer = omega (arith, ap length split);
}
