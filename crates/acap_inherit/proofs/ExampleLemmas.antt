-- The examples, by computation.
use Rattle.std.proofs.Common.{◌≡◌, ℕ, zero, suc, ◌+◌, Bool, true, false, cond, List, [], ◌∷◌, Option, Some, None, refl, ap, ◌∙◌}
use Rattle.std.specs.Prelude.{codes}
use Rattle.std.specs.FinMap as map
use Rattle.std.specs.Option.{option_and_then}
use Rattle.std.specs.Ordering.{is_eq}
use Rattle.std.specs.declared.cmp.Ordering.TheVariants.{Equal}
use Rattle.std.specs.Cmp.Lexicographic.{nat_list_cmp_total}
use Rattle.acap_entries.specs.Orders.{octets_cmp}
use Rattle.acap_entries.specs.Store.{Stored}
use Rattle.acap_entries.specs.declared.record.Cell.{Cell}
use Rattle.acap_entries.specs.declared.record.Cell.TheVariants.{Nil, Single, Multi}
use Rattle.acap_entries.specs.declared.record.Record.{Record}
use Rattle.acap_inherit.specs.Chains.{name_in, base_at, onward, chain_within}
use Rattle.acap_inherit.specs.Records.{cell_in}
use Rattle.acap_inherit.specs.Resolving.{lookup, modtime_of}
use Rattle.acap_inherit.specs.Examples.{record_with, no_cells, one_cell, inherits, management_of, a, b, value, ChainExamples, OverBaseExamples, MomentExamples}

-- ---- cells

own_cell : (attribute : List ℕ) (cell : Cell) → octets_cmp attribute attribute ≡ Equal → map.get (one_cell attribute cell) attribute ≡ Some cell
own_cell attribute cell h =
    map.get-insert nat_list_cmp_total map.empty attribute cell attribute ∙ ap (λ r. cond (is_eq r) (Some cell) (map.get no_cells attribute)) h

other_cell : (attribute other : List ℕ) (cell : Cell) → is_eq (octets_cmp other attribute) ≡ false → map.get (one_cell attribute cell) other ≡ None
other_cell attribute other cell h =
    map.get-insert nat_list_cmp_total map.empty attribute cell other
    ∙ (ap (λ t. cond t (Some cell) (map.get no_cells other)) h ∙ map.get-empty octets_cmp other)

no_cell : (attribute : List ℕ) → map.get no_cells attribute ≡ None
no_cell attribute = map.get-empty octets_cmp attribute

-- ---- chains

base_of : Option Record → Option (List ℕ)
base_of entry = option_and_then name_in (option_and_then (λ r. cell_in r (codes "dataset.inherit")) entry)

-- what a management entry names that has a cell for it, and one that has none
named : (records : Stored) (dataset : List ℕ) (cell : Cell) → management_of records dataset ≡ Some (inherits cell) → base_at records dataset ≡ name_in cell
unfolding base_of
named records dataset cell h = ap base_of h ∙ ap (option_and_then name_in) (own_cell (codes "dataset.inherit") cell refl)

unnamed : (records : Stored) (dataset : List ℕ) (ends : Bool) → management_of records dataset ≡ Some (record_with true ends no_cells 0) → base_at records dataset ≡ None
unfolding base_of
unnamed records dataset ends h = ap base_of h ∙ ap (option_and_then name_in) (no_cell (codes "dataset.inherit"))

none_named : (records : Stored) (dataset : List ℕ) → management_of records dataset ≡ None → base_at records dataset ≡ None
unfolding base_of
none_named records dataset h = ap base_of h

deleted_named : (records : Stored) (dataset : List ℕ) → management_of records dataset ≡ Some (record_with false true no_cells 0) → base_at records dataset ≡ None
unfolding base_of
deleted_named records dataset h = ap base_of h

one_more : (most : ℕ) (records : Stored) (dataset base : List ℕ) → base_at records dataset ≡ Some base → chain_within (suc most) records dataset ≡ dataset ∷ chain_within most records base
unfolding chain_within
one_more most records dataset base h = ap (λ found. dataset ∷ onward found (chain_within most records)) h

at_end : (most : ℕ) (records : Stored) (dataset : List ℕ) → base_at records dataset ≡ None → chain_within (suc most) records dataset ≡ dataset ∷ []
unfolding chain_within
at_end most records dataset h = ap (λ found. dataset ∷ onward found (chain_within most records)) h

no_room : (records : Stored) (dataset : List ℕ) → chain_within zero records dataset ≡ []
unfolding chain_within
no_room records dataset = refl

abbrev row_from : (ℕ → List ℕ) → ℕ → ℕ → List (List ℕ)
row_from c i zero = []
row_from c i (suc most) = c i ∷ row_from c (i + 1) most

row_of : (most : ℕ) (records : Stored) (c : ℕ → List ℕ) (i : ℕ) → ((k : ℕ) → base_at records (c k) ≡ Some (c (k + 1))) → chain_within most records (c i) ≡ row_from c i most
row_of zero records c i h = no_room records (c i)
row_of (suc most) records c i h = one_more most records (c i) (c (i + 1)) (h i) ∙ ap (λ rest. c i ∷ rest) (row_of most records c (i + 1) h)

two_more : (most : ℕ) (records : Stored) → base_at records a ≡ Some b → base_at records b ≡ Some a → chain_within (suc (suc most)) records a ≡ a ∷ b ∷ chain_within most records a
two_more most records h k = one_more (suc most) records a b h ∙ ap (λ rest. a ∷ rest) (one_more most records b a k)

in_turn : (records : Stored) → base_at records a ≡ Some b → base_at records b ≡ Some a → chain_within 8 records a ≡ a ∷ b ∷ a ∷ b ∷ a ∷ b ∷ a ∷ b ∷ []
in_turn records h k =
    two_more 6 records h k
    ∙ ap (λ rest. a ∷ b ∷ rest) (two_more 4 records h k
    ∙ ap (λ rest. a ∷ b ∷ rest) (two_more 2 records h k
    ∙ ap (λ rest. a ∷ b ∷ rest) (two_more 0 records h k ∙ ap (λ rest. a ∷ b ∷ rest) (no_room records a))))

pub chain_examples : ChainExamples
chain_examples = record {
  own_base = λ records h. row_of 8 records (λ i. a) 0 (λ k. named records a (Single a) h);
  each_other = λ records h k. in_turn records (named records a (Single b) h) (named records b (Single a) k);
  in_a_row = λ records c h. row_of 8 records c 0 (λ k. named records (c k) (Single (c (k + 1))) (h k));
  missing_base = λ records h k. one_more 7 records a b (named records a (Single b) h) ∙ ap (λ rest. a ∷ rest) (at_end 6 records b (none_named records b k));
  no_entry = λ records h. at_end 7 records a (none_named records a h);
  deleted_entry = λ records h. at_end 7 records a (deleted_named records a h);
  no_cell = λ records h. at_end 7 records a (unnamed records a false h);
  nil = λ records h. at_end 7 records a (named records a Nil h);
  texts = λ records h. at_end 7 records a (named records a (Multi (b ∷ [])) h);
  alone = λ records. refl;
}

-- ---- an entry over a base

one_text : map.get (one_cell value (Single (codes "1"))) value ≡ Some (Single (codes "1"))
one_text = own_cell value (Single (codes "1")) refl

pub over_base_examples : OverBaseExamples
unfolding lookup modtime_of
over_base_examples = record {
  nothing_stored = λ records h. record { cell = rw (h.own, h.base, one_text) refl; entry = rw (h.own, h.base) refl; moment = rw (h.own, h.base) refl };
  nil_stored = λ records h. record { cell = rw (h.own, own_cell value Nil refl) refl; entry = rw h.own refl; moment = rw (h.own, h.base) refl };
  default_stored = λ records h. record { cell = rw (h.own, no_cell value, h.base, one_text) refl; entry = rw h.own refl; moment = rw (h.own, h.base) refl };
  deleted = λ records h. record { cell = rw h.own refl; entry = rw h.own refl; moment = rw h.own refl };
  stored_again = λ records h. record { cell = rw (h.own, other_cell (codes "option.k") value (Single (codes "2")) refl) refl; entry = rw h.own refl; moment = rw h.own refl };
  list_stored = λ records h. record { cell = rw (h.own, own_cell value (Multi []) refl) refl; entry = rw h.own refl; moment = rw (h.own, h.base) refl };
  not_present = λ records h. record { cell = rw (h.own, h.base, one_text) refl; entry = rw h.own refl; moment = rw (h.own, h.base) refl };
}

pub moment_examples : MomentExamples
unfolding modtime_of
moment_examples = record {
  latest_first = λ records h k. rw (h, k) refl;
  latest_beyond = λ records h k. rw (h, k) refl;
  ended = λ records h. rw h refl;
  ended_later = λ records h k. rw (h, k) refl;
  skipped = λ records h k. rw (h, k) refl;
}
