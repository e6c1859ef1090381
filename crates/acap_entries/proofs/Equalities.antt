-- Equality is exact: it holds of equal values and of no others.
use Rattle.std.proofs.Common.{◌≡◌, ℕ, Bool, ◌&&◌, List, refl, ap}
use Rattle.std.specs.Bool.{Decides}
use Rattle.std.specs.Cmp.{first_so, second_so}
use Rattle.std.specs.Cmp.Derive.{both_true}
use Rattle.std.specs.Cmp.Lexicographic.{pointwise, pointwise_decides, bytes_decides}
use Rattle.acap_entries.specs.Orders.{octets_eq}
use Rattle.acap_entries.specs.declared.record.Cell.{Cell}
use Rattle.acap_entries.specs.declared.record.Cell.TheVariants.{Nil, Single, Multi}
use Rattle.acap_entries.specs.declared.row.Item.{Item}
use Rattle.acap_entries.specs.declared.row.Item.TheVariants.{One, Several, PerAttribute}
use Rattle.acap_entries.specs.declared.row.Row.{Row}
use Rattle.acap_entries.specs.contracts.record.CellPartialEq.TheImpl as cell
use Rattle.acap_entries.specs.contracts.row.ItemPartialEq.TheImpl as item
use Rattle.acap_entries.specs.contracts.row.RowPartialEq.TheImpl as row

-- through a constructor that can be undone
pub along : {A B : Type 0} (test : Bool) (a b : A) (f : A → B) → Decides test (a ≡ b) → (f a ≡ f b → a ≡ b) → Decides test (f a ≡ f b)
along test a b f h back = (λ e. ap f (h.0 e), λ e. h.1 (back e))

-- pairs, part by part
pub pair_exact : {A B : Type 0} {E : A → A → Bool} {F : B → B → Bool} → ((a b : A) → Decides (E a b) (a ≡ b)) → ((a b : B) → Decides (F a b) (a ≡ b)) → (p q : A × B) → Decides (E p.0 q.0 && F p.1 q.1) (p ≡ q)
pair_exact {A} {B} {E} {F} h k p q = (
  λ e. let one = (h p.0 q.0).0 (first_so _ _ e) in let two = (k p.1 q.1).0 (second_so _ _ e) in λ i. (one i, two i),
  λ e. both_true ((h p.0 q.0).1 (λ i. (e i).0)) ((k p.1 q.1).1 (λ i. (e i).1)),
)

pub values_exact : (a b : List (List ℕ)) → Decides (pointwise octets_eq a b) (a ≡ b)
values_exact = pointwise_decides bytes_decides

pub cell_exact : (a b : Cell) → Decides (cell.ghosts.eq a b) (a ≡ b)
cell_exact Nil Nil = (λ e. refl, λ e. refl)
cell_exact Nil (Single y) = (λ e. cc, λ e. cc)
cell_exact Nil (Multi ys) = (λ e. cc, λ e. cc)
cell_exact (Single x) Nil = (λ e. cc, λ e. cc)
cell_exact (Single x) (Single y) = along _ x y Single (bytes_decides x y) (λ e. cc)
cell_exact (Single x) (Multi ys) = (λ e. cc, λ e. cc)
cell_exact (Multi xs) Nil = (λ e. cc, λ e. cc)
cell_exact (Multi xs) (Single y) = (λ e. cc, λ e. cc)
cell_exact (Multi xs) (Multi ys) = along _ xs ys Multi (values_exact xs ys) (λ e. cc)

pub cells_exact : (a b : List Cell) → Decides (pointwise cell.ghosts.eq a b) (a ≡ b)
cells_exact = pointwise_decides cell_exact

pub cell_lists_exact : (a b : List (List Cell)) → Decides (pointwise (pointwise cell.ghosts.eq) a b) (a ≡ b)
cell_lists_exact = pointwise_decides cells_exact

pub item_exact : (a b : Item) → Decides (item.ghosts.eq a b) (a ≡ b)
item_exact (One x) (One y) = along _ x y One (cell_exact x y) (λ e. cc)
item_exact (One x) (Several ys) = (λ e. cc, λ e. cc)
item_exact (One x) (PerAttribute ys) = (λ e. cc, λ e. cc)
item_exact (Several xs) (One y) = (λ e. cc, λ e. cc)
item_exact (Several xs) (Several ys) = along _ xs ys Several (cells_exact xs ys) (λ e. cc)
item_exact (Several xs) (PerAttribute ys) = (λ e. cc, λ e. cc)
item_exact (PerAttribute xs) (One y) = (λ e. cc, λ e. cc)
item_exact (PerAttribute xs) (Several ys) = (λ e. cc, λ e. cc)
item_exact (PerAttribute xs) (PerAttribute ys) = along _ xs ys PerAttribute (cell_lists_exact xs ys) (λ e. cc)

pub items_exact : (a b : List Item) → Decides (pointwise item.ghosts.eq a b) (a ≡ b)
items_exact = pointwise_decides item_exact

pub row_exact : (a b : Row) → Decides (row.ghosts.eq a b) (a ≡ b)
row_exact a b =
    let parts = pair_exact bytes_decides items_exact (a.name, a.items) (b.name, b.items) in (
      λ e. let h = parts.0 e in λ i. record { name = (h i).0; items = (h i).1 },
      λ e. parts.1 (λ i. ((e i).name, (e i).items)),
    )

pub rows_exact : (a b : List Row) → Decides (pointwise row.ghosts.eq a b) (a ≡ b)
rows_exact = pointwise_decides row_exact
