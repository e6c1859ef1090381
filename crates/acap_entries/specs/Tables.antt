-- Equality of tables.
use Rattle.std.specs.Prelude.{Bool, ◌&&◌}
use Rattle.std.specs.Cmp.{IsPartialEquivalence, IsEquivalence, and_equiv, and_per, on_equiv, on_per}
use Rattle.std.specs.Cmp.{partial_equiv_from_equiv}
use Rattle.std.specs.Cmp.Lexicographic.{pointwise, lists_equiv, lists_per, nat_list_eq_equiv}
use Rattle.std.specs.FinMap as map
use Rattle.acap_entries.specs.Orders.{octets_cmp, octets_eq}

-- two tables are equal where their entries are, one by one
abbrev pub tables_eq : {V : Type 0} → (V → V → Bool) → map.FinMap octets_cmp V → map.FinMap octets_cmp V
    → Bool
tables_eq eq m n = pointwise (λ p q. octets_eq p.0 q.0 && eq p.1 q.1) (map.entries m) (map.entries n)

module _ {V : Type 0} {E : V → V → Bool} where
  pub tables_per : IsPartialEquivalence E → IsPartialEquivalence (tables_eq E)
  tables_per laws =
      let names = on_per (λ p. p.0) (partial_equiv_from_equiv nat_list_eq_equiv) in
      on_per (λ m. map.entries m) (lists_per (and_per names (on_per (λ p. p.1) laws)))

  pub tables_equiv : IsEquivalence E → IsEquivalence (tables_eq E)
  tables_equiv laws =
      on_equiv (λ m. map.entries m)
      (lists_equiv (and_equiv (on_equiv (λ p. p.0) nat_list_eq_equiv) (on_equiv (λ p. p.1) laws)))
