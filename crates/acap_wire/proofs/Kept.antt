-- What a follower holds of a context beside a client that holds rows.
use Rattle.std.proofs.Common.{◌≡◌, Bool, true, false, List, map, Option, Some, None, refl, sym, ap, subst, ◌∙◌}
use Rattle.std.specs.FinMap.{same_map, slice_cmp-IsAntisymmetric, nat_cmp-IsAntisymmetric}
use Rattle.std.specs.Option.{option_map}
use Rattle.std.specs.Cmp.Lexicographic.{nat_list_cmp_total}
use Rattle.acap_client.specs.Following.{Held, Listed, Mapped, Kept, held_as, held_after}
use Rattle.acap_entries.specs.declared.row.Row.{Row}
use Rattle.acap_grammar.specs.Printed.{PrintedMap, PrintedLaw, IsPrinted, ArePrinted, printed_row, printed_notice, printed_by_name, printed_list_after, printed_map_after}
use Rattle.acap_notices.specs.Client.{listed_after, mapped_after}
use Rattle.acap_notices.specs.Holding.{Holding, holding, holding_after}
use Rattle.acap_notices.specs.Holding as plain
use Rattle.acap_notices.specs.Rows.{RowMap}
use Rattle.acap_notices.specs.declared.notice.Notice.{Notice}

-- these rows, as they are printed
abbrev pub IsPrintedAs : Holding → Held → Type 0
IsPrintedAs (plain.Listed rows) (Listed printed) = printed ≡ map printed_row rows
IsPrintedAs (plain.Listed rows) (Mapped printed) = ⊥
IsPrintedAs (plain.Mapped rows) (Listed printed) = ⊥
IsPrintedAs (plain.Mapped rows) (Mapped printed) = IsPrinted rows printed

-- a context of which these rows are held, and of which more may come
pub record IsKeptAs (holding : Holding) (found : Option Kept) : Type 0 where
  pub kept : Kept
  pub there : found ≡ Some kept
  pub printed : IsPrintedAs holding kept.held
  pub goes_on : kept.freed ≡ false

-- where the client holds rows
abbrev pub IsHeldAs : Option Holding → Option Kept → Type 0
IsHeldAs held found = (h : Holding) → held ≡ Some h → IsKeptAs h found

-- ---- a notice

pub record Leads (h : Holding) (held : Option Held) : Type 0 where
  pub next : Held
  pub is : held ≡ Some next
  pub printed : IsPrintedAs h next

module _ (law : PrintedLaw) where
  listed : (rows : List Row) (n : Notice) (h : Holding) (found : Option (List Row)) → listed_after rows n ≡ found → option_map plain.Listed found ≡ Some h
      → Leads h (option_map Listed (printed_list_after (map printed_row rows) (printed_notice n)))
  listed rows n h None e k = absurd cc
  listed rows n h (Some new) e k =
      let is : plain.Listed new ≡ h = cc in
      subst (λ g. Leads g (option_map Listed (printed_list_after (map printed_row rows) (printed_notice n)))) is
      (record {
        next = Listed (map printed_row new);
        is = ap (option_map Listed) (law.listed rows n ∙ ap (option_map (map printed_row)) e);
        printed = refl;
      })

  mapped : (h : Holding) (found : Option RowMap) (printed : Option PrintedMap) → ArePrinted found printed → option_map plain.Mapped found ≡ Some h
      → Leads h (option_map Mapped printed)
  mapped h None None a k = absurd cc
  mapped h None (Some printed) a k = absurd a
  mapped h (Some rows) None a k = absurd a
  mapped h (Some rows) (Some printed) a k =
      let is : plain.Mapped rows ≡ h = cc in
      subst (λ g. Leads g (Some (Mapped printed))) is (record { next = Mapped printed; is = refl; printed = a })

  pub leads : (old new : Holding) (held : Held) (n : Notice) → IsPrintedAs old held → holding_after old n ≡ Some new → Leads new (held_after held (printed_notice n))
  leads (plain.Listed rows) new (Listed printed) n p e =
      subst (λ ps. Leads new (option_map Listed (printed_list_after ps (printed_notice n)))) (sym p) (listed rows n new (listed_after rows n) refl e)
  leads (plain.Listed rows) new (Mapped printed) n p e = absurd p
  leads (plain.Mapped rows) new (Listed printed) n p e = absurd p
  leads (plain.Mapped rows) new (Mapped printed) n p e = mapped new (mapped_after rows n) (printed_map_after printed (printed_notice n)) (law.mapped rows printed n p) e

  -- ---- rows that a SEARCH found, and what is held that is these rows

  pub starts : (enumerated : Bool) (rows : List Row) → IsPrintedAs (holding enumerated rows) (held_as enumerated (map printed_row rows))
  starts true rows = refl
  starts false rows = law.started rows

  pub exactly : (enumerated : Bool) (rows : List Row) (held : Held) → IsPrintedAs (holding enumerated rows) held → held ≡ held_as enumerated (map printed_row rows)
  exactly true rows (Listed printed) p = ap Listed p
  exactly true rows (Mapped printed) p = absurd p
  exactly false rows (Listed printed) p = absurd p
  exactly false rows (Mapped printed) p =
      ap Mapped (same_map nat_list_cmp_total (slice_cmp-IsAntisymmetric nat_cmp-IsAntisymmetric) printed (printed_by_name (map printed_row rows))
      (λ q. p.each q ∙ sym ((law.started rows).each q)))
