-- How comparators are named (RFC 2244, section 3.4, and its
-- registration of i;octet, i;ascii-casemap and i;ascii-numeric).
use Rattle.std.specs.Prelude.{ℕ, List, [], ◌∷◌, Option, option_map, codes}
use Rattle.std.specs.List.{find}
use Rattle.std.specs.Str.{bytes_eq, str_to_ascii_lowercase}
use Rattle.acap_order.specs.declared.comparator.Collation.{Collation}
use Rattle.acap_order.specs.declared.comparator.Collation.TheVariants.{Octet, AsciiCasemap, AsciiNumeric}
use Rattle.acap_order.specs.declared.comparator.Direction.{Direction}
use Rattle.acap_order.specs.declared.comparator.Direction.TheVariants.{Ascending, Descending}
use Rattle.acap_order.specs.declared.comparator.Comparator.{Comparator}

-- a collation's own order, and the reverse of it
abbrev pub ascending : Collation → Comparator
ascending collation = record { collation = collation; direction = Ascending }

abbrev pub descending : Collation → Comparator
descending collation = record { collation = collation; direction = Descending }

-- what a table has beside a text, which may be in any case
abbrev pub beside : {X : Type 0} → List (List ℕ × X) → List ℕ → Option X
beside table text =
    option_map (λ row. row.1) (find (λ row. bytes_eq (str_to_ascii_lowercase text) row.0) table)

-- the collations by name
abbrev pub collations : List (List ℕ × Collation)
collations =
    (codes "i;octet", Octet) ∷ (codes "i;ascii-casemap", AsciiCasemap)
    ∷ (codes "i;ascii-numeric", AsciiNumeric) ∷ []

abbrev pub collation_of : List ℕ → Option Collation
collation_of name = beside collations name

-- a collation in a direction, if there is one
abbrev pub directed_as : Direction → Option Collation → Option Comparator
directed_as direction collation =
    option_map (λ found. record { collation = found; direction = direction }) collation

-- the comparators by name: `+` or no sign for a collation's own order, `-` for its reverse
abbrev pub comparators : List (List ℕ × Comparator)
comparators =
    (codes "i;octet", ascending Octet)
    ∷ (codes "+i;octet", ascending Octet)
    ∷ (codes "-i;octet", descending Octet)
    ∷ (codes "i;ascii-casemap", ascending AsciiCasemap)
    ∷ (codes "+i;ascii-casemap", ascending AsciiCasemap)
    ∷ (codes "-i;ascii-casemap", descending AsciiCasemap)
    ∷ (codes "i;ascii-numeric", ascending AsciiNumeric)
    ∷ (codes "+i;ascii-numeric", ascending AsciiNumeric)
    ∷ (codes "-i;ascii-numeric", descending AsciiNumeric)
    ∷ []

-- the comparator that a text names, if any
abbrev pub comparator_of : List ℕ → Option Comparator
comparator_of text = beside comparators text
