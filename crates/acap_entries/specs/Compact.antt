-- The octets that lie in place, or apart: a word of one type's contracts.
use Rattle.std.specs.Prelude.{ℕ, List, take}
use Rattle.acap_entries.specs.declared.compact.Kept.{Kept}
use Rattle.acap_entries.specs.declared.compact.Kept.TheVariants.{InPlace, Apart}

abbrev pub octets_of : Kept → List ℕ
octets_of (InPlace few) = take few.len few.octets
octets_of (Apart octets) = octets.items
