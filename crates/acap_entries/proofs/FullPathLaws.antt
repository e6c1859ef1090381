-- The order of full paths.
use Rattle.std.specs.Cmp.Lexicographic.{on_texts}
use Rattle.acap_entries.specs.FullPaths.{full_path}
use Rattle.acap_entries.specs.Laws.{FullPathLaw}
use Rattle.acap_entries.proofs.NameLemmas.{same_parts}
use Rattle.acap_entries.proofs.StoreLemmas.{octets_same}

pub full_paths : FullPathLaw
full_paths = record {
  total = on_texts full_path;
  same = λ a b p q e.
      let parts = same_parts a.dataset b.dataset a.name b.name p.name q.name p.dataset q.dataset (octets_same _ _ e) in
      λ i. record { dataset = parts.0 i; name = parts.1 i };
}
