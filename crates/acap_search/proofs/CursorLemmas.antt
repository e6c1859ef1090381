-- The records of a dataset that are looked at one after the other.
use Rattle.std.proofs.Common.{◌≡◌, ℕ, suc, ◌≤◌, Option, Some, None, List, [], ◌∷◌, length, drop, sym, ◌∙◌, ap, map as each}
use Rattle.std.proofs.lemmas.List.{drop_all}
use Rattle.std.specs.List.{filter_map, slice_get}
use Rattle.std.specs.Borrow.{Bor}
use Rattle.acap_entries.specs.Store.{Stored}
use Rattle.acap_entries.specs.declared.path.Path.{Path}
use Rattle.acap_entries.specs.declared.record.Record.{Record}
use Rattle.acap_search.specs.Gathering.{with_more, with_one}
use Rattle.acap_search.specs.Matches.{Match}
use Rattle.acap_search.specs.RecordCaches.{AreKept}
use Rattle.acap_search.specs.RecordCursors.{all_records}
use Rattle.acap_search.specs.Walks.{Walk, tuples_by}
use Rattle.acap_search.specs.Within.{numbered_from}
use Rattle.acap_search.specs.declared.found_matches.FoundMatches.{FoundMatches}
use Rattle.acap_search.proofs.FoundLemmas.{gathered_next, gathered_none}

-- those after the first
pub others_kept : (records : Stored) (dataset : List ℕ) (next : Option (Bor Path × Bor Record)) (others : List (Path × Record))
    → AreKept records dataset (all_records next others) → AreKept records dataset others
others_kept records dataset None others h = h
others_kept records dataset (Some e) others h = h.1

-- one entry more of a context has been looked at
pub one_looked : (f : ℕ × Path → Option Match) (n m : ℕ) (path : Path) (paths others : List Path) (found more all : FoundMatches)
    → m ≡ suc n → paths ≡ path ∷ others → with_more found (filter_map f (numbered_from n paths)) ≡ all → more ≡ with_one found (f (n, path))
    → with_more more (filter_map f (numbered_from m others)) ≡ all
one_looked f n m path paths others found more all e p h a =
    (λ i. with_more (a i) (filter_map f (numbered_from (e i) others)))
    ∙ (gathered_next f found (n, path) (numbered_from (suc n) others)
    ∙ (ap (λ paths. with_more found (filter_map f (numbered_from n paths))) (sym p) ∙ h))

-- nothing is found among none
pub none_shown : (quest : Walk) (found : FoundMatches) (shown : List (Bor Match)) → slice_get shown 0 ≡ None → found ≡ with_more found (tuples_by quest shown)
none_shown quest found [] e = sym (gathered_none found)
none_shown quest found (hit ∷ shown) e = absurd (cc e)

-- all have been looked at
pub all_looked : (f : ℕ × Path → Option Match) (n count : ℕ) (shown : List (Bor Match)) (found all : FoundMatches) → length shown ≤ count
    → with_more found (filter_map f (numbered_from n (each (λ hit. hit.now.path) (drop count shown)))) ≡ all → found ≡ all
all_looked f n count shown found all less h =
    sym (gathered_none found)
    ∙ (ap (λ left. with_more found (filter_map f (numbered_from n (each (λ hit. hit.now.path) left)))) (sym (drop_all count shown less)) ∙ h)
