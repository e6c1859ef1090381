-- What a change touches and leaves, said before it is committed:
-- words of contracts [RFC 2244 sections 5.1 and 5.2].
use Rattle.std.specs.Prelude.{◌≡◌, ℕ, List, [], Bool}
use Rattle.acap_entries.specs.Leaving.{records_before, records_ahead, records_left, ForStoreAfter}
use Rattle.acap_entries.specs.Store.{Store}
use Rattle.acap_entries.specs.declared.after.After.{After}
use Rattle.acap_entries.specs.declared.change.Change.{Change}
use Rattle.acap_entries.specs.declared.path.Path.{Path}
use Rattle.acap_inherit.specs.Index.{IsIndexOf, links_written, index_with}
use Rattle.acap_inherit.specs.Touched.{is_written_on, in_order, touched_paths, touched_at}
use Rattle.acap_inherit.specs.Touching.{paths_along, paths_below, paths_in, paths_stored, paths_written}
use Rattle.acap_inherit.specs.Touching.{paths_found, datasets_reached}
use Rattle.acap_inherit.specs.declared.link.Link.{Link}

-- ---- what public calls answer of each store that the change makes

-- the touched paths, and those of one dataset
abbrev pub AreTouched : Change → Store → List Path → Type 0
AreTouched change old paths =
    ForStoreAfter change old (λ new. paths ≡ touched_paths change.writes old.records new.records)

abbrev pub AreTouchedAt : Change → Store → List ℕ → List Path → Type 0
AreTouchedAt change old dataset paths =
    ForStoreAfter change old (λ new. paths ≡ touched_at change.writes old.records new.records dataset)

-- what makes the index of afterwards of that of before
abbrev pub IsPrepared : Change → Store → List Link → List Link × List Link → Type 0
IsPrepared change old links made =
    ForStoreAfter change old (λ new. IsIndexOf new.records (index_with made links))

-- the pairs of the datasets whose management entries a change writes, as a store has them
abbrev pub links_in : Change → Store → List Link
links_in change store = links_written change.writes store.records

-- ---- words of private contracts, by what is read ahead and by the change

abbrev pub paths_kept : Store → List ℕ → List ℕ → List Path
paths_kept old dataset member = paths_stored old.records dataset member

abbrev pub written_along : After → List ℕ → List ℕ → List Path
written_along after dataset member = paths_written after.writes.now (records_before after) dataset member

abbrev pub is_managed : After → List (List ℕ) → Bool
is_managed after chain = is_written_on after.writes.now (records_before after) chain []

abbrev pub along : After → Bool → List ℕ → List (List ℕ) → List Path
along after all dataset chain = paths_along after.writes.now (records_before after) all dataset chain

abbrev pub below_ahead : After → List ℕ → List Path
below_ahead after dataset = paths_below after.writes.now (records_before after) (records_ahead after) dataset

abbrev pub in_ahead : After → List ℕ → List Path
in_ahead after dataset = paths_in after.writes.now (records_before after) (records_ahead after) dataset

abbrev pub datasets_before : Change → Store → List Link → List (List ℕ)
datasets_before change old links = datasets_reached change.writes old.records links

abbrev pub paths_left : Change → Store → List (List ℕ) → List Path
paths_left change old datasets = paths_found change.writes old.records (records_left change old) datasets

abbrev pub paths_left_in : Change → Store → List ℕ → List Path
paths_left_in change old dataset =
    in_order (paths_in change.writes old.records (records_left change old) dataset)
