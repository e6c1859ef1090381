-- What a change of the store makes of a machine, and what is so
-- of machines between two events [RFC 2244 sections 3.1 and 3.3].
use Rattle.std.specs.Prelude.{◌≡◌, ℕ, List, Ok}
use Rattle.acap_entries.specs.Changes.{store_after}
use Rattle.acap_entries.specs.Sound.{IsSoundStore}
use Rattle.acap_entries.specs.declared.change.Change.{Change}
use Rattle.acap_commands.specs.declared.search_modifiers.MakeContext.{MakeContext}
use Rattle.acap_inherit.specs.Index.{IsIndexOf}
use Rattle.acap_inherit.specs.declared.link.Link.{Link}
use Rattle.acap_machine.specs.Machine.{Machine}
use Rattle.acap_search.specs.Matches.{Match}
use Rattle.acap_search.specs.declared.query.SearchSpec.{SearchSpec}
use Rattle.acap_views.specs.Changing.{changed_seats}
use Rattle.acap_views.specs.Current.{IsCurrent}
use Rattle.acap_views.specs.Opening.{with_context}
use Rattle.acap_views.specs.Seats.{Seated}

-- the store is the one after the change, and each live context of every seat follows it in its user's eyes
abbrev pub changed_by : Change → Machine → Machine
changed_by change m = record m {
  store = store_after change m.store;
  seats = changed_seats m.realm m.store (store_after change m.store) m.seats;
}

-- the store is sound, and each live context keeps the list
-- that a search finds now, to which the notices that wait lead
pub record IsSound (m : Machine) : Type 0 where
  pub store : IsSoundStore m.store.records
  pub current : IsCurrent m.store m.realm m.seats

-- and the index of heirs that is kept beside it is that of its store
pub record IsKept (m : Machine) (links : List Link) : Type 0 where
  pub sound : IsSound m
  pub index : IsIndexOf m.store.records links

-- the context that a search makes which found these matches: where
-- there is a place for it, all live contexts are current with it
abbrev pub IsOpenable : Machine → ℕ → MakeContext → SearchSpec → List Match → Type 0
IsOpenable m seat make sought found =
    (new : Seated) → with_context m.seats seat make sought found m.store.last ≡ Ok new
    → IsCurrent m.store m.realm new
