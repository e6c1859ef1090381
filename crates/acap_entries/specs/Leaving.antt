-- What a change leaves, said before it is committed [RFC 2244 section 3.1].
use Rattle.acap_entries.specs.Changes.{IsStoreAfter, left_by}
use Rattle.acap_entries.specs.Store.{Store, Stored}
use Rattle.acap_entries.specs.declared.after.After.{After}
use Rattle.acap_entries.specs.declared.change.Change.{Change}

-- the store that a change leaves: its records and its last moment
abbrev pub store_ahead : After → Store
store_ahead after = left_by after.writes.now after.moment after.tree.now.store

-- the records before a change, and those that it leaves
abbrev pub records_before : After → Stored
records_before after = after.tree.now.store.records

abbrev pub records_ahead : After → Stored
records_ahead after = (store_ahead after).records

abbrev pub records_left : Change → Store → Stored
records_left change old = (left_by change.writes change.moment old).records

-- what holds of each store that the change makes of the old one
abbrev pub ForStoreAfter : Change → Store → (Store → Type 0) → Type 0
ForStoreAfter change old holds = (new : Store) → IsStoreAfter change old new → holds new
