-- What the items of a STORE give, and where entries are [RFC 2244 sections 3.1 and 6.6.1].
use Rattle.std.specs.Prelude.{ℕ, List, length, Bool, true, false, ◌&&◌, ◌==◌, codes}
use Rattle.acap_entries.specs.Orders.{octets_eq}
use Rattle.acap_entries.specs.Store.{Stored}
use Rattle.acap_entries.specs.declared.record.Cell.TheVariants.{Nil, Single, Multi}
use Rattle.acap_entries.specs.declared.path.Path.{Path}
use Rattle.acap_commands.specs.declared.store.Given.{Given}
use Rattle.acap_commands.specs.declared.store.Given.TheVariants.{Put, Default}
use Rattle.acap_commands.specs.declared.store.StoreItem.{StoreItem}
use Rattle.acap_commands.specs.declared.store.StoreMetadata.{StoreMetadata}
use Rattle.acap_commands.specs.declared.store.StoreMetadata.TheVariants as metadata
use Rattle.acap_inherit.specs.Chains.{chain_of}
use Rattle.acap_inherit.specs.Resolving.{Resolution, lookup, entry_exists}

-- the management entry of a dataset has no name
abbrev pub is_management : Path → Bool
is_management p = length p.name == 0

-- whether the value is given, and not the access control list
abbrev pub is_value : StoreMetadata → Bool
is_value metadata.Value = true
is_value metadata.Acl = false

-- NIL or DEFAULT
abbrev pub is_nothing : Given → Bool
is_nothing (Put Nil) = true
is_nothing (Put (Single value)) = false
is_nothing (Put (Multi values)) = false
is_nothing Default = true

-- the value of an attribute
abbrev pub is_of : List ℕ → StoreItem → Bool
is_of attribute item = is_value item.metadata && octets_eq item.attribute attribute

-- `entry` NIL or DEFAULT: the entry is to end
abbrev pub is_ending : StoreItem → Bool
is_ending item = is_of (codes "entry") item && is_nothing item.given

-- what an attribute of the entry at a path resolves to along
-- the chain of its dataset, and whether that entry exists
abbrev pub resolved_at : Stored → Path → List ℕ → Resolution
resolved_at records p attribute = lookup records (chain_of records p.dataset false) p.name attribute

abbrev pub exists_at : Stored → Path → Bool
exists_at records p = entry_exists records (chain_of records p.dataset false) p.name
