-- Commands without modifiers [RFC 2244 sections 6.4.1 and 6.6.1].
use Rattle.std.specs.Prelude.{None, false}
use Rattle.acap_commands.specs.declared.search_modifiers.SearchModifiers.{SearchModifiers}
use Rattle.acap_commands.specs.declared.store.StoreModifiers.{StoreModifiers}

-- a SEARCH that has none
abbrev pub no_modifiers : SearchModifiers
no_modifiers =
    record {
      depth = None;
      hard_limit = None;
      limit = None;
      make_context = None;
      no_inherit = false;
      returns = None;
      sort = None;
    }

-- an entry of a STORE that has none
abbrev pub unconditional : StoreModifiers
unconditional = record { no_create = false; unchanged_since = None }
