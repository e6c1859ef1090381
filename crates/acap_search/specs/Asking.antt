-- What a SEARCH over a dataset asks for [RFC 2244 sections 4.1 and 6.4.1].
use Rattle.std.specs.Prelude.{ℕ, List}
use Rattle.acap_entries.specs.Homes.{for_user}
use Rattle.acap_commands.specs.Wanted.{Wanted}
use Rattle.acap_commands.specs.declared.search_modifiers.SearchModifiers.{SearchModifiers}
use Rattle.acap_search.specs.declared.query.SearchRequest.{SearchRequest}

-- its query, in the dataset that the user means, how many matches are sent, and which context is made
abbrev pub asked_of : List ℕ → List ℕ → SearchModifiers → Wanted → SearchRequest
asked_of user dataset modifiers key = record {
  query = record {
    sought = record {
      dataset = for_user user dataset;
      depth = modifiers.depth;
      no_inherit = modifiers.no_inherit;
      key = key;
      sort = modifiers.sort;
      returns = modifiers.returns;
    };
    hard_limit = modifiers.hard_limit;
  };
  limit = modifiers.limit;
  make_context = modifiers.make_context;
}
