-- What is said to a SEARCH, and which context it makes [RFC 2244 sections 3.3 and 6.4.1].
use Rattle.std.specs.Prelude.{ℕ, ℤ, Bool, true, false, List, [], length, min, take, Option, Some, None}
use Rattle.std.specs.Prelude.{Result, Ok, Err, option_map, map as each}
use Rattle.acap_entries.specs.Store.{Store}
use Rattle.acap_entries.specs.declared.row.Row.{Row}
use Rattle.acap_commands.specs.Wanted.{Wanted}
use Rattle.acap_commands.specs.declared.said.SearchReply.{SearchReply}
use Rattle.acap_commands.specs.declared.search_modifiers.Limit.{Limit}
use Rattle.acap_commands.specs.declared.search_modifiers.MakeContext.{MakeContext}
use Rattle.acap_commands.specs.declared.refusal.Refusal.{Refusal}
use Rattle.acap_commands.specs.declared.refusal.Refusal.TheVariants as refusals
use Rattle.acap_commands.specs.declared.returns.ReturnItem.{ReturnItem}
use Rattle.acap_commands.specs.declared.said.Said.{Said}
use Rattle.acap_commands.specs.declared.said.Said.TheVariants as said
use Rattle.acap_commands.specs.declared.search.Search.{Search}
use Rattle.acap_commands.specs.declared.search_modifiers.SearchModifiers.{SearchModifiers}
use Rattle.acap_commands.specs.declared.target.Target.{Target}
use Rattle.acap_commands.specs.declared.target.Target.TheVariants as target
use Rattle.acap_machine.specs.Machine.{Machine}
use Rattle.acap_rights.specs.declared.realm.Realm.{Realm}
use Rattle.acap_search.specs.Asking.{asked_of}
use Rattle.acap_search.specs.Cutting.{cut_of}
use Rattle.acap_search.specs.Fresh.{matches_of, refusal_of}
use Rattle.acap_search.specs.Matches.{Match}
use Rattle.acap_search.specs.Within.{Context, context_of, matches_within, refusal_within}
use Rattle.acap_search.specs.declared.query.SearchRequest.{SearchRequest}
use Rattle.acap_search.specs.declared.query.Query.{Query}
use Rattle.acap_search.specs.declared.query.SearchSpec.{SearchSpec}
use Rattle.acap_search.specs.declared.refusal.SearchRefusal.{SearchRefusal}
use Rattle.acap_search.specs.declared.refusal.SearchRefusal.TheVariants as refusal
use Rattle.acap_views.specs.Opening.{with_context}
use Rattle.acap_views.specs.Ranging.{Ranged, range_at}
use Rattle.acap_views.specs.Seats.{Seated}
use Rattle.acap_views.specs.declared.refusal.ViewRefusal.{ViewRefusal}
use Rattle.acap_views.specs.declared.refusal.ViewRefusal.TheVariants as view

-- ---- what is sent of the matches

-- a reply has numbers of 32 bits, and a greater one as the greatest of these
abbrev pub number_told : ℕ → ℕ
number_told count = min count 4_294_967_295

-- with a RETURN the rows of the first matches and the store's last moment, and else neither
abbrev pub rows_told : Option (List ReturnItem) → List Match → ℕ → List Row
rows_told None matches most = []
rows_told (Some returns) matches most = each (λ found. found.row) (take most matches)

abbrev pub last_told : Option (List ReturnItem) → ℤ → Option ℤ
last_told None last = None
last_told (Some returns) last = Some last

-- LIMIT says how many of them, and whether their number is printed
abbrev pub found_of : ℤ → SearchSpec → Option Limit → List Match → SearchReply
found_of last sought limit matches =
    let cut = cut_of limit (length matches) in
    record {
      rows = rows_told sought.returns matches cut.told;
      last = last_told sought.returns last;
      total = option_map number_told cut.total;
    }

-- the same of the rows of these matches, and of their number if that is printed
abbrev pub rows_if : Option (List ReturnItem) → List Row → List Row
rows_if None rows = []
rows_if (Some returns) rows = rows

abbrev pub found_with : ℤ → SearchSpec → List Row → Option ℕ → SearchReply
found_with last sought rows total = record {
  rows = rows_if sought.returns rows;
  last = last_told sought.returns last;
  total = option_map number_told total;
}

-- ---- why it is refused

-- a refused search, with the dataset that was searched
abbrev pub refused_as : List ℕ → SearchRefusal → Refusal
refused_as dataset refusal.RangeHere = refusals.RangeHere
refused_as dataset refusal.NoExist = refusals.NoExist dataset
refused_as dataset refusal.TooOld = refusals.TooOld
refused_as dataset refusal.WayTooMany = refusals.WayTooMany
refused_as dataset refusal.Memory = refusals.Memory

-- what is asked of a context, and refused
abbrev pub view_refused_as : ViewRefusal → Refusal
view_refused_as view.TryFreeContext = refusals.TryFreeContext
view_refused_as view.NoContext = refusals.NoContext
view_refused_as view.FreedContext = refusals.FreedContext
view_refused_as view.NotNotify = refusals.NotNotify
view_refused_as view.Memory = refusals.Memory

abbrev pub found_unless : List ℕ → Option SearchRefusal → SearchReply → Said
found_unless dataset (Some refusal) found = said.Refused (refused_as dataset refusal)
found_unless dataset None found = said.Searched found

-- that memory was refused is no refusal of the machine
abbrev pub is_search_memory : SearchRefusal → Bool
is_search_memory refusal.Memory = true
is_search_memory _ = false

abbrev pub is_view_memory : ViewRefusal → Bool
is_view_memory view.Memory = true
is_view_memory _ = false

-- ---- over a dataset: what is said, and the machine afterwards

-- contexts as they are then, or a refusal, which leaves the machine as it was
abbrev pub seated_or : Machine → Said → Result Seated ViewRefusal → Said × Machine
seated_or m words (Ok seats) = (words, record m { seats = seats })
seated_or m words (Err why) = (said.Refused (view_refused_as why), m)

-- MAKECONTEXT keeps all matches, whatever LIMIT lets through; where there is no place for it nothing is sent
abbrev pub context_answer : Machine → ℕ → MakeContext → SearchSpec → Option Limit → List Match
    → Said × Machine
context_answer m seat make sought limit matches =
    seated_or m (said.Searched (found_of m.store.last sought limit matches))
    (with_context m.seats seat make sought matches m.store.last)

abbrev pub kept_if : Machine → ℕ → Option MakeContext → SearchSpec → Option Limit → List Match
    → Said × Machine
kept_if m seat None sought limit matches = (said.Searched (found_of m.store.last sought limit matches), m)
kept_if m seat (Some make) sought limit matches = context_answer m seat make sought limit matches

abbrev pub found_or : Machine → ℕ → SearchRequest → Option SearchRefusal → List Match → Said × Machine
found_or m seat asked (Some refusal) matches =
    (said.Refused (refused_as asked.query.sought.dataset refusal), m)
found_or m seat asked None matches = kept_if m seat asked.make_context asked.query.sought asked.limit matches

unfoldable pub searched_over : Machine → ℕ → List ℕ → SearchRequest → Said × Machine
searched_over m seat user asked =
    found_or m seat asked (refusal_of m.store.records m.realm user asked.query)
    (matches_of m.store.records m.realm user asked.query.sought)

-- where no context is made the machine stays as it was, and this is said
abbrev pub searched_alone : Machine → List ℕ → Query → Option Limit → Said
searched_alone m user query limit =
    found_unless query.sought.dataset (refusal_of m.store.records m.realm user query)
    (found_of m.store.last query.sought limit (matches_of m.store.records m.realm user query.sought))

-- ---- over a context: what is said

-- dataset, DEPTH and NOINHERIT are those of the context's own
-- search; key, SORT, RETURN and HARDLIMIT those of the new one
abbrev pub query_within : SearchSpec → SearchModifiers → Wanted → Query
query_within own modifiers key = record {
  sought = record {
    dataset = own.dataset;
    depth = own.depth;
    no_inherit = own.no_inherit;
    key = key;
    sort = modifiers.sort;
    returns = modifiers.returns;
  };
  hard_limit = modifiers.hard_limit;
}

-- the paths that its client was sent, in their order
abbrev pub shown_within : Ranged → Context
shown_within from = context_of (each (λ found. found.path) from.shown) from.told from.enumerated

unfoldable pub searched_from : Store → Realm → List ℕ → Ranged → Query → Option Limit → Said
searched_from s realm user from query limit =
    found_unless query.sought.dataset (refusal_within s.records realm user query (shown_within from))
    (found_of s.last query.sought limit
    (matches_within s.records realm user query.sought (shown_within from).paths))

abbrev pub searched_within : Store → Realm → List ℕ → Result Ranged ViewRefusal → SearchModifiers → Wanted
    → Said
searched_within s realm user (Ok from) modifiers key =
    searched_from s realm user from (query_within from.sought modifiers key) modifiers.limit
searched_within s realm user (Err why) modifiers key = said.Refused (view_refused_as why)

-- ---- over either

abbrev pub searched_in : Machine → ℕ → List ℕ → Target → SearchModifiers → Wanted → Said × Machine
searched_in m seat user (target.Dataset dataset) modifiers key =
    searched_over m seat user (asked_of user dataset modifiers key)
searched_in m seat user (target.Context name) modifiers key =
    (searched_within m.store m.realm user (range_at m.seats seat name) modifiers key, m)

abbrev pub search_answer : Machine → ℕ → List ℕ → Search → Said × Machine
search_answer m seat user search = searched_in m seat user search.target search.modifiers search.key
