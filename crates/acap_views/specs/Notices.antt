-- What one change of the store comes to for a live search [RFC 2244 sections 3.3, 6.4.1 and 6.5].
use Rattle.std.specs.Prelude.{Bool, true, false, not, ◌&&◌, ◌++◌, List, Option, Some, None, map as each}
use Rattle.std.specs.Cmp.Lexicographic.{pointwise}
use Rattle.std.specs.FinMap as table
use Rattle.std.specs.List.{filter, find}
use Rattle.std.specs.Ordering.{ordering_then}
use Rattle.std.specs.declared.cmp.Ordering.{Ordering}
use Rattle.acap_entries.specs.Orders.{octets_cmp, octets_eq}
use Rattle.acap_entries.specs.declared.path.Path.{Path}
use Rattle.acap_notices.specs.declared.notice.Notice.{Notice}
use Rattle.acap_moves.specs.Hits.{Name, Shape}
use Rattle.acap_moves.specs.Hits as hits
use Rattle.acap_moves.specs.Notices.{same_row, notices}
use Rattle.acap_search.specs.Fresh.{Sight, same_path, is_among, tuple_of, fresh_of}
use Rattle.acap_search.specs.Matches.{Match, match_cmp}
use Rattle.acap_search.specs.Tuples.{name_told}
use Rattle.acap_search.specs.contracts.sort_term.SortTermPartialEq.TheImpl as place
use Rattle.acap_search.specs.declared.query.SearchSpec.{SearchSpec}

-- ---- the list in which an entry has a position

-- in the order of a search: two matches that tie there have one path, and so one name
abbrev pub told_cmp : Match → Match → Ordering
told_cmp a b = ordering_then (match_cmp a b) (octets_cmp a.row.name b.row.name)

abbrev pub told_shape : Shape Match
told_shape = record { order = told_cmp; name = λ found. found.row.name; row = λ found. found.row }

abbrev pub names_told : List Match → List Name
names_told matches = each (λ found. found.row.name) matches

-- the match that is sent by a name
abbrev pub match_told : List Match → Name → Option Match
match_told matches name = find (λ found. octets_eq name found.row.name) matches

-- the names of two lists, each once
abbrev pub names_of_both : List Match → List Match → List Name
names_of_both old new =
    names_told old ++ filter (λ name. not (hits.is_among name (names_told old))) (names_told new)

-- ---- what has changed

-- whether a path has the same place and the same row, or is wanted neither before nor after
abbrev pub same_match : Match → Match → Bool
same_match a b = same_path a.path b.path
    && (pointwise place.ghosts.eq a.places b.places && same_row a.row b.row)

abbrev pub same_tuple : Option Match → Option Match → Bool
same_tuple None None = true
same_tuple None (Some b) = false
same_tuple (Some a) None = false
same_tuple (Some a) (Some b) = same_match a b

-- the paths whose tuple before differs from that after
abbrev pub paths_of_both : Sight → Sight → List Path
paths_of_both old new = old.paths ++ filter (λ path. not (is_among old.paths path)) new.paths

abbrev pub changed_paths : SearchSpec → Sight → Sight → List Path
changed_paths sought old new =
    filter (λ path. not (same_tuple (tuple_of old sought path) (tuple_of new sought path)))
    (paths_of_both old new)

-- the names by which they are sent, ascending in octets: with DEPTH these are the full paths, and without it
-- what stands after the one dataset, so that the paths ascend too
abbrev pub ascending : List Name → List Name
ascending names = table.keys (table.from_entries {R = octets_cmp} (each (λ name. (name, name)) names))

abbrev pub changed_names : SearchSpec → Sight → Sight → List Name
changed_names sought old new = ascending (each (name_told sought.depth) (changed_paths sought old new))

-- the notices by mixed lists: in list k the first k of these
-- have their new matches, and all others their old ones
abbrev pub list_notices : Bool → List Match → List Match → List Name → List Notice
list_notices enumerated old new changed =
    notices told_shape enumerated (match_told old) (match_told new) (names_of_both old new) changed

abbrev pub event_notices : Bool → SearchSpec → Sight → Sight → List Notice
event_notices enumerated sought old new =
    list_notices enumerated (fresh_of old sought) (fresh_of new sought) (changed_names sought old new)
