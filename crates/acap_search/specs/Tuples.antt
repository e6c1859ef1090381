-- What a search makes of what is seen of an entry [RFC 2244 section 6.4.1].
use Rattle.std.specs.Prelude.{ℕ, List, [], Option, Some, None, if◌then◌else◌}
use Rattle.std.specs.Option.{option_map_or, unwrap_or}
use Rattle.acap_entries.specs.FullPaths.{full_path}
use Rattle.acap_entries.specs.declared.path.Path.{Path}
use Rattle.acap_search.specs.Keys.{holds}
use Rattle.acap_search.specs.Matches.{Match}
use Rattle.acap_search.specs.Places.{places_in}
use Rattle.acap_search.specs.Rows.{Names, items_of}
use Rattle.acap_search.specs.Sight.{Answers, is_seen}
use Rattle.acap_search.specs.declared.query.SearchSpec.{SearchSpec}

-- the name of an entry as it is sent: where DEPTH was written its full path
abbrev pub name_told : Option ℕ → Path → List ℕ
name_told None path = path.name
name_told (Some depth) path = full_path path

-- where an entry stands, and what is sent of it: without a RETURN its name alone
abbrev pub match_of : SearchSpec → Path → Answers → (List ℕ → Names) → Match
match_of sought path answers stars = record {
  path = path;
  places = places_in answers.read (unwrap_or sought.sort []);
  row = record {
    name = name_told sought.depth path;
    items = option_map_or (items_of answers stars) sought.returns [];
  };
}

-- the same where the key wants the entry; its position is that in the context that is searched, if one is
abbrev pub tuple_for : SearchSpec → Option ℕ → Path → Answers → (List ℕ → Names) → Option Match
tuple_for sought place path answers stars =
    if holds sought.key place answers then Some (match_of sought path answers stars) else None

-- and where the entry is seen
abbrev pub seen_tuple : SearchSpec → Option ℕ → Path → Answers → (List ℕ → Names) → Option Match
seen_tuple sought place path answers stars =
    if is_seen answers then tuple_for sought place path answers stars else None
