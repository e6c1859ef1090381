-- Where what is found lies and stands: words of private contracts.
use Rattle.std.specs.Prelude.{List, [], ◌∷◌}
use Rattle.acap_entries.specs.declared.path.Path.{Path}
use Rattle.acap_search.specs.Matches.{Match}
use Rattle.acap_search.specs.declared.sort_key.SortKey.{SortKey}
use Rattle.acap_search.specs.declared.sort_key.SortKey.TheVariants.{Only, Each}
use Rattle.acap_search.specs.declared.path_ref.PathRef.{PathRef}
use Rattle.acap_search.specs.declared.path_ref.PathRef.TheVariants.{Kept, Made}
use Rattle.acap_search.specs.declared.sort_term.SortTerm.{SortTerm}

-- at this path
abbrev pub path_in : PathRef → Path
path_in (Kept path) = path.now
path_in (Made path) = path

-- at these places
abbrev pub places_on : SortKey → List SortTerm
places_on (Only place) = place ∷ []
places_on (Each places) = places

-- a match there, of which nothing is sent
abbrev pub untold_at : Path → List SortTerm → Match
untold_at path places = record { path = path; places = places; row = record { name = []; items = [] } }

abbrev pub untold : Match → Match
untold found = untold_at found.path found.places
