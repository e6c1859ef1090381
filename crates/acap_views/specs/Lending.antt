-- The list of a context that was sent last, as it is lent to
-- a search, and what a search over the context starts from.
use Rattle.std.specs.Prelude.{List}
use Rattle.acap_search.specs.Matches.{Match}
use Rattle.acap_views.specs.declared.context_lists.LentLists.{LentLists}
use Rattle.acap_views.specs.declared.context_lists.LentLists.TheVariants as list

abbrev pub told_matches : LentLists → List Match
told_matches (list.Snapshot hits) = hits.now
told_matches (list.Live watch) = watch.now.shown
