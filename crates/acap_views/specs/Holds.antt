-- What is held of one context, and the words for its parts.
use Rattle.std.specs.Prelude.{Bool, true, false, List, [], None}
use Rattle.acap_notices.specs.declared.notice.Notice.{Notice}
use Rattle.acap_views.specs.Contexts.{Kept, Snapshot, Live, Freed}
use Rattle.acap_views.specs.Room.{Space}
use Rattle.acap_views.specs.declared.context_lists.ContextLists.{ContextLists}
use Rattle.acap_views.specs.declared.context_lists.ContextLists.TheVariants as held

abbrev pub kept_in : ContextLists → Kept
kept_in (held.Snapshot hits) = Snapshot hits
kept_in (held.Live watch) = Live watch.shown watch.present watch.pending
kept_in held.Freed = Freed

-- only a list that follows the store has room
abbrev pub no_space : Space
no_space = record { hits = 0; moves = None; notices = 0 }

abbrev pub space_in : ContextLists → Space
space_in (held.Snapshot hits) = no_space
space_in (held.Live watch) = watch.space
space_in held.Freed = no_space

-- the notices that wait
abbrev pub pending_in : Kept → List Notice
pending_in (Snapshot shown) = []
pending_in (Live shown now pending) = pending
pending_in Freed = []

abbrev pub is_freed : Kept → Bool
is_freed (Snapshot shown) = false
is_freed (Live shown now pending) = false
is_freed Freed = true
