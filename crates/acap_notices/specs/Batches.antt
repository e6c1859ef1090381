-- What a client is sent of contexts, in batches: each is what was sent of one context at once [RFC 2244
-- section 6.5].
use Rattle.std.specs.Prelude.{ℕ, List, [], ◌∷◌, ◌++◌, Option, Some, None, drop, map as each}
use Rattle.std.specs.List.{flat_map}
use Rattle.acap_notices.specs.declared.batch.Batch.{Batch}
use Rattle.acap_notices.specs.declared.batch.Ending.{Ending}
use Rattle.acap_notices.specs.declared.batch.Ending.TheVariants as ending
use Rattle.acap_notices.specs.declared.notice.Notice.{Notice}
use Rattle.acap_notices.specs.declared.told.Told.{Told}
use Rattle.acap_notices.specs.declared.told.Told.TheVariants.{Note, Upto, Freed}
use Rattle.acap_notices.specs.declared.told_ref.ToldRef.{ToldRef}
use Rattle.acap_notices.specs.declared.told_ref.ToldRef.TheVariants as lent

-- each notice is sent under the name of the context
abbrev pub notes_of : List ℕ → List Notice → List Told
notes_of context notices = each (Note context) notices

-- after them, the moment up to which all has been sent, or that the context was freed
abbrev pub ending_of : List ℕ → Option Ending → List Told
ending_of context None = []
ending_of context (Some (ending.Upto moment)) = Upto context moment ∷ []
ending_of context (Some ending.Freed) = Freed context ∷ []

abbrev pub told_in : Batch → List Told
told_in batch = notes_of batch.context batch.notices ++ ending_of batch.context batch.ending

-- one batch after the other
abbrev pub all_told : List Batch → List Told
all_told batches = flat_map told_in batches

-- what is still to come, when the first batch has been sent up to `at`
abbrev pub left_to_tell : List Batch → ℕ → List Told
left_to_tell [] at = []
left_to_tell (batch ∷ batches) at = drop at (told_in batch) ++ all_told batches

-- what is sent, where it is lent
abbrev pub told_of : ToldRef → Told
told_of (lent.Note context notice) = Note context.now notice.now
told_of (lent.Upto context moment) = Upto context.now moment
told_of (lent.Freed context) = Freed context.now
