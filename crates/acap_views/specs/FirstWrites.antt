-- The entry that a change writes first, before the change and afterwards: words of private contracts.
use Rattle.std.specs.Prelude.{◌≡◌}
use Rattle.std.specs.Option.{option_copied}
use Rattle.acap_entries.specs.Store.{Stored}
use Rattle.acap_inherit.specs.Records.{record_at}
use Rattle.acap_views.specs.declared.first_written.FirstWritten.{FirstWritten}

-- what is at hand of it is its record among those of before the change, and among those of afterwards
pub record IsOfBoth (old new : Stored) (first : FirstWritten) : Type 0 where
  pub before : option_copied first.before ≡ record_at old first.path.now.dataset first.path.now.name
  pub after : option_copied first.after ≡ record_at new first.path.now.dataset first.path.now.name
