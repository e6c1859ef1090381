-- The last of the nine keys is good where none fails.
use Rattle.std.proofs.Common.{◌≡◌, ℕ, Bool, true, false, List, [], ◌∷◌, Option, Some, None, refl, if◌then◌else◌}
use Rattle.std.specs.Option.{option_or}
use Rattle.toml.specs.View.{table_view}
use Rattle.acap_settings.specs.Keys.{failing_key, first_failing, first_unknown, judged_keys}
use Rattle.acap_settings.proofs.settings.Settings.of_table.Goals as goal

none_first : (one other : Option (List ℕ)) → option_or one other ≡ None → one ≡ None
none_first None other e = refl
none_first (Some key) other e = absurd cc

abbrev AllGood : List (List ℕ × Bool) → Type 0
AllGood [] = Unit {0}
AllGood (judged ∷ more) = (judged.1 ≡ true) × AllGood more

first_good : (b : Bool) (key : List ℕ) (more : List (List ℕ × Bool)) → (if b then first_failing more else Some key) ≡ None
    → (b ≡ true) × (first_failing more ≡ None)
first_good true key more e = (refl, e)
first_good false key more e = absurd cc

all_good : (judged : List (List ℕ × Bool)) → first_failing judged ≡ None → AllGood judged
all_good [] e = tt
all_good (judged ∷ more) e = let first = first_good judged.1 judged.0 more e in (first.0, all_good more first.1)

pub groups_at-requires : goal.groups_at-requires
groups_at-requires c =
    let settings = table_view c.args.table.now in
    (all_good (judged_keys settings) (none_first (failing_key settings) (first_unknown settings) c.requires)).1.1.1.1.1.1.1.1.0
