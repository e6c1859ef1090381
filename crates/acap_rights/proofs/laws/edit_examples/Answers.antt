use Rattle.std.proofs.Common.{refl}
use Rattle.acap_rights.specs.Edits.{without, with_pair}
use Rattle.acap_rights.specs.Keeping.{target_of_list}
use Rattle.acap_rights.specs.Pairs.{is_identifier, pair_of}
use Rattle.acap_rights.proofs.laws.edit_examples.Goals as goal

pub returns : goal.returns
unfolding without with_pair target_of_list pair_of is_identifier
returns c = record { appended = refl; replaced = refl; to_nothing = refl; dropped = refl; kept = refl; no_list = refl }
