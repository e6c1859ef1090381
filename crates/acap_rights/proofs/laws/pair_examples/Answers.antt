use Rattle.std.proofs.Common.{refl}
use Rattle.acap_rights.specs.Pairs.{is_identifier, pair_of}
use Rattle.acap_rights.proofs.laws.pair_examples.Goals as goal

pub returns : goal.returns
unfolding is_identifier pair_of
returns c = record { usual = refl; spaced = refl; hyphened = refl; negative = refl; twice_negative = refl; any_order = refl; no_letters = refl; any_octets = refl; two_tabs = refl; two_tabs_end = refl; no_tab = refl; nothing = refl; no_identifier = refl; minus_alone = refl; other_letter = refl; upper_case = refl; spaced_letters = refl; empty_list = refl; one_wrong = refl }
