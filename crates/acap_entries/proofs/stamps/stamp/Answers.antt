use Rattle.acap_entries.proofs.CivilLemmas.{same_stamp}
use Rattle.acap_entries.proofs.StampLaws.{stamp_is}
use Rattle.acap_entries.proofs.stamps.stamp.Goals as goal

pub returns-clause-value : goal.returns-clause-value
returns-clause-value c =
    same_stamp c.args.moment _ _
    (record { civil = c.civil_of.result; valid = c.civil_of.ensures.valid; begins = c.civil_of.ensures.begins; shown = c.digits.ensures })
    (stamp_is c.args.moment c.civil_of.ensures.range)
