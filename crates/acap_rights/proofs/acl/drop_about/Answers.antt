use Rattle.std.proofs.Common.{rules, not}
use Rattle.std.proofs.lemmas.Fn.{filter_same}
use Rattle.acap_rights.specs.Edits.{is_about, without}
use Rattle.acap_rights.proofs.acl.drop_about.Goals as goal

pub returns : goal.returns
unfolding without
returns c = filter_same _ (λ text. not (is_about c.args.identifier.now text)) _ (λ x b f' k. search rules) _ _ c.retain.ensures.filtered
