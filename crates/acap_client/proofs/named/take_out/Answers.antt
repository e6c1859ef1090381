use Rattle.std.proofs.Common.{rules, not, sym, ◌∙◌, bytes_eq}
use Rattle.std.proofs.lemmas.Fn.{filter_same}
use Rattle.acap_client.proofs.UnderNames.{without_is}
use Rattle.acap_client.proofs.named.take_out.Goals as goal

pub returns : goal.returns
returns g c =
    filter_same _ (λ e. not (bytes_eq c.args.name.now e.0)) _ (λ x b f' k. search rules) _ _ c.retain.ensures.filtered ∙ sym (without_is c.args.name.now c.args.entries.now.items)
