use Rattle.std.proofs.Common.{refl}
use Rattle.acap_lexer.specs.declared.kind.Kind.TheVariants as kinds
use Rattle.acap_client.specs.declared.writing.Writing.{Writing}
use Rattle.acap_client.proofs.Written.{close_writes}
use Rattle.acap_client.proofs.writing.close.Goals as goal

pub returns : goal.returns
returns c =
    let new : Writing = record { octets = c.push.new.self; last = kinds.Close } in
    close_writes c.args.writing.now new c.in_ok-push.ensures.items refl
