use Rattle.std.proofs.Common.{refl}
use Rattle.acap_lexer.specs.declared.kind.Kind.TheVariants as kinds
use Rattle.acap_client.specs.declared.writing.Writing.{Writing}
use Rattle.acap_client.proofs.Written.{quoted_writes, quoted_octets}
use Rattle.acap_client.proofs.writing.quoted.Goals as goal

pub returns : goal.returns
returns c =
    let new : Writing = record { octets = c.print_string.new.out; last = kinds.Quoted } in
    quoted_writes c.args.text.now c.args.writing.now new c.requires (record {
      octets = quoted_octets _ _ _ c.args.text.now c.in_ok-space.ensures.octets c.in_ok-print_string.ensures.ok c.requires;
      last = refl;
    })
