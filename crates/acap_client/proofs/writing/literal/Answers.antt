use Rattle.std.proofs.Common.{refl, ◌∙◌}
use Rattle.acap_lexer.specs.declared.kind.Kind.TheVariants as kinds
use Rattle.acap_client.specs.declared.writing.Writing.{Writing}
use Rattle.acap_client.proofs.Written.{literal_writes, literal_octets}
use Rattle.acap_client.proofs.writing.literal.Goals as goal

pub returns : goal.returns
returns c =
    let new : Writing = record { octets = c.extend_from_slice-3.new.self; last = kinds.Literal } in
    literal_writes c.args.text.now c.args.writing.now new c.requires (record {
      octets = literal_octets _ _ _ _ _ _ _ c.args.text.now
          c.in_ok-space.ensures.octets c.in_ok-push.ensures.items c.in_ok-extend_from_slice.ensures.items
          (c.as_bytes.ensures.value ∙ c.in_ok-digits.ensures.ok)
          c.in_ok-extend_from_slice-2.ensures.items c.in_ok-extend_from_slice-3.ensures.items;
      last = refl;
    })
