use Rattle.std.proofs.Common.{refl, ap, ◌∙◌, ◌++◌, List, ℕ}
use Rattle.acap_lexer.specs.declared.kind.Kind.TheVariants as kinds
use Rattle.acap_client.specs.declared.writing.Writing.{Writing}
use Rattle.acap_client.proofs.Written.{word_writes}
use Rattle.acap_client.proofs.writing.word.Goals as goal

pub returns : goal.returns
returns c =
    let new : Writing = record { octets = c.extend_from_slice.new.self; last = kinds.Word } in
    word_writes c.args.text.now c.args.writing.now new (record {
      octets = c.in_ok-extend_from_slice.ensures.items ∙ ap (λ (xs : List ℕ). xs ++ c.args.text.now) c.in_ok-space.ensures.octets;
      last = refl;
    })
