use Rattle.std.proofs.Common.{refl, ap, ◌∙◌, ◌++◌, ◌∷◌, [], List, ℕ}
use Rattle.acap_lexer.specs.declared.kind.Kind.TheVariants as kinds
use Rattle.acap_client.specs.declared.writing.Writing.{Writing}
use Rattle.acap_client.proofs.Written.{open_writes}
use Rattle.acap_client.proofs.writing.open.Goals as goal

pub returns : goal.returns
returns c =
    let new : Writing = record { octets = c.push.new.self; last = kinds.Open } in
    open_writes c.args.writing.now new (record {
      octets = c.in_ok-push.ensures.items ∙ ap (λ (xs : List ℕ). xs ++ 40 ∷ []) c.in_ok-space.ensures.octets;
      last = refl;
    })
