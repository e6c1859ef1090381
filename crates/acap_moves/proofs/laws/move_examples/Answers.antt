use Rattle.std.proofs.Common.{◌≡◌, true, false, [], ◌∷◌, refl}
use Rattle.std.specs.Prelude.{codes}
use Rattle.acap_moves.specs.Examples.{notices_after, other_rank}
use Rattle.acap_moves.specs.Hits.{is_among, put, put_some, fresh, found, spot}
use Rattle.acap_moves.specs.Notices.{notices_from}
use Rattle.acap_moves.proofs.laws.move_examples.Goals as goal

pub returns : goal.returns
unfolding is_among put put_some fresh found spot notices_from
returns c = record {
  with_positions = refl;
  without_positions = refl;
  rank_alone = λ b. elim b as (λ b. notices_after b other_rank (codes "b" ∷ []) ≡ []) [ true ↦ refl | false ↦ refl ];
  place_told = refl;
  place_alone = refl;
}
