-- How moves that are taken back are told apart in proofs.
use Rattle.std.specs.Prelude.{ℕ, Option, refl}
use Rattle.std.specs.Coded.{Coded, code_by, coded×, coded_option, coded_ℕ}
use Rattle.acap_moves.specs.Moves.{Undo}
use Rattle.acap_search.specs.Matches.{Match, match_code}

abbrev pub undo_code : Coded (Undo Match)
undo_code =
    code_by (Option (ℕ × Match) × Option ℕ)
    (coded× (coded_option (coded× coded_ℕ match_code)) (coded_option coded_ℕ))
    (λ u. (u.gone, u.come)) (λ p. record { gone = p.0; come = p.1 }) (λ _. refl)
