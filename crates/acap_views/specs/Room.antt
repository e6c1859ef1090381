-- What is kept in memory beside contexts: for how much more
-- there is room. No equality of contexts speaks of it.
use Rattle.std.specs.Prelude.{ℕ, suc, ◌≤◌, List, Option, IfSome, refl}
use Rattle.std.specs.Coded.{Coded, code_by, coded×, coded_list, coded_option, coded_ℕ}
use Rattle.acap_notices.specs.Waiting as waiting
use Rattle.acap_notices.specs.declared.notice.Notice.{Notice}
use Rattle.acap_notices.specs.contracts.notice.Notice as notice
use Rattle.acap_search.specs.Matches.{Match, match_code}

-- how many hits, moves and notices more there is room for; where moves aren't kept they need none
pub record Space : Type 0 where
  pub hits : ℕ
  pub moves : Option ℕ
  pub notices : ℕ

-- the lists of a live context: the one last sent, the present
-- one and the notices that wait, with room for more of these
pub record Watched : Type 0 where
  pub shown : List Match
  pub present : List Match
  pub pending : List Notice
  pub space : Space

-- there is room for `more` moves, each of which may add a hit and a notice
pub record HasRoom (more : ℕ) (pending : List Notice) (space : Space) : Type 0 where
  pub hits : more ≤ space.hits
  pub moves : IfSome space.moves (λ room. more ≤ room)
  pub notices : waiting.HasRoom more (record { notices = pending; room = space.notices })

-- after one move there is room for all others that there was room for, and so it is of notices alone
pub record Leaves (old new : Watched) : Type 0 where
  pub more : (more : ℕ) → HasRoom (suc more) old.pending old.space → HasRoom more new.pending new.space

abbrev pub LeavesNotices : waiting.Waiting → waiting.Waiting → Type 0
LeavesNotices old new = (more : ℕ) → waiting.HasRoom (suc more) old → waiting.HasRoom more new

-- how they are told apart in proofs
abbrev pub space_code : Coded Space
space_code =
    code_by (ℕ × (Option ℕ × ℕ)) (coded× coded_ℕ (coded× (coded_option coded_ℕ) coded_ℕ))
    (λ s. (s.hits, (s.moves, s.notices))) (λ p. record { hits = p.0; moves = p.1.0; notices = p.1.1 })
    (λ _. refl)

abbrev pub watched_code : Coded Watched
watched_code =
    code_by ((List Match × List Match) × (List Notice × Space))
    (coded× (coded× (coded_list match_code) (coded_list match_code))
    (coded× (coded_list notice.the_row.coded) space_code))
    (λ w. ((w.shown, w.present), (w.pending, w.space)))
    (λ p. record { shown = p.0.0; present = p.0.1; pending = p.1.0; space = p.1.1 }) (λ _. refl)
