use Rattle.std.proofs.Common.{◌≡◌, ℕ, ◌<◌, List, get_or, true, refl, arith, leb}
use Rattle.acap_lexer.specs.declared.octets.TheConstants.{CLASSES}
use Rattle.acap_lexer.specs.Octets.{is_plain, is_quotable}
use Rattle.acap_lexer.proofs.Classes.{agree_below, agree_at}
use Rattle.acap_lexer.proofs.octets.is_plain.Goals as goal

from_table : (table : List ℕ) (c : ℕ) → c < 256 → agree_below (λ k. leb 50 (get_or table k 0)) is_plain 256 ≡ true → leb 50 (get_or table c 0) ≡ is_plain c
from_table table c lt h = agree_at _ _ 256 h c lt

pub returns : goal.returns
unfolding agree_below is_plain is_quotable
returns c = from_table CLASSES c.args.c (omega arith) refl
