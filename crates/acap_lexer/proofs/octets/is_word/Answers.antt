use Rattle.std.proofs.Common.{◌≡◌, ℕ, ◌<◌, List, get_or, true, refl, arith, leb}
use Rattle.acap_lexer.specs.declared.octets.TheConstants.{CLASSES}
use Rattle.acap_lexer.specs.Octets.{is_word}
use Rattle.acap_lexer.proofs.Classes.{agree_below, agree_at}
use Rattle.acap_lexer.proofs.octets.is_word.Goals as goal

from_table : (table : List ℕ) (c : ℕ) → c < 256 → agree_below (λ k. leb 51 (get_or table k 0)) is_word 256 ≡ true → leb 51 (get_or table c 0) ≡ is_word c
from_table table c lt h = agree_at _ _ 256 h c lt

pub returns : goal.returns
unfolding agree_below is_word
returns c = from_table CLASSES c.args.c (omega arith) refl
