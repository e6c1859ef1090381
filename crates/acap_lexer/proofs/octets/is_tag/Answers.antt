use Rattle.std.proofs.Common.{◌≡◌, ℕ, ◌<◌, List, get_or, true, refl, arith, nat_eq}
use Rattle.acap_lexer.specs.declared.octets.TheConstants.{CLASSES}
use Rattle.acap_lexer.specs.Octets.{is_tag}
use Rattle.acap_lexer.proofs.Classes.{agree_below, agree_at}
use Rattle.acap_lexer.proofs.octets.is_tag.Goals as goal

from_table : (table : List ℕ) (c : ℕ) → c < 256 → agree_below (λ k. nat_eq (get_or table k 0) 52) is_tag 256 ≡ true → nat_eq (get_or table c 0) 52 ≡ is_tag c
from_table table c lt h = agree_at _ _ 256 h c lt

pub returns : goal.returns
unfolding agree_below is_tag
returns c = from_table CLASSES c.args.c (omega arith) refl
