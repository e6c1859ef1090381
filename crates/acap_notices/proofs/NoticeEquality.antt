-- Equality of notices, and of what is told, is exact.
use Rattle.std.proofs.Common.{◌≡◌}
use Rattle.std.specs.Bool.{Decides}
use Rattle.std.specs.Cmp.{unsigned_Decides, signed_Decides}
use Rattle.std.specs.Cmp.Lexicographic.{bytes_decides}
use Rattle.acap_entries.proofs.Equalities.{along, pair_exact, row_exact}
use Rattle.acap_notices.specs.declared.notice.Notice.{Notice}
use Rattle.acap_notices.specs.declared.notice.Notice.TheVariants.{AddTo, RemoveFrom, Change}
use Rattle.acap_notices.specs.declared.told.Told.{Told}
use Rattle.acap_notices.specs.declared.told.Told.TheVariants.{Note, Upto, Freed}
use Rattle.acap_notices.specs.contracts.notice.NoticePartialEq.TheImpl as notice
use Rattle.acap_notices.specs.contracts.told.ToldPartialEq.TheImpl as told

pub notice_exact : (a b : Notice) → Decides (notice.ghosts.eq a b) (a ≡ b)
notice_exact (AddTo p r) (AddTo q s) =
    along _ (p, r) (q, s) (λ t. AddTo t.0 t.1) (pair_exact unsigned_Decides row_exact (p, r) (q, s)) (λ e. let x : p ≡ q = cc in let y : r ≡ s = cc in λ i. (x i, y i))
notice_exact (AddTo p r) (RemoveFrom n q) = (λ e. cc, λ e. cc)
notice_exact (AddTo p r) (Change q t s) = (λ e. cc, λ e. cc)
notice_exact (RemoveFrom n p) (AddTo q s) = (λ e. cc, λ e. cc)
notice_exact (RemoveFrom n p) (RemoveFrom m q) =
    along _ (n, p) (m, q) (λ t. RemoveFrom t.0 t.1) (pair_exact bytes_decides unsigned_Decides (n, p) (m, q)) (λ e. let x : n ≡ m = cc in let y : p ≡ q = cc in λ i. (x i, y i))
notice_exact (RemoveFrom n p) (Change q t s) = (λ e. cc, λ e. cc)
notice_exact (Change p t r) (AddTo q s) = (λ e. cc, λ e. cc)
notice_exact (Change p t r) (RemoveFrom m q) = (λ e. cc, λ e. cc)
notice_exact (Change p t r) (Change q u s) =
    along _ (p, (t, r)) (q, (u, s)) (λ t. Change t.0 t.1.0 t.1.1) (pair_exact unsigned_Decides (pair_exact unsigned_Decides row_exact) (p, (t, r)) (q, (u, s)))
    (λ e. let x : p ≡ q = cc in let y : t ≡ u = cc in let z : r ≡ s = cc in λ i. (x i, (y i, z i)))

pub told_exact : (a b : Told) → Decides (told.ghosts.eq a b) (a ≡ b)
told_exact (Note c n) (Note d m) =
    along _ (c, n) (d, m) (λ t. Note t.0 t.1) (pair_exact bytes_decides notice_exact (c, n) (d, m)) (λ e. let x : c ≡ d = cc in let y : n ≡ m = cc in λ i. (x i, y i))
told_exact (Note c n) (Upto d m) = (λ e. cc, λ e. cc)
told_exact (Note c n) (Freed d) = (λ e. cc, λ e. cc)
told_exact (Upto c n) (Note d m) = (λ e. cc, λ e. cc)
told_exact (Upto c n) (Upto d m) =
    along _ (c, n) (d, m) (λ t. Upto t.0 t.1) (pair_exact bytes_decides signed_Decides (c, n) (d, m)) (λ e. let x : c ≡ d = cc in let y : n ≡ m = cc in λ i. (x i, y i))
told_exact (Upto c n) (Freed d) = (λ e. cc, λ e. cc)
told_exact (Freed c) (Note d m) = (λ e. cc, λ e. cc)
told_exact (Freed c) (Upto d m) = (λ e. cc, λ e. cc)
told_exact (Freed c) (Freed d) = along _ c d Freed (bytes_decides c d) (λ e. cc)
