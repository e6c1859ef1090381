-- Equality of what a search finds is exact: it holds of equal values and of no others.
use Rattle.std.proofs.Common.{◌≡◌, List, refl}
use Rattle.std.specs.Bool.{Decides}
use Rattle.std.specs.Cmp.Lexicographic.{pointwise, pointwise_decides, bytes_decides}
use Rattle.acap_entries.proofs.Equalities.{along, pair_exact}
use Rattle.acap_entries.specs.declared.path.Path.{Path}
use Rattle.acap_entries.specs.contracts.path.PathPartialEq.TheImpl as path
use Rattle.acap_search.specs.declared.sort_term.SortTerm.{SortTerm}
use Rattle.acap_search.specs.declared.sort_term.SortTerm.TheVariants.{Rising, Falling, Behind}
use Rattle.acap_search.specs.declared.sort_term.Rank.{Rank}
use Rattle.acap_search.specs.declared.sort_term.Rank.TheVariants.{Octets, Number, NoNumber}
use Rattle.acap_search.specs.contracts.sort_term.SortTermPartialEq.TheImpl as place
use Rattle.acap_search.specs.contracts.sort_term.RankPartialEq.TheImpl as rank

pub path_exact : (a b : Path) → Decides (path.ghosts.eq a b) (a ≡ b)
path_exact a b =
    let parts = pair_exact bytes_decides bytes_decides (a.dataset, a.name) (b.dataset, b.name) in (
      λ e. let h = parts.0 e in λ i. record { dataset = (h i).0; name = (h i).1 },
      λ e. parts.1 (λ i. ((e i).dataset, (e i).name)),
    )

pub rank_exact : (a b : Rank) → Decides (rank.ghosts.eq a b) (a ≡ b)
rank_exact (Octets x) (Octets y) = along _ x y Octets (bytes_decides x y) (λ e. cc)
rank_exact (Octets x) (Number y) = (λ e. cc, λ e. cc)
rank_exact (Octets x) NoNumber = (λ e. cc, λ e. cc)
rank_exact (Number x) (Octets y) = (λ e. cc, λ e. cc)
rank_exact (Number x) (Number y) = along _ x y Number (bytes_decides x y) (λ e. cc)
rank_exact (Number x) NoNumber = (λ e. cc, λ e. cc)
rank_exact NoNumber (Octets y) = (λ e. cc, λ e. cc)
rank_exact NoNumber (Number y) = (λ e. cc, λ e. cc)
rank_exact NoNumber NoNumber = (λ e. refl, λ e. refl)

pub place_exact : (a b : SortTerm) → Decides (place.ghosts.eq a b) (a ≡ b)
place_exact (Rising x) (Rising y) = along _ x y Rising (rank_exact x y) (λ e. cc)
place_exact (Rising x) (Falling y) = (λ e. cc, λ e. cc)
place_exact (Rising x) Behind = (λ e. cc, λ e. cc)
place_exact (Falling x) (Rising y) = (λ e. cc, λ e. cc)
place_exact (Falling x) (Falling y) = along _ x y Falling (rank_exact x y) (λ e. cc)
place_exact (Falling x) Behind = (λ e. cc, λ e. cc)
place_exact Behind (Rising y) = (λ e. cc, λ e. cc)
place_exact Behind (Falling y) = (λ e. cc, λ e. cc)
place_exact Behind Behind = (λ e. refl, λ e. refl)

pub places_exact : (a b : List SortTerm) → Decides (pointwise place.ghosts.eq a b) (a ≡ b)
places_exact = pointwise_decides place_exact
