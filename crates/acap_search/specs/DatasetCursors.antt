-- A dataset whose entries are looked at one after the other: words of private contracts.
use Rattle.std.specs.Prelude.{◌≡◌, ◌↔◌, Bool, IsTrue, refl}
use Rattle.std.specs.Coded.{Coded, code_by, coded×, coded_bool}
use Rattle.std.specs.List.{Contains}
use Rattle.acap_search.specs.Views.{View, view_code}
use Rattle.acap_search.specs.Walks.{Walk, datasets_by, view_in}

-- who looks at its entries, and whether it is one that is searched
pub record DatasetCursor : Type 0 where
  pub view : View
  pub is_searched : Bool

-- it is that of its dataset, in one search
pub record IsGroundOf (quest : Walk) (g : DatasetCursor) : Type 0 where
  pub view : g.view ≡ view_in quest g.view.dataset
  pub searched : IsTrue g.is_searched ↔ Contains (datasets_by quest) g.view.dataset

-- how grounds are told apart in proofs
abbrev pub ground_code : Coded DatasetCursor
ground_code =
    code_by (View × Bool) (coded× view_code coded_bool) (λ g. (g.view, g.is_searched))
    (λ p. record { view = p.0; is_searched = p.1 }) (λ _. refl)
