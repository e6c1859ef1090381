-- Examples over maps, by those over lists.
use Rattle.std.proofs.Common.{◌≡◌, ℕ, List, [], ◌∷◌, Option, Some, None, refl, ap, ◌∙◌}
use Rattle.std.specs.Prelude.{codes}
use Rattle.std.specs.Option.{option_map, option_and_then}
use Rattle.acap_entries.specs.declared.row.Row.{Row}
use Rattle.acap_notices.specs.Rows.{RowMap, by_name}
use Rattle.acap_notices.specs.Client.{listed_after, mapped_after}
use Rattle.acap_notices.specs.Holding.{Holding, Mapped, holding_after_all}
use Rattle.acap_notices.specs.Examples.{with_value, bdf, adf, a_comes, b_goes, f_changes, mapped_all}
use Rattle.acap_notices.specs.declared.notice.Notice.{Notice}
use Rattle.acap_notices.specs.declared.notice.Notice.TheVariants.{AddTo, RemoveFrom, Change}
use Rattle.acap_notices.proofs.RuleLemmas.{same_rows, mapped_add, mapped_remove, mapped_change}

abbrev abdf : List Row
abdf = with_value (codes "a") (codes "1") ∷ bdf

abbrev old_adf : List Row
old_adf = with_value (codes "a") (codes "1") ∷ with_value (codes "d") (codes "4") ∷ with_value (codes "f") (codes "6") ∷ []

a_step : (i : ℕ) → mapped_after (by_name bdf) (a_comes i) ≡ Some (by_name abdf)
unfolding mapped_after listed_after
a_step i = same_rows bdf abdf (a_comes 1) (record { once = refl }) refl

b_step : (i : ℕ) → mapped_after (by_name abdf) (b_goes i) ≡ Some (by_name old_adf)
unfolding mapped_after listed_after
b_step i = same_rows abdf old_adf (b_goes 2) (record { once = refl }) refl

f_step : (i j : ℕ) → mapped_after (by_name old_adf) (f_changes i j) ≡ Some (by_name adf)
unfolding mapped_after listed_after
f_step i j = same_rows old_adf adf (f_changes 3 3) (record { once = refl }) refl

-- what is held after further notices, where a map fits the first
after_step : Option RowMap → List Notice → Option Holding
after_step made notices = option_and_then (λ next. holding_after_all next notices) (option_map Mapped made)

pub mixed_mapped : (i j k l : ℕ) → mapped_all bdf (a_comes i ∷ b_goes j ∷ f_changes k l ∷ []) ≡ Some (Mapped (by_name adf))
unfolding after_step
mixed_mapped i j k l =
    ap (λ made. after_step made (b_goes j ∷ f_changes k l ∷ [])) (a_step i)
    ∙ ap (λ made. after_step made (f_changes k l ∷ [])) (b_step j)
    ∙ ap (λ made. after_step made []) (f_step k l)

pub mapped_again : mapped_all bdf (AddTo 0 (with_value (codes "b") (codes "2")) ∷ []) ≡ None
unfolding listed_after after_step
mapped_again = ap (λ made. after_step made []) (mapped_add bdf (with_value (codes "b") (codes "2")))

pub mapped_unknown : mapped_all bdf (RemoveFrom (codes "a") 0 ∷ []) ≡ None
unfolding listed_after after_step
mapped_unknown = ap (λ made. after_step made []) (mapped_remove bdf (codes "a") (record { once = refl }))

pub mapped_change_unknown : mapped_all bdf (Change 0 0 (with_value (codes "a") (codes "1")) ∷ []) ≡ None
unfolding listed_after after_step
mapped_change_unknown = ap (λ made. after_step made []) (mapped_change bdf (with_value (codes "a") (codes "1")) (record { once = refl }))
