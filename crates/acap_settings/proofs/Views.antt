-- Tests of all that an array or a table has, as tests of the values that stand there.
use Rattle.std.proofs.Common.{◌≡◌, ℕ, Bool, ◌&&◌, ◌||◌, List, [], ◌∷◌, String, Global, string_bytes, refl, ap, option_map, find, not, arith, sym, Some, None}
use Rattle.std.specs.Map.{keys_of}
use Rattle.std.specs.List.{list_all, list_any}
use Rattle.toml.specs.Data.{Data}
use Rattle.toml.specs.View.{view, items_view, members_view}
use Rattle.toml.specs.declared.value.Value.{Value}
use Rattle.acap_settings.specs.Keys.{all_items, any_item, all_members, is_known, first_unknown}

pub all_items_view : (p : Data → Bool) (vs : List Value) → all_items p (items_view vs) ≡ list_all (λ v. p (view v)) vs
all_items_view p [] = refl
all_items_view p (v ∷ vs) = ap (λ b. p (view v) && b) (all_items_view p vs)

pub any_item_view : (p : Data → Bool) (vs : List Value) → any_item p (items_view vs) ≡ list_any (λ v. p (view v)) vs
any_item_view p [] = refl
any_item_view p (v ∷ vs) = ap (λ b. p (view v) || b) (any_item_view p vs)

pub all_members_view : (p : List ℕ → Data → Bool) (es : List (String Global × Value)) → all_members p (members_view es) ≡ list_all (λ e. p (string_bytes e.0) (view e.1)) es
all_members_view p [] = refl
all_members_view p (e ∷ es) = ap (λ b. p (string_bytes e.0) (view e.1) && b) (all_members_view p es)

pub unknown_view : (es : List (String Global × Value)) → option_map string_bytes (find (λ key. not (is_known (string_bytes key))) (keys_of es)) ≡ first_unknown (members_view es)
unknown_view [] = refl
unknown_view (e ∷ es) = grind (arith, unknown_view es)

-- what stands in the table as unknown, as its octets
pub unknown_some : (es : List (String Global × Value)) (key : String Global) → Some key ≡ find (λ key. not (is_known (string_bytes key))) (keys_of es) → Some (string_bytes key) ≡ first_unknown (members_view es)
unknown_some es key e = rw (sym (unknown_view es), sym e)

pub unknown_none : (es : List (String Global × Value)) → None ≡ find (λ key. not (is_known (string_bytes key))) (keys_of es) → None ≡ first_unknown (members_view es)
unknown_none es e = rw (sym (unknown_view es), sym e)
