-- The keys of searches, as trees of tests [RFC 2244 section 6.4.1].
use Rattle.std.specs.Prelude.{◌≡◌, ℕ, ◌+◌, refl, List, [], ◌∷◌, Option, Some, None}
use Rattle.std.specs.Coded.{Coded, code_by, coded_list, coded_option}
use Rattle.std.proofs.Common.{◌∙◌, ap}
use Rattle.acap_commands.specs.declared.test.Test.{Test}
use Rattle.acap_commands.specs.declared.test.Test.TheVariants as test
use Rattle.acap_commands.specs.contracts.test.Test as test_row

-- one test, or what is made of keys by AND, OR and NOT
pub data Wanted : Type 0 where
  One : Test → Wanted
  And : Wanted → Wanted → Wanted
  Or : Wanted → Wanted → Wanted
  Not : Wanted → Wanted

-- how many words AND, OR and NOT it has
abbrev pub height : Wanted → ℕ
height (One t) = 0
height (And a b) = height a + height b + 1
height (Or a b) = height a + height b + 1
height (Not a) = height a + 1

-- How keys are told apart in proofs: by their signs in a row,
-- each word after the keys that it joins, before others.
abbrev pub Sign : Type 0
Sign = Option (Option (Option Test))

abbrev pub signs : Wanted → List Sign → List Sign
signs (One t) rest = Some (Some (Some t)) ∷ rest
signs (And a b) rest = signs a (signs b (None ∷ rest))
signs (Or a b) rest = signs a (signs b (Some None ∷ rest))
signs (Not a) rest = signs a (Some (Some None) ∷ rest)

-- the last two of the keys that stand already, joined; the last one, negated
abbrev pub join_last : (Wanted → Wanted → Wanted) → List Wanted → List Wanted
join_last join [] = []
join_last join (b ∷ []) = b ∷ []
join_last join (b ∷ a ∷ others) = join a b ∷ others

abbrev pub negate_last : List Wanted → List Wanted
negate_last [] = []
negate_last (a ∷ others) = Not a ∷ others

abbrev pub joined_by : List Wanted → List Sign → List Wanted
joined_by keys [] = keys
joined_by keys (None ∷ rest) = joined_by (join_last And keys) rest
joined_by keys (Some None ∷ rest) = joined_by (join_last Or keys) rest
joined_by keys (Some (Some None) ∷ rest) = joined_by (negate_last keys) rest
joined_by keys (Some (Some (Some t)) ∷ rest) = joined_by (One t ∷ keys) rest

abbrev pub last_key : List Wanted → Wanted
last_key [] = One test.All
last_key (a ∷ others) = a

-- a key's signs give it back
pub signs_back : (k : Wanted) (rest : List Sign) (keys : List Wanted)
    → joined_by keys (signs k rest) ≡ joined_by (k ∷ keys) rest
signs_back (One t) rest keys = refl
signs_back (And a b) rest keys =
    signs_back a (signs b (None ∷ rest)) keys ∙ signs_back b (None ∷ rest) (a ∷ keys)
signs_back (Or a b) rest keys =
    signs_back a (signs b (Some None ∷ rest)) keys ∙ signs_back b (Some None ∷ rest) (a ∷ keys)
signs_back (Not a) rest keys = signs_back a (Some (Some None) ∷ rest) keys

abbrev pub wanted_code : Coded Wanted
wanted_code =
    code_by (List Sign) (coded_list (coded_option (coded_option (coded_option test_row.the_row.coded))))
    (λ k. signs k []) (λ s. last_key (joined_by [] s)) (λ k. ap last_key (signs_back k [] []))
