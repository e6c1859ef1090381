-- What `~` stands for: the second component of a dataset, where it is
-- `~`, is `user/USER` of the logged-in user [RFC 2244 section 4.1].
use Rattle.std.specs.Prelude.{ℕ, ◌+◌, Bool, nat_eq, ◌&&◌, List, ◌++◌, take, drop, codes, if◌then◌else◌}
use Rattle.std.specs.List.{position_or_len, starts_with}
use Rattle.acap_entries.specs.Names.{slash, is_slash, begins_with}

-- where the second component of `/c1/c2/..` begins: after the second slash
abbrev pub second_at : List ℕ → ℕ
second_at dataset = position_or_len is_slash (drop 1 dataset) + 2

-- whether the second component is `~`
unfoldable pub is_home : List ℕ → Bool
is_home dataset = begins_with slash dataset
    && starts_with nat_eq (drop (second_at dataset) dataset) (codes "~/")

-- the dataset with `user/USER` in place of the one octet there
abbrev pub with_user_at : ℕ → List ℕ → List ℕ → List ℕ
with_user_at at user dataset = take at dataset ++ codes "user/" ++ user ++ drop (at + 1) dataset

-- the dataset that is meant by a user
unfoldable pub for_user : List ℕ → List ℕ → List ℕ
for_user user dataset = if is_home dataset then with_user_at (second_at dataset) user dataset else dataset
