-- Searches over contexts, computed from the definitions alone [RFC 2244 sections 3.3 and 6.4.1].
use Rattle.std.specs.Prelude.{◌≡◌, ℕ, ℤ, Bool, true, false, List, [], ◌∷◌, Some, None, codes, if◌then◌else◌}
use Rattle.std.specs.Prelude.{pos, map as each}
use Rattle.acap_entries.specs.Orders.{octets_eq}
use Rattle.acap_entries.specs.Store.{Stored}
use Rattle.acap_entries.specs.declared.record.Cell.TheVariants.{Nil, Single}
use Rattle.acap_entries.specs.declared.path.Path.{Path}
use Rattle.acap_commands.specs.Wanted.{Wanted, One, And, Or, Not}
use Rattle.acap_commands.specs.declared.test.Relation.TheVariants as relation
use Rattle.acap_commands.specs.declared.test.Test.TheVariants as test
use Rattle.acap_order.specs.declared.comparator.Collation.TheVariants.{Octet, AsciiCasemap}
use Rattle.acap_rights.specs.declared.realm.Realm.{Realm}
use Rattle.acap_search.specs.Examples.{d, key, path_of, reading, sorting, testing}
use Rattle.acap_search.specs.Fresh.{Sight}
use Rattle.acap_search.specs.Matches.{Match}
use Rattle.acap_search.specs.Sight.{Answers}
use Rattle.acap_search.specs.Within.{context_of, position_of, matches_in, matches_within, has_old}
use Rattle.acap_search.specs.Within.{refusal_within}
use Rattle.acap_search.specs.declared.query.Query.{Query}
use Rattle.acap_search.specs.declared.query.SearchSpec.{SearchSpec}
use Rattle.acap_search.specs.declared.refusal.SearchRefusal.TheVariants as refusal

-- entries of the dataset /d/ by their names
abbrev pub entries : List (List ℕ) → List Path
entries = each (path_of d)

abbrev pub a : List ℕ
a = codes "a"

abbrev pub b : List ℕ
b = codes "b"

abbrev pub c : List ℕ
c = codes "c"

-- those of these names are seen, and x is 2 for the first of them and 1 for the others, where it may be read
abbrev pub seeing : (Bool → Answers) → List (List ℕ) → Sight
seeing answers names = record {
  paths = entries names;
  answers = λ path. answers (octets_eq path.name a);
  attributes = λ path. [];
}

abbrev pub read_by : Bool → Answers
read_by first = reading (Single (if first then codes "2" else codes "1")) Nil

abbrev pub tested_by : Bool → Answers
tested_by first = testing (Single (if first then codes "2" else codes "1")) Nil

-- a search over a context of /d/ by a key, without SORT and with that by x, and over a context with DEPTH
abbrev pub plain : Wanted → SearchSpec
plain wanted = record sorting { key = wanted; sort = None }

abbrev pub by_x : Wanted → SearchSpec
by_x wanted = record sorting { key = wanted }

abbrev pub deep : Wanted → SearchSpec
deep wanted = record sorting { depth = Some 2; key = wanted; sort = None }

abbrev pub told_names : List Match → List (List ℕ)
told_names = each (λ found. found.row.name)

abbrev pub range : ℕ → ℕ → Wanted
range first last = One (test.Range first last (pos 9))

-- the same for a client that was sent all changes up to a moment
abbrev pub range_at : ℤ → Wanted
range_at since = One (test.Range 1 2 since)

abbrev pub all : Wanted
all = One test.All

pub record ContextExamples : Type 0 where
  -- an entry that went leaves the positions of the others, and so does one that isn't seen any more
  pub all_of_them : told_names
      (matches_in (seeing read_by (a ∷ c ∷ [])) (plain all) (entries (a ∷ b ∷ c ∷ []))) ≡ a ∷ c ∷ []
  pub third : told_names
      (matches_in (seeing read_by (a ∷ c ∷ [])) (plain (range 3 3)) (entries (a ∷ b ∷ c ∷ []))) ≡ c ∷ []
  pub second : told_names
      (matches_in (seeing read_by (a ∷ c ∷ [])) (plain (range 2 2)) (entries (a ∷ b ∷ c ∷ []))) ≡ []
  -- what is seen and isn't listed is not found
  pub unlisted : told_names (matches_in (seeing read_by (a ∷ b ∷ c ∷ [])) (plain all) (entries (c ∷ a ∷ [])))
      ≡ c ∷ a ∷ []
  -- positions
  pub under_not : told_names
      (matches_in (seeing read_by (a ∷ b ∷ c ∷ [])) (plain (Not (range 2 2))) (entries (a ∷ b ∷ c ∷ [])))
      ≡ a ∷ c ∷ []
  pub zero : told_names
      (matches_in (seeing read_by (a ∷ b ∷ c ∷ [])) (plain (range 0 0)) (entries (a ∷ b ∷ c ∷ []))) ≡ []
  pub from_zero : told_names
      (matches_in (seeing read_by (a ∷ b ∷ c ∷ [])) (plain (range 0 1)) (entries (a ∷ b ∷ c ∷ []))) ≡ a ∷ []
  pub turned_round : told_names
      (matches_in (seeing read_by (a ∷ b ∷ c ∷ [])) (plain (range 3 2)) (entries (a ∷ b ∷ c ∷ []))) ≡ []
  pub to_the_last : told_names
      (matches_in (seeing read_by (a ∷ b ∷ c ∷ [])) (plain (range 2 4_294_967_295))
      (entries (a ∷ b ∷ c ∷ []))) ≡ b ∷ c ∷ []
  pub last_position : position_of 4_294_967_295 ≡ Some 4_294_967_295
  pub no_position : position_of 4_294_967_296 ≡ None
  -- a value that may only be tested is found by EQUAL of octets, and by nothing else
  pub tested : told_names
      (matches_in (seeing tested_by (a ∷ b ∷ [])) (plain (key relation.Equal Octet (codes "2")))
      (entries (b ∷ a ∷ []))) ≡ a ∷ []
  pub not_tested : told_names
      (matches_in (seeing tested_by (a ∷ b ∷ [])) (plain (key relation.Equal AsciiCasemap (codes "2")))
      (entries (b ∷ a ∷ []))) ≡ []
  -- in the order of the context, and by SORT, where those that tie come by their paths
  pub unsorted : told_names
      (matches_in (seeing read_by (a ∷ b ∷ c ∷ [])) (plain all) (entries (c ∷ a ∷ b ∷ []))) ≡ c ∷ a ∷ b ∷ []
  pub sorted : told_names (matches_in (seeing read_by (a ∷ b ∷ c ∷ [])) (by_x all) (entries (c ∷ a ∷ b ∷ [])))
      ≡ b ∷ c ∷ a ∷ []
  -- the context's DEPTH decides under which names entries are sent
  pub full_names : told_names (matches_in (seeing read_by (a ∷ b ∷ [])) (deep all) (entries (b ∷ a ∷ [])))
      ≡ codes "/d/b" ∷ codes "/d/a" ∷ []
  -- a time is old where it is before the moment that was sent,
  -- wherever it stands in the key, and each of several times counts
  pub same_time : has_old (pos 9) (range_at (pos 9)) ≡ false
  pub later_time : has_old (pos 9) (range_at (pos 10)) ≡ false
  pub earlier_time : has_old (pos 9) (range_at (pos 8)) ≡ true
  pub earlier_under_not : has_old (pos 9) (Not (range_at (pos 8))) ≡ true
  pub earlier_not_needed : has_old (pos 9) (Or all (range_at (pos 8))) ≡ true
  pub one_of_two : has_old (pos 9) (And (range_at (pos 9)) (range_at (pos 8))) ≡ true
  pub two_times : has_old (pos 9) (And (range_at (pos 9)) (range_at (pos 10))) ≡ false
  -- the first reason is sent; without positions only a key
  -- with RANGE is refused, and HARDLIMIT counts the matches
  pub no_positions : (records : Stored) (realm : Realm) (user : List ℕ) (query : Query) (paths : List Path)
      → query.sought.key ≡ Not (range_at (pos 8))
      → refusal_within records realm user query (context_of paths (pos 9) false) ≡ Some refusal.RangeHere
  pub too_old : (records : Stored) (realm : Realm) (user : List ℕ) (query : Query) (paths : List Path)
      → query.sought.key ≡ Not (range_at (pos 8))
      → refusal_within records realm user query (context_of paths (pos 9) true) ≡ Some refusal.TooOld
  pub too_many : (records : Stored) (realm : Realm) (user : List ℕ) (query : Query) (paths : List Path)
      (m n : Match) → query.sought.key ≡ all → query.hard_limit ≡ Some 1
      → matches_within records realm user query.sought paths ≡ m ∷ n ∷ []
      → refusal_within records realm user query (context_of paths (pos 9) false) ≡ Some refusal.WayTooMany
  pub not_too_many : (records : Stored) (realm : Realm) (user : List ℕ) (query : Query) (paths : List Path)
      (m n : Match) → query.sought.key ≡ all → query.hard_limit ≡ Some 2
      → matches_within records realm user query.sought paths ≡ m ∷ n ∷ []
      → refusal_within records realm user query (context_of paths (pos 9) false) ≡ None
