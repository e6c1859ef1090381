-- What follows from the definitions alone.
use Rattle.std.specs.Cmp.{IsTotalOrder}
use Rattle.std.specs.declared.cmp.Ordering.TheVariants.{Equal}
use Rattle.std.specs.Prelude.{◌≡◌, ◌↔◌, ◌≤◌, length, Option, ℕ, ℤ, pos, neg_ℤ, true, false, List, [], ◌∷◌}
use Rattle.std.specs.Prelude.{◌++◌, Some, None, codes, replicate}
use Rattle.std.specs.FinMap as map
use Rattle.acap_entries.specs.Datasets.{is_dot_list, makes_dataset, dataset_exists}
use Rattle.acap_entries.specs.Moments.{first_moment, last_moment, IsMoment, moment_after}
use Rattle.acap_entries.specs.declared.record.Cell.TheVariants.{Nil, Single, Multi}
use Rattle.acap_entries.specs.Names.{is_path, is_dataset_argument, is_attribute, is_user_name}
use Rattle.acap_entries.specs.Names.{is_context_name, is_closed_dataset, is_component, dataset_of, name_of}
use Rattle.acap_entries.specs.Names.{own_entry, slash}
use Rattle.acap_entries.specs.Homes.{for_user}
use Rattle.acap_entries.specs.Stamp.{IsStamp, stamp_of}
use Rattle.acap_entries.specs.Changes.{IsStoreAfter, store_after}
use Rattle.acap_entries.specs.Store.{Store, Stored, after_edit}
use Rattle.acap_entries.specs.Times.{time_of}
use Rattle.acap_entries.specs.Deletions.{newest_of, others_of, forgotten_of}
use Rattle.acap_entries.specs.FullPaths.{full_path, full_path_cmp, IsSplit, IsWellFormed}
use Rattle.acap_entries.specs.declared.change.Change.{Change}
use Rattle.acap_entries.specs.declared.deletions.Deletion.{Deletion}
use Rattle.acap_entries.specs.declared.change.RecordEdit.{RecordEdit}
use Rattle.acap_entries.specs.declared.change.RecordEdit.TheVariants.{Put, Remove}
use Rattle.acap_entries.specs.declared.path.Path.{Path}
use Rattle.acap_entries.specs.declared.record.Record.{Record}

-- a change determines the store that it leaves
abbrev pub ChangeLaw : Type 0
ChangeLaw = (change : Change) (old a b : Store) → IsStoreAfter change old a → IsStoreAfter change old b
    → a ≡ b

-- the store that is a change's, as a value, is what the change stands for, path by path
abbrev pub AfterLaw : Type 0
AfterLaw = (change : Change) (old : Store) → IsStoreAfter change old (store_after change old)

-- after two changes each path has what the later one writes
-- there, else what the earlier one writes, else its old record
abbrev pub TwoChangesLaw : Type 0
TwoChangesLaw = (earlier later : Change) (old mid new : Store) → IsStoreAfter earlier old mid
    → IsStoreAfter later mid new
    → ((p : Path)
    → map.get new.records p
    ≡ after_edit (map.get later.writes p) (after_edit (map.get earlier.writes p) (map.get old.records p)))
    × (new.last ≡ later.moment)

-- a change that writes at one path alone
abbrev pub change_of : Path → RecordEdit → ℤ → Change
change_of p edit moment = record { writes = map.insert map.empty p edit; moment = moment; deleted = [] }

-- a record that one change puts and the next removes is gone
abbrev pub RemovalLaw : Type 0
RemovalLaw = (p : Path) (r : Record) (earlier later : ℤ) (old mid new : Store)
    → IsStoreAfter (change_of p (Put r) earlier) old mid → IsStoreAfter (change_of p Remove later) mid new
    → (map.get mid.records p ≡ Some r) × (map.get new.records p ≡ None)

-- the newest deletions are kept, and the rest is forgotten: at most 4,096 are kept, they are the end of all
-- of them, and of what isn't kept the last moment is known
pub record DeletionLaw : Type 0 where
  pub whole : (all : List Deletion) → others_of all ++ newest_of all ≡ all
  pub few : (all : List Deletion) → length (newest_of all) ≤ 4_096
  pub all_of_few : (all : List Deletion) → length all ≤ 4_096 → newest_of all ≡ all
  pub none_of_few : (before : Option ℤ) (all : List Deletion) → length all ≤ 4_096
      → forgotten_of before all ≡ before
  pub last_of_others : (before : Option ℤ) (front : List Deletion) (d : Deletion) (rest : List Deletion)
      → length rest ≡ 4_096 → forgotten_of before (front ++ d ∷ rest) ≡ Some d.moment
  pub by_parts : (all more : List Deletion) → newest_of (newest_of all ++ more) ≡ newest_of (all ++ more)

-- the order of full paths is one of lists of octets, and
-- equal full paths of well-formed paths are equal paths
pub record FullPathLaw : Type 0 where
  pub total : IsTotalOrder full_path_cmp
  pub same : (a b : Path) → IsSplit a → IsSplit b → full_path_cmp a b ≡ Equal → a ≡ b

-- the own entry of a dataset is the one path, split at its last
-- slash, whose octets, with a slash after them, are the dataset's
abbrev pub OwnEntryLaw : Type 0
OwnEntryLaw = (dataset : List ℕ) (p : Path) → (own_entry dataset ≡ Some (p.dataset, p.name))
    ↔ (IsSplit p × (full_path p ++ slash ∷ [] ≡ dataset))

-- the own entry of a dataset is well formed, and so is the dataset that a named entry makes, and the one that
-- a user means; a well-formed path is split where it should be
pub record FormLaw : Type 0 where
  pub split : (p : Path) → IsWellFormed p → IsSplit p
  pub own : (dataset : List ℕ) (p : Path) → is_closed_dataset dataset ≡ true
      → own_entry dataset ≡ Some (p.dataset, p.name)
      → IsWellFormed p × (is_component p.name ≡ true)
  pub beneath : (dataset name : List ℕ) → is_closed_dataset dataset ≡ true → is_component name ≡ true
      → is_closed_dataset (dataset ++ name ++ slash ∷ []) ≡ true
  pub meant : (user dataset : List ℕ) → is_user_name user ≡ true → is_closed_dataset dataset ≡ true
      → is_closed_dataset (for_user user dataset) ≡ true

-- the moment of a change is the clock's where that is later than the last
-- one, else the next, and there is none after the last of all moments
pub record MomentExamples : Type 0 where
  pub later_clock : moment_after (pos 5) (pos 9) ≡ Some (pos 9)
  pub same_clock : moment_after (pos 5) (pos 5) ≡ Some (pos 6)
  pub earlier_clock : moment_after (pos 5) (pos 3) ≡ Some (pos 6)
  pub before_the_last : moment_after (pos 253_402_300_799_999_998) (pos 0) ≡ Some last_moment
  pub at_the_last : (clock : ℤ) → moment_after last_moment clock ≡ None

-- which records make datasets, and which datasets exist
pub record ExistenceLaw : Type 0 where
  pub dot : is_dot_list (Some (Multi (codes "." ∷ []))) ≡ true
  pub nothing : is_dot_list None ≡ false
  pub nil : is_dot_list (Some Nil) ≡ false
  pub text : is_dot_list (Some (Single (codes "."))) ≡ false
  pub no_string : is_dot_list (Some (Multi [])) ≡ false
  pub two_dots : is_dot_list (Some (Multi (codes ".." ∷ []))) ≡ false
  pub twice : is_dot_list (Some (Multi (codes "." ∷ codes "." ∷ []))) ≡ false
  pub present : (e : Record) → map.get e.cells (codes "subdataset") ≡ Some (Multi (codes "." ∷ []))
      → makes_dataset e ≡ e.present
  pub without : (e : Record) → map.get e.cells (codes "subdataset") ≡ None → e.present ≡ true
      → makes_dataset e ≡ false
  pub root : (records : Stored) → dataset_exists records (codes "/") ≡ true
  pub made : (records : Stored) (e : Record)
      → map.get records (record { dataset = codes "/a/"; name = codes "b" }) ≡ Some e
      → dataset_exists records (codes "/a/b/") ≡ makes_dataset e
  pub missing : (records : Stored)
      → map.get records (record { dataset = codes "/a/"; name = codes "b" }) ≡ None
      → dataset_exists records (codes "/a/b/") ≡ false
  pub unclosed : (records : Stored) → dataset_exists records (codes "/a/b") ≡ false

-- a path is its dataset and then its name
abbrev pub PathLaw : Type 0
PathLaw = (path : List ℕ) → dataset_of path ++ name_of path ≡ path

-- each moment has one stamp, and `stamp_of` is it
pub record StampLaw : Type 0 where
  pub exists : (moment : ℤ) → IsMoment moment → IsStamp moment (stamp_of moment)
  pub only : (moment : ℤ) (a b : List ℕ) → IsStamp moment a → IsStamp moment b → a ≡ b

-- the stamps of the moments 0 and 1, of the first and of the last
pub record StampExamples : Type 0 where
  pub zero_is : IsStamp (pos 0) (codes "19700101000000000000")
  pub one_is : IsStamp (pos 1) (codes "19700101000000000001")
  pub first_is : IsStamp first_moment (codes "00000101000000000000")
  pub last_is : IsStamp last_moment (codes "99991231235959999999")

-- the stamp of a moment is a time that stands for that moment
abbrev pub TimeLaw : Type 0
TimeLaw = (moment : ℤ) → IsMoment moment → time_of (stamp_of moment) ≡ Some moment

-- texts that are times and texts that are none, one for each rule
pub record TimeExamples : Type 0 where
  pub zero : time_of (codes "19700101000000") ≡ Some (pos 0)
  pub tenth : time_of (codes "197001010000001") ≡ Some (pos 100_000)
  pub twenty_digits : time_of (codes "19700101000000000001") ≡ Some (pos 1)
  pub thirty_digits : time_of (codes "197001010000000000019999999999") ≡ Some (pos 1)
  pub first_time : time_of (codes "00000101000000") ≡ Some first_moment
  pub last_time : time_of (codes "99991231235959999999") ≡ Some last_moment
  pub before_1970 : time_of (codes "19691231235959") ≡ Some (neg_ℤ (pos 1_000_000))
  pub leap_second : time_of (codes "19691231235960") ≡ Some (neg_ℤ (pos 1))
  pub leap_second_fraction : time_of (codes "196912312359605") ≡ Some (neg_ℤ (pos 1))
  pub second_61 : time_of (codes "19691231235961") ≡ None
  pub minute_60 : time_of (codes "19700101006000") ≡ None
  pub hour_24 : time_of (codes "19700101240000") ≡ None
  pub leap_day : time_of (codes "20000229000000") ≡ Some (pos 951_782_400_000_000)
  pub no_leap_day : time_of (codes "19000229000000") ≡ None
  pub april_31 : time_of (codes "20240431000000") ≡ None
  pub day_0 : time_of (codes "20240400000000") ≡ None
  pub month_0 : time_of (codes "20240001000000") ≡ None
  pub month_13 : time_of (codes "20241301000000") ≡ None
  pub thirteen_digits : time_of (codes "1970010100000") ≡ None
  pub nothing : time_of [] ≡ None
  pub letter : time_of (codes "1970010100000O") ≡ None
  pub sign : time_of (codes "-1970010100000") ≡ None
  pub letter_behind : time_of (codes "19700101000000000000Z") ≡ None

-- names that are accepted and refused, one for each rule
pub record PathExamples : Type 0 where
  pub plain : is_path (codes "/option/~/font") ≡ true
  pub management : is_path (codes "/option/user/joe/") ≡ true
  pub root : is_path (codes "/") ≡ true
  pub letters : is_path (47 ∷ 195 ∷ 169 ∷ []) ≡ true
  pub sixteen : is_path (codes "/a/b/c/d/e/f/g/h/i/j/k/l/m/n/o/p") ≡ true
  pub sixteen_steps : is_path (codes "/a/b/c/d/e/f/g/h/i/j/k/l/m/n/o/p/") ≡ true
  pub seventeen : is_path (codes "/a/b/c/d/e/f/g/h/i/j/k/l/m/n/o/p/q") ≡ false
  pub longest : is_path (slash ∷ replicate 1_023 97) ≡ true
  pub too_long : is_path (slash ∷ replicate 1_024 97) ≡ false
  pub relative : is_path (codes "option/font") ≡ false
  pub nothing : is_path [] ≡ false
  pub empty_component : is_path (codes "/option//font") ≡ false
  pub dotted : is_path (codes "/option/.font/x") ≡ false
  pub dotted_name : is_path (codes "/option/.font") ≡ false
  pub with_nul : is_path (47 ∷ 97 ∷ 0 ∷ []) ≡ false
  pub not_utf8 : is_path (47 ∷ 195 ∷ 40 ∷ []) ≡ false
  pub surrogate : is_path (47 ∷ 237 ∷ 160 ∷ 128 ∷ []) ≡ false

pub record DatasetExamples : Type 0 where
  pub closed : is_dataset_argument (codes "/option/") ≡ true
  pub open_ended : is_dataset_argument (codes "/option") ≡ true
  pub root : is_dataset_argument (codes "/") ≡ true
  pub sixteen : is_dataset_argument (codes "/a/b/c/d/e/f/g/h/i/j/k/l/m/n/o/p") ≡ true
  pub seventeen : is_dataset_argument (codes "/a/b/c/d/e/f/g/h/i/j/k/l/m/n/o/p/q/") ≡ false
  pub relative : is_dataset_argument (codes "option/") ≡ false
  pub nothing : is_dataset_argument [] ≡ false
  pub doubled : is_dataset_argument (codes "//") ≡ false
  pub dotted : is_dataset_argument (codes "/.option/") ≡ false
  pub kept : is_closed_dataset (codes "/option/user/") ≡ true
  pub kept_root : is_closed_dataset (codes "/") ≡ true
  pub kept_open : is_closed_dataset (codes "/option") ≡ false
  pub kept_doubled : is_closed_dataset (codes "/option//") ≡ false
  pub kept_dotted : is_closed_dataset (codes "/.option/") ≡ false

pub record NameExamples : Type 0 where
  pub attribute : is_attribute (codes "option.value") ≡ true
  pub slashed : is_attribute (codes "a/b c") ≡ true
  pub empty_attribute : is_attribute [] ≡ false
  pub starred : is_attribute (codes "option.*") ≡ false
  pub percent : is_attribute (codes "option%") ≡ false
  pub nul_attribute : is_attribute (97 ∷ 0 ∷ []) ≡ false
  pub attribute_bytes : is_attribute (255 ∷ []) ≡ false
  pub longest_attribute : is_attribute (replicate 200 97) ≡ true
  pub long_attribute : is_attribute (replicate 201 97) ≡ false
  pub user : is_user_name (codes "joe") ≡ true
  pub longest_user : is_user_name (replicate 64 97) ≡ true
  pub long_user : is_user_name (replicate 65 97) ≡ false
  pub empty_user : is_user_name [] ≡ false
  pub anyone : is_user_name (codes "anyone") ≡ false
  pub tilde : is_user_name (codes "~") ≡ false
  pub negative : is_user_name (codes "-joe") ≡ false
  pub spaced : is_user_name (codes "joe smith") ≡ false
  pub tabbed : is_user_name (97 ∷ 9 ∷ []) ≡ false
  pub slashed_user : is_user_name (codes "a/b") ≡ false
  pub dotted_user : is_user_name (codes ".joe") ≡ false
  pub grouped_user : is_user_name (codes "group:x") ≡ false
  pub unnamed_group : is_user_name (codes "group:") ≡ false
  pub group_itself : is_user_name (codes "group") ≡ true
  pub upper_group : is_user_name (codes "Group:x") ≡ true
  pub context : is_context_name (codes "c 1") ≡ true
  pub empty_context : is_context_name [] ≡ false
  pub slashed_context : is_context_name (codes "/c") ≡ false
  pub longest_context : is_context_name (replicate 255 97) ≡ true
  pub long_context : is_context_name (replicate 256 97) ≡ false

pub record HomeExamples : Type 0 where
  pub own : for_user (codes "joe") (codes "/option/~/") ≡ codes "/option/user/joe/"
  pub beneath : for_user (codes "joe") (codes "/option/~/x/") ≡ codes "/option/user/joe/x/"
  pub first_component : for_user (codes "joe") (codes "/~/x/") ≡ codes "/~/x/"
  pub third_component : for_user (codes "joe") (codes "/a/b/~/") ≡ codes "/a/b/~/"
  pub longer : for_user (codes "joe") (codes "/a/~b/") ≡ codes "/a/~b/"
  pub parent : own_entry (codes "/option/user/joe/") ≡ Some (codes "/option/user/", codes "joe")
  pub top : own_entry (codes "/option/") ≡ Some (codes "/", codes "option")
  pub root : own_entry (codes "/") ≡ None
  pub without_closing_slash : own_entry (codes "/optionX") ≡ None
  pub without_beginning_slash : own_entry (codes "option/") ≡ None
  pub nothing : own_entry [] ≡ None
