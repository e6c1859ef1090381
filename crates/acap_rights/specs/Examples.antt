-- Examples that are computed from the definitions.
use Rattle.std.specs.Prelude.{◌≡◌, ℕ, true, false, List, [], ◌∷◌, ◌++◌, map, codes, Some, None}
use Rattle.std.specs.Option.{is_some}
use Rattle.acap_entries.specs.Names.{tab}
use Rattle.acap_rights.specs.Deciding.{implicit_rights}
use Rattle.acap_rights.specs.Edits.{without, with_pair}
use Rattle.acap_rights.specs.Homes.{home_of, is_owner, default_list}
use Rattle.acap_rights.specs.Keeping.{target_of_list}
use Rattle.acap_rights.specs.Pairs.{pair_of, is_acl, rights_in}
use Rattle.acap_rights.specs.Rights.{letters_of, rights_list}
use Rattle.acap_rights.specs.declared.realm.Realm.{Realm}

-- a realm with one administrator, and a user who is none
abbrev pub realm : Realm
realm = record { administrators = codes "root" ∷ []; groups = [] }

abbrev pub joe : List ℕ
joe = codes "joe"

-- two texts with TAB between them
abbrev pub row : List ℕ → List ℕ → List ℕ
row front behind = front ++ tab ∷ behind

-- which strings are pairs
pub record PairExamples : Type 0 where
  pub usual : pair_of (row joe (codes "rw")) ≡ Some (record { identifier = joe; letters = codes "rw" })
  pub spaced : pair_of (row (codes "joe smith") (codes "x"))
      ≡ Some (record { identifier = codes "joe smith"; letters = codes "x" })
  pub hyphened : pair_of (row (codes "joe-smith") (codes "x"))
      ≡ Some (record { identifier = codes "joe-smith"; letters = codes "x" })
  pub negative : pair_of (row (codes "-anyone") (codes "xr"))
      ≡ Some (record { identifier = codes "-anyone"; letters = codes "xr" })
  pub twice_negative : pair_of (row (codes "--") (codes "x"))
      ≡ Some (record { identifier = codes "--"; letters = codes "x" })
  pub any_order : is_some (pair_of (row joe (codes "aiwrxaa"))) ≡ true
  pub no_letters : pair_of (row joe []) ≡ Some (record { identifier = joe; letters = [] })
  pub any_octets : is_some (pair_of (row (0 ∷ 255 ∷ []) (codes "r"))) ≡ true
  pub two_tabs : pair_of (row (row joe (codes "r")) (codes "w")) ≡ None
  pub two_tabs_end : pair_of (row (row joe (codes "r")) []) ≡ None
  pub no_tab : pair_of joe ≡ None
  pub nothing : pair_of [] ≡ None
  pub no_identifier : pair_of (row [] (codes "r")) ≡ None
  pub minus_alone : pair_of (row (codes "-") (codes "r")) ≡ None
  pub other_letter : pair_of (row joe (codes "rz")) ≡ None
  pub upper_case : pair_of (row joe (codes "R")) ≡ None
  pub spaced_letters : pair_of (row joe (codes "r w")) ≡ None
  pub empty_list : is_acl [] ≡ true
  pub one_wrong : is_acl (row joe (codes "r") ∷ joe ∷ []) ≡ false

-- what a list gives to joe
abbrev pub to_joe : List (List ℕ) → List ℕ
to_joe acl = letters_of (rights_in realm joe acl)

pub record RightsExamples : Type 0 where
  pub own : to_joe (row joe (codes "wxr") ∷ []) ≡ codes "xrw"
  pub shared : to_joe (row (codes "anyone") (codes "xr") ∷ []) ≡ codes "xr"
  pub joined : to_joe (row (codes "anyone") (codes "xr") ∷ row joe (codes "w") ∷ row joe (codes "ra") ∷ [])
      ≡ codes "xrwa"
  pub taken_first : to_joe (row (codes "-joe") (codes "w") ∷ row joe (codes "rw") ∷ []) ≡ codes "r"
  pub taken_last : to_joe (row joe (codes "rw") ∷ row (codes "-joe") (codes "w") ∷ []) ≡ codes "r"
  pub taken_between : to_joe (row joe (codes "rw") ∷ row (codes "-joe") (codes "w") ∷ row joe (codes "rw")
      ∷ []) ≡ codes "r"
  pub taken_from_all : to_joe (row joe (codes "xrwia") ∷ row (codes "-anyone") (codes "ia") ∷ [])
      ≡ codes "xrw"
  pub taken_from_another : to_joe (row (codes "anyone") (codes "xr") ∷ row (codes "-ann") (codes "xr") ∷ [])
      ≡ codes "xr"
  pub of_another : to_joe (row (codes "ann") (codes "xrwia") ∷ row (codes "joe smith") (codes "w")
      ∷ row (codes "jo") (codes "w") ∷ []) ≡ []
  pub wrong_strings : to_joe (codes "joe" ∷ row joe (codes "rz") ∷ row (row joe (codes "r")) (codes "w")
      ∷ row [] (codes "r") ∷ []) ≡ []
  pub wrong_negative : to_joe (row joe (codes "r") ∷ row (codes "-joe") (codes "rz") ∷ []) ≡ codes "r"
  pub nothing : to_joe [] ≡ []
  pub signed_user : letters_of (rights_in realm (codes "-joe") (row (codes "-joe") (codes "r") ∷ [])) ≡ []
  pub of_administrator : letters_of (implicit_rights realm (codes "root") (codes "/option/user/joe/"))
      ≡ codes "xrwia"
  pub of_owner : letters_of (implicit_rights realm joe (codes "/option/user/joe/")) ≡ codes "ra"
  pub of_nobody : letters_of (implicit_rights realm joe (codes "/option/site/")) ≡ []
  pub of_anyone : letters_of (implicit_rights realm (codes "anyone") (codes "/option/user/joe/")) ≡ []
  pub of_negative : letters_of (implicit_rights realm (codes "-joe") (codes "/option/user/joe/")) ≡ []
  pub listed_owner : rights_list (implicit_rights realm joe (codes "/option/user/joe/"))
      ≡ codes "ra" ∷ codes "x" ∷ codes "w" ∷ codes "i" ∷ []
  pub listed_other : rights_list (implicit_rights realm (codes "b") (codes "/option/user/joe/"))
      ≡ [] ∷ codes "x" ∷ codes "r" ∷ codes "w" ∷ codes "i" ∷ codes "a" ∷ []
  pub listed_administrator : rights_list (implicit_rights realm (codes "root") (codes "/option/"))
      ≡ codes "xrwia" ∷ []

-- groups: joe is in `staff` and, by the second of that name, twice, and in `ops`; ann is in `ops` alone
abbrev pub group_realm : Realm
group_realm = record {
  administrators = codes "root" ∷ [];
  groups = record { name = codes "staff"; members = joe ∷ [] }
      ∷ record { name = codes "ops"; members = codes "ann" ∷ joe ∷ [] }
      ∷ record { name = codes "staff"; members = joe ∷ codes "bob" ∷ [] }
      ∷ record { name = codes "nobody"; members = [] } ∷ [];
}

abbrev pub implicit_letters : List ℕ → List ℕ → List ℕ
implicit_letters identifier dataset = letters_of (implicit_rights group_realm identifier dataset)

abbrev pub to : List ℕ → List (List ℕ) → List ℕ
to user acl = letters_of (rights_in group_realm user acl)

-- what lists give to who is in groups
pub record GroupExamples : Type 0 where
  pub member : to joe (row (codes "group:ops") (codes "rw") ∷ []) ≡ codes "rw"
  pub second_of_a_name : to (codes "bob") (row (codes "group:staff") (codes "rw") ∷ []) ≡ codes "rw"
  pub no_member : to (codes "bob")
      (row (codes "group:ops") (codes "rw") ∷ row (codes "-group:ops") (codes "r") ∷ []) ≡ []
  pub no_group : to joe (row (codes "group:none") (codes "rw") ∷ []) ≡ []
  pub empty_group : to joe (row (codes "group:nobody") (codes "rw") ∷ []) ≡ []
  pub joined : to joe (row (codes "group:staff") (codes "r") ∷ row (codes "group:ops") (codes "w")
      ∷ row (codes "anyone") (codes "x") ∷ []) ≡ codes "xrw"
  pub taken_by_another : to joe
      (row (codes "group:staff") (codes "rw") ∷ row (codes "-group:ops") (codes "w") ∷ []) ≡ codes "r"
  pub taken_first : to joe (row (codes "-group:ops") (codes "w") ∷ row (codes "group:staff") (codes "rw")
      ∷ []) ≡ codes "r"
  pub taken_from_own : to joe (row joe (codes "rw") ∷ row (codes "-group:staff") (codes "w") ∷ []) ≡ codes "r"
  pub taken_from_one : to joe (row (codes "group:staff") (codes "rw") ∷ row (codes "-joe") (codes "w") ∷ [])
      ≡ codes "r"
  pub group_alone : to joe (row (codes "staff") (codes "rw") ∷ row (codes "group:") (codes "rw")
      ∷ row (codes "Group:staff") (codes "rw") ∷ []) ≡ []
  pub twice_grouped : to joe (row (codes "group:group:staff") (codes "rw") ∷ []) ≡ []
  pub of_administrators : implicit_letters (codes "group:root") (codes "/option/site/") ≡ []
  pub of_owners : implicit_letters (codes "group:joe") (codes "/option/user/joe/") ≡ []
  pub of_homes : is_owner (codes "group:x") (codes "/option/user/group:x/") ≡ false
  pub default_of_homes : default_list (codes "/option/user/group:x/") ≡ []
  pub listed : rights_list (implicit_rights group_realm (codes "group:staff") (codes "/option/user/joe/"))
      ≡ [] ∷ codes "x" ∷ codes "r" ∷ codes "w" ∷ codes "i" ∷ codes "a" ∷ []

-- whose datasets are whose, and the default lists
pub record HomeExamples : Type 0 where
  pub itself : home_of (codes "/option/user/joe/") ≡ Some joe
  pub beneath : home_of (codes "/option/user/joe/a/b/") ≡ Some joe
  pub open_ended : home_of (codes "/option/user/joe") ≡ Some joe
  pub users : home_of (codes "/option/user/") ≡ None
  pub site : home_of (codes "/option/site/joe/") ≡ None
  pub first : home_of (codes "/user/joe/") ≡ None
  pub third : home_of (codes "/a/b/user/joe/") ≡ None
  pub root : home_of (codes "/") ≡ None
  pub relative : home_of (codes "option/user/joe/") ≡ None
  pub owner : map (is_owner joe)
      (codes "/option/user/joe/" ∷ codes "/option/user/joe/a/" ∷ codes "/option/user/joey/"
      ∷ codes "/option/user/ann/" ∷ codes "/option/user/" ∷ codes "/option/site/" ∷ [])
      ≡ true ∷ true ∷ false ∷ false ∷ false ∷ false ∷ []
  pub no_user : is_owner (codes "anyone") (codes "/option/user/anyone/") ≡ false
  pub no_name : is_owner (codes "joe smith") (codes "/option/user/joe smith/") ≡ false
  pub home : default_list (codes "/option/user/joe/") ≡ row joe (codes "xrwia") ∷ []
  pub home_beneath : default_list (codes "/option/user/joe/a/") ≡ row joe (codes "xrwia") ∷ []
  pub nobodys : default_list (codes "/option/user/joe smith/") ≡ []
  pub anyones : default_list (codes "/option/user/anyone/") ≡ []
  pub all_users : default_list (codes "/option/user/") ≡ row (codes "anyone") (codes "xr") ∷ []
  pub elsewhere : default_list (codes "/option/site/") ≡ row (codes "anyone") (codes "xr") ∷ []

-- what SETACL and DELETEACL make of lists
pub record EditExamples : Type 0 where
  pub appended : with_pair (codes "b") (codes "r") (row joe (codes "xrwia") ∷ [])
      ≡ row joe (codes "xrwia") ∷ row (codes "b") (codes "r") ∷ []
  pub replaced : with_pair joe (codes "rr")
      (row (codes "b") [] ∷ row joe (codes "x") ∷ row (codes "-joe") (codes "w") ∷ row joe (codes "w")
      ∷ row (codes "c") [] ∷ [])
      ≡ row (codes "b") [] ∷ row joe (codes "rr") ∷ row (codes "-joe") (codes "w") ∷ row (codes "c") [] ∷ []
  pub to_nothing : with_pair joe [] [] ≡ row joe [] ∷ []
  pub dropped : without joe (row joe (codes "x") ∷ row (codes "-joe") (codes "w") ∷ row joe (codes "w") ∷ [])
      ≡ row (codes "-joe") (codes "w") ∷ []
  pub kept : without joe (joe ∷ row (codes "joey") (codes "w") ∷ [])
      ≡ joe ∷ row (codes "joey") (codes "w") ∷ []
  pub no_list : target_of_list (codes "/a/") (codes "dataset.inherit") ≡ None
