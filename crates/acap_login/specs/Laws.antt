-- What holds of the definitions, and examples that are computed from them.
use Rattle.std.specs.Prelude.{◌≡◌, ◌↔◌, ◌<◌, ◌^◌, ℕ, false, List, [], ◌∷◌, length, codes, replicate, Some}
use Rattle.std.specs.Prelude.{None}
use Rattle.std.specs.List.{list_any, range_with_len}
use Rattle.acap_login.specs.Login.{User, IsCut, Fits, challenge_of, digest_of, answer_of, answering_user}
use Rattle.acap_login.specs.Login.{is_space}

-- a text is cut at its last SP in one way at most; an
-- answer fits a user exactly if it is what the user answers
pub record CutLaw : Type 0 where
  pub one_front : (text front behind front' behind' : List ℕ) → IsCut text front behind
      → IsCut text front' behind' → front ≡ front'
  pub one_back : (text front behind front' behind' : List ℕ) → IsCut text front behind
      → IsCut text front' behind' → behind ≡ behind'
  pub printed : (challenge answer : List ℕ) (user : User) → Fits challenge answer user
      ↔ (answer ≡ answer_of challenge user)

-- a digest has 32 digits, and no SP
pub record DigestLaw : Type 0 where
  pub count : (secret challenge : List ℕ) → length (digest_of secret challenge) ≡ 32
  pub no_space : (secret challenge : List ℕ) → list_any is_space (digest_of secret challenge) ≡ false

-- a challenge has one nonce, one number of seconds and one host: none is used for another
pub record ChallengeLaw : Type 0 where
  pub one_nonce : (n s : ℕ) (h : List ℕ) (n' s' : ℕ) (h' : List ℕ) → n < 2 ^ 64 → n' < 2 ^ 64 → s < 2 ^ 64
      → s' < 2 ^ 64 → challenge_of n s h ≡ challenge_of n' s' h' → n ≡ n'
  pub one_time : (n s : ℕ) (h : List ℕ) (n' s' : ℕ) (h' : List ℕ) → n < 2 ^ 64 → n' < 2 ^ 64 → s < 2 ^ 64
      → s' < 2 ^ 64 → challenge_of n s h ≡ challenge_of n' s' h' → s ≡ s'
  pub one_host : (n s : ℕ) (h : List ℕ) (n' s' : ℕ) (h' : List ℕ) → n < 2 ^ 64 → n' < 2 ^ 64 → s < 2 ^ 64
      → s' < 2 ^ 64 → challenge_of n s h ≡ challenge_of n' s' h' → h ≡ h'

-- the challenge of RFC 2195 section 2, its user's secret, and the digest there
abbrev pub rfc_challenge : List ℕ
rfc_challenge = codes "<1896.697170952@postoffice.reston.mci.net>"

abbrev pub secret : List ℕ
secret = codes "tanstaaftanstaaf"

pub record ExchangeExample : Type 0 where
  pub challenge : challenge_of 1896 697170952 (codes "postoffice.reston.mci.net") ≡ rfc_challenge
  pub digest : digest_of secret rfc_challenge ≡ codes "b913a602c7eda7a495b4e6e7334d3890"
  pub zeros : challenge_of 0 0 [] ≡ codes "<0.0@>"

-- the test cases of RFC 2202 section 2, the last two with a key that is longer than a block
pub record HashExamples : Type 0 where
  pub case_1 : digest_of (replicate 16 0x0b) (codes "Hi There") ≡ codes "9294727a3638bb1c13f48ef8158bfc9d"
  pub case_2 : digest_of (codes "Jefe") (codes "what do ya want for nothing?")
      ≡ codes "750c783e6ab0b503eaa86e310a5db738"
  pub case_3 : digest_of (replicate 16 0xaa) (replicate 50 0xdd) ≡ codes "56be34521d144c88dbb8c733f0e8b3f6"
  pub case_4 : digest_of (range_with_len 1 25) (replicate 50 0xcd) ≡ codes "697eaf0aca3a3aea3a75164746ffaa79"
  pub case_5 : digest_of (replicate 16 0x0c) (codes "Test With Truncation")
      ≡ codes "56461ef2342edc00f9bab995690efd4c"
  pub case_6 : digest_of (replicate 80 0xaa) (codes "Test Using Larger Than Block-Size Key - Hash Key First")
      ≡ codes "6b1ab7fe4bd7bf8f0b62e6ce61b9d0cd"
  pub case_7 : digest_of (replicate 80 0xaa)
      (codes "Test Using Larger Than Block-Size Key and Larger Than One Block-Size Data")
      ≡ codes "6f630fad67cda0ee1fb1f562db3aa53e"

-- secrets of no octets, of a block, of an octet more, and of 1,000 octets
pub record SecretExamples : Type 0 where
  pub empty : digest_of [] rfc_challenge ≡ codes "a00b54b824afa19ec2de0f73cb2a04c2"
  pub block : digest_of (replicate 64 97) rfc_challenge ≡ codes "baa4d037a60cc4166d351cea7523c406"
  pub longer : digest_of (replicate 65 97) rfc_challenge ≡ codes "82587b3d56a5458d7442afdfb7181a77"
  pub long : digest_of (replicate 1000 97) rfc_challenge ≡ codes "0a850ec34194d1b87078dc287e344eca"

-- users: one with that secret, one of the same name with another, one with SP in the name, one without a name
abbrev pub tim : User
tim = (codes "tim", secret)

abbrev pub other_tim : User
other_tim = (codes "tim", codes "other")

abbrev pub user_with_space : User
user_with_space = (codes "tim b", secret)

abbrev pub nameless : User
nameless = ([], secret)

-- answers that are accepted: for the first user whose name and secret they have
pub record AcceptedExamples : Type 0 where
  pub alone : answering_user (tim ∷ []) rfc_challenge (codes "tim b913a602c7eda7a495b4e6e7334d3890") ≡ Some 0
  pub other_secret : answering_user (other_tim ∷ tim ∷ []) rfc_challenge
      (codes "tim 128c3ed34fb58bde905f34df2e9968fe") ≡ Some 0
  pub first_that_fits : answering_user (other_tim ∷ tim ∷ tim ∷ []) rfc_challenge
      (codes "tim b913a602c7eda7a495b4e6e7334d3890") ≡ Some 1
  pub space_in_name : answering_user (tim ∷ user_with_space ∷ []) rfc_challenge
      (codes "tim b b913a602c7eda7a495b4e6e7334d3890") ≡ Some 1
  pub empty_name : answering_user (tim ∷ nameless ∷ []) rfc_challenge
      (codes " b913a602c7eda7a495b4e6e7334d3890") ≡ Some 1

-- answers that are accepted for nobody
pub record RefusedExamples : Type 0 where
  pub no_users : answering_user [] rfc_challenge (codes "tim b913a602c7eda7a495b4e6e7334d3890") ≡ None
  pub other_secret : answering_user (tim ∷ []) rfc_challenge (codes "tim 128c3ed34fb58bde905f34df2e9968fe")
      ≡ None
  pub other_challenge : answering_user (tim ∷ []) rfc_challenge (codes "tim c7a6dbd29b830a499f2e9faf2ee4ce81")
      ≡ None
  pub upper_case : answering_user (tim ∷ []) rfc_challenge (codes "tim B913A602C7EDA7A495B4E6E7334D3890")
      ≡ None
  pub digits_31 : answering_user (tim ∷ []) rfc_challenge (codes "tim b913a602c7eda7a495b4e6e7334d389") ≡ None
  pub digits_33 : answering_user (tim ∷ []) rfc_challenge (codes "tim b913a602c7eda7a495b4e6e7334d38900")
      ≡ None
  pub two_spaces : answering_user (tim ∷ []) rfc_challenge (codes "tim  b913a602c7eda7a495b4e6e7334d3890")
      ≡ None
  pub no_space : answering_user (tim ∷ nameless ∷ []) rfc_challenge
      (codes "timb913a602c7eda7a495b4e6e7334d3890") ≡ None
  pub digits_alone : answering_user (tim ∷ nameless ∷ []) rfc_challenge
      (codes "b913a602c7eda7a495b4e6e7334d3890") ≡ None
  pub shorter_name : answering_user (tim ∷ []) rfc_challenge (codes "ti b913a602c7eda7a495b4e6e7334d3890")
      ≡ None
  pub longer_name : answering_user (tim ∷ []) rfc_challenge (codes "tim b b913a602c7eda7a495b4e6e7334d3890")
      ≡ None
  pub other_case : answering_user (tim ∷ []) rfc_challenge (codes "Tim b913a602c7eda7a495b4e6e7334d3890")
      ≡ None
  pub nothing : answering_user (tim ∷ nameless ∷ []) rfc_challenge [] ≡ None
