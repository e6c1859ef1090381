-- The examples of answers, computed.
use Rattle.std.specs.Prelude.{◌≡◌, [], ◌∷◌, codes, Some, None, refl}
use Rattle.md5.specs.Md5.{block_words, rounds, compress, hash_after, digest_bytes, md5}
use Rattle.hex.specs.Hex.{encode_with}
use Rattle.acap_login.specs.Hmac.{key_block, hmac}
use Rattle.acap_login.specs.Login.{digest_of, answering_user}
use Rattle.acap_login.specs.Laws.{rfc_challenge, tim, other_tim, user_with_space, nameless, AcceptedExamples, RefusedExamples}

accepted_alone : answering_user (tim ∷ []) rfc_challenge (codes "tim b913a602c7eda7a495b4e6e7334d3890") ≡ Some 0
unfolding answering_user digest_of hmac key_block encode_with block_words rounds compress hash_after digest_bytes md5
accepted_alone = refl

accepted_other_secret : answering_user (other_tim ∷ tim ∷ []) rfc_challenge (codes "tim 128c3ed34fb58bde905f34df2e9968fe") ≡ Some 0
unfolding answering_user digest_of hmac key_block encode_with block_words rounds compress hash_after digest_bytes md5
accepted_other_secret = refl

accepted_first_that_fits : answering_user (other_tim ∷ tim ∷ tim ∷ []) rfc_challenge (codes "tim b913a602c7eda7a495b4e6e7334d3890") ≡ Some 1
unfolding answering_user digest_of hmac key_block encode_with block_words rounds compress hash_after digest_bytes md5
accepted_first_that_fits = refl

accepted_space_in_name : answering_user (tim ∷ user_with_space ∷ []) rfc_challenge (codes "tim b b913a602c7eda7a495b4e6e7334d3890") ≡ Some 1
unfolding answering_user digest_of hmac key_block encode_with block_words rounds compress hash_after digest_bytes md5
accepted_space_in_name = refl

accepted_empty_name : answering_user (tim ∷ nameless ∷ []) rfc_challenge (codes " b913a602c7eda7a495b4e6e7334d3890") ≡ Some 1
unfolding answering_user digest_of hmac key_block encode_with block_words rounds compress hash_after digest_bytes md5
accepted_empty_name = refl

pub accepted_examples : AcceptedExamples
accepted_examples = record { alone = accepted_alone; other_secret = accepted_other_secret; first_that_fits = accepted_first_that_fits; space_in_name = accepted_space_in_name; empty_name = accepted_empty_name }

refused_no_users : answering_user [] rfc_challenge (codes "tim b913a602c7eda7a495b4e6e7334d3890") ≡ None
unfolding answering_user digest_of hmac key_block encode_with block_words rounds compress hash_after digest_bytes md5
refused_no_users = refl

refused_other_secret : answering_user (tim ∷ []) rfc_challenge (codes "tim 128c3ed34fb58bde905f34df2e9968fe") ≡ None
unfolding answering_user digest_of hmac key_block encode_with block_words rounds compress hash_after digest_bytes md5
refused_other_secret = refl

refused_other_challenge : answering_user (tim ∷ []) rfc_challenge (codes "tim c7a6dbd29b830a499f2e9faf2ee4ce81") ≡ None
unfolding answering_user digest_of hmac key_block encode_with block_words rounds compress hash_after digest_bytes md5
refused_other_challenge = refl

refused_upper_case : answering_user (tim ∷ []) rfc_challenge (codes "tim B913A602C7EDA7A495B4E6E7334D3890") ≡ None
unfolding answering_user digest_of hmac key_block encode_with block_words rounds compress hash_after digest_bytes md5
refused_upper_case = refl

refused_digits_31 : answering_user (tim ∷ []) rfc_challenge (codes "tim b913a602c7eda7a495b4e6e7334d389") ≡ None
unfolding answering_user digest_of hmac key_block encode_with block_words rounds compress hash_after digest_bytes md5
refused_digits_31 = refl

refused_digits_33 : answering_user (tim ∷ []) rfc_challenge (codes "tim b913a602c7eda7a495b4e6e7334d38900") ≡ None
unfolding answering_user digest_of hmac key_block encode_with block_words rounds compress hash_after digest_bytes md5
refused_digits_33 = refl

refused_two_spaces : answering_user (tim ∷ []) rfc_challenge (codes "tim  b913a602c7eda7a495b4e6e7334d3890") ≡ None
unfolding answering_user digest_of hmac key_block encode_with block_words rounds compress hash_after digest_bytes md5
refused_two_spaces = refl

refused_no_space : answering_user (tim ∷ nameless ∷ []) rfc_challenge (codes "timb913a602c7eda7a495b4e6e7334d3890") ≡ None
unfolding answering_user digest_of hmac key_block encode_with block_words rounds compress hash_after digest_bytes md5
refused_no_space = refl

refused_digits_alone : answering_user (tim ∷ nameless ∷ []) rfc_challenge (codes "b913a602c7eda7a495b4e6e7334d3890") ≡ None
unfolding answering_user digest_of hmac key_block encode_with block_words rounds compress hash_after digest_bytes md5
refused_digits_alone = refl

refused_shorter_name : answering_user (tim ∷ []) rfc_challenge (codes "ti b913a602c7eda7a495b4e6e7334d3890") ≡ None
unfolding answering_user digest_of hmac key_block encode_with block_words rounds compress hash_after digest_bytes md5
refused_shorter_name = refl

refused_longer_name : answering_user (tim ∷ []) rfc_challenge (codes "tim b b913a602c7eda7a495b4e6e7334d3890") ≡ None
unfolding answering_user digest_of hmac key_block encode_with block_words rounds compress hash_after digest_bytes md5
refused_longer_name = refl

refused_other_case : answering_user (tim ∷ []) rfc_challenge (codes "Tim b913a602c7eda7a495b4e6e7334d3890") ≡ None
unfolding answering_user digest_of hmac key_block encode_with block_words rounds compress hash_after digest_bytes md5
refused_other_case = refl

refused_nothing : answering_user (tim ∷ nameless ∷ []) rfc_challenge [] ≡ None
unfolding answering_user digest_of hmac key_block encode_with block_words rounds compress hash_after digest_bytes md5
refused_nothing = refl

pub refused_examples : RefusedExamples
refused_examples = record { no_users = refused_no_users; other_secret = refused_other_secret; other_challenge = refused_other_challenge; upper_case = refused_upper_case; digits_31 = refused_digits_31; digits_33 = refused_digits_33; two_spaces = refused_two_spaces; no_space = refused_no_space; digits_alone = refused_digits_alone; shorter_name = refused_shorter_name; longer_name = refused_longer_name; other_case = refused_other_case; nothing = refused_nothing }
