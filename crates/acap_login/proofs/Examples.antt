-- The examples of challenges and digests, computed.
use Rattle.std.specs.Prelude.{◌≡◌, [], codes, replicate, refl}
use Rattle.std.specs.List.{range_with_len}
use Rattle.std.specs.Fmt.{digits}
use Rattle.md5.specs.Md5.{block_words, rounds, compress, hash_after, digest_bytes, md5}
use Rattle.hex.specs.Hex.{encode_with}
use Rattle.acap_login.specs.Hmac.{key_block, hmac}
use Rattle.acap_login.specs.Login.{challenge_of, digest_of}
use Rattle.acap_login.specs.Laws.{rfc_challenge, secret, ExchangeExample, HashExamples, SecretExamples}

exchange_challenge : challenge_of 1896 697170952 (codes "postoffice.reston.mci.net") ≡ rfc_challenge
unfolding challenge_of digits digest_of hmac key_block encode_with block_words rounds compress hash_after digest_bytes md5
exchange_challenge = refl

exchange_digest : digest_of secret rfc_challenge ≡ codes "b913a602c7eda7a495b4e6e7334d3890"
unfolding challenge_of digits digest_of hmac key_block encode_with block_words rounds compress hash_after digest_bytes md5
exchange_digest = refl

exchange_zeros : challenge_of 0 0 [] ≡ codes "<0.0@>"
unfolding challenge_of digits digest_of hmac key_block encode_with block_words rounds compress hash_after digest_bytes md5
exchange_zeros = refl

pub exchange_example : ExchangeExample
exchange_example = record { challenge = exchange_challenge; digest = exchange_digest; zeros = exchange_zeros }

hash_case_1 : digest_of (replicate 16 0x0b) (codes "Hi There") ≡ codes "9294727a3638bb1c13f48ef8158bfc9d"
unfolding challenge_of digits digest_of hmac key_block encode_with block_words rounds compress hash_after digest_bytes md5
hash_case_1 = refl

hash_case_2 : digest_of (codes "Jefe") (codes "what do ya want for nothing?") ≡ codes "750c783e6ab0b503eaa86e310a5db738"
unfolding challenge_of digits digest_of hmac key_block encode_with block_words rounds compress hash_after digest_bytes md5
hash_case_2 = refl

hash_case_3 : digest_of (replicate 16 0xaa) (replicate 50 0xdd) ≡ codes "56be34521d144c88dbb8c733f0e8b3f6"
unfolding challenge_of digits digest_of hmac key_block encode_with block_words rounds compress hash_after digest_bytes md5
hash_case_3 = refl

hash_case_4 : digest_of (range_with_len 1 25) (replicate 50 0xcd) ≡ codes "697eaf0aca3a3aea3a75164746ffaa79"
unfolding challenge_of digits digest_of hmac key_block encode_with block_words rounds compress hash_after digest_bytes md5
hash_case_4 = refl

hash_case_5 : digest_of (replicate 16 0x0c) (codes "Test With Truncation") ≡ codes "56461ef2342edc00f9bab995690efd4c"
unfolding challenge_of digits digest_of hmac key_block encode_with block_words rounds compress hash_after digest_bytes md5
hash_case_5 = refl

hash_case_6 : digest_of (replicate 80 0xaa) (codes "Test Using Larger Than Block-Size Key - Hash Key First") ≡ codes "6b1ab7fe4bd7bf8f0b62e6ce61b9d0cd"
unfolding challenge_of digits digest_of hmac key_block encode_with block_words rounds compress hash_after digest_bytes md5
hash_case_6 = refl

hash_case_7 : digest_of (replicate 80 0xaa) (codes "Test Using Larger Than Block-Size Key and Larger Than One Block-Size Data") ≡ codes "6f630fad67cda0ee1fb1f562db3aa53e"
unfolding challenge_of digits digest_of hmac key_block encode_with block_words rounds compress hash_after digest_bytes md5
hash_case_7 = refl

pub hash_examples : HashExamples
hash_examples = record { case_1 = hash_case_1; case_2 = hash_case_2; case_3 = hash_case_3; case_4 = hash_case_4; case_5 = hash_case_5; case_6 = hash_case_6; case_7 = hash_case_7 }

secret_empty : digest_of [] rfc_challenge ≡ codes "a00b54b824afa19ec2de0f73cb2a04c2"
unfolding challenge_of digits digest_of hmac key_block encode_with block_words rounds compress hash_after digest_bytes md5
secret_empty = refl

secret_block : digest_of (replicate 64 97) rfc_challenge ≡ codes "baa4d037a60cc4166d351cea7523c406"
unfolding challenge_of digits digest_of hmac key_block encode_with block_words rounds compress hash_after digest_bytes md5
secret_block = refl

secret_longer : digest_of (replicate 65 97) rfc_challenge ≡ codes "82587b3d56a5458d7442afdfb7181a77"
unfolding challenge_of digits digest_of hmac key_block encode_with block_words rounds compress hash_after digest_bytes md5
secret_longer = refl

secret_long : digest_of (replicate 1000 97) rfc_challenge ≡ codes "0a850ec34194d1b87078dc287e344eca"
unfolding challenge_of digits digest_of hmac key_block encode_with block_words rounds compress hash_after digest_bytes md5
secret_long = refl

pub secret_examples : SecretExamples
secret_examples = record { empty = secret_empty; block = secret_block; longer = secret_longer; long = secret_long }
