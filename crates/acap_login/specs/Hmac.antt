-- HMAC with MD5 [RFC 2104 section 2; MD5 is that of RFC 1321].
use Rattle.std.specs.Prelude.{ℕ, ◌-◌, nat_lt, List, ◌++◌, length, map, replicate, bit_xor, if◌then◌else◌}
use Rattle.md5.specs.Md5.{md5}

-- a key longer than a block of 64 octets is hashed first
abbrev pub short_key : List ℕ → List ℕ
short_key key = if nat_lt 64 (length key) then md5 key else key

-- and it is filled with zeros to a block
abbrev pub padded_key : List ℕ → List ℕ
padded_key key = key ++ replicate (64 - length key) 0

-- the block of a key, each of its octets xor that octet
unfoldable pub key_block : ℕ → List ℕ → List ℕ
key_block octet key = map (λ x. bit_xor x octet) (padded_key (short_key key))

-- the hash of a message under a key: the outer pad is 0x5C, the inner one 0x36
unfoldable pub hmac : List ℕ → List ℕ → List ℕ
hmac key message = md5 (key_block 0x5C key ++ md5 (key_block 0x36 key ++ message))
