-- How much of anything a command may have.
use Rattle.std.specs.Prelude.{ℕ}

-- how many levels the key of a SEARCH may have
abbrev pub key_levels : ℕ
key_levels = 32

-- how many items RETURN may have
abbrev pub return_items : ℕ
return_items = 256

-- how many metadata an item of RETURN may name
abbrev pub metadata_items : ℕ
metadata_items = 32

-- how many items SORT may have
abbrev pub sort_items : ℕ
sort_items = 16

-- how many entries a STORE may have
abbrev pub store_entries : ℕ
store_entries = 256

-- how many attributes an entry of a STORE may have
abbrev pub store_items : ℕ
store_items = 256

-- how many contexts UPDATECONTEXT may name
abbrev pub context_names : ℕ
context_names = 200
