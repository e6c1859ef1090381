-- The greatest of moments, one after the other.
use Rattle.std.proofs.Common.{◌≡◌, ℤ, Option, Some, None, arith, ap}
use Rattle.std.specs.Int.{int_max}
use Rattle.std.specs.Option.{option_map_or}
use Rattle.std.proofs.lemmas.Int.{ints, int_max_is}

-- the greater of two moments that may be none
abbrev pub either : Option ℤ → Option ℤ → Option ℤ
either None other = other
either (Some moment) other = Some (option_map_or (int_max moment) other moment)

max_swap : (a b c : ℤ) → int_max a (int_max b c) ≡ int_max b (int_max a c)
max_swap a b c =
    let h = int_max_is a (int_max b c) in let i = int_max_is b c in let j = int_max_is b (int_max a c) in let k = int_max_is a c in omega (arith, ints)

max_both : (a b : ℤ) → int_max a b ≡ int_max b a
max_both a b = let h = int_max_is a b in let i = int_max_is b a in omega (arith, ints)

max_twice : (a b : ℤ) → int_max a (int_max a b) ≡ int_max a b
max_twice a b = let h = int_max_is a (int_max a b) in let i = int_max_is a b in omega (arith, ints)

max_itself : (a : ℤ) → int_max a a ≡ a
max_itself a = let h = int_max_is a a in omega (arith, ints)

pub either_swap : (a b : ℤ) (rest : Option ℤ) → either (Some a) (either (Some b) rest) ≡ either (Some b) (either (Some a) rest)
either_swap a b None = ap Some (max_both a b)
either_swap a b (Some c) = ap Some (max_swap a b c)

pub either_twice : (a : ℤ) (rest : Option ℤ) → either (Some a) (either (Some a) rest) ≡ either (Some a) rest
either_twice a None = ap Some (max_itself a)
either_twice a (Some c) = ap Some (max_twice a c)
