use Rattle.std.proofs.Common.{refl, arith}
use Rattle.std.proofs.lemmas.Simd.{zip2_splat, zip2_of_maps}
use lib.Bits.{bit_or}
use Rattle.acap_lexer.specs.Octets.{is_quotable, is_special}
use Rattle.acap_lexer.proofs.Classes.{agree_below}
use Rattle.acap_lexer.proofs.PlainWords.{hit, masked}
use Rattle.acap_lexer.proofs.strings.specials.Goals as goal

pub returns : goal.returns
unfolding agree_below is_quotable
returns c =
    let v = c.args.octets in
    let long = c.fits-octets.0 in
    masked _ is_special v _ (omega arith) c.fits-octets.1
    (zip2_of_maps bit_or _ _ v (zip2_of_maps bit_or _ _ v (zip2_of_maps bit_or _ _ v (zip2_of_maps bit_or _ _ v (zip2_splat hit v 16 0 long) (zip2_splat hit v 16 10 long)) (zip2_splat hit v 16 13 long)) (zip2_splat hit v 16 34 long)) (zip2_splat hit v 16 92 long)) refl
