use Rattle.java_tokens.proofs.Common.{◌+◌, ◌-◌, ◌%◌, refl, arith, splat_is_map, zip2_of_maps, zip2_splat, is_no_ascii_word}
use Rattle.java_tokens.proofs.WideLemmas.{at_most, differ, masked}
use lib.Bits.{bit_or, bit_and}
use Rattle.java_tokens.proofs.wide.others.Goals as goal

-- at each of the 256 bytes the comparisons tell what the test does
pub returns : goal.returns
returns c =
    let v = c.args.bytes in
    let long = c.fits-bytes.0 in
    let from_a = zip2_of_maps (λ a b. (a + (256 - b)) % 256) _ _ v (zip2_splat bit_or v 16 32 long) (splat_is_map v 16 97 long) in
    let letter = zip2_of_maps at_most _ _ v (splat_is_map v 16 26 long) from_a in
    let digit = zip2_of_maps at_most _ _ v (splat_is_map v 16 10 long) (zip2_splat (λ a b. (a + (256 - b)) % 256) v 16 48 long) in
    let neither = zip2_of_maps bit_and _ _ v letter digit in
    let nor_underscore = zip2_of_maps bit_and _ _ v neither (zip2_splat differ v 16 95 long) in
    masked _ is_no_ascii_word v _ (omega arith) c.fits-bytes.1 (zip2_of_maps bit_and _ _ v nor_underscore (zip2_splat differ v 16 36 long)) refl
