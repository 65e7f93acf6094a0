-- The definitions at a seed that is written out.
use Rattle.std.proofs.Common.{◌≡◌, codes, refl}
use Rattle.std.specs.Fmt.{digits}
use Rattle.demo.specs.Draws.{draw_of}
use Rattle.demo.specs.Script.{demo_bytes}

-- the first four draws of the seed 1
first_draws : (draw_of 1 1 ≡ 16838) × (draw_of 1 2 ≡ 5758) × (draw_of 1 3 ≡ 10113) × (draw_of 1 4 ≡ 17515)
first_draws = (refl, refl, refl, refl)

-- its script of two files and one edit
small_script : demo_bytes 1 2 1
    ≡ codes "create G1.java \"class G1 extends G0 { void m1() {} }\"\ncreate G2.java \"class G2 extends G0 { void m2() {} }\"\nlane\nlane\nwrite G2.java \"class G2 extends G1 { void w1() {} }\"\nfinally\nsettle\nstatus\nsupers G0\nsupers G1\n"
unfolding digits
small_script = refl
