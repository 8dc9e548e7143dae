-- The remainder is taken where the quotient fits.
use Rattle.std.proofs.Common.{sym, subst}
use Rattle.std.specs.Int.{w64, IsNonZero}
use Rattle.std.proofs.lemmas.Int.{to_z-of_z}
use Rattle.bk_arithmetic.proofs.Fits.{remainder_word, remainder_overflow}
use Rattle.bk_arithmetic.proofs.integer_type.IntegerType.signed_remainder.Goals as goal

pub returns-then-fits : goal.returns-then-fits
returns-then-fits c =
    remainder_word c.args.self c.args.a c.args.b _ _ c.in-Some.number c.wrapping_rem.result c.fits.result c.cast_unsigned.result c.extend.result c.ranges.a
    (to_z-of_z w64 c.args.a c.ranges.a) (to_z-of_z w64 c.args.b c.ranges.b) c.in-Some.ensures.0.1 c.in-Some.ensures.1
    c.fits.ensures c.if-fits.true c.wrapping_rem.ensures c.cast_unsigned.ensures c.extend.ensures

pub returns-in-None : goal.returns-in-None
returns-in-None c =
    let eb = to_z-of_z w64 c.args.b c.ranges.b in
    remainder_overflow c.args.self c.args.a c.args.b _ _ c.requires.signed (to_z-of_z w64 c.args.a c.ranges.a) eb c.in-None.ensures (subst (IsNonZero w64) (sym eb) c.requires.divisor)
