use Rattle.alpha_isa.proofs.Zeros.{behave_same}
use Rattle.call_images.proofs.migrate.write_migrated.Goals as goal

pub returns-clause-answer : goal.returns-clause-answer
returns-clause-answer g c =
    let cut = c.cut_zeros-image.ensures.cut in
    (c.cut_zeros-image.result, record { cut = cut; same = λ stack input m. behave_same c.args.image c.cut_zeros-image.result stack input m cut.holds }, c.write_image.ensures.answer)
