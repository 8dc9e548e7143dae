use Rattle.std.proofs.Common.{subst}
use Rattle.alpha_asm.specs.Fault.{IsAsmFault}
use Rattle.compiler.proofs.Stages.{never_too_long}
use Rattle.compiler.proofs.compile.image_of.Goals as goal

pub unreachable-requires : goal.unreachable-requires
unreachable-requires c =
    never_too_long c.light_texts_fit_images.ensures.faults c.args.asm.now c.in-Err-CodeTooLong.field-0-0 c.requires
    (subst (IsAsmFault c.args.asm.now) c.in-Err-CodeTooLong.field-0-is c.in-Err-CodeTooLong.ensures.fault)
