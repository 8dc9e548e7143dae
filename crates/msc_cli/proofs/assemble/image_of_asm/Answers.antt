use Rattle.std.proofs.Common.{subst}
use Rattle.alpha_asm.specs.Fault.{IsAsmFault}
use Rattle.msc_cli.proofs.AssembleTexts.{no_more_words}
use Rattle.msc_cli.proofs.assemble.image_of_asm.Goals as goal

pub unreachable-requires : goal.unreachable-requires
unreachable-requires c =
    no_more_words c.args.asm.now c.in-Err-CodeTooLong.field-0-0 c.requires
    (subst (IsAsmFault c.args.asm.now) c.in-Err-CodeTooLong.field-0-is c.in-Err-CodeTooLong.ensures.fault)
