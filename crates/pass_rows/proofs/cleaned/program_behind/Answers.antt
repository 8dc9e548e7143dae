use Rattle.std.proofs.Common.{All, sym, subst}
use Rattle.suifvm_ir.specs.Programs.{VmFunction, function_size}
use Rattle.flow_clean.specs.Chains.{GoesBackToMarks}
use Rattle.pass_rows.proofs.Small.{each_is_small, each_has_marks}
use Rattle.pass_rows.proofs.cleaned.program_behind.Goals as goal

pub functions_behind-requires-clause-marks : goal.functions_behind-requires-clause-marks
functions_behind-requires-clause-marks c =
    subst (All (λ (f : VmFunction). GoesBackToMarks f.blocks)) (sym c.as_slice.ensures) (each_has_marks c.args.program.now)
