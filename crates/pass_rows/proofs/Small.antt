-- What holds of each function of a small program.
use Rattle.std.proofs.Common.{◌^◌, ◌≤◌, List, [], ◌∷◌, All, arith}
use Rattle.std.proofs.lemmas.List.Sums.{sum_by-cons}
use Rattle.std.proofs.lemmas.List.Elements.{All-nil, All-cons}
use Rattle.suifvm_ir.specs.declared.program.VmProgram.{VmProgram}
use Rattle.suifvm_ir.specs.Programs.{VmFunction, function_size, program_size}
use Rattle.flow_clean.specs.Chains.{GoesBackToMarks}

abbrev IsSmall : VmFunction → Type 0
IsSmall f = function_size f ≤ 2 ^ 24

pub each_is_small : (fs : List VmFunction) → program_size fs ≤ 2 ^ 24 → All (λ (f : VmFunction). function_size f ≤ 2 ^ 24) fs
each_is_small [] small = All-nil IsSmall
each_is_small (f ∷ fs) small =
    All-cons IsSmall f fs (omega (arith, small, sum_by-cons function_size f fs))
    (each_is_small fs (omega (arith, small, sum_by-cons function_size f fs)))

pub each_has_marks : (program : VmProgram) → All (λ (f : VmFunction). GoesBackToMarks f.blocks) program.functions
each_has_marks program k d within = (program.functions_lawful k d within).marks
