-- Code whose registers are below a number, and whose instructions pass a test.
use Rattle.std.specs.Prelude.{◌≤◌, ◌<◌, ℕ, Bool, IsTrue, List, [], ◌∷◌}
use Rattle.suifvm_ir.specs.declared.insn.VmInsn.{VmInsn}
use Rattle.suifvm_ir.specs.Insns.{returned_register}
use Rattle.suifvm_ir.specs.Programs.{arguments_of}
use Rattle.lowering_code.specs.declared.item.CodeItem.{CodeItem}
use Rattle.lowering_code.specs.declared.item.CodeItem.TheVariants.{Start, Plain, Jump, Branch, Loop, Enter, Again, Repeat, Return}
use Rattle.lowering_layout.specs.Tops.{registers_top, insn_top}

abbrev pub Fits : (most : ℕ) → (VmInsn → Bool) → List CodeItem → Type 0
Fits most passes [] = Unit {0}
Fits most passes (Start ∷ is) = Fits most passes is
Fits most passes (Plain insn ∷ is) = (insn_top insn ≤ most) × IsTrue (passes insn) × Fits most passes is
Fits most passes (Jump name ∷ is) = Fits most passes is
Fits most passes (Branch op ty source name ∷ is) = (source < most) × Fits most passes is
Fits most passes (Loop name ∷ is) = Fits most passes is
Fits most passes (Enter ∷ is) = Fits most passes is
Fits most passes (Again ty source ∷ is) = (source < most) × Fits most passes is
Fits most passes (Repeat ∷ is) = Fits most passes is
Fits most passes (Return value ∷ is) = (registers_top (returned_register value) ≤ most) × Fits most passes is

-- code whose calls give so many arguments at most
abbrev pub IsNarrow : (most : ℕ) → List CodeItem → Type 0
IsNarrow most [] = Unit {0}
IsNarrow most (Start ∷ is) = IsNarrow most is
IsNarrow most (Plain insn ∷ is) = (arguments_of insn ≤ most) × IsNarrow most is
IsNarrow most (Jump name ∷ is) = IsNarrow most is
IsNarrow most (Branch op ty source name ∷ is) = IsNarrow most is
IsNarrow most (Loop name ∷ is) = IsNarrow most is
IsNarrow most (Enter ∷ is) = IsNarrow most is
IsNarrow most (Again ty source ∷ is) = IsNarrow most is
IsNarrow most (Repeat ∷ is) = IsNarrow most is
IsNarrow most (Return value ∷ is) = IsNarrow most is
