-- Code whose jumps lead on, whose loops are closed, and whose registers are below a number.
use Rattle.std.specs.Prelude.{◌≡◌, ◌≤◌, ◌<◌, ℕ, zero, suc, List, [], ◌∷◌}
use Rattle.suifvm_ir.specs.Insns.{targets_of, flows_on_of, returned_register}
use Rattle.pass_core.specs.Functions.{IsStraight}
use Rattle.lowering_code.specs.declared.item.CodeItem.{CodeItem}
use Rattle.lowering_code.specs.declared.item.CodeItem.TheVariants.{Start, Plain, Jump, Branch, Loop, Enter, Again, Repeat, Return}
use Rattle.lowering_code.specs.Items.{block_total}
use Rattle.lowering_layout.specs.Tops.{registers_top, insn_top}

-- with registers below most, in so many loops that are open
abbrev pub IsGood : (most loops : ℕ) → List CodeItem → Type 0
IsGood most loops [] = loops ≡ 0
IsGood most loops (Start ∷ is) = IsGood most loops is
IsGood most loops (Plain insn ∷ is) =
    IsStraight targets_of flows_on_of insn × (insn_top insn ≤ most) × IsGood most loops is
IsGood most loops (Jump name ∷ is) = (name ≤ block_total is) × IsGood most loops is
IsGood most loops (Branch op ty source name ∷ is) = (source < most) × (name ≤ block_total is) × IsGood most loops is
IsGood most loops (Loop name ∷ is) = (name ≤ block_total is) × IsGood most (suc loops) is
IsGood most loops (Enter ∷ is) = IsGood most (suc loops) is
IsGood most zero (Again ty source ∷ is) = ⊥
IsGood most (suc loops) (Again ty source ∷ is) = (source < most) × IsGood most loops is
IsGood most zero (Repeat ∷ is) = ⊥
IsGood most (suc loops) (Repeat ∷ is) = IsGood most loops is
IsGood most loops (Return value ∷ is) = (registers_top (returned_register value) ≤ most) × IsGood most loops is
