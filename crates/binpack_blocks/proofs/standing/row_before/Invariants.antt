use Rattle.std.proofs.Common.{◌≡◌, ◌<◌, ℕ, List, ◌∷◌, length}
use Rattle.bk_bits.specs.Sets.{has}
use Rattle.temp_ir.specs.declared.insn.TempInsn.{TempInsn}
use Rattle.alloc_rules.specs.Visits.{holds_fixed_value}
use Rattle.binpack_blocks.specs.model.Standing.{IsStanding}
use Rattle.binpack_blocks.proofs.standing.row_before.Given as goal

abbrev pub invariant-loop-r : goal.invariant-loop-r
invariant-loop-r l = record {
  size : length l.row ≡ l.r;
  each : (rest : List TempInsn) → IsStanding rest l.behind → (q : ℕ) → q < l.r → has l.row q ≡ holds_fixed_value q (l.insn ∷ rest);
}
