-- When few transfers stand at each place, so that an allocation adds a bounded number of words to each instruction and
-- edge of its function.
use Rattle.std.specs.Prelude.{◌≡◌, ℕ, ◌≤◌, All, length, Some, if◌then◌else◌}
use Rattle.pass_core.specs.Functions.{insn_at}
use Rattle.temp_ir.specs.declared.insn.TempInsn.{TempInsn}
use Rattle.temp_ir.specs.Cost.{makes_call}
use Rattle.alloc_model.specs.Places.{Plan, transfers_at}

-- a call ends registers, so more may be moved before it
abbrev pub most_before : TempInsn → ℕ
most_before x = if makes_call x then 52 else 10

pub record IsLean (a : Plan) : Type 0 where
  pub before : (block at : ℕ) (x : TempInsn) → insn_at a.function.blocks block at ≡ Some x →
      length (transfers_at a block at) ≤ most_before x
  pub on_edges : All (λ e. length e.code ≤ 91) a.edges
