-- In which registers fixed values stand.
use Rattle.std.specs.Prelude.{◌≡◌, ℕ, ◌-◌, ◌<◌, ◌≤◌, Bool, List, [], drop, length, slice_index_or}
use Rattle.bk_bits.specs.Sets.{has}
use Rattle.temp_ir.specs.declared.insn.TempInsn.{TempInsn}
use Rattle.alloc_rules.specs.Visits.{holds_fixed_value}

-- a list says of each register whether a fixed value stands there before some instructions
pub record IsStanding (rest : List TempInsn) (standing : List Bool) : Type 0 where
  pub size : length standing ≡ 32
  pub each : (r : ℕ) → r < 32 → has standing r ≡ holds_fixed_value r rest

-- so it is behind the last instructions of a block, from none to a number of them
pub record AreStanding (insns : List TempInsn) (count : ℕ) (rows : List (List Bool)) : Type 0 where
  pub each : (k : ℕ) → k ≤ count → IsStanding (drop (length insns - k) insns) (slice_index_or rows k [])
