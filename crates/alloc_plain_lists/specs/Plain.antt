-- The allocation in which every temporary lives in its slot: loads before each read, a store behind each write.
use Rattle.std.specs.Prelude.{ℕ, suc, ◌+◌, List, [], ◌∷◌, ◌++◌, map, length, flat_map, Option, Some, None}
use Rattle.std.specs.List.{range_with_len}
use Rattle.pass_core.specs.Functions.{last_of, successors_of}
use Rattle.temp_ir.specs.declared.insn.TempInsn.{TempInsn}
use Rattle.temp_ir.specs.Insns.{reads_of, writes_of, targets_of, flows_on_of}
use Rattle.alloc_model.specs.declared.allocation.EdgeCode.{EdgeCode}
use Rattle.alloc_model.specs.declared.allocation.Transfer.{Transfer}
use Rattle.alloc_model.specs.declared.allocation.Transfer.TheVariants.{Store, Load}
use Rattle.alloc_model.specs.Temporaries.{TemporaryCode}
use Rattle.alloc_model.specs.Places.{Plan}
use Rattle.alloc_model.specs.Faithful.{sorted_targets}

-- temporaries are moved one after the other, by registers from one on
abbrev pub loads : (temps : List ℕ) → (register : ℕ) → List Transfer
loads [] r = []
loads (t ∷ ts) r = Load t r ∷ loads ts (r + 1)

abbrev pub stores : (temps : List ℕ) → (register : ℕ) → List Transfer
stores [] r = []
stores (t ∷ ts) r = Store t r ∷ stores ts (r + 1)

-- the registers of an instruction's temporaries: those that it reads, then those that it writes
abbrev pub plain_registers : TempInsn → List ℕ
plain_registers x = range_with_len 1 (length (reads_of x) + length (writes_of x))

-- what an instruction wrote, and the register of the first of these
abbrev pub writes_in : Option TempInsn → List ℕ
writes_in None = []
writes_in (Some x) = writes_of x

abbrev pub first_in : Option TempInsn → ℕ
first_in None = 1
first_in (Some x) = 1 + length (reads_of x)

abbrev pub stores_behind : Option TempInsn → List Transfer
stores_behind x = stores (writes_in x) (first_in x)

-- the transfers before each instruction, where another one may stand before them all
abbrev pub transfers_from : (before : Option TempInsn) → List TempInsn → List (List Transfer)
transfers_from before [] = []
transfers_from before (x ∷ insns) = (stores_behind before ++ loads (reads_of x) 1) ∷ transfers_from (Some x) insns

-- what the last instruction of a block wrote is stored on each edge from the block
abbrev pub edge_code : (from : ℕ) → List Transfer → (to : ℕ) → EdgeCode
edge_code from code to = record { from = from; to = to; code = code }

abbrev pub edges_behind : (block : ℕ) → List TempInsn → List EdgeCode
edges_behind block insns =
    map (edge_code block (stores_behind (last_of insns)))
    (sorted_targets (successors_of targets_of flows_on_of block insns))

abbrev pub all_edges : (block : ℕ) → List (List TempInsn) → List EdgeCode
all_edges block [] = []
all_edges block (insns ∷ blocks) = edges_behind block insns ++ all_edges (suc block) blocks

abbrev pub plain_plan : TemporaryCode → (params temps : ℕ) → Plan
plain_plan f params temps = record {
  function = f;
  params = params;
  temps = temps;
  top = map (λ block. []) f.blocks;
  bottom = map (λ block. []) f.blocks;
  at = flat_map (transfers_from None) f.blocks;
  regs = flat_map (map plain_registers) f.blocks;
  edges = all_edges 0 f.blocks;
}
