-- Small allocations: what an allocator comes upon in them, one that is frugal, and one that is not.
use Rattle.std.specs.Prelude.{◌≡◌, ℕ, zero, suc, ◌+◌, ◌*◌, ◌==◌, ◌&&◌, nat_le, false, List, [], ◌∷◌, ◌++◌, map, Some, if◌then◌else◌}
use Rattle.std.specs.List.{range_with_len}
use Rattle.temp_ir.specs.declared.operation.Operation.TheVariants.{Addq}
use Rattle.temp_ir.specs.declared.operation.ExtendOp.TheVariants.{Sextb}
use Rattle.temp_ir.specs.declared.insn.FirstOperand.TheVariants as s
use Rattle.temp_ir.specs.declared.insn.SecondOperand.TheVariants as o
use Rattle.temp_ir.specs.declared.insn.TempInsn.{TempInsn}
use Rattle.temp_ir.specs.declared.insn.TempInsn.TheVariants.{Operate, Extend, Return}
use Rattle.temp_ir.specs.Fixed.{has_number}
use Rattle.alloc_model.specs.declared.allocation.Transfer.TheVariants as x
use Rattle.alloc_model.specs.declared.allocation.Event.TheVariants.{Visit, Assign, Evict, Store, Load, Write}
use Rattle.alloc_model.specs.Places.{Plan}
use Rattle.alloc_model.specs.Faithful.{given_registers}
use Rattle.alloc_model.specs.Examples.{set_temp, return_temp, plan, sum_blocks}
use Rattle.alloc_rules.specs.Visits.{Wants, moment_of_write, free_registers, best_register, victim}
use Rattle.alloc_rules.specs.Frugal.{Frugal}
use Rattle.alloc_rules.specs.Journal.{journal_of}

-- ---- registers that are best

-- 5 + 7, in the registers that are best: register 0 is free until the sum is returned there
abbrev pub sum_in_best : Plan
sum_in_best =
    plan sum_blocks ([] ∷ [] ∷ [] ∷ [] ∷ [] ∷ []) ((0 ∷ []) ∷ (1 ∷ []) ∷ (0 ∷ 1 ∷ 1 ∷ []) ∷ (1 ∷ []) ∷ [] ∷ []) []

-- the points at which each temporary is present
abbrev pub sum_points : (t : ℕ) → List ℕ
sum_points zero = 1 ∷ 2 ∷ 3 ∷ 4 ∷ []
sum_points (suc zero) = 3 ∷ 4 ∷ []
sum_points (suc (suc zero)) = 5 ∷ 6 ∷ []
sum_points (suc (suc (suc t))) = []

abbrev pub sum_wants : Wants
sum_wants = record {
  live = λ t block at. (block == 0) && has_number (sum_points t) (2 * at);
  present = λ t point. has_number (sum_points t) point;
}

-- ---- more values than registers

-- 27 numbers, of which each is then read, the first one first; the first 26 stand in the 26 registers
abbrev pub many_numbers : List (List TempInsn)
many_numbers =
    (map (λ k. set_temp k k) (range_with_len 0 27) ++ map (λ k. Extend Sextb 27 (o.Temp k)) (range_with_len 0 27)
    ++ Return false ∷ []) ∷ []

abbrev pub many_in_registers : Plan
many_in_registers = record {
  function = record { sizes = []; blocks = many_numbers };
  params = 0;
  temps = 28;
  top = [] ∷ [];
  bottom = [] ∷ [];
  at = [];
  regs = map (λ r. r ∷ []) given_registers;
  edges = [];
}

abbrev pub many_wants : Wants
many_wants = record {
  live = λ t block at. false;
  present = λ t point. nat_le (2 * t + 1) point && nat_le point (2 * (27 + t));
}

-- ---- whole allocations

-- a number that nobody wants, in the first of the registers that are free for it
abbrev pub number_blocks : List (List TempInsn)
number_blocks = (set_temp 0 5 ∷ Return false ∷ []) ∷ []

abbrev pub number_in_register : Plan
number_in_register = plan number_blocks ([] ∷ [] ∷ []) ((1 ∷ []) ∷ [] ∷ []) []

-- a number that is stored and loaded again while its place is a register
abbrev pub needless_load : Plan
needless_load =
    plan ((set_temp 0 5 ∷ return_temp 0) ∷ []) ([] ∷ (x.Store 0 1 ∷ x.Load 0 2 ∷ []) ∷ [] ∷ [])
    ((1 ∷ []) ∷ (2 ∷ []) ∷ [] ∷ []) []

-- a number that waits for its read in a slot, because its register is written once more
abbrev pub evicted_plan : Plan
evicted_plan =
    plan ((set_temp 0 5 ∷ set_temp 1 7 ∷ return_temp 0) ∷ []) ([] ∷ (x.Store 0 1 ∷ []) ∷ (x.Load 0 2 ∷ []) ∷ [] ∷ [])
    ((1 ∷ []) ∷ (1 ∷ []) ∷ (2 ∷ []) ∷ [] ∷ []) []

abbrev pub evicted_wants : Wants
evicted_wants = record {
  live = λ t block at. (t == 0) && has_number (1 ∷ 2 ∷ []) at;
  present = λ t point. if t == 0 then has_number (1 ∷ 2 ∷ 3 ∷ 4 ∷ []) point else (t == 1) && (point == 3);
}

pub record FrugalExamples : Type 0 where
  -- the journal of the sum, and that of an eviction
  pub journal : journal_of sum_in_best sum_wants
      ≡ Visit 0 ∷ Assign 0 0 ∷ Write 0 0 ∷ Visit 1 ∷ Assign 1 1 ∷ Write 1 1 ∷ Visit 2 ∷ Assign 2 1 ∷ Write 2 1 ∷ Visit 3
      ∷ Visit 4 ∷ []
  pub eviction : journal_of evicted_plan evicted_wants
      ≡ Visit 0 ∷ Assign 0 1 ∷ Write 0 1 ∷ Visit 1 ∷ Evict 0 1 ∷ Store 0 1 ∷ Assign 1 1 ∷ Write 1 1 ∷ Visit 2 ∷ Load 0 2
      ∷ Assign 0 2 ∷ Visit 3 ∷ []
  -- the shortest span that reaches the end of the part, and the first of those that nothing ends
  pub shortest : best_register sum_in_best sum_wants (moment_of_write sum_in_best sum_wants 0 0 (set_temp 0 5)) 0
      ≡ Some 0
  pub first : best_register sum_in_best sum_wants (moment_of_write sum_in_best sum_wants 0 1 (set_temp 1 7)) 1 ≡ Some 1
  -- a span that ends too early
  pub early : best_register sum_in_best sum_wants
      (moment_of_write sum_in_best sum_wants 0 2 (Operate Addq 2 (s.Temp 0) (o.Temp 1))) 2 ≡ Some 1
  -- none is free for the 27th number, and the one that is wanted last leaves
  pub none_free : free_registers many_in_registers many_wants
      (moment_of_write many_in_registers many_wants 0 26 (set_temp 26 26)) ≡ []
  pub farthest : victim many_in_registers (moment_of_write many_in_registers many_wants 0 26 (set_temp 26 26)) ≡ Some 25
  pub frugal : Frugal number_in_register
  pub not_frugal : ¬ Frugal needless_load
