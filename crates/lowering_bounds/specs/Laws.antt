-- What the code of a function of a unit keeps, by the weight of the function.
use Rattle.std.specs.Prelude.{◌≡◌, ◌≤◌, ◌+◌, ◌*◌, max, ℕ, IsTrue, List, All, map, length, slice_get, sum_by, Some}
use Rattle.c_typed_tree.specs.declared.units.TypedFn.{TypedFn}
use Rattle.c_typed_tree.specs.declared.units.TypedUnit.{TypedUnit}
use Rattle.c_typed_tree.specs.Typing.{Signature}
use Rattle.c_typed_tree.specs.Weight.{function_weight}
use Rattle.c_typed_tree.specs.Lawful.{IsLawfulStruct, IsTypedFn, signature_of}
use Rattle.suifvm_ir.specs.Insns.{targets_of, flows_on_of}
use Rattle.pass_core.specs.Functions.{AllInsns, count_of, edge_count}
use Rattle.suifvm_ir.specs.Programs.{VmFunction, names_what_is_there, function_takes, weight_of, arguments_of}
use Rattle.suifvm_ir.specs.Cost.{insn_cost}
use Rattle.lowering_code.specs.Functions.{objects_of, items_of, function_blocks}
use Rattle.lowering_layout.specs.Good.{IsGood}
use Rattle.lowering_layout.specs.Tops.{blocks_top}

-- each function takes as many arguments as the signature with its number has parameters
abbrev pub TakesArguments : List VmFunction → List Signature → Type 0
TakesArguments fs signatures =
    (number : ℕ) (f : Signature) → slice_get signatures number ≡ Some f →
    IsTrue (function_takes (length f.params) (slice_get fs number))

-- what holds of a well typed function, where the structs of the unit are lawful and the functions of the program take
-- their arguments
abbrev pub OfFunctions : ((u : TypedUnit) → (f : TypedFn) → (fs : List VmFunction) → Type 0) → Type 0
OfFunctions P =
    (u : TypedUnit) (f : TypedFn) (fs : List VmFunction) → All (IsLawfulStruct u.structs) u.structs →
    IsTypedFn u f → TakesArguments fs (map signature_of u.functions) → P u f fs

-- what its instructions name is there
abbrev pub LoweredNamesAreThere : (u : TypedUnit) → (f : TypedFn) → (fs : List VmFunction) → Type 0
LoweredNamesAreThere u f fs =
    AllInsns (λ i. IsTrue (names_what_is_there fs u.globals (objects_of u.structs f.locals) i))
    (function_blocks u.structs f)

-- its registers are few
abbrev pub FunctionHasFewRegisters : (u : TypedUnit) → (f : TypedFn) → (fs : List VmFunction) → Type 0
FunctionHasFewRegisters u f fs =
    max f.params (blocks_top (function_blocks u.structs f)) ≤ 7 * function_weight u.structs f

-- a call gives few arguments
abbrev pub GivesFewArguments : (u : TypedUnit) → (f : TypedFn) → (fs : List VmFunction) → Type 0
GivesFewArguments u f fs = AllInsns (λ i. arguments_of i ≤ function_weight u.structs f) (function_blocks u.structs f)

-- its cost is low where its code is good
abbrev pub CostsLittle : (u : TypedUnit) → (f : TypedFn) → (fs : List VmFunction) → Type 0
CostsLittle u f fs =
    (most : ℕ) → IsGood most 0 (items_of u.structs f) →
    64 + 24 * f.params + sum_by (λ b. sum_by insn_cost b) (function_blocks u.structs f)
    + 536 * edge_count targets_of flows_on_of (function_blocks u.structs f)
    ≤ 2048 * (function_weight u.structs f + 1)

-- and so is its size
abbrev pub FunctionIsSmall : (u : TypedUnit) → (f : TypedFn) → (fs : List VmFunction) → Type 0
FunctionIsSmall u f fs =
    (most : ℕ) → IsGood most 0 (items_of u.structs f) →
    24 * (length (function_blocks u.structs f) + count_of (function_blocks u.structs f) + f.params
    + sum_by (λ b. sum_by weight_of b) (function_blocks u.structs f))
    ≤ 2048 * (function_weight u.structs f + 1)
