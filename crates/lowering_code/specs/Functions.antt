-- The code of functions (C99 6.9.1, 5.1.2.2.3).
use Rattle.std.specs.Prelude.{ℕ, suc, Bool, List, [], ◌∷◌, map, filter, take, length, Option, Some, None, if◌then◌else◌}
use Rattle.c_typed_tree.specs.declared.types.StructDef.{StructDef}
use Rattle.c_typed_tree.specs.declared.units.Local.{Local}
use Rattle.c_typed_tree.specs.declared.units.TypedFn.{TypedFn}
use Rattle.c_typed_tree.specs.Types.{Int}
use Rattle.c_typed_tree.specs.View.{type_view, stmt_view}
use Rattle.c_typed_tree.specs.Layout.{size_of, align_of}
use Rattle.c_typed_tree.specs.Lawful.{is_main}
use Rattle.suifvm_ir.specs.declared.types.VmType.TheVariants.{S32}
use Rattle.suifvm_ir.specs.declared.insn.VmObject.TheVariants as p
use Rattle.suifvm_ir.specs.declared.insn.VmInsn as vm
use Rattle.suifvm_ir.specs.declared.insn.VmInsn.TheVariants as n
use Rattle.pass_core.specs.declared.function.MemoryLocal.{MemoryLocal}
use Rattle.lowering_code.specs.declared.item.CodeItem.{CodeItem}
use Rattle.lowering_code.specs.Registers.{temporary, address_register, object_index}
use Rattle.lowering_code.specs.Expressions.{constant_code, store_code, address_code}
use Rattle.lowering_code.specs.Statements.{stmt_code}
use Rattle.lowering_code.specs.Layout.{blocks_of}

-- the object of a memory local
abbrev pub object_for : List StructDef → Local → MemoryLocal
object_for ds l = record { size = size_of ds (type_view l.ty); align = align_of ds (type_view l.ty) }

abbrev pub objects_of : List StructDef → List Local → List MemoryLocal
objects_of ds ls = map (object_for ds) (filter (λ l. l.in_memory) ls)

module _ (locals : ℕ) (ds : List StructDef) (ls : List Local) where
  -- an argument comes in the first registers; one of a parameter in memory is stored
  abbrev pub parameter_code : (number : ℕ) → Local → List CodeItem → List CodeItem
  parameter_code k l rest =
      if l.in_memory
      then address_code locals 0 (p.Local (object_index ls k)) 0
      (store_code (type_view l.ty) (address_register locals 0) 0 k rest)
      else rest

  abbrev pub parameters_code : (number : ℕ) → List Local → List CodeItem → List CodeItem
  parameters_code k [] rest = rest
  parameters_code k (l ∷ more) rest = parameter_code k l (parameters_code (suc k) more rest)

-- a call that comes to the end of its function gives nothing, but of `main` 0
abbrev pub end_code : (locals : ℕ) → (main : Bool) → List vm.VmInsn
end_code locals main =
    if main
    then n.LoadConstant S32 (temporary locals 0 S32) 0
    ∷ n.Return (Some (record { ty = S32; register = temporary locals 0 S32 }))
    ∷ []
    else n.Return None ∷ []

abbrev pub items_of : List StructDef → TypedFn → List CodeItem
items_of ds f =
    parameters_code (length f.locals) ds f.locals 0 (take f.params f.locals)
    (stmt_code (length f.locals) ds f.locals 0 0 (stmt_view f.body) [])

abbrev pub function_blocks : List StructDef → TypedFn → List (List vm.VmInsn)
function_blocks ds f = blocks_of (end_code (length f.locals) (is_main f)) (items_of ds f)
