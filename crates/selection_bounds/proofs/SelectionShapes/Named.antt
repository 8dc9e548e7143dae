-- What the code names is there.
use Rattle.std.proofs.Common.{◌≡◌, ℕ, List, length, true, refl}
use Rattle.std.specs.Prelude.{IsTrue, slice_get}
use Rattle.std.proofs.lemmas.Bool.{false≢true}
use Rattle.mem_objects.specs.declared.DataObject.{DataObject}
use Rattle.pass_core.specs.declared.function.MemoryLocal.{MemoryLocal}
use Rattle.pass_core.specs.Functions.{AllInsns}
use Rattle.suifvm_ir.specs.declared.insn.VmInsn.{VmInsn}
use Rattle.suifvm_ir.specs.Programs as vm
use Rattle.temp_ir.specs.declared.insn.TempInsn.{TempInsn}
use Rattle.temp_ir.specs.declared.insn.TempInsn.TheVariants as i
use Rattle.temp_ir.specs.Programs.{TempFn, function_takes, names_what_is_there}
use Rattle.selection_code.specs.Functions.{selected_blocks}
use Rattle.selection_bounds.specs.selection_shapes.Shapes.{SelectedNamesAreThere}
use Rattle.selection_bounds.proofs.SelectionShapes.Plain.{is_nameless, bare_parts}
use Rattle.selection_bounds.proofs.SelectionShapes.Walk.{IsKept, blocks_kept}

module _ (fs : List vm.VmFunction) (ts : List TempFn) (globals : List DataObject) (objects : List MemoryLocal)
    (same : (k count : ℕ) → vm.function_takes count (slice_get fs k) ≡ true → function_takes count (slice_get ts k) ≡ true) where
  abbrev Before : VmInsn → Type 0
  Before y = IsTrue (vm.names_what_is_there fs globals objects y)

  abbrev There : TempInsn → Type 0
  There z = IsTrue (names_what_is_there ts globals objects z)

  of_nameless : (z : TempInsn) → is_nameless z ≡ true → There z
  of_nameless (i.ObjectAddress d place plus) e = absurd (false≢true e)
  of_nameless (i.Call function arguments) e = absurd (false≢true e)
  of_nameless z e = refl

  there_kept : IsKept Before There
  there_kept = record {
    bare = λ z e. of_nameless z (bare_parts z e).1;
    address = λ d place plus q. q;
    branch = λ op ty a block q. refl;
    jump = λ block q. refl;
    argument = λ d k arguments q number t lt. refl;
    call = λ d k arguments q. same k (length arguments) q;
    returns = λ value with_value q. refl;
  }

  pub blocks_there : (params : ℕ) (blocks : List (List VmInsn)) → AllInsns Before blocks → AllInsns There (selected_blocks params blocks)
  blocks_there params blocks h = blocks_kept Before There there_kept params (λ number t lt. refl) blocks h

pub names_there : SelectedNamesAreThere
names_there fs ts globals f same h = blocks_there fs ts globals f.objects same f.params f.blocks h
