-- Allocations of the functions of a program fit it.
use Rattle.std.proofs.Common.{◌≡◌, ℕ, ◌<◌, ◌≤◌, ◌^◌, List, [], ◌∷◌, Option, Some, None, length, map, refl, sym, subst, arith}
use Rattle.std.specs.Prelude.{All, IsTrue, slice_get}
use Rattle.std.proofs.lemmas.Bool.{eqb-true}
use Rattle.std.proofs.lemmas.List.Elements.{All-head, All-tail}
use Rattle.std.proofs.lemmas.Option.{slice_get_within}
use Rattle.alpha_items.specs.Items.{is_name}
use Rattle.mem_objects.specs.declared.DataObject.{DataObject}
use Rattle.mem_objects.specs.declared.TheConstants.{MOST_DATA}
use Rattle.pass_core.specs.declared.function.MemoryLocal.{MemoryLocal}
use Rattle.pass_core.specs.Functions.{AllInsns}
use Rattle.temp_ir.specs.declared.insn.TempInsn.{TempInsn}
use Rattle.temp_ir.specs.declared.insn.TempInsn.TheVariants as i
use Rattle.temp_ir.specs.declared.program.TempProgram.{TempProgram}
use Rattle.temp_ir.specs.Programs.{TempFn, main_count, function_takes, names_what_is_there, IsLawfulTempFn}
use Rattle.alloc_model.specs.declared.allocation.Allocation.{Allocation}
use Rattle.alloc_model.specs.Effect.{width_of, widest_in, widest_call}
use Rattle.frame_memory.specs.flat_frames.Shapes.{objects_size}
use Rattle.image_assembly_laws.specs.Names.{NamesObjects, CallsBelow}
use Rattle.image_assembly_laws.specs.Layouts.{first_label, FitsProgram}
use Rattle.alloc_rules.specs.Allocations.{IsAllocationOf, AreAllocationsOf}
use Rattle.image_assembly_laws.specs.allocation_laws.Laws.{HasFrame, AllocationsFit, AllocationsCanBeAssembled}
use Rattle.image_assembly_laws.proofs.AllocationLaws.Lists.{all_get, all_across, as_many, names_are, code_is}

-- ---- what an instruction names is there

module _ (fs : List TempFn) (globals : List DataObject) (frames : All HasFrame fs) where
  record CallFits (function arguments : ℕ) : Type 0 where
    there : function < length fs
    few : arguments ≤ 2 ^ 24

  called : (function arguments : ℕ) → IsTrue (function_takes arguments (slice_get fs function)) → CallFits function arguments
  called function arguments h = by_function (slice_get fs function) refl h
    where
      by_function : (o : Option TempFn) → slice_get fs function ≡ o → IsTrue (function_takes arguments o) → CallFits function arguments
      by_function None e t = absurd (cc)
      by_function (Some f) e t =
          let is = eqb-true f.params arguments t in
          let few = (all_get HasFrame fs function f frames e).params in
          record { there = slice_get_within fs function f e; few = omega (arith, is, few) }

  record InsnFits (objects : List MemoryLocal) (x : TempInsn) : Type 0 where
    calls : CallsBelow (first_label (length fs)) x
    names : NamesObjects globals objects x
    width : width_of x ≤ 2 ^ 24

  asked : (objects : List MemoryLocal) (x : TempInsn) → IsTrue (names_what_is_there fs globals objects x) → InsnFits objects x
  asked objects (i.ObjectAddress destination place plus) h = record { calls = tt; names = h; width = omega arith }
  asked objects (i.Call function arguments) h =
      let c = called function arguments h in
      let there = c.there in
      record { calls = omega (arith, there); names = tt; width = c.few }
  asked objects (i.Address op destination base plus) h = record { calls = tt; names = tt; width = omega arith }
  asked objects (i.Load op destination pointer plus) h = record { calls = tt; names = tt; width = omega arith }
  asked objects (i.Store op value pointer plus) h = record { calls = tt; names = tt; width = omega arith }
  asked objects (i.Operate op destination left right) h = record { calls = tt; names = tt; width = omega arith }
  asked objects (i.Extend op destination source) h = record { calls = tt; names = tt; width = omega arith }
  asked objects (i.ToFixed register source) h = record { calls = tt; names = tt; width = omega arith }
  asked objects (i.FromFixed destination register) h = record { calls = tt; names = tt; width = omega arith }
  asked objects (i.SetFixed register number) h = record { calls = tt; names = tt; width = omega arith }
  asked objects (i.WriteArgument number source) h = record { calls = tt; names = tt; width = omega arith }
  asked objects (i.ReadArgument destination number) h = record { calls = tt; names = tt; width = omega arith }
  asked objects (i.Branch op source block) h = record { calls = tt; names = tt; width = omega arith }
  asked objects (i.Jump block) h = record { calls = tt; names = tt; width = omega arith }
  asked objects (i.Divide routine) h = record { calls = tt; names = tt; width = omega arith }
  asked objects (i.Serve service) h = record { calls = tt; names = tt; width = omega arith }
  asked objects (i.Return with_value) h = record { calls = tt; names = tt; width = omega arith }
  asked objects i.Mark h = record { calls = tt; names = tt; width = omega arith }

  all-asked : (objects : List MemoryLocal) (blocks : List (List TempInsn)) → AllInsns (λ x. IsTrue (names_what_is_there fs globals objects x)) blocks → AllInsns (InsnFits objects) blocks
  all-asked objects blocks h = λ k d lt j x within. asked objects _ (h k d lt j x within)

  widest-in : (objects : List MemoryLocal) (insns : List TempInsn) → All (InsnFits objects) insns → widest_in insns ≤ 2 ^ 24
  widest-in objects [] h = omega arith
  widest-in objects (x ∷ xs) h =
      let one = (All-head (InsnFits objects) x xs h).width in
      let rest = widest-in objects xs (All-tail (InsnFits objects) x xs h) in
      omega (arith, one, rest)

  widest-of : (objects : List MemoryLocal) (blocks : List (List TempInsn)) → AllInsns (InsnFits objects) blocks → widest_call blocks ≤ 2 ^ 24
  widest-of objects [] h = omega arith
  widest-of objects (b ∷ bs) h =
      let one = widest-in objects b (All-head (All (InsnFits objects)) b bs h) in
      let rest = widest-of objects bs (All-tail (All (InsnFits objects)) b bs h) in
      omega (arith, one, rest)

  -- ---- one function

  pub one_fits : (f : TempFn) (a : Allocation) → HasFrame f → IsLawfulTempFn fs globals f → IsAllocationOf f a → FitsProgram (length fs) globals a
  one_fits f a frame lawful of =
      let all = all-asked f.objects f.blocks lawful.names in
      let temps = of.temps in
      let few = frame.temps in
      record {
        faithful = of.faithful;
        calls = subst (λ bs. AllInsns (CallsBelow (first_label (length fs))) bs) (sym of.blocks) (λ k d lt j x within. (all k d lt j x within).calls);
        names = subst (λ os. AllInsns (NamesObjects globals os) a.func.blocks) (sym of.objects) (subst (λ bs. AllInsns (NamesObjects globals f.objects) bs) (sym of.blocks) (λ k d lt j x within. (all k d lt j x within).names));
        objects = subst (λ os. objects_size (map (λ (o : MemoryLocal). o.size) os) ≤ MOST_DATA) (sym of.objects) frame.objects;
        temps = omega (arith, temps, few);
        arguments = subst (λ bs. widest_call bs ≤ 2 ^ 24) (sym of.blocks) (widest-of f.objects f.blocks all);
      }

-- ---- all functions

module _ (program : TempProgram) (allocations : List Allocation) (h : AreAllocationsOf program.functions allocations) where
  both : All HasFrame program.functions → All (λ (f : TempFn). HasFrame f × IsLawfulTempFn program.functions program.globals f) program.functions
  both frames = λ k d lt. (frames k d lt, program.functions_lawful k d lt)

  all_fit : All HasFrame program.functions → All (FitsProgram (length allocations) program.globals) allocations
  all_fit frames =
      subst (λ n. All (FitsProgram n program.globals) allocations) (as_many program.functions allocations h)
      (all_across (λ (f : TempFn). HasFrame f × IsLawfulTempFn program.functions program.globals f) (FitsProgram (length program.functions) program.globals)
      (λ f a of has. one_fits program.functions program.globals frames f a has.0 has.1 of) program.functions allocations h (both frames))

one-main : (fs : List TempFn) → main_count fs ≡ 1 → 1 ≤ length fs
one-main [] e = omega (arith, e)
one-main (f ∷ fs) e = omega arith

pub allocations_fit : AllocationsFit
allocations_fit program allocations h frames =
    let same = as_many program.functions allocations h in
    let one = one-main program.functions program.one_main in
    record {
      some = omega (arith, same, one);
      names = names_are program.functions allocations h;
      code = code_is program.functions allocations h;
      fit = all_fit program allocations h frames;
    }

pub allocations_can_be_assembled : AllocationsCanBeAssembled
allocations_can_be_assembled program allocations h frames names numbers =
    let fit = all_fit program allocations h frames in
    let named = all_across (λ (f : TempFn). IsTrue (is_name f.name)) (λ (a : Allocation). IsTrue (is_name a.func.name))
    (λ f a of is. subst (λ n. IsTrue (is_name n)) (sym of.name) is) program.functions allocations h names in
    λ k d lt. record { fit = fit k d lt; name = named k d lt; numbers = numbers k d lt }
