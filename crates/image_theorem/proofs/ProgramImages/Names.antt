-- What an instruction of a program names is there, and its numbers fit.
use Rattle.std.proofs.Common.{◌≡◌, ℕ, zero, suc, ◌+◌, ◌%◌, ◌<◌, ◌≤◌, true, List, [], ◌∷◌, Option, Some, None, length, map, replicate, refl, sym, ap, ◌∙◌, subst, arith}
use Rattle.std.specs.Prelude.{slice_get}
use Rattle.std.proofs.lemmas.Bool.{leb-true}
use Rattle.alpha_isa.specs.Program.{Program, IsLawful, data_of, data_start}
use Rattle.frame_steps.specs.item_steps.Standing.{Labels}
use Rattle.mem_objects.specs.declared.DataObject.{DataObject}
use Rattle.mem_objects.specs.Layout.{ObjectsLieFrom}
use Rattle.pass_core.specs.declared.function.MemoryLocal.{MemoryLocal}
use Rattle.suifvm_ir.specs.declared.insn.VmObject.TheVariants.{Global, Local}
use Rattle.suifvm_ir.specs.Programs.{global_reaches, local_reaches}
use Rattle.temp_ir.specs.declared.insn.SecondOperand.TheVariants as operand
use Rattle.temp_ir.specs.declared.insn.TempInsn.{TempInsn}
use Rattle.temp_ir.specs.declared.insn.TempInsn.TheVariants as i
use Rattle.temp_ir.specs.Programs.{TempFn, function_takes, names_what_is_there}
use Rattle.frame_memory.specs.flat_globals.Globals.{AreLaidOut, DataIs, extents_of}
use Rattle.frame_memory.proofs.FlatGlobals.Lists.{append-size, replicate-size}
use Rattle.frame_steps.specs.frame_transfers.Laws.{CallAt}
use Rattle.frame_steps.specs.instruction_items.Items.{ItemSetting}
use Rattle.frame_steps.specs.instruction_items.Laws.{IsThere, IsGlobal, IsNearLocal}
use Rattle.image_theorem.proofs.ProgramImages.Lists.{get-map, get-below}
use Rattle.image_theorem.proofs.ProgramImages.Standing.{InsnStands, lawful-there}

-- objects lie at multiples of 8
aligned-at : (globals : List DataObject) (end k : ℕ) (o : DataObject) → ObjectsLieFrom end globals → slice_get globals k ≡ Some o → o.offset % 8 ≡ 0
aligned-at [] end k o h e = absurd (cc)
aligned-at (x ∷ globals) end zero o h e =
    let is : x ≡ o = cc in
    let at = h.0 in
    subst (λ (z : DataObject). z.offset % 8 ≡ 0) is (omega (arith, at))
aligned-at (x ∷ globals) end (suc k) o h e = aligned-at globals (x.offset + x.size) k o h.1 e

module _ (p : Program) (lawful : IsLawful p) (globals : List DataObject) (laid : AreLaidOut globals) (d : DataIs globals (data_start p) (data_of p)) (g : ItemSetting) (offsets : (k : ℕ) (o : DataObject) → slice_get globals k ≡ Some o → g.global_at k ≡ o.offset) (c : CallAt) (extents : c.extents ≡ extents_of (data_start p) globals) where
  data-small : length (data_of p) ≤ 67108864
  data-small =
      let sum = append-size p.bytes (replicate p.zeros 0) in
      let zeros = replicate-size {X = ℕ} p.zeros 0 in
      let most = lawful.bytes in
      omega (arith, sum, zeros, most)

  start-small : data_start p ≤ 1073872896
  start-small = let most = lawful.words in omega (arith, most)

  global-there : (k plus : ℕ) (o : DataObject) → slice_get globals k ≡ Some o → plus ≤ o.size → IsGlobal p g c k plus
  global-there k plus o e le =
      let within = d.within k o e in
      let small = d.small in
      let at = offsets k o e in
      let low = start-small in
      let most = data-small in
      let even = aligned-at globals 0 k o laid.layout e in
      record {
        extent = record { base = data_start p + o.offset; size = o.size };
        made = ap (λ xs. slice_get xs k) extents ∙ get-map (λ (z : DataObject). record { base = data_start p + z.offset; size = z.size }) globals k o e;
        sound = record { above = omega arith; aligned = omega (arith, even); small = omega (arith, within, small) };
        base = ap (λ n. data_start p + n) (sym at);
        within = le;
        near = omega (arith, at, low, most, within, le);
      }

  global-named : (k plus : ℕ) (o : Option DataObject) → slice_get globals k ≡ o → global_reaches plus o ≡ true → IsGlobal p g c k plus
  global-named k plus None e h = absurd (cc)
  global-named k plus (Some o) e h = global-there k plus o e (leb-true plus o.size h)

  module _ (objects : List MemoryLocal) (sizes : c.shape.sizes ≡ map (λ (o : MemoryLocal). o.size) objects) where
    local-named : (k plus : ℕ) (o : Option MemoryLocal) → slice_get objects k ≡ o → local_reaches plus o ≡ true → IsNearLocal c k plus
    local-named k plus None e h = absurd (cc)
    local-named k plus (Some o) e h = record {
      size = o.size;
      made = ap (λ xs. slice_get xs k) sizes ∙ get-map (λ (z : MemoryLocal). z.size) objects k o e;
      within = leb-true plus o.size h;
    }

    module _ (there : Labels) (end : ℕ) (rs : List ℕ) (functions : List TempFn) where
      pub is-there : (x : TempInsn) → names_what_is_there functions globals objects x ≡ true → InsnStands p there g rs x end → IsThere p g c x
      is-there (i.ObjectAddress dest (Global k) plus) h z = global-named k plus (slice_get globals k) refl h
      is-there (i.ObjectAddress dest (Local k) plus) h z = local-named k plus (slice_get objects k) refl h
      is-there (i.Operate op dest left (operand.Temp t)) h z = tt
      is-there (i.Operate op dest left (operand.Literal n)) h z = (lawful-there p there end _ z.more z.stands).1
      is-there (i.Extend op dest (operand.Temp t)) h z = tt
      is-there (i.Extend op dest (operand.Literal n)) h z = (lawful-there p there end _ z.more z.stands).1
      is-there (i.SetFixed register number) h z = (lawful-there p there end _ z.more z.stands).2
      is-there (i.Address op dest base plus) h z = tt
      is-there (i.Load op dest pointer plus) h z = tt
      is-there (i.Store op value pointer plus) h z = tt
      is-there (i.ToFixed register source) h z = tt
      is-there (i.FromFixed dest register) h z = tt
      is-there (i.WriteArgument number source) h z = tt
      is-there (i.ReadArgument dest number) h z = tt
      is-there (i.Branch op source block) h z = tt
      is-there (i.Jump block) h z = tt
      is-there (i.Call function arguments) h z = tt
      is-there (i.Divide routine) h z = tt
      is-there (i.Serve service) h z = tt
      is-there (i.Return with_value) h z = tt
      is-there i.Mark h z = tt

-- a function that is called is there
pub called-there : (functions : List TempFn) (function arguments : ℕ) (o : Option TempFn) → slice_get functions function ≡ o → function_takes arguments o ≡ true → function < length functions
called-there functions function arguments None e h = absurd (cc)
called-there functions function arguments (Some f) e h = get-below functions function f e
