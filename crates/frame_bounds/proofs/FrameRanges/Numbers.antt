-- The numbers of instructions fit where what they name is there.
use Rattle.std.proofs.Common.{◌≡◌, ℕ, zero, suc, ◌+◌, ◌-◌, ◌≤◌, ◌<◌, ◌^◌, List, [], ◌∷◌, length, map, Option, Some, None, refl, subst, ap, ◌∙◌, arith}
use Rattle.std.specs.Prelude.{slice_get, All, IsTrue}
use Rattle.std.specs.Option.{option_map}
use Rattle.std.proofs.lemmas.Bool.{leb-true}
use Rattle.std.proofs.lemmas.Option.{slice_get-map}
use Rattle.std.proofs.lemmas.List.Elements.{All-tail}
use Rattle.alpha_items.specs.Words.{most_address}
use Rattle.mem_objects.specs.declared.DataObject.{DataObject}
use Rattle.mem_objects.specs.Layout.{end_of, data_end, ObjectsLieFrom}
use Rattle.pass_core.specs.declared.function.MemoryLocal.{MemoryLocal}
use Rattle.suifvm_ir.specs.declared.insn.VmObject.{VmObject}
use Rattle.suifvm_ir.specs.declared.insn.VmObject.TheVariants.{Global, Local}
use Rattle.pass_core.specs.Functions.{AllInsns}
use Rattle.suifvm_ir.specs.Programs.{global_reaches, local_reaches, place_reaches}
use Rattle.temp_ir.specs.declared.insn.TempInsn.{TempInsn}
use Rattle.temp_ir.specs.declared.insn.TempInsn.TheVariants as i
use Rattle.alloc_model.specs.declared.allocation.Allocation.{Allocation}
use Rattle.alloc_model.specs.Places.{Plan, plan_of}
use Rattle.frame_memory.specs.flat_frames.Shapes.{frame_size, frame_object_at}
use Rattle.frame_memory.proofs.FlatFrames.Shapes.{pieces_of}
use Rattle.frame_steps.specs.instruction_items.Items.{ItemSetting}
use Rattle.frame_layout.specs.Shapes.{shape_of}
use Rattle.frame_layout.specs.Settings.{global_offset, near_insn, near_blocks, near_plan, setting_of}
use Rattle.frame_layout.specs.Names.{NamesObjects}
use Rattle.frame_bounds.specs.frame_ranges.Ranges.{IsInRange, HasSmallNumbers}

all-map : {X Y : Type 0} (P : X → Type 0) (Q : Y → Type 0) (f : X → Y) → ((x : X) → P x → Q (f x)) → (xs : List X) → All P xs → All Q (map f xs)
all-map P Q f h [] all k d lt = absurd (omega (arith, lt))
all-map P Q f h (x ∷ xs) all zero d lt = h x (all 0 x (omega arith))
all-map P Q f h (x ∷ xs) all (suc k) d lt = all-map P Q f h xs (All-tail P x xs all) k d (omega (arith, lt))

last-step : (o p : DataObject) (ps : List DataObject) → data_end (o ∷ p ∷ ps) ≡ data_end (p ∷ ps)
last-step o p ps =
    let e : length (o ∷ p ∷ ps) - 1 ≡ suc (length (p ∷ ps) - 1) = omega arith in
    ap (λ n. end_of (slice_get (o ∷ p ∷ ps) n)) e

rises : (end : ℕ) (o : DataObject) (os : List DataObject) → ObjectsLieFrom end (o ∷ os) → o.offset + o.size ≤ data_end (o ∷ os)
rises end o [] h = omega arith
rises end o (p ∷ ps) h =
    let more = rises (o.offset + o.size) p ps h.1 in
    let at = h.1.0 in
    let e = last-step o p ps in
    omega (arith, more, at, e)

global-within : (end : ℕ) (os : List DataObject) (k : ℕ) (o : DataObject) → ObjectsLieFrom end os → slice_get os k ≡ Some o → o.offset + o.size ≤ data_end os
global-within end [] k o h e = let clash : ⊥ = cc in absurd clash
global-within end (q ∷ os) zero o h e =
    let same : q ≡ o = cc in
    let low = rises end q os h in
    subst (λ z. z.offset + z.size ≤ data_end (q ∷ os)) same low
global-within end (q ∷ []) (suc k) o h e = let clash : ⊥ = cc in absurd clash
global-within end (q ∷ p ∷ ps) (suc k) o h e =
    let more = global-within (q.offset + q.size) (p ∷ ps) k o h.1 e in
    let s = last-step q p ps in
    omega (arith, more, s)

module _ (a : Allocation) (globals : List DataObject) (first : ℕ) (laid : ObjectsLieFrom 0 globals) (small : frame_size (shape_of (near_plan (plan_of a))) ≤ 2 ^ 29) where
  abbrev pub p : Plan
  p = near_plan (plan_of a)

  abbrev pub g : ItemSetting
  g = setting_of p globals first

  global-fits : (o : Option DataObject) (k plus : ℕ) → slice_get globals k ≡ o → IsTrue (global_reaches plus o) → g.global_at k + plus ≤ data_end globals
  global-fits None k plus e h = let clash : ⊥ = cc in absurd clash
  global-fits (Some o) k plus e h =
      let fits = leb-true plus o.size h in
      let low = global-within 0 globals k o laid e in
      let at : g.global_at k ≡ o.offset = ap global_offset e in
      omega (arith, fits, low, at)

  local-fits : (o : Option MemoryLocal) (k plus : ℕ) → slice_get a.func.objects k ≡ o → IsTrue (local_reaches plus o) → frame_object_at g.shape k + plus < most_address
  local-fits None k plus e h = let clash : ⊥ = cc in absurd clash
  local-fits (Some o) k plus e h =
      let fits = leb-true plus o.size h in
      let made : slice_get p.function.sizes k ≡ Some o.size = slice_get-map (λ z. z.size) a.func.objects k ∙ ap (option_map (λ z. z.size)) e in
      let within = ((pieces_of (shape_of p) 0 0).objects k o.size made).within in
      omega (arith, fits, within, small)

  place-fits : (place : VmObject) (d plus : ℕ) → IsTrue (place_reaches globals a.func.objects plus place) → IsInRange g (data_end globals) (i.ObjectAddress d place plus)
  place-fits (Global k) d plus h = global-fits (slice_get globals k) k plus refl h
  place-fits (Local k) d plus h = local-fits (slice_get a.func.objects k) k plus refl h

  fits : (x : TempInsn) → NamesObjects globals a.func.objects x × HasSmallNumbers x → IsInRange g (data_end globals) (near_insn x)
  fits (i.Address op d base plus) h = h.1
  fits (i.ObjectAddress d place plus) h = place-fits place d plus h.0
  fits (i.Load op d p plus) h = h.1
  fits (i.Store op v p plus) h = h.1
  fits (i.Operate op d l r) h = h.1
  fits (i.Extend op d s) h = h.1
  fits (i.ToFixed r s) h = tt
  fits (i.FromFixed d r) h = tt
  fits (i.SetFixed r n) h = h.1
  fits (i.WriteArgument n s) h = omega arith
  fits (i.ReadArgument d n) h = omega arith
  fits (i.Branch op s t) h = tt
  fits (i.Jump t) h = tt
  fits (i.Call f n) h = tt
  fits (i.Divide r) h = tt
  fits (i.Serve s) h = tt
  fits (i.Return v) h = tt
  fits i.Mark h = tt

pub numbers_fit : (a : Allocation) (globals : List DataObject) (first : ℕ) → ObjectsLieFrom 0 globals → AllInsns (NamesObjects globals a.func.objects) a.func.blocks → AllInsns HasSmallNumbers a.func.blocks
    → frame_size (shape_of (near_plan (plan_of a))) ≤ 2 ^ 29
    → AllInsns (IsInRange (setting_of (near_plan (plan_of a)) globals first) (data_end globals)) (near_blocks a.func.blocks)
numbers_fit a globals first laid names smalls small =
    let Q = IsInRange (setting_of (near_plan (plan_of a)) globals first) (data_end globals) in
    all-map (All (λ x. NamesObjects globals a.func.objects x × HasSmallNumbers x)) (All Q) (map near_insn)
    (λ insns known. all-map (λ x. NamesObjects globals a.func.objects x × HasSmallNumbers x) Q near_insn (fits a globals first laid small) insns known) a.func.blocks
    (λ k d lt j x inside. (names k d lt j x inside, smalls k d lt j x inside))
