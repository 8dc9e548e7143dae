-- The items of laid-out functions are in their ranges, and use labels that are there.
use Rattle.std.proofs.Common.{◌≡◌, ℕ, suc, ◌+◌, ◌<◌, ◌≤◌, ◌^◌, List, [], ◌∷◌, Option, Some, None, length, map, refl, sym, subst, arith, ⊎_elim}
use Rattle.std.specs.Prelude.{All, IfSome, slice_get}
use Rattle.std.proofs.lemmas.List.Elements.{All-nil, All-cons, All-head, All-tail, All-append, All-map, All-weaker}
use Rattle.std.proofs.lemmas.Option.{slice_get_within, get_or_from_slice_get}
use Rattle.alpha_items.specs.declared.item.AsmItem.TheVariants.{Name}
use Rattle.alpha_items.specs.declared.final_fn.FinalFn.{FinalFn}
use Rattle.alpha_items.specs.Items.{label_used, IsItem}
use Rattle.mem_objects.specs.declared.DataObject.{DataObject}
use Rattle.mem_objects.specs.Layout.{ObjectsLieFrom, data_end}
use Rattle.pass_core.specs.Functions.{AllInsns, GoesToBlocks, insn_in, insn_at}
use Rattle.temp_ir.specs.declared.insn.TempInsn.{TempInsn}
use Rattle.temp_ir.specs.declared.insn.TempInsn.TheVariants as i
use Rattle.temp_ir.specs.Insns.{targets_of}
use Rattle.alloc_model.specs.declared.allocation.Allocation.{Allocation}
use Rattle.alloc_model.specs.Places.{Plan, plan_of}
use Rattle.frame_memory.specs.flat_frames.Shapes.{frame_size}
use Rattle.frame_steps.specs.function_items.Items.{function_items}
use Rattle.frame_bounds.specs.Shapes.{shape_of}
use Rattle.frame_bounds.specs.Settings.{near_insn, near_blocks, near_plan, setting_of}
use Rattle.image_assembly.specs.Names.{CallsBelow}
use Rattle.image_assembly.proofs.Soundness.{near_length, near_widest}
use Rattle.frame_bounds.proofs.Rooms.{is_few}
use Rattle.frame_bounds.specs.frame_labels.Labels.{IsCalledAt, IsUsable, UsesOnly}
use Rattle.frame_bounds.proofs.FrameLabels.Used.{function_uses}
use Rattle.image_assembly.specs.Ranges.{HasRegisters}
use Rattle.image_assembly.proofs.Items.{function_in_range}
use Rattle.image_assembly.proofs.Numbers.{numbers_fit}
use Rattle.image_assembly.specs.Assemblies.{final_items}
use Rattle.image_assembly.specs.Layouts.{first_label, label_count, FitsProgram, FunctionIsLaidOut, FollowFrom}
use Rattle.image_assembly_laws.specs.Laws.{CanBeAssembled}

-- ---- instructions whose argument places can be told from others

near-calls : (first : ℕ) (x : TempInsn) → CallsBelow first x → CallsBelow first (near_insn x)
near-calls first (i.Call function arguments) h = h
near-calls first (i.Address op destination base plus) h = tt
near-calls first (i.ObjectAddress destination place plus) h = tt
near-calls first (i.Load op destination pointer plus) h = tt
near-calls first (i.Store op value pointer plus) h = tt
near-calls first (i.Operate op destination left right) h = tt
near-calls first (i.Extend op destination source) h = tt
near-calls first (i.ToFixed register source) h = tt
near-calls first (i.FromFixed destination register) h = tt
near-calls first (i.SetFixed register number) h = tt
near-calls first (i.WriteArgument number source) h = tt
near-calls first (i.ReadArgument destination number) h = tt
near-calls first (i.Branch op source block) h = tt
near-calls first (i.Jump block) h = tt
near-calls first (i.Divide routine) h = tt
near-calls first (i.Serve service) h = tt
near-calls first (i.Return with_value) h = tt
near-calls first i.Mark h = tt

near-goes : (count : ℕ) (x : TempInsn) → GoesToBlocks targets_of count x → GoesToBlocks targets_of count (near_insn x)
near-goes count (i.Call function arguments) h = h
near-goes count (i.Address op destination base plus) h = h
near-goes count (i.ObjectAddress destination place plus) h = h
near-goes count (i.Load op destination pointer plus) h = h
near-goes count (i.Store op value pointer plus) h = h
near-goes count (i.Operate op destination left right) h = h
near-goes count (i.Extend op destination source) h = h
near-goes count (i.ToFixed register source) h = h
near-goes count (i.FromFixed destination register) h = h
near-goes count (i.SetFixed register number) h = h
near-goes count (i.WriteArgument number source) h = h
near-goes count (i.ReadArgument destination number) h = h
near-goes count (i.Branch op source block) h = h
near-goes count (i.Jump block) h = h
near-goes count (i.Divide routine) h = h
near-goes count (i.Serve service) h = h
near-goes count (i.Return with_value) h = h
near-goes count i.Mark h = h

near-all : (P : TempInsn → Type 0) → ((x : TempInsn) → P x → P (near_insn x)) → (blocks : List (List TempInsn)) → AllInsns P blocks → AllInsns P (near_blocks blocks)
near-all P f blocks h =
    All-map (All P) (map near_insn) blocks
    (λ k d lt. All-map P near_insn _ (All-weaker P (λ x. P (near_insn x)) f _ (h k d lt)))

-- ---- elements

all-get : {X : Type 0} (Q : X → Type 0) (xs : List X) (j : ℕ) (y : X) → All Q xs → slice_get xs j ≡ Some y → Q y
all-get Q xs j y all is = subst Q (get_or_from_slice_get xs j y y is) (all j y (slice_get_within xs j y is))

insn-in : (P : TempInsn → Type 0) (o : Option (List TempInsn)) (k : ℕ) (x : TempInsn) → ((insns : List TempInsn) → o ≡ Some insns → All P insns) → insn_in o k ≡ Some x → P x
insn-in P None k x h e = let clash : ⊥ = cc in absurd clash
insn-in P (Some insns) k x h e = all-get P insns k x (h insns refl) e

pub insn-at : (P : TempInsn → Type 0) (blocks : List (List TempInsn)) (b k : ℕ) (x : TempInsn) → AllInsns P blocks → insn_at blocks b k ≡ Some x → P x
insn-at P blocks b k x h e = insn-in P (slice_get blocks b) k x (λ insns is. all-get (All P) blocks b insns h is) e

if-some : {A : Type 0} (P Q : A → Type 0) → ((x : A) → P x → Q x) → (o : Option A) → IfSome o P → IfSome o Q
if-some P Q f None h = tt
if-some P Q f (Some x) h = f x h

-- ---- one function

module _ (functions : ℕ) (globals : List DataObject) (a : Allocation) (sound : CanBeAssembled functions globals a) where
  abbrev p : Plan
  p = near_plan (plan_of a)

  fit : FitsProgram functions globals a
  fit = sound.fit

  frame-small : frame_size (shape_of p) ≤ 2 ^ 29
  frame-small =
      let few = is_few p in
      let widest = near_widest a.func.blocks in
      let temps = fit.temps in
      let arguments = fit.arguments in
      let objects = fit.objects in
      omega (arith, few, widest, temps, arguments, objects)

  registers : HasRegisters p
  registers = record {
    transfers = fit.faithful.lists.transfers;
    edge_transfers = fit.faithful.lists.edge_transfers;
    given = fit.faithful.lists.given;
  }

  one-fits : (number first : ℕ) (f : FinalFn) → ObjectsLieFrom 0 globals → FunctionIsLaidOut globals number first a f → All (IsItem (data_end globals)) f.items.items
  one-fits number first f lie laid =
      subst (All (IsItem (data_end globals))) (sym laid.items)
      (All-cons (IsItem (data_end globals)) (Name a.func.name) (function_items p (setting_of p globals first) number []) sound.name
      (function_in_range p (setting_of p globals first) number (data_end globals) [] registers refl frame-small
      (numbers_fit a globals first lie fit.names sound.numbers frame-small) (All-nil (IsItem (data_end globals)))))

  goes : AllInsns (GoesToBlocks targets_of (length p.function.blocks)) p.function.blocks
  goes =
      subst (λ n. AllInsns (GoesToBlocks targets_of n) (near_blocks a.func.blocks)) (sym (near_length a.func.blocks))
      (near-all (GoesToBlocks targets_of (length a.func.blocks)) (near-goes (length a.func.blocks)) a.func.blocks a.func.targets)

  called : (l : ℕ) → IsCalledAt p l → (k : ℕ) × (k < functions) × (l ≡ 256 + k)
  called l c =
      let below : 256 + c.function < 256 + functions = insn-at (CallsBelow (first_label functions)) (near_blocks a.func.blocks) c.block c.at (i.Call c.function c.arguments) (near-all (CallsBelow (first_label functions)) (near-calls (first_label functions)) a.func.blocks fit.calls) c.call in
      (c.function, omega (arith, below), c.label_is)

  module _ (Known : ℕ → Type 0) (entries : (k : ℕ) → k < functions → Known (256 + k)) (routines : (l : ℕ) → 1 ≤ l → l ≤ 8 → Known l) where
    usable : (first l : ℕ) → ((l : ℕ) → first ≤ l → l < first + label_count a → Known l) → IsUsable p first l → Known l
    usable first l own h = ⊎_elim
        (λ within. let low = within.0 in let high = within.1 in let n = near_length a.func.blocks in own l low (omega (arith, high, n)))
        (λ others. ⊎_elim
        (λ routine. routines l routine.0 routine.1)
        (λ call. let k = called l call in subst Known (sym k.2) (entries k.0 k.1))
        others)
        h

    one-uses : (number first : ℕ) (f : FinalFn) → ((l : ℕ) → first ≤ l → l < first + label_count a → Known l) → FunctionIsLaidOut globals number first a f → All (λ x. IfSome (label_used x) Known) f.items.items
    one-uses number first f own laid =
        let uses = function_uses p globals first number [] goes (All-nil (UsesOnly p first)) in
        subst (All (λ x. IfSome (label_used x) Known)) (sym laid.items)
        (All-cons (λ x. IfSome (label_used x) Known) (Name a.func.name) (function_items p (setting_of p globals first) number []) tt
        (All-weaker (UsesOnly p first) (λ x. IfSome (label_used x) Known) (λ x u. if-some (IsUsable p first) Known (λ l. usable first l own) (label_used x) u) (function_items p (setting_of p globals first) number []) uses))

-- ---- all of them

-- the label behind those of functions from one on
abbrev pub end_of : (first : ℕ) → List Allocation → ℕ
end_of first [] = first
end_of first (a ∷ allocations) = end_of (first + label_count a) allocations

pub end-past : (first : ℕ) (allocations : List Allocation) → first ≤ end_of first allocations
end-past first [] = omega arith
end-past first (a ∷ allocations) = let h = end-past (first + label_count a) allocations in omega (arith, h)

pub finals-fit : (functions : ℕ) (globals : List DataObject) (number first : ℕ) (allocations : List Allocation) (finals : List FinalFn) → ObjectsLieFrom 0 globals → All (CanBeAssembled functions globals) allocations → FollowFrom globals number first allocations finals → All (IsItem (data_end globals)) (final_items finals)
finals-fit functions globals number first [] [] lie sound h = All-nil (IsItem (data_end globals))
finals-fit functions globals number first [] (f ∷ finals) lie sound h = absurd h
finals-fit functions globals number first (a ∷ allocations) [] lie sound h = absurd h
finals-fit functions globals number first (a ∷ allocations) (f ∷ finals) lie sound h =
    All-append (IsItem (data_end globals)) f.items.items (final_items finals)
    (one-fits functions globals a (All-head (CanBeAssembled functions globals) a allocations sound) number first f lie h.0)
    (finals-fit functions globals (suc number) (first + label_count a) allocations finals lie (All-tail (CanBeAssembled functions globals) a allocations sound) h.1)

pub finals-use : (functions : ℕ) (globals : List DataObject) (Known : ℕ → Type 0) → ((k : ℕ) → k < functions → Known (256 + k)) → ((l : ℕ) → 1 ≤ l → l ≤ 8 → Known l)
    → (number first end : ℕ) (allocations : List Allocation) (finals : List FinalFn) → ((l : ℕ) → first ≤ l → l < end → Known l) → end ≡ end_of first allocations → All (CanBeAssembled functions globals) allocations → FollowFrom globals number first allocations finals → All (λ x. IfSome (label_used x) Known) (final_items finals)
finals-use functions globals Known entries routines number first end [] [] own e sound h = All-nil (λ x. IfSome (label_used x) Known)
finals-use functions globals Known entries routines number first end [] (f ∷ finals) own e sound h = absurd h
finals-use functions globals Known entries routines number first end (a ∷ allocations) [] own e sound h = absurd h
finals-use functions globals Known entries routines number first end (a ∷ allocations) (f ∷ finals) own e sound h =
    let later = end-past (first + label_count a) allocations in
    All-append (λ x. IfSome (label_used x) Known) f.items.items (final_items finals)
    (one-uses functions globals a (All-head (CanBeAssembled functions globals) a allocations sound) Known entries routines number first f (λ l low high. own l low (omega (arith, high, e, later))) h.0)
    (finals-use functions globals Known entries routines (suc number) (first + label_count a) end allocations finals (λ l low high. own l (omega (arith, low)) high) e (All-tail (CanBeAssembled functions globals) a allocations sound) h.1)
