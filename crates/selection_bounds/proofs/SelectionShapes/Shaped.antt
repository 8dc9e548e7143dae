-- The blocks of a selected function are shaped as those of the function.
use Rattle.std.proofs.Common.{◌≡◌, ℕ, suc, ◌-◌, ◌<◌, List, [], ◌∷◌, ◌++◌, length, take, map, Bool, true, false, Option, Some, None, All, refl, sym, ap, ◌∙◌, subst, arith}
use Rattle.std.specs.Prelude.{◌&&◌, ◌==◌, slice_get, slice_index_or, if◌then◌else◌}
use Rattle.std.proofs.lemmas.Bool.{and_from, eqb-true, and_parts}
use Rattle.std.proofs.lemmas.Option.{none-some, same_Some}
use Rattle.std.proofs.lemmas.List.{append_assoc, length-map}
use Rattle.std.proofs.lemmas.List.Elements.{All-nil, All-cons, All-head, All-tail}
use Rattle.suifvm_ir.specs.declared.insn.VmCallee.TheVariants as callee
use Rattle.suifvm_ir.specs.declared.insn.TypedRegister.{TypedRegister}
use Rattle.suifvm_ir.specs.declared.insn.VmInsn.{VmInsn}
use Rattle.suifvm_ir.specs.declared.insn.VmInsn.TheVariants as x
use Rattle.suifvm_ir.specs.Insns as vm
use Rattle.pass_core.specs.Functions.{last_of, front_of, AllInsns, GoesToBlocks, IsStraight, EndsLate, insn_stops, block_stops, stops}
use Rattle.temp_ir.specs.declared.insn.TempInsn.{TempInsn}
use Rattle.temp_ir.specs.declared.insn.TempInsn.TheVariants as i
use Rattle.temp_ir.specs.Insns.{targets_of, flows_on_of}
use Rattle.selection_code.specs.Instructions.{call_items, return_items, selected_insn}
use Rattle.selection_code.specs.Functions.{selected_insns, parameter_items, selected_blocks}
use Rattle.selection_bounds.specs.selection_shapes.Shapes.{BlocksAreShaped}
use Rattle.selection_bounds.proofs.SelectionShapes.Plain.{is_plain, are_plain, bare_parts, bare_plain, call_plain, takes_plain}
use Rattle.selection_bounds.proofs.SelectionShapes.Walk.{CodeForm, HasBareCode, LoadsAddress, Branches, Jumps, Calls, Returns, code_form, IsKept, all_blocks, blocks_kept}

-- ---- lists

append_nil : {A : Type 0} (xs : List A) → xs ++ [] ≡ xs
append_nil [] = refl
append_nil (x ∷ xs) = ap (λ l. x ∷ l) (append_nil xs)

pub front_more : {A : Type 0} (x y : A) (xs : List A) → front_of (x ∷ y ∷ xs) ≡ x ∷ front_of (y ∷ xs)
front_more x y xs = let e : length (x ∷ y ∷ xs) - 1 ≡ suc (length (y ∷ xs) - 1) = omega arith in ap (λ k. take k (x ∷ y ∷ xs)) e

pub last_more : {A : Type 0} (x y : A) (xs : List A) → last_of (x ∷ y ∷ xs) ≡ last_of (y ∷ xs)
last_more x y xs = let e : length (x ∷ y ∷ xs) - 1 ≡ suc (length (y ∷ xs) - 1) = omega arith in ap (λ k. slice_get (x ∷ y ∷ xs) k) e

pub last_push : {A : Type 0} (xs : List A) (z : A) → last_of (xs ++ z ∷ []) ≡ Some z
last_push [] z = refl
last_push (x ∷ []) z = last_more x z []
last_push (x ∷ y ∷ xs) z = last_more x y (xs ++ z ∷ []) ∙ last_push (y ∷ xs) z

-- ---- one instruction

form_plain : (y : VmInsn) → CodeForm y → IsStraight vm.targets_of vm.flows_on_of y → are_plain (selected_insn y) ≡ true
form_plain y (HasBareCode z bare) s = bare_plain (selected_insn y) bare
form_plain y (LoadsAddress d place plus) s = refl
form_plain y (Branches op ty a block) s = absurd (omega (arith, s.0))
form_plain y (Jumps block) s = absurd (omega (arith, s.0))
form_plain y (Calls d k arguments) s = call_plain d (callee.Function k) arguments
form_plain y (Returns value) s = let clash : false ≡ true = s.1 in let never : ⊥ = cc in absurd never

pub straight_plain : (y : VmInsn) → IsStraight vm.targets_of vm.flows_on_of y → are_plain (selected_insn y) ≡ true
straight_plain y s = form_plain y (code_form y) s

pub plain_is : (z : TempInsn) → is_plain z ≡ true → IsStraight targets_of flows_on_of z
plain_is z e = let h = and_parts (length (targets_of z) == 0) (flows_on_of z) e in (eqb-true (length (targets_of z)) 0 h.0, h.1)

-- ---- what goes elsewhere stands last

late : List TempInsn → Bool
late [] = true
late (z ∷ []) = true
late (z ∷ y ∷ zs) = is_plain z && late (y ∷ zs)

late_behind : (xs ys : List TempInsn) → are_plain xs ≡ true → late ys ≡ true → late (xs ++ ys) ≡ true
unfolding late
late_behind [] ys h g = g
late_behind (x ∷ []) [] h g = refl
late_behind (x ∷ []) (y ∷ ys) h g = and_from (is_plain x) (late (y ∷ ys)) (and_parts (is_plain x) true h).0 g
late_behind (x ∷ z ∷ xs) ys h g =
    let p = and_parts (is_plain x) (are_plain (z ∷ xs)) h in
    and_from (is_plain x) (late (z ∷ (xs ++ ys))) p.0 (late_behind (z ∷ xs) ys p.1 g)

plain_late : (xs : List TempInsn) → are_plain xs ≡ true → late xs ≡ true
unfolding late
plain_late xs h = subst (λ l. late l ≡ true) (append_nil xs) (late_behind xs [] h refl)

ends_late : (xs : List TempInsn) → late xs ≡ true → EndsLate targets_of flows_on_of xs
unfolding late
ends_late [] e = All-nil (IsStraight targets_of flows_on_of)
ends_late (z ∷ []) e = All-nil (IsStraight targets_of flows_on_of)
ends_late (z ∷ y ∷ zs) e =
    let p = and_parts (is_plain z) (late (y ∷ zs)) e in
    subst (All (IsStraight targets_of flows_on_of)) (sym (front_more z y zs))
    (All-cons (IsStraight targets_of flows_on_of) z (front_of (y ∷ zs)) (plain_is z p.0) (ends_late (y ∷ zs) p.1))

return_late : (value : Option TypedRegister) → late (return_items value) ≡ true
unfolding late
return_late None = refl
return_late (Some value) = refl

form_late : (y : VmInsn) → CodeForm y → late (selected_insn y) ≡ true
unfolding late
form_late y (HasBareCode z bare) = plain_late (selected_insn y) (bare_plain (selected_insn y) bare)
form_late y (LoadsAddress d place plus) = refl
form_late y (Branches op ty a block) = refl
form_late y (Jumps block) = refl
form_late y (Calls d k arguments) = plain_late (call_items d (callee.Function k) arguments) (call_plain d (callee.Function k) arguments)
form_late y (Returns value) = return_late value

insn_late : (y : VmInsn) → late (selected_insn y) ≡ true
insn_late y = form_late y (code_form y)

block_late : (insns : List VmInsn) → EndsLate vm.targets_of vm.flows_on_of insns → late (selected_insns insns) ≡ true
unfolding late
block_late [] h = refl
block_late (y ∷ []) h = subst (λ l. late l ≡ true) (sym (append_nil (selected_insn y))) (insn_late y)
block_late (y ∷ z ∷ insns) h =
    let g : All (IsStraight vm.targets_of vm.flows_on_of) (y ∷ front_of (z ∷ insns)) = subst (All (IsStraight vm.targets_of vm.flows_on_of)) (front_more y z insns) h in
    late_behind (selected_insn y) (selected_insns (z ∷ insns)) (straight_plain y (All-head (IsStraight vm.targets_of vm.flows_on_of) y (front_of (z ∷ insns)) g))
    (block_late (z ∷ insns) (All-tail (IsStraight vm.targets_of vm.flows_on_of) y (front_of (z ∷ insns)) g))

-- ---- targets

module _ (n : ℕ) where
  no_targets : (ts : List ℕ) → length ts ≡ 0 → All (λ target. (0 < target) × (target < n)) ts
  no_targets [] e = All-nil (λ target. (0 < target) × (target < n))
  no_targets (t ∷ ts) e = absurd (omega (arith, e))

  goes_kept : IsKept (GoesToBlocks vm.targets_of n) (GoesToBlocks targets_of n)
  goes_kept = record {
    bare = λ z e. no_targets (targets_of z) (plain_is z (bare_parts z e).2).0;
    address = λ d place plus q. no_targets [] refl;
    branch = λ op ty a block q. q;
    jump = λ block q. q;
    argument = λ d k arguments q number t lt. no_targets [] refl;
    call = λ d k arguments q. no_targets [] refl;
    returns = λ value with_value q. no_targets [] refl;
  }

  function_goes : (params : ℕ) (blocks : List (List VmInsn)) → AllInsns (GoesToBlocks vm.targets_of n) blocks → AllInsns (GoesToBlocks targets_of n) (selected_blocks params blocks)
  function_goes params blocks h = blocks_kept (GoesToBlocks vm.targets_of n) (GoesToBlocks targets_of n) goes_kept params (λ number t lt. no_targets [] refl) blocks h

-- ---- the end

stops_insn : (y : VmInsn) (before : List TempInsn) → vm.flows_on_of y ≡ false → insn_stops flows_on_of (last_of (before ++ selected_insn y)) ≡ true
stops_insn (x.Jump block) before e = ap (insn_stops flows_on_of) (last_push before (i.Jump block))
stops_insn (x.Return None) before e = ap (insn_stops flows_on_of) (last_push before (i.Return false))
stops_insn (x.Return (Some value)) before e =
    ap (λ l. insn_stops flows_on_of (last_of l)) (sym (append_assoc before (_ ∷ []) (i.Return true ∷ []))) ∙ ap (insn_stops flows_on_of) (last_push (before ++ _ ∷ []) (i.Return true))
stops_insn (x.LoadConstant ty d word) before e = absurd (cc)
stops_insn (x.LoadAddress d place plus) before e = absurd (cc)
stops_insn (x.Load ty d p plus) before e = absurd (cc)
stops_insn (x.Store ty p plus a) before e = absurd (cc)
stops_insn (x.Copy to from size align) before e = absurd (cc)
stops_insn (x.Unary op ty d a) before e = absurd (cc)
stops_insn (x.Binary op ty d a b) before e = absurd (cc)
stops_insn (x.Shift op ty d a b) before e = absurd (cc)
stops_insn (x.Convert from to d a) before e = absurd (cc)
stops_insn (x.Compare op ty d a b) before e = absurd (cc)
stops_insn (x.Branch op ty a block) before e = absurd (cc)
stops_insn (x.Call d c arguments) before e = absurd (cc)
stops_insn x.Mark before e = absurd (cc)
stops_insn x.Nop before e = absurd (cc)

stops_block : (insns : List VmInsn) (y : VmInsn) (before : List TempInsn) → last_of insns ≡ Some y → vm.flows_on_of y ≡ false → insn_stops flows_on_of (last_of (before ++ selected_insns insns)) ≡ true
stops_block [] y before e f = absurd (none-some y e)
stops_block (z ∷ []) y before e f =
    ap (λ l. insn_stops flows_on_of (last_of (before ++ l))) (append_nil (selected_insn z)) ∙ stops_insn z before (ap vm.flows_on_of (same_Some z y e) ∙ f)
stops_block (z ∷ u ∷ insns) y before e f =
    ap (λ l. insn_stops flows_on_of (last_of l)) (sym (append_assoc before (selected_insn z) (selected_insns (u ∷ insns))))
    ∙ stops_block (u ∷ insns) y (before ++ selected_insn z) (sym (last_more z u insns) ∙ e) f

-- a block that ends with what does not go on
block_ends : (insns : List VmInsn) (before : List TempInsn) → block_stops vm.flows_on_of (Some insns) ≡ true → block_stops flows_on_of (Some (before ++ selected_insns insns)) ≡ true
block_ends insns before = by_last (last_of insns) refl
  where
    by_flow : (y : VmInsn) (c : Bool) → vm.flows_on_of y ≡ c → (if c then false else true) ≡ true → vm.flows_on_of y ≡ false
    by_flow y true e f = absurd (cc)
    by_flow y false e f = e

    by_last : (o : Option VmInsn) → last_of insns ≡ o → insn_stops vm.flows_on_of o ≡ true → insn_stops flows_on_of (last_of (before ++ selected_insns insns)) ≡ true
    by_last None e f = absurd (cc)
    by_last (Some y) e f = stops_block insns y before e (by_flow y (vm.flows_on_of y) refl f)

blocks_end : (blocks : List (List VmInsn)) → stops vm.flows_on_of blocks ≡ true → block_stops flows_on_of (last_of (map selected_insns blocks)) ≡ true
blocks_end [] e = absurd (cc)
blocks_end (block ∷ []) e = block_ends block [] e
blocks_end (block ∷ b ∷ blocks) e =
    ap (block_stops flows_on_of) (last_more (selected_insns block) (selected_insns b) (map selected_insns blocks))
    ∙ blocks_end (b ∷ blocks) (sym (ap (block_stops vm.flows_on_of) (last_more block b blocks)) ∙ e)

function_ends : (params : ℕ) (blocks : List (List VmInsn)) → stops vm.flows_on_of blocks ≡ true → stops flows_on_of (selected_blocks params blocks) ≡ true
function_ends params [] e = absurd (cc)
function_ends params (block ∷ []) e = block_ends block (parameter_items params) e
function_ends params (block ∷ b ∷ blocks) e =
    ap (block_stops flows_on_of) (last_more (parameter_items params ++ selected_insns block) (selected_insns b) (map selected_insns blocks))
    ∙ blocks_end (b ∷ blocks) (sym (ap (block_stops vm.flows_on_of) (last_more block b blocks)) ∙ e)

-- ---- the law

length-function : (params : ℕ) (blocks : List (List VmInsn)) → length (selected_blocks params blocks) ≡ length blocks
length-function params [] = refl
length-function params (block ∷ blocks) = ap suc (length-map blocks selected_insns)

pub blocks_shaped : BlocksAreShaped
blocks_shaped f =
    let n = length f.blocks in
    record {
      targets = subst (λ k. AllInsns (GoesToBlocks targets_of k) (selected_blocks f.params f.blocks)) (sym (length-function f.params f.blocks)) (function_goes n f.params f.blocks f.targets);
      straight = λ k d lt. ends_late (slice_index_or (selected_blocks f.params f.blocks) k d)
          (all_blocks (EndsLate vm.targets_of vm.flows_on_of) (λ zs. late zs ≡ true) block_late f.params
          (λ insns h. late_behind (parameter_items f.params) (selected_insns insns) (takes_plain 0 f.params) (block_late insns h)) f.blocks f.straight k d lt);
      stops = function_ends f.params f.blocks f.stops;
    }
