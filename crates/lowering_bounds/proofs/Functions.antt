-- What the code of a typed function keeps.
use Rattle.std.proofs.Common.{◌≡◌, ◌≤◌, ℕ, zero, suc, ◌+◌, ◌*◌, max, nat_le, Bool, true, IsTrue, List, [], ◌∷◌, Option, Some, None, length, map, take, refl, sym, ap, ◌∙◌, arith, eq-eqb, le-leb, leb-true, length-take}
use Rattle.std.specs.Prelude.{All, slice_get, sum_by, option_map}
use Rattle.std.proofs.lemmas.Option.{slice_get-map}
use Rattle.std.proofs.lemmas.List.{length-map}
use Rattle.std.proofs.lemmas.List.Elements.{All-weaker}
use Rattle.c_typed_tree.specs.declared.units.TypedFn.{TypedFn}
use Rattle.c_typed_tree.specs.declared.units.TypedUnit.{TypedUnit}
use Rattle.c_typed_tree.specs.View.{type_view, stmt_view}
use Rattle.c_typed_tree.specs.Typing.{Signature}
use Rattle.c_typed_tree.specs.TypingStatements.{no_jumps}
use Rattle.c_typed_tree.specs.Lawful.{IsLawfulStruct, IsTypedFn, context_of, signature_of, type_of_local, is_main}
use Rattle.c_typed_tree.specs.Weight.{stmt_weight, function_weight}
use Rattle.suifvm_ir.specs.declared.insn.VmInsn as vm
use Rattle.suifvm_ir.specs.Insns.{targets_of, flows_on_of}
use Rattle.pass_core.specs.Functions.{AllInsns, count_of, edge_count}
use Rattle.suifvm_ir.specs.Programs.{VmFunction, names_what_is_there, function_takes, weight_of, arguments_of}
use Rattle.suifvm_ir.specs.Cost.{insn_cost}
use Rattle.lowering_code.specs.Functions.{objects_of, items_of, function_blocks}
use Rattle.lowering_layout.specs.Good.{IsGood}
use Rattle.lowering_layout.specs.Tops.{blocks_top}
use Rattle.c_typing_struct_layout.proofs.CLayoutLaws.Truth.{front, back, none_some, all_at}
use Rattle.lowering_bounds.specs.model.Costs.{items_cost}
use Rattle.lowering_bounds.specs.model.Depths.{stmt_depths}
use Rattle.lowering_bounds.proofs.Pieces as m
use Rattle.lowering_bounds.specs.Laws.{TakesArguments}
use Rattle.lowering_bounds.proofs.Statements.{body_emits}
use Rattle.lowering_bounds.proofs.Weights.{locals_declared, few_registers}
use Rattle.lowering_bounds.proofs.Blocks.{is_narrow, merge, PassesWays, Q, holds_all, blocks_low, BlocksCost, blocks_cost}

taken : {A : Type 0} (n : ℕ) (xs : List A) (i : ℕ) (x : A) → slice_get (take n xs) i ≡ Some x → slice_get xs i ≡ Some x
taken zero [] i x e = none_some x e
taken zero (y ∷ xs) i x e = none_some x e
taken (suc n) [] i x e = none_some x e
taken (suc n) (y ∷ xs) zero x e = e
taken (suc n) (y ∷ xs) (suc i) x e = taken n xs i x e

-- ---- functions by their numbers take the arguments of their signatures

takes_count : (fs : List VmFunction) (k count : ℕ) (o : Option VmFunction) → slice_get fs k ≡ o → option_map (λ (g : VmFunction). g.params) o ≡ Some count → IsTrue (function_takes count o)
takes_count fs k count None e h = none_some count h
takes_count fs k count (Some g) e h = let same : g.params ≡ count = cc in eq-eqb g.params count same

signature_count : (u : TypedUnit) → All (IsTypedFn u) u.functions → (k : ℕ) (s : Signature) (o : Option TypedFn) → slice_get u.functions k ≡ o → option_map signature_of o ≡ Some s → option_map (λ (f : TypedFn). f.params) o ≡ Some (length s.params)
signature_count u typed k s None e h = none_some s h
signature_count u typed k s (Some f) e h =
    let same : signature_of f ≡ s = cc in
    let t : IsTypedFn u f = all_at (IsTypedFn u) u.functions k f typed e in
    let count : length (map type_of_local (take f.params f.locals)) ≡ f.params = omega (arith, length-map (take f.params f.locals) type_of_local, length-take f.params f.locals, t.params) in
    ap Some (sym count ∙ ap (λ (z : Signature). length z.params) same)

pub takes_arguments : (u : TypedUnit) (fs : List VmFunction) → All (IsTypedFn u) u.functions → map (λ (g : VmFunction). g.params) fs ≡ map (λ (f : TypedFn). f.params) u.functions
    → TakesArguments fs (map signature_of u.functions)
takes_arguments u fs typed same k s e =
    let signed : option_map signature_of (slice_get u.functions k) ≡ Some s = sym (slice_get-map signature_of u.functions k) ∙ e in
    let here : option_map (λ (f : TypedFn). f.params) (slice_get u.functions k) ≡ Some (length s.params) = signature_count u typed k s (slice_get u.functions k) refl signed in
    let there : option_map (λ (g : VmFunction). g.params) (slice_get fs k) ≡ Some (length s.params) =
    sym (slice_get-map (λ (g : VmFunction). g.params) fs k) ∙ ap (λ ps. slice_get ps k) same ∙ slice_get-map (λ (f : TypedFn). f.params) u.functions k ∙ here in
    takes_count fs k (length s.params) (slice_get fs k) refl there

-- ---- one function

module _ (u : TypedUnit) (f : TypedFn) (fs : List VmFunction) (structs : All (IsLawfulStruct u.structs) u.structs) (t : IsTypedFn u f) (calls : TakesArguments fs (map signature_of u.functions)) where
  abbrev most : ℕ
  most = length f.locals + 5 * max 1 (stmt_depths (stmt_view f.body))

  body_is : m.Emits most fs u.globals (objects_of u.structs f.locals) (216 * f.params + 2048 * stmt_weight u.structs (stmt_view f.body)) [] (items_of u.structs f)
  body_is =
      body_emits most fs (context_of u f) structs t.locals calls (type_view f.result) f.params (stmt_view f.body) (take f.params f.locals) (taken f.params f.locals)
      (omega (arith, length-take f.params f.locals)) no_jumps t.body (omega arith)

  abbrev W : ℕ
  W = function_weight u.structs f

  abbrev narrow : vm.VmInsn → Bool
  narrow = is_narrow (names_what_is_there fs u.globals (objects_of u.structs f.locals)) W

  none_below : nat_le 0 W ≡ true
  none_below = le-leb 0 W (omega arith)

  ways : PassesWays most narrow
  ways = record { jump = λ t. none_below; branch = λ op ty r t. none_below; give = λ v. none_below; mark = none_below; constant = λ r. none_below }

  all_hold : AllInsns (Q most narrow) (function_blocks u.structs f)
  all_hold =
      holds_all most narrow ways (length f.locals) (is_main f) (items_of u.structs f) (omega arith)
      (merge most (names_what_is_there fs u.globals (objects_of u.structs f.locals)) W (items_of u.structs f) (body_is.fits tt) (body_is.wide W (omega arith) tt))

  -- what instructions name is there, and their arguments are few
  pub names_there : AllInsns (λ i. IsTrue (names_what_is_there fs u.globals (objects_of u.structs f.locals) i)) (function_blocks u.structs f)
  names_there =
      All-weaker (All (Q most narrow)) (All (λ i. IsTrue (names_what_is_there fs u.globals (objects_of u.structs f.locals) i)))
      (λ b a. All-weaker (Q most narrow) (λ i. IsTrue (names_what_is_there fs u.globals (objects_of u.structs f.locals) i)) (λ i q. front (names_what_is_there fs u.globals (objects_of u.structs f.locals) i) (nat_le (arguments_of i) W) q.1) b a)
      (function_blocks u.structs f) all_hold

  pub arguments_few : AllInsns (λ i. arguments_of i ≤ W) (function_blocks u.structs f)
  arguments_few =
      All-weaker (All (Q most narrow)) (All (λ i. arguments_of i ≤ W))
      (λ b a. All-weaker (Q most narrow) (λ i. arguments_of i ≤ W) (λ i q. leb-true (arguments_of i) W (back (names_what_is_there fs u.globals (objects_of u.structs f.locals) i) (nat_le (arguments_of i) W) q.1)) b a)
      (function_blocks u.structs f) all_hold

  pub top_low : max f.params (blocks_top (function_blocks u.structs f)) ≤ 7 * function_weight u.structs f
  top_low =
      omega (
        arith,
        blocks_low most narrow (function_blocks u.structs f) all_hold,
        few_registers (context_of u f) (type_view f.result) no_jumps (stmt_view f.body) (length f.locals) f.params t.block t.body (locals_declared f.params (length f.locals) (stmt_view f.body) t.declares),
      )

  module _ (large : ℕ) (good : IsGood large 0 (items_of u.structs f)) where
    cost_is : BlocksCost (function_blocks u.structs f) (items_cost (items_of u.structs f))
    cost_is = blocks_cost large (length f.locals) (is_main f) (items_of u.structs f) good

    pub cost_low : 64 + 24 * f.params + sum_by (λ b. sum_by insn_cost b) (function_blocks u.structs f) + 536 * edge_count targets_of flows_on_of (function_blocks u.structs f) ≤ 2048 * (function_weight u.structs f + 1)
    cost_low = omega (arith, cost_is.cost, body_is.cost)

    pub size_low : 24 * (length (function_blocks u.structs f) + count_of (function_blocks u.structs f) + f.params + sum_by (λ b. sum_by weight_of b) (function_blocks u.structs f)) ≤ 2048 * (function_weight u.structs f + 1)
    size_low = omega (arith, cost_is.size, body_is.cost)
