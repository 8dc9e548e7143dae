-- The functions that were lowered are those of a lawful program, within the weight of their sources.
use Rattle.std.proofs.Common.{◌≡◌, ◌≤◌, ◌<◌, ℕ, zero, suc, ◌+◌, ◌*◌, ◌-◌, ◌^◌, ◌==◌, Bool, true, false, IsTrue, List, [], ◌∷◌, ◌++◌, length, map, filter, take, get_or, cond, refl, sym, ap, ◌∙◌, subst, arith, eqb-true}
use Rattle.std.specs.Prelude.{All, sum_by, count_by, bytes_eq, codes}
use Rattle.std.specs.List.{list_all}
use Rattle.std.proofs.lemmas.List.{take_all}
use Rattle.std.proofs.lemmas.List.Elements.{All-nil, All-cons, All-head, All-tail}
use Rattle.std.proofs.lemmas.List.Sums.{sum_by-cons, length-filter}
use Rattle.c_typed_tree.specs.declared.types.StructDef.{StructDef}
use Rattle.c_typed_tree.specs.declared.units.TypedFn.{TypedFn}
use Rattle.c_typed_tree.specs.declared.units.TypedUnit.{TypedUnit}
use Rattle.c_typed_tree.specs.View.{type_view}
use Rattle.c_typed_tree.specs.Typing.{is_same_type, int}
use Rattle.c_typed_tree.specs.Weight.{function_weight, unit_weight}
use Rattle.c_typing_weight.specs.Limits.{most_weight}
use Rattle.c_typed_tree.specs.Lawful as lawful
use Rattle.c_typed_tree.specs.Lawful.{IsLawfulUnit, IsTypedFn, IsLawfulStruct, is_start, signature_of}
use Rattle.suifvm_ir.specs.Insns.{targets_of, flows_on_of}
use Rattle.pass_core.specs.Functions.{AllInsns, count_of, edge_count}
use Rattle.suifvm_ir.specs.Programs as program
use Rattle.suifvm_ir.specs.Programs.{VmFunction, IsLawfulFunction, names_what_is_there, main_count, weight_of, function_size, program_size, arguments_of}
use Rattle.suifvm_ir.specs.Cost.{insn_cost}
use Rattle.lowering_code.specs.Functions.{objects_of, items_of}
use Rattle.lowering_layout.specs.Good.{IsGood}
use Rattle.lowering_layout.specs.Tops.{blocks_top}
use Rattle.lowering_functions.proofs.Bodies.{good_items}
use Rattle.c_typing_struct_layout.proofs.CLayoutLaws.Truth.{front, back}
use Rattle.lowering_bounds.specs.Laws.{TakesArguments}
use Rattle.lowering_bounds.proofs.Functions.{takes_arguments, names_there, top_low, arguments_few, cost_low, size_low}
use Rattle.lowering.specs.Lowered.{IsLowered, AreLowered, IsWithinWeight, AreWithinWeight}
use Rattle.lowering.specs.model.Premises.{CanBeLowered}
use Rattle.lowering.proofs.Parts.{can_be_lowered}

-- ---- the functions so far

pub lowered_none : (ds : List StructDef) (fs : List TypedFn) → AreLowered ds (take 0 fs) []
lowered_none ds fs = tt

-- one more of each
one_more : (ds : List StructDef) (fs : List TypedFn) (gs : List VmFunction) (i : ℕ) (f : TypedFn) (g : VmFunction) → i < length fs → f ≡ get_or fs i f → AreLowered ds (take i fs) gs → IsLowered ds f g
    → AreLowered ds (take (suc i) fs) (gs ++ g ∷ [])
one_more ds [] gs i f g lt e so_far l = absurd (omega (arith, lt))
one_more ds (x ∷ fs) [] zero f g lt e so_far l = (subst (λ y. IsLowered ds y g) e l, tt)
one_more ds (x ∷ fs) (y ∷ gs) zero f g lt e so_far l = absurd so_far
one_more ds (x ∷ fs) [] (suc i) f g lt e so_far l = absurd so_far
one_more ds (x ∷ fs) (y ∷ gs) (suc i) f g lt e so_far l = (so_far.0, one_more ds fs gs i f g (omega (arith, lt)) e so_far.1 l)

pub lowered_more : (ds : List StructDef) (fs : List TypedFn) (gs : List VmFunction) (i n : ℕ) (f : TypedFn) (g : VmFunction) → n ≡ i + 1 → i < length fs → f ≡ get_or fs i f → AreLowered ds (take i fs) gs → IsLowered ds f g
    → AreLowered ds (take n fs) (gs ++ g ∷ [])
lowered_more ds fs gs i n f g next lt e so_far l =
    let same : suc i ≡ n = omega (arith, next) in
    subst (λ k. AreLowered ds (take k fs) (gs ++ g ∷ [])) same (one_more ds fs gs i f g lt e so_far l)

pub lowered_all : (ds : List StructDef) (fs : List TypedFn) (gs : List VmFunction) (i : ℕ) → length fs ≤ i → AreLowered ds (take i fs) gs → AreLowered ds fs gs
lowered_all ds fs gs i le l = subst (λ (xs : List TypedFn). AreLowered ds xs gs) (whole fs i le) l
  where
    whole : (xs : List TypedFn) (i : ℕ) → length xs ≤ i → take i xs ≡ xs
    whole xs i le = take_all i xs le

-- ---- premises

all_can : (u : TypedUnit) → All (IsLawfulStruct u.structs) u.structs → (fs : List TypedFn) → All (IsTypedFn u) fs → sum_by (λ (f : TypedFn). 1 + function_weight u.structs f) fs ≤ most_weight → All (CanBeLowered u.structs) fs
all_can u structs [] t w = All-nil (CanBeLowered u.structs)
all_can u structs (f ∷ fs) t w =
    let sum : sum_by (λ (f : TypedFn). 1 + function_weight u.structs f) (f ∷ fs) ≡ (1 + function_weight u.structs f) + sum_by (λ (f : TypedFn). 1 + function_weight u.structs f) fs = sum_by-cons (λ (f : TypedFn). 1 + function_weight u.structs f) f fs in
    All-cons (CanBeLowered u.structs) f fs (can_be_lowered u f structs (All-head (IsTypedFn u) f fs t) (omega (arith, sum, w))) (all_can u structs fs (All-tail (IsTypedFn u) f fs t) (omega (arith, sum, w)))

pub unit_can : (u : TypedUnit) → IsLawfulUnit u → unit_weight u ≤ most_weight → All (CanBeLowered u.structs) u.functions
unit_can u l w = all_can u l.typed.structs u.functions l.typed.functions (omega (arith, w))

-- ---- the program

module _ (ds : List StructDef) where
  pub same_length : (fs : List TypedFn) (gs : List VmFunction) → AreLowered ds fs gs → length gs ≡ length fs
  same_length [] [] l = refl
  same_length [] (g ∷ gs) l = absurd l
  same_length (f ∷ fs) [] l = absurd l
  same_length (f ∷ fs) (g ∷ gs) l = ap suc (same_length fs gs l.1)

  same_params : (fs : List TypedFn) (gs : List VmFunction) → AreLowered ds fs gs → map (λ (g : VmFunction). g.params) gs ≡ map (λ (f : TypedFn). f.params) fs
  same_params [] [] l = refl
  same_params [] (g ∷ gs) l = absurd l
  same_params (f ∷ fs) [] l = absurd l
  same_params (f ∷ fs) (g ∷ gs) l =
      ap (λ p. p ∷ map (λ (g : VmFunction). g.params) gs) l.0.params ∙ ap (λ ps. f.params ∷ ps) (same_params fs gs l.1)

  mains_same : (fs : List TypedFn) (gs : List VmFunction) → AreLowered ds fs gs → count_by program.is_main gs ≡ count_by lawful.is_main fs
  mains_same [] [] l = refl
  mains_same [] (g ∷ gs) l = absurd l
  mains_same (f ∷ fs) [] l = absurd l
  mains_same (f ∷ fs) (g ∷ gs) l =
      let same : program.is_main g ≡ lawful.is_main f = ap (λ n. bytes_eq n (codes "main")) l.0.name in
      sum_by-cons (λ (g : VmFunction). cond (program.is_main g) 1 0) g gs
      ∙ ap (λ b. cond b 1 0 + count_by program.is_main gs) same
      ∙ ap (λ n. cond (lawful.is_main f) 1 0 + n) (mains_same fs gs l.1)
      ∙ sym (sum_by-cons (λ (f : TypedFn). cond (lawful.is_main f) 1 0) f fs)

pub one_main : (u : TypedUnit) (gs : List VmFunction) → IsLawfulUnit u → AreLowered u.structs u.functions gs → main_count gs ≡ 1
one_main u gs h l = mains_same u.structs u.functions gs l ∙ sym (length-filter lawful.is_main u.functions) ∙ h.typed.main.one

-- `main` has no parameters
start_takes_none : (f : TypedFn) (fs : List TypedFn) → IsTrue (list_all is_start (filter lawful.is_main (f ∷ fs))) → lawful.is_main f ≡ true → f.params ≡ 0
start_takes_none f fs h m =
    let all : IsTrue (list_all is_start (f ∷ filter lawful.is_main fs)) = subst (λ b. IsTrue (list_all is_start (cond b (f ∷ filter lawful.is_main fs) (filter lawful.is_main fs)))) m h in
    eqb-true f.params 0 (back (is_same_type (type_view f.result) int) (f.params == 0) (front (is_start f) (list_all is_start (filter lawful.is_main fs)) all))

starts_after : (f : TypedFn) (fs : List TypedFn) → IsTrue (list_all is_start (filter lawful.is_main (f ∷ fs))) → IsTrue (list_all is_start (filter lawful.is_main fs))
starts_after f fs h = by (lawful.is_main f) h
  where
    by : (b : Bool) → IsTrue (list_all is_start (cond b (f ∷ filter lawful.is_main fs) (filter lawful.is_main fs))) → IsTrue (list_all is_start (filter lawful.is_main fs))
    by true h = back (is_start f) (list_all is_start (filter lawful.is_main fs)) h
    by false h = h

module _ (u : TypedUnit) (l : IsLawfulUnit u) (all : List VmFunction) (calls : TakesArguments all (map signature_of u.functions)) where
  names_of : (f : TypedFn) (g : VmFunction) → IsTypedFn u f → IsLowered u.structs f g → AllInsns (λ i. IsTrue (names_what_is_there all u.globals g.objects i)) g.blocks
  names_of f g t is =
      subst (λ os. AllInsns (λ i. IsTrue (names_what_is_there all u.globals os i)) g.blocks) (sym is.objects)
      (subst (λ bs. AllInsns (λ i. IsTrue (names_what_is_there all u.globals (objects_of u.structs f.locals) i)) bs) (sym is.blocks) (names_there u f all l.typed.structs t calls))

  lawful_functions : (fs : List TypedFn) (gs : List VmFunction) → All (IsTypedFn u) fs → IsTrue (list_all is_start (filter lawful.is_main fs)) → AreLowered u.structs fs gs → All (IsLawfulFunction all u.globals) gs
  lawful_functions [] [] t s is = All-nil (IsLawfulFunction all u.globals)
  lawful_functions [] (g ∷ gs) t s is = absurd is
  lawful_functions (f ∷ fs) [] t s is = absurd is
  lawful_functions (f ∷ fs) (g ∷ gs) t s is =
      All-cons (IsLawfulFunction all u.globals) g gs (record {
        parameters = omega (arith, is.0.temps);
        main = λ m. is.0.params ∙ start_takes_none f fs s (sym (ap (λ n. bytes_eq n (codes "main")) is.0.name) ∙ m);
        names = names_of f g (All-head (IsTypedFn u) f fs t) is.0;
        marks = is.0.marks;
      }) (lawful_functions fs gs (All-tail (IsTypedFn u) f fs t) (starts_after f fs s) is.1)

  -- ---- weights

  good : (f : TypedFn) → CanBeLowered u.structs f → IsGood (2 ^ 32 - 1) 0 (items_of u.structs f)
  good f can = good_items u.structs f (items_of u.structs f) refl can.few can.registers

  within : (f : TypedFn) (g : VmFunction) → IsTypedFn u f → CanBeLowered u.structs f → IsLowered u.structs f g → IsWithinWeight u.structs f g
  within f g t can is = record {
    registers = omega (arith, is.temps, is.params, ap blocks_top is.blocks, top_low u f all l.typed.structs t calls);
    arguments = subst (λ bs. AllInsns (λ i. arguments_of i ≤ function_weight u.structs f) bs) (sym is.blocks) (arguments_few u f all l.typed.structs t calls);
    cost = omega (arith, is.params, ap (λ bs. sum_by (λ b. sum_by insn_cost b) bs) is.blocks, ap (λ bs. edge_count targets_of flows_on_of bs) is.blocks, cost_low u f all l.typed.structs t calls (2 ^ 32 - 1) (good f can));
  }

  pub within_weight : (fs : List TypedFn) (gs : List VmFunction) → All (IsTypedFn u) fs → All (CanBeLowered u.structs) fs → AreLowered u.structs fs gs → AreWithinWeight u.structs fs gs
  within_weight [] gs t can is = tt
  within_weight (f ∷ fs) [] t can is = tt
  within_weight (f ∷ fs) (g ∷ gs) t can is =
      (within f g (All-head (IsTypedFn u) f fs t) (All-head (CanBeLowered u.structs) f fs can) is.0, within_weight fs gs (All-tail (IsTypedFn u) f fs t) (All-tail (CanBeLowered u.structs) f fs can) is.1)

  size_of_one : (f : TypedFn) (g : VmFunction) → IsTypedFn u f → CanBeLowered u.structs f → IsLowered u.structs f g → 24 * function_size g ≤ 2048 * (function_weight u.structs f + 1)
  size_of_one f g t can is =
      omega (arith, is.params, ap (λ bs. length bs) is.blocks, ap count_of is.blocks, ap (λ bs. sum_by (λ b. sum_by weight_of b) bs) is.blocks, size_low u f all l.typed.structs t calls (2 ^ 32 - 1) (good f can))

  sizes_of : (fs : List TypedFn) (gs : List VmFunction) → All (IsTypedFn u) fs → All (CanBeLowered u.structs) fs → AreLowered u.structs fs gs → 24 * sum_by function_size gs ≤ 2048 * sum_by (λ (f : TypedFn). 1 + function_weight u.structs f) fs
  sizes_of [] [] t can is = omega arith
  sizes_of [] (g ∷ gs) t can is = absurd is
  sizes_of (f ∷ fs) [] t can is = absurd is
  sizes_of (f ∷ fs) (g ∷ gs) t can is =
      omega (
        arith,
        sum_by-cons function_size g gs,
        sum_by-cons (λ (f : TypedFn). 1 + function_weight u.structs f) f fs,
        size_of_one f g (All-head (IsTypedFn u) f fs t) (All-head (CanBeLowered u.structs) f fs can) is.0,
        sizes_of fs gs (All-tail (IsTypedFn u) f fs t) (All-tail (CanBeLowered u.structs) f fs can) is.1,
      )

pub record IsProgram (u : TypedUnit) (gs : List VmFunction) : Type 0 where
  pub few : length gs < 2 ^ 32
  pub main : main_count gs ≡ 1
  pub functions : All (IsLawfulFunction gs u.globals) gs
  pub weights : AreWithinWeight u.structs u.functions gs
  pub size : program_size gs ≤ 2 ^ 24

pub program_is : (u : TypedUnit) (gs : List VmFunction) → IsLawfulUnit u → unit_weight u ≤ most_weight → AreLowered u.structs u.functions gs → IsProgram u gs
program_is u gs l w is =
    let calls : TakesArguments gs (map signature_of u.functions) = takes_arguments u gs l.typed.functions (same_params u.structs u.functions gs is) in
    let can = unit_can u l w in
    record {
      few = omega (arith, same_length u.structs u.functions gs is, l.functions);
      main = one_main u gs l is;
      functions = lawful_functions u l gs calls u.functions gs l.typed.functions l.typed.main.type is;
      weights = within_weight u l gs calls u.functions gs l.typed.functions can is;
      size = omega (arith, sizes_of u l gs calls u.functions gs l.typed.functions can is, w);
    }
