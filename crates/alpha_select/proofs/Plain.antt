-- Functions that have the code of others as these stand are as a program asks.
use Rattle.std.proofs.Common.{◌≡◌, ℕ, zero, suc, ◌+◌, ◌*◌, ◌<◌, ◌≤◌, List, [], ◌∷◌, length, map, sum_by, true, Some, All, refl, sym, ap, ◌∙◌, subst, arith}
use Rattle.std.specs.Prelude.{◌==◌, cond, slice_get, slice_index_or, IsTrue, codes, bytes_eq}
use Rattle.std.proofs.lemmas.List.Sums.{sum_by-cons}
use Rattle.std.proofs.lemmas.Option.{slice_get_within, slice_get-get_or, get_or_from_slice_get}
use Rattle.std.proofs.lemmas.List.Elements.{All-nil, All-cons, All-head, All-tail}
use Rattle.mem_objects.specs.declared.DataObject.{DataObject}
use Rattle.pass_core.specs.Functions.{AllInsns, count_of}
use Rattle.suifvm_ir.specs.Programs.{VmFunction, function_size, program_size}
use Rattle.suifvm_ir.specs.Programs as vm
use Rattle.suifvm_ir.specs.declared.insn.VmInsn.{VmInsn}
use Rattle.temp_ir.specs.declared.insn.TempInsn.{TempInsn}
use Rattle.temp_ir.specs.Fixed.{is_settled}
use Rattle.temp_ir.specs.Programs.{TempFn, is_main, main_count, function_takes, names_what_is_there, goes_back_to_marks, IsLawfulTempFn}
use Rattle.alloc_model.specs.Temporaries.{TemporaryCode, code_of}
use Rattle.selection_code.specs.Functions.{selected_blocks}
use Rattle.selection_bounds.proofs.SelectionShapes.Marks.{marks_kept}
use Rattle.selection_bounds.proofs.SelectionShapes.Named.{names_there}
use Rattle.selection_bounds.proofs.SelectionShapes.Settled.{functions_settled}
use Rattle.suifvm_ir.specs.declared.program.VmProgram.{VmProgram}
use Rattle.temp_ir.specs.declared.program.TempProgram.{TempProgram}
use Rattle.selection_code.specs.Fields.{HasFields}
use Rattle.selection_bounds.proofs.SelectionCosts.Lengths.{code_short}
use Rattle.selection_bounds.proofs.SelectionCosts.Costs.{costs_little}
use Rattle.selection_laws.proofs.Plain.{plain_code}
use Rattle.alpha_select.specs.Selection.{CostLittle}

pub record IsPlain (f : VmFunction) (g : TempFn) : Type 0 where
  pub name : g.name ≡ f.name
  pub params : g.params ≡ f.params
  pub temps : g.temps ≡ f.temps + 4
  pub objects : g.objects ≡ f.objects
  pub blocks : g.blocks ≡ selected_blocks f.params f.blocks

abbrev pub ArePlain : List VmFunction → List TempFn → Type 0
ArePlain [] [] = Unit {0}
ArePlain (f ∷ fs) (g ∷ gs) = IsPlain f g × ArePlain fs gs
ArePlain _ _ = ⊥

-- ---- lists

pub same_length : (fs : List VmFunction) (gs : List TempFn) → ArePlain fs gs → length gs ≡ length fs
same_length [] [] h = refl
same_length [] (g ∷ gs) h = absurd h
same_length (f ∷ fs) [] h = absurd h
same_length (f ∷ fs) (g ∷ gs) h = ap suc (same_length fs gs h.1)

with_parts : List ℕ → List (List TempInsn) → TemporaryCode
with_parts sizes blocks = record { sizes = sizes; blocks = blocks }

one_code : (f : VmFunction) (g : TempFn) → IsPlain f g → code_of g ≡ plain_code f
unfolding with_parts
one_code f g s = ap (λ os. with_parts (map (λ o. o.size) os) g.blocks) s.objects ∙ ap (with_parts (map (λ o. o.size) f.objects)) s.blocks

pub same_code : (fs : List VmFunction) (gs : List TempFn) → ArePlain fs gs → map code_of gs ≡ map plain_code fs
same_code [] [] h = refl
same_code [] (g ∷ gs) h = absurd h
same_code (f ∷ fs) [] h = absurd h
same_code (f ∷ fs) (g ∷ gs) h = ap (λ c. c ∷ map code_of gs) (one_code f g h.0) ∙ ap (λ l. plain_code f ∷ l) (same_code fs gs h.1)

pub same_names : (fs : List VmFunction) (gs : List TempFn) → ArePlain fs gs → map (λ (g : TempFn). g.name) gs ≡ map (λ (f : VmFunction). f.name) fs
same_names [] [] h = refl
same_names [] (g ∷ gs) h = absurd h
same_names (f ∷ fs) [] h = absurd h
same_names (f ∷ fs) (g ∷ gs) h = ap (λ c. c ∷ map (λ (t : TempFn). t.name) gs) h.0.name ∙ ap (λ l. f.name ∷ l) (same_names fs gs h.1)

same_main : (f : VmFunction) (g : TempFn) → IsPlain f g → is_main g ≡ vm.is_main f
same_main f g s = ap (λ n. bytes_eq n (codes "main")) s.name

pub same_mains : (fs : List VmFunction) (gs : List TempFn) → ArePlain fs gs → main_count gs ≡ vm.main_count fs
same_mains [] [] h = refl
same_mains [] (g ∷ gs) h = absurd h
same_mains (f ∷ fs) [] h = absurd h
same_mains (f ∷ fs) (g ∷ gs) h =
    sum_by-cons (λ t. cond (is_main t) 1 0) g gs ∙ ap (λ b. cond b 1 0 + main_count gs) (same_main f g h.0)
    ∙ ap (λ n. cond (vm.is_main f) 1 0 + n) (same_mains fs gs h.1) ∙ sym (sum_by-cons (λ t. cond (vm.is_main t) 1 0) f fs)

pub same_takes : (fs : List VmFunction) (gs : List TempFn) → ArePlain fs gs → (k count : ℕ) → vm.function_takes count (slice_get fs k) ≡ true → function_takes count (slice_get gs k) ≡ true
same_takes [] [] h k count e = absurd (cc)
same_takes [] (g ∷ gs) h k count e = absurd h
same_takes (f ∷ fs) [] h k count e = absurd h
same_takes (f ∷ fs) (g ∷ gs) h zero count e = ap (λ n. n == count) h.0.params ∙ e
same_takes (f ∷ fs) (g ∷ gs) h (suc k) count e = same_takes fs gs h.1 k count e

-- ---- one function

module _ (fs : List VmFunction) (gs : List TempFn) (globals : List DataObject) (all : ArePlain fs gs) where
  marks_of : (f : VmFunction) → vm.IsLawfulFunction fs globals f → (b : ℕ) (insns : List VmInsn) → slice_get f.blocks b ≡ Some insns → All (λ y. IsTrue (vm.goes_back_to_marks f.blocks b y)) insns
  marks_of f law b insns there =
      subst (λ l. All (λ y. IsTrue (vm.goes_back_to_marks f.blocks b y)) l) (get_or_from_slice_get f.blocks b insns [] there)
      (law.marks b (slice_get_within f.blocks b insns there))

  marks_are : (f : VmFunction) → vm.IsLawfulFunction fs globals f → (bs : List (List TempInsn)) → bs ≡ selected_blocks f.params f.blocks →
      (b : ℕ) → b < length bs → All (λ z. IsTrue (goes_back_to_marks bs b z)) (slice_index_or bs b [])
  marks_are f law bs is b lt =
      subst (λ l. All (λ z. IsTrue (goes_back_to_marks l b z)) (slice_index_or bs b [])) (sym is)
      (marks_kept f (marks_of f law) b (slice_index_or bs b []) (ap (λ l. slice_get l b) (sym is) ∙ slice_get-get_or bs b [] lt))

  lawful : (f : VmFunction) (g : TempFn) → IsPlain f g → vm.IsLawfulFunction fs globals f → IsLawfulTempFn gs globals g
  lawful f g s law = record {
    main = λ e. s.params ∙ law.main (sym (same_main f g s) ∙ e);
    names = subst (λ bs. AllInsns (λ i. IsTrue (names_what_is_there gs globals g.objects i)) bs) (sym s.blocks)
        (subst (λ os. AllInsns (λ i. IsTrue (names_what_is_there gs globals os i)) (selected_blocks f.params f.blocks)) (sym s.objects)
        (names_there fs gs globals f (same_takes fs gs all) law.names));
    marks = marks_are f law g.blocks s.blocks;
    settled = subst (λ bs. IsTrue (is_settled g.params bs)) (sym s.blocks)
        (subst (λ p. IsTrue (is_settled p (selected_blocks f.params f.blocks))) (sym s.params) (functions_settled f));
  }

  each_lawful : (xs : List VmFunction) (ys : List TempFn) → ArePlain xs ys → All (vm.IsLawfulFunction fs globals) xs → All (IsLawfulTempFn gs globals) ys
  each_lawful [] [] h law = All-nil (IsLawfulTempFn gs globals)
  each_lawful [] (g ∷ ys) h law = absurd h
  each_lawful (f ∷ xs) [] h law = absurd h
  each_lawful (f ∷ xs) (g ∷ ys) h law =
      All-cons (IsLawfulTempFn gs globals) g ys (lawful f g h.0 (All-head (vm.IsLawfulFunction fs globals) f xs law))
      (each_lawful xs ys h.1 (All-tail (vm.IsLawfulFunction fs globals) f xs law))

  pub all_lawful : All (vm.IsLawfulFunction fs globals) fs → All (IsLawfulTempFn gs globals) gs
  all_lawful law = each_lawful fs gs all law

-- ---- their size

one_short : (f : VmFunction) (g : TempFn) → IsPlain f g → 5 * length g.blocks + count_of g.blocks ≤ 13 * function_size f
one_short f g s = subst (λ bs. 5 * length bs + count_of bs ≤ 13 * function_size f) (sym s.blocks) (code_short f).count

pub all_short : (fs : List VmFunction) (gs : List TempFn) → ArePlain fs gs → sum_by (λ (g : TempFn). 5 * length g.blocks + count_of g.blocks) gs ≤ 13 * program_size fs
all_short [] [] h = omega arith
all_short [] (g ∷ gs) h = absurd h
all_short (f ∷ fs) [] h = absurd h
all_short (f ∷ fs) (g ∷ gs) h =
    omega (arith, one_short f g h.0, all_short fs gs h.1, sum_by-cons (λ (t : TempFn). 5 * length t.blocks + count_of t.blocks) g gs, sum_by-cons function_size f fs)

-- ---- their cost

pub all_cost : (fs : List VmFunction) (gs : List TempFn) → ArePlain fs gs → CostLittle fs gs
all_cost [] [] h = tt
all_cost [] (g ∷ gs) h = absurd h
all_cost (f ∷ fs) [] h = absurd h
all_cost (f ∷ fs) (g ∷ gs) h = (costs_little f g h.0.blocks, all_cost fs gs h.1)
