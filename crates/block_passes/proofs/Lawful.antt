-- Functions behind a pass are as a program asks.
use Rattle.std.proofs.Common.{◌≡◌, ℕ, zero, suc, ◌+◌, List, [], ◌∷◌, length, All, refl, sym, ap, ◌∙◌}
use Rattle.std.specs.Prelude.{◌==◌, cond, slice_get, codes, bytes_eq, IsTrue}
use Rattle.std.specs.List.{AllZip}
use Rattle.std.proofs.lemmas.List.Sums.{sum_by-cons}
use Rattle.mem_objects.specs.declared.DataObject.{DataObject}
use Rattle.pass_core.specs.declared.function.MemoryLocal.{MemoryLocal}
use Rattle.temp_ir.specs.declared.insn.TempInsn.{TempInsn}
use Rattle.temp_ir.specs.declared.insn.TempInsn.TheVariants as i
use Rattle.temp_ir.specs.Programs.{TempFn, is_main, main_count, function_takes, names_what_is_there, IsLawfulTempFn}
use Rattle.block_passes.specs.Keeps.{NamesWhatIsThere, KeepsFunction}
use Rattle.block_passes.proofs.Turns.{all_give}

module _ (splits : ℕ) where
  abbrev Kept : List TempFn → List TempFn → Type 0
  Kept fs gs = AllZip (KeepsFunction splits) fs gs

  pub same_length : (fs gs : List TempFn) → Kept fs gs → length gs ≡ length fs
  same_length [] [] h = refl
  same_length [] (g ∷ gs) h = absurd h
  same_length (f ∷ fs) [] h = absurd h
  same_length (f ∷ fs) (g ∷ gs) h = ap suc (same_length fs gs h.1)

  same_main : (f g : TempFn) → KeepsFunction splits f g → is_main g ≡ is_main f
  same_main f g p = ap (λ n. bytes_eq n (codes "main")) p.name

  pub same_mains : (fs gs : List TempFn) → Kept fs gs → main_count gs ≡ main_count fs
  same_mains [] [] h = refl
  same_mains [] (g ∷ gs) h = absurd h
  same_mains (f ∷ fs) [] h = absurd h
  same_mains (f ∷ fs) (g ∷ gs) h =
      sum_by-cons (λ t. cond (is_main t) 1 0) g gs ∙ ap (λ b. cond b 1 0 + main_count gs) (same_main f g h.0)
      ∙ ap (λ n. cond (is_main f) 1 0 + n) (same_mains fs gs h.1) ∙ sym (sum_by-cons (λ t. cond (is_main t) 1 0) f fs)

  -- ---- names

  same_takes : (fs gs : List TempFn) → Kept fs gs → (k count : ℕ) → function_takes count (slice_get gs k) ≡ function_takes count (slice_get fs k)
  same_takes [] [] h k count = refl
  same_takes [] (g ∷ gs) h k count = absurd h
  same_takes (f ∷ fs) [] h k count = absurd h
  same_takes (f ∷ fs) (g ∷ gs) h zero count = ap (λ n. n == count) h.0.params
  same_takes (f ∷ fs) (g ∷ gs) h (suc k) count = same_takes fs gs h.1 k count

module _ (splits : ℕ) (fs gs : List TempFn) (globals : List DataObject) (all : AllZip (KeepsFunction splits) fs gs) where
  same_names : (objects : List MemoryLocal) (x : TempInsn) → IsTrue (names_what_is_there fs globals objects x) → IsTrue (names_what_is_there gs globals objects x)
  same_names objects (i.Call function arguments) h = same_takes splits fs gs all function arguments ∙ h
  same_names objects (i.ObjectAddress d place plus) h = h
  same_names objects (i.Address op d base plus) h = refl
  same_names objects (i.Load op d p plus) h = refl
  same_names objects (i.Store op a p plus) h = refl
  same_names objects (i.Operate op d a b) h = refl
  same_names objects (i.Extend op d a) h = refl
  same_names objects (i.ToFixed register a) h = refl
  same_names objects (i.FromFixed d register) h = refl
  same_names objects (i.SetFixed register number) h = refl
  same_names objects (i.WriteArgument number a) h = refl
  same_names objects (i.ReadArgument d number) h = refl
  same_names objects (i.Branch op a block) h = refl
  same_names objects (i.Jump block) h = refl
  same_names objects (i.Divide routine) h = refl
  same_names objects (i.Serve service) h = refl
  same_names objects (i.Return with_value) h = refl
  same_names objects i.Mark h = refl

  -- the functions that are named are the ones behind the pass
  renamed : (g : TempFn) → NamesWhatIsThere fs globals g → NamesWhatIsThere gs globals g
  renamed g h = λ k d lt j x within. same_names g.objects _ (h k d lt j x within)

  lawful : (f g : TempFn) → KeepsFunction splits f g → IsLawfulTempFn fs globals f → IsLawfulTempFn gs globals g
  lawful f g p law = record {
    main = λ e. p.params ∙ law.main (sym (same_main splits f g p) ∙ e);
    names = renamed g (p.names fs globals law.names);
    marks = p.marks law.marks;
    settled = p.settled law.settled;
  }

  pub all_lawful : All (IsLawfulTempFn fs globals) fs → All (IsLawfulTempFn gs globals) gs
  all_lawful law = all_give (KeepsFunction splits) (IsLawfulTempFn fs globals) (IsLawfulTempFn gs globals) lawful fs gs all law
