-- The code of a block has as many edges as the block.
use Rattle.std.proofs.Common.{◌≡◌, ℕ, List, [], ◌∷◌, ◌++◌, length, Bool, true, false, Option, Some, None, refl, sym, ap, ◌∙◌, subst, arith}
use Rattle.std.specs.Prelude.{if◌then◌else◌, All}
use Rattle.std.proofs.lemmas.Bool.{and_parts}
use Rattle.std.proofs.lemmas.List.{append_assoc, append-nil}
use Rattle.std.proofs.lemmas.List.Elements.{All-head, All-tail}
use Rattle.suifvm_ir.specs.declared.insn.VmInsn.{VmInsn}
use Rattle.suifvm_ir.specs.declared.insn.VmInsn.TheVariants as x
use Rattle.suifvm_ir.specs.Insns as vm
use Rattle.pass_core.specs.Functions.{front_of, IsStraight, EndsLate, successors_after, successors_of}
use Rattle.temp_ir.specs.declared.insn.TempInsn.{TempInsn}
use Rattle.temp_ir.specs.declared.insn.TempInsn.TheVariants as i
use Rattle.temp_ir.specs.Insns.{targets_of, flows_on_of}
use Rattle.selection_forms.specs.alpha_forms.Operations.{temp_branch}
use Rattle.selection_code.specs.Instructions.{temp_of, selected_insn}
use Rattle.selection_code.specs.Functions.{selected_insns}
use Rattle.selection_bounds.proofs.SelectionShapes.Plain.{is_plain, are_plain, plain-append}
use Rattle.selection_bounds.proofs.SelectionShapes.Shaped.{front_more, last_more, last_push, straight_plain, plain_is}

-- how many edges leave a block with a last instruction
edges_after : Option TempInsn → ℕ
edges_after o = length (successors_after targets_of flows_on_of 0 o)

vm_edges_after : Option VmInsn → ℕ
vm_edges_after o = length (successors_after vm.targets_of vm.flows_on_of 0 o)

abbrev pub edges : List TempInsn → ℕ
edges xs = length (successors_of targets_of flows_on_of 0 xs)

abbrev pub vm_edges : List VmInsn → ℕ
vm_edges insns = length (successors_of vm.targets_of vm.flows_on_of 0 insns)

one_edge : (ts : List ℕ) (c : Bool) → length ts ≡ 0 → c ≡ true → length (ts ++ (if c then 1 ∷ [] else [])) ≡ 1
one_edge [] c none e = ap (λ (b : Bool). length {A = ℕ} (if b then 1 ∷ [] else [])) e
one_edge (t ∷ ts) c none e = absurd (omega (arith, none))

plain_edges : (xs : List TempInsn) → are_plain xs ≡ true → edges xs ≡ 1
unfolding edges_after
plain_edges [] e = refl
plain_edges (z ∷ []) e =
    let s = plain_is z (and_parts (is_plain z) true e).0 in one_edge (targets_of z) (flows_on_of z) s.0 s.1
plain_edges (z ∷ y ∷ zs) e =
    ap edges_after (last_more z y zs) ∙ plain_edges (y ∷ zs) (and_parts (is_plain z) (are_plain (y ∷ zs)) e).1

-- ---- the last instruction

module _ (before : List TempInsn) (p : are_plain before ≡ true) where
  straight_last : (y : VmInsn) → IsStraight vm.targets_of vm.flows_on_of y → edges (before ++ selected_insn y) ≡ 1
  straight_last y s = plain_edges (before ++ selected_insn y) (plain-append before (selected_insn y) p (straight_plain y s))

  pub last_edges : (y : VmInsn) → edges (before ++ selected_insn y) ≡ vm_edges (y ∷ [])
  unfolding edges_after
  last_edges (x.LoadConstant ty d word) = straight_last (x.LoadConstant ty d word) (refl, refl)
  last_edges (x.LoadAddress d place plus) = straight_last (x.LoadAddress d place plus) (refl, refl)
  last_edges (x.Load ty d pointer plus) = straight_last (x.Load ty d pointer plus) (refl, refl)
  last_edges (x.Store ty pointer plus a) = straight_last (x.Store ty pointer plus a) (refl, refl)
  last_edges (x.Copy to from size align) = straight_last (x.Copy to from size align) (refl, refl)
  last_edges (x.Unary op ty d a) = straight_last (x.Unary op ty d a) (refl, refl)
  last_edges (x.Binary op ty d a b) = straight_last (x.Binary op ty d a b) (refl, refl)
  last_edges (x.Shift op ty d a b) = straight_last (x.Shift op ty d a b) (refl, refl)
  last_edges (x.Convert from to d a) = straight_last (x.Convert from to d a) (refl, refl)
  last_edges (x.Compare op ty d a b) = straight_last (x.Compare op ty d a b) (refl, refl)
  last_edges (x.Branch op ty a block) = ap edges_after (last_push before (i.Branch (temp_branch op) (temp_of a) block))
  last_edges (x.Jump block) = ap edges_after (last_push before (i.Jump block))
  last_edges (x.Call d c arguments) = straight_last (x.Call d c arguments) (refl, refl)
  last_edges (x.Return None) = ap edges_after (last_push before (i.Return false))
  last_edges (x.Return (Some value)) =
      ap edges (sym (append_assoc before (_ ∷ []) (i.Return true ∷ []))) ∙ ap edges_after (last_push (before ++ _ ∷ []) (i.Return true))
  last_edges x.Mark = straight_last x.Mark (refl, refl)
  last_edges x.Nop = straight_last x.Nop (refl, refl)

-- ---- blocks

pub block_edges : (insns : List VmInsn) (before : List TempInsn) → EndsLate vm.targets_of vm.flows_on_of insns → are_plain before ≡ true →
    edges (before ++ selected_insns insns) ≡ vm_edges insns
unfolding vm_edges_after
block_edges [] before h p = ap edges (append-nil before) ∙ plain_edges before p
block_edges (y ∷ []) before h p = ap (λ l. edges (before ++ l)) (append-nil (selected_insn y)) ∙ last_edges before p y
block_edges (y ∷ z ∷ insns) before h p =
    let g : All (IsStraight vm.targets_of vm.flows_on_of) (y ∷ front_of (z ∷ insns)) = subst (All (IsStraight vm.targets_of vm.flows_on_of)) (front_more y z insns) h in
    ap edges (sym (append_assoc before (selected_insn y) (selected_insns (z ∷ insns))))
    ∙ block_edges (z ∷ insns) (before ++ selected_insn y) (All-tail (IsStraight vm.targets_of vm.flows_on_of) y (front_of (z ∷ insns)) g)
    (plain-append before (selected_insn y) p (straight_plain y (All-head (IsStraight vm.targets_of vm.flows_on_of) y (front_of (z ∷ insns)) g)))
    ∙ ap vm_edges_after (sym (last_more y z insns))
