-- The value of a `switch` is compared with each label.
use Rattle.std.proofs.Common.{◌≡◌, ◌≢◌, ℕ, ◌==◌, ◌-◌, List, [], ◌∷◌, Bool, true, false, Some, None, refl, sym, ap, ◌∙◌, arith, inl, inr, eq-eqb}
use Rattle.std.specs.Prelude.{if◌then◌else◌, not, slice_get}
use Rattle.std.specs.Int.{w64, cast_signed, cast_unsigned}
use Rattle.std.proofs.lemmas.Bool.{eqb-true, cases_eq}
use Rattle.mem_model.specs.declared.value.Value.TheVariants.{Word}
use Rattle.mem_model.specs.Memory.{Memory}
use Rattle.mem_model.specs.World.{outer_with_memory}
use Rattle.mem_model.specs.Related.{Names}
use Rattle.bk_arithmetic.specs.declared.integer_type.IntegerType.{IntegerType}
use Rattle.bk_arithmetic.specs.declared.integer_type.IntegerType.TheVariants as i
use Rattle.bk_arithmetic.specs.IntegerTypes.{width, promote}
use Rattle.bk_arithmetic.specs.Words.{low_bits, extension, is_word}
use Rattle.bk_arithmetic.specs.Operations.{truth, is_equal}
use Rattle.c_tree.specs.declared.expressions.BinaryOp.TheVariants as b
use Rattle.c_typed_tree.specs.declared.statements.TLabel.{TLabel}
use Rattle.c_typed_tree.specs.declared.statements.TLabel.TheVariants.{Case, Default}
use Rattle.c_semantics.specs.Runs.{CallState}
use Rattle.c_semantics.specs.Objects.{Scope}
use Rattle.suifvm_ir.specs.declared.types.VmType.TheVariants.{S32}
use Rattle.suifvm_ir.specs.declared.insn.VmBranchOp.TheVariants.{IfTrue}
use Rattle.suifvm_ir.specs.declared.insn.CompareOp.TheVariants.{Equal}
use Rattle.suifvm_ir.specs.declared.insn.VmInsn.TheVariants as n
use Rattle.suifvm_meaning.specs.declared.answer.Answer.TheVariants.{Gives, Fails}
use Rattle.suifvm_meaning.specs.Operations as vm
use Rattle.suifvm_meaning.specs.Effect.{writes}
use Rattle.suifvm_meaning.specs.Behave.{Registers, set_register}
use Rattle.lowering_code.specs.declared.item.CodeItem.{CodeItem}
use Rattle.lowering_code.specs.Registers.{register_type, temporary, value_register}
use Rattle.lowering_code.specs.Expressions.{plain_of, branch_by_value_code}
use Rattle.lowering_code.specs.Statements.{Target, label_code, labels_code}
use Rattle.lowering_states.specs.Places.{CodePlace, next_place, next_block, start_of_block}
use Rattle.lowering_states.specs.Runs.{CodeObservation}
use Rattle.lowering_states.proofs.Steps.{branch_taken, branch_passed}
use Rattle.lowering_states.proofs.States.{set_same, set_other, other_depth, fits_temporary}
use Rattle.lowering_states.proofs.LoweringValues.Operators.{operators_correspond}
use Rattle.lowering_states.proofs.LoweringValues.Accesses.{memories_correspond}
use Rattle.lowering_states.proofs.LoweringExpressionPlaces.Behind.{at_plain, at_branch}
use Rattle.lowering_expression_laws.specs.Parts.{Setting, first_depth, EndsSo, Stands, Fit}
use Rattle.lowering_expression_laws.proofs.Forms.{insn_on, value_of_word}
use Rattle.lowering_statement_laws.specs.lowering_switch_laws.Laws.{IsLabelOf}
use Rattle.lowering_statement_laws.proofs.LoweringSwitchLaws.Names.{case_in, case_of}

-- ---- words are equal where their low bits are

by_low_bits : (t : IntegerType) (x y : ℕ) → low_bits t x ≡ low_bits t y → extension t x ≡ extension t y
by_low_bits i.Char x y e = ap (λ z. cast_unsigned w64 (cast_signed (width i.Char) z)) e
by_low_bits i.UnsignedChar x y e = e
by_low_bits i.Short x y e = ap (λ z. cast_unsigned w64 (cast_signed (width i.Short) z)) e
by_low_bits i.UnsignedShort x y e = e
by_low_bits i.Int x y e = ap (λ z. cast_unsigned w64 (cast_signed (width i.Int) z)) e
by_low_bits i.UnsignedInt x y e = ap (λ z. cast_unsigned w64 (cast_signed (width i.UnsignedInt) z)) e
by_low_bits i.Long x y e = e
by_low_bits i.UnsignedLong x y e = e

-- the extension of a word is the word
word_stays : (t : IntegerType) (x : ℕ) → is_word t x ≡ true → extension t x ≡ x
word_stays t x e = eqb-true (extension t x) x e

same_equal : (t : IntegerType) (x y : ℕ) → is_word t x ≡ true → is_word t y ≡ true → is_equal t x y ≡ (x == y)
same_equal t x y hx hy = elim (cases_eq x y) [
  | inl e ↦ eq-eqb (low_bits t x) (low_bits t y) (ap (low_bits t) e) ∙ sym (eq-eqb x y e)
  | inr ne ↦ no_eqb (low_bits t x) (low_bits t y) (λ e. ne (sym (word_stays t x hx) ∙ by_low_bits t x y e ∙ word_stays t y hy)) ∙ sym (no_eqb x y ne)
]
  where
    no_eqb : (p q : ℕ) → p ≢ q → (p == q) ≡ false
    no_eqb p q ne = by_test (p == q) refl
      where
        by_test : (t : Bool) → (p == q) ≡ t → t ≡ false
        by_test true e = absurd (ne (eqb-true p q e))
        by_test false e = refl

truth_holds : (x : Bool) → not (truth x == 0) ≡ x
truth_holds true = refl
truth_holds false = refl

truth_is_word : (x : Bool) → is_word i.Int (truth x) ≡ true
truth_is_word true = refl
truth_is_word false = refl

abbrev pub AreLabelsOf : IntegerType → List Target → Type 0
AreLabelsOf t [] = Unit {0}
AreLabelsOf t (l ∷ ls) = IsLabelOf t l.label × AreLabelsOf t ls

module _ (c : Setting) (found : slice_get c.functions c.number ≡ Some c.code) (t : IntegerType) (pt : promote t ≡ t) (k : ℕ) (word : is_word t k ≡ true) (rest : List CodeItem) (heads : List ℕ) (f : Names) (scope : Scope) (s : CallState) (m : Memory) where
  abbrev L : ℕ
  L = first_depth c

  abbrev value : ℕ
  value = value_register L 0 (plain_of t)

  -- the states in which the value stands in its register
  pub record Holds (r : Registers) : Type 0 where
    pub fit : Fit c f scope r s m
    pub stands : r value ≡ Word k

  -- the branch behind a comparison
  tested : {o : CodeObservation} (x : Bool) (label_word name : ℕ) (tail : List CodeItem) (q : CodePlace) (r : Registers) → (k == label_word) ≡ x → Holds r → vm.value_holds m (register_type (plain_of i.Int)) (r (temporary L 1 S32)) ≡ Some x → Stands c heads q (branch_by_value_code L IfTrue 1 (plain_of i.Int) name tail)
      → ((k == label_word) ≡ true → (q1 : Registers) → Holds q1 → EndsSo c o (start_of_block (c.last - name)) q1 s.world m)
      → ((k == label_word) ≡ false → (p : CodePlace) (q1 : Registers) → Stands c heads p tail → Holds q1 → EndsSo c o p q1 s.world m) → EndsSo c o q r s.world m
  tested true label_word name tail q r e h holds at hit miss =
      branch_taken c.rooms c.functions c.number c.code found c.own c.waiting IfTrue (register_type (plain_of i.Int)) (temporary L 1 S32) (c.last - name) true q r s.world m at.has.0 holds refl (hit e r h)
  tested false label_word name tail q r e h holds at hit miss =
      branch_passed c.rooms c.functions c.number c.code found c.own c.waiting IfTrue (register_type (plain_of i.Int)) (temporary L 1 S32) (c.last - name) false q r s.world m at.has.0 holds refl at.has.1
      (miss e (next_block q) r (at_branch c.code.blocks c.last c.end IfTrue _ _ _ at) h)

  -- a comparison leads to the block of its label, or on
  case_leads : {o : CodeObservation} (label_word name : ℕ) → is_word t label_word ≡ true → (tail : List CodeItem) (q : CodePlace) (r : Registers) → Stands c heads q (label_code L c.structs c.locals (plain_of t) (Case label_word) name tail) → Holds r
      → (hit : (k == label_word) ≡ true → (q1 : Registers) → Holds q1 → EndsSo c o (start_of_block (c.last - name)) q1 s.world m)
      → (miss : (k == label_word) ≡ false → (p : CodePlace) (q1 : Registers) → Stands c heads p tail → Holds q1 → EndsSo c o p q1 s.world m) → EndsSo c o q r s.world m
  case_leads label_word name is tail q r at h hit miss =
      let ty = register_type (plain_of t) in
      let above : ℕ = value_register L 1 (plain_of t) in
      let test : ℕ = temporary L 1 S32 in
      let r1 : Registers = set_register above (Word label_word) r in
      let e : Bool = is_equal t k label_word in
      let r2 : Registers = set_register test (Word (truth e)) r1 in
      let at1 = at_plain c.code.blocks c.last c.end _ at in
      let at2 = at_plain c.code.blocks c.last c.end _ at1 in
      let low1 : r1 value ≡ Word k = set_other r above value (Word label_word) (other_depth L 0 1 ty ty (omega arith)) ∙ h.stands in
      let low2 : r2 value ≡ Word k = set_other r1 test value (Word (truth e)) (other_depth L 0 1 ty S32 (omega arith)) ∙ low1 in
      let fit2 : Fit c f scope r2 s m = fits_temporary 1 S32 (Word (truth e)) (fits_temporary 1 ty (Word label_word) h.fit) in
      let holds : vm.value_holds m (register_type (plain_of i.Int)) (r2 test) ≡ Some (k == label_word) =
      ap (vm.value_holds m (register_type (plain_of i.Int))) (set_same r1 test (Word (truth e))) ∙ (memories_correspond f s.world.outer.memory m fit2.memory).0.words i.Int (truth e) (truth_is_word e) ∙ ap Some (truth_holds e ∙ same_equal t k label_word word is) in
      insn_on c found (n.LoadConstant ty above label_word) q r s.world m (Word label_word ∷ []) at.has.0 refl
      (ap (λ x. writes (if x then Gives (Word label_word) else Fails) (outer_with_memory s.world.outer m)) (value_of_word t label_word is))
      (insn_on c found (n.Compare Equal ty test value above) (next_place q) r1 s.world m (Word (truth e) ∷ []) at1.has.0 refl
      (operators_correspond b.Equal t t test value above c.own r1 (outer_with_memory s.world.outer m) k label_word pt (λ _. refl) low1 (set_same r above (Word label_word)) word is (λ no. cc))
      (tested (k == label_word) label_word name tail (next_place (next_place q)) r2 refl (record { fit = fit2; stands = low2 }) holds at2 hit miss))

  -- what the comparisons with labels lead to
  abbrev Leads : CodeObservation → List Target → Type 0
  Leads o ts =
      (q : CodePlace) (r : Registers) → Stands c heads q (labels_code L c.structs c.locals (plain_of t) ts rest) → Holds r → ((name : ℕ) → case_of k ts ≡ Some name → (q1 : Registers) → Holds q1 → EndsSo c o (start_of_block (c.last - name)) q1 s.world m)
      → (case_of k ts ≡ None → (p : CodePlace) (q1 : Registers) → Stands c heads p rest → Holds q1 → EndsSo c o p q1 s.world m) → EndsSo c o q r s.world m

  one_label : {o : CodeObservation} (label : TLabel) (name : ℕ) (ls : List Target) → IsLabelOf t label → Leads o ls → (q : CodePlace) (r : Registers) → Stands c heads q (label_code L c.structs c.locals (plain_of t) label name (labels_code L c.structs c.locals (plain_of t) ls rest)) → Holds r
      → ((found : ℕ) → case_in k label name (case_of k ls) ≡ Some found → (q1 : Registers) → Holds q1 → EndsSo c o (start_of_block (c.last - found)) q1 s.world m)
      → (case_in k label name (case_of k ls) ≡ None → (p : CodePlace) (q1 : Registers) → Stands c heads p rest → Holds q1 → EndsSo c o p q1 s.world m) → EndsSo c o q r s.world m
  one_label Default name ls is others q r at h hit miss = others q r at h hit miss
  one_label (Case word1) name ls is others q r at h hit miss =
      case_leads word1 name is (labels_code L c.structs c.locals (plain_of t) ls rest) q r at h
      (λ e q1 h1. hit name (ap (λ x. if x then Some name else case_of k ls) e) q1 h1)
      (λ e p1 q1 at1 h1. others p1 q1 at1 h1 (λ found1 e1. hit found1 (ap (λ x. if x then Some name else case_of k ls) e ∙ e1)) (λ e1. miss (ap (λ x. if x then Some name else case_of k ls) e ∙ e1)))

  -- the comparisons with all labels, one behind the other
  pub labels_lead : {o : CodeObservation} (ts : List Target) → AreLabelsOf t ts → Leads o ts
  labels_lead [] are q r at h hit miss = miss refl q r at h
  labels_lead (l ∷ ls) are q r at h hit miss = one_label l.label l.name ls are.0 (labels_lead ls are.1) q r at h hit miss
