-- An integer is combined with another one: it is converted, the operator is done, and the result is converted back.
use Rattle.std.proofs.Common.{◌≡◌, ◌≢◌, ℕ, ◌+◌, ◌<◌, List, [], ◌∷◌, Bool, true, false, Some, refl, sym, ap, ◌∙◌, subst, arith, inl, inr}
use Rattle.std.specs.Prelude.{if◌then◌else◌, slice_get}
use Rattle.std.proofs.lemmas.Bool.{cases_lt}
use Rattle.mem_model.specs.declared.value.Value.{Value}
use Rattle.mem_model.specs.declared.value.Value.TheVariants.{Word}
use Rattle.mem_model.specs.Memory.{Memory}
use Rattle.mem_model.specs.World.{outer_with_memory}
use Rattle.mem_model.specs.Related.{Names}
use Rattle.bk_arithmetic.specs.declared.integer_type.IntegerType.{IntegerType}
use Rattle.bk_arithmetic.specs.declared.outcome.ArithmeticOutcome.{ArithmeticOutcome}
use Rattle.bk_arithmetic.specs.declared.outcome.ArithmeticOutcome.TheVariants as a
use Rattle.bk_arithmetic.specs.IntegerTypes.{promote, is_signed}
use Rattle.bk_arithmetic.specs.Words.{is_word}
use Rattle.bk_arithmetic.specs.Operations.{conversion}
use Rattle.bk_arithmetic.proofs.Results.{is_word-extension}
use Rattle.c_tree.specs.declared.expressions.BinaryOp.{BinaryOp}
use Rattle.c_typed_tree.specs.Constants.{integers_with}
use Rattle.c_semantics.specs.Runs.{CallState, Run, and_then, use_number, pure}
use Rattle.c_semantics.specs.Objects.{Scope}
use Rattle.c_semantics.specs.Operators.{outcome, integers, convert_word, combined_in}
use Rattle.suifvm_ir.specs.declared.types.VmType.{VmType}
use Rattle.suifvm_ir.specs.declared.insn.VmInsn.{VmInsn}
use Rattle.suifvm_ir.specs.declared.insn.VmInsn.TheVariants as n
use Rattle.suifvm_ir.specs.Insns.{writes_of}
use Rattle.suifvm_meaning.specs.Operations as vm
use Rattle.suifvm_meaning.specs.Effect.{takes_turn, writes}
use Rattle.suifvm_meaning.specs.Behave.{Registers, set_register, set_registers}
use Rattle.lowering_code.specs.declared.item.CodeItem.{CodeItem}
use Rattle.lowering_code.specs.declared.item.CodeItem.TheVariants.{Plain}
use Rattle.lowering_code.specs.declared.operation.RegisterOperation.{RegisterOperation}
use Rattle.lowering_code.specs.declared.operation.RegisterOperation.TheVariants.{Calculates, Shifts, Compares, ComparesBack}
use Rattle.lowering_code.specs.Registers.{register_type, temporary, value_register}
use Rattle.lowering_code.specs.Expressions.{plain_of, keeps_register, narrow_type, operation_of, operation_insn, convert_code, combine_in}
use Rattle.lowering_states.specs.Places.{CodePlace, next_place}
use Rattle.lowering_states.specs.Runs.{CodeObservation, finish}
use Rattle.lowering_states.specs.model.Opens.{opens}
use Rattle.lowering_states.specs.States.{IsHeld, IsInRegister, KeepsLower}
use Rattle.lowering_states.proofs.Steps.{traps, number_meets, outcome_meets}
use Rattle.lowering_states.proofs.States.{set_same, set_other, other_depth, fits_temporary}
use Rattle.lowering_states.specs.lowering_values.Laws.{is_shift_operator}
use Rattle.lowering_states.proofs.LoweringValues.Integers.{kept_is, register-promoted, kept_conversion, made_conversion}
use Rattle.lowering_states.proofs.LoweringValues.Operators.{operators_correspond}
use Rattle.lowering_states.proofs.LoweringExpressionPlaces.Behind.{at_plain}
use Rattle.lowering_expression_laws.specs.Parts.{Setting, first_depth, EndsSo, Stands, Fit}
use Rattle.lowering_expression_laws.specs.Laws.{result_type}
use Rattle.lowering_expression_laws.proofs.Forms.{WordIn, word_in, insn_on, bound_run, result_word}

-- ---- registers

-- all registers but those of a depth are as before
pub record KeepsBut (L o : ℕ) (r q : Registers) : Type 0 where
  pub others : (k : ℕ) → ((ty : VmType) → k ≢ temporary L o ty) → q k ≡ r k

pub kept_but : {L o : ℕ} {r : Registers} → KeepsBut L o r r
kept_but = record { others = λ k ne. refl }

pub kept_next : {L o : ℕ} {r q s : Registers} → KeepsBut L o r q → KeepsBut L o q s → KeepsBut L o r s
kept_next x y = record { others = λ k ne. y.others k ne ∙ x.others k ne }

pub kept_set : {L o : ℕ} (ty : VmType) (v : Value) {r q : Registers} → KeepsBut L o r q → KeepsBut L o r (set_register (temporary L o ty) v q)
kept_set {L = L} {o = o} ty v {q = q} h = record { others = λ k ne. set_other q (temporary L o ty) k v (ne ty) ∙ h.others k ne }

pub lower_kept : {L o : ℕ} (d : ℕ) {r q : Registers} → (d < o + 1) → KeepsBut L o r q → KeepsLower L d r q
lower_kept {L = L} {o = o} d lt h = record { same = λ k low high. h.others k (λ ty same. absurd (omega (arith, lt, high, same))) }

pub other_kept : {L o : ℕ} (e : ℕ) (ty : VmType) {r q : Registers} → e ≢ o → KeepsBut L o r q → q (temporary L e ty) ≡ r (temporary L e ty)
other_kept {L = L} {o = o} e ty {r = r} {q = q} ne h = h.others (temporary L e ty) (λ u same. by_order u same)
  where
    by_order : (u : VmType) → temporary L e ty ≡ temporary L o u → ⊥
    by_order u same = elim (cases_lt e o) [
      | inl lt ↦ other_depth L e o ty u lt same
      | inr le ↦ other_depth L o e u ty (omega (arith, le, ne)) (sym same)
    ]

-- ---- instructions of operators

calm : (x : RegisterOperation) (ty : VmType) (d l r : ℕ) → takes_turn (operation_insn x ty d l r) ≡ false
calm (Calculates op) ty d l r = refl
calm (Shifts op) ty d l r = refl
calm (Compares op) ty d l r = refl
calm (ComparesBack op) ty d l r = refl

puts : (x : RegisterOperation) (ty : VmType) (d l r : ℕ) → writes_of (operation_insn x ty d l r) ≡ d ∷ []
puts (Calculates op) ty d l r = refl
puts (Shifts op) ty d l r = refl
puts (Compares op) ty d l r = refl
puts (ComparesBack op) ty d l r = refl

module _ (c : Setting) (found : slice_get c.functions c.number ≡ Some c.code) (heads : List ℕ) (g : Names) (scope : Scope) (s : CallState) (m : Memory) where
  abbrev L : ℕ
  L = first_depth c

  -- an integer at a depth becomes one of another type
  pub convert_leads : {e : CodeObservation} (o : ℕ) (t u : IntegerType) (k : ℕ) (tail : List CodeItem) (q : CodePlace) (r : Registers) → Stands c heads q (convert_code L o (plain_of t) (plain_of u) tail) → Fit c g scope r s m → WordIn L o t k r
      → ((q1 : CodePlace) (r1 : Registers) → Stands c heads q1 tail → Fit c g scope r1 s m → KeepsBut L o r r1 → WordIn L o u (conversion t u k) r1 → EndsSo c e q1 r1 s.world m) → EndsSo c e q r s.world m
  convert_leads {e = e} o t u k tail q r at fit one next = by_kept (keeps_register (plain_of t) (plain_of u)) refl at
    where
      k1 : ℕ
      k1 = conversion t u k

      insn : VmInsn
      insn = n.Convert (narrow_type (plain_of t) (plain_of u)) (register_type (plain_of u)) (value_register L o (plain_of u)) (value_register L o (plain_of t))

      by_kept : (x : Bool) → keeps_register (plain_of t) (plain_of u) ≡ x → Stands c heads q (if x then tail else Plain insn ∷ tail) → EndsSo c e q r s.world m
      by_kept true is at2 =
          let same : register_type (plain_of t) ≡ register_type (plain_of u) = sym (register-promoted t) ∙ ap (λ z. register_type (plain_of z)) (kept_is t u is) in
          next q r at2 fit kept_but (record { is_one = is_word-extension u _; stands = ap (λ z. r (temporary L o z)) (sym same) ∙ one.stands ∙ ap Word (sym (kept_conversion t u k one.is_one is)) })
      by_kept false is at2 =
          insn_on c found insn q r s.world m (Word k1 ∷ []) at2.has.0 refl
          (ap (λ z. writes (vm.convert_answer (narrow_type (plain_of t) (plain_of u)) (register_type (plain_of u)) z) (outer_with_memory s.world.outer m)) one.stands
          ∙ ap (λ z. writes z (outer_with_memory s.world.outer m)) (made_conversion t u k one.is_one))
          (next (next_place q) (set_register (value_register L o (plain_of u)) (Word k1) r) (at_plain c.code.blocks c.last c.end insn at2) (fits_temporary o (register_type (plain_of u)) (Word k1) fit) (kept_set (register_type (plain_of u)) (Word k1) kept_but)
          (record { is_one = is_word-extension u _; stands = set_same r (value_register L o (plain_of u)) (Word k1) }))

  module _ (op : BinaryOp) (left t right : IntegerType) (pt : promote t ≡ t) (same : is_shift_operator op ≡ false → right ≡ t) (gives : result_type op t ≡ t) (o d : ℕ) (apart : d ≢ o) (rest : List CodeItem) where
    abbrev insn : VmInsn
    insn = operation_insn (operation_of op (is_signed t)) (register_type (plain_of t)) (value_register L o (plain_of t)) (value_register L o (plain_of t)) (value_register L d (plain_of right))

    -- the old value at one depth, and the right side at another one, whose words are known
    words_lead : (x y : ℕ) (K : Value → CallState → CodeObservation) (q : CodePlace) (r : Registers) → Stands c heads q (combine_in L op t o d (plain_of left) (plain_of right) rest) → Fit c g scope r s m → WordIn L o left x r → WordIn L d right y r
        → ((q1 : CodePlace) (z : ℕ) (r1 : Registers) → Stands c heads q1 rest → Fit c g scope r1 s m → KeepsBut L o r r1 → WordIn L o left z r1 → EndsSo c (K (Word z) s) q1 r1 s.world m)
        → EndsSo c (finish (outcome (integers_with op t right (conversion left t x) y) s) (λ w u. finish (convert_word t left w u) K)) q r s.world m
    unfolding opens
    words_lead x y K q r at fit wx wy next =
        let c1 : ℕ = conversion left t x in
        let dest : ℕ = value_register L o (plain_of t) in
        let out = outer_with_memory s.world.outer m in
        convert_leads o left t x (Plain insn ∷ convert_code L o (plain_of t) (plain_of left) rest) q r at fit wx
        (λ q1 r1 at1 fit1 kept1 one1.
        let right1 : r1 (value_register L d (plain_of right)) ≡ Word y = other_kept d (register_type (plain_of right)) apart kept1 ∙ wy.stands in
        let done : integers_with op t right c1 y ≢ a.Undefined → _ = (λ ne. operators_correspond op t right dest dest (value_register L d (plain_of right)) c.own r1 out c1 y pt same one1.stands right1 one1.is_one wy.is_one ne) in
        outcome_meets c.rooms c.functions (integers_with op t right c1 y) s (λ w u. finish (convert_word t left w u) K) _
        (λ z e.
        let word_z : is_word t z ≡ true = subst (λ u. is_word u z ≡ true) gives (result_word op t right c1 y z e) in
        let r2 : Registers = set_register dest (Word z) r1 in
        insn_on c found insn q1 r1 s.world m (Word z ∷ []) at1.has.0 (calm (operation_of op (is_signed t)) (register_type (plain_of t)) dest dest (value_register L d (plain_of right)))
        (done (λ bad. word_defined _ z e bad) ∙ ap (λ w. writes (vm.outcome_answer w) out) e)
        (subst (λ ws. EndsSo c (K (Word (conversion t left z)) s) (next_place q1) (set_registers ws (Word z ∷ []) r1) s.world m) (sym (puts (operation_of op (is_signed t)) (register_type (plain_of t)) dest dest (value_register L d (plain_of right))))
        (convert_leads o t left z rest (next_place q1) r2 (at_plain c.code.blocks c.last c.end insn at1) (fits_temporary o (register_type (plain_of t)) (Word z) fit1) (record { is_one = word_z; stands = set_same r1 dest (Word z) })
        (λ q3 r3 at3 fit3 kept3 one3. next q3 (conversion t left z) r3 at3 fit3 (kept_next (kept_set (register_type (plain_of t)) (Word z) kept1) kept3) one3))))
        (λ code e. traps c.rooms c.functions c.number c.code found c.own c.waiting insn q1 r1 s.world m code at1.has.0 (calm (operation_of op (is_signed t)) (register_type (plain_of t)) dest dest (value_register L d (plain_of right))) (done (λ bad. trap_defined _ code e bad) ∙ ap (λ w. writes (vm.outcome_answer w) out) e) refl))
      where
        word_defined : (z : ArithmeticOutcome) (k : ℕ) → z ≡ a.Word k → z ≡ a.Undefined → ⊥
        word_defined z k e bad = cc

        trap_defined : (z : ArithmeticOutcome) (k : ℕ) → z ≡ a.Trap k → z ≡ a.Undefined → ⊥
        trap_defined z k e bad = cc

    -- the same with values, of which each has to be a word
    pub values_lead : (v w : Value) (K : Value → CallState → CodeObservation) (q : CodePlace) (r : Registers) → Stands c heads q (combine_in L op t o d (plain_of left) (plain_of right) rest) → Fit c g scope r s m
        → IsHeld (plain_of left) v → IsInRegister g (plain_of left) v (r (value_register L o (plain_of left))) → IsHeld (plain_of right) w → IsInRegister g (plain_of right) w (r (value_register L d (plain_of right)))
        → ((q1 : CodePlace) (z : ℕ) (r1 : Registers) → Stands c heads q1 rest → Fit c g scope r1 s m → KeepsBut L o r r1 → WordIn L o left z r1 → EndsSo c (K (Word z) s) q1 r1 s.world m)
        → EndsSo c (finish (combined_in op t left right v w s) K) q r s.world m
    unfolding opens
    values_lead v w K q r at fit hv iv hw iw next =
        let back : Value → Run Value = convert_word t left in
        let run : Value → Run Value = λ x u. and_then (integers op t right x w u) back in
        bound_run c found (convert_word left t v s) run K q r s.world m
        (bound_run c found (use_number v s) (λ k. pure (Word (conversion left t k))) (λ x u. finish (run x u) K) q r s.world m
        (number_meets c.rooms c.functions v s (λ k u. finish (run (Word (conversion left t k)) u) K) _ (λ x is.
        let whole : ℕ → Run Value = λ y. outcome (integers_with op t right (conversion left t x) y) in
        bound_run c found (and_then (use_number w s) whole) back K q r s.world m
        (bound_run c found (use_number w s) whole (λ z u. finish (back z u) K) q r s.world m
        (number_meets c.rooms c.functions w s (λ y u. finish (whole y u) (λ z u1. finish (back z u1) K)) _ (λ y is2.
        words_lead x y K q r at fit (word_in g L o (plain_of left) left v x r refl is hv iv) (word_in g L d (plain_of right) right w y r refl is2 hw iw) next))))))
