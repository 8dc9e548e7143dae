-- Constants, addresses and branches.
use Rattle.std.proofs.Common.{◌≡◌, ℕ, zero, suc, List, [], ◌∷◌, Bool, true, false, Option, Some, None, refl, ap, ◌∙◌}
use Rattle.std.specs.Prelude.{◌==◌, not, option_map, if◌then◌else◌}
use Rattle.std.proofs.lemmas.Option.{none-some, same_Some}
use Rattle.mem_model.specs.declared.value.Value.{Value}
use Rattle.mem_model.specs.declared.value.Value.TheVariants.{Word, Address, Unset}
use Rattle.mem_model.specs.Memory.{Memory}
use Rattle.mem_model.specs.Pointers.{is_null}
use Rattle.mem_model.specs.World.{Outer}
use Rattle.bk_arithmetic.specs.declared.integer_type.IntegerType.{IntegerType}
use Rattle.bk_arithmetic.specs.declared.integer_type.IntegerType.TheVariants.{Int, UnsignedInt, Long, UnsignedLong}
use Rattle.bk_arithmetic.specs.Words.{is_word}
use Rattle.suifvm_ir.specs.declared.types.VmType.TheVariants.{S32, U32, S64, U64, P64}
use Rattle.suifvm_ir.specs.declared.insn.VmBranchOp.{VmBranchOp}
use Rattle.suifvm_ir.specs.declared.insn.VmBranchOp.TheVariants.{IfTrue, IfFalse}
use Rattle.suifvm_ir.specs.declared.insn.VmObject.{VmObject}
use Rattle.suifvm_ir.specs.declared.insn.VmObject.TheVariants.{Global, Local}
use Rattle.suifvm_meaning.specs.declared.answer.Answer.TheVariants as v
use Rattle.suifvm_meaning.specs.Operations.{is_value_of, place_address, number_holds}
use Rattle.suifvm_meaning.specs.Effect.{is_branch_taken}
use Rattle.temp_ir.specs.declared.insn.TempInsn.{TempInsn}
use Rattle.temp_ir.specs.declared.insn.TempInsn.TheVariants.{ObjectAddress}
use Rattle.alloc_model.specs.Contents.{Plain, Gives, word_content, branch_test}
use Rattle.alloc_model.specs.Effect.{Temp, place_content, writes}
use Rattle.alloc_model.specs.Temporaries.{Temps}
use Rattle.selection_forms.specs.alpha_forms.Straight.{PutsContent, runs}
use Rattle.selection_forms.specs.alpha_forms.Registers.{PutsValue, CodeAnswers}
use Rattle.selection_forms.specs.alpha_forms.Constants.{constant_items}
use Rattle.selection_forms.specs.alpha_forms.Operations.{temp_branch}
use Rattle.selection_forms.specs.alpha_forms.Laws.{ConstantsAreLoaded, AddressesAreLoaded, BranchesAreTaken}
use Rattle.selection_forms.proofs.AlphaForms.Making.{constants_made}
use Rattle.selection_forms.proofs.AlphaForms.Runs.{first_put}

-- a content that is a value
from_content : (widest own d : ℕ) (xs : List TempInsn) (s : Temps) (o : Outer) (w : Value) → PutsContent widest xs own s o d (Plain w) → PutsValue s o d w (runs widest xs own s o)
from_content widest own d xs s o w h = record { after = h.after; goes_on = h.ran; holds = h.holds; kept = λ t i other. h.kept (Temp t) other }

pub constants_loaded : ConstantsAreLoaded
constants_loaded widest own d n ty s o small = by_type (is_value_of ty (Word n))
  where
    by_type : (b : Bool) → CodeAnswers s o d (if b then v.Gives (Word n) else v.Fails) (runs widest (constant_items d n) own s o)
    by_type true = from_content widest own d (constant_items d n) s o (Word n) (constants_made widest own d n s o small)
    by_type false = tt

same_place : (own : ℕ) (place : VmObject) (plus : ℕ) → place_content own place plus ≡ Plain (place_address own place plus)
same_place own (Global k) plus = refl
same_place own (Local k) plus = refl

pub addresses_loaded : AddressesAreLoaded
addresses_loaded widest own d plus place s o =
    from_content widest own d (ObjectAddress d place plus ∷ []) s o (place_address own place plus)
    (first_put widest own s o d (ObjectAddress d place plus) (Plain (place_address own place plus)) (record { turn = refl; call = refl; written = refl })
    (ap (λ c. writes (Gives c) o) (same_place own place plus)))

-- ---- branches

number_test : (op : VmBranchOp) (m : Memory) (n : ℕ) → branch_test (temp_branch op) m (word_content n) ≡ Some (is_branch_taken op (not (n == 0)))
number_test IfTrue m n = refl
number_test IfFalse m n = by_test (n == 0)
  where
    by_test : (b : Bool) → Some b ≡ Some (not (not b))
    by_test true = refl
    by_test false = refl

number_taken : (op : VmBranchOp) (t : IntegerType) (m : Memory) (v : Value) (b : Bool) → number_holds (Some t) v ≡ Some b →
    branch_test (temp_branch op) m (Plain v) ≡ Some (is_branch_taken op b)
number_taken op t m (Word n) b e = by_word (is_word t n) e
  where
    by_word : (w : Bool) → (if w then Some (not (n == 0)) else None) ≡ Some b → branch_test (temp_branch op) m (word_content n) ≡ Some (is_branch_taken op b)
    by_word true e = number_test op m n ∙ ap (λ a. Some (is_branch_taken op a)) (same_Some (not (n == 0)) b e)
    by_word false e = absurd (none-some b e)
number_taken op t m (Address p) b e = absurd (none-some b e)
number_taken op t m Unset b e = absurd (none-some b e)

pointer_taken : (op : VmBranchOp) (m : Memory) (v : Value) (b : Bool) → option_map not (is_null m v) ≡ Some b →
    branch_test (temp_branch op) m (Plain v) ≡ Some (is_branch_taken op b)
pointer_taken op m (Word zero) b e = number_test op m 0 ∙ ap (λ a. Some (is_branch_taken op a)) (same_Some false b e)
pointer_taken op m (Word (suc n)) b e = absurd (none-some b e)
pointer_taken IfTrue m (Address p) b e = e
pointer_taken IfFalse m (Address p) b e = by_null (is_null m (Address p)) e
  where
    by_null : (a : Option Bool) → option_map not a ≡ Some b → a ≡ Some (not b)
    by_null None f = absurd (none-some b f)
    by_null (Some true) f = ap (λ a. Some (not a)) (same_Some false b f)
    by_null (Some false) f = ap (λ a. Some (not a)) (same_Some true b f)
pointer_taken op m Unset b e = absurd (none-some b e)

pub branches_taken : BranchesAreTaken
branches_taken op S32 m v b e = number_taken op Int m v b e
branches_taken op U32 m v b e = number_taken op UnsignedInt m v b e
branches_taken op S64 m v b e = number_taken op Long m v b e
branches_taken op U64 m v b e = number_taken op UnsignedLong m v b e
branches_taken op P64 m v b e = pointer_taken op m v b e
