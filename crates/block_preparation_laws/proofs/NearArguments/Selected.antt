-- The code of an instruction names argument places up to the number of its arguments alone.
use Rattle.std.proofs.Common.{◌≡◌, ℕ, ◌≤◌, List, [], ◌∷◌, true, arith}
use Rattle.std.specs.Prelude.{sum_by, All}
use Rattle.std.proofs.lemmas.Bool.{false≢true}
use Rattle.std.proofs.lemmas.List.Elements.{All-nil, All-cons, All-weaker}
use Rattle.std.proofs.lemmas.List.Sums.{sum_by-cons}
use Rattle.suifvm_ir.specs.declared.insn.VmInsn.{VmInsn}
use Rattle.suifvm_ir.specs.Programs.{weight_of}
use Rattle.temp_ir.specs.declared.insn.TempInsn.{TempInsn}
use Rattle.temp_ir.specs.declared.insn.TempInsn.TheVariants as i
use Rattle.selection_bounds.proofs.SelectionShapes.Plain.{is_placeless, bare_parts}
use Rattle.selection_bounds.proofs.SelectionShapes.Walk.{IsKept, blocks_kept}
use Rattle.frame_bounds.specs.Near.{IsNear}
use Rattle.block_preparation_laws.specs.near_arguments.Near.{SelectedFunctionsAreNear}

-- ---- weights

each_of_sum : {A : Type 0} (f : A → ℕ) (most : ℕ) (xs : List A) → sum_by f xs ≤ most → All (λ x. f x ≤ most) xs
each_of_sum f most [] le = All-nil (λ x. f x ≤ most)
each_of_sum f most (x ∷ xs) le =
    let s = sum_by-cons f x xs in
    All-cons (λ y. f y ≤ most) x xs (omega (arith, s, le)) (each_of_sum f most xs (omega (arith, s, le)))

abbrev IsLight : VmInsn → Type 0
IsLight y = weight_of y ≤ 16777216

abbrev weight : List VmInsn → ℕ
weight block = sum_by weight_of block

abbrev IsLightBlock : List VmInsn → Type 0
IsLightBlock block = weight block ≤ 16777216

-- ---- instructions

placeless_near : (z : TempInsn) → is_placeless z ≡ true → IsNear z
placeless_near (i.WriteArgument number source) e = absurd (false≢true e)
placeless_near (i.ReadArgument destination number) e = absurd (false≢true e)
placeless_near z e = tt

near_kept : IsKept IsLight IsNear
near_kept = record {
  bare = λ z e. placeless_near z (bare_parts z e).0;
  address = λ d place plus q. tt;
  branch = λ op ty a block q. tt;
  jump = λ block q. tt;
  argument = λ d k arguments q number t lt. omega (arith, q, lt);
  call = λ d k arguments q. tt;
  returns = λ value with_value q. tt;
}

-- ---- functions

pub selected_near : SelectedFunctionsAreNear
selected_near f le =
    let few : f.params ≤ 16777216 = omega (arith, le) in
    blocks_kept IsLight IsNear near_kept f.params (λ number t lt. omega (arith, few, lt)) f.blocks
    (All-weaker IsLightBlock (All IsLight) (λ block h. each_of_sum weight_of 16777216 block h) f.blocks (each_of_sum weight 16777216 f.blocks (omega (arith, le))))
