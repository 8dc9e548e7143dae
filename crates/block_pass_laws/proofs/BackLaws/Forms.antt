-- What is left of a block as its contents.
use Rattle.std.proofs.Common.{◌≡◌, ℕ, List, [], ◌∷◌, true, map, cond, refl, ap, ◌∙◌}
use Rattle.std.specs.Prelude.{filter}
use Rattle.temp_ir.specs.declared.operation.TempBranchOp.{TempBranchOp}
use Rattle.temp_ir.specs.declared.insn.TempInsn.{TempInsn}
use Rattle.temp_ir.specs.declared.insn.TempInsn.TheVariants as i
use Rattle.temp_ir.specs.Insns.{targets_of, with_block, flows_on_of}
use Rattle.cfg.specs.Contents.{is_no_jump, contents}
use Rattle.block_pass_laws.proofs.BackLaws.Bare.{bare_of}

abbrev pub contents_of : List TempInsn → List TempInsn
contents_of xs = contents targets_of with_block flows_on_of xs

-- a jump, a branch, or an instruction without targets, which stays as it is
pub data Kind : TempInsn → Type 0 where
  Jumps : (block : ℕ) → Kind (i.Jump block)
  Branches : (op : TempBranchOp) (a block : ℕ) → Kind (i.Branch op a block)
  Stays : (z : TempInsn) → is_no_jump targets_of flows_on_of z ≡ true → bare_of z ≡ z → targets_of z ≡ [] → Kind z

pub kind : (z : TempInsn) → Kind z
kind (i.Address op d base plus) = Stays (i.Address op d base plus) refl refl refl
kind (i.ObjectAddress d place plus) = Stays (i.ObjectAddress d place plus) refl refl refl
kind (i.Load op d p plus) = Stays (i.Load op d p plus) refl refl refl
kind (i.Store op a p plus) = Stays (i.Store op a p plus) refl refl refl
kind (i.Operate op d a b) = Stays (i.Operate op d a b) refl refl refl
kind (i.Extend op d a) = Stays (i.Extend op d a) refl refl refl
kind (i.ToFixed register a) = Stays (i.ToFixed register a) refl refl refl
kind (i.FromFixed d register) = Stays (i.FromFixed d register) refl refl refl
kind (i.SetFixed register number) = Stays (i.SetFixed register number) refl refl refl
kind (i.WriteArgument number a) = Stays (i.WriteArgument number a) refl refl refl
kind (i.ReadArgument d number) = Stays (i.ReadArgument d number) refl refl refl
kind (i.Branch op a block) = Branches op a block
kind (i.Jump block) = Jumps block
kind (i.Call function arguments) = Stays (i.Call function arguments) refl refl refl
kind (i.Divide routine) = Stays (i.Divide routine) refl refl refl
kind (i.Serve service) = Stays (i.Serve service) refl refl refl
kind (i.Return with_value) = Stays (i.Return with_value) refl refl refl
kind i.Mark = Stays i.Mark refl refl refl

-- the contents of a block that begins with one that stays
pub stays_first : (z : TempInsn) (xs : List TempInsn) → is_no_jump targets_of flows_on_of z ≡ true → bare_of z ≡ z → contents_of (z ∷ xs) ≡ z ∷ contents_of xs
stays_first z xs e same =
    ap (λ b. map bare_of (cond b (z ∷ filter (is_no_jump targets_of flows_on_of) xs) (filter (is_no_jump targets_of flows_on_of) xs))) e
    ∙ ap (λ y. y ∷ contents_of xs) same

-- ---- what holds of all elements
