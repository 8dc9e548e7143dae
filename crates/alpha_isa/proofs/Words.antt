-- Each instruction's word stands for it, and each word that stands for an instruction is its word.
use Rattle.std.proofs.Common.{◌≡◌, ℕ, ◌+◌, ◌-◌, ◌*◌, ◌/◌, ◌%◌, ◌^◌, ◌<◌, ◌≤◌, ◌⊎◌, inl, inr, ℤ, pos, negsuc, Bool, true, false, not, cond, ◌&&◌, eqb, ltb, List, [], ◌∷◌, Option, Some, None, option_map, refl, sym, ap, ◌∙◌, subst, arith, suc, lit<}
use Rattle.std.specs.List.{find}
use Rattle.std.specs.Int.{w16, cast_unsigned, cast_signed}
use Rattle.std.proofs.lemmas.Int.{to_z-of_z, of_z-to_z}
use Rattle.std.proofs.lemmas.Bool.{eqb-true, eq-eqb, ltb-true, ltb-false, lt-ltb, le-ltb, not-false, and_parts, or_cases}
use Rattle.alpha_isa.specs.declared.insn.Fields.{Fields}
use Rattle.alpha_isa.specs.declared.insn.Fields.TheVariants as fields
use Rattle.alpha_isa.specs.declared.insn.Operand.{Operand}
use Rattle.alpha_isa.specs.declared.insn.Operand.TheVariants.{Reg, Literal}
use Rattle.alpha_isa.specs.declared.insn.MemoryOp.{MemoryOp}
use Rattle.alpha_isa.specs.declared.insn.MemoryOp.TheVariants.{Lda, Ldah, Ldbu, Ldwu, Stw, Stb, Ldl, Ldq, Stl, Stq}
use Rattle.alpha_isa.specs.declared.insn.BranchOp.{BranchOp}
use Rattle.alpha_isa.specs.declared.insn.BranchOp.TheVariants.{Br, Bsr, Blbc, Beq, Blt, Ble, Blbs, Bne, Bge, Bgt}
use Rattle.alpha_isa.specs.declared.insn.JumpOp.{JumpOp}
use Rattle.alpha_isa.specs.declared.insn.JumpOp.TheVariants.{Jmp, Jsr, Ret}
use Rattle.alpha_isa.specs.declared.insn.OperateOp.{OperateOp}
use Rattle.alpha_isa.specs.declared.insn.OperateOp.TheVariants.{Addl, Subl, Cmpult, Addq, S4addq, Subq, Cmpeq, S8addq, Cmpule, AddlV, SublV, Cmplt, AddqV, SubqV, Cmple, And, Bic, Bis, Cmoveq, Cmovne, Ornot, Xor, Eqv, Zapnot, Srl, Sll, Sra, Mull, Mulq, Umulh, MullV, MulqV, Sextb, Sextw}
use Rattle.alpha_isa.specs.Lawful.{AreLawfulFields, IsOperand, IsDisplacement, IsBranchDisplacement, IsFirstOperand, is_pal_function}
use Rattle.alpha_isa.specs.Codes.{memory_code, branch_code, jump_code, operate_opcode, operate_function, memory_at, branch_at, jump_at, operate_at, memory_ops, branch_ops, jump_ops, operate_ops}
use Rattle.alpha_isa.specs.Words.{branch_bits, branch_displacement, operand_bits, insn_word, opcode_of, ra_of, rb_of, rc_of, operand_at, extends, operation, memory_insn, branch_insn, jump_insn, operate_insn, pal_insn, is_operate, insn_of}

-- ---- from an instruction to its word and back

-- each format has its opcodes
memory_format : (op : MemoryOp) (w : ℕ) → opcode_of w ≡ memory_code op → insn_of w ≡ memory_insn w
unfolding insn_of
memory_format Lda w e = rw e refl
memory_format Ldah w e = rw e refl
memory_format Ldbu w e = rw e refl
memory_format Ldwu w e = rw e refl
memory_format Stw w e = rw e refl
memory_format Stb w e = rw e refl
memory_format Ldl w e = rw e refl
memory_format Ldq w e = rw e refl
memory_format Stl w e = rw e refl
memory_format Stq w e = rw e refl

memory_found : (op : MemoryOp) → memory_at (memory_code op) ≡ Some op
unfolding memory_at
memory_found Lda = refl
memory_found Ldah = refl
memory_found Ldbu = refl
memory_found Ldwu = refl
memory_found Stw = refl
memory_found Stb = refl
memory_found Ldl = refl
memory_found Ldq = refl
memory_found Stl = refl
memory_found Stq = refl

branch_format : (op : BranchOp) (w : ℕ) → opcode_of w ≡ branch_code op → insn_of w ≡ branch_insn w
unfolding insn_of
branch_format Br w e = rw e refl
branch_format Bsr w e = rw e refl
branch_format Blbc w e = rw e refl
branch_format Beq w e = rw e refl
branch_format Blt w e = rw e refl
branch_format Ble w e = rw e refl
branch_format Blbs w e = rw e refl
branch_format Bne w e = rw e refl
branch_format Bge w e = rw e refl
branch_format Bgt w e = rw e refl

branch_found : (op : BranchOp) → branch_at (branch_code op) ≡ Some op
unfolding branch_at
branch_found Br = refl
branch_found Bsr = refl
branch_found Blbc = refl
branch_found Beq = refl
branch_found Blt = refl
branch_found Ble = refl
branch_found Blbs = refl
branch_found Bne = refl
branch_found Bge = refl
branch_found Bgt = refl

jump_format : (w : ℕ) → opcode_of w ≡ 0x1A → insn_of w ≡ jump_insn w
unfolding insn_of
jump_format w e = rw e refl

jump_found : (op : JumpOp) → jump_at (jump_code op) ≡ Some op
unfolding jump_at
jump_found Jmp = refl
jump_found Jsr = refl
jump_found Ret = refl

operate_format : (op : OperateOp) (w : ℕ) → opcode_of w ≡ operate_opcode op → insn_of w ≡ operate_insn w
unfolding insn_of
operate_format Addl w e = rw e refl
operate_format Subl w e = rw e refl
operate_format Cmpult w e = rw e refl
operate_format Addq w e = rw e refl
operate_format S4addq w e = rw e refl
operate_format Subq w e = rw e refl
operate_format Cmpeq w e = rw e refl
operate_format S8addq w e = rw e refl
operate_format Cmpule w e = rw e refl
operate_format AddlV w e = rw e refl
operate_format SublV w e = rw e refl
operate_format Cmplt w e = rw e refl
operate_format AddqV w e = rw e refl
operate_format SubqV w e = rw e refl
operate_format Cmple w e = rw e refl
operate_format And w e = rw e refl
operate_format Bic w e = rw e refl
operate_format Bis w e = rw e refl
operate_format Cmoveq w e = rw e refl
operate_format Cmovne w e = rw e refl
operate_format Ornot w e = rw e refl
operate_format Xor w e = rw e refl
operate_format Eqv w e = rw e refl
operate_format Zapnot w e = rw e refl
operate_format Srl w e = rw e refl
operate_format Sll w e = rw e refl
operate_format Sra w e = rw e refl
operate_format Mull w e = rw e refl
operate_format Mulq w e = rw e refl
operate_format Umulh w e = rw e refl
operate_format MullV w e = rw e refl
operate_format MulqV w e = rw e refl
operate_format Sextb w e = rw e refl
operate_format Sextw w e = rw e refl

operate_found : (op : OperateOp) → operate_at (operate_opcode op) (operate_function op) ≡ Some op
unfolding operate_at
operate_found Addl = refl
operate_found Subl = refl
operate_found Cmpult = refl
operate_found Addq = refl
operate_found S4addq = refl
operate_found Subq = refl
operate_found Cmpeq = refl
operate_found S8addq = refl
operate_found Cmpule = refl
operate_found AddlV = refl
operate_found SublV = refl
operate_found Cmplt = refl
operate_found AddqV = refl
operate_found SubqV = refl
operate_found Cmple = refl
operate_found And = refl
operate_found Bic = refl
operate_found Bis = refl
operate_found Cmoveq = refl
operate_found Cmovne = refl
operate_found Ornot = refl
operate_found Xor = refl
operate_found Eqv = refl
operate_found Zapnot = refl
operate_found Srl = refl
operate_found Sll = refl
operate_found Sra = refl
operate_found Mull = refl
operate_found Mulq = refl
operate_found Umulh = refl
operate_found MullV = refl
operate_found MulqV = refl
operate_found Sextb = refl
operate_found Sextw = refl

-- the operands and numbers in two's complement
displacement_small : (disp : ℤ) → IsDisplacement disp → cast_unsigned w16 disp < 2 ^ 16
displacement_small (pos n) d = omega arith
displacement_small (negsuc n) d = omega arith

displacement_again : (disp : ℤ) → IsDisplacement disp → cast_signed w16 (cast_unsigned w16 disp) ≡ disp
displacement_again (pos n) d = to_z-of_z w16 (pos n) (record { sfits = d })
displacement_again (negsuc n) d = to_z-of_z w16 (negsuc n) (record { sfits = d })

branch_small : (disp : ℤ) → IsBranchDisplacement disp → branch_bits disp < 2 ^ 21
branch_small (pos n) d = omega arith
branch_small (negsuc n) d = omega arith

branch_again : (disp : ℤ) → IsBranchDisplacement disp → branch_displacement (branch_bits disp) ≡ disp
branch_again (pos n) d = rw (lt-ltb n (2 ^ 20) d) refl
branch_again (negsuc n) d =
    let below : n < 2 ^ 20 = d in
    let high : 2 ^ 20 ≤ 2 ^ 21 - 1 - n = omega arith in
    let same : 2 ^ 21 - 1 - (2 ^ 21 - 1 - n) ≡ n = omega arith in
    rw (le-ltb (2 ^ 21 - 1 - n) (2 ^ 20) high) (ap negsuc same)

function_small : (op : OperateOp) → operate_function op < 2 ^ 7
function_small Addl = lit< tt
function_small Subl = lit< tt
function_small Cmpult = lit< tt
function_small Addq = lit< tt
function_small S4addq = lit< tt
function_small Subq = lit< tt
function_small Cmpeq = lit< tt
function_small S8addq = lit< tt
function_small Cmpule = lit< tt
function_small AddlV = lit< tt
function_small SublV = lit< tt
function_small Cmplt = lit< tt
function_small AddqV = lit< tt
function_small SubqV = lit< tt
function_small Cmple = lit< tt
function_small And = lit< tt
function_small Bic = lit< tt
function_small Bis = lit< tt
function_small Cmoveq = lit< tt
function_small Cmovne = lit< tt
function_small Ornot = lit< tt
function_small Xor = lit< tt
function_small Eqv = lit< tt
function_small Zapnot = lit< tt
function_small Srl = lit< tt
function_small Sll = lit< tt
function_small Sra = lit< tt
function_small Mull = lit< tt
function_small Mulq = lit< tt
function_small Umulh = lit< tt
function_small MullV = lit< tt
function_small MulqV = lit< tt
function_small Sextb = lit< tt
function_small Sextw = lit< tt

extension_stands : (op : OperateOp) (ra : ℕ) → IsFirstOperand op ra → (extends op && not (eqb ra 31)) ≡ false
extension_stands Sextb ra e = rw e refl
extension_stands Sextw ra e = rw e refl
extension_stands _ ra e = refl

first_register : (op : OperateOp) (ra : ℕ) → IsFirstOperand op ra → ra < 32
first_register Sextb ra e = omega arith
first_register Sextw ra e = omega arith
first_register _ ra e = e

-- each format decodes its words
memory_fields : (op : MemoryOp) (w ra rb : ℕ) (disp : ℤ) → opcode_of w ≡ memory_code op → ra_of w ≡ ra → rb_of w ≡ rb → cast_signed w16 (w % 2 ^ 16) ≡ disp → memory_insn w ≡ Some (fields.Memory op ra rb disp)
unfolding memory_insn
memory_fields op w ra rb disp e a b d =
    let found : memory_at (opcode_of w) ≡ Some op = ap memory_at e ∙ memory_found op in
    ap (option_map (λ o. fields.Memory o (ra_of w) (rb_of w) (cast_signed w16 (w % 2 ^ 16)))) found ∙ cc

memory_decoded : (op : MemoryOp) (c ra rb n : ℕ) (disp : ℤ) → c ≡ memory_code op → ra < 32 → rb < 32 → n < 2 ^ 16 → cast_signed w16 n ≡ disp → insn_of (c * 2 ^ 26 + ra * 2 ^ 21 + rb * 2 ^ 16 + n) ≡ Some (fields.Memory op ra rb disp)
memory_decoded op c ra rb n disp code p q small d =
    let w : ℕ = c * 2 ^ 26 + ra * 2 ^ 21 + rb * 2 ^ 16 + n in
    let e : w / 2 ^ 26 ≡ c = omega arith in
    let a : w / 2 ^ 21 % 32 ≡ ra = omega arith in
    let b : w / 2 ^ 16 % 32 ≡ rb = omega arith in
    let r : w % 2 ^ 16 ≡ n = omega arith in
    memory_format op w (e ∙ code) ∙ memory_fields op w ra rb disp (e ∙ code) a b (ap (cast_signed w16) r ∙ d)

branch_fields : (op : BranchOp) (w ra : ℕ) (disp : ℤ) → opcode_of w ≡ branch_code op → ra_of w ≡ ra → branch_displacement (w % 2 ^ 21) ≡ disp → branch_insn w ≡ Some (fields.Branch op ra disp)
unfolding branch_insn
branch_fields op w ra disp e a d =
    let found : branch_at (opcode_of w) ≡ Some op = ap branch_at e ∙ branch_found op in
    ap (option_map (λ o. fields.Branch o (ra_of w) (branch_displacement (w % 2 ^ 21)))) found ∙ cc

branch_decoded : (op : BranchOp) (c ra n : ℕ) (disp : ℤ) → c ≡ branch_code op → ra < 32 → n < 2 ^ 21 → branch_displacement n ≡ disp → insn_of (c * 2 ^ 26 + ra * 2 ^ 21 + n) ≡ Some (fields.Branch op ra disp)
branch_decoded op c ra n disp code p small d =
    let w : ℕ = c * 2 ^ 26 + ra * 2 ^ 21 + n in
    let e : w / 2 ^ 26 ≡ c = omega arith in
    let a : w / 2 ^ 21 % 32 ≡ ra = omega arith in
    let r : w % 2 ^ 21 ≡ n = omega arith in
    branch_format op w (e ∙ code) ∙ branch_fields op w ra disp (e ∙ code) a (ap branch_displacement r ∙ d)

jump_fields : (op : JumpOp) (w ra rb : ℕ) → w % 2 ^ 14 ≡ 0 → w / 2 ^ 14 % 4 ≡ jump_code op → ra_of w ≡ ra → rb_of w ≡ rb → jump_insn w ≡ Some (fields.Jump op ra rb)
unfolding jump_insn
jump_fields op w ra rb hints e a b =
    let found : jump_at (w / 2 ^ 14 % 4) ≡ Some op = ap jump_at e ∙ jump_found op in
    rw (eq-eqb (w % 2 ^ 14) 0 hints) (ap (option_map (λ o. fields.Jump o (ra_of w) (rb_of w))) found ∙ cc)

jump_decoded : (op : JumpOp) (c ra rb : ℕ) → c ≡ jump_code op → c < 4 → ra < 32 → rb < 32 → insn_of (0x1A * 2 ^ 26 + ra * 2 ^ 21 + rb * 2 ^ 16 + c * 2 ^ 14) ≡ Some (fields.Jump op ra rb)
jump_decoded op c ra rb code small p q =
    let w : ℕ = 0x1A * 2 ^ 26 + ra * 2 ^ 21 + rb * 2 ^ 16 + c * 2 ^ 14 in
    let e : w / 2 ^ 26 ≡ 0x1A = omega arith in
    let a : w / 2 ^ 21 % 32 ≡ ra = omega arith in
    let b : w / 2 ^ 16 % 32 ≡ rb = omega arith in
    let h : w % 2 ^ 14 ≡ 0 = omega arith in
    let k : w / 2 ^ 14 % 4 ≡ c = omega arith in
    jump_format w e ∙ jump_fields op w ra rb h (k ∙ code) a b

operate_fields : (op : OperateOp) (rb : Operand) (w ra rc : ℕ) → opcode_of w ≡ operate_opcode op → w / 2 ^ 5 % 128 ≡ operate_function op → operand_at w ≡ Some rb → ra_of w ≡ ra → rc_of w ≡ rc → IsFirstOperand op ra → operate_insn w ≡ Some (fields.Operate op ra rb rc)
unfolding operate_insn
operate_fields op rb w ra rc e f o a c first =
    let found : operate_at (opcode_of w) (w / 2 ^ 5 % 128) ≡ Some op = cc (ap (λ x. operate_at x (w / 2 ^ 5 % 128)) e, ap (λ x. operate_at (operate_opcode op) x) f, operate_found op) in
    rw (found, o, a, c, extension_stands op ra first) refl

operand_found : (rb : Operand) (w : ℕ) → IsOperand rb → w / 2 ^ 12 % 512 * 2 ^ 12 ≡ operand_bits rb → operand_at w ≡ Some rb
operand_found (Reg r) w p e =
    let odd : w / 2 ^ 12 % 2 ≡ 0 = omega arith in
    let zeros : w / 2 ^ 12 % 16 ≡ 0 = omega arith in
    let register : w / 2 ^ 16 % 32 ≡ r = omega arith in
    rw (odd, zeros, register) refl
operand_found (Literal n) w p e =
    let odd : w / 2 ^ 12 % 2 ≡ 1 = omega arith in
    let literal : w / 2 ^ 13 % 256 ≡ n = omega arith in
    rw (odd, literal) refl

operand_small : (rb : Operand) → IsOperand rb → (k : ℕ) × (k < 512) × (operand_bits rb ≡ k * 2 ^ 12)
operand_small (Reg r) p = (r * 2 ^ 4, omega arith, omega arith)
operand_small (Literal n) p = (n * 2 + 1, omega arith, omega arith)

operate_decoded : (op : OperateOp) (rb : Operand) (c ra k f rc : ℕ) → c ≡ operate_opcode op → f ≡ operate_function op → f < 2 ^ 7 → k < 512 → operand_bits rb ≡ k * 2 ^ 12 → ra < 32 → rc < 32 → IsFirstOperand op ra → IsOperand rb → insn_of (c * 2 ^ 26 + ra * 2 ^ 21 + k * 2 ^ 12 + f * 2 ^ 5 + rc) ≡ Some (fields.Operate op ra rb rc)
operate_decoded op rb c ra k f rc code function small below bits p r first is_operand =
    let w : ℕ = c * 2 ^ 26 + ra * 2 ^ 21 + k * 2 ^ 12 + f * 2 ^ 5 + rc in
    let e : w / 2 ^ 26 ≡ c = omega (arith, small, below, p, r) in
    let a : w / 2 ^ 21 % 32 ≡ ra = omega arith in
    let b : w / 2 ^ 12 % 512 * 2 ^ 12 ≡ k * 2 ^ 12 = omega arith in
    let g : w / 2 ^ 5 % 128 ≡ f = omega arith in
    let h : w % 32 ≡ rc = omega arith in
    operate_format op w (e ∙ code)
    ∙ operate_fields op rb w ra rc (e ∙ code) (g ∙ function) (operand_found rb w is_operand (b ∙ sym bits)) a h first

jump_small : (op : JumpOp) → jump_code op < 4
jump_small Jmp = lit< tt
jump_small Jsr = lit< tt
jump_small Ret = lit< tt

pal_decoded : (n : ℕ) → is_pal_function n ≡ true → insn_of n ≡ Some (fields.Pal n)
unfolding insn_of pal_insn
pal_decoded n p = elim (or_cases (eqb n 0x83) (eqb n 0xAA) p) [
  | inl e ↦ rw (eqb-true n 0x83 e) refl
  | inr e ↦ rw (eqb-true n 0xAA e) refl
]

-- the word of a lawful instruction stands for it
pub word_decoded : (i : Fields) → AreLawfulFields i → insn_of (insn_word i) ≡ Some i
word_decoded (fields.Memory op ra rb disp) l = memory_decoded op (memory_code op) ra rb (cast_unsigned w16 disp) disp refl l.0 l.1 (displacement_small disp l.2) (displacement_again disp l.2)
word_decoded (fields.Branch op ra disp) l = branch_decoded op (branch_code op) ra (branch_bits disp) disp refl l.0 (branch_small disp l.1) (branch_again disp l.1)
word_decoded (fields.Jump op ra rb) l = jump_decoded op (jump_code op) ra rb refl (jump_small op) l.0 l.1
word_decoded (fields.Operate op ra rb rc) l =
    let k = operand_small rb l.1 in
    rw k.2 (operate_decoded op rb (operate_opcode op) ra k.0 (operate_function op) rc refl refl (function_small op) k.1 k.2 (first_register op ra l.0) l.2 l.0 l.1)
word_decoded (fields.Pal n) l = pal_decoded n l

-- ---- from a word to its instruction and back

-- which side a choice took
chosen : {A : Type 0} (b : Bool) (x y z : A) → cond b x y ≡ z → ((b ≡ true) × (x ≡ z)) ⊎ ((b ≡ false) × (y ≡ z))
chosen true x y z e = inl (refl, e)
chosen false x y z e = inr (refl, e)

mapped : {A B : Type 0} (f : A → B) (o : Option A) (y : B) → option_map f o ≡ Some y → (x : A) × (o ≡ Some x) × (y ≡ f x)
mapped f None y e = cc
mapped f (Some x) y e = (x, refl, cc)

-- what is found in a list passes the test
found_passes : {A : Type 0} (p : A → Bool) (xs : List A) (x : A) → find p xs ≡ Some x → p x ≡ true
found_passes p [] x e = cc
found_passes p (y ∷ ys) x e =
    elim (chosen (p y) (Some y) (find p ys) (Some x) e) [ inl h ↦ (let same : y ≡ x = cc in subst (λ v. p v ≡ true) same h.0) | inr h ↦ found_passes p ys x h.1 ]

memory_numbered : (opcode : ℕ) (op : MemoryOp) → memory_at opcode ≡ Some op → memory_code op ≡ opcode
unfolding memory_at
memory_numbered opcode op e = eqb-true (memory_code op) opcode (found_passes (λ o. eqb (memory_code o) opcode) memory_ops op e)

branch_numbered : (opcode : ℕ) (op : BranchOp) → branch_at opcode ≡ Some op → branch_code op ≡ opcode
unfolding branch_at
branch_numbered opcode op e = eqb-true (branch_code op) opcode (found_passes (λ o. eqb (branch_code o) opcode) branch_ops op e)

jump_numbered : (kind : ℕ) (op : JumpOp) → jump_at kind ≡ Some op → jump_code op ≡ kind
unfolding jump_at
jump_numbered kind op e = eqb-true (jump_code op) kind (found_passes (λ o. eqb (jump_code o) kind) jump_ops op e)

operate_numbered : (opcode function : ℕ) (op : OperateOp) → operate_at opcode function ≡ Some op → (operate_opcode op ≡ opcode) × (operate_function op ≡ function)
unfolding operate_at
operate_numbered opcode function op e =
    let both = and_parts (eqb (operate_opcode op) opcode) (eqb (operate_function op) function) (found_passes (λ o. eqb (operate_opcode o) opcode && eqb (operate_function o) function) operate_ops op e) in
    (eqb-true (operate_opcode op) opcode both.0, eqb-true (operate_function op) function both.1)

-- the sign of a displacement
signed_within : (n : ℕ) (b : Bool) → ltb n (2 ^ 15) ≡ b → n < 2 ^ 16 → IsDisplacement (cond b (pos n) (negsuc (2 ^ 16 - suc n)))
signed_within n true e small = ltb-true n (2 ^ 15) e
signed_within n false e small = let high : 2 ^ 15 ≤ n = ltb-false n (2 ^ 15) e in omega arith

branch_within : (n : ℕ) (b : Bool) → ltb n (2 ^ 20) ≡ b → n < 2 ^ 21 → (let z : ℤ = cond b (pos n) (negsuc (2 ^ 21 - 1 - n)) in IsBranchDisplacement z × (branch_bits z ≡ n))
branch_within n true e small = (ltb-true n (2 ^ 20) e, refl)
branch_within n false e small = let high : 2 ^ 20 ≤ n = ltb-false n (2 ^ 20) e in (omega arith, omega arith)

abbrev Stands : ℕ → Fields → Type 0
Stands w i = AreLawfulFields i × (insn_word i ≡ w)

memory_stands : (op : MemoryOp) (w : ℕ) → memory_code op ≡ opcode_of w → Stands w (fields.Memory op (ra_of w) (rb_of w) (cast_signed w16 (w % 2 ^ 16)))
memory_stands op w e =
    let small : w % 2 ^ 16 < 2 ^ 16 = omega arith in
    let again : cast_unsigned w16 (cast_signed w16 (w % 2 ^ 16)) ≡ w % 2 ^ 16 = of_z-to_z w16 (w % 2 ^ 16) small in
    ((omega arith, omega arith, signed_within (w % 2 ^ 16) (ltb (w % 2 ^ 16) (2 ^ 15)) refl small), rw (e, again) (omega arith))

memory_back : (w : ℕ) (i : Fields) → memory_insn w ≡ Some i → Stands w i
unfolding memory_insn
memory_back w i e =
    let m = mapped (λ o. fields.Memory o (ra_of w) (rb_of w) (cast_signed w16 (w % 2 ^ 16))) (memory_at (opcode_of w)) i e in
    subst (Stands w) (sym m.2) (memory_stands m.0 w (memory_numbered (opcode_of w) m.0 m.1))

branch_stands : (op : BranchOp) (w : ℕ) → branch_code op ≡ opcode_of w → Stands w (fields.Branch op (ra_of w) (branch_displacement (w % 2 ^ 21)))
branch_stands op w e =
    let small : w % 2 ^ 21 < 2 ^ 21 = omega arith in
    let within = branch_within (w % 2 ^ 21) (ltb (w % 2 ^ 21) (2 ^ 20)) refl small in
    ((omega arith, within.0), rw (e, within.1) (omega arith))

branch_back : (w : ℕ) (i : Fields) → branch_insn w ≡ Some i → Stands w i
unfolding branch_insn
branch_back w i e =
    let m = mapped (λ o. fields.Branch o (ra_of w) (branch_displacement (w % 2 ^ 21))) (branch_at (opcode_of w)) i e in
    subst (Stands w) (sym m.2) (branch_stands m.0 w (branch_numbered (opcode_of w) m.0 m.1))

jump_stands : (op : JumpOp) (w : ℕ) → opcode_of w ≡ 0x1A → w % 2 ^ 14 ≡ 0 → jump_code op ≡ w / 2 ^ 14 % 4 → Stands w (fields.Jump op (ra_of w) (rb_of w))
jump_stands op w e hints kind = ((omega arith, omega arith), rw kind (omega arith))

jump_back : (w : ℕ) (i : Fields) → opcode_of w ≡ 0x1A → jump_insn w ≡ Some i → Stands w i
unfolding jump_insn
jump_back w i o e =
    let all : Option Fields = option_map (λ k. fields.Jump k (ra_of w) (rb_of w)) (jump_at (w / 2 ^ 14 % 4)) in
    elim (chosen (eqb (w % 2 ^ 14) 0) all None (Some i) e) [
      | inl h ↦ (let m = mapped (λ k. fields.Jump k (ra_of w) (rb_of w)) (jump_at (w / 2 ^ 14 % 4)) i h.1 in
          subst (Stands w) (sym m.2) (jump_stands m.0 w o (eqb-true (w % 2 ^ 14) 0 h.0) (jump_numbered (w / 2 ^ 14 % 4) m.0 m.1)))
      | inr h ↦ cc
    ]

operand_back : (w : ℕ) (rb : Operand) → operand_at w ≡ Some rb → IsOperand rb × (operand_bits rb ≡ w / 2 ^ 12 % 512 * 2 ^ 12)
operand_back w rb e =
    let register : Option Operand = cond (eqb (w / 2 ^ 12 % 16) 0) (Some (Reg (rb_of w))) None in
    let P : Operand → Type 0 = λ o. IsOperand o × (operand_bits o ≡ w / 2 ^ 12 % 512 * 2 ^ 12) in
    elim (chosen (eqb (w / 2 ^ 12 % 2) 1) (Some (Literal (w / 2 ^ 13 % 256))) register (Some rb) e) [
      | inl h ↦ (let same : Literal (w / 2 ^ 13 % 256) ≡ rb = cc in
          let odd : w / 2 ^ 12 % 2 ≡ 1 = eqb-true (w / 2 ^ 12 % 2) 1 h.0 in
          subst P same (omega arith, omega arith))
      | inr h ↦ elim (chosen (eqb (w / 2 ^ 12 % 16) 0) (Some (Reg (rb_of w))) None (Some rb) h.1) [
        | inl k ↦ (let same : Reg (rb_of w) ≡ rb = cc in
            let zeros : w / 2 ^ 12 % 16 ≡ 0 = eqb-true (w / 2 ^ 12 % 16) 0 k.0 in
            subst P same (omega arith, omega arith))
        | inr k ↦ cc
      ]
    ]

first_back : (op : OperateOp) (ra : ℕ) → ra < 32 → (extends op && not (eqb ra 31)) ≡ false → IsFirstOperand op ra
first_back Sextb ra p e = eqb-true ra 31 (not-false (eqb ra 31) e)
first_back Sextw ra p e = eqb-true ra 31 (not-false (eqb ra 31) e)
first_back _ ra p e = p

operate_stands : (op : OperateOp) (rb : Operand) (w : ℕ) → operate_opcode op ≡ opcode_of w → operate_function op ≡ w / 2 ^ 5 % 128 → operand_bits rb ≡ w / 2 ^ 12 % 512 * 2 ^ 12 → insn_word (fields.Operate op (ra_of w) rb (rc_of w)) ≡ w
operate_stands op rb w e f bits = rw (e, f, bits) (omega arith)

operation_effect : (o : Option OperateOp) (p : Option Operand) (w : ℕ) (i : Fields) → o ≡ operate_at (opcode_of w) (w / 2 ^ 5 % 128) → p ≡ operand_at w → operation o p (ra_of w) (rc_of w) ≡ Some i → Stands w i
operation_effect None p w i eo ep e = cc
operation_effect (Some op) None w i eo ep e = cc
operation_effect (Some op) (Some rb) w i eo ep e =
    elim (chosen (extends op && not (eqb (ra_of w) 31)) None (Some (fields.Operate op (ra_of w) rb (rc_of w))) (Some i) e) [
      | inl h ↦ cc
      | inr h ↦ (let same : fields.Operate op (ra_of w) rb (rc_of w) ≡ i = cc in
          let codes = operate_numbered (opcode_of w) (w / 2 ^ 5 % 128) op (sym eo) in
          let operand = operand_back w rb (sym ep) in
          let register : ra_of w < 32 = omega arith in
          let last : rc_of w < 32 = omega arith in
          subst (Stands w) same ((first_back op (ra_of w) register h.0, operand.0, last), operate_stands op rb w codes.0 codes.1 operand.1))
    ]

operate_back : (w : ℕ) (i : Fields) → operate_insn w ≡ Some i → Stands w i
unfolding operate_insn
operate_back w i e = operation_effect (operate_at (opcode_of w) (w / 2 ^ 5 % 128)) (operand_at w) w i refl refl e

pal_back : (w : ℕ) (i : Fields) → pal_insn w ≡ Some i → Stands w i
unfolding pal_insn
pal_back w i e =
    elim (chosen (is_pal_function w) (Some (fields.Pal w)) None (Some i) e) [
      | inl h ↦ (let same : fields.Pal w ≡ i = cc in subst (Stands w) same (h.0, refl))
      | inr h ↦ cc
    ]

-- the instruction that a word stands for is lawful, and the word is its word
pub decoded_word : (w : ℕ) (i : Fields) → insn_of w ≡ Some i → AreLawfulFields i × (insn_word i ≡ w)
unfolding insn_of
decoded_word w i e =
    let o : ℕ = opcode_of w in
    let low : Option Fields = cond (ltb o 0x30) (memory_insn w) (branch_insn w) in
    let operates : Option Fields = cond (is_operate o) (operate_insn w) low in
    let jumps : Option Fields = cond (eqb o 0x1A) (jump_insn w) operates in
    elim (chosen (eqb o 0) (pal_insn w) jumps (Some i) e) [
      | inl h ↦ pal_back w i h.1
      | inr h ↦ elim (chosen (eqb o 0x1A) (jump_insn w) operates (Some i) h.1) [
        | inl k ↦ jump_back w i (eqb-true o 0x1A k.0) k.1
        | inr k ↦ elim (chosen (is_operate o) (operate_insn w) low (Some i) k.1) [
          | inl m ↦ operate_back w i m.1
          | inr m ↦ elim (chosen (ltb o 0x30) (memory_insn w) (branch_insn w) (Some i) m.1) [
            | inl n ↦ memory_back w i n.1
            | inr n ↦ branch_back w i n.1
          ]
        ]
      ]
    ]
