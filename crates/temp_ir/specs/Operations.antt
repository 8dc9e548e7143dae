-- The operation of the machine that each operation over temporaries is.
use Rattle.alpha_isa.specs.declared.insn.MemoryOp.{MemoryOp}
use Rattle.alpha_isa.specs.declared.insn.MemoryOp.TheVariants as m
use Rattle.alpha_isa.specs.declared.insn.BranchOp.{BranchOp}
use Rattle.alpha_isa.specs.declared.insn.BranchOp.TheVariants as b
use Rattle.alpha_isa.specs.declared.insn.OperateOp.{OperateOp}
use Rattle.alpha_isa.specs.declared.insn.OperateOp.TheVariants as o
use Rattle.temp_ir.specs.declared.operation.AddressOp.{AddressOp}
use Rattle.temp_ir.specs.declared.operation.AddressOp.TheVariants.{Lda, Ldah}
use Rattle.temp_ir.specs.declared.operation.LoadOp.{LoadOp}
use Rattle.temp_ir.specs.declared.operation.LoadOp.TheVariants.{Ldbu, Ldwu, Ldl, Ldq}
use Rattle.temp_ir.specs.declared.operation.StoreOp.{StoreOp}
use Rattle.temp_ir.specs.declared.operation.StoreOp.TheVariants.{Stb, Stw, Stl, Stq}
use Rattle.temp_ir.specs.declared.operation.TempBranchOp as branch
use Rattle.temp_ir.specs.declared.operation.TempBranchOp.TheVariants.{Blbc, Beq, Blt, Ble, Blbs, Bne, Bge, Bgt}
use Rattle.temp_ir.specs.declared.operation.Operation.{Operation}
use Rattle.temp_ir.specs.declared.operation.Operation.TheVariants.{Addl, Subl, Cmpult, Addq, S4addq, Subq, Cmpeq, S8addq, Cmpule, AddlV, SublV, Cmplt, AddqV, SubqV, Cmple, And, Bic, Bis, Ornot, Xor, Eqv, Zapnot, Srl, Sll, Sra, Mull, Mulq, Umulh, MullV, MulqV}
use Rattle.temp_ir.specs.declared.operation.ExtendOp.{ExtendOp}
use Rattle.temp_ir.specs.declared.operation.ExtendOp.TheVariants.{Sextb, Sextw}

abbrev pub address_op : AddressOp → MemoryOp
address_op Lda = m.Lda
address_op Ldah = m.Ldah

abbrev pub load_op : LoadOp → MemoryOp
load_op Ldbu = m.Ldbu
load_op Ldwu = m.Ldwu
load_op Ldl = m.Ldl
load_op Ldq = m.Ldq

abbrev pub store_op : StoreOp → MemoryOp
store_op Stb = m.Stb
store_op Stw = m.Stw
store_op Stl = m.Stl
store_op Stq = m.Stq

abbrev pub branch_op : branch.TempBranchOp → BranchOp
branch_op Blbc = b.Blbc
branch_op Beq = b.Beq
branch_op Blt = b.Blt
branch_op Ble = b.Ble
branch_op Blbs = b.Blbs
branch_op Bne = b.Bne
branch_op Bge = b.Bge
branch_op Bgt = b.Bgt

abbrev pub operate_op : Operation → OperateOp
operate_op Addl = o.Addl
operate_op Subl = o.Subl
operate_op Cmpult = o.Cmpult
operate_op Addq = o.Addq
operate_op S4addq = o.S4addq
operate_op Subq = o.Subq
operate_op Cmpeq = o.Cmpeq
operate_op S8addq = o.S8addq
operate_op Cmpule = o.Cmpule
operate_op AddlV = o.AddlV
operate_op SublV = o.SublV
operate_op Cmplt = o.Cmplt
operate_op AddqV = o.AddqV
operate_op SubqV = o.SubqV
operate_op Cmple = o.Cmple
operate_op And = o.And
operate_op Bic = o.Bic
operate_op Bis = o.Bis
operate_op Ornot = o.Ornot
operate_op Xor = o.Xor
operate_op Eqv = o.Eqv
operate_op Zapnot = o.Zapnot
operate_op Srl = o.Srl
operate_op Sll = o.Sll
operate_op Sra = o.Sra
operate_op Mull = o.Mull
operate_op Mulq = o.Mulq
operate_op Umulh = o.Umulh
operate_op MullV = o.MullV
operate_op MulqV = o.MulqV

abbrev pub extend_op : ExtendOp → OperateOp
extend_op Sextb = o.Sextb
extend_op Sextw = o.Sextw
