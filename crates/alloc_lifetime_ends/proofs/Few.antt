-- An instruction reads two temporaries at most, and writes one.
use Rattle.std.proofs.Common.{◌≤◌, length, arith}
use Rattle.temp_ir.specs.declared.insn.FirstOperand.TheVariants as s
use Rattle.temp_ir.specs.declared.insn.SecondOperand.TheVariants as o
use Rattle.temp_ir.specs.declared.insn.TempInsn.{TempInsn}
use Rattle.temp_ir.specs.declared.insn.TempInsn.TheVariants as i
use Rattle.temp_ir.specs.Insns.{reads_of, writes_of}

pub few : (x : TempInsn) → (length (reads_of x) ≤ 2) × (length (writes_of x) ≤ 1)
few (i.Address op destination s.Zero plus) = (omega arith, omega arith)
few (i.Address op destination (s.Temp t) plus) = (omega arith, omega arith)
few (i.ObjectAddress destination place plus) = (omega arith, omega arith)
few (i.Load op destination pointer plus) = (omega arith, omega arith)
few (i.Store op s.Zero pointer plus) = (omega arith, omega arith)
few (i.Store op (s.Temp t) pointer plus) = (omega arith, omega arith)
few (i.Operate op destination s.Zero (o.Temp u)) = (omega arith, omega arith)
few (i.Operate op destination s.Zero (o.Literal n)) = (omega arith, omega arith)
few (i.Operate op destination (s.Temp t) (o.Temp u)) = (omega arith, omega arith)
few (i.Operate op destination (s.Temp t) (o.Literal n)) = (omega arith, omega arith)
few (i.Extend op destination (o.Temp u)) = (omega arith, omega arith)
few (i.Extend op destination (o.Literal n)) = (omega arith, omega arith)
few (i.ToFixed register source) = (omega arith, omega arith)
few (i.FromFixed destination register) = (omega arith, omega arith)
few (i.SetFixed register number) = (omega arith, omega arith)
few (i.WriteArgument number source) = (omega arith, omega arith)
few (i.ReadArgument destination number) = (omega arith, omega arith)
few (i.Branch op source block) = (omega arith, omega arith)
few (i.Jump block) = (omega arith, omega arith)
few (i.Call function arguments) = (omega arith, omega arith)
few (i.Divide routine) = (omega arith, omega arith)
few (i.Serve service) = (omega arith, omega arith)
few (i.Return with_value) = (omega arith, omega arith)
few i.Mark = (omega arith, omega arith)
