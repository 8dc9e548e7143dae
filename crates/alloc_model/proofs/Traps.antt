-- What traps is an instruction that may.
use Rattle.std.proofs.Common.{◌≡◌, ℕ, ◌+◌, List, Option, Some, None, Bool, true, false, if◌then◌else◌, refl, subst}
use Rattle.std.specs.Prelude.{nat_lt}
use Rattle.mem_model.specs.declared.value.Value.TheVariants.{Word, Address, Unset}
use Rattle.mem_model.specs.Memory.{Memory}
use Rattle.mem_model.specs.World.{Outer}
use Rattle.machine_model.specs.Code.{Exits, Traps, HasNoMeaning, Act, Writes, Jumps, Calls, Returns, Stops}
use Rattle.alpha_isa.specs.Arithmetic.{operation_effect}
use Rattle.temp_ir.specs.declared.operation.Operation.{Operation}
use Rattle.temp_ir.specs.declared.operation.Operation.TheVariants.{Addl, Subl, Cmpult, Addq, S4addq, Subq, Cmpeq, S8addq, Cmpule, AddlV, SublV, Cmplt, AddqV, SubqV, Cmple, And, Bic, Bis, Ornot, Xor, Eqv, Zapnot, Srl, Sll, Sra, Mull, Mulq, Umulh, MullV, MulqV}
use Rattle.temp_ir.specs.declared.operation.ExtendOp.{ExtendOp}
use Rattle.temp_ir.specs.declared.operation.ExtendOp.TheVariants.{Sextb, Sextw}
use Rattle.temp_ir.specs.declared.operation.Service.{Service}
use Rattle.temp_ir.specs.declared.operation.Service.TheVariants.{End, PutByte, GetByte, Trap}
use Rattle.temp_ir.specs.declared.insn.TempInsn.{TempInsn}
use Rattle.temp_ir.specs.declared.insn.TempInsn.TheVariants as i
use Rattle.temp_ir.specs.Insns.{is_checked, service_may_trap, may_trap_of}
use Rattle.temp_ir.specs.Operations.{operate_op}
use Rattle.alloc_model.specs.Contents.{Content, Plain, Bundle, ContentAnswer, Gives, TrapsWith, Fails, content_answer, effect_answer, operate_answer, extend_answer, other_content}
use Rattle.alloc_model.specs.Effect.{fails, writes, changes, branches, content_at, left_content, right_content, sole_content, service_number, holds_number, argument_answer, end_act, put_act, serve_act, does}
use Rattle.alloc_model.specs.Laws.{OnlyTheseTrap}

-- an answer, and an act, that is no trap
abbrev Calm : ContentAnswer → Type 0
Calm (Gives c) = Unit {0}
Calm (TrapsWith code) = ⊥
Calm Fails = Unit {0}

abbrev NoTrap : Act Content → Type 0
NoTrap (Writes cs o) = Unit {0}
NoTrap (Jumps target o) = Unit {0}
NoTrap (Calls function cs o) = Unit {0}
NoTrap (Returns cs o) = Unit {0}
NoTrap (Stops (Exits status) o) = Unit {0}
NoTrap (Stops (Traps code) o) = ⊥
NoTrap (Stops HasNoMeaning o) = Unit {0}

-- an act that may be a trap where a test holds, and an answer
abbrev OnlyIf : Bool → Act Content → Type 0
OnlyIf true a = Unit {0}
OnlyIf false a = NoTrap a

abbrev CalmUnless : Bool → ContentAnswer → Type 0
CalmUnless true a = Unit {0}
CalmUnless false a = Calm a

writes_calm : (a : ContentAnswer) (o : Outer) → Calm a → NoTrap (writes a o)
writes_calm (Gives c) o h = tt
writes_calm (TrapsWith code) o h = absurd h
writes_calm Fails o h = tt

writes_only : (test : Bool) (a : ContentAnswer) (o : Outer) → CalmUnless test a → OnlyIf test (writes a o)
writes_only true a o h = tt
writes_only false a o h = writes_calm a o h

option_calm : (c : Option Content) → Calm (content_answer c)
option_calm (Some c) = tt
option_calm None = tt

calm_unless : (test : Bool) (a : ContentAnswer) → Calm a → CalmUnless test a
calm_unless true a h = tt
calm_unless false a h = h

words_calm : (op : Operation) (a b : ℕ) → CalmUnless (is_checked op) (effect_answer (operation_effect (operate_op op) a b))
words_calm Addl a b = tt
words_calm Subl a b = tt
words_calm Cmpult a b = tt
words_calm Addq a b = tt
words_calm S4addq a b = tt
words_calm Subq a b = tt
words_calm Cmpeq a b = tt
words_calm S8addq a b = tt
words_calm Cmpule a b = tt
words_calm AddlV a b = tt
words_calm SublV a b = tt
words_calm Cmplt a b = tt
words_calm AddqV a b = tt
words_calm SubqV a b = tt
words_calm Cmple a b = tt
words_calm And a b = tt
words_calm Bic a b = tt
words_calm Bis a b = tt
words_calm Ornot a b = tt
words_calm Xor a b = tt
words_calm Eqv a b = tt
words_calm Zapnot a b = tt
words_calm Srl a b = tt
words_calm Sll a b = tt
words_calm Sra a b = tt
words_calm Mull a b = tt
words_calm Mulq a b = tt
words_calm Umulh a b = tt
words_calm MullV a b = tt
words_calm MulqV a b = tt

others_calm : (m : Memory) (op : Operation) (a b : Content) → CalmUnless (is_checked op) (content_answer (other_content m op a b))
others_calm m op a b = calm_unless (is_checked op) (content_answer (other_content m op a b)) (option_calm (other_content m op a b))

operate_calm : (m : Memory) (op : Operation) (a b : Content) → CalmUnless (is_checked op) (operate_answer m op a b)
operate_calm m op (Plain (Word a)) (Plain (Word b)) = words_calm op a b
operate_calm m op (Plain (Word a)) (Plain (Address q)) = others_calm m op (Plain (Word a)) (Plain (Address q))
operate_calm m op (Plain (Word a)) (Plain Unset) = others_calm m op (Plain (Word a)) (Plain Unset)
operate_calm m op (Plain (Word a)) (Bundle cells) = others_calm m op (Plain (Word a)) (Bundle cells)
operate_calm m op (Plain (Address p)) b = others_calm m op (Plain (Address p)) b
operate_calm m op (Plain Unset) b = others_calm m op (Plain Unset) b
operate_calm m op (Bundle cells) b = others_calm m op (Bundle cells) b

extend_calm : (op : ExtendOp) (c : Content) → Calm (extend_answer op c)
extend_calm Sextb (Plain (Word n)) = tt
extend_calm Sextw (Plain (Word n)) = tt
extend_calm op (Plain (Address p)) = tt
extend_calm op (Plain Unset) = tt
extend_calm op (Bundle cells) = tt

argument_calm : (c : Content) → Calm (argument_answer c)
argument_calm (Plain (Word n)) = tt
argument_calm (Plain (Address p)) = tt
argument_calm (Plain Unset) = tt
argument_calm (Bundle cells) = tt

changes_calm : (m : Option Memory) (o : Outer) → NoTrap (changes m o)
changes_calm (Some m) o = tt
changes_calm None o = tt

branches_calm : (t : Option Bool) (o : Outer) → NoTrap (branches t o)
branches_calm (Some true) o = tt
branches_calm (Some false) o = tt
branches_calm None o = tt

if_calm : (b : Bool) (x y : Act Content) → NoTrap x → NoTrap y → NoTrap (if b then x else y)
if_calm true x y h k = h
if_calm false x y h k = k

end_calm : (c : Content) (o : Outer) → NoTrap (end_act c o)
end_calm (Plain (Word n)) o = tt
end_calm (Plain (Address p)) o = tt
end_calm (Plain Unset) o = tt
end_calm (Bundle cells) o = tt

put_calm : (c : Content) (o : Outer) → NoTrap (put_act c o)
put_calm (Plain (Word n)) o = tt
put_calm (Plain (Address p)) o = tt
put_calm (Plain Unset) o = tt
put_calm (Bundle cells) o = tt

serve_calm : (s : Service) (cs : List Content) (o : Outer) → OnlyIf (service_may_trap s) (serve_act s cs o)
serve_calm End cs o = if_calm (holds_number (service_number End) (content_at cs 0)) (end_act (content_at cs 1) o) (fails o) (end_calm (content_at cs 1) o) tt
serve_calm PutByte cs o =
    if_calm (holds_number (service_number PutByte) (content_at cs 0)) (put_act (content_at cs 1) o) (fails o) (put_calm (content_at cs 1) o) tt
serve_calm GetByte cs o = if_calm (holds_number (service_number GetByte) (content_at cs 0)) _ (fails o) tt tt
serve_calm Trap cs o = tt

does_only : (widest : ℕ) (x : TempInsn) (own : ℕ) (cs : List Content) (o : Outer) → OnlyIf (may_trap_of x) (does widest x own cs o)
does_only widest (i.Address op destination base plus) own cs o = writes_calm _ o (option_calm _)
does_only widest (i.ObjectAddress destination place plus) own cs o = tt
does_only widest (i.Load op destination pointer plus) own cs o = writes_calm _ o (option_calm _)
does_only widest (i.Store op value pointer plus) own cs o = changes_calm _ o
does_only widest (i.Operate op destination left right) own cs o =
    writes_only (is_checked op) _ o (operate_calm o.memory op (left_content left cs) (right_content left right cs))
does_only widest (i.Extend op destination source) own cs o = writes_calm _ o (extend_calm op (sole_content source cs))
does_only widest (i.ToFixed register source) own cs o = tt
does_only widest (i.FromFixed destination register) own cs o = tt
does_only widest (i.SetFixed register number) own cs o = tt
does_only widest (i.WriteArgument number source) own cs o = if_calm (nat_lt (number + 6) widest) (Writes cs o) (fails o) tt tt
does_only widest (i.ReadArgument destination number) own cs o = writes_calm _ o (argument_calm (content_at cs 0))
does_only widest (i.Branch op source block) own cs o = branches_calm _ o
does_only widest (i.Jump block) own cs o = tt
does_only widest (i.Call function arguments) own cs o = tt
does_only widest (i.Divide routine) own cs o = tt
does_only widest (i.Serve service) own cs o = serve_calm service cs o
does_only widest (i.Return with_value) own cs o = tt
does_only widest i.Mark own cs o = tt

trap_only : (test : Bool) (a : Act Content) (p : Outer) (code : ℕ) → OnlyIf test a → a ≡ Stops (Traps code) p → test ≡ true
trap_only true a p code h is = refl
trap_only false a p code h is = absurd (subst NoTrap is h)

pub only_these_trap : OnlyTheseTrap
only_these_trap widest x own cs o p code is = trap_only (may_trap_of x) (does widest x own cs o) p code (does_only widest x own cs o) is
