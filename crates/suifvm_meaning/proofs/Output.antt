-- No instruction takes back output.
use Rattle.std.proofs.Common.{ℕ, List, [], ◌∷◌, Option, Some, None, Bool, true, false, if◌then◌else◌, refl, sym, subst, append-nil}
use Rattle.std.specs.Prelude.{slice_get}
use Rattle.mem_model.specs.declared.value.Value.{Value}
use Rattle.mem_model.specs.declared.value.Value.TheVariants.{Word, Address, Unset}
use Rattle.mem_model.specs.Memory.{Memory}
use Rattle.mem_model.specs.World.{Outer}
use Rattle.machine_model.specs.Code.{Act, Writes, Jumps, Returns, Site}
use Rattle.machine_model.specs.Laws.{IsPrefix, KeepsOutput, act_outer}
use Rattle.suifvm_ir.specs.declared.insn.VmBranchOp.{VmBranchOp}
use Rattle.suifvm_ir.specs.declared.insn.VmBuiltin.{VmBuiltin}
use Rattle.suifvm_ir.specs.declared.insn.VmBuiltin.TheVariants.{PutChar, GetChar, Abort, Exit}
use Rattle.suifvm_ir.specs.declared.insn.VmCallee.{VmCallee}
use Rattle.suifvm_ir.specs.declared.insn.VmCallee.TheVariants as callee
use Rattle.suifvm_ir.specs.declared.insn.TypedRegister.{TypedRegister}
use Rattle.suifvm_ir.specs.declared.insn.VmInsn.{VmInsn}
use Rattle.suifvm_ir.specs.declared.insn.VmInsn.TheVariants.{LoadConstant, LoadAddress, Load, Store, Copy, Unary, Binary, Shift, Convert, Compare, Branch, Jump, Call, Return, Mark, Nop}
use Rattle.std.specs.List.{list_all}
use Rattle.suifvm_ir.specs.Programs.{alignment_bytes}
use Rattle.suifvm_meaning.specs.Operations.{Answer, Gives, TrapsWith, Fails, is_set, is_value_of, when_value, unary_answer, convert_answer, binary_answer, shift_answer, compare_answer, value_holds, loaded_answer, stored_memory, copied_memory}
use Rattle.suifvm_meaning.specs.Effect.{fails, first_source, second_source, writes, changes, is_branch_taken, branches, puts_char, exits_with, builtin_act, callee_act, return_act, does}
use Rattle.suifvm_meaning.specs.Behave.{FunctionCode, Registers, vm_code, site_or_next, site_in_block, site_in_function}

-- the output of an outer part is a front of the one that is left
abbrev Extends : Outer → Act Value → Type 0
Extends o a = IsPrefix o.output (act_outer a).output

same : (bytes : List ℕ) → IsPrefix bytes bytes
same bytes = ([], sym (append-nil bytes))

if_extends : (o : Outer) (b : Bool) (x y : Act Value) → Extends o x → Extends o y → Extends o (if b then x else y)
if_extends o true x y h k = h
if_extends o false x y h k = k

writes_extends : (a : Answer) (o : Outer) → Extends o (writes a o)
writes_extends (Gives v) o = same o.output
writes_extends (TrapsWith code) o = same o.output
writes_extends Fails o = same o.output

changes_extends : (m : Option Memory) (o : Outer) → Extends o (changes m o)
changes_extends (Some memory) o = same o.output
changes_extends None o = same o.output

branches_extends : (op : VmBranchOp) (t : Option Bool) (o : Outer) → Extends o (branches op t o)
branches_extends op (Some test) o = if_extends o (is_branch_taken op test) (Jumps 0 o) (Writes [] o) (same o.output) (same o.output)
branches_extends op None o = same o.output

puts_extends : (v : Value) (o : Outer) → Extends o (puts_char v o)
puts_extends (Word n) o = (_, refl)
puts_extends (Address p) o = same o.output
puts_extends Unset o = same o.output

exits_extends : (v : Value) (o : Outer) → Extends o (exits_with v o)
exits_extends (Word n) o = same o.output
exits_extends (Address p) o = same o.output
exits_extends Unset o = same o.output

builtin_extends : (b : VmBuiltin) (vs : List Value) (o : Outer) → Extends o (builtin_act b vs o)
builtin_extends PutChar vs o = puts_extends (first_source vs) o
builtin_extends GetChar vs o = same o.output
builtin_extends Abort vs o = same o.output
builtin_extends Exit vs o = exits_extends (first_source vs) o

callee_extends : (c : VmCallee) (vs : List Value) (o : Outer) → Extends o (callee_act c vs o)
callee_extends (callee.Function k) vs o = same o.output
callee_extends (callee.Builtin b) vs o = builtin_extends b vs o

return_extends : (r : Option TypedRegister) (vs : List Value) (o : Outer) → Extends o (return_act r vs o)
return_extends None vs o = same o.output
return_extends (Some r) vs o = if_extends o (is_value_of r.ty (first_source vs)) (Returns (first_source vs ∷ []) o) (fails o) (same o.output) (same o.output)

pub does_extends : (i : VmInsn) (own : ℕ) (vs : List Value) (o : Outer) → IsPrefix o.output (act_outer (does i own vs o)).output
does_extends (LoadConstant ty destination word) own vs o = writes_extends (when_value ty (Word word)) o
does_extends (LoadAddress destination place plus) own vs o = same o.output
does_extends (Load ty destination pointer plus) own vs o = writes_extends (loaded_answer o.memory ty (first_source vs) plus) o
does_extends (Store ty pointer plus value) own vs o = changes_extends (stored_memory o.memory ty (first_source vs) plus (second_source vs)) o
does_extends (Copy to from size align) own vs o = changes_extends (copied_memory o.memory (first_source vs) (second_source vs) size (alignment_bytes align)) o
does_extends (Unary op ty destination source) own vs o = writes_extends (unary_answer op ty (first_source vs)) o
does_extends (Binary op ty destination left right) own vs o = writes_extends (binary_answer o.memory op ty (first_source vs) (second_source vs)) o
does_extends (Shift op ty destination source count) own vs o = writes_extends (shift_answer op ty (first_source vs) (second_source vs)) o
does_extends (Convert from to destination source) own vs o = writes_extends (convert_answer from to (first_source vs)) o
does_extends (Compare op ty destination left right) own vs o = writes_extends (compare_answer o.memory op ty (first_source vs) (second_source vs)) o
does_extends (Branch op ty source block) own vs o = branches_extends op (value_holds o.memory ty (first_source vs)) o
does_extends (Jump block) own vs o = same o.output
does_extends (Call destination c arguments) own vs o = if_extends o (list_all is_set vs) (callee_act c vs o) (fails o) (callee_extends c vs o) (same o.output)
does_extends (Return value) own vs o = return_extends value vs o
does_extends Mark own vs o = same o.output
does_extends Nop own vs o = same o.output

-- what holds of a site, if there is one
abbrev OfSite : Option (Site Value Registers) → Type 0
OfSite None = Unit {0}
OfSite (Some s) = (own : ℕ) (vs : List Value) (o : Outer) → IsPrefix o.output (act_outer (s.does own vs o)).output

insn_extends : (block : ℕ) (i : Option VmInsn) → OfSite (Some (site_or_next block i))
insn_extends block (Some i) = does_extends i
insn_extends block None = λ own vs o. same o.output

block_extends : (block at : ℕ) (b : Option (List VmInsn)) → OfSite (site_in_block block at b)
block_extends block at None = tt
block_extends block at (Some insns) = insn_extends block (slice_get insns at)

site_extends : (block at : ℕ) (f : Option FunctionCode) → OfSite (site_in_function block at f)
site_extends block at None = tt
site_extends block at (Some f) = block_extends block at (slice_get f.blocks block)

pub keeps_output : (functions : List FunctionCode) → KeepsOutput Value Registers (vm_code functions)
keeps_output functions p s is = subst OfSite is (site_extends p.block p.at (slice_get functions p.function))
