-- What an instruction does hangs on its form, and not on its temporaries.
use Rattle.std.proofs.Common.{◌≡◌, ℕ, Bool, true, false, List, Option, Some, None, refl, sym, ap, ◌∙◌}
use Rattle.mem_objects.specs.declared.DataObject.{DataObject}
use Rattle.mem_model.specs.World.{Outer}
use Rattle.pass_core.specs.declared.function.MemoryLocal.{MemoryLocal}
use Rattle.temp_ir.specs.declared.insn.FirstOperand.TheVariants as source
use Rattle.temp_ir.specs.declared.insn.SecondOperand.TheVariants as operand
use Rattle.temp_ir.specs.declared.insn.TempInsn.{TempInsn}
use Rattle.temp_ir.specs.declared.insn.TempInsn.TheVariants as i
use Rattle.temp_ir.specs.Insns.{targets_of, flows_on_of}
use Rattle.temp_ir.specs.Fixed.{fixed_reads_of, fixed_writes_of, ended_of}
use Rattle.temp_ir.specs.Programs.{TempFn, names_what_is_there, first_is_mark}
use Rattle.temp_ir.specs.Cost.{makes_call}
use Rattle.alloc_model.specs.Contents.{Content}
use Rattle.alloc_model.specs.Effect.{others_read, others_written, calls_function, width_of, does, takes_turn}
use Rattle.block_coalescing.specs.Forms.{form_of, write_of}

abbrev pub is_there : Option ℕ → Bool
is_there None = false
is_there (Some r) = true

-- two instructions that do the same with what they read
pub record SameForm (x y : TempInsn) : Type 0 where
  pub acts : (widest own : ℕ) (cs : List Content) (o : Outer) → does widest x own cs o ≡ does widest y own cs o
  pub turn : takes_turn x ≡ takes_turn y
  pub targets : targets_of x ≡ targets_of y
  pub flows : flows_on_of x ≡ flows_on_of y
  pub others_in : others_read x ≡ others_read y
  pub others_out : others_written x ≡ others_written y
  pub empties : calls_function x ≡ calls_function y
  pub fixed_in : fixed_reads_of x ≡ fixed_reads_of y
  pub fixed_out : fixed_writes_of x ≡ fixed_writes_of y
  pub ended : ended_of x ≡ ended_of y
  pub mark : first_is_mark (Some x) ≡ first_is_mark (Some y)
  pub width : width_of x ≡ width_of y
  pub calls : makes_call x ≡ makes_call y
  pub wrote : is_there (write_of x) ≡ is_there (write_of y)
  pub named : (functions : List TempFn) (globals : List DataObject) (objects : List MemoryLocal) → names_what_is_there functions globals objects x ≡ names_what_is_there functions globals objects y

-- each does what its form does
own_form : (x : TempInsn) → SameForm x (form_of x)
own_form (i.Address op d source.Zero plus) = record { acts = λ widest own cs o. refl; turn = refl; targets = refl; flows = refl; others_in = refl; others_out = refl; empties = refl; fixed_in = refl; fixed_out = refl; ended = refl; mark = refl; width = refl; calls = refl; wrote = refl; named = λ functions globals objects. refl }
own_form (i.Address op d (source.Temp t) plus) = record { acts = λ widest own cs o. refl; turn = refl; targets = refl; flows = refl; others_in = refl; others_out = refl; empties = refl; fixed_in = refl; fixed_out = refl; ended = refl; mark = refl; width = refl; calls = refl; wrote = refl; named = λ functions globals objects. refl }
own_form (i.ObjectAddress d place plus) = record { acts = λ widest own cs o. refl; turn = refl; targets = refl; flows = refl; others_in = refl; others_out = refl; empties = refl; fixed_in = refl; fixed_out = refl; ended = refl; mark = refl; width = refl; calls = refl; wrote = refl; named = λ functions globals objects. refl }
own_form (i.Load op d p plus) = record { acts = λ widest own cs o. refl; turn = refl; targets = refl; flows = refl; others_in = refl; others_out = refl; empties = refl; fixed_in = refl; fixed_out = refl; ended = refl; mark = refl; width = refl; calls = refl; wrote = refl; named = λ functions globals objects. refl }
own_form (i.Store op source.Zero p plus) = record { acts = λ widest own cs o. refl; turn = refl; targets = refl; flows = refl; others_in = refl; others_out = refl; empties = refl; fixed_in = refl; fixed_out = refl; ended = refl; mark = refl; width = refl; calls = refl; wrote = refl; named = λ functions globals objects. refl }
own_form (i.Store op (source.Temp t) p plus) = record { acts = λ widest own cs o. refl; turn = refl; targets = refl; flows = refl; others_in = refl; others_out = refl; empties = refl; fixed_in = refl; fixed_out = refl; ended = refl; mark = refl; width = refl; calls = refl; wrote = refl; named = λ functions globals objects. refl }
own_form (i.Operate op d source.Zero (operand.Literal n)) = record { acts = λ widest own cs o. refl; turn = refl; targets = refl; flows = refl; others_in = refl; others_out = refl; empties = refl; fixed_in = refl; fixed_out = refl; ended = refl; mark = refl; width = refl; calls = refl; wrote = refl; named = λ functions globals objects. refl }
own_form (i.Operate op d source.Zero (operand.Temp t)) = record { acts = λ widest own cs o. refl; turn = refl; targets = refl; flows = refl; others_in = refl; others_out = refl; empties = refl; fixed_in = refl; fixed_out = refl; ended = refl; mark = refl; width = refl; calls = refl; wrote = refl; named = λ functions globals objects. refl }
own_form (i.Operate op d (source.Temp t) (operand.Literal n)) = record { acts = λ widest own cs o. refl; turn = refl; targets = refl; flows = refl; others_in = refl; others_out = refl; empties = refl; fixed_in = refl; fixed_out = refl; ended = refl; mark = refl; width = refl; calls = refl; wrote = refl; named = λ functions globals objects. refl }
own_form (i.Operate op d (source.Temp t) (operand.Temp u)) = record { acts = λ widest own cs o. refl; turn = refl; targets = refl; flows = refl; others_in = refl; others_out = refl; empties = refl; fixed_in = refl; fixed_out = refl; ended = refl; mark = refl; width = refl; calls = refl; wrote = refl; named = λ functions globals objects. refl }
own_form (i.Extend op d (operand.Literal n)) = record { acts = λ widest own cs o. refl; turn = refl; targets = refl; flows = refl; others_in = refl; others_out = refl; empties = refl; fixed_in = refl; fixed_out = refl; ended = refl; mark = refl; width = refl; calls = refl; wrote = refl; named = λ functions globals objects. refl }
own_form (i.Extend op d (operand.Temp t)) = record { acts = λ widest own cs o. refl; turn = refl; targets = refl; flows = refl; others_in = refl; others_out = refl; empties = refl; fixed_in = refl; fixed_out = refl; ended = refl; mark = refl; width = refl; calls = refl; wrote = refl; named = λ functions globals objects. refl }
own_form (i.ToFixed register s) = record { acts = λ widest own cs o. refl; turn = refl; targets = refl; flows = refl; others_in = refl; others_out = refl; empties = refl; fixed_in = refl; fixed_out = refl; ended = refl; mark = refl; width = refl; calls = refl; wrote = refl; named = λ functions globals objects. refl }
own_form (i.FromFixed d register) = record { acts = λ widest own cs o. refl; turn = refl; targets = refl; flows = refl; others_in = refl; others_out = refl; empties = refl; fixed_in = refl; fixed_out = refl; ended = refl; mark = refl; width = refl; calls = refl; wrote = refl; named = λ functions globals objects. refl }
own_form (i.SetFixed register number) = record { acts = λ widest own cs o. refl; turn = refl; targets = refl; flows = refl; others_in = refl; others_out = refl; empties = refl; fixed_in = refl; fixed_out = refl; ended = refl; mark = refl; width = refl; calls = refl; wrote = refl; named = λ functions globals objects. refl }
own_form (i.WriteArgument number s) = record { acts = λ widest own cs o. refl; turn = refl; targets = refl; flows = refl; others_in = refl; others_out = refl; empties = refl; fixed_in = refl; fixed_out = refl; ended = refl; mark = refl; width = refl; calls = refl; wrote = refl; named = λ functions globals objects. refl }
own_form (i.ReadArgument d number) = record { acts = λ widest own cs o. refl; turn = refl; targets = refl; flows = refl; others_in = refl; others_out = refl; empties = refl; fixed_in = refl; fixed_out = refl; ended = refl; mark = refl; width = refl; calls = refl; wrote = refl; named = λ functions globals objects. refl }
own_form (i.Branch op s block) = record { acts = λ widest own cs o. refl; turn = refl; targets = refl; flows = refl; others_in = refl; others_out = refl; empties = refl; fixed_in = refl; fixed_out = refl; ended = refl; mark = refl; width = refl; calls = refl; wrote = refl; named = λ functions globals objects. refl }
own_form (i.Jump block) = record { acts = λ widest own cs o. refl; turn = refl; targets = refl; flows = refl; others_in = refl; others_out = refl; empties = refl; fixed_in = refl; fixed_out = refl; ended = refl; mark = refl; width = refl; calls = refl; wrote = refl; named = λ functions globals objects. refl }
own_form (i.Call function arguments) = record { acts = λ widest own cs o. refl; turn = refl; targets = refl; flows = refl; others_in = refl; others_out = refl; empties = refl; fixed_in = refl; fixed_out = refl; ended = refl; mark = refl; width = refl; calls = refl; wrote = refl; named = λ functions globals objects. refl }
own_form (i.Divide routine) = record { acts = λ widest own cs o. refl; turn = refl; targets = refl; flows = refl; others_in = refl; others_out = refl; empties = refl; fixed_in = refl; fixed_out = refl; ended = refl; mark = refl; width = refl; calls = refl; wrote = refl; named = λ functions globals objects. refl }
own_form (i.Serve service) = record { acts = λ widest own cs o. refl; turn = refl; targets = refl; flows = refl; others_in = refl; others_out = refl; empties = refl; fixed_in = refl; fixed_out = refl; ended = refl; mark = refl; width = refl; calls = refl; wrote = refl; named = λ functions globals objects. refl }
own_form (i.Return with_value) = record { acts = λ widest own cs o. refl; turn = refl; targets = refl; flows = refl; others_in = refl; others_out = refl; empties = refl; fixed_in = refl; fixed_out = refl; ended = refl; mark = refl; width = refl; calls = refl; wrote = refl; named = λ functions globals objects. refl }
own_form i.Mark = record { acts = λ widest own cs o. refl; turn = refl; targets = refl; flows = refl; others_in = refl; others_out = refl; empties = refl; fixed_in = refl; fixed_out = refl; ended = refl; mark = refl; width = refl; calls = refl; wrote = refl; named = λ functions globals objects. refl }

pub same_form : (x y : TempInsn) → form_of x ≡ form_of y → SameForm x y
same_form x y e =
    let a = own_form x in
    let b = own_form y in
    record {
      acts = λ widest own cs o. a.acts widest own cs o ∙ ap (λ z. does widest z own cs o) e ∙ sym (b.acts widest own cs o);
      turn = a.turn ∙ ap takes_turn e ∙ sym b.turn;
      targets = a.targets ∙ ap targets_of e ∙ sym b.targets;
      flows = a.flows ∙ ap flows_on_of e ∙ sym b.flows;
      others_in = a.others_in ∙ ap others_read e ∙ sym b.others_in;
      others_out = a.others_out ∙ ap others_written e ∙ sym b.others_out;
      empties = a.empties ∙ ap calls_function e ∙ sym b.empties;
      fixed_in = a.fixed_in ∙ ap fixed_reads_of e ∙ sym b.fixed_in;
      fixed_out = a.fixed_out ∙ ap fixed_writes_of e ∙ sym b.fixed_out;
      ended = a.ended ∙ ap ended_of e ∙ sym b.ended;
      mark = a.mark ∙ ap (λ z. first_is_mark (Some z)) e ∙ sym b.mark;
      width = a.width ∙ ap width_of e ∙ sym b.width;
      calls = a.calls ∙ ap makes_call e ∙ sym b.calls;
      wrote = a.wrote ∙ ap (λ z. is_there (write_of z)) e ∙ sym b.wrote;
      named = λ functions globals objects. a.named functions globals objects ∙ ap (names_what_is_there functions globals objects) e ∙ sym (b.named functions globals objects);
    }
