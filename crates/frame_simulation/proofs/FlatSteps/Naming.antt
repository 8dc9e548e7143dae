-- What an instruction names is there in each call.
use Rattle.std.proofs.Common.{◌∙◌, sym, ap}
use Rattle.std.specs.Prelude.{slice_get}
use Rattle.alpha_isa.specs.State.{State}
use Rattle.machine_model.specs.Machine.{Config}
use Rattle.suifvm_ir.specs.declared.insn.VmObject.TheVariants.{Global, Local}
use Rattle.temp_ir.specs.declared.insn.TempInsn.{TempInsn}
use Rattle.temp_ir.specs.declared.insn.TempInsn.TheVariants as i
use Rattle.alloc_model.specs.Places.{Places}
use Rattle.frame_simulation.specs.stack_rooms.Laws.{IsThere}
use Rattle.frame_simulation.specs.flat_steps.Builds.{Build, any_call, BuildStands}
use Rattle.frame_simulation.specs.flat_steps.Matching.{Matches}
use Rattle.frame_simulation.proofs.FlatSteps.Matched.{same-shape}

pub names-there : (b : Build) (ok : BuildStands b) (k : Config Places) (s : State) (m : Matches b k s) (x : TempInsn) → IsThere b.program (b.setting k.here.point.function) (any_call b k.here.point.function) x → IsThere b.program (b.setting k.here.point.function) m.call x
names-there b ok k s m (i.ObjectAddress d (Global n) plus) h = record {
  extent = h.extent;
  made = m.globals n h.extent h.made;
  sound = h.sound;
  base = h.base;
  within = h.within;
  near = h.near;
}
names-there b ok k s m (i.ObjectAddress d (Local n) plus) h = record {
  size = h.size;
  made = ap (λ z. slice_get z.sizes n) (sym (same-shape b ok k s m)) ∙ h.made;
  within = h.within;
}
names-there b ok k s m (i.Address op d base plus) h = h
names-there b ok k s m (i.Load op d pointer plus) h = h
names-there b ok k s m (i.Store op value pointer plus) h = h
names-there b ok k s m (i.Operate op d left right) h = h
names-there b ok k s m (i.Extend op d source) h = h
names-there b ok k s m (i.ToFixed register source) h = h
names-there b ok k s m (i.FromFixed d register) h = h
names-there b ok k s m (i.SetFixed register number) h = h
names-there b ok k s m (i.WriteArgument number source) h = h
names-there b ok k s m (i.ReadArgument d number) h = h
names-there b ok k s m (i.Branch op source block) h = h
names-there b ok k s m (i.Jump block) h = h
names-there b ok k s m (i.Call function arguments) h = h
names-there b ok k s m (i.Divide routine) h = h
names-there b ok k s m (i.Serve service) h = h
names-there b ok k s m (i.Return with_value) h = h
names-there b ok k s m i.Mark h = h
