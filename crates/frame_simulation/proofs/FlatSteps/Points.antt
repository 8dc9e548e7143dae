-- What stands at a point of a plan.
use Rattle.std.proofs.Common.{◌≡◌, ℕ, ◌+◌, Bool, true, false, List, [], ◌∷◌, Option, Some, None, ap, ◌∙◌}
use Rattle.std.specs.Prelude.{slice_get, nat_lt, if◌then◌else◌}
use Rattle.mem_model.specs.declared.value.Value.TheVariants.{Word, Address, Unset}
use Rattle.mem_model.specs.Memory.{Memory}
use Rattle.mem_model.specs.World.{Outer, take_byte}
use Rattle.machine_model.specs.Code.{Act, Writes, Jumps, Calls, Returns, Stops, Point}
use Rattle.temp_ir.specs.declared.operation.Service.{Service}
use Rattle.temp_ir.specs.declared.operation.Service.TheVariants.{End, PutByte, GetByte, Trap}
use Rattle.temp_ir.specs.declared.insn.TempInsn.{TempInsn}
use Rattle.temp_ir.specs.declared.insn.TempInsn.TheVariants as i
use Rattle.alpha_isa.specs.Step.{input_word}
use Rattle.alloc_model.specs.Contents.{Content, Plain, Bundle, word_content, ContentAnswer, Gives, TrapsWith, Fails, content_answer, operate_answer, extend_answer, moved_bytes, moved_content, loaded_content, stored_memory, branch_test}
use Rattle.alloc_model.specs.Effect.{widest_call, content_at, left_content, right_content, sole_content, right_index, fails, writes, changes, branches, holds_number, service_number, end_act, put_act, trap_act, serve_act, argument_answer, division_answer, does}
use Rattle.alloc_model.specs.Temporaries.{is_left_at, site_or_next, site_in}
use Rattle.alloc_model.specs.Places.{Plan, linear_number, transfers_at, registers_at, placed_site, placed_site_in, placed_code}
use Rattle.frame_simulation.specs.edge_shapes.Points.{stays_in_call}
use Rattle.frame_simulation.specs.flat_steps.Builds.{Build}
use Rattle.frame_simulation.specs.flat_steps.Matching.{StandsInPlan, place_in, point_place}

pub site-is : (b : Build) (p : Point) (a : Plan) (insns : List TempInsn) → StandsInPlan b p a insns → (placed_code b.plans).site p ≡ site_or_next (placed_site (widest_call a.function.blocks) (transfers_at a p.block p.at) (registers_at a p.block p.at)) p.block (is_left_at insns p.at) (slice_get insns p.at)
site-is b p a insns h =
    ap (λ o. placed_site_in o p) h.plan
    ∙ ap (λ o. site_in (λ at. placed_site (widest_call a.function.blocks) (transfers_at a p.block at) (registers_at a p.block at)) p.block p.at o) h.block

pub place-is : (b : Build) (p : Point) (a : Plan) → slice_get b.plans p.function ≡ Some a → point_place b p ≡ linear_number a.function.blocks p.block p.at + p.block
place-is b p a e = ap (λ o. place_in o p) e

-- ---- acts that are no call and no return

abbrev pub IsNoCall : Act Content → Type 0
IsNoCall (Writes cs o) = Unit {0}
IsNoCall (Jumps target o) = Unit {0}
IsNoCall (Calls function cs o) = ⊥
IsNoCall (Returns cs o) = ⊥
IsNoCall (Stops e o) = Unit {0}

writes-none : (a : ContentAnswer) (o : Outer) → IsNoCall (writes a o)
writes-none (Gives c) o = tt
writes-none (TrapsWith code) o = tt
writes-none Fails o = tt

changes-none : (m : Option Memory) (o : Outer) → IsNoCall (changes m o)
changes-none (Some m) o = tt
changes-none None o = tt

branches-none : (t : Option Bool) (o : Outer) → IsNoCall (branches t o)
branches-none (Some true) o = tt
branches-none (Some false) o = tt
branches-none None o = tt

if-none : (t : Bool) (a c : Act Content) → IsNoCall a → IsNoCall c → IsNoCall (if t then a else c)
if-none true a c h k = h
if-none false a c h k = k

end-none : (c : Content) (o : Outer) → IsNoCall (end_act c o)
end-none (Plain (Word n)) o = tt
end-none (Plain (Address q)) o = tt
end-none (Plain Unset) o = tt
end-none (Bundle cells) o = tt

put-none : (c : Content) (o : Outer) → IsNoCall (put_act c o)
put-none (Plain (Word n)) o = tt
put-none (Plain (Address q)) o = tt
put-none (Plain Unset) o = tt
put-none (Bundle cells) o = tt

trap-none : (c : Content) (o : Outer) → IsNoCall (trap_act c o)
trap-none (Plain (Word n)) o = tt
trap-none (Plain (Address q)) o = tt
trap-none (Plain Unset) o = tt
trap-none (Bundle cells) o = tt

serve-none : (s : Service) (cs : List Content) (o : Outer) → IsNoCall (serve_act s cs o)
serve-none End cs o = if-none (holds_number (service_number End) (content_at cs 0)) (end_act (content_at cs 1) o) (fails o) (end-none (content_at cs 1) o) tt
serve-none PutByte cs o = if-none (holds_number (service_number PutByte) (content_at cs 0)) (put_act (content_at cs 1) o) (fails o) (put-none (content_at cs 1) o) tt
serve-none GetByte cs o = if-none (holds_number (service_number GetByte) (content_at cs 0)) (Writes (word_content (input_word o.input) ∷ []) (take_byte o)) (fails o) tt tt
serve-none Trap cs o = trap-none (content_at cs 0) o

pub no-call : (widest : ℕ) (x : TempInsn) (own : ℕ) (cs : List Content) (o : Outer) → stays_in_call x ≡ true → IsNoCall (does widest x own cs o)
no-call widest (i.Address op d base plus) own cs o e = writes-none (content_answer (moved_content o.memory (left_content base cs) (moved_bytes op plus))) o
no-call widest (i.ObjectAddress d place plus) own cs o e = tt
no-call widest (i.Load op d pointer plus) own cs o e = writes-none (content_answer (loaded_content o.memory op (content_at cs 0) plus)) o
no-call widest (i.Store op value pointer plus) own cs o e = changes-none (stored_memory o.memory op (left_content value cs) (content_at cs (right_index value)) plus) o
no-call widest (i.Operate op d left right) own cs o e = writes-none (operate_answer o.memory op (left_content left cs) (right_content left right cs)) o
no-call widest (i.Extend op d source) own cs o e = writes-none (extend_answer op (sole_content source cs)) o
no-call widest (i.ToFixed register source) own cs o e = tt
no-call widest (i.FromFixed d register) own cs o e = tt
no-call widest (i.SetFixed register number) own cs o e = tt
no-call widest (i.WriteArgument number source) own cs o e = if-none (nat_lt (number + 6) widest) (Writes cs o) (fails o) tt tt
no-call widest (i.ReadArgument d number) own cs o e = writes-none (argument_answer (content_at cs 0)) o
no-call widest (i.Branch op source block) own cs o e = branches-none (branch_test op o.memory (content_at cs 0)) o
no-call widest (i.Jump block) own cs o e = tt
no-call widest (i.Call function arguments) own cs o e = absurd (cc)
no-call widest (i.Divide routine) own cs o e = writes-none (division_answer routine (content_at cs 0) (content_at cs 1)) o
no-call widest (i.Serve service) own cs o e = serve-none service cs o
no-call widest (i.Return with_value) own cs o e = absurd (cc)
no-call widest i.Mark own cs o e = tt
