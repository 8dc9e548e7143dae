-- No instruction takes back output.
use Rattle.std.proofs.Common.{ℕ, ◌+◌, List, [], Option, Some, None, Bool, true, false, if◌then◌else◌, refl, sym, subst, append-nil}
use Rattle.std.specs.Prelude.{slice_get, nat_lt}
use Rattle.mem_model.specs.declared.value.Value.TheVariants.{Word, Address, Unset}
use Rattle.mem_model.specs.Memory.{Memory}
use Rattle.mem_model.specs.World.{Outer}
use Rattle.machine_model.specs.Code.{Act, Writes, Site, Point}
use Rattle.machine_model.specs.Laws.{IsPrefix, KeepsOutput, act_outer}
use Rattle.temp_ir.specs.declared.operation.Service.{Service}
use Rattle.temp_ir.specs.declared.operation.Service.TheVariants.{End, PutByte, GetByte, Trap}
use Rattle.temp_ir.specs.declared.insn.TempInsn.{TempInsn}
use Rattle.temp_ir.specs.declared.insn.TempInsn.TheVariants as i
use Rattle.alloc_model.specs.Contents.{Content, Plain, Bundle, ContentAnswer, Gives, TrapsWith, Fails}
use Rattle.alloc_model.specs.Effect.{fails, writes, changes, branches, content_at, service_number, holds_number, end_act, put_act, trap_act, serve_act, widest_call, does}
use Rattle.alloc_model.specs.Temporaries.{TemporaryCode, Temps, temp_code, temp_site, next_if, site_or_next, site_in, is_left_at, blocks_in}
use Rattle.alloc_model.specs.Places.{Plan, Places, placed_code, placed_site, placed_site_in, transfers_at, registers_at}

-- the output of an outer part is a front of the one that is left
abbrev Extends : Outer → Act Content → Type 0
Extends o a = IsPrefix o.output (act_outer a).output

same : (bytes : List ℕ) → IsPrefix bytes bytes
same bytes = ([], sym (append-nil bytes))

if_extends : (o : Outer) (b : Bool) (x y : Act Content) → Extends o x → Extends o y → Extends o (if b then x else y)
if_extends o true x y h k = h
if_extends o false x y h k = k

writes_extends : (a : ContentAnswer) (o : Outer) → Extends o (writes a o)
writes_extends (Gives c) o = same o.output
writes_extends (TrapsWith code) o = same o.output
writes_extends Fails o = same o.output

changes_extends : (m : Option Memory) (o : Outer) → Extends o (changes m o)
changes_extends (Some memory) o = same o.output
changes_extends None o = same o.output

branches_extends : (t : Option Bool) (o : Outer) → Extends o (branches t o)
branches_extends (Some true) o = same o.output
branches_extends (Some false) o = same o.output
branches_extends None o = same o.output

end_extends : (c : Content) (o : Outer) → Extends o (end_act c o)
end_extends (Plain (Word n)) o = same o.output
end_extends (Plain (Address p)) o = same o.output
end_extends (Plain Unset) o = same o.output
end_extends (Bundle cells) o = same o.output

put_extends : (c : Content) (o : Outer) → Extends o (put_act c o)
put_extends (Plain (Word n)) o = (_, refl)
put_extends (Plain (Address p)) o = same o.output
put_extends (Plain Unset) o = same o.output
put_extends (Bundle cells) o = same o.output

trap_extends : (c : Content) (o : Outer) → Extends o (trap_act c o)
trap_extends (Plain (Word n)) o = same o.output
trap_extends (Plain (Address p)) o = same o.output
trap_extends (Plain Unset) o = same o.output
trap_extends (Bundle cells) o = same o.output

serve_extends : (s : Service) (cs : List Content) (o : Outer) → Extends o (serve_act s cs o)
serve_extends End cs o =
    if_extends o (holds_number (service_number End) (content_at cs 0)) (end_act (content_at cs 1) o) (fails o) (end_extends (content_at cs 1) o) (same o.output)
serve_extends PutByte cs o =
    if_extends o (holds_number (service_number PutByte) (content_at cs 0)) (put_act (content_at cs 1) o) (fails o) (put_extends (content_at cs 1) o) (same o.output)
serve_extends GetByte cs o = if_extends o (holds_number (service_number GetByte) (content_at cs 0)) _ (fails o) (same o.output) (same o.output)
serve_extends Trap cs o = trap_extends (content_at cs 0) o

pub does_extends : (widest : ℕ) (x : TempInsn) (own : ℕ) (cs : List Content) (o : Outer) → IsPrefix o.output (act_outer (does widest x own cs o)).output
does_extends widest (i.Address op destination base plus) own cs o = writes_extends _ o
does_extends widest (i.ObjectAddress destination place plus) own cs o = same o.output
does_extends widest (i.Load op destination pointer plus) own cs o = writes_extends _ o
does_extends widest (i.Store op value pointer plus) own cs o = changes_extends _ o
does_extends widest (i.Operate op destination left right) own cs o = writes_extends _ o
does_extends widest (i.Extend op destination source) own cs o = writes_extends _ o
does_extends widest (i.ToFixed register source) own cs o = same o.output
does_extends widest (i.FromFixed destination register) own cs o = same o.output
does_extends widest (i.SetFixed register number) own cs o = same o.output
does_extends widest (i.WriteArgument number source) own cs o =
    if_extends o (nat_lt (number + 6) widest) (Writes cs o) (fails o) (same o.output) (same o.output)
does_extends widest (i.ReadArgument destination number) own cs o = writes_extends _ o
does_extends widest (i.Branch op source block) own cs o = branches_extends _ o
does_extends widest (i.Jump block) own cs o = same o.output
does_extends widest (i.Call function arguments) own cs o = same o.output
does_extends widest (i.Divide routine) own cs o = writes_extends _ o
does_extends widest (i.Serve service) own cs o = serve_extends service cs o
does_extends widest (i.Return with_value) own cs o = same o.output
does_extends widest i.Mark own cs o = same o.output

module _ (S : Type 0) where
  abbrev Keeps : Site Content S → Type 0
  Keeps s = (own : ℕ) (cs : List Content) (o : Outer) → IsPrefix o.output (act_outer (s.does own cs o)).output

  -- what holds of a site, if there is one
  abbrev OfSite : Option (Site Content S) → Type 0
  OfSite None = Unit {0}
  OfSite (Some s) = Keeps s

  next_keeps : (block : ℕ) (out : Bool) → OfSite (next_if block out)
  next_keeps block true = λ own cs o. same o.output
  next_keeps block false = tt

  insn_keeps : (insn : TempInsn → Site Content S) (block : ℕ) (out : Bool) (x : Option TempInsn) → ((y : TempInsn) → Keeps (insn y)) → OfSite (site_or_next insn block out x)
  insn_keeps insn block out (Some x) keeps = keeps x
  insn_keeps insn block out None keeps = next_keeps block out

  site_keeps : (insn : ℕ → TempInsn → Site Content S) (block at : ℕ) (b : Option (List TempInsn)) → ((k : ℕ) (y : TempInsn) → Keeps (insn k y)) → OfSite (site_in insn block at b)
  site_keeps insn block at None keeps = tt
  site_keeps insn block at (Some insns) keeps = insn_keeps (insn at) block (is_left_at insns at) (slice_get insns at) (keeps at)

pub temps_keep : (functions : List TemporaryCode) → KeepsOutput Content Temps (temp_code functions)
temps_keep functions p s is =
    let blocks : List (List TempInsn) = blocks_in (slice_get functions p.function) in
    subst (OfSite Temps) is
    (site_keeps Temps (λ at. temp_site (widest_call blocks)) p.block p.at (slice_get blocks p.block)
    (λ k y. does_extends (widest_call blocks) y))

placed_keep : (a : Option Plan) (p : Point) → OfSite Places (placed_site_in a p)
placed_keep None p = tt
placed_keep (Some a) p =
    site_keeps Places (λ at. placed_site (widest_call a.function.blocks) (transfers_at a p.block at) (registers_at a p.block at)) p.block p.at
    (slice_get a.function.blocks p.block) (λ k y. does_extends (widest_call a.function.blocks) y)

pub places_keep : (plans : List Plan) → KeepsOutput Content Places (placed_code plans)
places_keep plans p s is = subst (OfSite Places) is (placed_keep (slice_get plans p.function) p)
