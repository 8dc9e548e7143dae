-- What writes or calls goes on; and what an instruction does does not hang on the width of the calls of its function,
-- where the argument places that it writes are within it.
use Rattle.std.proofs.Common.{◌≡◌, ℕ, true, List, refl, sym, ap, ◌∙◌, subst}
use Rattle.std.specs.Prelude.{if◌then◌else◌}
use Rattle.mem_model.specs.World.{Outer}
use Rattle.machine_model.specs.Code.{Act, Writes, Jumps, Calls, Returns, Stops}
use Rattle.temp_ir.specs.declared.insn.TempInsn.{TempInsn}
use Rattle.temp_ir.specs.declared.insn.TempInsn.TheVariants.{Address, ObjectAddress, Load, Store, Operate, Extend, ToFixed, FromFixed, SetFixed, WriteArgument, ReadArgument, Branch, Jump, Call, Divide, Serve, Return, Mark}
use Rattle.temp_ir.specs.Insns.{flows_on_of}
use Rattle.alloc_model.specs.Contents.{Content}
use Rattle.alloc_model.specs.Effect.{does, fails}
use Rattle.block_pass_laws.specs.temp_walk_laws.SameRuns.{WritesWithin}

-- an act after which the next instruction follows, at once or behind a call
abbrev GoesOn : Act Content → Type 0
GoesOn (Writes vs o) = Unit {0}
GoesOn (Calls function vs o) = Unit {0}
GoesOn (Jumps target o) = ⊥
GoesOn (Returns vs o) = ⊥
GoesOn (Stops e o) = ⊥

flow : (w : ℕ) (i : TempInsn) (own : ℕ) (cs : List Content) (o : Outer) → GoesOn (does w i own cs o) → flows_on_of i ≡ true
flow w (Jump a) own cs o goes = absurd goes
flow w (Return a) own cs o goes = absurd goes
flow w (Branch a b c) own cs o goes = refl
flow w (Address a b c d) own cs o goes = refl
flow w (ObjectAddress a b c) own cs o goes = refl
flow w (Load a b c d) own cs o goes = refl
flow w (Store a b c d) own cs o goes = refl
flow w (Operate a b c d) own cs o goes = refl
flow w (Extend a b c) own cs o goes = refl
flow w (ToFixed a b) own cs o goes = refl
flow w (FromFixed a b) own cs o goes = refl
flow w (SetFixed a b) own cs o goes = refl
flow w (WriteArgument a b) own cs o goes = refl
flow w (ReadArgument a b) own cs o goes = refl
flow w (Call a b) own cs o goes = refl
flow w (Divide a) own cs o goes = refl
flow w (Serve a) own cs o goes = refl
flow w Mark own cs o goes = refl

pub writes_flow : (w : ℕ) (i : TempInsn) (own : ℕ) (cs ds : List Content) (o p : Outer) → does w i own cs o ≡ Writes ds p → flows_on_of i ≡ true
writes_flow w i own cs ds o p is = flow w i own cs o (subst GoesOn (sym is) tt)

pub calls_flow : (w : ℕ) (i : TempInsn) (own function : ℕ) (cs ds : List Content) (o p : Outer) → does w i own cs o ≡ Calls function ds p → flows_on_of i ≡ true
calls_flow w i own function cs ds o p is = flow w i own cs o (subst GoesOn (sym is) tt)

pub does_same : (w x : ℕ) (i : TempInsn) (own : ℕ) (cs : List Content) (o : Outer) → WritesWithin w i → WritesWithin x i → does w i own cs o ≡ does x i own cs o
does_same w x (Jump a) own cs o h k = refl
does_same w x (Return a) own cs o h k = refl
does_same w x (Branch a b c) own cs o h k = refl
does_same w x (Address a b c d) own cs o h k = refl
does_same w x (ObjectAddress a b c) own cs o h k = refl
does_same w x (Load a b c d) own cs o h k = refl
does_same w x (Store a b c d) own cs o h k = refl
does_same w x (Operate a b c d) own cs o h k = refl
does_same w x (Extend a b c) own cs o h k = refl
does_same w x (ToFixed a b) own cs o h k = refl
does_same w x (FromFixed a b) own cs o h k = refl
does_same w x (SetFixed a b) own cs o h k = refl
does_same w x (WriteArgument number b) own cs o h k = ap (λ z. if z then Writes cs o else fails o) (h ∙ sym k)
does_same w x (ReadArgument a b) own cs o h k = refl
does_same w x (Call a b) own cs o h k = refl
does_same w x (Divide a) own cs o h k = refl
does_same w x (Serve a) own cs o h k = refl
does_same w x Mark own cs o h k = refl
