-- What pure instructions do.
use Rattle.std.proofs.Common.{◌≡◌, ℕ, Bool, true, false, not, List, [], ◌∷◌, Some, refl, ap}
use Rattle.mem_model.specs.World.{Outer}
use Rattle.machine_model.specs.Code.{HasNoMeaning, Act, Writes, Stops}
use Rattle.temp_ir.specs.declared.insn.TempInsn.{TempInsn}
use Rattle.temp_ir.specs.declared.insn.TempInsn.TheVariants as i
use Rattle.temp_ir.specs.Insns.{writes_of, targets_of, flows_on_of, is_checked, may_trap_of}
use Rattle.temp_ir.specs.Fixed.{fixed_writes_of, ended_of}
use Rattle.temp_ir.specs.Programs.{first_is_mark}
use Rattle.temp_ir.specs.Cost.{makes_call}
use Rattle.alloc_model.specs.Contents.{Content, ContentAnswer, Gives, TrapsWith, Fails, content_answer, operate_answer, extend_answer, moved_bytes, moved_content}
use Rattle.alloc_model.specs.Effect.{writes, content_at, left_content, right_content, sole_content, place_content, argument_answer, others_written, calls_function, width_of, does, takes_turn}
use Rattle.alloc_model.specs.Laws.{OnlyTheseTrap}
use Rattle.block_coalescing.specs.Forms.{is_pure, copy_of}

-- contents are written, and nothing else changes; or there is no meaning
pub data PureAct (o : Outer) (a : Act Content) : Type 0 where
  Gives_all : (cs : List Content) → a ≡ Writes cs o → PureAct o a
  Means_nothing : a ≡ Stops HasNoMeaning o → PureAct o a

writes_pure : (o : Outer) (a : ContentAnswer) → ((code : ℕ) → a ≡ TrapsWith code → ⊥) → PureAct o (writes a o)
writes_pure o (Gives c) none = Gives_all (c ∷ []) refl
writes_pure o (TrapsWith code) none = absurd (none code refl)
writes_pure o Fails none = Means_nothing refl

no_clash : (b : Bool) → b ≡ true → b ≡ false → ⊥
no_clash b e f = cc

unchecked : (b : Bool) → not b ≡ true → b ≡ false
unchecked true e = absurd (cc)
unchecked false e = refl

pub pure_calm : (x : TempInsn) → is_pure x ≡ true → may_trap_of x ≡ false
pure_calm (i.Address op d base plus) p = refl
pure_calm (i.ObjectAddress d place plus) p = refl
pure_calm (i.Load op d pointer plus) p = absurd (cc)
pure_calm (i.Store op a pointer plus) p = absurd (cc)
pure_calm (i.Operate op d a b) p = unchecked (is_checked op) p
pure_calm (i.Extend op d a) p = refl
pure_calm (i.ToFixed register s) p = absurd (cc)
pure_calm (i.FromFixed d register) p = refl
pure_calm (i.SetFixed register number) p = absurd (cc)
pure_calm (i.WriteArgument number s) p = absurd (cc)
pure_calm (i.ReadArgument d number) p = refl
pure_calm (i.Branch op s block) p = absurd (cc)
pure_calm (i.Jump block) p = absurd (cc)
pure_calm (i.Call function arguments) p = absurd (cc)
pure_calm (i.Divide routine) p = absurd (cc)
pure_calm (i.Serve service) p = absurd (cc)
pure_calm (i.Return with_value) p = absurd (cc)
pure_calm i.Mark p = absurd (cc)

pub pure_act : OnlyTheseTrap → (x : TempInsn) → is_pure x ≡ true → (widest own : ℕ) (cs : List Content) (o : Outer) → PureAct o (does widest x own cs o)
pure_act traps (i.Address op d base plus) p widest own cs o =
    writes_pure o (content_answer (moved_content o.memory (left_content base cs) (moved_bytes op plus))) (λ code e. no_clash (may_trap_of (i.Address op d base plus)) (traps widest (i.Address op d base plus) own cs o o code (ap (λ a. writes a o) e)) (pure_calm (i.Address op d base plus) p))
pure_act traps (i.ObjectAddress d place plus) p widest own cs o =
    writes_pure o (Gives (place_content own place plus)) (λ code e. no_clash (may_trap_of (i.ObjectAddress d place plus)) (traps widest (i.ObjectAddress d place plus) own cs o o code (ap (λ a. writes a o) e)) (pure_calm (i.ObjectAddress d place plus) p))
pure_act traps (i.Load op d pointer plus) p widest own cs o = absurd (cc)
pure_act traps (i.Store op a pointer plus) p widest own cs o = absurd (cc)
pure_act traps (i.Operate op d a b) p widest own cs o =
    writes_pure o (operate_answer o.memory op (left_content a cs) (right_content a b cs)) (λ code e. no_clash (may_trap_of (i.Operate op d a b)) (traps widest (i.Operate op d a b) own cs o o code (ap (λ a. writes a o) e)) (pure_calm (i.Operate op d a b) p))
pure_act traps (i.Extend op d a) p widest own cs o =
    writes_pure o (extend_answer op (sole_content a cs)) (λ code e. no_clash (may_trap_of (i.Extend op d a)) (traps widest (i.Extend op d a) own cs o o code (ap (λ a. writes a o) e)) (pure_calm (i.Extend op d a) p))
pure_act traps (i.ToFixed register s) p widest own cs o = absurd (cc)
pure_act traps (i.FromFixed d register) p widest own cs o = Gives_all cs refl
pure_act traps (i.SetFixed register number) p widest own cs o = absurd (cc)
pure_act traps (i.WriteArgument number s) p widest own cs o = absurd (cc)
pure_act traps (i.ReadArgument d number) p widest own cs o =
    writes_pure o (argument_answer (content_at cs 0)) (λ code e. no_clash (may_trap_of (i.ReadArgument d number)) (traps widest (i.ReadArgument d number) own cs o o code (ap (λ a. writes a o) e)) (pure_calm (i.ReadArgument d number) p))
pure_act traps (i.Branch op s block) p widest own cs o = absurd (cc)
pure_act traps (i.Jump block) p widest own cs o = absurd (cc)
pure_act traps (i.Call function arguments) p widest own cs o = absurd (cc)
pure_act traps (i.Divide routine) p widest own cs o = absurd (cc)
pure_act traps (i.Serve service) p widest own cs o = absurd (cc)
pure_act traps (i.Return with_value) p widest own cs o = absurd (cc)
pure_act traps i.Mark p widest own cs o = absurd (cc)

-- its write of a temporary is all that comes of it
pub record PureForm (x : TempInsn) : Type 0 where
  pub destination : ℕ
  pub writes_it : writes_of x ≡ destination ∷ []
  pub turn : takes_turn x ≡ false
  pub targets : targets_of x ≡ []
  pub flows : flows_on_of x ≡ true
  pub others_out : others_written x ≡ []
  pub empties : calls_function x ≡ false
  pub fixed_out : fixed_writes_of x ≡ []
  pub ended : ended_of x ≡ []
  pub mark : first_is_mark (Some x) ≡ false
  pub width : width_of x ≡ 0
  pub calls : makes_call x ≡ false

pub pure_form : (x : TempInsn) → is_pure x ≡ true → PureForm x
pure_form (i.Address op d base plus) p = record { destination = d; writes_it = refl; turn = refl; targets = refl; flows = refl; others_out = refl; empties = refl; fixed_out = refl; ended = refl; mark = refl; width = refl; calls = refl }
pure_form (i.ObjectAddress d place plus) p = record { destination = d; writes_it = refl; turn = refl; targets = refl; flows = refl; others_out = refl; empties = refl; fixed_out = refl; ended = refl; mark = refl; width = refl; calls = refl }
pure_form (i.Load op d pointer plus) p = absurd (cc)
pure_form (i.Store op a pointer plus) p = absurd (cc)
pure_form (i.Operate op d a b) p = record { destination = d; writes_it = refl; turn = refl; targets = refl; flows = refl; others_out = refl; empties = refl; fixed_out = refl; ended = refl; mark = refl; width = refl; calls = refl }
pure_form (i.Extend op d a) p = record { destination = d; writes_it = refl; turn = refl; targets = refl; flows = refl; others_out = refl; empties = refl; fixed_out = refl; ended = refl; mark = refl; width = refl; calls = refl }
pure_form (i.ToFixed register s) p = absurd (cc)
pure_form (i.FromFixed d register) p = record { destination = d; writes_it = refl; turn = refl; targets = refl; flows = refl; others_out = refl; empties = refl; fixed_out = refl; ended = refl; mark = refl; width = refl; calls = refl }
pure_form (i.SetFixed register number) p = absurd (cc)
pure_form (i.WriteArgument number s) p = absurd (cc)
pure_form (i.ReadArgument d number) p = record { destination = d; writes_it = refl; turn = refl; targets = refl; flows = refl; others_out = refl; empties = refl; fixed_out = refl; ended = refl; mark = refl; width = refl; calls = refl }
pure_form (i.Branch op s block) p = absurd (cc)
pure_form (i.Jump block) p = absurd (cc)
pure_form (i.Call function arguments) p = absurd (cc)
pure_form (i.Divide routine) p = absurd (cc)
pure_form (i.Serve service) p = absurd (cc)
pure_form (i.Return with_value) p = absurd (cc)
pure_form i.Mark p = absurd (cc)

abbrev pub copy_form : (d s : ℕ) → PureForm (copy_of d s)
copy_form d s = record { destination = d; writes_it = refl; turn = refl; targets = refl; flows = refl; others_out = refl; empties = refl; fixed_out = refl; ended = refl; mark = refl; width = refl; calls = refl }
