-- Each of the further wrong placements lacks what its clause asks for.
use Rattle.std.proofs.Common.{◌≡◌, ◌≢◌, ℕ, ◌<◌, List, [], ◌∷◌, refl, ap, inl, inr, arith}
use Rattle.std.specs.Prelude.{◌⊎◌, slice_index_or}
use Rattle.pass_core.specs.Live.{IsRead}
use Rattle.temp_ir.specs.declared.operation.Operation.TheVariants.{Addq}
use Rattle.temp_ir.specs.declared.insn.FirstOperand.TheVariants as s
use Rattle.temp_ir.specs.declared.insn.SecondOperand.TheVariants as o
use Rattle.temp_ir.specs.declared.insn.TempInsn.TheVariants.{ToFixed, Operate}
use Rattle.temp_ir.specs.declared.insn.FixedRegister.TheVariants.{Value}
use Rattle.alloc_model.specs.declared.allocation.Loc.TheVariants as loc
use Rattle.alloc_model.specs.declared.allocation.Transfer.TheVariants as x
use Rattle.alloc_model.specs.Effect.{Holder, Temp}
use Rattle.alloc_model.specs.Places.{Place, Reg, Slot}
use Rattle.alloc_model.specs.Needs.{is_live_at, IsNeeded}
use Rattle.alloc_model.specs.Needs.UsesSlot.{IsLoaded}
use Rattle.alloc_model.specs.Needs.IsNeeded.{Relied}
use Rattle.alloc_model.specs.Examples.{set_temp, edge}
use Rattle.alloc_rules.specs.WrongPlacements.{at_place}
use Rattle.alloc_rules.specs.WrongReplays as wrong
use Rattle.alloc_rules.specs.WrongReplays.{WrongReplays}
use Rattle.alloc_rules.proofs.WrongPlacements.{lost_slot, lost_register, temps_apart, not_scratch}

-- what comes to a place takes it from what stood there
taken : (A : Type 0) (n m : Holder) (q : Place) → (m ≡ n → ⊥) → (A × (q ≢ q)) ⊎ ((m ≡ n) × (q ≡ q)) → ⊥
taken A n m q apart (inl (k, ne)) = ne refl
taken A n m q apart (inr (same, e)) = apart same

apart : Temp 0 ≡ Temp 1 → ⊥
apart = temps_apart 0 1 (λ e. omega (arith, e))

needed : IsNeeded wrong.slot_in_need 0 1
needed = Relied (record { register = 1; stands = refl; used = IsLoaded 2 [] })

live_at_top : is_live_at wrong.other_register_at_top 0 1 0
live_at_top = IsRead (ToFixed Value 0) refl (0, omega arith, refl)

pub none_replays : WrongReplays
none_replays = record {
  temporaries_at_top = λ f. let e : 4 < 4 = (f.lists.standing.0 0 [] (omega arith) 0 (at_place 4 (loc.Slot 4)) (omega arith)).0 in omega (arith, e);
  given_in_maps = λ f. not_scratch (f.lists.standing.1 0 [] (omega arith) 0 (at_place 0 (loc.Reg 28)) (omega arith)).1;
  temporaries_on_edge = λ f. let e : 4 < 4 = (f.lists.edge_transfers 0 (edge 0 1 []) (omega arith) 0 (x.Store 4 1) (omega arith)).0 in omega (arith, e);
  order_of_edges = λ f. let e : 2 ≡ 1 = ap (λ (es : List (ℕ × ℕ)). (slice_index_or es 0 (0, 0)).1) f.lists.edges in omega (arith, e);
  stores = λ f. lost_register _ (f.moves 0 1 (ToFixed Value 0) refl).0;
  shifts = λ f. lost_register _ (f.moves 0 1 (ToFixed Value 0) refl).0;
  loads_take = λ f. taken _ (Temp 1) (Temp 0) (Reg 1) apart (f.temps_read 0 2 (Operate Addq 2 (s.Temp 0) (o.Temp 1)) refl).0;
  shifts_take = λ f. taken _ (Temp 1) (Temp 0) (Reg 1) apart (f.temps_read 0 2 (Operate Addq 2 (s.Temp 0) (o.Temp 1)) refl).0;
  writes_take = λ f. taken _ (Temp 1) (Temp 0) (Reg 1) apart (f.temps_read 0 2 (Operate Addq 2 (s.Temp 0) (o.Temp 1)) refl).0;
  writes_end_slots = λ f. lost_slot _ (f.moves 0 2 (ToFixed Value 0) refl).0;
  needs = λ f. lost_slot _ ((f.follows 0 (set_temp 0 5 ∷ []) refl refl).leads.each (Temp 0) (Slot 0) (inr (needed, refl)));
  registers_lead = λ f. lost_register _ ((f.follows 0 (set_temp 0 5 ∷ []) refl refl).leads.each (Temp 0) (Reg 2) (inl (live_at_top, refl)));
}
