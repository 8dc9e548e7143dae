-- Each of the wrong placements lacks what its clause asks for.
use Rattle.std.proofs.Common.{◌≡◌, ◌≢◌, ℕ, zero, suc, ◌<◌, List, [], ◌∷◌, Bool, true, false, refl, sym, ap, ◌∙◌, inl, inr, arith}
use Rattle.std.proofs.lemmas.Bool.{eq-eqb}
use Rattle.std.specs.Prelude.{◌==◌, ◌⊎◌, ◌||◌, Contains}
use Rattle.pass_core.specs.Live.{IsRead, Follows}
use Rattle.temp_ir.specs.declared.insn.FixedRegister.TheVariants.{Value}
use Rattle.temp_ir.specs.declared.insn.TempInsn.TheVariants.{ToFixed, Jump, Return}
use Rattle.temp_ir.specs.Fixed.{has_number}
use Rattle.alloc_model.specs.declared.allocation.Loc.TheVariants as loc
use Rattle.alloc_model.specs.declared.allocation.Transfer.TheVariants as x
use Rattle.alloc_model.specs.Effect.{Temp, Fixed}
use Rattle.alloc_model.specs.Places.{Reg, Slot}
use Rattle.alloc_model.specs.Needs.{is_live_at}
use Rattle.alloc_model.specs.Faithful.{given_registers, IsGivenRegister}
use Rattle.alloc_model.specs.Examples.{set_temp, edge}
use Rattle.alloc_rules.specs.WrongPlacements as wrong
use Rattle.alloc_rules.specs.WrongPlacements.{WrongPlacements}

-- ---- numbers, places and registers

registers_apart : (a b : ℕ) → a ≢ b → Reg a ≡ Reg b → ⊥
registers_apart a b ne e = ne (cc)

slot_apart : (t r : ℕ) → Slot t ≡ Reg r → ⊥
slot_apart t r e = cc

register_apart : (r t : ℕ) → Reg r ≡ Slot t → ⊥
register_apart r t e = cc

temporary_apart : (t r : ℕ) → Fixed r ≡ Temp t → ⊥
temporary_apart t r e = cc

-- what is in a list is found there
there_behind : (b c : Bool) → c ≡ true → (b || c) ≡ true
there_behind true c is = refl
there_behind false c is = is

is_there : (rs : List ℕ) (r : ℕ) → Contains rs r → has_number rs r ≡ true
is_there [] r (k, within, is) = absurd (omega (arith, within))
is_there (q ∷ rs) r (zero, within, is) = ap (λ n. (n == r) || has_number rs r) is ∙ ap (λ b. b || has_number rs r) (eq-eqb r r refl)
is_there (q ∷ rs) r (suc k, within, is) = there_behind (q == r) (has_number rs r) (is_there rs r (k, omega (arith, within), is))

differ : false ≡ true → ⊥
differ e = cc

not_given : (r : ℕ) → has_number given_registers r ≡ false → IsGivenRegister r → ⊥
not_given r none given = differ (sym none ∙ is_there given_registers r given)

pub not_scratch : IsGivenRegister 28 → ⊥
not_scratch = not_given 28 refl

not_stack : IsGivenRegister 30 → ⊥
not_stack = not_given 30 refl

-- ---- what stands where behind the first instruction, which writes temporary 0 into register 1

-- two claims of a set that was changed by one write of temporary 0
pub lost_slot : (h : Type 0) → ((h × (Temp 0 ≢ Temp 0)) × (Slot 0 ≢ Reg 1)) ⊎ ((Temp 0 ≡ Temp 0) × (Slot 0 ≡ Reg 1)) → ⊥
lost_slot h (inl ((k, ne), other)) = ne refl
lost_slot h (inr (same, e)) = slot_apart 0 1 e

pub lost_register : (h : Type 0) → ((h × (Temp 0 ≢ Temp 0)) × (Reg 2 ≢ Reg 1)) ⊎ ((Temp 0 ≡ Temp 0) × (Reg 2 ≡ Reg 1)) → ⊥
lost_register h (inl ((k, ne), other)) = ne refl
lost_register h (inr (same, e)) = registers_apart 2 1 (λ e. omega (arith, e)) e

-- a call ends register 1
lost_by_call : (h : Type 0) → (((h × (true ≡ false)) × (Temp 0 ≢ Fixed 0)) × (Reg 1 ≢ Reg 0)) ⊎ ((Temp 0 ≡ Fixed 0) × (Reg 1 ≡ Reg 0)) → ⊥
lost_by_call h (inl (((k, kept), ne), other)) = differ (sym kept)
lost_by_call h (inr (same, e)) = registers_apart 1 0 (λ e. omega (arith, e)) e

-- a write into register 0 takes it from what stood there as fixed
lost_value : (h : Type 0) → ((h × (Fixed 0 ≢ Temp 0)) × (Reg 0 ≢ Reg 0)) ⊎ ((Fixed 0 ≡ Temp 0) × (Reg 0 ≡ Reg 0)) → ⊥
lost_value h (inl (k, ne)) = ne refl
lost_value h (inr (same, e)) = temporary_apart 0 0 same

-- a move of temporary 0 into register 2 takes it from temporary 1
pub temps_apart : (a b : ℕ) → a ≢ b → Temp a ≡ Temp b → ⊥
temps_apart a b ne e = ne (cc)

lost_by_move : (h : Type 0) → (h × (Reg 2 ≢ Reg 2)) ⊎ ((Temp 1 ≡ Temp 0) × (Reg 2 ≡ Reg 2)) → ⊥
lost_by_move h (inl (k, ne)) = ne refl
lost_by_move h (inr (same, e)) = temps_apart 1 0 (λ e. omega (arith, e)) same

nothing_apart : (A : Type 0) (a : A) (rest : List A) → [] ≡ a ∷ rest → ⊥
nothing_apart A a rest e = cc

-- ---- where temporary 0 is live

live_at_entry : is_live_at wrong.register_at_entry 0 0 0
live_at_entry = IsRead (ToFixed Value 0) refl (0, omega arith, refl)

live_at_bottom : is_live_at wrong.other_bottom 0 0 1
live_at_bottom =
    Follows (set_temp 0 5 ∷ []) 1 refl refl (0, omega arith, refl) (IsRead (ToFixed Value 0) refl (0, omega arith, refl))

live_behind_edge : is_live_at wrong.not_stored_on_edge 0 1 0
live_behind_edge = IsRead (ToFixed Value 0) refl (0, omega arith, refl)

live_behind_jump : is_live_at wrong.not_stored_on_jump 0 1 0
live_behind_jump = IsRead (ToFixed Value 0) refl (0, omega arith, refl)

-- ---- the law

pub none_is_faithful : WrongPlacements
none_is_faithful = record {
  tops = λ f. let e : 0 ≡ 1 = f.lists.tops in omega (arith, e);
  bottoms = λ f. let e : 0 ≡ 1 = f.lists.bottoms in omega (arith, e);
  transfers = λ f. let e : 1 ≡ 3 = f.lists.ats in omega (arith, e);
  registers = λ f. let e : 2 ≡ 3 = f.lists.regs in omega (arith, e);
  stated = λ f. let e : 2 ≡ 1 = f.lists.stated 0 0 (set_temp 0 5) refl in omega (arith, e);
  edges = λ f. nothing_apart _ _ _ f.lists.edges;
  slots = λ f. let e : 1 ≡ 0 = (f.lists.standing.1 0 [] (omega arith) 0 (wrong.at_place 0 (loc.Slot 1)) (omega arith)).1 in omega (arith, e);
  temporaries = λ f. let e : 4 < 4 = (f.lists.transfers 2 [] (omega arith) 0 (x.Store 4 1) (omega arith)).0 in omega (arith, e);
  given_in_blocks = λ f. not_scratch ((f.lists.transfers 2 [] (omega arith) 0 (x.Shift 0 1 28) (omega arith)).1 1 0 (omega arith));
  given_on_edges = λ f. differ (is_there (28 ∷ given_registers) 30 ((f.lists.edge_transfers 0 (edge 0 1 []) (omega arith) 0 (x.Shift 0 1 30) (omega arith)).1 1 0 (omega arith)));
  given_to_operands = λ f. not_stack (f.lists.given 0 [] (omega arith) 0 0 (omega arith));
  entry = λ f. register_apart 1 0 (f.entry.each (Temp 0) (Reg 1) (inl (live_at_entry, refl)));
  moves = λ f. lost_slot _ (f.moves 0 1 (ToFixed Value 0) refl).0;
  temps_read = λ f. lost_register _ (f.temps_read 0 1 (ToFixed Value 0) refl).0;
  temps_read_behind_call = λ f. lost_by_call _ (f.temps_read 0 2 (ToFixed Value 0) refl).0;
  fixed_read = λ f. lost_value _ (f.fixed_read 0 2 (Return true) refl).0;
  named_at_bottom = λ f. lost_register _ ((f.bottoms 0 (set_temp 0 5 ∷ []) refl).each (Temp 0) (Reg 2) (live_at_bottom, (wrong.at_place 0 (loc.Reg 2), (0, omega arith, refl), refl, refl)));
  edge_leads = λ f. lost_slot _ ((f.follows 0 (set_temp 0 5 ∷ []) refl refl).leads.each (Temp 0) (Slot 0) (inl (live_behind_edge, refl)));
  edge_moves = λ f. lost_slot _ (f.follows 0 (set_temp 0 5 ∷ []) refl refl).moves.0;
  jump_leads = λ f. lost_slot _ ((f.jumps 0 1 (Jump 1) refl 0 1 refl).leads.each (Temp 0) (Slot 0) (inl (live_behind_jump, refl))).0;
  jump_moves = λ f. lost_by_move _ (f.jumps 0 2 (Jump 1) refl 0 1 refl).moves.1.0;
}
