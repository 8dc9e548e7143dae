-- A run whose jumps go on past others lags behind no run but that of the jumps one by one.
use Rattle.std.proofs.Common.{◌≡◌, ℕ, zero, suc, ◌<◌, ◌≤◌, List, [], ◌∷◌, length, map, Option, Some, None, refl, sym, ap, ◌∙◌, subst, ⊎_elim}
use Rattle.std.specs.Prelude.{slice_get, slice_index_or, option_map}
use Rattle.std.proofs.lemmas.Bool.{cases_lt}
use Rattle.std.proofs.lemmas.Option.{slice_get-map, slice_get_past, none-some, same_Some}
use Rattle.mem_model.specs.declared.value.Value.{Value}
use Rattle.mem_model.specs.World.{Rooms}
use Rattle.machine_model.specs.Code.{Point, block_point}
use Rattle.suifvm_ir.specs.declared.insn.VmInsn.{VmInsn}
use Rattle.suifvm_ir.specs.declared.insn.VmInsn.TheVariants as x
use Rattle.suifvm_ir.specs.Insns.{reads_of, writes_of, targets_of}
use Rattle.suifvm_meaning.specs.Effect.{does}
use Rattle.suifvm_meaning.specs.Behave.{Registers, FunctionCode, insn_site, next_site, site_or_next, site_in_block, site_in_function, sizes_in, set_registers, vm_code}
use Rattle.flow_clean.specs.Chains.{only_jump, jump_in, LeadsTo, AreChained, retargeted}
use Rattle.flow_clean.specs.Chains.LeadsTo.{IsEnd, PassesOn}
use Rattle.flow_clean.specs.ChainRuns.{FunctionsAreChained, ChainsKeepRuns}
use Rattle.flow_clean.specs.ChainRuns.FunctionsAreChained.{NoFunction, Function}
use Rattle.machine_model.proofs.Lagging.{BothStep, Stands, Lags, runs_arrive}
use Rattle.machine_model.proofs.Lagging.AloneAct.{JumpsAlone}
use Rattle.machine_model.proofs.Lagging.Stands.{Both, Alone, Nowhere}
use Rattle.flow_clean.proofs.Retargeted.{reads_same, writes_same, turn_same, does_same, targets_are}

-- the only instruction of a block that passes on
only_is : (insns : List VmInsn) (next : ℕ) → only_jump insns ≡ Some next → insns ≡ x.Jump next ∷ []
only_is [] next e = absurd (none-some next e)
only_is (i ∷ j ∷ insns) next e = absurd (none-some next e)
only_is (x.Jump block ∷ []) next e = ap (λ b. x.Jump b ∷ []) (same_Some block next e)
only_is (x.LoadConstant ty d word ∷ []) next e = absurd (none-some next e)
only_is (x.LoadAddress d place plus ∷ []) next e = absurd (none-some next e)
only_is (x.Load ty d p plus ∷ []) next e = absurd (none-some next e)
only_is (x.Store ty p plus b ∷ []) next e = absurd (none-some next e)
only_is (x.Copy to from size align ∷ []) next e = absurd (none-some next e)
only_is (x.Unary op ty d b ∷ []) next e = absurd (none-some next e)
only_is (x.Binary op ty d b c ∷ []) next e = absurd (none-some next e)
only_is (x.Shift op ty d b c ∷ []) next e = absurd (none-some next e)
only_is (x.Convert from to d b ∷ []) next e = absurd (none-some next e)
only_is (x.Compare op ty d b c ∷ []) next e = absurd (none-some next e)
only_is (x.Branch op ty source block ∷ []) next e = absurd (none-some next e)
only_is (x.Call d c arguments ∷ []) next e = absurd (none-some next e)
only_is (x.Return value ∷ []) next e = absurd (none-some next e)
only_is (x.Mark ∷ []) next e = absurd (none-some next e)
only_is (x.Nop ∷ []) next e = absurd (none-some next e)

pub passing_block : (o : Option (List VmInsn)) (next : ℕ) → jump_in o ≡ Some next → o ≡ Some (x.Jump next ∷ [])
passing_block None next e = absurd (none-some next e)
passing_block (Some insns) next e = ap Some (only_is insns next e)

-- two functions with one number
data Pair : (o q : Option FunctionCode) → Type 0 where
  NoPair : {o q : Option FunctionCode} → o ≡ None → q ≡ None → Pair o q
  IsPair : {o q : Option FunctionCode} → (f g : FunctionCode) → o ≡ Some f → q ≡ Some g → g.sizes ≡ f.sizes → AreChained f.blocks g.blocks → Pair o q

pair_at : (fs gs : List FunctionCode) → FunctionsAreChained fs gs → (k : ℕ) → Pair (slice_get fs k) (slice_get gs k)
pair_at _ _ NoFunction k = NoPair refl refl
pair_at _ _ (Function f g sizes chained more) zero = IsPair f g refl refl sizes chained
pair_at _ _ (Function {fs = fs} {gs = gs} f g sizes chained more) (suc k) = pair_at fs gs more k

module _ (rooms : Rooms) (fs gs : List FunctionCode) (all : FunctionsAreChained fs gs) where
  abbrev leads_in : Option FunctionCode → (block end : ℕ) → Type 0
  leads_in None block end = ⊥
  leads_in (Some f) block end = LeadsTo f.blocks block end

  -- both stand at one point; or at the starts of blocks, of which the first leads to the second; or the first one stands nowhere
  data Together (p q : Point) : Type 0 where
    AtOne : q ≡ p → Together p q
    Ahead : (block end : ℕ) → p ≡ block_point p block → q ≡ block_point p end → leads_in (slice_get fs p.function) block end → Together p q
    Lost : (vm_code fs).site p ≡ None → Together p q

  record R (p q : Point) (r s : Registers) : Type 0 where
    pub points : Together p q
    pub store : s ≡ r

  -- ---- at one point

  site_of : (p : Point) (f : FunctionCode) (o : Option FunctionCode) → o ≡ Some f → (b : Option (List VmInsn)) → slice_get f.blocks p.block ≡ b → site_in_function p.block p.at o ≡ site_in_block p.block p.at b
  site_of p f o is b at = ap (site_in_function p.block p.at) is ∙ ap (site_in_block p.block p.at) at

  module _ (p : Point) (f g : FunctionCode) (f_is : slice_get fs p.function ≡ Some f) (g_is : slice_get gs p.function ≡ Some g) (chained : AreChained f.blocks g.blocks) where
    end_of : ℕ → ℕ
    end_of block = slice_index_or chained.ends block 0

    -- a jump to a block, and to its end
    landed : (block : ℕ) (r s : Registers) → s ≡ r → R (block_point p block) (block_point p (slice_index_or chained.ends block 0)) r s
    landed block r s same = record {
      points = ⊎_elim
          (λ (w : block < length f.blocks). Ahead block (slice_index_or chained.ends block 0) refl refl
          (subst (λ o. leads_in o block (slice_index_or chained.ends block 0)) (sym f_is) (chained.lead block w)))
          (λ (past : length f.blocks ≤ block). Lost (site_of (block_point p block) f (slice_get fs p.function) f_is None (slice_get_past f.blocks block past)))
          (cases_lt block (length f.blocks));
      store = same;
    }

    both_next : (r : Registers) → BothStep Value Registers Registers rooms (vm_code fs) (vm_code gs) R p p (next_site p.block) (next_site p.block) r r
    both_next r = record {
      function = refl;
      does = λ own o. refl;
      turn = refl;
      put = λ vs _. record { points = AtOne refl; store = refl };
      edge = λ k block e. record { other = block; there = e; related = record { points = AtOne refl; store = refl } };
    }

    mapped_target : (ts : List ℕ) (k block : ℕ) → slice_get ts k ≡ Some block → slice_get (map (λ b. slice_index_or chained.ends b 0) ts) k ≡ Some (slice_index_or chained.ends block 0)
    mapped_target ts k block e = slice_get-map (λ b. slice_index_or chained.ends b 0) ts k ∙ ap (option_map (λ b. slice_index_or chained.ends b 0)) e

    both_insn : (r : Registers) (i : VmInsn) → BothStep Value Registers Registers rooms (vm_code fs) (vm_code gs) R p p (insn_site i) (insn_site (retargeted chained.ends i)) r r
    both_insn r i = record {
      function = refl;
      does = λ own o. sym (ap (λ rs. does (retargeted chained.ends i) own (map r rs) o) (reads_same chained.ends i) ∙ does_same chained.ends own (map r (reads_of i)) o i);
      turn = sym (turn_same chained.ends i);
      put = λ vs _. record { points = AtOne refl; store = ap (λ ws. set_registers ws vs r) (writes_same chained.ends i) };
      edge = λ k block e. record {
        other = slice_index_or chained.ends block 0;
        there = ap (λ ts. slice_get ts k) (targets_are chained.ends i) ∙ mapped_target (targets_of i) k block e;
        related = landed block (set_registers (writes_of i) [] r) (set_registers (writes_of (retargeted chained.ends i)) [] r) (ap (λ ws. set_registers ws [] r) (writes_same chained.ends i));
      };
    }

    before_site : (insns : List VmInsn) → slice_get f.blocks p.block ≡ Some insns → (u : Option VmInsn) → slice_get insns p.at ≡ u → (vm_code fs).site p ≡ Some (site_or_next p.block u)
    before_site insns block_is u is = site_of p f (slice_get fs p.function) f_is (Some insns) block_is ∙ ap (λ z. Some (site_or_next p.block z)) is

    after_site : (insns : List VmInsn) → slice_get f.blocks p.block ≡ Some insns → (u : Option VmInsn) → slice_get insns p.at ≡ u → (vm_code gs).site p ≡ Some (site_or_next p.block (option_map (retargeted chained.ends) u))
    after_site insns block_is u is =
        site_of p g (slice_get gs p.function) g_is (Some (map (retargeted chained.ends) insns))
        (ap (λ bs. slice_get bs p.block) chained.made ∙ slice_get-map (map (retargeted chained.ends)) f.blocks p.block ∙ ap (option_map (map (retargeted chained.ends))) block_is)
        ∙ ap (λ z. Some (site_or_next p.block z)) (slice_get-map (retargeted chained.ends) insns p.at ∙ ap (option_map (retargeted chained.ends)) is)

    at_insn : (r : Registers) (insns : List VmInsn) → slice_get f.blocks p.block ≡ Some insns → (u : Option VmInsn) → slice_get insns p.at ≡ u →
        Stands Value Registers Registers rooms (vm_code fs) (vm_code gs) R p p r r
    at_insn r insns block_is None is = Both (next_site p.block) (next_site p.block) (before_site insns block_is None is) (after_site insns block_is None is) (both_next r)
    at_insn r insns block_is (Some i) is = Both (insn_site i) (insn_site (retargeted chained.ends i)) (before_site insns block_is (Some i) is) (after_site insns block_is (Some i) is) (both_insn r i)

    at_block : (r : Registers) (b : Option (List VmInsn)) → slice_get f.blocks p.block ≡ b → Stands Value Registers Registers rooms (vm_code fs) (vm_code gs) R p p r r
    at_block r None is = Nowhere (site_of p f (slice_get fs p.function) f_is None is)
    at_block r (Some insns) is = at_insn r insns is (slice_get insns p.at) refl

  at_one : (p : Point) (r : Registers) → Pair (slice_get fs p.function) (slice_get gs p.function) → Stands Value Registers Registers rooms (vm_code fs) (vm_code gs) R p p r r
  at_one p r (NoPair none other) = Nowhere (ap (site_in_function p.block p.at) none)
  at_one p r (IsPair f g f_is g_is sizes chained) = at_block p f g f_is g_is chained r (slice_get f.blocks p.block) refl

  -- ---- ahead

  ahead : (p q : Point) (r : Registers) (block end : ℕ) → p ≡ block_point p block → q ≡ block_point p end → (f : FunctionCode) → slice_get fs p.function ≡ Some f → LeadsTo f.blocks block end →
      Stands Value Registers Registers rooms (vm_code fs) (vm_code gs) R p q r r
  ahead p q r block _ p_is q_is f f_is (IsEnd none) =
      subst (λ o. Stands Value Registers Registers rooms (vm_code fs) (vm_code gs) R p o r r) (p_is ∙ sym q_is) (at_one p r (pair_at fs gs all p.function))
  ahead p q r block end p_is q_is f f_is (PassesOn next passes rest) =
      Alone (insn_site (x.Jump next))
      (ap (λ (o : Point). (vm_code fs).site o) p_is ∙ site_of (block_point p block) f (slice_get fs p.function) f_is (Some (x.Jump next ∷ [])) (passing_block (slice_get f.blocks block) next passes))
      refl
      (λ own o. JumpsAlone 0 next refl refl (record { points = Ahead next end refl q_is (subst (λ z. leads_in z next end) (sym f_is) rest); store = refl }))

  in_function : (p q : Point) (r : Registers) (block end : ℕ) → p ≡ block_point p block → q ≡ block_point p end → (o : Option FunctionCode) → slice_get fs p.function ≡ o → leads_in o block end →
      Stands Value Registers Registers rooms (vm_code fs) (vm_code gs) R p q r r
  in_function p q r block end p_is q_is None is leads = absurd leads
  in_function p q r block end p_is q_is (Some f) is leads = ahead p q r block end p_is q_is f is leads

  stand : (p q : Point) (r : Registers) → Together p q → Stands Value Registers Registers rooms (vm_code fs) (vm_code gs) R p q r r
  stand p q r (AtOne same) = subst (λ o. Stands Value Registers Registers rooms (vm_code fs) (vm_code gs) R p o r r) (sym same) (at_one p r (pair_at fs gs all p.function))
  stand p q r (Ahead block end p_is q_is leads) = in_function p q r block end p_is q_is (slice_get fs p.function) refl leads
  stand p q r (Lost none) = Nowhere none

  sizes_same : (k : ℕ) → Pair (slice_get fs k) (slice_get gs k) → sizes_in (slice_get fs k) ≡ sizes_in (slice_get gs k)
  sizes_same k (NoPair none other) = ap sizes_in none ∙ sym (ap sizes_in other)
  sizes_same k (IsPair f g f_is g_is sizes chained) = ap sizes_in f_is ∙ sym sizes ∙ sym (ap sizes_in g_is)

  lags : Lags Value Registers Registers rooms (vm_code fs) (vm_code gs) R
  lags = record {
    stands = λ p q r s k. subst (λ t. Stands Value Registers Registers rooms (vm_code fs) (vm_code gs) R p q r t) (sym k.store) (stand p q r k.points);
    entry = λ function vs. record { points = AtOne refl; store = refl };
    locals = λ k. sizes_same k (pair_at fs gs all k);
    status = λ vs. refl;
  }

pub chains_keep : ChainsKeepRuns
chains_keep rooms fs gs all main w steps e defined is =
    runs_arrive Value Registers Registers rooms (vm_code fs) (vm_code gs) (R rooms fs gs all) (lags rooms fs gs all) steps main w e defined is
