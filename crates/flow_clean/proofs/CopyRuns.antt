-- A run that reads origins in place of copies goes step by step with the run that reads the copies.
use Rattle.std.proofs.Common.{◌≡◌, ◌≢◌, ◌⊎◌, ℕ, zero, suc, ◌<◌, ◌≤◌, Bool, true, false, List, [], ◌∷◌, length, drop, map, Option, Some, None, refl, sym, ap, ◌∙◌, subst, arith, inl, inr, ⊎_elim, if◌then◌else◌}
use Rattle.std.specs.Prelude.{slice_get, option_map}
use Rattle.std.proofs.lemmas.Bool.{eq-eqb, ne_eqb, cases_eq}
use Rattle.std.proofs.lemmas.Option.{slice_get-map, slice_get_past}
use Rattle.mem_model.specs.declared.value.Value.{Value}
use Rattle.mem_model.specs.declared.value.Value.TheVariants as values
use Rattle.mem_model.specs.World.{Outer, Rooms}
use Rattle.machine_model.specs.Code.{Point, block_point, entry_point, next_point, Writes, Calls}
use Rattle.bitvector_flow.proofs.Lives.{drop_first, drop_none}
use Rattle.suifvm_ir.specs.declared.types.VmType.{VmType}
use Rattle.suifvm_ir.specs.declared.types.VmType.TheVariants as types
use Rattle.suifvm_ir.specs.declared.insn.VmUnaryOp.TheVariants as unary
use Rattle.suifvm_ir.specs.declared.insn.VmInsn.{VmInsn}
use Rattle.suifvm_ir.specs.declared.insn.VmInsn.TheVariants as x
use Rattle.suifvm_ir.specs.Insns.{reads_of, writes_of}
use Rattle.suifvm_meaning.specs.declared.answer.Answer.{Answer}
use Rattle.suifvm_meaning.specs.declared.answer.Answer.TheVariants.{Gives, TrapsWith, Fails}
use Rattle.suifvm_meaning.specs.Operations.{unary_answer}
use Rattle.suifvm_meaning.specs.Effect.{does, writes}
use Rattle.suifvm_meaning.specs.Behave.{Registers, FunctionCode, insn_site, next_site, site_or_next, site_in_block, site_in_function, sizes_in, registers_of, set_register, set_registers, first_or_unset, vm_code}
use Rattle.flow_clean.specs.Copies.{with_reads, move_source, behind, behind_write, behind_writes, no_copies, without_copies, AreWithoutCopies, FunctionsAreWithoutCopies, ReadingOriginsKeepsRuns}
use Rattle.flow_clean.specs.Copies.FunctionsAreWithoutCopies.{NoFunction, Function}
use Rattle.machine_model.proofs.Lagging.{GoesOn, Stands, Lags, runs_arrive}
use Rattle.machine_model.proofs.Lagging.GoesOn.{ByWriting, ByCalling}
use Rattle.machine_model.proofs.Lagging.Stands.{Both, Nowhere}
use Rattle.flow_clean.proofs.OtherReads.{reads_are, writes_same, turn_same, targets_same, does_same}
use Rattle.flow_clean.proofs.CopyReads.{at_write, lost, stays}
use Rattle.flow_clean.proofs.WantedSets.{one_write}

-- ---- two functions with one number

data Pair : (o q : Option FunctionCode) → Type 0 where
  NoPair : {o q : Option FunctionCode} → o ≡ None → q ≡ None → Pair o q
  IsPair : {o q : Option FunctionCode} → (f g : FunctionCode) → o ≡ Some f → q ≡ Some g → g.sizes ≡ f.sizes → AreWithoutCopies f.blocks g.blocks → Pair o q

pair_at : (fs gs : List FunctionCode) → FunctionsAreWithoutCopies fs gs → (k : ℕ) → Pair (slice_get fs k) (slice_get gs k)
pair_at _ _ NoFunction k = NoPair refl refl
pair_at _ _ (Function f g sizes made more) zero = IsPair f g refl refl sizes made
pair_at _ _ (Function {fs = fs} {gs = gs} f g sizes made more) (suc k) = pair_at fs gs more k

-- ---- a move writes what it reads

same_values : (vs us : List Value) (o p : Outer) → Writes vs o ≡ Writes us p → us ≡ vs
same_values vs us o p e = cc

same_given : (u w : Value) → Gives u ≡ Gives w → u ≡ w
same_given u w e = cc

pub gives_value : (a : Answer) (o after : Outer) (vs : List Value) (w : Value) → (a ≡ Gives w) ⊎ (a ≡ Fails) → writes a o ≡ Writes vs after → vs ≡ w ∷ []
gives_value (Gives u) o after vs w (inl e) is = same_values (u ∷ []) vs o after is ∙ ap (λ z. z ∷ []) (same_given u w e)
gives_value (Gives u) o after vs w (inr e) is = let never : ⊥ = cc in absurd never
gives_value (TrapsWith code) o after vs w choice is = let never : ⊥ = cc in absurd never
gives_value Fails o after vs w choice is = let never : ⊥ = cc in absurd never

no_call : (a : Answer) (o after : Outer) (g : ℕ) (us : List Value) → writes a o ≡ Calls g us after → ⊥
no_call (Gives u) o after g us e = cc
no_call (TrapsWith code) o after g us e = cc
no_call Fails o after g us e = cc

on_word : (b : Bool) (w : Value) → ((if b then Gives w else Fails) ≡ Gives w) ⊎ ((if b then Gives w else Fails) ≡ Fails)
on_word true w = inl refl
on_word false w = inr refl

pub move_answer : (ty : VmType) (w : Value) → (unary_answer unary.Move ty w ≡ Gives w) ⊎ (unary_answer unary.Move ty w ≡ Fails)
move_answer types.S32 (values.Word n) = on_word _ (values.Word n)
move_answer types.U32 (values.Word n) = on_word _ (values.Word n)
move_answer types.S64 (values.Word n) = on_word _ (values.Word n)
move_answer types.U64 (values.Word n) = on_word _ (values.Word n)
move_answer types.P64 w = on_word _ w
move_answer types.S32 (values.Address p) = inr refl
move_answer types.U32 (values.Address p) = inr refl
move_answer types.S64 (values.Address p) = inr refl
move_answer types.U64 (values.Address p) = inr refl
move_answer types.S32 values.Unset = inr refl
move_answer types.U32 values.Unset = inr refl
move_answer types.S64 values.Unset = inr refl
move_answer types.U64 values.Unset = inr refl

-- ---- what each register holds, and its origin, is the same

abbrev Same : (o : ℕ → ℕ) → Registers → Type 0
Same o r = (k : ℕ) → r k ≡ r (o k)

read_same : (o : ℕ → ℕ) (r : Registers) → Same o r → (ks : List ℕ) → map r (map o ks) ≡ map r ks
read_same o r same [] = refl
read_same o r same (k ∷ ks) = ap (λ w. w ∷ map r (map o ks)) (sym (same k)) ∙ ap (λ l. r k ∷ l) (read_same o r same ks)

set_here : (w k : ℕ) (u : Value) (r : Registers) → k ≡ w → set_register w u r k ≡ u
set_here w k u r e = ap (λ b. if b then u else r k) (eq-eqb k w e)

set_there : (w k : ℕ) (u : Value) (r : Registers) → k ≢ w → set_register w u r k ≡ r k
set_there w k u r apart = ap (λ b. if b then u else r k) (ne_eqb k w apart)

-- a write of a value that the source holds, unless the source is the register itself
module _ (o : ℕ → ℕ) (w s : ℕ) (u : Value) (r : Registers) (same : Same o r) (holds : s ≢ w → u ≡ r s) where
  abbrev new : Registers
  new = set_register w u r

  same_behind : Same (behind_write o w s) new
  same_behind k = ⊎_elim at_w other (cases_eq k w)
    where
      at_w : k ≡ w → new k ≡ new (behind_write o w s k)
      at_w e =
          set_here w k u r e
          ∙ ⊎_elim (λ (self : s ≡ w). sym (set_here w s u r self)) (λ (apart : s ≢ w). holds apart ∙ sym (set_there w s u r apart)) (cases_eq s w)
          ∙ sym (ap new (at_write o w s k e))

      other : k ≢ w → new k ≡ new (behind_write o w s k)
      other apart = ⊎_elim
          (λ (e : o k ≡ w). sym (ap new (lost o w s k apart e)))
          (λ (away : o k ≢ w). set_there w k u r apart ∙ same k ∙ sym (set_there w (o k) u r away) ∙ sym (ap new (stays o w s k apart away)))
          (cases_eq (o k) w)

module _ (rooms : Rooms) (fs gs : List FunctionCode) (all : FunctionsAreWithoutCopies fs gs) where
  -- an instruction writes or is given these values
  module _ (i : VmInsn) (o : ℕ → ℕ) (r : Registers) (same : Same o r) where
    abbrev j : VmInsn
    j = with_reads o i

    -- what the source of a move holds is written
    written : (R : Point → Point → Registers → Registers → Type 0) (vs : List Value) (w : ℕ) → GoesOn Value Registers Registers rooms (vm_code fs) (vm_code gs) R (insn_site i) r vs →
        move_source j w ≢ w → first_or_unset vs ≡ r (move_source j w)
    written R vs w goes = of_insn i goes
      where
        of_insn : (h : VmInsn) → GoesOn Value Registers Registers rooms (vm_code fs) (vm_code gs) R (insn_site h) r vs → move_source (with_reads o h) w ≢ w → first_or_unset vs ≡ r (move_source (with_reads o h) w)
        of_insn (x.Unary unary.Move ty d b) (ByWriting own out after e) apart =
            ap first_or_unset (gives_value (unary_answer unary.Move ty (r b)) out after vs (r b) (move_answer ty (r b)) e) ∙ same b
        of_insn (x.Unary unary.Move ty d b) (ByCalling own out after g us e) apart = absurd (no_call (unary_answer unary.Move ty (r b)) out after g us e)
        of_insn (x.Unary unary.Negate ty d b) g apart = absurd (apart refl)
        of_insn (x.Unary unary.Complement ty d b) g apart = absurd (apart refl)
        of_insn (x.LoadConstant ty d word) g apart = absurd (apart refl)
        of_insn (x.LoadAddress d place plus) g apart = absurd (apart refl)
        of_insn (x.Load ty d p plus) g apart = absurd (apart refl)
        of_insn (x.Store ty p plus b) g apart = absurd (apart refl)
        of_insn (x.Copy to from size align) g apart = absurd (apart refl)
        of_insn (x.Binary op ty d b c) g apart = absurd (apart refl)
        of_insn (x.Shift op ty d b c) g apart = absurd (apart refl)
        of_insn (x.Convert from to d b) g apart = absurd (apart refl)
        of_insn (x.Compare op ty d b c) g apart = absurd (apart refl)
        of_insn (x.Branch op ty source block) g apart = absurd (apart refl)
        of_insn (x.Jump block) g apart = absurd (apart refl)
        of_insn (x.Call d c arguments) g apart = absurd (apart refl)
        of_insn (x.Return value) g apart = absurd (apart refl)
        of_insn x.Mark g apart = absurd (apart refl)
        of_insn x.Nop g apart = absurd (apart refl)

    same_next : (vs : List Value) → ((w : ℕ) → move_source j w ≢ w → first_or_unset vs ≡ r (move_source j w)) → Same (behind o j) (set_registers (writes_of j) vs r)
    same_next vs holds = of_list (writes_of j) (one_write j)
      where
        of_list : (ws : List ℕ) → length ws ≤ 1 → Same (behind_writes o j ws) (set_registers ws vs r)
        of_list [] few = same
        of_list (w ∷ []) few = same_behind o w (move_source j w) (first_or_unset vs) r same (holds w)
        of_list (w ∷ z ∷ ws) few = absurd (omega (arith, few))

  -- ---- the relation

  record At (p : Point) (r : Registers) : Type 0 where
    pub f : FunctionCode
    pub g : FunctionCode
    pub f_is : slice_get fs p.function ≡ Some f
    pub g_is : slice_get gs p.function ≡ Some g
    pub made : AreWithoutCopies f.blocks g.blocks
    pub insns : List VmInsn
    pub xs : List VmInsn
    pub block_is : slice_get f.blocks p.block ≡ Some insns
    pub rest : drop p.at insns ≡ xs
    pub origins : ℕ → ℕ
    pub behind_is : drop p.at (without_copies no_copies insns) ≡ without_copies origins xs
    pub same : Same origins r

  data Where (p : Point) (r : Registers) : Type 0 where
    There : At p r → Where p r
    Lost : (vm_code fs).site p ≡ None → Where p r

  record R (p q : Point) (r s : Registers) : Type 0 where
    pub points : q ≡ p
    pub store : s ≡ r
    pub place : Where p r

  site_of : (p : Point) (f : FunctionCode) (o : Option FunctionCode) → o ≡ Some f → (b : Option (List VmInsn)) → slice_get f.blocks p.block ≡ b → site_in_function p.block p.at o ≡ site_in_block p.block p.at b
  site_of p f o is b at = ap (site_in_function p.block p.at) is ∙ ap (site_in_block p.block p.at) at

  top : (p : Point) (f g : FunctionCode) → slice_get fs p.function ≡ Some f → slice_get gs p.function ≡ Some g → AreWithoutCopies f.blocks g.blocks → (block : ℕ) (r : Registers) → Where (block_point p block) r
  top p f g f_is g_is made block r = by_block (slice_get f.blocks block) refl
    where
      by_block : (b : Option (List VmInsn)) → slice_get f.blocks block ≡ b → Where (block_point p block) r
      by_block None is = Lost (site_of (block_point p block) f (slice_get fs p.function) f_is None is)
      by_block (Some insns) is = There (record {
        f = f;
        g = g;
        f_is = f_is;
        g_is = g_is;
        made = made;
        insns = insns;
        xs = insns;
        block_is = is;
        rest = refl;
        origins = no_copies;
        behind_is = refl;
        same = λ k. refl;
      })

  module _ (p : Point) (r : Registers) (a : At p r) where
    before_site : (u : Option VmInsn) → slice_get a.insns p.at ≡ u → (vm_code fs).site p ≡ Some (site_or_next p.block u)
    before_site u is = site_of p a.f (slice_get fs p.function) a.f_is (Some a.insns) a.block_is ∙ ap (λ z. Some (site_or_next p.block z)) is

    after_site : (u : Option VmInsn) → slice_get (without_copies no_copies a.insns) p.at ≡ u → (vm_code gs).site p ≡ Some (site_or_next p.block u)
    after_site u is =
        site_of p a.g (slice_get gs p.function) a.g_is (Some (without_copies no_copies a.insns))
        (ap (λ bs. slice_get bs p.block) a.made ∙ slice_get-map (without_copies no_copies) a.f.blocks p.block ∙ ap (option_map (without_copies no_copies)) a.block_is)
        ∙ ap (λ z. Some (site_or_next p.block z)) is

    moved : (vs : List Value) (z : Registers) (ys : List VmInsn) (o : ℕ → ℕ) → drop (suc p.at) a.insns ≡ ys → drop (suc p.at) (without_copies no_copies a.insns) ≡ without_copies o ys → Same o z → Where (next_point p) z
    moved vs z ys o rest behind_is same = There (record {
      f = a.f;
      g = a.g;
      f_is = a.f_is;
      g_is = a.g_is;
      made = a.made;
      insns = a.insns;
      xs = ys;
      block_is = a.block_is;
      rest = rest;
      origins = o;
      behind_is = behind_is;
      same = same;
    })

    drop_past : (xs : List VmInsn) (n : ℕ) → length xs ≤ n → drop n xs ≡ []
    drop_past [] zero w = refl
    drop_past [] (suc n) w = refl
    drop_past (y ∷ xs) zero w = absurd (omega (arith, w))
    drop_past (y ∷ xs) (suc n) w = drop_past xs n (omega (arith, w))

    at_end : a.xs ≡ [] → Stands Value Registers Registers rooms (vm_code fs) (vm_code gs) R p p r r
    at_end none = Both (next_site p.block) (next_site p.block) (before_site None (slice_get_past a.insns p.at past)) (after_site None (slice_get_past (without_copies no_copies a.insns) p.at behind))
        (record {
          function = refl;
          does = λ own o. refl;
          turn = refl;
          put = λ vs _. record {
            points = refl;
            store = refl;
            place = moved vs r [] a.origins (drop_past a.insns (suc p.at) (omega (arith, past))) (drop_past (without_copies no_copies a.insns) (suc p.at) (omega (arith, behind))) a.same;
          };
          edge = λ k block e. record {
            other = block;
            there = e;
            related = record { points = refl; store = refl; place = top p a.f a.g a.f_is a.g_is a.made block r };
          };
        })
      where
        past : length a.insns ≤ p.at
        past = drop_none a.insns p.at (a.rest ∙ none)

        behind : length (without_copies no_copies a.insns) ≤ p.at
        behind = drop_none (without_copies no_copies a.insns) p.at (a.behind_is ∙ ap (without_copies a.origins) none)

    at_insn : (i : VmInsn) (ys : List VmInsn) → a.xs ≡ i ∷ ys → Stands Value Registers Registers rooms (vm_code fs) (vm_code gs) R p p r r
    at_insn i ys is = Both (insn_site i) (insn_site (j i a.origins r a.same)) (before_site (Some i) d.0) (after_site (Some (j i a.origins r a.same)) after.0) (record {
      function = refl;
      does = λ own o.
          sym (ap (λ rs. does (with_reads a.origins i) own (map r rs) o) (reads_are a.origins i)
          ∙ ap (λ vs. does (with_reads a.origins i) own vs o) (read_same a.origins r a.same (reads_of i))
          ∙ does_same a.origins own (map r (reads_of i)) o i);
      turn = sym (turn_same a.origins i);
      put = λ vs goes. record {
        points = refl;
        store = ap (λ ws. set_registers ws vs r) (writes_same a.origins i);
        place = moved vs (set_registers (writes_of i) vs r) ys (behind a.origins (with_reads a.origins i)) d.1 after.1
            (subst (λ ws. Same (behind a.origins (with_reads a.origins i)) (set_registers ws vs r)) (writes_same a.origins i)
            (same_next i a.origins r a.same vs (λ w. written i a.origins r a.same R vs w goes)));
      };
      edge = λ k block e. record {
        other = block;
        there = ap (λ ts. slice_get ts k) (targets_same a.origins i) ∙ e;
        related = record {
          points = refl;
          store = ap (λ ws. set_registers ws [] r) (writes_same a.origins i);
          place = top p a.f a.g a.f_is a.g_is a.made block (set_registers (writes_of i) [] r);
        };
      };
    })
      where
        d : (slice_get a.insns p.at ≡ Some i) × (drop (suc p.at) a.insns ≡ ys) × (p.at < length a.insns)
        d = drop_first a.insns p.at i ys (a.rest ∙ is)

        after : (slice_get (without_copies no_copies a.insns) p.at ≡ Some (with_reads a.origins i))
            × (drop (suc p.at) (without_copies no_copies a.insns) ≡ without_copies (behind a.origins (with_reads a.origins i)) ys)
            × (p.at < length (without_copies no_copies a.insns))
        after = drop_first (without_copies no_copies a.insns) p.at (with_reads a.origins i) (without_copies (behind a.origins (with_reads a.origins i)) ys)
            (a.behind_is ∙ ap (without_copies a.origins) is)

    stand_at : (zs : List VmInsn) → a.xs ≡ zs → Stands Value Registers Registers rooms (vm_code fs) (vm_code gs) R p p r r
    stand_at [] is = at_end is
    stand_at (i ∷ ys) is = at_insn i ys is

  stand : (p : Point) (r : Registers) → Where p r → Stands Value Registers Registers rooms (vm_code fs) (vm_code gs) R p p r r
  stand p r (Lost none) = Nowhere none
  stand p r (There a) = stand_at p r a a.xs refl

  stand_there : (p q : Point) (r s : Registers) → R p q r s → Stands Value Registers Registers rooms (vm_code fs) (vm_code gs) R p q r s
  stand_there p q r s k =
      subst (λ o. Stands Value Registers Registers rooms (vm_code fs) (vm_code gs) R p o r s) (sym k.points)
      (subst (λ z. Stands Value Registers Registers rooms (vm_code fs) (vm_code gs) R p p r z) (sym k.store) (stand p r k.place))

  sizes_same : (k : ℕ) → Pair (slice_get fs k) (slice_get gs k) → sizes_in (slice_get fs k) ≡ sizes_in (slice_get gs k)
  sizes_same k (NoPair none other) = ap sizes_in none ∙ sym (ap sizes_in other)
  sizes_same k (IsPair f g f_is g_is sizes made) = ap sizes_in f_is ∙ sym sizes ∙ sym (ap sizes_in g_is)

  enters : (k : ℕ) (r : Registers) → Pair (slice_get fs k) (slice_get gs k) → R (entry_point k) (entry_point k) r r
  enters k r (NoPair none other) = record { points = refl; store = refl; place = Lost (ap (site_in_function 0 0) none) }
  enters k r (IsPair f g f_is g_is sizes made) = record { points = refl; store = refl; place = top (entry_point k) f g f_is g_is made 0 r }

  lags : Lags Value Registers Registers rooms (vm_code fs) (vm_code gs) R
  lags = record {
    stands = stand_there;
    entry = λ function vs. enters function (registers_of vs) (pair_at fs gs all function);
    locals = λ k. sizes_same k (pair_at fs gs all k);
    status = λ vs. refl;
  }

pub origins_keep : ReadingOriginsKeepsRuns
origins_keep rooms fs gs all main w steps e defined is =
    runs_arrive Value Registers Registers rooms (vm_code fs) (vm_code gs) (R rooms fs gs all) (lags rooms fs gs all) steps main w e defined is
