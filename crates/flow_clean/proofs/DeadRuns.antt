-- A run without instructions whose writes nothing reads lags behind the run with them: the relation, and its steps.
use Rattle.std.proofs.Common.{◌≡◌, ℕ, zero, suc, ◌<◌, ◌≤◌, ◌&&◌, not, Bool, true, false, List, [], ◌∷◌, length, drop, map, Option, Some, None, All, refl, sym, ap, ◌∙◌, subst, inl, inr, arith}
use Rattle.std.specs.Prelude.{sum_by, slice_get, Contains}
use Rattle.std.proofs.lemmas.Option.{slice_get_past, slice_get_within, get_or_from_slice_get, none-some, same_Some}
use Rattle.std.proofs.lemmas.List.Sums.{sum_by-cons}
use Rattle.mem_model.specs.declared.value.Value.{Value}
use Rattle.mem_model.specs.World.{Outer, Rooms}
use Rattle.machine_model.specs.Code.{Point, block_point, entry_point}
use Rattle.pass_core.specs.Functions.{EndsLate, successors_of}
use Rattle.pass_core.specs.Live.Live.{Follows}
use Rattle.bitvector_flow.specs.Flows.{has_at}
use Rattle.bitvector_flow.specs.Lives.{has_register}
use Rattle.bitvector_flow.proofs.Lives.{either, and_made, drop_first, drop_none}
use Rattle.suifvm_ir.specs.declared.insn.VmInsn.{VmInsn}
use Rattle.suifvm_ir.specs.Insns.{reads_of, writes_of, targets_of, flows_on_of}
use Rattle.suifvm_meaning.specs.Effect.{does}
use Rattle.suifvm_meaning.specs.Laws.{OnlyTheseVmInstructionsTrap}
use Rattle.suifvm_meaning.specs.Behave.{Registers, FunctionCode, insn_site, next_site, site_or_next, site_in_block, site_in_function, sizes_in, registers_of, set_registers, vm_code}
use Rattle.flow_clean.specs.Dead.{is_wanted, is_dead_write, cleaned, NoneIsDead, NoneIsLeftDead, NoSumRises, AreCleaned, FunctionsAreCleaned, CleaningKeepsRuns}
use Rattle.flow_clean.specs.Dead.FunctionsAreCleaned.{NoFunction, Function}
use Rattle.machine_model.proofs.Lagging.{GoesOn, LandsAlike, AloneAct, Stands, Lags, runs_arrive}
use Rattle.machine_model.proofs.Lagging.GoesOn.{ByWriting, ByCalling}
use Rattle.machine_model.proofs.Lagging.AloneAct.{WritesAlone, MeansNothing}
use Rattle.machine_model.proofs.Lagging.Stands.{Both, Alone, Nowhere}
use Rattle.flow_clean.proofs.DroppedActs.{Drops, drops, dropped_turn, dropped_straight, writing_flows, calling_flows}
use Rattle.flow_clean.proofs.DroppedActs.Drops.{DropsValue, DropsNothing}
use Rattle.flow_clean.proofs.WantedRegisters.{same_behind, read_same, is_cleaned, unchanged, droppable, wanted_live, last_is, stands_last, target_follows, next_follows}

data Pair : (o q : Option FunctionCode) → Type 0 where
  NoPair : {o q : Option FunctionCode} → o ≡ None → q ≡ None → Pair o q
  IsPair : {o q : Option FunctionCode} → (f g : FunctionCode) → o ≡ Some f → q ≡ Some g → g.sizes ≡ f.sizes → All (EndsLate targets_of flows_on_of) f.blocks → AreCleaned f.blocks g.blocks → Pair o q

pair_at : (fs gs : List FunctionCode) → FunctionsAreCleaned fs gs → (k : ℕ) → Pair (slice_get fs k) (slice_get gs k)
pair_at _ _ NoFunction k = NoPair refl refl
pair_at _ _ (Function f g sizes late clean more) zero = IsPair f g refl refl sizes late clean
pair_at _ _ (Function {fs = fs} {gs = gs} f g sizes late clean more) (suc k) = pair_at fs gs more k

drop_past : (xs : List VmInsn) (n : ℕ) → length xs ≤ n → drop n xs ≡ []
drop_past [] zero w = refl
drop_past [] (suc n) w = refl
drop_past (x ∷ xs) zero w = absurd (omega (arith, w))
drop_past (x ∷ xs) (suc n) w = drop_past xs n (omega (arith, w))

one_target : (target k block : ℕ) → slice_get (target ∷ []) k ≡ Some block → block ≡ target
one_target target zero block e = sym (same_Some target block e)
one_target target (suc k) block e = absurd (none-some block e)

late_there : (blocks : List (List VmInsn)) (block : ℕ) (insns : List VmInsn) → All (EndsLate targets_of flows_on_of) blocks → slice_get blocks block ≡ Some insns → EndsLate targets_of flows_on_of insns
late_there blocks block insns late is = subst (EndsLate targets_of flows_on_of) (get_or_from_slice_get blocks block insns insns is) (late block insns (slice_get_within blocks block insns is))

module _ (only : OnlyTheseVmInstructionsTrap) (rooms : Rooms) (fs gs : List FunctionCode) (all : FunctionsAreCleaned fs gs) where
  abbrev place : Point → ℕ → Point
  place p j = record { function = p.function; block = p.block; at = j }

  record At (p : Point) (j : ℕ) (r s : Registers) : Type 0 where
    pub f : FunctionCode
    pub g : FunctionCode
    pub f_is : slice_get fs p.function ≡ Some f
    pub g_is : slice_get gs p.function ≡ Some g
    pub late : All (EndsLate targets_of flows_on_of) f.blocks
    pub clean : AreCleaned f.blocks g.blocks
    pub insns : List VmInsn
    pub xs : List VmInsn
    pub block_is : slice_get f.blocks p.block ≡ Some insns
    pub rest : drop p.at insns ≡ xs
    pub behind : drop j (cleaned (has_at clean.bottoms p.block) insns) ≡ cleaned (has_at clean.bottoms p.block) xs
    pub onward : xs ≡ [] → Contains (successors_of targets_of flows_on_of p.block insns) (suc p.block)
    pub agree : (k : ℕ) → is_wanted (has_at clean.bottoms p.block) (cleaned (has_at clean.bottoms p.block) xs) k ≡ true → s k ≡ r k

  data R (p q : Point) (r s : Registers) : Type 0 where
    Where : (j : ℕ) → q ≡ place p j → At p j r s → R p q r s
    Lost : (vm_code fs).site p ≡ None → R p q r s

  site_of : (p : Point) (f : FunctionCode) (o : Option FunctionCode) → o ≡ Some f → (b : Option (List VmInsn)) → slice_get f.blocks p.block ≡ b → site_in_function p.block p.at o ≡ site_in_block p.block p.at b
  site_of p f o is b at = ap (site_in_function p.block p.at) is ∙ ap (site_in_block p.block p.at) at

  -- the start of a block, where what is wanted there agrees
  top : (p : Point) (f g : FunctionCode) → slice_get fs p.function ≡ Some f → slice_get gs p.function ≡ Some g → All (EndsLate targets_of flows_on_of) f.blocks → (clean : AreCleaned f.blocks g.blocks) →
      (block : ℕ) (r s : Registers) → ((k : ℕ) (insns : List VmInsn) → slice_get f.blocks block ≡ Some insns → is_wanted (has_at clean.bottoms block) (cleaned (has_at clean.bottoms block) insns) k ≡ true → s k ≡ r k) →
      R (block_point p block) (block_point p block) r s
  top p f g f_is g_is late clean block r s agree = by_block (slice_get f.blocks block) refl
    where
      by_block : (b : Option (List VmInsn)) → slice_get f.blocks block ≡ b → R (block_point p block) (block_point p block) r s
      by_block None is = Lost (site_of (block_point p block) f (slice_get fs p.function) f_is None is)
      by_block (Some insns) is = Where 0 refl (record {
        f = f;
        g = g;
        f_is = f_is;
        g_is = g_is;
        late = late;
        clean = clean;
        insns = insns;
        xs = insns;
        block_is = is;
        rest = refl;
        behind = refl;
        onward = λ e. subst (λ l. Contains (successors_of targets_of flows_on_of block l) (suc block)) (sym e) (0, omega arith, refl);
        agree = λ k w. agree k insns is w;
      })

  module _ (p : Point) (j : ℕ) (r s : Registers) (a : At p j r s) where
    abbrev bottom : ℕ → Bool
    bottom = has_at a.clean.bottoms p.block

    before_site : (u : Option VmInsn) → slice_get a.insns p.at ≡ u → (vm_code fs).site p ≡ Some (site_or_next p.block u)
    before_site u is = site_of p a.f (slice_get fs p.function) a.f_is (Some a.insns) a.block_is ∙ ap (λ z. Some (site_or_next p.block z)) is

    after_site : (u : Option VmInsn) → slice_get (cleaned bottom a.insns) j ≡ u → (vm_code gs).site (place p j) ≡ Some (site_or_next p.block u)
    after_site u is = site_of (place p j) a.g (slice_get gs p.function) a.g_is (Some (cleaned bottom a.insns)) (a.clean.each p.block a.insns a.block_is) ∙ ap (λ z. Some (site_or_next p.block z)) is

    -- what is wanted at the top of a block that follows is live at this bottom
    follows : (k block : ℕ) (insns : List VmInsn) → slice_get a.f.blocks block ≡ Some insns → Contains (successors_of targets_of flows_on_of p.block a.insns) block →
        is_wanted (has_at a.clean.bottoms block) (cleaned (has_at a.clean.bottoms block) insns) k ≡ true → bottom k ≡ true
    follows k block insns is leads wanted =
        (a.clean.live.live_at_bottom k p.block a.insns a.block_is).1
        (Follows a.insns block a.block_is refl leads
        (wanted_live a.f.blocks a.clean.temps a.clean.tops a.clean.bottoms a.clean.live block insns is k 0 insns refl (omega arith) wanted))

    at_end : a.xs ≡ [] → Stands Value Registers Registers rooms (vm_code fs) (vm_code gs) R p (place p j) r s
    at_end none = Both (next_site p.block) (next_site p.block)
        (before_site None (slice_get_past a.insns p.at past)) (after_site None (slice_get_past (cleaned bottom a.insns) j behind))
        (record {
          function = refl;
          does = λ own o. refl;
          turn = refl;
          put = λ vs _. Where (suc j) refl (record {
            f = a.f;
            g = a.g;
            f_is = a.f_is;
            g_is = a.g_is;
            late = a.late;
            clean = a.clean;
            insns = a.insns;
            xs = a.xs;
            block_is = a.block_is;
            rest = drop_past a.insns (suc p.at) (omega (arith, past)) ∙ sym none;
            behind = drop_past (cleaned bottom a.insns) (suc j) (omega (arith, behind)) ∙ sym (ap (cleaned bottom) none);
            onward = a.onward;
            agree = a.agree;
          });
          edge = λ k block e. record {
            other = block;
            there = e;
            related = top p a.f a.g a.f_is a.g_is a.late a.clean block r s
                (λ m insns is wanted. a.agree m (ap (λ l. is_wanted bottom (cleaned bottom l) m) none
                ∙ follows m block insns is (subst (Contains (successors_of targets_of flows_on_of p.block a.insns)) (sym (one_target (suc p.block) k block e)) (a.onward none)) wanted));
          };
        })
      where
        past : length a.insns ≤ p.at
        past = drop_none a.insns p.at (a.rest ∙ none)

        behind : length (cleaned bottom a.insns) ≤ j
        behind = drop_none (cleaned bottom a.insns) j (a.behind ∙ ap (cleaned bottom) none)

    module _ (i : VmInsn) (ys : List VmInsn) (xs_is : a.xs ≡ i ∷ ys) where
      d : (slice_get a.insns p.at ≡ Some i) × (drop (suc p.at) a.insns ≡ ys) × (p.at < length a.insns)
      d = drop_first a.insns p.at i ys (a.rest ∙ xs_is)

      late_here : EndsLate targets_of flows_on_of a.insns
      late_here = late_there a.f.blocks p.block a.insns a.late a.block_is

      -- it is left out
      dead_here : is_dead_write bottom i (cleaned bottom ys) ≡ true → Stands Value Registers Registers rooms (vm_code fs) (vm_code gs) R p (place p j) r s
      dead_here dead = Alone (insn_site i) (before_site (Some i) d.0) (dropped_turn i (droppable bottom i ys dead)) (λ own o. by_act own o (drops only i own (map r (reads_of i)) o (droppable bottom i ys dead)))
        where
          shorter : cleaned bottom a.xs ≡ cleaned bottom ys
          shorter = ap (cleaned bottom) xs_is ∙ is_cleaned bottom i ys true dead

          by_act : (own : ℕ) (o : Outer) → Drops i own (map r (reads_of i)) o → AloneAct Value Registers Registers rooms (vm_code fs) (vm_code gs) R p (place p j) (insn_site i) r s own o
          by_act own o (DropsNothing e) = MeansNothing e
          by_act own o (DropsValue v e) = WritesAlone (v ∷ []) e (Where j refl (record {
            f = a.f;
            g = a.g;
            f_is = a.f_is;
            g_is = a.g_is;
            late = a.late;
            clean = a.clean;
            insns = a.insns;
            xs = ys;
            block_is = a.block_is;
            rest = d.1;
            behind = a.behind ∙ shorter;
            onward = λ none. next_follows a.insns i p.block (last_is a.insns p.at i (a.rest ∙ xs_is ∙ ap (λ l. i ∷ l) none)) (dropped_straight i (droppable bottom i ys dead)).1;
            agree = λ k wanted. a.agree k (ap (λ l. is_wanted bottom l k) shorter ∙ wanted) ∙ sym (unchanged bottom i ys dead own r o o (v ∷ []) e k wanted);
          }))

      -- it stays
      kept_here : is_dead_write bottom i (cleaned bottom ys) ≡ false → Stands Value Registers Registers rooms (vm_code fs) (vm_code gs) R p (place p j) r s
      kept_here kept = Both (insn_site i) (insn_site i) (before_site (Some i) d.0) (after_site (Some i) after.0) (record {
        function = refl;
        does = λ own o. ap (λ vs. does i own vs o) (sym (read_same (reads_of i) r s (λ k read. wants k (either (has_register (reads_of i) k) (not (has_register (writes_of i) k) && is_wanted bottom (cleaned bottom ys) k) (inl read)))));
        turn = refl;
        put = λ vs goes. Where (suc j) refl (record {
          f = a.f;
          g = a.g;
          f_is = a.f_is;
          g_is = a.g_is;
          late = a.late;
          clean = a.clean;
          insns = a.insns;
          xs = ys;
          block_is = a.block_is;
          rest = d.1;
          behind = after.1;
          onward = λ none. next_follows a.insns i p.block (last_is a.insns p.at i (a.rest ∙ xs_is ∙ ap (λ l. i ∷ l) none)) (flows vs goes);
          agree = λ k wanted. same_behind (writes_of i) vs r s k (λ unwrit. wants k (behind_too k unwrit wanted));
        });
        edge = λ k block e. lands k block e;
      })
        where
          as_is : cleaned bottom a.xs ≡ i ∷ cleaned bottom ys
          as_is = ap (cleaned bottom) xs_is ∙ is_cleaned bottom i ys false kept

          after : (slice_get (cleaned bottom a.insns) j ≡ Some i) × (drop (suc j) (cleaned bottom a.insns) ≡ cleaned bottom ys) × (j < length (cleaned bottom a.insns))
          after = drop_first (cleaned bottom a.insns) j i (cleaned bottom ys) (a.behind ∙ as_is)

          wants : (k : ℕ) → is_wanted bottom (i ∷ cleaned bottom ys) k ≡ true → s k ≡ r k
          wants k wanted = a.agree k (ap (λ l. is_wanted bottom l k) as_is ∙ wanted)

          behind_too : (k : ℕ) → has_register (writes_of i) k ≡ false → is_wanted bottom (cleaned bottom ys) k ≡ true → is_wanted bottom (i ∷ cleaned bottom ys) k ≡ true
          behind_too k unwrit wanted =
              either (has_register (reads_of i) k) (not (has_register (writes_of i) k) && is_wanted bottom (cleaned bottom ys) k)
              (inr (and_made (has_register (writes_of i) k) (is_wanted bottom (cleaned bottom ys) k) unwrit wanted))

          flows : (vs : List Value) → GoesOn Value Registers Registers rooms (vm_code fs) (vm_code gs) R (insn_site i) r vs → flows_on_of i ≡ true
          flows vs (ByWriting own o v e) = writing_flows i own (map r (reads_of i)) vs o v e
          flows vs (ByCalling own o v g us e) = calling_flows i own (map r (reads_of i)) us g o v e

          lands : (k block : ℕ) → slice_get (targets_of i) k ≡ Some block → LandsAlike Value Registers Registers rooms (vm_code fs) (vm_code gs) R p (place p j) (insn_site i) (insn_site i) r s k block
          lands k block e =
              let none = stands_last a.insns p.at i ys (a.rest ∙ xs_is) late_here k block e in
              let last = last_is a.insns p.at i (a.rest ∙ xs_is ∙ ap (λ l. i ∷ l) none) in
              record {
                other = block;
                there = e;
                related = top p a.f a.g a.f_is a.g_is a.late a.clean block (set_registers (writes_of i) [] r) (set_registers (writes_of i) [] s)
                    (λ m insns is wanted. same_behind (writes_of i) [] r s m
                    (λ unwrit. wants m (behind_too m unwrit (ap (λ l. is_wanted bottom (cleaned bottom l) m) none ∙ follows m block insns is (target_follows a.insns i p.block k block last e) wanted))));
              }

    stand_at : (zs : List VmInsn) → a.xs ≡ zs → Stands Value Registers Registers rooms (vm_code fs) (vm_code gs) R p (place p j) r s
    stand_at [] is = at_end is
    stand_at (i ∷ ys) is = by_dead (is_dead_write bottom i (cleaned bottom ys)) refl
      where
        by_dead : (b : Bool) → is_dead_write bottom i (cleaned bottom ys) ≡ b → Stands Value Registers Registers rooms (vm_code fs) (vm_code gs) R p (place p j) r s
        by_dead true dead = dead_here i ys is dead
        by_dead false kept = kept_here i ys is kept

  stand : (p q : Point) (r s : Registers) → R p q r s → Stands Value Registers Registers rooms (vm_code fs) (vm_code gs) R p q r s
  stand p q r s (Lost none) = Nowhere none
  stand p q r s (Where j is a) = subst (λ o. Stands Value Registers Registers rooms (vm_code fs) (vm_code gs) R p o r s) (sym is) (stand_at p j r s a a.xs refl)

  sizes_same : (k : ℕ) → Pair (slice_get fs k) (slice_get gs k) → sizes_in (slice_get fs k) ≡ sizes_in (slice_get gs k)
  sizes_same k (NoPair none other) = ap sizes_in none ∙ sym (ap sizes_in other)
  sizes_same k (IsPair f g f_is g_is sizes late clean) = ap sizes_in f_is ∙ sym sizes ∙ sym (ap sizes_in g_is)

  enters : (k : ℕ) (r : Registers) → Pair (slice_get fs k) (slice_get gs k) → R (entry_point k) (entry_point k) r r
  enters k r (NoPair none other) = Lost (ap (site_in_function 0 0) none)
  enters k r (IsPair f g f_is g_is sizes late clean) = top (entry_point k) f g f_is g_is late clean 0 r r (λ m insns is wanted. refl)

  lags : Lags Value Registers Registers rooms (vm_code fs) (vm_code gs) R
  lags = record {
    stands = stand;
    entry = λ function vs. enters function (registers_of vs) (pair_at fs gs all function);
    locals = λ k. sizes_same k (pair_at fs gs all k);
    status = λ vs. refl;
  }

pub cleaning_keeps : OnlyTheseVmInstructionsTrap → CleaningKeepsRuns
cleaning_keeps only rooms fs gs all main w steps e defined is =
    runs_arrive Value Registers Registers rooms (vm_code fs) (vm_code gs) (R only rooms fs gs all) (lags only rooms fs gs all) steps main w e defined is

-- ---- nothing is left that is dead

pub none_left : NoneIsLeftDead
none_left bottom [] = tt
none_left bottom (i ∷ insns) = by_dead (is_dead_write bottom i (cleaned bottom insns)) refl (none_left bottom insns)
  where
    by_dead : (b : Bool) → is_dead_write bottom i (cleaned bottom insns) ≡ b → NoneIsDead bottom (cleaned bottom insns) → NoneIsDead bottom (cleaned bottom (i ∷ insns))
    by_dead true dead h = subst (NoneIsDead bottom) (sym (is_cleaned bottom i insns true dead)) h
    by_dead false kept h = subst (NoneIsDead bottom) (sym (is_cleaned bottom i insns false kept)) (kept, h)

pub sums_fall : NoSumRises
sums_fall measure bottom [] = omega arith
sums_fall measure bottom (i ∷ insns) = by_dead (is_dead_write bottom i (cleaned bottom insns)) refl (sums_fall measure bottom insns)
  where
    by_dead : (b : Bool) → is_dead_write bottom i (cleaned bottom insns) ≡ b → sum_by measure (cleaned bottom insns) ≤ sum_by measure insns → sum_by measure (cleaned bottom (i ∷ insns)) ≤ sum_by measure (i ∷ insns)
    by_dead true dead h =
        let same : sum_by measure (cleaned bottom (i ∷ insns)) ≡ sum_by measure (cleaned bottom insns) = ap (λ l. sum_by measure l) (is_cleaned bottom i insns true dead) in
        let more = sum_by-cons measure i insns in
        omega (arith, same, more, h)
    by_dead false kept h =
        let same : sum_by measure (cleaned bottom (i ∷ insns)) ≡ sum_by measure (i ∷ cleaned bottom insns) = ap (λ l. sum_by measure l) (is_cleaned bottom i insns false kept) in
        let one = sum_by-cons measure i (cleaned bottom insns) in
        let more = sum_by-cons measure i insns in
        omega (arith, same, one, more, h)
