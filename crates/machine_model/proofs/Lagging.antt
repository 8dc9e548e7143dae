-- A code that lags behind another one: for each step of the first, it takes the same step or waits. Each defined ending
-- of the first is then one of the second. The relation says of a point of each and of two stores that they belong
-- together, and ranges over types, so this is a lemma for the crates above and no law of a function. Where both jump,
-- the two may come to different blocks.
use Rattle.std.proofs.Common.{◌≡◌, ℕ, zero, suc, List, [], ◌∷◌, length, Option, Some, None, false, refl, sym, ap, ◌∙◌, subst}
use Rattle.std.specs.Prelude.{slice_get}
use Rattle.mem_model.specs.World.{Outer, Meter, World, Rooms, leave_call, enter_call}
use Rattle.mem_model.specs.Ending.{Ending, Done, Trap, Undefined, More, IsDefined}
use Rattle.machine_model.specs.Code.{Stop, Exits, Traps, HasNoMeaning, Act, Writes, Jumps, Calls, Returns, Stops, Site, Point, next_point, block_point, entry_point, Code}
use Rattle.machine_model.specs.Machine.{Frame, Config, Next, Goes, Over, whole_world, begin_locals, end_locals, turn_if, stop_ending, jump_to, resume, status_ending, return_to, act_on, step_with, step_at, step, go_on, exec, start_config}

-- a configuration by its parts
abbrev pub config : {S : Type 0} → (p : Point) → (own : ℕ) → S → List (Frame S) → World → Config S
config p own x fs w = record { here = record { point = p; own = own; store = x }; callers = fs; world = w }

module _ (V S T : Type 0) (rooms : Rooms) (c : Code V S) (d : Code V T) (R : Point → Point → S → T → Type 0) where
  -- both jump to a target with this number, and come to points that belong together
  pub record LandsAlike (p q : Point) (s : Site V S) (t : Site V T) (x : S) (y : T) (k block : ℕ) : Type 0 where
    pub other : ℕ
    pub there : slice_get t.targets k ≡ Some other
    pub related : R (block_point p block) (block_point q other) (c.edge p block (s.put [] x)) (d.edge q other (t.put [] y))

  -- the instruction writes these values, or it calls and is given them, and so the next one of its block may follow
  pub data GoesOn (s : Site V S) (x : S) (vs : List V) : Type 0 where
    ByWriting : (own : ℕ) (o after : Outer) → s.does own (s.fetch x) o ≡ Writes vs after → GoesOn s x vs
    ByCalling : (own : ℕ) (o after : Outer) (g : ℕ) (us : List V) → s.does own (s.fetch x) o ≡ Calls g us after → GoesOn s x vs

  -- both take the same step
  pub record BothStep (p q : Point) (s : Site V S) (t : Site V T) (x : S) (y : T) : Type 0 where
    pub function : p.function ≡ q.function
    pub does : (own : ℕ) (o : Outer) → s.does own (s.fetch x) o ≡ t.does own (t.fetch y) o
    pub turn : s.turn ≡ t.turn
    pub put : (vs : List V) → GoesOn s x vs → R (next_point p) (next_point q) (s.put vs x) (t.put vs y)
    pub edge : (k block : ℕ) → slice_get s.targets k ≡ Some block → LandsAlike p q s t x y k block

  -- both take the same step, and where they jump they come to blocks of one number
  pub record SameStep (p q : Point) (s : Site V S) (t : Site V T) (x : S) (y : T) : Type 0 where
    pub function : p.function ≡ q.function
    pub does : (own : ℕ) (o : Outer) → s.does own (s.fetch x) o ≡ t.does own (t.fetch y) o
    pub turn : s.turn ≡ t.turn
    pub targets : s.targets ≡ t.targets
    pub put : (vs : List V) → R (next_point p) (next_point q) (s.put vs x) (t.put vs y)
    pub edge : (k block : ℕ) → slice_get s.targets k ≡ Some block → R (block_point p block) (block_point q block) (c.edge p block (s.put [] x)) (d.edge q block (t.put [] y))

  pub both_take : (p q : Point) (s : Site V S) (t : Site V T) (x : S) (y : T) → SameStep p q s t x y → BothStep p q s t x y
  both_take p q s t x y same = record {
    function = same.function;
    does = same.does;
    turn = same.turn;
    put = λ vs goes. same.put vs;
    edge = λ k block is. record {
      other = block;
      there = ap (λ ts. slice_get ts k) (sym same.targets) ∙ is;
      related = same.edge k block is;
    };
  }

  -- the first one writes or jumps alone, or has no meaning
  pub data AloneAct (p q : Point) (s : Site V S) (x : S) (y : T) (own : ℕ) (o : Outer) : Type 0 where
    WritesAlone : (vs : List V) → s.does own (s.fetch x) o ≡ Writes vs o → R (next_point p) q (s.put vs x) y → AloneAct p q s x y own o
    JumpsAlone : (k block : ℕ) → s.does own (s.fetch x) o ≡ Jumps k o → slice_get s.targets k ≡ Some block → R (block_point p block) q (c.edge p block (s.put [] x)) y → AloneAct p q s x y own o
    MeansNothing : s.does own (s.fetch x) o ≡ Stops HasNoMeaning o → AloneAct p q s x y own o

  pub data Stands (p q : Point) (x : S) (y : T) : Type 0 where
    Both : (s : Site V S) (t : Site V T) → c.site p ≡ Some s → d.site q ≡ Some t → BothStep p q s t x y → Stands p q x y
    Alone : (s : Site V S) → c.site p ≡ Some s → s.turn ≡ false → ((own : ℕ) (o : Outer) → AloneAct p q s x y own o) → Stands p q x y
    Nowhere : c.site p ≡ None → Stands p q x y

  pub record Lags : Type 0 where
    pub stands : (p q : Point) (x : S) (y : T) → R p q x y → Stands p q x y
    pub entry : (function : ℕ) (vs : List V) → R (entry_point function) (entry_point function) (c.entry function vs) (d.entry function vs)
    pub locals : (function : ℕ) → c.locals function ≡ d.locals function
    pub status : (vs : List V) → c.status vs ≡ d.status vs

  -- calls that wait, each at a step that both take
  pub record Waits (a : Frame S) (b : Frame T) : Type 0 where
    pub own : a.own ≡ b.own
    pub s : Site V S
    pub t : Site V T
    pub there : c.site a.point ≡ Some s
    pub there' : d.site b.point ≡ Some t
    pub both : BothStep a.point b.point s t a.store b.store
    pub goes : (vs : List V) → GoesOn s a.store vs

  abbrev pub AllWait : List (Frame S) → List (Frame T) → Type 0
  AllWait [] [] = Unit {0}
  AllWait (a ∷ fs) (b ∷ gs) = Waits a b × AllWait fs gs
  AllWait _ _ = ⊥

  -- what a step of the first one is in the second one
  data Stepped (q : Point) (own : ℕ) (y : T) (gs : List (Frame T)) (w : World) (now : Next S) (now' : Next T) : Type 0 where
    BothGo : (p' q' : Point) (own' : ℕ) (x' : S) (y' : T) (fs' : List (Frame S)) (gs' : List (Frame T)) (w' : World) → now ≡ Goes (config p' own' x' fs' w') → now' ≡ Goes (config q' own' y' gs' w') → R p' q' x' y' → AllWait fs' gs' → Stepped q own y gs w now now'
    OneGoes : (p' : Point) (x' : S) (fs' : List (Frame S)) → now ≡ Goes (config p' own x' fs' w) → R p' q x' y → AllWait fs' gs → Stepped q own y gs w now now'
    BothEnd : (e : Ending) → now ≡ Over e → now' ≡ Over e → Stepped q own y gs w now now'
    NoMeaning : (u : World) (at : ℕ) → now ≡ Over (Undefined u at) → Stepped q own y gs w now now'

  module _ (lags : Lags) where
    module _ (q : Point) (own : ℕ) (y : T) (gs : List (Frame T)) (w : World) where
      resumes : (a : Frame S) (b : Frame T) (fs : List (Frame S)) (hs : List (Frame T)) (u : World) (vs : List V) → Waits a b → AllWait fs hs → Stepped q own y gs w (resume V S rooms c a fs u vs (c.site a.point)) (resume V T rooms d b hs u vs (d.site b.point))
      resumes a b fs hs u vs h all =
          BothGo (next_point a.point) (next_point b.point) a.own (h.s.put vs a.store) (h.t.put vs b.store) fs hs u
          (ap (resume V S rooms c a fs u vs) h.there)
          (ap (resume V T rooms d b hs u vs) h.there' ∙ ap (λ j. Goes (config (next_point b.point) j (h.t.put vs b.store) hs u)) (sym h.own))
          (h.both.put vs (h.goes vs)) all

      statuses : (at at' : ℕ) (u : World) (o : Option ℕ) → Stepped q own y gs w (Over (status_ending V S rooms c at u o)) (Over (status_ending V T rooms d at' u o))
      statuses at at' u None = NoMeaning u at refl
      statuses at at' u (Some n) = BothEnd (Done u n) refl refl

      returns : (at at' : ℕ) (u : World) (vs : List V) (fs : List (Frame S)) (hs : List (Frame T)) → AllWait fs hs → Stepped q own y gs w (return_to V S rooms c at vs u fs) (return_to V T rooms d at' vs u hs)
      returns at at' u vs [] [] all = subst (λ o. Stepped q own y gs w (Over (status_ending V S rooms c at u (c.status vs))) (Over (status_ending V T rooms d at' u o))) (lags.status vs) (statuses at at' u (c.status vs))
      returns at at' u vs [] (b ∷ hs) all = absurd all
      returns at at' u vs (a ∷ fs) [] all = absurd all
      returns at at' u vs (a ∷ fs) (b ∷ hs) all = resumes a b fs hs u vs all.0 all.1

    module _ (p q : Point) (own : ℕ) (x : S) (y : T) (fs : List (Frame S)) (gs : List (Frame T)) (w : World) (all : AllWait fs gs) where
      abbrev K : Config S
      K = config p own x fs w

      abbrev L : Config T
      L = config q own y gs w

      module _ (s : Site V S) (t : Site V T) (there : c.site p ≡ Some s) (there' : d.site q ≡ Some t) (both : BothStep p q s t x y) where
        jumps : (u : World) (n : ℕ) (o : Option ℕ) → slice_get s.targets n ≡ o → Stepped q own y gs w (jump_to V S rooms c K u s o) (jump_to V T rooms d L u t (slice_get t.targets n))
        jumps u n None e = NoMeaning u (c.number p) refl
        jumps u n (Some block) e =
            let lands = both.edge n block e in
            BothGo (block_point p block) (block_point q lands.other) own (c.edge p block (s.put [] x)) (d.edge q lands.other (t.put [] y)) fs gs u refl
            (ap (jump_to V T rooms d L u t) lands.there) lands.related all

        stops : (e : Stop) (u : World) → Stepped q own y gs w (Over (stop_ending e (c.number p) u)) (Over (stop_ending e (d.number q) u))
        stops (Exits n) u = BothEnd (Done u n) refl refl
        stops (Traps code) u = BothEnd (Trap u code) refl refl
        stops HasNoMeaning u = NoMeaning u (c.number p) refl

        acts : (m : Meter) (a : Act V) → s.does own (s.fetch x) w.outer ≡ a → Stepped q own y gs w (act_on V S rooms c K m s a) (act_on V T rooms d L m t a)
        acts m (Writes vs o) e = BothGo (next_point p) (next_point q) own (s.put vs x) (t.put vs y) fs gs (whole_world o m) refl refl (both.put vs (ByWriting own w.outer o e)) all
        acts m (Jumps n o) e = jumps (whole_world o m) n (slice_get s.targets n) refl
        acts m (Calls g vs o) e =
            BothGo (entry_point g) (entry_point g) (length o.memory) (c.entry g vs) (d.entry g vs) (record { point = p; own = own; store = x } ∷ fs) (record { point = q; own = own; store = y } ∷ gs)
            (whole_world (begin_locals o (c.locals g)) (enter_call rooms g m)) refl
            (ap (λ sizes. Goes (config (entry_point g) (length o.memory) (d.entry g vs) (record { point = q; own = own; store = y } ∷ gs) (whole_world (begin_locals o sizes) (enter_call rooms g m)))) (sym (lags.locals g)))
            (lags.entry g vs) (record { own = refl; s = s; t = t; there = there; there' = there'; both = both; goes = λ us. ByCalling own w.outer o g vs e }, all)
        acts m (Returns vs o) e =
            subst (λ u. Stepped q own y gs w (return_to V S rooms c (c.number p) vs (whole_world (end_locals o own (length (c.locals p.function))) (leave_call rooms p.function m)) fs) (return_to V T rooms d (d.number q) vs u gs))
            (ap (λ (sizes : List ℕ). whole_world (end_locals o own (length sizes)) (leave_call rooms p.function m)) (lags.locals p.function) ∙ ap (λ f. whole_world (end_locals o own (length (d.locals f))) (leave_call rooms f m)) both.function)
            (returns q own y gs w (c.number p) (d.number q) (whole_world (end_locals o own (length (c.locals p.function))) (leave_call rooms p.function m)) vs fs gs all)
        acts m (Stops end o) e = stops end (whole_world o m)

        turned : (o : Option Meter) → Stepped q own y gs w (step_with V S rooms c K s o) (step_with V T rooms d L t o)
        turned None = BothEnd (More w) refl refl
        turned (Some m) = subst (λ a. Stepped q own y gs w (act_on V S rooms c K m s (s.does own (s.fetch x) w.outer)) (act_on V T rooms d L m t a)) (both.does own w.outer) (acts m (s.does own (s.fetch x) w.outer) refl)

        both_step : Stepped q own y gs w (step V S rooms c K) (step V T rooms d L)
        both_step =
            subst (λ o. Stepped q own y gs w (step_at V S rooms c K o) (step_at V T rooms d L (d.site q))) (sym there)
            (subst (λ o. Stepped q own y gs w (step_with V S rooms c K s (turn_if s.turn w.meter)) (step_at V T rooms d L o)) (sym there')
            (subst (λ b. Stepped q own y gs w (step_with V S rooms c K s (turn_if s.turn w.meter)) (step_with V T rooms d L t (turn_if b w.meter))) both.turn (turned (turn_if s.turn w.meter))))

      alone : (s : Site V S) → c.site p ≡ Some s → s.turn ≡ false → AloneAct p q s x y own w.outer → Stepped q own y gs w (step V S rooms c K) (step V T rooms d L)
      alone s there turn a = go a
        where
          here : step V S rooms c K ≡ act_on V S rooms c K w.meter s (s.does own (s.fetch x) w.outer)
          here = ap (step_at V S rooms c K) there ∙ ap (λ b. step_with V S rooms c K s (turn_if b w.meter)) turn

          go : AloneAct p q s x y own w.outer → Stepped q own y gs w (step V S rooms c K) (step V T rooms d L)
          go (WritesAlone vs e r) = OneGoes (next_point p) (s.put vs x) fs (here ∙ ap (act_on V S rooms c K w.meter s) e) r all
          go (JumpsAlone n block e to r) =
              OneGoes (block_point p block) (c.edge p block (s.put [] x)) fs
              (here ∙ ap (act_on V S rooms c K w.meter s) e ∙ ap (jump_to V S rooms c K w s) to) r all
          go (MeansNothing e) = NoMeaning w (c.number p) (here ∙ ap (act_on V S rooms c K w.meter s) e)

      stepped : Stands p q x y → Stepped q own y gs w (step V S rooms c K) (step V T rooms d L)
      stepped (Both s t there there' both) = both_step s t there there' both
      stepped (Alone s there turn a) = alone s there turn (a own w.outer)
      stepped (Nowhere there) = NoMeaning w (c.number p) (ap (step_at V S rooms c K) there)

    no_undefined : (u : World) (at : ℕ) (e : Ending) → IsDefined e → ◌≡◌ {A = Next S} (Over (Undefined u at)) (Over e) → ⊥
    no_undefined u at (Undefined v n) defined is = defined
    no_undefined u at (Done v n) defined is = cc
    no_undefined u at (Trap v n) defined is = cc
    no_undefined u at (More v) defined is = cc

    pub record Arrives (q : Point) (own : ℕ) (y : T) (gs : List (Frame T)) (w : World) (e : Ending) : Type 0 where
      pub steps : ℕ
      pub over : exec V T rooms d steps (config q own y gs w) ≡ Over e

    steps_on : (n : ℕ) (q : Point) (own : ℕ) (y : T) (gs : List (Frame T)) (w : World) (e : Ending) (now : Next S) → IsDefined e → ((p' q' : Point) (own' : ℕ) (x' : S) (y' : T) (fs' : List (Frame S)) (gs' : List (Frame T)) (w' : World) → R p' q' x' y' → AllWait fs' gs' → exec V S rooms c n (config p' own' x' fs' w') ≡ Over e → Arrives q' own' y' gs' w' e) → go_on now (exec V S rooms c n) ≡ Over e → Stepped q own y gs w now (step V T rooms d (config q own y gs w)) → Arrives q own y gs w e
    steps_on n q own y gs w e now defined more is (BothGo p' q' own' x' y' fs' gs' w' f g r all) =
        let rest = more p' q' own' x' y' fs' gs' w' r all (ap (λ k. go_on k (exec V S rooms c n)) (sym f) ∙ is) in
        record { steps = suc rest.steps; over = ap (λ k. go_on k (exec V T rooms d rest.steps)) g ∙ rest.over }
    steps_on n q own y gs w e now defined more is (OneGoes p' x' fs' f r all) = more p' q own x' y fs' gs w r all (ap (λ k. go_on k (exec V S rooms c n)) (sym f) ∙ is)
    steps_on n q own y gs w e now defined more is (BothEnd end f g) = record { steps = 1; over = ap (λ k. go_on k (exec V T rooms d 0)) g ∙ ap (λ k. Over k) (let same : ◌≡◌ {A = Next S} (Over end) (Over e) = ap (λ k. go_on k (exec V S rooms c n)) (sym f) ∙ is in let ends : end ≡ e = cc in ends) }
    steps_on n q own y gs w e now defined more is (NoMeaning u at f) = absurd (no_undefined u at e defined (ap (λ k. go_on k (exec V S rooms c n)) (sym f) ∙ is))

    -- so many steps of the first one to a defined ending are some of the second
    pub arrives : (n : ℕ) (p q : Point) (own : ℕ) (x : S) (y : T) (fs : List (Frame S)) (gs : List (Frame T)) (w : World) (e : Ending) → IsDefined e → R p q x y → AllWait fs gs → exec V S rooms c n (config p own x fs w) ≡ Over e → Arrives q own y gs w e
    arrives zero p q own x y fs gs w e defined r all is = absurd (cc)
    arrives (suc n) p q own x y fs gs w e defined r all is =
        steps_on n q own y gs w e (step V S rooms c (config p own x fs w)) defined (λ p' q' own' x' y' fs' gs' w' r' all' is'. arrives n p' q' own' x' y' fs' gs' w' e defined r' all' is') is (stepped p q own x y fs gs w all (lags.stands p q x y r))

    -- a defined ending of the first code is one of the second
    pub runs_arrive : (n function : ℕ) (w : World) (e : Ending) → IsDefined e → exec V S rooms c n (start_config V S rooms c function w) ≡ Over e → (m : ℕ) × (exec V T rooms d m (start_config V T rooms d function w) ≡ Over e)
    runs_arrive n function w e defined is =
        let rest = arrives n (entry_point function) (entry_point function) (length w.outer.memory) (c.entry function []) (d.entry function []) [] [] (whole_world (begin_locals w.outer (c.locals function)) (enter_call rooms function w.meter)) e defined (lags.entry function []) tt is in
        (rest.steps, ap (λ sizes. exec V T rooms d rest.steps (config (entry_point function) (length w.outer.memory) (d.entry function []) [] (whole_world (begin_locals w.outer sizes) (enter_call rooms function w.meter)))) (sym (lags.locals function)) ∙ rest.over)
