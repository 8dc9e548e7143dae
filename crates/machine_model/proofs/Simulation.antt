-- Two codes that keep step: at each point they do the same with the values that they fetch, from stores that stay
-- related. Their runs then end alike, in the same number of steps. The relation ranges over types, so this is a lemma
-- for the crates above and no law of a function.
use Rattle.std.proofs.Common.{◌≡◌, ℕ, zero, suc, List, [], ◌∷◌, length, Option, Some, None, refl, sym, ap, ◌∙◌, subst}
use Rattle.std.specs.Prelude.{slice_get}
use Rattle.mem_model.specs.World.{Outer, Meter, World, Rooms, leave_call, enter_call}
use Rattle.mem_model.specs.Ending.{Ending, Done, Undefined, More}
use Rattle.machine_model.specs.Code.{Act, Writes, Jumps, Calls, Returns, Stops, Site, Point, next_point, block_point, entry_point, Code}
use Rattle.machine_model.specs.Machine.{Frame, Config, Next, Goes, Over, whole_world, begin_locals, end_locals, turn_if, stop_ending, frame_after, jump_to, resume, status_ending, return_to, act_on, step_with, step_at, step, go_on, exec, start_config}

module _ (V S T : Type 0) (rooms : Rooms) (c : Code V S) (d : Code V T) (R : Point → S → T → Type 0) where
  -- one instruction, kept in both ways
  pub record SameSite (p : Point) (s : Site V S) (t : Site V T) : Type 0 where
    pub does : (own : ℕ) (vs : List V) (o : Outer) → s.does own vs o ≡ t.does own vs o
    pub turn : s.turn ≡ t.turn
    pub targets : s.targets ≡ t.targets
    pub fetch : (x : S) (y : T) → R p x y → s.fetch x ≡ t.fetch y
    pub put : (x : S) (y : T) (vs : List V) → R p x y → R (next_point p) (s.put vs x) (t.put vs y)
    pub edge : (x : S) (y : T) (k block : ℕ) → slice_get s.targets k ≡ Some block → R p x y → R (block_point p block) (c.edge p block (s.put [] x)) (d.edge p block (t.put [] y))

  abbrev pub SameSites : Point → Option (Site V S) → Option (Site V T) → Type 0
  SameSites p None None = Unit {0}
  SameSites p (Some s) (Some t) = SameSite p s t
  SameSites p _ _ = ⊥

  pub record KeepStep : Type 0 where
    pub sites : (p : Point) → SameSites p (c.site p) (d.site p)
    pub number : (p : Point) → c.number p ≡ d.number p
    pub entry : (function : ℕ) (vs : List V) → R (entry_point function) (c.entry function vs) (d.entry function vs)
    pub locals : (function : ℕ) → c.locals function ≡ d.locals function
    pub status : (vs : List V) → c.status vs ≡ d.status vs

  -- the same point, and related stores
  abbrev pub SameFrame : Frame S → Frame T → Type 0
  SameFrame a b = (a.point ≡ b.point) × R a.point a.store b.store × (a.own ≡ b.own)

  abbrev pub SameFrames : List (Frame S) → List (Frame T) → Type 0
  SameFrames [] [] = Unit {0}
  SameFrames (a ∷ fs) (b ∷ gs) = SameFrame a b × SameFrames fs gs
  SameFrames _ _ = ⊥

  pub record SameConfig (k : Config S) (l : Config T) : Type 0 where
    pub here : SameFrame k.here l.here
    pub callers : SameFrames k.callers l.callers
    pub world : k.world ≡ l.world

  abbrev pub SameNext : Next S → Next T → Type 0
  SameNext (Goes k) (Goes l) = SameConfig k l
  SameNext (Over e) (Over g) = e ≡ g
  SameNext _ _ = ⊥

  module _ (keep : KeepStep) where
    numbers : (p q : Point) → p ≡ q → c.number p ≡ d.number q
    numbers p q e = keep.number p ∙ ap d.number e

    site_there : (a : Frame S) (b : Frame T) → SameFrame a b → SameSites a.point (c.site a.point) (d.site b.point)
    site_there a b h = subst (λ p. SameSites a.point (c.site a.point) (d.site p)) h.0 (keep.sites a.point)

    goes : (a : Frame S) (b : Frame T) (s : Site V S) (t : Site V T) (vs : List V) → SameFrame a b → SameSite a.point s t → SameFrame (frame_after V S rooms c s vs a) (frame_after V T rooms d t vs b)
    goes a b s t vs h q = (ap next_point h.0, q.put a.store b.store vs h.1, h.2)

    same_undefined : (p q : Point) (w : World) → p ≡ q → Undefined w (c.number p) ≡ Undefined w (d.number q)
    same_undefined p q w e = ap (λ n. Undefined w n) (numbers p q e)

    jumps : (k : Config S) (l : Config T) (w : World) (s : Site V S) (t : Site V T) (o : Option ℕ) (n : ℕ) → SameConfig k l → SameSite k.here.point s t → slice_get s.targets n ≡ o → SameNext (jump_to V S rooms c k w s o) (jump_to V T rooms d l w t o)
    jumps k l w s t None n r q e = same_undefined k.here.point l.here.point w r.here.0
    jumps k l w s t (Some block) n r q e = record {
      here = (ap (λ p. block_point p block) r.here.0, subst (λ p. R (block_point k.here.point block) (c.edge k.here.point block (s.put [] k.here.store)) (d.edge p block (t.put [] l.here.store))) r.here.0 (q.edge k.here.store l.here.store n block e r.here.1), r.here.2);
      callers = r.callers;
      world = refl;
    }

    resumes : (a : Frame S) (b : Frame T) (fs : List (Frame S)) (gs : List (Frame T)) (w : World) (vs : List V) (o : Option (Site V S)) (q : Option (Site V T)) → SameFrame a b → SameFrames fs gs → SameSites a.point o q → SameNext (resume V S rooms c a fs w vs o) (resume V T rooms d b gs w vs q)
    resumes a b fs gs w vs None None h hs q = same_undefined a.point b.point w h.0
    resumes a b fs gs w vs None (Some t) h hs q = absurd q
    resumes a b fs gs w vs (Some s) None h hs q = absurd q
    resumes a b fs gs w vs (Some s) (Some t) h hs q = record { here = goes a b s t vs h q; callers = hs; world = refl }

    statuses : (at : ℕ) (w : World) (o q : Option ℕ) → o ≡ q → status_ending V S rooms c at w o ≡ status_ending V T rooms d at w q
    statuses at w None None e = refl
    statuses at w None (Some n) e = absurd (cc)
    statuses at w (Some m) None e = absurd (cc)
    statuses at w (Some m) (Some n) e = let same : m ≡ n = cc in ap (λ j. Done w j) same

    returns : (at : ℕ) (w : World) (vs : List V) (fs : List (Frame S)) (gs : List (Frame T)) → SameFrames fs gs → SameNext (return_to V S rooms c at vs w fs) (return_to V T rooms d at vs w gs)
    returns at w vs [] [] hs = statuses at w (c.status vs) (d.status vs) (keep.status vs)
    returns at w vs [] (b ∷ gs) hs = absurd hs
    returns at w vs (a ∷ fs) [] hs = absurd hs
    returns at w vs (a ∷ fs) (b ∷ gs) hs = resumes a b fs gs w vs (c.site a.point) (d.site b.point) hs.0 hs.1 (site_there a b hs.0)

    acts : (k : Config S) (l : Config T) (m : Meter) (s : Site V S) (t : Site V T) (a : Act V) → SameConfig k l → SameSite k.here.point s t → SameNext (act_on V S rooms c k m s a) (act_on V T rooms d l m t a)
    acts k l m s t (Writes vs o) r q = record { here = goes k.here l.here s t vs r.here q; callers = r.callers; world = refl }
    acts k l m s t (Jumps n o) r q = subst (λ ts. SameNext (jump_to V S rooms c k (whole_world o m) s (slice_get s.targets n)) (jump_to V T rooms d l (whole_world o m) t (slice_get ts n))) q.targets (jumps k l (whole_world o m) s t (slice_get s.targets n) n r q refl)
    acts k l m s t (Calls g vs o) r q = record { here = (refl, keep.entry g vs, refl); callers = (r.here, r.callers); world = ap (λ sizes. whole_world (begin_locals o sizes) (enter_call rooms g m)) (keep.locals g) }
    acts k l m s t (Returns vs o) r q =
        let w : World = whole_world (end_locals o k.here.own (length (c.locals k.here.point.function))) (leave_call rooms k.here.point.function m) in
        let functions : k.here.point.function ≡ l.here.point.function = ap (λ (p : Point). p.function) r.here.0 in
        let sizes : c.locals k.here.point.function ≡ d.locals l.here.point.function = keep.locals k.here.point.function ∙ ap d.locals functions in
        let e : whole_world (end_locals o k.here.own (length (c.locals k.here.point.function))) (leave_call rooms k.here.point.function m) ≡ whole_world (end_locals o l.here.own (length (d.locals l.here.point.function))) (leave_call rooms l.here.point.function m) =
        ap (λ j. whole_world (end_locals o j (length (c.locals k.here.point.function))) (leave_call rooms k.here.point.function m)) r.here.2
        ∙ ap (λ (j : List ℕ). whole_world (end_locals o l.here.own (length j)) (leave_call rooms k.here.point.function m)) sizes
        ∙ ap (λ j. whole_world (end_locals o l.here.own (length (d.locals l.here.point.function))) (leave_call rooms j m)) functions in
        subst (λ at. SameNext (return_to V S rooms c (c.number k.here.point) vs (whole_world (end_locals o k.here.own (length (c.locals k.here.point.function))) (leave_call rooms k.here.point.function m)) k.callers) (return_to V T rooms d at vs (whole_world (end_locals o l.here.own (length (d.locals l.here.point.function))) (leave_call rooms l.here.point.function m)) l.callers)) (numbers k.here.point l.here.point r.here.0)
        (subst (λ u. SameNext (return_to V S rooms c (c.number k.here.point) vs (whole_world (end_locals o k.here.own (length (c.locals k.here.point.function))) (leave_call rooms k.here.point.function m)) k.callers) (return_to V T rooms d (c.number k.here.point) vs u l.callers)) e
        (returns (c.number k.here.point) (whole_world (end_locals o k.here.own (length (c.locals k.here.point.function))) (leave_call rooms k.here.point.function m)) vs k.callers l.callers r.callers))
    acts k l m s t (Stops e o) r q = ap (λ n. stop_ending e n (whole_world o m)) (numbers k.here.point l.here.point r.here.0)

    steps_with : (k : Config S) (l : Config T) (s : Site V S) (t : Site V T) (m : Option Meter) → SameConfig k l → SameSite k.here.point s t → SameNext (step_with V S rooms c k s m) (step_with V T rooms d l t m)
    steps_with k l s t None r q = ap More r.world
    steps_with k l s t (Some m) r q =
        let e : s.does k.here.own (s.fetch k.here.store) k.world.outer ≡ t.does l.here.own (t.fetch l.here.store) l.world.outer =
        q.does k.here.own (s.fetch k.here.store) k.world.outer
        ∙ ap (λ vs. t.does k.here.own vs k.world.outer) (q.fetch k.here.store l.here.store r.here.1)
        ∙ ap (λ own. t.does own (t.fetch l.here.store) k.world.outer) r.here.2
        ∙ ap (λ (w : World). t.does l.here.own (t.fetch l.here.store) w.outer) r.world in
        subst (λ a. SameNext (act_on V S rooms c k m s (s.does k.here.own (s.fetch k.here.store) k.world.outer)) (act_on V T rooms d l m t a)) e (acts k l m s t (s.does k.here.own (s.fetch k.here.store) k.world.outer) r q)

    steps_at : (k : Config S) (l : Config T) (o : Option (Site V S)) (q : Option (Site V T)) → SameConfig k l → SameSites k.here.point o q → SameNext (step_at V S rooms c k o) (step_at V T rooms d l q)
    steps_at k l None None r q = same_undefined k.here.point l.here.point k.world r.here.0 ∙ ap (λ w. Undefined w (d.number l.here.point)) r.world
    steps_at k l None (Some t) r q = absurd q
    steps_at k l (Some s) None r q = absurd q
    steps_at k l (Some s) (Some t) r q =
        let e : turn_if s.turn k.world.meter ≡ turn_if t.turn l.world.meter = ap (λ b. turn_if b k.world.meter) q.turn ∙ ap (λ (w : World). turn_if t.turn w.meter) r.world in
        subst (λ m. SameNext (step_with V S rooms c k s (turn_if s.turn k.world.meter)) (step_with V T rooms d l t m)) e (steps_with k l s t (turn_if s.turn k.world.meter) r q)

    steps : (k : Config S) (l : Config T) → SameConfig k l → SameNext (step V S rooms c k) (step V T rooms d l)
    steps k l r = steps_at k l (c.site k.here.point) (d.site l.here.point) r (site_there k.here l.here r.here)

    goes_on : (x : Next S) (y : Next T) (f : Config S → Next S) (g : Config T → Next T) → ((k : Config S) (l : Config T) → SameConfig k l → SameNext (f k) (g l)) → SameNext x y → SameNext (go_on x f) (go_on y g)
    goes_on (Goes k) (Goes l) f g h r = h k l r
    goes_on (Goes k) (Over e) f g h r = absurd r
    goes_on (Over e) (Goes l) f g h r = absurd r
    goes_on (Over e) (Over i) f g h r = r

    pub runs : (n : ℕ) (k : Config S) (l : Config T) → SameConfig k l → SameNext (exec V S rooms c n k) (exec V T rooms d n l)
    runs zero k l r = r
    runs (suc n) k l r = goes_on (step V S rooms c k) (step V T rooms d l) (exec V S rooms c n) (exec V T rooms d n) (runs n) (steps k l r)

    over : (x : Next S) (y : Next T) (e : Ending) → SameNext x y → x ≡ Over e → y ≡ Over e
    over (Goes k) y e r is = absurd (cc)
    over (Over i) (Goes l) e r is = absurd r
    over (Over i) (Over j) e r is = let same : i ≡ e = cc in ap (λ x. Over x) (sym r ∙ same)

    -- what the one code ends with, the other ends with
    pub runs_end : (n function : ℕ) (w : World) (e : Ending) → exec V S rooms c n (start_config V S rooms c function w) ≡ Over e → exec V T rooms d n (start_config V T rooms d function w) ≡ Over e
    runs_end n function w e is =
        over (exec V S rooms c n (start_config V S rooms c function w)) (exec V T rooms d n (start_config V T rooms d function w)) e
        (runs n (start_config V S rooms c function w) (start_config V T rooms d function w) (record { here = (refl, keep.entry function [], refl); callers = tt; world = ap (λ sizes. whole_world (begin_locals w.outer sizes) (enter_call rooms function w.meter)) (keep.locals function) })) is
