-- A program whose functions have the same walks comes to the same ending.
use Rattle.std.proofs.Common.{◌≡◌, ℕ, zero, suc, ◌+◌, ◌<◌, Bool, true, false, List, [], ◌∷◌, length, map, drop, Option, Some, None, slice_get, refl, sym, ap, subst, ◌∙◌}
use Rattle.mem_model.specs.World.{Outer, Meter, World, Rooms, enter_call, leave_call}
use Rattle.mem_model.specs.Ending.{Ending, Done, Trap, Undefined, More, SameEnding}
use Rattle.machine_model.specs.Code.{Stop, Exits, Traps, HasNoMeaning, Act, Writes, Jumps, Calls, Returns, Stops, Code}
use Rattle.machine_model.specs.Machine.{Frame, Config, Next, Goes, Over, whole_world, begin_locals, end_locals, turn_if, stop_ending, jump_to, resume, status_ending, return_to, act_on, step_with, step_at, step, go_on, exec, start_config}
use Rattle.machine_model.proofs.Runs.{steps_add_up}
use Rattle.temp_ir.specs.declared.operation.TempBranchOp.{TempBranchOp}
use Rattle.temp_ir.specs.declared.insn.TempInsn.{TempInsn}
use Rattle.temp_ir.specs.declared.insn.TempInsn.TheVariants.{Branch, Jump}
use Rattle.temp_ir.specs.Insns.{targets_of, flows_on_of}
use Rattle.cfg.specs.Walks.{block_at}
use Rattle.cfg.proofs.Kept.{none_stop}
use Rattle.alloc_model.specs.Contents.{Content, branch_test}
use Rattle.alloc_model.specs.Stores.{put_all, empty, without}
use Rattle.alloc_model.specs.Effect.{holder_eq, entry_holders, holders_read, calls_function, is_emptied, does, takes_turn, branches, widest_call, content_at}
use Rattle.alloc_model.specs.Temporaries.{Temps, TemporaryCode, sizes_in, temp_code, result_status}
use Rattle.block_pass_laws.specs.temp_walk_laws.SameRuns.{WritesWithin, AreWithin}
use Rattle.block_pass_laws.proofs.TempWalkLaws.Within.{within_at}
use Rattle.block_pass_laws.proofs.TempWalkLaws.Flows.{writes_flow, calls_flow, does_same}
use Rattle.block_pass_laws.proofs.TempWalkLaws.Walking.{Sort, IsJump, IsBranch, IsPlain, sort, Loud, Pair, SameInsn, TwoBranches, pair_of, Silent, Alike, meets, after_same, after_passed, after_taken, after_jump, after_fall}
use Rattle.block_pass_laws.proofs.TempWalkLaws.Following.{Valid, SameAt, Stands, left_zero, stands_next, stands_at, target_below, frame, config, site_in_function, insn_site, put_after, kept_temps, site_insn, silent_run, step_end, step_jump, go_zero}

-- what a called function is given
abbrev entry_store : List Content → Temps
entry_store cs = put_all holder_eq (entry_holders (length cs)) cs empty

module _ (rooms : Rooms) (fs gs : List TemporaryCode) (same : (n : ℕ) → SameAt (slice_get fs n) (slice_get gs n)) where
  abbrev first_code : Code Content Temps
  first_code = temp_code fs

  abbrev other_code : Code Content Temps
  other_code = temp_code gs

  -- two calls that go on alike
  pub data SameFrame : Frame Temps → Frame Temps → Type 0 where
    Inside : (n own : ℕ) (rs : Temps) (f g : TemporaryCode) (b at c to : ℕ) → slice_get fs n ≡ Some f → slice_get gs n ≡ Some g → Valid f.blocks → AreWithin f.blocks → AreWithin g.blocks → Stands f.blocks g.blocks b at c to → SameFrame (frame n own rs b at) (frame n own rs c to)
    Missing : (n own : ℕ) (rs : Temps) → slice_get fs n ≡ None → slice_get gs n ≡ None → SameFrame (frame n own rs 0 0) (frame n own rs 0 0)

  -- calls that wait at an instruction, and go on alike behind it
  pub data SameCallers : List (Frame Temps) → List (Frame Temps) → Type 0 where
    NoCaller : SameCallers [] []
    Caller : {us ws : List (Frame Temps)} (n own : ℕ) (rs : Temps) (f g : TemporaryCode) (b at c to : ℕ) (i : TempInsn) → slice_get fs n ≡ Some f → slice_get gs n ≡ Some g → Valid f.blocks → AreWithin f.blocks → AreWithin g.blocks → site_in_function b at (slice_get fs n) ≡ Some (insn_site f i) → site_in_function c to (slice_get gs n) ≡ Some (insn_site g i) → Stands f.blocks g.blocks b (suc at) c (suc to) → SameCallers us ws → SameCallers (frame n own rs b at ∷ us) (frame n own rs c to ∷ ws)

  pub data SameConfig : Config Temps → Config Temps → Type 0 where
    Same : (a b : Frame Temps) (us ws : List (Frame Temps)) (w : World) → SameFrame a b → SameCallers us ws → SameConfig (record { here = a; callers = us; world = w }) (record { here = b; callers = ws; world = w })

  pub data SameNext : Next Temps → Next Temps → Type 0 where
    BothGo : (k l : Config Temps) → SameConfig k l → SameNext (Goes k) (Goes l)
    BothEnd : (e o : Ending) → SameEnding e o → SameNext (Over e) (Over o)

  entry_by : (n own : ℕ) (rs : Temps) (o p : Option TemporaryCode) → slice_get fs n ≡ o → slice_get gs n ≡ p → SameAt o p → SameFrame (frame n own rs 0 0) (frame n own rs 0 0)
  entry_by n own rs None None is there alike = Missing n own rs is there
  entry_by n own rs None (Some g) is there alike = absurd alike
  entry_by n own rs (Some f) None is there alike = absurd alike
  entry_by n own rs (Some f) (Some g) is there alike =
      let valid : Valid f.blocks = alike.valid in
      Inside n own rs f g 0 0 0 0 is there valid alike.before alike.after
      (stands_at f.blocks g.blocks valid 0 0 0 (none_stop targets_of flows_on_of f.blocks valid.ends) (left_zero g.blocks 0) alike.walks)

  entry_same : (n own : ℕ) (rs : Temps) → SameFrame (frame n own rs 0 0) (frame n own rs 0 0)
  entry_same n own rs = entry_by n own rs (slice_get fs n) (slice_get gs n) refl refl (same n)

  locals_by : (o p : Option TemporaryCode) → SameAt o p → sizes_in o ≡ sizes_in p
  locals_by None None alike = refl
  locals_by None (Some g) alike = absurd alike
  locals_by (Some f) None alike = absurd alike
  locals_by (Some f) (Some g) alike = alike.sizes

  locals_same : (n : ℕ) → sizes_in (slice_get fs n) ≡ sizes_in (slice_get gs n)
  locals_same n = locals_by (slice_get fs n) (slice_get gs n) (same n)

  status_same : (at to : ℕ) (w : World) (o : Option ℕ) → SameNext (Over (status_ending Content Temps rooms first_code at w o)) (Over (status_ending Content Temps rooms other_code to w o))
  status_same at to w None = BothEnd (Undefined w at) (Undefined w to) (to, refl)
  status_same at to w (Some status) = BothEnd (Done w status) (Done w status) refl

  return_same : (at to : ℕ) (vs : List Content) (w : World) (us ws : List (Frame Temps)) → SameCallers us ws → SameNext (return_to Content Temps rooms first_code at vs w us) (return_to Content Temps rooms other_code to vs w ws)
  return_same at to vs w _ _ NoCaller = status_same at to w (result_status vs)
  return_same at to vs w _ _ (Caller {us = us} {ws = ws} n own rs f g b p c q i is there valid before after here site stands waiting) =
      subst (λ o. SameNext (resume Content Temps rooms first_code (frame n own rs b p) us w vs o) (resume Content Temps rooms other_code (frame n own rs c q) ws w vs (site_in_function c q (slice_get gs n)))) (sym here)
      (subst (λ o. SameNext (resume Content Temps rooms first_code (frame n own rs b p) us w vs (Some (insn_site f i))) (resume Content Temps rooms other_code (frame n own rs c q) ws w vs o)) (sym site)
      (BothGo _ _ (Same _ _ us ws w (Inside n own (put_after i vs rs) f g b (suc p) c (suc q) is there valid before after stands) waiting)))

  stop_same : (e : Stop) (at to : ℕ) (w : World) → SameNext (Over (stop_ending e at w)) (Over (stop_ending e to w))
  stop_same (Exits status) at to w = BothEnd (Done w status) (Done w status) refl
  stop_same (Traps code) at to w = BothEnd (Trap w code) (Trap w code) refl
  stop_same HasNoMeaning at to w = BothEnd (Undefined w at) (Undefined w to) (to, refl)

  module _ (n own : ℕ) (rs : Temps) (f g : TemporaryCode) (b at c to : ℕ) (us ws : List (Frame Temps)) (w : World) (is : slice_get fs n ≡ Some f) (there : slice_get gs n ≡ Some g) (valid : Valid f.blocks) (before : AreWithin f.blocks) (after : AreWithin g.blocks) (waiting : SameCallers us ws) where
    abbrev k : Config Temps
    k = config n own rs b at us w

    abbrev l : Config Temps
    l = config n own rs c to ws w

    -- an instruction without targets
    act_same : (i : TempInsn) (m : Meter) (a : Act Content) → targets_of i ≡ [] → site_in_function b at (slice_get fs n) ≡ Some (insn_site f i) → site_in_function c to (slice_get gs n) ≡ Some (insn_site g i) → ((vs : List Content) (o : Outer) → a ≡ Writes vs o → flows_on_of i ≡ true) → ((function : ℕ) (vs : List Content) (o : Outer) → a ≡ Calls function vs o → flows_on_of i ≡ true) → (flows_on_of i ≡ true → Stands f.blocks g.blocks b (suc at) c (suc to)) → SameNext (act_on Content Temps rooms first_code k m (insn_site f i) a) (act_on Content Temps rooms other_code l m (insn_site g i) a)
    act_same i m (Writes vs o) none here site writes calls next =
        BothGo _ _ (Same _ _ us ws (whole_world o m) (Inside n own (put_after i vs rs) f g b (suc at) c (suc to) is there valid before after (next (writes vs o refl))) waiting)
    act_same i m (Jumps target o) none here site writes calls next =
        subst (λ ts. SameNext (jump_to Content Temps rooms first_code k (whole_world o m) (insn_site f i) (slice_get ts target)) (jump_to Content Temps rooms other_code l (whole_world o m) (insn_site g i) (slice_get ts target))) (sym none)
        (BothEnd _ _ (_, refl))
    act_same i m (Calls function vs o) none here site writes calls next =
        subst (λ sizes. SameNext (act_on Content Temps rooms first_code k m (insn_site f i) (Calls function vs o)) (Goes (record { here = frame function (length o.memory) (entry_store vs) 0 0; callers = l.here ∷ ws; world = whole_world (begin_locals o sizes) (enter_call rooms function m) }))) (locals_same function)
        (BothGo _ _ (Same _ _ (k.here ∷ us) (l.here ∷ ws) _ (entry_same function (length o.memory) (entry_store vs)) (Caller n own rs f g b at c to i is there valid before after here site (next (calls function vs o refl)) waiting)))
    act_same i m (Returns vs o) none here site writes calls next =
        subst (λ sizes. SameNext (act_on Content Temps rooms first_code k m (insn_site f i) (Returns vs o)) (return_to Content Temps rooms other_code (other_code.number l.here.point) vs (whole_world (end_locals o own (length sizes)) (leave_call rooms n m)) ws)) (locals_same n)
        (return_same (first_code.number k.here.point) (other_code.number l.here.point) vs (whole_world (end_locals o own (length (sizes_in (slice_get fs n)))) (leave_call rooms n m)) us ws waiting)
    act_same i m (Stops e o) none here site writes calls next = stop_same e (first_code.number k.here.point) (other_code.number l.here.point) (whole_world o m)

    plain_with : (i : TempInsn) (turn : Option Meter) → WritesWithin (widest_call f.blocks) i → WritesWithin (widest_call g.blocks) i → targets_of i ≡ [] → site_in_function b at (slice_get fs n) ≡ Some (insn_site f i) → site_in_function c to (slice_get gs n) ≡ Some (insn_site g i) → (flows_on_of i ≡ true → Stands f.blocks g.blocks b (suc at) c (suc to)) → SameNext (step_with Content Temps rooms first_code k (insn_site f i) turn) (step_with Content Temps rooms other_code l (insn_site g i) turn)
    plain_with i None first other none here site next = BothEnd (More w) (More w) refl
    plain_with i (Some m) first other none here site next =
        let cs : List Content = map rs (holders_read i) in
        let wf : ℕ = widest_call f.blocks in
        subst (λ a. SameNext (act_on Content Temps rooms first_code k m (insn_site f i) (does wf i own cs w.outer)) (act_on Content Temps rooms other_code l m (insn_site g i) a)) (does_same wf (widest_call g.blocks) i own cs w.outer first other)
        (act_same i m (does wf i own cs w.outer) none here site
        (λ vs o act. writes_flow wf i own cs vs w.outer o act)
        (λ function vs o act. calls_flow wf i own function cs vs w.outer o act)
        next)

    plain_step : (i : TempInsn) → WritesWithin (widest_call f.blocks) i → WritesWithin (widest_call g.blocks) i → targets_of i ≡ [] → site_in_function b at (slice_get fs n) ≡ Some (insn_site f i) → site_in_function c to (slice_get gs n) ≡ Some (insn_site g i) → (flows_on_of i ≡ true → Stands f.blocks g.blocks b (suc at) c (suc to)) → SameNext (step Content Temps rooms first_code k) (step Content Temps rooms other_code l)
    plain_step i first other none here site next =
        subst (λ o. SameNext (step_at Content Temps rooms first_code k o) (step Content Temps rooms other_code l)) (sym here)
        (subst (λ o. SameNext (step_at Content Temps rooms first_code k (Some (insn_site f i))) (step_at Content Temps rooms other_code l o)) (sym site)
        (plain_with i (turn_if (takes_turn i) w.meter) first other none here site next))

    -- a branch
    both_kept : (x y : TempInsn) (t u p q : ℕ) → calls_function x ≡ false → calls_function y ≡ false → SameNext (Goes (config n own rs t p us w)) (Goes (config n own rs u q ws w)) → SameNext (Goes (config n own (without (is_emptied x) rs) t p us w)) (Goes (config n own (without (is_emptied y) rs) u q ws w))
    both_kept x y t u p q calm still h =
        subst (λ z. SameNext (Goes (config n own z t p us w)) (Goes (config n own (without (is_emptied y) rs) u q ws w))) (sym (kept_temps x rs calm))
        (subst (λ z. SameNext (Goes (config n own rs t p us w)) (Goes (config n own z u q ws w))) (sym (kept_temps y rs still)) h)

    branch_same : (op : TempBranchOp) (s t u : ℕ) (test : Option Bool) → Stands f.blocks g.blocks b (suc at) c (suc to) → Stands f.blocks g.blocks t 0 u 0 → SameNext (act_on Content Temps rooms first_code k w.meter (insn_site f (Branch op s t)) (branches test w.outer)) (act_on Content Temps rooms other_code l w.meter (insn_site g (Branch op s u)) (branches test w.outer))
    branch_same op s t u None next goes = stop_same HasNoMeaning (first_code.number k.here.point) (other_code.number l.here.point) (whole_world w.outer w.meter)
    branch_same op s t u (Some true) next goes = both_kept (Branch op s t) (Branch op s u) t u 0 0 refl refl (BothGo _ _ (Same _ _ us ws w (Inside n own rs f g t 0 u 0 is there valid before after goes) waiting))
    branch_same op s t u (Some false) next goes = both_kept (Branch op s t) (Branch op s u) b c (suc at) (suc to) refl refl (BothGo _ _ (Same _ _ us ws w (Inside n own rs f g b (suc at) c (suc to) is there valid before after next) waiting))

    branch_step : (op : TempBranchOp) (s t u : ℕ) → site_in_function b at (slice_get fs n) ≡ Some (insn_site f (Branch op s t)) → site_in_function c to (slice_get gs n) ≡ Some (insn_site g (Branch op s u)) → Stands f.blocks g.blocks b (suc at) c (suc to) → Stands f.blocks g.blocks t 0 u 0 → SameNext (step Content Temps rooms first_code k) (step Content Temps rooms other_code l)
    branch_step op s t u here site next goes =
        subst (λ o. SameNext (step_at Content Temps rooms first_code k o) (step Content Temps rooms other_code l)) (sym here)
        (subst (λ o. SameNext (step_at Content Temps rooms first_code k (Some (insn_site f (Branch op s t)))) (step_at Content Temps rooms other_code l o)) (sym site)
        (branch_same op s t u (branch_test op w.outer.memory (content_at (map rs (holders_read (Branch op s t))) 0)) next goes))

  -- where the other run is after some steps, when the first did one
  record After (x : Next Temps) (l : Config Temps) : Type 0 where
    steps : ℕ
    next : Next Temps
    runs : exec Content Temps rooms other_code steps l ≡ next
    alike : SameNext x next

  module _ (n own : ℕ) (rs : Temps) (f g : TemporaryCode) (b at c to : ℕ) (us ws : List (Frame Temps)) (w : World) (is : slice_get fs n ≡ Some f) (there : slice_get gs n ≡ Some g) (valid : Valid f.blocks) (before : AreWithin f.blocks) (after : AreWithin g.blocks) (stands : Stands f.blocks g.blocks b at c to) (waiting : SameCallers us ws) where
    -- the same instruction stands at both
    pair_step : (d place : ℕ) (i j : TempInsn) (rest ks : List TempInsn) → Pair i j → drop at (block_at f.blocks b) ≡ i ∷ rest → drop place (block_at g.blocks d) ≡ j ∷ ks → d < length g.blocks → Silent g.blocks c (drop to (block_at g.blocks c)) d (j ∷ ks) → Alike f.blocks g.blocks b (i ∷ rest) c (drop to (block_at g.blocks c)) → SameNext (step Content Temps rooms first_code (config n own rs b at us w)) (step Content Temps rooms other_code (config n own rs d place ws w))
    pair_step d place _ _ rest ks (SameInsn i none) here left inside silent alike =
        plain_step n own rs f g b at d place us ws w is there valid before after waiting i
        (within_at (WritesWithin (widest_call f.blocks)) f.blocks b at i rest before stands.inside here)
        (within_at (WritesWithin (widest_call g.blocks)) g.blocks d place i ks after inside left) none
        (site_insn fs n b at f i rest is stands.inside here)
        (site_insn gs n d place g i ks there inside left)
        (λ flows. stands_next f.blocks g.blocks valid b at d place i i rest ks stands.inside flows flows here left
        (after_same f.blocks g.blocks b c d i rest (drop to (block_at g.blocks c)) ks none flows silent alike))
    pair_step d place _ _ rest ks (TwoBranches op s t u) here left inside silent alike =
        branch_step n own rs f g b at d place us ws w is there valid before after waiting op s t u
        (site_insn fs n b at f (Branch op s t) rest is stands.inside here)
        (site_insn gs n d place g (Branch op s u) ks there inside left)
        (stands_next f.blocks g.blocks valid b at d place (Branch op s t) (Branch op s u) rest ks stands.inside refl refl here left
        (after_passed f.blocks g.blocks b c d op s t u rest (drop to (block_at g.blocks c)) ks silent alike))
        (stands_at f.blocks g.blocks valid t u 0 (target_below f.blocks valid b at t (Branch op s t) rest stands.inside here refl) (left_zero g.blocks u)
        (after_taken f.blocks g.blocks b c d op s t u rest (drop to (block_at g.blocks c)) ks silent alike))

    loud_step : (i : TempInsn) (rest : List TempInsn) → Loud i → drop at (block_at f.blocks b) ≡ i ∷ rest → After (step Content Temps rooms first_code (config n own rs b at us w)) (config n own rs c to ws w)
    loud_step i rest loud here =
        let alike : Alike f.blocks g.blocks b (i ∷ rest) c (drop to (block_at g.blocks c)) = subst (λ xs. Alike f.blocks g.blocks b xs c (drop to (block_at g.blocks c))) here stands.alike in
        let found = meets f.blocks g.blocks b c i rest (drop to (block_at g.blocks c)) loud alike in
        let came = silent_run rooms gs n own rs ws w g there found.insn found.rest to stands.other_left found.silent refl refl in
        let l : Config Temps = config n own rs c to ws w in
        let m : Config Temps = config n own rs found.block came.place ws w in
        record {
          steps = came.steps + 1;
          next = step Content Temps rooms other_code m;
          runs =
              steps_add_up Content Temps rooms other_code came.steps 1 l
              ∙ ap (λ x. go_on x (exec Content Temps rooms other_code 1)) came.runs
              ∙ go_zero rooms gs (step Content Temps rooms other_code m);
          alike = pair_step found.block came.place i found.insn rest found.rest (pair_of i found.insn (sym found.same) loud found.loud) here came.left came.inside found.silent alike;
        }

    sort_step : (i : TempInsn) (rest : List TempInsn) → Sort i → drop at (block_at f.blocks b) ≡ i ∷ rest → After (step Content Temps rooms first_code (config n own rs b at us w)) (config n own rs c to ws w)
    sort_step _ rest (IsJump t) here =
        record {
          steps = 0;
          next = Goes (config n own rs c to ws w);
          runs = refl;
          alike = subst (λ x. SameNext x (Goes (config n own rs c to ws w))) (sym (step_jump rooms fs n own rs b at us w f (Jump t) t rest is stands.inside here refl))
              (BothGo _ _ (Same _ _ us ws w (Inside n own rs f g t 0 c to is there valid before after
              (stands_at f.blocks g.blocks valid t c to (target_below f.blocks valid b at t (Jump t) rest stands.inside here refl) stands.other_left
              (after_jump f.blocks g.blocks b c t rest (drop to (block_at g.blocks c)) (subst (λ xs. Alike f.blocks g.blocks b xs c (drop to (block_at g.blocks c))) here stands.alike)))) waiting));
        }
    sort_step _ rest (IsBranch op s t) here = loud_step (Branch op s t) rest (λ stop. let clash : ⊥ = cc in absurd clash) here
    sort_step i rest (IsPlain _ none stays) here = loud_step i rest (λ stop. none) here

    rest_step : (xs : List TempInsn) → drop at (block_at f.blocks b) ≡ xs → After (step Content Temps rooms first_code (config n own rs b at us w)) (config n own rs c to ws w)
    rest_step [] here =
        record {
          steps = 0;
          next = Goes (config n own rs c to ws w);
          runs = refl;
          alike = subst (λ x. SameNext x (Goes (config n own rs c to ws w))) (sym (step_end rooms fs n own rs b at us w f is stands.inside here stands.first_left))
              (BothGo _ _ (Same _ _ us ws w (Inside n own rs f g (suc b) 0 c to is there valid before after
              (stands_at f.blocks g.blocks valid (suc b) c to (stands.more here) stands.other_left
              (after_fall f.blocks g.blocks b c (drop to (block_at g.blocks c)) (subst (λ xs. Alike f.blocks g.blocks b xs c (drop to (block_at g.blocks c))) here stands.alike)))) waiting));
        }
    rest_step (i ∷ rest) here = sort_step i rest (sort i) here

  missing_step : (n own : ℕ) (rs : Temps) (us ws : List (Frame Temps)) (w : World) → slice_get fs n ≡ None → slice_get gs n ≡ None → After (step Content Temps rooms first_code (config n own rs 0 0 us w)) (config n own rs 0 0 ws w)
  missing_step n own rs us ws w is there =
      let k : Config Temps = config n own rs 0 0 us w in
      let l : Config Temps = config n own rs 0 0 ws w in
      record {
        steps = 1;
        next = Over (Undefined w (other_code.number l.here.point));
        runs = go_zero rooms gs (step Content Temps rooms other_code l) ∙ ap (λ o. step_at Content Temps rooms other_code l (site_in_function 0 0 o)) there;
        alike = subst (λ o. SameNext (step_at Content Temps rooms first_code k (site_in_function 0 0 o)) (Over (Undefined w (other_code.number l.here.point)))) (sym is)
            (BothEnd (Undefined w (first_code.number k.here.point)) (Undefined w (other_code.number l.here.point)) (other_code.number l.here.point, refl));
      }

  frame_step : (a b : Frame Temps) (us ws : List (Frame Temps)) (w : World) → SameFrame a b → SameCallers us ws → After (step Content Temps rooms first_code (record { here = a; callers = us; world = w })) (record { here = b; callers = ws; world = w })
  frame_step _ _ us ws w (Inside n own rs f g b at c to is there valid before after stands) waiting = rest_step n own rs f g b at c to us ws w is there valid before after stands waiting (drop at (block_at f.blocks b)) refl
  frame_step _ _ us ws w (Missing n own rs is there) waiting = missing_step n own rs us ws w is there

  one_step : (k l : Config Temps) → SameConfig k l → After (step Content Temps rooms first_code k) l
  one_step _ _ (Same a b us ws w frames waiting) = frame_step a b us ws w frames waiting

  -- the other run comes to the same ending
  pub record Comes (l : Config Temps) (e : Ending) : Type 0 where
    pub steps : ℕ
    pub ending : Ending
    pub runs : exec Content Temps rooms other_code steps l ≡ Over ending
    pub alike : SameEnding e ending

  ends_are : (e o : Ending) → (let x : Next Temps = Over e in x ≡ Over o) → e ≡ o
  ends_are e o is = cc

  no_ending : (k : Config Temps) (e : Ending) → (let x : Next Temps = Goes k in x ≡ Over e) → ⊥
  no_ending k e is = cc

  go : (n : ℕ) (l : Config Temps) (e : Ending) (x y : Next Temps) (m : ℕ) → ((k l : Config Temps) → SameConfig k l → exec Content Temps rooms first_code n k ≡ Over e → Comes l e) → exec Content Temps rooms other_code m l ≡ y → SameNext x y → go_on x (exec Content Temps rooms first_code n) ≡ Over e → Comes l e
  go n l e _ _ m rest runs (BothGo k next alike) is =
      let comes = rest k next alike is in
      record {
        steps = m + comes.steps;
        ending = comes.ending;
        runs = steps_add_up Content Temps rooms other_code m comes.steps l ∙ ap (λ x. go_on x (exec Content Temps rooms other_code comes.steps)) runs ∙ comes.runs;
        alike = comes.alike;
      }
  go n l e _ _ m rest runs (BothEnd end other alike) is =
      record { steps = m; ending = other; runs = runs; alike = subst (λ x. SameEnding x other) (ends_are end e is) alike }

  pub comes : (n : ℕ) (k l : Config Temps) (e : Ending) → SameConfig k l → exec Content Temps rooms first_code n k ≡ Over e → Comes l e
  comes zero k l e alike is = absurd (no_ending k e is)
  comes (suc n) k l e alike is =
      let after = one_step k l alike in
      go n l e (step Content Temps rooms first_code k) after.next after.steps (λ i j pair ends. comes n i j e pair ends) after.runs after.alike is

  start_same : (main : ℕ) (w : World) → SameConfig (start_config Content Temps rooms first_code main w) (start_config Content Temps rooms other_code main w)
  start_same main w =
      subst (λ sizes. SameConfig (start_config Content Temps rooms first_code main w) (record { here = frame main (length w.outer.memory) (entry_store []) 0 0; callers = []; world = whole_world (begin_locals w.outer sizes) (enter_call rooms main w.meter) })) (locals_same main)
      (Same _ _ [] [] _ (entry_same main (length w.outer.memory) (entry_store [])) NoCaller)

  pub ends_alike : (n main : ℕ) (w : World) (e : Ending) → exec Content Temps rooms first_code n (start_config Content Temps rooms first_code main w) ≡ Over e → Comes (start_config Content Temps rooms other_code main w) e
  ends_alike n main w e is = comes n (start_config Content Temps rooms first_code main w) (start_config Content Temps rooms other_code main w) e (start_same main w) is
