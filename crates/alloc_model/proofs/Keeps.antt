-- A faithful allocation keeps the meaning: the two codes keep step.
use Rattle.std.proofs.Common.{◌≡◌, ℕ, suc, List, [], ◌∷◌, Option, Some, None, Bool, true, false, refl, sym, ap, ◌∙◌, subst, map, length, arith}
use Rattle.std.specs.Prelude.{slice_get, ◌==◌, ◌&&◌, option_map}
use Rattle.std.proofs.lemmas.Bool.{eqb-true}
use Rattle.std.proofs.lemmas.Option.{slice_get-map, slice_get_within}
use Rattle.mem_model.specs.World.{World, Rooms}
use Rattle.mem_model.specs.Ending.{Ending}
use Rattle.machine_model.specs.Code.{Site, Point}
use Rattle.machine_model.specs.Machine.{Next, Goes, Over, start_config}
use Rattle.machine_model.proofs.Simulation.{SameSites, SameNext, KeepStep, runs, runs_end}
use Rattle.pass_core.specs.Functions.{insn_at, insn_in}
use Rattle.temp_ir.specs.declared.insn.TempInsn.{TempInsn}
use Rattle.alloc_model.specs.Contents.{Content}
use Rattle.alloc_model.specs.Stores.{without, put_all}
use Rattle.alloc_model.specs.Effect.{Holder, Temp, Fixed, Incoming, Outgoing, holder_eq, entry_holders, holders_read, holders_written, is_emptied, widest_call}
use Rattle.alloc_model.specs.Temporaries.{Temps, blocks_in, temp_site, temp_site_at, temp_code, temp_run, next_if, is_left_at, site_or_next, site_in, flows_out, main_of, start_world}
use Rattle.alloc_model.specs.Places.{Place, place_eq, home_of, places_read_at, places_written_at, ends_place, Places, do_all, Plan, plan_of, functions_of, transfers_at, registers_at, edge_transfers, edge_in, placed_site, placed_site_in, placed_code, placed_run}
use Rattle.alloc_model.specs.Faithful.{HolderPlaces, move_all, end_all, behind_insn, at_start, at_entry, held_before, KeepsEdge, Faithful}
use Rattle.alloc_model.specs.Laws.{AllFaithful, AllocationKeepsRuns, AllocationKeeps}
use Rattle.alloc_model.proofs.Replay.{IsNamed, Holds, SameArguments, writes_hold, writes_keep, ends_hold, ends_keep, moves_hold, moves_keep, included_holds, reads_same, written_parallel, entry_homes}

-- what stands where in a function that may not be there
abbrev pub held_in : Option Plan → (block at : ℕ) → HolderPlaces
held_in None block at = λ n p. ⊥
held_in (Some a) block at = held_before a block at

-- the contents of the two agree at a point
pub record Agree (h : HolderPlaces) (s : Temps) (t : Places) : Type 0 where
  pub holds : Holds h s t
  pub arguments : SameArguments s t

module _ (a : Plan) (ok : Faithful a) (block : ℕ) where
  -- behind an instruction
  behind : (at : ℕ) (x : TempInsn) → insn_at a.function.blocks block at ≡ Some x → (s : Temps) (t : Places) (cs : List Content) → Agree (held_before a block at) s t → Agree (held_before a block (suc at)) (put_all holder_eq (holders_written x) cs (without (is_emptied x) s)) (put_all place_eq (places_written_at (registers_at a block at) x) cs (without (ends_place x) (do_all (transfers_at a block at) t)))
  behind at x is s t cs r =
      let xs = transfers_at a block at in
      let rs = registers_at a block at in
      let para = written_parallel x rs (ok.lists.stated block at x is) in
      let moved = moves_hold xs (held_before a block at) s t (ok.moves block at x is) r.holds in
      let written = writes_hold (holders_written x) (places_written_at rs x) cs (end_all (ends_place x) (move_all xs (held_before a block at))) (without (is_emptied x) s) (without (ends_place x) (do_all xs t)) para (ends_hold x (move_all xs (held_before a block at)) s (do_all xs t) moved) in
      record {
        holds = subst (λ o. Holds (behind_insn xs rs o (held_before a block at)) (put_all holder_eq (holders_written x) cs (without (is_emptied x) s)) (put_all place_eq (places_written_at rs x) cs (without (ends_place x) (do_all xs t)))) (sym is) written;
        arguments = writes_keep (holders_written x) (places_written_at rs x) cs (without (is_emptied x) s) (without (ends_place x) (do_all xs t)) para (ends_keep x s (do_all xs t) (moves_keep xs s t r.arguments));
      }

  -- behind the end of a block nothing changes
  behind_end : (at : ℕ) → insn_at a.function.blocks block at ≡ None → (s : Temps) (t : Places) → Agree (held_before a block at) s t → Agree (held_before a block (suc at)) s t
  behind_end at is s t r = record {
    holds = subst (λ o. Holds (behind_insn (transfers_at a block at) (registers_at a block at) o (held_before a block at)) s t) (sym is) r.holds;
    arguments = r.arguments;
  }

  -- what an instruction reads
  reads : (at : ℕ) (x : TempInsn) → insn_at a.function.blocks block at ≡ Some x → (s : Temps) (t : Places) → Agree (held_before a block at) s t → map s (holders_read x) ≡ map (do_all (transfers_at a block at) t) (places_read_at (registers_at a block at) x)
  reads at x is s t r =
      let xs = transfers_at a block at in
      reads_same x (registers_at a block at) (move_all xs (held_before a block at)) s (do_all xs t) (ok.temps_read block at x is) (ok.fixed_read block at x is)
      (moves_hold xs (held_before a block at) s t (ok.moves block at x is) r.holds) (moves_keep xs s t r.arguments)

  -- over an edge, to the top of its target
  crosses : (to : ℕ) (h : HolderPlaces) → KeepsEdge a block to h → (s : Temps) (t : Places) → Agree h s t → Agree (at_start a to) s (do_all (edge_transfers a block to) t)
  crosses to h keeps s t r = record {
    holds = included_holds (move_all (edge_transfers a block to) h) (at_start a to) s (do_all (edge_transfers a block to) t) keeps.leads
        (moves_hold (edge_transfers a block to) h s t keeps.moves r.holds);
    arguments = moves_keep (edge_transfers a block to) s t r.arguments;
  }

and_left : (a b : Bool) → (a && b) ≡ true → a ≡ true
and_left true b e = refl
and_left false b e = absurd (cc)

and_right : (a b : Bool) → (a && b) ≡ true → b ≡ true
and_right true b e = e
and_right false b e = absurd (cc)

only_one : (b k t : ℕ) → slice_get (b ∷ []) k ≡ Some t → b ≡ t
only_one b k t is =
    let within = slice_get_within (b ∷ []) k t is in
    let first : k ≡ 0 = omega arith in
    let read = rw first at is in
    cc

-- the entry of a function
entry_holds : (a : Plan) (s : Temps) (t : Places) → ((m : Holder) → t (home_of m) ≡ s m) → Holds (at_entry a) s t
entry_holds a s t h = record { each = each }
  where
    each : (n : Holder) (p : Place) → IsNamed n → at_entry a n p → t p ≡ s n
    each (Temp k) p named e = ap t e ∙ h (Temp k)
    each (Fixed r) p named e = ap t e.1 ∙ h (Fixed r)
    each (Incoming k) p named e = absurd named
    each (Outgoing k) p named e = absurd named

entry_agrees : (o : Option Plan) (s : Temps) (t : Places) → ((m : Holder) → t (home_of m) ≡ s m) → Agree (held_in o 0 0) s t
entry_agrees None s t h = record {
  holds = record { each = λ n p named e. absurd e };
  arguments = record { incoming = λ k. h (Incoming k); outgoing = λ k. h (Outgoing k) };
}
entry_agrees (Some a) s t h = record {
  holds = entry_holds a s t h;
  arguments = record { incoming = λ k. h (Incoming k); outgoing = λ k. h (Outgoing k) };
}

module _ (rooms : Rooms) (plans : List Plan) (all : AllFaithful plans) where
  abbrev RelatedPlaces : Point → Temps → Places → Type 0
  RelatedPlaces p s t = Agree (held_in (slice_get plans p.function) p.block p.at) s t

  abbrev Sites : Point → Option (Site Content Temps) → Option (Site Content Places) → Type 0
  Sites p x y = SameSites Content Temps Places rooms (temp_code (functions_of plans)) (placed_code plans) RelatedPlaces p x y

  module _ (p : Point) (a : Plan) (is : slice_get plans p.function ≡ Some a) where
    ok : Faithful a
    ok = all.each p.function a is

    opens : (s : Temps) (t : Places) → RelatedPlaces p s t → Agree (held_before a p.block p.at) s t
    opens s t r = subst (λ o. Agree (held_in o p.block p.at) s t) is r

    -- what agrees in a block of this function is related at its points
    closes : (block at : ℕ) (s : Temps) (t : Places) → Agree (held_before a block at) s t → Agree (held_in (slice_get plans p.function) block at) s t
    closes block at s t r = subst (λ o. Agree (held_in o block at) s t) (sym is) r

    crossed : (to : ℕ) (h : HolderPlaces) → KeepsEdge a p.block to h → (s : Temps) (t : Places) → Agree h s t → Agree (held_in (slice_get plans p.function) to 0) s (do_all (edge_in (slice_get plans p.function) p.block to) t)
    crossed to h keeps s t r = subst (λ o. Agree (held_in o to 0) s (do_all (edge_in o p.block to) t)) (sym is) (crosses a ok p.block to h keeps s t r)

    insn_same : (x : TempInsn) → insn_at a.function.blocks p.block p.at ≡ Some x → Sites p (Some (temp_site (widest_call a.function.blocks) x)) (Some (placed_site (widest_call a.function.blocks) (transfers_at a p.block p.at) (registers_at a p.block p.at) x))
    insn_same x there = record {
      does = λ own cs o. refl;
      turn = refl;
      targets = refl;
      fetch = λ s t r. reads a ok p.block p.at x there s t (opens s t r);
      put = λ s t cs r. closes p.block (suc p.at) _ _ (behind a ok p.block p.at x there s t cs (opens s t r));
      edge = λ s t k to target r. crossed to (held_before a p.block (suc p.at)) (ok.jumps p.block p.at x there k to target) _ _ (behind a ok p.block p.at x there s t [] (opens s t r));
    }

    next_same : (insns : List TempInsn) → slice_get a.function.blocks p.block ≡ Some insns → insn_at a.function.blocks p.block p.at ≡ None → (left : Bool) → is_left_at insns p.at ≡ left → Sites p (next_if p.block left) (next_if p.block left)
    next_same insns there none false e = tt
    next_same insns there none true e =
        let at_end : p.at ≡ length insns = eqb-true p.at (length insns) (and_right (flows_out insns) (p.at == length insns) e) in
        let keeps : KeepsEdge a p.block (suc p.block) (held_before a p.block p.at) = subst (λ n. KeepsEdge a p.block (suc p.block) (held_before a p.block n)) (sym at_end) (ok.follows p.block insns there (and_left (flows_out insns) (p.at == length insns) e)) in
        record {
          does = λ own cs o. refl;
          turn = refl;
          targets = refl;
          fetch = λ s t r. refl;
          put = λ s t cs r. closes p.block (suc p.at) s t (behind_end a ok p.block p.at none s t (opens s t r));
          edge = λ s t k to target r. subst (λ b. Agree (held_in (slice_get plans p.function) b 0) s (do_all (edge_in (slice_get plans p.function) p.block b) t)) (only_one (suc p.block) k to target) (crossed (suc p.block) (held_before a p.block p.at) keeps s t (opens s t r));
        }

    at_same : (insns : List TempInsn) → slice_get a.function.blocks p.block ≡ Some insns → (o : Option TempInsn) → slice_get insns p.at ≡ o → Sites p (site_or_next (temp_site (widest_call a.function.blocks)) p.block (is_left_at insns p.at) o) (site_or_next (placed_site (widest_call a.function.blocks) (transfers_at a p.block p.at) (registers_at a p.block p.at)) p.block (is_left_at insns p.at) o)
    at_same insns there (Some x) e = insn_same x (ap (λ o. insn_in o p.at) there ∙ e)
    at_same insns there None e = next_same insns there (ap (λ o. insn_in o p.at) there ∙ e) (is_left_at insns p.at) refl

    block_same : (o : Option (List TempInsn)) → slice_get a.function.blocks p.block ≡ o → Sites p (site_in (λ at. temp_site (widest_call a.function.blocks)) p.block p.at o) (site_in (λ at. placed_site (widest_call a.function.blocks) (transfers_at a p.block at) (registers_at a p.block at)) p.block p.at o)
    block_same None there = tt
    block_same (Some insns) there = at_same insns there (slice_get insns p.at) refl

  function_same : (p : Point) (o : Option Plan) → slice_get plans p.function ≡ o → Sites p (temp_site_at (blocks_in (option_map (λ (a : Plan). a.function) o)) p) (placed_site_in o p)
  function_same p None is = tt
  function_same p (Some a) is = block_same p a is (slice_get a.function.blocks p.block) refl

  keep_step : KeepStep Content Temps Places rooms (temp_code (functions_of plans)) (placed_code plans) RelatedPlaces
  keep_step = record {
    sites = λ p. subst (λ x. Sites p (temp_site_at (blocks_in x) p) (placed_site_in (slice_get plans p.function) p)) (sym (slice_get-map (λ (a : Plan). a.function) plans p.function))
        (function_same p (slice_get plans p.function) refl);
    number = λ p. refl;
    entry = λ function cs. entry_agrees (slice_get plans function) _ _ (entry_homes (entry_holders (length cs)) cs);
    locals = λ function. refl;
    status = λ cs. refl;
  }

module _ (rooms : Rooms) (plans : List Plan) (all : AllFaithful plans) where
  abbrev Same : Next Temps → Next Places → Type 0
  Same x y = SameNext Content Temps Places rooms (temp_code (functions_of plans)) (placed_code plans) (RelatedPlaces rooms plans all) x y

  -- what the run over places ends with, that over temporaries ends with
  back : (x : Next Temps) (y : Next Places) (e : Ending) → Same x y → y ≡ Over e → x ≡ Over e
  back x (Goes l) e r is = absurd (cc)
  back (Goes k) (Over j) e r is = absurd r
  back (Over h) (Over j) e r is = let same : j ≡ e = cc in ap (λ x. Over x) (r ∙ same)

  same_runs : (main : ℕ) (w : World) (n : ℕ) → Same (temp_run rooms (functions_of plans) main w n) (placed_run rooms plans main w n)
  same_runs main w n =
      runs Content Temps Places rooms (temp_code (functions_of plans)) (placed_code plans) (RelatedPlaces rooms plans all) (keep_step rooms plans all) n
      (start_config Content Temps rooms (temp_code (functions_of plans)) main w) (start_config Content Places rooms (placed_code plans) main w)
      (record { here = (refl, entry_agrees (slice_get plans main) _ _ (entry_homes (entry_holders 0) []), refl); callers = tt; world = refl })

pub runs_kept : AllocationKeepsRuns
runs_kept rooms plans all main w n e = (
  λ is. runs_end Content Temps Places rooms (temp_code (functions_of plans)) (placed_code plans) (RelatedPlaces rooms plans all) (keep_step rooms plans all) n main w e is,
  λ is. back rooms plans all (temp_run rooms (functions_of plans) main w n) (placed_run rooms plans main w n) e (same_runs rooms plans all main w n) is,
)

pub programs_kept : AllocationKeeps
programs_kept rooms program allocations same all input turns e = (
  λ x. record {
    steps = x.steps;
    over = (runs_kept rooms (map plan_of allocations) all (main_of program.functions) (start_world program.globals input turns) x.steps e).0
        (subst (λ fs. temp_run rooms fs (main_of program.functions) (start_world program.globals input turns) x.steps ≡ Over e) same x.over);
  },
  λ x. record {
    steps = x.steps;
    over = subst (λ fs. temp_run rooms fs (main_of program.functions) (start_world program.globals input turns) x.steps ≡ Over e) (sym same)
        ((runs_kept rooms (map plan_of allocations) all (main_of program.functions) (start_world program.globals input turns) x.steps e).1 x.over);
  },
)
