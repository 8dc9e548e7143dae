-- An image behaves as its program.
use Rattle.std.proofs.Common.{◌≡◌, ℕ, suc, ◌+◌, ◌-◌, ◌*◌, ◌<◌, ◌≤◌, List, [], ◌∷◌, ◌++◌, length, map, refl, sym, ap, ◌∙◌, subst, arith, ⊎_elim}
use Rattle.std.proofs.lemmas.Bool.{cases_lt}
use Rattle.alpha_isa.specs.State.{State}
use Rattle.alpha_isa.specs.Step as step
use Rattle.alpha_isa.specs.Behave as image
use Rattle.alpha_isa.specs.Behave.{behaviour, behave_a}
use Rattle.alpha_isa.proofs.Runs.{exec_split}
use Rattle.mem_model.specs.World.{World}
use Rattle.mem_model.specs.Ending.{Ending, Done, Trap, Undefined, More, ending_peak}
use Rattle.machine_model.specs.Machine.{Config, Goes, Over}
use Rattle.machine_model.specs.Laws.{IsPrefix, KeepsOutput, next_world}
use Rattle.machine_model.proofs.Peaks.{peak_rises}
use Rattle.temp_ir.specs.declared.program.TempProgram.{TempProgram}
use Rattle.alloc_model.specs.declared.allocation.Allocation.{Allocation}
use Rattle.alloc_model.specs.Contents.{Content}
use Rattle.alloc_model.specs.Temporaries.{start_world, main_of, TempsEnd}
use Rattle.alloc_model.specs.Places.{Places, Plan, plan_of, placed_code, placed_run, PlacesEnd}
use Rattle.alloc_model.specs.Laws.{AllFaithful, AllocationKeeps}
use Rattle.mem_model.specs.Bytes.{AreBytes}
use Rattle.image_theorem.specs.flat_starts.Builds.{Build}
use Rattle.image_theorem.specs.flat_starts.Matching.{steps_left, FitsStack}
use Rattle.image_theorem.specs.flat_starts.Runs.{build_run, ComesTo, RunIsDone, longest_of, turns_for, BelongsTo}
use Rattle.image_theorem.proofs.FlatStarts.Machines.{rest-of, over-behind, front-of}
use Rattle.image_theorem.proofs.FlatStarts.Forward.{runs_are_done}
use Rattle.image_theorem.proofs.FlatStarts.Only.{only_these_end}
use Rattle.image_theorem.specs.flat_starts.Starts.{first_config}
use Rattle.image_theorem.proofs.FlatStarts.Starts.{starts_are_matched}
use Rattle.image_theorem.specs.image_runs.Images.{IsImageOf, steps_for, HasBehaviour, AgreesWith, ImageDoes}

-- what belongs to an ending agrees with it
agrees : (x : step.MachineNext) (e : Ending) → BelongsTo x e → AgreesWith (behaviour x) e
agrees (step.Goes t) (Done w status) h = h
agrees (step.Goes t) (Trap w code) h = h
agrees (step.Goes t) (Undefined w at) h = tt
agrees (step.Goes t) (More w) h = h
agrees (step.Over halt last) (Done w status) h = subst (λ z. AgreesWith (image.behaviour_of_halt z last.output) (Done w status)) (sym h.0) (refl, h.1)
agrees (step.Over halt last) (Trap w code) h = subst (λ z. AgreesWith (image.behaviour_of_halt z last.output) (Trap w code)) (sym h.0) (refl, h.1)
agrees (step.Over halt last) (Undefined w at) h = tt
agrees (step.Over halt last) (More w) h = absurd h

-- nothing written is a front of all
nothing-first : (t : State) (e : Ending) → IsPrefix t.output [] → AgreesWith (image.More t.output) e
nothing-first t e h = by_ending e (empty-front t.output h.0 h.1)
  where
    empty-front : (xs more : List ℕ) → [] ≡ xs ++ more → xs ≡ []
    empty-front [] more is = refl
    empty-front (x ∷ xs) more is = absurd (clash x (xs ++ more) is)
      where
        clash : (y : ℕ) (ys : List ℕ) → [] ≡ y ∷ ys → ⊥
        clash y ys f = cc

    front : (l : List ℕ) → t.output ≡ [] → IsPrefix t.output l
    front l none = (l, ap (λ z. z ++ l) (sym none))

    by_ending : (e : Ending) → t.output ≡ [] → AgreesWith (image.More t.output) e
    by_ending (Done w status) none = front w.outer.output none
    by_ending (Trap w code) none = front w.outer.output none
    by_ending (Undefined w at) none = tt
    by_ending (More w) none = front w.outer.output none

module _ (keep : AllocationKeeps) (outputs : (plans : List Plan) → KeepsOutput Content Places (placed_code plans)) (b : Build) (program : TempProgram) (allocations : List Allocation) (stack : ℕ) (h : IsImageOf b program allocations stack) (input : List ℕ) (bytes : AreBytes input) (turns : ℕ) (e : Ending) (temps : TempsEnd b.rooms program input turns e) (peak : ending_peak e ≤ stack) where
  abbrev main : ℕ
  main = main_of program.functions

  abbrev world : World
  world = start_world program.globals input turns

  abbrev first : Config Places
  first = first_config b main world

  abbrev s : State
  s = image.start_state b.program stack input

  all-faithful : AllFaithful (map plan_of allocations)
  all-faithful = subst AllFaithful h.plans (record { each = λ k a is. (h.built.functions k a is).faithful })

  places : PlacesEnd b.rooms program allocations input turns e
  places = (keep b.rooms program allocations h.functions all-faithful input turns e).0 temps

  -- the run of the build
  over : build_run b places.steps first ≡ Over e
  over = subst (λ plans. placed_run b.rooms plans main world places.steps ≡ Over e) (sym h.plans) places.over

  fits-end : FitsStack b (Over e)
  fits-end = let top = h.begun.top in omega (arith, top, peak)

  fits-start : FitsStack b (Goes first)
  fits-start =
      let rises = subst (λ x. first.world.meter.peak ≤ (next_world x).meter.peak) over (peak_rises Content Places b.rooms (placed_code b.plans) places.steps first) in
      let top = h.begun.top in
      omega (arith, rises, top, peak)

  begins : ComesTo b first (2400 * length b.program.words * (turns + 2)) s
  begins = starts_are_matched b main stack program.globals h.built h.begun input turns bytes fits-start

  -- ---- what the program does, the image does

  ended : (o : List ℕ) (halt : step.Halt) (z : ComesTo b first (2400 * length b.program.words * (turns + 2)) s) (steps : ℕ) (last : State) → step.exec b.program steps z.to ≡ step.Over halt last → last.output ≡ o → behave_a b.program stack input (z.comes.steps + steps) ≡ image.behaviour_of_halt halt o
  ended o halt z steps last run output =
      ap behaviour (exec_split b.program z.comes.steps steps s ∙ ap (λ n. step.go_on n (step.exec b.program steps)) z.comes.run ∙ run)
      ∙ ap (image.behaviour_of_halt halt) output

  abbrev left : ComesTo b first (2400 * length b.program.words * (turns + 2)) s → ℕ
  left z = steps_left b first z.matches.waiting z.to

  few : (z : ComesTo b first (2400 * length b.program.words * (turns + 2)) s) (n : ℕ) → 4 * n + 2400 * length b.program.words ≤ left z → z.comes.steps + n ≤ steps_for b.program turns
  few z n soon =
      let start = z.soon in
      let all : 2400 * length b.program.words * (turns + 2) ≡ 2400 * length b.program.words * (turns + 1) + 2400 * length b.program.words = omega arith in
      let four : 2400 * length b.program.words * (turns + 1) ≡ 4 * (600 * length b.program.words * (turns + 1)) = omega arith in
      omega (arith, soon, start, all, four)

  does : (z : ComesTo b first (2400 * length b.program.words * (turns + 2)) s) (e : Ending) → RunIsDone b (left z) z.to (Over e) → HasBehaviour b.program stack input turns e
  does z (Done w status) d = (z.comes.steps + d.steps, ended w.outer.output (step.Done status) z d.steps d.last d.run d.output, few z d.steps d.soon)
  does z (Trap w code) d = (z.comes.steps + d.steps, ended w.outer.output (step.Trap code) z d.steps d.last d.run d.output, few z d.steps d.soon)
  does z (Undefined w at) d = tt
  does z (More w) d = (
    z.comes.steps + d.comes.steps,
    ap behaviour (exec_split b.program z.comes.steps d.comes.steps s ∙ ap (λ n. step.go_on n (step.exec b.program d.comes.steps)) z.comes.run ∙ d.comes.run)
        ∙ ap image.More d.output,
  )

  behaves : HasBehaviour b.program stack input turns e
  behaves =
      let z = begins in
      let d = runs_are_done b h.built places.steps first z.to z.matches (subst (FitsStack b) (sym over) fits-end) in
      does z e (subst (RunIsDone b (left z) z.to) over d)

  -- ---- and nothing else

  fewer : (m j : ℕ) → turns_for b.plans m ≤ turns → turns_for b.plans (m - j) ≤ turns
  fewer m j enough =
      let L = longest_of b.plans in
      less (suc (m - j)) (suc m) (suc (longest_of b.plans)) (omega arith) enough
    where
      spread : (a c d : ℕ) → (a + c) * d ≡ a * d + c * d
      spread a c d = omega arith

      less : (a c d : ℕ) → a ≤ c → c * d ≤ turns → a * d ≤ turns
      less a c d le h =
          let rest : a + (c - a) ≡ c = omega (arith, le) in
          let both = subst (λ n. n * d ≤ turns) (sym rest) h in
          let split = spread a (c - a) d in
          omega (arith, both, split)

  -- before the first instruction of `main` nothing is written
  early : (z : ComesTo b first (2400 * length b.program.words * (turns + 2)) s) (m : ℕ) → m < z.comes.steps → (x : step.MachineNext) → step.exec b.program m s ≡ x → AgreesWith (behaviour x) e
  early z m lt (step.Goes t) is =
      let front = front-of b.program m z.comes.steps s (step.Goes t) (step.Goes z.to) (omega (arith, lt)) is z.comes.run in
      nothing-first t e (subst (IsPrefix t.output) z.matches.outer.output front)
  early z m lt (step.Over halt t) is =
      let after = over-behind b.program z.comes.steps m s z.to t halt is z.comes.run in
      absurd (omega (arith, lt, after))

  late : (z : ComesTo b first (2400 * length b.program.words * (turns + 2)) s) (m : ℕ) → z.comes.steps ≤ m → turns_for b.plans m ≤ turns → AgreesWith (behave_a b.program stack input m) e
  late z m le enough =
      subst (λ x. AgreesWith (behaviour x) e) (sym (rest-of b.program z.comes.steps m s z.to le z.comes.run))
      (agrees (step.exec b.program (m - z.comes.steps) z.to) e
      (only_these_end outputs b h.built places.steps first z.to e z.matches over fits-end (m - z.comes.steps) (fewer m z.comes.steps enough)))

  only : (m : ℕ) → turns_for b.plans m ≤ turns → AgreesWith (behave_a b.program stack input m) e
  only m enough =
      let z = begins in
      ⊎_elim
      (λ lt. early z m lt (step.exec b.program m s) refl)
      (λ le. late z m le enough)
      (cases_lt m z.comes.steps)

  image-does : ImageDoes b stack input turns e
  image-does = record { behaves = behaves; only = only }

pub images_keep : AllocationKeeps → ((plans : List Plan) → KeepsOutput Content Places (placed_code plans)) → (b : Build) (program : TempProgram) (allocations : List Allocation) (stack : ℕ) → IsImageOf b program allocations stack → (input : List ℕ) → AreBytes input → (turns : ℕ) (e : Ending) → TempsEnd b.rooms program input turns e → ending_peak e ≤ stack → ImageDoes b stack input turns e
images_keep keep outputs b program allocations stack h input bytes turns e temps peak = image-does keep outputs b program allocations stack h input bytes turns e temps peak
