-- A turn of a machine is a run of one step.
use Rattle.std.proofs.Common.{◌≡◌, ℕ, ◌+◌, ◌*◌, ◌^◌, ◌<◌, min, List, [], ◌∷◌, ◌++◌, length, map, drop, true, false, Option, Some, None, option_map, refl, sym, ap, ◌∙◌, subst, arith, append-nil}
use Rattle.std.proofs.lemmas.List.{length-map}
use Rattle.alpha_isa.specs.Words.{insn_of}
use Rattle.alpha_isa.specs.Program.{Program, image_data_size, text_start, data_start, next_part}
use Rattle.alpha_isa.specs.State.{State}
use Rattle.alpha_isa.specs.Step.{MachineNext, Goes, Over, next_instruction, step, exec}
use Rattle.alpha_isa.specs.Step as step
use Rattle.bk_io.specs.Outside.{next_count, count_end, Traffic, count_plus}
use Rattle.alpha_run.specs.declared.ending.Ending.{Ending}
use Rattle.alpha_run.specs.declared.ending.Ending.TheVariants as ending
use Rattle.alpha_run.specs.declared.ending.Halt.{Halt}
use Rattle.alpha_run.specs.declared.processor.Processor.{Processor}
use Rattle.alpha_run.specs.declared.machine.Machine.TheInside.{Inside}
use Rattle.alpha_run.specs.Ending.{halt_is, halt_ending}
use Rattle.alpha_run.specs.Snapshot.{Snapshot, snapshot_state}
use Rattle.alpha_run.specs.Snapshot as snapshot
use Rattle.alpha_run.specs.model.ProcessorState.{processor_state, IsProcessorOf}
use Rattle.alpha_run.specs.Inside.{snapshot_of, InsideIsSound}
use Rattle.alpha_run.specs.model.Turns.{with_taken}
use Rattle.alpha_run.specs.Services.{asks_service}
use Rattle.alpha_run.specs.model.Stop.{stops_early}
use Rattle.alpha_run.specs.Run.{last_step, input_calls, halt_of, StopsAt, snapshot_after, IsRun}
use Rattle.alpha_run.proofs.Runs.{exec_one, exec_none, steps_one-goes, steps_one-over, steps_none, takes_one-no, takes_one-yes, takes_none, ran_from, counted_none, taken_none}

-- a machine that runs a program has its text, and its memory lies where the program's does
pub processor_runs : (p : Program) (m : Inside) (v : Snapshot) → snapshot_of m ≡ v → InsideIsSound m → snapshot.IsMachineOf p v → IsProcessorOf p m.processor
processor_runs p m v is sound r =
    let text : m.processor.text.items ≡ map insn_of p.words = ap (λ u. u.text) is ∙ r.text in
    let size : length m.processor.memory.data.items ≡ image_data_size p = ap (λ u. length u.data_bytes) is ∙ r.size in
    let words : length m.processor.text.items ≡ length p.words = ap length text ∙ length-map p.words insn_of in
    let begins : m.processor.memory.data_start ≡ data_start p = sound.data_start ∙ ap (λ n. next_part (text_start + 4 * n)) words in
    record {
      text = text;
      data_start = begins;
      stack_start = sound.stack_start ∙ ap (λ n. next_part (n + length m.processor.memory.data.items)) begins ∙ ap (λ n. next_part (data_start p + n)) size;
    }

-- an end that was come to in one step
stops_over : (p : Program) (s t : State) (h : step.Halt) → exec p 1 s ≡ Over h t → StopsAt p 1 s (halt_ending h) 1 t
stops_over p s t (step.Done status) e = (refl, e)
stops_over p s t (step.Trap code) e = (refl, e)
stops_over p s t (step.Stuck pc) e = (refl, e)

behaviour_of_halt : (h : step.Halt) → Some h ≡ halt_of (halt_ending h)
behaviour_of_halt (step.Done status) = refl
behaviour_of_halt (step.Trap code) = refl
behaviour_of_halt (step.Stuck pc) = refl

unasked : (h : step.Halt) → input_calls (halt_ending h) 0 ≡ 0
unasked (step.Done status) = refl
unasked (step.Trap code) = refl
unasked (step.Stuck pc) = refl

pub ended_early : (h : step.Halt) → stops_early (halt_ending h) ≡ true
ended_early (step.Done status) = refl
ended_early (step.Trap code) = refl
ended_early (step.Stuck pc) = refl

last_counted : (h : step.Halt) (count : ℕ) → count < 2 ^ 64 → min (count + last_step h) count_end ≡ count_plus (last_step h) count
last_counted (step.Done status) count small = refl
last_counted (step.Trap code) count small = refl
last_counted (step.Stuck pc) count small = omega arith

module _ (p : Program) (x y : List ℕ) (m : Inside) (v : Snapshot) (is : snapshot_of m ≡ v) (running : v.halt ≡ None) where
  -- the machine after a turn
  moved_is : (q : Processor) (input output : List ℕ) (st w : ℕ) (h : Option Halt) (i n : ℕ) (e : Ending) → q.text.items ≡ m.processor.text.items → st ≡ count_plus i m.steps → w ≡ count_plus n m.written → option_map halt_is h ≡ halt_of e → snapshot_of (record { processor = q; steps = st; written = w; halt = h }) ≡ snapshot_after v (processor_state q input output) i n e
  moved_is q input output st w h i n e text steps written halt =
      rw (text, steps, written, halt) (ap (λ u. snapshot_after u (processor_state q input output) i n e) is)

  still : option_map halt_is m.halt ≡ None
  still = ap (λ u. u.halt) is ∙ running

  from_here : (e : Ending) (rest : List ℕ) (new : Snapshot) (told after : Traffic) → IsRun p 1 e (processor_state m.processor x y) rest v new told after → IsRun p 1 e (snapshot_state v x y) rest v new told after
  from_here e rest new told after r = subst (λ u. IsRun p 1 e (snapshot_state u x y) rest v new told after) is r

  pub goes_turn : (q : Processor) (st : ℕ) (told : Traffic) → step p (processor_state m.processor x y) ≡ Goes (processor_state q x y) → asks_service p 3 (processor_state m.processor x y) ≡ false → q.text.items ≡ m.processor.text.items → st ≡ next_count m.steps → IsRun p 1 ending.Budget (snapshot_state v x y) x v (snapshot_of (record { processor = q; steps = st; written = m.written; halt = m.halt })) told told
  goes_turn q st told goes a text steps =
      let s : State = processor_state m.processor x y in
      let t : State = processor_state q x y in
      from_here ending.Budget x _ told told
      (ran_from p 1 ending.Budget s t x v _ told told 1 1 0 [] (refl, exec_one p s (Goes t) goes) (steps_one-goes p s t goes) (takes_one-no p s (Goes t) a goes) (sym (append-nil y)) (moved_is q x y st m.written m.halt 1 0 ending.Budget text steps refl still) refl (counted_none told.made) (taken_none told.taken))

  pub over_turn : (q : Processor) (h : Halt) (e : Ending) (st : ℕ) (told : Traffic) → step p (processor_state m.processor x y) ≡ Over (halt_is h) (processor_state q x y) → asks_service p 3 (processor_state m.processor x y) ≡ false → q.text.items ≡ m.processor.text.items → st ≡ min (m.steps + last_step (halt_is h)) count_end → m.steps < 2 ^ 64 → e ≡ halt_ending (halt_is h) → IsRun p 1 e (snapshot_state v x y) x v (snapshot_of (record { processor = q; steps = st; written = m.written; halt = Some h })) told told
  over_turn q h e st told goes a text steps small is_e =
      let s : State = processor_state m.processor x y in
      let t : State = processor_state q x y in
      let hs : step.Halt = halt_is h in
      from_here e x _ told told
      (subst (λ k. IsRun p 1 k s x v (snapshot_of (record { processor = q; steps = st; written = m.written; halt = Some h })) told told) (sym is_e)
      (ran_from p 1 (halt_ending hs) s t x v _ told told 1 (last_step hs) 0 [] (stops_over p s t hs (exec_one p s (Over hs t) goes)) (steps_one-over p s t hs goes) (takes_one-no p s (Over hs t) a goes) (sym (append-nil y)) (moved_is q x y st m.written (Some h) (last_step hs) 0 (halt_ending hs) text (steps ∙ last_counted hs m.steps small) refl (behaviour_of_halt hs)) refl (counted_none told.made ∙ ap (λ n. option_map (count_plus n) told.made) (sym (unasked hs))) (taken_none told.taken)))

  pub write_fault : (q : Processor) (told after : Traffic) → processor_state q x y ≡ processor_state m.processor x y → asks_service p 2 (processor_state m.processor x y) ≡ true → q.text.items ≡ m.processor.text.items → after.made ≡ told.made → after.taken ≡ told.taken → IsRun p 1 ending.WriteFault (snapshot_state v x y) x v (snapshot_of (record { processor = q; steps = m.steps; written = m.written; halt = m.halt })) told after
  write_fault q told after same a text made taken =
      let s : State = processor_state m.processor x y in
      let t : State = processor_state q x y in
      from_here ending.WriteFault x _ told after
      (ran_from p 1 ending.WriteFault s t x v _ told after 0 0 0 [] (omega arith, exec_none p s ∙ ap Goes (sym same), ap (asks_service p 2) same ∙ a) (steps_none p s) (takes_none p s) (sym (append-nil y)) (moved_is q x y m.steps m.written m.halt 0 0 ending.WriteFault text refl refl still) refl (made ∙ counted_none told.made) (taken ∙ taken_none told.taken))

  pub input_fault : (q : Processor) (told after : Traffic) → processor_state q x y ≡ processor_state m.processor x y → asks_service p 3 (processor_state m.processor x y) ≡ true → q.text.items ≡ m.processor.text.items → after.made ≡ option_map next_count told.made → after.taken ≡ told.taken → IsRun p 1 ending.InputFault (snapshot_state v x y) x v (snapshot_of (record { processor = q; steps = m.steps; written = m.written; halt = m.halt })) told after
  input_fault q told after same a text made taken =
      let s : State = processor_state m.processor x y in
      let t : State = processor_state q x y in
      from_here ending.InputFault x _ told after
      (ran_from p 1 ending.InputFault s t x v _ told after 0 0 0 [] (omega arith, exec_none p s ∙ ap Goes (sym same), ap (asks_service p 3) same ∙ a) (steps_none p s) (takes_none p s) (sym (append-nil y)) (moved_is q x y m.steps m.written m.halt 0 0 ending.InputFault text refl refl still) refl made (taken ∙ taken_none told.taken))

  pub puts_turn : (q a : Processor) (byte st w : ℕ) (told after : Traffic) → step p (processor_state m.processor x y) ≡ next_instruction (processor_state m.processor x (y ++ byte ∷ [])) → asks_service p 3 (processor_state m.processor x y) ≡ false → processor_state q x (y ++ byte ∷ []) ≡ processor_state m.processor x (y ++ byte ∷ []) → Goes (processor_state a x (y ++ byte ∷ [])) ≡ next_instruction (processor_state q x (y ++ byte ∷ [])) → a.text.items ≡ m.processor.text.items → st ≡ next_count m.steps → w ≡ next_count m.written → after.made ≡ told.made → after.taken ≡ option_map (λ bytes. bytes ++ byte ∷ []) told.taken → IsRun p 1 ending.Budget (snapshot_state v x y) x v (snapshot_of (record { processor = a; steps = st; written = w; halt = m.halt })) told after
  puts_turn q a byte st w told after goes no_take same on text steps written made taken =
      let s : State = processor_state m.processor x y in
      let z : List ℕ = y ++ byte ∷ [] in
      let t : State = processor_state a x z in
      let e : step p s ≡ Goes t = goes ∙ ap next_instruction (sym same) ∙ sym on in
      from_here ending.Budget x _ told after
      (ran_from p 1 ending.Budget s t x v _ told after 1 1 0 (byte ∷ []) (refl, exec_one p s (Goes t) e) (steps_one-goes p s t e) (takes_one-no p s (Goes t) no_take e) refl (moved_is a x z st w m.halt 1 1 ending.Budget text steps written still) refl (made ∙ counted_none told.made) taken)

  pub takes_turn : (q a : Processor) (rest : List ℕ) (st : ℕ) (told after : Traffic) → step p (processor_state m.processor x y) ≡ next_instruction (with_taken (processor_state m.processor x y)) → asks_service p 3 (processor_state m.processor x y) ≡ true → processor_state q x y ≡ processor_state m.processor x y → Goes (processor_state a (drop 1 x) y) ≡ next_instruction (with_taken (processor_state q x y)) → a.text.items ≡ m.processor.text.items → st ≡ next_count m.steps → drop 1 x ≡ rest → after.made ≡ option_map next_count told.made → after.taken ≡ told.taken → IsRun p 1 ending.Budget (snapshot_state v x y) rest v (snapshot_of (record { processor = a; steps = st; written = m.written; halt = m.halt })) told after
  takes_turn q a rest st told after goes take same on text steps left made taken =
      let s : State = processor_state m.processor x y in
      let t : State = processor_state a (drop 1 x) y in
      let e : step p s ≡ Goes t = goes ∙ ap (λ u. next_instruction (with_taken u)) (sym same) ∙ sym on in
      from_here ending.Budget rest _ told after
      (ran_from p 1 ending.Budget s t rest v _ told after 1 1 1 [] (refl, exec_one p s (Goes t) e) (steps_one-goes p s t e) (takes_one-yes p s t take e) (sym (append-nil y)) (moved_is a (drop 1 x) y st m.written m.halt 1 0 ending.Budget text steps refl still) left made (taken ∙ taken_none told.taken))
