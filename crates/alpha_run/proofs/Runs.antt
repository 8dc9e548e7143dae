-- IsMachineOf of the definition, one after the other.
use Rattle.std.proofs.Common.{◌≡◌, ℕ, zero, suc, ◌+◌, ◌-◌, ◌≤◌, List, [], ◌++◌, length, Bool, true, false, cond, Option, Some, None, option_map, refl, sym, ap, ◌∙◌, subst, arith, append_assoc, append-nil, length-append}
use Rattle.alpha_isa.specs.Program.{Program}
use Rattle.alpha_isa.specs.State.{State}
use Rattle.alpha_isa.proofs.Zeros.{size_is}
use Rattle.alpha_isa.specs.Step.{Halt, MachineNext, Goes, Over, step, go_on, exec}
use Rattle.alpha_isa.specs.Step as step
use Rattle.alpha_isa.specs.Behave.{start_state, behaviour}
use Rattle.alpha_isa.specs.Behave as behave
use Rattle.alpha_isa.proofs.Runs.{exec_split}
use Rattle.bk_io.specs.Outside.{next_count, Traffic, count_plus}
use Rattle.alpha_run.specs.declared.ending.Ending.{Ending}
use Rattle.alpha_run.specs.declared.ending.Ending.TheVariants.{Done, Trap, Stuck, Budget, InputFault, WriteFault}
use Rattle.alpha_run.specs.Snapshot.{Snapshot, snapshot_state, first_snapshot, IsMachineOf}
use Rattle.alpha_run.specs.Services.{asks_service}
use Rattle.alpha_run.specs.model.Stop.{stops_early}
use Rattle.alpha_run.specs.model.MachineTurns.{TurnsOn}
use Rattle.alpha_run.specs.Run.{last_step, steps_then, steps_in, takes_then, takes_in, input_calls, StopsAt, snapshot_after, IsRun, RunsOn, ImageGives, MachineBehaves, BehavesOn}

-- ---- one step

pub exec_one : (p : Program) (s : State) (n : MachineNext) → step p s ≡ n → exec p 1 s ≡ n
unfolding exec
exec_one p s (Goes t) e = ap (λ n. go_on n (exec p zero)) e
exec_one p s (Over h t) e = ap (λ n. go_on n (exec p zero)) e

pub steps_one-goes : (p : Program) (s t : State) → step p s ≡ Goes t → steps_in p 1 s ≡ 1
unfolding steps_in
steps_one-goes p s t e = ap (λ n. steps_then n (steps_in p zero)) e

pub steps_one-over : (p : Program) (s t : State) (h : Halt) → step p s ≡ Over h t → steps_in p 1 s ≡ last_step h
unfolding steps_in
steps_one-over p s t h e = ap (λ n. steps_then n (steps_in p zero)) e

takes_one : (p : Program) (s : State) (b : Bool) (n : MachineNext) → asks_service p 3 s ≡ b → step p s ≡ n → takes_in p 1 s ≡ cond b 1 0 + takes_then n (takes_in p zero)
unfolding takes_in
takes_one p s b n a e = ap (λ k. cond k 1 0 + takes_then (step p s) (takes_in p zero)) a ∙ ap (λ k. cond b 1 0 + takes_then k (takes_in p zero)) e

pub takes_one-no : (p : Program) (s : State) (n : MachineNext) → asks_service p 3 s ≡ false → step p s ≡ n → takes_in p 1 s ≡ 0
unfolding takes_in
takes_one-no p s (Goes t) a e = takes_one p s false (Goes t) a e
takes_one-no p s (Over h t) a e = takes_one p s false (Over h t) a e

pub takes_one-yes : (p : Program) (s t : State) → asks_service p 3 s ≡ true → step p s ≡ Goes t → takes_in p 1 s ≡ 1
unfolding takes_in
takes_one-yes p s t a e = takes_one p s true (Goes t) a e

pub exec_none : (p : Program) (s : State) → exec p 0 s ≡ Goes s
unfolding exec
exec_none p s = refl

pub steps_none : (p : Program) (s : State) → steps_in p 0 s ≡ 0
unfolding steps_in
steps_none p s = refl

pub takes_none : (p : Program) (s : State) → takes_in p 0 s ≡ 0
unfolding takes_in
takes_none p s = refl

-- a record of a run by the numbers of its steps
pub ran_from : (p : Program) (n : ℕ) (e : Ending) (s t : State) (rest : List ℕ) (old new : Snapshot) (told after : Traffic) (k steps takes : ℕ) (put : List ℕ) → StopsAt p n s e k t → steps_in p k s ≡ steps → takes_in p k s ≡ takes → t.output ≡ s.output ++ put → new ≡ snapshot_after old t steps (length put) e → t.input ≡ rest → after.made ≡ option_map (count_plus (input_calls e takes)) told.made → after.taken ≡ option_map (λ bytes. bytes ++ put) told.taken → IsRun p n e s rest old new told after
ran_from p n e s t rest old new told after k steps takes put stops i a puts machine left made taken = record {
  tried = k;
  place = t;
  put = put;
  stops = stops;
  puts = puts;
  machine = machine ∙ ap (λ j. snapshot_after old t j (length put) e) (sym i);
  left = left;
  made = made ∙ ap (λ j. option_map (count_plus (input_calls e j)) told.made) (sym a);
  taken = taken;
}

-- ---- one run after another

pub exec_on : (p : Program) (k n : ℕ) (s t : State) → exec p k s ≡ Goes t → exec p (k + n) s ≡ exec p n t
exec_on p k n s t e = exec_split p k n s ∙ ap (λ r. go_on r (exec p n)) e

steps_on_from : (p : Program) (k n : ℕ) (t : State) → ((u : State) → exec p k u ≡ Goes t → steps_in p (k + n) u ≡ steps_in p k u + steps_in p n t) → (r : MachineNext) → go_on r (exec p k) ≡ Goes t → steps_then r (steps_in p (k + n)) ≡ steps_then r (steps_in p k) + steps_in p n t
steps_on_from p k n t ih (Goes u) e = omega (arith, ih u e)
steps_on_from p k n t ih (Over h u) e = cc

pub steps_on : (p : Program) (k n : ℕ) (s t : State) → exec p k s ≡ Goes t → steps_in p (k + n) s ≡ steps_in p k s + steps_in p n t
unfolding exec steps_in
steps_on p zero n s t e =
    let same : s ≡ t = cc in
    let none : 0 + n ≡ n = omega arith in
    ap (λ j. steps_in p j s) none ∙ ap (steps_in p n) same ∙ omega arith
steps_on p (suc k) n s t e =
    let more : suc k + n ≡ suc (k + n) = omega arith in
    ap (λ j. steps_in p j s) more ∙ steps_on_from p k n t (λ u f. steps_on p k n u t f) (step p s) e

takes_on_from : (p : Program) (k n : ℕ) (t : State) → ((u : State) → exec p k u ≡ Goes t → takes_in p (k + n) u ≡ takes_in p k u + takes_in p n t) → (r : MachineNext) → go_on r (exec p k) ≡ Goes t → takes_then r (takes_in p (k + n)) ≡ takes_then r (takes_in p k) + takes_in p n t
takes_on_from p k n t ih (Goes u) e = ih u e
takes_on_from p k n t ih (Over h u) e = cc

pub takes_on : (p : Program) (k n : ℕ) (s t : State) → exec p k s ≡ Goes t → takes_in p (k + n) s ≡ takes_in p k s + takes_in p n t
unfolding exec takes_in
takes_on p zero n s t e =
    let same : s ≡ t = cc in
    let none : 0 + n ≡ n = omega arith in
    ap (λ j. takes_in p j s) none ∙ ap (takes_in p n) same ∙ omega arith
takes_on p (suc k) n s t e =
    let more : suc k + n ≡ suc (k + n) = omega arith in
    let rest : takes_then (step p s) (takes_in p (k + n)) ≡ takes_then (step p s) (takes_in p k) + takes_in p n t = takes_on_from p k n t (λ u f. takes_on p k n u t f) (step p s) e in
    ap (λ j. takes_in p j s) more ∙ omega (arith, rest)

-- a run that is over does no more
over_on_from : (p : Program) (k n : ℕ) (h : Halt) (t : State) → ((u : State) → exec p k u ≡ Over h t → (exec p (k + n) u ≡ Over h t) × (steps_in p (k + n) u ≡ steps_in p k u) × (takes_in p (k + n) u ≡ takes_in p k u)) → (r : MachineNext) → go_on r (exec p k) ≡ Over h t → (go_on r (exec p (k + n)) ≡ Over h t) × (steps_then r (steps_in p (k + n)) ≡ steps_then r (steps_in p k)) × (takes_then r (takes_in p (k + n)) ≡ takes_then r (takes_in p k))
over_on_from p k n h t ih (Goes u) e = let i = ih u e in (i.0, ap suc i.1, i.2)
over_on_from p k n h t ih (Over g u) e = (e, refl, refl)

pub over_on : (p : Program) (k n : ℕ) (s : State) (h : Halt) (t : State) → exec p k s ≡ Over h t → (exec p (k + n) s ≡ Over h t) × (steps_in p (k + n) s ≡ steps_in p k s) × (takes_in p (k + n) s ≡ takes_in p k s)
unfolding exec steps_in takes_in
over_on p zero n s h t e = cc
over_on p (suc k) n s h t e =
    let more : suc k + n ≡ suc (k + n) = omega arith in
    let i = over_on_from p k n h t (λ u f. over_on p k n u h t f) (step p s) e in (
      ap (λ j. exec p j s) more ∙ i.0,
      ap (λ j. steps_in p j s) more ∙ i.1,
      ap (λ j. takes_in p j s) more ∙ ap (λ j. cond (asks_service p 3 s) 1 0 + j) i.2,
    )

-- ---- counts

pub counted_on : (n m c : ℕ) → count_plus n (count_plus m c) ≡ count_plus (m + n) c
counted_on zero m c = let none : m + 0 ≡ m = omega arith in ap (λ j. count_plus j c) (sym none)
counted_on (suc n) m c =
    let more : m + suc n ≡ suc (m + n) = omega arith in
    ap next_count (counted_on n m c) ∙ ap (λ j. count_plus j c) (sym more)

counted_made : (n m : ℕ) (made : Option ℕ) → option_map (count_plus n) (option_map (count_plus m) made) ≡ option_map (count_plus (m + n)) made
counted_made n m None = refl
counted_made n m (Some c) = ap (λ j. Some j) (counted_on n m c)

pub counted_none : (made : Option ℕ) → made ≡ option_map (count_plus 0) made
counted_none None = refl
counted_none (Some c) = refl

taken_on : (a b : List ℕ) (taken : Option (List ℕ)) → option_map (λ bytes. bytes ++ b) (option_map (λ bytes. bytes ++ a) taken) ≡ option_map (λ bytes. bytes ++ (a ++ b)) taken
taken_on a b None = refl
taken_on a b (Some bytes) = ap (λ l. Some l) (append_assoc bytes a b)

pub taken_none : (taken : Option (List ℕ)) → taken ≡ option_map (λ bytes. bytes ++ []) taken
taken_none None = refl
taken_none (Some bytes) = simp append-nil refl

asked_on : (e : Ending) (a b : ℕ) → input_calls e (a + b) ≡ a + input_calls e b
asked_on InputFault a b = omega arith
asked_on _ a b = refl

-- ---- records of runs

stops_on : (p : Program) (k : ℕ) (s t u : State) (e : Ending) (j : ℕ) → exec p k s ≡ Goes t → StopsAt p 1 t e j u → StopsAt p (k + 1) s e (k + j) u
stops_on p k s t u (Done status) j x h = (ap (λ i. k + i) h.0, exec_on p k 1 s t x ∙ h.1)
stops_on p k s t u (Trap code) j x h = (ap (λ i. k + i) h.0, exec_on p k 1 s t x ∙ h.1)
stops_on p k s t u (Stuck pc) j x h = (ap (λ i. k + i) h.0, exec_on p k 1 s t x ∙ h.1)
stops_on p k s t u Budget j x h = (ap (λ i. k + i) h.0, exec_on p k 1 s t x ∙ h.1)
stops_on p k s t u InputFault j x h = (omega (arith, h.0), exec_on p k j s t x ∙ h.1, h.2)
stops_on p k s t u WriteFault j x h = (omega (arith, h.0), exec_on p k j s t x ∙ h.1, h.2)

moved_on : (old : Snapshot) (t u : State) (a b i j : ℕ) (e : Ending) → snapshot_after (snapshot_after old t a i Budget) u b j e ≡ snapshot_after old u (a + b) (i + j) e
moved_on old t u a b i j e = rw (counted_on b a old.steps, counted_on j i old.written) refl

-- a run of k steps and one more step
pub ran_on : (p : Program) (k : ℕ) (e : Ending) (s : State) (more rest : List ℕ) (old mid new : Snapshot) (told between after : Traffic) → (r : IsRun p k Budget s more old mid told between) → IsRun p 1 e r.place rest mid new between after → IsRun p (k + 1) e s rest old new told after
ran_on p k e s more rest old mid new told between after r l =
    let t = r.place in
    let x : exec p r.tried s ≡ Goes t = ap (λ j. exec p j s) r.stops.0 ∙ r.stops.1 in
    let i : steps_in p (k + l.tried) s ≡ steps_in p r.tried s + steps_in p l.tried t = ap (λ j. steps_in p (j + l.tried) s) (sym r.stops.0) ∙ steps_on p r.tried l.tried s t x in
    let a : takes_in p (k + l.tried) s ≡ takes_in p r.tried s + takes_in p l.tried t = ap (λ j. takes_in p (j + l.tried) s) (sym r.stops.0) ∙ takes_on p r.tried l.tried s t x in
    ran_from p (k + 1) e s l.place rest old new told after (k + l.tried) (steps_in p r.tried s + steps_in p l.tried t) (takes_in p r.tried s + takes_in p l.tried t) (r.put ++ l.put)
    (stops_on p k s t l.place e l.tried r.stops.1 l.stops)
    i
    a
    (l.puts ∙ ap (λ o. o ++ l.put) r.puts ∙ append_assoc s.output r.put l.put)
    (l.machine ∙ ap (λ m. snapshot_after m l.place (steps_in p l.tried t) (length l.put) e) r.machine ∙ moved_on old t l.place (steps_in p r.tried s) (steps_in p l.tried t) (length r.put) (length l.put) e ∙ ap (λ j. snapshot_after old l.place (steps_in p r.tried s + steps_in p l.tried t) j e) (sym (length-append r.put l.put)))
    l.left
    (l.made ∙ ap (λ o. option_map (count_plus (input_calls e (takes_in p l.tried t))) o) r.made ∙ counted_made (input_calls e (takes_in p l.tried t)) (takes_in p r.tried s) told.made ∙ ap (λ j. option_map (count_plus j) told.made) (sym (asked_on e (takes_in p r.tried s) (takes_in p l.tried t))))
    (l.taken ∙ ap (λ o. option_map (λ bytes. bytes ++ l.put) o) r.taken ∙ taken_on r.put l.put told.taken)

-- a run that stopped before its steps were done stops there with more steps to do
over_longer : (p : Program) (k n : ℕ) (s : State) (rest : List ℕ) (e : Ending) (h : Halt) (old new : Snapshot) (told after : Traffic) (r : IsRun p k e s rest old new told after) → k ≤ n → r.tried ≡ k → exec p k s ≡ Over h r.place → ((j : ℕ) → j ≡ n → exec p n s ≡ Over h r.place → StopsAt p n s e j r.place) → IsRun p n e s rest old new told after
over_longer p k n s rest e h old new told after r le same x stops =
    let whole : k + (n - k) ≡ n = omega arith in
    let o = over_on p k (n - k) s h r.place x in
    ran_from p n e s r.place rest old new told after n (steps_in p r.tried s) (takes_in p r.tried s) r.put
    (stops n refl (ap (λ j. exec p j s) (sym whole) ∙ o.0))
    (ap (λ j. steps_in p j s) (sym whole) ∙ o.1 ∙ ap (λ j. steps_in p j s) (sym same))
    (ap (λ j. takes_in p j s) (sym whole) ∙ o.2 ∙ ap (λ j. takes_in p j s) (sym same))
    r.puts r.machine r.left r.made r.taken

pub ran_longer : (p : Program) (k n : ℕ) (s : State) (rest : List ℕ) (e : Ending) (old new : Snapshot) (told after : Traffic) → k ≤ n → stops_early e ≡ true → IsRun p k e s rest old new told after → IsRun p n e s rest old new told after
ran_longer p k n s rest (Done status) old new told after le early r = over_longer p k n s rest (Done status) (step.Done status) old new told after r le r.stops.0 r.stops.1 (λ j same x. (same, x))
ran_longer p k n s rest (Trap code) old new told after le early r = over_longer p k n s rest (Trap code) (step.Trap code) old new told after r le r.stops.0 r.stops.1 (λ j same x. (same, x))
ran_longer p k n s rest (Stuck pc) old new told after le early r = over_longer p k n s rest (Stuck pc) (step.Stuck pc) old new told after r le r.stops.0 r.stops.1 (λ j same x. (same, x))
ran_longer p k n s rest Budget old new told after le early r = cc
ran_longer p k n s rest InputFault old new told after le early r = record {
  tried = r.tried;
  place = r.place;
  put = r.put;
  stops = (omega (arith, r.stops.0), r.stops.1, r.stops.2);
  puts = r.puts;
  machine = r.machine;
  left = r.left;
  made = r.made;
  taken = r.taken;
}
ran_longer p k n s rest WriteFault old new told after le early r = record {
  tried = r.tried;
  place = r.place;
  put = r.put;
  stops = (omega (arith, r.stops.0), r.stops.1, r.stops.2);
  puts = r.puts;
  machine = r.machine;
  left = r.left;
  made = r.made;
  taken = r.taken;
}

-- a run of no steps
pub ran_none : (p : Program) (bytes : List ℕ) (v : Snapshot) (told : Traffic) → v.halt ≡ None → IsRun p 0 Budget (snapshot_state v bytes []) bytes v v told told
ran_none p bytes v told none =
    let s : State = snapshot_state v bytes [] in
    ran_from p 0 Budget s s bytes v v told told 0 0 0 [] (refl, exec_none p s) (steps_none p s) (takes_none p s) refl (ap (λ h. record v { halt = h }) none) refl (counted_none told.made) (taken_none told.taken)

-- a run of all its steps
pub ran_whole : (p : Program) (k n : ℕ) (s : State) (rest : List ℕ) (old new : Snapshot) (told after : Traffic) → k ≡ n → IsRun p k Budget s rest old new told after → IsRun p n Budget s rest old new told after
ran_whole p k n s rest old new told after same r = subst (λ j. IsRun p j Budget s rest old new told after) same r

-- one more turn
pub ran_turn : (p : Program) (k : ℕ) (e : Ending) (s : State) (more rest : List ℕ) (old mid new : Snapshot) (told between after : Traffic) → IsRun p k Budget s more old mid told between → ((y : List ℕ) → IsMachineOf p mid → mid.halt ≡ None → IsRun p 1 e (snapshot_state mid more y) rest mid new between after) → IsMachineOf p mid → IsRun p (k + 1) e s rest old new told after
ran_turn p k e s more rest old mid new told between after r turn runs =
    let t : State = r.place in
    let here : snapshot_state mid more t.output ≡ t = ap (λ i. snapshot_state mid i t.output) (sym r.left) ∙ ap (λ m. snapshot_state m t.input t.output) r.machine in
    let none : mid.halt ≡ None = ap (λ m. m.halt) r.machine in
    ran_on p k e s more rest old mid new told between after r (subst (λ u. IsRun p 1 e u rest mid new between after) here (turn t.output runs none))

-- a run from the start is the behaviour of the image
pub ran_gives : (p : Program) (stack : ℕ) (input rest : List ℕ) (n : ℕ) (e : Ending) (old new : Snapshot) (told after : Traffic) → (r : IsRun p n e (start_state p stack input) rest old new told after) → ImageGives p stack input n e r.put
ran_gives p stack input rest n (Done status) old new told after r = ap behaviour r.stops.1 ∙ ap (λ o. behave.Done o status) r.puts
ran_gives p stack input rest n (Trap code) old new told after r = ap behaviour r.stops.1 ∙ ap (λ o. behave.Trap o code) r.puts
ran_gives p stack input rest n (Stuck pc) old new told after r = ap behaviour r.stops.1 ∙ ap (λ o. behave.Stuck o pc) r.puts
ran_gives p stack input rest n Budget old new told after r = ap behaviour r.stops.1 ∙ ap (λ o. behave.More o) r.puts
ran_gives p stack input rest n InputFault old new told after r = (r.tried, r.stops.0, ap behaviour r.stops.1 ∙ ap (λ o. behave.More o) r.puts)
ran_gives p stack input rest n WriteFault old new told after r = (r.tried, r.stops.0, ap behaviour r.stops.1 ∙ ap (λ o. behave.More o) r.puts)

-- a machine that was just loaded runs its image, and has not come to an end
pub loaded_runs : (p : Program) (stack : ℕ) (v : Snapshot) → v ≡ first_snapshot p stack → IsMachineOf p v × (v.halt ≡ None)
loaded_runs p stack v e = (record { text = ap (λ u. u.text) e; size = ap (λ u. length u.data_bytes) e ∙ size_is p }, ap (λ u. u.halt) e)

pub ran_behaves : (p : Program) (stack : ℕ) (input rest : List ℕ) (n : ℕ) (e : Ending) (old new : Snapshot) (told after : Traffic) → old ≡ first_snapshot p stack → IsRun p n e (snapshot_state old input []) rest old new told after → MachineBehaves p stack input rest n e told after
ran_behaves p stack input rest n e old new told after same r =
    let s : IsRun p n e (start_state p stack input) rest old new told after = subst (λ u. IsRun p n e (snapshot_state u input []) rest old new told after) same r in
    record {
      tried = s.tried;
      place = s.place;
      stops = s.stops;
      gives = subst (λ o. ImageGives p stack input n e o) (sym s.puts) (ran_gives p stack input rest n e old new told after s);
      left = s.left;
      made = s.made;
      taken = s.taken ∙ ap (λ o. option_map (λ bytes. bytes ++ o) told.taken) (sym s.puts);
    }

-- ---- runs on the input of the machine

pub on_more : (k : ℕ) (e : Ending) (old mid new : Snapshot) (told between after : Traffic) → ((p : Program) → IsMachineOf p old → IsMachineOf p mid) → (input more rest : List ℕ) → RunsOn k Budget old mid told between input more → TurnsOn e mid new between after more rest → RunsOn (k + 1) e old new told after input rest
on_more k e old mid new told between after runs input more rest first turn p is none =
    ran_turn p k e (snapshot_state old input []) more rest old mid new told between after (first p is none) (turn p) (runs p is)

pub on_longer : (k n : ℕ) (e : Ending) (old new : Snapshot) (told after : Traffic) → k ≤ n → stops_early e ≡ true → (input rest : List ℕ) → RunsOn k e old new told after input rest → RunsOn n e old new told after input rest
on_longer k n e old new told after le early input rest run p is none =
    ran_longer p k n (snapshot_state old input []) rest e old new told after le early (run p is none)

pub on_whole : (k n : ℕ) (old new : Snapshot) (told after : Traffic) → k ≡ n → (input rest : List ℕ) → RunsOn k Budget old new told after input rest → RunsOn n Budget old new told after input rest
on_whole k n old new told after same input rest run = subst (λ j. RunsOn j Budget old new told after input rest) same run

pub on_behaving : (n : ℕ) (e : Ending) (old new : Snapshot) (told after : Traffic) (input rest : List ℕ) → RunsOn n e old new told after input rest → BehavesOn n e old told after input rest
on_behaving n e old new told after input rest run p stack same =
    let l = loaded_runs p stack old same in
    ran_behaves p stack input rest n e old new told after same (run p l.0 l.1)

-- a machine that came to its end does not run
pub on_ended : (n : ℕ) (e : Ending) (h : Halt) (old new : Snapshot) (told after : Traffic) → old.halt ≡ Some h → (rest : List ℕ) → RunsOn n e old new told after rest rest
on_ended n e h old new told after ended rest p is none = absurd (clash (sym ended ∙ none))
  where
    clash : ◌≡◌ {A = Option Halt} (Some h) None → ⊥
    clash same = cc
