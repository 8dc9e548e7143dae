-- Each step of a run leaves fewer steps that it can take.
use Rattle.std.proofs.Common.{◌≡◌, ℕ, zero, suc, ◌+◌, ◌*◌, ◌-◌, ◌<◌, ◌≤◌, ◌⊎◌, List, [], ◌∷◌, map, drop, length, Option, Some, None, Bool, true, false, if◌then◌else◌, refl, sym, ap, ◌∙◌, subst, inl, inr, arith}
use Rattle.std.specs.Prelude.{slice_get, nat_lt, ◌&&◌, ◌||◌}
use Rattle.std.specs.List.{list_all}
use Rattle.std.proofs.Math.Nat.{mul-le-mul_left}
use Rattle.std.proofs.lemmas.Bool.{ltb-true}
use Rattle.std.proofs.lemmas.Option.{slice_get_within}
use Rattle.mem_model.specs.declared.value.Value.{Value}
use Rattle.mem_model.specs.declared.value.Value.TheVariants.{Word}
use Rattle.mem_model.specs.Memory.{Memory}
use Rattle.mem_model.specs.World.{Outer, Meter, World, Rooms, take_turn}
use Rattle.mem_model.specs.Ending.{Ending}
use Rattle.machine_model.specs.Code.{Act, Writes, Jumps, Calls, Returns, Stops, Site, Point}
use Rattle.machine_model.specs.Machine.{Frame, Config, Next, Goes, Over, step, step_at, step_with, act_on, jump_to, return_to, resume, turn_if, whole_world, go_on, exec}
use Rattle.suifvm_ir.specs.declared.insn.VmBranchOp.{VmBranchOp}
use Rattle.suifvm_ir.specs.declared.insn.TypedRegister.{TypedRegister}
use Rattle.suifvm_ir.specs.declared.insn.VmInsn.{VmInsn}
use Rattle.suifvm_ir.specs.declared.insn.VmInsn.TheVariants.{LoadConstant, LoadAddress, Load, Store, Copy, Unary, Binary, Shift, Convert, Compare, Branch, Jump, Call, Return, Mark, Nop}
use Rattle.suifvm_ir.specs.Insns.{reads_of, targets_of}
use Rattle.suifvm_ir.specs.Programs.{begins_with_mark, first_is_mark, alignment_bytes}
use Rattle.suifvm_meaning.specs.declared.answer.Answer.{Answer}
use Rattle.suifvm_meaning.specs.declared.answer.Answer.TheVariants.{Gives, TrapsWith, Fails}
use Rattle.suifvm_meaning.specs.Operations.{is_value_of, when_value, unary_answer, convert_answer, binary_answer, shift_answer, compare_answer, value_holds, loaded_answer, stored_memory, copied_memory}
use Rattle.suifvm_meaning.specs.Effect.{first_source, second_source, writes, changes, is_branch_taken, branches, return_act, does, takes_turn}
use Rattle.suifvm_meaning.specs.Behave.{FunctionCode, Registers, blocks_in, insn_site, next_site, site_or_next, site_in_function, site_in_block, vm_code}
use Rattle.suifvm_run.specs.model.Falls.{places, most_places, left_in, places_left, calls_left, insn_in, insn_at, unless_mark, steps_left, AreMarked}

-- ---- places

fewer : (c : ℕ) (blocks : List (List VmInsn)) → places (drop c blocks) ≤ places blocks
fewer zero blocks = omega arith
fewer (suc c) [] = omega arith
fewer (suc c) (x ∷ xs) = let rest = fewer c xs in omega (arith, rest)

later : (b c : ℕ) (blocks : List (List VmInsn)) → b ≤ c → places (drop c blocks) ≤ places (drop b blocks)
later zero c blocks h = fewer c blocks
later (suc b) zero blocks h = absurd (omega (arith, h))
later (suc b) (suc c) [] h = omega arith
later (suc b) (suc c) (x ∷ xs) h = later b c xs (omega (arith, h))

none_some : {A : Type 0} (b : A) → (let x : Option A = None in x ≡ Some b) → ⊥
none_some b h = cc

some_is : {A : Type 0} (a b : A) → (let x : Option A = Some a in x ≡ Some b) → a ≡ b
some_is a b h = cc

here_places : (b : ℕ) (blocks : List (List VmInsn)) (row : List VmInsn) → slice_get blocks b ≡ Some row → places (drop b blocks) ≡ suc (length row) + places (drop (suc b) blocks)
here_places b [] row h = absurd (none_some row h)
here_places zero (x ∷ xs) row h = ap (λ r. suc (length r) + places xs) (some_is x row h)
here_places (suc b) (x ∷ xs) row h = here_places b xs row h

of_function : (fs : List FunctionCode) (f : ℕ) → places (blocks_in (slice_get fs f)) ≤ most_places fs
of_function [] f = omega arith
of_function (x ∷ fs) zero = omega arith
of_function (x ∷ fs) (suc f) = let rest = of_function fs f in omega (arith, rest)

block_few : (b at : ℕ) (blocks : List (List VmInsn)) → left_in at (slice_get blocks b) + places (drop (suc b) blocks) ≤ places (drop b blocks)
block_few b at blocks = by_row (slice_get blocks b) refl
  where
    by_row : (o : Option (List VmInsn)) → slice_get blocks b ≡ o → left_in at (slice_get blocks b) + places (drop (suc b) blocks) ≤ places (drop b blocks)
    by_row None is =
        let none : left_in at (slice_get blocks b) ≡ 0 = ap (left_in at) is in
        let rest = later b (suc b) blocks (omega arith) in omega (arith, none, rest)
    by_row (Some row) is =
        let some : left_in at (slice_get blocks b) ≡ suc (length row - at) = ap (left_in at) is in
        let all = here_places b blocks row is in omega (arith, some, all)

point_few : (fs : List FunctionCode) (p : Point) → places_left fs p ≤ most_places fs
point_few fs p =
    let all = of_function fs p.function in
    let rest = fewer p.block (blocks_in (slice_get fs p.function)) in
    let here = block_few p.block p.at (blocks_in (slice_get fs p.function)) in omega (arith, all, rest, here)

left_later : (at : ℕ) (o : Option (List VmInsn)) → left_in (suc at) o ≤ left_in at o
left_later at None = omega arith
left_later at (Some row) = omega arith

one_at_most : (o : Option VmInsn) → unless_mark o ≤ 1
one_at_most None = omega arith
one_at_most (Some Mark) = omega arith
one_at_most (Some (LoadConstant ty d w)) = omega arith
one_at_most (Some (LoadAddress d p n)) = omega arith
one_at_most (Some (Load ty d p n)) = omega arith
one_at_most (Some (Store ty p n v)) = omega arith
one_at_most (Some (Copy to from size align)) = omega arith
one_at_most (Some (Unary op ty d s)) = omega arith
one_at_most (Some (Binary op ty d a b)) = omega arith
one_at_most (Some (Shift op ty d a b)) = omega arith
one_at_most (Some (Convert from to d s)) = omega arith
one_at_most (Some (Compare op ty d a b)) = omega arith
one_at_most (Some (Branch op ty s b)) = omega arith
one_at_most (Some (Jump b)) = omega arith
one_at_most (Some (Call d c args)) = omega arith
one_at_most (Some (Return v)) = omega arith
one_at_most (Some Nop) = omega arith

-- ---- turns

mark_turns : (i : VmInsn) → (takes_turn i ≡ true) ⊎ (unless_mark (Some i) ≡ 1)
mark_turns Mark = inl refl
mark_turns (Call d c args) = inl refl
mark_turns (LoadConstant ty d w) = inr refl
mark_turns (LoadAddress d p n) = inr refl
mark_turns (Load ty d p n) = inr refl
mark_turns (Store ty p n v) = inr refl
mark_turns (Copy to from size align) = inr refl
mark_turns (Unary op ty d s) = inr refl
mark_turns (Binary op ty d a b) = inr refl
mark_turns (Shift op ty d a b) = inr refl
mark_turns (Convert from to d s) = inr refl
mark_turns (Compare op ty d a b) = inr refl
mark_turns (Branch op ty s b) = inr refl
mark_turns (Jump b) = inr refl
mark_turns (Return v) = inr refl
mark_turns Nop = inr refl

spent : (turns : ℕ) (m after : Meter) → m.turns ≡ turns → take_turn m ≡ Some after → after.turns + 1 ≡ turns
spent zero m after is h = absurd (none_some after (sym (ap (λ n. Rattle.mem_model.specs.World.turn_from n m) is) ∙ h))
spent (suc turns) m after is h =
    let one : turns ≡ after.turns = ap (λ (x : Meter). x.turns) (some_is (record m { turns = turns }) after (sym (ap (λ n. Rattle.mem_model.specs.World.turn_from n m) is) ∙ h)) in omega (arith, one)

taken : (b : Bool) (m after : Meter) → turn_if b m ≡ Some after → (b ≡ true → after.turns + 1 ≡ m.turns) × (after.turns ≤ m.turns)
taken true m after h = let one = spent m.turns m after refl h in (λ t. one, omega (arith, one))
taken false m after h =
    let same : m.turns ≡ after.turns = ap (λ (x : Meter). x.turns) (some_is m after h) in
    ((λ t. absurd (clash t)), omega (arith, same))
  where
    clash : (let x : Bool = false in x ≡ true) → ⊥
    clash t = cc

turn_falls : (i : VmInsn) (m after : Meter) → turn_if (takes_turn i) m ≡ Some after → after.turns + 1 ≤ m.turns + unless_mark (Some i)
turn_falls i m after h =
    let t = taken (takes_turn i) m after h in
    elim (mark_turns i) [ inl turn ↦ (let one = t.0 turn in omega (arith, one)) | inr one ↦ (let less = t.1 in omega (arith, one, less)) ]

-- ---- what calls takes a turn

abbrev NoCall : Act Value → Type 0
NoCall (Calls f vs o) = ⊥
NoCall (Writes vs o) = Unit {0}
NoCall (Jumps target o) = Unit {0}
NoCall (Returns vs o) = Unit {0}
NoCall (Stops e o) = Unit {0}

writes_calm : (a : Answer) (o : Outer) → NoCall (writes a o)
writes_calm (Gives v) o = tt
writes_calm (TrapsWith code) o = tt
writes_calm Fails o = tt

changes_calm : (m : Option Memory) (o : Outer) → NoCall (changes m o)
changes_calm None o = tt
changes_calm (Some m) o = tt

if_calm : (b : Bool) (x y : Act Value) → NoCall x → NoCall y → NoCall (if b then x else y)
if_calm true x y h k = h
if_calm false x y h k = k

branches_calm : (op : VmBranchOp) (test : Option Bool) (o : Outer) → NoCall (branches op test o)
branches_calm op None o = tt
branches_calm op (Some test) o = if_calm (is_branch_taken op test) (Jumps 0 o) (Writes [] o) tt tt

returns_calm : (value : Option TypedRegister) (vs : List Value) (o : Outer) → NoCall (return_act value vs o)
returns_calm None vs o = tt
returns_calm (Some value) vs o = if_calm (is_value_of value.ty (first_source vs)) (Returns (first_source vs ∷ []) o) _ tt tt

call_turns : (i : VmInsn) (own : ℕ) (vs : List Value) (o : Outer) → ((takes_turn i ≡ true) × (unless_mark (Some i) ≡ 1)) ⊎ NoCall (does i own vs o)
call_turns (Call d c args) own vs o = inl (refl, refl)
call_turns Mark own vs o = inr tt
call_turns (LoadConstant ty d w) own vs o = inr (writes_calm (when_value ty (Word w)) o)
call_turns (LoadAddress d p n) own vs o = inr tt
call_turns (Load ty d p n) own vs o = inr (writes_calm (loaded_answer o.memory ty (first_source vs) n) o)
call_turns (Store ty p n v) own vs o = inr (changes_calm (stored_memory o.memory ty (first_source vs) n (second_source vs)) o)
call_turns (Copy to from size align) own vs o = inr (changes_calm (copied_memory o.memory (first_source vs) (second_source vs) size (alignment_bytes align)) o)
call_turns (Unary op ty d s) own vs o = inr (writes_calm (unary_answer op ty (first_source vs)) o)
call_turns (Binary op ty d a b) own vs o = inr (writes_calm (binary_answer o.memory op ty (first_source vs) (second_source vs)) o)
call_turns (Shift op ty d a b) own vs o = inr (writes_calm (shift_answer op ty (first_source vs) (second_source vs)) o)
call_turns (Convert from to d s) own vs o = inr (writes_calm (convert_answer from to (first_source vs)) o)
call_turns (Compare op ty d a b) own vs o = inr (writes_calm (compare_answer o.memory op ty (first_source vs) (second_source vs)) o)
call_turns (Branch op ty s b) own vs o = inr (branches_calm op (value_holds o.memory ty (first_source vs)) o)
call_turns (Jump b) own vs o = inr tt
call_turns (Return v) own vs o = inr (returns_calm v vs o)
call_turns Nop own vs o = inr tt

-- ---- jumps

both_left : (a b : Bool) → a && b ≡ true → a ≡ true
both_left true b h = refl
both_left false b h = absurd (cc)

both_right : (a b : Bool) → a && b ≡ true → b ≡ true
both_right true b h = h
both_right false b h = absurd (cc)

passes : {X : Type 0} (p : X → Bool) (xs : List X) (n : ℕ) (x : X) → list_all p xs ≡ true → slice_get xs n ≡ Some x → p x ≡ true
passes p [] n x h is = absurd (none_some x is)
passes p (y ∷ ys) zero x h is = ap p (sym (some_is y x is)) ∙ both_left (p y) (list_all p ys) h
passes p (y ∷ ys) (suc n) x h is = passes p ys n x (both_right (p y) (list_all p ys) h) is

either : (a b : Bool) → a || b ≡ true → (a ≡ true) ⊎ (b ≡ true)
either true b h = inl refl
either false b h = inr h

marked_at : (row : Option (List VmInsn)) → begins_with_mark row ≡ true → unless_mark (insn_in 0 row) ≡ 0
marked_at None h = absurd (cc)
marked_at (Some row) h = of_insn (slice_get row 0) h
  where
    of_insn : (o : Option VmInsn) → first_is_mark o ≡ true → unless_mark o ≡ 0
    of_insn (Some Mark) h = refl
    of_insn None h = absurd (cc)
    of_insn (Some (LoadConstant ty d w)) h = absurd (cc)
    of_insn (Some (LoadAddress d p n)) h = absurd (cc)
    of_insn (Some (Load ty d p n)) h = absurd (cc)
    of_insn (Some (Store ty p n v)) h = absurd (cc)
    of_insn (Some (Copy to from size align)) h = absurd (cc)
    of_insn (Some (Unary op ty d s)) h = absurd (cc)
    of_insn (Some (Binary op ty d a b)) h = absurd (cc)
    of_insn (Some (Shift op ty d a b)) h = absurd (cc)
    of_insn (Some (Convert from to d s)) h = absurd (cc)
    of_insn (Some (Compare op ty d a b)) h = absurd (cc)
    of_insn (Some (Branch op ty s b)) h = absurd (cc)
    of_insn (Some (Jump b)) h = absurd (cc)
    of_insn (Some (Call d c args)) h = absurd (cc)
    of_insn (Some (Return v)) h = absurd (cc)
    of_insn (Some Nop) h = absurd (cc)

-- ---- sums

same_turns : (w old new x y : ℕ) → new < old → y ≤ x → new + suc w * y < old + suc w * x
same_turns w old new x y fewer few = let product = mul-le-mul_left (suc w) few in omega (arith, fewer, product)

fewer_turns : (w old new x y : ℕ) → new ≤ old + w → y + 1 ≤ x → new + suc w * y < old + suc w * x
fewer_turns w old new x y few less =
    let product : suc w * (y + 1) ≤ suc w * x = mul-le-mul_left (suc w) less in
    let more : suc w * (y + 1) ≡ suc w * y + suc w = omega arith in
    omega (arith, few, product, more)

-- ---- a step

over_goes : (e : Ending) (n : Config Registers) → Over e ≡ Goes n → ⊥
over_goes e n h = cc

goes_is : (a b : Config Registers) → Goes a ≡ Goes b → a ≡ b
goes_is a b h = cc

module _ (rooms : Rooms) (fs : List FunctionCode) (marked : AreMarked fs) (k : Config Registers) (f : FunctionCode) (row : List VmInsn)
    (there : slice_get fs k.here.point.function ≡ Some f)
    (block_there : slice_get f.blocks k.here.point.block ≡ Some row)
  where
    abbrev p : Point
    p = k.here.point

    abbrev calls : ℕ
    calls = calls_left fs (k.here ∷ k.callers)

    abbrev turns : ℕ
    turns = k.world.meter.turns + unless_mark (insn_at fs p)

    abbrev Falls : Config Registers → Type 0
    Falls next = steps_left fs next < steps_left fs k

    blocks_are : blocks_in (slice_get fs p.function) ≡ f.blocks
    blocks_are = ap blocks_in there

    left_at : (at : ℕ) → places_left fs (record { function = p.function; block = p.block; at = at }) ≡ suc (length row - at) + places (drop (suc p.block) f.blocks)
    left_at at =
        ap (λ bs. left_in at (slice_get bs p.block) + places (drop (suc p.block) bs)) blocks_are
        ∙ ap (λ o. left_in at o + places (drop (suc p.block) f.blocks)) block_there

    insn_here : insn_at fs p ≡ slice_get row p.at
    insn_here = ap (λ bs. insn_in p.at (slice_get bs p.block)) blocks_are ∙ ap (insn_in p.at) block_there

    next_place : p.at < length row → places_left fs (record { function = p.function; block = p.block; at = suc p.at }) < places_left fs p
    next_place within = let old = left_at p.at in let new = left_at (suc p.at) in omega (arith, within, old, new)

    forward : (c : ℕ) → p.block < c → places_left fs (record { function = p.function; block = c; at = 0 }) < places_left fs p
    forward c ahead =
        let new : places_left fs (record { function = p.function; block = c; at = 0 }) ≡ left_in 0 (slice_get f.blocks c) + places (drop (suc c) f.blocks) = ap (λ bs. left_in 0 (slice_get bs c) + places (drop (suc c) bs)) blocks_are in
        let few = block_few c 0 f.blocks in
        let less : places (drop c f.blocks) ≤ places (drop (suc p.block) f.blocks) = later (suc p.block) c f.blocks (omega (arith, ahead)) in
        let old = left_at p.at in omega (arith, new, few, less, old)

    -- behind the last instruction of a block
    passed : (next : Config Registers) → slice_get row p.at ≡ None → step_at Value Registers rooms (vm_code fs) k (Some (next_site p.block)) ≡ Goes next → Falls next
    passed next none is =
        let ahead = forward (suc p.block) (omega arith) in
        let one : unless_mark (insn_at fs p) ≡ 1 = ap unless_mark (insn_here ∙ none) in
        let most = one_at_most (insn_at fs (record { function = p.function; block = suc p.block; at = 0 })) in
        subst Falls (goes_is _ next is)
        (same_turns (most_places fs) calls (places_left fs (record { function = p.function; block = suc p.block; at = 0 }) + calls_left fs k.callers) turns (k.world.meter.turns + unless_mark (insn_at fs (record { function = p.function; block = suc p.block; at = 0 }))) (omega (arith, ahead)) (omega (arith, one, most)))

    module _ (i : VmInsn) (at : slice_get row p.at ≡ Some i) (m : Meter) (turn : turn_if (takes_turn i) k.world.meter ≡ Some m) where
      within : p.at < length row
      within = slice_get_within row p.at i at

      spent_here : m.turns + 1 ≤ turns
      spent_here = subst (λ o. m.turns + 1 ≤ k.world.meter.turns + unless_mark o) (sym (insn_here ∙ at)) (turn_falls i k.world.meter m turn)

      -- the run goes on at a point, with these calls behind it
      on_same : (q : Point) (rest : ℕ) → places_left fs q + rest < calls → places_left fs q + rest + suc (most_places fs) * (m.turns + unless_mark (insn_at fs q)) < calls + suc (most_places fs) * turns
      on_same q rest less =
          let one = one_at_most (insn_at fs q) in
          let turn_less = spent_here in
          same_turns (most_places fs) calls (places_left fs q + rest) turns (m.turns + unless_mark (insn_at fs q)) less (omega (arith, one, turn_less))

      on_fewer : (q : Point) (rest : ℕ) → rest ≤ calls → m.turns + unless_mark (insn_at fs q) + 1 ≤ turns → places_left fs q + rest + suc (most_places fs) * (m.turns + unless_mark (insn_at fs q)) < calls + suc (most_places fs) * turns
      on_fewer q rest few less =
          let most = point_few fs q in
          fewer_turns (most_places fs) calls (places_left fs q + rest) turns (m.turns + unless_mark (insn_at fs q)) (omega (arith, most, few)) less

      wrote : (q : Point) → q ≡ record { function = p.function; block = p.block; at = suc p.at } → places_left fs q + calls_left fs k.callers + suc (most_places fs) * (m.turns + unless_mark (insn_at fs q)) < calls + suc (most_places fs) * turns
      wrote q is = let less = next_place within in on_same q (calls_left fs k.callers) (subst (λ x. places_left fs x + calls_left fs k.callers < calls) (sym is) (omega (arith, less)))

      went : (c : ℕ) → nat_lt p.block c || begins_with_mark (slice_get f.blocks c) ≡ true → places_left fs (record { function = p.function; block = c; at = 0 }) + calls_left fs k.callers + suc (most_places fs) * (m.turns + unless_mark (insn_at fs (record { function = p.function; block = c; at = 0 }))) < calls + suc (most_places fs) * turns
      went c h = elim (either (nat_lt p.block c) (begins_with_mark (slice_get f.blocks c)) h) [
        | inl ahead ↦ (let less = forward c (ltb-true p.block c ahead) in on_same (record { function = p.function; block = c; at = 0 }) (calls_left fs k.callers) (omega (arith, less)))
        | inr mark ↦ (
            let none : unless_mark (insn_at fs (record { function = p.function; block = c; at = 0 })) ≡ 0 = ap (λ bs. unless_mark (insn_in 0 (slice_get bs c))) blocks_are ∙ marked_at (slice_get f.blocks c) mark in
            let turn_less = spent_here in
            on_fewer (record { function = p.function; block = c; at = 0 }) (calls_left fs k.callers) (omega arith) (omega (arith, none, turn_less)))
      ]

      jumped : (w : World) → w.meter ≡ m → (t : ℕ) (target : Option ℕ) (next : Config Registers) → slice_get (targets_of i) t ≡ target → jump_to Value Registers rooms (vm_code fs) k w (insn_site i) target ≡ Goes next → Falls next
      jumped w meter t None next eq is = absurd (over_goes _ next is)
      jumped w meter t (Some c) next eq is =
          subst Falls (goes_is _ next is)
          (subst (λ (x : Meter). places_left fs (record { function = p.function; block = c; at = 0 }) + calls_left fs k.callers + suc (most_places fs) * (x.turns + unless_mark (insn_at fs (record { function = p.function; block = c; at = 0 }))) < calls + suc (most_places fs) * turns) (sym meter)
          (went c (passes (λ target. nat_lt p.block target || begins_with_mark (slice_get f.blocks target)) (targets_of i) t c (marked.marks p.function p.block p.at f row i there block_there at) eq)))

      resumed : (w : World) → w.meter.turns ≡ m.turns → (vs : List Value) (c : Frame Registers) (cs : List (Frame Registers)) (site : Option (Site Value Registers)) (next : Config Registers) → calls_left fs k.callers ≡ calls_left fs (c ∷ cs) → resume Value Registers rooms (vm_code fs) c cs w vs site ≡ Goes next → Falls next
      resumed w meter vs c cs None next eq is = absurd (over_goes _ next is)
      resumed w meter vs c cs (Some s) next eq is =
          let less = next_place within in
          let same = left_later c.point.at (slice_get (blocks_in (slice_get fs c.point.function)) c.point.block) in
          subst Falls (goes_is _ next is)
          (subst (λ n. places_left fs (record { function = c.point.function; block = c.point.block; at = suc c.point.at }) + calls_left fs cs + suc (most_places fs) * (n + unless_mark (insn_at fs (record { function = c.point.function; block = c.point.block; at = suc c.point.at }))) < calls + suc (most_places fs) * turns) (sym meter)
          (on_same (record { function = c.point.function; block = c.point.block; at = suc c.point.at }) (calls_left fs cs) (omega (arith, less, eq, same))))

      returned : (number : ℕ) (vs : List Value) (w : World) → w.meter.turns ≡ m.turns → (callers : List (Frame Registers)) (next : Config Registers) → calls_left fs k.callers ≡ calls_left fs callers → return_to Value Registers rooms (vm_code fs) number vs w callers ≡ Goes next → Falls next
      returned number vs w meter [] next eq is = absurd (over_goes _ next is)
      returned number vs w meter (c ∷ cs) next eq is = resumed w meter vs c cs ((vm_code fs).site c.point) next eq is

      entered : (q : Point) → (takes_turn i ≡ true) × (unless_mark (Some i) ≡ 1) → places_left fs q + calls + suc (most_places fs) * (m.turns + unless_mark (insn_at fs q)) < calls + suc (most_places fs) * turns
      entered q h =
          let one = one_at_most (insn_at fs q) in
          let whole : m.turns + 1 ≡ k.world.meter.turns = (taken (takes_turn i) k.world.meter m turn).0 h.0 in
          let here_one : unless_mark (insn_at fs p) ≡ 1 = ap unless_mark (insn_here ∙ at) ∙ h.1 in
          on_fewer q calls (omega arith) (omega (arith, one, whole, here_one))

      acted : (a : Act Value) (next : Config Registers) → ((takes_turn i ≡ true) × (unless_mark (Some i) ≡ 1)) ⊎ NoCall a → act_on Value Registers rooms (vm_code fs) k m (insn_site i) a ≡ Goes next → Falls next
      acted (Writes vs o) next c is = subst Falls (goes_is _ next is) (wrote (record { function = p.function; block = p.block; at = suc p.at }) refl)
      acted (Jumps t o) next c is = jumped (whole_world o m) refl t (slice_get (targets_of i) t) next refl is
      acted (Calls function vs o) next (inl h) is = subst Falls (goes_is _ next is) (entered (record { function = function; block = 0; at = 0 }) h)
      acted (Calls function vs o) next (inr none) is = absurd none
      acted (Returns vs o) next c is = returned _ vs _ refl k.callers next refl is
      acted (Stops e o) next c is = absurd (over_goes _ next is)

    done : (i : VmInsn) → slice_get row p.at ≡ Some i → (after : Option Meter) (next : Config Registers) → turn_if (takes_turn i) k.world.meter ≡ after → step_with Value Registers rooms (vm_code fs) k (insn_site i) after ≡ Goes next → Falls next
    done i at None next turn is = absurd (over_goes _ next is)
    done i at (Some m) next turn is =
        acted i at m turn (does i k.here.own (map k.here.store (reads_of i)) k.world.outer) next (call_turns i k.here.own (map k.here.store (reads_of i)) k.world.outer) is

    stepped : (o : Option VmInsn) (next : Config Registers) → slice_get row p.at ≡ o → step_at Value Registers rooms (vm_code fs) k (Some (site_or_next p.block o)) ≡ Goes next → Falls next
    stepped None next at is = passed next at is
    stepped (Some i) next at is = done i at (turn_if (takes_turn i) k.world.meter) next refl is

module _ (rooms : Rooms) (fs : List FunctionCode) (marked : AreMarked fs) (k next : Config Registers) where
  in_block : (f : FunctionCode) → slice_get fs k.here.point.function ≡ Some f → (o : Option (List VmInsn)) → slice_get f.blocks k.here.point.block ≡ o → step_at Value Registers rooms (vm_code fs) k (site_in_block k.here.point.block k.here.point.at o) ≡ Goes next → steps_left fs next < steps_left fs k
  in_block f there None none is = absurd (over_goes _ next is)
  in_block f there (Some row) block_there is = stepped rooms fs marked k f row there block_there (slice_get row k.here.point.at) next refl is

  in_function : (o : Option FunctionCode) → slice_get fs k.here.point.function ≡ o → step_at Value Registers rooms (vm_code fs) k (site_in_function k.here.point.block k.here.point.at o) ≡ Goes next → steps_left fs next < steps_left fs k
  in_function None none is = absurd (over_goes _ next is)
  in_function (Some f) there is = in_block f there (slice_get f.blocks k.here.point.block) refl is

  pub falls : step Value Registers rooms (vm_code fs) k ≡ Goes next → steps_left fs next < steps_left fs k
  falls is = in_function (slice_get fs k.here.point.function) refl is

-- a run that has so few steps left is over after some
ends_within : (rooms : Rooms) (fs : List FunctionCode) → AreMarked fs → (n : ℕ) (k : Config Registers) → steps_left fs k < n → (steps : ℕ) × (e : Ending) × (exec Value Registers rooms (vm_code fs) steps k ≡ Over e)
ends_within rooms fs marked zero k few = absurd (omega (arith, few))
ends_within rooms fs marked (suc n) k few = by_step (λ j less. ends_within rooms fs marked n j (omega (arith, few, less))) (step Value Registers rooms (vm_code fs) k) refl
  where
    by_step : ((j : Config Registers) → steps_left fs j < steps_left fs k → (steps : ℕ) × (e : Ending) × (exec Value Registers rooms (vm_code fs) steps j ≡ Over e)) → (next : Next Registers) → step Value Registers rooms (vm_code fs) k ≡ next → (steps : ℕ) × (e : Ending) × (exec Value Registers rooms (vm_code fs) steps k ≡ Over e)
    by_step more (Over e) is = (1, e, ap (λ x. go_on x (exec Value Registers rooms (vm_code fs) 0)) is)
    by_step more (Goes j) is =
        let rest = more j (falls rooms fs marked k j is) in
        (suc rest.0, rest.1, ap (λ x. go_on x (exec Value Registers rooms (vm_code fs) rest.0)) is ∙ rest.2)

pub run_ends : (rooms : Rooms) (fs : List FunctionCode) → AreMarked fs → (k : Config Registers) → (steps : ℕ) × (e : Ending) × (exec Value Registers rooms (vm_code fs) steps k ≡ Over e)
run_ends rooms fs marked k = ends_within rooms fs marked (suc (steps_left fs k)) k (omega arith)
