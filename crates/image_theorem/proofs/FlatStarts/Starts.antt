-- The machine comes to the first instruction of `main`.
use Rattle.std.proofs.Common.{◌≡◌, ◌≢◌, ℕ, zero, suc, ◌+◌, ◌-◌, ◌*◌, ◌^◌, ◌<◌, ◌≤◌, ◌⊎◌, Bool, true, false, List, [], ◌∷◌, ◌++◌, Some, length, replicate, drop, if◌then◌else◌, refl, sym, ap, ◌∙◌, subst, arith, inl, inr, ⊎_elim}
use Rattle.std.specs.Prelude.{nat_le, nat_lt, ◌==◌, ◌&&◌, ◌||◌, slice_get, slice_index, slice_set}
use Rattle.std.proofs.lemmas.Bool.{cases_lt, le-leb, lt-ltb, le-ltb, cond-true, cond-false}
use Rattle.alpha_isa.specs.declared.insn.BranchOp.TheVariants.{Bsr}
use Rattle.alpha_isa.specs.Program.{Program, data_of, image_data_size, data_start, stack_start, word_address}
use Rattle.alpha_isa.specs.State.{State, register}
use Rattle.alpha_isa.specs.Behave as behave
use Rattle.alpha_items.specs.declared.item.AsmItem.TheVariants.{Branch}
use Rattle.frame_steps.specs.item_steps.Standing.{ItemsAt}
use Rattle.frame_steps.specs.item_steps.Steps.{Leaves}
use Rattle.frame_steps.proofs.ItemSteps.Steps.{branches_step, read-same, read-other}
use Rattle.alpha_isa.specs.Step as step
use Rattle.alpha_isa.proofs.Runs.{exec_split}
use Rattle.frame_simulation.proofs.FlatRuns.Paid.{passes-most, pc-within}
use Rattle.mem_model.specs.Memory.{Memory, begin_objects}
use Rattle.mem_model.specs.World.{room_of}
use Rattle.machine_model.specs.Code.{entry_point}
use Rattle.machine_model.specs.Machine.{Goes}
use Rattle.mem_objects.specs.declared.DataObject.{DataObject}
use Rattle.mem_objects.specs.Start.{start_memory}
use Rattle.temp_ir.specs.declared.insn.TempInsn.{TempInsn}
use Rattle.alloc_model.specs.Temporaries.{sizes_in, start_world}
use Rattle.alloc_model.specs.Stores.{empty}
use Rattle.alloc_model.specs.Places.{Plan, functions_of}
use Rattle.mem_model.specs.Bytes.{AreBytes}
use Rattle.frame_memory.specs.Bytes.{Bytes}
use Rattle.frame_memory.specs.Relation.{Extent, IsExtent, Owner, Owners, OfObject, OfFrame, Nobody, MemoryIs}
use Rattle.frame_memory.specs.Machine.{is_in_data, is_in_stack, memory_bytes, is_reached, HasParts}
use Rattle.frame_memory.specs.Laws.{AreNew}
use Rattle.frame_memory.proofs.Objects.{extents_grow, others_may_change, objects_begin}
use Rattle.frame_memory.specs.flat_frames.Shapes.{FrameShape, frame_size, objects_at, frame_object_at, bytes_before, owner_at}
use Rattle.frame_memory.specs.flat_frames.Frames.{FrameIs}
use Rattle.frame_memory.proofs.FlatFrames.Shapes.{pieces_of, frames_are_small}
use Rattle.frame_steps.specs.frame_accesses.Laws.{IsAt}
use Rattle.frame_steps.proofs.FrameAccesses.Runs.{stands, bytes-same, reached-same, parts-same}
use Rattle.frame_steps.specs.frame_transfers.Items.{items_of_transfers}
use Rattle.frame_steps.specs.frame_transfers.Laws.{CallAt, StandsFor}
use Rattle.frame_steps.specs.call_parts.Items.{entry_part}
use Rattle.frame_steps.specs.call_parts.Laws.{IsFrameAt, EntryDone}
use Rattle.frame_steps.proofs.CallParts.Entries.{entries_are_done}
use Rattle.frame_steps.specs.instruction_items.Items.{function_label}
use Rattle.frame_steps.specs.instruction_items.Laws.{is_usable}
use Rattle.frame_simulation.specs.flat_runs.Stacks.{StackIs}
use Rattle.frame_simulation.specs.flat_runs.Entering.{extents_from}
use Rattle.frame_simulation.proofs.FlatRuns.Begins.{get-behind, sizes-are, extent-of, size-of, before-whole}
use Rattle.frame_simulation.specs.flat_runs.Items.{block_items, blocks_items, exit_items}
use Rattle.frame_simulation.proofs.FlatRuns.Edges.{label-passed}
use Rattle.frame_simulation.specs.flat_runs.Builds.{Build, FunctionIsBuilt, BuildStands}
use Rattle.frame_simulation.specs.flat_runs.Matching.{items_from_point, Matches, passes_left, FitsStack}
use Rattle.frame_simulation.proofs.FlatRuns.Lists.{drop-some, stands-at, get-map}
use Rattle.frame_simulation.specs.flat_runs.Runs.{ComesTo}
use Rattle.frame_memory.specs.flat_globals.Globals.{extents_of, owner_of}
use Rattle.frame_memory.proofs.FlatGlobals.Lists.{append-size, replicate-size}
use Rattle.frame_memory.proofs.FlatGlobals.Stands.{data_has_owners, globals_stand, bytes-small}
use Rattle.image_theorem.specs.flat_starts.Starts.{IsBegun, first_config}

-- ---- lists of a machine at its start

set-small : (bound : ℕ) (words : List ℕ) (n v r : ℕ) → 0 < bound → v < bound → ((k : ℕ) → slice_index words k < bound) → slice_index (slice_set words n v) r < bound
set-small bound [] n v r some small h = h r
set-small bound (x ∷ words) zero v zero some small h = small
set-small bound (x ∷ words) zero v (suc r) some small h = h (suc r)
set-small bound (x ∷ words) (suc n) v zero some small h = h zero
set-small bound (x ∷ words) (suc n) v (suc r) some small h = set-small bound words n v r some small (λ k. h (suc k))

zeros-small : (bound n k : ℕ) → 0 < bound → slice_index (replicate n 0) k < bound
zeros-small bound zero k some = some
zeros-small bound (suc n) zero some = some
zeros-small bound (suc n) (suc k) some = zeros-small bound n k some

zeros-bytes : (n : ℕ) → AreBytes (replicate n 0)
zeros-bytes zero = tt
zeros-bytes (suc n) = (omega arith, zeros-bytes n)

if-below : (bound : ℕ) (t : Bool) (x y : ℕ) → x < bound → y < bound → (if t then x else y) < bound
if-below bound true x y h k = h
if-below bound false x y h k = k

-- ---- owners

nobody-or-not : (o : Owner) → (o ≡ Nobody) ⊎ (o ≢ Nobody)
nobody-or-not (OfObject k) = inr (λ e. clash k e)
  where
    clash : (k : ℕ) → OfObject k ≡ Nobody → ⊥
    clash k e = cc
nobody-or-not (OfFrame d piece) = inr (λ e. cc)
nobody-or-not Nobody = inl refl

or-second : (t u : Bool) → u ≡ true → (t || u) ≡ true
or-second true u e = refl
or-second false u e = e

or-first : (t u : Bool) → t ≡ true → (t || u) ≡ true
or-first t u e = ap (λ z. z || u) e

between : (a y e : ℕ) → a ≤ y → y < e → (nat_le a y && nat_lt y e) ≡ true
between a y e le lt = ap (λ t. t && nat_lt y e) (le-leb a y le) ∙ lt-ltb y e lt

module _ (b : Build) (main stack : ℕ) (globals : List DataObject) (ok : BuildStands b) (g : IsBegun b main stack globals) (input : List ℕ) (turns : ℕ) (are-bytes : AreBytes input) (fits : FitsStack b (Goes (first_config b main (start_world globals input turns)))) (a : Plan) (is : slice_get b.plans main ≡ Some a) where
  abbrev p : Program
  p = b.program

  abbrev s : State
  s = behave.start_state b.program stack input

  abbrev memory : Memory
  memory = start_memory globals

  abbrev shape : FrameShape
  shape = (b.setting main).shape

  abbrev sp : ℕ
  sp = b.start.top - frame_size shape

  built : FunctionIsBuilt b main a
  built = ok.functions main a is

  small : frame_size shape < 2 ^ 29
  small = subst (λ z. frame_size z < 2 ^ 29) (sym built.shape) built.small

  room : stack_start p + frame_size shape ≤ b.start.top
  room =
      let own = subst (λ z. frame_size z + 32 ≤ room_of b.rooms main) (sym built.shape) built.room in
      omega (arith, own, fits)

  up : sp + frame_size shape ≡ b.start.top
  up = let h = room in omega (arith, h)

  -- ---- the start of the machine

  data-count : length (data_of p) ≡ image_data_size p
  data-count =
      let sum = append-size p.bytes (replicate p.zeros 0) in
      let zeros = replicate-size {X = ℕ} p.zeros 0 in
      omega (arith, sum, zeros)

  parts : HasParts p s
  parts = let count = data-count in record { data_below = omega (arith, count) }

  in-stack : (y : ℕ) → stack_start p ≤ y → y < b.start.top → is_reached p s y ≡ true
  in-stack y from to =
      let top = g.top in
      let count = replicate-size {X = ℕ} stack 0 in
      or-second (is_in_data p s y) (is_in_stack p s y) (between (stack_start p) y (stack_start p + length (replicate stack 0)) from (omega (arith, to, top, count)))

  in-data : (y : ℕ) → data_start p ≤ y → y < data_start p + length (data_of p) → is_reached p s y ≡ true
  in-data y from to = or-first (is_in_data p s y) (is_in_stack p s y) (between (data_start p) y (data_start p + length (data_of p)) from to)

  is-at : IsAt p b.there p.entry (Branch Bsr 26 (function_label main) ∷ b.start.behind) b.start.end s
  is-at = record {
    lawful = g.lawful;
    labels = g.labels;
    items_at = g.entry;
    pc = refl;
    registers = refl;
    words = λ r. if-below (2 ^ 64) (r == 31) 0 (slice_index s.registers r) (omega arith) (set-small (2 ^ 64) (replicate 32 0) 30 (stack_start p + stack) r (omega arith) (let top = g.top in let most = ok.top in omega (arith, top, most)) (λ k. zeros-small (2 ^ 64) 32 k (omega arith)));
    parts = parts;
    bytes = bytes-small p s g.data_is.bytes (zeros-bytes stack);
  }

  -- ---- the branch

  record HasBranched : Type 0 where
    to : State
    next : ℕ
    comes : Leaves p (word_address next) s to
    items_at : ItemsAt p b.there next b.start.behind b.start.end
    is_at : IsAt p b.there (b.there (function_label main)) (entry_part shape shape.saves (blocks_items a (b.setting main) 0 a.function.blocks (exit_items (b.setting main) (b.behind main)))) b.end to
    at_top : register to 30 ≡ b.start.top
    link : register to 26 ≡ word_address next
    bytes : memory_bytes p to ≡ memory_bytes p s
    reached : (y : ℕ) → is_reached p to y ≡ is_reached p s y
    input_is : to.input ≡ input
    output : to.output ≡ []

  branched : HasBranched
  branched =
      let d = branches_step p b.there p.entry Bsr 26 (function_label main) b.start.behind b.start.end s (stands p b.there p.entry (Branch Bsr 26 (function_label main)) b.start.behind b.start.end s is-at) (omega arith) in
      let bytes = bytes-same p s d.to d.same in
      record {
        to = d.to;
        next = d.next;
        comes = d.comes;
        items_at = d.items_at;
        is_at = record {
          lawful = g.lawful;
          labels = g.labels;
          items_at = built.stands.entry;
          pc = d.pc;
          registers = d.same.registers;
          words = d.words is-at.words;
          parts = parts-same p s d.to d.same parts;
          bytes = λ y. subst (λ (m : Bytes). m y < 256) (sym bytes) (is-at.bytes y);
        };
        at_top = d.registers 30 (λ e. omega (arith, e)) ∙ read-other 26 30 (word_address d.next) s (λ e. omega (arith, e)) ∙ sym g.top;
        link = d.registers 26 (λ e. omega (arith, e)) ∙ read-same 26 (word_address d.next) s (omega arith) refl;
        bytes = bytes;
        reached = reached-same p s d.to d.same;
        input_is = d.same.input;
        output = d.same.output;
      }

  -- ---- the entry part

  frame-at : (d : HasBranched) → IsFrameAt p d.to shape sp
  frame-at d =
      let whole = (frames_are_small shape).whole in
      let even = g.is_stack.whole in
      let top = g.top in
      let e = up in
      let low = room in
      let least = small in
      let most = ok.top in
      record {
        aligned = omega (arith, whole, even, top, e);
        small = omega (arith, e, most);
        near = omega (arith, least);
        reached = λ i lt. d.reached (sp + i) ∙ in-stack (sp + i) (omega (arith, low)) (omega (arith, lt, e));
      }

  entered : (d : HasBranched) → EntryDone p b.there (blocks_items a (b.setting main) 0 a.function.blocks (exit_items (b.setting main) (b.behind main))) b.end shape shape.saves sp d.to
  entered d = entries_are_done p b.there (b.there (function_label main)) (blocks_items a (b.setting main) 0 a.function.blocks (exit_items (b.setting main) (b.behind main))) b.end shape shape.saves sp d.to d.is_at (d.at_top ∙ sym up) (frame-at d)

  -- ---- the call of `main`

  abbrev own : ℕ
  own = length memory

  owner : Owners
  owner y = if nat_lt y sp then owner_of (data_start p) globals y else if nat_lt y b.start.top then owner_at shape 0 own (y - sp) else Nobody

  abbrev D : CallAt
  D = record {
    extents = b.globals ++ extents_from (sp + objects_at shape) shape.sizes;
    owner = owner;
    sp = sp;
    depth = 0;
    own = own;
    shape = shape;
  }

  owner-in : (i : ℕ) → i < frame_size shape → owner (sp + i) ≡ owner_at shape 0 own i
  unfolding owner
  owner-in i lt =
      let e : sp + i - sp ≡ i = omega arith in
      let f = up in
      cond-false (nat_lt (sp + i) sp) _ _ (le-ltb (sp + i) sp (omega arith))
      ∙ cond-true (nat_lt (sp + i) b.start.top) _ _ (lt-ltb (sp + i) b.start.top (omega (arith, lt, f)))
      ∙ ap (owner_at shape 0 own) e

  owner-below : (y : ℕ) → y < sp → owner y ≡ owner_of (data_start p) globals y
  unfolding owner
  owner-below y lt = cond-true (nat_lt y sp) _ _ (lt-ltb y sp lt)

  owner-above : (y : ℕ) → b.start.top ≤ y → owner y ≡ Nobody
  unfolding owner
  owner-above y le =
      let e = up in
      cond-false (nat_lt y sp) _ _ (le-ltb y sp (omega (arith, le, e)))
      ∙ cond-false (nat_lt y b.start.top) _ _ (le-ltb y b.start.top le)

  -- what the data owns lies below the stack
  data-below : (y : ℕ) → owner_of (data_start p) globals y ≢ Nobody → (data_start p ≤ y) × (y < data_start p + length (data_of p))
  data-below y ne = data_has_owners globals (data_start p) (data_of p) g.data_is y ne

  below-stack : (y : ℕ) → owner_of (data_start p) globals y ≢ Nobody → y < sp
  below-stack y ne =
      let h = (data-below y ne).1 in
      let low = parts.data_below in
      let e = room in
      omega (arith, h, low, e)

  free : (y : ℕ) → stack_start p ≤ y → y < sp → owner y ≡ Nobody
  free y from to = owner-below y to ∙ ⊎_elim (λ e. e) (λ ne. let h = (data-below y ne).1 in let low = parts.data_below in absurd (omega (arith, h, low, from))) (nobody-or-not (owner_of (data_start p) globals y))

  module _ (d : HasBranched) (x : EntryDone p b.there (blocks_items a (b.setting main) 0 a.function.blocks (exit_items (b.setting main) (b.behind main))) b.end shape shape.saves sp d.to) where
    object-ne : (y k : ℕ) → owner_of (data_start p) globals y ≡ OfObject k → owner_of (data_start p) globals y ≢ Nobody
    object-ne y k e f = clash (sym e ∙ f)
      where
        clash : OfObject k ≡ Nobody → ⊥
        clash z = cc

    old-memory : MemoryIs b.globals memory (owner_of (data_start p) globals) (memory_bytes p x.to)
    old-memory = subst (λ l. MemoryIs l memory (owner_of (data_start p) globals) (memory_bytes p x.to)) (sym g.extents)
        (others_may_change (extents_of (data_start p) globals) memory (owner_of (data_start p) globals) (owner_of (data_start p) globals) (memory_bytes p s) (memory_bytes p x.to)
        (globals_stand globals p s g.laid_out g.data_is parts (zeros-bytes stack))
        (record {
          owners = λ y k live e. e;
          same = λ y k live e. x.bytes y (inl (below-stack y (object-ne y k e))) ∙ ap (λ (m : Bytes). m y) d.bytes;
          bytes = x.come.is_at.bytes;
        }))

    are-new : AreNew memory owner (extents_from (sp + objects_at shape) shape.sizes) shape.sizes
    are-new = record {
      sizes_are = sizes-are shape.sizes (sp + objects_at shape);
      sound = λ k e at.
          let z = size-of shape.sizes (sp + objects_at shape) k e at in
          subst IsExtent (sym z.is) (sound k z.size z.made);
      own = λ k e at.
          let z = size-of shape.sizes (sp + objects_at shape) k e at in
          subst (λ (w : Extent). (y : ℕ) → w.base ≤ y → y < w.base + w.size → owner y ≡ OfObject (length memory + k)) (sym z.is) (owns k z.size z.made);
    }
      where
        sound : (k n : ℕ) → slice_get shape.sizes k ≡ Some n → IsExtent (record { base = sp + objects_at shape + bytes_before shape.sizes k; size = n })
        sound k n e =
            let within = ((pieces_of shape 0 own).objects k n e).within in
            let even = (frame-at d).aligned in
            let eight = before-whole shape.sizes k in
            let f = up in
            let most = ok.top in
            record { above = omega arith; aligned = omega (arith, even, eight); small = omega (arith, within, f, most) }

        owns : (k n : ℕ) → slice_get shape.sizes k ≡ Some n → (y : ℕ) → sp + objects_at shape + bytes_before shape.sizes k ≤ y → y < sp + objects_at shape + bytes_before shape.sizes k + n → owner y ≡ OfObject (length memory + k)
        owns k n e y from to =
            let piece = (pieces_of shape 0 own).objects k n e in
            let within = piece.within in
            let i = y - (sp + frame_object_at shape k) in
            let f : sp + (frame_object_at shape k + i) ≡ y = omega (arith, from) in
            ap owner (sym f)
            ∙ owner-in (frame_object_at shape k + i) (omega (arith, from, to, within))
            ∙ piece.owned i (omega (arith, from, to))

    memory-is : MemoryIs D.extents (begin_objects memory shape.sizes) owner (memory_bytes p x.to)
    memory-is = objects_begin b.globals memory (owner_of (data_start p) globals) owner (memory_bytes p x.to) (extents_from (sp + objects_at shape) shape.sizes) shape.sizes old-memory
        (λ y k live e. owner-below y (below-stack y (object-ne y k e)) ∙ e) are-new

    frame-is : FrameIs D.extents owner (memory_bytes p x.to) sp 0 own shape empty
    frame-is = record {
      aligned = (frame-at d).aligned;
      slots = λ t lt. tt;
      outgoing = λ k lt. tt;
      owned = owner-in;
      objects = λ k n e.
          let count : length memory ≡ length b.globals = sym old-memory.count in
          let place : sp + objects_at shape + bytes_before shape.sizes k ≡ sp + frame_object_at shape k = omega arith in
          ap (λ z. slice_get D.extents (z + k)) count
          ∙ get-behind b.globals (extents_from (sp + objects_at shape) shape.sizes) k
          ∙ extent-of shape.sizes (sp + objects_at shape) k n e
          ∙ ap (λ z. Some (record { base = z; size = n })) place;
    }

    reached-all : (y : ℕ) → owner y ≢ Nobody → is_reached p x.to y ≡ true
    reached-all y ne =
        let low = room in
        let e = up in
        x.come.reached y ∙ d.reached y ∙ ⊎_elim
        (λ lt. let h = data-below y (λ f. ne (owner-below y lt ∙ f)) in in-data y h.0 h.1)
        (λ from. ⊎_elim
        (λ to. in-stack y (omega (arith, from, low, e)) to)
        (λ le. absurd (ne (owner-above y le)))
        (cases_lt y b.start.top))
        (cases_lt y sp)

    stands-entry : StandsFor p b.there (blocks_items a (b.setting main) 0 a.function.blocks (exit_items (b.setting main) (b.behind main))) b.end D (begin_objects memory shape.sizes) is_usable empty x.to
    stands-entry = record {
      word = x.come.next;
      is_at = x.come.is_at;
      stack = x.stack;
      frame = record { frame = frame-is; memory_is = memory-is };
      registers = λ r e. tt;
      reached = reached-all;
    }

    stack-is : StackIs p b.there b.start D [] empty x.to
    stack-is = record {
      depth = refl;
      callers_are = (up, record { place = d.next; is = x.back ∙ d.link; items_at = d.items_at });
      arguments = λ k. tt;
      free = free;
      reached = λ y from to. x.come.reached y ∙ d.reached y ∙ in-stack y from to;
    }

    sizes-same : shape.sizes ≡ sizes_in (slice_get (functions_of b.plans) main)
    sizes-same = ap (λ (z : FrameShape). z.sizes) built.shape ∙ ap sizes_in (sym (get-map (λ (z : Plan). z.function) b.plans main a is))

    stands-first : (insns : List TempInsn) → slice_get a.function.blocks 0 ≡ Some insns → StandsFor p b.there (items_from_point b a (entry_point main) insns) b.end D (begin_objects memory shape.sizes) is_usable empty x.to
    stands-first insns first =
        let later = blocks_items a (b.setting main) 1 (drop 1 a.function.blocks) (exit_items (b.setting main) (b.behind main)) in
        let begun = subst (λ l. StandsFor p b.there (blocks_items a (b.setting main) 0 l (exit_items (b.setting main) (b.behind main))) b.end D (begin_objects memory shape.sizes) is_usable empty x.to) (drop-some a.function.blocks 0 insns first) stands-entry in
        let passed = label-passed p b.there (block_items a (b.setting main) 0 insns (blocks_items a (b.setting main) 1 (drop 1 a.function.blocks) (exit_items (b.setting main) (b.behind main)))) b.end D (begin_objects memory shape.sizes) empty x.to ((b.setting main).block_label 0) begun in
        subst (λ l. StandsFor p b.there (items_of_transfers (b.setting main).shape l (items_from_point b a (entry_point main) insns)) b.end D (begin_objects memory shape.sizes) is_usable empty x.to) built.edges.first passed

    -- what the start piece and `main` take
    soon-in : (n m pc next label to len new : ℕ) → 4 * (599 + n) + 600 * pc ≤ 600 * (65536 + 4 * next) → 65536 ≤ pc → next + 3 ≤ label → 4 * m + 600 * (65536 + 4 * label) ≤ 600 * to → to ≤ 65536 + 4 * len → new ≤ suc turns → 4 * (n + m) + (600 * (65536 + 4 * len - to) + 0 + 2400 * len * new + 7200) ≤ 2400 * len * (turns + 2)
    soon-in n m pc next label to len new left above forward part within few =
        let more = mono (2400 * len) new (suc turns) few in
        let all : 2400 * len * (turns + 2) ≡ 2400 * len * suc turns + 2400 * len = omega arith in
        omega (arith, left, above, forward, part, within, more, all)
      where
        mono : (a m k : ℕ) → m ≤ k → a * m ≤ a * k
        mono zero m k h = omega arith
        mono (suc a) m k h = let e = mono a m k h in omega (arith, h, e)

    matched : ComesTo b (first_config b main (start_world globals input turns)) (2400 * length b.program.words * (turns + 2)) s
    matched =
        let first = stands-at a.function.blocks 0 built.edges.entry in
        let most = ok.top in
        let e = up in
        let least = small in
        let z : Matches b (first_config b main (start_world globals input turns)) x.to = record {
          call = D;
          waiting = [];
          plan = a;
          insns = first.one;
          is_in = record { plan = is; block = first.is; within = omega arith };
          shape = built.shape;
          own = refl;
          is_call = record { small = omega (arith, e, most); near = omega (arith, least) };
          globals = extents_grow b.globals (extents_from (sp + objects_at shape) shape.sizes);
          stands = subst (λ l. StandsFor p b.there (items_from_point b a (entry_point main) first.one) b.end D (begin_objects memory l) is_usable empty x.to) sizes-same (stands-first first.one first.is);
          stack = stack-is;
          outer = record { input = x.come.input ∙ d.input_is; output = x.come.output ∙ d.output; bytes = are-bytes };
          waits = tt;
          room = (let f : 0 + room_of b.rooms main ≡ room_of b.rooms main + 0 = omega arith in f);
          peak = omega arith;
        } in
        let begun = is-at.pc in
        let pieces = (subst (λ l. ItemsAt p b.there d.next l b.start.end) ok.ending d.items_at).2.2.2 in
        let main_ahead = g.main_ahead in
        let part = x.come.comes.paid in
        let at = d.is_at.pc in
        record {
          to = x.to;
          comes = record {
            steps = d.comes.steps + x.come.comes.steps;
            run = exec_split p d.comes.steps x.come.comes.steps s ∙ ap (λ q. step.go_on q (step.exec p x.come.comes.steps)) d.comes.run ∙ x.come.comes.run;
          };
          matches = z;
          soon = soon-in d.comes.steps x.come.comes.steps s.pc d.next (b.there (function_label main)) x.to.pc (length b.program.words) (passes_left b (first_config b main (start_world globals input turns))) d.comes.paid (omega (arith, begun)) (omega (arith, pieces, main_ahead)) (omega (arith, part, at)) (pc-within b ok (first_config b main (start_world globals input turns)) x.to z) (passes-most b (first_config b main (start_world globals input turns)));
        }

pub starts_are_matched : (b : Build) (main stack : ℕ) (globals : List DataObject) → BuildStands b → IsBegun b main stack globals → (input : List ℕ) (turns : ℕ) → AreBytes input → FitsStack b (Goes (first_config b main (start_world globals input turns))) → ComesTo b (first_config b main (start_world globals input turns)) (2400 * length b.program.words * (turns + 2)) (behave.start_state b.program stack input)
starts_are_matched b main stack globals ok g input turns bytes fits =
    let z = stands-at b.plans main g.main_there in
    let d = branched b main stack globals ok g input turns bytes fits z.one z.is in
    matched b main stack globals ok g input turns bytes fits z.one z.is d (entered b main stack globals ok g input turns bytes fits z.one z.is d)
