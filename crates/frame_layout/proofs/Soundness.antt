-- The layout of a faithful allocation is sound.
use Rattle.std.proofs.Common.{◌≡◌, ℕ, zero, suc, ◌+◌, ◌-◌, ◌<◌, ◌≤◌, ◌^◌, max, List, [], ◌∷◌, length, map, take, Option, Some, None, lit<, refl, sym, ap, subst, ◌∙◌, arith, ⊎_elim}
use Rattle.std.specs.Prelude.{slice_get, slice_index_or, All, IsTrue, nat_le}
use Rattle.std.specs.Option.{option_map}
use Rattle.std.proofs.lemmas.Bool.{cases_lt, leb-true}
use Rattle.std.proofs.lemmas.List.Sums.{sum_by-cons}
use Rattle.std.proofs.lemmas.Option.{slice_get-map, slice_get_within, get_or_from_slice_get}
use Rattle.std.proofs.lemmas.List.Elements.{All-from_recursion, All-tail, All-contains}
use Rattle.alpha_items.specs.Words.{most_address}
use Rattle.mem_objects.specs.declared.DataObject.{DataObject}
use Rattle.mem_objects.specs.Layout.{end_of, data_end, ObjectsLieFrom}
use Rattle.pass_core.specs.declared.function.MemoryLocal.{MemoryLocal}
use Rattle.suifvm_ir.specs.declared.insn.VmObject.{VmObject}
use Rattle.suifvm_ir.specs.declared.insn.VmObject.TheVariants.{Global, Local}
use Rattle.pass_core.specs.Functions.{count_of, last_of, front_of, AllInsns, GoesToBlocks, EndsLate, IsStraight}
use Rattle.suifvm_ir.specs.Programs.{global_reaches, local_reaches, place_reaches}
use Rattle.temp_ir.specs.declared.insn.TempInsn.{TempInsn}
use Rattle.temp_ir.specs.declared.insn.TempInsn.TheVariants as i
use Rattle.temp_ir.specs.Insns.{targets_of, flows_on_of}
use Rattle.alloc_model.specs.declared.allocation.Allocation.{Allocation}
use Rattle.alloc_model.specs.declared.allocation.Transfer.{Transfer}
use Rattle.alloc_model.specs.declared.allocation.Transfer.TheVariants.{Store, Load, Shift}
use Rattle.alloc_model.specs.Effect.{width_of, widest_in, widest_call}
use Rattle.alloc_model.specs.Places.{Plan, plan_of}
use Rattle.alloc_model.specs.Faithful.{given_registers, IsGivenRegister, IsGivenOrScratch, IsTransfer, HasLists}
use Rattle.frame_memory.specs.flat_frames.Shapes.{frame_size, frame_object_at, objects_size}
use Rattle.frame_memory.proofs.FlatFrames.Shapes.{pieces_of}
use Rattle.frame_steps.specs.instruction_items.Items.{ItemSetting}
use Rattle.frame_emitter.specs.Shapes.{shape_of}
use Rattle.frame_emitter.specs.declared.layout.FrameLayout.{FrameLayout}
use Rattle.frame_emitter.specs.Settings.{global_offset, near_insn, near_blocks, with_blocks, setting_of, IsFit}
use Rattle.frame_emitter.specs.Layouts.{setting_in}
use Rattle.frame_emitter.specs.Moves.{IsMove}
use Rattle.frame_layout.specs.Names.{NamesObjects, CallsBelow}
use Rattle.frame_layout.specs.model.Sound.{IsSound, GoesNext}

-- ---- lists

all-map : {X Y : Type 0} (P : X → Type 0) (Q : Y → Type 0) (f : X → Y) → ((x : X) → P x → Q (f x)) → (xs : List X) → All P xs → All Q (map f xs)
all-map P Q f h [] all k d lt = absurd (omega (arith, lt))
all-map P Q f h (x ∷ xs) all zero d lt = h x (all 0 x (omega arith))
all-map P Q f h (x ∷ xs) all (suc k) d lt = all-map P Q f h xs (All-tail P x xs all) k d (omega (arith, lt))

all-same : {X : Type 0} (P Q : X → Type 0) → ((x : X) → P x → Q x) → (xs : List X) → All P xs → All Q xs
all-same P Q h xs all k d lt = h (slice_index_or xs k d) (all k d lt)

get-or : {X : Type 0} (xs : List X) (k : ℕ) (d : X) → k < length xs → slice_get xs k ≡ Some (slice_index_or xs k d)
get-or [] k d lt = absurd (omega (arith, lt))
get-or (x ∷ xs) zero d lt = refl
get-or (x ∷ xs) (suc k) d lt = get-or xs k d (omega (arith, lt))

-- ---- registers

all-small : All (λ r. r < 32) (28 ∷ given_registers)
all-small = All-from_recursion (λ r. r < 32) (28 ∷ given_registers) (lit< tt, (lit< tt, (lit< tt, (lit< tt, (lit< tt, (lit< tt, (lit< tt, (lit< tt, (lit< tt, (lit< tt, (lit< tt, (lit< tt, (lit< tt, (lit< tt, (lit< tt, (lit< tt, (lit< tt, (lit< tt, (lit< tt, (lit< tt, (lit< tt, (lit< tt, (lit< tt, (lit< tt, (lit< tt, (lit< tt, (lit< tt, tt)))))))))))))))))))))))))))

scratch-small : (r : ℕ) → IsGivenOrScratch r → r < 32
scratch-small r h = All-contains (λ q. q < 32) (28 ∷ given_registers) r all-small h

given-small : (r : ℕ) → IsGivenRegister r → r < 32
given-small r h = All-contains (λ q. q < 32) given_registers r (All-tail (λ q. q < 32) 28 given_registers all-small) h

is-move : (temps : ℕ) (Allowed : ℕ → Type 0) → ((r : ℕ) → Allowed r → r < 32) → (x : Transfer) → IsTransfer temps Allowed x → IsMove temps x
is-move temps Allowed small (Store t r) h = (h.0, small r (h.1 0 r (omega arith)))
is-move temps Allowed small (Load t r) h = (h.0, small r (h.1 0 r (omega arith)))
is-move temps Allowed small (Shift t from to) h = (small from (h.1 0 from (omega arith)), small to (h.1 1 to (omega arith)))

-- ---- near blocks

pub near_length : (blocks : List (List TempInsn)) → length (near_blocks blocks) ≡ length blocks
near_length [] = refl
near_length (b ∷ bs) = ap suc (near_length bs)

insns-length : (insns : List TempInsn) → length (map near_insn insns) ≡ length insns
insns-length [] = refl
insns-length (x ∷ xs) = ap suc (insns-length xs)

pub near_count : (blocks : List (List TempInsn)) → count_of (near_blocks blocks) ≡ count_of blocks
near_count [] = refl
near_count (b ∷ bs) =
    let one = insns-length b in
    let rest = near_count bs in
    sum_by-cons (λ block. length block) (map near_insn b) (near_blocks bs)
    ∙ ap (λ n. n + count_of (near_blocks bs)) one ∙ ap (λ n. length b + n) rest
    ∙ sym (sum_by-cons (λ block. length block) b bs)

near-width : (x : TempInsn) → width_of (near_insn x) ≡ width_of x
near-width (i.Address op d base plus) = refl
near-width (i.ObjectAddress d place plus) = refl
near-width (i.Load op d p plus) = refl
near-width (i.Store op v p plus) = refl
near-width (i.Operate op d l r) = refl
near-width (i.Extend op d s) = refl
near-width (i.ToFixed r s) = refl
near-width (i.FromFixed d r) = refl
near-width (i.SetFixed r n) = refl
near-width (i.WriteArgument n s) = refl
near-width (i.ReadArgument d n) = refl
near-width (i.Branch op s t) = refl
near-width (i.Jump t) = refl
near-width (i.Call g n) = refl
near-width (i.Divide r) = refl
near-width (i.Serve s) = refl
near-width (i.Return v) = refl
near-width i.Mark = refl

near-widest : (insns : List TempInsn) → widest_in (map near_insn insns) ≡ widest_in insns
near-widest [] = refl
near-widest (x ∷ xs) = ap (λ n. max n (widest_in (map near_insn xs))) (near-width x) ∙ ap (λ n. max (width_of x) n) (near-widest xs)

pub near_widest : (blocks : List (List TempInsn)) → widest_call (near_blocks blocks) ≡ widest_call blocks
near_widest [] = refl
near_widest (b ∷ bs) = ap (λ n. max n (widest_call (near_blocks bs))) (near-widest b) ∙ ap (λ n. max (widest_in b) n) (near_widest bs)

-- ---- objects

true-le : (a b : ℕ) → IsTrue (nat_le a b) → a ≤ b
true-le a b h = leb-true a b h

last-step : (o p : DataObject) (ps : List DataObject) → data_end (o ∷ p ∷ ps) ≡ data_end (p ∷ ps)
last-step o p ps =
    let e : length (o ∷ p ∷ ps) - 1 ≡ suc (length (p ∷ ps) - 1) = omega arith in
    ap (λ n. end_of (slice_get (o ∷ p ∷ ps) n)) e

rises : (end : ℕ) (o : DataObject) (os : List DataObject) → ObjectsLieFrom end (o ∷ os) → o.offset + o.size ≤ data_end (o ∷ os)
rises end o [] h = omega arith
rises end o (p ∷ ps) h =
    let more = rises (o.offset + o.size) p ps h.1 in
    let at = h.1.0 in
    let e = last-step o p ps in
    omega (arith, more, at, e)

global-within : (end : ℕ) (os : List DataObject) (k : ℕ) (o : DataObject) → ObjectsLieFrom end os → slice_get os k ≡ Some o → o.offset + o.size ≤ data_end os
global-within end [] k o h e = let clash : ⊥ = cc in absurd clash
global-within end (q ∷ os) zero o h e =
    let same : q ≡ o = cc in
    let low = rises end q os h in
    subst (λ z. z.offset + z.size ≤ data_end (q ∷ os)) same low
global-within end (q ∷ []) (suc k) o h e = let clash : ⊥ = cc in absurd clash
global-within end (q ∷ p ∷ ps) (suc k) o h e =
    let more = global-within (q.offset + q.size) (p ∷ ps) k o h.1 e in
    let s = last-step q p ps in
    omega (arith, more, s)

-- ---- instructions

-- what is known of an instruction of the function
abbrev pub IsKnown : (first count : ℕ) → List DataObject → List MemoryLocal → TempInsn → Type 0
IsKnown first count globals objects x = CallsBelow first x × NamesObjects globals objects x × GoesToBlocks targets_of count x

module _ (p : Plan) (globals : List DataObject) (objects : List MemoryLocal) (first count : ℕ) (labels : first + count < 2 ^ 32) (laid : ObjectsLieFrom 0 globals) (data_small : data_end globals ≤ 2 ^ 26)
    (sizes : p.function.sizes ≡ map (λ o. o.size) objects) (small : frame_size (shape_of p) ≤ 2 ^ 29) where
  abbrev pub g : ItemSetting
  g = setting_of p globals first

  global-fit : (o : Option DataObject) (k plus : ℕ) → slice_get globals k ≡ o → IsTrue (global_reaches plus o) → g.global_at k + plus < 2 ^ 32
  global-fit None k plus e h = let clash : ⊥ = cc in absurd clash
  global-fit (Some o) k plus e h =
      let fits = true-le plus o.size h in
      let low = global-within 0 globals k o laid e in
      let at : g.global_at k ≡ o.offset = ap global_offset e in
      omega (arith, fits, low, at, data_small)

  local-fit : (o : Option MemoryLocal) (k plus : ℕ) → slice_get objects k ≡ o → IsTrue (local_reaches plus o) → frame_object_at g.shape k + plus < most_address
  local-fit None k plus e h = let clash : ⊥ = cc in absurd clash
  local-fit (Some o) k plus e h =
      let fits = true-le plus o.size h in
      let made : slice_get p.function.sizes k ≡ Some o.size =
      ap (λ ns. slice_get ns k) sizes ∙ slice_get-map (λ z. z.size) objects k ∙ ap (option_map (λ z. z.size)) e in
      let within = ((pieces_of (shape_of p) 0 0).objects k o.size made).within in
      omega (arith, fits, within, small)

  place-fit : (place : VmObject) (d plus : ℕ) → IsTrue (place_reaches globals objects plus place) → IsFit g (i.ObjectAddress d place plus)
  place-fit (Global k) d plus h = global-fit (slice_get globals k) k plus refl h
  place-fit (Local k) d plus h = local-fit (slice_get objects k) k plus refl h

  fit : (x : TempInsn) → IsKnown first count globals objects x → IsFit g (near_insn x)
  fit (i.Address op d base plus) h = tt
  fit (i.ObjectAddress d place plus) h = place-fit place d plus h.1
  fit (i.Load op d q plus) h = tt
  fit (i.Store op v q plus) h = tt
  fit (i.Operate op d l r) h = tt
  fit (i.Extend op d s) h = tt
  fit (i.ToFixed r s) h = tt
  fit (i.FromFixed d r) h = tt
  fit (i.SetFixed r n) h = tt
  fit (i.WriteArgument n s) h = omega arith
  fit (i.ReadArgument d n) h = omega arith
  fit (i.Branch op s t) h = let below = (h.2 0 t (omega arith)).1 in omega (arith, below, labels)
  fit (i.Jump t) h = let below = (h.2 0 t (omega arith)).1 in omega (arith, below, labels)
  fit (i.Call f n) h = let below = h.0 in omega (arith, below, labels)
  fit (i.Divide r) h = tt
  fit (i.Serve s) h = tt
  fit (i.Return v) h = tt
  fit i.Mark h = tt

  pub all_fit : (blocks : List (List TempInsn)) → AllInsns (IsKnown first count globals objects) blocks → All (All (IsFit g)) (near_blocks blocks)
  all_fit blocks h =
      all-map (All (IsKnown first count globals objects)) (All (IsFit g)) (map near_insn)
      (λ insns known. all-map (IsKnown first count globals objects) (IsFit g) near_insn fit insns known) blocks h

-- ---- jumps

goes-by : (zs : List TempInsn) (x : TempInsn) → ((t : ℕ) → x ≡ i.Jump t → last_of zs ≡ Some (i.Jump t)) → GoesNext zs (near_insn x)
goes-by zs (i.Address op d base plus) h = tt
goes-by zs (i.ObjectAddress d place plus) h = tt
goes-by zs (i.Load op d q plus) h = tt
goes-by zs (i.Store op v q plus) h = tt
goes-by zs (i.Operate op d l r) h = tt
goes-by zs (i.Extend op d s) h = tt
goes-by zs (i.ToFixed r s) h = tt
goes-by zs (i.FromFixed d r) h = tt
goes-by zs (i.SetFixed r n) h = tt
goes-by zs (i.WriteArgument n s) h = tt
goes-by zs (i.ReadArgument d n) h = tt
goes-by zs (i.Branch op s t) h = tt
goes-by zs (i.Jump t) h = h t refl
goes-by zs (i.Call f n) h = tt
goes-by zs (i.Divide r) h = tt
goes-by zs (i.Serve s) h = tt
goes-by zs (i.Return v) h = tt
goes-by zs i.Mark h = tt

take-get : {X : Type 0} (xs : List X) (n k : ℕ) → k < n → slice_get (take n xs) k ≡ slice_get xs k
take-get xs zero k lt = absurd (omega (arith, lt))
take-get [] (suc n) k lt = refl
take-get (x ∷ xs) (suc n) zero lt = refl
take-get (x ∷ xs) (suc n) (suc k) lt = take-get xs n k (omega (arith, lt))

all-get : {X : Type 0} (P : X → Type 0) (xs : List X) (k : ℕ) (x : X) → All P xs → slice_get xs k ≡ Some x → P x
all-get P xs k x all is = subst P (get_or_from_slice_get xs k x x is) (all k x (slice_get_within xs k x is))

jump-last : (insns : List TempInsn) (k t : ℕ) → EndsLate targets_of flows_on_of insns → slice_get insns k ≡ Some (i.Jump t) → last_of (map near_insn insns) ≡ Some (i.Jump t)
jump-last insns k t late e = ⊎_elim
    (λ lt.
    let straight = all-get (IsStraight targets_of flows_on_of) (front_of insns) k (i.Jump t) late (take-get insns (length insns - 1) k lt ∙ e) in
    let none = straight.0 in
    absurd (omega (arith, none)))
    (λ le.
    let inside = slice_get_within insns k (i.Jump t) e in
    let same = insns-length insns in
    let at : length (map near_insn insns) - 1 ≡ k = omega (arith, le, inside, same) in
    ap (slice_get (map near_insn insns)) at ∙ slice_get-map near_insn insns k ∙ ap (option_map near_insn) e)
    (cases_lt k (length insns - 1))

goes-all : (insns : List TempInsn) → EndsLate targets_of flows_on_of insns → All (GoesNext (map near_insn insns)) (map near_insn insns)
goes-all insns late = all-map (λ x. (t : ℕ) → x ≡ i.Jump t → last_of (map near_insn insns) ≡ Some (i.Jump t)) (GoesNext (map near_insn insns)) near_insn
    (goes-by (map near_insn insns)) insns
    (λ k d lt t e. jump-last insns k t late (get-or insns k d lt ∙ ap Some e))

pub all_go : (blocks : List (List TempInsn)) → All (EndsLate targets_of flows_on_of) blocks → All (λ insns. All (GoesNext insns) insns) (near_blocks blocks)
all_go blocks h = all-map (EndsLate targets_of flows_on_of) (λ insns. All (GoesNext insns) insns) (map near_insn) goes-all blocks h

-- ---- the layout

frame-small : (p : Plan) → widest_call p.function.blocks ≤ 2 ^ 24 → p.temps ≤ 2 ^ 24 → objects_size p.function.sizes ≤ 2 ^ 26 → frame_size (shape_of p) ≤ 2 ^ 29
frame-small p wide temps objects = omega (arith, wide, temps, objects)

pub sound_of : (a : Allocation) (globals : List DataObject) (first : ℕ) (l : FrameLayout) → HasLists (plan_of a)
    → AllInsns (CallsBelow first) a.func.blocks → first + length a.func.blocks < 2 ^ 32 - 1 → ObjectsLieFrom 0 globals → data_end globals ≤ 2 ^ 26
    → AllInsns (NamesObjects globals a.func.objects) a.func.blocks → objects_size (map (λ o. o.size) a.func.objects) ≤ 2 ^ 26 → a.func.temps ≤ 2 ^ 24 → widest_call a.func.blocks ≤ 2 ^ 24
    → l.allocation.now ≡ a → l.blocks.now ≡ near_blocks a.func.blocks → l.first_label ≡ first
    → setting_in l ≡ setting_of (with_blocks (plan_of a) (near_blocks a.func.blocks)) globals first → IsSound l
sound_of a globals first l lists calls labels laid data_small names objects temps wide is_a is_blocks is_first is_setting =
    let bs = a.func.blocks in
    let p = with_blocks (plan_of a) (near_blocks bs) in
    let size = near_length bs in
    let count = near_count bs in
    let near_wide = near_widest bs in
    let few = a.func.few_blocks in
    let few_count = a.func.few_insns in
    let known : AllInsns (IsKnown first (length bs) globals a.func.objects) bs =
    λ k d lt j x inside. (calls k d lt j x inside, names k d lt j x inside, a.func.targets k d lt j x inside) in
    let fits : All (All (IsFit (setting_of p globals first))) (near_blocks bs) =
    all_fit p globals a.func.objects first (length bs) (omega (arith, labels)) laid data_small refl
    (frame-small p (omega (arith, near_wide, wide)) temps objects) bs known in
    record {
      moves = subst (λ z. All (All (IsMove z.func.temps)) z.at) (sym is_a)
          (all-same (All (IsTransfer a.func.temps IsGivenRegister)) (All (IsMove a.func.temps))
          (λ xs h. all-same (IsTransfer a.func.temps IsGivenRegister) (IsMove a.func.temps) (is-move a.func.temps IsGivenRegister given-small) xs h) a.at lists.transfers);
      edge_moves = subst (λ z. All (λ e. All (IsMove z.func.temps) e.code) z.edges) (sym is_a)
          (all-same (λ e. All (IsTransfer a.func.temps IsGivenOrScratch) e.code) (λ e. All (IsMove a.func.temps) e.code)
          (λ e h. all-same (IsTransfer a.func.temps IsGivenOrScratch) (IsMove a.func.temps) (is-move a.func.temps IsGivenOrScratch scratch-small) e.code h) a.edges lists.edge_transfers);
      registers = subst (λ z. All (All (λ r. r < 32)) z.regs) (sym is_a)
          (all-same (All IsGivenRegister) (All (λ r. r < 32)) (λ rs h. all-same IsGivenRegister (λ r. r < 32) given-small rs h) a.regs lists.given);
      fit = subst (λ z. All (All (IsFit z)) l.blocks.now) (sym is_setting)
          (subst (λ z. All (All (IsFit (setting_of p globals first))) z) (sym is_blocks) fits);
      jumps = subst (λ z. All (λ insns. All (GoesNext insns) insns) z) (sym is_blocks) (all_go bs a.func.straight);
      few_blocks = let e : length l.blocks.now ≡ length (near_blocks bs) = ap length is_blocks in omega (arith, e, size, few);
      few_insns = let e : count_of l.blocks.now ≡ count_of (near_blocks bs) = ap count_of is_blocks in omega (arith, e, count, few_count);
      labels = let e : length l.blocks.now ≡ length (near_blocks bs) = ap length is_blocks in omega (arith, e, size, labels, is_first);
    }
