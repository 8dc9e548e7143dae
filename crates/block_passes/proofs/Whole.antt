-- What passes give of programs.
use Rattle.std.proofs.Common.{◌≡◌, ℕ, ◌+◌, ◌^◌, ◌<◌, ◌≤◌, List, [], ◌∷◌, length, sum_by, All, sym, subst, arith}
use Rattle.std.specs.Prelude.{IsTrue}
use Rattle.std.specs.List.{AllZip}
use Rattle.std.proofs.lemmas.List.Sums.{sum_by-cons}
use Rattle.std.proofs.lemmas.List.Elements.{All-nil, All-cons, All-head, All-tail}
use Rattle.pass_core.specs.Functions as functions
use Rattle.temp_ir.specs.declared.insn.TempInsn.{TempInsn}
use Rattle.temp_ir.specs.declared.program.TempProgram.{TempProgram}
use Rattle.temp_ir.specs.Insns.{flows_on_of}
use Rattle.temp_ir.specs.Programs.{TempFn}
use Rattle.cfg.specs.Paths.{IsReachable}
use Rattle.block_pass_laws.specs.argument_laws.Kept.{AreWithinBlocks}
use Rattle.block_pass_laws.specs.temp_walk_laws.SameRuns.{SameTempFunctions}
use Rattle.block_pass_laws.proofs.BackLaws.Splits.{same_count}
use Rattle.block_pass_laws.proofs.ArgumentLaws.Widths.{functions_within}
use Rattle.block_pass_laws.proofs.EndingLaws.Kept.{endings_kept}
use Rattle.block_coalescing.specs.Kept.{IsCoalesced, KeepsShape, CoalescedProgramsKeepEndings}
use Rattle.block_passes.specs.Clauses.{IsReached, IsSplit}
use Rattle.block_passes.specs.Keeps.{KeepsFunction, WritesWithinCalls, Keeps}
use Rattle.block_passes.specs.model.Limits.{split_size, CanBeSplit}
use Rattle.block_passes.specs.model.Walks.{KeepsWalks, IsReachedPart, HasFewerCopies, HasSplitEdges}
use Rattle.block_passes.proofs.Edges.{few_edges}
use Rattle.block_passes.proofs.Turns.{each_gives, all_give}

-- ---- functions with the same walks

same_functions : (splits : ℕ) (fs gs : List TempFn) → AllZip (KeepsWalks splits) fs gs → All WritesWithinCalls fs → SameTempFunctions fs gs
same_functions splits [] [] h within = tt
same_functions splits [] (g ∷ gs) h within = absurd h
same_functions splits (f ∷ fs) [] h within = absurd h
same_functions splits (f ∷ fs) (g ∷ gs) h within =
    let here : AreWithinBlocks f.blocks = All-head WritesWithinCalls f fs within in (
      record {
        name = sym h.0.keeps.name;
        objects = sym h.0.keeps.objects;
        walks = h.0.walks;
        before = functions_within f.blocks here;
        after = functions_within g.blocks (h.0.keeps.arguments.within here);
      },
      same_functions splits fs gs h.1 (All-tail WritesWithinCalls f fs within),
    )

pub walks_keep : (splits : ℕ) (before after : TempProgram) → AllZip (KeepsWalks splits) before.functions after.functions → after.globals ≡ before.globals → Keeps splits before after
walks_keep splits before after h globals = record {
  functions = each_gives (KeepsWalks splits) (KeepsFunction splits) (λ f g k. k.keeps) before.functions after.functions h;
  globals = globals;
  endings = λ within. endings_kept before after (sym globals) (same_functions splits before.functions after.functions h within);
}

-- ---- the passes

pub parts_keep : (fs gs : List TempFn) → AllZip IsReachedPart fs gs → AllZip (KeepsWalks 0) fs gs
parts_keep fs gs h = each_gives IsReachedPart (KeepsWalks 0) (λ f g p. p.kept) fs gs h

pub parts_reached : (fs gs : List TempFn) → AllZip IsReachedPart fs gs → All IsReached gs
parts_reached fs gs h = all_give IsReachedPart (λ f. Unit {0}) IsReached (λ f g p none. p.reached) fs gs h (λ k d lt. tt)

pub splits_keep : (fs gs : List TempFn) → AllZip HasSplitEdges fs gs → AllZip (KeepsWalks 1) fs gs
splits_keep fs gs h = each_gives HasSplitEdges (KeepsWalks 1) (λ f g p. p.kept) fs gs h

pub splits_reached : (fs gs : List TempFn) → AllZip HasSplitEdges fs gs → All IsReached fs → All IsReached gs
splits_reached fs gs h all = all_give HasSplitEdges IsReached IsReached (λ f g p. p.reached) fs gs h all

pub splits_split : (fs gs : List TempFn) → AllZip HasSplitEdges fs gs → All IsSplit gs
splits_split fs gs h = all_give HasSplitEdges (λ f. Unit {0}) IsSplit (λ f g p none. p.split) fs gs h (λ k d lt. tt)

-- ---- copies and dead instructions

pub copies_keep : (fs gs : List TempFn) → AllZip HasFewerCopies fs gs → AllZip (KeepsFunction 0) fs gs
copies_keep fs gs h = each_gives HasFewerCopies (KeepsFunction 0) (λ f g p. p.keeps) fs gs h

pub copies_coalesced : (fs gs : List TempFn) → AllZip HasFewerCopies fs gs → AllZip IsCoalesced fs gs
copies_coalesced fs gs h = each_gives HasFewerCopies IsCoalesced (λ f g p. p.coalesced) fs gs h

pub copies_reached : (fs gs : List TempFn) → AllZip HasFewerCopies fs gs → All IsReached fs → All IsReached gs
copies_reached fs gs h all = all_give HasFewerCopies IsReached IsReached (λ f g p. p.reached) fs gs h all

-- a function with the edges of another one, and no more blocks
pub still_reached : (f g : TempFn) → KeepsShape f g → IsReached f → IsReached g
still_reached f g shape reached block within =
    let blocks = shape.sizes.blocks in
    subst (λ nexts. IsReachable nexts block) (sym shape.edges) (reached block (omega (arith, blocks, within)))

pub coalesced_keeps : (f g : TempFn) → IsCoalesced f g → KeepsShape f g → KeepsFunction 0 f g
coalesced_keeps f g is shape =
    let temps = is.temps in
    record {
      name = is.name;
      params = is.params;
      temps = omega (arith, temps);
      objects = is.objects;
      settled = shape.settled;
      marks = shape.marks;
      names = shape.names;
      arguments = shape.arguments;
      sizes = shape.sizes;
    }

pub coalesced_program_keeps : CoalescedProgramsKeepEndings → (before after : TempProgram) → AllZip HasFewerCopies before.functions after.functions → after.globals ≡ before.globals → Keeps 0 before after
coalesced_program_keeps keep before after h globals = record {
  functions = copies_keep before.functions after.functions h;
  globals = globals;
  endings = λ within. keep before after globals (copies_coalesced before.functions after.functions h);
}

-- ---- sizes

-- each function is small where all together are
pub each_small : (fs : List TempFn) → sum_by split_size fs < 2 ^ 30 → All CanBeSplit fs
each_small [] few = All-nil CanBeSplit
each_small (f ∷ fs) few =
    let sum = sum_by-cons split_size f fs in
    All-cons CanBeSplit f fs (omega (arith, sum, few)) (each_small fs (omega (arith, sum, few)))

-- and stays so where no edges are split
still_small : (f g : TempFn) → KeepsFunction 0 f g → CanBeSplit f → CanBeSplit g
still_small f g p small =
    let blocks = p.sizes.blocks in
    let insns = p.sizes.insns in
    omega (arith, blocks, insns, small)

pub all_small : (before after : TempProgram) → Keeps 0 before after → sum_by split_size before.functions < 2 ^ 30 → All CanBeSplit after.functions
all_small before after kept few =
    all_give (KeepsFunction 0) CanBeSplit CanBeSplit still_small before.functions after.functions kept.functions (each_small before.functions few)

-- a function has a block, as nothing runs off its end
has_block : (f : TempFn) → 1 ≤ length f.blocks
has_block f = by_blocks f.blocks f.stops
  where
    by_blocks : (blocks : List (List TempInsn)) → IsTrue (functions.stops flows_on_of blocks) → 1 ≤ length blocks
    by_blocks [] h = absurd (cc)
    by_blocks (block ∷ blocks) h = omega arith

abbrev labels_of : TempFn → ℕ
labels_of g = length g.blocks + 2

few_labels : (fs gs : List TempFn) → AllZip (KeepsFunction 1) fs gs → sum_by labels_of gs ≤ sum_by split_size fs
few_labels [] [] h = omega arith
few_labels [] (g ∷ gs) h = absurd h
few_labels (f ∷ fs) [] h = absurd h
few_labels (f ∷ fs) (g ∷ gs) h =
    let blocks = h.0.sizes.blocks in
    let edges = few_edges 0 f.blocks in
    omega (arith, blocks, edges, same_count 0 f.blocks, has_block f, few_labels fs gs h.1, sum_by-cons split_size f fs, sum_by-cons labels_of g gs)

pub labels_below : (fs gs : List TempFn) → AllZip (KeepsFunction 1) fs gs → sum_by split_size fs < 2 ^ 30 → sum_by (λ (g : TempFn). length g.blocks + 2) gs < 2 ^ 30
labels_below fs gs h few = omega (arith, few_labels fs gs h, few)
