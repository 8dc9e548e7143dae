-- The words of a function.
use Rattle.std.proofs.Common.{◌≡◌, ℕ, suc, ◌+◌, ◌*◌, ◌≤◌, Bool, true, false, cond, List, [], ◌∷◌, ◌++◌, length, Some, refl, sym, subst, arith}
use Rattle.std.specs.Prelude.{All, slice_get, count_by, if◌then◌else◌}
use Rattle.std.proofs.lemmas.List.Sums.{sum_by-cons}
use Rattle.std.proofs.lemmas.List.Elements.{All-head, All-tail}
use Rattle.alpha_items.specs.declared.item.AsmItem.{AsmItem}
use Rattle.pass_core.specs.Functions.{count_of, edge_count, last_of, successors_of, insn_at, EndsLate}
use Rattle.temp_ir.specs.declared.insn.TempInsn.{TempInsn}
use Rattle.temp_ir.specs.Insns.{targets_of, flows_on_of}
use Rattle.temp_ir.specs.Cost.{makes_call, call_count}
use Rattle.alloc_model.specs.Places.{Plan, transfers_at, registers_at}
use Rattle.alloc_model.specs.Faithful.{HasLists}
use Rattle.alloc_rules.specs.Lean.{most_before, IsLean}
use Rattle.frame_steps.specs.instruction_items.Items.{ItemSetting, insn_items}
use Rattle.frame_steps.specs.function_items.Items.{jump_transfers, top_transfers, end_transfers, point_items, insns_items, block_items, blocks_items, exit_items, function_items}
use Rattle.frame_steps.specs.frame_transfers.Items.{items_of_transfers}
use Rattle.image_code_bounds.specs.frame_words.Words.{most_words_of, bulk_of}
use Rattle.image_code_bounds.proofs.FrameWords.Pieces.{transfers_le, insn_le, entry_le, exit_le}
use Rattle.image_code_bounds.proofs.FrameWords.Edges.{one, IsShort, jump_one, jumps_in, end_one, branch_sum, own_edges, jump_short, end_short, tops_from, tops_short}

-- ---- instructions

abbrev insn_most : TempInsn → ℕ
insn_most x = 24 + 160 * one (makes_call x)

abbrev insns_most : List TempInsn → ℕ
insns_most [] = 0
insns_most (x ∷ xs) = insn_most x + insns_most xs

most-le : (b : Bool) (n : ℕ) → n ≤ (if b then 52 else 10) → 2 * n + 4 ≤ 24 + 160 * one b
most-le true n h = omega (arith, h)
most-le false n h = omega (arith, h)

module _ (a : Plan) (g : ItemSetting) (short : All IsShort a.edges) where
  point-le : (block at : ℕ) (x : TempInsn) (rest : List AsmItem) → length (transfers_at a block at) ≤ most_before x
      → most_words_of (point_items a g block at x rest) ≤ insn_most x + 182 * jump_one x + most_words_of rest
  point-le block at x rest few =
      let body = insn_items g (registers_at a block at) x ++ rest in
      let first = transfers_le g.shape (transfers_at a block at) (items_of_transfers g.shape (jump_transfers a block x) body) in
      let second = transfers_le g.shape (jump_transfers a block x) body in
      let third = insn_le g (registers_at a block at) x rest in
      let most = most-le (makes_call x) (length (transfers_at a block at)) few in
      let jump = jump_short a block x short in
      omega (arith, first, second, third, most, jump)

  insns-le : (block at : ℕ) (insns : List TempInsn) (rest : List AsmItem) → ((k : ℕ) (x : TempInsn) → slice_get insns k ≡ Some x → length (transfers_at a block (at + k)) ≤ most_before x)
      → most_words_of (insns_items a g block at insns rest) ≤ insns_most insns + 182 * jumps_in insns + most_words_of rest
  insns-le block at [] rest few = omega arith
  insns-le block at (x ∷ xs) rest few =
      let here : at + 0 ≡ at = omega arith in
      let first = point-le block at x (insns_items a g block (suc at) xs rest) (subst (λ n. length (transfers_at a block n) ≤ most_before x) here (few 0 x refl)) in
      let more = insns-le block (suc at) xs rest (λ k y e. let next : at + suc k ≡ suc at + k = omega arith in subst (λ n. length (transfers_at a block n) ≤ most_before y) next (few (suc k) y e)) in
      omega (arith, first, more)

  block-le : (block : ℕ) (insns : List TempInsn) (rest : List AsmItem) → ((k : ℕ) (x : TempInsn) → slice_get insns k ≡ Some x → length (transfers_at a block k) ≤ most_before x)
      → most_words_of (block_items a g block insns rest) ≤ 2 * length (top_transfers a block) + insns_most insns + 182 * (jumps_in insns + end_one (last_of insns)) + most_words_of rest
  block-le block insns rest few =
      let behind = items_of_transfers g.shape (end_transfers a block insns) rest in
      let top = transfers_le g.shape (top_transfers a block) (insns_items a g block 0 insns behind) in
      let body = insns-le block 0 insns behind (λ k x e. let here : 0 + k ≡ k = omega arith in subst (λ n. length (transfers_at a block n) ≤ most_before x) (sym here) (few k x e)) in
      let end = transfers_le g.shape (end_transfers a block insns) rest in
      let few_ends = end_short a block insns short in
      omega (arith, top, body, end, few_ends)

  abbrev all_most : List (List TempInsn) → ℕ
  all_most [] = 0
  all_most (insns ∷ blocks) = insns_most insns + all_most blocks

  abbrev own_sum : List (List TempInsn) → ℕ
  own_sum [] = 0
  own_sum (insns ∷ blocks) = jumps_in insns + end_one (last_of insns) + own_sum blocks

  blocks-le : (block : ℕ) (blocks : List (List TempInsn)) (rest : List AsmItem) → ((b k : ℕ) (x : TempInsn) → insn_at blocks b k ≡ Some x → length (transfers_at a (block + b) k) ≤ most_before x)
      → most_words_of (blocks_items a g block blocks rest) ≤ 2 * tops_from a block blocks + all_most blocks + 182 * own_sum blocks + most_words_of rest
  blocks-le block [] rest few = omega arith
  blocks-le block (insns ∷ blocks) rest few =
      let first = block-le block insns (blocks_items a g (suc block) blocks rest) (λ k x e. let here : block + 0 ≡ block = omega arith in subst (λ n. length (transfers_at a n k) ≤ most_before x) here (few 0 k x e)) in
      let more = blocks-le (suc block) blocks rest (λ b k x e. let next : block + suc b ≡ suc block + b = omega arith in subst (λ n. length (transfers_at a n k) ≤ most_before x) next (few (suc b) k x e)) in
      omega (arith, first, more)

  -- ---- the bulk

  insns-bulk : (insns : List TempInsn) → insns_most insns ≡ 24 * length insns + 160 * count_by makes_call insns
  insns-bulk [] = refl
  insns-bulk (x ∷ xs) =
      let rest = insns-bulk xs in
      let count = sum_by-cons (λ y. cond (makes_call y) 1 0) x xs in
      omega (arith, rest, count)

  all-bulk : (blocks : List (List TempInsn)) → all_most blocks ≡ 24 * count_of blocks + 160 * call_count blocks
  all-bulk [] = refl
  all-bulk (insns ∷ blocks) =
      let first = insns-bulk insns in
      let rest = all-bulk blocks in
      let insn_count = sum_by-cons (λ (block : List TempInsn). length block) insns blocks in
      let calls = sum_by-cons (λ block. count_by makes_call block) insns blocks in
      omega (arith, first, rest, insn_count, calls)

  edges-bulk : (blocks : List (List TempInsn)) → All (EndsLate targets_of flows_on_of) blocks → own_sum blocks + branch_sum blocks ≤ edge_count targets_of flows_on_of blocks
  edges-bulk [] late = omega arith
  edges-bulk (insns ∷ blocks) late =
      let first = own_edges insns (All-head (EndsLate targets_of flows_on_of) insns blocks late) in
      let rest = edges-bulk blocks (All-tail (EndsLate targets_of flows_on_of) insns blocks late) in
      let count = sum_by-cons (λ block. length (successors_of targets_of flows_on_of 0 block)) insns blocks in
      omega (arith, first, rest, count)

pub function_le : (a : Plan) (g : ItemSetting) (number : ℕ) (rest : List AsmItem) → IsLean a → HasLists a → All (EndsLate targets_of flows_on_of) a.function.blocks
    → most_words_of (function_items a g number rest) ≤ bulk_of a.function.blocks + most_words_of rest
function_le a g number rest lean lists late =
    let blocks = a.function.blocks in
    let entry = entry_le g.shape g.shape.saves (blocks_items a g 0 blocks (exit_items g rest)) in
    let body = blocks-le a g lean.on_edges 0 blocks (exit_items g rest) (λ b k x e. let here : 0 + b ≡ b = omega arith in subst (λ n. length (transfers_at a n k) ≤ most_before x) (sym here) (lean.before b k x e)) in
    let exit = exit_le g.shape g.shape.saves rest in
    let tops = tops_short a lean.on_edges lists.edges in
    let insns = all-bulk a g lean.on_edges blocks in
    let edges = edges-bulk a g lean.on_edges blocks late in
    omega (arith, entry, body, exit, tops, insns, edges)
