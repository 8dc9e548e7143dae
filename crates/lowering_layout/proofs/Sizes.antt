-- How many blocks and instructions are laid out, and the registers that they name.
use Rattle.std.proofs.Common.{◌≡◌, ◌≤◌, ◌<◌, ℕ, zero, suc, ◌+◌, ◌-◌, ◌*◌, max, List, [], ◌∷◌, ◌++◌, length, refl, ◌∙◌, arith}
use Rattle.std.specs.Prelude.{All}
use Rattle.std.proofs.lemmas.List.{length_push}
use Rattle.std.proofs.lemmas.List.Elements.{All-nil, All-cons}
use Rattle.std.proofs.lemmas.List.Sums.{sum_by_push}
use Rattle.suifvm_ir.specs.declared.insn.VmBranchOp.TheVariants.{IfTrue}
use Rattle.suifvm_ir.specs.declared.insn.VmInsn as vm
use Rattle.suifvm_ir.specs.declared.insn.VmInsn.TheVariants as n
use Rattle.suifvm_ir.specs.Insns.{reads_of, writes_of}
use Rattle.pass_core.specs.Functions.{AllInsns, UsesRegisters, count_of}
use Rattle.lowering_code.specs.declared.item.CodeItem.{CodeItem}
use Rattle.lowering_code.specs.declared.item.CodeItem.TheVariants.{Start, Plain, Jump, Branch, Loop, Enter, Again, Repeat, Return}
use Rattle.lowering_code.specs.Items.{block_total}
use Rattle.lowering_code.specs.Layout.{Layout, with_insn, end_block, end_with, open_loop, head_or_zero, add_item, with_items}
use Rattle.lowering_layout.specs.Good.{IsGood}
use Rattle.lowering_layout.specs.Tops.{registers_top, insn_top, insns_top, blocks_top}

pub count_le : (is : List CodeItem) → block_total is ≤ length is
count_le [] = omega arith
count_le (Start ∷ is) = omega (arith, count_le is)
count_le (Plain insn ∷ is) = omega (arith, count_le is)
count_le (Jump name ∷ is) = omega (arith, count_le is)
count_le (Branch op ty source name ∷ is) = omega (arith, count_le is)
count_le (Loop name ∷ is) = omega (arith, count_le is)
count_le (Enter ∷ is) = omega (arith, count_le is)
count_le (Again ty source ∷ is) = omega (arith, count_le is)
count_le (Repeat ∷ is) = omega (arith, count_le is)
count_le (Return value ∷ is) = omega (arith, count_le is)

-- ---- what each step adds

-- the blocks that are whole, and the instructions in all
record Adds (l m : Layout) (blocks insns : ℕ) : Type 0 where
  blocks_are : length m.blocks ≡ length l.blocks + blocks
  insns_are : count_of m.blocks + length m.insns ≤ count_of l.blocks + length l.insns + insns
  last_is : m.last ≡ l.last

adds_insn : (i : vm.VmInsn) (l : Layout) → Adds l (with_insn i l) 0 1
adds_insn i l = record { blocks_are = omega arith; insns_are = omega (arith, length_push l.insns i); last_is = refl }

adds_block : (l : Layout) → Adds l (end_block l) 1 0
adds_block l = record { blocks_are = length_push l.blocks l.insns ∙ omega arith; insns_are = omega (arith, sum_by_push (λ b. length b) l.blocks l.insns); last_is = refl }

adds_end : (i : vm.VmInsn) (l : Layout) → Adds l (end_with i l) 1 1
adds_end i l =
    let a = adds_insn i l in
    let b = adds_block (with_insn i l) in
    record { blocks_are = b.blocks_are; insns_are = omega (arith, a.insns_are, b.insns_are); last_is = refl }

adds_loop : (l : Layout) → Adds l (open_loop l) 0 1
adds_loop l = record { blocks_are = omega arith; insns_are = omega (arith, length_push l.insns n.Mark); last_is = refl }

adds_item : (i : CodeItem) (l : Layout) → Adds l (add_item i l) (block_total (i ∷ [])) 2
adds_item Start l = let a = adds_block l in record { blocks_are = a.blocks_are; insns_are = omega (arith, a.insns_are); last_is = refl }
adds_item (Plain insn) l = let a = adds_insn insn l in record { blocks_are = a.blocks_are; insns_are = omega (arith, a.insns_are); last_is = refl }
adds_item (Jump name) l = let a = adds_end (n.Jump (l.last - name)) l in record { blocks_are = a.blocks_are; insns_are = omega (arith, a.insns_are); last_is = refl }
adds_item (Branch op ty source name) l = let a = adds_end (n.Branch op ty source (l.last - name)) l in record { blocks_are = a.blocks_are; insns_are = omega (arith, a.insns_are); last_is = refl }
adds_item (Loop name) l =
    let a = adds_end (n.Jump (l.last - name)) l in
    let b = adds_loop (end_with (n.Jump (l.last - name)) l) in
    record { blocks_are = a.blocks_are; insns_are = omega (arith, a.insns_are, b.insns_are); last_is = refl }
adds_item Enter l =
    let a = adds_block l in
    let b = adds_loop (end_block l) in
    record { blocks_are = a.blocks_are; insns_are = omega (arith, a.insns_are, b.insns_are); last_is = refl }
adds_item (Again ty source) l = let a = adds_end (n.Branch IfTrue ty source (head_or_zero l.heads)) l in record { blocks_are = a.blocks_are; insns_are = omega (arith, a.insns_are); last_is = refl }
adds_item Repeat l = let a = adds_end (n.Jump (head_or_zero l.heads)) l in record { blocks_are = a.blocks_are; insns_are = omega (arith, a.insns_are); last_is = refl }
adds_item (Return value) l = let a = adds_end (n.Return value) l in record { blocks_are = a.blocks_are; insns_are = omega (arith, a.insns_are); last_is = refl }

pub count_one : (i : CodeItem) (is : List CodeItem) → block_total (i ∷ is) ≡ block_total (i ∷ []) + block_total is
count_one Start is = omega arith
count_one (Plain insn) is = omega arith
count_one (Jump name) is = omega arith
count_one (Branch op ty source name) is = omega arith
count_one (Loop name) is = omega arith
count_one Enter is = omega arith
count_one (Again ty source) is = omega arith
count_one Repeat is = omega arith
count_one (Return value) is = omega arith

pub blocks_laid : (is : List CodeItem) (l : Layout) → length (with_items is l).blocks ≡ length l.blocks + block_total is
blocks_laid [] l = omega arith
blocks_laid (i ∷ is) l = omega (arith, blocks_laid is (add_item i l), (adds_item i l).blocks_are, count_one i is)

pub insns_laid : (is : List CodeItem) (l : Layout) → count_of (with_items is l).blocks + length (with_items is l).insns ≤ count_of l.blocks + length l.insns + 2 * length is
insns_laid [] l = omega arith
insns_laid (i ∷ is) l = omega (arith, insns_laid is (add_item i l), (adds_item i l).insns_are)

-- one more block: what a step of the loop over items asks
pub room : (i : CodeItem) (is : List CodeItem) (blocks all : ℕ) → blocks + block_total (i ∷ is) ≡ all → blocks ≤ all
room i is blocks all e = omega (arith, e, count_one i is)

pub next_room : (i : CodeItem) (is : List CodeItem) (l : Layout) (all : ℕ) → length l.blocks + block_total (i ∷ is) ≡ all → length (add_item i l).blocks + block_total is ≡ all
next_room i is l all e = omega (arith, e, count_one i is, (adds_item i l).blocks_are)

-- ---- registers

pub insns_top_append : (is js : List vm.VmInsn) → insns_top (is ++ js) ≡ max (insns_top is) (insns_top js)
insns_top_append [] js = omega arith
insns_top_append (i ∷ is) js = omega (arith, insns_top_append is js)

pub blocks_top_push : (bs : List (List vm.VmInsn)) (b : List vm.VmInsn) → blocks_top (bs ++ b ∷ []) ≡ max (blocks_top bs) (insns_top b)
blocks_top_push [] b = omega arith
blocks_top_push (c ∷ bs) b = omega (arith, blocks_top_push bs b)

pub put_top : (blocks : List (List vm.VmInsn)) (insns : List vm.VmInsn) (i : vm.VmInsn) (top : ℕ) → top ≡ max (blocks_top blocks) (insns_top insns)
    → max top (insn_top i) ≡ max (blocks_top blocks) (insns_top (insns ++ i ∷ []))
put_top blocks insns i top e = omega (arith, e, insns_top_append insns (i ∷ []))

pub close_top : (blocks : List (List vm.VmInsn)) (insns : List vm.VmInsn) (top : ℕ) → top ≡ max (blocks_top blocks) (insns_top insns)
    → top ≡ max (blocks_top (blocks ++ insns ∷ [])) (insns_top [])
close_top blocks insns top e = omega (arith, e, blocks_top_push blocks insns)

abbrev pub IsBelow : (most : ℕ) → Layout → Type 0
IsBelow most l = max (blocks_top l.blocks) (insns_top l.insns) ≤ most

below_insn : (most : ℕ) (i : vm.VmInsn) (l : Layout) → insn_top i ≤ most → IsBelow most l → IsBelow most (with_insn i l)
below_insn most i l h k = omega (arith, h, k, insns_top_append l.insns (i ∷ []))

below_block : (most : ℕ) (l : Layout) → IsBelow most l → IsBelow most (end_block l)
below_block most l k = omega (arith, k, blocks_top_push l.blocks l.insns)

below_end : (most : ℕ) (i : vm.VmInsn) (l : Layout) → insn_top i ≤ most → IsBelow most l → IsBelow most (end_with i l)
below_end most i l h k = below_block most (with_insn i l) (below_insn most i l h k)

below_loop : (most : ℕ) (l : Layout) → IsBelow most l → IsBelow most (open_loop l)
below_loop most l k = omega (arith, k, insns_top_append l.insns (n.Mark ∷ []))

pub below_items : (most : ℕ) (is : List CodeItem) (loops : ℕ) (l : Layout) → IsGood most loops is → IsBelow most l → IsBelow most (with_items is l)
below_items most [] loops l good k = k
below_items most (Start ∷ is) loops l good k = below_items most is loops _ good (below_block most l k)
below_items most (Plain insn ∷ is) loops l good k = below_items most is loops _ good.2 (below_insn most insn l good.1 k)
below_items most (Jump name ∷ is) loops l good k = below_items most is loops _ good.1 (below_end most (n.Jump (l.last - name)) l (omega arith) k)
below_items most (Branch op ty source name ∷ is) loops l good k =
    below_items most is loops _ good.2 (below_end most (n.Branch op ty source (l.last - name)) l (omega (arith, good.0)) k)
below_items most (Loop name ∷ is) loops l good k =
    below_items most is (suc loops) _ good.1 (below_loop most (end_with (n.Jump (l.last - name)) l) (below_end most (n.Jump (l.last - name)) l (omega arith) k))
below_items most (Enter ∷ is) loops l good k = below_items most is (suc loops) _ good (below_loop most (end_block l) (below_block most l k))
below_items most (Again ty source ∷ is) zero l good k = absurd good
below_items most (Again ty source ∷ is) (suc loops) l good k =
    below_items most is loops _ good.1 (below_end most (n.Branch IfTrue ty source (head_or_zero l.heads)) l (omega (arith, good.0)) k)
below_items most (Repeat ∷ is) zero l good k = absurd good
below_items most (Repeat ∷ is) (suc loops) l good k =
    below_items most is loops _ good (below_end most (n.Jump (head_or_zero l.heads)) l (omega arith) k)
below_items most (Return value ∷ is) loops l good k = below_items most is loops _ good.1 (below_end most (n.Return value) l (omega (arith, good.0)) k)

-- each register is below the greatest
registers_below : (rs : List ℕ) (most : ℕ) → registers_top rs ≤ most → All (λ r. r < most) rs
registers_below [] most h = All-nil (λ r. r < most)
registers_below (r ∷ rs) most h = All-cons (λ r. r < most) r rs (omega (arith, h)) (registers_below rs most (omega (arith, h)))

insns_below : (is : List vm.VmInsn) (most : ℕ) → insns_top is ≤ most → All (UsesRegisters reads_of writes_of most) is
insns_below [] most h = All-nil (UsesRegisters reads_of writes_of most)
insns_below (i ∷ is) most h =
    All-cons (UsesRegisters reads_of writes_of most) i is
    (registers_below (reads_of i) most (omega (arith, h)), registers_below (writes_of i) most (omega (arith, h)))
    (insns_below is most (omega (arith, h)))

pub blocks_below : (bs : List (List vm.VmInsn)) (most : ℕ) → blocks_top bs ≤ most → AllInsns (UsesRegisters reads_of writes_of most) bs
blocks_below [] most h = All-nil (All (UsesRegisters reads_of writes_of most))
blocks_below (b ∷ bs) most h =
    All-cons (All (UsesRegisters reads_of writes_of most)) b bs (insns_below b most (omega (arith, h))) (blocks_below bs most (omega (arith, h)))
