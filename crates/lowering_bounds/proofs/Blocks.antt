-- The blocks of code that fits: their instructions pass the test and have few registers, and cost what their items do.
use Rattle.std.proofs.Common.{◌≡◌, ◌≤◌, ℕ, zero, suc, ◌+◌, ◌*◌, ◌-◌, nat_le, Bool, true, false, ◌&&◌, IsTrue, List, [], ◌∷◌, ◌++◌, Option, Some, None, length, refl, sym, ap, ◌∙◌, arith, append_assoc, length-append, le-leb}
use Rattle.std.specs.Prelude.{All, sum_by, if◌then◌else◌}
use Rattle.std.proofs.lemmas.List.{length_push}
use Rattle.std.proofs.lemmas.List.Elements.{All-nil, All-cons, All-append, All-push, All-head, All-tail, All-weaker}
use Rattle.std.proofs.lemmas.List.Sums.{sum_by_push, sum_by-append}
use Rattle.suifvm_ir.specs.declared.types.VmType.TheVariants.{S32}
use Rattle.suifvm_ir.specs.declared.types.VmType.{VmType}
use Rattle.suifvm_ir.specs.declared.insn.VmBinaryOp.{VmBinaryOp}
use Rattle.suifvm_ir.specs.declared.insn.VmBinaryOp.TheVariants as vb
use Rattle.suifvm_ir.specs.declared.insn.VmBranchOp.{VmBranchOp}
use Rattle.suifvm_ir.specs.declared.insn.TypedRegister.{TypedRegister}
use Rattle.suifvm_ir.specs.declared.insn.VmBranchOp.TheVariants.{IfTrue}
use Rattle.suifvm_ir.specs.declared.insn.VmInsn as vm
use Rattle.suifvm_ir.specs.declared.insn.VmInsn.TheVariants as n
use Rattle.suifvm_ir.specs.Insns.{targets_of, flows_on_of}
use Rattle.pass_core.specs.Functions.{AllInsns, last_of, successors_after, successors_of, edge_count, count_of}
use Rattle.suifvm_ir.specs.Programs.{weight_of, arguments_of}
use Rattle.suifvm_ir.specs.Cost.{most_binary_insns, insn_cost}
use Rattle.lowering_code.specs.declared.item.CodeItem.{CodeItem}
use Rattle.lowering_code.specs.declared.item.CodeItem.TheVariants.{Start, Plain, Jump, Branch, Loop, Enter, Again, Repeat, Return}
use Rattle.lowering_code.specs.Items.{block_total}
use Rattle.lowering_code.specs.Registers.{temporary}
use Rattle.lowering_code.specs.Layout.{Layout, with_insn, end_block, end_with, open_loop, head_or_zero, outer_heads, with_items, no_block, blocks_of}
use Rattle.lowering_code.specs.Functions.{end_code}
use Rattle.lowering_layout.specs.Good.{IsGood}
use Rattle.lowering_layout.specs.Tops.{insn_top, insns_top, blocks_top}
use Rattle.lowering_layout.proofs.Laid.{Straight, last_is}
use Rattle.c_typing_struct_layout.proofs.CLayoutLaws.Truth.{all_at}
use Rattle.lowering_bounds.specs.model.Costs.{plain_cost, items_cost}
use Rattle.lowering_bounds.specs.model.Fits.{Fits, IsNarrow}

-- ---- what fits and is narrow

abbrev pub is_narrow : (vm.VmInsn → Bool) → (wide : ℕ) → vm.VmInsn → Bool
is_narrow passes wide i = passes i && nat_le (arguments_of i) wide

pub merge : (most : ℕ) (passes : vm.VmInsn → Bool) (wide : ℕ) (is : List CodeItem) → Fits most passes is → IsNarrow wide is → Fits most (is_narrow passes wide) is
merge most passes wide [] f h = tt
merge most passes wide (Start ∷ is) f h = merge most passes wide is f h
merge most passes wide (Plain insn ∷ is) f h = (f.0, ap (λ b. b && nat_le (arguments_of insn) wide) f.1 ∙ le-leb (arguments_of insn) wide h.0, merge most passes wide is f.2 h.1)
merge most passes wide (Jump name ∷ is) f h = merge most passes wide is f h
merge most passes wide (Branch op ty source name ∷ is) f h = (f.0, merge most passes wide is f.1 h)
merge most passes wide (Loop name ∷ is) f h = merge most passes wide is f h
merge most passes wide (Enter ∷ is) f h = merge most passes wide is f h
merge most passes wide (Again ty source ∷ is) f h = (f.0, merge most passes wide is f.1 h)
merge most passes wide (Repeat ∷ is) f h = merge most passes wide is f h
merge most passes wide (Return value ∷ is) f h = (f.0, merge most passes wide is f.1 h)

-- ---- what holds of each instruction

module _ (most : ℕ) (passes : vm.VmInsn → Bool) where
  abbrev pub Q : vm.VmInsn → Type 0
  Q i = (insn_top i ≤ most) × IsTrue (passes i)

  -- those that only say where to go on
  pub record PassesWays : Type 0 where
    pub jump : (t : ℕ) → IsTrue (passes (n.Jump t))
    pub branch : (op : VmBranchOp) (ty : VmType) (r t : ℕ) → IsTrue (passes (n.Branch op ty r t))
    pub give : (v : Option TypedRegister) → IsTrue (passes (n.Return v))
    pub mark : IsTrue (passes n.Mark)
    pub constant : (r : ℕ) → IsTrue (passes (n.LoadConstant S32 r 0))

  pub record Holds (l : Layout) : Type 0 where
    pub blocks : AllInsns Q l.blocks
    pub insns : All Q l.insns

  pub holds_insn : (i : vm.VmInsn) (l : Layout) → Q i → Holds l → Holds (with_insn i l)
  holds_insn i l q h = record { blocks = h.blocks; insns = All-push Q l.insns i h.insns q }

  holds_block : (l : Layout) → Holds l → Holds (end_block l)
  holds_block l h = record { blocks = All-push (All Q) l.blocks l.insns h.blocks h.insns; insns = All-nil Q }

  holds_end : (i : vm.VmInsn) (l : Layout) → Q i → Holds l → Holds (end_with i l)
  holds_end i l q h = holds_block (with_insn i l) (holds_insn i l q h)

  module _ (ways : PassesWays) where
    holds_loop : (l : Layout) → Holds l → Holds (open_loop l)
    holds_loop l h = record { blocks = h.blocks; insns = All-push Q l.insns n.Mark h.insns (omega arith, ways.mark) }

    pub holds_items : (is : List CodeItem) (l : Layout) → Fits most passes is → Holds l → Holds (with_items is l)
    holds_items [] l f h = h
    holds_items (Start ∷ is) l f h = holds_items is _ f (holds_block l h)
    holds_items (Plain insn ∷ is) l f h = holds_items is _ f.2 (holds_insn insn l (f.0, f.1) h)
    holds_items (Jump name ∷ is) l f h = holds_items is _ f (holds_end (n.Jump (l.last - name)) l (omega arith, ways.jump (l.last - name)) h)
    holds_items (Branch op ty source name ∷ is) l f h = holds_items is _ f.1 (holds_end (n.Branch op ty source (l.last - name)) l (omega (arith, f.0), ways.branch op ty source (l.last - name)) h)
    holds_items (Loop name ∷ is) l f h = holds_items is _ f (holds_loop (end_with (n.Jump (l.last - name)) l) (holds_end (n.Jump (l.last - name)) l (omega arith, ways.jump (l.last - name)) h))
    holds_items (Enter ∷ is) l f h = holds_items is _ f (holds_loop (end_block l) (holds_block l h))
    holds_items (Again ty source ∷ is) l f h = holds_items is _ f.1 (drop_heads (holds_end (n.Branch IfTrue ty source (head_or_zero l.heads)) l (omega (arith, f.0), ways.branch IfTrue ty source (head_or_zero l.heads)) h))
      where
        drop_heads : {m : Layout} → Holds m → Holds (record m { heads = outer_heads m.heads })
        drop_heads h = record { blocks = h.blocks; insns = h.insns }
    holds_items (Repeat ∷ is) l f h = holds_items is _ f (drop_heads (holds_end (n.Jump (head_or_zero l.heads)) l (omega arith, ways.jump (head_or_zero l.heads)) h))
      where
        drop_heads : {m : Layout} → Holds m → Holds (record m { heads = outer_heads m.heads })
        drop_heads h = record { blocks = h.blocks; insns = h.insns }
    holds_items (Return value ∷ is) l f h = holds_items is _ f.1 (holds_end (n.Return value) l (omega (arith, f.0), ways.give value) h)

    end_holds : (locals : ℕ) (main : Bool) → locals + 1 ≤ most → All Q (end_code locals main)
    end_holds locals true h =
        let value : Option TypedRegister = Some (record { ty = S32; register = temporary locals 0 S32 }) in
        All-cons Q (n.LoadConstant S32 (temporary locals 0 S32) 0) (n.Return value ∷ []) (omega (arith, h), ways.constant (temporary locals 0 S32))
        (All-cons Q (n.Return value) [] (omega (arith, h), ways.give value) (All-nil Q))
    end_holds locals false h = All-cons Q (n.Return None) [] (omega arith, ways.give None) (All-nil Q)

    pub holds_all : (locals : ℕ) (main : Bool) (is : List CodeItem) → locals + 1 ≤ most → Fits most passes is → AllInsns Q (blocks_of (end_code locals main) is)
    holds_all locals main is low f =
        let l : Layout = with_items is (no_block (block_total is)) in
        let h : Holds l = holds_items is (no_block (block_total is)) f (record { blocks = All-nil (All Q); insns = All-nil Q }) in
        All-push (All Q) l.blocks (l.insns ++ end_code locals main) h.blocks (All-append Q l.insns (end_code locals main) h.insns (end_holds locals main low))

  -- ---- what follows for the blocks

  insns_low : (is : List vm.VmInsn) → All Q is → insns_top is ≤ most
  insns_low [] h = omega arith
  insns_low (i ∷ is) h = omega (arith, (All-head Q i is h).0, insns_low is (All-tail Q i is h))

  pub blocks_low : (bs : List (List vm.VmInsn)) → AllInsns Q bs → blocks_top bs ≤ most
  blocks_low [] h = omega arith
  blocks_low (b ∷ bs) h = omega (arith, insns_low b (All-head (All Q) b bs h), blocks_low bs (All-tail (All Q) b bs h))

  pub all_pass : (bs : List (List vm.VmInsn)) → AllInsns Q bs → AllInsns (λ i. IsTrue (passes i)) bs
  all_pass bs h = All-weaker (All Q) (All (λ i. IsTrue (passes i))) (λ b a. All-weaker Q (λ i. IsTrue (passes i)) (λ i q. q.1) b a) bs h

-- ---- cost and size

abbrev edges : List vm.VmInsn → ℕ
edges b = length (successors_of targets_of flows_on_of 0 b)

abbrev insns_cost : List vm.VmInsn → ℕ
insns_cost b = sum_by insn_cost b

-- the cost so far, and its size: blocks, instructions and what counts for them besides
pub record Costs (l : Layout) (k : ℕ) : Type 0 where
  pub cost : sum_by (λ b. sum_by insn_cost b) l.blocks + 536 * edge_count targets_of flows_on_of l.blocks + insns_cost l.insns ≤ k
  pub size : 24 * (length l.blocks + count_of l.blocks + sum_by (λ b. sum_by weight_of b) l.blocks + length l.insns + sum_by weight_of l.insns) ≤ k
  pub straight : All Straight l.insns

costs_insn : (k j : ℕ) (i : vm.VmInsn) (l : Layout) → Straight i → insn_cost i ≤ j → 24 * (1 + weight_of i) ≤ j → Costs l k → Costs (with_insn i l) (j + k)
costs_insn k j i l s c z h = record {
  cost = omega (arith, h.cost, c, sum_by_push insn_cost l.insns i);
  size = omega (arith, h.size, z, length_push l.insns i, sum_by_push weight_of l.insns i);
  straight = All-push Straight l.insns i h.straight s;
}

last_straight : (b : List vm.VmInsn) (i : vm.VmInsn) → All Straight b → last_of b ≡ Some i → Straight i
last_straight b i h e = all_at Straight b (length b - 1) i h e

-- a block of straight instructions goes on to the next one alone
straight_edges : (b : List vm.VmInsn) → All Straight b → edges b ≤ 1
straight_edges b h = by (last_of b) refl
  where
    of : (i : vm.VmInsn) → Straight i → length (successors_after targets_of flows_on_of 0 (Some i)) ≤ 1
    of i s = omega (arith, length-append {A = ℕ} (targets_of i) (if flows_on_of i then 1 ∷ [] else []), s.0, ap (λ b. length {A = ℕ} (if b then 1 ∷ [] else [])) s.1)

    by : (o : Option vm.VmInsn) → last_of b ≡ o → length (successors_after targets_of flows_on_of 0 o) ≤ 1
    by None e = omega arith
    by (Some i) e = of i (last_straight b i h e)

costs_start : (k : ℕ) (l : Layout) → Costs l k → Costs (end_block l) (536 + k)
costs_start k l h = record {
  cost = omega (arith, h.cost, straight_edges l.insns h.straight, sum_by_push (λ b. sum_by insn_cost b) l.blocks l.insns, sum_by_push (λ b. length (successors_of targets_of flows_on_of 0 b)) l.blocks l.insns);
  size = omega (arith, h.size, length_push l.blocks l.insns, sum_by_push (λ b. length b) l.blocks l.insns, sum_by_push (λ b. sum_by weight_of b) l.blocks l.insns);
  straight = All-nil Straight;
}

-- the last instruction of a block has the edges that it says
costs_end : (k j e : ℕ) (i : vm.VmInsn) (l : Layout) → insn_cost i + 536 * e ≤ j → 24 * (2 + weight_of i) ≤ j → length (successors_after targets_of flows_on_of 0 (Some i)) ≤ e → Costs l k → Costs (end_with i l) (j + k)
costs_end k j e i l c z s h =
    let b = l.insns ++ i ∷ [] in
    let last : edges b ≡ length (successors_after targets_of flows_on_of 0 (Some i)) = ap (λ o. length (successors_after targets_of flows_on_of 0 o)) (last_is l.insns i) in
    record {
      cost = omega (arith, h.cost, c, s, last, sum_by_push insn_cost l.insns i, sum_by_push (λ b. sum_by insn_cost b) l.blocks b, sum_by_push (λ b. length (successors_of targets_of flows_on_of 0 b)) l.blocks b);
      size = omega (arith, h.size, z, length_push l.insns i, sum_by_push weight_of l.insns i, length_push l.blocks b, sum_by_push (λ b. length b) l.blocks b, sum_by_push (λ b. sum_by weight_of b) l.blocks b);
      straight = All-nil Straight;
    }

costs_loop : (k : ℕ) (l : Layout) → Costs l k → Costs (open_loop l) (24 + k)
costs_loop k l h = record {
  cost = omega (arith, h.cost, sum_by_push insn_cost l.insns n.Mark);
  size = omega (arith, h.size, length_push l.insns n.Mark, sum_by_push weight_of l.insns n.Mark);
  straight = All-push Straight l.insns n.Mark h.straight (refl, refl);
}

some_insns : (op : VmBinaryOp) → 1 ≤ most_binary_insns op
some_insns vb.Add = omega arith
some_insns vb.Subtract = omega arith
some_insns vb.Multiply = omega arith
some_insns vb.Divide = omega arith
some_insns vb.Remainder = omega arith
some_insns vb.And = omega arith
some_insns vb.Or = omega arith
some_insns vb.ExclusiveOr = omega arith

-- what counts for an instruction is paid
paid : (i : vm.VmInsn) → 24 * (1 + weight_of i) ≤ plain_cost i
paid (n.LoadConstant ty r w) = omega arith
paid (n.LoadAddress r p w) = omega arith
paid (n.Load ty r p w) = omega arith
paid (n.Store ty p w r) = omega arith
paid (n.Copy t f s a) = omega arith
paid (n.Unary op ty r s) = omega arith
paid (n.Binary op ty r s t) = omega (arith, some_insns op)
paid (n.Shift op ty r s t) = omega arith
paid (n.Convert f ty r s) = omega arith
paid (n.Compare op ty r s t) = omega arith
paid (n.Branch op ty r b) = omega arith
paid (n.Jump b) = omega arith
paid (n.Call r c xs) = omega arith
paid (n.Return v) = omega arith
paid n.Mark = omega arith
paid n.Nop = omega arith

dear : (i : vm.VmInsn) → insn_cost i ≤ plain_cost i
dear (n.LoadConstant ty r w) = omega arith
dear (n.LoadAddress r p w) = omega arith
dear (n.Load ty r p w) = omega arith
dear (n.Store ty p w r) = omega arith
dear (n.Copy t f s a) = omega arith
dear (n.Unary op ty r s) = omega arith
dear (n.Binary op ty r s t) = omega arith
dear (n.Shift op ty r s t) = omega arith
dear (n.Convert f ty r s) = omega arith
dear (n.Compare op ty r s t) = omega arith
dear (n.Branch op ty r b) = omega arith
dear (n.Jump b) = omega arith
dear (n.Call r c xs) = omega arith
dear (n.Return v) = omega arith
dear n.Mark = omega arith
dear n.Nop = omega arith

at_most : (j k : ℕ) (l : Layout) → j ≤ k → Costs l j → Costs l k
at_most j k l le h = record { cost = omega (arith, le, h.cost); size = omega (arith, le, h.size); straight = h.straight }

same_costs : (k : ℕ) (l : Layout) (hs : List ℕ) → Costs l k → Costs (record l { heads = hs }) k
same_costs k l hs h = record { cost = h.cost; size = h.size; straight = h.straight }

pub costs_items : (most loops k : ℕ) (is : List CodeItem) (l : Layout) → IsGood most loops is → Costs l k → Costs (with_items is l) (items_cost is + k)
costs_items most loops k [] l g h = at_most k (0 + k) l (omega arith) h
costs_items most loops k (Start ∷ is) l g h = at_most (items_cost is + (536 + k)) (536 + items_cost is + k) _ (omega arith) (costs_items most loops (536 + k) is _ g (costs_start k l h))
costs_items most loops k (Plain insn ∷ is) l g h =
    at_most (items_cost is + (plain_cost insn + k)) (plain_cost insn + items_cost is + k) _ (omega arith) (costs_items most loops (plain_cost insn + k) is _ g.2 (costs_insn k (plain_cost insn) insn l g.0 (dear insn) (paid insn) h))
costs_items most loops k (Jump name ∷ is) l g h =
    at_most (items_cost is + (560 + k)) (560 + items_cost is + k) _ (omega arith) (costs_items most loops (560 + k) is _ g.1 (costs_end k 560 1 (n.Jump (l.last - name)) l (omega arith) (omega arith) (omega arith) h))
costs_items most loops k (Branch op ty source name ∷ is) l g h =
    at_most (items_cost is + (1096 + k)) (1096 + items_cost is + k) _ (omega arith) (costs_items most loops (1096 + k) is _ g.2 (costs_end k 1096 2 (n.Branch op ty source (l.last - name)) l (omega arith) (omega arith) (omega arith) h))
costs_items most loops k (Loop name ∷ is) l g h =
    at_most (items_cost is + (24 + (560 + k))) (584 + items_cost is + k) _ (omega arith)
    (costs_items most (suc loops) (24 + (560 + k)) is _ g.1 (costs_loop (560 + k) (end_with (n.Jump (l.last - name)) l) (costs_end k 560 1 (n.Jump (l.last - name)) l (omega arith) (omega arith) (omega arith) h)))
costs_items most loops k (Enter ∷ is) l g h =
    at_most (items_cost is + (24 + (536 + k))) (560 + items_cost is + k) _ (omega arith) (costs_items most (suc loops) (24 + (536 + k)) is _ g (costs_loop (536 + k) (end_block l) (costs_start k l h)))
costs_items most zero k (Again ty source ∷ is) l g h = absurd g
costs_items most (suc loops) k (Again ty source ∷ is) l g h =
    at_most (items_cost is + (1096 + k)) (1096 + items_cost is + k) _ (omega arith)
    (costs_items most loops (1096 + k) is _ g.1 (same_costs (1096 + k) (end_with (n.Branch IfTrue ty source (head_or_zero l.heads)) l) _ (costs_end k 1096 2 (n.Branch IfTrue ty source (head_or_zero l.heads)) l (omega arith) (omega arith) (omega arith) h)))
costs_items most zero k (Repeat ∷ is) l g h = absurd g
costs_items most (suc loops) k (Repeat ∷ is) l g h =
    at_most (items_cost is + (560 + k)) (560 + items_cost is + k) _ (omega arith)
    (costs_items most loops (560 + k) is _ g (same_costs (560 + k) (end_with (n.Jump (head_or_zero l.heads)) l) _ (costs_end k 560 1 (n.Jump (head_or_zero l.heads)) l (omega arith) (omega arith) (omega arith) h)))
costs_items most loops k (Return value ∷ is) l g h =
    at_most (items_cost is + (48 + k)) (48 + items_cost is + k) _ (omega arith) (costs_items most loops (48 + k) is _ g.1 (costs_end k 48 0 (n.Return value) l (omega arith) (omega arith) (omega arith) h))

-- ---- the whole function

pub record BlocksCost (blocks : List (List vm.VmInsn)) (k : ℕ) : Type 0 where
  pub cost : sum_by (λ b. sum_by insn_cost b) blocks + 536 * edge_count targets_of flows_on_of blocks ≤ 192 + k
  pub size : 24 * (length blocks + count_of blocks + sum_by (λ b. sum_by weight_of b) blocks) ≤ 72 + k

end_costs : (locals : ℕ) (main : Bool) → insns_cost (end_code locals main) ≤ 192
end_costs locals true = omega arith
end_costs locals false = omega arith

end_weight : (locals : ℕ) (main : Bool) → length (end_code locals main) + sum_by weight_of (end_code locals main) ≤ 2
end_weight locals true = omega arith
end_weight locals false = omega arith

end_edges : (insns : List vm.VmInsn) (locals : ℕ) (main : Bool) → edges (insns ++ end_code locals main) ≡ 0
end_edges insns locals true =
    ap edges (sym (append_assoc insns (n.LoadConstant S32 (temporary locals 0 S32) 0 ∷ []) (n.Return (Some (record { ty = S32; register = temporary locals 0 S32 })) ∷ [])))
    ∙ ap (λ o. length (successors_after targets_of flows_on_of 0 o)) (last_is (insns ++ n.LoadConstant S32 (temporary locals 0 S32) 0 ∷ []) (n.Return (Some (record { ty = S32; register = temporary locals 0 S32 }))))
end_edges insns locals false = ap (λ o. length (successors_after targets_of flows_on_of 0 o)) (last_is insns (n.Return None))

pub blocks_cost : (most locals : ℕ) (main : Bool) (is : List CodeItem) → IsGood most 0 is → BlocksCost (blocks_of (end_code locals main) is) (items_cost is)
blocks_cost most locals main is g =
    let l : Layout = with_items is (no_block (block_total is)) in
    let end = end_code locals main in
    let b = l.insns ++ end in
    let h : Costs l (items_cost is + 0) = costs_items most 0 0 is (no_block (block_total is)) g (record { cost = omega arith; size = omega arith; straight = All-nil Straight }) in
    record {
      cost = omega (arith, h.cost, sum_by_push (λ b. sum_by insn_cost b) l.blocks b, sum_by_push (λ b. length (successors_of targets_of flows_on_of 0 b)) l.blocks b, sum_by-append insn_cost l.insns end, end_costs locals main, end_edges l.insns locals main);
      size = omega (arith, h.size, length_push l.blocks b, sum_by_push (λ b. length b) l.blocks b, sum_by_push (λ b. sum_by weight_of b) l.blocks b, length-append l.insns end, sum_by-append weight_of l.insns end, end_weight locals main);
    }
