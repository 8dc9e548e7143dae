-- The function of good code.
use Rattle.std.proofs.Common.{◌≡◌, ◌≤◌, ◌<◌, ℕ, ◌+◌, ◌-◌, ◌*◌, ◌^◌, max, Bool, true, false, List, [], ◌∷◌, ◌++◌, Some, None, length, length-append, get_or, refl, sym, ap, ◌∙◌, subst, arith, append_assoc, append-nil}
use Rattle.std.specs.Prelude.{All, IsTrue}
use Rattle.std.proofs.lemmas.List.{length_push}
use Rattle.std.proofs.lemmas.List.Elements.{All-nil, All-cons, All-append, All-from_get_or}
use Rattle.std.proofs.lemmas.List.Sums.{sum_by_push}
use Rattle.suifvm_ir.specs.declared.types.VmType.TheVariants.{S32}
use Rattle.suifvm_ir.specs.declared.insn.VmInsn as vm
use Rattle.suifvm_ir.specs.declared.insn.VmInsn.TheVariants as n
use Rattle.suifvm_ir.specs.Insns.{reads_of, writes_of, targets_of, flows_on_of}
use Rattle.pass_core.specs.Functions.{AllInsns, GoesToBlocks, UsesRegisters, EndsLate, insn_stops, block_stops, stops, count_of}
use Rattle.lowering_code.specs.declared.item.CodeItem.{CodeItem}
use Rattle.lowering_code.specs.Items.{block_total}
use Rattle.lowering_code.specs.Registers.{temporary}
use Rattle.lowering_code.specs.Layout.{Layout, with_insn, with_items, no_block, blocks_of}
use Rattle.lowering_code.specs.Functions.{end_code}
use Rattle.lowering_layout.specs.Good.{IsGood}
use Rattle.lowering_layout.specs.Tops.{insns_top, blocks_top}
use Rattle.lowering_layout.specs.Views.{GoesBackToMarks}
use Rattle.lowering_layout.specs.model.Ends.{with_end}
use Rattle.lowering_layout.proofs.Laid.{Straight, IsLaid, Sound, goes_straight, ends, push, last_is, sound}
use Rattle.lowering_layout.proofs.Sizes.{blocks_laid, insns_laid, IsBelow, below_items, insns_top_append, blocks_top_push, blocks_below, count_le}

-- the end of the last block
pub end_is : (end : List vm.VmInsn) (l : Layout) → (with_end end l).blocks ≡ l.blocks ++ (l.insns ++ end) ∷ []
end_is [] l = ap (λ is. l.blocks ++ is ∷ []) (sym (append-nil l.insns))
end_is (i ∷ is) l = end_is is (with_insn i l) ∙ ap (λ js. l.blocks ++ js ∷ []) (append_assoc l.insns (i ∷ []) is)

-- what stands in front of the return, and the return
pub record Ends (end : List vm.VmInsn) : Type 0 where
  pub front : List vm.VmInsn
  pub final : vm.VmInsn
  pub is : end ≡ front ++ final ∷ []
  pub straight : All Straight front
  pub targets : length (targets_of final) ≡ 0
  pub returns : flows_on_of final ≡ false

pub ends_of : (locals : ℕ) (main : Bool) → Ends (end_code locals main)
ends_of locals true = record {
  front = n.LoadConstant S32 (temporary locals 0 S32) 0 ∷ [];
  final = n.Return (Some (record { ty = S32; register = temporary locals 0 S32 }));
  is = refl;
  straight = All-cons Straight _ [] (refl, refl) (All-nil Straight);
  targets = refl;
  returns = refl;
}
ends_of locals false = record { front = []; final = n.Return None; is = refl; straight = All-nil Straight; targets = refl; returns = refl }

-- what a function of these blocks keeps
pub record IsFunction (w : List (List vm.VmInsn)) (params temps : ℕ) : Type 0 where
  pub targets : AllInsns (GoesToBlocks targets_of (length w)) w
  pub straight : All (EndsLate targets_of flows_on_of) w
  pub stops : IsTrue (stops flows_on_of w)
  pub few_blocks : length w < 2 ^ 30
  pub few_insns : count_of w < 2 ^ 30
  pub registers : AllInsns (UsesRegisters reads_of writes_of temps) w
  pub marks : GoesBackToMarks w

end_length : (locals : ℕ) (main : Bool) → length (end_code locals main) ≤ 2
end_length locals true = omega arith
end_length locals false = omega arith

pub function_is : (locals params temps : ℕ) (main : Bool) (is : List CodeItem) → 2 * length is + 3 < 2 ^ 30 → IsGood (2 ^ 32 - 1) 0 is
    → temps ≡ max params (blocks_top (blocks_of (end_code locals main) is)) → IsFunction (blocks_of (end_code locals main) is) params temps
function_is locals params temps main is size good top =
    let end : List vm.VmInsn = end_code locals main in
    let l : Layout = with_items is (no_block (block_total is)) in
    let w : List (List vm.VmInsn) = blocks_of end is in
    let e : Ends end = ends_of locals main in
    let blocks : length l.blocks ≡ 0 + block_total is = blocks_laid is (no_block (block_total is)) in
    let all : length w ≡ length l.blocks + 1 = length_push l.blocks (l.insns ++ end) in
    let s : Sound w 0 l = sound w end (2 ^ 32 - 1) is 0 (no_block (block_total is)) refl (omega arith) (omega (arith, blocks, all)) good nothing in
    let last : l.insns ++ end ≡ (l.insns ++ e.front) ++ e.final ∷ [] = ap (λ x. l.insns ++ x) e.is ∙ sym (append_assoc l.insns e.front (e.final ∷ [])) in
    let whole : (k : ℕ) → k < length w → IsLaid w k (get_or w k []) =
    push (IsLaid w) l.blocks (l.insns ++ end) [] s.blocks
    (subst (IsLaid w (length l.blocks)) (sym last)
    (ends w (length l.blocks) (l.insns ++ e.front) e.final (All-append Straight l.insns e.front s.insns e.straight) (goes_straight w (length l.blocks) e.final e.targets))) in
    record {
      targets = All-from_get_or (All (GoesToBlocks targets_of (length w))) w [] (λ k lt. (whole k lt).targets);
      straight = All-from_get_or (EndsLate targets_of flows_on_of) w [] (λ k lt. (whole k lt).straight);
      stops = ap (block_stops flows_on_of) (last_is l.blocks (l.insns ++ end)) ∙ ap (λ b. block_stops flows_on_of (Some b)) last
          ∙ ap (insn_stops flows_on_of) (last_is (l.insns ++ e.front) e.final) ∙ final e.final e.returns;
      few_blocks = omega (arith, all, blocks, count_le is, size);
      few_insns = omega (arith, size, sum_by_push (λ b. length b) l.blocks (l.insns ++ end), length-append l.insns end, end_length locals main, insns_laid is (no_block (block_total is)));
      registers = blocks_below w temps (omega (arith, top));
      marks = λ k lt. (whole k lt).marks;
    }
  where
    nothing : {w : List (List vm.VmInsn)} → Sound w 0 (no_block (block_total is))
    nothing = record { blocks = λ k lt. absurd (omega (arith, lt)); insns = All-nil Straight; heads = tt }

    final : (i : vm.VmInsn) → flows_on_of i ≡ false → insn_stops flows_on_of (Some i) ≡ true
    final i h = rw h refl

end_top : (locals : ℕ) (main : Bool) → insns_top (end_code locals main) ≤ locals + 1
end_top locals true = omega arith
end_top locals false = omega arith

-- the registers are few
pub top_le : (locals : ℕ) (main : Bool) (is : List CodeItem) → locals + 1 < 2 ^ 32 → IsGood (2 ^ 32 - 1) 0 is
    → blocks_top (blocks_of (end_code locals main) is) ≤ 2 ^ 32 - 1
top_le locals main is small good =
    let l : Layout = with_items is (no_block (block_total is)) in
    let end : List vm.VmInsn = end_code locals main in
    let b : IsBelow (2 ^ 32 - 1) l = below_items (2 ^ 32 - 1) is 0 (no_block (block_total is)) good (omega arith) in
    omega (arith, b, small, blocks_top_push l.blocks (l.insns ++ end), insns_top_append l.insns end, end_top locals main)

-- ---- the layout at the end

end_empty : (end : List vm.VmInsn) (l : Layout) → (with_end end l).insns ≡ []
end_empty [] l = refl
end_empty (i ∷ is) l = end_empty is (with_insn i l)

pub blocks_done : (end : List vm.VmInsn) (is : List CodeItem) (l final : Layout) → l ≡ with_items is (no_block (block_total is)) → final ≡ with_end end l → final.blocks ≡ blocks_of end is
blocks_done end is l final e f = ap (λ x. x.blocks) f ∙ ap (λ x. (with_end end x).blocks) e ∙ end_is end (with_items is (no_block (block_total is)))

pub top_done : (end : List vm.VmInsn) (l final : Layout) (temps : ℕ) → final ≡ with_end end l → temps ≡ max (blocks_top final.blocks) (insns_top final.insns) → temps ≡ blocks_top final.blocks
top_done end l final temps f t =
    let empty : final.insns ≡ [] = ap (λ x. x.insns) f ∙ end_empty end l in
    let none : insns_top final.insns ≡ 0 = ap insns_top empty in
    omega (arith, t, none)

-- there is room for each item
pub room_for : (is js : List CodeItem) (l : Layout) → with_items is l ≡ with_items js (no_block (block_total js)) → length js < 2 ^ 30 → length l.blocks + 1 < 2 ^ 32
room_for is js l e h =
    let n : length (with_items is l).blocks ≡ length (with_items js (no_block (block_total js))).blocks = ap (λ x. length x.blocks) e in
    omega (arith, n, blocks_laid is l, blocks_laid js (no_block (block_total js)), count_le js, h)

pub is_function : (locals params temps : ℕ) (main : Bool) (is : List CodeItem) (w : List (List vm.VmInsn)) → 2 * length is + 3 < 2 ^ 30 → IsGood (2 ^ 32 - 1) 0 is
    → w ≡ blocks_of (end_code locals main) is → temps ≡ max params (blocks_top w) → IsFunction w params temps
is_function locals params temps main is w size good e top =
    subst (λ x. IsFunction x params temps) (sym e) (function_is locals params temps main is size good (top ∙ ap (λ x. max params (blocks_top x)) e))
