-- Turns of the loop over functions.
use Rattle.std.proofs.Common.{◌≡◌, ℕ, suc, ◌+◌, ◌<◌, ◌≤◌, ◌^◌, List, [], ◌∷◌, ◌++◌, length, refl, sym, ap, ◌∙◌, subst, length-append, append_assoc, append-nil, arith}
use Rattle.std.specs.Prelude.{All, sum_by}
use Rattle.std.specs.List.{AllZip}
use Rattle.std.proofs.lemmas.List.{flat_map_more}
use Rattle.std.proofs.lemmas.List.Elements.{All-nil, All-cons, All-append, All-head, All-tail}
use Rattle.std.proofs.lemmas.List.Sums.{sum_by-cons, sum_by_push}
use Rattle.alpha_items.specs.declared.item.AsmItem.{AsmItem}
use Rattle.alpha_items.specs.declared.final_fn.FinalFn.{FinalFn}
use Rattle.mem_objects.specs.declared.DataObject.{DataObject}
use Rattle.temp_ir.specs.Programs.{TempFn}
use Rattle.alloc_model.specs.declared.allocation.Allocation.{Allocation}
use Rattle.alloc_rules.specs.Allocations.{IsAllocationOf}
use Rattle.alloc_rules.proofs.Allocations.{are_allocations}
use Rattle.image_assembly.specs.Layouts.{first_label, label_count, FunctionIsLaidOut, FollowFrom}
use Rattle.image_assembly_laws.proofs.AllocationLaws.Lists.{as_many}
use Rattle.alloc_layouts.specs.model.Parts.{label_bound, IsSmallAllocation, CanBeLaidOut, IsLayoutBy, AreLaidOutSoFar, AreLayoutsBy}
use Rattle.alloc_layouts.proofs.Lists.{zip_more, follow_more}

pub few_functions : (fs : List TempFn) → length fs ≤ sum_by label_bound fs
few_functions [] = omega arith
few_functions (f ∷ fs) =
    let rest = few_functions fs in
    let one = sum_by-cons label_bound f fs in
    omega (arith, rest, one)

-- before the first function
pub first_turn : (gives : TempFn → Allocation → Type 0) (globals : List DataObject) (all left : List TempFn) (before items : List AsmItem) (number first : ℕ) → left ≡ all → items ≡ before → number ≡ 0 → first ≡ 256 + length all → All (CanBeLaidOut (length all) globals) all
    → sum_by label_bound all < 2 ^ 30 → AreLaidOutSoFar gives globals all left before number first items
first_turn gives globals all left before items number first same none none_yet at can few =
    let bound : sum_by label_bound left ≡ sum_by label_bound all = ap (sum_by label_bound) same in
    record {
      can = subst (All (CanBeLaidOut (length all) globals)) (sym same) can;
      so_far = [];
      split = sym same;
      allocations = [];
      are = tt;
      small = All-nil IsSmallAllocation;
      finals = [];
      laid_out = tt;
      place = none_yet;
      next = omega (arith, at);
      few = omega (arith, few, bound);
      text = none ∙ sym (append-nil before);
    }

-- a function that is the next one
module _ (gives : TempFn → Allocation → Type 0) (lawful : (f : TempFn) (a : Allocation) → gives f a → IsAllocationOf f a) (globals : List DataObject) (all left : List TempFn) (before : List AsmItem) (number first : ℕ) (items : List AsmItem) (f : TempFn) (rest : List TempFn) (so : AreLaidOutSoFar gives globals all left before number first items)
    (is : left ≡ f ∷ rest) where
  pub turn_can : CanBeLaidOut (length all) globals f
  turn_can = All-head (CanBeLaidOut (length all) globals) f rest (subst (All (CanBeLaidOut (length all) globals)) is so.can)

  count : length all ≡ length so.so_far + suc (length rest)
  count = ap length so.split ∙ length-append so.so_far left ∙ ap (λ l. length so.so_far + length l) is

  pub turn_number : number < length all
  turn_number =
      let many = count in
      let at = so.place in
      omega (arith, many, at)

  pub turn_first : first_label (length all) ≤ first
  turn_first =
      let at = so.next in
      omega (arith, at)

  pub turn_labels : first + (length f.blocks + 1) < 2 ^ 32
  turn_labels =
      let many = count in
      let at = so.next in
      let few = so.few in
      let bound : sum_by label_bound left ≡ sum_by label_bound (f ∷ rest) = ap (sum_by label_bound) is in
      let one = sum_by-cons label_bound f rest in
      let others = few_functions rest in
      omega (arith, many, at, few, bound, one, others)

  pub turn_small : number + 1 < 2 ^ 32
  turn_small =
      let many = count in
      let at = so.place in
      let few = so.few in
      omega (arith, at, few)

  -- one more
  pub turn_more : (final : FinalFn) (new : List AsmItem) (blocks : ℕ) → IsLayoutBy gives globals number first f final → new ≡ items ++ final.items.items → blocks ≡ length f.blocks → AreLaidOutSoFar gives globals all rest before (number + 1) (first + (blocks + 1)) new
  turn_more final new blocks one put many_blocks =
      let all_can = subst (All (CanBeLaidOut (length all) globals)) is so.can in
      let same : length one.allocation.func.blocks ≡ length f.blocks = ap length (lawful f one.allocation one.is).blocks in
      let many = as_many so.so_far so.allocations (are_allocations gives lawful so.so_far so.allocations so.are) in
      let at = so.place in
      let place : number ≡ 0 + length so.allocations = omega (arith, at, many) in
      let here = subst (λ n. FunctionIsLaidOut globals n (first_label (length all) + sum_by label_count so.allocations) one.allocation final) place
      (subst (λ n. FunctionIsLaidOut globals number n one.allocation final) so.next one.laid_out) in
      let longer = length-append so.so_far (f ∷ []) in
      let next = so.next in
      let few = so.few in
      let sum = sum_by_push label_count so.allocations one.allocation in
      let bound : sum_by label_bound left ≡ sum_by label_bound (f ∷ rest) = ap (sum_by label_bound) is in
      let split = sum_by-cons label_bound f rest in
      record {
        can = All-tail (CanBeLaidOut (length all) globals) f rest all_can;
        so_far = so.so_far ++ f ∷ [];
        split = so.split ∙ ap (λ l. so.so_far ++ l) is ∙ sym (append_assoc so.so_far (f ∷ []) rest);
        allocations = so.allocations ++ one.allocation ∷ [];
        are = zip_more gives so.so_far so.allocations f one.allocation so.are one.is;
        small = All-append IsSmallAllocation so.allocations (one.allocation ∷ []) so.small (All-cons IsSmallAllocation one.allocation [] one.small (All-nil IsSmallAllocation));
        finals = so.finals ++ final ∷ [];
        laid_out = follow_more globals 0 (first_label (length all)) so.allocations so.finals one.allocation final so.laid_out here;
        place = omega (arith, at, longer);
        next = omega (arith, next, sum, same, many_blocks);
        few = omega (arith, few, longer, sum, same, bound, split);
        text = put ∙ ap (λ l. l ++ final.items.items) so.text ∙ flat_map_more (λ (x : FinalFn). x.items.items) before so.finals final;
      }

-- behind the last function
pub last_turn : (gives : TempFn → Allocation → Type 0) (lawful : (f : TempFn) (a : Allocation) → gives f a → IsAllocationOf f a) (globals : List DataObject) (all left : List TempFn) (before : List AsmItem) (number first : ℕ) (items : List AsmItem) → AreLaidOutSoFar gives globals all left before number first items → length left ≡ 0
    → AreLayoutsBy gives globals all before items
last_turn gives lawful globals all [] before number first items so none =
    let whole : so.so_far ≡ all = sym (append-nil so.so_far) ∙ sym so.split in
    let are : AllZip gives all so.allocations = subst (λ fs. AllZip gives fs so.allocations) whole so.are in
    let many = as_many all so.allocations (are_allocations gives lawful all so.allocations are) in
    record {
      allocations = so.allocations;
      are = are;
      small = so.small;
      finals = so.finals;
      laid_out = subst (λ n. FollowFrom globals 0 (first_label n) so.allocations so.finals) many so.laid_out;
      text = so.text;
    }
last_turn gives lawful globals all (f ∷ left) before number first items so none = absurd (omega (arith, none))
