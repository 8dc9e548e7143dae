-- What functions keep whose blocks are walked along their second versions.
use Rattle.std.proofs.Common.{◌≡◌, ℕ, ◌≤◌, ◌<◌, List, [], ◌∷◌, Option, Some, Bool, refl, sym, ap, ◌∙◌, subst, length, All, arith}
use Rattle.std.specs.Prelude.{IsTrue, IfSome}
use Rattle.std.specs.List.{AllZip}
use Rattle.std.proofs.lemmas.List.Elements.{All-nil, All-cons, All-head, All-tail, AllZip-get_or}
use Rattle.pass_core.specs.Functions.{AllInsns, GoesToBlocks, EndsLate, UsesRegisters, stops, count_of}
use Rattle.pass_core.specs.Live.{Follows}
use Rattle.temp_ir.specs.declared.insn.TempInsn.{TempInsn}
use Rattle.temp_ir.specs.declared.insn.TempInsn.TheVariants as i
use Rattle.temp_ir.specs.declared.insn.FirstOperand.TheVariants as source
use Rattle.temp_ir.specs.declared.insn.SecondOperand.TheVariants as operand
use Rattle.mem_objects.specs.declared.DataObject.{DataObject}
use Rattle.temp_ir.specs.Insns.{reads_of, writes_of, targets_of, flows_on_of}
use Rattle.temp_ir.specs.Fixed.{is_settled}
use Rattle.temp_ir.specs.Programs.{TempFn, names_what_is_there}
use Rattle.alloc_model.specs.Effect.{widest_in}
use Rattle.cfg.specs.Walks.{block_at}
use Rattle.bitvector_flow.specs.Flows.{has_at}
use Rattle.bitvector_flow.specs.Lives.{HasFewRegisters, AreLive}
use Rattle.block_pass_laws.specs.argument_laws.Kept.{NamesPlacesTo, IsWithinBlock, AreWithinBlocks}
use Rattle.block_pass_laws.specs.temp_walk_laws.SameRuns.{WritesWithin}
use Rattle.block_pass_laws.specs.back_laws.Kept.{GoBackToMarks}
use Rattle.block_coalescing.specs.Forms.{form_of}
use Rattle.block_coalescing.specs.Walks.{AreWalked, AreCoalesced, FlowBack}
use Rattle.block_coalescing.specs.Kept.{IsCoalesced, KeepsShape, CoalescedFunctionsKeepShape}
use Rattle.block_coalescing.proofs.Lifted.{some_then}
use Rattle.block_coalescing.proofs.Stays.{blocks_stay}
use Rattle.block_coalescing.proofs.Forms.{same_form}
use Rattle.block_coalescing.proofs.Blocks.{each_is_one, widest}
use Rattle.block_coalescing.proofs.Functions.{IsWalked, zip_walked, widest_same, length_same, insns_kept, uses_kept, late_kept, edges_kept, edge_count_kept, stops_kept, count_kept, calls_kept, settled_kept, marks_kept}

-- ---- liveness

pub flows_back : (blocks : List (List TempInsn)) (bound : ℕ) (tops bottoms : List (List Bool)) → AreLive reads_of writes_of targets_of flows_on_of blocks bound tops bottoms → FlowBack blocks (has_at tops) (has_at bottoms)
flows_back blocks bound tops bottoms are block next r insns there is live =
    (are.live_at_bottom r block insns there).1 (Follows insns next there refl is ((are.live_at_top r next).0 live))

few_registers : (x : TempInsn) → HasFewRegisters reads_of writes_of x
few_registers (i.Address op d source.Zero plus) = (omega arith, omega arith)
few_registers (i.Address op d (source.Temp t) plus) = (omega arith, omega arith)
few_registers (i.ObjectAddress d place plus) = (omega arith, omega arith)
few_registers (i.Load op d pointer plus) = (omega arith, omega arith)
few_registers (i.Store op source.Zero pointer plus) = (omega arith, omega arith)
few_registers (i.Store op (source.Temp t) pointer plus) = (omega arith, omega arith)
few_registers (i.Operate op d source.Zero (operand.Literal n)) = (omega arith, omega arith)
few_registers (i.Operate op d source.Zero (operand.Temp t)) = (omega arith, omega arith)
few_registers (i.Operate op d (source.Temp t) (operand.Literal n)) = (omega arith, omega arith)
few_registers (i.Operate op d (source.Temp t) (operand.Temp u)) = (omega arith, omega arith)
few_registers (i.Extend op d (operand.Literal n)) = (omega arith, omega arith)
few_registers (i.Extend op d (operand.Temp t)) = (omega arith, omega arith)
few_registers (i.ToFixed register s) = (omega arith, omega arith)
few_registers (i.FromFixed d register) = (omega arith, omega arith)
few_registers (i.SetFixed register number) = (omega arith, omega arith)
few_registers (i.WriteArgument number s) = (omega arith, omega arith)
few_registers (i.ReadArgument d number) = (omega arith, omega arith)
few_registers (i.Branch op s block) = (omega arith, omega arith)
few_registers (i.Jump block) = (omega arith, omega arith)
few_registers (i.Call function arguments) = (omega arith, omega arith)
few_registers (i.Divide routine) = (omega arith, omega arith)
few_registers (i.Serve service) = (omega arith, omega arith)
few_registers (i.Return with_value) = (omega arith, omega arith)
few_registers i.Mark = (omega arith, omega arith)

pub all_few : (blocks : List (List TempInsn)) → AllInsns (HasFewRegisters reads_of writes_of) blocks
all_few blocks k d within j e inside = few_registers _

-- ---- argument places

-- no form names other places
places_form : (most : ℕ) (x : TempInsn) → ◌≡◌ {A = Type 0} (NamesPlacesTo most x) (NamesPlacesTo most (form_of x))
places_form most (i.Address op d base plus) = refl
places_form most (i.ObjectAddress d place plus) = refl
places_form most (i.Load op d pointer plus) = refl
places_form most (i.Store op a pointer plus) = refl
places_form most (i.Operate op d a b) = refl
places_form most (i.Extend op d a) = refl
places_form most (i.ToFixed register s) = refl
places_form most (i.FromFixed d register) = refl
places_form most (i.SetFixed register number) = refl
places_form most (i.WriteArgument number s) = refl
places_form most (i.ReadArgument d number) = refl
places_form most (i.Branch op s block) = refl
places_form most (i.Jump block) = refl
places_form most (i.Call function arguments) = refl
places_form most (i.Divide routine) = refl
places_form most (i.Serve service) = refl
places_form most (i.Return with_value) = refl
places_form most i.Mark = refl

places_same : (most : ℕ) (x y : TempInsn) → form_of x ≡ form_of y → NamesPlacesTo most x → NamesPlacesTo most y
places_same most x y e h = subst (λ T. T) (places_form most x ∙ ap (NamesPlacesTo most) e ∙ sym (places_form most y)) h

within_form : (widest : ℕ) (x : TempInsn) → ◌≡◌ {A = Type 0} (WritesWithin widest x) (WritesWithin widest (form_of x))
within_form widest (i.Address op d base plus) = refl
within_form widest (i.ObjectAddress d place plus) = refl
within_form widest (i.Load op d pointer plus) = refl
within_form widest (i.Store op a pointer plus) = refl
within_form widest (i.Operate op d a b) = refl
within_form widest (i.Extend op d a) = refl
within_form widest (i.ToFixed register s) = refl
within_form widest (i.FromFixed d register) = refl
within_form widest (i.SetFixed register number) = refl
within_form widest (i.WriteArgument number s) = refl
within_form widest (i.ReadArgument d number) = refl
within_form widest (i.Branch op s block) = refl
within_form widest (i.Jump block) = refl
within_form widest (i.Call function arguments) = refl
within_form widest (i.Divide routine) = refl
within_form widest (i.Serve service) = refl
within_form widest (i.Return with_value) = refl
within_form widest i.Mark = refl

within_same : (widest : ℕ) (x y : TempInsn) → form_of x ≡ form_of y → WritesWithin widest x → WritesWithin widest y
within_same widest x y e h = subst (λ T. T) (within_form widest x ∙ ap (WritesWithin widest) e ∙ sym (within_form widest y)) h

module _ (temps : ℕ) where
  within_block : (xs ys : List TempInsn) → IsWalked temps xs ys → IsWithinBlock xs → IsWithinBlock ys
  within_block xs ys is h =
      subst (λ w. All (WritesWithin w) ys) (sym (widest temps is.bottom is.names xs ys is.walk))
      (each_is_one temps is.bottom (WritesWithin (widest_in xs)) (within_same (widest_in xs)) is.names xs ys is.walk h)

within_kept : (temps : ℕ) (before after : List (List TempInsn)) → AllZip (IsWalked temps) before after → AreWithinBlocks before → AreWithinBlocks after
within_kept temps [] [] all h = All-nil IsWithinBlock
within_kept temps [] (ys ∷ after) all h = absurd all
within_kept temps (xs ∷ before) [] all h = absurd all
within_kept temps (xs ∷ before) (ys ∷ after) all h =
    All-cons IsWithinBlock ys after (within_block temps xs ys all.0 (All-head IsWithinBlock xs before h)) (within_kept temps before after all.1 (All-tail IsWithinBlock xs before h))

-- ---- functions

module _ (f g : TempFn) (is : IsCoalesced f g) where
  zip : AllZip (IsWalked f.temps) f.blocks g.blocks
  zip = zip_walked f.temps is.blocks.tops is.blocks.bottoms f.blocks g.blocks is.blocks.walked.each

  names : (functions : List TempFn) (globals : List DataObject) → AllInsns (λ x. IsTrue (names_what_is_there functions globals f.objects x)) f.blocks → AllInsns (λ x. IsTrue (names_what_is_there functions globals g.objects x)) g.blocks
  names functions globals h =
      subst (λ os. AllInsns (λ x. IsTrue (names_what_is_there functions globals os x)) g.blocks) (sym is.objects)
      (insns_kept f.temps (λ x. IsTrue (names_what_is_there functions globals f.objects x)) (λ x y e t. sym ((same_form x y e).named functions globals f.objects) ∙ t) f.blocks g.blocks zip h)

  marks : GoBackToMarks f.blocks → GoBackToMarks g.blocks
  marks h block lt =
      let lt' : block < length f.blocks = omega (arith, lt, length_same f.temps f.blocks g.blocks zip) in
      marks_kept f.temps f.blocks g.blocks zip block (block_at f.blocks block) (block_at g.blocks block) (AllZip-get_or (IsWalked f.temps) f.blocks g.blocks block [] [] zip lt') (h block lt')

  pub keeps_shape : KeepsShape f g
  keeps_shape =
      let calls = calls_kept f.temps f.blocks g.blocks zip in
      let edges = edge_count_kept f.temps f.blocks g.blocks zip f.straight in
      let insns = count_kept f.temps f.blocks g.blocks zip in
      let blocks = length_same f.temps f.blocks g.blocks zip in
      let wide = widest_same f.temps f.blocks g.blocks zip in
      record {
        edges = edges_kept f.temps 0 f.blocks g.blocks zip f.straight;
        settled = λ h. subst (λ n. IsTrue (is_settled n g.blocks)) (sym is.params) (settled_kept f.temps f.params f.blocks g.blocks zip h);
        marks = marks;
        names = names;
        arguments = record {
          places = λ most h. insns_kept f.temps (NamesPlacesTo most) (places_same most) f.blocks g.blocks zip h;
          within = within_kept f.temps f.blocks g.blocks zip;
          narrow = omega (arith, wide);
        };
        sizes = record {
          blocks = omega (arith, blocks);
          insns = omega (arith, insns);
          edges = omega (arith, edges);
          calls = omega (arith, calls);
        };
      }

pub functions_keep_shape : CoalescedFunctionsKeepShape
functions_keep_shape f g is = keeps_shape f g is

-- ---- what a function owes of its blocks

pub record Valid (temps : ℕ) (blocks : List (List TempInsn)) : Type 0 where
  pub targets : AllInsns (GoesToBlocks targets_of (length blocks)) blocks
  pub straight : All (EndsLate targets_of flows_on_of) blocks
  pub ends : IsTrue (stops flows_on_of blocks)
  pub registers : AllInsns (UsesRegisters reads_of writes_of temps) blocks

pub valid_after : (f : TempFn) (after : List (List TempInsn)) → AreCoalesced f.temps f.blocks after → Valid f.temps after
valid_after f after is =
    let zip = zip_walked f.temps is.tops is.bottoms f.blocks after is.walked.each in
    let same = length_same f.temps f.blocks after zip in
    record {
      targets = subst (λ n. AllInsns (GoesToBlocks targets_of n) after) (sym same)
          (insns_kept f.temps (GoesToBlocks targets_of (length f.blocks)) (λ x y e h. subst (All (λ target. (0 < target) × (target < length f.blocks))) (same_form x y e).targets h) f.blocks after zip f.targets);
      straight = late_kept f.temps f.blocks after zip f.straight;
      ends = stops_kept f.temps f.blocks after zip f.straight f.stops;
      registers = uses_kept f.temps f.blocks after zip;
    }

pub sizes_after : (f : TempFn) (after : List (List TempInsn)) → AreCoalesced f.temps f.blocks after → (length after ≡ length f.blocks) × (count_of after ≤ count_of f.blocks)
sizes_after f after is =
    let zip = zip_walked f.temps is.tops is.bottoms f.blocks after is.walked.each in
    (length_same f.temps f.blocks after zip, count_kept f.temps f.blocks after zip)

-- ---- as the code has them

pub coalesced_by : (f : TempFn) (shown : List (List TempInsn)) (tops bottoms shown_tops shown_bottoms : List (List Bool)) → shown ≡ f.blocks → shown_tops ≡ tops → shown_bottoms ≡ bottoms → AreLive reads_of writes_of targets_of flows_on_of f.blocks f.temps tops bottoms → (o : Option (List (List TempInsn))) (new : List (List TempInsn)) → o ≡ Some new → IfSome o (λ made. AreWalked f.temps (has_at shown_tops) (has_at shown_bottoms) shown made) → AreCoalesced f.temps f.blocks new
coalesced_by f shown tops bottoms shown_tops shown_bottoms e t b live o new is walked = record {
  tops = has_at tops;
  bottoms = has_at bottoms;
  flows = flows_back f.blocks f.temps tops bottoms live;
  walked = subst (λ bs. AreWalked f.temps (has_at tops) (has_at bottoms) bs new) e
      (subst (λ s. AreWalked f.temps (has_at s) (has_at bottoms) shown new) t
      (subst (λ s. AreWalked f.temps (has_at shown_tops) (has_at s) shown new) b
      (some_then (λ made. AreWalked f.temps (has_at shown_tops) (has_at shown_bottoms) shown made) o new is walked)));
}

pub itself : (f : TempFn) → IsCoalesced f f
itself f = record { name = refl; params = refl; temps = refl; objects = refl; blocks = blocks_stay f.temps f.blocks f.registers }
