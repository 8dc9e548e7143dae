-- The first function is left.
use Rattle.std.proofs.Common.{◌≡◌, ℕ, ◌+◌, ◌*◌, ◌/◌, ◌%◌, ◌≤◌, Bool, List, [], ◌∷◌, length, Some, refl, ap, ◌∙◌, subst, arith, inl}
use Rattle.std.specs.Prelude.{pos}
use Rattle.alpha_isa.specs.declared.insn.Fields.TheVariants.{Memory, Pal}
use Rattle.alpha_isa.specs.declared.insn.MemoryOp.TheVariants.{Lda}
use Rattle.alpha_isa.specs.Program.{Program, word_address}
use Rattle.alpha_isa.specs.State.{State, register}
use Rattle.alpha_isa.specs.Step.{Done, Goes, Over, exec, service_step, go_on}
use Rattle.alpha_isa.proofs.Runs.{exec_split}
use Rattle.alpha_items.specs.declared.item.AsmItem.{AsmItem}
use Rattle.alpha_items.specs.declared.item.AsmItem.TheVariants.{Plain}
use Rattle.frame_steps.specs.item_steps.Standing.{Labels, ItemsAt}
use Rattle.frame_steps.proofs.ItemSteps.Steps.{plain_ends, steps_add_up}
use Rattle.mem_model.specs.declared.value.Value.TheVariants.{Word, Address, Unset}
use Rattle.mem_model.specs.World.{Outer}
use Rattle.machine_model.specs.Machine.{end_locals}
use Rattle.alloc_model.specs.Contents as contents
use Rattle.alloc_model.specs.Contents.{Content, Bundle}
use Rattle.alloc_model.specs.Stores.{first_or_unset}
use Rattle.alloc_model.specs.Temporaries.{content_status, result_status}
use Rattle.alloc_model.specs.Places.{Places}
use Rattle.frame_memory.specs.Relation.{Extents}
use Rattle.frame_memory.specs.flat_operations.Contents.{ContentIs}
use Rattle.frame_steps.specs.frame_accesses.Laws.{IsAt}
use Rattle.frame_steps.proofs.FrameAccesses.Runs.{stands, word-written, register_moves}
use Rattle.frame_steps.specs.frame_transfers.Laws.{CallAt, FitsTheStack, StandsFor}
use Rattle.frame_steps.specs.call_parts.Items.{exit_part}
use Rattle.frame_simulation.specs.call_stacks.InstructionItemsLaws.{is_usable, HasOuter, RunIsOver}
use Rattle.frame_simulation.specs.call_stacks.Stacks.{Start, StackIs}
use Rattle.frame_simulation.specs.call_exits.Leaving.{result_contents, ending_items}
use Rattle.frame_simulation.proofs.CallExits.Leaving.{returned-is, left_call}

-- the word of a status
status-word : (xs : Extents) (content : Content) (w status : ℕ) → ContentIs xs content w → content_status content ≡ Some status → w % 256 ≡ status
status-word xs (contents.Plain (Word n)) w status is e = let f : n % 256 ≡ status = cc in ap (λ z. z % 256) is ∙ f
status-word xs (contents.Plain (Address q)) w status is e = absurd (cc)
status-word xs (contents.Plain Unset) w status is e = absurd (cc)
status-word xs (Bundle cells) w status is e = absurd (cc)

-- the run is over some steps later
over-later : (p : Program) (s t u : State) (m n status : ℕ) → exec p m s ≡ Goes t → exec p n t ≡ Over (Done status) u → exec p (m + n) s ≡ Over (Done status) u
over-later p s t u m n status run e = exec_split p m n s ∙ ap (λ z. go_on z (exec p n)) run ∙ e

-- the three items that end the run
record Ends (p : Program) (s : State) : Type 0 where
  steps : ℕ
  last : State
  few : 4 * steps ≤ 7200
  run : exec p steps s ≡ Over (Done (register s 0 % 256)) last
  output : last.output ≡ s.output

ends : (p : Program) (there : Labels) (w : ℕ) (end : ℕ) (s : State) → IsAt p there w ending_items end s → Ends p s
ends p there w end s h =
    let rest = Plain (Memory Lda 0 31 (pos 1)) ∷ Plain (Pal 0x83) ∷ [] in
    let a = register_moves p there w 0 16 rest end s h (omega arith) in
    let t = a.to in
    let b = word-written p there a.come.next (Memory Lda 0 31 (pos 1)) (Plain (Pal 0x83) ∷ []) end 0 1 t a.come.is_at (omega arith) (omega arith) refl in
    let u = b.to in
    let status : register u 16 ≡ register s 0 = b.others 16 (λ e. omega (arith, e)) ∙ a.here in
    let run = plain_ends p there b.come.next (Pal 0x83) [] end u u (Done (register u 16 % 256)) (stands p there b.come.next (Plain (Pal 0x83)) [] end u b.come.is_at) (ap (λ n. service_step n u) b.here) in
    let through = steps_add_up p s t u a.come.comes b.come.comes in
    let paid = through.paid in
    let first = h.pc in
    let whole = h.items_at.2.2.2 in
    let third = b.come.is_at.pc in
    let rest_of = b.come.is_at.items_at.2 in
    record {
      steps = through.steps + 1;
      few = omega (arith, paid, first, whole, third, rest_of);
      last = u;
      run = over-later p s u u through.steps 1 (register u 16 % 256) through.run run ∙ ap (λ n. Over (Done (n % 256)) u) status;
      output = b.come.output ∙ a.come.output;
    }

pub runs_are_ended : (p : Program) (there : Labels) (start : Start) (c : CallAt) (o : Outer) (held : Places) (rest : List AsmItem) (end : ℕ) (s : State) → FitsTheStack c → StackIs p there start c [] held s → HasOuter o s → start.behind ≡ ending_items → (with_value : Bool) (status : ℕ) → result_status (result_contents with_value held) ≡ Some status → StandsFor p there (exit_part c.shape c.shape.saves rest) end c o.memory is_usable held s → RunIsOver p (end_locals o c.own (length c.shape.sizes)) (Done status) s
runs_are_ended p there start c o held rest end s call stack outer items with_value status e h =
    let x = left_call p there c o held rest end s call h in
    let back = stack.callers_are.1 in
    let whole : word_address back.place / 4 * 4 ≡ word_address back.place = omega arith in
    let pc : x.to.pc ≡ word_address back.place = x.pc ∙ ap (λ n. n / 4 * 4) back.is ∙ whole in
    let at = x.is_at back.place ending_items start.end pc (subst (λ l. ItemsAt p there back.place l start.end) items back.items_at) in
    let y = ends p there back.place start.end x.to at in
    let zero-is : register x.to 0 ≡ register s 0 = x.others 0 (inl (omega arith)) (λ f. omega (arith, f)) (λ f. omega (arith, f)) (λ f. omega (arith, f)) in
    let word = status-word c.extents (first_or_unset (result_contents with_value held)) (register s 0) status (returned-is c.extents held (register s 0) with_value (h.registers 0 refl)) e in
    let left = x.comes.paid in
    let few = y.few in
    record {
      steps = x.comes.steps + y.steps;
      last = y.last;
      paid = omega (arith, left, few);
      run = over-later p s x.to y.last x.comes.steps y.steps (register x.to 0 % 256) x.comes.run y.run ∙ ap (λ n. Over (Done n) y.last) (ap (λ n. n % 256) zero-is ∙ word);
      output = y.output ∙ x.output ∙ outer.output;
    }
