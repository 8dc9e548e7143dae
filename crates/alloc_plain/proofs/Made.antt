-- What was put down is the journal.
use Rattle.std.proofs.Common.{◌≡◌, ℕ, List, [], ◌++◌, Bool, true, false, refl, sym, ap, ◌∙◌, subst, length, arith}
use Rattle.std.specs.Prelude.{slice_index_or}
use Rattle.pass_core.specs.Functions.{AllInsns, UsesRegisters}
use Rattle.temp_ir.specs.declared.insn.TempInsn.{TempInsn}
use Rattle.temp_ir.specs.Insns.{reads_of, writes_of, targets_of, flows_on_of}
use Rattle.alloc_model.specs.declared.allocation.Event.{Event}
use Rattle.alloc_model.specs.Temporaries.{TemporaryCode}
use Rattle.alloc_model.specs.Lifetimes.{Blocks}
use Rattle.alloc_rules.specs.Visits.{AreWants}
use Rattle.alloc_rules.specs.Journal.{IsJournal}
use Rattle.bitvector_flow.specs.Flows.{has_at, AreBounded}
use Rattle.bitvector_flow.specs.Lives.{AreLive, HasFewRegisters}
use Rattle.alloc_lifetime_ends.specs.Wanted.{live_by, wants_of}
use Rattle.alloc_lifetime_ends.specs.Ends.{AreEnds}
use Rattle.alloc_lifetime_ends.proofs.Wants.{wants_exact}
use Rattle.alloc_plain_lists.specs.Plain.{plain_plan}
use Rattle.alloc_plain_lists.proofs.Registers.{few}
use Rattle.alloc_plain.specs.model.Held.{nothing_held}
use Rattle.alloc_plain.specs.model.Visits.{journal_in_slots}
use Rattle.alloc_plain.proofs.Journals.{journal_is}

same_bool : (x y : Bool) → (x ≡ true → y ≡ true) → (y ≡ true → x ≡ true) → x ≡ y
same_bool true y there back = sym (there refl)
same_bool false true there back = back refl
same_bool false false there back = refl

-- each instruction reads and writes few temporaries
few_registers : (x : TempInsn) → HasFewRegisters reads_of writes_of x
few_registers x =
    let most = few x in
    let reads = most.0 in
    let writes = most.1 in
    (omega (arith, reads), omega (arith, writes))

pub all_few : (blocks : Blocks) → AllInsns (HasFewRegisters reads_of writes_of) blocks
all_few blocks k d within j e inside = few_registers _

pub inside_ends : (blocks shown : Blocks) (temps : ℕ) (ends shown_ends : List ℕ) → shown ≡ blocks → shown_ends ≡ ends → length ends ≡ temps → AllInsns (UsesRegisters reads_of writes_of temps) blocks →
    AllInsns (UsesRegisters reads_of writes_of (length shown_ends)) shown
inside_ends blocks shown temps ends shown_ends shown_is ends_are many uses =
    subst (AllInsns (UsesRegisters reads_of writes_of (length shown_ends))) (sym shown_is)
    (subst (λ n. AllInsns (UsesRegisters reads_of writes_of n) blocks) (sym (ap length ends_are ∙ many)) uses)

pub bounded_tops : (blocks shown : Blocks) (temps : ℕ) (ends shown_ends : List ℕ) (tops shown_tops : List (List Bool)) → shown ≡ blocks → shown_ends ≡ ends → shown_tops ≡ tops → length ends ≡ temps →
    AreBounded (length blocks) temps tops → AreBounded (length shown) (length shown_ends) shown_tops
bounded_tops blocks shown temps ends shown_ends tops shown_tops shown_is ends_are tops_are many are =
    subst (λ bs. AreBounded (length bs) (length shown_ends) shown_tops) (sym shown_is)
    (subst (λ ts. AreBounded (length blocks) (length shown_ends) ts) (sym tops_are)
    (subst (λ n. AreBounded (length blocks) n tops) (sym (ap length ends_are ∙ many)) are))

module _ (f : TemporaryCode) (params temps : ℕ) (tops bottoms : List (List Bool)) (are : AreLive reads_of writes_of targets_of flows_on_of f.blocks temps tops bottoms)
    (ends : List ℕ) (are_ends : AreEnds (wants_of f.blocks bottoms) temps ends) (uses : AllInsns (UsesRegisters reads_of writes_of temps) f.blocks) where
  wanted : AreWants (plain_plan f params temps) (wants_of f.blocks bottoms)
  wanted = wants_exact (plain_plan f params temps) temps tops bottoms are

  top_live : (t block : ℕ) → slice_index_or (slice_index_or tops block []) t false ≡ live_by f.blocks bottoms t block 0
  top_live t block = same_bool (has_at tops block t) (live_by f.blocks bottoms t block 0)
      (λ h. (wanted.lives t block 0).1 ((are.live_at_top t block).0 h)) (λ h. (are.live_at_top t block).1 ((wanted.lives t block 0).0 h))

  pub journal_made : (shown : Blocks) (shown_tops : List (List Bool)) (shown_ends : List ℕ) (first events : List Event) → shown ≡ f.blocks → shown_tops ≡ tops → shown_ends ≡ ends → first ≡ [] →
      events ≡ first ++ journal_in_slots shown_ends shown_tops 0 0 shown nothing_held → IsJournal (plain_plan f params temps) events
  journal_made shown shown_tops shown_ends first events shown_is tops_are ends_shown none put = record {
    wants = wants_of f.blocks bottoms;
    are_wants = wanted;
    is = put ∙ ap (λ es. es ++ journal_in_slots shown_ends shown_tops 0 0 shown nothing_held) none
        ∙ ap (λ bs. journal_in_slots shown_ends shown_tops 0 0 bs nothing_held) shown_is
        ∙ ap (λ ts. journal_in_slots shown_ends ts 0 0 f.blocks nothing_held) tops_are
        ∙ ap (λ es. journal_in_slots es tops 0 0 f.blocks nothing_held) ends_shown
        ∙ sym (journal_is f params temps (wants_of f.blocks bottoms) wanted ends are_ends tops top_live uses);
  }
