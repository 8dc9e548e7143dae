-- The journal of a scan's allocation.
use Rattle.std.proofs.Common.{◌≡◌, ◌<◌, ℕ, List, [], Bool, true, sym, ap, ◌∙◌, subst, length}
use Rattle.std.specs.Prelude.{All, slice_index_or}
use Rattle.bk_bits.specs.Sets.{has}
use Rattle.pass_core.specs.Live.{Live}
use Rattle.temp_ir.specs.declared.insn.TempInsn.{TempInsn}
use Rattle.temp_ir.specs.Insns.{reads_of, writes_of, targets_of, flows_on_of}
use Rattle.temp_ir.specs.Programs.{TempFn}
use Rattle.alloc_model.specs.declared.allocation.Transfer.{Transfer}
use Rattle.alloc_model.specs.declared.allocation.Event.{Event}
use Rattle.alloc_model.specs.Places.{Plan}
use Rattle.alloc_model.specs.Faithful.{IsGivenRegister, IsTransfer}
use Rattle.alloc_rules.specs.declared.scan.Lifetimes.{Lifetimes}
use Rattle.alloc_rules.specs.Scan.{AreLifetimes}
use Rattle.alloc_rules.specs.Visits.{Wants, AreWants}
use Rattle.alloc_rules.specs.Journal.{IsJournal, journal_of}
use Rattle.bitvector_flow.specs.Lives.{AreLive}
use Rattle.alloc_lifetime_ends.specs.Wanted.{wants_of}
use Rattle.alloc_lifetime_ends.proofs.Wants.{wants_exact}
use Rattle.alloc_journal.specs.Covered.{SayCovered}
use Rattle.alloc_journal.specs.Handed.{HasRows, HandsHomesOn}
use Rattle.binpack_blocks.specs.declared.block.Lists.{Lists}
use Rattle.binpack_blocks.specs.declared.blocks.Maps.{Maps}
use Rattle.binpack_blocks.specs.model.Bins.{Bins}
use Rattle.binpack_blocks.specs.model.Whole.{ScansBlocks}
use Rattle.binpack_scan.specs.model.Replays.{IsPlanOf}
use Rattle.binpack_scan.proofs.Lists.{scans_made}
use Rattle.binpack_scan.proofs.Housed.{scan_hands}
use Rattle.binpack_scan.proofs.Covered.{say_covered}

-- what the rows of a scan name
pub rows_given : (f : TempFn) (l : Lifetimes) (tops : List (List Bool)) (maps : Maps) (lists : Lists) (bins : Bins) (shown : List (List Transfer)) → shown ≡ lists.transfers →
    ScansBlocks f.temps l f.blocks tops (length f.blocks) maps lists bins → All (All (IsTransfer f.temps IsGivenRegister)) shown
rows_given f l tops maps lists bins shown is scans =
    subst (All (All (IsTransfer f.temps IsGivenRegister))) (sym is) (scans_made f.temps l f.blocks tops scans).made.transfers

pub registers_given : (f : TempFn) (l : Lifetimes) (tops : List (List Bool)) (maps : Maps) (lists : Lists) (bins : Bins) (shown : List (List ℕ)) → shown ≡ lists.registers →
    ScansBlocks f.temps l f.blocks tops (length f.blocks) maps lists bins → All (All IsGivenRegister) shown
registers_given f l tops maps lists bins shown is scans =
    subst (All (All IsGivenRegister)) (sym is) (scans_made f.temps l f.blocks tops scans).made.registers

module _ (f : TempFn) (l : Lifetimes) (tops bottoms : List (List Bool)) (maps : Maps) (lists : Lists) (bins : Bins) (are : AreLifetimes f l)
    (live : AreLive reads_of writes_of targets_of flows_on_of f.blocks f.temps tops bottoms) (scans : ScansBlocks f.temps l f.blocks tops (length f.blocks) maps lists bins)
    (a : Plan) (plan : IsPlanOf f maps.top maps.bottom lists.transfers lists.registers a) where
  exact : AreWants a (wants_of a.function.blocks bottoms)
  exact = wants_exact a f.temps tops bottoms (subst (λ bs. AreLive reads_of writes_of targets_of flows_on_of bs f.temps tops bottoms) (sym plan.blocks) live)

  moved : ScansBlocks a.temps l a.function.blocks tops (length a.function.blocks) maps lists bins
  moved = subst (λ n. ScansBlocks n l a.function.blocks tops (length a.function.blocks) maps lists bins) (sym plan.temps)
      (subst (λ bs. ScansBlocks f.temps l bs tops (length bs) maps lists bins) (sym plan.blocks) scans)

  hands : HandsHomesOn a (wants_of a.function.blocks bottoms)
  hands = scan_hands a (wants_of a.function.blocks bottoms) l tops
      (λ b t lv. (live.live_at_top t b).1 (subst (λ bs. Live reads_of writes_of targets_of flows_on_of bs t b 0) plan.blocks ((exact.lives t b 0).0 lv)))
      maps lists bins moved
      (record {
        tops_agree = λ k low. ap (λ z. slice_index_or z k []) plan.top;
        transfers_agree = λ k low. ap (λ z. slice_index_or z k []) plan.at;
        registers_agree = λ k low. ap (λ z. slice_index_or z k []) plan.regs;
      })

  pub journal_for : (events : List Event) (at : List (List Transfer)) (regs : List (List ℕ)) → at ≡ lists.transfers → regs ≡ lists.registers →
      ((p : Plan) (wants : Wants) → HasRows p f at regs → SayCovered l p wants → HandsHomesOn p wants → events ≡ journal_of p wants) → IsJournal a events
  journal_for events at regs at_is regs_is by = record {
    wants = wants_of a.function.blocks bottoms;
    are_wants = exact;
    is = by a (wants_of a.function.blocks bottoms)
        (record { blocks = plan.blocks; temps = plan.temps; transfers = plan.at ∙ sym at_is; registers = plan.regs ∙ sym regs_is })
        (say_covered f l a (wants_of a.function.blocks bottoms) plan.blocks plan.temps are exact) hands;
  }
