use Rattle.std.proofs.Common.{refl}
use Rattle.binpack_scan.proofs.Faithfulness.{scan_maps, same_maps, same_codes, faithful_of, lean_of}
use Rattle.binpack_scan.proofs.Journaled.{rows_given, registers_given, journal_for}
use Rattle.binpack_scan.proofs.allocation.binpack.Goals as goal

pub all_edges-requires-clause-bottoms : goal.all_edges-requires-clause-bottoms
all_edges-requires-clause-bottoms c =
    same_maps c.as_slice.result.now c.in_ok-maps.field-0.maps.bottom c.as_slice-3.result.now c.in_ok-live.live.top c.as_slice.ensures c.as_slice-3.ensures
    (scan_maps c.args.f.now.temps c.in_ok-lives.lives c.args.f.now.blocks c.in_ok-live.live.top c.in_ok-maps.field-0.maps c.in_ok-maps.field-0.lists c.in_ok-maps.ensures.0 c.in_ok-live.ensures.tops_bounded c.in_ok-maps.ensures.1).1

pub all_edges-requires-clause-needed : goal.all_edges-requires-clause-needed
all_edges-requires-clause-needed c =
    same_maps c.as_slice.result.now c.in_ok-maps.field-0.maps.bottom c.as_slice-4.result.now c.in_ok-live.live.top c.as_slice.ensures c.as_slice-4.ensures
    (scan_maps c.args.f.now.temps c.in_ok-lives.lives c.args.f.now.blocks c.in_ok-live.live.top c.in_ok-maps.field-0.maps c.in_ok-maps.field-0.lists c.in_ok-maps.ensures.0 c.in_ok-live.ensures.tops_bounded c.in_ok-maps.ensures.1).1

pub all_edges-requires-clause-tops : goal.all_edges-requires-clause-tops
all_edges-requires-clause-tops c =
    same_maps c.as_slice-2.result.now c.in_ok-maps.field-0.maps.top c.as_slice-3.result.now c.in_ok-live.live.top c.as_slice-2.ensures c.as_slice-3.ensures
    (scan_maps c.args.f.now.temps c.in_ok-lives.lives c.args.f.now.blocks c.in_ok-live.live.top c.in_ok-maps.field-0.maps c.in_ok-maps.field-0.lists c.in_ok-maps.ensures.0 c.in_ok-live.ensures.tops_bounded c.in_ok-maps.ensures.1).0

pub returns-clause-faithful : goal.returns-clause-faithful
returns-clause-faithful c =
    faithful_of c.args.f.now c.in_ok-lives.lives c.in_ok-live.live.top c.in_ok-live.live.bottom c.in_ok-maps.field-0.maps c.in_ok-maps.field-0.lists c.in_ok-maps.ensures.0 c.in_ok-lives.ensures c.in_ok-live.ensures c.requires
    c.in_ok-maps.ensures.1 _ (record { blocks = c.in_ok-func.ensures.blocks; params = c.in_ok-func.ensures.params; temps = c.in_ok-func.ensures.temps; top = refl; bottom = refl; at = refl; regs = refl }) c.in_ok-edges.ensures.ends
    (same_codes c.as_slice.result.now c.in_ok-maps.field-0.maps.bottom c.as_slice-2.result.now c.in_ok-maps.field-0.maps.top c.as_slice-3.result.now c.in_ok-live.live.top c.as_slice-4.result.now c.in_ok-live.live.top _
    c.as_slice.ensures c.as_slice-2.ensures c.as_slice-3.ensures c.as_slice-4.ensures c.in_ok-edges.ensures.codes)

pub returns-clause-lean : goal.returns-clause-lean
returns-clause-lean c =
    lean_of c.args.f.now c.in_ok-lives.lives c.in_ok-live.live.top c.in_ok-live.live.bottom c.in_ok-maps.field-0.maps c.in_ok-maps.field-0.lists c.in_ok-maps.ensures.0 c.in_ok-lives.ensures c.in_ok-live.ensures c.requires
    c.in_ok-maps.ensures.1 _ (record { blocks = c.in_ok-func.ensures.blocks; params = c.in_ok-func.ensures.params; temps = c.in_ok-func.ensures.temps; top = refl; bottom = refl; at = refl; regs = refl }) c.in_ok-edges.ensures.ends
    (same_codes c.as_slice.result.now c.in_ok-maps.field-0.maps.bottom c.as_slice-2.result.now c.in_ok-maps.field-0.maps.top c.as_slice-3.result.now c.in_ok-live.live.top c.as_slice-4.result.now c.in_ok-live.live.top _
    c.as_slice.ensures c.as_slice-2.ensures c.as_slice-3.ensures c.as_slice-4.ensures c.in_ok-edges.ensures.codes)

pub journal_of-requires-clause-transfers : goal.journal_of-requires-clause-transfers
journal_of-requires-clause-transfers c =
    rows_given c.args.f.now c.in_ok-lives.lives c.in_ok-live.live.top c.in_ok-maps.field-0.maps c.in_ok-maps.field-0.lists c.in_ok-maps.ensures.0 c.as_slice-5.result.now c.as_slice-5.ensures c.in_ok-maps.ensures.1

pub journal_of-requires-clause-registers : goal.journal_of-requires-clause-registers
journal_of-requires-clause-registers c =
    registers_given c.args.f.now c.in_ok-lives.lives c.in_ok-live.live.top c.in_ok-maps.field-0.maps c.in_ok-maps.field-0.lists c.in_ok-maps.ensures.0 c.as_slice-6.result.now c.as_slice-6.ensures c.in_ok-maps.ensures.1

pub returns-clause-journal : goal.returns-clause-journal
returns-clause-journal c =
    journal_for c.args.f.now c.in_ok-lives.lives c.in_ok-live.live.top c.in_ok-live.live.bottom c.in_ok-maps.field-0.maps c.in_ok-maps.field-0.lists c.in_ok-maps.ensures.0 c.in_ok-lives.ensures c.in_ok-live.ensures
    c.in_ok-maps.ensures.1 _ (record { blocks = c.in_ok-func.ensures.blocks; params = c.in_ok-func.ensures.params; temps = c.in_ok-func.ensures.temps; top = refl; bottom = refl; at = refl; regs = refl })
    c.in_ok-journal.journal c.as_slice-5.result.now c.as_slice-6.result.now c.as_slice-5.ensures c.as_slice-6.ensures c.in_ok-journal.ensures
