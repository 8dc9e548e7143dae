use Rattle.std.proofs.Common.{suc}
use Rattle.std.specs.Prelude.{drop}
use Rattle.pass_core.specs.Functions.{UsesRegisters}
use Rattle.temp_ir.specs.Insns.{reads_of, writes_of}
use Rattle.binpack_blocks.specs.model.Scanning.{state_of}
use Rattle.binpack_blocks.proofs.Rests.{row_standing, first_open, all_at, adds_one}
use Rattle.binpack_blocks.proofs.bins.Scan.scan_next.Goals as goal

pub visit-requires-clause-open : goal.visit-requires-clause-open
visit-requires-clause-open c t named =
    first_open c.insn_at-insn.result (drop (suc c.args.place) c.args.insns.now) c.row_at-behind.result.now t
    (row_standing c.args.insns.now c.args.place c.args.standing.now c.row_at-behind.result.now c.requires.there c.requires.standing c.row_at-behind.ensures) named

pub visit-requires-clause-low : goal.visit-requires-clause-low
visit-requires-clause-low c = all_at (UsesRegisters reads_of writes_of c.args.self.now.temps) c.args.insns.now c.args.place c.insn_at-insn.result c.requires.low c.insn_at-insn.ensures

pub returns-clause-rows : goal.returns-clause-rows
returns-clause-rows c u start before =
    adds_one c.args.self.now.temps c.args.lives.now c.args.first c.args.insns.now u (state_of c.args.self.now) (state_of c.visit.new.self) c.args.place start c.args.lists.now
    (record { transfers = c.push.new.self; registers = c.push-2.new.self }) c.insn_at-insn.result c.row_at-behind.result.now c.in_ok-row.row.transfers c.in_ok-row.row.registers
    c.insn_at-insn.ensures
    (row_standing c.args.insns.now c.args.place c.args.standing.now c.row_at-behind.result.now c.requires.there c.requires.standing c.row_at-behind.ensures)
    c.in_ok-row.ensures.visits c.in_ok-push.ensures.ok c.in_ok-push-2.ensures.ok before
