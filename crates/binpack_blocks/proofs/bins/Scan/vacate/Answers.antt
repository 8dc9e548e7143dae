use Rattle.std.proofs.Common.{sym, ap, ◌∙◌, ◌+◌, ◌*◌, arith, ◌≡◌, ◌≢◌}
use Rattle.std.specs.Prelude.{slice_set, Some, None}
use Rattle.binpack_blocks.specs.model.Bins.{held_in, lives, must_store}
use Rattle.binpack_blocks.specs.model.Rows.{is_wanted}
use Rattle.binpack_blocks.specs.model.Scanning.{local_site}
use Rattle.binpack_blocks.proofs.Holders.{inside_held, set_same, set_other}
use Rattle.binpack_blocks.proofs.Bringing.{open_may, open_unfixed, takes_fixes}
use Rattle.binpack_blocks.proofs.bins.Scan.vacate.Goals as goal

pub refuge-requires-clause-low : goal.refuge-requires-clause-low
refuge-requires-clause-low c = inside_held c.args.self.now.temps c.args.self.now.bins.items c.args.r c.args.held c.args.self.now.inside (sym c.requires.there)

pub shift-requires-clause-apart : goal.shift-requires-clause-apart
shift-requires-clause-apart c e = open_unfixed c.args.insn.now c.args.standing.now c.in-Some.to c.args.r c.in-Some.ensures.open (takes_fixes c.args.insn.now c.args.r c.requires.takes) (sym e)

pub returns-in_ok-shift-in-Some-clause-steps : goal.returns-in_ok-shift-in-Some-clause-steps
returns-in_ok-shift-in-Some-clause-steps c u before =
    c.in_ok-shift-in-Some.ensures.steps (local_site c.args.self.now.temps c.args.lives.now c.args.number c.args.insn.now c.args.standing.now) u
    (takes_fixes c.args.insn.now c.args.r c.requires.takes) c.requires.wanted
    (open_may c.args.self.now.temps c.args.lives.now c.args.number c.args.insn.now c.args.standing.now c.in-Some.to c.in-Some.ensures.given c.in-Some.ensures.open)
    c.in-Some.ensures.free before

pub returns-in_ok-shift-in-Some-clause-saved : goal.returns-in_ok-shift-in-Some-clause-saved
returns-in_ok-shift-in-Some-clause-saved c =
    let apart : c.args.r ≢ c.in-Some.to = λ e. open_unfixed c.args.insn.now c.args.standing.now c.in-Some.to c.args.r c.in-Some.ensures.open (takes_fixes c.args.insn.now c.args.r c.requires.takes) e in
    let none : held_in c.shift.new.self.bins.items c.args.r ≡ None =
    ap (λ z. held_in z c.args.r) c.in_ok-shift-in-Some.ensures.bins
    ∙ set_other (slice_set c.args.self.now.bins.items c.args.r None) c.in-Some.to c.args.r (Some c.args.held) apart
    ∙ set_same c.args.self.now.bins.items c.args.r None (let many = c.args.self.now.many in let low = c.requires.given in omega (arith, many, low)) in
    ap (λ o. must_store (lives (is_wanted c.args.lives.now (2 * c.args.number + 1)) o) o) none

pub returns-in_ok-shift-in-Some-clause-fixed : goal.returns-in_ok-shift-in-Some-clause-fixed
returns-in_ok-shift-in-Some-clause-fixed c q takes ne =
    ap (λ z. held_in z q) c.in_ok-shift-in-Some.ensures.bins
    ∙ set_other (slice_set c.args.self.now.bins.items c.args.r None) c.in-Some.to q (Some c.args.held) (open_unfixed c.args.insn.now c.args.standing.now c.in-Some.to q c.in-Some.ensures.open (takes_fixes c.args.insn.now q takes))
    ∙ set_other c.args.self.now.bins.items c.args.r q None ne
