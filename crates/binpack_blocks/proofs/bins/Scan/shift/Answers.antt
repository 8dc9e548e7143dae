use Rattle.std.proofs.Common.{sym, ap, ◌∙◌, arith}
use Rattle.std.specs.Prelude.{slice_set, Some}
use Rattle.binpack_blocks.specs.model.Bins.{held_in, has_temp}
use Rattle.binpack_blocks.specs.model.Steps.Step.{Shifts}
use Rattle.binpack_blocks.specs.model.Steps.Steps.{More}
use Rattle.binpack_blocks.proofs.Holders.{inside_held, only_held, cleared_temp}
use Rattle.binpack_blocks.proofs.Bringing.{leaves_dead}
use Rattle.binpack_blocks.proofs.bins.Scan.shift.Goals as goal

pub put-requires-clause-low : goal.put-requires-clause-low
put-requires-clause-low c =
    let same = c.clear.ensures.temps in
    let low = inside_held c.args.self.now.temps c.args.self.now.bins.items c.args.r c.args.held c.args.self.now.inside (sym c.requires.there) in
    omega (arith, low, same)

pub put-requires-clause-alone : goal.put-requires-clause-alone
put-requires-clause-alone c q e =
    let was = cleared_temp c.args.self.now.bins.items c.args.r q c.args.held.temp (let many = c.args.self.now.many in let low = c.requires.from in omega (arith, many, low)) (ap (λ z. has_temp (held_in z q) c.args.held.temp) (sym c.clear.ensures.bins) ∙ e) in
    absurd (was.0 (only_held c.args.self.now.bins.items c.args.r c.args.held c.args.self.now.once (sym c.requires.there) q was.1))

pub returns-clause-steps : goal.returns-clause-steps
returns-clause-steps c s u fixed wanted may dead before =
    More before (Shifts c.args.r c.args.to c.args.held c.requires.there fixed wanted may
    (leaves_dead s.before (held_in c.args.self.now.bins.items c.args.to) _ _ dead (c.put.ensures.relied ∙ c.clear.ensures.relied))
    (c.put.ensures.bins ∙ ap (λ z. slice_set z c.args.to (Some c.args.held)) c.clear.ensures.bins)
    (ap (λ v. v.items) (c.put.ensures.made ∙ c.clear.ensures.made) ∙ c.in_ok-push.ensures.items))
