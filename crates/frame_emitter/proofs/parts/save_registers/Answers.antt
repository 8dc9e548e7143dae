use Rattle.std.proofs.Common.{◌≡◌, ◌-◌, ◌∙◌, ap, subst, arith}
use Rattle.frame_steps.specs.call_parts.Items.{save_if, save_registers}
use Rattle.frame_emitter.specs.Layouts.{shape_in}
use Rattle.frame_emitter.proofs.Loops.{save_more}
use Rattle.frame_emitter.proofs.parts.save_registers.Goals as goal

pub loop-register-preserved : goal.loop-register-preserved
loop-register-preserved c =
    let s = shape_in c.args.layout.now in
    let r = c.loop-register.register - 1 in (
      omega (arith, c.loop-register-test.true),
      c.in_ok-save_if.ensures ∙ ap (save_if s (s.saves r) r) c.loop-register.invariant.1
          ∙ save_more s s.saves r c.loop-register.register c.args.items.now (omega (arith, c.loop-register-test.true)) (omega (arith, c.loop-register.auto.register)),
    )

pub returns : goal.returns
returns c =
    let s = shape_in c.args.layout.now in
    let e : c.loop-register.register ≡ 9 = omega (arith, c.loop-register-test.false, c.loop-register.invariant.0) in
    subst (λ r. c.loop-register.items ≡ save_registers s s.saves r (16 - r) c.args.items.now) e c.loop-register.invariant.1
