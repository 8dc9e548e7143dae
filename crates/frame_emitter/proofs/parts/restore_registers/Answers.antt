use Rattle.std.proofs.Common.{◌≡◌, ◌-◌, ◌∙◌, ap, subst, arith}
use Rattle.frame_steps.specs.call_parts.Items.{restore_if, restore_registers}
use Rattle.frame_emitter.specs.Layouts.{shape_in}
use Rattle.frame_emitter.proofs.Loops.{restore_more}
use Rattle.frame_emitter.proofs.parts.restore_registers.Goals as goal

pub loop-register-preserved : goal.loop-register-preserved
loop-register-preserved c =
    let s = shape_in c.args.layout.now in
    let r = c.loop-register.register - 1 in (
      omega (arith, c.loop-register-test.true),
      c.in_ok-restore_if.ensures ∙ ap (restore_if s (s.saves r) r) c.loop-register.invariant.1
          ∙ restore_more s s.saves r c.loop-register.register c.args.items.now (omega (arith, c.loop-register-test.true)) (omega (arith, c.loop-register.auto.register)),
    )

pub returns : goal.returns
returns c =
    let s = shape_in c.args.layout.now in
    let e : c.loop-register.register ≡ 9 = omega (arith, c.loop-register-test.false, c.loop-register.invariant.0) in
    subst (λ r. c.loop-register.items ≡ restore_registers s s.saves r (16 - r) c.args.items.now) e c.loop-register.invariant.1
