use Rattle.std.proofs.Common.{◌≡◌, ◌+◌, ◌*◌, ◌-◌, take, drop, length, ap, ◌∙◌, arith, length-append}
use Rattle.std.specs.Prelude.{flat_map}
use Rattle.std.specs.Int.{w32, from_le_bytes}
use Rattle.alpha_isa.specs.ImageFormat.{four_bytes}
use Rattle.alpha_image.specs.ImageFault.{number_at}
use Rattle.alpha_image.proofs.ImageFaults.{more_numbers}
use Rattle.alpha_image.proofs.read.read_numbers.Goals as goal

pub loop-i-preserved : goal.loop-i-preserved
loop-i-preserved c =
    let four : c.args.start + 4 * c.loop-i.i + 4 - (c.args.start + 4 * c.loop-i.i) ≡ 4 = omega arith in
    let read : c.number.result ≡ number_at c.args.bytes.now (c.args.start + 4 * c.loop-i.i) =
    c.number.ensures ∙ ap (λ n. from_le_bytes w32 (take n (drop (c.args.start + 4 * c.loop-i.i) c.args.bytes.now))) four in
    record {
      spelled = ap (flat_map four_bytes) c.in_ok-push.ensures.items ∙ more_numbers c.args.bytes.now c.loop-i.numbers.items c.args.start c.loop-i.i c.number.result (λ k. omega (arith, c.type_inv.bytes k)) (omega arith) c.loop-i.invariant.spelled read;
      count = ap length c.in_ok-push.ensures.items ∙ simp length-append (omega arith);
    }
