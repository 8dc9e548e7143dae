use Rattle.std.proofs.Common.{◌≡◌, ℕ, suc, ◌<◌, List, Bool, true, false, cond, Some, get_or, drop, sym, ◌∙◌, ap, add-one, nat_eq, slice_get}
use Rattle.std.specs.Option.{option_eq}
use Rattle.alpha_isa.specs.ImageFormat.{mark}
use Rattle.alpha_image.specs.ImageFault.{differs_at}
use Rattle.alpha_image.proofs.ImageFaults.{differs_step, get_or-in}
use Rattle.alpha_image.proofs.read.mark_fault.Goals as goal

-- one byte of the mark is compared
step : (bytes : List ℕ) (i : ℕ) (same : Bool) → i < 4 → option_eq nat_eq (slice_get bytes i) (Some (get_or mark i 0)) ≡ same → differs_at (drop i mark) (drop i bytes) i ≡ cond same (differs_at (drop (suc i) mark) (drop (suc i) bytes) (suc i)) (Some i)
step bytes i same within is = differs_step mark bytes i i (get_or mark i 0) within (get_or-in mark i 0 within) ∙ ap (λ b. cond b (differs_at (drop (suc i) mark) (drop (suc i) bytes) (suc i)) (Some i)) is

pub returns-then-not-has_byte : goal.returns-then-not-has_byte
returns-then-not-has_byte c =
    let differs : option_eq nat_eq (slice_get c.args.bytes.now c.loop-i.i) (Some (get_or mark c.loop-i.i 0)) ≡ false = cc in
    sym (step c.args.bytes.now c.loop-i.i false c.loop-i-test.true differs) ∙ c.loop-i.invariant

pub loop-i-preserved : goal.loop-i-preserved
loop-i-preserved c =
    let same : option_eq nat_eq (slice_get c.args.bytes.now c.loop-i.i) (Some (get_or mark c.loop-i.i 0)) ≡ true = cc in
    ap (λ n. differs_at (drop n mark) (drop n c.args.bytes.now) n) (add-one c.loop-i.i)
    ∙ sym (step c.args.bytes.now c.loop-i.i true c.loop-i-test.true same) ∙ c.loop-i.invariant
