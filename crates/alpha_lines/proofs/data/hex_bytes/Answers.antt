use Rattle.std.proofs.Common.{◌≡◌, ◌++◌, sym, subst, List, ℕ}
use Rattle.std.specs.Prelude.{option_map}
use Rattle.alpha_lines.specs.model.Data.{hex_of}
use Rattle.alpha_lines.proofs.Answers.{bytes_more}
use Rattle.alpha_lines.proofs.data.hex_bytes.Goals as goal

pub loop-rest-preserved : goal.loop-rest-preserved
loop-rest-preserved c =
    subst (λ (done : List ℕ). hex_of c.args.digits.now ≡ option_map (λ t. done ++ t) (hex_of c.in-Some.behind.now)) (sym c.in_ok-push.ensures.items)
    (bytes_more (hex_of c.args.digits.now) c.loop-rest.bytes.items c.loop-rest.rest.now c.in-Some.behind.now c.in-Some.byte (sym c.in-Some.ensures.found) c.loop-rest.invariant)
