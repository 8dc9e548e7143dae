use Rattle.std.proofs.Common.{◌∙◌, ap}
use Rattle.std.specs.Result.{result_ok}
use Rattle.alpha_lines.proofs.Numbers.{parses, spelled_is_text}
use Rattle.alpha_lines.proofs.number.parse_number.Goals as goal

pub returns-in-Ok : goal.returns-in-Ok
returns-in-Ok c n small e = c.ok.ensures.value ∙ ap result_ok (parses _ n c.parse.result small (c.in-Ok.ensures.cases.0 ∙ e) c.parse.ensures.value.0)

pub returns-in-Err : goal.returns-in-Err
returns-in-Err c n small e = absurd (c.in-Err.ensures.cases.0 (spelled_is_text _ n small e))
