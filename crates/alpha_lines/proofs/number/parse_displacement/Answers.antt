use Rattle.std.proofs.Common.{◌∙◌, ap}
use Rattle.std.specs.Result.{result_ok}
use Rattle.alpha_lines.proofs.Numbers.{parses_signed, signed_is_text}
use Rattle.alpha_lines.proofs.number.parse_displacement.Goals as goal

pub returns-in-Ok-clause-only : goal.returns-in-Ok-clause-only
returns-in-Ok-clause-only c z small e = c.ok.ensures.value ∙ ap result_ok (parses_signed _ z c.parse.result small (c.in-Ok.ensures.cases.0 ∙ e) c.parse.ensures.value.0)

pub returns-in-Err-clause-only : goal.returns-in-Err-clause-only
returns-in-Err-clause-only c z small e = absurd (c.in-Err.ensures.cases.0 (signed_is_text _ z small e))
