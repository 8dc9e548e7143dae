-- What is known of a text before its lines are judged.
use Rattle.std.specs.Prelude.{◌≡◌, ℕ, ◌<◌, ◌^◌, Some, find, IfSome}
use Rattle.alpha_lines.specs.Lines.{data_line}
use Rattle.alpha_text.specs.declared.survey.Survey.{Survey}
use Rattle.alpha_text.specs.Wrong.{lines_of, begins_data, is_label_named}
use Rattle.alpha_text.specs.model.Labels.{has_label}

-- the labels that the lines of the text name, and how many bytes its data has
pub record IsSurvey (survey : Survey) : Type 0 where
  pub names : (l : ℕ) → l < 2 ^ 32 → has_label survey.names l ≡ is_label_named (lines_of survey.text.now) l
  pub found : IfSome survey.count (λ n.
      (n < 2 ^ 64) × (find begins_data (lines_of survey.text.now) ≡ Some (data_line n)))
  pub only : (n : ℕ) → n < 2 ^ 64 → find begins_data (lines_of survey.text.now) ≡ Some (data_line n)
      → survey.count ≡ Some n
