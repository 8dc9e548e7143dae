-- The five lines of a summary.
use Rattle.std.specs.Prelude.{ℕ, List, ◌++◌, codes}
use Rattle.call_outcomes.specs.Outcome.{line_with}
use Rattle.compile_calls.specs.declared.summary.Summary.{Summary}

-- the bytes of the text, the words of the image, the steps and the bytes of output of its run, and its status
abbrev pub summary_text : Summary → List ℕ
summary_text s =
    line_with (codes "text ") s.text ++ (line_with (codes "words ") s.words ++ (line_with (codes "steps ") s.steps
    ++ (line_with (codes "output ") s.output ++ line_with (codes "status ") s.status)))
