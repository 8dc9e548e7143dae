use Rattle.image_code_bounds.proofs.ProgramWords.Parts as parts
use Rattle.image_code_bounds.proofs.program_words.laws.starts_are_short.Goals as goal

pub returns : goal.returns
returns c = parts.starts_are_short
