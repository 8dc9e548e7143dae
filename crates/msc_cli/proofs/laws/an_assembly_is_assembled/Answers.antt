use Rattle.msc_cli.proofs.AssembleTexts.{assembled_text}
use Rattle.msc_cli.proofs.laws.an_assembly_is_assembled.Goals as goal

pub returns : goal.returns
returns c = assembled_text
