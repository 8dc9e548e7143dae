use Rattle.alpha_text.proofs.Judged.{entry_some, entry_none}
use Rattle.alpha_text.proofs.items.has_entry.Goals as goal

pub returns-in-Some : goal.returns-in-Some
returns-in-Some c = entry_some c.args.items.now c.in-Some.at c.has_word.result c.in-Some.ensures.place c.has_word.ensures

pub returns-in-None : goal.returns-in-None
returns-in-None c = entry_none c.args.items.now c.in-None.ensures.place
