use Rattle.std.proofs.Common.{◌∙◌, find, ap}
use Rattle.std.specs.Str.{bytes_eq}
use Rattle.c_lexer.specs.Words.{spelling}
use Rattle.c_lexer.proofs.Keywords.{found_by_first}
use Rattle.c_lexer.proofs.words.keyword_of_word.Goals as goal

pub returns-in-len1-up : goal.returns-in-len1-up
returns-in-len1-up c =
    let word = c.args.word.now in
    c.keyword_among.ensures ∙ (ap (find (λ k. bytes_eq word (spelling k))) c.keywords_with.ensures ∙ found_by_first word _ c.in-len1-up.len_at_least)
