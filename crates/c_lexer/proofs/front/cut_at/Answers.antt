use Rattle.c_lexer.specs.Blanks.{is_line_start}
use Rattle.c_lexer.proofs.Found.{found_piece, some, within, none}
use Rattle.c_lexer.proofs.front.cut_at.Goals as goal

pub returns-clause-found : goal.returns-clause-found
returns-clause-found c = found_piece (is_line_start c.args.before.now) c.args.s.now c.front.result c.front.ensures

pub returns-clause-some : goal.returns-clause-some
returns-clause-some c = some (is_line_start c.args.before.now) c.args.s.now c.front.result c.front.ensures

pub returns-clause-within : goal.returns-clause-within
returns-clause-within c = within (is_line_start c.args.before.now) c.args.s.now c.front.result c.front.ensures

pub returns-clause-none : goal.returns-clause-none
returns-clause-none c = none (is_line_start c.args.before.now) c.args.s.now c.front.result c.front.ensures
