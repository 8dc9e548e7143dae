use Rattle.std.proofs.Common.{◌≡◌, arith, refl, subst, rules}
use Rattle.c_lexer.specs.declared.piece.Piece.TheVariants as p
use Rattle.c_lexer.specs.Pieces.{Cuts, Pieces}
use Rattle.c_lexer.proofs.Once.{cuts_some}
use Rattle.c_lexer.proofs.Walk.{cut_is, skip_more}
use Rattle.c_lexer.proofs.lexer.Lexer.advance.Goals as goal

pub loop-before-init : goal.loop-before-init
loop-before-init c = record { in_range = omega arith; same_text = refl; skipped = Pieces.none }

pub loop-before-preserved : goal.loop-before-preserved
loop-before-preserved c =
    let text = c.loop-before.self-inside.text.now in
    let start = c.self.inside.text.now in
    let at = c.loop-before.self-inside.at in
    let cut = c.in-Some-Blank.field-0 in
    let blank : cut.piece ≡ p.Blank = search rules in
    let cuts : Cuts text at cut.len p.Blank = cut_is text at c.split_at.result.0.now c.split_at.result.1.now cut p.Blank c.split_at.ensures.front c.split_at.ensures.back blank c.in-Some-Blank.ensures.found in
    let moved : Cuts start at cut.len p.Blank = subst (λ t. Cuts t at cut.len p.Blank) c.loop-before.invariant.same_text cuts in
    record {
      in_range = (cuts_some text at cut.len p.Blank cuts).1;
      same_text = c.loop-before.invariant.same_text;
      skipped = skip_more start c.self.inside.at at cut.len c.loop-before.invariant.skipped moved;
    }
