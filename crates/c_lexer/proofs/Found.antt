-- What is found, as the clauses of `cut_at` say it.
use Rattle.std.proofs.Common.{◌≡◌, ℕ, zero, suc, ◌<◌, ◌≤◌, Bool, List, length, Option, Some, None, sym, subst, arith}
use Rattle.std.specs.Prelude.{IfSome, IfNone}
use Rattle.c_lexer.specs.declared.piece.Piece.{Piece}
use Rattle.c_lexer.specs.declared.piece.Cut.{Cut}
use Rattle.c_lexer.specs.Pieces.{piece_of, Begins}
use Rattle.c_lexer.specs.model.Front.{front}
use Rattle.c_lexer.proofs.Fronts.{Answers, front_answers}

answers : (first : Bool) (s : List ℕ) (o : Option Cut) → o ≡ front first s → Answers first s o
answers first s o e = subst (Answers first s) (sym e) (front_answers first s)

pub not_empty : (first : Bool) (s : List ℕ) (n : ℕ) (x : Piece) → Begins first s n x → 0 < n
unfolding piece_of
not_empty first s zero x b = let is = b.piece.is in cc
not_empty first s (suc n) x b = omega arith

pub found_piece : (first : Bool) (s : List ℕ) (o : Option Cut) → o ≡ front first s → IfSome o (λ c. Begins first s c.len c.piece)
found_piece first s None e = tt
found_piece first s (Some c) e = answers first s (Some c) e

pub some : (first : Bool) (s : List ℕ) (o : Option Cut) → o ≡ front first s → IfSome o (λ c. 0 < c.len)
some first s None e = tt
some first s (Some c) e = not_empty first s c.len c.piece (answers first s (Some c) e)

pub within : (first : Bool) (s : List ℕ) (o : Option Cut) → o ≡ front first s → IfSome o (λ c. c.len ≤ length s)
within first s None e = tt
within first s (Some c) e = (answers first s (Some c) e).piece.within

pub none : (first : Bool) (s : List ℕ) (o : Option Cut) → o ≡ front first s → IfNone o ((n : ℕ) (x : Piece) → Begins first s n x → ⊥)
none first s None e = answers first s None e
none first s (Some c) e = tt
