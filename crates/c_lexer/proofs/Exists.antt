-- Each text has a list of tokens or a first fault place.
use Rattle.std.proofs.Common.{◌≡◌, ℕ, zero, suc, ◌+◌, ◌<◌, ◌≤◌, ◌⊎◌, List, [], ◌∷◌, length, take, drop, Option, Some, None, refl, subst, inl, inr, ⊎_elim, arith}
use Rattle.std.proofs.lemmas.Bool.{cases_lt}
use Rattle.c_lexer.specs.declared.piece.Piece.{Piece}
use Rattle.c_lexer.specs.declared.piece.Piece.TheVariants as p
use Rattle.c_lexer.specs.declared.piece.Cut.{Cut}
use Rattle.c_lexer.specs.Blanks.{is_line_start}
use Rattle.c_lexer.specs.Pieces.{Cuts, Lexeme, lexeme, Pieces, Toks, Tokens, IsStuck, FaultAt}
use Rattle.c_lexer.specs.model.Front.{front}
use Rattle.c_lexer.proofs.Fronts.{Answers, front_answers}
use Rattle.c_lexer.proofs.Once.{cuts_some}

-- whole pieces up to the end, or to where no piece begins
record HasWholePieces (text : List ℕ) (at : ℕ) : Type 0 where
  tokens : List Lexeme
  to : ℕ
  pieces : Pieces text at tokens to
  stops : (to ≡ length text) ⊎ IsStuck text to

goes_on : (text : List ℕ) (at n : ℕ) (x : Piece) → Cuts text at n x → HasWholePieces text (at + n) → HasWholePieces text at
goes_on text at n p.Blank c r = record { tokens = r.tokens; to = r.to; pieces = Pieces.blank n r.tokens c r.pieces; stops = r.stops }
goes_on text at n (p.Token kind) c r =
    record { tokens = lexeme text (record { kind = kind; at = at; len = n }) ∷ r.tokens; to = r.to; pieces = Pieces.token n kind r.tokens c r.pieces; stops = r.stops }

from_front : (text : List ℕ) (at : ℕ) (o : Option Cut) → at < length text → Answers (is_line_start (take at text)) (drop at text) o
    → ((i : ℕ) → at < i → i ≤ length text → HasWholePieces text i) → HasWholePieces text at
from_front text at None lt answers next = record { tokens = []; to = at; pieces = Pieces.none; stops = inr (record { some = lt; none = λ n x c. answers n x c.begins_with }) }
from_front text at (Some cut) lt answers next =
    let c : Cuts text at cut.len cut.piece = record { begins_with = answers } in
    let w = cuts_some text at cut.len cut.piece c in
    goes_on text at cut.len cut.piece c (next (at + cut.len) (omega arith) w.1)

reaches : (fuel : ℕ) (text : List ℕ) (at : ℕ) → at ≤ length text → length text ≤ at + fuel → HasWholePieces text at
reaches zero text at le enough = record { tokens = []; to = at; pieces = Pieces.none; stops = inl (omega arith) }
reaches (suc fuel) text at le enough = ⊎_elim
    (λ (lt : at < length text). from_front text at (front (is_line_start (take at text)) (drop at text)) lt (front_answers (is_line_start (take at text)) (drop at text))
    (λ i more within. reaches fuel text i within (omega arith)))
    (λ (over : length text ≤ at). let end : at ≡ length text = omega arith in record { tokens = []; to = at; pieces = Pieces.none; stops = inl end })
    (cases_lt at (length text))

pub tokens_exist : (text : List ℕ) → ((toks : Toks) × Tokens text toks) ⊎ ((at : ℕ) × FaultAt text at)
tokens_exist text =
    let r = reaches (length text) text 0 (omega arith) (omega arith) in
    ⊎_elim
    (λ (end : r.to ≡ length text). inl (record { items = r.tokens; size = length text }, record { pieces = subst (Pieces text 0 r.tokens) end r.pieces; size = refl }))
    (λ (stuck : IsStuck text r.to). inr (r.to, record { tokens = r.tokens; pieces = r.pieces; stuck = stuck }))
    r.stops
