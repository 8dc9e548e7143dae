-- A walk over a text by calls of `next`: what a caller knows of the whole list of tokens.
use Rattle.std.proofs.Common.{◌≡◌, ℕ, ◌+◌, List, [], ◌++◌, length, take, drop, Result, Ok, Err, sym, ap, ap₂, ◌∙◌, subst, ⊎_elim, arith}
use Rattle.std.specs.Prelude.{IfOk, IfErr}
use Rattle.c_lexer.specs.declared.token.TokenKind.{TokenKind}
use Rattle.c_lexer.specs.declared.token.TokenKind.TheVariants.{End}
use Rattle.c_lexer.specs.declared.token.Token.{Token}
use Rattle.c_lexer.specs.declared.token.LexFault.{LexFault}
use Rattle.c_lexer.specs.declared.piece.Cut.{Cut}
use Rattle.c_lexer.specs.declared.piece.Piece.{Piece}
use Rattle.c_lexer.specs.declared.piece.Piece.TheVariants as p
use Rattle.c_lexer.specs.Blanks.{is_line_start}
use Rattle.c_lexer.specs.Pieces.{Begins, Cuts, Lexeme, Pieces, IsStuck}
use Rattle.c_lexer.specs.Steps.{TextPlace, IsEndToken, LexerGives, Refuses}
use Rattle.c_lexer.proofs.Once.{Stops, nothing_left, end_stops, cuts_some}

-- pieces, and then pieces
pub pieces-append : {text : List ℕ} {at mid to : ℕ} {ts us : List Lexeme} → Pieces text at ts mid → Pieces text mid us to → Pieces text at (ts ++ us) to
pieces-append Pieces.none d = d
pieces-append (Pieces.blank n ts c d') d = Pieces.blank n _ c (pieces-append d' d)
pieces-append (Pieces.token n kind ts c d') d = Pieces.token n kind _ c (pieces-append d' d)

-- what `cut_at` found at an offset
pub cut_is : (text : List ℕ) (at : ℕ) (before rest : List ℕ) (cut : Cut) (x : Piece) → before ≡ take at text → rest ≡ drop at text → cut.piece ≡ x
    → Begins (is_line_start before) rest cut.len cut.piece → Cuts text at cut.len x
cut_is text at before rest cut x e f is found =
    let a : Begins (is_line_start before) rest cut.len x = subst (Begins (is_line_start before) rest cut.len) is found in
    let b : Begins (is_line_start (take at text)) rest cut.len x = subst (λ before. Begins (is_line_start before) rest cut.len x) e a in
    record { begins_with = subst (λ rest. Begins (is_line_start (take at text)) rest cut.len x) f b }

pub skip_more : (text : List ℕ) (from at n : ℕ) → Pieces text from [] at → Cuts text at n p.Blank → Pieces text from [] (at + n)
skip_more text from at n d c = pieces-append d (Pieces.blank n [] c Pieces.none)

-- ---- the answer of a lexer that stands at a fault, or at the end

pub stuck_again : (old new : TextPlace) (r : Result Token LexFault) → IfOk r (λ t. LexerGives old t new) → IfErr r (λ f. Refuses old f new) → IsStuck old.text old.at
    → r ≡ Err (record { at = old.at })
stuck_again old new (Ok t) given other stuck =
    let e : old.at ≡ t.at = (nothing_left given.skipped stuck.none).0 in
    let none : Cuts old.text t.at t.len (p.Token t.kind) → ⊥ = subst (λ i. Cuts old.text i t.len (p.Token t.kind) → ⊥) e (stuck.none t.len (p.Token t.kind)) in
    absurd (⊎_elim (λ (end : IsEndToken old.text t). let at = end.at in let some = stuck.some in omega arith) (λ (c : Cuts old.text t.at t.len (p.Token t.kind)). none c) given.token)
stuck_again old new (Err f) other refused stuck =
    let e : old.at ≡ f.at = (nothing_left refused.skipped stuck.none).0 in
    let fault : ℕ → Result Token LexFault = λ i. Err (record { at = i }) in
    ap fault (sym e)

end_is : (t : Token) (at : ℕ) → t.kind ≡ End → t.len ≡ 0 → at ≡ t.at → t ≡ record { kind = End; at = at; len = 0 }
end_is t at kind len e =
    let of : TokenKind → ℕ → ℕ → Token = λ k a n. record { kind = k; at = a; len = n } in
    ap (λ k. of k t.at t.len) kind ∙ ap₂ (λ a n. of End a n) (sym e) len

pub end_again : (old new : TextPlace) (r : Result Token LexFault) → IfOk r (λ t. LexerGives old t new) → IfErr r (λ f. Refuses old f new) → old.at ≡ length old.text
    → r ≡ Ok (record { kind = End; at = old.at; len = 0 })
end_again old new (Ok t) given other is =
    let stops : Stops old.text old.at = subst (Stops old.text) (sym is) (end_stops old.text) in
    let e : old.at ≡ t.at = (nothing_left given.skipped stops).0 in
    let of : Token → Result Token LexFault = λ t. Ok t in
    ⊎_elim (λ (end : IsEndToken old.text t). ap of (end_is t old.at end.kind end.len e))
    (λ (c : Cuts old.text t.at t.len (p.Token t.kind)). absurd (let w = cuts_some old.text t.at t.len (p.Token t.kind) c in omega arith)) given.token
end_again old new (Err f) other refused is =
    let stops : Stops old.text old.at = subst (Stops old.text) (sym is) (end_stops old.text) in
    let e : old.at ≡ f.at = (nothing_left refused.skipped stops).0 in
    let some = refused.stuck.some in
    absurd (omega arith)
