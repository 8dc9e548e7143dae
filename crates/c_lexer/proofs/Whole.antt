-- A run of calls of `next` over a whole text gives its tokens, or its first fault place.
use Rattle.std.proofs.Common.{◌≡◌, ℕ, ◌+◌, Bool, List, [], ◌∷◌, ◌++◌, length, take, drop, Option, Some, None, eqb, refl, sym, ap, ◌∙◌, subst, ⊎_elim, append-nil}
use Rattle.std.specs.Prelude.{option_map, ◌==◌, ◌&&◌}
use Rattle.std.specs.List.{list_all}
use Rattle.c_lexer.specs.declared.token.Punct.{Punct}
use Rattle.c_lexer.specs.declared.token.Keyword.{Keyword}
use Rattle.c_lexer.specs.declared.token.TokenKind.{TokenKind}
use Rattle.c_lexer.specs.declared.token.TokenKind.TheVariants as k
use Rattle.c_lexer.specs.declared.token.Token.{Token}
use Rattle.c_lexer.specs.declared.token.LexFault.{LexFault}
use Rattle.c_lexer.specs.declared.piece.Piece.{Piece}
use Rattle.c_lexer.specs.declared.piece.Piece.TheVariants as p
use Rattle.c_lexer.specs.Bytes.{is_blank, is_digit, is_letter, is_word_byte, is_run, is_inner}
use Rattle.c_lexer.specs.Marks.{mark_of}
use Rattle.c_lexer.specs.Words.{keyword_of, kind_by}
use Rattle.c_lexer.specs.Numbers.{is_number}
use Rattle.c_lexer.specs.Literals.{char_end, text_end}
use Rattle.c_lexer.specs.Blanks.{is_linemarker}
use Rattle.c_lexer.specs.Pieces.{is_at, is_comment, piece_if, mark_piece, piece_of, Cuts, Lexeme, lexeme, lexemes, Pieces, Tokens, IsStuck, FaultAt}
use Rattle.c_lexer.specs.Steps.{TextPlace, IsEndToken, LexerGives, Refuses}
use Rattle.c_lexer.proofs.Options.{by_test}
use Rattle.c_lexer.proofs.Walk.{pieces-append}

-- ---- no piece is the end

abbrev IsNoEnd : Option Piece → Type 0
IsNoEnd o = o ≡ Some (p.Token k.End) → ⊥

when_no_end : (b : Bool) (x : Piece) → IsNoEnd (Some x) → IsNoEnd (piece_if b x)
when_no_end b x other = by_test IsNoEnd b (Some x) None (λ yes. other) (λ no. none_no_end)
  where
    none_no_end : IsNoEnd None
    none_no_end e = cc

some_no_end : (kind : TokenKind) → (kind ≡ k.End → ⊥) → IsNoEnd (Some (p.Token kind))
some_no_end kind other e = other (same kind e)
  where
    same : (kind : TokenKind) → ◌≡◌ {A = Option Piece} (Some (p.Token kind)) (Some (p.Token k.End)) → kind ≡ k.End
    same kind e = cc

blank_no_end : IsNoEnd (Some p.Blank)
blank_no_end e = cc

word_no_end : (o : Option Keyword) → kind_by o ≡ k.End → ⊥
word_no_end None e = cc
word_no_end (Some w) e = cc

mark_no_end : (o : Option Punct) → IsNoEnd (option_map (λ mark. p.Token (k.Mark mark)) o)
mark_no_end None e = cc
mark_no_end (Some m) e = cc

piece_no_end : (s : List ℕ) → IsNoEnd (piece_of s)
unfolding piece_of
piece_no_end [] = λ e. cc
piece_no_end (b ∷ s) = by_test IsNoEnd (is_blank b) (piece_if (list_all is_blank s) p.Blank) _ (λ yes. when_no_end (list_all is_blank s) p.Blank blank_no_end)
    (λ no_b. by_test IsNoEnd (is_letter b) (piece_if (list_all is_word_byte s) (p.Token (kind_by (keyword_of (b ∷ s))))) _
    (λ yes. when_no_end (list_all is_word_byte s) (p.Token (kind_by (keyword_of (b ∷ s)))) (some_no_end (kind_by (keyword_of (b ∷ s))) (word_no_end (keyword_of (b ∷ s)))))
    (λ no_l. by_test IsNoEnd (is_digit b) (piece_if (list_all is_run s && is_number (b ∷ s)) (p.Token k.Number)) _
    (λ yes. when_no_end (list_all is_run s && is_number (b ∷ s)) (p.Token k.Number) (some_no_end k.Number (λ e. cc)))
    (λ no_d. by_test IsNoEnd (eqb b 39) (piece_if (is_at (char_end s) (length s)) (p.Token k.Char)) _
    (λ yes. when_no_end (is_at (char_end s) (length s)) (p.Token k.Char) (some_no_end k.Char (λ e. cc)))
    (λ no_c. by_test IsNoEnd (eqb b 34) (piece_if (is_at (text_end s) (length s)) (p.Token k.Text)) _
    (λ yes. when_no_end (is_at (text_end s) (length s)) (p.Token k.Text) (some_no_end k.Text (λ e. cc)))
    (λ no_t. by_test IsNoEnd (eqb b 35) (piece_if (list_all is_inner s && is_linemarker s) p.Blank) _
    (λ yes. when_no_end (list_all is_inner s && is_linemarker s) p.Blank blank_no_end)
    (λ no_m. by_test IsNoEnd (b == 47 && is_comment s) (Some p.Blank) (mark_piece (b ∷ s)) (λ yes. blank_no_end) (λ no. mark_no_end (mark_of (b ∷ s)))))))))

pub no_end : (text : List ℕ) (at n : ℕ) → Cuts text at n (p.Token k.End) → ⊥
no_end text at n c = piece_no_end (take n (drop at text)) c.begins_with.piece.is

-- ---- a walk

pub walk_token : (text : List ℕ) (ts : List Lexeme) (old new : TextPlace) (t : Token) → text ≡ old.text → Pieces text 0 ts old.at → LexerGives old t new → (t.kind ≡ k.End → ⊥)
    → (text ≡ new.text) × Pieces text 0 (ts ++ lexeme text t ∷ []) new.at
walk_token text ts old new t same so_far given other =
    let skipped : Pieces text old.at [] t.at = subst (λ s. Pieces s old.at [] t.at) (sym same) given.skipped in
    let cuts : Cuts text t.at t.len (p.Token t.kind) =
    ⊎_elim (λ (end : IsEndToken old.text t). absurd (other end.kind)) (λ (c : Cuts old.text t.at t.len (p.Token t.kind)). subst (λ s. Cuts s t.at t.len (p.Token t.kind)) (sym same) c) given.token in
    let one : Pieces text t.at (lexeme text t ∷ []) (t.at + t.len) = Pieces.token t.len t.kind [] cuts Pieces.none in
    (same ∙ sym given.text, subst (λ i. Pieces text 0 (ts ++ lexeme text t ∷ []) i) (sym given.at) (pieces-append so_far (pieces-append skipped one)))

lexemes-append : (text : List ℕ) (ts : List Token) (t : Token) → lexemes text (ts ++ t ∷ []) ≡ lexemes text ts ++ lexeme text t ∷ []
lexemes-append text [] t = refl
lexemes-append text (u ∷ ts) t = ap (λ r. lexeme text u ∷ r) (lexemes-append text ts t)

-- One more token in the list of the tokens that `next` gave.
pub walk_push : (text : List ℕ) (ts : List Token) (old new : TextPlace) (t : Token) → text ≡ old.text → Pieces text 0 (lexemes text ts) old.at → LexerGives old t new → (t.kind ≡ k.End → ⊥)
    → (text ≡ new.text) × Pieces text 0 (lexemes text (ts ++ t ∷ [])) new.at
walk_push text ts old new t same so_far given other =
    let w = walk_token text (lexemes text ts) old new t same so_far given other in
    (w.0, subst (λ r. Pieces text 0 r new.at) (sym (lexemes-append text ts t)) w.1)

-- At the end these are the tokens of the text.
pub walk_end : (text : List ℕ) (ts : List Lexeme) (old new : TextPlace) (t : Token) → text ≡ old.text → Pieces text 0 ts old.at → LexerGives old t new → t.kind ≡ k.End
    → Tokens text (record { items = ts; size = length text })
walk_end text ts old new t same so_far given kind =
    let skipped : Pieces text old.at [] t.at = subst (λ s. Pieces s old.at [] t.at) (sym same) given.skipped in
    let at : t.at ≡ length old.text =
    ⊎_elim (λ (end : IsEndToken old.text t). end.at)
    (λ (c : Cuts old.text t.at t.len (p.Token t.kind)). absurd (no_end old.text t.at t.len (subst (λ kind. Cuts old.text t.at t.len (p.Token kind)) kind c))) given.token in
    let all : Pieces text 0 (ts ++ []) t.at = pieces-append so_far skipped in
    let whole : Pieces text 0 ts (length text) = subst (λ us. Pieces text 0 us (length text)) (append-nil ts) (subst (λ i. Pieces text 0 (ts ++ []) i) (at ∙ ap length (sym same)) all) in
    record { pieces = whole; size = refl }

-- At a fault this is the first fault place of the text.
pub walk_fault : (text : List ℕ) (ts : List Lexeme) (old new : TextPlace) (f : LexFault) → text ≡ old.text → Pieces text 0 ts old.at → Refuses old f new → FaultAt text f.at
walk_fault text ts old new f same so_far refused =
    let skipped : Pieces text old.at [] f.at = subst (λ s. Pieces s old.at [] f.at) (sym same) refused.skipped in
    record {
      tokens = ts;
      pieces = subst (λ us. Pieces text 0 us f.at) (append-nil ts) (pieces-append so_far skipped);
      stuck = subst (λ s. IsStuck s f.at) (sym same) refused.stuck;
    }
