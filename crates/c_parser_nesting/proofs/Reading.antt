-- The loops over the text and over its tokens.
use Rattle.std.proofs.Common.{◌≡◌, ℕ, ◌+◌, ◌<◌, ◌≤◌, List, [], ◌∷◌, length, map, drop, get_or, Result, Ok, Err, refl, sym, ap, ◌∙◌, subst, ⊎_elim, add-one, arith, drop-cons}
use Rattle.std.proofs.lemmas.List.{at_drop_all}
use Rattle.std.specs.Prelude.{IfErr, IsErrAnd}
use Rattle.c_lexer.specs.declared.token.Token.{Token}
use Rattle.c_lexer.specs.declared.token.LexFault.{LexFault}
use Rattle.c_lexer.specs.declared.token.TokenKind.TheVariants.{End}
use Rattle.c_lexer.specs.declared.piece.Piece.TheVariants as p
use Rattle.c_lexer.specs.Pieces.{Cuts, Lexeme, Pieces, FaultAt, lexemes}
use Rattle.c_lexer.specs.Steps.{TextPlace, IsEndToken, LexerGives}
use Rattle.c_lexer.proofs.Once.{cuts_some}
use Rattle.c_parser_nesting.specs.declared.fault.ScanFault.{ScanFault}
use Rattle.c_parser_nesting.specs.declared.fault.ScanFault.TheVariants.{Lex}
use Rattle.c_parser_nesting.specs.declared.nesting.Role.{Role}
use Rattle.c_parser_nesting.specs.HasNesting.{IsNoTokens, role_of_token}
use Rattle.c_parser_nesting.specs.Nesting.{levels, role_of, role_of_lexeme}
use Rattle.c_parser_nesting.specs.model.Walking.{State, step, total_of}
use Rattle.c_parser_nesting.proofs.Resume.{resume_from, resume-step, resume-end}

-- ---- the tokens of a text

pub none_yet : (text : List ℕ) (at : ℕ) (ts : List Token) → at ≡ 0 → ts ≡ [] → Pieces text 0 (lexemes text ts) at
none_yet text at ts e f = subst (λ i. Pieces text 0 (lexemes text ts) i) (sym e) (subst (λ us. Pieces text 0 (lexemes text us) 0) (sym f) Pieces.none)

pieces_rise : {text : List ℕ} {at to : ℕ} {ts : List Lexeme} → Pieces text at ts to → at ≤ to
pieces_rise Pieces.none = omega arith
pieces_rise (Pieces.blank n ts c d) = let h = pieces_rise d in omega arith
pieces_rise (Pieces.token n kind ts c d) = let h = pieces_rise d in omega arith

-- a token takes the lexer on, within the text
pub walk_on : (text : List ℕ) (old new : TextPlace) (t : Token) → text ≡ old.text → LexerGives old t new → (t.kind ≡ End → ⊥) → (old.at < new.at) × (new.at ≤ length text)
walk_on text old new t same given other =
    let rise : old.at ≤ t.at = pieces_rise given.skipped in
    let at : new.at ≡ t.at + t.len = given.at in
    let w : (0 < t.len) × (t.at + t.len ≤ length old.text) =
    ⊎_elim (λ (end : IsEndToken old.text t). absurd (other end.kind)) (λ (c : Cuts old.text t.at t.len (p.Token t.kind)). cuts_some old.text t.at t.len (p.Token t.kind) c) given.token in
    let some : 0 < t.len = w.0 in
    let within : t.at + t.len ≤ length old.text = w.1 in
    let size : length text ≡ length old.text = ap length same in
    (omega arith, omega arith)

pub fault_told : {A : Type 0} (text : List ℕ) (f : LexFault) (r : Result A ScanFault) → FaultAt text f.at → IsErrAnd r (λ e. e ≡ Lex f.at) → IfErr r (IsNoTokens text)
fault_told text f (Ok ts) fault h = tt
fault_told text f (Err e) fault h = subst (IsNoTokens text) (sym h) fault

-- ---- the walk over the tokens

token_further : (s : State) (t : Token) (ts : List Token) → resume_from s (levels (map role_of_token (t ∷ ts))) ≡ resume_from (step (role_of t.kind) s) (levels (map role_of_token ts))
token_further s t ts = resume-step (role_of t.kind) s (levels (map role_of_token ts))

pub walk_further : (ts : List Token) (i n : ℕ) (d : Token) (role : Role) (s s' : State) → i < length ts → role ≡ role_of (get_or ts i d).kind → s' ≡ step role s
    → resume_from s (levels (map role_of_token (drop i ts))) ≡ n → resume_from s' (levels (map role_of_token (drop (i + 1) ts))) ≡ n
walk_further ts i n d role s s' lt named stepped so_far =
    let t = get_or ts i d in
    let rest = drop (i + 1) ts in
    let parts : drop i ts ≡ t ∷ rest = rw (add-one, drop-cons ts i d) in
    let here : resume_from s (levels (map role_of_token (t ∷ rest))) ≡ n = subst (λ us. resume_from s (levels (map role_of_token us)) ≡ n) parts so_far in
    let next : s' ≡ step (role_of t.kind) s = stepped ∙ ap (λ r. step r s) named in
    ap (λ s. resume_from s (levels (map role_of_token rest))) next ∙ sym (token_further s t rest) ∙ here

pub walk_done : (ts : List Token) (i n : ℕ) (s : State) → length ts ≤ i → resume_from s (levels (map role_of_token (drop i ts))) ≡ n → total_of s ≡ n
walk_done ts i n s past so_far =
    sym (resume-end s.outer s.group s.ended) ∙ sym (at_drop_all (λ us. resume_from s (levels (map role_of_token us))) ts i past) ∙ so_far

pub roles-lexemes : (text : List ℕ) (ts : List Token) → map role_of_lexeme (lexemes text ts) ≡ map role_of_token ts
roles-lexemes text [] = refl
roles-lexemes text (t ∷ ts) = ap (λ rs. role_of t.kind ∷ rs) (roles-lexemes text ts)
