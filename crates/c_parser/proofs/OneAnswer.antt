-- A text has one answer.
use Rattle.std.proofs.Common.{◌≡◌, ◌≢◌, ℕ, ◌≤◌, ◌<◌, List, [], ◌∷◌, ◌++◌, refl, sym, ap, ◌∙◌, subst, arith, append_assoc}
use Rattle.c_lexer.specs.Pieces.{Lexeme, Toks, Tokens}
use Rattle.c_lexer.proofs.Once.{tokens_once, fault_once, tokens_or_fault}
use Rattle.c_tree.specs.declared.declarations.TranslationUnit.{TranslationUnit}
use Rattle.c_parser_nesting.specs.Nesting.{nesting_of}
use Rattle.c_parser_nesting.specs.HasNesting.{HasNesting}
use Rattle.c_parser_grammar.specs.Units.{Reads}
use Rattle.c_parser_grammar.specs.Refused.{CanGoOn, RefusedFrom}
use Rattle.c_parser_grammar.proofs.SoundUnits.{one_reading}
use Rattle.c_parser_cursor.specs.Answers.{place_or}
use Rattle.c_parser.specs.declared.fault.ParseFault.{ParseFault}
use Rattle.c_parser.specs.declared.fault.ParseFault.TheVariants.{Lex, Nesting, Syntax, NoMemory}
use Rattle.c_parser.specs.Limits.{most_nesting}
use Rattle.c_parser.specs.Reading.{IsRead, HasNoReading, IsNotRead}

same_nesting : (text : List ℕ) (n m : ℕ) → HasNesting text n → HasNesting text m → n ≡ m
same_nesting text n m a b = a.nesting ∙ (ap (λ toks. nesting_of toks.items) (tokens_once text a.tokens b.tokens a.are_tokens b.are_tokens) ∙ sym b.nesting)

pub one_tree : (text : List ℕ) (x y : TranslationUnit) → IsRead text x → IsRead text y → x ≡ y
one_tree text x y a b = one_reading b.toks x y (subst (λ toks. Reads toks x) (tokens_once text a.toks b.toks a.are_tokens b.are_tokens) a.reads) b.reads

-- a nesting within the limit is none beyond it
not_both : (text : List ℕ) (toks : Toks) (m : ℕ) → Tokens text toks → nesting_of toks.items ≤ most_nesting → HasNesting text m → most_nesting < m → ⊥
not_both text toks m are within b beyond =
    let e : m ≡ nesting_of toks.items = b.nesting ∙ ap (λ toks. nesting_of toks.items) (tokens_once text b.tokens toks b.are_tokens are) in
    omega arith

pub read_or_refused : (text : List ℕ) (x : TranslationUnit) (fault : ParseFault) → IsRead text x → IsNotRead text fault → fault ≡ NoMemory
read_or_refused text x (Lex at) a f = absurd (tokens_or_fault text _ at a.are_tokens f)
read_or_refused text x (Nesting counted) a f = absurd (not_both text a.toks counted a.are_tokens a.within f.0 f.1)
read_or_refused text x (Syntax at) a f = absurd (f.none x (subst (λ toks. Reads toks x) (tokens_once text a.toks f.toks a.are_tokens f.are_tokens) a.reads))
read_or_refused text x NoMemory a f = refl

-- lists with the same whole, cut at one place, or one front goes on into the other's rest
data Cut (fa fb a b : List Lexeme) : Type 0 where
  same : a ≡ b → Cut fa fb a b
  later : (t : Lexeme) (m : List Lexeme) → fb ≡ fa ++ t ∷ m → a ≡ t ∷ (m ++ b) → Cut fa fb a b
  sooner : (t : Lexeme) (m : List Lexeme) → fa ≡ fb ++ t ∷ m → b ≡ t ∷ (m ++ a) → Cut fa fb a b

abbrev behind : List Lexeme → List Lexeme
behind [] = []
behind (t ∷ ts) = ts

abbrev head_or : Lexeme → List Lexeme → Lexeme
head_or d [] = d
head_or d (t ∷ ts) = t

cut_on : (x y : Lexeme) (fa fb a b : List Lexeme) → x ≡ y → Cut fa fb a b → Cut (x ∷ fa) (y ∷ fb) a b
cut_on x y fa fb a b e (same s) = same s
cut_on x y fa fb a b e (later t m f g) = later t m (ap (λ z. z ∷ fb) (sym e) ∙ ap (λ l. x ∷ l) f) g
cut_on x y fa fb a b e (sooner t m f g) = sooner t m (ap (λ z. z ∷ fa) e ∙ ap (λ l. y ∷ l) f) g

cut : (fa fb a b : List Lexeme) → fa ++ a ≡ fb ++ b → Cut fa fb a b
cut [] [] a b e = same e
cut [] (y ∷ fb) a b e = later y fb refl e
cut (x ∷ fa) [] a b e = sooner x fa refl (sym e)
cut (x ∷ fa) (y ∷ fb) a b e = cut_on x y fa fb a b (ap (head_or x) e) (cut fa fb a b (ap behind e))

-- what a front can, its own fronts can
can_sooner : (front : List Lexeme) (t : Lexeme) (m : List Lexeme) → CanGoOn (front ++ t ∷ m) → CanGoOn (front ++ t ∷ [])
can_sooner front t m c = record {
  more = m ++ c.more;
  size = c.size;
  unit = c.unit;
  reads = subst (λ items. Reads (record { items = items; size = c.size }) c.unit) (append_assoc front (t ∷ m) c.more ∙ sym (append_assoc front (t ∷ []) (m ++ c.more))) c.reads;
}

by_cut : (tokens a b : List Lexeme) (x : RefusedFrom tokens a) (y : RefusedFrom tokens b) → Cut x.front y.front a b → a ≡ b
by_cut tokens a b x y (same e) = e
by_cut tokens a b x y (later t m f g) = absurd (x.cannot t (m ++ b) g (can_sooner x.front t m (subst CanGoOn f y.can)))
by_cut tokens a b x y (sooner t m f g) = absurd (y.cannot t (m ++ a) g (can_sooner y.front t m (subst CanGoOn f x.can)))

-- a list is refused at one place
same_rest : (tokens a b : List Lexeme) → RefusedFrom tokens a → RefusedFrom tokens b → a ≡ b
same_rest tokens a b x y = by_cut tokens a b x y (cut x.front y.front a b (sym x.whole ∙ y.whole))

same_place : (text : List ℕ) (at to : ℕ) → HasNoReading text at → HasNoReading text to → at ≡ to
same_place text at to a b =
    let toks : a.toks ≡ b.toks = tokens_once text a.toks b.toks a.are_tokens b.are_tokens in
    let rest : a.rest ≡ b.rest = same_rest b.toks.items a.rest b.rest (subst (λ t. RefusedFrom t.items a.rest) toks a.refused) b.refused in
    a.place ∙ (ap (λ n. place_or n a.rest) (ap (λ t. t.size) toks) ∙ (ap (place_or b.toks.size) rest ∙ sym b.place))

pub one_cause : (text : List ℕ) (a b : ParseFault) → IsNotRead text a → IsNotRead text b → a ≢ NoMemory → b ≢ NoMemory → a ≡ b
one_cause text NoMemory b f g some also = absurd (some refl)
one_cause text a NoMemory f g some also = absurd (also refl)
one_cause text (Lex at) (Lex to) f g some also = ap Lex (fault_once text at to f g)
one_cause text (Lex at) (Nesting counted) f g some also = absurd (tokens_or_fault text g.0.tokens at g.0.are_tokens f)
one_cause text (Lex at) (Syntax to) f g some also = absurd (tokens_or_fault text _ at g.are_tokens f)
one_cause text (Nesting n) (Lex to) f g some also = absurd (tokens_or_fault text f.0.tokens to f.0.are_tokens g)
one_cause text (Nesting n) (Nesting m) f g some also = ap Nesting (same_nesting text n m f.0 g.0)
one_cause text (Nesting n) (Syntax to) f g some also = absurd (not_both text g.toks n g.are_tokens g.within f.0 f.1)
one_cause text (Syntax at) (Lex to) f g some also = absurd (tokens_or_fault text _ to f.are_tokens g)
one_cause text (Syntax at) (Nesting m) f g some also = absurd (not_both text f.toks m f.are_tokens f.within g.0 g.1)
one_cause text (Syntax at) (Syntax to) f g some also = ap Syntax (same_place text at to f g)
