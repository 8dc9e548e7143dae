-- The walk over tokens gives the most constructs that are open at once.
use Rattle.std.proofs.Common.{◌≡◌, ℕ, ◌≤◌, ◌<◌, max, true, false, List, [], ◌∷◌, length, map, Option, Some, None, refl, sym, ap, ◌∙◌, subst, arith}
use Rattle.c_lexer.specs.declared.token.Token.{Token}
use Rattle.c_lexer.specs.declared.token.TokenKind.{TokenKind}
use Rattle.c_lexer.specs.Pieces.{lexemes}
use Rattle.c_parser_nesting.specs.declared.open.Construct.{Construct}
use Rattle.c_parser_nesting.specs.declared.open.End.{End}
use Rattle.c_parser_nesting.specs.OpenConstructs.{stays, is_outermost, behind_end, behind_token, head_kind, most_open_from, kind_of_token, kind_of_lexeme}
use Rattle.c_parser_nesting.specs.model.Opening.{head, tail, first, first_kind, behind_first}

-- ---- an end

no_some : {X : Type 0} {c : Construct} → ◌≡◌ {A = Option Construct} (Some c) None → X
no_some e = cc

same_some : {c d : Construct} → ◌≡◌ {A = Option Construct} (Some c) (Some d) → c ≡ d
same_some e = cc

pub end_of_none : (end : End) (xs : List Construct) → None ≡ head xs → xs ≡ behind_end end xs
end_of_none end [] e = refl
end_of_none end (x ∷ xs) e = no_some (sym e)

pub end_stays : (end : End) (c : Construct) (xs : List Construct) → Some c ≡ head xs → stays end c ≡ true → xs ≡ behind_end end xs
end_stays end c [] e h = no_some e
end_stays end c (x ∷ xs) e h = let is : stays end x ≡ true = ap (stays end) (sym (same_some e)) ∙ h in rw is refl

pub end_last : (end : End) (c : Construct) (xs : List Construct) → Some c ≡ head xs → stays end c ≡ false → is_outermost end c ≡ true → tail xs ≡ behind_end end xs
end_last end c [] e h g = no_some e
end_last end c (x ∷ xs) e h g =
    let goes : stays end x ≡ false = ap (stays end) (sym (same_some e)) ∙ h in
    let last : is_outermost end x ≡ true = ap (is_outermost end) (sym (same_some e)) ∙ g in
    rw (goes, last) refl

pub end_goes : (end : End) (c : Construct) (xs : List Construct) → Some c ≡ head xs → stays end c ≡ false → is_outermost end c ≡ false → behind_end end (tail xs) ≡ behind_end end xs
end_goes end c [] e h g = no_some e
end_goes end c (x ∷ xs) e h g =
    let goes : stays end x ≡ false = ap (stays end) (sym (same_some e)) ∙ h in
    let on : is_outermost end x ≡ false = ap (is_outermost end) (sym (same_some e)) ∙ g in
    rw (goes, on) refl

pub fewer : (c : Construct) (xs : List Construct) → Some c ≡ head xs → length (tail xs) < length xs
fewer c [] e = no_some e
fewer c (x ∷ xs) e = omega arith

-- ---- the walk

kinds_begin : (ts : List Token) → head_kind (map kind_of_token ts) ≡ first_kind ts
kinds_begin [] = refl
kinds_begin (t ∷ ts) = refl

at_least : (opened : List Construct) (kinds : List TokenKind) → length opened ≤ most_open_from opened kinds
at_least opened [] = omega arith
at_least opened (kind ∷ kinds) = omega arith

no_first : {X : Type 0} {k : TokenKind} → ◌≡◌ {A = Option TokenKind} (Some k) None → X
no_first e = cc

same_first : {k l : TokenKind} → ◌≡◌ {A = Option TokenKind} (Some k) (Some l) → k ≡ l
same_first e = cc

further : (t : Token) (ts : List Token) (opened next : List Construct) (m n : ℕ)
    → next ≡ behind_token t.kind (first_kind ts) opened → length opened ≤ m
    → max m (most_open_from opened (map kind_of_token (t ∷ ts))) ≡ n
    → max (max m (length next)) (most_open_from next (map kind_of_token ts)) ≡ n
further t ts opened next m n stepped counted so_far =
    let is : behind_token t.kind (head_kind (map kind_of_token ts)) opened ≡ next = ap (λ k. behind_token t.kind k opened) (kinds_begin ts) ∙ sym stepped in
    let here : max m (max (length opened) (most_open_from next (map kind_of_token ts))) ≡ n = ap (λ next. max m (max (length opened) (most_open_from next (map kind_of_token ts)))) (sym is) ∙ so_far in
    omega (arith, at_least next (map kind_of_token ts))

open_further : (kind : TokenKind) (ts : List Token) (opened next : List Construct) (m n : ℕ) → Some kind ≡ first ts
    → next ≡ behind_token kind (first_kind (behind_first ts)) opened → length opened ≤ m
    → max m (most_open_from opened (map kind_of_token ts)) ≡ n
    → max (max m (length next)) (most_open_from next (map kind_of_token (behind_first ts))) ≡ n
open_further kind [] opened next m n is stepped counted so_far = no_first is
open_further kind (t ∷ ts) opened next m n is stepped counted so_far =
    further t ts opened next m n (stepped ∙ ap (λ k. behind_token k (first_kind ts) opened) (same_first is)) counted so_far

still_counted : (m k : ℕ) → k ≤ max m k
still_counted m k = omega arith

pub turn : (kind following : TokenKind) (ts rest : List Token) (opened next : List Construct) (m k most n : ℕ)
    → Some kind ≡ first ts → rest ≡ behind_first ts → following ≡ first_kind rest → next ≡ behind_token kind following opened
    → k ≡ length next → most ≡ max m k → length opened ≤ m → max m (most_open_from opened (map kind_of_token ts)) ≡ n
    → (max most (most_open_from next (map kind_of_token rest)) ≡ n) × (length next ≤ most)
turn kind following ts rest opened next m k most n is left seen stepped counts greater counted so_far =
    let by : next ≡ behind_token kind (first_kind (behind_first ts)) opened = stepped ∙ ap (λ q. behind_token kind q opened) (seen ∙ ap first_kind left) in
    let h = open_further kind ts opened next m n is by counted so_far in
    let e : most ≡ max m (length next) = greater ∙ ap (λ q. max m q) counts in (
      ap (λ q. max q (most_open_from next (map kind_of_token rest))) e ∙ ap (λ ts. max (max m (length next)) (most_open_from next (map kind_of_token ts))) left ∙ h,
      subst (λ q. length next ≤ q) (sym e) (still_counted m (length next)),
    )

pub open_done : (ts : List Token) (opened : List Construct) (m n : ℕ) → None ≡ first ts → length opened ≤ m
    → max m (most_open_from opened (map kind_of_token ts)) ≡ n → m ≡ n
open_done [] opened m n is counted so_far = omega arith
open_done (t ∷ ts) opened m n is counted so_far = no_first (sym is)

pub kinds-lexemes : (text : List ℕ) (ts : List Token) → map kind_of_lexeme (lexemes text ts) ≡ map kind_of_token ts
kinds-lexemes text [] = refl
kinds-lexemes text (t ∷ ts) = ap (λ kinds. t.kind ∷ kinds) (kinds-lexemes text ts)

pub less_left : (kind : TokenKind) (ts : List Token) → Some kind ≡ first ts → length (behind_first ts) < length ts
less_left kind [] is = no_first is
less_left kind (t ∷ ts) is = omega arith
