-- What is found in front is the longest piece, and where nothing is found no piece begins.
use Rattle.std.proofs.Common.{◌≡◌, ℕ, zero, suc, ◌+◌, ◌-◌, ◌<◌, ◌≤◌, Bool, true, false, not, cond, List, [], ◌∷◌, length, take, Option, Some, None, eqb, refl, sym, ap, ◌∙◌, subst, ⊎_elim, arith, length-take-le, ne_eqb, eq-eqb, eqb-true}
use Rattle.std.specs.Prelude.{option_map, ◌==◌, ◌&&◌}
use Rattle.std.specs.List.{list_all, prefix_len}
use Rattle.std.proofs.lemmas.Bool.{false≢true, cases_lt}
use Rattle.std.proofs.lemmas.Bool.Decides.{nat_tests}
use Rattle.std.proofs.lemmas.List.Sums.{prefix_len-le-length}
use Rattle.c_lexer.specs.declared.token.Punct.{Punct}
use Rattle.c_lexer.specs.declared.token.TokenKind.TheVariants as k
use Rattle.c_lexer.specs.declared.piece.Piece.{Piece}
use Rattle.c_lexer.specs.declared.piece.Piece.TheVariants as p
use Rattle.c_lexer.specs.declared.piece.Cut.{Cut}
use Rattle.c_lexer.specs.Bytes.{is_blank, is_digit, is_letter, is_word_byte, is_run, is_inner}
use Rattle.c_lexer.specs.Marks.{mark1, mark2, mark3, mark_of}
use Rattle.c_lexer.specs.Words.{kind_of_word}
use Rattle.c_lexer.specs.Numbers.{is_number}
use Rattle.c_lexer.specs.Literals.{char_end, text_end}
use Rattle.c_lexer.specs.Blanks.{close_at, is_linemarker}
use Rattle.c_lexer.specs.Pieces.{is_at, is_comment, piece_if, mark_piece, piece_of, IsLongest, is_none, first_passes, is_fault, Begins}
use Rattle.c_lexer.specs.model.Front as model
use Rattle.c_lexer.proofs.Options.{by_test, not_both}
use Rattle.c_lexer.proofs.Runs.{all_within, all_over, first_run}
use Rattle.c_lexer.proofs.Ends.{EndsAt, close_ends, text_ends, char_ends}

-- what it means that this was found
abbrev pub Answers : Bool → List ℕ → Option Cut → Type 0
Answers first text None = (n : ℕ) (x : Piece) → Begins first text n x → ⊥
Answers first text (Some cut) = Begins first text cut.len cut.piece

faulty : (first : Bool) (text : List ℕ) → is_fault first text ≡ true → Answers first text None
faulty first text e n x b = false≢true (sym b.sound ∙ e)

-- ---- a front that is followed by s

-- the bytes in front of s, of which there are k
record IsFront (c : List ℕ → List ℕ) (k : ℕ) : Type 0 where
  takes : (m : ℕ) (s : List ℕ) → take (m + k) (c s) ≡ c (take m s)
  size : (s : List ℕ) → length (c s) ≡ length s + k

one_front : (b : ℕ) → IsFront (λ s. b ∷ s) 1
one_front b = record {
  takes = λ m s. let e : suc m ≡ m + 1 = omega arith in subst (λ i. take i (b ∷ s) ≡ b ∷ take m s) e refl;
  size = λ s. omega arith;
}

two_front : (a b : ℕ) → IsFront (λ s. a ∷ b ∷ s) 2
two_front a b = record {
  takes = λ m s. let e : suc (suc m) ≡ m + 2 = omega arith in subst (λ i. take i (a ∷ b ∷ s) ≡ a ∷ b ∷ take m s) e refl;
  size = λ s. omega arith;
}

front_longest : (c : List ℕ → List ℕ) (k : ℕ) (s : List ℕ) (n : ℕ) (x : Piece) → IsFront c k → n ≤ length s → piece_of (c (take n s)) ≡ Some x
    → ((j : ℕ) → n < j → j ≤ length s → piece_of (c (take j s)) ≡ None) → IsLongest (c s) (n + k) x
front_longest c k s n x front le is over = record {
  within = omega (arith, front.size s);
  is = ap piece_of (front.takes n s) ∙ is;
  longest = λ m lt within.
      let size : length (c s) ≡ length s + k = front.size s in
      let split : (m - k) + k ≡ m = omega arith in
      let none : piece_of (c (take (m - k) s)) ≡ None = over (m - k) (omega arith) (omega arith) in
      ap (λ i. piece_of (take i (c s))) (sym split) ∙ ap piece_of (front.takes (m - k) s) ∙ none;
}

-- a front, and a run of bytes that pass a test
run_longest : (c : List ℕ → List ℕ) (k : ℕ) (s : List ℕ) (f : ℕ → Bool) (g : List ℕ → Bool) (x : List ℕ → Piece) → IsFront c k
    → ((t : List ℕ) → piece_of (c t) ≡ piece_if (list_all f t && g t) (x t)) → g (take (prefix_len f s) s) ≡ true
    → IsLongest (c s) (prefix_len f s + k) (x (take (prefix_len f s) s))
run_longest c k s f g x front h good =
    let n : ℕ = prefix_len f s in
    front_longest c k s n (x (take n s)) front (prefix_len-le-length f s)
    (h (take n s) ∙ rw (all_within f s n (omega arith), good) refl)
    (λ j lt le. h (take j s) ∙ rw (all_over f s j lt le) refl)

same_at : (n : ℕ) → eqb n n ≡ true
same_at n = eq-eqb n n refl

-- a front, and bytes up to an end
end_longest : (c : List ℕ → List ℕ) (k : ℕ) (s : List ℕ) (end : List ℕ → Option ℕ) (x : Piece) (m : ℕ) → IsFront c k
    → ((t : List ℕ) → piece_of (c t) ≡ piece_if (is_at (end t) (length t)) x) → EndsAt end s m → IsLongest (c s) (m + k) x
end_longest c k s end x m front h e = front_longest c k s m x front e.within
    (h (take m s) ∙ rw (e.stays m (omega arith), length-take-le m s e.within, same_at m) refl)
    (λ j lt le.
    let other : eqb m j ≡ false = ne_eqb m j (λ q. omega arith) in
    h (take j s) ∙ rw (e.stays j (omega arith), length-take-le j s le, other) refl)

end_answers : (first : Bool) (c : List ℕ → List ℕ) (k : ℕ) (s : List ℕ) (end : List ℕ → Option ℕ) (x : Piece) → IsFront c k
    → ((t : List ℕ) → piece_of (c t) ≡ piece_if (is_at (end t) (length t)) x) → ((m : ℕ) → end s ≡ Some m → EndsAt end s m)
    → is_fault first (c s) ≡ is_none (end s) → Answers first (c s) (model.cut_to_end k x (end s))
end_answers first c k s end x front h ends fault = of_end (end s) refl
  where
    of_end : (o : Option ℕ) → end s ≡ o → Answers first (c s) (model.cut_to_end k x o)
    of_end None e = faulty first (c s) (fault ∙ ap is_none e)
    of_end (Some m) e = record { piece = end_longest c k s end x m front h (ends m e); sound = fault ∙ ap is_none e }

-- ---- blanks, words and numbers

and_true : (b : Bool) → b ≡ (b && true)
and_true true = refl
and_true false = refl

far_blank : (b : ℕ) → is_blank b ≡ true → b ≤ 32
far_blank b h = grind (arith, nat_tests)

far_letter : (b : ℕ) → is_letter b ≡ true → 65 ≤ b
far_letter b h = grind (arith, nat_tests)

no_digit_blank : (b : ℕ) → is_blank b ≡ true → is_digit b ≡ false
no_digit_blank b h = grind (arith, nat_tests)

no_digit_letter : (b : ℕ) → is_letter b ≡ true → is_digit b ≡ false
no_digit_letter b h = grind (arith, nat_tests)

no_fault : (first : Bool) (b : ℕ) (s : List ℕ) → is_digit b ≡ false → ((c : ℕ) → 33 ≤ c → c ≤ 64 → eqb b c ≡ false) → is_fault first (b ∷ s) ≡ false
unfolding is_fault
no_fault first b s d far =
    rw (d, far 46 (omega arith) (omega arith), far 39 (omega arith) (omega arith), far 34 (omega arith) (omega arith), far 35 (omega arith) (omega arith), far 47 (omega arith) (omega arith)) refl

blank_piece : (b : ℕ) (s : List ℕ) → is_blank b ≡ true → piece_of (b ∷ s) ≡ piece_if (list_all is_blank s) p.Blank
unfolding piece_of
blank_piece b s is = rw is refl

blank_answers : (first : Bool) (b : ℕ) (s : List ℕ) → is_blank b ≡ true → Answers first (b ∷ s) (Some (record { piece = p.Blank; len = prefix_len is_blank (b ∷ s) }))
blank_answers first b s is =
    let h : (t : List ℕ) → piece_of (b ∷ t) ≡ piece_if (list_all is_blank t && true) p.Blank = λ t. blank_piece b t is ∙ ap (λ z. piece_if z p.Blank) (and_true (list_all is_blank t)) in
    let low = far_blank b is in
    subst (λ n. Begins first (b ∷ s) n p.Blank) (first_run is_blank b s is) (record {
      piece = run_longest (λ t. b ∷ t) 1 s is_blank (λ t. true) (λ t. p.Blank) (one_front b) h refl;
      sound = no_fault first b s (no_digit_blank b is) (λ c lo hi. ne_eqb b c (λ e. omega arith));
    })

word_piece : (b : ℕ) (s : List ℕ) → is_blank b ≡ false → is_letter b ≡ true → piece_of (b ∷ s) ≡ piece_if (list_all is_word_byte s) (p.Token (kind_of_word (b ∷ s)))
unfolding piece_of
word_piece b s other is = rw (other, is) refl

letter_words : (b : ℕ) → is_letter b ≡ true → is_word_byte b ≡ true
letter_words b h = rw h refl

word_answers : (first : Bool) (b : ℕ) (s : List ℕ) → is_blank b ≡ false → is_letter b ≡ true → Answers first (b ∷ s) (model.word_at (b ∷ s))
unfolding model.word_at
word_answers first b s other is =
    let x : List ℕ → Piece = λ t. p.Token (kind_of_word (b ∷ t)) in
    let h : (t : List ℕ) → piece_of (b ∷ t) ≡ piece_if (list_all is_word_byte t && true) (x t) = λ t. word_piece b t other is ∙ ap (λ z. piece_if z (x t)) (and_true (list_all is_word_byte t)) in
    let high = far_letter b is in
    let n : ℕ = prefix_len is_word_byte s in
    let found : Begins first (b ∷ s) (n + 1) (p.Token (kind_of_word (take (n + 1) (b ∷ s)))) = record {
      piece = subst (λ t. IsLongest (b ∷ s) (n + 1) (p.Token (kind_of_word t))) (sym ((one_front b).takes n s)) (run_longest (λ t. b ∷ t) 1 s is_word_byte (λ t. true) x (one_front b) h refl);
      sound = no_fault first b s (no_digit_letter b is) (λ c lo hi. ne_eqb b c (λ e. omega arith));
    } in
    subst (λ m. Begins first (b ∷ s) m (p.Token (kind_of_word (take m (b ∷ s))))) (first_run is_word_byte b s (letter_words b is)) found

number_piece : (b : ℕ) (s : List ℕ) → is_blank b ≡ false → is_letter b ≡ false → is_digit b ≡ true → piece_of (b ∷ s) ≡ piece_if (list_all is_run s && is_number (b ∷ s)) (p.Token k.Number)
unfolding piece_of
number_piece b s bl le is = rw (bl, le, is) refl

digit_runs : (b : ℕ) → is_digit b ≡ true → is_run b ≡ true
digit_runs b h = grind (arith, nat_tests)

number_fault : (first : Bool) (b : ℕ) (s : List ℕ) → is_digit b ≡ true → is_fault first (b ∷ s) ≡ not (is_number (b ∷ take (prefix_len is_run s) s))
unfolding is_fault
number_fault first b s d = rw d refl

number_answers : (first : Bool) (b : ℕ) (s : List ℕ) → is_blank b ≡ false → is_letter b ≡ false → is_digit b ≡ true → Answers first (b ∷ s) (model.number_at (b ∷ s))
unfolding model.number_at
number_answers first b s bl le d =
    let n : ℕ = prefix_len is_run s in
    let front = (one_front b).takes n s in
    let at : ℕ → Option Cut = λ m. cond (is_number (take m (b ∷ s))) (Some (record { piece = p.Token k.Number; len = m })) None in
    let found : Answers first (b ∷ s) (at (n + 1)) = by_test (Answers first (b ∷ s)) (is_number (take (n + 1) (b ∷ s))) (Some (record { piece = p.Token k.Number; len = n + 1 })) None
    (λ yes.
    let good : is_number (b ∷ take n s) ≡ true = ap is_number (sym front) ∙ yes in
    record {
      piece = run_longest (λ t. b ∷ t) 1 s is_run (λ t. is_number (b ∷ t)) (λ t. p.Token k.Number) (one_front b) (λ t. number_piece b t bl le d) good;
      sound = number_fault first b s d ∙ ap not good;
    })
    (λ wrong. faulty first (b ∷ s) (number_fault first b s d ∙ ap not (ap is_number (sym front) ∙ wrong))) in
    subst (λ m. Answers first (b ∷ s) (at m)) (first_run is_run b s (digit_runs b d)) found

-- ---- literals and linemarkers

char_piece : (s : List ℕ) → piece_of (39 ∷ s) ≡ piece_if (is_at (char_end s) (length s)) (p.Token k.Char)
unfolding piece_of
char_piece s = refl

char_fault : (first : Bool) (s : List ℕ) → is_fault first (39 ∷ s) ≡ is_none (char_end s)
unfolding is_fault
char_fault first s = refl

char_answers : (first : Bool) (s : List ℕ) → Answers first (39 ∷ s) (model.cut_to_end 1 (p.Token k.Char) (char_end s))
char_answers first s = end_answers first (λ t. 39 ∷ t) 1 s char_end (p.Token k.Char) (one_front 39) char_piece (char_ends s) (char_fault first s)

text_piece : (s : List ℕ) → piece_of (34 ∷ s) ≡ piece_if (is_at (text_end s) (length s)) (p.Token k.Text)
unfolding piece_of
text_piece s = refl

text_fault : (first : Bool) (s : List ℕ) → is_fault first (34 ∷ s) ≡ is_none (text_end s)
unfolding is_fault
text_fault first s = refl

text_answers : (first : Bool) (s : List ℕ) → Answers first (34 ∷ s) (model.cut_to_end 1 (p.Token k.Text) (text_end s))
text_answers first s = end_answers first (λ t. 34 ∷ t) 1 s text_end (p.Token k.Text) (one_front 34) text_piece (text_ends s) (text_fault first s)

marker_piece : (s : List ℕ) → piece_of (35 ∷ s) ≡ piece_if (list_all is_inner s && is_linemarker s) p.Blank
unfolding piece_of
marker_piece s = refl

marker_fault : (first : Bool) (s : List ℕ) → is_fault first (35 ∷ s) ≡ not (first && is_linemarker (take (prefix_len is_inner s) s))
unfolding is_fault
marker_fault first s = refl

and_right : (a b : Bool) → (a && b) ≡ true → b ≡ true
and_right true b e = e
and_right false b e = cc

marker_answers : (first : Bool) (s : List ℕ) → Answers first (35 ∷ s) (model.marker_at first s)
unfolding model.marker_at
marker_answers first s =
    let n : ℕ = prefix_len is_inner s in
    by_test (Answers first (35 ∷ s)) (first && is_linemarker (take n s)) (Some (record { piece = p.Blank; len = n + 1 })) None
    (λ yes. record {
      piece = run_longest (λ t. 35 ∷ t) 1 s is_inner is_linemarker (λ t. p.Blank) (one_front 35) marker_piece (and_right first (is_linemarker (take n s)) yes);
      sound = marker_fault first s ∙ ap not yes;
    })
    (λ wrong. faulty first (35 ∷ s) (marker_fault first s ∙ ap not wrong))

-- ---- comments

line_piece : (s : List ℕ) → piece_of (47 ∷ 47 ∷ s) ≡ piece_if (list_all is_inner s && true) p.Blank
unfolding piece_of is_comment mark_of mark2 mark3
line_piece s = by_test (λ o. o ≡ piece_if (list_all is_inner s && true) p.Blank) (list_all is_inner s) (Some p.Blank) (mark_piece (47 ∷ 47 ∷ s)) (λ yes. rw yes refl) (λ no. rw no (no_mark s))
  where
    no_mark : (s : List ℕ) → mark_piece (47 ∷ 47 ∷ s) ≡ None
    no_mark [] = refl
    no_mark (c ∷ []) = refl
    no_mark (c ∷ d ∷ s) = refl

line_fault : (first : Bool) (s : List ℕ) → is_fault first (47 ∷ 47 ∷ s) ≡ false
unfolding is_fault
line_fault first s = refl

comment_piece : (s : List ℕ) → piece_of (47 ∷ 42 ∷ s) ≡ piece_if (is_at (close_at s) (length s)) p.Blank
unfolding piece_of is_comment mark_of mark2 mark3
comment_piece s = by_test (λ o. o ≡ piece_if (is_at (close_at s) (length s)) p.Blank) (is_at (close_at s) (length s)) (Some p.Blank) (mark_piece (47 ∷ 42 ∷ s)) (λ yes. rw yes refl) (λ no. rw no (no_mark s))
  where
    no_mark : (s : List ℕ) → mark_piece (47 ∷ 42 ∷ s) ≡ None
    no_mark [] = refl
    no_mark (c ∷ []) = refl
    no_mark (c ∷ d ∷ s) = refl

comment_fault : (first : Bool) (s : List ℕ) → is_fault first (47 ∷ 42 ∷ s) ≡ is_none (close_at s)
unfolding is_fault
comment_fault first s = refl

-- ---- marks

Over : List ℕ → ℕ → Type 0
Over text n = (m : ℕ) → n < m → m ≤ length text → piece_of (take m text) ≡ None

none_answers : (first : Bool) (text : List ℕ) → Over text 0 → Answers first text None
unfolding piece_of Over
none_answers first text over zero x b = let is : piece_of [] ≡ Some x = b.piece.is in cc
none_answers first text over (suc n) x b = not_both (piece_of (take (suc n) text)) x b.piece.is (over (suc n) (omega arith) b.piece.within)

-- what holds at n + 1 and past it holds past n
past : (P : ℕ → Type 0) (n m : ℕ) → P (suc n) → (suc n < m → P m) → n < m → P m
past P n m at over lt = ⊎_elim (λ less. over less) (λ le. let e : suc n ≡ m = omega arith in subst P e at) (cases_lt (suc n) m)

mark_or_answers : (first : Bool) (text : List ℕ) (n : ℕ) (o : Option Punct) (next : Option Cut) → suc n ≤ length text → is_fault first text ≡ false
    → piece_of (take (suc n) text) ≡ option_map (λ mark. p.Token (k.Mark mark)) o → Over text (suc n) → (Over text n → Answers first text next) → Answers first text (model.mark_or (suc n) o next)
unfolding Over
mark_or_answers first text n None next size sound is over f = f (λ m lt le. past (λ m. piece_of (take m text) ≡ None) n m is (λ less. over m less le) lt)
mark_or_answers first text n (Some mark) next size sound is over f = record { piece = record { within = size; is = is; longest = over }; sound = sound }

one_answers : (first : Bool) (a : ℕ) (s : List ℕ) → ((t : ℕ) → piece_of (a ∷ take t s) ≡ mark_piece (a ∷ take t s)) → is_fault first (a ∷ s) ≡ false → Over (a ∷ s) 1 → Answers first (a ∷ s) (model.one_byte_mark a)
unfolding mark_of
one_answers first a s h sound over = mark_or_answers first (a ∷ s) 0 (mark1 a) None (omega arith) sound (h 0) over (none_answers first (a ∷ s))

two_answers : (first : Bool) (a b : ℕ) (s : List ℕ) → ((t : ℕ) → piece_of (a ∷ take t (b ∷ s)) ≡ mark_piece (a ∷ take t (b ∷ s))) → is_fault first (a ∷ b ∷ s) ≡ false → Over (a ∷ b ∷ s) 2
    → Answers first (a ∷ b ∷ s) (model.two_byte_mark a b)
unfolding mark_of
two_answers first a b s h sound over = mark_or_answers first (a ∷ b ∷ s) 1 (mark2 a b) (model.one_byte_mark a) (omega arith) sound (h 1) over (λ over. one_answers first a (b ∷ s) h sound over)

over_one : (a : ℕ) → Over (a ∷ []) 1
unfolding Over
over_one a m lt le = absurd (omega arith)

over_two : (a b : ℕ) → Over (a ∷ b ∷ []) 2
unfolding Over
over_two a b m lt le = absurd (omega arith)

over_three : (a b c : ℕ) (s : List ℕ) → ((t : ℕ) → piece_of (a ∷ take t (b ∷ c ∷ s)) ≡ mark_piece (a ∷ take t (b ∷ c ∷ s))) → Over (a ∷ b ∷ c ∷ s) 3
unfolding Over mark_of
over_three a b c s h zero lt le = absurd (omega arith)
over_three a b c s h (suc zero) lt le = absurd (omega arith)
over_three a b c s h (suc (suc zero)) lt le = absurd (omega arith)
over_three a b c s h (suc (suc (suc zero))) lt le = absurd (omega arith)
over_three a b c [] h (suc (suc (suc (suc m)))) lt le = absurd (omega arith)
over_three a b c (d ∷ s) h (suc (suc (suc (suc m)))) lt le = h (suc (suc (suc m)))

mark_answers : (first : Bool) (a : ℕ) (s : List ℕ) → ((t : ℕ) → piece_of (a ∷ take t s) ≡ mark_piece (a ∷ take t s)) → is_fault first (a ∷ s) ≡ false → Answers first (a ∷ s) (model.mark_at (a ∷ s))
unfolding model.mark_at mark_of
mark_answers first a [] h sound = one_answers first a [] h sound (over_one a)
mark_answers first a (b ∷ []) h sound = two_answers first a b [] h sound (over_two a b)
mark_answers first a (b ∷ c ∷ s) h sound =
    mark_or_answers first (a ∷ b ∷ c ∷ s) 2 (mark3 a b c) (model.two_byte_mark a b) (omega arith) sound (h 2) (over_three a b c s h) (λ over. two_answers first a b (c ∷ s) h sound over)

marks_alone : (a : ℕ) (s : List ℕ) → is_blank a ≡ false → is_letter a ≡ false → is_digit a ≡ false → eqb a 39 ≡ false → eqb a 34 ≡ false → eqb a 35 ≡ false → (a == 47 && is_comment s) ≡ false
    → piece_of (a ∷ s) ≡ mark_piece (a ∷ s)
unfolding piece_of
marks_alone a s bl le d q39 q34 q35 c = rw (bl, le, d, q39, q34, q35, c) refl

-- ---- `/` and `.`

slash_alone : (c : ℕ) (s : List ℕ) → eqb c 42 ≡ false → eqb c 47 ≡ false → (t : ℕ) → piece_of (47 ∷ take t (c ∷ s)) ≡ mark_piece (47 ∷ take t (c ∷ s))
unfolding piece_of is_comment
slash_alone c s no_star no_slash zero = refl
slash_alone c s no_star no_slash (suc t) = rw (no_star, no_slash) refl

lone_slash : (t : ℕ) → piece_of (47 ∷ take t []) ≡ mark_piece (47 ∷ take t [])
unfolding piece_of is_comment
lone_slash zero = refl
lone_slash (suc t) = refl

slash_fault : (first : Bool) (c : ℕ) (s : List ℕ) → eqb c 42 ≡ false → is_fault first (47 ∷ c ∷ s) ≡ false
unfolding is_fault
slash_fault first c s no_star = rw no_star refl

lone_slash_fault : (first : Bool) → is_fault first (47 ∷ []) ≡ false
unfolding is_fault
lone_slash_fault first = refl

slash_answers : (first : Bool) (s : List ℕ) → Answers first (47 ∷ s) (model.slash_at (47 ∷ s))
unfolding model.slash_at
slash_answers first [] = mark_answers first 47 [] lone_slash (lone_slash_fault first)
slash_answers first (c ∷ s) =
    let line : Option Cut = Some (record { piece = p.Blank; len = prefix_len is_inner s + 2 }) in
    by_test (Answers first (47 ∷ c ∷ s)) (eqb c 42) (model.cut_to_end 2 p.Blank (close_at s)) (cond (eqb c 47) line (model.mark_at (47 ∷ c ∷ s)))
    (λ star. subst (λ c. Answers first (47 ∷ c ∷ s) (model.cut_to_end 2 p.Blank (close_at s))) (sym (eqb-true c 42 star))
    (end_answers first (λ t. 47 ∷ 42 ∷ t) 2 s close_at p.Blank (two_front 47 42) comment_piece (close_ends s) (comment_fault first s)))
    (λ no_star. by_test (Answers first (47 ∷ c ∷ s)) (eqb c 47) line (model.mark_at (47 ∷ c ∷ s))
    (λ slash. subst (λ c. Answers first (47 ∷ c ∷ s) line) (sym (eqb-true c 47 slash))
    (record { piece = run_longest (λ t. 47 ∷ 47 ∷ t) 2 s is_inner (λ t. true) (λ t. p.Blank) (two_front 47 47) line_piece refl; sound = line_fault first s }))
    (λ no_slash. mark_answers first 47 (c ∷ s) (slash_alone c s no_star no_slash) (slash_fault first c s no_star)))

dot_alone : (s : List ℕ) → piece_of (46 ∷ s) ≡ mark_piece (46 ∷ s)
unfolding piece_of
dot_alone s = refl

dot_fault : (first : Bool) (s : List ℕ) → is_fault first (46 ∷ s) ≡ first_passes is_digit s
unfolding is_fault is_number
dot_fault first s = by_test (λ b. b ≡ first_passes is_digit s) (first_passes is_digit s) true false (λ yes. sym yes) (λ no. sym no)

dot_answers : (first : Bool) (s : List ℕ) → Answers first (46 ∷ s) (model.dot_at (46 ∷ s))
unfolding model.dot_at
dot_answers first s = by_test (Answers first (46 ∷ s)) (first_passes is_digit s) None (model.mark_at (46 ∷ s))
    (λ digit. faulty first (46 ∷ s) (dot_fault first s ∙ digit))
    (λ alone. mark_answers first 46 s (λ t. dot_alone (take t s)) (dot_fault first s ∙ alone))

-- ---- all of them

other_fault : (first : Bool) (b : ℕ) (s : List ℕ) → is_digit b ≡ false → eqb b 46 ≡ false → eqb b 39 ≡ false → eqb b 34 ≡ false → eqb b 35 ≡ false → eqb b 47 ≡ false → is_fault first (b ∷ s) ≡ false
unfolding is_fault
other_fault first b s d q46 q39 q34 q35 q47 = rw (d, q46, q39, q34, q35, q47) refl

slash_test : (b : ℕ) (s : List ℕ) → eqb b 47 ≡ false → (b == 47 && is_comment s) ≡ false
slash_test b s e = rw e refl

other_answers : (first : Bool) (b : ℕ) (s : List ℕ) → is_blank b ≡ false → is_letter b ≡ false → is_digit b ≡ false → Answers first (b ∷ s) (model.other_at first (b ∷ s))
unfolding model.other_at
other_answers first b s bl le d = by_test (Answers first (b ∷ s)) (eqb b 39) (model.cut_to_end 1 (p.Token k.Char) (char_end s)) _
    (λ e. subst (λ b. Answers first (b ∷ s) (model.cut_to_end 1 (p.Token k.Char) (char_end s))) (sym (eqb-true b 39 e)) (char_answers first s))
    (λ q39. by_test (Answers first (b ∷ s)) (eqb b 34) (model.cut_to_end 1 (p.Token k.Text) (text_end s)) _
    (λ e. subst (λ b. Answers first (b ∷ s) (model.cut_to_end 1 (p.Token k.Text) (text_end s))) (sym (eqb-true b 34 e)) (text_answers first s))
    (λ q34. by_test (Answers first (b ∷ s)) (eqb b 35) (model.marker_at first s) _
    (λ e. subst (λ b. Answers first (b ∷ s) (model.marker_at first s)) (sym (eqb-true b 35 e)) (marker_answers first s))
    (λ q35. by_test (Answers first (b ∷ s)) (eqb b 47) (model.slash_at (b ∷ s)) _
    (λ e. subst (λ b. Answers first (b ∷ s) (model.slash_at (b ∷ s))) (sym (eqb-true b 47 e)) (slash_answers first s))
    (λ q47. by_test (Answers first (b ∷ s)) (eqb b 46) (model.dot_at (b ∷ s)) (model.mark_at (b ∷ s))
    (λ e. subst (λ b. Answers first (b ∷ s) (model.dot_at (b ∷ s))) (sym (eqb-true b 46 e)) (dot_answers first s))
    (λ q46. mark_answers first b s (λ t. marks_alone b (take t s) bl le d q39 q34 q35 (slash_test b (take t s) q47)) (other_fault first b s d q46 q39 q34 q35 q47))))))

pub front_answers : (first : Bool) (text : List ℕ) → Answers first text (model.front first text)
unfolding model.front Over
front_answers first [] = none_answers first [] (λ m lt le. absurd (omega arith))
front_answers first (b ∷ s) = by_test (Answers first (b ∷ s)) (is_blank b) (Some (record { piece = p.Blank; len = prefix_len is_blank (b ∷ s) })) _
    (λ blank. blank_answers first b s blank)
    (λ bl. by_test (Answers first (b ∷ s)) (is_letter b) (model.word_at (b ∷ s)) _
    (λ letter. word_answers first b s bl letter)
    (λ le. by_test (Answers first (b ∷ s)) (is_digit b) (model.number_at (b ∷ s)) (model.other_at first (b ∷ s))
    (λ digit. number_answers first b s bl le digit)
    (λ d. other_answers first b s bl le d)))
