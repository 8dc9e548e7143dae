-- The labels of one `switch`: words of its promoted type, each once, and one `default` at most (C99 6.8.4.2).
use Rattle.std.proofs.Common.{◌≡◌, ◌==◌, ℕ, Bool, true, false, not, ◌&&◌, ◌||◌, IsTrue, IsFalse, List, [], ◌∷◌, ◌++◌, Option, Some, None, Ok, Err, IfOk, IfSome, refl, sym, ap, ◌∙◌, subst, if◌then◌else◌}
use Rattle.std.proofs.lemmas.Bool.{eq-eqb, eqb-true}
use Rattle.bk_arithmetic.specs.declared.integer_type.IntegerType.{IntegerType}
use Rattle.bk_arithmetic.specs.declared.integer_type.IntegerType.TheVariants as i
use Rattle.bk_arithmetic.specs.Words.{is_word}
use Rattle.c_tree.specs.declared.statements.Label.{Label}
use Rattle.c_tree.specs.declared.statements.Label.TheVariants as l
use Rattle.c_typed_tree.specs.declared.statements.TLabel.{TLabel}
use Rattle.c_typed_tree.specs.declared.statements.TLabel.TheVariants.{Case, Default}
use Rattle.c_typed_tree.specs.declared.statements.TSection.{TSection}
use Rattle.c_typed_tree.specs.View.{type_view}
use Rattle.c_typed_tree.specs.model.View.{opens}
use Rattle.c_typed_tree.specs.model.Lists.{sections_view}
use Rattle.c_typed_tree.specs.Layout.{integer_of}
use Rattle.c_typed_tree.specs.Typing.{Context}
use Rattle.c_typed_tree.specs.TypingStatements.{is_label, is_same_label, is_label_of, are_labels}
use Rattle.c_typing_faults.specs.declared.faults.Kind.TheVariants.{BadLabel}
use Rattle.c_typing_rules.specs.declared.typed.TypedExpression.{TypedExpression}
use Rattle.c_typing_rules.specs.Rulings.{Ruling}
use Rattle.c_typing_rules.specs.Values.{type_of_integer}
use Rattle.c_typing_constants.specs.c_constant_rules.Values as constants
use Rattle.c_typing_state.specs.Checks.{and_then, each, note_fault}
use Rattle.c_typing_expressions.specs.Expressions.{judge}
use Rattle.c_typing_statement_rules.specs.declared.labels.Labels.{Labels}
use Rattle.c_typing_statement_rules.specs.Labels.{has_word, with_words, with_default, LabelState, beside_labels, bad_label, new_case, operand_type, case_value, case_label, default_label}
use Rattle.c_typing_statement_parts.specs.c_typing_local_rules.Locals.{BodyState}
use Rattle.c_typing_statement_parts.specs.Parts.{label_of}
use Rattle.c_typing_expression_sound.proofs.CTypeLaws.Truth.{no_true, front, back, three, either_right}
use Rattle.c_typing_expression_sound.proofs.CTypeLaws.Primary.{label_word}
use Rattle.c_typing_expression_sound.specs.c_judgement_laws.Covers.{IsLawfulContext}
use Rattle.c_typing_expression_sound.proofs.CJudgementLaws.Notes.{Later, later_itself, later_fault}
use Rattle.c_typing_function_sound.proofs.CStatementLaws.Moves.{Moves, moves_both, moves_noted}
use Rattle.c_typing_function_sound.proofs.CStatementLaws.Parts.{judge_moves}

-- ---- the labels that stand before

-- whether a label is one of them
abbrev pub has_label : TLabel → Labels → Bool
has_label (Case word) ls = has_word word ls.words
has_label Default ls = ls.has_default

abbrev pub HaveLabels : Labels → List TSection → Type 0
HaveLabels ls [] = Unit {0}
HaveLabels ls (x ∷ xs) = IsTrue (has_label x.label ls) × HaveLabels ls xs

-- a label of a type that was none of them, and is one now
pub record IsNewLabel (t : IntegerType) (before later : Labels) (label : TLabel) : Type 0 where
  pub word : IsTrue (is_label (Some t) label)
  pub new : IsFalse (has_label label before)
  pub there : IsTrue (has_label label later)
  pub more : (other : TLabel) → IsTrue (has_label other before) → IsTrue (has_label other later)

-- where the operand has a fault, nothing is asked of labels
abbrev pub IsLabelOf : Option IntegerType → (before later : Labels) → TLabel → Type 0
IsLabelOf None before later label = Unit {0}
IsLabelOf (Some t) before later label = IsNewLabel t before later label

pub have_more : (before later : Labels) (xs : List TSection) → ((other : TLabel) → IsTrue (has_label other before) → IsTrue (has_label other later)) → HaveLabels before xs → HaveLabels later xs
have_more before later [] f h = tt
have_more before later (x ∷ xs) f h = (f x.label h.0, have_more before later xs f h.1)

pub have_last : (ls : Labels) (xs : List TSection) (x : TSection) → HaveLabels ls xs → IsTrue (has_label x.label ls) → HaveLabels ls (xs ++ x ∷ [])
have_last ls [] x h g = (g, tt)
have_last ls (y ∷ ys) x h g = (h.0, have_last ls ys x h.1 g)

-- ---- words

word_in : (word other : ℕ) (words : List ℕ) → IsTrue (has_word other words) → IsTrue (has_word other (words ++ word ∷ []))
word_in word other [] h = no_true h
word_in word other (w ∷ words) h = choose (other == w) (word_in word other words) h
  where
    choose : (b : Bool) → (IsTrue (has_word other words) → IsTrue (has_word other (words ++ word ∷ []))) → IsTrue (b || has_word other words) → IsTrue (b || has_word other (words ++ word ∷ []))
    choose true rest h = refl
    choose false rest h = rest h

word_itself : (n : ℕ) → IsTrue (n == n)
word_itself n = eq-eqb n n refl

word_last : (word : ℕ) (words : List ℕ) → IsTrue (has_word word (words ++ word ∷ []))
word_last word [] = ap (λ b. b || false) (word_itself word)
word_last word (w ∷ words) = either_right (word == w) (has_word word (words ++ word ∷ [])) (word_last word words)

-- a label that is one of them is not the new one
same_words : (a b : ℕ) → IsTrue (a == b) → a ≡ b
same_words a b h = eqb-true a b h

differs : (ls : Labels) (old new : TLabel) → IsTrue (has_label old ls) → IsFalse (has_label new ls) → IsFalse (is_same_label old new)
differs ls (Case a) (Case b) h g = choose (a == b) refl
  where
    choose : (q : Bool) → (a == b) ≡ q → IsFalse (a == b)
    choose true e = absurd (clash (sym (subst (λ w. has_word w ls.words ≡ true) (same_words a b e) h) ∙ g))
      where
        clash : true ≡ false → ⊥
        clash k = cc
    choose false e = e
differs ls (Case a) Default h g = refl
differs ls Default (Case b) h g = refl
differs ls Default Default h g = no_true (sym g ∙ h)

-- ---- lists of sections

label_kept : (label : TLabel) (xs : List TSection) (x : TSection) → IsFalse (is_label_of label (sections_view xs)) → IsFalse (is_same_label label x.label) → IsFalse (is_label_of label (sections_view (xs ++ x ∷ [])))
label_kept label [] x h g = ap (λ b. b || false) g
label_kept label (y ∷ ys) x h g = choose (is_same_label label y.label) (λ k. label_kept label ys x k g) h
  where
    choose : (b : Bool) → (IsFalse (is_label_of label (sections_view ys)) → IsFalse (is_label_of label (sections_view (ys ++ x ∷ [])))) → IsFalse (b || is_label_of label (sections_view ys))
        → IsFalse (b || is_label_of label (sections_view (ys ++ x ∷ [])))
    choose true rest h = h
    choose false rest h = rest h

pub labels_more : (t : IntegerType) (ls : Labels) (xs : List TSection) (x : TSection) → IsTrue (are_labels (Some t) (sections_view xs)) → HaveLabels ls xs → IsTrue (is_label (Some t) x.label) → IsFalse (has_label x.label ls)
    → IsTrue (are_labels (Some t) (sections_view (xs ++ x ∷ [])))
labels_more t ls [] x h g w n = three (is_label (Some t) x.label) true true w refl refl
labels_more t ls (y ∷ ys) x h g w n =
    let own = is_label (Some t) y.label in
    let other = is_label_of y.label (sections_view ys) in
    let rest = are_labels (Some t) (sections_view ys) in
    three own (not (is_label_of y.label (sections_view (ys ++ x ∷ [])))) (are_labels (Some t) (sections_view (ys ++ x ∷ []))) (front own (not other) (front (own && not other) rest h))
    (ap not (label_kept y.label ys x (negated other (back own (not other) (front (own && not other) rest h))) (differs ls y.label x.label g.0 n)))
    (labels_more t ls ys x (back (own && not other) rest h) g.1 w n)
  where
    negated : (b : Bool) → IsTrue (not b) → IsFalse b
    negated true h = no_true h
    negated false h = refl

-- ---- the integer type of the operand

pub integer_there : (t : IntegerType) → integer_of (type_view (type_of_integer t)) ≡ Some t
unfolding opens
integer_there i.Char = refl
integer_there i.UnsignedChar = refl
integer_there i.Short = refl
integer_there i.UnsignedShort = refl
integer_there i.Int = refl
integer_there i.UnsignedInt = refl
integer_there i.Long = refl
integer_there i.UnsignedLong = refl

-- ---- a label

module _ (c : Context) (lawful : IsLawfulContext c) (known : Type 0) where
  abbrev Gives : Option IntegerType → Labels → Option TLabel × LabelState → Type 0
  Gives ty before r = IfSome r.0 (IsLabelOf ty before r.1.0)

  new_says : (t : IntegerType) (at word : ℕ) (s : LabelState) → IsTrue (is_word t word) → Gives (Some t) s.0 (new_case at word s)
  new_says t at word s h = choose (has_word word s.0.words) refl
    where
      kept : (other : TLabel) → IsTrue (has_label other s.0) → IsTrue (has_label other (with_words (s.0.words ++ word ∷ []) s.0))
      kept (Case n) k = word_in word n s.0.words k
      kept Default k = k

      choose : (b : Bool) → has_word word s.0.words ≡ b
          → Gives (Some t) s.0 (if b then beside_labels s.0 (bad_label at s.1) else (Some (Case word), (with_words (s.0.words ++ word ∷ []) s.0, s.1)))
      choose true e = tt
      choose false e = record { word = h; new = e; there = word_last word s.0.words; more = kept }

  new_later : (at word : ℕ) (s : LabelState) → Later c s.1 (new_case at word s).1.1
  new_later at word s = choose (has_word word s.0.words)
    where
      choose : (b : Bool) → Later c s.1 (if b then beside_labels s.0 (bad_label at s.1) else (Some (Case word), (with_words (s.0.words ++ word ∷ []) s.0, s.1))).1.1
      choose true = later_fault c at BadLabel s.1
      choose false = later_itself c s.1

  value_says : (ty : Option IntegerType) (at word : ℕ) (s : LabelState) → IsTrue (is_word (operand_type ty) word) → Gives ty s.0 (case_value ty at word s)
  value_says None at word s h = tt
  value_says (Some t) at word s h = new_says t at word s h

  value_later : (ty : Option IntegerType) (at word : ℕ) (s : LabelState) → Later c s.1 (case_value ty at word s).1.1
  value_later None at word s = later_itself c s.1
  value_later (Some t) at word s = new_later at word s

  case_says : (ty : Option IntegerType) (at : ℕ) (a : TypedExpression) (s : LabelState) → Gives ty s.0 (case_label ty at a s)
  case_says ty at a s = of (constants.label_value (operand_type ty) a) (label_word (operand_type ty) a)
    where
      of : (r : Ruling ℕ) → IfOk r (λ n. IsTrue (is_word (operand_type ty) n)) → Gives ty s.0 (and_then (beside_labels s.0 (note_fault r s.1)) (λ q. each q (case_value ty at)))
      of (Ok n) h = value_says ty at n s h
      of (Err f) h = tt

  case_later : (ty : Option IntegerType) (at : ℕ) (a : TypedExpression) (s : LabelState) → Later c s.1 (case_label ty at a s).1.1
  case_later ty at a s = of (constants.label_value (operand_type ty) a)
    where
      of : (r : Ruling ℕ) → Later c s.1 (and_then (beside_labels s.0 (note_fault r s.1)) (λ q. each q (case_value ty at))).1.1
      of (Ok n) = value_later ty at n s
      of (Err f) = later_fault c f.at f.kind s.1

  default_says : (ty : Option IntegerType) (at : ℕ) (s : LabelState) → Gives ty s.0 (default_label at s)
  default_says ty at s = choose s.0.has_default refl
    where
      kept : (other : TLabel) → IsTrue (has_label other s.0) → IsTrue (has_label other (with_default s.0))
      kept (Case n) k = k
      kept Default k = refl

      found : (q : Option IntegerType) → s.0.has_default ≡ false → IsLabelOf q s.0 (with_default s.0) Default
      found None e = tt
      found (Some t) e = record { word = refl; new = e; there = refl; more = kept }

      choose : (b : Bool) → s.0.has_default ≡ b → Gives ty s.0 (if b then beside_labels s.0 (bad_label at s.1) else (Some Default, (with_default s.0, s.1)))
      choose true e = tt
      choose false e = found ty e

  default_later : (at : ℕ) (s : LabelState) → Later c s.1 (default_label at s).1.1
  default_later at s = choose s.0.has_default
    where
      choose : (b : Bool) → Later c s.1 (if b then beside_labels s.0 (bad_label at s.1) else (Some Default, (with_default s.0, s.1))).1.1
      choose true = later_fault c at BadLabel s.1
      choose false = later_itself c s.1

  each_says : (ty : Option IntegerType) (at : ℕ) (o : Option TypedExpression) (s : LabelState) → Gives ty s.0 (each o (case_label ty at) s)
  each_says ty at None s = tt
  each_says ty at (Some a) s = case_says ty at a s

  each_later : (ty : Option IntegerType) (at : ℕ) (o : Option TypedExpression) (s : LabelState) → Later c s.1 (each o (case_label ty at) s).1.1
  each_later ty at None s = later_itself c s.1
  each_later ty at (Some a) s = case_later ty at a s

  pub label_moves : (ty : Option IntegerType) (x : Label) (ls : Labels) (w : BodyState)
      → Moves c known (IfSome (label_of ty x (ls, w.1)).0 (IsLabelOf ty ls (label_of ty x (ls, w.1)).1.0)) w (w.0, (label_of ty x (ls, w.1)).1.1)
  label_moves ty (l.Case at x) ls w =
      let r = judge x w.1 in
      let q = each r.0 (case_label ty at) (ls, r.1.1) in
      moves_both c known w (w.0, r.1) (w.0, (r.1.0, q.1.1)) (λ h k. k) (judge_moves c lawful known x w)
      (moves_noted c known (w.0, r.1) q.1.1 (each_later ty at r.0 (ls, r.1.1)) (each_says ty at r.0 (ls, r.1.1)))
  label_moves ty (l.Default at) ls w = moves_noted c known w (default_label at (ls, w.1.1)).1.1 (default_later at (ls, w.1.1)) (default_says ty at (ls, w.1.1))
