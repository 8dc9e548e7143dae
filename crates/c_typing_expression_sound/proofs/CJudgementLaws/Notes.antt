-- What a note adds, and what a context that has it had before.
use Rattle.std.proofs.Common.{◌≡◌, ℕ, suc, ◌+◌, IsTrue, List, [], ◌∷◌, ◌++◌, length, slice_get, Option, Some, None, Ok, Err, IfOk, refl, ◌∙◌, subst, arith}
use Rattle.c_tree.specs.declared.expressions.UnaryOp.{UnaryOp}
use Rattle.c_tree.specs.declared.expressions.UnaryOp.TheVariants as u
use Rattle.c_typed_tree.specs.Typing.{Context}
use Rattle.c_typing_faults.specs.declared.faults.Kind.{Kind}
use Rattle.c_typing_rules.specs.declared.typed.LvalueKind.{LvalueKind}
use Rattle.c_typing_rules.specs.declared.typed.LvalueKind.TheVariants as p
use Rattle.c_typing_rules.specs.declared.typed.TypedExpression.{TypedExpression}
use Rattle.c_typing_rules.specs.Rulings.{Ruling}
use Rattle.c_typing_place_rules.specs.Places.{is_somewhere}
use Rattle.c_typing_state.specs.declared.notes.Notes.{Notes}
use Rattle.c_typing_state.specs.Checks.{fault, note_fault}
use Rattle.c_typing_state.specs.Notes.{with_address, with_fault, with_use, new_text}
use Rattle.c_typing_judgements.specs.Operators.{taken_by}
use Rattle.c_typing_expression_sound.specs.c_type_laws.Typed.{may_be_memory, is_memory, IsTypedIn, TakesMemory}
use Rattle.c_typing_expression_sound.proofs.CTypeLaws.Truth.{no_true}
use Rattle.c_typing_expression_sound.specs.c_judgement_laws.Covers.{AreInMemory, IsTextObject, HaveTexts, Knows, Takes, IsJudged, Judges}
use Rattle.c_typing_expression_sound.proofs.CJudgementLaws.Whole.{V}

-- ---- lists of what was taken

memory_front : (c : Context) (xs ys : List ℕ) → AreInMemory c (xs ++ ys) → AreInMemory c xs
memory_front c [] ys h = tt
memory_front c (x ∷ xs) ys h = (h.0, memory_front c xs ys h.1)

memory_last : (c : Context) (xs : List ℕ) (x : ℕ) → AreInMemory c (xs ++ x ∷ []) → IsTrue (may_be_memory (slice_get c.locals x))
memory_last c [] x h = h.0
memory_last c (y ∷ ys) x h = memory_last c ys x h.1

texts_front : (c : Context) (k : ℕ) (xs ys : List (List ℕ)) → HaveTexts c k (xs ++ ys) → HaveTexts c k xs
texts_front c k [] ys h = tt
texts_front c k (x ∷ xs) ys h = (h.0, texts_front c (1 + k) xs ys h.1)

further : (k n : ℕ) → 1 + k + n ≡ k + suc n
further k n = omega arith

pub texts_last : (c : Context) (k : ℕ) (xs : List (List ℕ)) (x : List ℕ) → HaveTexts c k (xs ++ x ∷ []) → IsTextObject c (k + length xs) (length x)
texts_last c k [] x h = subst (λ j. IsTextObject c j (length x)) (start k) h.0
  where
    start : (k : ℕ) → k ≡ k + 0
    start k = omega arith
texts_last c k (y ∷ ys) x h = subst (λ j. IsTextObject c j (length x)) (further k (length ys)) (texts_last c (1 + k) ys x h.1)

-- ---- one note is later than another

pub record Later (c : Context) (n later : Notes) : Type 0 where
  pub first : later.first_text ≡ n.first_text
  pub knows : Knows c later → Knows c n
  pub takes : Takes c later → Takes c n

pub later_itself : (c : Context) (n : Notes) → Later c n n
later_itself c n = record { first = refl; knows = λ k. k; takes = λ t. t }

pub later_then : (c : Context) (n m o : Notes) → Later c n m → Later c m o → Later c n o
later_then c n m o h g = record { first = g.first ∙ h.first; knows = λ k. h.knows (g.knows k); takes = λ t. h.takes (g.takes t) }

pub later_fault : (c : Context) (at : ℕ) (kind : Kind) (n : Notes) → Later c n (with_fault at kind n)
later_fault c at kind n = record { first = refl; knows = λ k. k; takes = λ t. t }

pub later_use : (c : Context) (number at : ℕ) (n : Notes) → Later c n (with_use number at n)
later_use c number at n = record { first = refl; knows = λ k. k; takes = λ t. t }

later_address : (c : Context) (stands : LvalueKind) (n : Notes) → Later c n (with_address stands n)
later_address c p.Nowhere n = later_itself c n
later_address c (p.Local number) n = record {
  first = refl;
  knows = λ k. k;
  takes = λ t. record { locals = memory_front c n.addressed (number ∷ []) t.locals; objects = t.objects };
}
later_address c (p.Global number) n = later_itself c n
later_address c p.Elsewhere n = later_itself c n

address_memory : (c : Context) (stands : LvalueKind) (n : Notes) → Takes c (with_address stands n) → IsTrue (is_somewhere stands) → IsTrue (is_memory c.locals stands)
address_memory c p.Nowhere n t s = no_true s
address_memory c (p.Local number) n t s = memory_last c n.addressed number t.locals
address_memory c (p.Global number) n t s = refl
address_memory c p.Elsewhere n t s = refl

pub later_taken : (c : Context) (op : UnaryOp) (stands : LvalueKind) (n : Notes) → Later c n (taken_by op stands n)
later_taken c u.Address stands n = later_address c stands n
later_taken c u.Increment stands n = later_itself c n
later_taken c u.Decrement stands n = later_itself c n
later_taken c u.Dereference stands n = later_itself c n
later_taken c u.Plus stands n = later_itself c n
later_taken c u.Minus stands n = later_itself c n
later_taken c u.Invert stands n = later_itself c n
later_taken c u.Not stands n = later_itself c n

pub taken_memory : (c : Context) (op : UnaryOp) (stands : LvalueKind) (n : Notes) → Takes c (taken_by op stands n) → TakesMemory c op stands
taken_memory c u.Address stands n t = address_memory c stands n t
taken_memory c u.Increment stands n t = tt
taken_memory c u.Decrement stands n t = tt
taken_memory c u.Dereference stands n t = tt
taken_memory c u.Plus stands n t = tt
taken_memory c u.Minus stands n t = tt
taken_memory c u.Invert stands n t = tt
taken_memory c u.Not stands n t = tt

pub later_text : (c : Context) (bytes : List ℕ) (n : Notes) → Later c n (new_text bytes n).1
later_text c bytes n = record {
  first = refl;
  knows = λ k. k;
  takes = λ t. record { locals = t.locals; objects = texts_front c n.first_text n.texts (bytes ∷ []) t.objects };
}

-- ---- judgements

module _ (c : Context) (names : Type 0) {A : Type 0} (P : Type 0 → A → Type 0) where
  pub found_itself : (n : Notes) (a : A) → (names → Knows c n → P (Takes c n) a) → Judges c names P n (Some a, n)
  found_itself n a h = record { first = refl; knows = λ k. k; takes = λ t. t; found = h }

  pub found_none : (n m : Notes) → Later c n m → Judges c names P n (None, m)
  found_none n m h = record { first = h.first; knows = h.knows; takes = h.takes; found = λ v k. tt }

  pub found_later : (n m : Notes) (r : Option A × Notes) → Later c n m → Judges c names P m r → Judges c names P n r
  found_later n m r h g = record { first = g.first ∙ h.first; knows = λ k. h.knows (g.knows k); takes = λ t. h.takes (g.takes t); found = g.found }

  pub found_fault : (at : ℕ) (kind : Kind) (n : Notes) → Judges c names P n (fault at kind n)
  found_fault at kind n = found_none n (with_fault at kind n) (later_fault c at kind n)

  -- what a rule gives
  pub found_ruled : (n : Notes) (r : Ruling A) → (names → Knows c n → IfOk r (P (Takes c n))) → Judges c names P n (note_fault r n)
  found_ruled n (Ok a) h = found_itself n a h
  found_ruled n (Err f) h = found_none n (with_fault f.at f.kind n) (later_fault c f.at f.kind n)

-- both parts of what a rule gives
pub joined_rulings : (c : Context) (taken : Type 0) (r : Ruling TypedExpression) → IfOk r V → (taken → IfOk r (IsTypedIn c)) → IfOk r (IsJudged c taken)
joined_rulings c taken (Ok a) h g = record { whole = h; typed = g }
joined_rulings c taken (Err f) h g = tt
