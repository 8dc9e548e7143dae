-- Calls: each argument is of the type of its parameter.
use Rattle.std.proofs.Common.{◌≡◌, ℕ, suc, ◌==◌, Bool, true, false, IsTrue, List, [], ◌∷◌, ◌++◌, length, Option, Some, None, Ok, Err, IfOk, IfSome, refl, sym, subst, if◌then◌else◌, append_assoc, append-nil, arith, eqb-true, option_map}
use Rattle.c_typed_tree.specs.declared.types.CType.{CType}
use Rattle.c_typed_tree.specs.declared.expressions.Callee.{Callee}
use Rattle.c_typed_tree.specs.declared.expressions.TExpr.{TExpr}
use Rattle.c_typed_tree.specs.View.{type_view}
use Rattle.c_typed_tree.specs.Typing.{Context, is_fit}
use Rattle.c_typing_faults.specs.declared.faults.Kind.TheVariants.{BadCall}
use Rattle.c_typing_rules.specs.declared.typed.TypedExpression.{TypedExpression}
use Rattle.c_typing_rules.specs.Rulings.{Ruling, fault}
use Rattle.c_typing_primary_rules.specs.Calls.{call_rvalue}
use Rattle.c_typing_judgements.specs.c_typing_operators.Null.{take_value}
use Rattle.c_typing_state.specs.declared.meanings.NameMeaning.{NameMeaning}
use Rattle.c_typing_state.specs.declared.meanings.NameMeaning.TheVariants as m
use Rattle.c_typing_state.specs.declared.notes.Notes.{Notes}
use Rattle.c_typing_state.specs.Checks.{each, and_then, note_fault, append_part}
use Rattle.c_typing_state.specs.Notes.{with_use}
use Rattle.c_typing_judgements.specs.Calls.{argument, convert_arguments, call_passing, call_of, call_by_meaning}
use Rattle.c_typing_expression_sound.specs.c_type_laws.Typed.{IsOfType, AreOfTypes, AreFit, IsFunctionOf}
use Rattle.c_typing_expression_sound.proofs.CTypeLaws.Operators.{take_typed}
use Rattle.c_typing_expression_sound.proofs.CTypeLaws.Primary.{call_typed}
use Rattle.c_typing_expression_sound.specs.c_judgement_laws.Covers.{IsNameIn, Knows, Takes, IsJudged, AreJudged, Judges}
use Rattle.c_typing_expression_sound.proofs.CJudgementLaws.Notes.{Later, later_itself, later_use, found_none, found_later, found_fault, found_ruled}
use Rattle.c_typing_expression_sound.proofs.CJudgementLaws.Structs.{fit_whole}

-- ---- lists that are judged

pub judged_later : (c : Context) (taken later : Type 0) (xs : List TypedExpression) → (later → taken) → AreJudged c taken xs → AreJudged c later xs
judged_later c taken later [] back h = tt
judged_later c taken later (a ∷ rest) back h = (record { whole = h.0.whole; typed = λ t. h.0.typed (back t) }, judged_later c taken later rest back h.1)

mapped : {A B : Type 0} (P : A → Type 0) (Q : B → Type 0) (f : A → B) (o : Option A) → IfSome o P → ((a : A) → P a → Q (f a)) → IfSome (option_map f o) Q
mapped P Q f None h g = tt
mapped P Q f (Some a) h g = g a h

module _ (c : Context) (names : Type 0) where
  -- what has been converted, of the front of the parameters: with the rest behind it, it is of all of them
  Before : (all rest : List CType) → List TExpr → Type 0
  Before all rest xs = (ys : List TExpr) → AreOfTypes c rest ys → AreOfTypes c all (xs ++ ys)

  before_end : (all : List CType) (xs : List TExpr) → Before all [] xs → AreOfTypes c all xs
  unfolding Before
  before_end all xs h = subst (AreOfTypes c all) (append-nil xs) (h [] tt)

  before_more : (all : List CType) (ty : CType) (rest : List CType) (xs : List TExpr) (x : TExpr) → Before all (ty ∷ rest) xs → IsOfType c (type_view ty) x → Before all rest (xs ++ x ∷ [])
  unfolding Before
  before_more all ty rest xs x h g = λ ys k. subst (AreOfTypes c all) (sym (append_assoc xs (x ∷ []) ys)) (h (x ∷ ys) (g, k))

  -- one more of the parts that were found
  more_found : (taken later : Type 0) (all : List CType) (ty : CType) (rest : List CType) (found : Option (List TExpr)) (q : Option TExpr) → (later → taken)
      → IfSome found (λ xs. taken → Before all (ty ∷ rest) xs) → IfSome q (λ x. later → IsOfType c (type_view ty) x) → IfSome (append_part found q) (λ xs. later → Before all rest xs)
  more_found taken later all ty rest None q back h g = tt
  more_found taken later all ty rest (Some xs) None back h g = tt
  more_found taken later all ty rest (Some xs) (Some x) back h g = λ t. before_more all ty rest xs x (h (back t)) (g t)

  argument_judged : (ty : CType) (a : TypedExpression) (n : Notes) → (names → IsTrue (is_fit c.structs (type_view ty))) → (names → Knows c n → IsJudged c (Takes c n) a)
      → Judges c names (λ taken x. taken → IsOfType c (type_view ty) x) n (argument ty a n)
  argument_judged ty a n fit h =
      found_ruled c names (λ taken x. taken → IsOfType c (type_view ty) x) n (take_value ty a) (λ v k. taken_where (take_value ty a) (λ t. take_typed c ty a (fit v) ((h v k).typed t)))
    where
      taken_where : (r : Ruling TExpr) → (Takes c n → IfOk r (IsOfType c (type_view ty))) → IfOk r (λ x. Takes c n → IsOfType c (type_view ty) x)
      taken_where (Ok x) g = g
      taken_where (Err f) g = tt

  arguments_judged : (all : List CType) (tys : List CType) (args : List TypedExpression) (found : Option (List TExpr)) (n : Notes) → (names → AreFit c.structs tys) → length args ≡ length tys
      → (names → Knows c n → AreJudged c (Takes c n) args) → (names → Knows c n → IfSome found (λ xs. Takes c n → Before all tys xs))
      → Judges c names (λ taken xs. taken → AreOfTypes c all xs) n (convert_arguments tys args found n)
  arguments_judged all [] args found n fit same h g = record {
    first = refl;
    knows = λ k. k;
    takes = λ t. t;
    found = λ v k. ended found (g v k);
  }
    where
      ended : (q : Option (List TExpr)) → IfSome q (λ xs. Takes c n → Before all [] xs) → IfSome q (λ xs. Takes c n → AreOfTypes c all xs)
      ended None h = tt
      ended (Some xs) h = λ t. before_end all xs (h t)
  arguments_judged all (ty ∷ tys) [] found n fit same h g = absurd (zero_suc (length tys) same)
    where
      zero_suc : (k : ℕ) → 0 ≡ suc k → ⊥
      zero_suc k e = omega arith
  arguments_judged all (ty ∷ tys) (a ∷ args) found n fit same h g =
      let one = argument_judged ty a n (λ v. (fit v).0) (λ v k. (h v k).0) in
      let next = (argument ty a n).1 in
      let later : Later c n next = record { first = one.first; knows = one.knows; takes = one.takes } in
      found_later c names (λ taken xs. taken → AreOfTypes c all xs) n next (convert_arguments (ty ∷ tys) (a ∷ args) found n) later
      (arguments_judged all tys args (append_part found (argument ty a n).0) next (λ v. (fit v).1) (suc_same (length args) (length tys) same)
      (λ v k. judged_later c (Takes c n) (Takes c next) args one.takes (h v (one.knows k)).1)
      (λ v k. more_found (Takes c n) (Takes c next) all ty tys found (argument ty a n).0 one.takes (g v (one.knows k)) (one.found v k)))
    where
      suc_same : (x y : ℕ) → suc x ≡ suc y → x ≡ y
      suc_same x y e = omega arith

  passing_judged : (at : ℕ) (callee : Callee) (ty : CType) (tys : List CType) (args : List TypedExpression) (n : Notes) → (names → IsFunctionOf c callee ty tys) → length args ≡ length tys
      → (names → Knows c n → AreJudged c (Takes c n) args) → Judges c names (IsJudged c) n (call_passing at callee ty tys args n)
  unfolding Before
  passing_judged at callee ty tys args n f same h =
      let all = arguments_judged tys tys args (Some []) n (λ v. (f v).parameter_types) same h (λ v k t ys g. g) in
      record {
        first = all.first;
        knows = all.knows;
        takes = all.takes;
        found = λ v k. mapped (λ xs. Takes c (convert_arguments tys args (Some []) n).1 → AreOfTypes c tys xs) (IsJudged c (Takes c (convert_arguments tys args (Some []) n).1)) (call_rvalue at callee ty)
            (convert_arguments tys args (Some []) n).0 (all.found v k)
            (λ xs g. record { whole = fit_whole c.structs (type_view ty) (f v).fit; typed = λ t. call_typed c at callee ty tys xs (f v) (g t) });
      }

  counted_judged : (at : ℕ) (callee : Callee) (ty : CType) (tys : List CType) (args : List TypedExpression) (n : Notes) → (names → IsFunctionOf c callee ty tys)
      → (names → Knows c n → AreJudged c (Takes c n) args) → Judges c names (IsJudged c) n (call_of at callee ty tys args n)
  counted_judged at callee ty tys args n f h = of (length args == length tys) refl
    where
      of : (b : Bool) → length args == length tys ≡ b
          → Judges c names (IsJudged c) n (and_then (note_fault (if b then Ok args else fault at BadCall) n) (λ r. each r (call_passing at callee ty tys)))
      of true e = passing_judged at callee ty tys args n f (eqb-true (length args) (length tys) e) h
      of false e = found_fault c names (IsJudged c) at BadCall n

  pub call_judged : (at : ℕ) (o : Option NameMeaning) (args : Option (List TypedExpression)) (n : Notes) → (names → IsNameIn c o) → (names → Knows c n → IfSome args (AreJudged c (Takes c n))) → Judges c names (IsJudged c) n (call_by_meaning at o args n)
  call_judged at None args n f h = found_fault c names (IsJudged c) at _ n
  call_judged at (Some m.Faulty) args n f h = found_none c names (IsJudged c) n n (later_itself c n)
  call_judged at (Some (m.Undefined number)) args n f h = found_none c names (IsJudged c) n (with_use number at n) (later_use c number at n)
  call_judged at (Some (m.Local number ty)) args n f h = found_fault c names (IsJudged c) at _ n
  call_judged at (Some (m.Object number ty)) args n f h = found_fault c names (IsJudged c) at _ n
  call_judged at (Some (m.Constant word)) args n f h = found_fault c names (IsJudged c) at _ n
  call_judged at (Some (m.Function callee result parameters)) None n f h = found_none c names (IsJudged c) n n (later_itself c n)
  call_judged at (Some (m.Function callee result parameters)) (Some args) n f h = counted_judged at callee result parameters args n f h
  call_judged at (Some (m.Typedef ty)) args n f h = found_fault c names (IsJudged c) at _ n
