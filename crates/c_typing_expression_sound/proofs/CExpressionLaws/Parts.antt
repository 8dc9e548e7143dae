-- What whole walks are made of: lists of what was judged, names of parameters, and the forms with a walk of their own.
use Rattle.std.proofs.Common.{◌≡◌, ℕ, zero, suc, ◌+◌, ◌-◌, Bool, true, false, IsTrue, List, [], ◌∷◌, ◌++◌, length, drop, Option, Some, None, Ok, Err, IfSome, refl, sym, ap, ◌∙◌, subst, if◌then◌else◌, arith, option_map, append_assoc, length-append}
use Rattle.c_typed_tree.specs.declared.types.CType.{CType}
use Rattle.c_typed_tree.specs.View.{type_view}
use Rattle.c_typed_tree.specs.Typing.{Context, is_valid_type, most_depth}
use Rattle.c_typing_rules.specs.declared.c_typing_declared_types.declared.DeclaredType.{DeclaredType}
use Rattle.c_typing_rules.specs.declared.typed.TypedExpression.{TypedExpression}
use Rattle.c_typing_rules.specs.Rulings.{Ruling}
use Rattle.c_typing_rules.specs.c_typing_declared_types.Declarators.{adjusted_parameter}
use Rattle.c_typing_rules.specs.c_typing_declared_types.Depth.{is_deep_at_most}
use Rattle.c_typing_faults.specs.declared.faults.Kind.TheVariants.{BadType, Redeclared}
use Rattle.c_typing_scopes.specs.Names.{Entry, find, oldest}
use Rattle.c_typing_state.specs.declared.env.Env.{Env}
use Rattle.c_typing_state.specs.declared.meanings.NameMeaning.{NameMeaning}
use Rattle.c_typing_state.specs.declared.notes.Notes.{Notes}
use Rattle.c_typing_state.specs.Checks.{pure, and_then, each, append_part, note_fault}
use Rattle.c_typing_state.specs.Notes.{nothing_taken, rejoin, with_fault}
use Rattle.c_typing_state.specs.Scopes.{enter, leave, with_meaning, meaning_of, stands_here}
use Rattle.c_typing_judgements.specs.Operators.{size_of_value, commas}
use Rattle.c_typing_judgements.specs.Calls.{call_by_meaning}
use Rattle.c_typing_judgements.specs.Types.{JudgementState, in_env, no_parameter, within_depth, parameter_type, parameter_meaning, declared_parameter, parameter_declared}
use Rattle.c_typing_expression_sound.specs.c_judgement_laws.Covers.{is_whole, HasNames, HaveTexts, Knows, Takes, IsLawfulContext, IsJudged, AreJudged, Judges}
use Rattle.c_typing_expression_sound.proofs.CJudgementLaws.Notes.{Later, later_itself, later_fault, found_itself, found_none, found_later, found_fault}
use Rattle.c_typing_expression_sound.proofs.CJudgementLaws.Forms.{size_judged, commas_judged}
use Rattle.c_typing_expression_sound.proofs.CJudgementLaws.Calls.{judged_later, call_judged}
use Rattle.c_typing_expression_sound.specs.c_expression_laws.Types.{AreTypes, IsTypeIn, HasTypedefs}
use Rattle.c_typing_expression_sound.specs.c_expression_laws.Walks.{Walks}
use Rattle.c_typing_expression_sound.proofs.CExpressionLaws.Types.{parameter_typed}
use Rattle.c_typing_expression_sound.proofs.CExpressionLaws.Walks.{later_of}

-- ---- lists of what was judged

one_more : (c : Context) (taken : Type 0) (l : List TypedExpression) (x : TypedExpression) → AreJudged c taken l → IsJudged c taken x → AreJudged c taken (l ++ x ∷ [])
one_more c taken [] x h g = (g, tt)
one_more c taken (y ∷ ys) x h g = (h.0, one_more c taken ys x h.1 g)

pub part_becomes : (c : Context) (taken later : Type 0) (found : Option (List TypedExpression)) (q : Option TypedExpression)
    → (later → taken) → IfSome found (AreJudged c taken) → IfSome q (IsJudged c later) → IfSome (append_part found q) (AreJudged c later)
part_becomes c taken later None q back h g = tt
part_becomes c taken later (Some l) None back h g = tt
part_becomes c taken later (Some l) (Some x) back h g = one_more c later l x (judged_later c taken later l back h) g

-- ---- names of parameters

-- the names that were there are the oldest, in the same scope
pub record Extends (env later : Env) : Type 0 where
  pub more : List (Entry NameMeaning)
  pub names : later.names ≡ more ++ env.names
  pub outside : later.outside ≡ env.outside

dropped : {A : Type 0} (xs ys : List A) (k : ℕ) → k ≡ length xs → drop k (xs ++ ys) ≡ ys
dropped [] ys zero e = refl
dropped [] ys (suc k) e = absurd (clash e)
  where
    clash : suc k ≡ 0 → ⊥
    clash f = omega arith
dropped (x ∷ xs) ys zero e = absurd (clash e)
  where
    clash : 0 ≡ suc (length xs) → ⊥
    clash f = omega arith
dropped (x ∷ xs) ys (suc k) e = dropped xs ys k (same e)
  where
    same : suc k ≡ suc (length xs) → k ≡ length xs
    same f = omega arith

oldest_of : (more names : List (Entry NameMeaning)) → oldest (length names) (more ++ names) ≡ names
oldest_of more names = dropped more names (length (more ++ names) - length names) (counted (length more) (length names) (length (more ++ names)) (length-append more names))
  where
    counted : (a b n : ℕ) → n ≡ a + b → n - b ≡ a
    counted a b n h = omega arith

pub left_scope : (env later : Env) → Extends (enter env) later → leave env.outside later ≡ env
left_scope env later h =
    ap (λ ns. record { names = ns; outside = env.outside })
    (ap (λ o. oldest o later.names) h.outside ∙ (ap (oldest (length env.names)) h.names ∙ oldest_of h.more env.names))

typedefs_more : (c : Context) (name : List ℕ) (of : Option CType) (env : Env) → HasTypedefs c env.names → HasTypedefs c (with_meaning name (parameter_meaning of) env).names
typedefs_more c name None env h = (tt, h)
typedefs_more c name (Some x) env h = (tt, h)

-- what a walk over parameters leaves
pub record Declares (c : Context) (names : Type 0) {A : Type 0} (P : Type 0 → A → Type 0) (s : JudgementState) (r : Option A × JudgementState) : Type 0 where
  pub env : Extends s.0 r.1.0
  pub typedefs : HasTypedefs c s.0.names → HasTypedefs c r.1.0.names
  pub notes : Judges c names P s.1 (r.0, r.1.1)

abbrev pub IsParameter : Context → Type 0 → CType → Type 0
IsParameter c taken x = IsTrue (is_valid_type c.structs (type_view x))

abbrev pub AreParameters : Context → Type 0 → List CType → Type 0
AreParameters c taken xs = AreTypes c.structs xs

more_types : (c : Context) (xs : List CType) (x : CType) → AreTypes c.structs xs → IsTrue (is_valid_type c.structs (type_view x)) → AreTypes c.structs (xs ++ x ∷ [])
more_types c [] x h g = (g, tt)
more_types c (y ∷ ys) x h g = (h.0, more_types c ys x h.1 g)

pub parameter_more : (c : Context) (found : Option (List CType)) (q : Option CType) → IfSome found (AreTypes c.structs) → IfSome q (λ x. IsTrue (is_valid_type c.structs (type_view x))) → IfSome (append_part found q) (AreTypes c.structs)
parameter_more c None q h g = tt
parameter_more c (Some xs) None h g = tt
parameter_more c (Some xs) (Some x) h g = more_types c xs x h g

pub extends_same : (env later : Env) → later ≡ env → Extends env later
extends_same env later e = record { more = []; names = ap (λ (x : Env). x.names) e; outside = ap (λ (x : Env). x.outside) e }

pub extends_then : (a b d : Env) → Extends a b → Extends b d → Extends a d
extends_then a b d h g = record {
  more = g.more ++ h.more;
  names = g.names ∙ (ap (λ ns. g.more ++ ns) h.names ∙ sym (append_assoc g.more h.more a.names));
  outside = g.outside ∙ h.outside;
}

module _ (c : Context) (names : Type 0) where
  -- ---- one parameter

  within_found : (at : ℕ) (o : Option CType) (n : Notes) → (names → Knows c n → IfSome o (λ x. IsTrue (is_valid_type c.structs (type_view x)))) → Judges c names (IsParameter c) n (within_depth at o n)
  within_found at None n h = found_fault c names (IsParameter c) at _ n
  within_found at (Some x) n h = choose (is_deep_at_most n.structs most_depth x)
    where
      choose : (b : Bool) → Judges c names (IsParameter c) n (if b then (Some x, n) else no_parameter at BadType n)
      choose true = found_itself c names (IsParameter c) n x h
      choose false = found_fault c names (IsParameter c) at BadType n

  parameter_found : (at : ℕ) (of : Option DeclaredType) (n : Notes) → (names → Knows c n → IfSome of (IsTypeIn c)) → Judges c names (IsParameter c) n (each of (parameter_type at) n)
  parameter_found at None n h = found_none c names (IsParameter c) n n (later_itself c n)
  parameter_found at (Some x) n h = within_found at (adjusted_parameter x) n (λ v k. parameter_typed c x (h v k))

  declared_found : (at : ℕ) (name : Option (List ℕ)) (q : Option CType) (s : JudgementState) → (names → Knows c s.1 → IfSome q (λ x. IsTrue (is_valid_type c.structs (type_view x)))) → Declares c names (IsParameter c) s (declared_parameter at name q s)
  declared_found at None q s h = record {
    env = extends_same s.0 s.0 refl;
    typedefs = λ d. d;
    notes = record { first = refl; knows = λ k. k; takes = λ t. t; found = h };
  }
  declared_found at (Some name) q s h = choose (stands_here s.0 (find name s.0.names))
    where
      choose : (b : Bool) → Declares c names (IsParameter c) s (if b then in_env s.0 (no_parameter at Redeclared s.1) else (q, (with_meaning name (parameter_meaning q) s.0, s.1)))
      choose true = record { env = extends_same s.0 s.0 refl; typedefs = λ d. d; notes = found_fault c names (IsParameter c) at Redeclared s.1 }
      choose false = record {
        env = record { more = record { name = name; value = parameter_meaning q } ∷ []; names = refl; outside = refl };
        typedefs = λ d. typedefs_more c name q s.0 d;
        notes = record { first = refl; knows = λ k. k; takes = λ t. t; found = h };
      }

  pub one_declared : (at : ℕ) (name : Option (List ℕ)) (of : Option DeclaredType) (s : JudgementState) → (names → Knows c s.1 → IfSome of (IsTypeIn c)) → Declares c names (IsParameter c) s (parameter_declared at name of s)
  one_declared at name of s h =
      let one = parameter_found at of s.1 h in
      let r = each of (parameter_type at) s.1 in
      let more = declared_found at name r.0 (s.0, r.1) one.found in
      record {
        env = more.env;
        typedefs = more.typedefs;
        notes = found_later c names (IsParameter c) s.1 r.1 ((parameter_declared at name of s).0, (parameter_declared at name of s).1.1) (later_of c names (IsParameter c) s.1 r one) more.notes;
      }

  -- ---- what walks are made of

  pub walk_after : {A : Type 0} (P : Type 0 → A → Type 0) (s : JudgementState) (n : Notes) (r : Option A × JudgementState) → Later c s.1 n → Walks c names P (s.0, n) r → Walks c names P s r
  walk_after P s n r later h = record { env = h.env; notes = found_later c names P s.1 n (r.0, r.1.1) later h.notes }

  pub given_found : (r : Ruling ℕ) (n : Notes) → Judges c names (λ taken a. Unit {0}) n (and_then (note_fault r n) (λ q. pure (option_map Some q)))
  given_found (Ok a) n = found_itself c names (λ taken a. Unit {0}) n (Some a) (λ v k. tt)
  given_found (Err f) n = found_none c names (λ taken a. Unit {0}) n (with_fault f.at f.kind n) (later_fault c f.at f.kind n)

module _ (c : Context) (lawful : IsLawfulContext c) (names : Type 0) where
  pub comma_walk : (at : ℕ) (s : JudgementState) (o : Option (List TypedExpression)) (u : JudgementState) → Walks c names (AreJudged c) s (o, u) → Walks c names (IsJudged c) s (in_env u.0 (commas at o u.1))
  comma_walk at s o u w = record {
    env = w.env;
    notes = found_later c names (IsJudged c) s.1 u.1 (commas at o u.1) (later_of c names (AreJudged c) s.1 (o, u.1) w.notes) (commas_judged c lawful names at o u.1 w.notes.found);
  }

  size_walk_found : (at : ℕ) (o : Option TypedExpression) (n : Notes) → (names → Knows c n → IfSome o (λ a. IsTrue (is_whole (type_view a.ty)))) → Judges c names (IsJudged c) n (each o (size_of_value at) n)
  size_walk_found at None n h = found_none c names (IsJudged c) n n (later_itself c n)
  size_walk_found at (Some a) n h = size_judged c lawful names at a n h

  whole_of : (taken : Type 0) (o : Option TypedExpression) → IfSome o (IsJudged c taken) → IfSome o (λ a. IsTrue (is_whole (type_view a.ty)))
  whole_of taken None h = tt
  whole_of taken (Some a) h = h.whole

  later_apart : (n m : Notes) → Later c (nothing_taken n) m → Later c n (rejoin n.addressed n.texts m)
  later_apart n m h = record {
    first = h.first;
    knows = h.knows;
    takes = λ t. record { locals = t.locals; objects = subst (λ f. HaveTexts c f n.texts) h.first t.objects };
  }

  pub size_walk : (at : ℕ) (s : JudgementState) (o : Option TypedExpression) (u : JudgementState) → Walks c names (IsJudged c) (s.0, nothing_taken s.1) (o, u)
      → Walks c names (IsJudged c) s (in_env u.0 (each o (size_of_value at) (rejoin s.1.addressed s.1.texts u.1)))
  size_walk at s o u h =
      let next = rejoin s.1.addressed s.1.texts u.1 in
      record {
        env = h.env;
        notes = found_later c names (IsJudged c) s.1 next (each o (size_of_value at) next) (later_apart s.1 u.1 (later_of c names (IsJudged c) (nothing_taken s.1) (o, u.1) h.notes))
            (size_walk_found at o next (λ v k. whole_of (Takes c u.1) o (h.notes.found v k)));
      }

  pub call_walk : (at : ℕ) (name : List ℕ) (s : JudgementState) (o : Option (List TypedExpression)) (u : JudgementState) → (names → HasNames c s.0) → Walks c names (AreJudged c) s (o, u)
      → Walks c names (IsJudged c) s (in_env u.0 (call_by_meaning at (meaning_of u.0 name) o u.1))
  call_walk at name s o u h w = record {
    env = w.env;
    notes = found_later c names (IsJudged c) s.1 u.1 (call_by_meaning at (meaning_of u.0 name) o u.1) (later_of c names (AreJudged c) s.1 (o, u.1) w.notes)
        (call_judged c names at (meaning_of u.0 name) o u.1 (λ v. subst (HasNames c) (sym w.env) (h v) name) w.notes.found);
  }
