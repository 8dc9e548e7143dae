-- How high is what judgements find.
use Rattle.std.proofs.Common.{ℕ, suc, nat_le, ◌==◌, Bool, true, false, List, [], ◌∷◌, ◌++◌, length, Option, Some, None, Ok, Err, IfOk, IfSome, if◌then◌else◌}
use Rattle.mem_objects.specs.declared.TheConstants.{MOST_DATA}
use Rattle.c_tree.specs.declared.expressions.UnaryOp.{UnaryOp}
use Rattle.c_typed_tree.specs.declared.types.CType.{CType}
use Rattle.c_typed_tree.specs.declared.expressions.Callee.{Callee}
use Rattle.c_typed_tree.specs.declared.expressions.TExpr.{TExpr}
use Rattle.c_typed_tree.specs.View.{type_view}
use Rattle.c_typing_faults.specs.declared.faults.Kind.TheVariants.{BadOperand, BadType, BadCall}
use Rattle.c_typing_rules.specs.declared.typed.TypedExpression.{TypedExpression}
use Rattle.c_typing_rules.specs.Rulings.{Ruling}
use Rattle.c_typing_rules.specs.Rulings as rulings
use Rattle.c_typing_rules.specs.Conversions.{decay}
use Rattle.c_typing_judgements.specs.c_typing_operators.Null.{take_value}
use Rattle.c_typing_primary_rules.specs.Calls.{count_arguments}
use Rattle.c_typing_primary_rules.specs.Commas.{comma_value}
use Rattle.c_typing_primary_rules.specs.Primary.{text, text_type}
use Rattle.c_typing_state.specs.declared.notes.Notes.{Notes}
use Rattle.c_typing_state.specs.declared.meanings.NameMeaning.{NameMeaning}
use Rattle.c_typing_state.specs.declared.meanings.NameMeaning.TheVariants as m
use Rattle.c_typing_state.specs.Checks.{pure, and_then, each, both_parts, append_part, note_fault, fault}
use Rattle.c_typing_state.specs.Notes.{new_text}
use Rattle.c_typing_judgements.specs.declared.members.MemberMeaning.{MemberMeaning}
use Rattle.c_typing_judgements.specs.declared.members.MemberMeaning.TheVariants as q
use Rattle.c_typing_judgements.specs.Operators.{taken_by, apply_prefix, choice_check, choice_of_parts, are_two_or_more, commas_between, commas}
use Rattle.c_typing_judgements.specs.Names.{name_of}
use Rattle.c_typing_judgements.specs.Texts.{spelling_bytes, string_of, string}
use Rattle.c_typing_judgements.specs.Calls.{argument, convert_arguments, call_with, call_passing, call_of, call_by_meaning}
use Rattle.c_typing_judgements.specs.Members.{member_of, struct_number, target_number, field_in, field_named, arrow_in, arrow_named}
use Rattle.c_typing_function_sound.specs.c_typing_height_laws.c_expression_height_laws.Laws.{IsWithin}
use Rattle.c_typing_function_sound.proofs.CTypingHeightLaws.CExpressionHeightLaws.Trees.{number_within, local_within, global_within, call_within, AreWithin, no_trees, trees_more}
use Rattle.c_typing_function_sound.proofs.CTypingHeightLaws.CExpressionHeightLaws.Rules.{StandsWithin, decay_within, taken_within, IsPart, ArePart, unary_gives, conditional_gives, field_gives, arrow_made, comma_gives}

-- ---- what is found of parts

pub ruled_fits : {A : Type 0} (P : A → Type 0) (r : Ruling A) (n : Notes) → IfOk r P → IfSome (note_fault r n).0 P
ruled_fits P (Ok a) n h = h
ruled_fits P (Err f) n h = tt

pub each_within : {A B S : Type 0} (P : A → Type 0) (Q : B → Type 0) (o : Option A) (k : A → S → Option B × S) (s : S) → IfSome o P → ((a : A) → P a → IfSome (k a s).0 Q) → IfSome (each o k s).0 Q
each_within P Q None k s h g = tt
each_within P Q (Some a) k s h g = g a h

pub both_within : {A B D S : Type 0} (P : A → Type 0) (Q : B → Type 0) (R : D → Type 0) (o : Option A) (p : Option B) (k : A → B → S → Option D × S) (s : S) → IfSome o P → IfSome p Q
    → ((a : A) (b : B) → P a → Q b → IfSome (k a b s).0 R) → IfSome (both_parts o p k s).0 R
both_within P Q R None p k s h g f = tt
both_within P Q R (Some a) None k s h g f = tt
both_within P Q R (Some a) (Some b) k s h g f = f a b h g

pub appended_all : {A : Type 0} (P : A → Type 0) (Q : List A → Type 0) → ((xs : List A) (x : A) → Q xs → P x → Q (xs ++ x ∷ [])) → (found : Option (List A)) (r : Option A) → IfSome found Q → IfSome r P → IfSome (append_part found r) Q
appended_all P Q push None r h g = tt
appended_all P Q push (Some xs) None h g = tt
appended_all P Q push (Some xs) (Some x) h g = push xs x h g

pub either_found : {A S : Type 0} (P : A → Type 0) (b : Bool) (x y : Option A × S) → IfSome x.0 P → IfSome y.0 P → IfSome (if b then x else y).0 P
either_found P true x y h g = h
either_found P false x y h g = g

module _ (l : ℕ) where
  abbrev IsOneHigher : TypedExpression → Type 0
  IsOneHigher a = StandsWithin 2 (suc l) a

  -- ---- operators

  pub prefix_found : (at : ℕ) (op : UnaryOp) (a : TypedExpression) (n : Notes) → IsPart l a → IfSome (apply_prefix at op a n).0 IsOneHigher
  prefix_found at op a n h = ruled_fits IsOneHigher _ (taken_by op a.place n) (unary_gives l n.structs at op a h)

  pub choice_found : (at : ℕ) (c a b : Option TypedExpression) (n : Notes) → IfSome c (IsPart l) → IfSome a (IsPart l) → IfSome b (IsPart l) → IfSome (choice_of_parts at c a b n).0 IsOneHigher
  choice_found at None a b n k h g = tt
  choice_found at (Some c) a b n k h g = both_within (IsPart l) (IsPart l) IsOneHigher a b (choice_check at c) n h g (λ x y i j. ruled_fits IsOneHigher _ n (conditional_gives l at c x y k i j))

  commas_made : (at : ℕ) (xs : List TypedExpression) (n : Notes) → ArePart l xs → IfSome (commas_between at xs n).0 IsOneHigher
  commas_made at xs n h = either_found IsOneHigher (are_two_or_more xs) (Some (comma_value at xs), n) (fault at BadOperand n) (comma_gives l at xs h) tt

  pub commas_found : (at : ℕ) (o : Option (List TypedExpression)) (n : Notes) → IfSome o (ArePart l) → IfSome (commas at o n).0 IsOneHigher
  commas_found at o n h = each_within (ArePart l) IsOneHigher o (commas_between at) n h (λ xs k. commas_made at xs n k)

  -- ---- names and texts

  pub name_found : (at : ℕ) (o : Option NameMeaning) (n : Notes) → IfSome (name_of at o n).0 IsOneHigher
  name_found at None n = tt
  name_found at (Some m.Faulty) n = tt
  name_found at (Some (m.Undefined number)) n = tt
  name_found at (Some (m.Local number ty)) n = local_within l ty number
  name_found at (Some (m.Object number ty)) n = global_within l ty number
  name_found at (Some (m.Constant word)) n = number_within l _ word
  name_found at (Some (m.Function callee result parameters)) n = tt
  name_found at (Some (m.Typedef ty)) n = tt

  text_made : (at : ℕ) (bytes : List ℕ) (n : Notes) → IfSome (string_of at bytes n).0 IsOneHigher
  text_made at bytes n =
      either_found IsOneHigher (nat_le (length bytes) MOST_DATA) (and_then (new_text bytes n) (λ number. pure (Some (text at number (length bytes))))) (fault at BadType n)
      (global_within l (text_type (length bytes)) (new_text bytes n).0) tt

  pub text_found : (at : ℕ) (spellings : List (List ℕ)) (n : Notes) → IfSome (string at spellings n).0 IsOneHigher
  text_found at spellings n = text_made at (spelling_bytes spellings) n

  -- ---- calls

  argument_found : (ty : CType) (a : TypedExpression) (n : Notes) → IsPart l a → IfSome (argument ty a n).0 (IsWithin 0 l)
  argument_found ty a n h = ruled_fits (IsWithin 0 l) (take_value ty a) n (taken_within 0 l ty a h)

  arguments_found : (tys : List CType) (xs : List TypedExpression) (found : Option (List TExpr)) (n : Notes) → ArePart l xs → IfSome found (AreWithin l) → IfSome (convert_arguments tys xs found n).0 (AreWithin l)
  arguments_found [] xs found n h g = g
  arguments_found (ty ∷ tys) [] found n h g = g
  arguments_found (ty ∷ tys) (x ∷ xs) found n h g =
      let r = argument ty x n in
      arguments_found tys xs (append_part found r.0) r.1 h.1 (appended_all (IsWithin 0 l) (AreWithin l) (trees_more l) found r.0 g (argument_found ty x n h.0))

  call_made : (at : ℕ) (callee : Callee) (ty : CType) (o : Option (List TExpr)) → IfSome o (AreWithin l) → IfSome (call_with at callee ty o) IsOneHigher
  call_made at callee ty None h = tt
  call_made at callee ty (Some xs) h = call_within l ty callee xs h

  passing_found : (at : ℕ) (callee : Callee) (ty : CType) (tys : List CType) (xs : List TypedExpression) (n : Notes) → ArePart l xs → IfSome (call_passing at callee ty tys xs n).0 IsOneHigher
  passing_found at callee ty tys xs n h = call_made at callee ty (convert_arguments tys xs (Some []) n).0 (arguments_found tys xs (Some []) n h (no_trees l))

  counted : (at : ℕ) (tys : List CType) (xs : List TypedExpression) → ArePart l xs → IfOk (count_arguments at tys xs) (ArePart l)
  counted at tys xs h = choose (length xs == length tys)
    where
      choose : (b : Bool) → IfOk (if b then Ok xs else rulings.fault at BadCall) (ArePart l)
      choose true = h
      choose false = tt

  call_of_found : (at : ℕ) (callee : Callee) (ty : CType) (tys : List CType) (xs : List TypedExpression) (n : Notes) → ArePart l xs → IfSome (call_of at callee ty tys xs n).0 IsOneHigher
  call_of_found at callee ty tys xs n h =
      let r = note_fault (count_arguments at tys xs) n in
      each_within (ArePart l) IsOneHigher r.0 (call_passing at callee ty tys) r.1 (ruled_fits (ArePart l) (count_arguments at tys xs) n (counted at tys xs h)) (λ ys k. passing_found at callee ty tys ys r.1 k)

  pub call_found : (at : ℕ) (o : Option NameMeaning) (xs : Option (List TypedExpression)) (n : Notes) → IfSome xs (ArePart l) → IfSome (call_by_meaning at o xs n).0 IsOneHigher
  call_found at None xs n h = tt
  call_found at (Some m.Faulty) xs n h = tt
  call_found at (Some (m.Undefined number)) xs n h = tt
  call_found at (Some (m.Local number ty)) xs n h = tt
  call_found at (Some (m.Object number ty)) xs n h = tt
  call_found at (Some (m.Constant word)) xs n h = tt
  call_found at (Some (m.Function callee ty tys)) xs n h = each_within (ArePart l) IsOneHigher xs (call_of at callee ty tys) n h (λ ys k. call_of_found at callee ty tys ys n k)
  call_found at (Some (m.Typedef ty)) xs n h = tt

  -- ---- members

  field_by : (at : ℕ) (a : TypedExpression) (x : MemberMeaning) (n : Notes) → IsPart l a → IfSome (field_in at a x n).0 IsOneHigher
  field_by at a q.Nothing n h = ruled_fits IsOneHigher _ n (field_gives l at a None h)
  field_by at a q.Faulty n h = tt
  field_by at a (q.Member found) n h = ruled_fits IsOneHigher _ n (field_gives l at a (Some found) h)

  pub field_found : (at : ℕ) (name : List ℕ) (a : TypedExpression) (n : Notes) → IsPart l a → IfSome (field_named at name a n).0 IsOneHigher
  field_found at name a n h = field_by at a (member_of n (struct_number (type_view a.ty)) name) n h

  arrow_by : (at : ℕ) (a : TypedExpression) (x : MemberMeaning) (n : Notes) → StandsWithin 1 l a → IfSome (arrow_in at a x n).0 IsOneHigher
  arrow_by at a q.Nothing n h = ruled_fits IsOneHigher _ n (arrow_made l n.structs at a None h)
  arrow_by at a q.Faulty n h = tt
  arrow_by at a (q.Member found) n h = ruled_fits IsOneHigher _ n (arrow_made l n.structs at a (Some found) h)

  pub arrow_found : (at : ℕ) (name : List ℕ) (a : TypedExpression) (n : Notes) → IsPart l a → IfSome (arrow_named at name a n).0 IsOneHigher
  arrow_found at name a n h = arrow_by at (decay a) (member_of n (target_number (type_view (decay a).ty)) name) n (decay_within 1 l a h)
