-- What a part of a body leaves, relative to a context that has all that stands behind it.
use Rattle.std.proofs.Common.{IsTrue, List, [], ◌∷◌, ◌++◌, Option, Some, None, Ok, Err, IfSome, refl, sym, subst}
use Rattle.std.specs.List.{list_all}
use Rattle.c_typed_tree.specs.Typing.{Context}
use Rattle.c_typed_tree.specs.Lawful.{is_lawful_local}
use Rattle.c_typing_rules.specs.Rulings.{Ruling}
use Rattle.c_typing_state.specs.declared.env.Env.{Env}
use Rattle.c_typing_state.specs.declared.notes.Notes.{Notes}
use Rattle.c_typing_state.specs.Checks.{each, both_parts, walk, append_part, note_fault}
use Rattle.c_typing_state.specs.Scopes.{leave}
use Rattle.c_typing_judgements.specs.Types.{JudgementState}
use Rattle.c_typing_statement_parts.specs.c_typing_local_rules.Locals.{BodyState}
use Rattle.c_typing_statements.specs.Statements.{in_scope, behind_scope}
use Rattle.c_typing_expression_sound.specs.c_judgement_laws.Covers.{HasNames, Knows, Takes}
use Rattle.c_typing_expression_sound.proofs.CJudgementLaws.Notes.{Later, later_itself, later_then, later_fault}
use Rattle.c_typing_expression_sound.specs.c_expression_laws.Types.{HasTypedefs}
use Rattle.c_typing_expression_sound.specs.c_expression_laws.Laws.{HasScope}
use Rattle.c_typing_expression_sound.specs.c_expression_laws.Walks.{Walks}
use Rattle.c_typing_expression_sound.proofs.CExpressionLaws.Parts.{Extends, extends_same, extends_then, left_scope}
use Rattle.c_typing_function_sound.proofs.CStatementLaws.Locals.{Grows, grows_itself, grows_then, HasLocals, has_fewer}

-- the context has the locals, what was noted and what was taken
pub record Covers (c : Context) (w : BodyState) : Type 0 where
  pub locals : HasLocals c w.0
  pub knows : Knows c w.1.1
  pub takes : Takes c w.1.1

-- the names in scope are those of the context, the locals are lawful there, and what is known of the function
pub record Stands (c : Context) (known : Type 0) (w : BodyState) : Type 0 where
  pub scope : HasScope c w.1
  pub lawful : IsTrue (list_all (is_lawful_local c.structs) w.0)
  pub function : known

-- locals, names and notes are only added; what was there stands as it did; and something is found
pub record Moves (c : Context) (known : Type 0) (X : Type 0) (w u : BodyState) : Type 0 where
  pub grows : Grows w.0 u.0
  pub later : Later c w.1.1 u.1.1
  pub env : Extends w.1.0 u.1.0
  pub stands : Covers c u → Stands c known w → Stands c known u
  pub found : Covers c u → Stands c known w → X

module _ (c : Context) (known : Type 0) where
  pub covers_before : {X : Type 0} (w u : BodyState) → Moves c known X w u → Covers c u → Covers c w
  covers_before w u m h = record { locals = has_fewer c w.0 u.0 m.grows h.locals; knows = m.later.knows h.knows; takes = m.later.takes h.takes }

  pub moves_none : {X : Type 0} (w : BodyState) → X → Moves c known X w w
  moves_none w x = record { grows = grows_itself w.0; later = later_itself c w.1.1; env = extends_same w.1.0 w.1.0 refl; stands = λ h g. g; found = λ h g. x }

  pub moves_as : {X Y : Type 0} (w u : BodyState) → (X → Y) → Moves c known X w u → Moves c known Y w u
  moves_as w u f m = record { grows = m.grows; later = m.later; env = m.env; stands = m.stands; found = λ h g. f (m.found h g) }

  -- with what the context has, and what is known of the function
  pub moves_known : {X Y : Type 0} (w u : BodyState) → (Covers c u → known → X → Y) → Moves c known X w u → Moves c known Y w u
  moves_known w u f m = record { grows = m.grows; later = m.later; env = m.env; stands = m.stands; found = λ h g. f h g.function (m.found h g) }

  -- where more is known of the function
  pub moves_under : {X : Type 0} (more : Type 0) (w u : BodyState) → (more → known) → Moves c known X w u → Moves c more X w u
  moves_under more w u f m = record {
    grows = m.grows;
    later = m.later;
    env = m.env;
    stands = λ h g. behind g (m.stands h (before g));
    found = λ h g. m.found h (before g);
  }
    where
      before : Stands c more w → Stands c known w
      before g = record { scope = g.scope; lawful = g.lawful; function = f g.function }

      behind : Stands c more w → Stands c known u → Stands c more u
      behind g t = record { scope = t.scope; lawful = t.lawful; function = g.function }

  pub moves_then : {X Y : Type 0} (w u v : BodyState) → Moves c known X w u → Moves c known Y u v → Moves c known (X × Y) w v
  moves_then w u v m n = record {
    grows = grows_then w.0 u.0 v.0 m.grows n.grows;
    later = later_then c w.1.1 u.1.1 v.1.1 m.later n.later;
    env = extends_then w.1.0 u.1.0 v.1.0 m.env n.env;
    stands = λ h g. n.stands h (m.stands (covers_before u v n h) g);
    found = λ h g. (m.found (covers_before u v n h) g, n.found h (m.stands (covers_before u v n h) g));
  }

  pub moves_both : {X Y Z : Type 0} (w u v : BodyState) → (X → Y → Z) → Moves c known X w u → Moves c known Y u v → Moves c known Z w v
  moves_both w u v f m n = moves_as w v (λ p. f p.0 p.1) (moves_then w u v m n)

  -- ---- notes

  pub moves_noted : {X : Type 0} (w : BodyState) (n : Notes) → Later c w.1.1 n → X → Moves c known X w (w.0, (w.1.0, n))
  moves_noted w n l x = record {
    grows = grows_itself w.0;
    later = l;
    env = extends_same w.1.0 w.1.0 refl;
    stands = λ h g. record { scope = record { names = g.scope.names; typedefs = g.scope.typedefs }; lawful = g.lawful; function = g.function };
    found = λ h g. x;
  }

  pub moves_quiet : (w : BodyState) (n : Notes) → Later c w.1.1 n → Moves c known (Unit {0}) w (w.0, (w.1.0, n))
  moves_quiet w n l = moves_noted w n l tt

  pub later_ruled : {A : Type 0} (r : Ruling A) (n : Notes) → Later c n (note_fault r n).1
  later_ruled (Ok a) n = later_itself c n
  later_ruled (Err f) n = later_fault c f.at f.kind n

  -- what is judged of a part, if it has no fault
  pub part_moves : {A B : Type 0} (P : A → Type 0) (Q : B → Type 0) (o : Option A) (k : A → Notes → Option B × Notes) (w u : BodyState) → ((a : A) (n : Notes) → Later c n (k a n).1)
      → ((a : A) → Knows c u.1.1 → P a → IfSome (k a u.1.1).0 Q) → Moves c known (IfSome o P) w u → Moves c known (IfSome (each o k u.1.1).0 Q) w (u.0, (u.1.0, (each o k u.1.1).1))
  part_moves P Q None k w u later says m = moves_both w u (u.0, (u.1.0, u.1.1)) (λ x y. tt) m (moves_quiet u u.1.1 (later_itself c u.1.1))
  part_moves P Q (Some a) k w u later says m =
      moves_known w (u.0, (u.1.0, (k a u.1.1).1)) (λ h k p. says a ((later a u.1.1).knows h.knows) p.0) (moves_then w u (u.0, (u.1.0, (k a u.1.1).1)) m (moves_quiet u (k a u.1.1).1 (later a u.1.1)))

  pub two_moves : {A B D : Type 0} (P : A → Type 0) (Q : B → Type 0) (R : D → Type 0) (o : Option A) (q : Option B) (k : A → B → Notes → Option D × Notes) (w u : BodyState) → ((a : A) (b : B) (n : Notes) → Later c n (k a b n).1)
      → ((a : A) (b : B) → P a → Q b → IfSome (k a b u.1.1).0 R) → Moves c known (IfSome o P × IfSome q Q) w u → Moves c known (IfSome (both_parts o q k u.1.1).0 R) w (u.0, (u.1.0, (both_parts o q k u.1.1).1))
  two_moves P Q R None q k w u later says m = moves_both w u (u.0, (u.1.0, u.1.1)) (λ x y. tt) m (moves_quiet u u.1.1 (later_itself c u.1.1))
  two_moves P Q R (Some a) None k w u later says m = moves_both w u (u.0, (u.1.0, u.1.1)) (λ x y. tt) m (moves_quiet u u.1.1 (later_itself c u.1.1))
  two_moves P Q R (Some a) (Some b) k w u later says m =
      moves_both w u (u.0, (u.1.0, (k a b u.1.1).1)) (λ x y. says a b x.0 x.1) m (moves_quiet u (k a b u.1.1).1 (later a b u.1.1))

  -- ---- expressions and types

  -- a walk that leaves the names as they were
  pub moves_walked : {A : Type 0} (P : Type 0 → A → Type 0) (w : BodyState) (r : Option A × JudgementState) → Walks c (HasScope c w.1) P w.1 r → Moves c known (IfSome r.0 (P (Takes c r.1.1))) w (w.0, r.1)
  moves_walked P w r h = record {
    grows = grows_itself w.0;
    later = record { first = h.notes.first; knows = h.notes.knows; takes = h.notes.takes };
    env = extends_same w.1.0 r.1.0 h.env;
    stands = λ v g. record {
      scope = record { names = subst (HasNames c) (sym h.env) g.scope.names; typedefs = subst (λ (e : Env). HasTypedefs c e.names) (sym h.env) g.scope.typedefs };
      lawful = g.lawful;
      function = g.function;
    };
    found = λ v g. h.notes.found g.scope v.knows;
  }

  -- ---- a scope

  pub scope_moves : {X : Type 0} (w u : BodyState) → Moves c known X (in_scope w) u → Moves c known X w (behind_scope w u)
  scope_moves w u m =
      let same = left_scope w.1.0 u.1.0 m.env in
      record {
        grows = m.grows;
        later = m.later;
        env = extends_same w.1.0 (leave w.1.0.outside u.1.0) same;
        stands = λ h g. record {
          scope = record { names = subst (HasNames c) (sym same) g.scope.names; typedefs = subst (λ (e : Env). HasTypedefs c e.names) (sym same) g.scope.typedefs };
          lawful = (m.stands (covered h) (entered g)).lawful;
          function = g.function;
        };
        found = λ h g. m.found (covered h) (entered g);
      }
    where
      covered : Covers c (behind_scope w u) → Covers c u
      covered h = record { locals = h.locals; knows = h.knows; takes = h.takes }

      entered : Stands c known w → Stands c known (in_scope w)
      entered g = record { scope = record { names = g.scope.names; typedefs = g.scope.typedefs }; lawful = g.lawful; function = g.function }

  -- ---- lists

  module _ {B : Type 0} (P : List B → Type 0) (Q : B → Type 0) (more : (xs : List B) (x : B) → P xs → Q x → P (xs ++ x ∷ [])) where
    pub part_more : (found : Option (List B)) (x : Option B) → IfSome found P → IfSome x Q → IfSome (append_part found x) P
    part_more None x h g = tt
    part_more (Some xs) None h g = tt
    part_more (Some xs) (Some x) h g = more xs x h g

    pub walk_moves : {A : Type 0} (f : A → BodyState → Option B × BodyState) → ((x : A) (w : BodyState) → Moves c known (IfSome (f x w).0 Q) w (f x w).1) → (xs : List A) (found : Option (List B)) (w u : BodyState) → Moves c known (IfSome found P) w u
        → Moves c known (IfSome (walk f xs found u).0 P) w (walk f xs found u).1
    walk_moves f one [] found w u m = m
    walk_moves f one (x ∷ xs) found w u m = walk_moves f one xs (append_part found (f x u).0) w (f x u).1 (moves_both w u (f x u).1 (part_more found (f x u).0) m (one x u))
