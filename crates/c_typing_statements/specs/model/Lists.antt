-- The parts of statements, as records, lists and options that code sees.
use Rattle.std.specs.Prelude.{List, [], Option, Some, None}
use Rattle.std.specs.Option.{option_map}
use Rattle.bk_arithmetic.specs.declared.integer_type.IntegerType.{IntegerType}
use Rattle.c_tree.specs.declared.statements.Stmt as s
use Rattle.c_tree.specs.declared.statements.Section.{Section}
use Rattle.c_typed_tree.specs.declared.types.CType.{CType}
use Rattle.c_typed_tree.specs.declared.statements.TStmt.{TStmt}
use Rattle.c_typed_tree.specs.declared.statements.TSection.{TSection}
use Rattle.c_typing_state.specs.Checks.{pure, and_then, walk}
use Rattle.c_typing_primary_rules.specs.declared.switches.SwitchValue.{SwitchValue}
use Rattle.c_typing_statement_rules.specs.declared.jumps.Jumps.{Jumps}
use Rattle.c_typing_statement_rules.specs.Labels.{no_labels, beside_labels}
use Rattle.c_typing_statement_parts.specs.c_typing_local_rules.Locals.{BodyState}
use Rattle.c_typing_statement_rules.specs.Forms.{section_under, switch, switch_type, block}
use Rattle.c_typing_statement_parts.specs.Parts.{label_of}
use Rattle.c_typing_statements.specs.Statements.{SwitchState, beside_locals, in_scope, behind_scope, statement}

module _ (of : Option CType) (j : Jumps) where
  abbrev pub else_statement : Option s.Stmt → BodyState → Option (Option TStmt) × BodyState
  else_statement None w = (Some None, w)
  else_statement (Some x) w = and_then (statement of j x w) (λ r. pure (option_map Some r))

  abbrev pub statement_block : List s.Stmt → BodyState → Option TStmt × BodyState
  statement_block list w =
      and_then (walk (statement of j) list (Some []) (in_scope w)) (λ found u. (block found, behind_scope w u))

  abbrev pub section : Option IntegerType → Section → SwitchState → Option TSection × SwitchState
  section ty x w =
      and_then (beside_locals w (label_of ty x.label (w.0, w.1.1))) (λ l u.
      and_then (beside_labels u.0 (walk (statement of j) x.statements (Some []) u.1)) (λ xs.
      pure (section_under l xs)))

  abbrev pub switch_statement : Option SwitchValue → List Section → BodyState → Option TStmt × BodyState
  switch_statement o list w =
      and_then (walk (section (switch_type o)) list (Some []) (no_labels, w)) (λ found v. (switch o found, v.1))
