-- Statements made of their parts, where those are without fault (C99 6.8).
use Rattle.std.specs.Prelude.{List, Option, Some, None}
use Rattle.std.specs.Option.{option_map}
use Rattle.bk_arithmetic.specs.declared.integer_type.IntegerType.{IntegerType}
use Rattle.c_typed_tree.specs.declared.expressions.TExpr.{TExpr}
use Rattle.c_typed_tree.specs.declared.statements.TStmt.{TStmt}
use Rattle.c_typed_tree.specs.declared.statements.TStmt as s
use Rattle.c_typed_tree.specs.declared.statements.TSection.{TSection}
use Rattle.c_typed_tree.specs.declared.statements.TLabel.{TLabel}
use Rattle.c_typed_tree.specs.declared.statements.TFirst.{TFirst}
use Rattle.c_typed_tree.specs.declared.statements.TFirst.TheVariants as f
use Rattle.c_typed_tree.specs.declared.statements.TLocal.{TLocal}
use Rattle.c_typing_primary_rules.specs.declared.switches.SwitchValue.{SwitchValue}

abbrev pub if_else : Option TExpr → Option TStmt → Option (Option TStmt) → Option TStmt
if_else None a b = None
if_else (Some c) None b = None
if_else (Some c) (Some a) None = None
if_else (Some c) (Some a) (Some b) = Some (s.If c a b)

abbrev pub while_loop : Option TExpr → Option TStmt → Option TStmt
while_loop None a = None
while_loop (Some c) None = None
while_loop (Some c) (Some a) = Some (s.While c a)

abbrev pub do_loop : Option TStmt → Option TExpr → Option TStmt
do_loop None c = None
do_loop (Some a) None = None
do_loop (Some a) (Some c) = Some (s.Do a c)

-- a part of a `for` may be missing
abbrev pub for_loop : Option TFirst → (condition step : Option (Option TExpr)) → Option TStmt → Option TStmt
for_loop None c e a = None
for_loop (Some x) None e a = None
for_loop (Some x) (Some c) None a = None
for_loop (Some x) (Some c) (Some e) None = None
for_loop (Some x) (Some c) (Some e) (Some a) = Some (s.For x c e a)

abbrev pub switch : Option SwitchValue → Option (List TSection) → Option TStmt
switch None xs = None
switch (Some o) None = None
switch (Some o) (Some xs) = Some (s.Switch o.tree xs)

abbrev pub section_under : Option TLabel → Option (List TStmt) → Option TSection
section_under None xs = None
section_under (Some label) None = None
section_under (Some label) (Some xs) = Some (record { label = label; statements = xs })

-- the promoted type of the operand of a `switch`
abbrev pub switch_type : Option SwitchValue → Option IntegerType
switch_type operand = option_map (λ (o : SwitchValue). o.ty) operand

abbrev pub block : Option (List TStmt) → Option TStmt
block list = option_map s.Block list

abbrev pub expression_statement : Option TExpr → Option TStmt
expression_statement value = option_map s.Expression value

abbrev pub local_statement : Option TLocal → Option TStmt
local_statement l = option_map s.Local l

-- a part that is there
abbrev pub some_part : Option TExpr → Option (Option TExpr)
some_part value = option_map Some value

abbrev pub first_value : Option TExpr → Option TFirst
first_value value = option_map f.Value value

abbrev pub first_locals : Option (List TLocal) → Option TFirst
first_locals list = option_map f.Locals list
