-- Small units, to show the meaning at work: each as C text, and as its tree. Where the text speaks of `main`, another
-- function stands before it.
use Rattle.std.specs.Prelude.{ℕ, List, [], ◌∷◌, codes, Bool, true, false, Some, None}
use Rattle.std.specs.List.{list_all}
use Rattle.c_tree.specs.declared.expressions.UnaryOp.TheVariants as u
use Rattle.c_tree.specs.declared.expressions.BinaryOp.TheVariants as b
use Rattle.c_tree.specs.declared.expressions.AssignOp.TheVariants as a
use Rattle.c_tree.specs.declared.expressions.StepOp.TheVariants as o
use Rattle.mem_objects.specs.declared.DataObject.{DataObject}
use Rattle.mem_objects.specs.declared.DataCell.TheVariants as d
use Rattle.c_typed_tree.specs.declared.types.CType.{CType}
use Rattle.c_typed_tree.specs.declared.types.CType as t
use Rattle.c_typed_tree.specs.declared.types.StructDef.{StructDef}
use Rattle.c_typed_tree.specs.declared.expressions.TExpr.{TExpr}
use Rattle.c_typed_tree.specs.declared.expressions.TExpr as e
use Rattle.c_typed_tree.specs.declared.expressions.Builtin.TheVariants as i
use Rattle.c_typed_tree.specs.declared.expressions.Callee.TheVariants as c
use Rattle.c_typed_tree.specs.declared.statements.TStmt.{TStmt}
use Rattle.c_typed_tree.specs.declared.statements.TStmt as s
use Rattle.c_typed_tree.specs.declared.statements.TLabel.TheVariants as l
use Rattle.c_typed_tree.specs.declared.statements.TFirst.TheVariants as f
use Rattle.c_typed_tree.specs.declared.units.Local.{Local}
use Rattle.c_typed_tree.specs.declared.units.TypedFn.{TypedFn}
use Rattle.c_typed_tree.specs.declared.units.TypedUnit.{TypedUnit}
use Rattle.c_typed_tree.specs.View.{type_view, stmt_view}
use Rattle.c_typed_tree.specs.TypingStatements.{no_jumps, is_typed_stmt}
use Rattle.c_typed_tree.specs.Lawful.{context_of}

abbrev pub int : CType
int = t.Int 4 true

abbrev pub unsigned : CType
unsigned = t.Int 4 false

abbrev pub char : CType
char = t.Int 1 true

abbrev pub long : CType
long = t.Int 8 true

-- a local that is none in memory, and one that is an object
abbrev pub register_local : CType → Local
register_local ty = record { ty = ty; in_memory = false }

abbrev pub memory_local : CType → Local
memory_local ty = record { ty = ty; in_memory = true }

-- a function of type `int`
abbrev pub int_function : (name : List ℕ) → List Local → (params : ℕ) → List TStmt → TypedFn
int_function name locals params body =
    record { name = name; result = int; params = params; locals = locals; body = s.Block body }

-- a unit of `main` with these locals and statements, and of other things
abbrev pub main_unit : List StructDef → List DataObject → List Local → List TStmt → List TypedFn → TypedUnit
main_unit structs globals locals body others = record {
  structs = structs;
  globals = globals;
  functions = int_function (codes "main") locals 0 body ∷ others;
}

-- the body of each function of a unit is well typed
abbrev pub has_typed_bodies : TypedUnit → Bool
has_typed_bodies u =
    list_all (λ f. is_typed_stmt (context_of u f) (type_view f.result) no_jumps (stmt_view f.body)) u.functions

-- return 7;
abbrev pub returns_seven : TypedUnit
returns_seven =
    main_unit [] [] [] (s.Return (Some (e.Number int 7)) ∷ []) []

-- (nothing)
abbrev pub returns_nothing : TypedUnit
returns_nothing =
    main_unit [] [] [] [] []

-- return 300;
abbrev pub status_is_a_byte : TypedUnit
status_is_a_byte =
    main_unit [] [] [] (s.Return (Some (e.Number int 300)) ∷ []) []

-- return putchar(321);
abbrev pub puts_a_byte : TypedUnit
puts_a_byte =
    main_unit [] [] [] (s.Return (Some (e.Call int (c.Builtin i.Putchar) ((e.Number int 321) ∷ []))) ∷ []) []

-- return getchar();
abbrev pub gets_a_byte : TypedUnit
gets_a_byte =
    main_unit [] [] [] (s.Return (Some (e.Call int (c.Builtin i.Getchar) [])) ∷ []) []

-- return getchar();
abbrev pub gets_the_end : TypedUnit
gets_the_end =
    main_unit [] [] [] (s.Return (Some (e.Call int (c.Builtin i.Getchar) [])) ∷ []) []

-- putchar(65); abort();
abbrev pub aborts : TypedUnit
aborts =
    main_unit [] [] [] (s.Expression (e.Call int (c.Builtin i.Putchar) ((e.Number int 65) ∷ [])) ∷ s.Expression
    (e.Call t.Void (c.Builtin i.Abort) []) ∷ []) []

-- putchar(65); exit(259); putchar(66);
abbrev pub exits : TypedUnit
exits =
    main_unit [] [] [] (s.Expression (e.Call int (c.Builtin i.Putchar) ((e.Number int 65) ∷ [])) ∷ s.Expression
    (e.Call t.Void (c.Builtin i.Exit) ((e.Number int 259) ∷ [])) ∷ s.Expression
    (e.Call int (c.Builtin i.Putchar) ((e.Number int 66) ∷ [])) ∷ []) []

-- putchar(65); putchar(66);
abbrev pub has_no_turn : TypedUnit
has_no_turn =
    main_unit [] [] [] (s.Expression (e.Call int (c.Builtin i.Putchar) ((e.Number int 65) ∷ [])) ∷ s.Expression
    (e.Call int (c.Builtin i.Putchar) ((e.Number int 66) ∷ [])) ∷ []) []

-- putchar(65); putchar(66);
abbrev pub has_turns_enough : TypedUnit
has_turns_enough =
    main_unit [] [] [] (s.Expression (e.Call int (c.Builtin i.Putchar) ((e.Number int 65) ∷ [])) ∷ s.Expression
    (e.Call int (c.Builtin i.Putchar) ((e.Number int 66) ∷ [])) ∷ []) []

-- putchar(65); return 2147483647 + 1;
abbrev pub sum_overflows : TypedUnit
sum_overflows =
    main_unit [] [] [] (s.Expression (e.Call int (c.Builtin i.Putchar) ((e.Number int 65) ∷ [])) ∷ s.Return
    (Some (e.Binary int b.Add (e.Number int 2147483647) (e.Number int 1))) ∷ []) []

-- return 65536 * 32768;
abbrev pub product_overflows : TypedUnit
product_overflows =
    main_unit [] [] [] (s.Return (Some (e.Binary int b.Multiply (e.Number int 65536) (e.Number int 32768))) ∷ []) []

-- unsigned u; u = 4294967295; return u + 2;
abbrev pub unsigned_wraps : TypedUnit
unsigned_wraps =
    main_unit [] [] ((register_local unsigned) ∷ [])
    (s.Local (record { number = 0; init = None }) ∷ s.Expression
    (e.Assign unsigned a.Set (e.Local unsigned 0) (e.Number unsigned 18446744073709551615)) ∷ s.Return
    (Some (e.Convert int (e.Binary unsigned b.Add (e.Local unsigned 0) (e.Number unsigned 2)))) ∷ []) []

-- char c; c = 127; c++; return c == -128;
abbrev pub narrowing_wraps : TypedUnit
narrowing_wraps =
    main_unit [] [] ((register_local char) ∷ []) (s.Local (record { number = 0; init = None }) ∷ s.Expression
    (e.Assign char a.Set (e.Local char 0) (e.Convert char (e.Number int 127))) ∷ s.Expression
    (e.Postfix char o.Increment (e.Local char 0)) ∷ s.Return
    (Some (e.Binary int b.Equal (e.Convert int (e.Local char 0)) (e.Number int 18446744073709551488))) ∷ []) []

-- int x; x = 2147483647; x++;
abbrev pub increment_overflows : TypedUnit
increment_overflows =
    main_unit [] [] ((register_local int) ∷ []) (s.Local (record { number = 0; init = None }) ∷ s.Expression
    (e.Assign int a.Set (e.Local int 0) (e.Number int 2147483647)) ∷ s.Expression
    (e.Postfix int o.Increment (e.Local int 0)) ∷ []) []

-- return -(-2147483647 - 1);
abbrev pub minus_least : TypedUnit
minus_least =
    main_unit [] [] [] (s.Return (Some (e.Unary int u.Minus
    (e.Binary int b.Subtract (e.Unary int u.Minus (e.Number int 2147483647)) (e.Number int 1)))) ∷ []) []

-- return 1 / 0;
abbrev pub zero_divisor : TypedUnit
zero_divisor =
    main_unit [] [] [] (s.Return (Some (e.Binary int b.Divide (e.Number int 1) (e.Number int 0))) ∷ []) []

-- return (-2147483647 - 1) / -1;
abbrev pub least_by_minus_one : TypedUnit
least_by_minus_one =
    main_unit [] [] [] (s.Return (Some (e.Binary int b.Divide
    (e.Binary int b.Subtract (e.Number int 18446744071562067969) (e.Number int 1))
    (e.Number int 18446744073709551615))) ∷ []) []

-- return (-2147483647 - 1) % -1;
abbrev pub remainder_of_least : TypedUnit
remainder_of_least =
    main_unit [] [] [] (s.Return (Some (e.Binary int b.Remainder
    (e.Binary int b.Subtract (e.Number int 18446744071562067969) (e.Number int 1))
    (e.Number int 18446744073709551615))) ∷ []) []

-- return -7 / 2;
abbrev pub division_truncates : TypedUnit
division_truncates =
    main_unit [] [] [] (s.Return (Some (e.Binary int b.Divide (e.Number int 18446744073709551609) (e.Number int 2)))
    ∷ []) []

-- return -7 % 2;
abbrev pub remainder_has_the_sign : TypedUnit
remainder_has_the_sign =
    main_unit [] [] [] (s.Return (Some (e.Binary int b.Remainder (e.Number int 18446744073709551609)
    (e.Number int 2))) ∷ []) []

-- return -8 >> 1;
abbrev pub shift_keeps_the_sign : TypedUnit
shift_keeps_the_sign =
    main_unit [] [] [] (s.Return (Some (e.Binary int b.ShiftRight (e.Number int 18446744073709551608)
    (e.Number int 1))) ∷ []) []

-- return (1 << 31) < 0;
abbrev pub shift_keeps_low_bits : TypedUnit
shift_keeps_low_bits =
    main_unit [] [] [] (s.Return (Some (e.Binary int b.Less
    (e.Binary int b.ShiftLeft (e.Number int 1) (e.Number int 31)) (e.Number int 0))) ∷ []) []

-- unsigned u; u = -1; return u > 1;
abbrev pub unsigned_compares : TypedUnit
unsigned_compares =
    main_unit [] [] ((register_local unsigned) ∷ [])
    (s.Local (record { number = 0; init = None }) ∷ s.Expression
    (e.Assign unsigned a.Set (e.Local unsigned 0) (e.Convert unsigned (e.Number int 18446744073709551615))) ∷
    s.Return (Some (e.Binary int b.Greater (e.Local unsigned 0) (e.Number unsigned 1))) ∷ []) []

-- char c; c = 100; c += 100; return c;
abbrev pub compound_narrows : TypedUnit
compound_narrows =
    main_unit [] [] ((register_local char) ∷ []) (s.Local (record { number = 0; init = None }) ∷ s.Expression
    (e.Assign char a.Set (e.Local char 0) (e.Convert char (e.Number int 100))) ∷ s.Expression
    (e.Assign char a.Add (e.Local char 0) (e.Number int 100)) ∷ s.Return (Some (e.Convert int (e.Local char 0)))
    ∷ []) []

-- return 0 && putchar(65);
abbrev pub and_needs_the_left : TypedUnit
and_needs_the_left =
    main_unit [] [] [] (s.Return (Some (e.Binary int b.LogicalAnd (e.Number int 0)
    (e.Call int (c.Builtin i.Putchar) ((e.Number int 65) ∷ [])))) ∷ []) []

-- return 2 || putchar(65);
abbrev pub or_needs_the_left : TypedUnit
or_needs_the_left =
    main_unit [] [] [] (s.Return (Some (e.Binary int b.LogicalOr (e.Number int 2)
    (e.Call int (c.Builtin i.Putchar) ((e.Number int 65) ∷ [])))) ∷ []) []

-- return 1 ? 5 : putchar(65);
abbrev pub one_arm_is_chosen : TypedUnit
one_arm_is_chosen =
    main_unit [] [] [] (s.Return (Some (e.Conditional int (e.Number int 1) (e.Number int 5)
    (e.Call int (c.Builtin i.Putchar) ((e.Number int 65) ∷ [])))) ∷ []) []

-- return putchar(65), putchar(66), 3;
abbrev pub commas_go_on : TypedUnit
commas_go_on =
    main_unit [] [] [] (s.Return (Some (e.Comma int
    ((e.Call int (c.Builtin i.Putchar) ((e.Number int 65) ∷ [])) ∷
    (e.Call int (c.Builtin i.Putchar) ((e.Number int 66) ∷ [])) ∷ (e.Number int 3) ∷ []))) ∷ []) []

-- return putchar(65) - putchar(66);
abbrev pub left_before_right : TypedUnit
left_before_right =
    main_unit [] [] [] (s.Return (Some (e.Binary int b.Subtract
    (e.Call int (c.Builtin i.Putchar) ((e.Number int 65) ∷ []))
    (e.Call int (c.Builtin i.Putchar) ((e.Number int 66) ∷ [])))) ∷ []) []

-- int x; x = 4; return x++ + x;
abbrev pub step_gives_the_old : TypedUnit
step_gives_the_old =
    main_unit [] [] ((register_local int) ∷ []) (s.Local (record { number = 0; init = None }) ∷ s.Expression
    (e.Assign int a.Set (e.Local int 0) (e.Number int 4)) ∷ s.Return
    (Some (e.Binary int b.Add (e.Postfix int o.Increment (e.Local int 0)) (e.Local int 0))) ∷ []) []

-- int x; x = 4; return ++x + x;
abbrev pub prefix_gives_the_new : TypedUnit
prefix_gives_the_new =
    main_unit [] [] ((register_local int) ∷ []) (s.Local (record { number = 0; init = None }) ∷ s.Expression
    (e.Assign int a.Set (e.Local int 0) (e.Number int 4)) ∷ s.Return
    (Some (e.Binary int b.Add (e.Unary int u.Increment (e.Local int 0)) (e.Local int 0))) ∷ []) []

-- int i; i = 0; while (i < 3) { putchar(65); i++; }
abbrev pub while_goes_round : TypedUnit
while_goes_round =
    main_unit [] [] ((register_local int) ∷ []) (s.Local (record { number = 0; init = None }) ∷ s.Expression
    (e.Assign int a.Set (e.Local int 0) (e.Number int 0)) ∷ s.While
    (e.Binary int b.Less (e.Local int 0) (e.Number int 3))
    (s.Block (s.Expression (e.Call int (c.Builtin i.Putchar) ((e.Number int 65) ∷ [])) ∷ s.Expression
    (e.Postfix int o.Increment (e.Local int 0)) ∷ [])) ∷ []) []

-- int i; i = 0; while (i < 3) { putchar(65); i++; }
abbrev pub rounds_take_turns : TypedUnit
rounds_take_turns =
    main_unit [] [] ((register_local int) ∷ []) (s.Local (record { number = 0; init = None }) ∷ s.Expression
    (e.Assign int a.Set (e.Local int 0) (e.Number int 0)) ∷ s.While
    (e.Binary int b.Less (e.Local int 0) (e.Number int 3))
    (s.Block (s.Expression (e.Call int (c.Builtin i.Putchar) ((e.Number int 65) ∷ [])) ∷ s.Expression
    (e.Postfix int o.Increment (e.Local int 0)) ∷ [])) ∷ []) []

-- do putchar(65); while (0);
abbrev pub do_goes_once : TypedUnit
do_goes_once =
    main_unit [] [] [] (s.Do (s.Expression (e.Call int (c.Builtin i.Putchar) ((e.Number int 65) ∷ [])))
    (e.Number int 0) ∷ []) []

-- for (int i = 0; i < 4; i++) { if (i == 1) continue; if (i == 3) break; putchar(i); }
abbrev pub for_steps_and_continues : TypedUnit
for_steps_and_continues =
    main_unit [] [] ((register_local int) ∷ []) (s.For
    (f.Locals (record { number = 0; init = Some (e.Number int 0) } ∷ []))
    (Some (e.Binary int b.Less (e.Local int 0) (e.Number int 4)))
    (Some (e.Postfix int o.Increment (e.Local int 0)))
    (s.Block (s.If (e.Binary int b.Equal (e.Local int 0) (e.Number int 1)) (s.Continue) None ∷ s.If
    (e.Binary int b.Equal (e.Local int 0) (e.Number int 3)) (s.Break) None ∷ s.Expression
    (e.Call int (c.Builtin i.Putchar) ((e.Local int 0) ∷ [])) ∷ [])) ∷ []) []

-- switch (2) { case 1: putchar(65); case 2: putchar(66); default: putchar(67); }
abbrev pub switch_falls_through : TypedUnit
switch_falls_through =
    main_unit [] [] [] (s.Switch (e.Number int 2)
    ((record {
      label = (l.Case 1);
      statements =
          (s.Expression (e.Call int (c.Builtin i.Putchar) ((e.Number int 65) ∷ [])) ∷ []);
    }) ∷
    (record {
      label = (l.Case 2);
      statements =
          (s.Expression (e.Call int (c.Builtin i.Putchar) ((e.Number int 66) ∷ [])) ∷ []);
    }) ∷
    (record {
      label = l.Default;
      statements =
          (s.Expression (e.Call int (c.Builtin i.Putchar) ((e.Number int 67) ∷ [])) ∷ []);
    }) ∷ []) ∷ []) []

-- switch (5) { default: putchar(65); break; case 1: putchar(66); }
abbrev pub switch_takes_the_default : TypedUnit
switch_takes_the_default =
    main_unit [] [] [] (s.Switch (e.Number int 5)
    ((record {
      label = l.Default;
      statements =
          (s.Expression (e.Call int (c.Builtin i.Putchar) ((e.Number int 65) ∷ [])) ∷ s.Break ∷ []);
    }) ∷
    (record {
      label = (l.Case 1);
      statements =
          (s.Expression (e.Call int (c.Builtin i.Putchar) ((e.Number int 66) ∷ [])) ∷ []);
    }) ∷ []) ∷ []) []

-- while (1) return 6;
abbrev pub return_leaves_the_loop : TypedUnit
return_leaves_the_loop =
    main_unit [] [] [] (s.While (e.Number int 1) (s.Return (Some (e.Number int 6))) ∷ []) []

-- int f(int n) { if (n == 0) return 1; return n * f(n - 1); } main: return f(4);
abbrev pub calls_itself : TypedUnit
calls_itself =
    main_unit [] [] [] (s.Return (Some (e.Call int (c.Function 1) ((e.Number int 4) ∷ []))) ∷ [])
    (int_function (codes "f") ((register_local int) ∷ []) 1
    (s.If (e.Binary int b.Equal (e.Local int 0) (e.Number int 0)) (s.Return (Some (e.Number int 1))) None ∷
    s.Return (Some (e.Binary int b.Multiply (e.Local int 0)
    (e.Call int (c.Function 1) ((e.Binary int b.Subtract (e.Local int 0) (e.Number int 1)) ∷ [])))) ∷ []) ∷ [])

-- the same, with one turn less
abbrev pub call_takes_a_turn : TypedUnit
call_takes_a_turn =
    main_unit [] [] [] (s.Return (Some (e.Call int (c.Function 1) ((e.Number int 4) ∷ []))) ∷ [])
    (int_function (codes "f") ((register_local int) ∷ []) 1
    (s.If (e.Binary int b.Equal (e.Local int 0) (e.Number int 0)) (s.Return (Some (e.Number int 1))) None ∷
    s.Return (Some (e.Binary int b.Multiply (e.Local int 0)
    (e.Call int (c.Function 1) ((e.Binary int b.Subtract (e.Local int 0) (e.Number int 1)) ∷ [])))) ∷ []) ∷ [])

-- int x; int *p; p = &x; *p = 5; return x;
abbrev pub written_through_a_pointer : TypedUnit
written_through_a_pointer =
    main_unit [] [] ((memory_local int) ∷ (register_local (t.Pointer int)) ∷ [])
    (s.Local (record { number = 0; init = None }) ∷ s.Local (record { number = 1; init = None }) ∷ s.Expression
    (e.Assign (t.Pointer int) a.Set (e.Local (t.Pointer int) 1)
    (e.Unary (t.Pointer int) u.Address (e.Local int 0))) ∷ s.Expression
    (e.Assign int a.Set (e.Unary int u.Dereference (e.Local (t.Pointer int) 1)) (e.Number int 5)) ∷ s.Return
    (Some (e.Local int 0)) ∷ []) []

-- int a[2]; a[0] = 1; 1[a] = 2; return a[0] * 10 + a[1];
abbrev pub elements_stand_apart : TypedUnit
elements_stand_apart =
    main_unit [] [] ((memory_local (t.Array int 2)) ∷ [])
    (s.Local (record { number = 0; init = None }) ∷ s.Expression
    (e.Assign int a.Set (e.Index int (e.Convert (t.Pointer int) (e.Local (t.Array int 2) 0)) (e.Number int 0))
    (e.Number int 1)) ∷ s.Expression (e.Assign int a.Set
    (e.Index int (e.Number int 1) (e.Convert (t.Pointer int) (e.Local (t.Array int 2) 0))) (e.Number int 2)) ∷
    s.Return (Some (e.Binary int b.Add (e.Binary int b.Multiply
    (e.Index int (e.Convert (t.Pointer int) (e.Local (t.Array int 2) 0)) (e.Number int 0)) (e.Number int 10))
    (e.Index int (e.Convert (t.Pointer int) (e.Local (t.Array int 2) 0)) (e.Number int 1)))) ∷ []) []

-- int a[2]; return &a[2] - a;
abbrev pub pointers_have_a_distance : TypedUnit
pointers_have_a_distance =
    main_unit [] [] ((memory_local (t.Array int 2)) ∷ [])
    (s.Local (record { number = 0; init = None }) ∷ s.Return
    (Some (e.Convert int (e.Binary long b.Subtract
    (e.Unary (t.Pointer int) u.Address (e.Index int (e.Convert (t.Pointer int) (e.Local (t.Array int 2) 0))
    (e.Number int 2))) (e.Convert (t.Pointer int) (e.Local (t.Array int 2) 0))))) ∷ []) []

-- int g[2] = {261}; return g[0] == 261 && g[1] == 0;
abbrev pub globals_begin : TypedUnit
globals_begin =
    main_unit [] (record {
      name = codes "g";
      size = 8;
      align = 4;
      offset = 0;
      writable = true;
      cells =
          (d.Byte 5 ∷ d.Byte 1 ∷ []);
    } ∷ []) []
    (s.Return (Some (e.Binary int b.LogicalAnd
    (e.Binary int b.Equal (e.Index int (e.Convert (t.Pointer int) (e.Global (t.Array int 2) 0)) (e.Number int 0))
    (e.Number int 261)) (e.Binary int b.Equal
    (e.Index int (e.Convert (t.Pointer int) (e.Global (t.Array int 2) 0)) (e.Number int 1)) (e.Number int 0))))
    ∷ []) []

-- int g = 7; int *p = &g; return *p;
abbrev pub globals_hold_addresses : TypedUnit
globals_hold_addresses =
    main_unit [] (record {
      name = codes "g";
      size = 4;
      align = 4;
      offset = 0;
      writable = true;
      cells =
          (d.Byte 7 ∷ []);
    } ∷ record {
      name = codes "p";
      size = 8;
      align = 8;
      offset = 8;
      writable = true;
      cells =
          (d.AddressPart 0 0 0 ∷ d.AddressPart 0 0 1 ∷ d.AddressPart 0 0 2 ∷ d.AddressPart 0 0 3 ∷ d.AddressPart 0 0 4
          ∷ d.AddressPart 0 0 5 ∷ d.AddressPart 0 0 6 ∷ d.AddressPart 0 0 7 ∷ []);
    } ∷ []) []
    (s.Return (Some (e.Unary int u.Dereference (e.Global (t.Pointer int) 1))) ∷ []) []

-- struct { char a; int b; } s, *q; s.b = 3; s.a = 1; q = &s; return q->b * 10 + s.a;
abbrev pub members_have_places : TypedUnit
members_have_places =
    main_unit (record {
      tag = codes "pair";
      complete = true;
      members =
          (record { name = codes "a"; ty = char; offset = 0 } ∷ record { name = codes "b"; ty = int; offset = 4 }
          ∷ []);
      size = 8;
      align = 4;
      depth = 2;
    } ∷ []) []
    ((memory_local (t.Struct 0)) ∷ (register_local (t.Pointer (t.Struct 0))) ∷ [])
    (s.Local (record { number = 0; init = None }) ∷ s.Local (record { number = 1; init = None }) ∷ s.Expression
    (e.Assign int a.Set (e.Field int (e.Local (t.Struct 0) 0) 1) (e.Number int 3)) ∷ s.Expression
    (e.Assign char a.Set (e.Field char (e.Local (t.Struct 0) 0) 0) (e.Convert char (e.Number int 1))) ∷
    s.Expression (e.Assign (t.Pointer (t.Struct 0)) a.Set (e.Local (t.Pointer (t.Struct 0)) 1)
    (e.Unary (t.Pointer (t.Struct 0)) u.Address (e.Local (t.Struct 0) 0))) ∷ s.Return
    (Some (e.Binary int b.Add (e.Binary int b.Multiply (e.Arrow int (e.Local (t.Pointer (t.Struct 0)) 1) 1)
    (e.Number int 10)) (e.Convert int (e.Field char (e.Local (t.Struct 0) 0) 0)))) ∷ []) []

-- struct { char a; int b; } s, r; s.b = 3; r = s; return r.b;
abbrev pub structs_are_copied : TypedUnit
structs_are_copied =
    main_unit (record {
      tag = codes "pair";
      complete = true;
      members =
          (record { name = codes "a"; ty = char; offset = 0 } ∷ record { name = codes "b"; ty = int; offset = 4 }
          ∷ []);
      size = 8;
      align = 4;
      depth = 2;
    } ∷ []) [] ((memory_local (t.Struct 0)) ∷ (memory_local (t.Struct 0)) ∷ [])
    (s.Local (record { number = 0; init = None }) ∷ s.Local (record { number = 1; init = None }) ∷ s.Expression
    (e.Assign int a.Set (e.Field int (e.Local (t.Struct 0) 0) 1) (e.Number int 3)) ∷ s.Expression
    (e.Assign (t.Struct 0) a.Set (e.Local (t.Struct 0) 1) (e.Local (t.Struct 0) 0)) ∷ s.Return
    (Some (e.Field int (e.Local (t.Struct 0) 1) 1)) ∷ []) []

-- int f(int n) { int *p; p = &n; *p = *p + 1; return n; } main: return f(4);
abbrev pub parameters_are_objects : TypedUnit
parameters_are_objects =
    main_unit [] [] [] (s.Return (Some (e.Call int (c.Function 1) ((e.Number int 4) ∷ []))) ∷ [])
    (int_function (codes "f") ((memory_local int) ∷ (register_local (t.Pointer int)) ∷ []) 1
    (s.Local (record { number = 1; init = None }) ∷ s.Expression
    (e.Assign (t.Pointer int) a.Set (e.Local (t.Pointer int) 1)
    (e.Unary (t.Pointer int) u.Address (e.Local int 0))) ∷ s.Expression
    (e.Assign int a.Set (e.Unary int u.Dereference (e.Local (t.Pointer int) 1))
    (e.Binary int b.Add (e.Unary int u.Dereference (e.Local (t.Pointer int) 1)) (e.Number int 1))) ∷ s.Return
    (Some (e.Local int 0)) ∷ []) ∷ [])

-- point 1: int x; return x;
abbrev pub unset_register : TypedUnit
unset_register =
    main_unit [] [] ((register_local int) ∷ []) (s.Local (record { number = 0; init = None }) ∷ s.Return
    (Some (e.Local int 0)) ∷ []) []

-- point 1: int x; return *&x;
abbrev pub unset_cell : TypedUnit
unset_cell =
    main_unit [] [] ((memory_local int) ∷ []) (s.Local (record { number = 0; init = None }) ∷ s.Return
    (Some (e.Unary int u.Dereference (e.Unary (t.Pointer int) u.Address (e.Local int 0)))) ∷ []) []

-- point 2: int a[2]; a[2] = 1;
abbrev pub outside_the_object : TypedUnit
outside_the_object =
    main_unit [] [] ((memory_local (t.Array int 2)) ∷ [])
    (s.Local (record { number = 0; init = None }) ∷ s.Expression
    (e.Assign int a.Set (e.Index int (e.Convert (t.Pointer int) (e.Local (t.Array int 2) 0)) (e.Number int 2))
    (e.Number int 1)) ∷ []) []

-- point 2: return *(int *)0;
abbrev pub through_null : TypedUnit
through_null =
    main_unit [] [] [] (s.Return (Some (e.Unary int u.Dereference (e.Cast (t.Pointer int) (e.Number int 0)))) ∷ []) []

-- point 2: int a[2]; *(int *)((char *)a + 1) = 1;
abbrev pub misaligned_access : TypedUnit
misaligned_access =
    main_unit [] [] ((memory_local (t.Array int 2)) ∷ [])
    (s.Local (record { number = 0; init = None }) ∷ s.Expression
    (e.Assign int a.Set (e.Unary int u.Dereference
    (e.Cast (t.Pointer int) (e.Binary (t.Pointer char) b.Add
    (e.Cast (t.Pointer char) (e.Convert (t.Pointer int) (e.Local (t.Array int 2) 0))) (e.Number int 1))))
    (e.Number int 1)) ∷ []) []

-- point 3: int a[2]; a + 3;
abbrev pub moved_outside : TypedUnit
moved_outside =
    main_unit [] [] ((memory_local (t.Array int 2)) ∷ [])
    (s.Local (record { number = 0; init = None }) ∷ s.Expression
    (e.Binary (t.Pointer int) b.Add (e.Convert (t.Pointer int) (e.Local (t.Array int 2) 0)) (e.Number int 3))
    ∷ []) []

-- point 3: (int *)0 + 0;
abbrev pub null_moved : TypedUnit
null_moved =
    main_unit [] [] [] (s.Expression (e.Binary (t.Pointer int) b.Add (e.Cast (t.Pointer int) (e.Number int 0))
    (e.Number int 0)) ∷ []) []

-- point 4: int *p; { int x; x = 1; p = &x; } return *p;
abbrev pub dead_object : TypedUnit
dead_object =
    main_unit [] [] ((register_local (t.Pointer int)) ∷ (memory_local int) ∷ [])
    (s.Local (record { number = 0; init = None }) ∷ s.Block
    (s.Local (record { number = 1; init = None }) ∷ s.Expression
    (e.Assign int a.Set (e.Local int 1) (e.Number int 1)) ∷ s.Expression
    (e.Assign (t.Pointer int) a.Set (e.Local (t.Pointer int) 0)
    (e.Unary (t.Pointer int) u.Address (e.Local int 1))) ∷ []) ∷ s.Return
    (Some (e.Unary int u.Dereference (e.Local (t.Pointer int) 0))) ∷ []) []

-- point 4: int *p; { int x; p = &x; } return !p;
abbrev pub dead_pointer_tested : TypedUnit
dead_pointer_tested =
    main_unit [] [] ((register_local (t.Pointer int)) ∷ (memory_local int) ∷ [])
    (s.Local (record { number = 0; init = None }) ∷ s.Block
    (s.Local (record { number = 1; init = None }) ∷ s.Expression
    (e.Assign (t.Pointer int) a.Set (e.Local (t.Pointer int) 0)
    (e.Unary (t.Pointer int) u.Address (e.Local int 1))) ∷ []) ∷ s.Return
    (Some (e.Unary int u.Not (e.Local (t.Pointer int) 0))) ∷ []) []

-- point 5: int x, y; return &x < &y;
abbrev pub compared_apart : TypedUnit
compared_apart =
    main_unit [] [] ((memory_local int) ∷ (memory_local int) ∷ [])
    (s.Local (record { number = 0; init = None }) ∷ s.Local (record { number = 1; init = None }) ∷ s.Return
    (Some (e.Binary int b.Less (e.Unary (t.Pointer int) u.Address (e.Local int 0))
    (e.Unary (t.Pointer int) u.Address (e.Local int 1)))) ∷ []) []

-- point 6: int x, y; return &x + 1 == &y;
abbrev pub compared_at_the_end : TypedUnit
compared_at_the_end =
    main_unit [] [] ((memory_local int) ∷ (memory_local int) ∷ [])
    (s.Local (record { number = 0; init = None }) ∷ s.Local (record { number = 1; init = None }) ∷ s.Return
    (Some (e.Binary int b.Equal (e.Binary (t.Pointer int) b.Add
    (e.Unary (t.Pointer int) u.Address (e.Local int 0)) (e.Number int 1))
    (e.Unary (t.Pointer int) u.Address (e.Local int 1)))) ∷ []) []

-- point 7: return 1 << 32;
abbrev pub shifted_too_far : TypedUnit
shifted_too_far =
    main_unit [] [] [] (s.Return (Some (e.Binary int b.ShiftLeft (e.Number int 1) (e.Number int 32))) ∷ []) []

-- point 7: return 1 >> -1;
abbrev pub shifted_below_zero : TypedUnit
shifted_below_zero =
    main_unit [] [] [] (s.Return (Some (e.Binary int b.ShiftRight (e.Number int 1)
    (e.Number int 18446744073709551615))) ∷ []) []

-- point 8: "a"[0] = 98;
abbrev pub literal_written : TypedUnit
literal_written =
    main_unit [] (record { name = []; size = 2; align = 1; offset = 0; writable = false; cells = (d.Byte 97 ∷ []) }
    ∷ []) [] (s.Expression (e.Assign char a.Set
    (e.Index char (e.Convert (t.Pointer char) (e.Global (t.Array char 2) 0)) (e.Number int 0))
    (e.Convert char (e.Number int 98))) ∷ []) []

-- point 9: int f(void) {} main: return f();
abbrev pub no_value_used : TypedUnit
no_value_used =
    main_unit [] [] [] (s.Return (Some (e.Call int (c.Function 1) [])) ∷ []) (int_function (codes "f") [] 0 [] ∷ [])

-- int f(void) {} main: f(); return 2;
abbrev pub no_value_left_alone : TypedUnit
no_value_left_alone =
    main_unit [] [] [] (s.Expression (e.Call int (c.Function 1) []) ∷ s.Return (Some (e.Number int 2)) ∷ [])
    (int_function (codes "f") [] 0 [] ∷ [])

-- point 10: int *p; p = 0 ? p : (int *)&p; return *(char *)&p;
abbrev pub pointer_read_in_part : TypedUnit
pointer_read_in_part =
    main_unit [] [] ((memory_local (t.Pointer int)) ∷ [])
    (s.Local (record { number = 0; init = None }) ∷ s.Expression
    (e.Assign (t.Pointer int) a.Set (e.Local (t.Pointer int) 0)
    (e.Cast (t.Pointer int) (e.Unary (t.Pointer (t.Pointer int)) u.Address (e.Local (t.Pointer int) 0)))) ∷
    s.Return (Some (e.Convert int (e.Unary char u.Dereference
    (e.Cast (t.Pointer char) (e.Unary (t.Pointer (t.Pointer int)) u.Address (e.Local (t.Pointer int) 0))))))
    ∷ []) []

-- point 11: int a[3]; *(struct s *)&a[1] = *(struct s *)a; where struct s has two members of type int
abbrev pub copy_overlaps_itself : TypedUnit
copy_overlaps_itself =
    main_unit (record {
      tag = codes "pair";
      complete = true;
      members =
          (record { name = codes "a"; ty = int; offset = 0 } ∷ record { name = codes "b"; ty = int; offset = 4 }
          ∷ []);
      size = 8;
      align = 4;
      depth = 2;
    } ∷ []) [] ((memory_local (t.Array int 3)) ∷ [])
    (s.Local (record { number = 0; init = None }) ∷ s.Expression
    (e.Assign (t.Struct 0) a.Set (e.Unary (t.Struct 0) u.Dereference
    (e.Cast (t.Pointer (t.Struct 0)) (e.Unary (t.Pointer int) u.Address
    (e.Index int (e.Convert (t.Pointer int) (e.Local (t.Array int 3) 0)) (e.Number int 1)))))
    (e.Unary (t.Struct 0) u.Dereference
    (e.Cast (t.Pointer (t.Struct 0)) (e.Convert (t.Pointer int) (e.Local (t.Array int 3) 0))))) ∷ []) []

-- all of these
abbrev pub units : List TypedUnit
units =
    returns_seven ∷ returns_nothing ∷ status_is_a_byte ∷ puts_a_byte ∷ gets_a_byte ∷ gets_the_end ∷ aborts ∷
    exits ∷ has_no_turn ∷ has_turns_enough ∷ sum_overflows ∷ product_overflows ∷ unsigned_wraps ∷
    narrowing_wraps ∷ increment_overflows ∷ minus_least ∷ zero_divisor ∷ least_by_minus_one ∷
    remainder_of_least ∷ division_truncates ∷ remainder_has_the_sign ∷ shift_keeps_the_sign ∷
    shift_keeps_low_bits ∷ unsigned_compares ∷ compound_narrows ∷ and_needs_the_left ∷ or_needs_the_left ∷
    one_arm_is_chosen ∷ commas_go_on ∷ left_before_right ∷ step_gives_the_old ∷ prefix_gives_the_new ∷
    while_goes_round ∷ rounds_take_turns ∷ do_goes_once ∷ for_steps_and_continues ∷ switch_falls_through ∷
    switch_takes_the_default ∷ return_leaves_the_loop ∷ calls_itself ∷ call_takes_a_turn ∷
    written_through_a_pointer ∷ elements_stand_apart ∷ pointers_have_a_distance ∷ globals_begin ∷
    globals_hold_addresses ∷ members_have_places ∷ structs_are_copied ∷ parameters_are_objects ∷
    unset_register ∷ unset_cell ∷ outside_the_object ∷ through_null ∷ misaligned_access ∷ moved_outside ∷ null_moved ∷
    dead_object ∷ dead_pointer_tested ∷ compared_apart ∷ compared_at_the_end ∷ shifted_too_far ∷
    shifted_below_zero ∷ literal_written ∷ no_value_used ∷ no_value_left_alone ∷ pointer_read_in_part ∷
    copy_overlaps_itself ∷ []

-- ---- trees that are not well typed

-- long l; return l; without a conversion
abbrev pub result_is_not_converted : TypedUnit
result_is_not_converted = main_unit [] [] (register_local long ∷ []) (s.Return (Some (e.Local long 0)) ∷ []) []

-- 1 + 2u, of which no side is converted
abbrev pub operand_is_not_converted : TypedUnit
operand_is_not_converted =
    main_unit [] [] [] (s.Expression (e.Binary unsigned b.Add (e.Number int 1) (e.Number unsigned 2)) ∷ []) []

-- 1 = 2;
abbrev pub number_is_assigned : TypedUnit
number_is_assigned = main_unit [] [] [] (s.Expression (e.Assign int a.Set (e.Number int 1) (e.Number int 2)) ∷ []) []

-- &x, of a local that a register holds
abbrev pub register_has_an_address : TypedUnit
register_has_an_address =
    main_unit [] [] (register_local int ∷ []) (s.Expression (e.Unary (t.Pointer int) u.Address (e.Local int 0)) ∷ []) []

-- a word that is above every value of `int`
abbrev pub number_is_too_large : TypedUnit
number_is_too_large = main_unit [] [] [] (s.Return (Some (e.Number int 2147483648)) ∷ []) []

-- a local that the function does not have
abbrev pub local_is_missing : TypedUnit
local_is_missing = main_unit [] [] [] (s.Return (Some (e.Local int 0)) ∷ []) []

-- putchar();
abbrev pub argument_is_missing : TypedUnit
argument_is_missing = main_unit [] [] [] (s.Return (Some (e.Call int (c.Builtin i.Putchar) [])) ∷ []) []

-- int *p; p = 1;
abbrev pub one_becomes_a_pointer : TypedUnit
one_becomes_a_pointer =
    main_unit [] [] (register_local (t.Pointer int) ∷ []) (s.Expression (e.Assign (t.Pointer int) a.Set
    (e.Local (t.Pointer int) 0) (e.Convert (t.Pointer int) (e.Number int 1))) ∷ []) []

-- break;
abbrev pub break_leaves_nothing : TypedUnit
break_leaves_nothing = main_unit [] [] [] (s.Break ∷ []) []

-- switch (1) {case 2: case 2: ;}
abbrev pub label_stands_twice : TypedUnit
label_stands_twice =
    main_unit [] [] [] (s.Switch (e.Number int 1) (record { label = l.Case 2; statements = [] } ∷ record {
      label = l.Case 2;
      statements = [];
    } ∷ []) ∷ []) []

abbrev pub ill_typed_units : List TypedUnit
ill_typed_units =
    result_is_not_converted ∷ operand_is_not_converted ∷ number_is_assigned ∷ register_has_an_address
    ∷ number_is_too_large ∷ local_is_missing ∷ argument_is_missing ∷ one_becomes_a_pointer ∷ break_leaves_nothing
    ∷ label_stands_twice ∷ []
