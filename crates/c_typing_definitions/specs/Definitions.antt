-- Which functions and objects a unit defines, by their names (C99 6.9.1, 6.9.2), whether or not a definition has a
-- fault.
use Rattle.std.specs.Prelude.{ℕ, if◌then◌else◌, Bool, true, false, List, [], ◌∷◌, Option, Some, None, is_some}
use Rattle.c_typing_scopes.specs.Names.{Entry, find}
use Rattle.c_tree.specs.declared.types.TypeNode as t
use Rattle.c_tree.specs.declared.types.Declaration.{Declaration}
use Rattle.c_tree.specs.declared.declarations.Init as i
use Rattle.c_tree.specs.declared.declarations.Storage.{Storage}
use Rattle.c_tree.specs.declared.declarations.Storage.TheVariants as s
use Rattle.c_tree.specs.declared.declarations.FunctionEnd.{FunctionEnd}
use Rattle.c_tree.specs.declared.declarations.FunctionEnd.TheVariants as f
use Rattle.c_tree.specs.declared.declarations.External.{External}
use Rattle.c_tree.specs.declared.declarations.External.TheVariants as x
use Rattle.c_typing_definitions.specs.declared.names.Definitions.{Definitions}

abbrev pub NameSet : Type 0
NameSet = List (Entry (Unit {0}))

-- a name is counted once
abbrev pub add_to_names : List ℕ → NameSet → NameSet
add_to_names name ns = if is_some (find name ns) then ns else record { name = name; value = tt } ∷ ns

abbrev pub nothing_defined : Definitions
nothing_defined = record { function_types = []; functions = []; objects = [] }

abbrev pub with_function_type : List ℕ → Definitions → Definitions
with_function_type name d =
    record { function_types = add_to_names name d.function_types; functions = d.functions; objects = d.objects }

abbrev pub with_function : List ℕ → Definitions → Definitions
with_function name d =
    record { function_types = d.function_types; functions = add_to_names name d.functions; objects = d.objects }

abbrev pub with_object : List ℕ → Definitions → Definitions
with_object name d =
    record { function_types = d.function_types; functions = d.functions; objects = add_to_names name d.objects }

-- a function type is spelled by a list of parameters, or by a typedef name of one (6.7.5.3, 6.7.7)
unfoldable pub is_function : (function_types : NameSet) → t.TypeNode → Bool
is_function ns (t.Basic words) = false
is_function ns (t.Named name) = is_some (find name ns)
is_function ns (t.Enum' at tag constants) = false
is_function ns (t.Struct' at tag members) = false
is_function ns (t.Pointer' _ target) = false
is_function ns (t.Array' _ element length) = false
is_function ns (t.Takes' _ result _ parameters) = true

abbrev pub typedef_seen : Declaration → Definitions → Definitions
typedef_seen e d = if is_function d.function_types e.ty then with_function_type e.name d else d

-- without an initialiser a declaration with `extern` is none of an object, and every other one is (6.9.2)
abbrev pub is_definition : Option Storage → Option i.Init → Bool
is_definition (Some s.Extern) None = false
is_definition (Some s.Extern) (Some value) = true
is_definition (Some s.Static) init = true
is_definition None init = true

abbrev pub object_seen : Declaration → Option Storage → Option i.Init → Definitions → Definitions
object_seen e storage init d =
    if is_function d.function_types e.ty then d
    else if is_definition storage init then with_object e.name d
    else d

-- a function is defined by a body (6.9.1)
abbrev pub function_seen : Declaration → FunctionEnd → Definitions → Definitions
function_seen e f.Nothing d = d
function_seen e (f.Init value) d = d
function_seen e (f.Body statements) d = with_function e.name d

abbrev pub add_external : External → Definitions → Definitions
add_external (x.Typedef e) d = typedef_seen e d
add_external (x.Object e storage init) d = object_seen e storage init d
add_external (x.Function e storage end) d = function_seen e end d
add_external (x.Tags storage ty) d = d

-- what a list of externals defines, besides what those before it do
abbrev pub defined_behind : List External → Definitions → Definitions
defined_behind [] d = d
defined_behind (e ∷ es) d = defined_behind es (add_external e d)

abbrev pub definitions : List External → Definitions
definitions es = defined_behind es nothing_defined
