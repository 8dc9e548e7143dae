-- Each function with a body is among those that the unit defines.
use Rattle.std.proofs.Common.{◌≡◌, ℕ, Bool, true, false, IsTrue, List, [], ◌∷◌, length, bytes_eq, Option, Some, None, is_some, refl, if◌then◌else◌}
use Rattle.std.proofs.lemmas.Slice.Eq.{bytes_eq-Decides}
use Rattle.c_tree.specs.declared.declarations.Init.{Init}
use Rattle.c_tree.specs.declared.declarations.FunctionEnd.{FunctionEnd}
use Rattle.c_tree.specs.declared.declarations.FunctionEnd.TheVariants as f
use Rattle.c_tree.specs.declared.declarations.External.{External}
use Rattle.c_tree.specs.declared.declarations.External.TheVariants as x
use Rattle.c_tree.specs.declared.types.Declaration.{Declaration}
use Rattle.c_typing_scopes.specs.Names.{find}
use Rattle.c_typing_definitions.specs.declared.names.Definitions.{Definitions}
use Rattle.c_typing_definitions.specs.Definitions.{NameSet, add_to_names, with_function_type, with_object, is_function, is_definition, add_external, defined_behind}
use Rattle.c_typing_expression_sound.proofs.CTypeLaws.Truth.{no_true}
use Rattle.c_types.specs.c_unit_walk_laws.Walks.{IsInitialiserIn, Here, There}

abbrev pub IsCounted : Definitions → Declaration → FunctionEnd → Type 0
IsCounted ds e f.Nothing = Unit {0}
IsCounted ds e (f.Init init) = Unit {0}
IsCounted ds e (f.Body list) = IsTrue (is_some (find e.name ds.functions))

abbrev pub IsCountedIn : Definitions → External → Type 0
IsCountedIn ds (x.Typedef e) = Unit {0}
IsCountedIn ds (x.Object e storage init) = Unit {0}
IsCountedIn ds (x.Function e storage end) = IsCounted ds e end
IsCountedIn ds (x.Tags storage ty) = Unit {0}

abbrev pub AreCounted : Definitions → List External → Type 0
AreCounted ds [] = Unit {0}
AreCounted ds (e ∷ es) = IsCountedIn ds e × AreCounted ds es

-- a name that is counted stays so
pub name_stays : (q name : List ℕ) (ns : NameSet) → IsTrue (is_some (find q ns)) → IsTrue (is_some (find q (add_to_names name ns)))
name_stays q name ns h = choose (is_some (find name ns))
  where
    own : (c : Bool) → IsTrue (is_some (if c then Some (length ns, tt {0}) else find q ns))
    own true = refl
    own false = h

    choose : (b : Bool) → IsTrue (is_some (find q (if b then ns else record { name = name; value = tt {0} } ∷ ns)))
    choose true = h
    choose false = own (bytes_eq q name)

pub name_there : (name : List ℕ) (ns : NameSet) → IsTrue (is_some (find name (add_to_names name ns)))
name_there name ns = choose (is_some (find name ns)) refl
  where
    own : (c : Bool) → c ≡ true → IsTrue (is_some (if c then Some (length ns, tt {0}) else find name ns))
    own true e = refl
    own false e = no_true e

    choose : (b : Bool) → is_some (find name ns) ≡ b → IsTrue (is_some (find name (if b then ns else record { name = name; value = tt {0} } ∷ ns)))
    choose true e = e
    choose false e = own (bytes_eq name name) ((bytes_eq-Decides name name).1 refl)

-- functions that are counted stay so
one_stays : (e : External) (d : Definitions) (q : List ℕ) → IsTrue (is_some (find q d.functions)) → IsTrue (is_some (find q (add_external e d).functions))
one_stays (x.Typedef e) d q h = choose (is_function d.function_types e.ty)
  where
    choose : (b : Bool) → IsTrue (is_some (find q (if b then with_function_type e.name d else d).functions))
    choose true = h
    choose false = h
one_stays (x.Object e storage init) d q h = choose (is_function d.function_types e.ty) (is_definition storage init)
  where
    choose : (b c : Bool) → IsTrue (is_some (find q (if b then d else if c then with_object e.name d else d).functions))
    choose true c = h
    choose false true = h
    choose false false = h
one_stays (x.Function e storage f.Nothing) d q h = h
one_stays (x.Function e storage (f.Init init)) d q h = h
one_stays (x.Function e storage (f.Body list)) d q h = name_stays q e.name d.functions h
one_stays (x.Tags storage ty) d q h = h

all_stay : (es : List External) (d : Definitions) (q : List ℕ) → IsTrue (is_some (find q d.functions)) → IsTrue (is_some (find q (defined_behind es d).functions))
all_stay [] d q h = h
all_stay (e ∷ es) d q h = all_stay es (add_external e d) q (one_stays e d q h)

one_counted : (e : External) (es : List External) (d : Definitions) → IsCountedIn (defined_behind es (add_external e d)) e
one_counted (x.Typedef e) es d = tt
one_counted (x.Object e storage init) es d = tt
one_counted (x.Function e storage f.Nothing) es d = tt
one_counted (x.Function e storage (f.Init init)) es d = tt
one_counted (x.Function e storage (f.Body list)) es d = all_stay es (add_external (x.Function e storage (f.Body list)) d) e.name (name_there e.name d.functions)
one_counted (x.Tags storage ty) es d = tt

pub all_counted : (es : List External) (d : Definitions) → AreCounted (defined_behind es d) es
all_counted [] d = tt
all_counted (e ∷ es) d = (one_counted e es d, all_counted es (add_external e d))

-- ---- each initialiser is one of the unit

abbrev pub AreListed : Option Init → List External → Type 0
AreListed None all = Unit {0}
AreListed (Some init) all = IsInitialiserIn init all

abbrev pub IsListed : External → List External → Type 0
IsListed (x.Typedef e) all = Unit {0}
IsListed (x.Object e storage init) all = AreListed init all
IsListed (x.Function e storage end) all = Unit {0}
IsListed (x.Tags storage ty) all = Unit {0}

abbrev pub AllListed : List External → List External → Type 0
AllListed [] all = Unit {0}
AllListed (e ∷ es) all = IsListed e all × AllListed es all

one_listed : (e : External) (es all : List External) → ((init : Init) → IsInitialiserIn init (e ∷ es) → IsInitialiserIn init all) → IsListed e all
one_listed (x.Typedef e) es all h = tt
one_listed (x.Object e storage None) es all h = tt
one_listed (x.Object e storage (Some init)) es all h = h init Here
one_listed (x.Function e storage end) es all h = tt
one_listed (x.Tags storage ty) es all h = tt

all_listed : (es all : List External) → ((init : Init) → IsInitialiserIn init es → IsInitialiserIn init all) → AllListed es all
all_listed [] all h = tt
all_listed (e ∷ es) all h = (one_listed e es all h, all_listed es all (λ init there. h init (There there)))

pub every_listed : (all : List External) → AllListed all all
every_listed all = all_listed all all (λ init h. h)
