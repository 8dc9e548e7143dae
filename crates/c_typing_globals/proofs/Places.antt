-- The objects of a unit lie one behind the other.
use Rattle.std.proofs.Common.{◌≡◌, ℕ, ◌+◌, List, [], ◌∷◌, ◌++◌, refl, sym, ap, subst, ◌∙◌}
use Rattle.mem_objects.specs.declared.DataObject.{DataObject}
use Rattle.mem_objects.specs.Layout.{place_after, ObjectsLieFrom}
use Rattle.c_typed_tree.specs.declared.types.StructDef.{StructDef}
use Rattle.c_typing_globals.specs.declared.objects.UnitObject.{UnitObject}
use Rattle.c_typing_globals.specs.declared.globals.GlobalsSoFar.{GlobalsSoFar}
use Rattle.c_typing_globals.specs.Globals.{global_after, text_at, with_global, with_objects, with_texts, no_globals, globals}

-- from a begin on, up to an end
abbrev pub LieUpTo : (begin : ℕ) → List DataObject → (end : ℕ) → Type 0
LieUpTo begin [] end = begin ≡ end
LieUpTo begin (o ∷ os) end = (o.offset ≡ place_after begin) × LieUpTo (o.offset + o.size) os end

pub one_more : (begin end : ℕ) (os : List DataObject) (o : DataObject)
    → LieUpTo begin os end → o.offset ≡ place_after end → LieUpTo begin (os ++ o ∷ []) (o.offset + o.size)
one_more begin end [] o lies at = (at ∙ ap place_after (sym lies), refl)
one_more begin end (p ∷ os) o lies at = (lies.0, one_more (p.offset + p.size) end os o lies.1 at)

pub lie_from : (begin end : ℕ) (os : List DataObject) → LieUpTo begin os end → ObjectsLieFrom begin os
lie_from begin end [] lies = tt
lie_from begin end (o ∷ os) lies = (lies.0, lie_from (o.offset + o.size) end os lies.1)

pub objects_lie : (ds : List StructDef) (os : List UnitObject) (g : GlobalsSoFar)
    → LieUpTo 0 g.globals g.end → LieUpTo 0 (with_objects ds os g).globals (with_objects ds os g).end
objects_lie ds [] g lies = lies
objects_lie ds (o ∷ os) g lies =
    objects_lie ds os (with_global (global_after ds g.end o) g) (one_more 0 g.end g.globals (global_after ds g.end o) lies refl)

pub texts_lie : (texts : List (List ℕ)) (g : GlobalsSoFar)
    → LieUpTo 0 g.globals g.end → LieUpTo 0 (with_texts texts g).globals (with_texts texts g).end
texts_lie [] g lies = lies
texts_lie (bytes ∷ texts) g lies =
    texts_lie texts (with_global (text_at g.end bytes) g) (one_more 0 g.end g.globals (text_at g.end bytes) lies refl)

pub globals_lie : (ds : List StructDef) (os : List UnitObject) (texts : List (List ℕ)) (r : List DataObject)
    → r ≡ globals ds os texts → ObjectsLieFrom 0 r
globals_lie ds os texts r e =
    subst (λ l. ObjectsLieFrom 0 l) (sym e)
    (lie_from 0 (with_texts texts (with_objects ds os no_globals)).end (globals ds os texts)
    (texts_lie texts (with_objects ds os no_globals) (objects_lie ds os no_globals refl)))
