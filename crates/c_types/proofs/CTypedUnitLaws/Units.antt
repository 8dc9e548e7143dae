-- The typed unit that is made of a unit without faults is well typed.
use Rattle.std.proofs.Common.{◌≡◌, ℕ, zero, suc, ◌<◌, ◌^◌, nat_le, Bool, true, false, IsTrue, List, [], ◌∷◌, length, slice_get, Some, refl, sym, ap, ◌∙◌, subst, leb-true, ltb-true}
use Rattle.std.specs.Prelude.{All}
use Rattle.std.proofs.lemmas.List.Elements.{All-nil, All-cons}
use Rattle.std.specs.List.{list_all}
use Rattle.mem_objects.specs.declared.TheConstants.{MOST_DATA}
use Rattle.mem_objects.specs.Globals.{AreLawful}
use Rattle.c_tree.specs.declared.declarations.TranslationUnit.{TranslationUnit}
use Rattle.c_typing_definitions.specs.declared.names.Definitions.{Definitions}
use Rattle.c_typing_definitions.specs.Definitions.{definitions}
use Rattle.c_typed_tree.specs.declared.units.Local.{Local}
use Rattle.c_typed_tree.specs.declared.units.TypedFn.{TypedFn}
use Rattle.c_typed_tree.specs.declared.units.TypedUnit.{TypedUnit}
use Rattle.c_typed_tree.specs.Lawful.{is_identifier, IsLawfulStruct, IsTypedFn, IsTypedUnit}
use Rattle.c_typing_state.specs.declared.notes.Notes.{Notes}
use Rattle.c_typing_globals.specs.Globals.{globals}
use Rattle.c_typing_struct_bodies.specs.Bodies.{TagScope}
use Rattle.c_typing_declarations.specs.declared.walk.UnitFunction.{UnitFunction}
use Rattle.c_typing_declarations.specs.declared.walk.UnitSoFar.{UnitSoFar}
use Rattle.c_types.specs.c_unit_object_laws.Externals.{externals}
use Rattle.c_types.specs.c_unit_object_laws.Units.{unit_start, end_notes, whole_unit}
use Rattle.c_typing_expression_sound.proofs.CTypeLaws.Truth.{front, back}
use Rattle.c_types.specs.c_unit_object_laws.CNoteLawsSteps.{is_sized}
use Rattle.c_typing_expression_sound.specs.c_judgement_laws.Covers.{HasNames, HaveTexts}
use Rattle.c_types.specs.c_unit_object_laws.Growth.{Grow}
use Rattle.c_types.proofs.CUnitObjectLaws.Growth.{grow_itself}
use Rattle.c_types.proofs.CUnitObjectLaws.CUnitStructLawsUnits.{unit_declared}
use Rattle.c_types.proofs.CObjectCountLaws.Units.{objects_counted}
use Rattle.c_typing_function_sound.proofs.CTypingHeightLaws.CFunctionNameLaws.Names.{unit_names}
use Rattle.c_typing_struct_layout.proofs.CLayoutLaws.Truth.{all_at}
use Rattle.c_typing_initialiser_sound.specs.c_global_laws.Laws.{AreNotedTexts, AreLawfulIn}
use Rattle.c_typing_initialiser_sound.proofs.CGlobalLaws.Lawful.{all_lawful}
use Rattle.c_types.specs.c_unit_object_laws.Walks.{WalkSteps}
use Rattle.c_types.proofs.CUnitObjectLaws.Texts.{stands_itself}
use Rattle.c_types.proofs.CUnitObjectLaws.Units.{start_declared, unit_walk}
use Rattle.c_types.specs.c_unit_object_laws.Meanings.{HasNamedFunctions}
use Rattle.c_types.proofs.CUnitObjectLaws.Names.{none_some, some_same}
use Rattle.c_types.proofs.CUnitObjectLaws.Functions.{start_types, unit_named, unit_main}
use Rattle.c_types.specs.c_unit_object_laws.Meant.{HasObjects}
use Rattle.c_types.proofs.CUnitObjectLaws.Goes.{steps_go}
use Rattle.c_types.proofs.CUnitObjectLaws.Meant.{start_meant, steps_meant}
use Rattle.c_types.proofs.CUnitObjectLaws.Objects.{start_objects, steps_objects}
use Rattle.c_typing_counts.specs.unit_counts.Counts.{has_few_locals, CanBeCounted}
use Rattle.c_types.specs.c_typed_unit_laws.Made.{TypedIsMadeOf, HaveBytes, IsSpelled}
use Rattle.c_types.proofs.CTypedUnitLaws.Contexts.{context_with, names_there, texts_there}
use Rattle.c_types.proofs.CTypedUnitLaws.Mains.{has_main}
use Rattle.c_types.proofs.CTypedUnitLaws.Cells.{LeadsToEnd, steps_cells}
use Rattle.c_types.proofs.CTypedUnitLaws.Bodies.{IsTypedIn, AreTypedIn, steps_bodies}

-- ---- lists

all_from : {A : Type 0} (P : A → Type 0) (xs : List A) → ((k : ℕ) (x : A) → slice_get xs k ≡ Some x → P x) → All P xs
all_from P [] h = All-nil P
all_from P (x ∷ xs) h = All-cons P x xs (h zero x refl) (all_from P xs (λ k. h (suc k)))

typed_at : (typed : TypedUnit) (gs : List UnitFunction) (k : ℕ) (g : UnitFunction) → AreTypedIn typed gs → slice_get gs k ≡ Some g → IsTypedIn typed g
typed_at typed [] k g h e = none_some e
typed_at typed (x ∷ gs) zero g h e = subst (IsTypedIn typed) (some_same e) h.0
typed_at typed (x ∷ gs) (suc k) g h e = typed_at typed gs k g h.1 e

few_locals : (fs : List TypedFn) (k : ℕ) (f : TypedFn) → IsTrue (list_all has_few_locals fs) → slice_get fs k ≡ Some f → length f.locals < 2 ^ 32
few_locals [] k f h e = none_some e
few_locals (x ∷ fs) zero f h e = ltb-true (length f.locals) (2 ^ 32) (subst (λ g. IsTrue (has_few_locals g)) (some_same e) (front (has_few_locals x) (list_all has_few_locals fs) h))
few_locals (x ∷ fs) (suc k) f h e = few_locals fs k f (back (has_few_locals x) (list_all has_few_locals fs) h) e

-- texts of bytes that have a size
all_texts : (texts : List (List ℕ)) → HaveBytes texts → IsTrue (list_all is_sized texts) → AreNotedTexts texts
all_texts [] h k = tt
all_texts (text ∷ texts) h k =
    let own = front (is_sized text) (list_all is_sized texts) k in (
      record {
        bytes = h.0;
        some = leb-true 1 (length text) (front (nat_le 1 (length text)) (nat_le (length text) MOST_DATA) own);
        small = leb-true (length text) MOST_DATA (back (nat_le 1 (length text)) (nat_le (length text) MOST_DATA) own);
      },
      all_texts texts h.1 (back (is_sized text) (list_all is_sized texts) k),
    )

-- ---- what is noted at the end is a fault at most

end_structs : (size : ℕ) (has_main : Bool) (n : Notes) → (end_notes size has_main n).structs ≡ n.structs
end_structs size true n = refl
end_structs size false n = refl

end_texts : (size : ℕ) (has_main : Bool) (n : Notes) → (end_notes size has_main n).texts ≡ n.texts
end_texts size true n = refl
end_texts size false n = refl

-- ---- whole units

module _ (unit : TranslationUnit) (typed : TypedUnit) (clean : (whole_unit unit).1.1.1.faults ≡ []) (made : TypedIsMadeOf (whole_unit unit) typed) (spelled : IsSpelled unit) (counted : CanBeCounted typed) where
  abbrev ds : Definitions
  ds = definitions unit.externals

  abbrev behind : UnitSoFar × TagScope
  behind = externals ds unit.externals (unit_start ds)

  walk : WalkSteps ds unit.externals ((unit_start ds).0, (unit_start ds).1.1) (behind.0, behind.1.1)
  walk = unit_walk unit clean

  same_structs : (whole_unit unit).1.1.1.structs ≡ behind.1.1.1.structs
  same_structs = end_structs unit.length behind.0.has_main behind.1.1.1

  same_texts : (whole_unit unit).1.1.1.texts ≡ behind.1.1.1.texts
  same_texts = end_texts unit.length behind.0.has_main behind.1.1.1

  -- behind the last declaration
  made_behind : TypedIsMadeOf behind typed
  made_behind = record {
    structs = made.structs ∙ same_structs;
    globals = made.globals ∙ (ap (λ d. globals d behind.0.objects (whole_unit unit).1.1.1.texts) same_structs ∙ ap (λ t. globals behind.1.1.1.structs behind.0.objects t) same_texts);
    functions = made.functions;
    count = made.count;
  }

  lawful : All (IsLawfulStruct typed.structs) typed.structs
  lawful = subst (λ d. All (IsLawfulStruct d) d) (sym made.structs) (unit_declared unit).noted.structs

  named : HasNamedFunctions behind.0 behind.1.1.0
  named = unit_named unit clean

  objects : HasObjects behind.0 behind.1.1.0
  objects = steps_objects ds walk (start_objects ds)

  grown : Grow behind.1.1.1.structs typed.structs
  grown = subst (λ d. Grow behind.1.1.1.structs d) (sym made_behind.structs) (grow_itself behind.1.1.1.structs)

  names : (locals : List Local) → HasNames (context_with typed locals) behind.1.1.0
  names locals = names_there behind typed made_behind locals named objects (steps_meant ds typed.structs walk grown (start_meant ds typed.structs))

  -- texts have their numbers behind those of the objects
  first_is : length behind.0.objects ≡ behind.1.1.1.first_text
  first_is = objects.count ∙ (objects_counted unit clean ∙ sym (steps_go ds walk).first)

  texts_are : AreNotedTexts behind.1.1.1.texts
  texts_are = all_texts behind.1.1.1.texts (subst HaveBytes same_texts spelled.texts) ((steps_go ds walk).sized refl)

  texts : (locals : List Local) → HaveTexts (context_with typed locals) behind.1.1.1.first_text behind.1.1.1.texts
  texts locals = subst (λ n. HaveTexts (context_with typed locals) n behind.1.1.1.texts) first_is (texts_there behind typed made_behind locals texts_are)

  ends : LeadsToEnd typed.structs behind.1.1 behind.1.1
  ends = record { keeps = λ q x e. e; grow = grown; texts = stands_itself behind.1.1.1.texts; first = refl }

  cells : AreLawfulIn typed.structs typed.globals behind.0.objects
  cells = steps_cells ds unit.externals typed behind.1.1 lawful (names []) (texts []) spelled.initialisers walk (start_declared ds) (start_types ds) (start_objects ds) ends tt

  bodies : AreTypedIn typed behind.0.functions
  bodies = steps_bodies ds unit.externals typed behind.1.1 lawful names texts walk (start_declared ds) ends tt

  function_typed : (k : ℕ) (f : TypedFn) → slice_get typed.functions k ≡ Some f → IsTypedFn typed f
  function_typed k f e =
      let kept = made.functions k f e in
      let g : UnitFunction = record { number = k; function = f } in
      let name = all_at (λ (g : UnitFunction). IsTrue (is_identifier g.function.name)) behind.0.functions kept.place g (unit_names is_identifier unit spelled.names) kept.there in
      typed_at typed behind.0.functions kept.place (record { number = k; function = f }) bodies kept.there name (few_locals typed.functions k f counted.locals e)

  same_globals : globals typed.structs behind.0.objects behind.1.1.1.texts ≡ typed.globals
  same_globals = ap (λ d. globals d behind.0.objects behind.1.1.1.texts) made_behind.structs ∙ sym made_behind.globals

  globals_lawful : AreLawful typed.globals
  globals_lawful =
      subst AreLawful same_globals (all_lawful typed.structs behind.0.objects behind.1.1.1.texts lawful
      (subst (λ all. AreLawfulIn typed.structs all behind.0.objects) (sym same_globals) cells) texts_are (subst (λ (all : _). length all < 2 ^ 32) (sym same_globals) counted.globals))

  pub unit_typed : IsTypedUnit typed
  unit_typed = record {
    structs = lawful;
    globals = globals_lawful;
    functions = all_from (IsTypedFn typed) typed.functions function_typed;
    main = has_main behind typed made_behind named (unit_main unit clean) (λ k f e. (function_typed k f e).params);
  }
