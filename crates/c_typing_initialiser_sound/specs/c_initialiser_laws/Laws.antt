-- The cells that an initialiser gives to an object of static storage are lawful (C99 6.7.8).
use Rattle.std.specs.Prelude.{◌≡◌, IsTrue, All, IfSome}
use Rattle.c_tree.specs.declared.declarations.Init as i
use Rattle.c_typed_tree.specs.declared.types.CType.{CType}
use Rattle.c_typed_tree.specs.View.{type_view}
use Rattle.c_typed_tree.specs.Layout.{is_object, size_of}
use Rattle.c_typed_tree.specs.Typing.{Context, is_valid_type}
use Rattle.c_typed_tree.specs.Lawful.{IsLawfulStruct}
use Rattle.c_typing_judgements.specs.Texts.{spelling_bytes}
use Rattle.c_typing_judgements.specs.Types.{JudgementState}
use Rattle.c_typing_initialisers.specs.Values.{text_in}
use Rattle.c_typing_initialisers.specs.Initialisers.{object_cells}
use Rattle.c_typing_initialisers.specs.Unfit.{judge_init}
use Rattle.c_typing_expression_sound.specs.c_judgement_laws.Covers.{Knows, Takes, IsLawfulContext}
use Rattle.c_typing_expression_sound.specs.c_expression_laws.Laws.{HasScope}
use Rattle.mem_model.specs.Bytes.{AreBytes}
use Rattle.c_typing_initialiser_sound.specs.c_initial_value_laws.Cells.{AreInitialCells}

-- each text that fills an array holds bytes
unfoldable mutual
  pub HoldsBytes : i.Init → Type 0
  HoldsBytes (i.Value x) = IfSome (text_in x) (λ text. AreBytes (spelling_bytes text.1))
  HoldsBytes (i.List' brace _ items) = HoldBytes items

  pub HoldBytes : {m : _} → i.Row_of-Init m → Type 0
  HoldBytes i.end_of-Init = Unit {0}
  HoldBytes (i.more_of-Init x xs) = HoldsBytes x × HoldBytes xs

-- what is known where an object of a type is initialised: the names in scope, the structs before, and what was noted
-- behind
pub record IsInitialisedIn (c : Context) (ty : CType) (x : i.Init) (s later : JudgementState) : Type 0 where
  pub scope : HasScope c s
  pub lawful : All (IsLawfulStruct s.1.structs) s.1.structs
  pub type : IsTrue (is_valid_type s.1.structs (type_view ty))
  pub object : IsTrue (is_object s.1.structs (type_view ty))
  pub texts : HoldsBytes x
  pub knows : Knows c later.1
  pub takes : Takes c later.1

abbrev pub ObjectIsLawful : Type 0
ObjectIsLawful =
    (c : Context) → IsLawfulContext c → (ty : CType) (x : i.Init) (s : JudgementState) →
    IsInitialisedIn c ty x s (object_cells ty x s).1 →
    IfSome (object_cells ty x s).0 (AreInitialCells c.globals (size_of c.structs (type_view ty)))

-- names in scope stay as they were, and what a context has behind an initialiser, it had before
pub record LeavesState (c : Context) (s later : JudgementState) : Type 0 where
  pub env : later.0 ≡ s.0
  pub first : later.1.first_text ≡ s.1.first_text
  pub knows : Knows c later.1 → Knows c s.1
  pub takes : Takes c later.1 → Takes c s.1

-- also where it initialises nothing
abbrev pub InitialiserLeaves : Type 0
InitialiserLeaves =
    (c : Context) → IsLawfulContext c → (ty : CType) (x : i.Init) (s : JudgementState) →
    LeavesState c s (object_cells ty x s).1 × LeavesState c s (judge_init x s).1
