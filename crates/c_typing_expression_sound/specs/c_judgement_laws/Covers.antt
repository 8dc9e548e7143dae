-- What a context has to have for the names in scope and for what was noted, so that what is judged is well typed
-- there.
use Rattle.std.specs.Prelude.{◌≡◌, ℕ, ◌+◌, nat_le, Bool, true, IsTrue, IsFalse, List, [], ◌∷◌, length, All, slice_get, is_some, Option, Some, None, IfSome}
use Rattle.bk_arithmetic.specs.declared.integer_type.IntegerType.TheVariants.{Int}
use Rattle.bk_arithmetic.specs.Words.{is_word}
use Rattle.c_typed_tree.specs.declared.types.CType.{CType}
use Rattle.c_typed_tree.specs.declared.types.StructDef.{StructDef}
use Rattle.c_typed_tree.specs.Types as t
use Rattle.c_typed_tree.specs.Types.{PlainType}
use Rattle.c_typed_tree.specs.View.{type_view}
use Rattle.c_typed_tree.specs.Constants.{is_integer}
use Rattle.c_typed_tree.specs.Typing.{Context, is_fit, has_local_type, has_global_type, depth_behind, most_depth}
use Rattle.c_typed_tree.specs.Lawful.{IsLawfulStruct}
use Rattle.c_typing_rules.specs.declared.typed.TypedExpression.{TypedExpression}
use Rattle.c_typing_primary_rules.specs.Primary.{text_type}
use Rattle.c_typing_state.specs.declared.env.Env.{Env}
use Rattle.c_typing_state.specs.declared.meanings.NameMeaning.{NameMeaning}
use Rattle.c_typing_state.specs.declared.meanings.NameMeaning.TheVariants as m
use Rattle.c_typing_scopes.specs.Names.{Entry}
use Rattle.c_typing_state.specs.declared.meanings.Tag.{Tag}
use Rattle.c_typing_state.specs.declared.meanings.Tag.TheVariants as g
use Rattle.c_typing_state.specs.declared.meanings.UntaggedStruct.{UntaggedStruct}
use Rattle.c_typing_state.specs.declared.notes.Notes.{Notes}
use Rattle.c_typing_state.specs.Scopes.{meaning_of}
use Rattle.c_typing_expression_sound.specs.c_type_laws.Typed.{may_be_memory, IsTypedIn, IsFunctionOf, AreKnown}

-- ---- names

-- each integer type in a type is one of C's
abbrev pub is_whole : PlainType → Bool
is_whole t.Void = true
is_whole (t.Int bytes signed) = is_integer (t.Int bytes signed)
is_whole (t.Pointer target) = is_whole target
is_whole (t.Array element length) = is_whole element
is_whole (t.Struct number) = true

-- a type of objects that have a place
pub record IsPlaceType (c : Context) (ty : CType) : Type 0 where
  pub fit : IsTrue (is_fit c.structs (type_view ty))
  pub depth : IsTrue (nat_le (depth_behind (type_view ty)) most_depth)

pub record IsLocalOf (c : Context) (number : ℕ) (ty : CType) : Type 0 where
  pub named : IsTrue (has_local_type (slice_get c.locals number) (type_view ty))
  pub type : IsPlaceType c ty

pub record IsObjectOfType (c : Context) (number : ℕ) (ty : CType) : Type 0 where
  pub named : IsTrue (has_global_type c.structs (slice_get c.globals number) (type_view ty))
  pub type : IsPlaceType c ty

-- a name means what is there
abbrev pub IsMeaningIn : Context → NameMeaning → Type 0
IsMeaningIn c m.Faulty = Unit {0}
IsMeaningIn c (m.Undefined number) = Unit {0}
IsMeaningIn c (m.Local number ty) = IsLocalOf c number ty
IsMeaningIn c (m.Object number ty) = IsObjectOfType c number ty
IsMeaningIn c (m.Constant word) = IsTrue (is_word Int word)
IsMeaningIn c (m.Function callee result parameters) = IsFunctionOf c callee result parameters
IsMeaningIn c (m.Typedef ty) = Unit {0}

abbrev pub IsNameIn : Context → Option NameMeaning → Type 0
IsNameIn c None = Unit {0}
IsNameIn c (Some meaning) = IsMeaningIn c meaning

abbrev pub HasNames : Context → Env → Type 0
HasNames c env = (name : List ℕ) → IsNameIn c (meaning_of env name)

-- ---- what was noted

-- the structs that are complete are those of the context; of another one no member is known
pub record HasStructs (c : Context) (structs : List StructDef) : Type 0 where
  pub complete : AreKnown structs c.structs
  pub members : (number : ℕ) (d : StructDef) → slice_get structs number ≡ Some d → IsFalse d.complete → d.members ≡ []

-- each local of these that is there is in memory
abbrev pub AreInMemory : Context → List ℕ → Type 0
AreInMemory c [] = Unit {0}
AreInMemory c (number ∷ rest) = IsTrue (may_be_memory (slice_get c.locals number)) × AreInMemory c rest

-- an object of so many bytes, as a string literal is
abbrev pub IsTextObject : Context → (number length : ℕ) → Type 0
IsTextObject c number size =
    IsTrue (has_global_type c.structs (slice_get c.globals number) (type_view (text_type size)))

-- the texts are objects, from a number on
abbrev pub HaveTexts : Context → (number : ℕ) → List (List ℕ) → Type 0
HaveTexts c number [] = Unit {0}
HaveTexts c number (text ∷ rest) = IsTextObject c number (length text) × HaveTexts c (1 + number) rest

-- the locals whose address is taken are in memory, and each text is an object
pub record HasTaken (c : Context) (addressed : List ℕ) (first_text : ℕ) (texts : List (List ℕ)) : Type 0 where
  pub locals : AreInMemory c addressed
  pub objects : HaveTexts c first_text texts

-- the struct of a tag is there
abbrev pub IsTagIn : Context → Tag → Type 0
IsTagIn c (g.Struct number) = IsTrue (is_some (slice_get c.structs number))
IsTagIn c g.Enum = Unit {0}

abbrev pub AreTagsIn : Context → List (Entry Tag) → Type 0
AreTagsIn c [] = Unit {0}
AreTagsIn c (tag ∷ rest) = IsTagIn c tag.value × AreTagsIn c rest

abbrev pub IsUntaggedIn : Context → Option UntaggedStruct → Type 0
IsUntaggedIn c None = Unit {0}
IsUntaggedIn c (Some last) = IsTrue (is_some (slice_get c.structs last.number))

-- the structs of the notes, and those that tags mean, are there
pub record HasNoted (c : Context) (structs : List StructDef) (tags : List (Entry Tag))
    (untagged : Option UntaggedStruct) : Type 0 where
  pub structs_known : HasStructs c structs
  pub tags_known : AreTagsIn c tags
  pub untagged_known : IsUntaggedIn c untagged

abbrev pub Knows : Context → Notes → Type 0
Knows c n = HasNoted c n.structs n.tags n.untagged

abbrev pub Takes : Context → Notes → Type 0
Takes c n = HasTaken c n.addressed n.first_text n.texts

abbrev pub IsLawfulContext : Context → Type 0
IsLawfulContext c = All (IsLawfulStruct c.structs) c.structs

-- ---- what is found

-- an expression is well typed where what was taken is there; its type is one in any case, as under `sizeof`
pub record IsJudged (c : Context) (taken : Type 0) (a : TypedExpression) : Type 0 where
  pub whole : IsTrue (is_whole (type_view a.ty))
  pub typed : taken → IsTypedIn c a

abbrev pub AreJudged : Context → Type 0 → List TypedExpression → Type 0
AreJudged c taken [] = Unit {0}
AreJudged c taken (a ∷ rest) = IsJudged c taken a × AreJudged c taken rest

-- a judgement adds to the notes; and where the names in scope are those of the context, and the context has what was
-- noted in the end, what it finds is so
pub record Judges (c : Context) (names : Type 0) {A : Type 0} (P : Type 0 → A →
    Type 0) (n : Notes) (r : Option A × Notes) : Type 0 where
  pub first : r.1.first_text ≡ n.first_text
  pub knows : Knows c r.1 → Knows c n
  pub takes : Takes c r.1 → Takes c n
  pub found : names → Knows c r.1 → IfSome r.0 (P (Takes c r.1))
