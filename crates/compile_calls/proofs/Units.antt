-- A text has one unit at most, so what is right for a text is right for its unit.
use Rattle.std.proofs.Common.{◌≡◌, ℕ, List, Option, Some, IfSome, sym, ◌∙◌, subst}
use Rattle.alpha_isa.specs.Program.{Program}
use Rattle.c_tree.specs.declared.declarations.TranslationUnit.{TranslationUnit}
use Rattle.c_parser.specs.Reading.{IsRead}
use Rattle.c_typed_tree.specs.declared.units.TypedUnit.{TypedUnit}
use Rattle.compiler.specs.Units.{IsUnitOf}
use Rattle.compiler.specs.Correct.{IsCorrectFor}
use Rattle.compile_calls.specs.Compile.{HasCorrectImage}

-- the law of readings
abbrev pub OneTree : Type 0
OneTree = (text : List ℕ) (x y : TranslationUnit) → IsRead text x → IsRead text y → x ≡ y

pub one_unit : OneTree → (text : List ℕ) (s t : TranslationUnit) (u v : TypedUnit) → IsUnitOf text s u → IsUnitOf text t v → u ≡ v
one_unit one_tree text s t u v a b =
    let trees : s ≡ t = one_tree text s t a.read b.read in
    let same : IsUnitOf text t u = subst (λ x. IsUnitOf text x u) trees a in
    let both : ◌≡◌ {A = Option TypedUnit} (Some u) (Some v) = sym same.typed.1 ∙ b.typed.1 in
    cc

pub right_for : OneTree → (told : Option (List ℕ)) (image : Program) (text : List ℕ) (tree : TranslationUnit) (unit : TypedUnit) → told ≡ Some text → IsUnitOf text tree unit → HasCorrectImage told image → IsCorrectFor unit image
right_for one_tree told image text tree unit is_told is_unit has =
    let texts : text ≡ has.text = subst (λ o. IfSome o (λ t. t ≡ has.text)) is_told has.is_told in
    let other : IsUnitOf text has.correct.tree has.correct.unit =
    subst (λ t. IsUnitOf t has.correct.tree has.correct.unit) (sym texts) has.correct.is_unit.is_unit in
    let units : has.correct.unit ≡ unit = one_unit one_tree text has.correct.tree tree has.correct.unit unit other is_unit in
    subst (λ u. IsCorrectFor u image) units has.correct.correct
