-- A text is not refused where it has a unit within the limits.
use Rattle.std.proofs.Common.{◌≡◌, ℕ, List, inl, inr, Option, Some, None, refl, sym, ap, ◌∙◌, subst, arith}
use Rattle.c_tree.specs.declared.declarations.TranslationUnit.{TranslationUnit}
use Rattle.c_typing_faults.specs.declared.faults.Fault.{Fault}
use Rattle.c_typing_faults.specs.declared.faults.Kind.{Kind}
use Rattle.c_parser.specs.declared.fault.ParseFault.{ParseFault}
use Rattle.c_parser.specs.declared.fault.ParseFault.TheVariants as parse
use Rattle.c_parser.specs.Reading.{IsRead, IsNotRead}
use Rattle.c_typed_tree.specs.declared.units.TypedUnit.{TypedUnit}
use Rattle.c_typed_tree.specs.Weight.{unit_weight}
use Rattle.c_typed_tree.specs.Rooms.{data_size}
use Rattle.call_outcomes.specs.declared.outcome.Outcome.TheVariants as outcome
use Rattle.call_outcomes.specs.declared.outcome.SourceFault.{SourceFault}
use Rattle.call_outcomes.specs.declared.outcome.SourceFault.TheVariants.{Lex, Syntax, Typing}
use Rattle.call_outcomes.specs.declared.outcome.Which.{Which}
use Rattle.call_outcomes.specs.declared.outcome.Which.TheVariants.{Text, Nesting, Weight, Data}
use Rattle.compile_calls.specs.CompileFault.TheVariants.{Source}
use Rattle.compile_calls.specs.Units.{IsUnitOf, HasTypingFault, HasNoUnit}
use Rattle.compile_calls.specs.Compile.{MakesNothing}
use Rattle.compile_calls.proofs.Units.{OneTree, one_unit}
use Rattle.compile_call_laws.specs.Laws.{HasUnit, TextsWithAUnitAreNotRefused}

-- the law of readings that are refused
abbrev pub ReadOrRefused : Type 0
ReadOrRefused = (text : List ℕ) (x : TranslationUnit) (fault : ParseFault) → IsRead text x → IsNotRead text fault → fault ≡ parse.NoMemory

module _ (one_tree : OneTree) (read_or_refused : ReadOrRefused) where
  well_typed : (text : List ℕ) (tree : TranslationUnit) (unit : TypedUnit) (at : ℕ) (k : Kind) → IsUnitOf text tree unit → HasTypingFault text at k → ⊥
  well_typed text tree unit at k is fault =
      let trees : tree ≡ fault.tree = one_tree text tree fault.tree is.read fault.read in
      let same : IsUnitOf text fault.tree unit = subst (λ x. IsUnitOf text x unit) trees is in
      let clash : ◌≡◌ {A = Option Fault} None (Some (record { at = at; kind = k })) = sym same.typed.0 ∙ fault.first in
      cc

  no_source : (text : List ℕ) (tree : TranslationUnit) (unit : TypedUnit) (source : SourceFault) → IsUnitOf text tree unit → HasNoUnit text (Source source) → ⊥
  no_source text tree unit (Lex at) is n = let e : parse.Lex at ≡ parse.NoMemory = read_or_refused text tree (parse.Lex at) is.read n in cc
  no_source text tree unit (Syntax at) is n = let e : parse.Syntax at ≡ parse.NoMemory = read_or_refused text tree (parse.Syntax at) is.read n in cc
  no_source text tree unit (Typing at k) is n = well_typed text tree unit at k is n

  no_limit : (text : List ℕ) (unit : TypedUnit) (which : Which) (counted : ℕ) → HasUnit text unit → MakesNothing text (outcome.Limit which counted) → ⊥
  no_limit text unit Text counted has n = let high = n.0 in omega (arith, has.low, high)
  no_limit text unit Nesting counted has n =
      let e : parse.Nesting counted ≡ parse.NoMemory = read_or_refused text has.tree (parse.Nesting counted) has.is_unit.is_unit.read (n.1.0, n.1.1) in cc
  no_limit text unit Weight counted has n =
      let heavy = n.1 in
      let same : heavy.unit.unit ≡ unit = one_unit one_tree text heavy.tree has.tree heavy.unit.unit unit heavy.is_unit has.is_unit.is_unit in
      omega (arith, ap unit_weight same, heavy.heavy, has.is_unit.light)
  no_limit text unit Data counted has n =
      let large = n.1 in
      let same : large.unit.unit ≡ unit = one_unit one_tree text large.tree has.tree large.unit.unit unit large.is_unit has.is_unit.is_unit in
      omega (arith, ap data_size same, large.large, has.is_unit.small)

  pub not_refused : TextsWithAUnitAreNotRefused
  not_refused text unit outcome.FileFault has why = inl refl
  not_refused text unit outcome.NoMemory has (inl short) = inr (refl, inl short)
  not_refused text unit outcome.NoMemory has (inr high) = inr (refl, inr high.1)
  not_refused text unit (outcome.Refused source) has why = absurd (no_source text has.tree unit source has.is_unit.is_unit why.1)
  not_refused text unit (outcome.Limit which counted) has why = absurd (no_limit text unit which counted has why)
  not_refused text unit _ has why = absurd why
