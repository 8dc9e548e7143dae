-- The block to which a value goes, by the labels with their names and by the sections.
use Rattle.std.proofs.Common.{◌≡◌, ℕ, ◌==◌, Bool, true, false, ◌||◌, List, [], ◌∷◌, Option, Some, None, refl, sym, ap, ◌∙◌}
use Rattle.std.specs.Prelude.{if◌then◌else◌}
use Rattle.c_typed_tree.specs.declared.types.StructDef.{StructDef}
use Rattle.c_typed_tree.specs.declared.units.Local.{Local}
use Rattle.c_typed_tree.specs.declared.statements.TLabel.{TLabel}
use Rattle.c_typed_tree.specs.declared.statements.TLabel.TheVariants.{Case, Default}
use Rattle.c_typed_tree.specs.Statements.{Sections, no_sections, more_sections}
use Rattle.c_semantics.specs.Executes.{is_chosen_label, has_label, target_in}
use Rattle.lowering_code.specs.declared.item.CodeItem.{CodeItem}
use Rattle.lowering_code.specs.Items.{block_total}
use Rattle.lowering_code.specs.Statements.{Target, default_name, stmts_code, sections_code, switch_targets}

-- the name of the first label of a value
abbrev pub case_in : (n : ℕ) → TLabel → (name : ℕ) → Option ℕ → Option ℕ
case_in n (Case word) name rest = if n == word then Some name else rest
case_in n Default name rest = rest

abbrev pub case_of : (n : ℕ) → List Target → Option ℕ
case_of n [] = None
case_of n (t ∷ ts) = case_in n t.label t.name (case_of n ts)

module _ (L : ℕ) (ds : List StructDef) (ls : List Local) (brk con : ℕ) (rest : List CodeItem) where
  -- the name of the section with a label
  abbrev pub section_name : Option ℕ → (otherwise : ℕ) → Sections → ℕ
  section_name target otherwise no_sections = otherwise
  section_name target otherwise (more_sections label ss sections) =
      if is_chosen_label target label then block_total (stmts_code L ds ls brk con ss (sections_code L ds ls brk con sections rest)) else section_name target otherwise sections

  abbrev targets : Sections → List Target
  targets sections = switch_targets L ds ls brk con sections rest

  -- a label of the value is there, and is the section's
  case_found : (n name otherwise : ℕ) (sections : Sections) → case_of n (targets sections) ≡ Some name → (has_label (Some n) sections ≡ true) × (section_name (Some n) otherwise sections ≡ name)
  case_found n name otherwise no_sections e = absurd (cc)
  case_found n name otherwise (more_sections Default ss sections) e = case_found n name otherwise sections e
  case_found n name otherwise (more_sections (Case word) ss sections) e = by_test (n == word) e (λ h. case_found n name otherwise sections h)
    where
      first : ℕ
      first = block_total (stmts_code L ds ls brk con ss (sections_code L ds ls brk con sections rest))

      by_test : (b : Bool) → (if b then Some first else case_of n (targets sections)) ≡ Some name → (case_of n (targets sections) ≡ Some name → (has_label (Some n) sections ≡ true) × (section_name (Some n) otherwise sections ≡ name))
          → ((b || has_label (Some n) sections) ≡ true) × ((if b then first else section_name (Some n) otherwise sections) ≡ name)
      by_test true h behind = (refl, cc)
      by_test false h behind = behind h

  case_missing : (n : ℕ) (sections : Sections) → case_of n (targets sections) ≡ None → has_label (Some n) sections ≡ false
  case_missing n no_sections e = refl
  case_missing n (more_sections Default ss sections) e = case_missing n sections e
  case_missing n (more_sections (Case word) ss sections) e = by_test (n == word) e (λ h. case_missing n sections h)
    where
      first : ℕ
      first = block_total (stmts_code L ds ls brk con ss (sections_code L ds ls brk con sections rest))

      by_test : (b : Bool) → (if b then Some first else case_of n (targets sections)) ≡ None → (case_of n (targets sections) ≡ None → has_label (Some n) sections ≡ false) → (b || has_label (Some n) sections) ≡ false
      by_test true h behind = absurd (cc)
      by_test false h behind = behind h

  pub default_is : (otherwise : ℕ) (sections : Sections) → default_name otherwise (targets sections) ≡ section_name None otherwise sections
  default_is otherwise no_sections = refl
  default_is otherwise (more_sections Default ss sections) = refl
  default_is otherwise (more_sections (Case word) ss sections) = default_is otherwise sections

  pub found_name : (n name otherwise : ℕ) (sections : Sections) → case_of n (targets sections) ≡ Some name → section_name (target_in n sections) otherwise sections ≡ name
  found_name n name otherwise sections e =
      let h = case_found n name otherwise sections e in
      ap (λ b. section_name (if b then Some n else None) otherwise sections) h.0 ∙ h.1

  pub missing_name : (n otherwise : ℕ) (sections : Sections) → case_of n (targets sections) ≡ None → section_name (target_in n sections) otherwise sections ≡ default_name otherwise (targets sections)
  missing_name n otherwise sections e =
      ap (λ b. section_name (if b then Some n else None) otherwise sections) (case_missing n sections e) ∙ sym (default_is otherwise sections)
