-- What a line of the data says, and whether it may stand there.
use Rattle.std.specs.Prelude.{◌≡◌, ℕ, ◌-◌, ◌<◌, ◌^◌, min, List, length, Option, Some, None}
use Rattle.std.specs.List.{All}
use Rattle.alpha_items.specs.declared.item.Fix.{Fix}
use Rattle.alpha_items.specs.Assembly.{IsFix}
use Rattle.alpha_lines.specs.Lines.{hex_line, fix_line}
use Rattle.alpha_text.specs.Wrong.{IsBehind}

-- the line has as many bytes as may stand behind so many
abbrev pub HasRow : List ℕ → ℕ → ℕ → List ℕ → Type 0
HasRow line done n row = All (λ b. b < 256) row × (line ≡ hex_line row) × (length row ≡ min 32 (n - done))

abbrev pub IsRow : List ℕ → ℕ → ℕ → Option (List ℕ) → Type 0
IsRow line done n (Some row) = HasRow line done n row
IsRow line done n None = (row : List ℕ) → ¬ (HasRow line done n row)

-- the line is that of a fix that may stand behind these
abbrev pub HasFix : List ℕ → List Fix → ℕ → Fix → Type 0
HasFix line fixes n fix =
    ((fix.at < 2 ^ 32) × (fix.offset < 2 ^ 32)) × (line ≡ fix_line fix) × IsFix n fix × IsBehind fixes fix

abbrev pub IsFixLine : List ℕ → List Fix → ℕ → Option Fix → Type 0
IsFixLine line fixes n (Some fix) = HasFix line fixes n fix
IsFixLine line fixes n None = (fix : Fix) → ¬ (HasFix line fixes n fix)
