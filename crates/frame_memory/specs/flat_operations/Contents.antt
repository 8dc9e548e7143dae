-- When a word stands for a content: it stands for the value, or its low bytes for the cells of a bundle.
use Rattle.std.specs.Prelude.{◌≡◌, ℕ, length}
use Rattle.alpha_isa.specs.Arithmetic as isa
use Rattle.alpha_isa.specs.Arithmetic.{OperationEffect, Overflows}
use Rattle.alloc_model.specs.Contents.{Content, Plain, Bundle, ContentAnswer, Gives, TrapsWith, Fails}
use Rattle.frame_memory.specs.Bytes.{low_bytes}
use Rattle.frame_memory.specs.Relation.{Extents, ValueIs, CellsAre}

abbrev pub ContentIs : Extents → Content → (word : ℕ) → Type 0
ContentIs xs (Plain v) w = ValueIs xs v w
ContentIs xs (Bundle cells) w = CellsAre xs cells (low_bytes (length cells) w)

-- what an operation does with words is its answer on contents, where it has one
abbrev pub EffectIs : Extents → ContentAnswer → OperationEffect → Type 0
EffectIs xs (Gives c) (isa.Gives n) = ContentIs xs c n
EffectIs xs (TrapsWith code) Overflows = code ≡ 3
EffectIs xs Fails e = Unit {0}
EffectIs xs _ _ = ⊥
