-- The text of functions with what is live in them.
use Rattle.std.specs.Prelude.{◌≡◌, ℕ, List, [], ◌∷◌, ◌++◌}
use Rattle.temp_ir.specs.Insns.{reads_of, writes_of, targets_of, flows_on_of}
use Rattle.temp_ir.specs.Programs.{TempFn}
use Rattle.bitvector_flow.specs.declared.flow.Flow.{Flow}
use Rattle.bitvector_flow.specs.Lives.{AreLive}
use Rattle.alloc_rules.specs.declared.scan.Lifetimes.{Lifetimes}
use Rattle.alloc_rules.specs.Scan.{AreLifetimes}
use Rattle.alloc_live_lines.specs.Text.{live_function_text}

-- A text is that of a function with what is live at the ends of its blocks, and with where its temporaries are wanted.
pub record IsLiveText (f : TempFn) (shown : List ℕ) : Type 0 where
  pub live : Flow
  pub are_live : AreLive reads_of writes_of targets_of flows_on_of f.blocks f.temps live.top live.bottom
  pub lives : Lifetimes
  pub are_lifetimes : AreLifetimes f lives
  pub is : shown ≡ live_function_text f.name live.top live.bottom lives.parts

-- so of all functions, one behind the other
abbrev pub AreLiveTexts : List TempFn → List ℕ → Type 0
AreLiveTexts [] shown = shown ≡ []
AreLiveTexts (f ∷ fs) shown =
    (own rest : List ℕ) × IsLiveText f own × AreLiveTexts fs rest × (shown ≡ own ++ rest)
