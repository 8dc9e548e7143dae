-- A rule gives what it makes of its operands, or the one fault that they have.
use Rattle.std.specs.Prelude.{◌≡◌, ℕ, Result, Ok, Err}
use Rattle.c_typing_faults.specs.declared.faults.Kind.{Kind}
use Rattle.c_typing_faults.specs.declared.faults.Fault.{Fault}
use Rattle.c_typing_rules.specs.declared.refusal.Refusal.{Refusal}
use Rattle.c_typing_rules.specs.declared.refusal.Refusal.TheVariants as r

abbrev pub Ruling : Type 0 → Type 0
Ruling A = Result A Fault

abbrev pub fault : {A : Type 0} → ℕ → Kind → Ruling A
fault at kind = Err (record { at = at; kind = kind })

abbrev pub refusal : ℕ → Kind → Refusal
refusal at kind = r.Refused (record { at = at; kind = kind })

-- what code answers for a rule, unless memory is short
abbrev pub RuleGives : {A : Type 0} → Ruling A → Result A Refusal → Type 0
RuleGives m (Ok a) = m ≡ Ok a
RuleGives m (Err (r.Refused f)) = m ≡ Err f
RuleGives m (Err r.NoMemory) = Unit {0}
