use Rattle.std.proofs.Common.{◌≡◌, List, [], sym, ap, ◌∙◌, subst}
use Rattle.std.specs.Prelude.{All}
use Rattle.temp_ir.specs.Programs.{TempFn}
use Rattle.alloc_model.specs.declared.allocation.TempPlace.{TempPlace}
use Rattle.alloc_model.specs.Temporaries.{code_of}
use Rattle.alloc_model.specs.Faithful.{Faithful}
use Rattle.alloc_rules.specs.Lean.{IsLean}
use Rattle.alloc_rules.specs.Journal.{IsJournal}
use Rattle.alloc_plain_lists.specs.Plain.{plain_plan}
use Rattle.alloc_plain.proofs.allocation.plain.Goals as goal

pub returns : goal.returns
returns c =
    let f = c.args.f.now in
    let lists = c.in_ok-lists.ensures in
    let kept = c.with_journal.ensures in
    let plan = kept.plan ∙ lists.plan in
    record {
      plain = record {
        allocation = record {
          name = ap (λ (g : TempFn). g.name) kept.func ∙ lists.name;
          params = ap (λ (g : TempFn). g.params) kept.func ∙ lists.params;
          temps = ap (λ (g : TempFn). g.temps) kept.func ∙ lists.temps;
          objects = ap (λ (g : TempFn). g.objects) kept.func ∙ lists.objects;
          blocks = ap (λ (g : TempFn). g.blocks) kept.func ∙ lists.blocks;
          faithful = subst Faithful (sym kept.plan) lists.faithful;
          lean = subst IsLean (sym kept.plan) lists.lean;
          journal = subst (λ p. IsJournal p c.with_journal.result.journal) (sym plan)
              (subst (IsJournal (plain_plan (code_of f) f.params f.temps)) (sym kept.journal) c.in_ok-journal.ensures);
        };
        plan = plan;
      };
      slots = subst (All (λ (named : List TempPlace). named ≡ [])) (sym kept.top) lists.slots;
    }
