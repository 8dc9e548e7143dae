-- What each pass gives of one function.
use Rattle.std.proofs.Common.{◌≡◌, ℕ, sym, subst, arith}
use Rattle.std.specs.Prelude.{IsTrue}
use Rattle.pass_core.specs.Functions.{AllInsns}
use Rattle.temp_ir.specs.Insns.{targets_of, with_block, flows_on_of}
use Rattle.temp_ir.specs.Fixed.{is_settled}
use Rattle.temp_ir.specs.Programs.{TempFn, names_what_is_there}
use Rattle.cfg.specs.Walks.{SameWalks}
use Rattle.cfg.specs.Contents.{KeepsBlocks, KeepsBack}
use Rattle.block_pass_laws.specs.back_laws.Bulks.{GrowBySplits}
use Rattle.block_pass_laws.proofs.BackLaws.Names.{names_kept}
use Rattle.block_pass_laws.proofs.BackLaws.Settled.{settled_kept}
use Rattle.block_pass_laws.proofs.BackLaws.Marks.{marks_kept}
use Rattle.block_pass_laws.proofs.ArgumentLaws.Kept.{arguments_kept}
use Rattle.block_passes.specs.model.Walks.{KeepsWalks}

-- what a pass gives whose blocks have the contents of those before
pub record IsPassed (splits : ℕ) (f g : TempFn) : Type 0 where
  pub name : g.name ≡ f.name
  pub params : g.params ≡ f.params
  pub temps : g.temps ≡ f.temps
  pub objects : g.objects ≡ f.objects
  pub contents : KeepsBlocks targets_of with_block flows_on_of f.blocks g.blocks
  pub walks : SameWalks targets_of with_block flows_on_of f.blocks g.blocks
  pub back : KeepsBack targets_of with_block flows_on_of f.blocks g.blocks
  pub sizes : GrowBySplits splits f.blocks g.blocks

pub passed_keeps : (splits : ℕ) (f g : TempFn) → IsPassed splits f g → KeepsWalks splits f g
passed_keeps splits f g p =
    let temps = p.temps in
    record {
      keeps = record {
        name = p.name;
        params = p.params;
        temps = omega (arith, temps);
        objects = p.objects;
        settled = λ h. subst (λ n. IsTrue (is_settled n g.blocks)) (sym p.params) (settled_kept f.params f.blocks g.blocks p.contents h);
        marks = λ h. marks_kept f.blocks g.blocks p.back g.straight h;
        names = λ functions globals h.
            subst (λ os. AllInsns (λ x. IsTrue (names_what_is_there functions globals os x)) g.blocks) (sym p.objects)
            (names_kept functions globals f.objects f.blocks g.blocks p.contents h);
        arguments = arguments_kept f.blocks g.blocks p.contents;
        sizes = p.sizes;
      };
      walks = p.walks;
    }
