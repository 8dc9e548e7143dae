-- What is done with the image of a text is what is done with that of all that is made of it, and it is right for the text.
use Rattle.std.proofs.Common.{ℕ, List, inr, Option, sym, subst}
use Rattle.bk_io.specs.Shelf.{Shelf}
use Rattle.alpha_isa.specs.Program.{Program}
use Rattle.bk_io.specs.Outside.{Traffic}
use Rattle.call_outcomes.specs.declared.outcome.Outcome.{Outcome}
use Rattle.call_outcomes.specs.FromFile.{file_bytes}
use Rattle.call_words.specs.declared.compile_options.Allocator.{Allocator}
use Rattle.call_words.specs.declared.compile_options.MachineLimits.{MachineLimits}
use Rattle.call_images.specs.RunImage.{RunsImage}
use Rattle.call_images.specs.WriteImage.{WritesImage}
use Rattle.compiler.specs.Correct.{IsCorrectImage}
use Rattle.compile_calls.specs.Compile.{HasCorrectImage}
use Rattle.compile_calls.specs.Build.{Builds, BuildsMade}
use Rattle.compile_calls.specs.Run.{Runs, RunsMade}
use Rattle.compile_calls.specs.Images.{IsImageOfShortText}
use Rattle.compile_calls.specs.model.Images.{HasFileImage}
use Rattle.compile_calls.proofs.Told.{IsReadOf, built_told}

pub image_told : (told : Option Shelf) (name text : List ℕ) (allocator : Allocator) (image : Program) → IsReadOf told name text → IsImageOfShortText text allocator image → HasFileImage (file_bytes told name) allocator image
image_told told name text allocator image front is = record {
  built = is.is.built;
  has = built_told told name text allocator is.is.built front
      (record { low = is.low; correct = subst (IsCorrectImage text) is.is.is_its_image is.correct; made = is.is.made });
  is_its_image = is.is.is_its_image;
}

pub correct_image : (told : Option (List ℕ)) (allocator : Allocator) (image : Program) → HasFileImage told allocator image → HasCorrectImage told image
correct_image told allocator image h = record {
  text = h.has.text;
  is_told = h.has.is_told;
  low = h.has.is_built.low;
  correct = subst (IsCorrectImage h.has.text) (sym h.is_its_image) h.has.is_built.correct;
}

pub builds : (told : Option (List ℕ)) (allocator : Allocator) (image : Program) (answer : Outcome) (before after : Option (List ℕ)) → HasFileImage told allocator image → WritesImage image answer before after → Builds told answer before after
builds told allocator image answer before after h w = inr (image, correct_image told allocator image h, w)

pub builds_made : (told : Option (List ℕ)) (allocator : Allocator) (image : Program) (answer : Outcome) (before after : Option (List ℕ)) → HasFileImage told allocator image → WritesImage image answer before after → BuildsMade allocator told answer before after
builds_made told allocator image answer before after h w = inr (h.built, h.has, subst (λ i. WritesImage i answer before after) h.is_its_image w)

pub runs : (limits : MachineLimits) (told : Option (List ℕ)) (allocator : Allocator) (image : Program) (answer : Outcome) (before after : Traffic) → HasFileImage told allocator image → RunsImage limits image answer before after
    → Runs limits told answer before after
runs limits told allocator image answer before after h w = inr (image, correct_image told allocator image h, w)

pub runs_made : (limits : MachineLimits) (told : Option (List ℕ)) (allocator : Allocator) (image : Program) (answer : Outcome) (before after : Traffic) → HasFileImage told allocator image → RunsImage limits image answer before after
    → RunsMade allocator limits told answer before after
runs_made limits told allocator image answer before after h w = inr (h.built, h.has, subst (λ i. RunsImage limits i answer before after) h.is_its_image w)
