-- What is read of an image.
use Rattle.std.specs.Prelude.{ℕ, ◌+◌}
use Rattle.alpha_image.specs.Limits.{most_image}

-- how many bytes are read of an image: one more than it may have
abbrev pub image_limit : ℕ
image_limit = most_image + 1
