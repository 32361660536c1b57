-- To audit: public contracts cite this.
-- Limits; each is a constant of the program, too.
use Rattle.std.specs.Prelude.{ℕ}

-- the address of the first byte of memory
abbrev pub ram_base : ℕ
ram_base = 0x80000000

-- the most bytes of an image
abbrev pub image_limit : ℕ
image_limit = 16777216

-- the most bytes of a text
abbrev pub text_limit : ℕ
text_limit = 16777216

-- the most bytes of a line
abbrev pub line_limit : ℕ
line_limit = 1024
