-- The tables of a file that are found by the names of its sections.
use Rattle.std.proofs.Common.{◌≡◌, ℕ, List, refl}
use Rattle.rv_elf.specs.Elf.{sections, half_at, contents_in, text}
use Rattle.rv_elf.specs.Support.Sections.{Parts, sections_of, AreFound}

pub are_found : (p : Parts) (count : ℕ) (file : List ℕ) → sections file ≡ sections_of p count → half_at file 50 ≡ 11
    → AreFound p file
unfolding contents_in text
are_found p count file is last = record {
  table = rw (last, is) refl;
  strings = rw (last, is) refl;
  info = rw (last, is) refl;
  lines = rw (last, is) refl;
  frames = rw (last, is) refl;
  macros = rw (last, is) refl;
}
