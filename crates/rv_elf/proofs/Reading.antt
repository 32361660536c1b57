-- What is read of the bytes that are written.
use Rattle.std.proofs.Common.{rules, ◌≡◌, ℕ, suc, ◌+◌, ◌*◌, ◌-◌, ◌^◌, ◌<◌, List, [], ◌∷◌, ◌++◌, take, drop, length, get_or, refl, arith, append_assoc, append-nil, length-append, drop-cons, Some}
use Rattle.std.proofs.lemmas.Grind.{flat_map-append}
use Rattle.std.proofs.lemmas.Grind.{common_steps}
use Rattle.rv_elf.proofs.Places.{part_fits}
use Rattle.std.proofs.lemmas.Nat.{from_le_bytes-to_le_bytes_2}
use Rattle.std.proofs.lemmas.List.{drop-drop, take-append-drop}
use Rattle.std.proofs.Math.Seq.{drop-append_seam, take-append_seam}
use Rattle.rv_elf.specs.Elf.{half_at, section, Section, sections_from, sections, segments_from, loaded, no_section, image_at}
use Rattle.rv_elf.specs.Support.Written.{section_header, section_headers, bodies, IsSmall, AreSmall, file_of, file_header, program_header, bodies_from, offset_of}

fields_back : (at : ℕ) (s : Section) (rest file : List ℕ) → IsSmall s → at < 2 ^ 32 → length s.contents < 2 ^ 32 →
    section file (section_header at s ++ rest) ≡ record s { contents = take (length s.contents) (drop at file) }
unfolding section_header
fields_back at s rest file h low short = search rules

-- what follows a part of a file
pub after_part : (at : ℕ) (file part more : List ℕ) → drop at file ≡ part ++ more → drop (at + length part) file ≡ more
after_part at file part more is = rw (← drop-drop (length part) at file, is) (drop-append_seam part more)

-- sections whose bytes follow one another
sections_back : (at : ℕ) (ss : List Section) (rest file more : List ℕ) → AreSmall ss →
    at + length (bodies ss) < 2 ^ 32 → drop at file ≡ bodies ss ++ more →
    sections_from (length ss) file (section_headers at ss ++ rest) ≡ ss
unfolding sections_from section_header
sections_back at [] rest file more small low is = refl
sections_back at (s ∷ ss) rest file more small low is =
    let others = sections_back (at + length s.contents) ss rest file more in
    search (rules, append_assoc, length-append, after_part, fields_back, take-append_seam, others)

-- ---- a whole file

-- the file has that many headers behind the two of its own
headers_back : (k : ℕ) (ss : List Section) → length ss < 0xff00 →
    sections (file_of k ss) ≡ sections_from (length ss) (file_of k ss) (drop 84 (file_of k ss))
unfolding file_of file_header
headers_back k ss few = search rules

pub names_back : (k : ℕ) (ss : List Section) → length ss < 0xff00 → half_at (file_of k ss) 50 ≡ length ss - 1
unfolding file_of file_header
names_back k ss few = from_le_bytes-to_le_bytes_2 (length ss - 1) (omega arith)

after_fields : (k : ℕ) (ss : List Section) →
    drop 84 (file_of k ss) ≡ section_headers (bodies_from (length ss)) ss ++ bodies ss
unfolding file_of file_header program_header
after_fields k ss = refl

pub length_headers : (at : ℕ) (ss : List Section) → length (section_headers at ss) ≡ 40 * length ss
unfolding section_header
length_headers at [] = refl
length_headers at (s ∷ ss) = omega (arith, length_headers (at + length s.contents) ss)

bodies_at : (k : ℕ) (ss : List Section) → drop (bodies_from (length ss)) (file_of k ss) ≡ bodies ss
bodies_at k ss = rw (← length_headers (bodies_from (length ss)) ss)
    (after_part 84 (file_of k ss) (section_headers (bodies_from (length ss)) ss) (bodies ss) (after_fields k ss))

pub file_sections : (k : ℕ) (ss : List Section) → AreSmall ss → length ss < 0xff00 →
    bodies_from (length ss) + length (bodies ss) < 2 ^ 32 → sections (file_of k ss) ≡ ss
file_sections k ss small few low =
    let at : drop (bodies_from (length ss)) (file_of k ss) ≡ bodies ss ++ [] = search (rules, bodies_at, append-nil) in
    search (rules, headers_back, after_fields, sections_back)

-- the bytes of a section are where its offset says
part_at : (k : ℕ) (ss : List Section) → k < length ss → take (length (get_or ss k no_section).contents)
    (drop (offset_of k ss) (file_of k ss)) ≡ (get_or ss k no_section).contents
part_at k ss below =
    let parts = flat_map-append (λ (s : Section). s.contents) (take k ss) (drop k ss) in
    let is : bodies ss ≡ bodies (take k ss) ++ ((get_or ss k no_section).contents ++ bodies (drop (suc k) ss)) =
    grind (arith, common_steps, parts, take-append-drop k ss, drop-cons ss k no_section below) in
    search (rules, after_part, bodies_at, take-append_seam)

pub file_loaded : (k : ℕ) (ss : List Section) → k < length ss →
    bodies_from (length ss) + length (bodies ss) < 2 ^ 32 → loaded (file_of k ss) ≡ Some (image_at (get_or ss k no_section).contents)
unfolding loaded segments_from file_of file_header program_header
file_loaded k ss below low = let at = part_at k ss below in search (rules, part_fits)
