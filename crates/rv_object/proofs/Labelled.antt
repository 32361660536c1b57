-- The labels among the symbols of a file, and how many bytes it has.
use Rattle.std.proofs.lemmas.Bool.Decides.{nat_tests}
use Rattle.std.proofs.Common.{rules, ◌≡◌, ◌∙◌, ℕ, ◌+◌, ◌-◌, ◌*◌, ◌^◌, ◌≤◌, List, [], ◌∷◌, ◌++◌, map, drop, length, Some, refl, sym, ap, arith}
use Rattle.std.proofs.lemmas.List.{map-append}
use Rattle.std.proofs.lemmas.Simd.{map-map}
use Rattle.std.specs.Prelude.{Option, codes}
use Rattle.std.specs.Option.{option_map, unwrap_or}
use Rattle.rv_elf.specs.Elf.{contents}
use Rattle.rv_elf.specs.Symbols.{Symbol, named, null_symbol}
use Rattle.rv_elf.specs.Object.{symbols_of}
use Rattle.rv_asm.specs.Lines.{Listed}
use Rattle.rv_elf.specs.Size.{file_size, frames_size, functions_size, info_size, symbols_size}
use Rattle.rv_elf.specs.declared.frames.Function.{Function}
use Rattle.rv_elf.specs.declared.lines.PlacedLine.{PlacedLine}
use Rattle.rv_object.specs.Placed.{all_labels, most_of, name_and_value, names_and_values, placed_from, section_size, size_of, tables_size, texts}

-- ---- labels

-- one more symbol
pub put : (old new : List Symbol) (s : Symbol) → new ≡ old ++ s ∷ [] →
    map name_and_value new ≡ map name_and_value old ++ name_and_value s ∷ []
put old new s is = rw is (map-append name_and_value old (s ∷ []))

each : (ss : List Symbol) → map name_and_value (map named ss) ≡ texts (map name_and_value ss)
each ss = simp map-map

after_first : (ss : List Symbol) (p : List ℕ × ℕ) (ls : List (List ℕ × ℕ)) → map name_and_value ss ≡ p ∷ ls →
    map name_and_value (drop 1 (map named ss)) ≡ texts ls
after_first [] p ls e = cc
after_first (s ∷ ss) p ls e = let rest : map name_and_value ss ≡ ls = cc in each ss ∙ ap texts rest

pub labelled : (file : List ℕ) (symbols : List Symbol) (name : List ℕ) (ls : List (List ℕ × ℕ)) →
    symbols_of file ≡ Some (null_symbol ∷ map named symbols) → map name_and_value symbols ≡ (name, 0) ∷ ls →
    option_map names_and_values (symbols_of file) ≡ Some (texts ls)
labelled file symbols name ls is e = search (rules, arith, nat_tests, after_first)

-- ---- sizes

-- the names of the symbols
names_are : (symbols : List Symbol) (name : List ℕ) (ls : List (List ℕ × ℕ)) →
    map name_and_value symbols ≡ (name, 0) ∷ ls →
    map (λ (s : Symbol). s.name) symbols ≡ name ∷ map (λ (p : List ℕ × ℕ). p.0) ls
names_are symbols name ls is = sym (map-map (λ (p : List ℕ × ℕ). p.0) name_and_value symbols) ∙ rw is refl

sizes_are : (image : List ℕ) (symbols : List Symbol) (lines : List PlacedLine) (name : List ℕ) (l : Listed) →
    image ≡ l.assembly.bytes → map name_and_value symbols ≡ (name, 0) ∷ all_labels l →
    lines ≡ placed_from l 1 (length l.addresses - 1) →
    file_size image (map (λ (s : Symbol). s.name) symbols) lines name ≡ size_of l name
sizes_are image symbols lines name l i s p = search (rules, arith, nat_tests, names_are)

-- the compilation unit has no more for its functions than the table of symbols
functions_few : (ss : List Symbol) → functions_size ss ≤ symbols_size (map (λ (s : Symbol). s.name) ss)
functions_few [] = omega arith
functions_few (s ∷ ss) = search (rules, arith, nat_tests, functions_few ss)

info_few : (symbols : List Symbol) (name folder : List ℕ) (l : Listed) →
    map name_and_value symbols ≡ (name, 0) ∷ all_labels l → info_size name folder symbols
    ≤ 49 + length name + length folder + symbols_size (name ∷ map (λ (p : List ℕ × ℕ). p.0) (all_labels l))
info_few symbols name folder l s = search (rules, arith, nat_tests, names_are, functions_few)

length_of : (o : Option (List ℕ)) (n : ℕ) → option_map length o ≡ Some n → length (unwrap_or o []) ≡ n
length_of o n e = search (rules, arith, nat_tests)

has : (file section name : List ℕ) → contents file name ≡ Some section → section_size file name ≡ length section
has file section name is = ap (λ (o : Option (List ℕ)). length (unwrap_or o [])) is

-- the three tables of a file
tables_have : (file frames macros : List ℕ) (info : ℕ) →
    option_map length (contents file (codes ".debug_info")) ≡ Some info →
    contents file (codes ".debug_frame") ≡ Some frames → contents file (codes ".debug_macro") ≡ Some macros →
    tables_size file ≡ info + length frames + length macros
tables_have file frames macros info i f m = search (rules, arith, nat_tests, length_of, has)

pub size_is : (file image : List ℕ) (symbols : List Symbol) (lines : List PlacedLine) (name folder frames macros : List ℕ)
    (l : Listed) → image ≡ l.assembly.bytes → map name_and_value symbols ≡ (name, 0) ∷ all_labels l →
    lines ≡ placed_from l 1 (length l.addresses - 1) →
    option_map length (contents file (codes ".debug_info")) ≡ Some (info_size name folder symbols) →
    contents file (codes ".debug_frame") ≡ Some frames → contents file (codes ".debug_macro") ≡ Some macros →
    length file ≡ file_size image (map (λ (s : Symbol). s.name) symbols) lines name + info_size name folder symbols
    + length frames + length macros → length file ≡ size_of l name + tables_size file
size_is file image symbols lines name folder frames macros l i s p d f m h =
    search (rules, arith, nat_tests, sizes_are, tables_have)

pub most_is : (file : List ℕ) (symbols : List Symbol) (name folder frames macros : List ℕ) (l : Listed) →
    map name_and_value symbols ≡ (name, 0) ∷ all_labels l →
    option_map length (contents file (codes ".debug_info")) ≡ Some (info_size name folder symbols) →
    contents file (codes ".debug_frame") ≡ Some frames → contents file (codes ".debug_macro") ≡ Some macros →
    length frames ≤ 40 + 48 * length l.assembly.bytes → length macros ≤ 12 + 2 ^ 28 →
    tables_size file ≤ most_of l name folder
most_is file symbols name folder frames macros l s d f m a b =
    let tables = tables_have file frames macros (info_size name folder symbols) d f m in
    let few = info_few symbols name folder l s in
    omega (arith, tables, few, a, b)

pub exceeds : (image : List ℕ) (symbols : List Symbol) (lines : List PlacedLine) (name folder frames macros : List ℕ)
    (l : Listed) → image ≡ l.assembly.bytes → map name_and_value symbols ≡ (name, 0) ∷ all_labels l →
    lines ≡ placed_from l 1 (length l.addresses - 1) → length frames ≤ 40 + 48 * length l.assembly.bytes →
    length macros ≤ 12 + 2 ^ 28 →
    2 ^ 32 ≤ file_size image (map (λ (s : Symbol). s.name) symbols) lines name + info_size name folder symbols
    + length frames + length macros → 2 ^ 32 ≤ size_of l name + most_of l name folder
exceeds image symbols lines name folder frames macros l i s p a b h =
    let size = sizes_are image symbols lines name l i s p in
    let few = info_few symbols name folder l s in
    omega (arith, size, few, h, a, b)

-- ---- frames

pub few : (n m : ℕ) (slice items : List Function) → slice ≡ items → n ≡ frames_size slice → frames_size items ≤ m → n ≤ m
few n m slice items is size h = rw (size, is) h
