-- An image in a memory of zeros.
use Rattle.std.proofs.Common.{rules, ◌≡◌, ℕ, suc, ◌+◌, ◌-◌, ◌%◌, ◌<◌, ◌≤◌, ◌++◌, List, ◌∷◌, length, take, drop, set, get_or, sym, ap, ◌∙◌, add-one, arith}
use Rattle.rv_ram.specs.Bytes.{put, zeros}
use Rattle.rv_ram.proofs.Put.{put_byte}
use Rattle.rv_ram.proofs.Zeros.{drop_zeros}

pub image_over : (image ram : List ℕ) → ram ≡ zeros (length ram)
    → image ++ drop (length image) ram ≡ image ++ zeros (length ram - length image)
image_over image ram e = search (rules, arith, drop_zeros)

take-set : (image old : List ℕ) (i : ℕ) → i < length image → length image ≤ length old
    → set (take i image ++ drop i old) i (get_or image i 0) ≡ take (suc i) image ++ drop (suc i) old
take-set (x ∷ image) (y ∷ old) (suc i) within fits = search (rules, arith, take-set image old i)
take-set image old i within fits = search (rules, arith)

-- a store of a byte
pub one_byte : (bs : List ℕ) (i v : ℕ) → v < 256 → put bs i 1 v ≡ set bs i v
one_byte bs i v small = let e : v % 256 ≡ v = omega arith in sym (put_byte bs i v) ∙ ap (set bs i) e

-- a memory that has the first bytes of an image has one more after the next one is stored
pub one_more_byte : (image old now new : List ℕ) (i : ℕ) → i < length image → length image ≤ length old
    → now ≡ take i image ++ drop i old → new ≡ set now i (get_or image i 0)
    → new ≡ take (i + 1) image ++ drop (i + 1) old
one_more_byte image old now new i within fits was is = search (rules, arith, take-set, add-one)
