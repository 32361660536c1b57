-- Numbers of variable length.
use Rattle.std.proofs.Common.{rules, ◌≡◌, ℕ, zero, suc, ◌+◌, ◌*◌, ◌/◌, ◌%◌, ◌^◌, ◌<◌, ◌≤◌, List, [], ◌∷◌, ◌++◌, sym, arith, append_assoc}
use Rattle.std.proofs.lemmas.Bool.{cases_lt}
use Rattle.std.proofs.lemmas.Bool.Decides.{nat_tests}
use Rattle.rv_elf.specs.Support.LineBytes.{leb_bytes}

pub last : (k limit n : ℕ) → n < limit → leb_bytes (suc k) limit n ≡ n ∷ []
unfolding leb_bytes
last k limit n below = grind (arith, nat_tests)

pub next : (k limit n : ℕ) → limit ≤ n → leb_bytes (suc k) limit n ≡ (n % 128 + 128) ∷ leb_bytes k limit (n / 128)
unfolding leb_bytes
next k limit n above = grind (arith, nat_tests)

-- the numbers that have that many bytes and one more
abbrev pub top : ℕ → ℕ → ℕ
top zero limit = limit
top (suc k) limit = 128 * top k limit

enough : (k limit n : ℕ) → n < top k limit → leb_bytes k limit n ≡ leb_bytes (suc k) limit n
unfolding leb_bytes
enough zero limit n below = sym (last zero limit n below)
enough (suc k) limit n below = search (rules, next, cases_lt, enough k limit (n / 128))

pub leb_one : (limit n : ℕ) → n < limit → leb_bytes 4 limit n ≡ n ∷ []
leb_one limit n below = last 3 limit n below

-- the same after a text
pub leb_after : (text longer : List ℕ) (limit n : ℕ) → limit ≤ n → 64 ≤ limit → n < 2 ^ 32 →
    longer ≡ (text ++ (n % 128 + 128) ∷ []) ++ leb_bytes 4 limit (n / 128) → longer ≡ text ++ leb_bytes 4 limit n
leb_after text longer limit n above low small is = search (rules, append_assoc, next, enough)
