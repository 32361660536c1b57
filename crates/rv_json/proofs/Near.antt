-- The name of the nearest label, by what a listing says of it.
use Rattle.std.proofs.Common.{◌≡◌, ℕ, ◌-◌, List, Option, Some, None, option_map, refl}

pub name_of : (x : Option (List ℕ × ℕ)) (a : ℕ) (o : Option (List ℕ × ℕ)) → x ≡ option_map (λ l. (l.0, a - l.1)) o → option_map (λ l. l.0) x ≡ option_map (λ l. l.0) o
name_of None a None h = refl
name_of None a (Some y) h = cc
name_of (Some x) a None h = cc
name_of (Some x) a (Some y) h = cc
