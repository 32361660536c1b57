-- The entries that match addresses, with their spans, and the decision by them: what the code keeps beside
-- the registers.
-- Not to audit: private contracts alone cite this.
use Rattle.std.specs.Prelude.{◌≡◌, ℕ, ◌&&◌, if◌then◌else◌, Bool, true, false, IsTrue, Option, Some, None, List, [], ◌∷◌, All}
use Rattle.std.specs.List.{list_any}
use Rattle.rv_pmp.specs.declared.entry.Entry.{Entry}
use Rattle.rv_pmp.specs.declared.entry.Matching.{Matching}
use Rattle.rv_pmp.specs.declared.entry.Matching.TheVariants.{Off, Tor, Na4, Napot}
use Rattle.rv_pmp.specs.declared.active_entries.ActiveEntry.{ActiveEntry}
use Rattle.rv_pmp.specs.declared.permission_cache.PermissionCache.{PermissionCache}
use Rattle.rv_pmp.specs.declared.access.Access.{Access}
use Rattle.rv_pmp.specs.declared.mode.Mode.{Mode}
use Rattle.rv_pmp.specs.Entry.{permits}
use Rattle.rv_pmp.specs.Support.Span.{holds, meets, span_of}
use Rattle.rv_pmp.specs.Support.PermissionCache.{AreKept}

-- whether an entry matches addresses
abbrev pub is_matching : Matching → Bool
is_matching Off = false
is_matching Tor = true
is_matching Na4 = true
is_matching Napot = true

-- whether any entry matches addresses, and whether any is locked
abbrev pub some_on : List Entry → Bool
some_on entries = list_any (λ entry. is_matching entry.matching) entries

abbrev pub some_locked : List Entry → Bool
some_locked entries = list_any (λ entry. entry.locked) entries

-- an entry with its span, where `lower` is the address register of the entry before
abbrev pub active_of : ℕ → Entry → ActiveEntry
active_of lower entry = record { entry = entry; span = span_of lower entry }

-- the entries that match addresses, in their order
unfoldable pub actives_from : ℕ → List Entry → List ActiveEntry
actives_from lower [] = []
actives_from lower (entry ∷ entries) =
    if is_matching entry.matching then active_of lower entry ∷ actives_from entry.address entries
    else actives_from entry.address entries

-- every entry that permits stores permits loads
abbrev pub AllReadable : List Entry → Type 0
AllReadable entries = All (λ entry. IsTrue entry.writable → IsTrue entry.readable) entries

-- the values that are kept beside the entries are those that the entries give
pub record IsConsistent (entries : List Entry) (actives : List ActiveEntry) (any_on any_locked : Bool)
    (permissions : PermissionCache) : Type 0 where
  pub regions : actives ≡ actives_from 0 entries
  pub on : any_on ≡ some_on entries
  pub locked : any_locked ≡ some_locked entries
  pub readable : AllReadable entries
  pub kept : AreKept (record { entries = entries }) permissions

-- ---- the decision by spans

-- whether an entry grants the bytes from `first` up to but not including `end`, if it has any of them
abbrev pub entry_answer : Mode → Access → ℕ → ℕ → ActiveEntry → Option Bool
entry_answer mode access first end active =
    if meets active.span first end
    then Some (holds active.span first end && permits active.entry mode access)
    else None

-- the answer of the first entry that has one
unfoldable pub decision : Mode → Access → ℕ → ℕ → List ActiveEntry → Option Bool
decision mode access first end [] = None
decision mode access first end (active ∷ actives) =
    if meets active.span first end
    then Some (holds active.span first end && permits active.entry mode access)
    else decision mode access first end actives
