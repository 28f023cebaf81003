-- Entries of literals by the numbers of atoms.
use Rattle.std.specs.Prelude.{◌≡◌, ℕ, suc, ◌+◌, ◌<◌, ◌≤◌, ◌^◌, List, [], ◌∷◌, ◌++◌, Option, Some, None, length}
use Rattle.std.specs.Prelude.{slice_get, nat_eq, if◌then◌else◌}
use Rattle.gh_cc.specs.declared.signatures.SignatureEntry.{SignatureEntry}

-- what callers see of `SignatureTable`: how many numbers there are, and the entries in order
pub record Filed : Type 0 where
  pub count : ℕ
  pub entries : List SignatureEntry

-- an entry is added last
abbrev pub with_entry : Filed → ℕ → ℕ → Filed
with_entry f number lit = record f { entries = f.entries ++ (record { number = number; lit = lit }) ∷ [] }

-- the place of the literal of the first entry of a number
abbrev pub find_lit : List SignatureEntry → ℕ → Option ℕ
find_lit [] number = None
find_lit (e ∷ es) number = if nat_eq e.number number then Some e.lit else find_lit es number

-- how many places of a table are free
abbrev pub free_places : List (Option ℕ) → ℕ
free_places [] = 0
free_places (None ∷ xs) = suc (free_places xs)
free_places (Some x ∷ xs) = free_places xs

-- the table has the entries and nothing else, and no number has two
pub record AreSignatures (table : List (Option ℕ)) (entries : List SignatureEntry) (room : ℕ) : Type 0 where
  pub on : (i : ℕ) (e : SignatureEntry) → slice_get entries i ≡ Some e → slice_get table e.number ≡ Some (Some e.lit)
  pub back : (n lit : ℕ) → slice_get table n ≡ Some (Some lit)
      → (i : ℕ) × (slice_get entries i ≡ Some (record { number = n; lit = lit }))
  pub apart : (i : ℕ) (e : SignatureEntry) (j : ℕ) (f : SignatureEntry) → slice_get entries i ≡ Some e
      → slice_get entries j ≡ Some f
      → e.number ≡ f.number → i ≡ j
  pub counted : free_places table + length entries ≡ length table
  pub reserved : length table ≤ room
  pub few : length table < 2 ^ 32
